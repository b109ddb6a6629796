-- The hosts that a program names, and that each of them tells what it means.
use Rattle.std.specs.Prelude.{⊤, List, [], ◌∷◌, All, Option, Some, None, get_or}
use Rattle.eng_value.specs.HostMeanings.{HostMeanings, HostName, Scalar, Aggregate, CollationAt, Module, Tells, no_hosts}
use Rattle.eng_value.specs.declared.collation.Collation.{Collation}
use Rattle.eng_value.specs.declared.collation.Collation.TheVariants as collation
use Rattle.eng_value.specs.declared.operators.BinaryOperator.{BinaryOperator}
use Rattle.eng_value.specs.declared.operators.BinaryOperator.TheVariants as binary
use Rattle.vm_code.specs.declared.op.Op.{Op}
use Rattle.vm_code.specs.declared.op.Op.TheVariants as op
use Rattle.vm_code.specs.declared.program.Program.{Program}
use Rattle.vm_code.specs.declared.program.Unit.{Unit}

abbrev pub host_of : Collation → List HostName
host_of (collation.Built b) = []
host_of (collation.Host place) = CollationAt place ∷ []

-- of the operators, those that compare have a collation
abbrev pub hosts_of_operator : BinaryOperator → List HostName
hosts_of_operator (binary.Compare compare sides) = host_of sides.collation
hosts_of_operator (binary.Is sides) = host_of sides.collation
hosts_of_operator other = []

abbrev pub hosts_named_in : Op → List HostName
hosts_named_in (op.Binary operator left right to) = hosts_of_operator operator
hosts_named_in (op.Function function collation args to) = host_of collation
hosts_named_in other = []

abbrev pub OpIsTold : HostMeanings → Op → Type 0
OpIsTold hosts o = All (Tells hosts) (hosts_named_in o)

abbrev pub UnitIsTold : HostMeanings → Unit → Type 0
UnitIsTold hosts x = All (OpIsTold hosts) x.code

-- a number that got no unit names none
abbrev pub NumberIsTold : HostMeanings → Option Unit → Type 0
NumberIsTold hosts None = ⊤
NumberIsTold hosts (Some x) = UnitIsTold hosts x

-- each host that an instruction of the program names tells what it means
pub record ProgramIsTold (hosts : HostMeanings) (p : Program) : Type 0 where
  pub main : UnitIsTold hosts p.main
  pub units : All (NumberIsTold hosts) p.units

-- ---- where there are no hosts every program is told

names_told : (name : HostName) → Tells no_hosts name
names_told (Scalar name) = tt
names_told (Aggregate name) = tt
names_told (CollationAt place) = tt
names_told (Module name) = tt

ops_told : (o : Op) → OpIsTold no_hosts o
ops_told o k d h = names_told (get_or (hosts_named_in o) k d)

units_told : (x : Unit) → UnitIsTold no_hosts x
units_told x k d h = ops_told (get_or x.code k d)

numbers_told : (x : Option Unit) → NumberIsTold no_hosts x
numbers_told None = tt
numbers_told (Some x) = units_told x

pub told_without_hosts : (p : Program) → ProgramIsTold no_hosts p
told_without_hosts p = record { main = units_told p.main; units = λ k d h. numbers_told (get_or p.units k d) }
