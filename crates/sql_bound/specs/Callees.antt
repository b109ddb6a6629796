-- What the name of a call stands for, and whether it may be called so.
use Rattle.std.specs.Prelude.{ℕ, ℤ, pos, negsuc, nat_eq, Bool, true, false, ◌&&◌, ◌||◌, List, Option, Some, None, Ok, Err, if◌then◌else◌, codes}
use Rattle.std.specs.Ordering.{int_eq}
use Rattle.eng_entry.specs.Names.{is_same_name}
use Rattle.eng_value.specs.declared.builtin.Builtin.{Builtin}
use Rattle.eng_value.specs.declared.cause.Cause.TheVariants.{Arity, Misuse}
use Rattle.sql_tree.specs.declared.expr.Arguments.TheVariants as arguments
use Rattle.sql_tree.specs.declared.expr.Arguments.{Arguments}
use Rattle.sql_words.specs.Builtins.{NamedBuiltin, builtin_named, takes}
use Rattle.bound_tree.specs.declared.units.AggregateKind.TheVariants.{Count, CountRows, GroupConcat, HostAggregate, Max, Min, Sum}
use Rattle.bound_tree.specs.declared.units.AggregateKind.{AggregateKind}
use Rattle.sql_bound.specs.Refusals.{Checked}
use Rattle.sql_bound.specs.Scopes.{Facts}
use Rattle.sql_bound.specs.declared.scopes.Standing.TheVariants.{Nowhere, Taken}
use Rattle.sql_bound.specs.declared.scopes.Standing.{Standing}

-- ---- aggregates that are built in

-- an aggregate: its name, its kind, how many arguments it takes, and whether it may be called with `*`
pub record Aggregator : Type 0 where
  pub name : List ℕ
  pub kind : AggregateKind
  pub takes_count : ℕ → Bool
  pub takes_star : Bool

abbrev pub one_of : AggregateKind → List ℕ → Aggregator
one_of k name = record { name = name; kind = k; takes_count = nat_eq 1; takes_star = false }

-- max and min of one argument are aggregates, of more they are functions
abbrev pub is_one : Arguments → ℕ → Bool
is_one arguments.Star given = false
is_one other given = nat_eq given 1

abbrev pub count_by : Arguments → Aggregator
count_by arguments.Star = record (one_of CountRows (codes "count")) { takes_star = true }
count_by other = one_of Count (codes "count")

abbrev pub built_aggregator : List ℕ → Arguments → ℕ → Option Aggregator
built_aggregator name how given =
    if is_same_name name (codes "count") then Some (count_by how) else
    if is_same_name name (codes "sum") then Some (one_of Sum (codes "sum")) else
    if is_same_name name (codes "group_concat") then Some (record (one_of GroupConcat (codes "group_concat")) { takes_count = λ n. nat_eq n 1 || nat_eq n 2 }) else
    if is_same_name name (codes "min") && is_one how given then Some (one_of Min (codes "min")) else
    if is_same_name name (codes "max") && is_one how given then Some (one_of Max (codes "max")) else None

-- ---- any callee: what is built in comes first, then a function of a host, then an aggregate of a host, both by the name as it is written, since hosts do not tell how they declare it

pub data Callee : Type 0 where
  Scalar : List ℕ → Builtin → (ℕ → Bool) → Callee
  HostScalar : List ℕ → (ℕ → Bool) → Callee
  Aggregate : Aggregator → Callee
  Nobody : Callee

-- -1 takes any number
abbrev pub takes_arity : ℤ → ℕ → Bool
takes_arity arity given = int_eq arity (pos given) || int_eq arity (negsuc 0)

abbrev pub host_aggregator : List ℕ → Option ℤ → Callee
host_aggregator name None = Nobody
host_aggregator name (Some arity) = Aggregate (record { name = name; kind = HostAggregate name; takes_count = takes_arity arity; takes_star = false })

abbrev pub host_scalar : Facts → List ℕ → Option (ℤ × Bool) → Callee
host_scalar facts name None = host_aggregator name (facts.aggregate name)
host_scalar facts name (Some f) = HostScalar name (takes_arity f.0)

abbrev pub built_scalar : Facts → List ℕ → Option NamedBuiltin → Callee
built_scalar facts name None = host_scalar facts name (facts.scalar name)
built_scalar facts name (Some b) = Scalar b.name b.function (takes b.count)

abbrev pub aggregate_or : Facts → List ℕ → Option Aggregator → Callee
aggregate_or facts name (Some a) = Aggregate a
aggregate_or facts name None = built_scalar facts name (builtin_named name)

abbrev pub callee_of : Facts → List ℕ → Arguments → ℕ → Callee
callee_of facts name how given = aggregate_or facts name (built_aggregator name how given)

abbrev pub is_aggregate : Callee → Bool
is_aggregate (Aggregate a) = true
is_aggregate other = false

-- ---- whether it may be called so; the number of its arguments comes before the arguments

abbrev pub counted : List ℕ → (ℕ → Bool) → ℕ → Checked (Unit {0})
counted name takes_count given = if takes_count given then Ok tt else Err (Arity name)

-- `*` is no argument of a function, and DISTINCT no word of it
abbrev pub may_call : List ℕ → (ℕ → Bool) → Arguments → ℕ → Checked (Unit {0})
may_call name takes_count arguments.Star given = Err (Arity name)
may_call name takes_count arguments.Distinct given = Err (Misuse name)
may_call name takes_count arguments.All given = counted name takes_count given

-- DISTINCT goes with one argument
abbrev pub aggregates_so : Aggregator → Arguments → ℕ → Checked (Unit {0})
aggregates_so a arguments.Star given = if a.takes_star then Ok tt else Err (Arity a.name)
aggregates_so a arguments.Distinct given = if nat_eq given 1 then counted a.name a.takes_count given else Err (Misuse a.name)
aggregates_so a arguments.All given = counted a.name a.takes_count given

-- where no aggregate may stand that comes first
abbrev pub may_aggregate : Aggregator → Standing → Arguments → ℕ → Checked (Unit {0})
may_aggregate a Nowhere how given = Err (Misuse a.name)
may_aggregate a Taken how given = aggregates_so a how given

-- a FILTER goes with an aggregate alone
abbrev pub without_filter : {A : Type 0} → List ℕ → Option A → Checked (Unit {0})
without_filter name None = Ok tt
without_filter name (Some filter) = Err (Misuse name)

abbrev pub is_distinct : Arguments → Bool
is_distinct arguments.Distinct = true
is_distinct other = false
