-- The functions by what their arguments came to.
use Rattle.std.specs.Prelude.{◌≡◌, Bool, true, false, Option, Some, None, List, [], ◌∷◌, codes, refl}
use Rattle.std.specs.FinSet as set
use Rattle.eng_key.specs.Values.{key_by, value_keys}
use Rattle.eng_value.specs.Applied.{function_by}
use Rattle.eng_value.specs.Causes.{CauseSet}
use Rattle.eng_value.specs.Collations.{own_keys}
use Rattle.eng_value.specs.Functions.{FunctionKind, ByKeys, call_of, kind_of}
use Rattle.eng_value.specs.declared.built.Built.TheVariants as built
use Rattle.eng_value.specs.declared.builtin.Builtin.{Builtin}
use Rattle.eng_value.specs.declared.builtin.Builtin.TheVariants as builtin
use Rattle.eng_value.specs.declared.collation.Collation.{Collation}
use Rattle.eng_value.specs.declared.collation.Collation.TheVariants as collation
use Rattle.eng_value.specs.declared.out.Out.{Out}
use Rattle.eng_value.specs.declared.out.Out.TheVariants.{Good, Bad}
use Rattle.eng_value.specs.declared.value.Value.{Value}
use Rattle.eng_value.specs.declared.value.Value.TheVariants.{Null, Text}

-- by the keys that order values
abbrev pub function_of : Builtin → Collation → List Out → Out
function_of = function_by (value_keys own_keys)

-- whether a function looks at the keys of its arguments
abbrev pub looks_at_keys : FunctionKind → Bool
looks_at_keys (ByKeys f) = true
looks_at_keys other = false

-- what stands in the place of an argument, NULL where it is bad
abbrev pub value_in : Out → Value
value_in (Good v) = v
value_in (Bad causes) = Null

-- the causes of all arguments that are bad
abbrev pub beside_causes : Out → Option CauseSet → Option CauseSet
beside_causes (Good v) found = found
beside_causes (Bad c) None = Some c
beside_causes (Bad c) (Some d) = Some (set.union c d)

abbrev pub bad_in : List Out → Option CauseSet
bad_in [] = None
bad_in (a ∷ rest) = beside_causes a (bad_in rest)

examples : (function_of builtin.Max (collation.Built built.NoCase) (Good (Text (codes "b")) ∷ Good (Text (codes "A")) ∷ []) ≡ Good (Text (codes "b"))) × (function_of builtin.NullIf (collation.Built built.NoCase) (Good (Text (codes "a")) ∷ Good (Text (codes "A")) ∷ []) ≡ Good Null) × (function_of builtin.NullIf (collation.Built built.Binary) (Good (Text (codes "a")) ∷ Good (Text (codes "A")) ∷ []) ≡ Good (Text (codes "a"))) × (function_of builtin.Abs (collation.Built built.Binary) [] ≡ Good Null)
unfolding key_by call_of kind_of
examples = (refl, refl, refl, refl)
