use Rattle.std.proofs.Common.{◌≡◌, map, take}
use Rattle.eng_key.specs.Values.{value_keys}
use Rattle.eng_value.specs.Collations.{own_keys}
use Rattle.eng_scalar.proofs.applying.keys_of.Given as goal

abbrev pub invariant-loop-value : goal.invariant-loop-value
invariant-loop-value l = l.keys.items ≡ map (value_keys own_keys l.collation) (take l.value-index l.values)
