use Rattle.std.proofs.Common.{◌≡◌, ◌∷◌, take}
use Rattle.eng_value.specs.declared.value.Value.TheVariants.{Integer}
use Rattle.engine.proofs.connection.with_rowid.Given as goal

abbrev pub invariant-loop-value : goal.invariant-loop-value
invariant-loop-value l = l.values.items ≡ Integer l.row.rowid ∷ take l.value-index l.row.values
