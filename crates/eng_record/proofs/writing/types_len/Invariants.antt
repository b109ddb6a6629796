use Rattle.std.proofs.Common.{◌≡◌, length, take}
use Rattle.std.specs.List.{AllByRecursion}
use Rattle.eng_record.specs.Spelling.{types_spelled, IsSpellableValue}
use Rattle.eng_record.proofs.writing.types_len.Given as goal

abbrev pub invariant-loop-value : goal.invariant-loop-value
invariant-loop-value l = record {
  len : l.len ≡ length (types_spelled (take l.value-index l.row));
  spellable : AllByRecursion IsSpellableValue (take l.value-index l.row);
}
