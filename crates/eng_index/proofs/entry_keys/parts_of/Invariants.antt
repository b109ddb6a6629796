use Rattle.std.proofs.Common.{◌≡◌, map, take}
use Rattle.eng_index.specs.Stored.{term_part}
use Rattle.eng_index.proofs.entry_keys.parts_of.Given as goal

abbrev pub invariant-loop-term : goal.invariant-loop-term
invariant-loop-term l = l.parts.items ≡ map term_part (take l.term-index l.terms)
