use Rattle.std.proofs.Common.{◌≡◌, ◌++◌, take}
use Rattle.std.specs.List.{flat_map}
use Rattle.eng_key.specs.RowKeys.{spelled, turned}
use Rattle.eng_key.proofs.spelling.push_each.Given as goal

abbrev pub invariant-loop-byte : goal.invariant-loop-byte
invariant-loop-byte l = l.key.items ≡ l.fn.key.items ++ flat_map (λ b. turned l.desc (spelled b)) (take l.byte-index l.bytes)
