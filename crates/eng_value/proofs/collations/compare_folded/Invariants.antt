use Rattle.std.proofs.Common.{◌≡◌, length, map, drop}
use Rattle.std.specs.Char.{to_ascii_lowercase}
use Rattle.eng_value.specs.Compare.{bytes_cmp}
use Rattle.eng_value.proofs.collations.compare_folded.Given as goal

abbrev pub invariant-loop-x : goal.invariant-loop-x
invariant-loop-x l =
    bytes_cmp (map to_ascii_lowercase (drop (length l.yielded) l.a)) (map to_ascii_lowercase (drop (length l.yielded) l.b))
    ≡ bytes_cmp (map to_ascii_lowercase l.a) (map to_ascii_lowercase l.b)
