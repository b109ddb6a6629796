use Rattle.std.proofs.Common.{◌≡◌, ◌<◌, ◌+◌, ℕ, List, Option, Some, None, IfSome, length, arith}
use Rattle.std.specs.Prelude.{slice_index}
use Rattle.std.specs.Str.{IsCharBoundary, IsUtf8}
use Rattle.std.proofs.lemmas.Str.{IsCharBoundary-after_ascii}
use Rattle.sql_shell.proofs.cutting.part_end.Goals as goal

behind_feed : (text : List ℕ) (end : Option ℕ) → IsUtf8 text → IfSome end (λ n. n < length text) → IfSome end (λ n. slice_index text n ≡ 10) → IfSome end (λ n. IsCharBoundary text (n + 1))
behind_feed text None utf8 within feed = tt
behind_feed text (Some n) utf8 within feed = IsCharBoundary-after_ascii text n utf8 within (omega (arith, feed))

pub returns-then-is_line-clause-back : goal.returns-then-is_line-clause-back
returns-then-is_line-clause-back c = behind_feed c.args.text.now c.line_end.result c.utf8.text c.line_end.ensures.within c.line_end.ensures.feed
