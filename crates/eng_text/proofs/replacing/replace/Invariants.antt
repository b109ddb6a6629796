use Rattle.std.proofs.Common.{◌≡◌, ◌≤◌, ◌++◌, length, string_bytes}
use denote.Shadow.{shadow}
use denote.Text.{Utf8}
use Rattle.eng_text.specs.Texts.{replaced}
use Rattle.eng_text.proofs.replacing.replace.Given as goal

abbrev pub invariant-loop-before : goal.invariant-loop-before
invariant-loop-before l =
    shadow (Utf8 l.rest) × (string_bytes l.made ++ replaced l.old l.new l.rest ≡ replaced l.old l.new l.text) × (length (string_bytes l.made) ≤ l.limit)

abbrev pub decreases-loop-before : goal.decreases-loop-before
decreases-loop-before l = length l.rest
