use Rattle.std.proofs.Common.{◌≡◌, ◌-◌, drop}
use denote.Text.{Utf8}
use denote.Shadow.{shadow}
use Rattle.std.specs.Str.{chars}
use Rattle.eng_scalar.proofs.text_ends.behind.Given as goal

abbrev pub invariant-loop : goal.invariant-loop
invariant-loop l = shadow (Utf8 l.rest) × (drop (l.n - l.counter) (chars l.rest) ≡ drop l.n (chars l.text))
