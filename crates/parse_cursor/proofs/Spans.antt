-- Where the last of some tokens ends.
use Rattle.std.proofs.Common.{◌≡◌, ◌-◌, ◌≤◌, length, slice_index_or, List, [], ◌∷◌, refl, arith}
use Rattle.sql_tree.specs.declared.token.Span.{Span}
use Rattle.sql_tree.specs.declared.token.Token.{Token}
use Rattle.sql_grammar.specs.Grammar.{last_end, span_of}

last_is : (t : Token) (ts : List Token) (x : Token) → (slice_index_or (t ∷ ts) (length ts) x).span.end ≡ last_end t ts
last_is t [] x = refl
last_is t (u ∷ ts) x = last_is u ts x

pub span_is : (ts : List Token) (x : Token) → 1 ≤ length ts → ◌≡◌ {A = Span} (record { start = (slice_index_or ts 0 x).span.start; end = (slice_index_or ts (length ts - 1) x).span.end }) (span_of ts)
span_is [] x some = absurd (omega arith)
span_is (t ∷ ts) x some = let n : length (t ∷ ts) - 1 ≡ length ts = omega arith in rw (n, last_is t ts x) refl
