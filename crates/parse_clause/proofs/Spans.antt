-- The bytes of tokens behind a front.
use Rattle.std.proofs.Common.{◌≡◌, ◌-◌, ◌<◌, ◌≤◌, arith, length, take, suc, List, [], ◌∷◌, refl}
use Rattle.sql_tree.specs.declared.token.Token.{Token}
use Rattle.sql_grammar.specs.Rules.{before}
use Rattle.sql_tree.specs.declared.token.Span.{Span}
use Rattle.sql_grammar.specs.Grammar.{span_of}
use Rattle.parse_clause.specs.Parts.{longer, from_to}

pub longer_none : (front : Span) (ts rest : List Token) → length ts ≤ length rest → longer front (before ts rest) ≡ front
longer_none front ts rest h = let none : length ts - length rest ≡ 0 = omega arith in rw none (empty ts) where
  empty : (us : List Token) → longer front (take 0 us) ≡ front
  empty [] = refl
  empty (u ∷ us) = refl

pub longer_some : (front : Span) (ts rest : List Token) → length rest < length ts → longer front (before ts rest) ≡ record { start = front.start; end = (span_of (before ts rest)).end }
longer_some front [] rest h = absurd (omega arith)
longer_some front (t ∷ ts) rest h = let more : length (t ∷ ts) - length rest ≡ suc (length ts - length rest) = omega arith in rw more refl

pub ruleset longer_steps = (longer_none, longer_some)

pub span_of_first : (t : Token) (ts : List Token) → span_of (t ∷ ts) ≡ longer t.span ts
span_of_first t [] = refl
span_of_first t (u ∷ ts) = refl

pub span_of_two : (t u : Token) (ts : List Token) → span_of (t ∷ u ∷ ts) ≡ longer (from_to t u) ts
span_of_two t u [] = refl
span_of_two t u (x ∷ ts) = refl
