-- What it means that a text of tokens is read whole.
use Rattle.std.specs.Prelude.{◌≡◌, ℕ, List, [], ◌∷◌, ◌++◌}
use Rattle.sql_tree.specs.declared.token.Token.{Token}
use Rattle.sql_grammar.specs.declared.counts.Counts.{Counts}
use Rattle.sql_grammar.specs.declared.counts.Limit.{Limit}
use Rattle.sql_grammar.specs.Marks.{Mark, Marked, marked, plain, Fits, Past, run}
use Rattle.sql_grammar.specs.Rules.{Lang, Outcome, Done, Stop, Wrong, Over}
use Rattle.sql_grammar.specs.Exact.{Begins}

-- A tree of all tokens; or the tokens from the first that cannot stand there, none at the end; or from the one that passes a limit.
pub data Answer (A : Type 0) : Type 0 where
  Tree : A → Answer A
  Syntax : List Token → Answer A
  TooMuch : Limit → List Token → Answer A

abbrev pub whole : {A : Type 0} → Outcome A → Answer A
whole (Done a c []) = Tree a
whole (Done a c (t ∷ ts)) = Syntax (t ∷ ts)
whole (Stop Wrong rest) = Syntax rest
whole (Stop (Over l) rest) = TooMuch l rest

-- within all limits
abbrev pub Within : ℕ → Counts → List Marked → Type 0
Within d k w = (e : ℕ) × (c : Counts) × (run d k w ≡ Fits e c)

-- a tree of these tokens, within all limits
abbrev pub IsTree : {A : Type 0} → (ℕ → Lang A) → ℕ → Counts → List Token → A → Type 0
IsTree L d k ts a = (e : ℕ) × (w : List Marked) × (ts ≡ plain w) × L e w a × Within d k w

-- nothing that is derived is these tokens, or begins with them and the next one
abbrev pub NoneBegins : {A : Type 0} → (ℕ → Lang A) → List Token → List Token → Type 0
NoneBegins {A} L v [] = (e : ℕ) (w : List Marked) (a : A) → plain w ≡ v → L e w a → ⊥
NoneBegins L v (t ∷ rest) = (w : List Marked) → plain w ≡ v ++ t ∷ [] → Begins L w → ⊥

-- The first token that cannot stand there: the tokens before it begin something that is derived, and with it they don't. The end counts as a token.
abbrev pub IsFirstWrong : {A : Type 0} → (ℕ → Lang A) → ℕ → Counts → List Token → List Token → Type 0
IsFirstWrong L d k ts rest = (w : List Marked) × (ts ≡ plain w ++ rest) × Begins L w × Within d k w × NoneBegins L (plain w) rest

-- The tokens up to and with the first of the rest begin something that is derived, and there this one is the first that passes a limit.
abbrev pub IsFirstPast : {A : Type 0} → (ℕ → Lang A) → ℕ → Counts → Limit → List Token → List Token → Type 0
IsFirstPast L d k l ts [] = ⊥
IsFirstPast {A} L d k l ts (t ∷ rest) = (w : List Marked) × (m : Mark) × (ts ≡ plain w ++ t ∷ rest) × Begins L (w ++ marked m t ∷ []) × (run d k (w ++ marked m t ∷ []) ≡ Past l (marked m t ∷ []))

abbrev pub Meets : {A : Type 0} → (ℕ → Lang A) → ℕ → Counts → List Token → Answer A → Type 0
Meets L d k ts (Tree a) = IsTree L d k ts a
Meets L d k ts (Syntax rest) = IsFirstWrong L d k ts rest
Meets L d k ts (TooMuch l rest) = IsFirstPast L d k l ts rest

-- The byte where these tokens begin. The end is one of them, at the text's length.
abbrev pub place : ℕ → List Token → ℕ
place len [] = len
place len (t ∷ ts) = t.span.start
