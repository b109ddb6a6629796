-- What it is that a parser reads a language exactly.
use Rattle.std.specs.Prelude.{◌≡◌, ℕ, ◌≤◌, List, [], ◌∷◌, ◌++◌}
use Rattle.sql_tree.specs.declared.token.Token.{Token}
use Rattle.sql_grammar.specs.declared.counts.Counts.{Counts}
use Rattle.sql_grammar.specs.Marks.{Mark, Marked, marked, plain, Fits, Past, run}
use Rattle.sql_grammar.specs.Rules.{Lang, Parser, Outcome, Done, Stop, Wrong, Over}

-- some derivation begins with these tokens
abbrev pub Begins : {A : Type 0} → (ℕ → Lang A) → List Marked → Type 0
Begins {A} L w = (e : ℕ) × (u : List Marked) × (a : A) × L e (w ++ u) a

-- another rest that begins with the same token
abbrev pub again : List Token → List Token → List Token
again [] x = []
again (t ∷ ts) x = t ∷ x

abbrev pub rest_of : {A : Type 0} → Outcome A → List Token
rest_of (Done a c rest) = rest
rest_of (Stop why rest) = rest

abbrev pub replace : {A : Type 0} → Outcome A → List Token → Outcome A
replace (Done a c rest) x = Done a c (again rest x)
replace (Stop why rest) x = Stop why (again rest x)

-- an outcome that is no limit stays where more may be opened
abbrev pub Covers : {A : Type 0} → Outcome A → ℕ → ℕ → Type 0
Covers (Done a c rest) d e = d ≤ e
Covers (Stop Wrong rest) d e = d ≤ e
Covers (Stop (Over l) rest) d e = e ≡ d

-- `up` of the openings that were left are left after a tree
abbrev pub Means : {A : Type 0} → (ℕ → ℕ) → (ℕ → Lang A) → ℕ → Counts → List Marked → Outcome A → Type 0
Means up L d k w (Done a c rest) = L d w a × (run d k w ≡ Fits (up d) c)
Means up L d k w (Stop Wrong rest) = Begins L w × ((e : ℕ) × (c : Counts) × (run d k w ≡ Fits e c))
Means up L d k w (Stop (Over l) []) = ⊥
Means up L d k w (Stop (Over l) (t ∷ ts)) = (m : Mark) × Begins L (w ++ marked m t ∷ []) × (run d k (w ++ marked m t ∷ []) ≡ Past l (marked m t ∷ []))

pub record Found {A : Type 0} (up : ℕ → ℕ) (P : ℕ → Parser A) (L : ℕ → Lang A) (d : ℕ) (k : Counts) (ts : List Token) (o : Outcome A) : Type 0 where
  pub is : P d k ts ≡ o
  -- the tokens that were taken
  pub w : List Marked
  pub split : ts ≡ plain w ++ rest_of o
  pub means : Means up L d k w o
  -- no token after the next one was looked at
  pub same : (e : ℕ) (x : List Token) → Covers o d e → P e k (plain w ++ again (rest_of o) x) ≡ replace o x

abbrev pub same_level : ℕ → ℕ
same_level d = d

abbrev pub Reads : {A : Type 0} → (ℕ → ℕ) → (ℕ → Parser A) → (ℕ → Lang A) → ℕ → Counts → List Token → Type 0
Reads {A} up P L d k ts = (o : Outcome A) × Found up P L d k ts o
