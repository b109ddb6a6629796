-- What holds of the parts of a write holds of the whole.
use Rattle.std.proofs.Common.{List, [], ◌∷◌}
use Rattle.std.specs.Bool.{⊤}
use Rattle.eng_value.specs.Causes.{CauseSet}
use Rattle.eng_value.specs.Written.{Written}
use Rattle.sql_meaning.specs.Steps.{Step, Done, Left, Fails, Effect, ◌then◌, each, or_next}

-- what a part makes where it goes on, what holds where its row is left, and what where the statement fails
abbrev pub Gives : {A : Type 0} → (A → Written → Type 0) → (Written → Type 0) → (CauseSet → Written → Type 0) → Step A → Type 0
Gives made left failed (Done a x) = made a x
Gives made left failed (Left x) = left x
Gives made left failed (Fails causes x) = failed causes x

-- no row is left
abbrev pub never : Written → Type 0
never x = ⊥

-- whatever the causes are
abbrev pub anyhow : CauseSet → Written → Type 0
anyhow causes x = ⊤

-- the same with weaker claims
pub gives-weaker : {A : Type 0} (made more : A → Written → Type 0) (left : Written → Type 0) (failed fails : CauseSet → Written → Type 0) (s : Step A)
    → ((a : A) (x : Written) → made a x → more a x) → ((causes : CauseSet) (x : Written) → failed causes x → fails causes x) → Gives made left failed s → Gives more left fails s
gives-weaker made more left failed fails (Done a x) h k g = h a x g
gives-weaker made more left failed fails (Left x) h k g = g
gives-weaker made more left failed fails (Fails causes x) h k g = k causes x g

-- a row that is left does not end the others
pub gives-or_next : (made : Unit {0} → Written → Type 0) (left other : Written → Type 0) (failed : CauseSet → Written → Type 0) (s : Effect)
    → ((x : Written) → left x → made tt x) → Gives made left failed s → Gives made other failed (or_next s)
gives-or_next made left other failed (Done u x) h g = g
gives-or_next made left other failed (Left x) h g = h x g
gives-or_next made left other failed (Fails causes x) h g = g

module _ (left : Written → Type 0) (failed : CauseSet → Written → Type 0) where
  -- one part, and then another
  pub gives-then : {A B : Type 0} (made : A → Written → Type 0) (more : B → Written → Type 0) (s : Step A) (k : A → Written → Step B)
      → Gives made left failed s → ((a : A) (x : Written) → made a x → Gives more left failed (k a x)) → Gives more left failed (s then k)
  gives-then made more (Done a x) k g h = h a x g
  gives-then made more (Left x) k g h = g
  gives-then made more (Fails causes x) k g h = g

  -- what is kept from each to the next
  pub gives-each : {A : Type 0} (kept : Written → Type 0) (f : A → Written → Effect) (xs : List A) (x : Written)
      → ((a : A) (y : Written) → kept y → Gives (λ u z. kept z) left failed (f a y)) → kept x → Gives (λ u z. kept z) left failed (each f xs x)
  gives-each kept f [] x turn k = k
  gives-each kept f (a ∷ xs) x turn k =
      gives-then (λ u z. kept z) (λ u z. kept z) (f a x) (λ u y. each f xs y) (turn a x k) (λ u y held. gives-each kept f xs y turn held)
