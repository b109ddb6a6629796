-- What is done in turn, from the definitions that put each in front of what comes behind it.
use Rattle.std.proofs.Common.{◌≡◌, List, [], ◌∷◌, ◌++◌, Ok, Err, ap, sym, ◌∙◌, refl}
use Rattle.std.proofs.lemmas.List.{append_assoc}
use Rattle.sql_words.specs.Refusals.{◌>>=◌}
use Rattle.sql_bound.specs.Carriers.{ArmParts, Expression}
use Rattle.sql_bound.specs.Expressions.{all_bound, arms_bound}
use Rattle.sql_bound.specs.Scopes.{Answer, Scope}
use Rattle.sql_bound.specs.declared.scopes.ArmOperands.{ArmOperands}
use Rattle.sql_bound.specs.declared.scopes.Operand.{Operand}
use Rattle.sql_bound.specs.declared.scopes.Work.{Work}
use Rattle.bind_query.specs.Turns.{arm_bound, in_turn}

-- behind what there is so far
behind : {B : Type 0} → List B → Answer (List B) → Answer (List B)
behind so_far (Ok a) = Ok (so_far ++ a.0, a.1)
behind so_far (Err why) = Err why

-- one after another, each in front of those behind it
abbrev each : {A B : Type 0} → (A → Work → Answer B) → List A → Work → Answer (List B)
each f [] w = Ok ([], w)
each f (x ∷ xs) w = f x w >>= λ a. each f xs a.1 >>= λ more. Ok (a.0 ∷ more.0, more.1)

module _ {A B : Type 0} (f : A → Work → Answer B) where
  one : (xs : List A) (so_far : List B) (r : Answer B)
      → ((a : B × Work) → in_turn f xs (so_far ++ a.0 ∷ []) a.1 ≡ behind (so_far ++ a.0 ∷ []) (each f xs a.1))
      → (r >>= λ a. in_turn f xs (so_far ++ a.0 ∷ []) a.1) ≡ behind so_far (r >>= λ a. each f xs a.1 >>= λ more. Ok (a.0 ∷ more.0, more.1))
  unfolding behind
  one xs so_far (Err why) h = refl
  one xs so_far (Ok a) h = h a ∙ more (each f xs a.1)
    where
      more : (r : Answer (List B)) → behind (so_far ++ a.0 ∷ []) r ≡ behind so_far (r >>= λ m. Ok (a.0 ∷ m.0, m.1))
      more (Err why) = refl
      more (Ok m) = ap (λ all. Ok (all, m.1)) (append_assoc so_far (a.0 ∷ []) m.0)

  turn-behind : (xs : List A) (so_far : List B) (w : Work) → in_turn f xs so_far w ≡ behind so_far (each f xs w)
  unfolding behind
  turn-behind [] so_far w = ap (λ all. Ok (all, w)) (sym (append-none so_far))
    where
      append-none : (ys : List B) → ys ++ [] ≡ ys
      append-none [] = refl
      append-none (y ∷ ys) = ap (λ zs. y ∷ zs) (append-none ys)
  turn-behind (x ∷ xs) so_far w = one xs so_far (f x w) (λ a. turn-behind xs (so_far ++ a.0 ∷ []) a.1)

  pub each-turn : (xs : List A) (w : Work) → each f xs w ≡ in_turn f xs [] w
  unfolding behind
  each-turn xs w = all (each f xs w) refl ∙ sym (turn-behind xs [] w)
    where
      all : (r : Answer (List B)) → each f xs w ≡ r → r ≡ behind [] r
      all (Ok a) is = refl
      all (Err why) is = refl

-- ---- of the definitions

-- one in front of others
abbrev in_front : {B : Type 0} → B → List B × Work → Answer (List B)
in_front b more = Ok (b ∷ more.0, more.1)

abbrev with_value : Operand → Operand × Work → Answer ArmOperands
with_value c v = Ok (record { condition = c; value = v.0 }, v.1)

all-next : (s : Scope) (xs : List Expression) (r : Answer Operand)
    → ((w : Work) → all_bound s xs w ≡ each (λ (x : Expression). x.bound s) xs w)
    → (r >>= λ a. all_bound s xs a.1 >>= λ more. in_front a.0 more) ≡ (r >>= λ a. each (λ (x : Expression). x.bound s) xs a.1 >>= λ more. in_front a.0 more)
all-next s xs (Err why) h = refl
all-next s xs (Ok a) h = ap (λ (r : Answer (List Operand)). r >>= λ more. in_front a.0 more) (h a.1)

all-each : (s : Scope) (xs : List Expression) (w : Work) → all_bound s xs w ≡ each (λ (x : Expression). x.bound s) xs w
all-each s [] w = refl
all-each s (x ∷ xs) w = all-next s xs (x.bound s w) (all-each s xs)

pub all-turn : (s : Scope) (xs : List Expression) (w : Work) → all_bound s xs w ≡ in_turn (λ (x : Expression). x.bound s) xs [] w
all-turn s xs w = all-each s xs w ∙ each-turn (λ (x : Expression). x.bound s) xs w

arm-value : (s : Scope) (xs : List ArmParts) (c : Operand) (r : Answer Operand)
    → ((w : Work) → arms_bound s xs w ≡ each (arm_bound s) xs w)
    → (r >>= λ v. arms_bound s xs v.1 >>= λ more. in_front (record { condition = c; value = v.0 }) more)
    ≡ ((r >>= λ v. with_value c v) >>= λ a. each (arm_bound s) xs a.1 >>= λ more. in_front a.0 more)
arm-value s xs c (Err why) h = refl
arm-value s xs c (Ok v) h = ap (λ (r : Answer (List ArmOperands)). r >>= λ more. in_front (record { condition = c; value = v.0 }) more) (h v.1)

arms-next : (s : Scope) (x : ArmParts) (xs : List ArmParts) (r : Answer Operand)
    → ((w : Work) → arms_bound s xs w ≡ each (arm_bound s) xs w)
    → (r >>= λ c. x.value.bound s c.1 >>= λ v. arms_bound s xs v.1 >>= λ more. in_front (record { condition = c.0; value = v.0 }) more)
    ≡ ((r >>= λ c. x.value.bound s c.1 >>= λ v. with_value c.0 v) >>= λ a. each (arm_bound s) xs a.1 >>= λ more. in_front a.0 more)
arms-next s x xs (Err why) h = refl
arms-next s x xs (Ok c) h = arm-value s xs c.0 (x.value.bound s c.1) h

arms-each : (s : Scope) (xs : List ArmParts) (w : Work) → arms_bound s xs w ≡ each (arm_bound s) xs w
arms-each s [] w = refl
arms-each s (x ∷ xs) w = arms-next s x xs (x.condition.bound s w) (arms-each s xs)

pub arms-turn : (s : Scope) (xs : List ArmParts) (w : Work) → arms_bound s xs w ≡ in_turn (arm_bound s) xs [] w
arms-turn s xs w = arms-each s xs w ∙ each-turn (arm_bound s) xs w
