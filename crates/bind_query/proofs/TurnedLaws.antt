-- What is done in turn, from definitions that put each in front of what comes behind it.
use Rattle.std.proofs.Common.{◌≡◌, List, [], ◌∷◌, ◌++◌, Ok, Err, ap, sym, ◌∙◌, refl, append_assoc}
use Rattle.eng_value.specs.declared.cause.Cause.{Cause}
use Rattle.sql_words.specs.Refusals.{◌>>=◌}
use Rattle.sql_bound.specs.Scopes.{Answer}
use Rattle.sql_bound.specs.declared.scopes.Work.{Work}
use Rattle.bind_query.specs.Turns.{in_turn}

-- one in front of others
abbrev pub in_front : {B : Type 0} → B → List B × Work → Answer (List B)
in_front b more = Ok (b ∷ more.0, more.1)

-- behind what there is so far
behind : {B : Type 0} → List B → Answer (List B) → Answer (List B)
behind so_far (Ok a) = Ok (so_far ++ a.0, a.1)
behind so_far (Err why) = Err why

append-none : {B : Type 0} (ys : List B) → ys ++ [] ≡ ys
append-none [] = refl
append-none (y ∷ ys) = ap (λ zs. y ∷ zs) (append-none ys)

more-behind : {B : Type 0} (so_far : List B) (b : B) (r : Answer (List B)) → behind (so_far ++ b ∷ []) r ≡ behind so_far (r >>= λ m. Ok (b ∷ m.0, m.1))
unfolding behind
more-behind so_far b (Err why) = refl
more-behind so_far b (Ok m) = ap (λ all. Ok (all, m.1)) (append_assoc so_far (b ∷ []) m.0)

behind-none : {B : Type 0} (r : Answer (List B)) → r ≡ behind [] r
unfolding behind
behind-none (Ok a) = refl
behind-none (Err why) = refl

module _ {A B : Type 0} (f : A → Work → Answer B) (F : List A → Work → Answer (List B))
    (none : (w : Work) → F [] w ≡ Ok ([], w))
    (next : (x : A) (xs : List A) (w : Work) → F (x ∷ xs) w ≡ (f x w >>= λ a. F xs a.1 >>= λ more. Ok (a.0 ∷ more.0, more.1))) where
  one : (xs : List A) (so_far : List B) (r : Answer B)
      → ((a : B × Work) → in_turn f xs (so_far ++ a.0 ∷ []) a.1 ≡ behind (so_far ++ a.0 ∷ []) (F xs a.1))
      → (r >>= λ a. in_turn f xs (so_far ++ a.0 ∷ []) a.1) ≡ behind so_far (r >>= λ a. F xs a.1 >>= λ more. Ok (a.0 ∷ more.0, more.1))
  unfolding behind
  one xs so_far (Err why) h = refl
  one xs so_far (Ok a) h = h a ∙ more-behind so_far a.0 (F xs a.1)

  turn-behind : (xs : List A) (so_far : List B) (w : Work) → in_turn f xs so_far w ≡ behind so_far (F xs w)
  unfolding behind
  turn-behind [] so_far w = ap (λ all. Ok (all, w)) (sym (append-none so_far)) ∙ ap (behind so_far) (sym (none w))
  turn-behind (x ∷ xs) so_far w = one xs so_far (f x w) (λ a. turn-behind xs (so_far ++ a.0 ∷ []) a.1) ∙ ap (behind so_far) (sym (next x xs w))

  pub turned : (xs : List A) (w : Work) → F xs w ≡ in_turn f xs [] w
  turned xs w = behind-none (F xs w) ∙ sym (turn-behind xs [] w)

-- ---- one more of those that code has

module _ {A B : Type 0} (f : A → Work → Answer B) (all rest : List A) (x : A) (so_far : List B) (w : Work) (whole : Answer (List B)) (so : whole ≡ in_turn f all so_far w) (is : all ≡ x ∷ rest) where
  next-is : (r : Answer B) → f x w ≡ r → whole ≡ (r >>= λ a. in_turn f rest (so_far ++ a.0 ∷ []) a.1)
  next-is r h = so ∙ ap (λ (xs : List A). in_turn f xs so_far w) is ∙ ap (λ (m : Answer B). m >>= λ a. in_turn f rest (so_far ++ a.0 ∷ []) a.1) h

  pub turn-refused : (why : Cause) → f x w ≡ Err why → whole ≡ Err why
  turn-refused why h = next-is (Err why) h

  pub turn-more : (b : B) (v : Work) (next : List B) → f x w ≡ Ok (b, v) → next ≡ so_far ++ b ∷ [] → whole ≡ in_turn f rest next v
  turn-more b v next h put = next-is (Ok (b, v)) h ∙ ap (λ (bs : List B). in_turn f rest bs v) (sym put)
