-- What is needed already is found again.
use Rattle.std.proofs.Common.{◌≡◌, ◌∙◌, ℕ, ◌+◌, ◌<◌, ◌≤◌, Bool, true, false, not, cond, nat_eq, nat_lt, arith, Option, List, [], ◌∷◌, ◌++◌, length, position, slice_index_or, Some, None, refl, ap}
use Rattle.std.specs.List.{position_or_len}
use Rattle.std.proofs.lemmas.Bool.Decides.{Decides-eqb, Decides-ltb}
use Rattle.std.proofs.lemmas.List.Folds.{position_or_len_push}
use Rattle.std.proofs.lemmas.List.Sums.{prefix_len-le-length}
use Rattle.std.proofs.Math.ListN.{length-append}
use Rattle.std.proofs.Math.Seq.{get_or-append_seam}
use Rattle.std.proofs.lemmas.List.Quantifiers.{position-Some}
use Rattle.bound_tree.specs.Exprs as e
use Rattle.bound_tree.specs.Exprs.{BoundExpr}
use Rattle.sql_bound.proofs.SameLaws.{both, expr_itself}
use Rattle.sql_bound.specs.Scopes.{argument_at, is_need, needed}
use Rattle.sql_bound.specs.declared.scopes.Need.{Need}
use Rattle.sql_bound.specs.declared.scopes.Work.{Work}

found_behind : {A : Type 0} (passes : A → Bool) (xs : List A) (x : A) → passes x ≡ true → position passes xs ≡ None → position passes (xs ++ x ∷ []) ≡ Some (length xs)
found_behind passes xs x h none =
    let short = prefix_len-le-length (λ a. not (passes a)) xs in
    let long = not_below (position_or_len passes xs) (length xs) none in
    let at_end : position_or_len passes xs ≡ length xs = omega arith in
    let same : nat_eq (length xs) (length xs) ≡ true = (Decides-eqb (length xs) (length xs)).1 refl in
    let here : position_or_len passes (xs ++ x ∷ []) ≡ length xs + 0 = position_or_len_push passes xs x ∙ rw (at_end, same, h) refl in
    let place : position_or_len passes (xs ++ x ∷ []) ≡ length xs = omega arith in
    let room : nat_lt (length xs) (length (xs ++ x ∷ [])) ≡ true = (Decides-ltb (length xs) (length (xs ++ x ∷ []))).1 (omega (arith, length-append xs (x ∷ []))) in
    ap (λ n. cond (nat_lt n (length (xs ++ x ∷ []))) (Some n) None) place ∙ rw room refl where
      not_below : (n m : ℕ) → cond (nat_lt n m) (Some n) None ≡ None → m ≤ n
      not_below n m = go (nat_lt n m) (Decides-ltb n m).1 where
        go : (t : Bool) → (n < m → t ≡ true) → cond t (Some n) None ≡ None → m ≤ n
        go true above k = cc
        go false above k = let never : n < m → ⊥ = λ l. let bad = above l in cc in omega (arith, never)

is_itself : (n : Need) → is_need n n ≡ true
is_itself n = both ((Decides-eqb n.up n.up).1 refl) (expr_itself n.tree)

pub again : (n : Need) (w : Work) → needed n (needed n w).1 ≡ needed n w
again n w = go (position (is_need n) w.needs) refl where
  go : (place : Option ℕ) → position (is_need n) w.needs ≡ place → needed n (argument_at place n w).1 ≡ argument_at place n w
  go (Some place) h = ap (λ p. argument_at p n w) h
  go None h = ap (λ p. argument_at p n (argument_at None n w).1) (found_behind (is_need n) w.needs n (is_itself n) h)

abbrev IsArgumentOf : Need → BoundExpr × Work → Type 0
IsArgumentOf n b = (place : ℕ) × (b.0 ≡ e.Argument place) × (place < length b.1.needs) × (is_need n (slice_index_or b.1.needs place n) ≡ true)

pub argument_of : (n : Need) (w : Work) → IsArgumentOf n (needed n w)
argument_of n w = go (position (is_need n) w.needs) (λ place h. position-Some (is_need n) w.needs place n h) where
  go : (found : Option ℕ) → ((place : ℕ) → found ≡ Some place → (place < length w.needs) × (is_need n (slice_index_or w.needs place n) ≡ true) × ((k : ℕ) → k < place → is_need n (slice_index_or w.needs k n) ≡ false)) → IsArgumentOf n (argument_at found n w)
  go (Some place) at = let h = at place refl in (place, refl, h.0, h.1)
  go None at = (length w.needs, refl, omega (arith, length-append w.needs (n ∷ [])), ap (is_need n) (get_or-append_seam w.needs n [] n) ∙ is_itself n)
