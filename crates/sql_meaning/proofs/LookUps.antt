-- What a look-up finds in a list, and what it does not find.
use Rattle.std.proofs.Common.{◌≡◌, ◌⊎◌, inl, inr, ℕ, List, Bool, true, false, cond, Some, None, length, slice_get, position, find, nat_lt, ap, ◌∙◌}
use Rattle.std.specs.List.{position_or_len}
use Rattle.std.proofs.lemmas.Bool.{lt-ltb, le-ltb}
use Rattle.std.proofs.lemmas.Option.{slice_get_cases}
use Rattle.std.proofs.lemmas.List.Folds.{find_at}

-- ---- the place of the first element

-- a place is that of the element that is found
pub position_finds : {X : Type 0} (p : X → Bool) (xs : List X) → ((position p xs ≡ None) × (find p xs ≡ None)) ⊎ ((i : ℕ) × (x : X) × (position p xs ≡ Some i) × (slice_get xs i ≡ Some x) × (find p xs ≡ Some x))
position_finds {X} p xs = elim (slice_get_cases xs (position_or_len p xs)).1 [
  | inl r ↦
      let at : nat_lt (position_or_len p xs) (length xs) ≡ true = lt-ltb _ _ r.1 in
      inr (position_or_len p xs, r.0, ap (λ b. cond b (Some (position_or_len p xs)) None) at, r.2, find_at p xs ∙ r.2)
  | inr r ↦
      let at : nat_lt (position_or_len p xs) (length xs) ≡ false = le-ltb _ _ r.0 in
      inl (ap (λ b. cond b (Some (position_or_len p xs)) None) at, find_at p xs ∙ r.1)
]
