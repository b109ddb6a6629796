-- Lists that are walked from left to right until a member is refused.
use Rattle.std.proofs.Common.{◌≡◌, ℕ, ◌+◌, ◌<◌, ◌≤◌, List, [], ◌∷◌, length, drop, get_or, Ok, Err, ap, ◌∙◌}
use Rattle.std.proofs.lemmas.List.{at_drop_all, at_drop_more}
use Rattle.eng_value.specs.declared.cause.Cause.{Cause}
use Rattle.sql_bound.specs.Refusals.{Checked}
use Rattle.sql_words.specs.Refusals.{◌>>=◌}

module _ {A B : Type 0} (fold : List A → B → Checked B) (step : A → B → Checked B) (split : (x : A) (xs : List A) (b : B) → fold (x ∷ xs) b ≡ (step x b >>= λ c. fold xs c)) where
  pub fold-passed : (xs : List A) (i : ℕ) (d : A) (b c : B) → i < length xs → step (get_or xs i d) b ≡ Ok c → fold (drop i xs) b ≡ fold (drop (i + 1) xs) c
  fold-passed xs i d b c within passed =
      at_drop_more (λ ys. fold ys b) xs i d within
      ∙ split (get_or xs i d) (drop (i + 1) xs) b
      ∙ ap (λ (r : Checked B). r >>= λ n. fold (drop (i + 1) xs) n) passed

  pub fold-refused : (xs : List A) (i : ℕ) (d : A) (b : B) (why : Cause) → i < length xs → step (get_or xs i d) b ≡ Err why → fold (drop i xs) b ≡ Err why
  fold-refused xs i d b why within refused =
      at_drop_more (λ ys. fold ys b) xs i d within
      ∙ split (get_or xs i d) (drop (i + 1) xs) b
      ∙ ap (λ (r : Checked B). r >>= λ n. fold (drop (i + 1) xs) n) refused

  pub fold-end : (xs : List A) (i : ℕ) (b : B) → length xs ≤ i → fold (drop i xs) b ≡ fold [] b
  fold-end xs i b past = at_drop_all (λ ys. fold ys b) xs i past
