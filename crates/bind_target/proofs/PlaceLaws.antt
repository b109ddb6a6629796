-- Steps of walks over lists of which so many count.
use Rattle.std.proofs.Common.{◌≡◌, ℕ, ◌+◌, ◌-◌, ◌≤◌, List, [], ◌∷◌, map, drop, take, length, get_or, Ok, sym, ap, ◌∙◌, add-one, arith}
use Rattle.std.proofs.lemmas.List.{take_rest}
use Rattle.sql_bound.specs.Limits.{walked}
use Rattle.sql_bound.specs.Refusals.{Checked}
use Rattle.sql_words.specs.Refusals.{◌>>=◌}

walk-passed : {A B : Type 0} (f : A → B → Checked B) (x : A) (xs : List A) (n m : ℕ) (b c : B) → n ≡ m + 1 → f x b ≡ Ok c → walked f n (x ∷ xs) b ≡ walked f m xs c
walk-passed f x xs n m b c more passed =
    ap (λ k. walked f k (x ∷ xs) b) (more ∙ add-one m) ∙ ap (λ (r : Checked _). r >>= λ d. walked f m xs d) passed

-- the first member, and those that are left of a list that has one
pub walk-first : {A B C : Type 0} (f : B → C → Checked C) (g : A → B) (xs : List A) (d : A) (n m : ℕ) (b c : C) → 1 ≤ length xs → n ≡ m + 1 → f (g (get_or xs 0 d)) b ≡ Ok c
    → walked f n (map g xs) b ≡ walked f m (map g (take (length xs - 1) (drop 1 xs))) c
walk-first f g [] d n m b c some more passed = absurd (omega arith)
walk-first f g (x ∷ xs) d n m b c some more passed =
    walk-passed f (g x) (map g xs) n m b c more passed ∙ ap (λ ys. walked f m (map g ys) c) (sym (take_rest (x ∷ xs) 1))
