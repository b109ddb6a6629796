-- Trimming takes the longest front, or end, of some characters away, and nothing else.
use Rattle.std.proofs.Common.{◌≡◌, ℕ, true, false, ◌==◌, List, [], ◌∷◌, ◌++◌, reverse, refl, sym, ap, ◌∙◌, inl, inr}
use Rattle.std.specs.List.{AllByRecursion, list_any}
use Rattle.std.proofs.lemmas.Bool.{cases_Bool}
use Rattle.std.proofs.lemmas.List.{reverse-append, reverse-reverse}
use Rattle.eng_value.specs.Functions.{without_back, without_front}

pub without_front_splits : (these cs : List ℕ) → (front : List ℕ) × AllByRecursion (λ c. list_any (λ t. t == c) these ≡ true) front × (cs ≡ front ++ without_front these cs)
without_front_splits these [] = ([], tt, refl)
without_front_splits these (c ∷ cs) =
    let rest = without_front_splits these cs in
    elim (cases_Bool (list_any (λ t. t == c) these)) [
      | inl taken ↦ (c ∷ rest.0, (taken, rest.1), rw taken (ap (λ ds. c ∷ ds) rest.2))
      | inr left ↦ ([], tt, rw left refl)
    ]

pub without_front_ends : (these cs : List ℕ) (c : ℕ) (rest : List ℕ) → without_front these cs ≡ c ∷ rest → list_any (λ t. t == c) these ≡ false
without_front_ends these [] c rest is = absurd (cc)
without_front_ends these (d ∷ cs) c rest is =
    elim (cases_Bool (list_any (λ t. t == d) these)) [
      | inl taken ↦ without_front_ends these cs c rest (rw taken at is)
      | inr left ↦ let first : d ∷ cs ≡ c ∷ rest = (rw left at is) in let same : d ≡ c = cc in rw (← same) left
    ]

AllByRecursion-append : (P : ℕ → Type 0) (xs ys : List ℕ) → AllByRecursion P xs → AllByRecursion P ys → AllByRecursion P (xs ++ ys)
AllByRecursion-append P [] ys all more = more
AllByRecursion-append P (x ∷ xs) ys all more = (all.0, AllByRecursion-append P xs ys all.1 more)

AllByRecursion-reverse : (P : ℕ → Type 0) (xs : List ℕ) → AllByRecursion P xs → AllByRecursion P (reverse xs)
AllByRecursion-reverse P [] all = tt
AllByRecursion-reverse P (x ∷ xs) all = rw (reverse-append (x ∷ []) xs) (AllByRecursion-append P (reverse xs) (x ∷ []) (AllByRecursion-reverse P xs all.1) (all.0, tt))

pub without_back_splits : (these cs : List ℕ) → (back : List ℕ) × AllByRecursion (λ c. list_any (λ t. t == c) these ≡ true) back × (cs ≡ without_back these cs ++ back)
without_back_splits these cs =
    let split = without_front_splits these (reverse cs) in (
      reverse split.0,
      AllByRecursion-reverse (λ c. list_any (λ t. t == c) these ≡ true) split.0 split.1,
      sym (reverse-reverse cs) ∙ ap reverse split.2 ∙ reverse-append split.0 (without_front these (reverse cs)),
    )

pub without_back_ends : (these cs rest : List ℕ) (c : ℕ) → without_back these cs ≡ rest ++ c ∷ [] → list_any (λ t. t == c) these ≡ false
without_back_ends these cs rest c is =
    without_front_ends these (reverse cs) c (reverse rest) (sym (reverse-reverse (without_front these (reverse cs))) ∙ ap reverse is ∙ reverse-append rest (c ∷ []))
