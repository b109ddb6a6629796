-- Where the front of a text ends.
use Rattle.std.proofs.Common.{◌≡◌, ℕ, zero, suc, ◌<◌, ◌≤◌, ◌||◌, Bool, true, false, List, length, take, slice_index, nat_lt, nat_le, if◌then◌else◌, refl, ap, ⊎_elim, arith, subst}
use Rattle.std.specs.Str.{IsCharBoundary}
use Rattle.std.proofs.lemmas.Bool.{cases_lt}
use Rattle.std.proofs.lemmas.Bool.Decides.{nat_tests}
use Rattle.vm_listing.specs.Pieces.{begins, front}

-- a byte that a character begins with is no continuation byte
first-byte : (x : ℕ) → (nat_lt x 128 || nat_le 192 x) ≡ true → 128 ≤ x → 192 ≤ x
first-byte x is high = grind (arith, nat_tests)

-- a byte that no character begins with is one
later-byte : (x : ℕ) → (nat_lt x 128 || nat_le 192 x) ≡ false → (128 ≤ x → 192 ≤ x) → ⊥
later-byte x is not = grind (arith, nat_tests)

-- the last place up to n where a text may be cut is the end of its front
pub front-cut : (text : List ℕ) (n r : ℕ) → n < length text → r ≤ n → IsCharBoundary text r → ((i : ℕ) → r < i → i ≤ n → IsCharBoundary text i → ⊥) → take r text ≡ front text n
unfolding front
front-cut text zero r within below here nearest = let is : r ≡ 0 = omega arith in ap (λ k. take k text) is
front-cut text (suc n) r within below here nearest = by (begins text (suc n)) refl (λ less. front-cut text n r (omega arith) less here (λ i above most. nearest i above (omega arith)))
  where
    by : (b : Bool) → begins text (suc n) ≡ b → (r ≤ n → take r text ≡ front text n) → take r text ≡ (if b then take (suc n) text else front text n)
    by true is before = ⊎_elim (λ less. absurd (nearest (suc n) less (omega arith) (omega arith, λ inside high. first-byte (slice_index text (suc n)) is high)))
        (λ most. let same : r ≡ suc n = omega arith in ap (λ k. take k text) same) (cases_lt r (suc n))
    by false is before = ⊎_elim (λ less. before (omega arith))
        (λ most. let same : r ≡ suc n = omega arith in absurd (later-byte (slice_index text (suc n)) is (λ high. subst (λ k. 128 ≤ slice_index text k → 192 ≤ slice_index text k) same (here.1 (omega arith)) high))) (cases_lt r (suc n))
