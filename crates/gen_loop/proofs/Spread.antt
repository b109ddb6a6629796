-- Loops whose places are the first ones, each once, in any order.
use Rattle.std.proofs.Common.{◌≢◌, ℕ, zero, suc, ◌+◌, ◌≤◌, ◌<◌, List, [], ◌∷◌, length, inl, inr, ⊎_elim, sym, arith}
use Rattle.std.specs.List.{AllByRecursion, range_with_len}
use Rattle.std.proofs.Math.Nat.{eq-or-lt_of_le}
use Rattle.eng_value.specs.Arrangements.{Chain, Shuffled, empty, keep, swap, onward}
use Rattle.eng_value.proofs.Arranging.{all_more}
use Rattle.eng_value.proofs.Shuffling.{all-shuffled, shuffled_back}
use Rattle.gen_loop.specs.Stretches.{Apart, AreSpread, ArePlaced, places_of}
use Rattle.plan_tree.specs.Visits.{IsCounted}
use Rattle.plan_tree.specs.declared.access.Loop.{Loop}
use Rattle.vm_code.specs.Tracked.{Among}

-- ---- in any order

-- what holds between any two, whichever comes first, holds in any order
chain-shuffled : {X : Type 0} (R : X → X → Type 0) → ((x y : X) → R x y → R y x) → {xs ys : List X} → Shuffled xs ys → Chain R xs → Chain R ys
chain-shuffled R back empty c = tt
chain-shuffled R back (keep x s) c = (all-shuffled (R x) s c.0, chain-shuffled R back s c.1)
chain-shuffled R back (swap x y xs) c = ((back x y c.0.0, c.1.0), (c.0.1, c.1.1))
chain-shuffled R back (onward s t) c = chain-shuffled R back t (chain-shuffled R back s c)

among-shuffled : {xs ys : List ℕ} (k : ℕ) → Shuffled xs ys → Among xs k → Among ys k
among-shuffled k empty none = absurd none
among-shuffled k (keep x s) h = ⊎_elim (λ is. inl is) (λ more. inr (among-shuffled k s more)) h
among-shuffled k (swap x y xs) h = ⊎_elim (λ is. inr (inl is)) (λ more. ⊎_elim (λ is. inl is) (λ rest. inr (inr rest)) more) h
among-shuffled k (onward s t) h = among-shuffled k t (among-shuffled k s h)

-- ---- the first places

range-between : (a n : ℕ) → AllByRecursion (λ k. (a ≤ k) × (k < a + n)) (range_with_len a n)
range-between a zero = tt
range-between a (suc n) =
    ((omega arith, omega arith), all_more (λ k. (a + 1 ≤ k) × (k < a + 1 + n)) (λ k. (a ≤ k) × (k < a + suc n)) (λ k h. (omega (arith, h.0), omega (arith, h.1))) (range_with_len (a + 1) n) (range-between (a + 1) n))

range-apart : (a n : ℕ) → Chain (λ (x y : ℕ). x ≢ y) (range_with_len a n)
range-apart a zero = tt
range-apart a (suc n) =
    (all_more (λ k. (a + 1 ≤ k) × (k < a + 1 + n)) (λ k. a ≢ k) (λ k h same. absurd (omega (arith, same, h.0))) (range_with_len (a + 1) n) (range-between (a + 1) n), range-apart (a + 1) n)

range-among : (a n k : ℕ) → a ≤ k → k < a + n → Among (range_with_len a n) k
range-among a zero k le lt = absurd (omega (arith, le, lt))
range-among a (suc n) k le lt =
    ⊎_elim (λ same. inl same) (λ more. inr (range-among (a + 1) n k (omega (arith, more)) (omega (arith, lt)))) (eq-or-lt_of_le le)

-- ---- loops

apart-each : (k : ℕ) (loops : List Loop) → AllByRecursion (λ y. k ≢ y) (places_of loops) → Apart k loops
apart-each k [] all = tt
apart-each k (l ∷ loops) all = ((λ same. all.0 (sym same)), apart-each k loops all.1)

placed-each : (n : ℕ) (loops : List Loop) → AllByRecursion (λ k. k < n) (places_of loops) → AllByRecursion (λ (l : Loop). IsCounted l.path) loops → Chain (λ (x y : ℕ). x ≢ y) (places_of loops) → ArePlaced n loops
placed-each n [] below counted apart = tt
placed-each n (l ∷ loops) below counted apart =
    (below.0, counted.0, apart-each l.place loops apart.0, placed-each n loops below.1 counted.1 apart.1)

pub placed-spread : (loops : List Loop) (n : ℕ) → AreSpread loops → length loops ≤ n → ArePlaced n loops
placed-spread loops n spread le =
    let from = shuffled_back spread.places in
    let below = all-shuffled (λ k. k < n) from (all_more (λ k. (0 ≤ k) × (k < 0 + length loops)) (λ k. k < n) (λ k h. omega (arith, h.1, le)) (range_with_len 0 (length loops)) (range-between 0 (length loops))) in
    placed-each n loops below spread.counted (chain-shuffled (λ (x y : ℕ). x ≢ y) (λ x y ne same. ne (sym same)) from (range-apart 0 (length loops)))

-- each of the first places is one of theirs
pub among-spread : (loops : List Loop) (k : ℕ) → AreSpread loops → k < length loops → Among (places_of loops) k
among-spread loops k spread lt =
    among-shuffled k (shuffled_back spread.places) (range-among 0 (length loops) k (omega arith) (omega (arith, lt)))
