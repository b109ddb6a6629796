-- What is handed over from a place on is the front of what is left there.
use Rattle.std.proofs.Common.{◌≡◌, ℕ, ◌+◌, ◌-◌, ◌++◌, List, length, take, drop, sym, ◌∙◌, ap, subst, arith}
use Rattle.std.proofs.lemmas.List.{take-append-drop, drop-drop}
use Rattle.std.proofs.Math.Seq.{take-append_seam}

pub drop_handed : (xs got rest : List ℕ) (at n : ℕ) → length got ≡ n → got ≡ take (at + n - at) (drop at xs) → drop at xs ≡ take n (got ++ rest) ++ drop (at + n) xs
drop_handed xs got rest at n long e =
    let same : at + n - at ≡ n = omega arith in
    let front : take n (got ++ rest) ≡ got = subst (λ k. take k (got ++ rest) ≡ got) long (take-append_seam got rest) in
    let g : got ≡ take n (drop at xs) = subst (λ k. got ≡ take k (drop at xs)) same e in
    sym (take-append-drop n (drop at xs)) ∙ (ap (λ p. p ++ drop n (drop at xs)) (sym (front ∙ g)) ∙ ap (λ q. take n (got ++ rest) ++ q) (drop-drop n at xs))
