-- Lists that are gone through from left to right.
use Rattle.std.proofs.Common.{◌≡◌, ℕ, ◌+◌, ◌<◌, List, ◌++◌, length, drop, get_or, append_assoc, sym, ap, ◌∙◌}
use Rattle.std.proofs.lemmas.List.{at_drop_more}
use Rattle.std.specs.List.{flat_map}

pub flat_passed : {X A : Type 0} (f : X → List A) (xs : List X) (i : ℕ) (x : X) (a b d : List A) → i < length xs → x ≡ get_or xs i x → a ++ flat_map f xs ≡ b ++ flat_map f (drop i xs) → d ≡ b ++ f x → a ++ flat_map f xs ≡ d ++ flat_map f (drop (i + 1) xs)
flat_passed f xs i x a b d lt is so_far step =
    so_far
    ∙ at_drop_more (λ ys. b ++ flat_map f ys) xs i x lt
    ∙ ap (λ y. b ++ (f y ++ flat_map f (drop (i + 1) xs))) (sym is)
    ∙ sym (append_assoc b (f x) (flat_map f (drop (i + 1) xs)))
    ∙ ap (λ o. o ++ flat_map f (drop (i + 1) xs)) (sym step)
