-- The best of nothing more.
use Rattle.std.proofs.Common.{◌≡◌, ◌-◌, ℕ, suc, Bool, List, [], ◌∷◌, length, drop, min, refl, arith}
use Rattle.eng_value.specs.declared.value.Value.{Value}
use Rattle.eng_value.specs.Functions.{best_behind}

-- behind the front that both have, the best stays
pub best_behind-end : (beats : List ℕ → List ℕ → Bool) (best : Value) (key : List ℕ) (vs : List Value) (ks : List (List ℕ)) (n : ℕ) → n ≡ min (length vs) (length ks) → best_behind beats best key (drop n vs) (drop n ks) ≡ best
best_behind-end beats best key [] ks n e = let none : n ≡ 0 = omega (arith, e) in rw none refl
best_behind-end beats best key (v ∷ vs) [] n e = let none : n ≡ 0 = omega (arith, e) in rw none refl
best_behind-end beats best key (v ∷ vs) (k ∷ ks) n e =
    let more : n ≡ suc (n - 1) = omega (arith, e) in
    rw more (best_behind-end beats best key vs ks (n - 1) (omega (arith, e)))
