-- Values in registers one after another.
use Rattle.std.proofs.Common.{◌≡◌, ℕ, List, [], ◌∷◌, ◌++◌, length, map, sum_by, length-append, sym, subst, arith}
use Rattle.std.specs.List.{flat_map}
use Rattle.std.proofs.lemmas.List.{map-append}
use Rattle.std.proofs.lemmas.List.Sums.{sum_by_push}
use Rattle.eng_value.specs.Environments.{Environment}
use Rattle.eng_value.specs.declared.out.Out.{Out}
use Rattle.gen_loop.proofs.Places.{front_met, last_met}
use Rattle.vm_code.specs.declared.open_cursor.Need.{Need}
use Rattle.vm_code.specs.Draft.{Draft, taken}
use Rattle.vm_code.specs.Frames.{Fills, Leaves, needing}
use Rattle.vm_code.proofs.Values.{leaves_wider}
use Rattle.vm_code.proofs.Fills.{fills_more, fills_same, fills_wider}

-- a value more, of what has values in environments and takes so many instructions
pub fills_last : {A : Type 0} {a b z : Draft} (value : A → Environment → Out) (steps : A → ℕ) (needs : A → List Need) (xs : List A) (x : A) (to : ℕ) → to ≡ b.next → Fills (needing (flat_map needs xs)) a b (length xs) (λ env. map (λ y. value y env) xs) (λ env. sum_by steps xs) → Leaves (needing (needs x)) (taken b) z to (λ env. value x env) (λ env. steps x) → Fills (needing (flat_map needs (xs ++ x ∷ []))) a z (length (xs ++ x ∷ [])) (λ env. map (λ y. value y env) (xs ++ x ∷ [])) (λ env. sum_by steps (xs ++ x ∷ []))
fills_last {a = a} {b = b} {z = z} value steps needs xs x to to_is before l =
    let all = xs ++ x ∷ [] in
    subst (λ n. Fills (needing (flat_map needs all)) a z n (λ env. map (λ y. value y env) all) (λ env. sum_by steps all)) (sym (length-append xs (x ∷ []))) (fills_same (λ env. map (λ y. value y env) all) (λ env. sum_by steps all) (λ env. sym (map-append (λ y. value y env) xs (x ∷ []))) (λ env. omega (arith, sum_by_push steps xs x)) (fills_more to (fills_wider (flat_map needs all) (λ ys met. front_met ys needs xs x met) before) to_is (leaves_wider (flat_map needs all) (λ ys met. last_met ys needs xs x met) l)))
