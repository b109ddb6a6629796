-- Lists of which one has more are not the same.
use Rattle.std.proofs.Common.{◌≡◌, ℕ, ◌≤◌, Bool, true, false, List, [], ◌∷◌, length, drop, map, refl, sym, ap, ◌∙◌, arith}
use Rattle.std.proofs.lemmas.List.{drop_all}
use Rattle.bound_tree.specs.declared.tree.ArmTree.{ArmTree}
use Rattle.bound_tree.specs.declared.tree.ExprTree.{ExprTree}
use Rattle.bound_tree.specs.declared.tree.MatchTree.{MatchTree}
use Rattle.bound_tree.specs.Exprs.{arms, exprs, matches}
use Rattle.bound_tree.specs.Same.{same_arms, same_list, same_matches}
use Rattle.bound_tree.specs.Seen.{seen, seen_arm, seen_match}

no_trees : (bs : List ExprTree) → 1 ≤ length bs → same_list (exprs (map seen [])) (exprs (map seen bs)) ≡ false
no_trees [] h = absurd (omega arith)
no_trees (b ∷ bs) h = refl

pub more_trees : (i : ℕ) (as_ bs : List ExprTree) (all : Bool) → length as_ ≤ i → 1 ≤ length bs
    → all ≡ same_list (exprs (map seen (drop i as_))) (exprs (map seen bs)) → false ≡ all
more_trees i as_ bs all end more is = sym (is ∙ ap (λ xs. same_list (exprs (map seen xs)) (exprs (map seen bs))) (drop_all i as_ end) ∙ no_trees bs more)

no_arms : (bs : List ArmTree) → 1 ≤ length bs → same_arms (arms (map seen_arm [])) (arms (map seen_arm bs)) ≡ false
no_arms [] h = absurd (omega arith)
no_arms (b ∷ bs) h = refl

pub more_arms : (i : ℕ) (as_ bs : List ArmTree) (all : Bool) → length as_ ≤ i → 1 ≤ length bs
    → all ≡ same_arms (arms (map seen_arm (drop i as_))) (arms (map seen_arm bs)) → false ≡ all
more_arms i as_ bs all end more is = sym (is ∙ ap (λ xs. same_arms (arms (map seen_arm xs)) (arms (map seen_arm bs))) (drop_all i as_ end) ∙ no_arms bs more)

no_matches : (bs : List MatchTree) → 1 ≤ length bs → same_matches (matches (map seen_match [])) (matches (map seen_match bs)) ≡ false
no_matches [] h = absurd (omega arith)
no_matches (b ∷ bs) h = refl

pub more_matches : (i : ℕ) (as_ bs : List MatchTree) (all : Bool) → length as_ ≤ i → 1 ≤ length bs
    → all ≡ same_matches (matches (map seen_match (drop i as_))) (matches (map seen_match bs)) → false ≡ all
more_matches i as_ bs all end more is = sym (is ∙ ap (λ xs. same_matches (matches (map seen_match xs)) (matches (map seen_match bs))) (drop_all i as_ end) ∙ no_matches bs more)
