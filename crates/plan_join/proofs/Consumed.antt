-- Which conjuncts are tested.
use Rattle.std.proofs.Common.{◌≡◌, ◌<◌, ◌+◌, ◌++◌, ℕ, suc, Bool, true, false, List, [], ◌∷◌, length, get_or, drop, drop-cons, add-one, append_assoc, refl, sym, ap, ◌∙◌, arith}
use Rattle.std.proofs.lemmas.List.{drop-drop, get_or-drop}
use Rattle.bound_tree.specs.Exprs.{BoundExpr}
use Rattle.plan_tree.specs.Visits.{tested, unless}

-- nothing is consumed where it isn't said
pub tested_none : (cs : List BoundExpr) → tested [] cs ≡ cs
tested_none [] = refl
tested_none (c ∷ cs) = refl

tested-cons : (consumed : List Bool) (c : BoundExpr) (cs : List BoundExpr) → tested consumed (c ∷ cs) ≡ unless (get_or consumed 0 false) c (tested (drop 1 consumed) cs)
tested-cons [] c cs = ap (λ l. c ∷ l) (sym (tested_none cs))
tested-cons (b ∷ consumed) c cs = refl

-- what is left of the next and those behind it
pub tested-drop : (consumed : List Bool) (cs : List BoundExpr) (i : ℕ) (c : BoundExpr) → i < length cs → c ≡ get_or cs i c → tested (drop i consumed) (drop i cs) ≡ unless (get_or consumed i false) c (tested (drop (i + 1) consumed) (drop (i + 1) cs))
tested-drop consumed cs i c lt is =
    let none : i + 0 ≡ i = omega arith in
    let said : get_or (drop i consumed) 0 false ≡ get_or consumed i false = get_or-drop i consumed 0 false ∙ ap (λ n. get_or consumed n false) none in
    ap (tested (drop i consumed)) (drop-cons cs i c lt ∙ ap (λ d. d ∷ drop (suc i) cs) (sym is) ∙ ap (λ n. c ∷ drop n cs) (sym (add-one i)))
    ∙ tested-cons (drop i consumed) c (drop (i + 1) cs)
    ∙ ap (λ b. unless b c (tested (drop 1 (drop i consumed)) (drop (i + 1) cs))) said
    ∙ ap (λ l. unless (get_or consumed i false) c (tested l (drop (i + 1) cs))) (drop-drop 1 i consumed)

-- one that is tested comes behind the others
pub kept_more : (front : List BoundExpr) (c : BoundExpr) (before rest all : List BoundExpr) (b : Bool) → front ++ before ≡ all → before ≡ unless b c rest → b ≡ false → (front ++ c ∷ []) ++ rest ≡ all
kept_more front c before rest all b is next kept =
    append_assoc front (c ∷ []) rest ∙ ap (λ l. front ++ l) (sym (next ∙ ap (λ k. unless k c rest) kept)) ∙ is

-- and one that is consumed does not
pub left_out : (front : List BoundExpr) (c : BoundExpr) (before rest all : List BoundExpr) (b : Bool) → front ++ before ≡ all → before ≡ unless b c rest → b ≡ true → front ++ rest ≡ all
left_out front c before rest all b is next consumed =
    ap (λ l. front ++ l) (sym (next ∙ ap (λ k. unless k c rest) consumed)) ∙ is
