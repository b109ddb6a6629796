-- How many instructions the kinds of expressions over lists take.
use Rattle.std.proofs.Common.{◌≡◌, ◌∙◌, ℕ, ◌+◌, List, [], ◌∷◌, ◌++◌, refl, sym, ap}
use Rattle.std.specs.Prelude.{sum_by}
use Rattle.std.proofs.lemmas.List.Sums.{fold-append, sum_by-cons}
use Rattle.eng_value.specs.declared.builtin.Builtin.{Builtin}
use Rattle.eng_value.specs.declared.collation.Collation.{Collation}
use Rattle.eng_value.specs.declared.operators.Sides.{Sides}
use Rattle.bound_tree.specs.Exprs as e
use Rattle.bound_tree.specs.Exprs.{BoundArm, BoundExpr, BoundMatch, arms, exprs, matches}
use Rattle.gen_expr.specs.Steps.{steps_of, steps_of_all, steps_of_others, steps_of_arms, steps_of_matches, arm_steps_of, match_steps_of}

-- ---- lists

pub sum_by-last : {A : Type 0} (f : A → ℕ) (xs : List A) (x : A) → sum_by f (xs ++ x ∷ []) ≡ sum_by f xs + f x
sum_by-last f xs x = fold-append (λ k y. k + f y) 0 xs (x ∷ [])

steps-all : (es : List BoundExpr) → steps_of_all (exprs es) ≡ sum_by steps_of es
steps-all [] = refl
steps-all (x ∷ es) = ap (λ n. steps_of x + n) (steps-all es) ∙ sym (sum_by-cons steps_of x es)

steps-others : (es : List BoundExpr) → steps_of_others (exprs es) ≡ sum_by (λ x. steps_of x + 2) es
steps-others [] = refl
steps-others (x ∷ es) = ap (λ n. steps_of x + 2 + n) (steps-others es) ∙ sym (sum_by-cons (λ y. steps_of y + 2) x es)

steps-arms : (those : List BoundArm) → steps_of_arms (arms those) ≡ sum_by arm_steps_of those
steps-arms [] = refl
steps-arms (x ∷ those) = ap (λ n. arm_steps_of x + n) (steps-arms those) ∙ sym (sum_by-cons arm_steps_of x those)

steps-matches : (those : List BoundMatch) → steps_of_matches (matches those) ≡ sum_by match_steps_of those
steps-matches [] = refl
steps-matches (x ∷ those) = ap (λ n. match_steps_of x + n) (steps-matches those) ∙ sym (sum_by-cons match_steps_of x those)

-- ---- expressions over lists

pub steps_of-In : (sides : Sides) (a : BoundExpr) (others : List BoundExpr) → steps_of (e.In sides a others) ≡ steps_of a + 2 + sum_by (λ x. steps_of x + 2) others
steps_of-In sides a others = ap (λ n. steps_of a + 2 + n) (steps-others others)

pub steps_of-Coalesce : (f : Builtin) (es : List BoundExpr) → steps_of (e.Coalesce f es) ≡ sum_by (λ x. steps_of x + 2) es + 1
steps_of-Coalesce f es = ap (λ n. n + 1) (steps-others es)

pub steps_of-Choose : (those : List BoundArm) (otherwise : BoundExpr) → steps_of (e.Choose those otherwise) ≡ sum_by arm_steps_of those + steps_of otherwise
steps_of-Choose those otherwise = ap (λ n. n + steps_of otherwise) (steps-arms those)

pub steps_of-Match : (a : BoundExpr) (those : List BoundMatch) (otherwise : BoundExpr) → steps_of (e.Match a those otherwise) ≡ steps_of a + sum_by match_steps_of those + steps_of otherwise
steps_of-Match a those otherwise = ap (λ n. steps_of a + n + steps_of otherwise) (steps-matches those)

pub steps_of-Call : (f : Builtin) (collation : Collation) (args : List BoundExpr) → steps_of (e.Call f collation args) ≡ sum_by steps_of args + 1
steps_of-Call f collation args = ap (λ n. n + 1) (steps-all args)
