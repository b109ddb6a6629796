-- Lists within expressions, with NULL in place of what is ignored, are those of their parts.
use Rattle.std.proofs.Common.{◌≡◌, List, [], ◌∷◌, map, refl, ap}
use Rattle.bound_tree.specs.Exprs.{BoundArm, BoundExpr, BoundMatch, AnExpr, AnArm, AMatch, arms, exprs, matches}
use Rattle.bound_ignored.specs.Erased.{Marks, erased, erased_arm, erased_arms, erased_in, erased_match, erased_matches}

pub erased_in-exprs : (m : Marks) (xs : List BoundExpr) → erased_in m (exprs xs) ≡ exprs (map (erased m) xs)
erased_in-exprs m [] = refl
erased_in-exprs m (x ∷ xs) = ap (AnExpr (erased m x)) (erased_in-exprs m xs)

pub erased_arms-arms : (m : Marks) (xs : List BoundArm) → erased_arms m (arms xs) ≡ arms (map (erased_arm m) xs)
erased_arms-arms m [] = refl
erased_arms-arms m (x ∷ xs) = ap (AnArm (erased m x.condition) (erased m x.value)) (erased_arms-arms m xs)

pub erased_matches-matches : (m : Marks) (xs : List BoundMatch) → erased_matches m (matches xs) ≡ matches (map (erased_match m) xs)
erased_matches-matches m [] = refl
erased_matches-matches m (x ∷ xs) = ap (AMatch x.sides (erased m x.operand) (erased m x.value)) (erased_matches-matches m xs)
