-- An expression with NULL in place of what is ignored, and the rowid in place of the column that is it, has as many nodes.
use Rattle.std.proofs.Common.{◌≡◌, ℕ, ◌+◌, Bool, true, false, List, [], ◌∷◌, Some, None, map, refl, ap, ◌∙◌}
use Rattle.bound_tree.specs.Exprs as e
use Rattle.bound_tree.specs.Exprs.{BoundArms, BoundExpr, BoundExprs, BoundMatches, NoExprs, AnExpr, NoArms, AnArm, NoMatches, AMatch}
use Rattle.bound_ignored.specs.Erased.{Marks, column_or_rowid, erased, erased_arms, erased_in, erased_matches, is_marked, is_rowid, or_null}
use Rattle.bound_size.specs.Sizes.{all_nodes, nodes_in, nodes_in_arms, nodes_in_matches, nodes_of}

two : (f : ℕ → ℕ → ℕ) {a a' b b' : ℕ} → a ≡ a' → b ≡ b' → f a b ≡ f a' b'
two f {a} {a'} {b} {b'} p q = ap (λ n. f n b) p ∙ ap (f a') q

three : (f : ℕ → ℕ → ℕ → ℕ) {a a' b b' c c' : ℕ} → a ≡ a' → b ≡ b' → c ≡ c' → f a b c ≡ f a' b' c'
three f {a} {a'} {b} {b'} {c} {c'} p q r = ap (λ n. f n b c) p ∙ two (f a') q r

nodes_of-or_null : (b : Bool) (x : BoundExpr) → nodes_of x ≡ 1 → nodes_of (or_null b x) ≡ 1
nodes_of-or_null true x one = refl
nodes_of-or_null false x one = one

nodes_of-column : (b : Bool) (i c : ℕ) → nodes_of (column_or_rowid b i c) ≡ 1
nodes_of-column true i c = refl
nodes_of-column false i c = refl

module _ (m : Marks) where
  mutual
    pub nodes_of-erased : (x : BoundExpr) → nodes_of (erased m x) ≡ nodes_of x
    nodes_of-erased (e.Literal l) = refl
    nodes_of-erased (e.Parameter n) = refl
    nodes_of-erased (e.Column i c) = nodes_of-or_null (is_marked m i (Some c)) (column_or_rowid (is_rowid m i c) i c) (nodes_of-column (is_rowid m i c) i c)
    nodes_of-erased (e.Rowid i) = nodes_of-or_null (is_marked m i None) (e.Rowid i) refl
    nodes_of-erased (e.Argument n) = refl
    nodes_of-erased (e.Aggregate n) = refl
    nodes_of-erased (e.Unary o a) = ap (λ n. 1 + n) (nodes_of-erased a)
    nodes_of-erased (e.Binary o a b) = two (λ k n. 1 + k + n) (nodes_of-erased a) (nodes_of-erased b)
    nodes_of-erased (e.LikeEscaped a b c) = three (λ j k n. 1 + j + k + n) (nodes_of-erased a) (nodes_of-erased b) (nodes_of-erased c)
    nodes_of-erased (e.Between s u a b c) = three (λ j k n. 1 + j + k + n) (nodes_of-erased a) (nodes_of-erased b) (nodes_of-erased c)
    nodes_of-erased (e.InList s a others) = two (λ k n. 1 + k + n) (nodes_of-erased a) (nodes_in-erased others)
    nodes_of-erased (e.ChooseArm arms a) = two (λ k n. 1 + k + n) (nodes_in_arms-erased arms) (nodes_of-erased a)
    nodes_of-erased (e.MatchArm a arms b) = three (λ j k n. 1 + j + k + n) (nodes_of-erased a) (nodes_in_matches-erased arms) (nodes_of-erased b)
    nodes_of-erased (e.Iif a b c) = three (λ j k n. 1 + j + k + n) (nodes_of-erased a) (nodes_of-erased b) (nodes_of-erased c)
    nodes_of-erased (e.CoalesceList f args) = ap (λ n. 1 + n) (nodes_in-erased args)
    nodes_of-erased (e.CallBuiltin f c args) = ap (λ n. 1 + n) (nodes_in-erased args)
    nodes_of-erased (e.CallHost name args) = ap (λ n. 1 + n) (nodes_in-erased args)
    nodes_of-erased (e.ScalarOf unit handed) = ap (λ n. 1 + n) (nodes_in-erased handed)
    nodes_of-erased (e.ExistsIn unit handed) = ap (λ n. 1 + n) (nodes_in-erased handed)
    nodes_of-erased (e.InUnit s a unit handed) = two (λ k n. 1 + k + n) (nodes_of-erased a) (nodes_in-erased handed)
    nodes_of-erased e.RaiseIgnore = refl
    nodes_of-erased (e.RaiseAbort text) = refl

    nodes_in-erased : (xs : BoundExprs) → nodes_in (erased_in m xs) ≡ nodes_in xs
    nodes_in-erased NoExprs = refl
    nodes_in-erased (AnExpr a rest) = two (λ k n. k + n) (nodes_of-erased a) (nodes_in-erased rest)

    nodes_in_arms-erased : (xs : BoundArms) → nodes_in_arms (erased_arms m xs) ≡ nodes_in_arms xs
    nodes_in_arms-erased NoArms = refl
    nodes_in_arms-erased (AnArm a b rest) = three (λ j k n. 1 + j + k + n) (nodes_of-erased a) (nodes_of-erased b) (nodes_in_arms-erased rest)

    nodes_in_matches-erased : (xs : BoundMatches) → nodes_in_matches (erased_matches m xs) ≡ nodes_in_matches xs
    nodes_in_matches-erased NoMatches = refl
    nodes_in_matches-erased (AMatch s a b rest) = three (λ j k n. 1 + j + k + n) (nodes_of-erased a) (nodes_of-erased b) (nodes_in_matches-erased rest)

  pub all_nodes-erased : (xs : List BoundExpr) → all_nodes (map (erased m) xs) ≡ all_nodes xs
  all_nodes-erased [] = refl
  all_nodes-erased (x ∷ xs) = two (λ k n. k + n) (nodes_of-erased x) (all_nodes-erased xs)
