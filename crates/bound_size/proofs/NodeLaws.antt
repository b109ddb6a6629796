-- How large lists of bound expressions are, and what a WHERE tests.
use Rattle.std.proofs.Common.{◌≡◌, ◌≤◌, ℕ, ◌+◌, ◌*◌, List, [], ◌∷◌, ◌++◌, map, refl, ap, arith}
use Rattle.std.specs.List.{flat_map}
use Rattle.eng_value.specs.declared.builtin.Builtin.{Builtin}
use Rattle.eng_value.specs.declared.collation.Collation.{Collation}
use Rattle.eng_value.specs.declared.operators.Sides.{Sides}
use Rattle.sql_tree.specs.Sizes.{total}
use Rattle.bound_tree.specs.Exprs as e
use Rattle.bound_tree.specs.Exprs.{BoundArm, BoundExpr, BoundMatch, arms, exprs, matches}
use Rattle.bound_tree.specs.Conditions.{conditions_of}
use Rattle.bound_size.specs.Counts.{nodes_of_arm, nodes_of_match}
use Rattle.bound_size.specs.Sizes.{all_nodes, nodes_in, nodes_in_arms, nodes_in_matches, nodes_of}

-- ---- plain lists

pub nodes-exprs : (es : List BoundExpr) → nodes_in (exprs es) ≡ all_nodes es
nodes-exprs [] = refl
nodes-exprs (a ∷ rest) = ap (λ n. nodes_of a + n) (nodes-exprs rest)

pub nodes-arms : (those : List BoundArm) → nodes_in_arms (arms those) ≡ total (map nodes_of_arm those)
nodes-arms [] = refl
nodes-arms (a ∷ rest) = omega (arith, nodes-arms rest)

pub nodes-matches : (those : List BoundMatch) → nodes_in_matches (matches those) ≡ total (map nodes_of_match those)
nodes-matches [] = refl
nodes-matches (a ∷ rest) = omega (arith, nodes-matches rest)

pub nodes-In : (sides : Sides) (a : BoundExpr) (others : List BoundExpr) → nodes_of (e.In sides a others) ≡ 1 + nodes_of a + all_nodes others
nodes-In sides a others = omega (arith, nodes-exprs others)

pub nodes-Choose : (those : List BoundArm) (last : BoundExpr) → nodes_of (e.Choose those last) ≡ 1 + total (map nodes_of_arm those) + nodes_of last
nodes-Choose those last = omega (arith, nodes-arms those)

pub nodes-Match : (a : BoundExpr) (those : List BoundMatch) (last : BoundExpr) → nodes_of (e.Match a those last) ≡ 1 + nodes_of a + total (map nodes_of_match those) + nodes_of last
nodes-Match a those last = omega (arith, nodes-matches those)

pub nodes-Coalesce : (f : Builtin) (args : List BoundExpr) → nodes_of (e.Coalesce f args) ≡ 1 + all_nodes args
nodes-Coalesce f args = omega (arith, nodes-exprs args)

pub nodes-Call : (f : Builtin) (collation : Collation) (args : List BoundExpr) → nodes_of (e.Call f collation args) ≡ 1 + all_nodes args
nodes-Call f collation args = omega (arith, nodes-exprs args)

pub nodes-HostCall : (name : List ℕ) (args : List BoundExpr) → nodes_of (e.HostCall name args) ≡ 1 + all_nodes args
nodes-HostCall name args = omega (arith, nodes-exprs args)

-- ---- lists behind one another

pub all_nodes-append : (xs ys : List BoundExpr) → all_nodes (xs ++ ys) ≡ all_nodes xs + all_nodes ys
all_nodes-append [] ys = omega arith
all_nodes-append (x ∷ xs) ys = omega (arith, all_nodes-append xs ys)

pub all_nodes-one : (x : BoundExpr) → all_nodes (x ∷ []) ≡ nodes_of x
all_nodes-one x = omega arith

-- ---- what a WHERE tests is at most twice as large as its conditions

pub test_nodes : (t : BoundExpr) → all_nodes (conditions_of t) ≤ 2 * nodes_of t
test_nodes (e.Between above below a low high) = omega arith
test_nodes t = omega arith

pub tests_nodes : (ts : List BoundExpr) → all_nodes (flat_map conditions_of ts) ≤ 2 * all_nodes ts
tests_nodes [] = omega arith
tests_nodes (t ∷ ts) = omega (arith, test_nodes t, tests_nodes ts, all_nodes-append (conditions_of t) (flat_map conditions_of ts))
