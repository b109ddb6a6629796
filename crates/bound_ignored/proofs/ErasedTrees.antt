-- Stored trees with NULL in place of what is ignored, by their parts.
use Rattle.std.proofs.Common.{rules, ◌≡◌, ℕ, List, map, Some, None, ap, ◌∙◌}
use Rattle.eng_value.specs.declared.builtin.Builtin.{Builtin}
use Rattle.eng_value.specs.declared.collation.Collation.{Collation}
use Rattle.eng_value.specs.declared.operators.BinaryOperator.{BinaryOperator}
use Rattle.eng_value.specs.declared.operators.Sides.{Sides}
use Rattle.eng_value.specs.declared.operators.UnaryOperator.{UnaryOperator}
use Rattle.sql_words.specs.declared.literal.Literal.{Literal}
use Rattle.bound_tree.specs.Exprs as e
use Rattle.bound_tree.specs.Seen.{seen, seen_arm, seen_match}
use Rattle.bound_tree.specs.SeenLaws.{seen-Literal, seen-Parameter, seen-Column, seen-Rowid, seen-Argument, seen-Aggregate, seen-Unary, seen-Binary, seen-LikeEscaped, seen-Between, seen-In, seen-Choose, seen-Match, seen-Iif, seen-Coalesce, seen-Call, seen-HostCall, seen-Scalar, seen-Exists, seen-InQuery, seen-RaiseIgnore, seen-RaiseAbort}
use Rattle.bound_tree.specs.declared.tree.ArmTree.{ArmTree, out-ArmTree}
use Rattle.bound_tree.specs.declared.tree.ExprTree.TheVariants as t
use Rattle.bound_tree.specs.declared.tree.ExprTree.{ExprTree, the_lemmas}
use Rattle.bound_tree.specs.declared.tree.MatchTree.{MatchTree, out-MatchTree}
use Rattle.bound_ignored.specs.Erased.{Marks, erased, erased_arm, erased_match, column_or_rowid, is_marked, is_rowid, or_null}
use Rattle.bound_ignored.proofs.ErasedLists.{erased_arms-arms, erased_in-exprs, erased_matches-matches}

pub erased-Literal : (m : Marks) (l : Literal) → erased m (seen (t.Literal l)) ≡ e.Literal l
erased-Literal m l = ap (erased m) (seen-Literal l)

pub erased-Parameter : (m : Marks) (n : ℕ) → erased m (seen (t.Parameter n)) ≡ e.Parameter n
erased-Parameter m n = ap (erased m) (seen-Parameter n)

pub erased-Column : (m : Marks) (i c : ℕ) → erased m (seen (t.Column i c)) ≡ or_null (is_marked m i (Some c)) (column_or_rowid (is_rowid m i c) i c)
erased-Column m i c = ap (erased m) (seen-Column i c)

pub erased-Rowid : (m : Marks) (i : ℕ) → erased m (seen (t.Rowid i)) ≡ or_null (is_marked m i None) (e.Rowid i)
erased-Rowid m i = ap (erased m) (seen-Rowid i)

pub erased-Argument : (m : Marks) (n : ℕ) → erased m (seen (t.Argument n)) ≡ e.Argument n
erased-Argument m n = ap (erased m) (seen-Argument n)

pub erased-Aggregate : (m : Marks) (n : ℕ) → erased m (seen (t.Aggregate n)) ≡ e.Aggregate n
erased-Aggregate m n = ap (erased m) (seen-Aggregate n)

pub erased-Unary : (m : Marks) (o : UnaryOperator) (a : ExprTree) → erased m (seen (t.Unary o a)) ≡ e.Unary o (erased m (seen a))
erased-Unary m o a = ap (erased m) (seen-Unary o a)

pub erased-Binary : (m : Marks) (o : BinaryOperator) (a b : ExprTree) → erased m (seen (t.Binary o a b)) ≡ e.Binary o (erased m (seen a)) (erased m (seen b))
erased-Binary m o a b = ap (erased m) (seen-Binary o a b)

pub erased-LikeEscaped : (m : Marks) (a b c : ExprTree) → erased m (seen (t.LikeEscaped a b c)) ≡ e.LikeEscaped (erased m (seen a)) (erased m (seen b)) (erased m (seen c))
erased-LikeEscaped m a b c = ap (erased m) (seen-LikeEscaped a b c)

pub erased-Between : (m : Marks) (s u : Sides) (a b c : ExprTree) → erased m (seen (t.Between s u a b c)) ≡ e.Between s u (erased m (seen a)) (erased m (seen b)) (erased m (seen c))
erased-Between m s u a b c = ap (erased m) (seen-Between s u a b c)

pub erased-In : (m : Marks) (s : Sides) (a : ExprTree) (others : List ExprTree) → erased m (seen (t.In s a others)) ≡ e.In s (erased m (seen a)) (map (erased m) (map seen others))
erased-In m s a others = ap (erased m) (seen-In s a others) ∙ ap (e.InList s (erased m (seen a))) (erased_in-exprs m (map seen others))

pub erased-Choose : (m : Marks) (those : List ArmTree) (a : ExprTree) → erased m (seen (t.Choose those a)) ≡ e.Choose (map (erased_arm m) (map seen_arm those)) (erased m (seen a))
erased-Choose m those a = ap (erased m) (seen-Choose those a) ∙ ap (λ x. e.ChooseArm x (erased m (seen a))) (erased_arms-arms m (map seen_arm those))

pub erased-Match : (m : Marks) (a : ExprTree) (those : List MatchTree) (b : ExprTree) → erased m (seen (t.Match a those b)) ≡ e.Match (erased m (seen a)) (map (erased_match m) (map seen_match those)) (erased m (seen b))
erased-Match m a those b = ap (erased m) (seen-Match a those b) ∙ ap (λ x. e.MatchArm (erased m (seen a)) x (erased m (seen b))) (erased_matches-matches m (map seen_match those))

pub erased-Iif : (m : Marks) (a b c : ExprTree) → erased m (seen (t.Iif a b c)) ≡ e.Iif (erased m (seen a)) (erased m (seen b)) (erased m (seen c))
erased-Iif m a b c = ap (erased m) (seen-Iif a b c)

pub erased-Coalesce : (m : Marks) (f : Builtin) (args : List ExprTree) → erased m (seen (t.Coalesce f args)) ≡ e.Coalesce f (map (erased m) (map seen args))
erased-Coalesce m f args = ap (erased m) (seen-Coalesce f args) ∙ ap (e.CoalesceList f) (erased_in-exprs m (map seen args))

pub erased-Call : (m : Marks) (f : Builtin) (c : Collation) (args : List ExprTree) → erased m (seen (t.Call f c args)) ≡ e.Call f c (map (erased m) (map seen args))
erased-Call m f c args = ap (erased m) (seen-Call f c args) ∙ ap (e.CallBuiltin f c) (erased_in-exprs m (map seen args))

pub erased-HostCall : (m : Marks) (name : List ℕ) (args : List ExprTree) → erased m (seen (t.HostCall name args)) ≡ e.HostCall name (map (erased m) (map seen args))
erased-HostCall m name args = ap (erased m) (seen-HostCall name args) ∙ ap (e.CallHost name) (erased_in-exprs m (map seen args))

pub erased-Scalar : (m : Marks) (u : ℕ) (args : List ExprTree) → erased m (seen (t.Scalar u args)) ≡ e.Scalar u (map (erased m) (map seen args))
erased-Scalar m u args = ap (erased m) (seen-Scalar u args) ∙ ap (e.ScalarOf u) (erased_in-exprs m (map seen args))

pub erased-Exists : (m : Marks) (u : ℕ) (args : List ExprTree) → erased m (seen (t.Exists u args)) ≡ e.Exists u (map (erased m) (map seen args))
erased-Exists m u args = ap (erased m) (seen-Exists u args) ∙ ap (e.ExistsIn u) (erased_in-exprs m (map seen args))

pub erased-InQuery : (m : Marks) (s : Sides) (a : ExprTree) (u : ℕ) (args : List ExprTree) → erased m (seen (t.InQuery s a u args)) ≡ e.InQuery s (erased m (seen a)) u (map (erased m) (map seen args))
erased-InQuery m s a u args = ap (erased m) (seen-InQuery s a u args) ∙ ap (e.InUnit s (erased m (seen a)) u) (erased_in-exprs m (map seen args))

pub erased-RaiseIgnore : (m : Marks) → erased m (seen t.RaiseIgnore) ≡ e.RaiseIgnore
erased-RaiseIgnore m = ap (erased m) seen-RaiseIgnore

pub erased-RaiseAbort : (m : Marks) (text : List ℕ) → erased m (seen (t.RaiseAbort text)) ≡ e.RaiseAbort text
erased-RaiseAbort m text = ap (erased m) (seen-RaiseAbort text)

pub ruleset erased_laws = (erased-Literal, erased-Parameter, erased-Column, erased-Rowid, erased-Argument, erased-Aggregate, erased-Unary, erased-Binary, erased-LikeEscaped, erased-Between, erased-In, erased-Choose, erased-Match, erased-Iif, erased-Coalesce, erased-Call, erased-HostCall, erased-Scalar, erased-Exists, erased-InQuery, erased-RaiseIgnore, erased-RaiseAbort)

-- ---- arms

pub seen_arm-out : (arm : ArmTree) → seen_arm arm ≡ record { condition = seen (out-ArmTree arm).condition; value = seen (out-ArmTree arm).value }
seen_arm-out arm = search (rules, the_lemmas)

pub seen_match-out : (arm : MatchTree) → seen_match arm ≡ record { sides = (out-MatchTree arm).sides; operand = seen (out-MatchTree arm).operand; value = seen (out-MatchTree arm).value }
seen_match-out arm = search (rules, the_lemmas)

pub erased_arm-out : (m : Marks) (arm : ArmTree) → erased_arm m (seen_arm arm) ≡ record { condition = erased m (seen (out-ArmTree arm).condition); value = erased m (seen (out-ArmTree arm).value) }
erased_arm-out m arm = ap (erased_arm m) (seen_arm-out arm)

pub erased_match-out : (m : Marks) (arm : MatchTree) → erased_match m (seen_match arm) ≡ record { sides = (out-MatchTree arm).sides; operand = erased m (seen (out-MatchTree arm).operand); value = erased m (seen (out-MatchTree arm).value) }
erased_match-out m arm = ap (erased_match m) (seen_match-out arm)

pub ruleset arm_laws = (erased_arm-out, erased_match-out)
