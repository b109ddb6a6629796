-- What stored trees do, by what their parts do.
use Rattle.std.proofs.Common.{rules, ◌≡◌, ℕ, List, [], ◌∷◌, ◌++◌, map, slice_get, ap}
use Rattle.std.specs.Prelude.{codes}
use Rattle.eng_value.specs.declared.builtin.Builtin.{Builtin}
use Rattle.eng_value.specs.declared.collation.Collation.{Collation}
use Rattle.eng_value.specs.declared.operators.BinaryOperator.{BinaryOperator}
use Rattle.eng_value.specs.declared.operators.Sides.{Sides}
use Rattle.eng_value.specs.declared.operators.UnaryOperator.{UnaryOperator}
use Rattle.sql_words.specs.declared.literal.Literal.{Literal}
use Rattle.bound_tree.specs.Exprs.{BoundArm, BoundMatch, arms, exprs, matches}
use Rattle.bound_tree.specs.Seen.{seen, seen_arm, seen_match}
use Rattle.bound_tree.specs.SeenLaws.{seen-Literal, seen-Parameter, seen-Column, seen-Rowid, seen-Argument, seen-Aggregate, seen-Unary, seen-Binary, seen-LikeEscaped, seen-Between, seen-In, seen-Choose, seen-Match, seen-Iif, seen-Coalesce, seen-Call, seen-HostCall, seen-Scalar, seen-Exists, seen-InQuery, seen-RaiseIgnore, seen-RaiseAbort}
use Rattle.bound_tree.specs.declared.tree.ArmTree.{ArmTree, out-ArmTree}
use Rattle.bound_tree.specs.declared.tree.ExprTree.TheVariants as t
use Rattle.bound_tree.specs.declared.tree.ExprTree.{ExprTree, the_lemmas}
use Rattle.bound_tree.specs.declared.tree.MatchTree.{MatchTree, out-MatchTree}
use Rattle.bound_actions.specs.Expressions.{call, column_read, lists_in, pieces_in, pieces_in_arms, pieces_in_matches, pieces_of, rowid_read}
use Rattle.bound_actions.specs.Pieces.{asked, unit_named}
use Rattle.bound_actions.specs.Words.{builtin_word}
use Rattle.bound_actions.specs.declared.pieces.Piece.TheVariants.{Brings}
use Rattle.bound_actions.specs.declared.pieces.Piece.{Piece}
use Rattle.bound_actions.specs.declared.pieces.Spot.{Spot}

pub does-Literal : (u : List (List Piece)) (s : Spot) (l : Literal) → pieces_of u s (seen (t.Literal l)) ≡ []
does-Literal u s l = ap (pieces_of u s) (seen-Literal l)

pub does-Parameter : (u : List (List Piece)) (s : Spot) (n : ℕ) → pieces_of u s (seen (t.Parameter n)) ≡ []
does-Parameter u s n = ap (pieces_of u s) (seen-Parameter n)

pub does-Column : (u : List (List Piece)) (s : Spot) (i c : ℕ) → pieces_of u s (seen (t.Column i c)) ≡ column_read s i c (slice_get s.items i)
does-Column u s i c = ap (pieces_of u s) (seen-Column i c)

pub does-Rowid : (u : List (List Piece)) (s : Spot) (i : ℕ) → pieces_of u s (seen (t.Rowid i)) ≡ rowid_read s i (slice_get s.items i)
does-Rowid u s i = ap (pieces_of u s) (seen-Rowid i)

pub does-Argument : (u : List (List Piece)) (s : Spot) (n : ℕ) → pieces_of u s (seen (t.Argument n)) ≡ Brings n ∷ []
does-Argument u s n = ap (pieces_of u s) (seen-Argument n)

pub does-Aggregate : (u : List (List Piece)) (s : Spot) (n : ℕ) → pieces_of u s (seen (t.Aggregate n)) ≡ unit_named s.slots n
does-Aggregate u s n = ap (pieces_of u s) (seen-Aggregate n)

pub does-Unary : (u : List (List Piece)) (s : Spot) (o : UnaryOperator) (a : ExprTree) → pieces_of u s (seen (t.Unary o a)) ≡ pieces_of u s (seen a)
does-Unary u s o a = ap (pieces_of u s) (seen-Unary o a)

pub does-Binary : (u : List (List Piece)) (s : Spot) (o : BinaryOperator) (a b : ExprTree) → pieces_of u s (seen (t.Binary o a b)) ≡ pieces_of u s (seen a) ++ pieces_of u s (seen b)
does-Binary u s o a b = ap (pieces_of u s) (seen-Binary o a b)

pub does-LikeEscaped : (u : List (List Piece)) (s : Spot) (a b c : ExprTree) → pieces_of u s (seen (t.LikeEscaped a b c)) ≡ pieces_of u s (seen a) ++ pieces_of u s (seen b) ++ pieces_of u s (seen c)
does-LikeEscaped u s a b c = ap (pieces_of u s) (seen-LikeEscaped a b c)

pub does-Between : (u : List (List Piece)) (s : Spot) (f g : Sides) (a b c : ExprTree) → pieces_of u s (seen (t.Between f g a b c)) ≡ pieces_of u s (seen a) ++ pieces_of u s (seen b) ++ pieces_of u s (seen c)
does-Between u s f g a b c = ap (pieces_of u s) (seen-Between f g a b c)

pub does-In : (u : List (List Piece)) (s : Spot) (f : Sides) (a : ExprTree) (others : List ExprTree) → pieces_of u s (seen (t.In f a others)) ≡ pieces_of u s (seen a) ++ pieces_in u s (exprs (map seen others))
does-In u s f a others = ap (pieces_of u s) (seen-In f a others)

pub does-Choose : (u : List (List Piece)) (s : Spot) (those : List ArmTree) (a : ExprTree) → pieces_of u s (seen (t.Choose those a)) ≡ pieces_in_arms u s (arms (map seen_arm those)) ++ pieces_of u s (seen a)
does-Choose u s those a = ap (pieces_of u s) (seen-Choose those a)

pub does-Match : (u : List (List Piece)) (s : Spot) (a : ExprTree) (those : List MatchTree) (b : ExprTree) → pieces_of u s (seen (t.Match a those b)) ≡ pieces_of u s (seen a) ++ pieces_in_matches u s (matches (map seen_match those)) ++ pieces_of u s (seen b)
does-Match u s a those b = ap (pieces_of u s) (seen-Match a those b)

pub does-Iif : (u : List (List Piece)) (s : Spot) (a b c : ExprTree) → pieces_of u s (seen (t.Iif a b c)) ≡ call s (codes "iif") ∷ pieces_of u s (seen a) ++ pieces_of u s (seen b) ++ pieces_of u s (seen c)
does-Iif u s a b c = ap (pieces_of u s) (seen-Iif a b c)

pub does-Coalesce : (u : List (List Piece)) (s : Spot) (f : Builtin) (args : List ExprTree) → pieces_of u s (seen (t.Coalesce f args)) ≡ call s (builtin_word f) ∷ pieces_in u s (exprs (map seen args))
does-Coalesce u s f args = ap (pieces_of u s) (seen-Coalesce f args)

pub does-Call : (u : List (List Piece)) (s : Spot) (f : Builtin) (c : Collation) (args : List ExprTree) → pieces_of u s (seen (t.Call f c args)) ≡ call s (builtin_word f) ∷ pieces_in u s (exprs (map seen args))
does-Call u s f c args = ap (pieces_of u s) (seen-Call f c args)

pub does-HostCall : (u : List (List Piece)) (s : Spot) (name : List ℕ) (args : List ExprTree) → pieces_of u s (seen (t.HostCall name args)) ≡ call s name ∷ pieces_in u s (exprs (map seen args))
does-HostCall u s name args = ap (pieces_of u s) (seen-HostCall name args)

pub does-Scalar : (u : List (List Piece)) (s : Spot) (n : ℕ) (args : List ExprTree) → pieces_of u s (seen (t.Scalar n args)) ≡ asked u n (lists_in u s (exprs (map seen args)))
does-Scalar u s n args = ap (pieces_of u s) (seen-Scalar n args)

pub does-Exists : (u : List (List Piece)) (s : Spot) (n : ℕ) (args : List ExprTree) → pieces_of u s (seen (t.Exists n args)) ≡ asked u n (lists_in u s (exprs (map seen args)))
does-Exists u s n args = ap (pieces_of u s) (seen-Exists n args)

pub does-InQuery : (u : List (List Piece)) (s : Spot) (f : Sides) (a : ExprTree) (n : ℕ) (args : List ExprTree) → pieces_of u s (seen (t.InQuery f a n args)) ≡ pieces_of u s (seen a) ++ asked u n (lists_in u s (exprs (map seen args)))
does-InQuery u s f a n args = ap (pieces_of u s) (seen-InQuery f a n args)

pub does-RaiseIgnore : (u : List (List Piece)) (s : Spot) → pieces_of u s (seen t.RaiseIgnore) ≡ []
does-RaiseIgnore u s = ap (pieces_of u s) seen-RaiseIgnore

pub does-RaiseAbort : (u : List (List Piece)) (s : Spot) (text : List ℕ) → pieces_of u s (seen (t.RaiseAbort text)) ≡ []
does-RaiseAbort u s text = ap (pieces_of u s) (seen-RaiseAbort text)

pub ruleset does_laws = (does-Literal, does-Parameter, does-Column, does-Rowid, does-Argument, does-Aggregate, does-Unary, does-Binary, does-LikeEscaped, does-Between, does-In, does-Choose, does-Match, does-Iif, does-Coalesce, does-Call, does-HostCall, does-Scalar, does-Exists, does-InQuery, does-RaiseIgnore, does-RaiseAbort)

-- ---- arms

arm_parts : (arm : ArmTree) → seen_arm arm ≡ record { condition = seen (out-ArmTree arm).condition; value = seen (out-ArmTree arm).value }
arm_parts arm = search (rules, the_lemmas)

match_parts : (arm : MatchTree) → seen_match arm ≡ record { sides = (out-MatchTree arm).sides; operand = seen (out-MatchTree arm).operand; value = seen (out-MatchTree arm).value }
match_parts arm = search (rules, the_lemmas)

pub does-arms : (u : List (List Piece)) (s : Spot) (arm : ArmTree) (rest : List ArmTree) → pieces_in_arms u s (arms (map seen_arm (arm ∷ rest))) ≡ pieces_of u s (seen (out-ArmTree arm).condition) ++ pieces_of u s (seen (out-ArmTree arm).value) ++ pieces_in_arms u s (arms (map seen_arm rest))
does-arms u s arm rest = ap (λ (x : BoundArm). pieces_in_arms u s (arms (x ∷ map seen_arm rest))) (arm_parts arm)

pub does-matches : (u : List (List Piece)) (s : Spot) (arm : MatchTree) (rest : List MatchTree) → pieces_in_matches u s (matches (map seen_match (arm ∷ rest))) ≡ pieces_of u s (seen (out-MatchTree arm).operand) ++ pieces_of u s (seen (out-MatchTree arm).value) ++ pieces_in_matches u s (matches (map seen_match rest))
does-matches u s arm rest = ap (λ (x : BoundMatch). pieces_in_matches u s (matches (x ∷ map seen_match rest))) (match_parts arm)

pub ruleset list_laws = (does-arms, does-matches)
