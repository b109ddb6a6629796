-- What an expression does: it reads columns, calls functions and asks queries, in the order of its text.
use Rattle.std.specs.Prelude.{ℕ, List, [], ◌∷◌, ◌++◌, Option, Some, None, slice_get, codes}
use Rattle.eng_value.specs.declared.authorizing.ActionKind.TheVariants.{Read, Function}
use Rattle.bound_tree.specs.Exprs as e
use Rattle.bound_tree.specs.Exprs.{BoundArms, BoundExpr, BoundExprs, BoundMatches, NoExprs, AnExpr, NoArms, AnArm, NoMatches, AMatch}
use Rattle.bound_actions.specs.Pieces.{action, asked, unit_named}
use Rattle.bound_actions.specs.Words.{builtin_word}
use Rattle.bound_actions.specs.declared.pieces.Piece.TheVariants.{Does, Brings, Reads}
use Rattle.bound_actions.specs.declared.pieces.Piece.{Piece}
use Rattle.bound_actions.specs.declared.pieces.Readable.{Readable}
use Rattle.bound_actions.specs.declared.pieces.Spot.{Spot}

-- ---- reads: those of a query's columns are nothing themselves

abbrev pub read_as : Spot → ℕ → Option (List ℕ) → Option (List ℕ) → List Piece
read_as s item None table = []
read_as s item (Some column) None = []
read_as s item (Some column) (Some table) = Reads item (action s.within Read table column) ∷ []

abbrev pub column_read : Spot → ℕ → ℕ → Option Readable → List Piece
column_read s item column None = []
column_read s item column (Some r) = read_as s item (slice_get r.columns column) r.table

abbrev pub rowid_read : Spot → ℕ → Option Readable → List Piece
rowid_read s item None = []
rowid_read s item (Some r) = read_as s item (Some (codes "rowid")) r.table

-- ---- calls

abbrev pub call : Spot → List ℕ → Piece
call s name = Does (action s.within Function name [])

-- ---- expressions, over what the units in front do

abbrev mutual
  pub pieces_of : List (List Piece) → Spot → BoundExpr → List Piece
  pieces_of u s (e.Literal l) = []
  pieces_of u s (e.Parameter n) = []
  pieces_of u s (e.Column item column) = column_read s item column (slice_get s.items item)
  pieces_of u s (e.Rowid item) = rowid_read s item (slice_get s.items item)
  pieces_of u s (e.Argument n) = Brings n ∷ []
  pieces_of u s (e.Aggregate n) = unit_named s.slots n
  pieces_of u s (e.Unary o a) = pieces_of u s a
  pieces_of u s (e.Binary o a b) = pieces_of u s a ++ pieces_of u s b
  pieces_of u s (e.LikeEscaped a b c) = pieces_of u s a ++ pieces_of u s b ++ pieces_of u s c
  pieces_of u s (e.Between above below a b c) = pieces_of u s a ++ pieces_of u s b ++ pieces_of u s c
  pieces_of u s (e.InList sides a others) = pieces_of u s a ++ pieces_in u s others
  pieces_of u s (e.ChooseArm arms a) = pieces_in_arms u s arms ++ pieces_of u s a
  pieces_of u s (e.MatchArm a arms b) = pieces_of u s a ++ pieces_in_matches u s arms ++ pieces_of u s b
  pieces_of u s (e.Iif a b c) = call s (codes "iif") ∷ pieces_of u s a ++ pieces_of u s b ++ pieces_of u s c
  pieces_of u s (e.CoalesceList f args) = call s (builtin_word f) ∷ pieces_in u s args
  pieces_of u s (e.CallBuiltin f c args) = call s (builtin_word f) ∷ pieces_in u s args
  pieces_of u s (e.CallHost name args) = call s name ∷ pieces_in u s args
  pieces_of u s (e.ScalarOf unit handed) = asked u unit (lists_in u s handed)
  pieces_of u s (e.ExistsIn unit handed) = asked u unit (lists_in u s handed)
  pieces_of u s (e.InUnit sides a unit handed) = pieces_of u s a ++ asked u unit (lists_in u s handed)
  pieces_of u s e.RaiseIgnore = []
  pieces_of u s (e.RaiseAbort text) = []

  pub pieces_in : List (List Piece) → Spot → BoundExprs → List Piece
  pieces_in u s NoExprs = []
  pieces_in u s (AnExpr a rest) = pieces_of u s a ++ pieces_in u s rest

  pub pieces_in_arms : List (List Piece) → Spot → BoundArms → List Piece
  pieces_in_arms u s NoArms = []
  pieces_in_arms u s (AnArm a b rest) = pieces_of u s a ++ pieces_of u s b ++ pieces_in_arms u s rest

  pub pieces_in_matches : List (List Piece) → Spot → BoundMatches → List Piece
  pieces_in_matches u s NoMatches = []
  pieces_in_matches u s (AMatch sides a b rest) = pieces_of u s a ++ pieces_of u s b ++ pieces_in_matches u s rest

  pub lists_in : List (List Piece) → Spot → BoundExprs → List (List Piece)
  lists_in u s NoExprs = []
  lists_in u s (AnExpr a rest) = pieces_of u s a ∷ lists_in u s rest
