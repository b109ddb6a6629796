-- Which expressions read nothing of an item's row.
use Rattle.std.specs.Prelude.{◌≡◌, ℕ, nat_eq, Bool, true, false, not, ◌&&◌, refl}
use Rattle.bound_tree.specs.Exprs as e
use Rattle.bound_tree.specs.Exprs.{BoundArms, BoundExpr, BoundExprs, BoundMatches, NoExprs, AnExpr, NoArms, AnArm, NoMatches, AMatch}

abbrev mutual
  -- neither a column of the item in this place nor its rowid stands in it; of what does not run yet nothing is known
  pub ignores : ℕ → BoundExpr → Bool
  ignores item (e.Literal l) = true
  ignores item (e.Parameter number) = true
  ignores item (e.Column other place) = not (nat_eq other item)
  ignores item (e.Rowid other) = not (nat_eq other item)
  ignores item (e.Argument place) = false
  ignores item (e.Aggregate slot) = false
  ignores item (e.Unary op a) = ignores item a
  ignores item (e.Binary op a b) = ignores item a && ignores item b
  ignores item (e.LikeEscaped a b c) = ignores item a && (ignores item b && ignores item c)
  ignores item (e.Between above below a low high) = ignores item a && (ignores item low && ignores item high)
  ignores item (e.InList sides a others) = ignores item a && all_ignore item others
  ignores item (e.ChooseArm arms otherwise) = arms_ignore item arms && ignores item otherwise
  ignores item (e.MatchArm a arms otherwise) = ignores item a && (matches_ignore item arms && ignores item otherwise)
  ignores item (e.Iif a b c) = ignores item a && (ignores item b && ignores item c)
  ignores item (e.CoalesceList f es) = all_ignore item es
  ignores item (e.CallBuiltin f collation args) = all_ignore item args
  ignores item (e.CallHost name args) = false
  ignores item (e.ScalarOf unit args) = false
  ignores item (e.ExistsIn unit args) = false
  ignores item (e.InUnit sides a unit args) = false
  ignores item e.RaiseIgnore = false
  ignores item (e.RaiseAbort text) = false

  pub all_ignore : ℕ → BoundExprs → Bool
  all_ignore item NoExprs = true
  all_ignore item (AnExpr a rest) = ignores item a && all_ignore item rest

  pub arms_ignore : ℕ → BoundArms → Bool
  arms_ignore item NoArms = true
  arms_ignore item (AnArm a b rest) = (ignores item a && ignores item b) && arms_ignore item rest

  pub matches_ignore : ℕ → BoundMatches → Bool
  matches_ignore item NoMatches = true
  matches_ignore item (AMatch sides a b rest) = (ignores item a && ignores item b) && matches_ignore item rest

-- ---- examples

-- a column of another item is known where the item has no row yet, and so is coalesce over such
the_items_on_the_left : (ignores 1 (e.Column 0 2) ≡ true) × (ignores 1 (e.Column 1 0) ≡ false) × (ignores 1 (e.Rowid 1) ≡ false) × (ignores 0 (e.Argument 0) ≡ false)
the_items_on_the_left = (refl, refl, refl, refl)
