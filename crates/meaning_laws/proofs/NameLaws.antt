-- What is within a FROM names only its items, and is within one that goes on behind it.
use Rattle.std.proofs.Common.{◌<◌, ℕ, zero, suc, List, [], ◌∷◌, ◌++◌, length, arith}
use Rattle.bound_tree.specs.Conditions.{conditions_of}
use Rattle.bound_tree.specs.Exprs as e
use Rattle.bound_tree.specs.Exprs.{AMatch, AnArm, AnExpr, BoundArms, BoundExpr, BoundExprs, BoundMatches, NoArms, NoExprs, NoMatches}
use Rattle.bound_laws.specs.Reach.{AreWithin, ArmsAreWithin, EachIsWithin, HasColumn, HasItem, IsWithin, MatchesAreWithin, Reach}
use Rattle.bound_laws.proofs.Lists.{all_append, column_append, item_append}
use Rattle.meaning_laws.specs.Names.{AreBelow, NamesBelow, items_in, items_in_arms, items_in_matches, items_named}

-- ---- items

column_below : (from : List ℕ) (item place : ℕ) → HasColumn from item place → item < length from
column_below [] item place h = absurd h
column_below (width ∷ from) zero place h = omega arith
column_below (width ∷ from) (suc item) place h = omega (arith, column_below from item place h)

item_below : (from : List ℕ) (item : ℕ) → HasItem from item → item < length from
item_below [] item h = absurd h
item_below (width ∷ from) zero h = omega arith
item_below (width ∷ from) (suc item) h = omega (arith, item_below from item h)

two : (count : ℕ) (xs ys : List ℕ) → AreBelow count xs → AreBelow count ys → AreBelow count (xs ++ ys)
two count xs ys h k = all_append (λ item. item < count) xs ys h k

three : (count : ℕ) (xs ys zs : List ℕ) → AreBelow count xs → AreBelow count ys → AreBelow count zs → AreBelow count (xs ++ ys ++ zs)
three count xs ys zs h k l = two count (xs ++ ys) zs (two count xs ys h k) l

-- ---- what is within names nothing else

module _ (r : Reach) (from : List ℕ) where
  mutual
    pub named_below : (x : BoundExpr) → IsWithin r from x → NamesBelow (length from) x
    named_below (e.Literal l) h = tt
    named_below (e.Parameter number) h = tt
    named_below (e.Column item place) h = (column_below from item place h, tt)
    named_below (e.Rowid item) h = (item_below from item h, tt)
    named_below (e.Argument place) h = tt
    named_below (e.Aggregate slot) h = tt
    named_below (e.Unary o a) h = named_below a h
    named_below (e.Binary o a b) h = two (length from) (items_named a) (items_named b) (named_below a h.0) (named_below b h.1)
    named_below (e.LikeEscaped a b c) h = three (length from) (items_named a) (items_named b) (items_named c) (named_below a h.0) (named_below b h.1) (named_below c h.2)
    named_below (e.Between above below a low high) h = three (length from) (items_named a) (items_named low) (items_named high) (named_below a h.0) (named_below low h.1) (named_below high h.2)
    named_below (e.InList sides a others) h = two (length from) (items_named a) (items_in others) (named_below a h.0) (in_below others h.1)
    named_below (e.ChooseArm arms last) h = two (length from) (items_in_arms arms) (items_named last) (arms_below arms h.0) (named_below last h.1)
    named_below (e.MatchArm a arms last) h = three (length from) (items_named a) (items_in_matches arms) (items_named last) (named_below a h.0) (matches_below arms h.1) (named_below last h.2)
    named_below (e.Iif a b c) h = three (length from) (items_named a) (items_named b) (items_named c) (named_below a h.0) (named_below b h.1) (named_below c h.2)
    named_below (e.CoalesceList f args) h = in_below args h
    named_below (e.CallBuiltin f collation args) h = in_below args h
    named_below (e.CallHost name args) h = in_below args h
    named_below (e.ScalarOf unit handed) h = in_below handed h.1
    named_below (e.ExistsIn unit handed) h = in_below handed h.1
    named_below (e.InUnit sides a unit handed) h = two (length from) (items_named a) (items_in handed) (named_below a h.0) (in_below handed h.2)
    named_below e.RaiseIgnore h = tt
    named_below (e.RaiseAbort text) h = tt

    in_below : (xs : BoundExprs) → AreWithin r from xs → AreBelow (length from) (items_in xs)
    in_below NoExprs h = tt
    in_below (AnExpr a rest) h = two (length from) (items_named a) (items_in rest) (named_below a h.0) (in_below rest h.1)

    arms_below : (xs : BoundArms) → ArmsAreWithin r from xs → AreBelow (length from) (items_in_arms xs)
    arms_below NoArms h = tt
    arms_below (AnArm a b rest) h = three (length from) (items_named a) (items_named b) (items_in_arms rest) (named_below a h.0) (named_below b h.1) (arms_below rest h.2)

    matches_below : (xs : BoundMatches) → MatchesAreWithin r from xs → AreBelow (length from) (items_in_matches xs)
    matches_below NoMatches h = tt
    matches_below (AMatch sides a b rest) h = three (length from) (items_named a) (items_named b) (items_in_matches rest) (named_below a h.0) (named_below b h.1) (matches_below rest h.2)

-- ---- with other items behind

module _ (r : Reach) (from more : List ℕ) where
  mutual
    pub within_more : (x : BoundExpr) → IsWithin r from x → IsWithin r (from ++ more) x
    within_more (e.Literal l) h = tt
    within_more (e.Parameter number) h = tt
    within_more (e.Column item place) h = column_append from more item place h
    within_more (e.Rowid item) h = item_append from more item h
    within_more (e.Argument place) h = h
    within_more (e.Aggregate slot) h = h
    within_more (e.Unary o a) h = within_more a h
    within_more (e.Binary o a b) h = (within_more a h.0, within_more b h.1)
    within_more (e.LikeEscaped a b c) h = (within_more a h.0, within_more b h.1, within_more c h.2)
    within_more (e.Between above below a low high) h = (within_more a h.0, within_more low h.1, within_more high h.2)
    within_more (e.InList sides a others) h = (within_more a h.0, in_more others h.1)
    within_more (e.ChooseArm arms last) h = (arms_more arms h.0, within_more last h.1)
    within_more (e.MatchArm a arms last) h = (within_more a h.0, matches_more arms h.1, within_more last h.2)
    within_more (e.Iif a b c) h = (within_more a h.0, within_more b h.1, within_more c h.2)
    within_more (e.CoalesceList f args) h = in_more args h
    within_more (e.CallBuiltin f collation args) h = in_more args h
    within_more (e.CallHost name args) h = in_more args h
    within_more (e.ScalarOf unit handed) h = (h.0, in_more handed h.1)
    within_more (e.ExistsIn unit handed) h = (h.0, in_more handed h.1)
    within_more (e.InUnit sides a unit handed) h = (within_more a h.0, h.1, in_more handed h.2)
    within_more e.RaiseIgnore h = tt
    within_more (e.RaiseAbort text) h = tt

    in_more : (xs : BoundExprs) → AreWithin r from xs → AreWithin r (from ++ more) xs
    in_more NoExprs h = tt
    in_more (AnExpr a rest) h = (within_more a h.0, in_more rest h.1)

    arms_more : (xs : BoundArms) → ArmsAreWithin r from xs → ArmsAreWithin r (from ++ more) xs
    arms_more NoArms h = tt
    arms_more (AnArm a b rest) h = (within_more a h.0, within_more b h.1, arms_more rest h.2)

    matches_more : (xs : BoundMatches) → MatchesAreWithin r from xs → MatchesAreWithin r (from ++ more) xs
    matches_more NoMatches h = tt
    matches_more (AMatch sides a b rest) h = (within_more a h.0, within_more b h.1, matches_more rest h.2)

-- ---- conditions

-- the two of a BETWEEN name what it names
pub conditions_within : (r : Reach) (from : List ℕ) (x : BoundExpr) → IsWithin r from x → EachIsWithin r from (conditions_of x)
conditions_within r from (e.Between above below a low high) h = ((h.0, h.1), ((h.0, h.2), tt))
conditions_within r from x h = (h, tt)
