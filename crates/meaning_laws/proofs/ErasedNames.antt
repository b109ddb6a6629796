-- What reads rows as they are stored names no other items.
use Rattle.std.proofs.Common.{◌<◌, ℕ, Bool, true, false, List, [], ◌∷◌, ◌++◌, Some, None}
use Rattle.bound_ignored.specs.Erased.{Marks, column_or_rowid, erased, erased_arms, erased_in, erased_matches, is_marked, is_rowid, or_null}
use Rattle.bound_tree.specs.Exprs as e
use Rattle.bound_tree.specs.Exprs.{AMatch, AnArm, AnExpr, BoundArms, BoundExpr, BoundExprs, BoundMatches, NoArms, NoExprs, NoMatches}
use Rattle.bound_laws.proofs.Lists.{all_append}
use Rattle.meaning_laws.specs.Names.{AreBelow, NamesBelow, items_in, items_in_arms, items_in_matches, items_named}

-- of a list in two parts
pub first_below : (count : ℕ) (xs ys : List ℕ) → AreBelow count (xs ++ ys) → AreBelow count xs
first_below count [] ys h = tt
first_below count (x ∷ xs) ys h = (h.0, first_below count xs ys h.1)

pub rest_below : (count : ℕ) (xs ys : List ℕ) → AreBelow count (xs ++ ys) → AreBelow count ys
rest_below count [] ys h = h
rest_below count (x ∷ xs) ys h = rest_below count xs ys h.1

module _ (m : Marks) (count : ℕ) where
  two : (xs ys us vs : List ℕ) → (AreBelow count xs → AreBelow count us) → (AreBelow count ys → AreBelow count vs) → AreBelow count (xs ++ ys) → AreBelow count (us ++ vs)
  two xs ys us vs f g h = all_append (λ item. item < count) us vs (f (first_below count xs ys h)) (g (rest_below count xs ys h))

  three : (xs ys zs us vs ws : List ℕ) → (AreBelow count xs → AreBelow count us) → (AreBelow count ys → AreBelow count vs) → (AreBelow count zs → AreBelow count ws)
      → AreBelow count (xs ++ ys ++ zs) → AreBelow count (us ++ vs ++ ws)
  three xs ys zs us vs ws f g k h = two (xs ++ ys) zs (us ++ vs) ws (two xs ys us vs f g) k h

  column_kept : (marked rowid : Bool) (item column : ℕ) → item < count → NamesBelow count (or_null marked (column_or_rowid rowid item column))
  column_kept true rowid item column h = tt
  column_kept false true item column h = (h, tt)
  column_kept false false item column h = (h, tt)

  rowid_kept : (marked : Bool) (item : ℕ) → item < count → NamesBelow count (or_null marked (e.Rowid item))
  rowid_kept true item h = tt
  rowid_kept false item h = (h, tt)

  mutual
    pub erased_below : (x : BoundExpr) → NamesBelow count x → NamesBelow count (erased m x)
    erased_below (e.Literal l) h = tt
    erased_below (e.Parameter number) h = tt
    erased_below (e.Column item place) h = column_kept (is_marked m item (Some place)) (is_rowid m item place) item place h.0
    erased_below (e.Rowid item) h = rowid_kept (is_marked m item None) item h.0
    erased_below (e.Argument place) h = tt
    erased_below (e.Aggregate slot) h = tt
    erased_below (e.Unary o a) h = erased_below a h
    erased_below (e.Binary o a b) h = two (items_named a) (items_named b) (items_named (erased m a)) (items_named (erased m b)) (erased_below a) (erased_below b) h
    erased_below (e.LikeEscaped a b c) h = three (items_named a) (items_named b) (items_named c) (items_named (erased m a)) (items_named (erased m b)) (items_named (erased m c)) (erased_below a) (erased_below b) (erased_below c) h
    erased_below (e.Between above below a low high) h =
        three (items_named a) (items_named low) (items_named high) (items_named (erased m a)) (items_named (erased m low)) (items_named (erased m high)) (erased_below a) (erased_below low) (erased_below high) h
    erased_below (e.InList sides a others) h = two (items_named a) (items_in others) (items_named (erased m a)) (items_in (erased_in m others)) (erased_below a) (in_kept others) h
    erased_below (e.ChooseArm arms last) h = two (items_in_arms arms) (items_named last) (items_in_arms (erased_arms m arms)) (items_named (erased m last)) (arms_kept arms) (erased_below last) h
    erased_below (e.MatchArm a arms last) h =
        three (items_named a) (items_in_matches arms) (items_named last) (items_named (erased m a)) (items_in_matches (erased_matches m arms)) (items_named (erased m last)) (erased_below a) (matches_kept arms) (erased_below last) h
    erased_below (e.Iif a b c) h = three (items_named a) (items_named b) (items_named c) (items_named (erased m a)) (items_named (erased m b)) (items_named (erased m c)) (erased_below a) (erased_below b) (erased_below c) h
    erased_below (e.CoalesceList f args) h = in_kept args h
    erased_below (e.CallBuiltin f collation args) h = in_kept args h
    erased_below (e.CallHost name args) h = in_kept args h
    erased_below (e.ScalarOf unit handed) h = in_kept handed h
    erased_below (e.ExistsIn unit handed) h = in_kept handed h
    erased_below (e.InUnit sides a unit handed) h = two (items_named a) (items_in handed) (items_named (erased m a)) (items_in (erased_in m handed)) (erased_below a) (in_kept handed) h
    erased_below e.RaiseIgnore h = tt
    erased_below (e.RaiseAbort text) h = tt

    in_kept : (xs : BoundExprs) → AreBelow count (items_in xs) → AreBelow count (items_in (erased_in m xs))
    in_kept NoExprs h = tt
    in_kept (AnExpr a rest) h = two (items_named a) (items_in rest) (items_named (erased m a)) (items_in (erased_in m rest)) (erased_below a) (in_kept rest) h

    arms_kept : (xs : BoundArms) → AreBelow count (items_in_arms xs) → AreBelow count (items_in_arms (erased_arms m xs))
    arms_kept NoArms h = tt
    arms_kept (AnArm a b rest) h =
        three (items_named a) (items_named b) (items_in_arms rest) (items_named (erased m a)) (items_named (erased m b)) (items_in_arms (erased_arms m rest)) (erased_below a) (erased_below b) (arms_kept rest) h

    matches_kept : (xs : BoundMatches) → AreBelow count (items_in_matches xs) → AreBelow count (items_in_matches (erased_matches m xs))
    matches_kept NoMatches h = tt
    matches_kept (AMatch sides a b rest) h =
        three (items_named a) (items_named b) (items_in_matches rest) (items_named (erased m a)) (items_named (erased m b)) (items_in_matches (erased_matches m rest)) (erased_below a) (erased_below b) (matches_kept rest) h
