-- The FROM that runs has as many items as the one that was bound, each as wide, and what is tested is within it.
use Rattle.std.proofs.Common.{◌≡◌, ℕ, suc, List, [], ◌∷◌, ◌++◌, length, Ok, Result, refl, ap, subst, append_assoc}
use Rattle.std.specs.List.{flat_map}
use Rattle.bound_tree.specs.Conditions.{conditions_of}
use Rattle.bound_tree.specs.Exprs.{BoundExpr}
use Rattle.bound_tree.specs.declared.units.BoundItem.{BoundItem}
use Rattle.bound_tree.specs.declared.units.JoinKind.TheVariants as kind
use Rattle.bound_tree.specs.declared.units.JoinKind.{JoinKind}
use Rattle.eng_value.specs.declared.cause.Cause.{Cause}
use Rattle.sql_meaning.proofs.ValidLaws.{same-ok, then-ok}
use Rattle.sql_meaning.specs.Runnables.{FromItem}
use Rattle.sql_meaning.specs.Running.{from_of, item_of_table, join_by, table_of_source, tested_by}
use Rattle.sql_meaning.specs.declared.column.TableEntry.{TableEntry}
use Rattle.sql_words.specs.Refusals.{◌>>=◌}
use Rattle.bound_laws.specs.Order.{ItemsAreWithin, width_of, widths_of}
use Rattle.bound_laws.specs.Reach.{EachIsWithin, IsWithin, Reach}
use Rattle.bound_laws.proofs.Lists.{all_append, all_flat, all_weaker}
use Rattle.meaning_laws.specs.Names.{EachNamesBelow, NamesBelow}
use Rattle.meaning_laws.specs.Runs.{JoinNamesBelow, JoinsAreWithin, widths_in}
use Rattle.meaning_laws.proofs.NameLaws.{conditions_within, named_below, within_more}

one_more : (left : List ℕ) (width : ℕ) → length (left ++ width ∷ []) ≡ suc (length left)
one_more [] width = refl
one_more (x ∷ left) width = ap suc (one_more left width)

pub widths_length : (items : List FromItem) → length (widths_in items) ≡ length items
widths_length [] = refl
widths_length (i ∷ items) = ap suc (widths_length items)

-- ---- what is tested

pub all_conditions : (r : Reach) (from : List ℕ) (xs : List BoundExpr) → EachIsWithin r from xs → EachIsWithin r from (flat_map conditions_of xs)
all_conditions r from xs h = all_flat (IsWithin r from) (IsWithin r from) conditions_of (conditions_within r from) xs h

pub all_below : (r : Reach) (from : List ℕ) (xs : List BoundExpr) → EachIsWithin r from xs → EachNamesBelow (length from) xs
all_below r from xs h = all_weaker (IsWithin r from) (NamesBelow (length from)) (named_below r from) xs h

module _ (r : Reach) where
  tested_kept : (from : List ℕ) (k : JoinKind) (ons : List BoundExpr) → EachIsWithin r from ons → EachIsWithin r from (tested_by k ons)
  tested_kept from kind.Inner ons h = h
  tested_kept from kind.Left ons h = tt

  -- an ON that is tested with the WHERE is within all items
  pub tested_within : (left : List ℕ) (items : List BoundItem) → ItemsAreWithin r left items → EachIsWithin r (left ++ widths_of items) (flat_map (λ (i : BoundItem). tested_by i.join i.ons) items)
  tested_within left [] h = tt
  tested_within left (i ∷ items) h =
      let own : List ℕ = left ++ width_of i ∷ [] in
      let tests : List BoundExpr = tested_by i.join i.ons in
      let others : List BoundExpr = flat_map (λ (i : BoundItem). tested_by i.join i.ons) items in
      let from : List ℕ = own ++ widths_of items in
      subst (λ all. EachIsWithin r all (tests ++ others)) (append_assoc left (width_of i ∷ []) (widths_of items))
      (all_append (IsWithin r from) tests others
      (all_weaker (IsWithin r own) (IsWithin r from) (within_more r own (widths_of items)) tests (tested_kept own i.join i.ons h.1))
      (tested_within own items h.2))

  -- ---- the items

  pairs_below : (from : List ℕ) (k : JoinKind) (ons : List BoundExpr) → EachIsWithin r from ons → JoinNamesBelow (length from) (join_by k ons)
  pairs_below from kind.Inner ons h = tt
  pairs_below from kind.Left ons h = all_below r from (flat_map conditions_of ons) (all_conditions r from ons h)

  pub record FromStands (left : List ℕ) (items : List BoundItem) (from : List FromItem) : Type 0 where
    pub widths : widths_in from ≡ widths_of items
    pub joins : JoinsAreWithin (length left) from

  pub from_stands : (tables : List TableEntry) (left : List ℕ) (items : List BoundItem) (from : List FromItem) → ItemsAreWithin r left items → from_of tables items ≡ Ok from → FromStands left items from
  from_stands tables left [] from h e = subst (FromStands left []) (same-ok [] from e) (record { widths = refl; joins = tt })
  from_stands tables left (i ∷ items) from h e =
      let behind : TableEntry → List FromItem → Result (List FromItem) Cause = λ t others. Ok (item_of_table i t ∷ others) in
      let table = then-ok (table_of_source tables i.source) (λ t. from_of tables items >>= behind t) from e in
      let others = then-ok (from_of tables items) (behind table.0) from table.2 in
      let item : FromItem = item_of_table i table.0 in
      let own : List ℕ = left ++ width_of i ∷ [] in
      let rest = from_stands tables own items others.0 h.2 others.1 in
      subst (FromStands left (i ∷ items)) (same-ok (item ∷ others.0) from others.2) (record {
        widths = ap (λ widths. width_of i ∷ widths) rest.widths;
        joins = subst (λ count. JoinNamesBelow count item.join × JoinsAreWithin count others.0) (one_more left (width_of i)) (pairs_below own i.join i.ons h.1, rest.joins);
      })
