-- What is ignored changes nothing of what is named.
use Rattle.std.proofs.Common.{◌≡◌, ℕ, List, [], ◌∷◌, ◌++◌, map, Option, Some, None, refl, sym, ap, ◌∙◌, subst}
use Rattle.bound_actions.specs.Froms.{table_of}
use Rattle.bound_ignored.specs.Marked.{marked, marked_as, marked_core, marked_part}
use Rattle.bound_tree.specs.declared.units.BoundCore.{BoundCore}
use Rattle.bound_tree.specs.declared.units.BoundItem.{BoundItem}
use Rattle.bound_tree.specs.declared.units.BoundPart.TheVariants as part
use Rattle.bound_tree.specs.declared.units.BoundPart.{BoundPart}
use Rattle.bound_tree.specs.declared.units.BoundUnit.{BoundUnit}
use Rattle.eng_value.specs.declared.authorizing.Action.{Action}
use Rattle.bound_laws.specs.Order.{CoreIsWithin, GroupsAreWithin, ItemsAreWithin, PartIsWithin, behind, in_front, width_of, widths_of}
use Rattle.bound_laws.specs.Reach.{EachIsWithin, Reach}

module _ (ignored : List Action) (within : Option (List ℕ)) where
  abbrev all_marked : List BoundItem → List BoundItem
  all_marked items = map (marked ignored within) items

  width_marked : (table : Option (List ℕ)) (i : BoundItem) → width_of (marked_as ignored within table i) ≡ width_of i
  width_marked None i = refl
  width_marked (Some table) i = refl

  widths_marked : (items : List BoundItem) → widths_of (all_marked items) ≡ widths_of items
  widths_marked [] = refl
  widths_marked (i ∷ items) = ap (λ width. width ∷ widths_of (all_marked items)) (width_marked (table_of i.source) i) ∙ ap (λ widths. width_of i ∷ widths) (widths_marked items)

  item_marked : (r : Reach) (left : List ℕ) (table : Option (List ℕ)) (i : BoundItem) (items : List BoundItem) → ItemsAreWithin r left (i ∷ items) → ItemsAreWithin r left (marked_as ignored within table i ∷ items)
  item_marked r left None i items h = h
  item_marked r left (Some table) i items h = h

  items_marked : (r : Reach) (left : List ℕ) (items : List BoundItem) → ItemsAreWithin r left items → ItemsAreWithin r left (all_marked items)
  items_marked r left [] h = tt
  items_marked r left (i ∷ items) h =
      item_marked r left (table_of i.source) i (all_marked items) (h.0, h.1, items_marked r (left ++ width_of i ∷ []) items h.2)

  core_marked : (units : List BoundUnit) (arguments : ℕ) (c : BoundCore) → CoreIsWithin units arguments c → CoreIsWithin units arguments (marked_core ignored within c)
  core_marked units arguments c h =
      let front = in_front units arguments in
      let back = behind units arguments c in
      let same = sym (widths_marked c.items) in
      record {
        items = items_marked front [] c.items h.items;
        conjuncts = subst (λ from. EachIsWithin front from c.conjuncts) same h.conjuncts;
        groups = subst (λ from. GroupsAreWithin front back from c.groups) same h.groups;
        results = subst (λ from. EachIsWithin back from c.results) same h.results;
      }

  pub part_marked : (units : List BoundUnit) (arguments : ℕ) (p : BoundPart) → PartIsWithin units arguments p → PartIsWithin units arguments (marked_part ignored within p)
  part_marked units arguments (part.Select c) h = core_marked units arguments c h
  part_marked units arguments (part.Values rows) h = h
