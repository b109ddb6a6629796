-- The order of loops.
use Rattle.std.specs.Prelude.{◌≡◌, ℕ, ◌≤◌, ◌<◌, Bool, false, List, drop, length, map}
use Rattle.std.specs.List.{AllByRecursion}
use Rattle.plan_join.specs.declared.placing.Placed.{Placed}
use Rattle.plan_tree.specs.Assigned.{Reordered, numbered}
use Rattle.sql_meaning.specs.declared.bound.FromTable.{FromTable}
use Rattle.sql_meaning.specs.declared.bound.Join.TheVariants.{Inner}

abbrev pub item_at : Placed → ℕ × FromTable
item_at s = (s.place, s.item.now)

abbrev pub items_at : List Placed → List (ℕ × FromTable)
items_at order = map item_at order

-- it comes of the order of the FROM by exchanges of neighbours of which neither is a LEFT JOIN, and is that order where none was moved
pub record IsOrderOf (from : List FromTable) (order : List Placed) (moved : Bool) : Type 0 where
  pub reordered : Reordered (numbered 0 from) (items_at order)
  pub unmoved : moved ≡ false → items_at order ≡ numbered 0 from

-- it is no LEFT JOIN
abbrev pub IsInner : Placed → Type 0
IsInner s = s.item.now.join ≡ Inner

-- an item may go in front of those from this place on: they and it are no LEFT JOINs
pub record IsSlotFor (order : List Placed) (item : FromTable) (slot : ℕ) : Type 0 where
  pub within : slot ≤ length order
  pub inner : slot < length order → item.join ≡ Inner
  pub others : AllByRecursion IsInner (drop slot order)
