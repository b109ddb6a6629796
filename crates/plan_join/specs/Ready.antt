-- Where the conjuncts of a FROM are tested.
use Rattle.std.specs.Prelude.{◌≡◌, ℕ, Bool, true, false, not, ◌&&◌, List, [], ◌∷◌, if◌then◌else◌}
use Rattle.std.specs.List.{filter}
use Rattle.bound_tree.specs.Exprs.{BoundExpr}
use Rattle.eng_value.specs.declared.value.Value.{Value}
use Rattle.plan_tree.specs.Assigned.{AreLoopsFor, IsLoopFor}
use Rattle.plan_tree.specs.Ignoring.{ignores}
use Rattle.plan_tree.specs.declared.access.Loop.{Loop}
use Rattle.sql_meaning.specs.declared.bound.FromTable.{FromTable}
use Rattle.sql_meaning.specs.declared.bound.Join.TheVariants.{Inner, Left}

-- it reads no row of these items
abbrev pub reads_none : List (ℕ × FromTable) → BoundExpr → Bool
reads_none [] c = true
reads_none (item ∷ items) c = ignores item.0 c && reads_none items c

abbrev pub is_none : List (ℕ × FromTable) → Bool
is_none [] = true
is_none (item ∷ items) = false

-- it may be tested in front of the loops over these items, which are all that are left; an item that stands alone tests all
abbrev pub is_ready : Bool → List (ℕ × FromTable) → BoundExpr → Bool
is_ready alone left c = if alone then is_none left else reads_none left c

-- those that may be tested in front of the loops that are left, and not in front of these
abbrev pub tested_in : Bool → List (ℕ × FromTable) → List (ℕ × FromTable) → List BoundExpr → List BoundExpr
tested_in alone here left conjuncts = filter (λ c. is_ready alone left c && not (is_ready alone here c)) conjuncts

-- what is assigned to each item, in the order of their loops
abbrev pub assigned_in : Bool → List BoundExpr → List (ℕ × FromTable) → List (List BoundExpr)
assigned_in alone conjuncts [] = []
assigned_in alone conjuncts (item ∷ order) = tested_in alone (item ∷ order) order conjuncts ∷ assigned_in alone conjuncts order

abbrev pub AreLoopsIn : List Value → Bool → List BoundExpr → List (ℕ × FromTable) → List Loop → Type 0
AreLoopsIn params alone conjuncts order loops = AreLoopsFor params order (assigned_in alone conjuncts order) loops

-- ---- the loop over an item, by how it is joined

abbrev pub IsInnerLoop : List Value → ℕ → FromTable → List BoundExpr → Loop → Type 0
IsInnerLoop params place f assigned l = f.join ≡ Inner → IsLoopFor params place f assigned l

abbrev pub IsLeftLoop : List Value → ℕ → FromTable → List BoundExpr → List BoundExpr → Loop → Type 0
IsLeftLoop params place f ons assigned l = f.join ≡ Left ons → IsLoopFor params place f assigned l
