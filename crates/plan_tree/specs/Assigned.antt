-- Loops over the items of a FROM, in any order that keeps to its LEFT JOINs, each of which tests the conjuncts that are assigned to its item.
use Rattle.std.specs.Prelude.{◌≡◌, ◌≢◌, ⊤, ℕ, suc, false, List, [], ◌∷◌, ◌++◌}
use Rattle.std.specs.List.{AllByRecursion, flat_map}
use Rattle.bound_tree.specs.Conditions.{conditions_of}
use Rattle.bound_tree.specs.Exprs.{BoundExpr}
use Rattle.eng_value.specs.Arrangements.{Shuffled}
use Rattle.eng_value.specs.declared.value.Value.{Value}
use Rattle.plan_tree.specs.declared.access.Access.{Access}
use Rattle.plan_tree.specs.declared.access.JoinPlan.{JoinPlan}
use Rattle.plan_tree.specs.declared.access.Loop.{Loop}
use Rattle.plan_tree.specs.declared.access.Pairs.{Pairs}
use Rattle.plan_tree.specs.declared.access.Pairs.TheVariants.{Each, OrAlone}
use Rattle.plan_tree.specs.Visits.{AccessFits, Ignores, tested}
use Rattle.sql_meaning.specs.declared.bound.FromTable.{FromTable}
use Rattle.sql_meaning.specs.declared.bound.Join.{Join}
use Rattle.sql_meaning.specs.declared.bound.Join.TheVariants.{Inner, Left}

-- ---- the order of loops

-- the items of a FROM with their places, from a place on
abbrev pub numbered : ℕ → List FromTable → List (ℕ × FromTable)
numbered place [] = []
numbered place (f ∷ from) = (place, f) ∷ numbered (suc place) from

-- what exchanges of neighbours of which neither is a LEFT JOIN make of an order
pub data Reordered : List (ℕ × FromTable) → List (ℕ × FromTable) → Type 0 where
  as_it_is : (order : List (ℕ × FromTable)) → Reordered order order
  behind : (first : ℕ × FromTable) {order other : List (ℕ × FromTable)} → Reordered order other → Reordered (first ∷ order) (first ∷ other)
  exchange : (a b : ℕ × FromTable) (order : List (ℕ × FromTable)) → a.0 ≢ b.0 → a.1.join ≡ Inner → b.1.join ≡ Inner → Reordered (a ∷ b ∷ order) (b ∷ a ∷ order)
  further : {order other last : List (ℕ × FromTable)} → Reordered order other → Reordered other last → Reordered order last

-- ---- loops

-- what an access goes by: of a LEFT JOIN its own ON alone, else what is assigned to the item
abbrev pub served : Join → List BoundExpr → List BoundExpr
served Inner assigned = assigned
served (Left ons) assigned = flat_map conditions_of ons

-- what an access leaves to be tested makes the pairs of a LEFT JOIN
abbrev pub pairs_of : Join → List BoundExpr → Pairs
pairs_of Inner left = Each
pairs_of (Left ons) left = OrAlone left

-- else it rejects rows, as what is assigned to the item of a LEFT JOIN does
abbrev pub checks_of : Join → List BoundExpr → List BoundExpr → List BoundExpr
checks_of Inner left assigned = left
checks_of (Left ons) left assigned = assigned

-- a loop over the item in a place, by an access, which tests what is assigned to it
pub record IsLoopFor (params : List Value) (item : ℕ) (f : FromTable) (assigned : List BoundExpr) (l : Loop) : Type 0 where
  pub place : l.place ≡ item
  pub table : l.table ≡ f.table
  pub access : Access
  pub fits : AccessFits params item f.indexes (served f.join assigned) access
  pub path : l.path ≡ access.path
  pub pairs : l.pairs ≡ pairs_of f.join (tested access.consumed (served f.join assigned))
  pub checks : l.checks ≡ checks_of f.join (tested access.consumed (served f.join assigned)) assigned

-- a loop for each item, in their order
abbrev pub AreLoopsFor : List Value → List (ℕ × FromTable) → List (List BoundExpr) → List Loop → Type 0
AreLoopsFor params [] [] [] = ⊤
AreLoopsFor params (item ∷ order) (here ∷ assigned) (l ∷ loops) =
    IsLoopFor params item.0 item.1 here l × AreLoopsFor params order assigned loops
AreLoopsFor params _ _ _ = ⊥

-- ---- conjuncts

-- it reads no row of these items
abbrev pub IgnoresAll : List (ℕ × FromTable) → BoundExpr → Type 0
IgnoresAll order c = AllByRecursion (λ (item : ℕ × FromTable). Ignores item.0 c) order

-- what is assigned to each item reads none of those that come behind it in the order
abbrev pub AreReady : List (ℕ × FromTable) → List (List BoundExpr) → Type 0
AreReady (item ∷ order) (here ∷ assigned) = AllByRecursion (IgnoresAll order) here × AreReady order assigned
AreReady _ _ = ⊤

abbrev pub all_of : List (List BoundExpr) → List BoundExpr
all_of assigned = flat_map (λ here. here) assigned

-- an item that stands alone tests all of them
abbrev pub TestsAll : List FromTable → List BoundExpr → List BoundExpr → List (List BoundExpr) → Type 0
TestsAll (f ∷ []) conjuncts checks assigned = (checks ≡ []) × (assigned ≡ conjuncts ∷ [])
TestsAll from conjuncts checks assigned = ⊤

-- loops over the items in this order, whose rows are sorted unless it is that of the FROM; each conjunct is tested in front of all loops, or by one of them, where it reads nothing of the items that come behind it in the order
pub record IsAssigned (params : List Value) (from : List FromTable) (conjuncts : List BoundExpr) (order : List (ℕ × FromTable)) (assigned : List (List BoundExpr)) (p : JoinPlan) : Type 0 where
  pub reordered : Reordered (numbered 0 from) order
  pub unsorted : p.sort ≡ false → order ≡ numbered 0 from
  pub loops : AreLoopsFor params order assigned p.loops
  pub ready : AreReady order assigned
  pub first : AllByRecursion (IgnoresAll order) p.checks
  pub all : Shuffled (p.checks ++ all_of assigned) conjuncts
  pub alone : TestsAll from conjuncts p.checks assigned
