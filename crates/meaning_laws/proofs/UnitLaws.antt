-- The part of a query that runs is within the units in front of it, as it was bound and as it is where columns of it are ignored.
use Rattle.std.proofs.Common.{◌≡◌, ℕ, zero, suc, List, [], ◌∷◌, ◌++◌, map, Some, Ok, Err, refl, ap, subst}
use Rattle.std.specs.Prelude.{slice_get}
use Rattle.bound_ignored.specs.Marked.{marked_part, marked_query, marked_unit}
use Rattle.bound_tree.specs.declared.units.BoundPart.{BoundPart}
use Rattle.bound_tree.specs.declared.units.BoundUnit.TheVariants as unit
use Rattle.bound_tree.specs.declared.units.BoundUnit.{BoundUnit}
use Rattle.eng_value.specs.declared.authorizing.Action.{Action}
use Rattle.eng_value.specs.declared.cause.Cause.TheVariants as cause
use Rattle.sql_meaning.proofs.ValidLaws.{if_built-ok, same-ok}
use Rattle.sql_meaning.specs.Running.{first_part, is_plain_query}
use Rattle.bound_laws.specs.Order.{AreInOrderBehind, PartIsWithin, UnitIsWithin}
use Rattle.bound_laws.specs.Reach.{Serves, arguments_of}
use Rattle.meaning_laws.proofs.MarkLaws.{part_marked}

-- a part that is handed so much, behind some units
abbrev pub PartStands : ℕ → BoundPart → Type 0
PartStands given p = (before : List BoundUnit) × PartIsWithin before given p

-- the part that runs of the unit in this place, if one runs
abbrev pub GivesPart : List BoundUnit → ℕ → ℕ → Type 0
GivesPart units place given = (p : BoundPart) → first_part (slice_get units place) ≡ Ok p → PartStands given p

-- what a unit is turned into runs within what that is within
abbrev pub Keeps : (BoundUnit → BoundUnit) → Type 0
Keeps f = (before : List BoundUnit) (u : BoundUnit) (p : BoundPart) → UnitIsWithin before u → first_part (Some (f u)) ≡ Ok p → PartIsWithin before (arguments_of u) p

-- ---- as it was bound

abbrev pub as_bound : BoundUnit → BoundUnit
as_bound u = u

pub all_as_bound : (units : List BoundUnit) → map as_bound units ≡ units
all_as_bound [] = refl
all_as_bound (u ∷ units) = ap (λ others. u ∷ others) (all_as_bound units)

pub bound_keeps : Keeps as_bound
bound_keeps before (unit.Queried q) p h e =
    subst (PartIsWithin before q.arguments) (same-ok q.first p (if_built-ok (is_plain_query q) (Ok q.first) p e).1) h.first
bound_keeps before (unit.Recursed r) p h e = absurd (let bad : Err cause.NotYet ≡ Ok p = e in cc)

-- ---- as it is where columns are ignored

pub marked_keeps : (ignored : List Action) → Keeps (marked_unit ignored)
marked_keeps ignored before (unit.Queried q) p h e =
    let first : BoundPart = marked_part ignored q.within q.first in
    subst (PartIsWithin before q.arguments) (same-ok first p (if_built-ok (is_plain_query (marked_query ignored q)) (Ok first) p e).1)
    (part_marked ignored q.within before q.arguments q.first h.first)
marked_keeps ignored before (unit.Recursed r) p h e = absurd (let bad : Err cause.NotYet ≡ Ok p = e in cc)

-- ---- by its place

module _ (f : BoundUnit → BoundUnit) (keeps : Keeps f) where
  pub gives_part : (before units : List BoundUnit) (place given width : ℕ) → AreInOrderBehind before units → Serves units place given width → GivesPart (map f units) place given
  gives_part before [] place given width order serves p e = absurd serves
  gives_part before (u ∷ units) zero given width order serves p e = (before, subst (λ count. PartIsWithin before count p) serves.0 (keeps before u p order.0 e))
  gives_part before (u ∷ units) (suc place) given width order serves p e = gives_part (before ++ u ∷ []) units place given width order.1 serves p e
