use Rattle.std.proofs.Common.{◌≡◌, fold, take}
use Rattle.vm_listing.specs.Listing.{with_unit}
use Rattle.vm_listing.proofs.rows.listing.Given as goal

-- the rows of the main unit, and behind them those of the units in front
abbrev pub invariant-loop-unit : goal.invariant-loop-unit
invariant-loop-unit l = l.rows ≡ fold (with_unit l.tables) l.initial.rows (take l.unit-index l.unit-items)
