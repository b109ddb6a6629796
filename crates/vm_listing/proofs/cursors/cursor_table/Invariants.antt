use Rattle.std.proofs.Common.{◌≡◌, drop}
use Rattle.std.specs.List.{find}
use Rattle.vm_listing.specs.Pieces.{opens}
use Rattle.vm_listing.proofs.cursors.cursor_table.Given as goal

-- the first instruction that opens the cursor is among those behind
abbrev pub invariant-loop-op : goal.invariant-loop-op
invariant-loop-op l = find (opens l.cursor) l.code ≡ find (opens l.cursor) (drop l.op-index l.code)
