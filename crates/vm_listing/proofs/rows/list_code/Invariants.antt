use Rattle.std.proofs.Common.{◌≡◌, fold, take}
use Rattle.vm_listing.specs.Listing.{with_op}
use Rattle.vm_listing.proofs.rows.list_code.Given as goal

-- the rows of the instructions in front
abbrev pub invariant-loop-op : goal.invariant-loop-op
invariant-loop-op l = l.rows ≡ fold (with_op l.tables l.code l.base) l.fn.rows (take l.op-index l.code)
