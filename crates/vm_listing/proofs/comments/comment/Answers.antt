use Rattle.vm_listing.proofs.comments.comment.Goals as goal

pub returns-in_ok-at-in-NoConflict : goal.returns-in_ok-at-in-NoConflict
returns-in_ok-at-in-NoConflict c = rw (c.in-NoConflict.is, ← c.in_ok-at-in-NoConflict.ensures) c.fits.ensures

pub returns-in-NewRowid : goal.returns-in-NewRowid
returns-in-NewRowid c = rw c.in-NewRowid.is c.new_rowid.ensures
