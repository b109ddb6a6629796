use Rattle.meaning_laws.proofs.ErasedNames.{erased_below}
use Rattle.meaning_laws.proofs.laws.what_reads_stored_rows_names_no_other_items.Goals as goal

pub returns : goal.returns
returns c m count x h = erased_below m count x h
