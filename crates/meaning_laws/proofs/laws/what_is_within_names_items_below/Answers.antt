use Rattle.meaning_laws.proofs.NameLaws.{named_below}
use Rattle.meaning_laws.proofs.laws.what_is_within_names_items_below.Goals as goal

pub returns : goal.returns
returns c r from x h = named_below r from x h
