use Rattle.eng_text.proofs.ReplaceLaws.{IsAroundFirst-split}
use Rattle.eng_text.proofs.replacing.around_first.Goals as goal

pub returns : goal.returns
returns c = IsAroundFirst-split c.args.old.now c.args.text.now c.split_once.result c.requires c.split_once.ensures.cases
