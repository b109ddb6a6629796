use Rattle.std.proofs.Common.{rules}
use Rattle.eng_key.proofs.RowidLaws.{keys_are_of_rowids}
use Rattle.eng_key.proofs.laws.keys_are_of_rowids.Goals as goal

pub returns : goal.returns
returns c = λ n is. keys_are_of_rowids c.args.key.now n (search rules) is
