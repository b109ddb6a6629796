use Rattle.bind_create.proofs.HoldLaws.{key-keeps}
use Rattle.bind_create.specs.Meant.{creating_of}
use Rattle.bind_create.proofs.columns.key_of.Goals as goal

pub returns : goal.returns
returns c = λ d. key-keeps (creating_of c.args.creating.now) c.as_slice.result.now c.args.parts.now d c.parts_are_there.result c.as_slice.ensures c.parts_are_there.ensures
