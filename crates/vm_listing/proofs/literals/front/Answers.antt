use Rattle.std.proofs.Common.{arith}
use Rattle.std.proofs.lemmas.Grind.{common_steps}
use Rattle.vm_listing.proofs.Fronts.{front-cut}
use Rattle.vm_listing.proofs.literals.front.Goals as goal

pub returns : goal.returns
returns c =
    let floor = c.floor_char_boundary in
    let cut = front-cut c.args.text.now c.args.most floor.result c.requires floor.ensures.bound floor.ensures.boundary floor.ensures.nearest in
    grind (arith, common_steps)
