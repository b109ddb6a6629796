use Rattle.eng_scalar.proofs.TruthLaws.{truth_of-to_number}
use Rattle.eng_scalar.proofs.choosing.truth.Goals as goal

pub returns : goal.returns
returns c =
    let h = c.to_number.ensures in
    rw (h, truth_of-to_number c.args.value.now) at c.of.ensures
