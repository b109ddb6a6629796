use Rattle.vm_code.proofs.Given.{after_given}
use Rattle.vm_code.proofs.laws.what_was_given_before_has_no_influence.Goals as goal

pub returns : goal.returns
returns c = after_given
