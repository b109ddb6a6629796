use Rattle.std.proofs.Common.{sym, ◌∙◌, refl}
use Rattle.vm_check.proofs.Exactly.{program_tells}
use Rattle.vm_check.proofs.checking.check.Goals as goal

pub invariant_of-result : goal.invariant_of-result
invariant_of-result c = (program_tells c.args.program).0 (sym c.is_well.ensures ∙ c.if-is_well.true)

pub returns-then-is_well-clause-exact : goal.returns-then-is_well-clause-exact
returns-then-is_well-clause-exact c = (λ e. (program_tells c.args.program).0 (sym c.is_well.ensures ∙ c.if-is_well.true), λ h. refl)

pub returns-else-is_well-clause-exact : goal.returns-else-is_well-clause-exact
returns-else-is_well-clause-exact c = (λ e. absurd (cc), λ h. sym c.if-is_well.false ∙ c.is_well.ensures ∙ (program_tells c.args.program).1 h)
