use Rattle.std.proofs.Common.{[], ap, sym, ◌∙◌}
use Rattle.eng_value.specs.Causes.{only}
use Rattle.eng_value.specs.declared.cause.Cause.TheVariants.{Mismatch}
use Rattle.vm_code.specs.Machine.{given_up, is_integer, read, skip_if}
use Rattle.vm_core.specs.Paused.{state_at}
use Rattle.vm_core.proofs.Steps.{acts_as}
use Rattle.vm_core.proofs.running.Running.must_be_int.Goals as goal

pub returns : goal.returns
returns c w =
    let old = c.args.self.now in
    let s = state_at old w [] in
    acts_as c.give_up.result c.give_up.new.event old w c.give_up.new.self w (λ x. given_up x.stack x.shared c.one.result) (λ x. skip_if (is_integer (read x.regs c.args.register)) x (only Mismatch))
    (ap (given_up s.stack s.shared) c.one.ensures ∙ ap (λ b. skip_if b s (only Mismatch)) (sym c.if-holds_integer.false ∙ c.holds_integer.ensures))
    (c.give_up.ensures w)
