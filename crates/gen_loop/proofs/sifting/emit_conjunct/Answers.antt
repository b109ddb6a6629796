use Rattle.std.proofs.Common.{◌≡◌}
use Rattle.std.proofs.lemmas.Result.{on_ok_weaker}
use Rattle.gen_loop.proofs.Conjuncts.{sifts_conjunct}
use Rattle.vm_code.specs.Draft.{given_back, with_op}
use Rattle.vm_code.specs.declared.op.Op.TheVariants as op
use Rattle.gen_loop.proofs.sifting.emit_conjunct.Goals as goal

pub returns-clause-sifts : goal.returns-clause-sifts
returns-clause-sifts c =
    let leaves = rw c.in_ok-value.ensures.1 at c.in_ok-emit_test.ensures.leaves in
    on_ok_weaker {P = c.add_causes.new.b ≡ given_back (with_op c.reject.new.b (op.Merge c.in_ok-value.value c.args.causes))} c.add_causes.result (λ is. rw (is, c.in_ok-reject.ensures) (sifts_conjunct c.args.b.now c.emit_test.new.b c.args.conjunct.now c.in_ok-value.value c.args.causes c.args.next c.in_ok-value.ensures.0 leaves c.requires.taken)) c.add_causes.ensures
