use Rattle.std.proofs.Common.{[], refl}
use Rattle.eng_value.specs.Outs.{bad}
use Rattle.vm_code.specs.declared.op.Op.TheVariants as op
use Rattle.vm_code.specs.Frames.{needing}
use Rattle.vm_code.proofs.Values.{leaves_op}
use Rattle.gen_expr.proofs.literals.emit_literal.Goals as goal

pub returns-in_ok-emit_value-in-Value-clause-leaves :
    goal.returns-in_ok-emit_value-in-Value-clause-leaves
returns-in_ok-emit_value-in-Value-clause-leaves c =
    rw c.in-Value.is c.in_ok-emit_value-in-Value.ensures.leaves

pub returns-in_ok-op-in-Bad-clause-leaves : goal.returns-in_ok-op-in-Bad-clause-leaves
returns-in_ok-op-in-Bad-clause-leaves c =
    rw (c.in-Bad.is, c.in_ok-op-in-Bad.ensures, c.in_ok-clone-in-Bad.ensures.cases) (leaves_op (needing []) c.args.b.now (op.Bad c.in-Bad.cause c.args.to) c.args.to (λ env. bad c.in-Bad.cause) (refl, refl) c.requires.taken c.requires.counted (λ m at s. refl))
