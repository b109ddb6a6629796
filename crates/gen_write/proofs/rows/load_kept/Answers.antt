use Rattle.std.proofs.Common.{[], refl}
use Rattle.gen_write.specs.declared.source.Kept.TheVariants as kept
use Rattle.gen_write.proofs.Columns.{loads_literal, loads_register}
use Rattle.vm_code.specs.Frames.{needing}
use Rattle.gen_write.proofs.rows.load_kept.Goals as goal

pub returns-in_ok-emit_literal-in-Literal-clause-loads : goal.returns-in_ok-emit_literal-in-Literal-clause-loads
returns-in_ok-emit_literal-in-Literal-clause-loads c =
    let literal = c.in-Literal.literal in
    rw c.in-Literal.is (loads_literal c.args.to (kept.Literal literal) literal.now (λ regs. refl) c.in_ok-emit_literal-in-Literal.ensures.leaves)

pub returns-in_ok-op-in-Register-clause-loads : goal.returns-in_ok-op-in-Register-clause-loads
returns-in_ok-op-in-Register-clause-loads c =
    rw (c.in_ok-op-in-Register.ensures, c.in-Register.is) (loads_register (needing []) c.args.b.now c.in-Register.from c.args.to c.requires.taken c.requires.counted)
