use Rattle.std.proofs.Common.{◌≡◌, Some, None, refl, sym, ap, ◌∙◌}
use Rattle.std.specs.Option.{option_copied}
use Rattle.gen_write.specs.Writes.{plain_literal}
use Rattle.gen_write.specs.declared.source.Kept.TheVariants as kept
use Rattle.gen_write.proofs.Keeping.{keeps_plain, keeps_register}
use Rattle.gen_expr.specs.Needs.{needs_of}
use Rattle.vm_code.specs.Frames.{needing}
use Rattle.gen_write.proofs.source.keep_value.Goals as goal

pub returns-in-Some-clause-keeps : goal.returns-in-Some-clause-keeps
returns-in-Some-clause-keeps c =
    let literal = c.in-Some.literal in
    let is : plain_literal c.args.e.now ≡ Some literal.now = sym c.plain_literal.ensures ∙ ap option_copied c.in-Some.is in
    keeps_plain (needing (needs_of c.args.e.now)) c.args.b.now c.args.causes c.args.e.now (kept.Literal literal) literal.now c.requires.counted is (λ regs. refl)

pub returns-in_ok-op-in-None-clause-keeps : goal.returns-in_ok-op-in-None-clause-keeps
returns-in_ok-op-in-None-clause-keeps c =
    let none : plain_literal c.args.e.now ≡ None = sym c.plain_literal.ensures ∙ ap option_copied c.in-None.is in
    let leaves = rw c.in_ok-register-in-None.ensures.1 at c.in_ok-emit-in-None.ensures.leaves in
    rw c.in_ok-op-in-None.ensures (keeps_register c.args.causes c.in_ok-register-in-None.register c.args.e.now none c.in_ok-register-in-None.ensures.0 c.requires.taken c.requires.counted leaves)
