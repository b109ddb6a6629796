use Rattle.std.proofs.Common.{[], ◌≡◌, refl, w64, rules}
use mir.Val.{to_z, of_z}
use Rattle.eng_value.specs.declared.out.Out.TheVariants.{Good}
use Rattle.eng_value.specs.declared.value.Value.TheVariants as value
use Rattle.vm_code.specs.declared.op.Op.TheVariants as op
use Rattle.vm_code.specs.Frames.{needing}
use Rattle.vm_code.proofs.Values.{leaves_op}
use Rattle.gen_expr.proofs.literals.emit_value.Goals as goal

pub returns-in_ok-op-in-Null-clause-leaves : goal.returns-in_ok-op-in-Null-clause-leaves
returns-in_ok-op-in-Null-clause-leaves c =
    rw (c.in-Null.is, c.in_ok-op-in-Null.ensures) (leaves_op (needing []) c.args.b.now (op.Null c.args.to) c.args.to (λ env. Good value.Null) (refl, refl) c.requires.taken c.requires.counted (λ m at s. refl))

pub returns-in_ok-op-in-Integer-clause-leaves : goal.returns-in_ok-op-in-Integer-clause-leaves
returns-in_ok-op-in-Integer-clause-leaves c =
    let same : to_z w64 (of_z w64 c.in-Integer.value) ≡ c.in-Integer.value = search rules in
    let h = rw same at c.in_ok-op-in-Integer.ensures in
    rw (c.in-Integer.is, h) (leaves_op (needing []) c.args.b.now (op.Integer c.in-Integer.value c.args.to) c.args.to (λ env. Good (value.Integer c.in-Integer.value)) (refl, refl) c.requires.taken c.requires.counted (λ m at s. refl))

pub returns-in_ok-op-in-Text-clause-leaves : goal.returns-in_ok-op-in-Text-clause-leaves
returns-in_ok-op-in-Text-clause-leaves c =
    rw (c.in-Text.is, c.in_ok-op-in-Text.ensures, c.in_ok-clone-in-Text.ensures.cases) (leaves_op (needing []) c.args.b.now (op.String8 c.in-Text.text c.args.to) c.args.to (λ env. Good (value.Text c.in-Text.text)) (refl, refl) c.requires.taken c.requires.counted (λ m at s. refl))

pub returns-in_ok-op-in-Blob-clause-leaves : goal.returns-in_ok-op-in-Blob-clause-leaves
returns-in_ok-op-in-Blob-clause-leaves c =
    rw (c.in-Blob.is, c.in_ok-op-in-Blob.ensures, c.in_ok-clone-in-Blob.ensures.cases) (leaves_op (needing []) c.args.b.now (op.Blob c.in-Blob.blob c.args.to) c.args.to (λ env. Good (value.Blob c.in-Blob.blob)) (refl, refl) c.requires.taken c.requires.counted (λ m at s. refl))
