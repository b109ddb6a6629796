use Rattle.std.proofs.Common.{◌≡◌, ◌+◌, ◌++◌, ◌∷◌, [], ap, sym, ◌∙◌, add-one, rules}
use Rattle.vm_code.specs.Machine.{outs_from, read}
use Rattle.vm_code.proofs.Registers.{outs_last}
use Rattle.vm_store.proofs.registers.Registers.outs.Goals as goal

pub loop-i-preserved : goal.loop-i-preserved
loop-i-preserved c =
    let registers = c.args.self.now in
    let same : c.deref.result.now ≡ registers = search rules in
    c.in_ok-push.ensures.items
    ∙ ap (λ l. l ++ c.in_ok-copied.field-0 ∷ []) c.loop-i.invariant
    ∙ ap (λ v. outs_from registers c.args.first c.loop-i.i ++ v ∷ []) c.in_ok-copied.ensures
    ∙ ap (λ l. outs_from registers c.args.first c.loop-i.i ++ read l (c.args.first + c.loop-i.i) ∷ []) same
    ∙ sym (outs_last registers c.loop-i.i c.args.first)
    ∙ ap (outs_from registers c.args.first) (sym (add-one c.loop-i.i))
