use Rattle.std.proofs.Common.{◌≡◌, ◌+◌, ◌++◌, ◌∷◌, [], ap, sym, ◌∙◌, add-one, rules}
use Rattle.vm_code.specs.Machine.{good_or_null, read, values_from}
use Rattle.vm_code.proofs.Registers.{values_last}
use Rattle.vm_store.proofs.registers.Registers.values.Goals as goal

pub loop-i-preserved : goal.loop-i-preserved
loop-i-preserved c =
    let registers = c.args.self.now in
    let same : c.deref.result.now ≡ registers = search rules in
    c.in_ok-push.ensures.ok
    ∙ ap (λ l. l ++ c.in_ok-value.field-0 ∷ []) c.loop-i.invariant
    ∙ ap (λ v. values_from registers c.args.first c.loop-i.i ++ v ∷ []) c.in_ok-value.ensures
    ∙ ap (λ l. values_from registers c.args.first c.loop-i.i ++ good_or_null (read l (c.args.first + c.loop-i.i)) ∷ []) same
    ∙ sym (values_last registers c.loop-i.i c.args.first)
    ∙ ap (values_from registers c.args.first) (sym (add-one c.loop-i.i))
