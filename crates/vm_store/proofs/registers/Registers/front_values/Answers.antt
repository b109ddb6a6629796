use Rattle.std.proofs.Common.{◌≡◌, ◌+◌, ◌<◌, ◌++◌, Some, None, ap, sym, ◌∙◌, arith, rules}
use Rattle.vm_code.specs.Machine.{outs_from, read}
use Rattle.eng_index.specs.Searching.{front_values}
use Rattle.vm_store.specs.Held.{held_value}
use Rattle.vm_store.proofs.Fronts.{front_ends, front_more, fronts_left}
use Rattle.vm_store.proofs.registers.Registers.front_values.Goals as goal

pub returns-in-None : goal.returns-in-None
returns-in-None c =
    let registers = c.args.self.now in
    let first = c.args.first in
    let i = c.loop-i.i in
    let same : c.deref.result.now ≡ registers = search rules in
    let lt : i < c.args.count = omega arith in
    let bad : held_value (read registers (first + i)) ≡ None = ap (λ l. held_value (read l (first + i))) (sym same) ∙ sym c.in_ok-good_at.ensures ∙ c.in-None.is in
    front_ends registers first c.args.count i lt c.loop-i.values.items (front_values (outs_from registers first c.args.count)) bad c.loop-i.invariant

pub loop-i-preserved : goal.loop-i-preserved
loop-i-preserved c =
    let registers = c.args.self.now in
    let first = c.args.first in
    let i = c.loop-i.i in
    let same : c.deref.result.now ≡ registers = search rules in
    let lt : i < c.args.count = omega arith in
    let good : held_value (read registers (first + i)) ≡ Some c.in-Some.value = ap (λ l. held_value (read l (first + i))) (sym same) ∙ sym c.in_ok-good_at.ensures ∙ c.in-Some.is in
    ap (λ l. l ++ fronts_left registers first c.args.count (i + 1)) c.in_ok-push-in-Some.ensures.items
    ∙ front_more registers first c.args.count i lt c.loop-i.values.items c.in-Some.value (front_values (outs_from registers first c.args.count)) good c.loop-i.invariant
