use Rattle.std.proofs.Common.{◌≡◌, length, get_or, subst, sym, ap, ◌∙◌, arith}
use Rattle.eng_value.specs.declared.value.Value.{Value}
use Rattle.eng_record.specs.Spelling.{IsSpellableValue, varint, varint_len, code, type_of}
use Rattle.eng_record.proofs.Varints.{length-varint}
use Rattle.eng_record.proofs.WritingLoops.{flat_map_more_len, all_more}
use Rattle.eng_record.proofs.writing.types_len.Goals as goal

pub loop-value-preserved : goal.loop-value-preserved
loop-value-preserved c =
    let row = c.args.row.now in
    let i = c.loop-value.value-index in
    let v = c.value-item.result in
    let type_spelled = λ (w : Value). varint (code (type_of w)) in
    let more = flat_map_more_len type_spelled row i v c.loop-value-test.true in
    let one : length (type_spelled (get_or row i v)) ≡ c.varint_len.result =
    ap (λ w. length (type_spelled w)) (sym c.value-item.is) ∙ length-varint (code (type_of v)) ∙ ap varint_len (sym c.in_ok-type_code.ensures.1) ∙ sym c.varint_len.ensures in
    record {
      len = omega (arith, more, one, c.loop-value.invariant.len, c.in_ok-len.ensures.1);
      spellable = all_more IsSpellableValue row i v c.loop-value-test.true c.loop-value.invariant.spellable (subst IsSpellableValue c.value-item.is c.in_ok-type_code.ensures.0);
    }
