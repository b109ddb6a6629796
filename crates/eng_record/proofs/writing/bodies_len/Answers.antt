use Rattle.std.proofs.Common.{◌≡◌, length, get_or, sym, ap, ◌∙◌, arith}
use Rattle.eng_record.specs.Spelling.{body}
use Rattle.eng_record.specs.Columns.{body_len}
use Rattle.eng_record.proofs.WritingLoops.{flat_map_more_len, length-body}
use Rattle.eng_record.proofs.writing.bodies_len.Goals as goal

pub loop-value-preserved : goal.loop-value-preserved
loop-value-preserved c =
    let row = c.args.row.now in
    let i = c.loop-value.value-index in
    let v = c.value-item.result in
    let one : length (body (get_or row i v)) ≡ c.body_len.result = ap (λ w. length (body w)) (sym c.value-item.is) ∙ length-body v ∙ ap body_len (sym c.of.ensures.kind) ∙ sym c.body_len.ensures in
    omega (arith, flat_map_more_len body row i v c.loop-value-test.true, one, c.loop-value.invariant, c.in_ok-len.ensures.1)
