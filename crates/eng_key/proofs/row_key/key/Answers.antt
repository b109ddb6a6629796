use Rattle.std.proofs.Common.{◌≡◌, ap, ◌∙◌, length, min}
use Rattle.std.proofs.lemmas.Slice.Zip.{zip_end}
use Rattle.eng_value.specs.Compare.{bytes_cmp}
use Rattle.eng_key.specs.RowKeys.{row_key}
use Rattle.eng_key.proofs.RowKeyLaws.{is_spelled-all, keeps_order}
use Rattle.eng_key.proofs.row_key.key.Goals as goal

pub returns-clause-key : goal.returns-clause-key
returns-clause-key c =
    let row = c.args.row.now in
    let by = c.args.by.now in
    let n : length c.loop-value.yielded ≡ min (length row) (length by) = zip_end row by c.loop-value.yielded _ c.loop-value.value-iterator c.next.new.self _ (cc) (cc) c.loop-value.yielded_by c.in-None.is c.next.ensures.steps in
    c.new.ensures ∙ (is_spelled-all row by (length c.loop-value.yielded) c.loop-value.key.items n c.loop-value.invariant).0

pub returns-clause-order : goal.returns-clause-order
returns-clause-order c =
    let row = c.args.row.now in
    let by = c.args.by.now in
    let n : length c.loop-value.yielded ≡ min (length row) (length by) = zip_end row by c.loop-value.yielded _ c.loop-value.value-iterator c.next.new.self _ (cc) (cc) c.loop-value.yielded_by c.in-None.is c.next.ensures.steps in
    let all = is_spelled-all row by (length c.loop-value.yielded) c.loop-value.key.items n c.loop-value.invariant in
    λ other others len alike sound. ap (λ k. bytes_cmp k (row_key other others)) (c.new.ensures ∙ all.0) ∙ keeps_order row by all.1 other others len alike sound

pub returns-clause-sound : goal.returns-clause-sound
returns-clause-sound c =
    let row = c.args.row.now in
    let by = c.args.by.now in
    let n : length c.loop-value.yielded ≡ min (length row) (length by) = zip_end row by c.loop-value.yielded _ c.loop-value.value-iterator c.next.new.self _ (cc) (cc) c.loop-value.yielded_by c.in-None.is c.next.ensures.steps in
    (is_spelled-all row by (length c.loop-value.yielded) c.loop-value.key.items n c.loop-value.invariant).1
