use Rattle.std.proofs.Common.{◌≡◌, ◌-◌, sym, ap, ◌∙◌, arith}
use Rattle.eng_record.specs.Spelling.{header_len, own_len_from, varint_len}
use Rattle.eng_record.proofs.WritingLoops.{own_len_from-ge, own_len_stops, own_len_goes_on, own_len_last}
use Rattle.eng_record.proofs.varint.header_len.Goals as goal

pub returns-in_err-header_len : goal.returns-in_err-header_len
unfolding header_len
returns-in_err-header_len c =
    let k = c.loop-own_len.own_len in
    let least = own_len_from-ge (9 - k) k c.args.types_len in
    rw c.from_residual.ensures (λ lt. c.in_err-header_len.ensures (omega (arith, c.loop-own_len.invariant)))

pub returns-then-varint_len-own_len : goal.returns-then-varint_len-own_len
unfolding header_len
returns-then-varint_len-own_len c =
    let k = c.loop-own_len.own_len in
    let stops = own_len_stops k c.args.types_len (omega arith) (omega (arith, ap varint_len c.in_ok-header_len.ensures.1)) in
    (omega (arith, c.loop-own_len.invariant), omega (arith, c.loop-own_len.invariant))

pub loop-own_len-preserved : goal.loop-own_len-preserved
loop-own_len-preserved c =
    let k = c.loop-own_len.own_len in
    sym (own_len_goes_on k c.args.types_len (omega arith) (omega (arith, ap varint_len c.in_ok-header_len.ensures.1))) ∙ c.loop-own_len.invariant

pub returns : goal.returns
unfolding header_len
returns c =
    let k = c.loop-own_len.own_len in
    let nine : k ≡ 9 = omega arith in
    let last : own_len_from 8 1 c.args.types_len ≡ 9 = sym c.loop-own_len.invariant ∙ own_len_last k c.args.types_len (omega arith) ∙ nine in
    rw last c.checked_add-2.ensures
