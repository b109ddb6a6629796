use Rattle.std.proofs.Common.{◌++◌, ◌%◌, ◌∷◌, [], List, ℕ, sym, ap, ◌∙◌, append_assoc, arith}
use Rattle.eng_record.proofs.Varints.{varint_len_is}
use Rattle.eng_record.proofs.WritingLoops.{varint_short, varint_long}
use Rattle.eng_record.proofs.varint.push_varint.Goals as goal

pub overflow_sub-varint_len : goal.overflow_sub-varint_len
overflow_sub-varint_len c = omega (arith, (varint_len_is c.args.n).least)

pub push_leading-requires-else-n-clause-few : goal.push_leading-requires-else-n-clause-few
push_leading-requires-else-n-clause-few c = omega (arith, (varint_len_is c.args.n).most)

pub push_leading-requires-else-n-clause-fits : goal.push_leading-requires-else-n-clause-fits
push_leading-requires-else-n-clause-fits c = rw c.varint_len.ensures ((varint_len_is c.args.n).short (omega arith)).1

pub returns-in_ok-push : goal.returns-in_ok-push
returns-in_ok-push c =
    let n = c.args.n in
    c.in_ok-push.ensures.items
    ∙ ap (λ (t : List ℕ). t ++ n % 256 ∷ []) c.in_ok-push_leading.ensures
    ∙ append_assoc c.args.out.now.items _ _
    ∙ ap (λ (t : List ℕ). c.args.out.now.items ++ t) (sym (varint_long n (omega arith)))

pub returns-in_ok-push-2 : goal.returns-in_ok-push-2
returns-in_ok-push-2 c =
    let n = c.args.n in
    let old = c.args.out.now.items in
    c.in_ok-push-2.ensures.items
    ∙ ap (λ (t : List ℕ). t ++ n % 128 ∷ []) c.in_ok-push_leading-2.ensures
    ∙ append_assoc old _ _
    ∙ rw c.varint_len.ensures (ap (λ (t : List ℕ). old ++ t) (sym (varint_short n (omega arith))))
