use Rattle.std.proofs.Common.{◌≡◌, arith, rules, to_z, of_z, w64, ◌∙◌, ap}
use Rattle.std.specs.Int.{bytes_high_first}
use Rattle.eng_record.specs.Spelling.{integer_len}
use Rattle.eng_record.proofs.WritingLoops.{integer_len_le, lowest_bytes, appended}
use Rattle.eng_record.proofs.writing.push_integer.Goals as goal

pub overflow_sub-integer_len : goal.overflow_sub-integer_len
overflow_sub-integer_len c =
    let same : to_z w64 (of_z w64 c.args.n) ≡ c.args.n = search rules in
    omega (arith, integer_len_le c.args.n, ap integer_len same)

pub returns : goal.returns
returns c =
    let n = c.args.n in
    let same : to_z w64 (of_z w64 n) ≡ n = search rules in
    let len = c.integer_len.ensures ∙ ap integer_len same in
    let whole = c.to_be_bytes.ensures ∙ ap (λ m. bytes_high_first 8 (of_z w64 m)) same in
    let lowest = lowest_bytes c.integer_len.result (of_z w64 n) c.to_be_bytes.result (omega (arith, integer_len_le n, len)) whole in
    appended c.extend_from_slice.result c.args.out.now.items _ _ _ c.extend_from_slice.ensures.items (lowest ∙ ap (λ k. bytes_high_first k (of_z w64 n)) len)
