use Rattle.std.proofs.Common.{◌≡◌, ℕ, List, ◌-◌, ◌++◌, length, take, refl, sym, ap, ◌∙◌, arith, length-append}
use Rattle.std.proofs.lemmas.List.{take_at}
use Rattle.std.proofs.lemmas.Str.{IsCharBoundary-at_seam}
use Rattle.std.specs.Prelude.{encode_utf8_all}
use Rattle.std.specs.Str.{chars}
use Rattle.eng_scalar.proofs.TextLaws.{chars-front, front-rest}
use Rattle.eng_scalar.proofs.text_ends.front.Goals as goal

pub overflow_sub-text : goal.overflow_sub-text
overflow_sub-text c =
    let first = encode_utf8_all (take c.args.n (chars c.args.text.now)) in
    let rest = c.behind-rest.result.now in
    let split = front-rest c.args.text.now rest c.args.n c.utf8.text c.behind-rest.utf8 c.behind-rest.ensures in
    omega (arith, ap length split, length-append first rest)

pub range-requires-clause-end_boundary : goal.range-requires-clause-end_boundary
range-requires-clause-end_boundary c =
    let first = encode_utf8_all (take c.args.n (chars c.args.text.now)) in
    let rest = c.behind-rest.result.now in
    let split = front-rest c.args.text.now rest c.args.n c.utf8.text c.behind-rest.utf8 c.behind-rest.ensures in
    let end : length c.args.text.now - length rest ≡ length first = omega (arith, ap length split, length-append first rest) in
    rw end (IsCharBoundary-at_seam c.args.text.now first rest split c.behind-rest.utf8)

pub returns : goal.returns
returns c =
    let text = c.args.text.now in
    let first = encode_utf8_all (take c.args.n (chars text)) in
    let rest = c.behind-rest.result.now in
    let split = front-rest text rest c.args.n c.utf8.text c.behind-rest.utf8 c.behind-rest.ensures in
    let size : length text - length rest - 0 ≡ length first = omega (arith, ap length split, length-append first rest) in
    let is : c.range.result.now ≡ first = c.range.ensures.value ∙ ap (λ (n : ℕ). take n text) size ∙ ap (λ (t : List ℕ). take (length first) t) split ∙ take_at first rest (length first) refl in
    chars-front text c.range.result.now rest c.args.n c.utf8.text c.range.utf8 c.behind-rest.ensures (split ∙ ap (λ (t : List ℕ). t ++ rest) (sym is))
