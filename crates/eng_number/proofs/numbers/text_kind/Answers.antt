use Rattle.std.proofs.Common.{◌≡◌, ◌∙◌, true, false, sym, ap, rules, w64, to_z, of_z}
use Rattle.std.specs.Prelude.{if◌then◌else◌}
use Rattle.std.proofs.lemmas.Bool.{not-true, not-false}
use Rattle.eng_number.specs.declared.numbers.TextKind.TheVariants.{NoNumber, Whole}
use Rattle.eng_number.specs.Numbers.{decimal_number, integer_of, kind_of_number, text_kind}
use Rattle.eng_number.proofs.Lengths.{text-is}
use Rattle.eng_number.proofs.numbers.text_kind.Goals as goal

pub returns-then-ne : goal.returns-then-ne
unfolding text_kind
returns-then-ne c =
    let text = c.trimmed-number.result.now in
    let other : decimal_number text ≡ false = text-is decimal_number text c.number_len.result c.number_len.ensures ∙ not-true _ (sym c.if-ne.ensures) in
    ap (λ t. if t then kind_of_number (integer_of text) else NoNumber) (sym other)
    ∙ ap (λ x. if decimal_number x then kind_of_number (integer_of x) else NoNumber) c.trimmed-number.ensures

pub returns-in-Some : goal.returns-in-Some
unfolding text_kind
returns-in-Some c =
    let text = c.trimmed-number.result.now in
    let number : decimal_number text ≡ true = text-is decimal_number text c.number_len.result c.number_len.ensures ∙ not-false _ (sym c.if-ne.ensures) in
    let same : to_z w64 (of_z w64 c.in-Some.n) ≡ c.in-Some.n = search rules in
    ap Whole same
    ∙ ap kind_of_number c.in-Some.ensures
    ∙ ap (λ t. if t then kind_of_number (integer_of text) else NoNumber) (sym number)
    ∙ ap (λ x. if decimal_number x then kind_of_number (integer_of x) else NoNumber) c.trimmed-number.ensures

pub returns-in-None : goal.returns-in-None
unfolding text_kind
returns-in-None c =
    let text = c.trimmed-number.result.now in
    let number : decimal_number text ≡ true = text-is decimal_number text c.number_len.result c.number_len.ensures ∙ not-false _ (sym c.if-ne.ensures) in
    ap kind_of_number c.in-None.ensures
    ∙ ap (λ t. if t then kind_of_number (integer_of text) else NoNumber) (sym number)
    ∙ ap (λ x. if decimal_number x then kind_of_number (integer_of x) else NoNumber) c.trimmed-number.ensures
