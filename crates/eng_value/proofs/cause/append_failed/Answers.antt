use Rattle.std.proofs.Common.{◌++◌, codes, ap, ◌∙◌}
use Rattle.std.proofs.lemmas.List.{append_assoc}
use Rattle.eng_value.specs.CauseText.{constraint_words}
use Rattle.eng_value.proofs.cause.append_failed.Goals as goal

pub returns : goal.returns
returns c =
    let before = c.args.out.now.items in
    let word = constraint_words c.args.kind in
    let name = c.args.table.now in
    c.in_ok-extend_from_slice-3.ensures.items
    ∙ ap (λ t. t ++ c.as_bytes-2.result.now) (c.in_ok-extend_from_slice-2.ensures.items
    ∙ ap (λ t. t ++ codes " constraint failed: ") (c.in_ok-extend_from_slice.ensures.items
    ∙ ap (λ t. before ++ t) (c.as_bytes.ensures.value ∙ c.words.ensures)))
    ∙ ap (λ t. ((before ++ word) ++ codes " constraint failed: ") ++ t) c.as_bytes-2.ensures
    ∙ append_assoc (before ++ word) (codes " constraint failed: ") name
    ∙ append_assoc before word (codes " constraint failed: " ++ name)
