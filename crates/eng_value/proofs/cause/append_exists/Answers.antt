use Rattle.std.proofs.Common.{◌++◌, codes, ap, ◌∙◌}
use Rattle.std.proofs.lemmas.List.{append_assoc}
use Rattle.eng_value.specs.CauseText.{kind_word}
use Rattle.eng_value.proofs.cause.append_exists.Goals as goal

pub returns : goal.returns
returns c =
    let before = c.args.out.now.items in
    let word = kind_word c.args.kind in
    let name = c.args.name.now in
    c.in_ok-extend_from_slice-3.ensures.items
    ∙ ap (λ t. t ++ c.as_bytes-2.result.now) (c.in_ok-extend_from_slice-2.ensures.items
    ∙ ap (λ t. t ++ codes " already exists: ") (c.in_ok-extend_from_slice.ensures.items
    ∙ ap (λ t. before ++ t) (c.as_bytes.ensures.value ∙ c.word.ensures)))
    ∙ ap (λ t. ((before ++ word) ++ codes " already exists: ") ++ t) c.as_bytes-2.ensures
    ∙ append_assoc (before ++ word) (codes " already exists: ") name
    ∙ append_assoc before word (codes " already exists: " ++ name)
