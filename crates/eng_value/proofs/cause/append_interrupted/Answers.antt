use Rattle.std.proofs.Common.{◌++◌, codes, ap, ◌∙◌}
use Rattle.std.proofs.lemmas.List.{append_assoc}
use Rattle.std.specs.Fmt.{decimal}
use Rattle.eng_value.proofs.cause.append_interrupted.Goals as goal

pub returns : goal.returns
returns c =
    let before = c.args.out.now.items in
    let number = decimal c.args.instructions in
    c.in_ok-extend_from_slice-3.ensures.items
    ∙ ap (λ t. t ++ codes " instructions") (c.in_ok-extend_from_slice-2.ensures.items
    ∙ ap (λ t. t ++ c.as_bytes.result.now) c.in_ok-extend_from_slice.ensures.items
    ∙ ap (λ t. (before ++ codes "interrupted after ") ++ t) (c.as_bytes.ensures.value ∙ c.format.ensures.text))
    ∙ append_assoc (before ++ codes "interrupted after ") number (codes " instructions")
    ∙ append_assoc before (codes "interrupted after ") (number ++ codes " instructions")
