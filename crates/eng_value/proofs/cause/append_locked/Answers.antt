use Rattle.std.proofs.Common.{◌++◌, codes, ap, ◌∙◌}
use Rattle.std.proofs.lemmas.List.{append_assoc}
use Rattle.std.specs.Fmt.{decimal}
use Rattle.eng_value.proofs.cause.append_locked.Goals as goal

pub returns : goal.returns
returns c =
    let before = c.args.out.now.items in
    let table = c.args.table.now in
    let read = codes " is read by statement " in
    let number = decimal c.args.number in
    c.in_ok-extend_from_slice-4.ensures.items
    ∙ ap (λ t. t ++ c.as_bytes-2.result.now) (c.in_ok-extend_from_slice-3.ensures.items
    ∙ ap (λ t. t ++ read) (c.in_ok-extend_from_slice-2.ensures.items
    ∙ ap (λ t. t ++ c.as_bytes.result.now) c.in_ok-extend_from_slice.ensures.items
    ∙ ap (λ t. (before ++ codes "table ") ++ t) c.as_bytes.ensures))
    ∙ ap (λ t. (((before ++ codes "table ") ++ table) ++ read) ++ t) (c.as_bytes-2.ensures.value ∙ c.format.ensures.text)
    ∙ ap (λ t. (t ++ read) ++ number) (append_assoc before (codes "table ") table)
    ∙ ap (λ t. t ++ number) (append_assoc before (codes "table " ++ table) read)
    ∙ append_assoc before (codes "table " ++ table ++ read) number
