use Rattle.std.proofs.Common.{◌≡◌, ◌++◌, List, ℕ, codes, ◌∙◌, ap, append_assoc}
use Rattle.std.specs.Fmt.{decimal}
use Rattle.sql_shell.proofs.printing.print_bad_place.Goals as goal

abbrev words : List ℕ
words = codes "not UTF-8 at byte "

pub returns : goal.returns
returns c =
    let first : c.extend_from_slice.new.self.items ≡ c.args.lines.now.items ++ words = c.in_ok-extend_from_slice.ensures.items in
    let second : c.extend_from_slice-2.new.self.items ≡ c.extend_from_slice.new.self.items ++ decimal c.args.place =
    c.in_ok-extend_from_slice-2.ensures.items ∙ ap (λ xs. c.extend_from_slice.new.self.items ++ xs) (c.as_bytes.ensures.value ∙ c.format.ensures.text) in
    second ∙ (ap (λ xs. xs ++ decimal c.args.place) first ∙ append_assoc c.args.lines.now.items words (decimal c.args.place))
