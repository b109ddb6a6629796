use Rattle.std.proofs.Common.{◌∙◌, sym, ap}
use Rattle.eng_number.specs.Forms.{longest}
use Rattle.eng_number.specs.Numbers.{decimal_number, integer_of_prefix, number_prefix}
use Rattle.eng_number.proofs.numbers.number_prefix.Goals as goal

pub returns-in-Some : goal.returns-in-Some
unfolding number_prefix
returns-in-Some c =
    c.integer_of.ensures
    ∙ ap integer_of_prefix (sym c.in-Some.ensures.1)
    ∙ ap (λ bytes. integer_of_prefix (longest decimal_number bytes)) c.without_space-bytes.ensures

pub returns-in-None : goal.returns-in-None
unfolding number_prefix
returns-in-None c =
    ap integer_of_prefix (sym c.in-None.ensures)
    ∙ ap (λ bytes. integer_of_prefix (longest decimal_number bytes)) c.without_space-bytes.ensures
