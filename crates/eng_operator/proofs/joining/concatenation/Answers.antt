use Rattle.std.proofs.Common.{◌≡◌, ◌∙◌, ap, sym}
use Rattle.eng_value.specs.OperandTexts.{applied, value_of}
use Rattle.eng_value.specs.Casts.{to_text}
use Rattle.eng_value.specs.Operators.{concatenation_of, joined}
use Rattle.eng_value.specs.Outs.{on_both, turned}
use Rattle.eng_operator.proofs.joining.concatenation.Goals as goal

pub returns-in-Good : goal.returns-in-Good
unfolding concatenation_of
returns-in-Good c =
    let same : joined (value_of c.in-Good.a) (value_of c.in-Good.b) ≡ on_both joined (turned to_text c.args.a.now) (turned to_text c.args.b.now) =
    ap (applied joined) (sym c.in-Good.is) ∙ c.in_ok-a.ensures joined in
    rw same at c.joined.ensures
