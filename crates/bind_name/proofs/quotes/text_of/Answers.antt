use Rattle.std.proofs.Common.{◌≡◌, ◌∙◌, IfOk, sym, subst}
use Rattle.bind_name.proofs.Texts.{utf8_as_text, other_as_text}
use Rattle.bind_name.proofs.quotes.text_of.Goals as goal

pub returns-in-Ok : goal.returns-in-Ok
returns-in-Ok c = subst (λ v. IfOk c.from_str.result (λ t. t ≡ v)) (c.in-Ok.ensures.cases.0 ∙ sym (utf8_as_text _ c.in-Ok.ensures.cases.1)) c.from_str.ensures

pub returns-in-Err : goal.returns-in-Err
returns-in-Err c = subst (λ v. IfOk c.from_str-in-Err.result (λ t. t ≡ v)) (sym (other_as_text _ c.in-Err.ensures.cases.0)) c.from_str-in-Err.ensures
