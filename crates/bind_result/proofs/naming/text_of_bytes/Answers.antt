use Rattle.std.proofs.Common.{◌≡◌, ◌∙◌, IfOk, sym, subst}
use Rattle.bind_name.proofs.Texts.{utf8_as_text, other_as_text}
use Rattle.bind_result.proofs.naming.text_of_bytes.Goals as goal

pub returns-in-Ok-clause-ok : goal.returns-in-Ok-clause-ok
returns-in-Ok-clause-ok c = subst (λ v. IfOk c.text_of.result (λ t. t ≡ v)) (c.in-Ok.ensures.cases.0 ∙ sym (utf8_as_text _ c.in-Ok.ensures.cases.1)) c.text_of.ensures.ok

pub returns-in-Err-clause-ok : goal.returns-in-Err-clause-ok
returns-in-Err-clause-ok c = subst (λ v. IfOk c.text_of-in-Err.result (λ t. t ≡ v)) (sym (other_as_text _ c.in-Err.ensures.cases.0)) c.text_of-in-Err.ensures.ok
