use Rattle.std.proofs.Common.{◌≡◌, ◌∙◌, IfOk, ap, string_bytes, sym, subst}
use Rattle.std.specs.Str.{IsUtf8}
use Rattle.std.proofs.lemmas.Bool.{false≢true}
use Rattle.std.proofs.lemmas.Str.{IsUtf8-string_bytes}
use Rattle.sql_words.specs.Spelled.{as_text, undoubled}
use Rattle.bind_name.proofs.Texts.{utf8_as_text, other_as_text}
use Rattle.bind_name.proofs.quotes.undoubled_text.Goals as goal

pub returns-in-Ok : goal.returns-in-Ok
returns-in-Ok c =
    let same : string_bytes c.in-Ok.text ≡ undoubled c.args.quote c.args.bytes.now = ap (λ v. v.items) c.in-Ok.ensures.ok ∙ c.in_ok-undoubled.ensures in
    let utf8 : as_text (string_bytes c.in-Ok.text) ≡ string_bytes c.in-Ok.text = utf8_as_text _ (IsUtf8-string_bytes c.in-Ok.text) in
    c.new.ensures ∙ sym utf8 ∙ ap as_text same

pub returns : goal.returns
returns c =
    let other : as_text (undoubled c.args.quote c.args.bytes.now) ≡ _ = other_as_text _ (λ utf8. false≢true (c.in-Err.ensures.succeeds (subst IsUtf8 (sym c.in_ok-undoubled.ensures) utf8))) in
    subst (λ v. IfOk c.from_str.result (λ t. t ≡ v)) (sym other) c.from_str.ensures
