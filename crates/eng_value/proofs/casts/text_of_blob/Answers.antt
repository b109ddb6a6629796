use Rattle.std.proofs.Common.{◌≡◌, ◌∙◌, Bool, List, ℕ, true, false, ap, sym, refl, string_bytes}
use Rattle.std.specs.Str.{is_utf8, IsUtf8}
use Rattle.std.proofs.lemmas.Str.{IsUtf8-string_bytes, IsUtf8-from_is_utf8, is_utf8-from_IsUtf8}
use Rattle.std.proofs.lemmas.Bool.{false≢true}
use Rattle.eng_value.proofs.casts.text_of_blob.Goals as goal

not_utf8 : (bytes : List ℕ) → (IsUtf8 bytes → ⊥) → is_utf8 bytes ≡ false
not_utf8 bytes other = by (is_utf8 bytes) refl
  where
    by : (t : Bool) → is_utf8 bytes ≡ t → t ≡ false
    by true e = absurd (other (IsUtf8-from_is_utf8 bytes e))
    by false e = refl

pub returns-in-Ok : goal.returns-in-Ok
returns-in-Ok c =
    let same : string_bytes c.in-Ok.text ≡ c.args.blob = ap (λ v. v.items) c.in-Ok.ensures.ok ∙ c.into_vec.ensures in
    let utf8 : is_utf8 c.args.blob ≡ true = ap is_utf8 (sym same) ∙ is_utf8-from_IsUtf8 _ (IsUtf8-string_bytes c.in-Ok.text) in
    rw utf8 cc

pub returns : goal.returns
returns c =
    let items : c.into_vec.result.items ≡ c.args.blob = c.into_vec.ensures in
    let other : is_utf8 c.args.blob ≡ false = ap is_utf8 (sym items) ∙ not_utf8 _ (λ utf8. false≢true (c.in-Err.ensures.succeeds utf8)) in
    rw other c.bad.ensures
