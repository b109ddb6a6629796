use Rattle.std.proofs.Common.{◌≡◌, ◌∙◌, Bool, List, ℕ, true, false, ap, sym, refl}
use Rattle.std.specs.Str.{is_utf8, IsUtf8}
use Rattle.std.proofs.lemmas.Str.{IsUtf8-from_is_utf8, is_utf8-from_IsUtf8}
use Rattle.eng_value.specs.declared.out.Out.TheVariants.{Good}
use Rattle.eng_value.specs.declared.value.Value.TheVariants as sql
use Rattle.eng_value.proofs.operand_text.OperandText.of_blob.Goals as goal

not_utf8 : (bytes : List ℕ) → (IsUtf8 bytes → ⊥) → is_utf8 bytes ≡ false
not_utf8 bytes other = by (is_utf8 bytes) refl
  where
    by : (t : Bool) → is_utf8 bytes ≡ t → t ≡ false
    by true e = absurd (other (IsUtf8-from_is_utf8 bytes e))
    by false e = refl

pub returns-in-Ok : goal.returns-in-Ok
returns-in-Ok c =
    let utf8 : is_utf8 c.args.blob.now ≡ true = ap is_utf8 (sym c.as_slice.ensures) ∙ is_utf8-from_IsUtf8 _ c.in-Ok.ensures.cases.1 in
    let same : c.in-Ok.text.now ≡ c.args.blob.now = c.in-Ok.ensures.cases.0 ∙ c.as_slice.ensures in
    rw utf8 (ap (λ t. Good (sql.Text t)) same)

pub returns-in-Err : goal.returns-in-Err
returns-in-Err c =
    let other : is_utf8 c.args.blob.now ≡ false = ap is_utf8 (sym c.as_slice.ensures) ∙ not_utf8 _ c.in-Err.ensures.cases.0 in
    rw other cc
