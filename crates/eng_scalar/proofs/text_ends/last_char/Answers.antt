use Rattle.std.proofs.Common.{◌≡◌, ◌++◌, ◌∷◌, [], length, sym, ap, ◌∙◌, arith, length-append, rules}
use Rattle.std.proofs.lemmas.List.{nil_from_length, append-nil}
use Rattle.std.proofs.lemmas.Str.{chars_past_char, chars-append, chars-nil, length-encode, len_utf8_bounds, IsUtf8-encode}
use Rattle.std.specs.Str.{chars}
use Rattle.std.specs.Char.{IsScalar}
use Rattle.std.specs.Prelude.{encode_utf8}
use Rattle.eng_scalar.proofs.text_ends.last_char.Goals as goal

pub returns-in-Some : goal.returns-in-Some
returns-in-Some c =
    let last = c.in-Some.c in
    let rest = c.as_str.result.now in
    let split : c.args.text.now ≡ rest ++ encode_utf8 last =
    sym c.chars-rest.ensures.rest ∙ c.in-Some.ensures.steps ∙ ap (λ t. t ++ encode_utf8 last) (sym c.as_str.ensures) in
    let scalar : IsScalar last = search rules in
    let alone : chars (encode_utf8 last) ≡ last ∷ [] = chars_past_char _ [] last (IsUtf8-encode last scalar) (sym (append-nil (encode_utf8 last))) ∙ ap (λ t. last ∷ t) chars-nil in
    (ap chars split ∙ chars-append rest (encode_utf8 last) c.as_str.utf8 ∙ ap (λ t. chars rest ++ t) alone, omega (arith, ap length split, length-append rest (encode_utf8 last), length-encode last, len_utf8_bounds last))

pub returns-in-None : goal.returns-in-None
returns-in-None c = ap chars (sym c.chars-rest.ensures.rest ∙ nil_from_length _ c.in-None.ensures.steps.0) ∙ chars-nil
