use Rattle.std.proofs.Common.{◌≡◌, ◌++◌, length, sym, ap, ◌∙◌, arith, length-append}
use Rattle.std.proofs.lemmas.List.{nil_from_length}
use Rattle.std.proofs.lemmas.Str.{chars_past_char, chars-nil, length-encode, len_utf8_bounds}
use Rattle.std.specs.Str.{chars}
use Rattle.std.specs.Prelude.{encode_utf8}
use Rattle.eng_text.proofs.head.first_char.Goals as goal

pub returns-in-Some : goal.returns-in-Some
returns-in-Some c =
    let first = c.in-Some.c in
    let rest = c.as_str.result.now in
    let split : c.args.text.now ≡ encode_utf8 first ++ rest =
    sym c.chars-rest.ensures.rest ∙ c.in-Some.ensures.steps.0 ∙ ap (λ t. encode_utf8 first ++ t) (sym c.as_str.ensures) in
    (chars_past_char _ rest first c.utf8.text split, omega (arith, ap length split, length-append (encode_utf8 first) rest, length-encode first, len_utf8_bounds first))

pub returns-in-None : goal.returns-in-None
returns-in-None c = ap chars (sym c.chars-rest.ensures.rest ∙ nil_from_length _ c.in-None.ensures.steps.0.0) ∙ chars-nil
