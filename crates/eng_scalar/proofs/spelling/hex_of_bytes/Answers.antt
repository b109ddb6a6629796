-- Two digits a byte.
use Rattle.std.proofs.Common.{◌∙◌, ◌<◌, ◌≤◌, length, ap, sym, arith}
use Rattle.eng_value.specs.declared.limits.TheConstants.{MAX_VALUE_BYTES}
use Rattle.eng_value.specs.declared.out.Out.TheVariants.{Good}
use Rattle.eng_value.specs.declared.value.Value.TheVariants.{Text}
use Rattle.eng_value.specs.Functions.{hex_of_bytes}
use Rattle.eng_scalar.proofs.SpellingLaws.{length-hex_of_bytes, made-long, made-short}
use Rattle.eng_scalar.proofs.spelling.hex_of_bytes.Goals as goal

pub returns-then-bytes : goal.returns-then-bytes
returns-then-bytes c =
    let digits = hex_of_bytes c.args.bytes.now in
    let size = length-hex_of_bytes c.args.bytes.now in
    let long : MAX_VALUE_BYTES < length digits = omega (arith, size) in
    c.bad.ensures ∙ sym (made-long digits long)

pub returns-in_ok-hex_text : goal.returns-in_ok-hex_text
returns-in_ok-hex_text c =
    let digits = hex_of_bytes c.args.bytes.now in
    let size = length-hex_of_bytes c.args.bytes.now in
    let short : length digits ≤ MAX_VALUE_BYTES = omega (arith, size) in
    ap (λ t. Good (Text t)) (c.new.ensures ∙ c.in_ok-hex_text.ensures) ∙ sym (made-short digits short)
