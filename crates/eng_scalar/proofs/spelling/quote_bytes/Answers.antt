-- Two digits a byte, and what stands round them.
use Rattle.std.proofs.Common.{◌∙◌, ◌<◌, ◌≤◌, ◌++◌, codes, length, length-append, sym, arith}
use Rattle.eng_value.specs.declared.limits.TheConstants.{MAX_VALUE_BYTES}
use Rattle.eng_value.specs.Functions.{hex_of_bytes}
use Rattle.eng_scalar.proofs.SpellingLaws.{length-hex_of_bytes, made-long, made-short}
use Rattle.eng_scalar.proofs.spelling.quote_bytes.Goals as goal

pub returns-then-bytes : goal.returns-then-bytes
returns-then-bytes c =
    let digits = hex_of_bytes c.args.bytes.now in
    let size = length-hex_of_bytes c.args.bytes.now in
    let all = length-append digits (codes "'") in
    let long : MAX_VALUE_BYTES < length (codes "X'" ++ digits ++ codes "'") = omega (arith, size, all) in
    c.bad.ensures ∙ sym (made-long (codes "X'" ++ digits ++ codes "'") long)

pub returns-in_ok-hex_text : goal.returns-in_ok-hex_text
returns-in_ok-hex_text c =
    let digits = hex_of_bytes c.args.bytes.now in
    let size = length-hex_of_bytes c.args.bytes.now in
    let all = length-append digits (codes "'") in
    let short : length (codes "X'" ++ digits ++ codes "'") ≤ MAX_VALUE_BYTES = omega (arith, size, all) in
    let text = c.deref.ensures ∙ c.in_ok-hex_text.ensures in
    rw (made-short (codes "X'" ++ digits ++ codes "'") short) (rw text at c.between.ensures)
