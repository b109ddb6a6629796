-- The library's digits are those of the definition.
use Rattle.std.proofs.Common.{◌≡◌, arith}
use Rattle.hex.specs.Hex.{IsBytes, encode_upper}
use Rattle.eng_value.specs.Functions.{hex_of_bytes}
use Rattle.eng_scalar.proofs.SpellingLaws.{encode_upper-hex_of_bytes}
use Rattle.eng_scalar.proofs.spelling.hex_text.Goals as goal

pub returns : goal.returns
returns c =
    let are : IsBytes c.args.bytes.now = λ i. let fits = c.type_inv.bytes i in omega arith in
    let same : encode_upper c.args.bytes.now ≡ hex_of_bytes c.args.bytes.now = encode_upper-hex_of_bytes c.args.bytes.now are in
    rw same at c.encode_upper.ensures
