use Rattle.std.proofs.Common.{◌&&◌, ◌≡◌, ◌∙◌, false, None, Some, sym, ap}
use Rattle.std.specs.Str.Parse.{signed_digits_value}
use Rattle.std.specs.Prelude.{if◌then◌else◌}
use Rattle.eng_number.specs.Numbers.{fits_integer, whole_number}
use Rattle.eng_number.proofs.Lengths.{text-is}
use Rattle.eng_number.proofs.numbers.integer_of.Goals as goal

pub value-requires : goal.value-requires
value-requires c = text-is whole_number c.args.number.now c.whole_len.result c.whole_len.ensures ∙ sym c.if-eq.ensures

pub returns-else-eq : goal.returns-else-eq
returns-else-eq c =
    let number = c.args.number.now in
    let other : whole_number number ≡ false = text-is whole_number number c.whole_len.result c.whole_len.ensures ∙ sym c.if-eq.ensures in
    ap (λ t. if t && fits_integer (signed_digits_value 10 number) then Some (signed_digits_value 10 number) else None) (sym other)
