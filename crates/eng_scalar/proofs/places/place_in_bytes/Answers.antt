use Rattle.std.proofs.Common.{◌<◌, ◌^◌, length, sym, ◌∙◌, arith, rules}
use Rattle.eng_scalar.proofs.PlaceLaws.{place_small}
use Rattle.eng_scalar.proofs.places.place_in_bytes.Goals as goal

pub number_of-requires : goal.number_of-requires
number_of-requires c =
    let small : length c.args.hay.now < 2 ^ 63 = search rules in
    place_small c.args.needle.now c.args.hay.now c.in-Some.place (2 ^ 63) (sym c.find.ensures ∙ c.in-Some.is) small (omega arith)
