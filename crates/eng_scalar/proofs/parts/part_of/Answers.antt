use Rattle.std.proofs.Common.{◌≡◌, ◌+ℤ◌, pos, arith, min}
use Rattle.std.proofs.lemmas.Int.{ints, to_z-of_z, to_z_pos}
use Rattle.eng_value.specs.Functions.{start_of}
use Rattle.eng_scalar.specs.Parts.{in_front}
use Rattle.eng_scalar.proofs.PartLaws.{substr-rest}
use Rattle.eng_scalar.proofs.parts.part_of.Goals as goal

pub returns-in-None-clause-part : goal.returns-in-None-clause-part
returns-in-None-clause-part c =
    let place : c.start_of-from.result ≡ start_of c.args.len c.args.start = grind (arith, ints, to_z-of_z, c.start_of-from.ensures.start) in
    let start : c.within.result.start ≡ min (in_front (start_of c.args.len c.args.start)) c.args.len = grind (arith, ints, to_z-of_z, place, c.within.ensures.start) in
    let end : c.within.result.end ≡ min (in_front (pos c.args.len +ℤ pos 1)) c.args.len = grind (arith, ints, to_z-of_z, to_z_pos, c.within.ensures.end) in
    rw c.in-None.is (substr-rest c.args.start _ _ _ start end)
