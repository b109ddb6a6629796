use Rattle.std.proofs.Common.{◌≡◌, ◌+ℤ◌, arith, min}
use Rattle.std.proofs.lemmas.Int.{ints, to_z-of_z}
use Rattle.eng_scalar.specs.Parts.{in_front}
use Rattle.eng_scalar.proofs.PartLaws.{substr-negative, substr-on}
use Rattle.eng_scalar.proofs.parts.part_of_length.Goals as goal

pub returns-then-wanted-lt0-clause-part : goal.returns-then-wanted-lt0-clause-part
returns-then-wanted-lt0-clause-part c =
    let fits = c.ranges.wanted in
    let below = simp to_z-of_z at c.if-wanted-lt0.true in
    let start : c.within.result.start ≡ min (in_front (c.args.from +ℤ c.args.wanted)) c.args.len = grind (arith, ints, to_z-of_z, c.within.ensures.start) in
    let end : c.within.result.end ≡ min (in_front c.args.from) c.args.len = grind (arith, ints, to_z-of_z, c.within.ensures.end) in
    substr-negative c.args.from c.args.wanted _ _ _ below start end

pub returns-else-wanted-lt0-clause-part : goal.returns-else-wanted-lt0-clause-part
returns-else-wanted-lt0-clause-part c =
    let fits = c.ranges.wanted in
    let above = simp to_z-of_z at c.if-wanted-lt0.false in
    let start : c.within-else-wanted-lt0.result.start ≡ min (in_front c.args.from) c.args.len = grind (arith, ints, to_z-of_z, c.within-else-wanted-lt0.ensures.start) in
    let end : c.within-else-wanted-lt0.result.end ≡ min (in_front (c.args.from +ℤ c.args.wanted)) c.args.len = grind (arith, ints, to_z-of_z, c.within-else-wanted-lt0.ensures.end) in
    substr-on c.args.from c.args.wanted _ _ _ above start end
