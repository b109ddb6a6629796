use Rattle.std.proofs.Common.{◌≡◌, ◌-◌, ◌%◌, ◌^◌, refl, arith, rules}
use Rattle.std.proofs.Math.Nat.{mod-eq_of_lt}
use Rattle.eng_record.proofs.WritingLoops.{leading_goes_on}
use Rattle.eng_record.proofs.varint.push_leading.Goals as goal

pub loop-written-init : goal.loop-written-init
loop-written-init c =
    let all : c.args.count - 0 ≡ c.args.count = omega arith in
    let small : c.args.n % 128 ^ c.args.count ≡ c.args.n = mod-eq_of_lt c.requires.fits in
    rw (all, small) refl

pub loop-written-preserved : goal.loop-written-preserved
loop-written-preserved c = leading_goes_on c.args.count c.loop-written.written c.args.n _ _ _ _ (omega arith) (search rules) c.in_ok-push.ensures.items c.loop-written.invariant
