use Rattle.std.proofs.Common.{rules, ◌≡◌, [], ◌∷◌, ◌++◌, length}
use Rattle.vm_code.proofs.SetNumbers.{seen_more}
use Rattle.vm_code.proofs.track.Track.change.Goals as goal

pub returns-in-Ok : goal.returns-in-Ok
returns-in-Ok c =
    let all_is : c.push.new.self.items ≡ c.self.inside.sets.items ++ c.args.now ∷ [] = search rules in
    let long : c.in-Ok.number ≡ length c.push.new.self.items = search rules in
    let seen = seen_more c.self.inside.sets.items c.push.new.self.items c.args.now c.self.inside.numbers.items c.self.inside.marks.items c.in-Ok.number all_is long c.self.invariant.1 c.self.invariant.2 in
    search (rules, seen)
