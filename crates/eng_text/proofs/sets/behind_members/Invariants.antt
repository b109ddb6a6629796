use Rattle.std.proofs.Common.{◌≡◌, ◌≤◌, None, length}
use Rattle.std.specs.Str.{chars}
use Rattle.eng_text.specs.Sets.{behind_members, members_behind}
use Rattle.eng_text.proofs.sets.behind_members.Given as goal

abbrev pub invariant-loop-first : goal.invariant-loop-first
invariant-loop-first l =
    (members_behind l.c l.takes_members l.members ≡ behind_members l.c l.takes_members l.fn.is_member None (chars l.set)) × (length l.members.rest.now ≤ length l.set)

abbrev pub decreases-loop-first : goal.decreases-loop-first
decreases-loop-first l = length l.members.rest.now
