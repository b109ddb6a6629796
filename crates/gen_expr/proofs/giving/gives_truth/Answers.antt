use Rattle.std.proofs.Common.{map}
use Rattle.bound_tree.specs.Exprs.{exprs}
use Rattle.bound_tree.specs.Seen.{seen}
use Rattle.bound_tree.specs.SeenLaws.{seen-Between, seen-In, seen-LikeEscaped}
use Rattle.gen_expr.proofs.Truths.{between_gives, in_gives, like_escaped_gives}
use Rattle.gen_expr.proofs.giving.gives_truth.Goals as goal

pub returns-in-LikeEscaped : goal.returns-in-LikeEscaped
returns-in-LikeEscaped c e = rw (c.in-LikeEscaped.is, seen-LikeEscaped c.in-LikeEscaped.field-0 c.in-LikeEscaped.field-1 c.in-LikeEscaped.field-2) (like_escaped_gives (seen c.in-LikeEscaped.field-0) (seen c.in-LikeEscaped.field-1) (seen c.in-LikeEscaped.field-2))

pub returns-in-Between : goal.returns-in-Between
returns-in-Between c e = rw (c.in-Between.is, seen-Between c.in-Between.field-0 c.in-Between.field-1 c.in-Between.field-2 c.in-Between.field-3 c.in-Between.field-4) (between_gives c.in-Between.field-0 c.in-Between.field-1 (seen c.in-Between.field-2) (seen c.in-Between.field-3) (seen c.in-Between.field-4))

pub returns-in-In : goal.returns-in-In
returns-in-In c e = rw (c.in-In.is, seen-In c.in-In.field-0 c.in-In.field-1 c.in-In.field-2) (in_gives c.in-In.field-0 (seen c.in-In.field-1) (exprs (map seen c.in-In.field-2)))
