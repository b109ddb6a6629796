-- Commands with what they open, as code has them.
use Rattle.std.specs.Prelude.{Ok}
use Rattle.bind_target.specs.Meant.{opened_meant}
use Rattle.bind_target.specs.declared.written.Opened.{Opened as OpenedHere}
use Rattle.bound_tree.specs.declared.statements.BoundCommand.TheVariants.{Written}
use Rattle.bound_tree.specs.declared.statements.BoundCommand.{BoundCommand}
use Rattle.bound_tree.specs.declared.writes.BoundWrite.{BoundWrite}
use Rattle.sql_bound.specs.Refusals.{Checked}
use Rattle.sql_bound.specs.Writes.{Opened}
use Rattle.sql_words.specs.Refusals.{◌>>=◌}

abbrev pub command_meant : BoundCommand × OpenedHere → BoundCommand × Opened
command_meant c = (c.0, opened_meant c.1)

-- a write as a command
abbrev pub write_command : Checked (BoundWrite × Opened) → Checked (BoundCommand × Opened)
write_command write = write >>= λ b. Ok (Written b.0, b.1)
