use Rattle.std.proofs.Common.{◌≡◌, drop}
use Rattle.std.specs.Option.{option_copied}
use Rattle.sql_bound.specs.Declarations.{default_of}
use Rattle.sql_words.specs.Refusals.{or_else}
use Rattle.bind_entry.proofs.columns.default_of.Given as goal

abbrev pub invariant-loop-constraint : goal.invariant-loop-constraint
invariant-loop-constraint l =
    default_of l.column.constraints ≡ or_else (default_of (drop l.constraint-index l.column.constraints)) (option_copied l.found)
