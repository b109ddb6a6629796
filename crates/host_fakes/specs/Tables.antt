-- What a table of verdicts means.
use Rattle.std.specs.Prelude.{Bool, ◌&&◌, List, Option, Some, None}
use Rattle.std.specs.List.{find}
use Rattle.std.specs.Str.{bytes_eq}
use denote.Enum.Bare.{sameb}
use Rattle.eng_value.specs.contracts.authorizing.ActionKind.{the_type}
use Rattle.eng_value.specs.declared.authorizing.Action.{Action}
use Rattle.eng_value.specs.declared.authorizing.Verdict.{Verdict}
use Rattle.eng_value.specs.declared.authorizing.Verdict.TheVariants.{Allow}
use Rattle.host_fakes.specs.declared.tables.VerdictRow.{VerdictRow}

-- an action is of the row's kind and has its names, in whatever view or trigger it stands
abbrev pub fits : Action → VerdictRow → Bool
fits action row = sameb the_type row.kind action.kind && bytes_eq row.first action.first && bytes_eq row.second action.second

-- what no row fits is allowed
abbrev pub said_by : Option VerdictRow → Verdict
said_by None = Allow
said_by (Some row) = row.verdict

-- the verdict of the first row that fits
abbrev pub verdict_by : List VerdictRow → Action → Verdict
verdict_by rows action = said_by (find (fits action) rows)
