use Rattle.std.proofs.Common.{◌≡◌, map, take}
use Rattle.eng_value.specs.declared.modules.ModColumn.{ModColumn}
use Rattle.sql_bound.specs.Froms.{is_hidden, module_column}
use Rattle.bind_source.proofs.modules.module_columns.Given as goal

abbrev pub invariant-loop-column : goal.invariant-loop-column
invariant-loop-column l = l.found ≡ map (module_column) (take l.column-index l.columns)
