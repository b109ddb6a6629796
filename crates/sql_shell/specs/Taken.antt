-- The rows that a sink took.
use Rattle.std.specs.Prelude.{List, [], ◌∷◌, ◌++◌}
use Rattle.eng_value.specs.declared.value.Value.{Value}
use Rattle.sql_shell.specs.declared.taken_rows.TakenRows.{TakenRows, fold-TakenRows}
use Rattle.sql_shell.specs.declared.taken_rows.TakenRows.TheOpen.{TakenRows-F}

abbrev pub one_more : TakenRows-F (List (List Value)) → List (List Value)
one_more TakenRows-F.Nothing = []
one_more (TakenRows-F.Then before last) = before.value ++ last.value ∷ []

abbrev pub rows_of : TakenRows → List (List Value)
rows_of = fold-TakenRows (List (List Value)) one_more
