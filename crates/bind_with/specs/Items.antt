-- What a name in FROM stands for, by what code has of it (of_with and of_view of Froms.antt).
use Rattle.std.specs.Prelude.{ℕ, ◌-◌, Bool, List, Option, Some, Ok, map}
use Rattle.bound_tree.specs.declared.units.BoundSource.TheVariants as source
use Rattle.eng_entry.specs.declared.entry.Entry.{Entry}
use Rattle.sql_bound.specs.Froms.{as_columns, of_queue, plain_source, with_names, with_source, with_units}
use Rattle.sql_bound.specs.Refusals.{Checked}
use Rattle.sql_bound.specs.Scopes.{Answer, further, handed}
use Rattle.sql_bound.specs.declared.froms.Found.{Found}
use Rattle.sql_bound.specs.declared.froms.QueueTable.{QueueTable}
use Rattle.sql_bound.specs.declared.froms.Sourced.{Sourced}
use Rattle.sql_bound.specs.declared.scopes.Need.{Need}
use Rattle.sql_bound.specs.declared.scopes.ResultColumn.{ResultColumn}
use Rattle.sql_bound.specs.declared.scopes.WithEntry.{WithEntry}
use Rattle.sql_bound.specs.declared.scopes.WithMeaning.TheVariants.{Bound, Itself}
use Rattle.sql_bound.specs.declared.scopes.WithMeaning.{WithMeaning}
use Rattle.sql_bound.specs.declared.scopes.Work.{Work}
use Rattle.sql_words.specs.Refusals.{◌>>=◌}
use Rattle.sql_words.specs.Spelled.{name_at}
use Rattle.sql_tree.specs.declared.statement.ViewDefinition.{ViewDefinition}

-- the rows of a WITH table by its unit, where so many FROMs are around the query
abbrev pub rows_at : ℕ → WithEntry → ℕ → Bool → List Need → List ResultColumn → Work → Sourced × Work
rows_at around t u recursive needs cs w =
    let h = handed (map (further (around - t.around)) needs) w in (plain_source (Some t.name) (with_source recursive u h.0) (as_columns cs), h.1)

abbrev pub of_with_at : ℕ → Option QueueTable → WithEntry → WithMeaning → Found → Work → Answer Sourced
of_with_at around queue t Itself f w = with_units (of_queue t.name queue f.has_queue) w
of_with_at around queue t (Bound u recursive needs cs) f w = Ok (rows_at around t u recursive needs cs w)

-- a view whose query is bound
abbrev pub view_given : Entry → ViewDefinition → ℕ → List ResultColumn → Checked Sourced
view_given entry v unit columns =
    with_names entry.name (map (name_at entry.text) v.columns) columns >>= λ cs. Ok (plain_source (Some entry.name) (source.View entry.name unit) (as_columns cs))
