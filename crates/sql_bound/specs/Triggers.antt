-- Triggers: WHEN and the body are bound where the trigger can fire, over OLD and NEW; each stands once in a statement's list (CREATE TRIGGER).
use Rattle.std.specs.Prelude.{ℕ, zero, suc, true, false, List, [], ◌∷◌, ◌++◌, length, position, slice_set, Option, Some, None, Ok, Err, codes, unwrap_or}
use Rattle.std.specs.Option.{option_map}
use Rattle.eng_entry.specs.Names.{is_same_name}
use Rattle.eng_entry.specs.declared.entry.Entry.{Entry}
use Rattle.eng_value.specs.declared.cause.Cause.TheVariants.{Unknown}
use Rattle.eng_value.specs.declared.cause.NameKind.TheVariants as kind
use Rattle.sql_tree.specs.declared.statement.TriggerEvent.TheVariants as event
use Rattle.sql_tree.specs.declared.statement.TriggerEvent.{TriggerEvent}
use Rattle.sql_words.specs.Refusals.{◌>>=◌}
use Rattle.bound_tree.specs.Exprs.{BoundExpr}
use Rattle.bound_tree.specs.declared.units.BoundItem.{BoundItem}
use Rattle.bound_tree.specs.declared.units.BoundSource.TheVariants.{Given}
use Rattle.bound_tree.specs.declared.writes.BoundStep.TheVariants.{Asks, Writes}
use Rattle.bound_tree.specs.declared.writes.BoundStep.{BoundStep}
use Rattle.bound_tree.specs.declared.writes.BoundTrigger.{BoundTrigger}
use Rattle.bound_tree.specs.declared.writes.FiringEvent.TheVariants.{AtDelete, AtInsert, AtUpdate}
use Rattle.bound_tree.specs.declared.writes.FiringEvent.{FiringEvent}
use Rattle.sql_bound.specs.Carriers.{Deletes, Expression, Inserts, Queries, RowParts, TriggerParts, Updates}
use Rattle.sql_bound.specs.Declarations.{definition_of, trigger_in}
use Rattle.sql_bound.specs.Froms.{plain_item, scope_item}
use Rattle.sql_bound.specs.Refusals.{Checked}
use Rattle.sql_bound.specs.Scopes.{Answer, Around, Level, Outer, begun, in_statement, scope_over}
use Rattle.sql_bound.specs.Trees.{full_depth, of_trigger, outer_at, within}
use Rattle.sql_bound.specs.Writes.{Begun, Opened, Opening, captures_of, delete_begun, insert_begun, update_begun, write_bound}
use Rattle.sql_bound.specs.declared.froms.Sourced.{Sourced}
use Rattle.sql_bound.specs.declared.scopes.Allowed.{Allowed}
use Rattle.sql_bound.specs.declared.scopes.ScopeItem.{ScopeItem}

-- ---- OLD and NEW: items 0 and 1, whose columns are called by the item's name and their own

abbrev pub row_item : List ℕ → Sourced → BoundItem
row_item name s = plain_item (Some name) (record s { source = Given; indexes = [] })

abbrev pub row_scope : ℕ → List ℕ → Sourced → ScopeItem
row_scope item name s = record (scope_item item (Some name) s) { bare = false }

-- an INSERT has no OLD, and a DELETE no NEW
abbrev pub rows_seen : FiringEvent → Sourced → Level
rows_seen AtDelete s = row_scope 0 (codes "old") s ∷ []
rows_seen AtInsert s = row_scope 1 (codes "new") s ∷ []
rows_seen AtUpdate s = row_scope 0 (codes "old") s ∷ row_scope 1 (codes "new") s ∷ []

abbrev pub event_of : TriggerEvent → FiringEvent
event_of event.Delete = AtDelete
event_of event.Insert = AtInsert
event_of (event.Update columns) = AtUpdate

-- ---- a trigger in its own text, where RAISE may stand

abbrev pub in_trigger : Allowed
in_trigger = record in_statement { raises = true }

abbrev pub outer_of : Around → Entry → List Level → Outer
outer_of around entry levels = within entry.name (outer_at around (full_depth around) entry.text levels in_trigger)

abbrev pub condition_bound : Around → Entry → Level → Option Expression → Opened → Checked (Option BoundExpr × Opened)
condition_bound around entry rows None opened = Ok (None, opened)
condition_bound around entry rows (Some x) opened =
    x.bound (scope_over rows (outer_of around entry [])) (begun opened.units) >>= λ a. Ok (Some a.0.tree, record opened { units = a.1.units })

-- ---- its body, a statement after another; a write there does not count

abbrev pub write_step : Opening → Around → Answer Begun → Opened → Checked (BoundStep × Opened)
write_step opening around begun_write opened = write_bound opening around false begun_write opened >>= λ b. Ok (Writes b.0, b.1)

abbrev pub step_bound : Opening → Around → Outer → RowParts → Opened → Checked (BoundStep × Opened)
step_bound opening around o (Queries q) opened =
    q.bound o opened.units >>= λ a. Ok (Asks a.0.unit (captures_of a.0.needs), record opened { units = a.1 })
step_bound opening around o (Inserts i) opened = write_step opening around (insert_begun o i (begun opened.units)) opened
step_bound opening around o (Updates u) opened = write_step opening around (update_begun o u (begun opened.units)) opened
step_bound opening around o (Deletes d) opened = write_step opening around (delete_begun o d (begun opened.units)) opened

abbrev pub steps_bound : Opening → Around → Outer → List RowParts → Opened → Checked (List BoundStep × Opened)
steps_bound opening around o [] opened = Ok ([], opened)
steps_bound opening around o (c ∷ cs) opened =
    step_bound opening around o c opened >>= λ b. steps_bound opening around o cs b.1 >>= λ more. Ok (b.0 ∷ more.0, more.1)

-- ---- opening: its place is taken before its body is bound, so that what its body fires may name it

abbrev pub header_of : Entry → Sourced → TriggerParts → BoundTrigger
header_of entry s t =
    record { name = entry.name; table = unwrap_or s.name []; time = t.time; event = event_of t.event; rows = row_item (codes "old") s ∷ row_item (codes "new") s ∷ []; condition = None; body = [] }

abbrev pub with_trigger : ℕ → BoundTrigger → Opened → Opened
with_trigger place t opened = record opened { triggers = slice_set opened.triggers place t }

abbrev pub behind_others : BoundTrigger → Opened → Opened
behind_others t opened = record opened { triggers = opened.triggers ++ t ∷ [] }

abbrev pub trigger_at_place : Opening → Around → Sourced → Entry → TriggerParts → ℕ → Opened → Checked (ℕ × Opened)
trigger_at_place opening around s entry t place opened =
    condition_bound around entry (rows_seen (event_of t.event) s) t.condition (behind_others (header_of entry s t) opened) >>= λ c.
    steps_bound opening around (outer_of around entry (rows_seen (event_of t.event) s ∷ [])) t.body c.1 >>= λ b.
    Ok (place, with_trigger place (record (header_of entry s t) { condition = c.0; body = b.0 }) b.1)

abbrev pub opened_now : Opening → Around → Sourced → Entry → Option TriggerParts → Opened → Checked (ℕ × Opened)
opened_now opening around s entry None opened = Err (Unknown kind.Trigger entry.name)
opened_now opening around s entry (Some t) opened = trigger_at_place opening around s entry t (length opened.triggers) opened

abbrev pub place_of_trigger : List ℕ → List BoundTrigger → Option ℕ
place_of_trigger name triggers = position (λ (t : BoundTrigger). is_same_name t.name name) triggers

abbrev pub opened_or : Option ℕ → Opened → Checked (ℕ × Opened) → Checked (ℕ × Opened)
opened_or (Some place) opened now = Ok (place, opened)
opened_or None opened now = now

-- so many triggers are not opened yet: none is the last, since each is opened once
abbrev pub opening_of : (Entry → Option TriggerParts) → Around → ℕ → Opening
opening_of parts around zero s entry opened = opened_or (place_of_trigger entry.name opened.triggers) opened (Err (Unknown kind.Trigger entry.name))
opening_of parts around (suc n) s entry opened =
    opened_or (place_of_trigger entry.name opened.triggers) opened (opened_now (opening_of parts around n) around s entry (parts entry) opened)

-- what an entry's trigger is written as
abbrev pub trigger_of : Entry → Option TriggerParts
trigger_of entry = option_map of_trigger (trigger_in (definition_of entry))

abbrev pub opening : Around → Opening
opening around = opening_of trigger_of around (length around.catalog.triggers)
