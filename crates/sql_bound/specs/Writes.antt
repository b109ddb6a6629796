-- INSERT, UPDATE and DELETE: the target, the columns, the source or SET and WHERE, and then the triggers that it can fire.
use Rattle.std.specs.Prelude.{ℕ, suc, nat_eq, Bool, true, false, not, ◌&&◌, ◌||◌, List, [], ◌∷◌, ◌++◌, map, length, position, Option, Some, None, Ok}
use Rattle.std.specs.List.{range_with_len}
use Rattle.eng_entry.specs.declared.entry.Entry.{Entry}
use Rattle.sql_tree.specs.declared.statement.ConflictChoice.TheVariants as choice
use Rattle.sql_tree.specs.declared.statement.ConflictChoice.{ConflictChoice}
use Rattle.sql_words.specs.Refusals.{◌>>=◌}
use Rattle.sql_words.specs.Spelled.{name_at}
use Rattle.bound_tree.specs.Exprs.{BoundExpr}
use Rattle.bound_tree.specs.Same.{both_same}
use Rattle.bound_tree.specs.declared.units.BoundSource.TheVariants as bound_source
use Rattle.bound_tree.specs.declared.units.BoundSource.{BoundSource}
use Rattle.bound_tree.specs.declared.units.BoundUnit.{BoundUnit}
use Rattle.bound_tree.specs.declared.writes.BoundChange.TheVariants.{Defaulted, Deleted, Inserted, Updated}
use Rattle.bound_tree.specs.declared.writes.BoundChange.{BoundChange}
use Rattle.bound_tree.specs.declared.writes.BoundSet.{BoundSet}
use Rattle.bound_tree.specs.declared.writes.BoundTrigger.{BoundTrigger}
use Rattle.bound_tree.specs.declared.writes.BoundWrite.{BoundWrite}
use Rattle.bound_tree.specs.declared.writes.FiringEvent.TheVariants.{AtDelete, AtInsert, AtUpdate}
use Rattle.sql_bound.specs.Carriers.{DeleteParts, InsertParts, QueryParts, SetParts, UpdateParts}
use Rattle.sql_bound.specs.Compounds.{width_fits}
use Rattle.sql_bound.specs.Cores.{conjuncts_bound}
use Rattle.sql_bound.specs.Expressions.{asked}
use Rattle.sql_bound.specs.Froms.{beside_from}
use Rattle.sql_bound.specs.Limits.{by_column, room_behind}
use Rattle.sql_bound.specs.Refusals.{Checked}
use Rattle.sql_bound.specs.Scopes.{Answer, Around, Outer, Scope, scope_over}
use Rattle.sql_bound.specs.Targets.{Firing, Target, can_fire, found_place, place_written, target_bound}
use Rattle.sql_bound.specs.declared.froms.Sourced.{Sourced}
use Rattle.sql_bound.specs.declared.scopes.Need.{Need}
use Rattle.sql_bound.specs.declared.scopes.Work.{Work}

-- ---- INSERT

-- each name in turn
abbrev pub listed_place : Target → List ℕ → List (Option ℕ) → Checked (List (Option ℕ))
listed_place t name so_far = found_place name (place_written t.source name) >>= λ place. Ok (so_far ++ place ∷ [])

abbrev pub shown_places : ℕ → List Bool → List (Option ℕ)
shown_places place [] = []
shown_places place (true ∷ hidden) = shown_places (suc place) hidden
shown_places place (false ∷ hidden) = Some place ∷ shown_places (suc place) hidden

-- the columns that are named, and all that are shown where none is
abbrev pub places_named : Target → List (List ℕ) → Checked (List (Option ℕ))
places_named t [] = Ok (shown_places 0 t.source.hidden)
places_named t (n ∷ ns) = by_column (listed_place t) (n ∷ ns) []

abbrev pub is_place : Option ℕ → Option ℕ → Bool
is_place = both_same nat_eq

-- for each column, and for the rowid, where its value stands in a row; of equal names the first counts
abbrev pub insertion : Target → List (Option ℕ) → ℕ → List BoundExpr → BoundChange
insertion t listed u arguments =
    Inserted (map (λ k. position (is_place (Some k)) listed) (range_with_len 0 (length t.source.columns))) (position (is_place t.source.rowid) listed) u arguments

-- a source is asked over the arguments of the write alone
abbrev pub inserted_from : Outer → Target → List (Option ℕ) → Option QueryParts → Work → Answer BoundChange
inserted_from o t listed None w = Ok (Defaulted, w)
inserted_from o t listed (Some q) w =
    asked w (q.bound (beside_from o) w.units) >>= λ a. width_fits t.name (length listed) (length a.0.0.columns) >>= λ u.
    Ok (insertion t listed a.0.0.unit a.0.1, a.1)

-- a write before its triggers are opened: the target, what it changes, what it needs, and what it fires by
pub record Begun : Type 0 where
  pub target : Target
  pub choice : ConflictChoice
  pub firing : Firing
  pub change : BoundChange

abbrev pub inserting : Firing
inserting = record { event = AtInsert; sets = [] }

abbrev pub insert_begun : Outer → InsertParts → Work → Answer Begun
insert_begun o i w =
    target_bound o (name_at o.text i.table) inserting w >>= λ t. places_named t.0 (map (name_at o.text) i.columns) >>= λ listed.
    inserted_from o t.0 listed i.source t.1 >>= λ c. Ok (record { target = t.0; choice = i.choice; firing = inserting; change = c.0 }, c.1)

-- ---- UPDATE and DELETE: SET and WHERE see the target's row

abbrev pub set_bound : Scope → Target → SetParts → List BoundSet × Work → Answer (List BoundSet)
set_bound s t a so_far =
    room_behind so_far.0 >>= λ u. found_place (name_at s.outer.text a.column) (place_written t.source (name_at s.outer.text a.column)) >>= λ place.
    a.value.bound s so_far.1 >>= λ x. Ok (so_far.0 ++ record { column = place; value = x.0.tree } ∷ [], x.1)

abbrev pub sets_bound : Scope → Target → List SetParts → List BoundSet × Work → Answer (List BoundSet)
sets_bound s t [] so_far = Ok so_far
sets_bound s t (a ∷ rest) so_far = set_bound s t a so_far >>= λ next. sets_bound s t rest next

abbrev pub set_names : List ℕ → List SetParts → List (List ℕ)
set_names text sets = map (λ (a : SetParts). name_at text a.column) sets

abbrev pub updating : List ℕ → UpdateParts → Firing
updating text u = record { event = AtUpdate; sets = set_names text u.sets }

abbrev pub update_begun : Outer → UpdateParts → Work → Answer Begun
update_begun o u w =
    target_bound o (name_at o.text u.table) (updating o.text u) w >>= λ t. sets_bound (scope_over t.0.level o) t.0 u.sets ([], t.1) >>= λ sets.
    conjuncts_bound (scope_over t.0.level o) u.filter sets.1 >>= λ c.
    Ok (record { target = t.0; choice = u.choice; firing = updating o.text u; change = Updated sets.0 c.0 }, c.1)

abbrev pub deleting : Firing
deleting = record { event = AtDelete; sets = [] }

abbrev pub delete_begun : Outer → DeleteParts → Work → Answer Begun
delete_begun o d w =
    target_bound o (name_at o.text d.table) deleting w >>= λ t. conjuncts_bound (scope_over t.0.level o) d.filter t.1 >>= λ c.
    Ok (record { target = t.0; choice = choice.Abort; firing = deleting; change = Deleted c.0 }, c.1)

-- ---- the triggers that it can fire, in order of creation

-- what the statement has opened so far
pub record Opened : Type 0 where
  pub units : List BoundUnit
  pub triggers : List BoundTrigger

-- the place of a trigger of the target in the statement's list, opened now or before
abbrev pub Opening : Type 0
Opening = Sourced → Entry → Opened → Checked (ℕ × Opened)

abbrev pub is_replace : ConflictChoice → Bool
is_replace choice.Replace = true
is_replace other = false

abbrev pub is_table : BoundSource → Bool
is_table (bound_source.Table name number) = true
is_table other = false

-- an OR REPLACE can fire the DELETE triggers of its table while triggers may fire themselves
abbrev pub replaces_with : Around → Begun → Bool
replaces_with around b = is_replace b.choice && around.facts.recursive_triggers && is_table b.target.source.source

-- by what it does itself, or by REPLACE's deletes
abbrev pub fires : Around → Begun → Entry → Bool
fires around b entry =
    can_fire b.target.name b.target.source b.firing entry || (replaces_with around b && can_fire b.target.name b.target.source deleting entry)

abbrev pub fired_one : Opening → Begun → Bool → Entry → List ℕ × Opened → Checked (List ℕ × Opened)
fired_one opening b false entry so_far = Ok so_far
fired_one opening b true entry so_far = opening b.target.source entry so_far.1 >>= λ p. Ok (so_far.0 ++ p.0 ∷ [], p.1)

abbrev pub fired_all : Opening → Around → Begun → List Entry → List ℕ × Opened → Checked (List ℕ × Opened)
fired_all opening around b [] so_far = Ok so_far
fired_all opening around b (entry ∷ entries) so_far =
    fired_one opening b (fires around b entry) entry so_far >>= λ next. fired_all opening around b entries next

-- ---- the whole: what is handed over to it comes of the row of the trigger in whose body it stands

abbrev pub captures_of : List Need → List BoundExpr
captures_of needs = map (λ (n : Need). n.tree) needs

-- rows that a view's triggers take do not count
abbrev pub is_view : BoundSource → Bool
is_view (bound_source.View name unit) = true
is_view other = false

abbrev pub write_with : Begun → List Need → List ℕ → Bool → BoundWrite
write_with b needs fires counts =
    record { target = b.target.target; choice = b.choice; captures = captures_of needs; change = b.change; fires = fires; upsert = None; returning = None; counts = counts && not (is_view b.target.source.source) }

-- once it is bound itself
abbrev pub write_bound : Opening → Around → Bool → Answer Begun → Opened → Checked (BoundWrite × Opened)
write_bound opening around counts begun_write opened =
    begun_write >>= λ b. fired_all opening around b.0 around.catalog.triggers ([], record opened { units = b.1.units }) >>= λ f.
    Ok (write_with b.0 b.1.needs f.0 counts, f.1)
