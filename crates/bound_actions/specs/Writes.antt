-- What writes do, and the triggers that they can fire: each of a write's triggers follows the write, in order of creation, unless it is listed already.
use Rattle.std.specs.Prelude.{ℕ, nat_eq, Bool, true, false, List, [], ◌∷◌, ◌++◌, map, Option, Some, None, slice_get, unwrap_or, codes}
use Rattle.std.specs.List.{flat_map, list_any}
use Rattle.eng_value.specs.declared.authorizing.ActionKind.TheVariants.{Insert, Update, Delete}
use Rattle.eng_value.specs.declared.authorizing.ActionKind.{ActionKind}
use Rattle.bound_tree.specs.declared.units.BoundColumn.{BoundColumn}
use Rattle.bound_tree.specs.declared.units.BoundItem.{BoundItem}
use Rattle.bound_tree.specs.declared.writes.BoundChange.TheVariants.{Defaulted, Deleted, Inserted, Updated}
use Rattle.bound_tree.specs.declared.writes.BoundChange.{BoundChange}
use Rattle.bound_tree.specs.declared.writes.BoundReturning.{BoundReturning}
use Rattle.bound_tree.specs.declared.writes.BoundSet.{BoundSet}
use Rattle.bound_tree.specs.declared.writes.BoundStep.TheVariants.{Asks, Writes}
use Rattle.bound_tree.specs.declared.writes.BoundStep.{BoundStep}
use Rattle.bound_tree.specs.declared.writes.BoundTrigger.{BoundTrigger}
use Rattle.bound_tree.specs.declared.writes.BoundUpsert.{BoundUpsert}
use Rattle.bound_tree.specs.declared.writes.BoundWrite.{BoundWrite}
use Rattle.bound_actions.specs.Expressions.{pieces_of}
use Rattle.bound_actions.specs.Froms.{all_pieces, columns_as, over, readable, table_of}
use Rattle.bound_actions.specs.Pieces.{action, actions_in, asked, filled}
use Rattle.bound_actions.specs.Queries.{optional_pieces}
use Rattle.bound_actions.specs.declared.listing.Listed.{Listed}
use Rattle.bound_actions.specs.declared.pieces.Piece.TheVariants.{Does}
use Rattle.bound_actions.specs.declared.pieces.Piece.{Piece}
use Rattle.bound_actions.specs.declared.pieces.Spot.{Spot}

-- ---- a write itself; its CHECKs and DEFAULTs are not asked about

abbrev pub target_name : BoundItem → List ℕ
target_name target = unwrap_or (table_of target.source) []

-- over the row that is there, and that which is to be put
abbrev pub target_spot : Option (List ℕ) → BoundItem → Spot
target_spot within target = over within (readable target ∷ readable target ∷ [])

abbrev pub column_name : Option BoundColumn → List ℕ
column_name None = []
column_name (Some c) = c.name

-- without a place it is the rowid
abbrev pub set_name : BoundItem → Option ℕ → List ℕ
set_name target None = codes "rowid"
set_name target (Some place) = column_name (slice_get target.columns place)

abbrev pub set_pieces : List (List Piece) → Spot → BoundItem → BoundSet → List Piece
set_pieces u s target x = Does (action s.within Update (target_name target) (set_name target x.column)) ∷ pieces_of u s x.value

abbrev pub sets_pieces : List (List Piece) → Spot → BoundItem → List BoundSet → List Piece
sets_pieces u s target sets = flat_map (set_pieces u s target) sets

abbrev pub whole : Spot → ActionKind → BoundItem → Piece
whole s kind target = Does (action s.within kind (target_name target) [])

abbrev pub change_pieces : List (List Piece) → Spot → BoundItem → BoundChange → List Piece
change_pieces u s target (Inserted places rowid unit handed) = whole s Insert target ∷ asked u unit (map (pieces_of u s) handed)
change_pieces u s target Defaulted = whole s Insert target ∷ []
change_pieces u s target (Updated sets conjuncts) = sets_pieces u s target sets ++ all_pieces u s conjuncts
change_pieces u s target (Deleted conjuncts) = whole s Delete target ∷ all_pieces u s conjuncts

abbrev pub upsert_sets : List (List Piece) → Spot → BoundItem → Option (List BoundSet) → List Piece
upsert_sets u s target None = []
upsert_sets u s target (Some sets) = sets_pieces u s target sets

abbrev pub upsert_pieces : List (List Piece) → Spot → BoundItem → Option BoundUpsert → List Piece
upsert_pieces u s target None = []
upsert_pieces u s target (Some x) = upsert_sets u s target x.sets ++ all_pieces u s x.conjuncts

abbrev pub returning_pieces : List (List Piece) → Spot → Option BoundReturning → List Piece
returning_pieces u s None = []
returning_pieces u s (Some r) = all_pieces u s r.results

abbrev pub write_pieces : List (List Piece) → Spot → BoundWrite → List Piece
write_pieces u s w = change_pieces u s w.target.item w.change ++ upsert_pieces u s w.target.item w.upsert ++ returning_pieces u s w.returning

-- ---- what is listed so far, and which triggers are

abbrev pub nothing_listed : Listed
nothing_listed = record { actions = []; triggers = [] }

abbrev pub more : List Piece → Listed → Listed
more pieces so_far = record so_far { actions = so_far.actions ++ actions_in pieces }

abbrev pub marked : ℕ → Listed → Listed
marked place so_far = record so_far { triggers = so_far.triggers ++ place ∷ [] }

-- the trigger of this place, fired by a write of this table
abbrev pub Opening : Type 0
Opening = List ℕ → ℕ → Listed → Listed

abbrev pub fired : Opening → List ℕ → List ℕ → Listed → Listed
fired opening table [] so_far = so_far
fired opening table (place ∷ places) so_far = fired opening table places (opening table place so_far)

-- with what its trigger hands over to it
abbrev pub write_listed : Opening → List (List Piece) → Option (List ℕ) → List (List Piece) → BoundWrite → Listed → Listed
write_listed opening u within handed w so_far =
    fired opening (target_name w.target.item) w.fires (more (filled handed (write_pieces u (target_spot within w.target.item) w)) so_far)

-- ---- a trigger: OLD and NEW are rows of the table

abbrev pub rows_spot : List ℕ → BoundTrigger → Spot
rows_spot table t = over (Some t.name) (map (columns_as (Some table)) t.rows)

abbrev pub step_listed : Opening → List (List Piece) → Spot → BoundStep → Listed → Listed
step_listed opening u s (Asks unit handed) so_far = more (asked u unit (map (pieces_of u s) handed)) so_far
step_listed opening u s (Writes w) so_far = write_listed opening u s.within (map (pieces_of u s) w.captures) w so_far

abbrev pub steps_listed : Opening → List (List Piece) → Spot → List BoundStep → Listed → Listed
steps_listed opening u s [] so_far = so_far
steps_listed opening u s (x ∷ xs) so_far = steps_listed opening u s xs (step_listed opening u s x so_far)

abbrev pub trigger_with : Opening → List (List Piece) → Spot → BoundTrigger → Listed → Listed
trigger_with opening u s t so_far = steps_listed opening u s t.body (more (optional_pieces u s t.condition) so_far)

abbrev pub trigger_listed : Opening → List (List Piece) → List ℕ → ℕ → Option BoundTrigger → Bool → Listed → Listed
trigger_listed opening u table place None listed so_far = so_far
trigger_listed opening u table place (Some t) true so_far = so_far
trigger_listed opening u table place (Some t) false so_far = trigger_with opening u (rows_spot table t) t (marked place so_far)

abbrev pub is_listed : ℕ → Listed → Bool
is_listed place so_far = list_any (nat_eq place) so_far.triggers

-- as many can stand in one another as there are, since each is listed once
abbrev pub opened : List (List Piece) → List BoundTrigger → List BoundTrigger → Opening
opened u all [] table place so_far = so_far
opened u all (t ∷ others) table place so_far = trigger_listed (opened u all others) u table place (slice_get all place) (is_listed place so_far) so_far
