-- The programs of an INSERT, of a CREATE TABLE, a DROP TABLE and a CREATE INDEX, and of a statement that does nothing.
use Rattle.std.proofs.Common.{◌≡◌, ℕ, zero, suc, ◌+◌, ◌*◌, ◌≤◌, List, [], ◌∷◌, length, sum_by, ℤ, Some, None, Bool, true, false, ◌&&◌, if◌then◌else◌, refl, sym, ap, ◌∙◌, subst, arith}
use Rattle.std.specs.Prelude.{slice_index_or, slice_set}
use Rattle.std.specs.List.{flat_map}
use Rattle.std.specs.declared.option.Option.{Option}
use Rattle.eng_index.specs.Keys.{has_doubles}
use Rattle.eng_index.specs.declared.key_term.KeyTerm.{KeyTerm}
use Rattle.eng_value.specs.Causes.{CauseSet, only}
use Rattle.eng_value.specs.Environments.{Environment, Surroundings, environment, no_causes, null_row}
use Rattle.eng_value.specs.declared.cause.Cause.TheVariants.{Constraint}
use Rattle.eng_value.specs.declared.cause.ConstraintKind.TheVariants.{Unique}
use Rattle.eng_value.specs.declared.out.Out.{Out}
use Rattle.gen_write.specs.Stretches.{AreAllKept, KeepsRows, Puts, SourcedBy, items_for, scene_on, values_in}
use Rattle.gen_write.specs.Writes.{NamesWhatIsThere, create_run, create_steps, doubles_refused, drop_run, drop_steps, finished, index_run, index_steps, items_in, needs_of_each, nothing_run, nothing_steps, put_run, put_steps, read_steps, row_steps, rows_run, run_by, seen_in, source_of, source_run, turns_of, untouched}
use Rattle.gen_write.specs.declared.source.Kept.{Kept}
use Rattle.gen_write.proofs.Needing.{met_source}
use Rattle.gen_write.proofs.Opens.{at_of, at_opened, steady_from}
use Rattle.gen_write.proofs.RowRuns.{t_puts}
use Rattle.gen_write.proofs.Seeing.{value_of-same}
use Rattle.sql_meaning.specs.Expression.{value_of}
use Rattle.sql_meaning.specs.Statement.{Item, given_of, item_of, refusal_of}
use Rattle.bound_tree.specs.Exprs.{BoundExpr}
use Rattle.sql_meaning.specs.declared.bound.BoundInsert.{BoundInsert}
use Rattle.vm_code.specs.declared.op.Op.TheVariants as op
use Rattle.vm_code.specs.declared.program.Program.{Program}
use Rattle.vm_code.specs.declared.schema_change.SchemaChange.{SchemaChange}
use Rattle.vm_code.specs.declared.schema_change.SchemaChange.TheVariants.{AddTable, DropTable}
use Rattle.vm_code.specs.Draft.{Draft, begun, taken, with_op, with_cursor}
use Rattle.vm_code.specs.Machine.{Closed, Cursor, Open, Finished, GivesUp, Inputs, Run, Scene, Setting, Shared, State, Performs, cursor_at, ending_by, read, rows_of, with_schema, world_of}
use Rattle.vm_code.specs.Frames.{Given, Here, IsProgramOf, environment_of, here, needing, surroundings_of, with_regs}
use Rattle.vm_code.specs.Accepted.{IsAccepted}
use Rattle.vm_code.specs.Track.{OpenSet, on as cursor_on}
use Rattle.vm_code.specs.declared.open_cursor.CursorKind.TheVariants.{Table}
use Rattle.vm_code.specs.declared.open_cursor.Need.{Need}
use Rattle.vm_code.specs.declared.open_cursor.Need.TheVariants as need
use Rattle.vm_code.specs.Claims.{Claim, Exits, Labels, Last, Triple, ends, on}
use Rattle.vm_code.proofs.Drafts.{extends, g_cursor, g_op, g_taken, grows_then}
use Rattle.vm_code.proofs.Triples.{no_labels, t_seq, t_use, t_more, t_more_where, t_draft, t_op, t_halt}
use Rattle.vm_code.proofs.Effects.{t_put}
use Rattle.vm_code.proofs.Loops.{t_move}
use Rattle.vm_code.proofs.Searches.{t_build_index, t_build_unique}
use Rattle.vm_code.proofs.Accepting.{accepted_of}
use Rattle.vm_code.proofs.Meeting.{met_none, met_one}
use Rattle.vm_code.proofs.Tracks.{st_cursor, st_none, st_op, st_taken, st_then, st_use, st_wider}
use Rattle.vm_code.proofs.Whole.{Begins, EndsAs, performs_of}

-- ---- what is shared at the start of a run

abbrev first_shared : Here → Shared
first_shared h0 = untouched (world_of h0.shared) h0.shared.written.last_rowid

untouched_is : {cursors : ℕ} (h0 h : Here) → (h ≡ h0) × Begins cursors h0 → h.shared ≡ first_shared h0
untouched_is h0 h pre = ap (λ (q : Here). q.shared) pre.0 ∙ pre.1.shared

-- ---- what the source sees

-- two cursors that are closed read NULL
two_closed : (cursors : List Cursor) → length cursors ≡ 2 → cursor_at cursors 0 ≡ Closed → cursor_at cursors 1 ≡ Closed → cursors ≡ Closed ∷ Closed ∷ []
two_closed [] e x y = absurd (omega arith)
two_closed (c ∷ []) e x y = absurd (omega arith)
two_closed (c ∷ d ∷ []) e x y = ap (λ k. k ∷ d ∷ []) x ∙ ap (λ k. Closed ∷ k ∷ []) y
two_closed (c ∷ d ∷ k ∷ cs) e x y = absurd (omega arith)

no_row : (item : ℕ) → slice_index_or (null_row ∷ null_row ∷ []) item null_row ≡ slice_index_or [] item null_row
no_row zero = refl
no_row (suc zero) = refl
no_row (suc (suc k)) = refl

values-same : (x : Surroundings) (row : List BoundExpr) → values_in row (environment x [] [] (null_row ∷ null_row ∷ [])) ≡ values_in row (seen_in x)
values-same x [] = refl
values-same x (e ∷ row) =
    ap (λ o. o ∷ values_in row (environment x [] [] (null_row ∷ null_row ∷ []))) (value_of-same (environment x [] [] (null_row ∷ null_row ∷ [])) [] x.world no_row e)
    ∙ ap (λ l. value_of e (seen_in x) ∷ l) (values-same x row)

items-same : (x : Surroundings) (rows : List (List BoundExpr)) → items_for rows (environment x [] [] (null_row ∷ null_row ∷ [])) ≡ items_in rows x
items-same x [] = refl
items-same x (row ∷ rows) =
    ap (λ outs. item_of no_causes outs ∷ items_for rows (environment x [] [] (null_row ∷ null_row ∷ []))) (values-same x row)
    ∙ ap (λ l. item_of no_causes (values_in row (seen_in x)) ∷ l) (items-same x rows)

-- a main unit has no arguments, and nothing in its slots
scene_begins : (h : Here) → Begins 2 h → h.scene ≡ record { cursors = Closed ∷ Closed ∷ []; slots = [] }
scene_begins h b =
    ap (λ l. record h.scene { cursors = l }) (two_closed h.scene.cursors b.wide (b.shut 0 (omega arith)) (b.shut 1 (omega arith)))
    ∙ ap (λ l. record { cursors = Closed ∷ Closed ∷ []; slots = l }) b.slots

sees : (m : Setting) (h : Here) → Begins 2 h → environment_of m h ≡ environment (surroundings_of m h.shared) [] [] (null_row ∷ null_row ∷ [])
sees m h b =
    ap (λ s. environment_of m (record h { scene = s })) (scene_begins h b)
    ∙ ap (λ k. environment_of m (record h { scene = record { cursors = Closed ∷ Closed ∷ []; slots = [] }; inputs = k })) b.inputs

-- ---- the source, inside another stretch

t_keeps : (m : Setting) {given : Given} {a b : Draft} {causes : ℕ} {rows : List (List BoundExpr)} {source : List (List Kept)} (called : given.calls m) (g : Labels) (e : Last) (p q : Claim) → KeepsRows given a b causes rows source → ((h0 h : Here) → p h0 h → read h.regs causes ≡ no_causes) → ((h0 h : Here) (regs : List Out) → p h0 h → refusal_of (items_for rows (environment_of m h)) ≡ None → AreAllKept causes b.next source (given_of (items_for rows (environment_of m h))) regs → read regs causes ≡ no_causes → q h0 (with_regs h regs)) → ((h0 h : Here) (why : CauseSet) → p h0 h → refusal_of (items_for rows (environment_of m h)) ≡ Some why → e h0 (GivesUp why) h.shared) → Triple m a b (λ h0. sum_by read_steps rows) g e p q
t_keeps m {given} {a} {b} {causes} {rows} {source} called g e p q x calm goes fails = record {
  extends = extends x.grows;
  runs = λ u at h h0 s room start pre.
      let items = items_for rows (environment_of m (here s)) in
      by at h0 s pre (refusal_of items) refl (x.keeps m called u at h s room start (calm h0 (here s) pre));
}
  where
    by : (at : ℕ → ℕ) (h0 : Here) (s : State) → p h0 (here s) → (o : Option CauseSet) → refusal_of (items_for rows (environment_of m (here s))) ≡ o → SourcedBy m (sum_by read_steps rows) s (length b.code) a.next b.next causes source o (given_of (items_for rows (environment_of m (here s)))) → Exits m at (sum_by read_steps rows) (λ l. g l h0) (e h0) s (length b.code) (q h0)
    by at h0 s pre None is l =
        on (record { regs = l.regs; scene = s.scene; store = s.store; shared = s.shared; way = l.way; long = l.long; wide = refl; holds = goes h0 (here s) l.regs pre is l.has l.calm })
    by at h0 s pre (Some why) is z = ends (GivesUp why) s.shared z (fails h0 (here s) why pre is)

-- ---- an INSERT

abbrev pub nulled : Draft
nulled = with_op (taken (begun [])) (op.Null 0)

abbrev pub open_on : Draft → ℕ → Draft
open_on y table = with_op (with_cursor (with_cursor y)) (op.OpenWrite 1 table)

module _ (b : BoundInsert) (source : List (List Kept)) (y z : Draft) (x : KeepsRows (needing (flat_map needs_of_each b.rows)) nulled y 0 b.rows source) (none : y.cursors ≡ 0) (w : Puts (NamesWhatIsThere b) (open_on y b.table) z b.table 0 (AreAllKept 0 y.next source) (λ env. rows_run env b) (length source * row_steps b)) (two : z.cursors ≡ 2) where
  abbrev closing : Draft
  closing = with_op z (op.Close 1)

  abbrev whole : Draft
  whole = with_op closing op.Halt

  abbrev begins : Claim
  begins h0 h = (h ≡ h0) × Begins z.cursors h0

  -- the same but for the registers, of which the first holds no causes
  abbrev calm : Claim
  calm h0 h = (with_regs h h0.regs ≡ h0) × Begins 2 h0 × (read h.regs 0 ≡ no_causes)

  abbrev row_count : ℕ
  row_count = length source * row_steps b

  module _ (m : Setting) where
    abbrev last : Last
    last = EndsAs m (put_run b)

    abbrev items : Here → List Item
    items h0 = source_of b (surroundings_of m h0.shared)

    -- what all rows see
    abbrev env : Here → Environment
    env h0 = seen_in (surroundings_of m h0.shared)

    abbrev sourced : Claim
    sourced h0 h =
        (h.shared ≡ first_shared h0) × (refusal_of (items h0) ≡ None) × (read h.regs 0 ≡ no_causes) × AreAllKept 0 y.next source (given_of (items h0)) h.regs
        × (h.scene ≡ record { cursors = Closed ∷ Closed ∷ []; slots = [] })
        × (h.inputs.args ≡ [])

    abbrev opened : Claim
    opened h0 h =
        (h.shared ≡ first_shared h0) × (refusal_of (items h0) ≡ None) × (read h.regs 0 ≡ no_causes) × AreAllKept 0 y.next source (given_of (items h0)) h.regs
        × (h.scene ≡ scene_on b.table)
        × (h.inputs.args ≡ [])

    abbrev has_run : Claim
    has_run h0 h = (refusal_of (items h0) ≡ None) × (rows_run (env h0) b (given_of (items h0)) (first_shared h0) ≡ finished h.shared)

    -- the run of a good source, and of a bad one
    run_good : (h0 : Here) → refusal_of (items h0) ≡ None → run_by (rows_run (env h0) b (given_of (items h0)) (first_shared h0)) ≡ put_run b (surroundings_of m h0.shared) h0.shared.written.last_rowid
    run_good h0 e = ap (λ o. run_by (source_run (env h0) b (first_shared h0) o (given_of (items h0)))) (sym e)

    run_bad : (h0 : Here) (why : CauseSet) → refusal_of (items h0) ≡ Some why → record { ending = ending_by (Some why); shared = first_shared h0 } ≡ put_run b (surroundings_of m h0.shared) h0.shared.written.last_rowid
    run_bad h0 why e = ap (λ o. run_by (source_run (env h0) b (first_shared h0) o (given_of (items h0)))) (sym e)

    -- what the source comes to
    seen : (h0 h : Here) → calm h0 h → items_for b.rows (environment_of m h) ≡ items h0
    seen h0 h pre =
        ap (λ (k : Here). items_for b.rows (environment_of m k)) pre.0
        ∙ ap (items_for b.rows) (sees m h0 pre.1)
        ∙ items-same (surroundings_of m h0.shared) b.rows

    shared_is : (h0 h : Here) → calm h0 h → h.shared ≡ first_shared h0
    shared_is h0 h pre = ap (λ (k : Here). k.shared) pre.0 ∙ pre.1.shared

    clears : Triple m (begun []) nulled (λ h0. 1) no_labels last begins calm
    clears =
        let take = t_draft m no_labels last begins (g_taken (begun [])) refl in
        let clear = t_put m (taken (begun [])) (op.Null 0) 0 (λ h. no_causes) no_labels last begins calm (omega arith) (λ at s. refl) (λ h0 h regs pre long is same.
        (ap (λ (k : Here). with_regs k h0.regs) pre.0, subst (λ n. Begins n h0) two pre.1, is)) in
        t_more (λ h0. 1) (λ h0. omega arith) (t_seq take clear)

    reads : Triple m nulled y (λ h0. sum_by read_steps b.rows) no_labels last calm sourced
    reads = t_keeps m tt no_labels last calm sourced x (λ h0 h pre. pre.2) (λ h0 h regs pre good kept_now is. (
      shared_is h0 h pre,
      ap refusal_of (sym (seen h0 h pre)) ∙ good,
      is,
      subst (λ l. AreAllKept 0 y.next source (given_of l) regs) (seen h0 h pre) kept_now,
      ap (λ (k : Here). k.scene) pre.0 ∙ scene_begins h0 pre.1,
      ap (λ (k : Here). k.inputs.args) pre.0 ∙ ap (λ (i : Inputs). i.args) pre.1.inputs,
    )) (λ h0 h why pre bad.
        let run = run_bad h0 why (ap refusal_of (sym (seen h0 h pre)) ∙ bad) in
        (ap (λ (r : Run). r.ending) run, shared_is h0 h pre ∙ ap (λ (r : Run). r.shared) run))

    opens : Triple m y (open_on y b.table) (λ h0. 1) no_labels last sourced opened
    opens =
        let cursor = t_draft m no_labels last sourced (grows_then (g_cursor y) (g_cursor (with_cursor y))) refl in
        let open_it = t_move m (with_cursor (with_cursor y)) (op.OpenWrite 1 b.table) 1 (Open b.table None) no_labels last sourced opened (omega arith) (λ at s. refl) (λ h0 h pre is.
        (pre.0, pre.1, pre.2, pre.3, ap (λ (s : Scene). record s { cursors = slice_set s.cursors 1 (Open b.table None) }) pre.4, pre.5)) in
        t_more (λ h0. 1) (λ h0. omega arith) (t_seq cursor open_it)

    -- how many rows are put
    abbrev turns : Here → ℕ
    turns h0 = turns_of (refusal_of (items h0)) (length b.rows)

    puts : Triple m (open_on y b.table) z (λ h0. turns h0 * row_steps b) no_labels last opened has_run
    puts = t_more_where (λ h0. turns h0 * row_steps b) (λ h0 h pre.
        let many : row_count ≡ length b.rows * row_steps b = ap (λ n. n * row_steps b) x.wide in
        let same : turns_of (refusal_of (items h0)) (length b.rows) * row_steps b ≡ length b.rows * row_steps b = ap (λ o. turns_of o (length b.rows) * row_steps b) pre.1 in
        subst (λ n. row_count ≤ n) (many ∙ sym same) (omega arith)) (t_puts m (λ h0. world_of h0.shared) (λ h0. given_of (items h0)) no_labels last opened has_run w (λ h0 h pre. (record { scene = pre.4; args = pre.5; calm = pre.2 }, pre.3)) (λ h0 h regs k pre is.
        (pre.1, ap (rows_run (env h0) b (given_of (items h0))) (sym pre.0) ∙ is)) (λ h0 h why k pre is.
        let run = ap run_by (sym (ap (rows_run (env h0) b (given_of (items h0))) (sym pre.0) ∙ is)) ∙ run_good h0 pre.1 in
        (ap (λ (r : Run). r.ending) run, ap (λ (r : Run). r.shared) run)))

    closes : Triple m z closing (λ h0. 1) no_labels last has_run has_run
    closes = t_move m z (op.Close 1) 1 Closed no_labels last has_run has_run (omega (arith, two)) (λ at s. refl) (λ h0 h pre is. pre)

    ends_run : Triple m (begun []) whole (λ h0. sum_by read_steps b.rows + turns h0 * row_steps b + 4) no_labels last begins (λ h0 h. ⊥)
    ends_run =
        let halt = t_halt m closing no_labels last has_run (λ h0 h pre.
        let run = ap run_by (sym pre.1) ∙ run_good h0 pre.0 in
        (ap (λ (r : Run). r.ending) run, ap (λ (r : Run). r.shared) run)) in
        t_more (λ h0. sum_by read_steps b.rows + turns h0 * row_steps b + 4) (λ h0. omega arith) (t_seq (t_seq (t_seq (t_seq (t_seq clears reads) opens) puts) closes) halt)

  pub insert-performs : (p : Program) → IsProgramOf whole p → Performs p (put_run b) (put_steps b)
  insert-performs p is = performs_of [] whole p (put_run b) (put_steps b) is ends_run

  pub insert-accepted : NamesWhatIsThere b → z.units ≡ [] → (p : Program) → IsProgramOf whole p → IsAccepted p
  insert-accepted fits alone p is =
      let clearing = st_then (g_taken (begun [])) (st_taken [] [] (begun [])) (st_op [] [] (taken (begun [])) (op.Null 0) (refl, refl)) in
      let reading = st_then (grows_then (g_taken (begun [])) (g_op (taken (begun [])) (op.Null 0))) clearing (st_wider (λ xs met. met_source b fits xs) x.steady) in
      let cursors = st_then (g_cursor y) (st_cursor [] [] y) (st_cursor [] [] (with_cursor y)) in
      let front = st_then (grows_then (g_taken (begun [])) (grows_then (g_op (taken (begun [])) (op.Null 0)) x.grows)) reading cursors in
      accepted_of [] closing op.Halt p (steady_from [] (at_opened Table 1 (op.OpenWrite 1 b.table) refl refl (at_of [] (met_none []) front) (w.steady fits) (omega arith) w.grows.cursors)) alone refl refl is

-- ---- CREATE TABLE and DROP TABLE

-- at the start of a program that takes no cursor
abbrev starts : Claim
starts h0 h = (h ≡ h0) × Begins 0 h0

module _ (change : SchemaChange) where
  abbrev changing : Draft
  changing = with_op (begun []) (op.Schema change)

  abbrev pub schema_code : Draft
  schema_code = with_op changing op.Halt

  abbrev with_change : Shared → Shared
  with_change x = record x { written = with_schema change x.written }

  abbrev schema_run : Surroundings → ℤ → Run
  schema_run x last_rowid = record { ending = Finished; shared = with_change (untouched x.world last_rowid) }

  abbrev changed : Claim
  changed h0 h = h.shared ≡ with_change (first_shared h0)

  pub schema-accepted : (p : Program) → IsProgramOf schema_code p → IsAccepted p
  schema-accepted p is =
      accepted_of [] changing op.Halt p (st_op [] [] (begun []) (op.Schema change) (refl, refl)) refl refl refl is

  schema-performs : (p : Program) → IsProgramOf schema_code p → Performs p schema_run (λ x. 2)
  schema-performs p is = performs_of [] schema_code p schema_run (λ x. 2) is ends
    where
      ends : (m : Setting) → Triple m (begun []) schema_code (λ h0. 2) no_labels (EndsAs m schema_run) starts (λ h0 h. ⊥)
      ends m =
          let last : Last = EndsAs m schema_run in
          let changes : Triple m (begun []) changing (λ h0. 1) no_labels last starts changed = t_op m (begun []) (op.Schema change) (λ h. record h { shared = with_change h.shared }) no_labels last starts changed (λ at s. refl) (λ h. (refl, refl)) (λ h0 h most wide pre. ap with_change (untouched_is h0 h pre)) in
          t_more (λ h0. 2) (λ h0. omega arith) (t_seq changes (t_halt m changing no_labels last changed (λ h0 h pre. (refl, pre))))

pub create-performs : (p : Program) → IsProgramOf (schema_code AddTable) p → Performs p create_run create_steps
create-performs p is = schema-performs AddTable p is

pub drop-performs : (table : ℕ) (p : Program) → IsProgramOf (schema_code (DropTable table)) p → Performs p (drop_run table) drop_steps
drop-performs table p is = schema-performs (DropTable table) p is

-- ---- CREATE INDEX

module _ (table : ℕ) (name : List ℕ) (terms : List KeyTerm) (unique : Bool) where
  abbrev named : Bool → Option (List ℕ)
  named u = if u then Some name else None

  abbrev cursor_taken : Draft
  cursor_taken = with_cursor (begun [])

  abbrev reading : Draft
  reading = with_op cursor_taken (op.OpenRead 0 table)

  abbrev building : Draft
  building = with_op reading (op.BuildIndex 0 terms (named unique))

  abbrev shutting : Draft
  shutting = with_op building (op.Close 0)

  abbrev pub index_code : Draft
  index_code = with_op shutting op.Halt

  pub index-accepted : (p : Program) → IsProgramOf index_code p → IsAccepted p
  index-accepted p is =
      let needs : List Need = need.Table 0 ∷ [] in
      let open_one : OpenSet = cursor_on Table 0 ∷ [] in
      let front = at_of [] (met_none []) (st_cursor [] [] (begun [])) in
      let body = at_of open_one (met_one open_one (need.Table 0) (0, omega arith, refl)) (st_use needs [] reading (op.BuildIndex 0 terms (named unique)) (need.Table 0) refl refl (0, omega arith, refl)) in
      accepted_of [] shutting op.Halt p (steady_from [] (at_opened Table 0 (op.OpenRead 0 table) refl refl front body (omega arith) (omega arith))) refl refl refl is

  module _ (m : Setting) where
    abbrev index_last : Last
    index_last = EndsAs m (index_run table name terms unique)

    abbrev one_cursor : Claim
    one_cursor h0 h = (h ≡ h0) × Begins 1 h0

    abbrev on_table : Claim
    on_table h0 h = (h.shared ≡ first_shared h0) × (cursor_at h.scene.cursors 0 ≡ Open table None)

    abbrev refuses : Here → Option CauseSet
    refuses h0 = doubles_refused table name terms unique (world_of h0.shared)

    abbrev is_built : Claim
    is_built h0 h = (h.shared ≡ first_shared h0) × (refuses h0 ≡ None)

    -- what decides it
    decided : (h0 h : Here) (u : Bool) → unique ≡ u → h.shared ≡ first_shared h0 → refuses h0 ≡ (if u && has_doubles terms (rows_of (world_of h.shared) table) then Some (only (Constraint Unique name)) else None)
    decided h0 h u is same =
        ap (λ v. doubles_refused table name terms v (world_of h0.shared)) is
        ∙ ap (λ (x : Shared). doubles_refused table name terms u (world_of x)) (sym same)

    opens_table : Triple m cursor_taken reading (λ h0. 1) no_labels index_last one_cursor on_table
    opens_table =
        t_move m cursor_taken (op.OpenRead 0 table) 0 (Open table None) no_labels index_last one_cursor on_table (omega arith) (λ at s. refl) (λ h0 h pre is. (untouched_is h0 h pre, is))

    builds : (u : Bool) → unique ≡ u → Triple m reading (with_op reading (op.BuildIndex 0 terms (named u))) (λ h0. 1) no_labels index_last on_table is_built
    builds false is =
        t_use on_table is_built (λ h0 h pre. pre) (λ h0 h pre. (pre.0, decided h0 h false is pre.0)) (t_build_index m reading 0 terms no_labels index_last on_table)
    builds true is =
        t_build_unique m reading 0 table terms name no_labels index_last on_table is_built (λ h0 h pre. (None, pre.1)) (λ h0 h pre none. (pre.0, decided h0 h true is pre.0 ∙ ap (λ d. if d then Some (only (Constraint Unique name)) else None) none)) (λ h0 h pre some. (
          ap ending_by (sym (decided h0 h true is pre.0 ∙ ap (λ d. if d then Some (only (Constraint Unique name)) else None) some)),
          pre.0,
        ))

    index_ends : Triple m (begun []) index_code (λ h0. 4) no_labels index_last one_cursor (λ h0 h. ⊥)
    index_ends =
        let take = t_draft m no_labels index_last one_cursor (g_cursor (begun [])) refl in
        let shut = t_move m building (op.Close 0) 0 Closed no_labels index_last is_built is_built (omega arith) (λ at s. refl) (λ h0 h pre is. pre) in
        let halt = t_halt m shutting no_labels index_last is_built (λ h0 h pre. (ap ending_by (sym pre.1), pre.0)) in
        t_more (λ h0. 4) (λ h0. omega arith) (t_seq (t_seq (t_seq (t_seq take opens_table) (builds unique refl)) shut) halt)

  pub index-performs : (p : Program) → IsProgramOf index_code p → Performs p (index_run table name terms unique) index_steps
  index-performs p is = performs_of [] index_code p (index_run table name terms unique) index_steps is index_ends

-- ---- a statement that does nothing

abbrev pub nothing_code : Draft
nothing_code = with_op (begun []) op.Halt

pub nothing-accepted : (p : Program) → IsProgramOf nothing_code p → IsAccepted p
nothing-accepted p is = accepted_of [] (begun []) op.Halt p (st_none [] [] (begun [])) refl refl refl is

pub nothing-performs : (p : Program) → IsProgramOf nothing_code p → Performs p nothing_run nothing_steps
nothing-performs p is =
    performs_of [] nothing_code p nothing_run nothing_steps is (λ m. t_halt m (begun []) no_labels (EndsAs m nothing_run) starts (λ h0 h pre. (refl, untouched_is h0 h pre)))
