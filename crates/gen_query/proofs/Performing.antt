-- The program of a query performs it.
use Rattle.std.proofs.Common.{◌≡◌, ℕ, zero, suc, ℤ, ◌+◌, ◌≤◌, List, [], ◌∷◌, ◌++◌, subst, length, map, None, refl, sym, ap, ◌∙◌, arith}
use Rattle.std.specs.Prelude.{replicate}
use Rattle.eng_value.specs.Environments.{Surroundings, environment, null_row}
use Rattle.eng_value.specs.declared.value.Value.{Value}
use Rattle.gen_loop.specs.Loops.{from_cost, from_effect, plan_steps}
use Rattle.gen_loop.specs.Stretches.{AreSpread}
use Rattle.gen_query.specs.Queries.{by_world, conjuncts_of, gives, query_run, query_steps, row_effect, row_steps, rows_in_turn_steps, run_by, values_effect, values_items, values_run, values_steps, with_given}
use Rattle.gen_query.proofs.Fitting.{cursors_of, items-same, items_among, long-loops, over-spread, planned-fits, planned-gives, steps-same}
use Rattle.gen_query.proofs.Listing.{gives_done, gives_fails, gives_quit}
use Rattle.gen_query.proofs.Sizing.{plan-few}
use Rattle.plan_tree.specs.Plans.{PlanFits}
use Rattle.plan_tree.specs.declared.access.JoinPlan.{JoinPlan}
use Rattle.sql_meaning.specs.Products.{no_rows}
use Rattle.sql_meaning.specs.Statement.{Item, given_of}
use Rattle.bound_tree.specs.Exprs.{BoundExpr}
use Rattle.sql_meaning.specs.declared.bound.BoundSelect.{BoundSelect}
use Rattle.vm_code.specs.declared.op.Op.TheVariants as op
use Rattle.vm_code.specs.declared.open_cursor.Need.{Need}
use Rattle.vm_code.specs.declared.program.Program.{Program}
use Rattle.vm_code.specs.Draft.{Draft, begun, with_op}
use Rattle.vm_code.specs.Tracked.{Steady}
use Rattle.vm_code.specs.Machine.{World, Cursor, Ends, Setting, Shared, Finished, Performs, PerformsWith, Run, current, ending_by, read, setting, start, world_of}
use Rattle.vm_code.specs.Frames.{Cost, Here, environment_of, sight_of, surroundings_of, Memory, memory_of, Effect, effect_at, cost_at, Does, IsProgramOf, Shut, needing}
use Rattle.vm_code.specs.Accepted.{IsAccepted}
use Rattle.vm_code.specs.Claims.{Claim, Last, Triple}
use Rattle.vm_code.proofs.Runs.{leads_more}
use Rattle.vm_code.proofs.Triples.{no_labels, t_seq, t_halt}
use Rattle.vm_code.proofs.Effects.{t_does}
use Rattle.vm_code.proofs.Accepting.{accepted_of}
use Rattle.vm_code.proofs.Whole.{Begins, EndsAs, performs_of}

-- ---- what is seen at the start

no_cursors : (cursors : List Cursor) → length cursors ≡ 0 → cursors ≡ []
no_cursors [] e = refl
no_cursors (c ∷ cs) e = absurd (omega (arith, e))

-- closed cursors read as no rows
reads_none : (w : World) (n : ℕ) (cursors : List Cursor) → length cursors ≡ n → Shut 0 cursors → map (current w) cursors ≡ replicate n null_row
reads_none w zero [] e shut = refl
reads_none w zero (c ∷ cs) e shut = absurd (omega (arith, e))
reads_none w (suc n) [] e shut = absurd (omega (arith, e))
reads_none w (suc n) (c ∷ cs) e shut =
    ap (λ x. current w x ∷ map (current w) cs) (shut 0 (omega arith))
    ∙ ap (λ l. null_row ∷ l) (reads_none w n cs (omega (arith, e)) (λ k le. shut (suc k) (omega arith)))

-- a main unit has no arguments, and nothing in its slots
sees : (m : Setting) (n : ℕ) (h : Here) (cursors : List Cursor) → Begins n h → h.scene.cursors ≡ cursors → environment_of m h ≡ environment (surroundings_of m h.shared) [] [] (map (current (world_of h.shared)) cursors)
sees m n h cursors b is =
    ap (λ l. environment_of m (record h { scene = record h.scene { cursors = l } })) is
    ∙ ap (λ l. environment_of m (record h { scene = record { cursors = cursors; slots = l } })) b.slots
    ∙ ap (λ k. environment_of m (record h { scene = record { cursors = cursors; slots = [] }; inputs = k })) b.inputs

-- no item has a row
sees_none : (m : Setting) (n : ℕ) (h : Here) → Begins n h → environment_of m h ≡ environment (surroundings_of m h.shared) [] [] (no_rows n).rows
sees_none m n h b =
    sees m n h h.scene.cursors b refl
    ∙ ap (environment (surroundings_of m h.shared) [] []) (reads_none (world_of h.shared) n h.scene.cursors b.wide b.shut)

-- the items of VALUES
gives_values : (m : Setting) (rows : List (List BoundExpr)) (h : Here) → Begins 0 h → effect_at m (values_effect rows) 0 0 h ≡ gives (values_items rows (surroundings_of m h.shared)) (memory_of 0 h)
gives_values m rows h b =
    ap (λ env. values_effect rows (record (sight_of m h) { env = env }) (read h.regs 0) (memory_of 0 h)) (sees m 0 h [] b (no_cursors h.scene.cursors b.wide))

-- ---- the run

-- code that gives items by what surrounds it, and the end of the program
module _ {needs : List Need} (z : Draft) (f : Effect) (items_by : Surroundings → List Item) (n : Cost) (most : Surroundings → ℕ) (x : Does (needing needs) (begun []) z 0 0 None f n) (gives_them : (m : Setting) (h : Here) → Begins z.cursors h → effect_at m f 0 0 h ≡ gives (items_by (surroundings_of m h.shared)) (memory_of 0 h)) (costs : (m : Setting) (h : Here) → Begins z.cursors h → cost_at m n 0 0 h ≡ most (surroundings_of m h.shared)) where
  abbrev pub whole : Draft
  whole = with_op z op.Halt

  abbrev begins : Claim
  begins h0 h = (h ≡ h0) × Begins z.cursors h0

  abbrev run : Surroundings → ℤ → Run
  run around last_rowid = run_by around.world last_rowid (items_by around)

  module _ (m : Setting) where
    abbrev run_at : Here → Run
    run_at h0 = run (surroundings_of m h0.shared) h0.shared.written.last_rowid

    abbrev items : Here → List Item
    items h0 = items_by (surroundings_of m h0.shared)

    abbrev last : Last
    last = EndsAs m run

    abbrev finished : Claim
    finished h0 h = (Finished ≡ (run_at h0).ending) × (h.shared ≡ (run_at h0).shared)

    -- the effect at the start is to give the items
    gives_items : (h0 h : Here) → begins h0 h → effect_at m f 0 0 h ≡ gives (items h0) (memory_of 0 h0)
    gives_items h0 h (same, b) = ap (effect_at m f 0 0) same ∙ gives_them m h0 b

    -- what is shared behind the items
    shared_is : (h0 h : Here) (y : Memory) → begins h0 h → with_given (memory_of 0 h0) (given_of (items h0)) ≡ y → y.shared ≡ (run_at h0).shared
    shared_is h0 h y pre is =
        ap (λ (v : Memory). v.shared) (sym is)
        ∙ ap (λ (v : Shared). record v { given = v.given ++ given_of (items h0) }) pre.1.shared

    rows : Triple m (begun []) z (λ h0. most (surroundings_of m h0.shared)) no_labels last begins finished
    rows = t_does m tt (λ h0. most (surroundings_of m h0.shared)) no_labels last begins finished x (λ h0 h pre. omega (arith, ap (cost_at m n 0 0) pre.0, costs m h0 pre.1)) (λ h0 h pre. subst (λ (y : Here). Shut 0 y.scene.cursors) (sym pre.0) pre.1.shut) (λ h0 h regs y pre is long own same.
        let known = gives_done (items h0) (memory_of 0 h0) y (sym (gives_items h0 h pre) ∙ is) in
        (ap ending_by (sym known.0), shared_is h0 h y pre known.1)) (λ l h0 h regs scene y e pre is long wide below slots own same.
        absurd (gives_quit (items h0) (memory_of 0 h0) y (sym (gives_items h0 h pre) ∙ is))) (λ h0 h k y pre is.
        let known = gives_fails (items h0) k (memory_of 0 h0) y (sym (gives_items h0 h pre) ∙ is) in
        (ap ending_by (sym known.0), shared_is h0 h y pre known.1))

    ends : Triple m (begun []) whole (λ h0. most (surroundings_of m h0.shared) + 1) no_labels last begins (λ h0 h. ⊥)
    ends = t_seq rows (t_halt m z no_labels last finished (λ h0 h pre. pre))

  items-performed : (p : Program) → IsProgramOf whole p → Performs p run (λ around. most around + 1)
  items-performed p is = performs_of [] whole p run (λ around. most around + 1) is ends

-- a program whose main unit is that code and the end
pub ended-accepted : (z : Draft) → Steady [] [] (begun []) z → z.units ≡ [] → (p : Program) → IsProgramOf (with_op z op.Halt) p → IsAccepted p
ended-accepted z steady alone p is = accepted_of [] z op.Halt p steady alone refl refl is

-- ---- a query

module _ {needs : List Need} (z : Draft) (q : BoundSelect) (p : JoinPlan) (x : AreSpread p.loops → Does (needing needs) (begun []) z 0 0 None (from_effect p (row_effect q.results)) (from_cost p (row_steps q.results))) (wide : z.cursors ≡ cursors_of p) (program : Program) (is : IsProgramOf (with_op z op.Halt) program) where
  -- at the start, where no item has a row
  abbrev steps_planned : Surroundings → ℕ
  steps_planned around = plan_steps p (row_steps q.results) (environment around [] [] (no_rows (cursors_of p)).rows)

  starts : (m : Setting) (h : Here) → Begins z.cursors h → environment_of m h ≡ environment (surroundings_of m h.shared) [] [] (no_rows (cursors_of p)).rows
  starts m h b = sees_none m (cursors_of p) h (subst (λ n. Begins n h) wide b)

  -- it gives the items of the rows of the plan, whether it fits or not
  visits : AreSpread p.loops → Performs program (λ around last_rowid. run_by around.world last_rowid (items_among (cursors_of p) q p around)) (λ around. steps_planned around + 1)
  visits spread =
      items-performed z (from_effect p (row_effect q.results)) (items_among (cursors_of p) q p) (from_cost p (row_steps q.results)) steps_planned (x spread) (λ m h b. planned-gives (cursors_of p) q p (surroundings_of m h.shared) (sight_of m h) (starts m h b) (read h.regs 0) (memory_of 0 h)) (λ m h b. ap (plan_steps p (row_steps q.results)) (starts m h b)) program is

  -- and these are those of the query where it fits
  pub query-performs : (params : List Value) → PlanFits params q.from (conjuncts_of q) p → PerformsWith params program (query_run q) (query_steps q)
  query-performs params fits around last_rowid same sound =
      let spread = over-spread q.from p.loops fits.over in
      let ran = visits spread around last_rowid sound in
      let long : length p.loops ≡ length q.from = long-loops q.from p.loops fits.over in
      let fewest : plan_steps p (row_steps q.results) (environment around [] [] (no_rows (length p.loops)).rows) + 1 ≤ query_steps q around = subst (λ n. plan_steps p (row_steps q.results) (environment around [] [] (no_rows n).rows) + 1 ≤ query_steps q around) (sym long) (plan-few q p params fits around same) in
      let few : steps_planned around + 1 ≤ query_steps q around = subst (λ n. n + 1 ≤ query_steps q around) (sym (steps-same p (row_steps q.results) around spread)) fewest in
      let m = setting around.hosts around.ask around.params program in
      let run : List Item → Run = λ l. run_by around.world last_rowid l in
      let items = items-same q p around spread ∙ planned-fits q p params fits around same sound.ordered in
      subst (λ l. Ends m (query_steps q around) (start program around.world last_rowid) (run l).ending (run l).shared) items (leads_more m (query_steps q around) few ran)

-- ---- VALUES

module _ {needs : List Need} (z : Draft) (rows : List (List BoundExpr)) (x : Does (needing needs) (begun []) z 0 0 None (values_effect rows) (by_world (λ w. rows_in_turn_steps rows))) (wide : z.cursors ≡ 0) (p : Program) (is : IsProgramOf (with_op z op.Halt) p) where
  pub values-performed : Performs p (values_run rows) (values_steps rows)
  values-performed =
      items-performed z (values_effect rows) (values_items rows) (by_world (λ w. rows_in_turn_steps rows)) (λ around. rows_in_turn_steps rows) x (λ m h b. gives_values m rows h (subst (λ n. Begins n h) wide b)) (λ m h b. refl) p is
