-- The code of a row gives its item.
use Rattle.std.proofs.Common.{◌≡◌, ℕ, ◌+◌, ◌-◌, ◌≤◌, ◌<◌, List, [], ◌∷◌, ◌++◌, true, false, length, map, sum_by, fold, Some, None, refl, sym, ap, ◌∙◌, subst, arith, inl, inr}
use Rattle.std.specs.Prelude.{slice_get}
use Rattle.std.proofs.lemmas.Option.{slice_get_within}
use Rattle.eng_value.specs.Causes.{CauseSet}
use Rattle.eng_value.specs.Environments.{no_causes, with_causes}
use Rattle.eng_value.specs.declared.out.Out.{Out}
use Rattle.eng_value.specs.declared.out.Out.TheVariants.{Good, Bad}
use Rattle.gen_expr.specs.Steps.{steps_of}
use Rattle.gen_loop.specs.Loops.{KeepsWritten}
use Rattle.gen_query.specs.Queries.{gives, results_read, row_effect, row_steps, shown_effect, value_effect, with_given}
use Rattle.gen_query.specs.Stretches.{Gathers, Shows, with_row_given}
use Rattle.gen_query.proofs.Gathering.{t_gathers, values_in}
use Rattle.gen_query.proofs.Listing.{gives_done, good_or_null-same, with_given-nil}
use Rattle.sql_meaning.specs.Statement as meaning
use Rattle.sql_meaning.specs.Statement.{item_by, shown}
use Rattle.bound_tree.specs.Exprs.{BoundExpr}
use Rattle.vm_code.specs.declared.op.Op.{Op}
use Rattle.vm_code.specs.declared.op.Op.TheVariants as op
use Rattle.vm_code.specs.declared.open_cursor.Need.{Need}
use Rattle.vm_code.specs.Draft.{Draft, with_op, with_label, bound, taken, released}
use Rattle.vm_code.specs.Tracked.{GoesOn, Steady}
use Rattle.vm_code.specs.Machine.{Row, Setting, State, act, is_bad, leaving_of, outs_from, put, read, values_from}
use Rattle.vm_code.specs.Frames.{Here, environment_of, Memory, memory_of, Effect, Done, Fails, Does, Fills, Grows, needing, placed}
use Rattle.vm_code.specs.Claims.{Claim, Labels, Last, Triple}
use Rattle.vm_code.proofs.Drafts.{g_bound, g_label, g_op, g_released, g_taken, grows_then, open_new, open_old, open_other}
use Rattle.vm_code.proofs.Tracks.{has-bound, place-bound, st_fork, st_goto, st_inner, st_leave, st_made, st_on, st_op, st_released, st_taken, st_then, st_within}
use Rattle.vm_code.proofs.Registers.{outs_same, values_outs}
use Rattle.vm_code.proofs.Triples.{no_labels, with_claim, t_seq, t_more, t_draft, t_op, t_test, t_goto, t_bind, t_halt_bad}
use Rattle.vm_code.proofs.Effects.{does_of, t_put, But, but_none, but_regs, but_env, EndsDone, EndsFailed}
use Rattle.vm_code.proofs.Fills.{t_fills}

-- ---- the item by what the registers hold

-- good, it is given; bad, it ends the run
gives-good : (outs : List Out) (all : Out) (x : Memory) → is_bad all ≡ false → gives (item_by outs all ∷ []) x ≡ Done (with_given x (map meaning.good_or_null outs ∷ []))
gives-good outs (Good v) x e = refl
gives-good outs (Bad causes) x e = cc

gives-bad : (outs : List Out) (all : Out) (x : Memory) → is_bad all ≡ true → (causes : CauseSet) × (all ≡ Bad causes) × (gives (item_by outs all ∷ []) x ≡ Fails causes (with_given x []))
gives-bad outs (Good v) x e = cc
gives-bad outs (Bad causes) x e = (causes, refl, refl)

-- what is put aside and shared is as it was
but_memory : {mark to : ℕ} {h0 h : Here} → But mark to h0 h → memory_of 0 h0 ≡ memory_of 0 h
but_memory {mark} {to} {h0} {h} x =
    ap (λ y. memory_of 0 (record h0 { store = y })) (sym x.store) ∙ ap (λ y. memory_of 0 (record h { shared = y })) (sym x.shared)

-- ---- the code of a row

module _ (a y z : Draft) (results : List BoundExpr) (counted : a.next ≤ a.most) (outer : ℕ) (start : Out → Out) (o : Op) (goes_on : GoesOn o) (law : (m : Setting) (at : ℕ → ℕ) (s : State) → act m (Some (placed at o)) s ≡ put s a.next (start (read s.regs outer))) (same_start : (r q : List Out) → ((k : ℕ) → k < a.next → read q k ≡ read r k) → start (read q outer) ≡ start (read r outer)) (fy : Fills (needing (results_read results)) (with_op (taken (with_label a)) o) y (length results) (λ env. values_in results env) (λ env. sum_by steps_of results)) (gz : Gathers y z (a.next + 1) (y.next - (a.next + 1)) a.next) where
  -- the register of the causes
  abbrev causes : ℕ
  causes = a.next

  abbrev ready : Draft
  ready = taken (with_label a)

  abbrev x : Draft
  x = with_op ready o

  abbrev count : ℕ
  count = y.next - (a.next + 1)

  abbrev next : ℕ
  next = length a.labels

  abbrev fail : ℕ
  fail = length z.labels

  abbrev testing : Draft
  testing = with_op (with_label z) (op.IsBad causes fail)

  abbrev giving : Draft
  giving = with_op testing (op.ResultRow (a.next + 1) count)

  abbrev leaving : Draft
  leaving = with_op giving (op.Goto next)

  abbrev halting : Draft
  halting = with_op (bound leaving fail) (op.HaltBad causes)

  abbrev pub row_code : Draft
  row_code = released (with_row_given z (a.next + 1) count causes next) causes

  count_is : count ≡ length results
  count_is = omega (arith, fy.next)

  pub next_open : slice_get z.labels next ≡ Some None
  next_open =
      gz.grows.open_labels next (fy.grows.open_labels next (open_new a))

  next_below : next < fail
  next_below = slice_get_within z.labels next None next_open

  next_there : slice_get halting.labels next ≡ Some None
  next_there =
      open_other leaving fail next (λ e. absurd (omega (arith, e, next_below))) (open_old z next next_open)

  grows_leaving : Grows a leaving
  grows_leaving =
      grows_then (g_label a) (grows_then (g_taken (with_label a)) (grows_then (g_op ready o) (grows_then fy.grows (grows_then gz.grows (grows_then (g_label z) (grows_then (g_op (with_label z) (op.IsBad causes fail)) (grows_then (g_op testing (op.ResultRow (a.next + 1) count)) (g_op giving (op.Goto next)))))))))

  grows_row : Grows a row_code
  grows_row =
      grows_then (g_bound halting next (grows_then (g_bound leaving fail grows_leaving (omega (arith, next_below)) (open_new z)) (g_op (bound leaving fail) (op.HaltBad causes))) (omega arith) next_there) (g_released (bound halting next) causes)

  abbrev needs : List Need
  needs = results_read results

  -- the label behind the row alone, and beside it that of a bad one
  abbrev outside : List ℕ
  outside = next ∷ []

  abbrev inside : List ℕ
  inside = fail ∷ next ∷ []

  steady_giving : Steady needs outside z (bound halting next)
  steady_giving =
      st_made fail refl (has-bound halting next fail (place-bound leaving fail (open_new z))) (st_then (g_op (with_label z) (op.IsBad causes fail)) (st_fork needs inside (with_label z) (op.IsBad causes fail) fail refl refl (inl refl)) (st_then (g_op testing (op.ResultRow (a.next + 1) count)) (st_op needs inside testing (op.ResultRow (a.next + 1) count) (refl, refl)) (st_on (λ l xs m. m) (st_goto needs inside giving next fail (inr (inl refl)) (inl refl)) (st_leave needs inside (bound leaving fail) (op.HaltBad causes) next refl refl (inr (inl refl))))))

  steady_row : Steady needs [] a row_code
  steady_row =
      st_made next refl (place-bound halting next next_there) (st_then (g_taken (with_label a)) (st_taken needs outside (with_label a)) (st_then (g_op ready o) (st_op needs outside ready o goes_on) (st_then fy.grows (st_within outside (λ xs met. met) fy.steady) (st_then gz.grows (st_inner needs outside gz.steady) (st_on (g_label z).marks steady_giving (st_released needs outside (bound halting next) causes))))))

  abbrev started : Claim
  started = But causes causes

  abbrev effect : Effect
  effect = shown_effect results start

  module _ (m : Setting) where
    -- what is known on the way
    abbrev items_of : Here → List meaning.Item
    items_of h = shown results (environment_of m h) (start (read h.regs outer)) ∷ []

    abbrev outs_of : Here → List Out
    outs_of h = values_in results (environment_of m h)

    abbrev kept : Claim
    kept h0 h = started h0 h × (read h.regs causes ≡ start (read h0.regs outer))

    abbrev filled : Claim
    filled h0 h = kept h0 h × (outs_from h.regs (a.next + 1) count ≡ outs_of h0)

    abbrev gathered : Claim
    gathered h0 h =
        started h0 h × (items_of h0 ≡ item_by (outs_of h0) (read h.regs causes) ∷ []) × (outs_from h.regs (a.next + 1) count ≡ outs_of h0)

    abbrev good : Claim
    good h0 h = gathered h0 h × (is_bad (read h.regs causes) ≡ false)

    abbrev bad_row : Claim
    bad_row h0 h = gathered h0 h × (is_bad (read h.regs causes) ≡ true)

    abbrev done : Claim
    done = EndsDone m effect 0 outer causes

    abbrev last : Last
    last = EndsFailed m effect 0 outer

    abbrev outer_labels : Labels
    outer_labels = no_labels

    abbrev inner : Labels
    inner = with_claim next done outer_labels

    abbrev innermost : Labels
    innermost = with_claim fail bad_row inner

    -- where only registers from the mark on and what is given differ
    row_done : (h0 h : Here) (rows : List Row) → started h0 h → gives (items_of h0) (memory_of 0 h0) ≡ Done (with_given (memory_of 0 h0) rows) → done h0 (record h { shared = record h.shared { given = h.shared.given ++ rows } })
    row_done h0 h rows but e =
        ((λ k le lt. but.regs k lt (omega arith)), but.scene, e ∙ ap (λ (y : Memory). Done (with_given y rows)) (but_memory but))

    begins : Triple m a x (λ h0. 1) innermost last started kept
    begins =
        let take = t_draft m innermost last started (grows_then (g_label a) (g_taken (with_label a))) refl in
        let put_it = t_put m ready o causes (λ h. start (read h.regs outer)) innermost last started kept (omega arith) (law m) (λ h0 h regs pre long is same.
        (but_regs regs (λ k lt ne. same k ne) pre, is ∙ same_start h0.regs h.regs (λ k lt. pre.regs k lt (λ e. absurd (omega (arith, e, lt)))))) in
        t_more (λ h0. 1) (λ h0. omega arith) (t_seq take put_it)

    fills : Triple m x y (λ h0. sum_by steps_of results) innermost last kept filled
    fills = t_fills m tt innermost last kept filled fy (λ h0 h pre. but_env m pre.0) (λ h0 h regs pre long is same.
        ((but_regs regs (λ k lt ne. same k (omega (arith, lt))) pre.0, same causes (omega arith) ∙ pre.1), ap (outs_from regs (a.next + 1)) count_is ∙ is ∙ ap (values_in results) (but_env m pre.0)))

    gathers : Triple m y z (λ h0. count) innermost last filled gathered
    gathers = t_gathers m innermost last filled gathered gz (λ h0 h regs pre long is same.
        let all : read regs causes ≡ fold with_causes (start (read h0.regs outer)) (outs_of h0) = is ∙ ap (fold with_causes (read h.regs causes)) pre.1 ∙ ap (λ v. fold with_causes v (outs_of h0)) pre.0.1 in (
          but_regs regs (λ k lt ne. same k (omega (arith, lt, fy.next)) ne) pre.0.0,
          ap (λ v. item_by (outs_of h0) v ∷ []) (sym all),
          outs_same regs h.regs count (a.next + 1) (λ k le lt. same k (omega (arith, lt, count_is, fy.next)) (λ e. absurd (omega (arith, le, e)))) ∙ pre.1,
        ))

    tests : Triple m z testing (λ h0. 1) innermost last gathered good
    tests =
        let label = t_draft m innermost last gathered (g_label z) refl in
        let jump = t_test m (with_label z) (op.IsBad causes fail) fail (λ h. is_bad (read h.regs causes)) innermost last gathered good (λ at s. refl) (λ h0 h pre b. inl (refl, (pre, b))) (λ h0 h pre b. (pre, b)) in
        t_more (λ h0. 1) (λ h0. omega arith) (t_seq label jump)

    given : Triple m testing giving (λ h0. 1) innermost last good done
    given = t_op m testing (op.ResultRow (a.next + 1) count) (λ h. record h { shared = record h.shared { given = h.shared.given ++ values_from h.regs (a.next + 1) count ∷ [] } }) innermost last good done (λ at s. refl) (λ h. (refl, refl)) (λ h0 h most wide pre.
        let row : values_from h.regs (a.next + 1) count ≡ map meaning.good_or_null (outs_of h0) = values_outs h.regs count (a.next + 1) ∙ good_or_null-same (outs_from h.regs (a.next + 1) count) ∙ ap (map meaning.good_or_null) pre.0.2 in
        let gave = ap (λ l. gives l (memory_of 0 h0)) pre.0.1 ∙ gives-good (outs_of h0) (read h.regs causes) (memory_of 0 h0) pre.1 ∙ ap (λ r. Done (with_given (memory_of 0 h0) (r ∷ []))) (sym row) in
        row_done h0 h (values_from h.regs (a.next + 1) count ∷ []) pre.0.0 gave)

    leaves : Triple m giving leaving (λ h0. 1) innermost last done (λ h0 h. ⊥)
    leaves = t_goto m giving next innermost last done (λ h0 h pre. inr (inl (refl, pre)))

    fails : Triple m (bound leaving fail) halting (λ h0. 1) inner last bad_row (λ h0 h. ⊥)
    fails = t_halt_bad m (bound leaving fail) causes inner last bad_row (λ h0 h pre.
        let ends = gives-bad (outs_of h0) (read h.regs causes) (memory_of 0 h0) pre.1 in (
          ends.0,
          with_given (memory_of 0 h0) [],
          ap (λ l. gives l (memory_of 0 h0)) pre.0.1 ∙ ends.2,
          ap leaving_of ends.1,
          ap (λ (y : Memory). y.shared) (with_given-nil (memory_of 0 h0)) ∙ sym pre.0.0.shared,
        ))

    whole : Triple m a row_code (λ h0. row_steps results) outer_labels last started done
    whole =
        let good_way = t_seq (t_seq (t_seq (t_seq (t_seq begins fills) gathers) tests) given) leaves in
        let at_fail = t_bind fail bad_row (open_new z) (λ h0 h no. absurd no) good_way in
        let all = t_bind next done next_there (λ h0 h no. absurd no) (t_seq at_fail fails) in
        let back = t_draft m outer_labels last done (g_released (bound halting next) causes) refl in
        t_more (λ h0. row_steps results) (λ h0. omega (arith, count_is)) (t_seq all back)

  pub row-does : Does (needing (results_read results)) a row_code 0 outer None (shown_effect results start) (λ sight held y. row_steps results)
  row-does = does_of 0 outer None effect started grows_row refl steady_row (λ h shut. but_none causes causes h) (λ m called. whole m)

-- ---- by what was written

module _ (a b : Draft) (results : List BoundExpr) (counted : a.next ≤ a.most) where
  -- in front of the results
  abbrev with_first : Op → Draft
  with_first o = with_op (taken (with_label a)) o

  pub shows-cursors : (o : Op) → Shows (with_first o) b results a.next (length a.labels) → b.cursors ≡ a.cursors
  shows-cursors o x = ap (λ (d : Draft). d.cursors) x.is ∙ x.cursors

  pub shows-units : (o : Op) → Shows (with_first o) b results a.next (length a.labels) → b.units ≡ a.units
  shows-units o x = ap (λ (d : Draft). d.units) x.is ∙ x.units

  -- a row of a FROM, whose causes a register holds
  pub given-does : (causes : ℕ) → causes < a.next → Shows (with_first (op.Copy causes a.next)) b results a.next (length a.labels) → Does (needing (results_read results)) a (released b a.next) 0 causes None (row_effect results) (λ sight held y. row_steps results)
  given-does causes lt x =
      subst (λ d. Does (needing (results_read results)) a (released d a.next) 0 causes None (row_effect results) (λ sight held y. row_steps results)) (sym x.is) (row-does a x.filled x.gathered results counted causes (λ v. v) (op.Copy causes a.next) (refl, refl) (λ m at s. refl) (λ r q same. same causes lt) x.fills x.gathers)

  -- a row of VALUES
  pub valued-does : Shows (with_first (op.Null a.next)) b results a.next (length a.labels) → Does (needing (results_read results)) a (released b a.next) 0 0 None (value_effect results) (λ sight held y. row_steps results)
  valued-does x =
      subst (λ d. Does (needing (results_read results)) a (released d a.next) 0 0 None (value_effect results) (λ sight held y. row_steps results)) (sym x.is) (row-does a x.filled x.gathered results counted 0 (λ v. no_causes) (op.Null a.next) (refl, refl) (λ m at s. refl) (λ r q same. refl) x.fills x.gathers)

  -- the registers and the label of what was written
  pub shows-next : (o : Op) → Shows (with_first o) b results a.next (length a.labels) → a.next ≤ b.next
  shows-next o x = omega (arith, ap (λ (d : Draft). d.next) x.is, x.gathers.next, x.fills.next)

-- what is given writes nothing
pub given-keeps : (results : List BoundExpr) → KeepsWritten (row_effect results)
given-keeps results sight causes x y e =
    ap (λ (z : Memory). z.shared.written) (sym (gives_done (shown results sight.env causes ∷ []) x y e).1)
