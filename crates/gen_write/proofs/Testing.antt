-- The tests of a row, and its rowid.
use Rattle.std.proofs.Common.{◌≡◌, ◌≢◌, ℕ, suc, ◌+◌, ◌<◌, Bool, true, false, List, [], ◌∷◌, length, map, sum_by, drop, get_or, add-one, ℤ, Option, Some, None, if◌then◌else◌, refl, sym, ap, ◌∙◌, subst, arith, inl, inr}
use Rattle.std.specs.Prelude.{slice_get, slice_set, ◌&&◌, ◌||◌}
use Rattle.std.proofs.Math.ListN.{length-set}
use Rattle.std.proofs.Math.Seq.{drop-cons, drop-length}
use Rattle.std.proofs.lemmas.List.{get_or-set_same, get_or-set_other}
use Rattle.std.proofs.lemmas.List.Sums.{sum_by-cons}
use Rattle.eng_number.specs.Numbers.{fits_integer}
use Rattle.eng_index.specs.Keys.{row_in_way}
use Rattle.eng_index.specs.declared.key_term.KeyTerm.{KeyTerm}
use Rattle.eng_value.specs.Causes.{only}
use Rattle.eng_value.specs.StoredRows.{StoredRow, next_rowid}
use Rattle.eng_value.specs.declared.cause.Cause.TheVariants.{Constraint, Full, Mismatch}
use Rattle.eng_value.specs.declared.cause.ConstraintKind.{ConstraintKind}
use Rattle.eng_value.specs.declared.cause.ConstraintKind.TheVariants as constraint
use Rattle.eng_value.specs.declared.out.Out.{Out}
use Rattle.eng_value.specs.declared.out.Out.TheVariants.{Good, Bad}
use Rattle.eng_value.specs.declared.value.Value.{Value}
use Rattle.eng_value.specs.declared.value.Value.TheVariants.{Null, Integer, Text, Blob}
use Rattle.gen_write.specs.Stretches.{with_null_refused, with_null_tested, with_nulls_refused, with_refused, with_rowid_drawn, with_rowid_tested, with_met_refused}
use Rattle.gen_write.specs.Writes.{null_steps}
use Rattle.sql_meaning.specs.Rows.{is_null, lacks_value}
use Rattle.sql_meaning.specs.declared.bound.PutColumn.{PutColumn}
use Rattle.vm_code.specs.declared.op.Op.{Op}
use Rattle.vm_code.specs.declared.op.Op.TheVariants as op
use Rattle.vm_code.specs.Draft.{Draft, bound, with_label, with_op}
use Rattle.vm_code.specs.declared.open_cursor.Need.{Need}
use Rattle.vm_code.specs.declared.open_cursor.Need.TheVariants as need
use Rattle.vm_code.specs.Tracked.{Steady}
use Rattle.vm_code.specs.Machine as machine
use Rattle.vm_code.specs.Machine.{Open, Setting, State, On, GivesUp, Reaches, act, cursor_at, cursor_rows, drawn, given_up, is_integer, is_known, leaving_of, outs_from, read, row_in, rows_of, world_of}
use Rattle.vm_code.specs.Frames.{Grows, Here, Holds, Ready, here, with_regs}
use Rattle.vm_code.specs.Claims.{Claim, Exits, Labels, Last, Triple, ends, on}
use Rattle.vm_code.proofs.Runs.{leads_op, reaches_op}
use Rattle.vm_code.proofs.Drafts.{at_op, extends, g_bound, g_label, g_op, grows_none, grows_then, long_label, long_op, open_new, open_old, open_other}
use Rattle.vm_code.proofs.Tracks.{has-bound, place-bound, st_bind, st_fork, st_fork_use, st_goto, st_leave, st_made, st_none, st_on, st_op, st_then, st_use}
use Rattle.vm_code.proofs.Effects.{t_put}
use Rattle.vm_code.proofs.NewRows.{t_must_be_int, t_no_conflict}
use Rattle.vm_code.proofs.Triples.{no_labels, with_claim, t_bind, t_draft, t_goto, t_halt_bad, t_more, t_seq, t_test, t_use}

-- ---- what is needed of cursors: that of the table is open

abbrev pub on_table : List Need
on_table = need.Table 1 ∷ []

-- ---- a constraint that is broken

pub t_refuse : (m : Setting) (d : Draft) (kind : ConstraintKind) (name : List ℕ) (r : ℕ) (g : Labels) (e : Last) (p : Claim) → r < d.most → ((h0 h : Here) → p h0 h → e h0 (GivesUp (only (Constraint kind name))) h.shared) → Triple m d (with_refused d kind name r) (λ h0. 2) g e p (λ h0 h. ⊥)
t_refuse m d kind name r g e p lt fails =
    let why = only (Constraint kind name) in
    let bad_now : Claim = λ h0 h. (read h.regs r ≡ Bad why) × e h0 (GivesUp why) h.shared in
    let sets = t_put m d (op.Bad (Constraint kind name) r) r (λ h. Bad why) g e p bad_now lt (λ at s. refl) (λ h0 h regs pre long is same. (is, fails h0 h pre)) in
    let halt = t_halt_bad m (with_op d (op.Bad (Constraint kind name) r)) r g e bad_now (λ h0 h pre. subst (λ o. e h0 o h.shared) (ap leaving_of (sym pre.0)) pre.1) in
    t_more (λ h0. 2) (λ h0. omega arith) (t_seq sets halt)

-- ---- NOT NULL

module _ (d : Draft) (name : List ℕ) (register causes : ℕ) where
  abbrev next : ℕ
  next = length d.labels

  abbrev labelled : Draft
  labelled = with_label d

  abbrev testing : Draft
  testing = with_op labelled (op.NotNull register next)

  abbrev setting_bad : Draft
  setting_bad = with_op testing (op.Bad (Constraint constraint.NotNull name) causes)

  abbrev halting : Draft
  halting = with_op setting_bad (op.HaltBad causes)

  null_open : slice_get halting.labels next ≡ Some None
  null_open = open_new d

  pub grows_null : Grows d (with_null_refused d name register causes)
  grows_null =
      g_bound halting next (grows_then (g_label d) (grows_then (g_op labelled (op.NotNull register next)) (grows_then (g_op testing (op.Bad (Constraint constraint.NotNull name) causes)) (g_op setting_bad (op.HaltBad causes))))) (omega arith) null_open

  abbrev inside : List ℕ
  inside = next ∷ []

  pub steady_null : (needs : List Need) → Steady needs [] d (with_null_refused d name register causes)
  steady_null needs =
      st_made next refl (place-bound halting next null_open) (st_then (g_op labelled (op.NotNull register next)) (st_fork needs inside labelled (op.NotNull register next) next refl refl (inl refl)) (st_then (g_op testing (op.Bad (Constraint constraint.NotNull name) causes)) (st_op needs inside testing (op.Bad (Constraint constraint.NotNull name) causes) (refl, refl)) (st_leave needs inside setting_bad (op.HaltBad causes) next refl refl (inl refl))))

  pub t_null : (m : Setting) (e : Last) (p q : Claim) → causes < d.most → ((h0 h : Here) → p h0 h → is_known (read h.regs register) ≡ true → q h0 h) → ((h0 h : Here) → p h0 h → is_known (read h.regs register) ≡ false → e h0 (GivesUp (only (Constraint constraint.NotNull name))) h.shared) → Triple m d (with_null_refused d name register causes) (λ h0. 3) no_labels e p q
  t_null m e p q lt goes fails =
      let inner : Labels = with_claim next q no_labels in
      let is_null_now : Claim = λ h0 h. p h0 h × (is_known (read h.regs register) ≡ false) in
      let label = t_draft m inner e p (g_label d) refl in
      let test = t_test m labelled (op.NotNull register next) next (λ h. is_known (read h.regs register)) inner e p is_null_now (λ at s. refl) (λ h0 h pre b. inl (refl, goes h0 h pre b)) (λ h0 h pre b. (pre, b)) in
      let refuses = t_refuse m testing constraint.NotNull name causes inner e is_null_now lt (λ h0 h pre. fails h0 h pre.0 pre.1) in
      t_more (λ h0. 3) (λ h0. omega arith) (t_bind next q null_open (λ h0 h no. absurd no) (t_seq (t_seq label test) refuses))

-- what is known is not NULL
null_unless : (v : Value) → is_known (Good v) ≡ true → is_null v ≡ false
null_unless Null e = cc
null_unless (Integer n) e = refl
null_unless (Text t) e = refl
null_unless (Blob t) e = refl

null_if : (v : Value) → is_known (Good v) ≡ false → is_null v ≡ true
null_if Null e = refl
null_if (Integer n) e = cc
null_if (Text t) e = cc
null_if (Blob t) e = cc

pub grows_nulls : (d : Draft) (columns : List PutColumn) (name : List ℕ) (register causes : ℕ) → Grows d (with_nulls_refused d columns name register causes)
grows_nulls d [] name register causes = grows_none d
grows_nulls d (c ∷ columns) name register causes = grows_then (by c.not_null) (grows_nulls (with_null_tested c.not_null d name register causes) columns name (register + 1) causes)
  where
    by : (b : Bool) → Grows d (with_null_tested b d name register causes)
    by true = grows_null d name register causes
    by false = grows_none d

pub steady_nulls : (needs : List Need) (d : Draft) (columns : List PutColumn) (name : List ℕ) (register causes : ℕ) → Steady needs [] d (with_nulls_refused d columns name register causes)
steady_nulls needs d [] name register causes = st_none needs [] d
steady_nulls needs d (c ∷ columns) name register causes = by c.not_null (λ z. steady_nulls needs z columns name (register + 1) causes)
  where
    by : (b : Bool) → ((z : Draft) → Steady needs [] z (with_nulls_refused z columns name (register + 1) causes)) → Steady needs [] d (with_nulls_refused (with_null_tested b d name register causes) columns name (register + 1) causes)
    by true rest = st_then (grows_null d name register causes) (steady_null d name register causes needs) (rest (with_null_refused d name register causes))
    by false rest = rest d

-- registers and cursors are taken and given back
pub record Same (a b : Draft) : Type 0 where
  pub next : b.next ≡ a.next
  pub most : b.most ≡ a.most
  pub cursors : b.cursors ≡ a.cursors
  pub units : b.units ≡ a.units

pub same_nulls : (d : Draft) (columns : List PutColumn) (name : List ℕ) (register causes : ℕ) → Same d (with_nulls_refused d columns name register causes)
same_nulls d [] name register causes = record { next = refl; most = refl; cursors = refl; units = refl }
same_nulls d (c ∷ columns) name register causes = by c.not_null (λ z. same_nulls z columns name (register + 1) causes)
  where
    by : (b : Bool) → ((z : Draft) → Same z (with_nulls_refused z columns name (register + 1) causes)) → Same d (with_nulls_refused (with_null_tested b d name register causes) columns name (register + 1) causes)
    by true rest =
        let x = rest (with_null_refused d name register causes) in
        record { next = x.next; most = x.most; cursors = x.cursors; units = x.units }
    by false rest = rest d

-- the columns that may not be NULL, whose values are in registers one after another
pub t_nulls : (m : Setting) (d : Draft) (columns : List PutColumn) (name : List ℕ) (register causes : ℕ) (e : Last) (p q : Claim) (values : List Value) → length values ≡ length columns → causes < d.most → ((h0 h : Here) → p h0 h → outs_from h.regs register (length columns) ≡ map Good values) → ((h0 h : Here) → p h0 h → lacks_value columns values ≡ false → q h0 h) → ((h0 h : Here) → p h0 h → lacks_value columns values ≡ true → e h0 (GivesUp (only (Constraint constraint.NotNull name))) h.shared) → Triple m d (with_nulls_refused d columns name register causes) (λ h0. sum_by null_steps columns) no_labels e p q
t_nulls m d [] name register causes e p q values wide lt has goes fails =
    t_use p q (λ h0 h pre. pre) (λ h0 h pre. goes h0 h pre refl) (t_draft m no_labels e p (grows_none d) refl)
t_nulls m d (c ∷ columns) name register causes e p q [] wide lt has goes fails = absurd (omega arith)
t_nulls m d (c ∷ columns) name register causes e p q (v ∷ values) wide lt has goes fails =
    by c.not_null refl (λ z r z_lt r_has r_goes r_fails. t_nulls m z columns name (register + 1) causes e r q values (omega (arith, wide)) z_lt r_has r_goes r_fails)
  where
    first_is : (h0 h : Here) → p h0 h → read h.regs register ≡ Good v
    first_is h0 h pre = let all : read h.regs register ∷ outs_from h.regs (register + 1) (length columns) ≡ Good v ∷ map Good values = has h0 h pre in cc

    rest_is : (h0 h : Here) → p h0 h → outs_from h.regs (register + 1) (length columns) ≡ map Good values
    rest_is h0 h pre = let all : read h.regs register ∷ outs_from h.regs (register + 1) (length columns) ≡ Good v ∷ map Good values = has h0 h pre in cc

    by : (b : Bool) → c.not_null ≡ b → ((z : Draft) (r : Claim) → causes < z.most → ((h0 h : Here) → r h0 h → outs_from h.regs (register + 1) (length columns) ≡ map Good values) → ((h0 h : Here) → r h0 h → lacks_value columns values ≡ false → q h0 h) → ((h0 h : Here) → r h0 h → lacks_value columns values ≡ true → e h0 (GivesUp (only (Constraint constraint.NotNull name))) h.shared) → Triple m z (with_nulls_refused z columns name (register + 1) causes) (λ h0. sum_by null_steps columns) no_labels e r q) → Triple m d (with_nulls_refused (with_null_tested b d name register causes) columns name (register + 1) causes) (λ h0. sum_by null_steps (c ∷ columns)) no_labels e p q
    by true is others =
        let known : Claim = λ h0 h. p h0 h × (is_null v ≡ false) in
        let tested : (b : Bool) → is_null v ≡ b → lacks_value (c ∷ columns) (v ∷ values) ≡ (b || lacks_value columns values) = λ b null. ap (λ t. (t && is_null v) || lacks_value columns values) is ∙ ap (λ t. t || lacks_value columns values) null in
        let one = t_null d name register causes m e p known lt (λ h0 h pre b. (pre, null_unless v (ap is_known (sym (first_is h0 h pre)) ∙ b))) (λ h0 h pre b. fails h0 h pre (tested true (null_if v (ap is_known (sym (first_is h0 h pre)) ∙ b)))) in
        let rest = others (with_null_refused d name register causes) known lt (λ h0 h pre. rest_is h0 h pre.0) (λ h0 h pre b. goes h0 h pre.0 (tested false pre.1 ∙ b)) (λ h0 h pre b. fails h0 h pre.0 (tested false pre.1 ∙ b)) in
        let three : null_steps c ≡ 3 = ap (λ b. if b then 3 else 0) is in
        t_more (λ h0. sum_by null_steps (c ∷ columns)) (λ h0. omega (arith, sum_by-cons null_steps c columns, three)) (t_seq one rest)
    by false is others =
        let same : lacks_value (c ∷ columns) (v ∷ values) ≡ lacks_value columns values = ap (λ t. (t && is_null v) || lacks_value columns values) is in
        let rest = others d p lt rest_is (λ h0 h pre b. goes h0 h pre (same ∙ b)) (λ h0 h pre b. fails h0 h pre (same ∙ b)) in
        t_more (λ h0. sum_by null_steps (c ∷ columns)) (λ h0. omega (arith, sum_by-cons null_steps c columns)) rest

-- ---- the rowid

-- one that is drawn
pub t_draws : (m : Setting) (d : Draft) (to : ℕ) (name : List ℕ) (table : ℕ) (g : Labels) (e : Last) (p q : Claim) → to < d.most → ((h0 h : Here) → p h0 h → cursor_at h.scene.cursors 1 ≡ Open table None) → ((h0 h : Here) (regs : List Out) (n : ℤ) → p h0 h → next_rowid (rows_of (world_of h.shared) table) ≡ Some n → read regs to ≡ Good (Integer n) → ((k : ℕ) → k ≢ to → read regs k ≡ read h.regs k) → q h0 (with_regs h regs)) → ((h0 h : Here) → p h0 h → next_rowid (rows_of (world_of h.shared) table) ≡ None → e h0 (GivesUp (only (Full name))) h.shared) → Triple m d (with_rowid_drawn d to name) (λ h0. 1) g e p q
t_draws m d to name table g e p q lt opened goes full = record {
  extends = extends (g_op d (op.NewRowid 1 to name));
  runs = λ u at h h0 s room start pre.
      by u at h h0 s room start pre (next_rowid (rows_of (world_of s.shared) table)) refl;
}
  where
    law : (h0 : Here) (s : State) (o : Option ℤ) → p h0 (here s) → next_rowid (rows_of (world_of s.shared) table) ≡ o → act m (Some (op.NewRowid 1 to name)) s ≡ drawn s to name o
    law h0 s o pre is =
        ap (λ c. drawn s to name (next_rowid (cursor_rows (world_of s.shared) c))) (opened h0 (here s) pre)
        ∙ ap (drawn s to name) is

    by : (u : ℕ) (at : ℕ → ℕ) → Holds (with_rowid_drawn d to name) m.prog u at → (h0 : Here) (s : State) → Ready (with_rowid_drawn d to name) u s → s.pc ≡ length d.code → p h0 (here s) → (o : Option ℤ) → next_rowid (rows_of (world_of s.shared) table) ≡ o → Exits m at 1 (λ k. g k h0) (e h0) s (length (with_rowid_drawn d to name).code) (q h0)
    by u at h h0 s room start pre (Some n) is =
        let regs = slice_set s.regs to (Good (Integer n)) in
        let go = law h0 s (Some n) pre is ∙ ap (λ k. On (record s { pc = k + 1; regs = regs })) start in
        let way = reaches_op m s (record s { pc = length d.code + 1; regs = regs }) u (length d.code) (op.NewRowid 1 to name) room.unit start (at_op d (op.NewRowid 1 to name) m.prog u at h) go in
        on (record {
          regs = regs;
          scene = s.scene;
          store = s.store;
          shared = s.shared;
          way = subst (λ k. Reaches m 1 s (record s { pc = k; regs = regs })) (sym (long_op d (op.NewRowid 1 to name))) way;
          long = length-set s.regs to (Good (Integer n));
          wide = refl;
          holds = goes h0 (here s) regs n pre is (get_or-set_same s.regs to (Good (Integer n)) _ (omega (arith, room.regs, lt))) (λ k ne. get_or-set_other s.regs to k (Good (Integer n)) _ ne);
        })
    by u at h h0 s room start pre None is =
        ends (GivesUp (only (Full name))) s.shared (leads_op m s u (length d.code) (op.NewRowid 1 to name) (given_up s.stack s.shared (only (Full name))) room.unit start (at_op d (op.NewRowid 1 to name) m.prog u at h) (law h0 s None pre is)) (full h0 (here s) pre is)

-- one that is given
module _ (d : Draft) (register : ℕ) (name : List ℕ) where
  abbrev fixed : ℕ
  fixed = length d.labels

  abbrev missing : ℕ
  missing = length (with_label d).labels

  abbrev two : Draft
  two = with_label (with_label d)

  abbrev looking : Draft
  looking = with_op two (op.IsNull register missing)

  abbrev wanting : Draft
  wanting = with_op looking (op.MustBeInt register)

  abbrev going : Draft
  going = with_op wanting (op.Goto fixed)

  abbrev drawing : Draft
  drawing = with_rowid_drawn (bound going missing) register name

  fixed_below : fixed < missing
  fixed_below = omega (arith, long_label d)

  missing_open : slice_get going.labels missing ≡ Some None
  missing_open = open_new (with_label d)

  fixed_open : slice_get drawing.labels fixed ≡ Some None
  fixed_open =
      open_other going missing fixed (λ e. absurd (omega (arith, e, fixed_below))) (open_old (with_label d) fixed (open_new d))

  grows_two : Grows d two
  grows_two = grows_then (g_label d) (g_label (with_label d))

  grows_going : Grows d going
  grows_going =
      grows_then grows_two (grows_then (g_op two (op.IsNull register missing)) (grows_then (g_op looking (op.MustBeInt register)) (g_op wanting (op.Goto fixed))))

  pub grows_tested : Grows d (with_rowid_tested d register name)
  grows_tested =
      g_bound drawing fixed (grows_then (g_bound going missing grows_going (omega (arith, fixed_below)) missing_open) (g_op (bound going missing) (op.NewRowid 1 register name))) (omega arith) fixed_open

  abbrev both_labels : List ℕ
  both_labels = missing ∷ fixed ∷ []

  pub steady_tested : Steady on_table [] d (with_rowid_tested d register name)
  steady_tested =
      st_made fixed refl (place-bound drawing fixed fixed_open) (st_made missing refl (has-bound drawing fixed missing (place-bound going missing missing_open)) (st_then (g_op two (op.IsNull register missing)) (st_fork on_table both_labels two (op.IsNull register missing) missing refl refl (inl refl)) (st_then (g_op looking (op.MustBeInt register)) (st_op on_table both_labels looking (op.MustBeInt register) (refl, refl)) (st_on (λ l xs m. m) (st_goto on_table both_labels wanting fixed missing (inr (inl refl)) (inl refl)) (st_then (g_op (bound going missing) (op.NewRowid 1 register name)) (st_use on_table both_labels (bound going missing) (op.NewRowid 1 register name) (need.Table 1) refl refl (0, omega arith, refl)) (st_bind on_table both_labels drawing fixed (inr (inl refl))))))))

  pub t_tested : (m : Setting) (table : ℕ) (e : Last) (p q : Claim) → register < d.most → ((h0 h : Here) → p h0 h → cursor_at h.scene.cursors 1 ≡ Open table None) → ((h0 h : Here) (regs : List Out) (n : ℤ) → p h0 h → machine.is_null (read h.regs register) ≡ true → next_rowid (rows_of (world_of h.shared) table) ≡ Some n → read regs register ≡ Good (Integer n) → ((k : ℕ) → k ≢ register → read regs k ≡ read h.regs k) → q h0 (with_regs h regs)) → ((h0 h : Here) → p h0 h → machine.is_null (read h.regs register) ≡ true → next_rowid (rows_of (world_of h.shared) table) ≡ None → e h0 (GivesUp (only (Full name))) h.shared) → ((h0 h : Here) (n : ℤ) → p h0 h → read h.regs register ≡ Good (Integer n) → fits_integer n ≡ true → q h0 h) → ((h0 h : Here) → p h0 h → machine.is_null (read h.regs register) ≡ false → is_integer (read h.regs register) ≡ false → e h0 (GivesUp (only Mismatch)) h.shared) → Triple m d (with_rowid_tested d register name) (λ h0. 4) no_labels e p q
  t_tested m table e p q lt opened draws full goes fails =
      let null_now : Claim = λ h0 h. p h0 h × (machine.is_null (read h.regs register) ≡ true) in
      let given_now : Claim = λ h0 h. p h0 h × (machine.is_null (read h.regs register) ≡ false) in
      let inner : Labels = with_claim fixed q no_labels in
      let innermost : Labels = with_claim missing null_now inner in
      let label = t_draft m innermost e p grows_two refl in
      let look = t_test m two (op.IsNull register missing) missing (λ h. machine.is_null (read h.regs register)) innermost e p given_now (λ at s. refl) (λ h0 h pre b. inl (refl, (pre, b))) (λ h0 h pre b. (pre, b)) in
      let want = t_must_be_int m looking register innermost e given_now q (λ h0 h n pre is fits. goes h0 h n pre.0 is fits) (λ h0 h pre b. fails h0 h pre.0 pre.1 b) in
      let go = t_goto m wanting fixed innermost e q (λ h0 h pre. inr (inl (refl, pre))) in
      let at_missing = t_bind missing null_now missing_open (λ h0 h no. absurd no) (t_seq (t_seq (t_seq label look) want) go) in
      let draw = t_draws m (bound going missing) register name table inner e null_now q lt (λ h0 h pre. opened h0 h pre.0) (λ h0 h regs n pre is has same. draws h0 h regs n pre.0 pre.1 is has same) (λ h0 h pre none. full h0 h pre.0 pre.1 none) in
      t_more (λ h0. 4) (λ h0. omega arith) (t_bind fixed q fixed_open (λ h0 h pre. pre) (t_seq at_missing draw))

-- ---- rows in the way

module _ (d : Draft) (name : List ℕ) (keys : List (List KeyTerm)) (rowid first count causes : ℕ) where
  abbrev free : ℕ
  free = length d.labels

  abbrev one : Draft
  one = with_label d

  abbrev test : Op
  test = op.NoConflict 1 rowid first count keys free

  abbrev finding : Draft
  finding = with_op one test

  abbrev met_bad : Draft
  met_bad = with_op finding (op.Bad (Constraint constraint.Unique name) causes)

  abbrev met_halting : Draft
  met_halting = with_op met_bad (op.HaltBad causes)

  free_open : slice_get met_halting.labels free ≡ Some None
  free_open = open_new d

  pub grows_met : Grows d (with_met_refused d name keys rowid first count causes)
  grows_met =
      g_bound met_halting free (grows_then (g_label d) (grows_then (g_op one test) (grows_then (g_op finding (op.Bad (Constraint constraint.Unique name) causes)) (g_op met_bad (op.HaltBad causes))))) (omega arith) free_open

  pub steady_met : Steady on_table [] d (with_met_refused d name keys rowid first count causes)
  steady_met =
      st_made free refl (place-bound met_halting free free_open) (st_then (g_op one test) (st_fork_use on_table (free ∷ []) one test free (need.Table 1) refl refl (0, omega arith, refl) (inl refl)) (st_then (g_op finding (op.Bad (Constraint constraint.Unique name) causes)) (st_op on_table (free ∷ []) finding (op.Bad (Constraint constraint.Unique name) causes) (refl, refl)) (st_leave on_table (free ∷ []) met_bad (op.HaltBad causes) free refl refl (inl refl))))

  pub t_met : (m : Setting) (table : ℕ) (e : Last) (p q : Claim) → causes < d.most → ((h0 h : Here) → p h0 h → cursor_at h.scene.cursors 1 ≡ Open table None) → ((h0 h : Here) → p h0 h → row_in_way keys (rows_of (world_of h.shared) table) (row_in h.regs rowid first count) ≡ None → q h0 h) → ((h0 h : Here) (x : StoredRow) → p h0 h → row_in_way keys (rows_of (world_of h.shared) table) (row_in h.regs rowid first count) ≡ Some x → e h0 (GivesUp (only (Constraint constraint.Unique name))) h.shared) → Triple m d (with_met_refused d name keys rowid first count causes) (λ h0. 3) no_labels e p q
  t_met m table e p q lt opened goes fails =
      let inner : Labels = with_claim free q no_labels in
      let met : Claim = λ h0 h. e h0 (GivesUp (only (Constraint constraint.Unique name))) h.shared in
      let label = t_draft m inner e p (g_label d) refl in
      let look = t_no_conflict m one 1 rowid first count keys free table inner e p met (λ h0 h pre. (None, opened h0 h pre)) (λ h0 h pre is. inl (refl, goes h0 h pre is)) (λ h0 h x pre is. fails h0 h x pre is) in
      let refuses = t_refuse m finding constraint.Unique name causes inner e met lt (λ h0 h pre. pre) in
      t_more (λ h0. 3) (λ h0. omega arith) (t_bind free q free_open (λ h0 h no. absurd no) (t_seq (t_seq label look) refuses))

-- one column more
pub nulls_next : (b d : Draft) (columns : List PutColumn) (i : ℕ) (c : PutColumn) (name : List ℕ) (register next causes : ℕ) → i < length columns → c ≡ get_or columns i c → next ≡ register + 1 → d ≡ with_null_tested c.not_null b name register causes → with_nulls_refused d (drop (i + 1) columns) name next causes ≡ with_nulls_refused b (drop i columns) name register causes
nulls_next b d columns i c name register next causes lt c_is next_is d_is =
    let rest = drop (i + 1) columns in
    let split : drop i columns ≡ c ∷ rest = drop-cons columns i c lt ∙ ap (λ x. x ∷ drop (suc i) columns) (sym c_is) ∙ ap (λ k. c ∷ drop k columns) (sym (add-one i)) in
    ap (λ z. with_nulls_refused z rest name next causes) d_is
    ∙ ap (λ r. with_nulls_refused (with_null_tested c.not_null b name register causes) rest name r causes) next_is
    ∙ sym (ap (λ l. with_nulls_refused b l name register causes) split)

pub nulls_last : (b d : Draft) (columns : List PutColumn) (i : ℕ) (name : List ℕ) (register causes : ℕ) → i ≡ length columns → with_nulls_refused b (drop i columns) name register causes ≡ d → b ≡ d
nulls_last b d columns i name register causes is e =
    let none : drop i columns ≡ [] = ap (λ k. drop k columns) is ∙ drop-length columns in
    sym (ap (λ l. with_nulls_refused b l name register causes) none) ∙ e
