-- The code behind which a register is not bad.
use Rattle.std.proofs.Common.{◌≡◌, ◌≢◌, ℕ, ◌<◌, List, [], ◌∷◌, true, false, length, Some, None, refl, ap, ◌∙◌, arith, inl, inr}
use Rattle.std.specs.Prelude.{slice_get}
use Rattle.gen_write.specs.Stretches.{with_bad_refused}
use Rattle.vm_code.specs.declared.op.Op.TheVariants as op
use Rattle.vm_code.specs.Draft.{Draft, bound, with_label, with_op}
use Rattle.vm_code.specs.declared.open_cursor.Need.{Need}
use Rattle.vm_code.specs.Tracked.{Steady}
use Rattle.vm_code.specs.Machine.{Setting, is_bad, leaving_of, read}
use Rattle.vm_code.specs.Frames.{Grows, Here}
use Rattle.vm_code.specs.Claims.{Claim, Labels, Last, Triple}
use Rattle.vm_code.proofs.Drafts.{g_bound, g_label, g_op, grows_then, long_label, open_new, open_old, open_other}
use Rattle.vm_code.proofs.Tracks.{has-bound, place-bound, st_fork, st_goto, st_leave, st_made, st_on, st_then}
use Rattle.vm_code.proofs.Triples.{no_labels, with_claim, t_seq, t_more, t_draft, t_test, t_goto, t_bind, t_halt_bad}

-- the label behind it has no place yet when that of what is bad got its own
pub behind_open : (d x z : Draft) (fail next : ℕ) → next ≡ length d.labels → fail ≡ length (with_label d).labels → x.labels ≡ (with_label (with_label d)).labels → z.labels ≡ (bound x fail).labels → slice_get z.labels next ≡ Some None
behind_open d x z fail next next_is fail_is x_is z_is =
    let apart : next ≢ fail = λ same. absurd (omega (arith, same, next_is, fail_is, long_label d)) in
    let before = ap (λ l. slice_get l next) x_is ∙ ap (slice_get (with_label (with_label d)).labels) next_is ∙ open_old (with_label d) (length d.labels) (open_new d) in
    ap (λ l. slice_get l next) z_is ∙ open_other x fail next apart before

module _ (d : Draft) (causes : ℕ) where
  abbrev next : ℕ
  next = length d.labels

  abbrev fail : ℕ
  fail = length (with_label d).labels

  abbrev labelled : Draft
  labelled = with_label (with_label d)

  abbrev testing : Draft
  testing = with_op labelled (op.IsBad causes fail)

  abbrev leaving : Draft
  leaving = with_op testing (op.Goto next)

  abbrev halting : Draft
  halting = with_op (bound leaving fail) (op.HaltBad causes)

  next_below : next < fail
  next_below = omega (arith, long_label d)

  fail_open : slice_get leaving.labels fail ≡ Some None
  fail_open = open_new (with_label d)

  next_open : slice_get halting.labels next ≡ Some None
  next_open =
      open_other leaving fail next (λ e. absurd (omega (arith, e, next_below))) (open_old (with_label d) next (open_new d))

  grows_labelled : Grows d labelled
  grows_labelled = grows_then (g_label d) (g_label (with_label d))

  grows_leaving : Grows d leaving
  grows_leaving =
      grows_then grows_labelled (grows_then (g_op labelled (op.IsBad causes fail)) (g_op testing (op.Goto next)))

  pub grows_refused : Grows d (with_bad_refused d causes)
  grows_refused =
      g_bound halting next (grows_then (g_bound leaving fail grows_leaving (omega (arith, next_below)) fail_open) (g_op (bound leaving fail) (op.HaltBad causes))) (omega arith) next_open

  abbrev inside : List ℕ
  inside = fail ∷ next ∷ []

  pub steady_refused : (needs : List Need) → Steady needs [] d (with_bad_refused d causes)
  steady_refused needs =
      st_made next refl (place-bound halting next next_open) (st_made fail refl (has-bound halting next fail (place-bound leaving fail fail_open)) (st_then (g_op labelled (op.IsBad causes fail)) (st_fork needs inside labelled (op.IsBad causes fail) fail refl refl (inl refl)) (st_on (λ l xs m. m) (st_goto needs inside testing next fail (inr (inl refl)) (inl refl)) (st_leave needs inside (bound leaving fail) (op.HaltBad causes) next refl refl (inr (inl refl))))))

  -- where it is bad the unit gives up for its causes
  pub t_refused : (m : Setting) (e : Last) (p q : Claim) → ((h0 h : Here) → p h0 h → is_bad (read h.regs causes) ≡ false → q h0 h) → ((h0 h : Here) → p h0 h → is_bad (read h.regs causes) ≡ true → e h0 (leaving_of (read h.regs causes)) h.shared) → Triple m d (with_bad_refused d causes) (λ h0. 3) no_labels e p q
  t_refused m e p q goes fails =
      let good : Claim = λ h0 h. p h0 h × (is_bad (read h.regs causes) ≡ false) in
      let bad_now : Claim = λ h0 h. p h0 h × (is_bad (read h.regs causes) ≡ true) in
      let inner : Labels = with_claim next q no_labels in
      let innermost : Labels = with_claim fail bad_now inner in
      let label = t_draft m innermost e p grows_labelled refl in
      let jump = t_test m labelled (op.IsBad causes fail) fail (λ h. is_bad (read h.regs causes)) innermost e p good (λ at s. refl) (λ h0 h pre b. inl (refl, (pre, b))) (λ h0 h pre b. (pre, b)) in
      let go = t_goto m testing next innermost e good (λ h0 h pre. inr (inl (refl, goes h0 h pre.0 pre.1))) in
      let at_fail = t_bind fail bad_now fail_open (λ h0 h no. absurd no) (t_seq (t_seq label jump) go) in
      let halt = t_halt_bad m (bound leaving fail) causes inner e bad_now (λ h0 h pre. fails h0 h pre.0 pre.1) in
      t_more (λ h0. 3) (λ h0. omega arith) (t_bind next q next_open (λ h0 h no. absurd no) (t_seq at_fail halt))
