-- Where a body is left in its middle what stands behind it goes on: the cursors that it opened are closed there.
use Rattle.std.proofs.Common.{◌≡◌, ℕ, zero, suc, ◌+◌, List, [], ◌∷◌, length, take, Some, None, refl, sym, ap, ◌∙◌, subst, arith, inl, ⊎_elim}
use Rattle.std.specs.Prelude.{slice_get}
use Rattle.std.specs.declared.option.Option.{Option}
use Rattle.std.specs.Option.{option_to_list}
use Rattle.eng_value.specs.declared.out.Out.{Out}
use Rattle.vm_code.specs.declared.op.Op.{Op}
use Rattle.vm_code.specs.declared.op.Op.TheVariants.{CloseFrom}
use Rattle.vm_code.specs.Draft.{Draft, with_op, with_label, bound}
use Rattle.vm_code.specs.Tracked.{Steady}
use Rattle.vm_code.specs.Machine.{Cursor, Closed, Scene, Setting, closed_from, cursor_at, read}
use Rattle.vm_code.specs.Frames.{Grows, Here, Shut, SameBelow, Given, Memory, memory_of, Outcome, Done, Quit, or_done, Effect, Cost, effect_at, cost_at, caught, Does}
use Rattle.vm_code.specs.Claims.{Claim, Labels, Last, Triple}
use Rattle.vm_code.proofs.Drafts.{g_op, g_bound, g_label, grows_then, open_new}
use Rattle.vm_code.proofs.Tracks.{st_close_from, st_label, st_more}
use Rattle.vm_code.proofs.Triples.{with_claim, t_seq, t_more, t_draft, t_bind, t_op}
use Rattle.vm_code.proofs.Effects.{same_cost, t_does, does_of, Keeps, at_exit, EndsDone, EndsQuit, EndsFailed}

-- cursors that were closed are closed again
closed_again : (c : ℕ) (xs ys : List Cursor) → length xs ≡ length ys → SameBelow c xs ys → Shut c ys → closed_from c xs ≡ ys
closed_again c [] [] e same shut = refl
closed_again c [] (y ∷ ys) e same shut = cc
closed_again c (x ∷ xs) [] e same shut = cc
closed_again zero (x ∷ xs) (y ∷ ys) e same shut =
    ap (λ l. Closed ∷ l) (closed_again zero xs ys (omega (arith, e)) (λ k lt. absurd (omega arith)) (λ k le. shut (suc k) (omega arith)))
    ∙ ap (λ z. z ∷ ys) (sym (shut 0 (omega arith)))
closed_again (suc c) (x ∷ xs) (y ∷ ys) e same shut =
    ap (λ l. x ∷ l) (closed_again c xs ys (omega (arith, e)) (λ k lt. same (suc k) (omega arith)) (λ k le. shut (suc k) (omega arith)))
    ∙ ap (λ z. z ∷ ys) (same 0 (omega arith))

length-closed_from : (c : ℕ) (xs : List Cursor) → length (closed_from c xs) ≡ length xs
length-closed_from c [] = refl
length-closed_from zero (x ∷ xs) = ap suc (length-closed_from zero xs)
length-closed_from (suc c) (x ∷ xs) = ap suc (length-closed_from c xs)

-- a body that is left by a label is one that goes on, where the label stands behind it and closes what the body opened
pub caught_does : {given : Given} {a y : Draft} {lo causes l : ℕ} {f : Effect} {n : Cost} (exit : Option ℕ) → l ≡ length a.labels → Does given (with_label a) y lo causes (Some l) f n → Does given a (with_op (bound y l) (CloseFrom a.cursors)) lo causes exit (caught f) (λ sight out x. n sight out x + 1)
caught_does {given} {a} {y} {lo} {causes} {l} {f} {n} exit l_is d =
    does_of lo causes exit (caught f) starts grows d.next steady (λ h shut. (refl, shut)) (λ m called. t_more (cost_at m (λ sight out x. n sight out x + 1) lo causes) (λ h0. omega arith) (t_seq (body m called) (closes m)))
  where
    close : Op
    close = CloseFrom a.cursors

    starts : Claim
    starts h0 h = (h ≡ h0) × Shut a.cursors h0.scene.cursors

    open_l : slice_get y.labels l ≡ Some None
    open_l =
        d.grows.open_labels l (subst (λ k. slice_get (with_label a).labels k ≡ Some None) (sym l_is) (open_new a))

    grows : Grows a (with_op (bound y l) close)
    grows =
        grows_then (g_bound y l (grows_then (g_label a) d.grows) (omega (arith, l_is)) open_l) (g_op (bound y l) close)

    steady : Steady given.needs (option_to_list exit) a (with_op (bound y l) close)
    steady =
        st_close_from (st_label l l_is d.grows (st_more (l ∷ option_to_list exit) (λ k among. ⊎_elim (λ same. inl same) (λ no. absurd no) among) d.steady))

    g : Setting → Labels
    g m = at_exit exit (EndsQuit m (caught f) lo causes a.next a.cursors)

    e : Setting → Last
    e m = EndsFailed m (caught f) lo causes

    -- the cursors below those of the body are as they were, and all that follows is closed next
    left : Setting → Claim
    left m h0 h =
        Keeps lo a.next h0.regs h.regs × (length h.scene.cursors ≡ length h0.scene.cursors) × SameBelow a.cursors h.scene.cursors h0.scene.cursors
        × Shut a.cursors h0.scene.cursors
        × (h.scene.slots ≡ h0.scene.slots)
        × (effect_at m (caught f) lo causes h0 ≡ Done (memory_of lo h))

    -- whether the body came to its end or was left
    comes : (m : Setting) (h0 h : Here) (o : Outcome) (regs : List Out) (scene : Scene) (x : Memory) → starts h0 h → effect_at m f lo causes h ≡ o → or_done o ≡ Done x → length scene.cursors ≡ length h.scene.cursors → SameBelow a.cursors scene.cursors h.scene.cursors → scene.slots ≡ h.scene.slots → take lo regs ≡ x.own → Keeps lo a.next h.regs regs → left m h0 (record h { regs = regs; scene = scene; store = x.store; shared = x.shared })
    comes m h0 h o regs scene x pre is ends wide below slots own keeps = (
      (λ k le lt. keeps k le lt ∙ ap (λ (h : Here). read h.regs k) pre.0),
      wide ∙ ap (λ (h : Here). length h.scene.cursors) pre.0,
      (λ k lt. below k lt ∙ ap (λ (h : Here). cursor_at h.scene.cursors k) pre.0),
      pre.1,
      slots ∙ ap (λ (h : Here). h.scene.slots) pre.0,
      ap or_done (ap (effect_at m f lo causes) (sym pre.0) ∙ is) ∙ ends ∙ ap (λ own. Done (record { own = own; store = x.store; shared = x.shared })) (sym own),
    )

    works : (m : Setting) → given.calls m → Triple m (with_label a) y (cost_at m n lo causes) (with_claim l (left m) (g m)) (e m) starts (left m)
    works m called = t_does m called (cost_at m n lo causes) (with_claim l (left m) (g m)) (e m) starts (left m) d (λ h0 h pre. same_cost (cost_at m n lo causes) pre.0) (λ h0 h pre. subst (λ (h : Here). Shut a.cursors h.scene.cursors) (sym pre.0) pre.1) (λ h0 h regs x pre is long own keeps.
        comes m h0 h (Done x) regs h.scene x pre is refl refl (λ k lt. refl) refl own keeps) (λ k h0 h regs scene x e pre is long wide below slots own keeps.
        inl (let at : Some l ≡ Some k = e in cc, comes m h0 h (Quit x) regs scene x pre is refl wide below slots own keeps)) (λ h0 h c x pre is.
        (c, x, ap or_done (ap (effect_at m f lo causes) (sym pre.0) ∙ is), refl, refl))

    body : (m : Setting) → given.calls m → Triple m a (bound y l) (λ h0. 0 + cost_at m n lo causes h0) (g m) (e m) starts (left m)
    body m called =
        t_bind l (left m) open_l (λ h0 h q. q) (t_seq (t_draft m (with_claim l (left m) (g m)) (e m) starts (g_label a) refl) (works m called))

    closes : (m : Setting) → Triple m (bound y l) (with_op (bound y l) close) (λ h0. 1) (g m) (e m) (left m) (EndsDone m (caught f) lo causes a.next)
    closes m = t_op m (bound y l) close (λ h. record h { scene = record h.scene { cursors = closed_from a.cursors h.scene.cursors } }) (g m) (e m) (left m) (EndsDone m (caught f) lo causes a.next) (λ at s. refl) (λ h. (refl, length-closed_from a.cursors h.scene.cursors)) (λ h0 h most wide pre.
        let again = closed_again a.cursors h.scene.cursors h0.scene.cursors pre.1 pre.2 pre.3 in
        (pre.0, ap (λ xs. record h.scene { cursors = xs }) again ∙ ap (λ xs. record h0.scene { slots = xs }) pre.4, pre.5))
