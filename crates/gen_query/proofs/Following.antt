-- The items of rows of VALUES: the code of one row behind that of another.
use Rattle.std.proofs.Common.{◌≡◌, List, [], ◌∷◌, ◌++◌, map, None, refl, sym, ap, ◌∙◌, subst, arith}
use Rattle.std.proofs.lemmas.List.{map-append}
use Rattle.std.proofs.lemmas.List.Sums.{sum_by_push}
use Rattle.eng_value.specs.Environments.{no_causes}
use Rattle.gen_loop.proofs.Places.{front_met, last_met}
use Rattle.gen_query.specs.Queries.{by_world, gives, results_read, row_steps, rows_in_turn_steps, rows_read, value_effect, values_effect}
use Rattle.gen_query.proofs.Listing.{gives_done, gives_quit, gives-more, gives-no_more, with_given-nil}
use Rattle.sql_meaning.specs.Statement.{Item, shown}
use Rattle.bound_tree.specs.Exprs.{BoundExpr}
use Rattle.vm_code.specs.Draft.{Draft}
use Rattle.vm_code.specs.Machine.{Scene, Setting, cursor_at, read}
use Rattle.vm_code.specs.Frames.{Here, environment_of, Memory, memory_of, Effect, effect_at, Done, Does, Shut, needing}
use Rattle.vm_code.specs.Claims.{Claim, Last, Triple}
use Rattle.vm_code.proofs.Drafts.{grows_none, grows_then}
use Rattle.vm_code.proofs.Tracks.{st_none, st_then, st_wider}
use Rattle.vm_code.proofs.Triples.{no_labels, t_seq, t_more, t_draft, t_use}
use Rattle.vm_code.proofs.Effects.{t_does, does_of, Keeps, EndsDone, EndsFailed}

-- ---- no row

pub values_none : (a : Draft) → Does (needing []) a a 0 0 None (values_effect []) (by_world (λ w. rows_in_turn_steps []))
values_none a =
    does_of 0 0 None (values_effect []) (λ h0 h. h ≡ h0) (grows_none a) refl (st_none [] [] a) (λ h shut. refl) (λ m called.
    let begun : Claim = λ h0 h. h ≡ h0 in
    let done : Claim = EndsDone m (values_effect []) 0 0 a.next in
    let last : Last = EndsFailed m (values_effect []) 0 0 in
    t_use begun done (λ h0 h pre. pre) (λ h0 h pre. (
      (λ k le lt. ap (λ (z : Here). read z.regs k) pre),
      ap (λ (z : Here). z.scene) pre,
      ap Done (with_given-nil (memory_of 0 h0)) ∙ ap (λ (z : Here). Done (memory_of 0 z)) (sym pre),
    )) (t_draft m no_labels last begun (grows_none a) refl))

-- ---- a row more

module _ (a b c : Draft) (rows : List (List BoundExpr)) (row : List BoundExpr) (x : Does (needing (rows_read rows)) a b 0 0 None (values_effect rows) (by_world (λ w. rows_in_turn_steps rows))) (y : Does (needing (results_read row)) b c 0 0 None (value_effect row) (λ sight held x. row_steps row)) where
  abbrev all : List (List BoundExpr)
  all = rows ++ row ∷ []

  abbrev effect : Effect
  effect = values_effect all

  abbrev started : Claim
  started h0 h = (h ≡ h0) × Shut a.cursors h0.scene.cursors

  module _ (m : Setting) where
    abbrev item : Here → List BoundExpr → Item
    item h r = shown r (environment_of m h) no_causes

    abbrev items : Here → List Item
    items h = map (item h) rows

    -- the items of the rows in front are given
    record Given (h0 h : Here) : Type 0 where
      regs : Keeps 0 a.next h0.regs h.regs
      inputs : h.inputs ≡ h0.inputs
      scene : h.scene ≡ h0.scene
      shut : Shut a.cursors h0.scene.cursors
      written : h.shared.written ≡ h0.shared.written
      gave : gives (items h0) (memory_of 0 h0) ≡ Done (memory_of 0 h)

    abbrev given : Claim
    given h0 h = Given h0 h

    abbrev done : Claim
    done = EndsDone m effect 0 0 a.next

    abbrev last : Last
    last = EndsFailed m effect 0 0

    -- the row sees what is seen at the start
    sees : (h0 h : Here) → Given h0 h → environment_of m h ≡ environment_of m h0
    sees h0 h g =
        ap (λ k. environment_of m (record h { scene = k })) g.scene
        ∙ ap (λ k. environment_of m (record h { scene = h0.scene; inputs = k })) g.inputs
        ∙ ap (λ k. environment_of m (record h0 { shared = record h.shared { written = k } })) g.written

    all_items : (h0 : Here) → effect_at m effect 0 0 h0 ≡ gives (items h0 ++ item h0 row ∷ []) (memory_of 0 h0)
    all_items h0 = ap (λ l. gives l (memory_of 0 h0)) (map-append (item h0) rows (row ∷ []))

    -- what is left is the effect of the row
    left : (h0 h : Here) → Given h0 h → effect_at m effect 0 0 h0 ≡ effect_at m (value_effect row) 0 0 h
    left h0 h g =
        all_items h0
        ∙ gives-more (items h0) (item h0 row ∷ []) (memory_of 0 h0) (memory_of 0 h) g.gave
        ∙ ap (λ env. gives (shown row env no_causes ∷ []) (memory_of 0 h)) (sym (sees h0 h g))

    in_front : Triple m a b (λ h0. rows_in_turn_steps rows) no_labels last started given
    in_front = t_does m tt (λ h0. rows_in_turn_steps rows) no_labels last started given x (λ h0 h pre. omega arith) (λ h0 h pre. subst (λ (z : Here). Shut a.cursors z.scene.cursors) (sym pre.0) pre.1) (λ h0 h regs v pre is long own same.
        let known = gives_done (items h) (memory_of 0 h) v is in
        record {
          regs = λ k le lt. same k le lt ∙ ap (λ (z : Here). read z.regs k) pre.0;
          inputs = ap (λ (z : Here). z.inputs) pre.0;
          scene = ap (λ (z : Here). z.scene) pre.0;
          shut = pre.1;
          written = ap (λ (z : Memory). z.shared.written) (sym known.1) ∙ ap (λ (z : Here). z.shared.written) pre.0;
          gave = sym (ap (effect_at m (values_effect rows) 0 0) pre.0) ∙ is ∙ ap (λ l. Done (record v { own = l })) (sym own);
        }) (λ l h0 h regs scene v e pre is long wide below slots own same.
        absurd (gives_quit (items h) (memory_of 0 h) v is)) (λ h0 h k v pre is.
        (k, v, all_items h0 ∙ gives-no_more (items h0) (item h0 row ∷ []) k (memory_of 0 h0) v (sym (ap (effect_at m (values_effect rows) 0 0) pre.0) ∙ is), refl, refl))

    behind : Triple m b c (λ h0. row_steps row) no_labels last given done
    behind = t_does m tt (λ h0. row_steps row) no_labels last given done y (λ h0 h pre. omega arith) (λ h0 h pre k le. ap (λ (s : Scene). cursor_at s.cursors k) pre.scene ∙ pre.shut k (omega (arith, le, x.grows.cursors))) (λ h0 h regs v pre is long own same.
        ((λ k le lt. same k le (omega (arith, lt, x.next)) ∙ pre.regs k le lt), pre.scene, left h0 h pre ∙ is ∙ ap (λ l. Done (record v { own = l })) (sym own))) (λ l h0 h regs scene v e pre is long wide below slots own same.
        absurd (gives_quit (shown row (environment_of m h) no_causes ∷ []) (memory_of 0 h) v is)) (λ h0 h k v pre is.
        (k, v, left h0 h pre ∙ is, refl, refl))

    whole : Triple m a c (λ h0. rows_in_turn_steps all) no_labels last started done
    whole = t_more (λ h0. rows_in_turn_steps all) (λ h0. omega (arith, sum_by_push (row_steps) rows row)) (t_seq in_front behind)

  pub values_more : Does (needing (rows_read (rows ++ row ∷ []))) a c 0 0 None (values_effect (rows ++ row ∷ [])) (by_world (λ w. rows_in_turn_steps (rows ++ row ∷ [])))
  values_more =
      does_of 0 0 None effect started (grows_then x.grows y.grows) (y.next ∙ x.next) (st_then x.grows (st_wider (λ xs met. front_met xs results_read rows row met) x.steady) (st_wider (λ xs met. last_met xs results_read rows row met) y.steady)) (λ h shut. (refl, shut)) (λ m called. whole m)
