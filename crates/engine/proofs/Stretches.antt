-- One stretch of a run and the next, and what a run comes to whose stretches are known.
use Rattle.std.proofs.Common.{◌≡◌, ℕ, zero, suc, ◌+◌, ◌-◌, ◌<◌, ◌≤◌, Bool, true, false, List, [], ◌∷◌, ◌++◌, length, ℤ, Ok, Err, Option, Result, refl, sym, ap, ◌∙◌, subst, arith, append_assoc, append-nil, length-append, ⊎_elim}
use Rattle.std.proofs.lemmas.Bool.{cases_lt}
use Rattle.eng_value.specs.HostMeanings.{HostMeanings, Oracle}
use Rattle.eng_value.specs.declared.value.Value.{Value}
use Rattle.vm_code.specs.declared.program.Program.{Program}
use Rattle.vm_code.specs.Machine.{Row, World, Setting, Shared, State, Ending, Finished, Failed, Next, On, End, Ends, after, setting, start, with_given, world_of}
use Rattle.vm_code.specs.Reading.{under}
use Rattle.vm_code.proofs.Given.{over, one_end, still_on, next_stretch}
use Rattle.vm_code.proofs.Kept.{shared_of, after_keeps}
use Rattle.vm_code.proofs.Runs.{after_add}
use Rattle.vm_core.specs.Events.{NoneInVain}
use Rattle.vm_core.specs.Paused.{Paused, state_of, at_start}
use Rattle.engine.specs.declared.running.Completed.{Completed}
use Rattle.engine.specs.declared.running.Stop.{Stop}
use Rattle.engine.specs.declared.running.Stop.TheVariants as stop
use Rattle.engine.specs.Running.{RunsAs}
use Rattle.engine.specs.Stretches.{Gives, StopsAt, TakesOne, NextIs, DriveIs}
use Rattle.engine.specs.Taking.{Rows, Adds, AddsFront}
use Rattle.engine.proofs.Takings.{adds_none, adds_then}

-- the rows given begin with these
abbrev BeginsWith : Rows → Shared → Type 0
BeginsWith rows x = (rest : Rows) × (rows ++ rest ≡ x.given)

begins_given : (rows : Rows) (x : Shared) (r : Row) → BeginsWith rows x → BeginsWith rows (with_given x r)
begins_given rows x r p = (p.0 ++ r ∷ [], sym (append_assoc rows p.0 (r ∷ [])) ∙ ap (λ l. l ++ r ∷ []) p.1)

module _ (m : Setting) where
  -- in front of where a run goes on, it went on
  pub went_on : (k n : ℕ) (s t : State) → k ≤ n → after m n s ≡ On t → (u : State) × (after m k s ≡ On u)
  went_on k n s t le is = by (after m k s) refl
    where
      by : (x : Next) → after m k s ≡ x → (u : State) × (after m k s ≡ On u)
      by (On u) e = (u, e)
      by (End f y) e =
          let z : k + (n - k) ≡ n = omega arith in
          let both : End f y ≡ On t = sym (over m k (n - k) s f y e) ∙ ap (λ j. after m j s) z ∙ is in
          cc

  -- the run from a state on is the rest of the run to it
  rest_is : (k n : ℕ) (s t : State) (x : Next) → k ≤ n → after m k s ≡ On t → after m n s ≡ x → after m (n - k) t ≡ x
  rest_is k n s t x le is ends =
      let z : k + (n - k) ≡ n = omega arith in
      sym (after_add m k (n - k) s t (after m (n - k) t) is refl) ∙ ap (λ j. after m j s) z ∙ ends

  -- what a run has given at its end begins with what it had given on its way
  pub given_grows : (k n : ℕ) (s t : State) (e : Ending) (x : Shared) → after m k s ≡ On t → after m n s ≡ End e x → BeginsWith t.shared.given x
  given_grows k n s t e x is ends =
      let fewer : k < n = still_on m n k s t e x ends is in
      let rows = t.shared.given in
      let kept = after_keeps (BeginsWith rows) (begins_given rows) (λ y at r p. p) (λ y p. p) m (n - k) t ([], append-nil rows) in
      subst (λ y. BeginsWith rows (shared_of y)) (rest_is k n s t (End e x) (omega arith) is ends) kept

  -- ---- the whole run

  -- no more instructions were run than the run needs
  pub enough : (most n : ℕ) (s : State) (e : Ending) (x : Shared) → Ends m most s e x → NoneInVain m n s → n ≤ most
  enough most zero s e x ends needed = omega arith
  enough most (suc k) s e x ends needed =
      let u = needed k refl in
      let fewer = still_on m ends.steps k s u.0 e x ends.is u.1 in
      omega (arith, fewer, ends.within)

  -- the run has one end
  pub end_is : (most n : ℕ) (s : State) (e f : Ending) (x y : Shared) → Ends m most s e x → after m n s ≡ End f y → (e ≡ f) × (x ≡ y)
  end_is most n s e f x y ends is =
      let one : End e x ≡ End f y = one_end m ends.steps n s e f x y ends.is is in
      (cc, cc)

  front_on : (most k : ℕ) (s t : State) (e : Ending) (x : Shared) (rows : Rows) (old new : Option Rows) → Ends m most s e x → after m k s ≡ On t → t.shared.given ≡ rows → Adds old new rows → AddsFront old new x.given
  front_on most k s t e x rows old new ends is given adds =
      let begins = given_grows k ends.steps s t e x is ends.is in
      (rows, begins.0, ap (λ l. l ++ begins.0) (sym given) ∙ begins.1, adds)

  module _ (most n whole : ℕ) (s : State) (e : Ending) (x : Shared) (ends : Ends m most s e x) (needed : NoneInVain m n s) (q : Paused) (v w : World) (old new : Option Rows) (rose : Type 0) where
    pub stopped : (why : Stop) → DriveIs m n s (state_of q v) whole rose old new (Err why) → RunsAs e x most whole n w old new rose (Err why)
    stopped (stop.Bad causes) run =
        let rows = run.0 in
        let same = end_is most n s e (Failed causes) x (state_of q v rows).shared ends run.1 in
        let given : rows ≡ x.given = ap (λ (y : Shared). y.given) (sym same.1) in
        let adds : Adds old new x.given = subst (Adds old new) given run.2 in
        record { answer = (same.0, adds); front = (x.given, [], append-nil x.given, adds); within = enough most n s e x ends needed }
    stopped (stop.Interrupted k) run =
        let fewer = still_on m ends.steps n s (state_of q v run.0) e x ends.is run.1.0 in
        let less : k < most = omega (arith, fewer, ends.within, run.1.1, run.1.2) in
        let same : n ≡ k = omega (arith, run.1.1, run.1.2) in
        record { answer = (run.1.1, same, less); front = front_on most n s (state_of q v run.0) e x run.0 old new ends run.1.0 refl run.2; within = enough most n s e x ends needed }
    stopped stop.SinkFault run =
        let at = run.1.0 in
        record { answer = run.1.1; front = front_on most at.steps s at.state e x run.0 old new ends at.is at.given run.2; within = enough most n s e x ends needed }
    stopped stop.Mem run =
        let at = run.1 in
        record { answer = tt; front = front_on most at.steps s at.state e x run.0 old new ends at.is at.given run.2; within = enough most n s e x ends needed }

    pub finished : (c : Completed) (given : ℕ) → w ≡ v → DriveIs m n s (state_of q v) whole rose old new (Ok given) → c.given ≡ given → c.changed ≡ q.changes → c.last_rowid ≡ q.last_rowid → RunsAs e x most whole n w old new rose (Ok c)
    finished c given world run given_is changed last =
        let rows = run.0 in
        let same = end_is most n s e Finished x (state_of q v rows).shared ends run.1 in
        let back = sym same.1 in
        let rows_are : rows ≡ x.given = ap (λ (y : Shared). y.given) back in
        let adds : Adds old new x.given = subst (Adds old new) rows_are run.2 in
        record {
          answer = (same.0, world ∙ ap (λ (y : Shared). world_of y) back, adds, given_is ∙ run.3 ∙ ap length rows_are, changed ∙ ap (λ (y : Shared). y.written.changes) back, last ∙ ap (λ (y : Shared). y.written.last_rowid) back);
          front = (x.given, [], append-nil x.given, adds);
          within = enough most n s e x ends needed;
        }

-- ---- one stretch after another

-- a run stands here after so many instructions, and so many rows were given and taken
pub record Along (hosts : HostMeanings) (ask : Oracle) (first p : Paused) (w0 w : World) (old new : Option Rows) (ran given : ℕ) : Type 0 where
  pub rows : Rows
  pub is : after (setting hosts ask first.params first.prog) ran (state_of first w0 []) ≡ On (state_of p w rows)
  pub taken : Adds old new rows
  pub count : given ≡ length rows

pub along_first : (hosts : HostMeanings) (ask : Oracle) (p : Paused) (w : World) (t : Option Rows) (ran : ℕ) → ran ≡ 0 → Along hosts ask p p w w t t ran 0
along_first hosts ask p w t ran none = record {
  rows = [];
  is = ap (λ k. after (setting hosts ask p.params p.prog) k (state_of p w [])) none;
  taken = adds_none t;
  count = refl;
}

-- the rows that a state has given
abbrev given_in : Next → Rows
given_in (On s) = s.shared.given
given_in (End e x) = x.given

-- a row is given by an instruction
pub some_ran : (m : Setting) (n : ℕ) (p q : Paused) (w v : World) (row : Row) → after m n (state_of p w []) ≡ On (state_of q v (row ∷ [])) → 0 < n
some_ran m zero p q w v row is = let none : [] ≡ row ∷ [] = ap given_in is in cc
some_ran m (suc n) p q w v row is = omega arith

-- nothing was given yet
pub gives_none : (m : Setting) (p : Paused) (w : World) → Gives m (state_of p w []) []
gives_none m p w = record { steps = 0; state = state_of p w []; is = refl; given = refl }

-- a row that was given is handed over
pub handed : (m : Setting) (n ran whole : ℕ) (p : Paused) (w : World) (t : Rows → State) (row : Row) (old new : Option Rows) (rose : Type 0) (r : Result Bool Stop) → after m n (state_of p w []) ≡ On (t (row ∷ [])) → TakesOne old new rose row r → NextIs m n (state_of p w []) t whole ran rose old new r
handed m n ran whole p w t row old new rose (Ok true) is took = (row, is, took.1)
handed m n ran whole p w t row old new rose (Ok false) is took = cc (took.0)
handed m n ran whole p w t row old new rose (Err (stop.Bad causes)) is took = absurd took
handed m n ran whole p w t row old new rose (Err (stop.Interrupted k)) is took = absurd took
handed m n ran whole p w t row old new rose (Err stop.SinkFault) is took = ((gives_none m p w, took.0), took.1)
handed m n ran whole p w t row old new rose (Err stop.Mem) is took = (gives_none m p w, took)

module _ {hosts : HostMeanings} {ask : Oracle} {first p : Paused} {w0 w : World} {old mid : Option Rows} {i given : ℕ} (along : Along hosts ask first p w0 w old mid i given) (prog : p.prog ≡ first.prog) (params : p.params ≡ first.params) (n ran : ℕ) (ran_is : ran ≡ i + n) where
  abbrev m : Setting
  m = setting hosts ask first.params first.prog

  -- the setting of the machine is the one of the first
  here : setting hosts ask p.params p.prog ≡ m
  here = ap (λ l. setting hosts ask l p.prog) params ∙ ap (setting hosts ask first.params) prog

  abbrev s : State
  s = state_of first w0 []

  from_here : (x : Next) → after (setting hosts ask p.params p.prog) n (state_of p w []) ≡ x → after m n (state_of p w []) ≡ x
  from_here x next = ap (λ (y : Setting). after y n (state_of p w [])) (sym here) ∙ next

  needed_here : NoneInVain m n (state_of p w []) → NoneInVain m ran s
  needed_here needed k last =
      ⊎_elim (λ lt. went_on m k i s (state_of p w along.rows) (omega arith) along.is) (λ le.
      let one : suc (k - i) ≡ n = omega arith in
      let u = needed (k - i) one in
      let z : k ≡ i + (k - i) = omega arith in
      (under along.rows u.0, ap (λ j. after m j s) z ∙ next_stretch m i (k - i) s (state_of p w []) along.rows (On u.0) along.is u.1)) (cases_lt k i)

  pub needed_then : NoneInVain (setting hosts ask p.params p.prog) n (state_of p w []) → NoneInVain m ran s
  needed_then needed = needed_here (subst (λ (y : Setting). NoneInVain y n (state_of p w [])) here needed)

  gives_then : Gives m s along.rows
  gives_then = record { steps = i; state = state_of p w along.rows; is = along.is; given = refl }

  module _ (q : Paused) (v : World) (new : Option Rows) where
    on_then : (more : Rows) → after m n (state_of p w []) ≡ On (state_of q v more) → after m ran s ≡ On (state_of q v (along.rows ++ more))
    on_then more next = ap (λ j. after m j s) ran_is ∙ next_stretch m i n s (state_of p w []) along.rows (On (state_of q v more)) along.is next

    end_then : (e : Ending) → after m n (state_of p w []) ≡ End e (state_of q v []).shared → after m ran s ≡ End e (state_of q v along.rows).shared
    end_then e next =
        ap (λ j. after m j s) ran_is ∙ next_stretch m i n s (state_of p w []) along.rows (End e (state_of q v []).shared) along.is next
        ∙ ap (λ l. End e (state_of q v l).shared) (append-nil along.rows)

    taken_still : Adds mid new [] → Adds old new along.rows
    taken_still adds = subst (Adds old new) (append-nil along.rows) (adds_then old mid new along.rows [] along.taken adds)

    stop_then : (whole : ℕ) (rose since : Type 0) → (rose → since) → (why : Stop) → StopsAt m n (state_of p w []) (state_of q v) whole ran rose [] why → StopsAt m ran s (state_of q v) whole ran since along.rows why
    stop_then whole rose since later (stop.Bad causes) at = end_then (Failed causes) at
    stop_then whole rose since later (stop.Interrupted k) at = (on_then [] at.0 ∙ ap (λ l. On (state_of q v l)) (append-nil along.rows), at.1, at.2)
    stop_then whole rose since later stop.SinkFault at = (gives_then, later at.1)
    stop_then whole rose since later stop.Mem at = gives_then

    -- a run that stops in its next stretch stops
    pub drive_stops : (part whole to : ℕ) (rose since : Type 0) (why : Stop) → part ≡ whole → to ≡ ran → (rose → since) → NextIs (setting hosts ask p.params p.prog) n (state_of p w []) (state_of q v) part to rose mid new (Err why) → DriveIs m ran s (state_of q v) whole since old new (Err why)
    drive_stops part whole to rose since why same counted later next =
        let now = subst (λ (y : Setting). StopsAt y n (state_of p w []) (state_of q v) part to rose [] why) here next.0 in
        let there = subst (λ (k : ℕ). StopsAt m n (state_of p w []) (state_of q v) k to rose [] why) same now in
        let at = subst (λ (k : ℕ). StopsAt m n (state_of p w []) (state_of q v) whole k rose [] why) counted there in
        (along.rows, stop_then whole rose since later why at, taken_still next.1)

    -- a run is at its end that has none but its last stretch before it
    pub drive_ends : after (setting hosts ask p.params p.prog) n (state_of p w []) ≡ End Finished (state_of q v []).shared → Adds mid new [] → (rows : Rows) × (after m ran s ≡ End Finished (state_of q v rows).shared) × Adds old new rows × (given ≡ length rows)
    drive_ends next adds = (along.rows, end_then Finished (from_here (End Finished (state_of q v []).shared) next), taken_still adds, along.count)

    -- one row more was given and taken
    pub along_next : (row : Row) → after (setting hosts ask p.params p.prog) n (state_of p w []) ≡ On (state_of q v (row ∷ [])) → Adds mid new (row ∷ []) → Along hosts ask first q w0 v old new ran (given + 1)
    along_next row next adds = record {
      rows = along.rows ++ row ∷ [];
      is = on_then (row ∷ []) (from_here (On (state_of q v (row ∷ []))) next);
      taken = adds_then old mid new along.rows (row ∷ []) along.taken adds;
      count = omega (arith, along.count, length-append along.rows (row ∷ []));
    }

-- a machine that was made of a program runs as the program does, over tables that are the same
pub of_program : (hosts : HostMeanings) (ask : Oracle) (p : Paused) (prog : Program) (params : List Value) (last_rowid : ℤ) (u w : World) (P : Setting → State → Type 0) → p ≡ at_start prog params last_rowid → u ≡ w → P (setting hosts ask p.params p.prog) (state_of p u []) → P (setting hosts ask params prog) (start prog w last_rowid)
of_program hosts ask p prog params last_rowid u w P made same h =
    subst (λ (v : World). P (setting hosts ask params prog) (start prog v last_rowid)) same (subst (λ (y : Paused). P (setting hosts ask y.params y.prog) (state_of y u [])) made h)
