-- One instruction more.
use Rattle.std.proofs.Common.{◌≡◌, ℕ, zero, suc, ◌+◌, List, [], Ok, Err, Result, IfOk, Option, refl, sym, ap, ◌∙◌, subst, arith, rules}
use Rattle.std.specs.declared.alloc.AllocError.{AllocError}
use Rattle.eng_value.specs.HostMeanings.{HostMeanings, Oracle, no_hosts}
use Rattle.eng_value.specs.declared.authorizing.Action.{Action}
use Rattle.eng_value.specs.declared.authorizing.Verdict.{Verdict}
use Rattle.eng_value.specs.declared.value.Value.{Value}
use Rattle.vm_code.specs.declared.program.Program.{Program}
use Rattle.vm_code.specs.Machine.{Row, World, Setting, State, Next, On, End, step, go_on, after, setting}
use Rattle.vm_core.specs.declared.event.Event.{Event}
use Rattle.vm_core.specs.declared.event.Event.TheVariants as event
use Rattle.vm_core.specs.declared.pace.Pace.{Pace}
use Rattle.vm_core.specs.declared.pace.Pace.TheVariants as pace
use Rattle.vm_core.specs.Events.{ActsOver, EventIs, LeadsTo, NamesBudget, NoneInVain, PausesFor, StopsFor}
use Rattle.vm_core.specs.Meant.{authorized}
use Rattle.vm_core.specs.Paused.{Progress, Paused, paused, state_at, state_of}
use Rattle.vm_core.proofs.Authorized.{step_beside}

module _ (m : Setting) where
  go_on_one : (n : ℕ) (x : Next) (t : State) (y : Next) → ((s : State) → after m n s ≡ On t → after m (suc n) s ≡ y) → go_on x (after m n) ≡ On t → go_on x (after m (suc n)) ≡ y
  go_on_one n (On s) t y ih e = ih s e
  go_on_one n (End z g) t y ih e = cc

  alone : (x : Next) → go_on x (after m 0) ≡ x
  alone (On s) = refl
  alone (End e g) = refl

  -- so many instructions and one more
  pub after_more : (n : ℕ) (s t : State) (y : Next) → after m n s ≡ On t → step m t ≡ y → after m (suc n) s ≡ y
  after_more zero s t y e f = let same : s ≡ t = cc in alone (step m s) ∙ ap (step m) same ∙ f
  after_more (suc n) s t y e f = go_on_one n (step m s) t y (λ u g. after_more n u t y g f) e

  pub after_count : (n k : ℕ) (s t : State) (y : Next) → k ≡ n + 1 → after m n s ≡ On t → step m t ≡ y → after m k s ≡ y
  after_count n k s t y same e f =
      let more : k ≡ suc n = omega arith in
      ap (λ i. after m i s) more ∙ after_more n s t y e f

  -- in front of one instruction more the machine goes on
  pub none_in_vain : (n k : ℕ) (s t : State) → k ≡ n + 1 → after m n s ≡ On t → NoneInVain m k s
  none_in_vain n k s t same e j last =
      let fewer : j ≡ n = omega arith in
      (t, ap (λ i. after m i s) fewer ∙ e)

-- the event for which a run stops is the next one, and it interrupts none
pub event_stops : (m : Setting) (n : ℕ) (s : State) (t : List Row → State) (all : Type 0) (e : Event) (x : Next) → StopsFor e t x → after m n s ≡ x → EventIs m n s t all e
event_stops m n s t all (event.Row row) x stops is = is ∙ stops
event_stops m n s t all event.Done x stops is = is ∙ stops
event_stops m n s t all (event.Bad c) x stops is = is ∙ stops
event_stops m n s t all (event.Interrupted whole) x stops is = absurd stops
event_stops m n s t all event.Mem x stops is = absurd stops

pub names_stops : (whole : ℕ) (t : List Row → State) (e : Event) (x : Next) → StopsFor e t x → NamesBudget whole e
names_stops whole t (event.Row row) x stops = search rules
names_stops whole t event.Done x stops = search rules
names_stops whole t (event.Bad c) x stops = search rules
names_stops whole t (event.Interrupted n) x stops = absurd stops
names_stops whole t event.Mem x stops = absurd stops

-- an event for which an instruction was not done says no more than that the machine goes on
pub event_pauses : (m : Setting) (n : ℕ) (s u : State) (t : List Row → State) (all : Type 0) (e : Event) → PausesFor e u t → after m n s ≡ On u → EventIs m n s t all e
event_pauses m n s u t all (event.Row row) pauses is = absurd pauses
event_pauses m n s u t all event.Done pauses is = absurd pauses
event_pauses m n s u t all (event.Bad c) pauses is = absurd pauses
event_pauses m n s u t all (event.Interrupted whole) pauses is = absurd pauses
event_pauses m n s u t all event.Mem pauses is = (u, is)

pub names_pauses : (whole : ℕ) (u : State) (t : List Row → State) (e : Event) → PausesFor e u t → NamesBudget whole e
names_pauses whole u t (event.Row row) pauses = absurd pauses
names_pauses whole u t event.Done pauses = absurd pauses
names_pauses whole u t (event.Bad c) pauses = absurd pauses
names_pauses whole u t (event.Interrupted n) pauses = absurd pauses
names_pauses whole u t event.Mem pauses = tt

-- where an instruction leads is said in other words
pub acts_as : (r : Result Pace AllocError) (e : Event) (old : Progress) (w : World) (new : Progress) (v : World) (f g : State → Next) → f (state_at old w []) ≡ g (state_at old w []) → ActsOver r e old w new v f → ActsOver r e old w new v g
acts_as r e old w new v f g same acts =
    subst (λ (n : Next). IfOk r (λ p. LeadsTo p e (state_at old w []) (state_at new v) n)) same acts

pauses_alike : (e : Event) (s u : State) (t : List Row → State) → PausesFor e s t → PausesFor e u t
pauses_alike (event.Row row) s u t pauses = absurd pauses
pauses_alike event.Done s u t pauses = absurd pauses
pauses_alike (event.Bad c) s u t pauses = absurd pauses
pauses_alike (event.Interrupted n) s u t pauses = absurd pauses
pauses_alike event.Mem s u t pauses = tt

leads_alike : (p : Pace) (e : Event) (s u : State) (t : List Row → State) (n : Next) → LeadsTo p e s t n → LeadsTo p e u t n
leads_alike pace.Going e s u t n leads = leads
leads_alike pace.Stopping e s u t n leads = leads
leads_alike pace.Pausing e s u t n leads = pauses_alike e s u t leads

-- the same, behind a part of the instruction
pub acts_behind : (r : Result Pace AllocError) (e : Event) (part old : Progress) (w : World) (new : Progress) (v : World) (f g : State → Next) → f (state_at part w []) ≡ g (state_at old w []) → ActsOver r e part w new v f → ActsOver r e old w new v g
acts_behind (Ok p) e part old w new v f g same acts =
    subst (LeadsTo p e (state_at old w []) (state_at new v)) same (leads_alike p e (state_at part w []) (state_at old w []) (state_at new v) (f (state_at part w [])) acts)
acts_behind (Err x) e part old w new v f g same acts = search rules

-- one instruction, where the hosts that tell these meanings are none but an authorizer
pub same_step : {told : Option (Option (Action → Verdict))} (hosts : HostMeanings) → authorized told ≡ hosts → (ask : Oracle) (xs ys : List Value) → ys ≡ xs → (p q : Program) → q ≡ p → (s : State) → step (setting hosts ask xs p) s ≡ step (setting no_hosts ask ys q) s
same_step {told} hosts is ask xs ys alike p q same s =
    ap (λ h. step (setting h ask xs p) s) (sym is)
    ∙ step_beside told ask xs p s
    ∙ ap (λ zs. step (setting no_hosts ask zs p) s) (sym alike)
    ∙ ap (λ y. step (setting no_hosts ask ys y) s) (sym same)

-- the same from a machine that is seen as another
pub seen_as : (hosts : HostMeanings) (ask : Oracle) (p : Program) (params : List Value) (r : Progress) (q : Paused) → paused p params r ≡ q → (n : ℕ) (w : World) (x : Next) → after (setting hosts ask params p) n (state_at r w []) ≡ x → after (setting hosts ask q.params q.prog) n (state_of q w []) ≡ x
seen_as hosts ask p params r q e n w x h =
    subst (λ (y : Paused). after (setting hosts ask y.params y.prog) n (state_of y w []) ≡ x) e h

pub needed_as : (hosts : HostMeanings) (ask : Oracle) (p : Program) (params : List Value) (r : Progress) (q : Paused) → paused p params r ≡ q → (n : ℕ) (w : World) → NoneInVain (setting hosts ask params p) n (state_at r w []) → NoneInVain (setting hosts ask q.params q.prog) n (state_of q w [])
needed_as hosts ask p params r q e n w h =
    subst (λ (y : Paused). NoneInVain (setting hosts ask y.params y.prog) n (state_of y w [])) e h
