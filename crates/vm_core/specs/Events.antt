-- What a run says of the machine over lists.
use Rattle.std.specs.Prelude.{◌≡◌, ⊤, ℕ, suc, List, [], ◌∷◌, IfOk}
use Rattle.std.specs.declared.alloc.AllocError.{AllocError}
use Rattle.std.specs.declared.result.Result.{Result}
use Rattle.vm_code.specs.Machine.{Row, World, Setting, State, Next, On, End, Finished, Failed, after}
use Rattle.vm_core.specs.declared.event.Event.{Event}
use Rattle.vm_core.specs.declared.event.Event.TheVariants as event
use Rattle.vm_core.specs.declared.pace.Pace.{Pace}
use Rattle.vm_core.specs.declared.pace.Pace.TheVariants as pace
use Rattle.vm_core.specs.Paused.{Progress, state_at}

-- what a run came to that stopped for this event; `t` is the state then, by the rows that were given
abbrev pub StopsFor : Event → (List Row → State) → Next → Type 0
StopsFor (event.Row row) t n = n ≡ On (t (row ∷ []))
StopsFor event.Done t n = n ≡ End Finished (t []).shared
StopsFor (event.Bad c) t n = n ≡ End (Failed c) (t []).shared
StopsFor (event.Interrupted whole) t n = ⊥
StopsFor event.Mem t n = ⊥

-- why an instruction was not done, from the state `s`; `t` is what stands there now, by the rows that were given. Where memory is
-- wanting the instruction may have done a part
abbrev pub PausesFor : Event → State → (List Row → State) → Type 0
PausesFor (event.Row row) s t = ⊥
PausesFor event.Done s t = ⊥
PausesFor (event.Bad c) s t = ⊥
PausesFor (event.Interrupted whole) s t = ⊥
PausesFor event.Mem s t = ⊤

-- where an instruction leads from a state: on, or to an event, or nowhere, since it was not done
abbrev pub LeadsTo : Pace → Event → State → (List Row → State) → Next → Type 0
LeadsTo pace.Going e s t n = n ≡ On (t [])
LeadsTo pace.Stopping e s t n = StopsFor e t n
LeadsTo pace.Pausing e s t n = PausesFor e s t

-- what an instruction did: from what the run had come to over the tables `w` it led to where `next` does, and the run came to `new`, over
-- the tables `v`, with the event `e` where it stopped
abbrev pub ActsAs : Pace → Event → Progress → World → Progress → World → (State → Next) → Type 0
ActsAs pace e old w new v next = LeadsTo pace e (state_at old w []) (state_at new v) (next (state_at old w []))

-- the same, unless memory was wanting
abbrev pub ActsOver : Result Pace AllocError → Event → Progress → World → Progress → World → (State → Next) → Type 0
ActsOver result e old w new v next = IfOk result (λ p. ActsAs p e old w new v next)

-- the same of one that reads no table and changes none, whatever the tables are
abbrev pub StopsOrActs : Result Pace AllocError → Event → Progress → Progress → (State → Next) → Type 0
StopsOrActs result e old new next = (w : World) → ActsOver result e old w new w next

-- the same of one that never stops, whatever the event would be
abbrev pub Acts : Result Pace AllocError → Progress → Progress → (State → Next) → Type 0
Acts result old new next = (e : Event) → StopsOrActs result e old new next

abbrev pub ActsOn : Result Pace AllocError → Progress → World → Progress → World → (State → Next) → Type 0
ActsOn result old w new v next = (e : Event) → ActsOver result e old w new v next

-- an event is the next one of the machine over lists, after so many instructions from the state `s`; `t` is the state then, by
-- the rows that were given, and `all` says that the budget is used up. Where memory was wanting the machine over lists goes on there
abbrev pub EventIs : Setting → ℕ → State → (List Row → State) → Type 0 → Event → Type 0
EventIs m n s t all (event.Row row) = after m n s ≡ On (t (row ∷ []))
EventIs m n s t all event.Done = after m n s ≡ End Finished (t []).shared
EventIs m n s t all (event.Bad c) = after m n s ≡ End (Failed c) (t []).shared
EventIs m n s t all (event.Interrupted whole) = (after m n s ≡ On (t [])) × all
EventIs m n s t all event.Mem = (u : State) × (after m n s ≡ On u)

-- in front of the last of so many instructions the machine over lists goes on, so none is run behind its end
abbrev pub NoneInVain : Setting → ℕ → State → Type 0
NoneInVain m n s = (k : ℕ) → suc k ≡ n → (t : State) × (after m k s ≡ On t)

-- an interruption names the budget
abbrev pub NamesBudget : ℕ → Event → Type 0
NamesBudget whole (event.Row row) = ⊤
NamesBudget whole event.Done = ⊤
NamesBudget whole (event.Bad c) = ⊤
NamesBudget whole (event.Interrupted n) = n ≡ whole
NamesBudget whole event.Mem = ⊤
