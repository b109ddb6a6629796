-- Parts of a script that run one after another, and what they come to where none is interrupted.
use Rattle.std.specs.Prelude.{◌≡◌, ◌≤◌, ⊤, ℕ, List, [], ◌∷◌, ◌++◌}
use Rattle.std.specs.declared.option.Option.{Option}
use Rattle.eng_value.specs.HostMeanings.{HostMeanings}
use Rattle.eng_value.specs.declared.cause.Cause.{Cause}
use Rattle.eng_value.specs.declared.value.Value.{Value}
use Rattle.sql_meaning.specs.declared.script.Options.{Options}
use Rattle.sql_meaning.specs.Parts.{Part, Statement, DotLine, BadCharacter}
use Rattle.sql_meaning.specs.World.{Context, State, context}
use Rattle.sql_meaning.specs.Script.{Came, Follow, PartComes, as_named, ends}
use Rattle.sql_meaning.specs.Named.{TextIsTold}
use Rattle.sql_meaning.specs.Statement.{IsNamed, MayGive, text_outcome}
use Rattle.sql_meaning.specs.Work.{instruction_bound}

-- the state behind the last, or the first state where there is none
abbrev pub last_state : State → List Came → State
last_state state [] = state
last_state state (o ∷ os) = last_state o.next os

-- the list begins with this one
abbrev pub IsFrontOf : {X : Type 0} → List X → List X → Type 0
IsFrontOf {X} front all = (rest : List X) × (front ++ rest ≡ all)

-- it is what the statement means, a refusal names one of the causes, and the instructions are within the budget and the bound
abbrev pub IsAsMeant : ℕ → Context → List ℕ → Came → Type 0
IsAsMeant budget ctx text o = (why : Option Cause) × (rows : List (List Value)) × (ran : ℕ) × IsNamed (text_outcome ctx text).refusal why
    × MayGive (text_outcome ctx text) rows × (ran ≤ budget) × (ran ≤ instruction_bound ctx text) × (o ≡ as_named (text_outcome ctx text) why rows ran)

-- the same of a part
abbrev pub PartIsAsMeant : HostMeanings → ℕ → State → Part → Came → Type 0
PartIsAsMeant hosts budget state (Statement text) o = IsAsMeant budget (context hosts state []) text o
PartIsAsMeant hosts budget state (DotLine line) o = PartComes hosts budget state (DotLine line) o
PartIsAsMeant hosts budget state (BadCharacter place) o = PartComes hosts budget state (BadCharacter place) o

-- so are these, one after another
abbrev pub AreAsMeant : HostMeanings → Options → State → List Part → List Came → Type 0
AreAsMeant hosts options state [] os = os ≡ []
AreAsMeant hosts options state (part ∷ parts) [] = ⊥
AreAsMeant hosts options state (part ∷ parts) (o ∷ os) =
    PartIsAsMeant hosts options.budget state part o × Follow (ends options o) os (AreAsMeant hosts options o.next parts os)

-- the state behind a part that runs as it means
abbrev pub state_behind : HostMeanings → State → Part → State
state_behind hosts state (Statement text) = (text_outcome (context hosts state []) text).next
state_behind hosts state (DotLine line) = state
state_behind hosts state (BadCharacter place) = state

-- the statement names only hosts that tell, and the budget is at least its bound
abbrev pub IsEnoughFor : HostMeanings → ℕ → State → Part → Type 0
IsEnoughFor hosts budget state (Statement text) = TextIsTold (context hosts state []) text × (instruction_bound (context hosts state []) text ≤ budget)
IsEnoughFor hosts budget state (DotLine line) = ⊤
IsEnoughFor hosts budget state (BadCharacter place) = ⊤

-- so is each statement
abbrev pub IsEnough : HostMeanings → ℕ → State → List Part → Type 0
IsEnough hosts budget state [] = ⊤
IsEnough hosts budget state (part ∷ parts) =
    IsEnoughFor hosts budget state part × IsEnough hosts budget (state_behind hosts state part) parts
