-- What the hosts of a run mean, as plain data that no call changes.
use Rattle.std.specs.Prelude.{◌≡◌, ⊤, ℕ, ℤ, Bool, false, List, [], Option, Some, None, Result, All, slice_get}
use Rattle.std.specs.List.{find}
use Rattle.eng_text.specs.Texts.{folded}
use Rattle.std.specs.Str.{bytes_eq}
use Rattle.eng_value.specs.StoredRows.{StoredRow}
use Rattle.eng_value.specs.declared.asking.Answer.{Answer}
use Rattle.eng_value.specs.declared.asking.Answer.TheVariants as answer
use Rattle.eng_value.specs.declared.authorizing.Action.{Action}
use Rattle.eng_value.specs.declared.authorizing.Verdict.{Verdict}
use Rattle.eng_value.specs.declared.authorizing.Verdict.TheVariants.{Allow}
use Rattle.eng_value.specs.declared.modules.Change.{Change}
use Rattle.eng_value.specs.declared.modules.ModColumn.{ModColumn}
use Rattle.eng_value.specs.declared.value.Value.{Value}

-- ---- what hosts tell: one that tells no meaning may do anything

-- what a function replies to its arguments and to the answers that it has so far
pub data Said : Type 0 where
  gives : Value → Said
  asks : List ℕ → List Value → Said
  refuses : List ℕ → Said

-- a function: how many arguments it takes, -1 for any number, whether it may ask, and what it replies
pub record ScalarFacts : Type 0 where
  pub arity : ℤ
  pub may_ask : Bool
  pub meaning : Option (List Value → List Answer → Said)

-- what an aggregate begins with, what it makes of that and of the arguments in a row, and its value; a text refuses
pub record AggregateMeaning : Type 0 where
  pub start : Result (List Value) (List ℕ)
  pub step : List Value → List Value → Result (List Value) (List ℕ)
  pub finish : List Value → Result Value (List ℕ)

pub record AggregateFacts : Type 0 where
  pub arity : ℤ
  pub meaning : Option AggregateMeaning

-- what a table that is made of such arguments holds, or the text of a refusal; its columns; the rows of a table for such values of its hidden columns; and what a change makes of rows, with the number that is answered
pub record ModuleMeaning : Type 0 where
  pub create : List (List ℕ) → Result (List StoredRow) (List ℕ)
  pub columns : List (List ℕ) → List ModColumn
  pub rows : List Value → List StoredRow
  pub apply : List StoredRow → Change → Result (List StoredRow × ℤ) (List ℕ)

pub record ModuleFacts : Type 0 where
  pub eponymous : Bool
  pub writable : Bool
  pub meaning : Option ModuleMeaning

-- the key of a text, by whose bytes texts are compared
abbrev pub CollationMeaning : Type 0
CollationMeaning = Option (List ℕ → List ℕ)

-- the hosts by their names, the first of a name counting; the authorizer, where there is one; and whether there is a hook
pub record HostMeanings : Type 0 where
  pub scalars : List (List ℕ × ScalarFacts)
  pub aggregates : List (List ℕ × AggregateFacts)
  pub collations : List (List ℕ × CollationMeaning)
  pub modules : List (List ℕ × ModuleFacts)
  pub authorizer : Option (Option (Action → Verdict))
  pub has_update_hook : Bool
  pub has_commit_hook : Bool

abbrev pub no_hosts : HostMeanings
no_hosts = record {
  scalars = [];
  aggregates = [];
  collations = [];
  modules = [];
  authorizer = None;
  has_update_hook = false;
  has_commit_hook = false;
}

-- the verdict on an action: where there is no authorizer everything is allowed, and of one that tells none nothing is known, so that this is not what it says
abbrev pub verdict_of : Option (Option (Action → Verdict)) → Action → Verdict
verdict_of None action = Allow
verdict_of (Some None) action = Allow
verdict_of (Some (Some says)) action = says action

-- ---- queries that functions ask

-- who answers a query, by its text and its parameters
abbrev pub Oracle : Type 0
Oracle = List ℕ → List Value → Answer

-- as at the deepest level, where no query is run
abbrev pub nobody : Oracle
nobody sql params = answer.TooDeep

-- ---- honesty: each host that is named tells what it means

-- a host, as a statement names it
pub data HostName : Type 0 where
  Scalar : List ℕ → HostName
  Aggregate : List ℕ → HostName
  CollationAt : ℕ → HostName
  Module : List ℕ → HostName

-- what the first entry of a name holds, without the case of ASCII letters
abbrev pub entry_of : {A : Type 0} → Option (List ℕ × A) → Option A
entry_of None = None
entry_of (Some entry) = Some entry.1

abbrev pub named : {A : Type 0} → List ℕ → List (List ℕ × A) → Option A
named name entries = entry_of (find (λ e. bytes_eq (folded e.0) (folded name)) entries)

-- what is there tells, where it is there
abbrev pub IsTold : {A : Type 0} → Option (Option A) → Type 0
IsTold None = ⊤
IsTold {A} (Some told) = (meaning : A) × (told ≡ Some meaning)

abbrev pub scalar_told : Option ScalarFacts → Option (Option (List Value → List Answer → Said))
scalar_told None = None
scalar_told (Some f) = Some f.meaning

abbrev pub aggregate_told : Option AggregateFacts → Option (Option AggregateMeaning)
aggregate_told None = None
aggregate_told (Some f) = Some f.meaning

abbrev pub module_told : Option ModuleFacts → Option (Option ModuleMeaning)
module_told None = None
module_told (Some f) = Some f.meaning

abbrev pub Tells : HostMeanings → HostName → Type 0
Tells hosts (Scalar name) = IsTold (scalar_told (named name hosts.scalars))
Tells hosts (Aggregate name) = IsTold (aggregate_told (named name hosts.aggregates))
Tells hosts (CollationAt place) = IsTold (entry_of (slice_get hosts.collations place))
Tells hosts (Module name) = IsTold (module_told (named name hosts.modules))

-- each of these tells, and so does the authorizer, which every statement asks
pub record NamesTold (hosts : HostMeanings) (names : List HostName) : Type 0 where
  pub each : All (Tells hosts) names
  pub authorizer : IsTold hosts.authorizer
