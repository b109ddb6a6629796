-- What the authorizer permits: it is asked for each action of a statement before anything runs (Compile-Time Authorization Callbacks).
use Rattle.std.specs.Prelude.{ℕ, suc, Bool, true, false, List, [], ◌∷◌, Option, Some, None, Result, Ok, Err}
use Rattle.std.specs.List.{filter}
use Rattle.eng_value.specs.HostMeanings.{verdict_of}
use Rattle.eng_value.specs.declared.authorizing.Action.{Action}
use Rattle.eng_value.specs.declared.authorizing.Verdict.{Verdict}
use Rattle.eng_value.specs.declared.authorizing.Verdict.TheVariants.{Allow, Deny, Ignore}
use Rattle.eng_value.specs.declared.cause.Cause.{Cause}
use Rattle.eng_value.specs.declared.cause.Cause.TheVariants.{Denied}
use Rattle.bound_tree.specs.declared.statements.BoundStatement.{BoundStatement}
use Rattle.bound_actions.specs.Statements.{actions_of}
use Rattle.bound_ignored.specs.Marked.{ignoring}

-- what is said to the actions of a statement: the number of the first that is denied, counted from 1; or those that are ignored, where none is denied
pub data Permit : Type 0 where
  Denies : ℕ → Permit
  Ignores : List Action → Permit

-- the number of the first that is denied, where the first of these has this number
abbrev pub denied_at : Verdict → ℕ → Option ℕ → Option ℕ
denied_at Allow number later = later
denied_at Deny number later = Some number
denied_at Ignore number later = later

abbrev pub denied_from : (Action → Verdict) → ℕ → List Action → Option ℕ
denied_from says number [] = None
denied_from says number (a ∷ actions) = denied_at (says a) number (denied_from says (suc number) actions)

abbrev pub is_ignored : Verdict → Bool
is_ignored Allow = false
is_ignored Deny = false
is_ignored Ignore = true

abbrev pub ignored_of : (Action → Verdict) → List Action → List Action
ignored_of says actions = filter (λ a. is_ignored (says a)) actions

abbrev pub permit_by : Option ℕ → List Action → Permit
permit_by None ignored = Ignores ignored
permit_by (Some number) ignored = Denies number

abbrev pub permit_of : (Action → Verdict) → List Action → Permit
permit_of says actions = permit_by (denied_from says 1 actions) (ignored_of says actions)

-- the statement as it may run: a column whose read is ignored reads NULL, and anything else that is ignored is done
abbrev pub permitted : BoundStatement → Permit → Result BoundStatement Cause
permitted b (Denies action) = Err (Denied action)
permitted b (Ignores []) = Ok b
permitted b (Ignores (a ∷ ignored)) = Ok (ignoring (a ∷ ignored) b)

-- ---- who is asked

-- what is said to a statement
abbrev pub Asking : Type 0
Asking = BoundStatement → Permit

-- what an authorizer says that tells its verdicts, or nobody, where there is none
abbrev pub asked_by : Option (Option (Action → Verdict)) → Asking
asked_by told b = permit_of (verdict_of told) (actions_of b)

-- an authorizer that tells nothing may say anything, as this
abbrev pub asked_as : Option (Option (Action → Verdict)) → Permit → Asking
asked_as None anything = asked_by None
asked_as (Some None) anything = λ b. anything
asked_as (Some (Some says)) anything = asked_by (Some (Some says))

-- it holds for what may be said
abbrev pub WhereAsked : Option (Option (Action → Verdict)) → (Asking → Type 0) → Type 0
WhereAsked told P = (anything : Permit) × P (asked_as told anything)
