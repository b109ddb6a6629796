-- What is permitted to statements.
use Rattle.std.proofs.Common.{◌≡◌, ℕ, suc, List, [], ◌∷◌, Option, Some, None, Ok, refl, ap, ◌∙◌}
use Rattle.eng_value.specs.HostMeanings.{IsTold, verdict_of}
use Rattle.eng_value.specs.declared.authorizing.Action.{Action}
use Rattle.eng_value.specs.declared.authorizing.Verdict.{Verdict}
use Rattle.bound_tree.specs.declared.statements.BoundStatement.{BoundStatement}
use Rattle.bound_actions.specs.Statements.{actions_of}
use Rattle.sql_meaning.specs.Permits.{Ignores, Permit, asked_as, asked_by, denied_from, ignored_of, permit_by, permitted}

-- ---- where nobody is asked everything is permitted

none_denied : (number : ℕ) (actions : List Action) → denied_from (verdict_of None) number actions ≡ None
none_denied number [] = refl
none_denied number (a ∷ actions) = none_denied (suc number) actions

none_ignored : (actions : List Action) → ignored_of (verdict_of None) actions ≡ []
none_ignored [] = refl
none_ignored (a ∷ actions) = none_ignored actions

pub nobody-asked : (b : BoundStatement) → asked_by None b ≡ Ignores []
nobody-asked b = ap (λ p. permit_by p (ignored_of (verdict_of None) (actions_of b))) (none_denied 1 (actions_of b)) ∙ ap Ignores (none_ignored (actions_of b))

pub permitted-all : (b : BoundStatement) → permitted b (asked_by None b) ≡ Ok b
permitted-all b = ap (permitted b) (nobody-asked b)

-- ---- an authorizer that tells says what it tells

pub asked-told : (told : Option (Option (Action → Verdict))) (anything : Permit) → IsTold told → asked_as told anything ≡ asked_by told
asked-told None anything is = refl
asked-told (Some None) anything is = absurd (let bad : None ≡ Some is.0 = is.1 in cc)
asked-told (Some (Some says)) anything is = refl
