-- What is said to a list of actions, an action after another.
use Rattle.std.proofs.Common.{◌≡◌, ◌+◌, ℕ, suc, List, [], ◌∷◌, ◌++◌, refl, sym, ap}
use Rattle.std.proofs.lemmas.List.{append_assoc, append-nil}
use Rattle.eng_value.specs.declared.authorizing.Action.{Action}
use Rattle.eng_value.specs.declared.authorizing.Verdict.{Verdict}
use Rattle.eng_value.specs.declared.authorizing.Verdict.TheVariants.{Allow, Deny, Ignore}
use Rattle.sql_meaning.specs.Permits.{Denies, Ignores, denied_from, ignored_of, permit_by}
use Rattle.bind_asked.specs.Said.{said_behind}

module _ (says : Action → Verdict) (count : ℕ) (ignored : List Action) where
  pub said-none : said_behind says count ignored [] ≡ Ignores ignored
  said-none = ap Ignores (append-nil ignored)

  pub said-denied : (a : Action) (actions : List Action) → says a ≡ Deny → said_behind says count ignored (a ∷ actions) ≡ Denies (suc count)
  said-denied a actions is = rw is refl

  pub said-allowed : (a : Action) (actions : List Action) → says a ≡ Allow → said_behind says count ignored (a ∷ actions) ≡ said_behind says (suc count) ignored actions
  said-allowed a actions is = rw is refl

  pub said-ignored : (a : Action) (actions : List Action) → says a ≡ Ignore → said_behind says count ignored (a ∷ actions) ≡ said_behind says (suc count) (ignored ++ a ∷ []) actions
  said-ignored a actions is = rw is (ap (permit_by (denied_from says (suc (suc count)) actions)) (sym (append_assoc ignored (a ∷ []) (ignored_of says actions))))
