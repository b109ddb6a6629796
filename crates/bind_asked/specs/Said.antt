-- What was said to a list of actions.
use Rattle.std.specs.Prelude.{ℕ, suc, ◌++◌, List}
use Rattle.eng_value.specs.declared.authorizing.Action.{Action}
use Rattle.eng_value.specs.declared.authorizing.Verdict.{Verdict}
use Rattle.sql_meaning.specs.Permits.{Denies, Ignores, Permit, denied_from, ignored_of, permit_by}
use Rattle.bind_asked.specs.declared.asking.Said.{Said}
use Rattle.bind_asked.specs.declared.asking.Said.TheVariants.{Denied, Ignored}

abbrev pub permit : Said → Permit
permit (Denied action) = Denies action
permit (Ignored actions) = Ignores actions

-- what is said to these actions, behind so many that were not denied, of which these are ignored
abbrev pub said_behind : (Action → Verdict) → ℕ → List Action → List Action → Permit
said_behind says count ignored actions = permit_by (denied_from says (suc count) actions) (ignored ++ ignored_of says actions)
