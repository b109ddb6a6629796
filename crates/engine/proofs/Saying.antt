-- What holds by what the authorizer said holds by what it tells.
use Rattle.std.proofs.Common.{ℕ, List, subst}
use Rattle.eng_value.specs.HostMeanings.{HostMeanings}
use Rattle.eng_value.specs.declared.value.Value.{Value}
use Rattle.sql_meaning.proofs.PermitLaws.{asked-told}
use Rattle.sql_meaning.proofs.TellingLaws.{authorizer_told}
use Rattle.sql_meaning.specs.Permits.{Asking}
use Rattle.sql_meaning.specs.Statement.{Outcome, outcome_where}
use Rattle.sql_meaning.specs.Work.{bound_where}
use Rattle.sql_meaning.specs.World.{Context, State, context}
use Rattle.engine.specs.Causes.{WhereSaid, WhereTold}

pub as_told : (hosts : HostMeanings) (state : State) (params : List Value) (text : List ℕ) (P : Outcome → ℕ → Type 0) → WhereSaid hosts state params text P → WhereTold hosts state params text P
as_told hosts state params text P (anything, held) told =
    let ctx : Context = context hosts state params in
    subst (λ (asked : Asking). P (outcome_where asked ctx text) (bound_where asked ctx text)) (asked-told hosts.authorizer anything (authorizer_told ctx text told)) held
