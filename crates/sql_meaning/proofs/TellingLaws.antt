-- Where there is no host, none is named that does not tell; and each text names the authorizer.
use Rattle.std.proofs.Common.{ℕ, List, [], ◌∷◌, All}
use Rattle.std.proofs.lemmas.List.Elements.{All-cons, All-nil}
use Rattle.eng_value.specs.HostMeanings.{Aggregate, CollationAt, HostName, IsTold, Module, NamesTold, Scalar, Tells, no_hosts}
use Rattle.eng_value.specs.declared.value.Value.{Value}
use Rattle.sql_meaning.specs.Named.{TextIsTold, named_by}
use Rattle.sql_meaning.specs.Statement.{bound_for}
use Rattle.sql_meaning.specs.World.{Context, State, context}

tells : (name : HostName) → Tells no_hosts name
tells (Scalar name) = tt
tells (Aggregate name) = tt
tells (CollationAt place) = tt
tells (Module name) = tt

all_tell : (names : List HostName) → All (Tells no_hosts) names
all_tell [] = All-nil (Tells no_hosts)
all_tell (name ∷ names) = All-cons (Tells no_hosts) name names (tells name) (all_tell names)

pub without_hosts : (names : List HostName) → NamesTold no_hosts names
without_hosts names = record { each = all_tell names; authorizer = tt }

pub text_is_told : (state : State) (params : List Value) (text : List ℕ) → TextIsTold (context no_hosts state params) text
unfolding TextIsTold
text_is_told state params text = without_hosts (named_by (bound_for (context no_hosts state params) text))

pub authorizer_told : (ctx : Context) (text : List ℕ) → TextIsTold ctx text → IsTold ctx.hosts.authorizer
unfolding TextIsTold
authorizer_told ctx text told = told.authorizer
