-- UPDATE OF, where columns are named.
use Rattle.std.proofs.Common.{◌≡◌, ◌≤◌, ℕ, List, [], ◌∷◌, None, Result, length, subst, arith}
use Rattle.bind_command.specs.Tops.{top_of}
use Rattle.bind_create.specs.Steps.{columns_there}
use Rattle.bind_query.specs.Scopes.{in_text, outer_of}
use Rattle.bind_query.specs.Where.{Where}
use Rattle.eng_entry.specs.Entries.{Entries}
use Rattle.eng_value.specs.declared.cause.Cause.{Cause}
use Rattle.sql_bound.specs.Answers.{Answers}
use Rattle.sql_bound.specs.Creates.{event_fits}
use Rattle.sql_bound.specs.Scopes.{in_statement}
use Rattle.sql_bound.specs.declared.facts.HostFacts.{HostFacts}

pub fits-some : (catalog : Entries) (facts : HostFacts) (text table : List ℕ) (names : List (List ℕ)) (w : Where) (r : Result (Unit {0}) Cause)
    → 1 ≤ length names → w ≡ in_text text None catalog facts in_statement → Answers (columns_there (outer_of w [] []) table names) r
    → Answers (event_fits (top_of catalog facts text) table names) r
fits-some catalog facts text table [] w r some is h = absurd (omega arith)
fits-some catalog facts text table (n ∷ ns) w r some is h = subst (λ (v : Where). Answers (columns_there (outer_of v [] []) table (n ∷ ns)) r) is h
