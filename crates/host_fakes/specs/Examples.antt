-- What tables of verdicts say.
use Rattle.std.specs.Prelude.{◌≡◌, refl, List, [], ◌∷◌, ℕ, Some, None}
use Rattle.eng_value.specs.declared.authorizing.Action.{Action}
use Rattle.eng_value.specs.declared.authorizing.ActionKind.{ActionKind}
use Rattle.eng_value.specs.declared.authorizing.ActionKind.TheVariants.{Read, Update}
use Rattle.eng_value.specs.declared.authorizing.Verdict.{Verdict}
use Rattle.eng_value.specs.declared.authorizing.Verdict.TheVariants.{Allow, Deny, Ignore}
use Rattle.host_fakes.specs.declared.tables.VerdictRow.{VerdictRow}
use Rattle.host_fakes.specs.Tables.{verdict_by}

-- a, b and t, as bytes
abbrev a : List ℕ
a = 97 ∷ []

abbrev b : List ℕ
b = 98 ∷ []

abbrev t : List ℕ
t = 116 ∷ []

abbrev action_on : ActionKind → List ℕ → List ℕ → Action
action_on kind first second = record { kind = kind; first = first; second = second; within = None }

abbrev row_of : ActionKind → List ℕ → List ℕ → Verdict → VerdictRow
row_of kind first second verdict = record { kind = kind; first = first; second = second; verdict = verdict }

abbrev rows : List VerdictRow
rows = row_of Update t b Deny ∷ row_of Read t b Ignore ∷ row_of Read t b Deny ∷ []

the_column_that_is_written : verdict_by rows (action_on Update t b) ≡ Deny
the_column_that_is_written = refl

another_column_is_written : verdict_by rows (action_on Update t a) ≡ Allow
another_column_is_written = refl

the_first_row_says_it : verdict_by rows (action_on Read t b) ≡ Ignore
the_first_row_says_it = refl

wherever_it_stands : verdict_by rows (record (action_on Read t b) { within = Some a }) ≡ Ignore
wherever_it_stands = refl

no_row_says_it : verdict_by [] (action_on Update t b) ≡ Allow
no_row_says_it = refl
