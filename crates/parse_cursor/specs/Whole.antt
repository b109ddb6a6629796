-- What parsing a text gives for the answer that its tokens have (sql_grammar: Answers).
use Rattle.std.specs.Prelude.{◌≡◌, ℕ, Result, Ok, Err}
use Rattle.sql_grammar.specs.Answers.{Answer, Tree, Syntax, TooMuch, place}
use Rattle.parse_cursor.specs.declared.texts.Failure.{Failure}
use Rattle.parse_cursor.specs.declared.texts.Failure.TheVariants.{Memory}
use Rattle.parse_cursor.specs.declared.texts.Failure.TheVariants as failure
use Rattle.parse_cursor.specs.declared.error.ParseError.{ParseError}
use Rattle.parse_cursor.specs.declared.error.ParseError.TheVariants as error

-- the answer for a text of so many bytes, unless memory ran out
abbrev pub Shows : {A : Type 0} → ℕ → Answer A → Result A Failure → Type 0
Shows len x (Err Memory) = Unit {0}
Shows len (Tree tree) (Ok found) = found ≡ tree
Shows len (Syntax rest) (Err (failure.Syntax at)) = at ≡ place len rest
Shows len (TooMuch l rest) (Err (failure.TooMuch k at)) = (k ≡ l) × (at ≡ place len rest)
Shows len x r = ⊥

-- the failure at a place
abbrev pub failure_of : ParseError → ℕ → Failure
failure_of error.Memory at = Memory
failure_of error.Syntax at = failure.Syntax at
failure_of (error.TooMuch l) at = failure.TooMuch l at
