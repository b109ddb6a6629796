-- A function value that parses what a rule derives, behind an opening token.
use Rattle.std.specs.Prelude.{ℕ, ◌-◌, ◌<◌, Result}
use Rattle.std.specs.declared.alloc.Global.{Global}
use denote.Ref.{MutBor}
use Rattle.sql_grammar.specs.Rules.{reads}
use Rattle.sql_grammar.specs.Grammar.{Name, Of}
use Rattle.sql_grammar.specs.Bodies.{rules}
use Rattle.parse_cursor.specs.declared.cursor.Cursor.{Cursor}
use Rattle.parse_cursor.specs.declared.error.ParseError.{ParseError}
use Rattle.parse_cursor.specs.Gives.{Gives}

pub record Nests {A : Type 0} (rule : Of A) (depth : ℕ) (pre : Global → MutBor Cursor → ℕ → Type 0)
    (post : Global → MutBor Cursor → ℕ → Result A ParseError → MutBor Cursor → Type 0) : Type 0 where
  pub callable : (alloc : Global) (old : MutBor Cursor) → 0 < depth → pre alloc old (depth - 1)
  pub gives : (alloc : Global) (old new : MutBor Cursor) (r : Result A ParseError) → post alloc old (depth - 1) r new
      → Gives (reads Name rules (depth - 1) rule old.now.counts old.now.rest.now) r new.now.counts new.now.rest.now
