-- The rows of what is written, where no expression and no query is left to be bound.
use Rattle.std.specs.Prelude.{ℕ, List, [], Ok}
use Rattle.sql_bound.specs.Froms.{columns_told, module_source}
use Rattle.sql_bound.specs.Refusals.{Checked}
use Rattle.sql_bound.specs.Scopes.{Facts}
use Rattle.sql_bound.specs.declared.froms.Sourced.{Sourced}
use Rattle.sql_words.specs.Refusals.{◌>>=◌}

-- a table of a module without arguments
abbrev pub module_given : Facts → List ℕ → List ℕ → ℕ → Checked Sourced
module_given facts shown name table = columns_told facts name table >>= λ cs. Ok (module_source shown name table cs [])
