-- Where an expression or a query stands, as plain data.
use Rattle.std.specs.Prelude.{ℕ, List, Option}
use Rattle.eng_entry.specs.Entries.{Entries}
use Rattle.sql_tree.specs.declared.query.ResultColumn.{ResultColumn}
use Rattle.sql_bound.specs.declared.facts.HostFacts.{HostFacts}
use Rattle.sql_bound.specs.declared.scopes.Allowed.{Allowed}
use Rattle.sql_bound.specs.declared.scopes.Standing.{Standing}

-- the text; the view or trigger whose text it is; what binding goes by; how deep queries may stand in one another; what may stand there, and whether aggregates may; and the results whose names count
pub record Where : Type 0 where
  pub text : List ℕ
  pub within : Option (List ℕ)
  pub catalog : Entries
  pub facts : HostFacts
  pub depth : ℕ
  pub allowed : Allowed
  pub standing : Standing
  pub results : List ResultColumn
