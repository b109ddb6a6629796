-- What a statement stands in.
use Rattle.std.specs.Prelude.{ℕ, List, []}
use Rattle.eng_entry.specs.Entries.{Entries}
use Rattle.sql_bound.specs.HostFacts.{facts_of}
use Rattle.sql_bound.specs.Scopes.{Around, Outer, in_statement}
use Rattle.sql_bound.specs.Trees.{full_depth, outer_at}
use Rattle.sql_bound.specs.declared.facts.HostFacts.{HostFacts}

abbrev pub around_of : Entries → HostFacts → Around
around_of catalog facts = record { catalog = catalog; facts = facts_of facts }

-- the text of a statement over a catalog, and what hosts and the connection tell
abbrev pub top_of : Entries → HostFacts → List ℕ → Outer
top_of catalog facts text = outer_at (around_of catalog facts) (full_depth (around_of catalog facts)) text [] in_statement
