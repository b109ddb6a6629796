-- What plain data of hosts tells.
use Rattle.std.specs.Prelude.{nat_eq, ◌&&◌, position}
use Rattle.std.specs.List.{find, list_any}
use Rattle.std.specs.Option.{option_map}
use Rattle.eng_entry.specs.Names.{is_same_name}
use Rattle.sql_bound.specs.Scopes.{Facts}
use Rattle.sql_bound.specs.declared.facts.HostAggregate.{HostAggregate}
use Rattle.sql_bound.specs.declared.facts.HostFacts.{HostFacts}
use Rattle.sql_bound.specs.declared.facts.HostFunction.{HostFunction}
use Rattle.sql_bound.specs.declared.facts.HostModule.{HostModule}
use Rattle.sql_bound.specs.declared.facts.ToldColumns.{ToldColumns}

-- of several of one name the first counts; a collation is told by its place
abbrev pub facts_of : HostFacts → Facts
facts_of h = record {
  scalar = λ name. option_map (λ (f : HostFunction). (f.arity, f.asks)) (find (λ (f : HostFunction). is_same_name f.name name) h.functions);
  aggregate = λ name. option_map (λ (f : HostAggregate). f.arity) (find (λ (f : HostAggregate). is_same_name f.name name) h.aggregates);
  collation = λ name. position (λ c. is_same_name c name) h.collations;
  host_module = λ name. option_map (λ (m : HostModule). (m.eponymous, m.writable)) (find (λ (m : HostModule). is_same_name m.name name) h.modules);
  columns = λ name table. option_map (λ (t : ToldColumns). t.columns) (find (λ (t : ToldColumns). is_same_name t.module name && nat_eq t.table table) h.told);
  savepoint = λ name. list_any (λ s. is_same_name s name) h.savepoints;
  recursive_triggers = h.recursive_triggers;
  rowids = h.rowids;
}
