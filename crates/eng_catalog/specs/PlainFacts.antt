-- What plain lists of names tell.
use Rattle.std.specs.List.{list_any}
use Rattle.std.specs.Option.{option_map}
use Rattle.eng_entry.specs.Names.{is_same_name}
use Rattle.eng_value.specs.HostMeanings.{named}
use Rattle.eng_catalog.specs.NameFacts.{NameFacts}
use Rattle.eng_catalog.specs.declared.plain_names.PlainModule.{PlainModule}
use Rattle.eng_catalog.specs.declared.plain_names.PlainNames.{PlainNames}

abbrev pub plain_facts : PlainNames → NameFacts
plain_facts n = record {
  scalar_of = λ name. named name n.scalars.items;
  aggregate_of = λ name. named name n.aggregates.items;
  is_collation = λ name. list_any (λ c. is_same_name c name) n.collations.items;
  module_of = λ name. option_map (λ (m : PlainModule). (m.eponymous, m.writable)) (named name n.modules.items);
  columns_of = λ name table. option_map (λ (m : PlainModule). m.columns.items) (named name n.modules.items);
  is_savepoint = λ name. list_any (λ s. is_same_name s name) n.savepoints.items;
  recursive_triggers = n.recursive_triggers;
}
