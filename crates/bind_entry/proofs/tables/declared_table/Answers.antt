use Rattle.std.proofs.Common.{◌≡◌, ◌++◌, map, arith}
use Rattle.std.specs.List.{flat_map}
use Rattle.std.proofs.lemmas.Grind.{common_steps}
use Rattle.sql_bound.specs.Declarations.{own_keys, table_key}
use Rattle.sql_bound.specs.HostFacts.{facts_of}
use Rattle.bind_entry.specs.TableParts.{column_of}
use Rattle.bind_entry.proofs.KeyLaws.{declared-is}
use Rattle.bind_entry.proofs.tables.declared_table.Goals as goal

pub returns-clause-ok : goal.returns-clause-ok
returns-clause-ok c =
    let facts = facts_of c.args.facts.now in
    let text = c.args.text.now in
    let table = c.args.table.now in
    let columns = c.in_ok-columns.columns in
    let rowid = c.in_ok-rowid.rowid in
    let made : columns ≡ map (column_of facts text) table.columns = grind (arith, common_steps) in
    let keys : c.put_table_keys.new.keys ≡ own_keys rowid columns 0 table.columns ++ flat_map (table_key facts text rowid columns) table.constraints = grind (arith, common_steps) in
    declared-is facts text table columns rowid c.put_table_keys.new.keys made c.in_ok-rowid.ensures.ok keys
