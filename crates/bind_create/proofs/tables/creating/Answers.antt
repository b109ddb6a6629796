use Rattle.std.proofs.Common.{rules, ◌≡◌}
use Rattle.bind_create.proofs.TableLaws.{creating-is}
use Rattle.bind_source.specs.Arounds.{around_of}
use Rattle.sql_bound.specs.Declarations.{bound_columns, declared_table}
use Rattle.sql_bound.specs.HostFacts.{facts_of}
use Rattle.bind_create.proofs.tables.creating.Goals as goal

pub returns-clause-ok : goal.returns-clause-ok
returns-clause-ok c =
    let declared = declared_table (facts_of c.args.facts.now) c.args.text.now c.args.table.now in
    let columns : c.in_ok-columns.field-0.columns ≡ bound_columns declared.columns = search rules in
    let rowid : c.in_ok-columns.field-0.rowid ≡ declared.rowid = search rules in
    creating-is (around_of c.args.catalog.now c.args.facts.now) c.args.text.now c.args.name c.args.table.now c.in_ok-level.level c.in_ok-columns.field-0.columns c.in_ok-columns.field-0.rowid columns rowid (search rules)
