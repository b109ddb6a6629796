use Rattle.std.proofs.Common.{All, ap, not, subst, sym, ◌∙◌}
use Rattle.eng_entry.specs.Entries.{Entries, is_index_on}
use Rattle.sql_meaning.proofs.TableLaws.{LeavesNoTable, among-kept}
use Rattle.sql_meaning.specs.Declarations.{tables_of}
use Rattle.engine.proofs.schema.Schema.remove_table.Goals as goal

pub invariant_of-self : goal.invariant_of-self
invariant_of-self c =
    let table = c.args.name.now in
    let kept = among-kept (λ e. not (is_index_on table e)) c.self.inside.catalog.names (subst (λ (k : Entries). All (LeavesNoTable (λ e. not (is_index_on table e))) k.names) (sym c.self.view_is) c.requires.indexes) in
    (c.self.invariant.0 ∙ sym kept ∙ ap tables_of (sym c.drop_indexes.ensures), ap (λ (k : Entries). k.triggers) c.drop_indexes.ensures ∙ c.self.invariant.1)
