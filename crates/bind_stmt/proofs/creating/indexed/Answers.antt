use Rattle.std.proofs.Common.{◌≡◌, true, refl, sym, ap, ◌∙◌}
use Rattle.sql_meaning.specs.Running.{are_own, found_table, if_built, index_entry_with, index_on, terms_of}
use Rattle.sql_meaning.specs.Declarations.{table_called}
use Rattle.sql_words.specs.Refusals.{◌>>=◌}
use Rattle.sql_meaning.specs.Runnables.{Indexes, NewIndex}
use Rattle.sql_meaning.specs.declared.column.TableEntry.{TableEntry}
use Rattle.bind_stmt.proofs.creating.indexed.Goals as goal

pub returns : goal.returns
returns c =
    let w = c.in_ok-table.ensures in
    let t : TableEntry = w.0 in
    let b = c.args.creation.now in
    let meant = found_table (table_called c.args.tables.now b.owner) in
    let own : are_own b.parts ≡ true = sym (c.are_own.ensures ∙ ap are_own c.as_slice-parts.ensures) ∙ c.if-not-are_own.false in
    let index : NewIndex = record { entry = index_entry_with t c.args.text.now b.name c.args.statement.now; table = t; terms = terms_of t.rowid b.parts; unique = b.unique } in (
      Indexes index,
      ap (λ k. if_built k (meant >>= index_on c.args.text.now c.args.statement.now b)) own ∙ ap (λ r. r >>= index_on c.args.text.now c.args.statement.now b) (ap (λ n. found_table (table_called c.args.tables.now n)) (sym c.as_bytes.ensures) ∙ w.1),
      record {
        name = c.in_ok-clone.ensures.cases;
        table_name = c.in_ok-clone-2.ensures.cases ∙ ap (λ (u : TableEntry). u.name) w.2;
        table = ap (λ (u : TableEntry). u.number) w.2;
        terms = c.in_ok-terms_of.ensures ∙ ap (λ (u : TableEntry). terms_of u.rowid c.as_slice-parts.result.now) w.2 ∙ ap (terms_of t.rowid) c.as_slice-parts.ensures;
        unique = refl;
      },
    )
