use Rattle.std.proofs.Common.{sym, ap, ◌∙◌}
use Rattle.std.specs.Option.{option_copied}
use Rattle.bind_stmt.proofs.PlainBinds.{found-binds}
use Rattle.bind_stmt.proofs.plain_rows.plain_rows.Goals as goal

pub returns : goal.returns
returns c number =
    found-binds c.args.catalog.now c.args.tables.now number c.args.text.now c.args.statement.now c.in-Some.insert.now c.in-Some-rows_of.rows.now c.as_slice.result.now c.rows_put.result c.requires.tables
    (sym c.insert_of.ensures ∙ ap option_copied c.in-Some.is) (sym c.rows_of.ensures ∙ ap option_copied c.in-Some-rows_of.is) c.as_slice.ensures c.requires.built c.requires.untriggered c.rows_put.ensures
