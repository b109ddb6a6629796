use Rattle.std.proofs.Common.{Ok, sym, subst}
use Rattle.sql_meaning.specs.Statement.{plain_bound}
use Rattle.sql_tree.specs.Sizes.{size_of_statement}
use Rattle.engine.specs.Prepared.{Readies}
use Rattle.engine.specs.declared.preparing.NewIndexEntry.{NewIndexEntry}
use Rattle.engine.specs.declared.preparing.Ready.TheVariants as ready
use Rattle.engine.proofs.NewEntries.{index-readies}
use Rattle.engine.proofs.preparing.indexed.Goals as goal

pub returns : goal.returns
returns c number entries asked binds =
    let size = size_of_statement c.args.statement in
    let meant = plain_bound asked entries number c.args.body.now c.args.statement in
    subst (λ (n : NewIndexEntry). Readies size meant (Ok (ready.CreateIndex n))) (sym c.in_ok-new.ensures)
    (index-readies size asked entries number c.args.body.now c.args.statement c.args.new c.in_ok-entry.entry binds c.in_ok-entry.ensures.entry c.in_ok-entry.ensures.index)
