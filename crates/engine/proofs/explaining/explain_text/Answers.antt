use Rattle.std.proofs.Common.{length, refl, sym, ◌≡◌, Ok, Err, ap, ◌∙◌}
use Rattle.sql_lex.specs.Tokens.{tokens_of}
use Rattle.sql_meaning.specs.Permits.{asked_as}
use Rattle.vm_core.specs.Meant.{meant}
use Rattle.engine.proofs.Explanations.{explains}
use Rattle.engine.proofs.explaining.explain_text.Goals as goal

pub returns-in-Ok-clause-shows : goal.returns-in-Ok-clause-shows
returns-in-Ok-clause-shows g c =
    let db = c.args.database.now in
    let text = c.args.text.now in
    let hosts = meant (λ b. (goal.Authorizer-dyn g (b.vtable, b.value)).verdicts b.value) c.args.hosts.now in
    let said = c.in-Ok.ensures.readies in
    let asked = asked_as hosts.authorizer said.0 in (
      said.0,
      explains hosts db.schema db.tables.world db.changes db.last_rowid asked text c.requires.valid c.order.ensures (length (tokens_of text)) c.in-Ok.prepared c.args.how c.shown.result (said.1 db.tables.world (sym c.len-number.ensures))
          (λ lines is. rw is at c.shown.ensures.shows) (λ why is. rw is at c.shown.ensures.memory),
    )

pub returns-in-Err-clause-shows : goal.returns-in-Err-clause-shows
returns-in-Err-clause-shows g c =
    let said = c.in-Err.ensures.readies in (said.0, said.1 c.args.database.now.tables.world (sym c.len-number.ensures))
