use Rattle.bind_with.proofs.NamingLaws.{recursive-answer}
use Rattle.bind_with.proofs.naming.recursive_core.Goals as goal

pub returns-clause-ok : goal.returns-clause-ok
returns-clause-ok c = recursive-answer c.args.text.now c.args.called.now c.args.tables.now c.args.others.now c.core_in.result c.core_in.ensures.ok
