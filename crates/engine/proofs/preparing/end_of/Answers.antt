use Rattle.std.proofs.Common.{sym, rules}
use Rattle.engine.proofs.Bodies.{end_of_last}
use Rattle.engine.proofs.preparing.end_of.Goals as goal

pub returns-in-Some : goal.returns-in-Some
returns-in-Some c = sym (end_of_last c.args.tokens.now c.in-Some.token.now (search rules))
