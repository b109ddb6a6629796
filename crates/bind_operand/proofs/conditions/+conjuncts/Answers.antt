use Rattle.std.proofs.Common.{◌≡◌, Err, rules}
use Rattle.bound_tree.specs.Halves.{halves_of}
use Rattle.bind_operand.proofs.Splits.{conjuncts-whole}
use Rattle.bind_operand.proofs.conditions.+conjuncts.Goals as goal

pub returns-in-Err-clause-ok : goal.returns-in-Err-clause-ok
returns-in-Err-clause-ok t c =
    let whole : halves_of c.args.tree ≡ Err c.in-Err.tree = search rules in
    rw (conjuncts-whole c.args.condition.now c.in-Binary.op c.in-Binary.a c.in-Binary.b c.args.tree c.in-Err.tree c.in-Binary.is c.in-And.is whole) c.push_one.ensures.ok
