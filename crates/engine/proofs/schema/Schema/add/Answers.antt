use Rattle.std.proofs.Common.{ap, arith}
use Rattle.eng_entry.specs.Spaces.{space_of}
use Rattle.engine.proofs.Schemas.{tables_with, triggers_with}
use Rattle.engine.proofs.schema.Schema.add.Goals as goal

pub invariant_of-self-in-Ok : goal.invariant_of-self-in-Ok
invariant_of-self-in-Ok c =
    let with = tables_with c.self.inside.tables.items c.self.inside.catalog c.args.entry c.args.table c.self.invariant.0 c.requires.kind c.requires.declared in
    let none = triggers_with c.self.inside.catalog c.args.entry (ap space_of c.requires.kind) c.self.invariant.1 in
    (grind (arith, with), grind (arith, none))
