use Rattle.std.proofs.Common.{ap, arith}
use Rattle.eng_entry.specs.Spaces.{space_of}
use Rattle.engine.proofs.Schemas.{tables_beside, triggers_with}
use Rattle.engine.proofs.schema.Schema.add_index.Goals as goal

pub invariant_of-self : goal.invariant_of-self
invariant_of-self c =
    let with = tables_beside c.self.inside.tables.items c.self.inside.catalog c.args.entry c.self.invariant.0 c.requires.kind c.requires.undeclared in
    let none = triggers_with c.self.inside.catalog c.args.entry (ap space_of c.requires.kind) c.self.invariant.1 in
    (grind (arith, with), grind (arith, none))
