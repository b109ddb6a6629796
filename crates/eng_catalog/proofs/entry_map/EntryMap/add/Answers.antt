use Rattle.std.proofs.Common.{◌≡◌, ap, ◌∙◌}
use Rattle.std.specs.Str.{str_to_ascii_lowercase}
use Rattle.eng_catalog.specs.Keyed.{key_of}
use Rattle.eng_catalog.proofs.KeyLaws.{keyed_inserted, values-inserted}
use Rattle.eng_catalog.proofs.entry_map.EntryMap.add.Goals as goal

pub invariant_of-self : goal.invariant_of-self
invariant_of-self c =
    let is : c.in_ok-key.key.items ≡ key_of c.args.entry = c.in_ok-key.ensures.ok ∙ ap str_to_ascii_lowercase c.as_bytes.ensures in
    keyed_inserted c.self.inside.entries c.self.invariant c.args.self.now c.self.view_is c.args.entry c.in_ok-key.key is c.requires
    c.insert.result c.insert.new.self.entries c.insert.ensures.entries c.insert.ensures.err

pub returns-in-Ok-clause-ok : goal.returns-in-Ok-clause-ok
returns-in-Ok-clause-ok c =
    let is : c.in_ok-key.key.items ≡ key_of c.args.entry = c.in_ok-key.ensures.ok ∙ ap str_to_ascii_lowercase c.as_bytes.ensures in
    values-inserted c.self.inside.entries c.self.invariant c.args.self.now c.self.view_is c.args.entry c.in_ok-key.key is c.requires
    c.insert.new.self.entries c.in-Ok.ensures.entries
