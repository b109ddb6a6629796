use Rattle.std.proofs.Common.{◌≡◌, position, ap, ◌∙◌}
use Rattle.std.specs.Map.{keys_of}
use Rattle.std.specs.Str.{bytes_eq, str_to_ascii_lowercase}
use Rattle.eng_entry.specs.Entries.{is_named}
use Rattle.eng_catalog.proofs.KeyLaws.{Key, position-keys}
use Rattle.eng_catalog.proofs.entry_map.EntryMap.hashed_place.Goals as goal

pub returns : goal.returns
returns c =
    let pairs = c.self.inside.entries.entries in
    let name = c.args.name.now in
    let letters : c.make_ascii_lowercase.new.self ≡ str_to_ascii_lowercase name =
    c.make_ascii_lowercase.ensures.after ∙ ap str_to_ascii_lowercase c.copy_from_slice.ensures.after in
    c.get_index_of.ensures.index ∙ ap (λ l. position (λ (k : Key). bytes_eq l k.items) (keys_of pairs)) letters
    ∙ position-keys pairs c.self.invariant name ∙ ap (position (is_named name)) c.self.view_is
