-- The space in which a thing has its name.
use Rattle.eng_entry.specs.declared.entry.EntryKind.{EntryKind}
use Rattle.eng_entry.specs.declared.entry.EntryKind.TheVariants as kind
use Rattle.eng_entry.specs.declared.entry.Space.{Space}
use Rattle.eng_entry.specs.declared.entry.Space.TheVariants as space

abbrev pub space_of : EntryKind → Space
space_of kind.Table = space.Names
space_of kind.Module = space.Names
space_of kind.Index = space.Names
space_of kind.View = space.Names
space_of kind.Trigger = space.Triggers
