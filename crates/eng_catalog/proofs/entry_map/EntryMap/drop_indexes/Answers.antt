use Rattle.std.proofs.Common.{remove, sym, ap, subst, ◌∙◌}
use Rattle.std.specs.Map.{values_of}
use Rattle.eng_entry.specs.Entries.{entries_not_on, is_index_on}
use Rattle.eng_catalog.specs.Keyed.{AreKeyed}
use Rattle.eng_catalog.proofs.KeyLaws.{keyed_removed, values-removed}
use Rattle.eng_catalog.proofs.Lists.{filter_not-none, filter_not-place}
use Rattle.eng_catalog.proofs.entry_map.EntryMap.drop_indexes.Goals as goal

pub invariant_of-self : goal.invariant_of-self
invariant_of-self c =
    subst AreKeyed (sym c.shift_remove_index.ensures.entries) (keyed_removed c.self.inside.entries.entries c.self.invariant c.in-Some.place)

pub loop-place-preserved-in-Some : goal.loop-place-preserved-in-Some
loop-place-preserved-in-Some c =
    let table = c.args.table.now in
    let place = c.in-Some.place in
    let left = ap values_of c.shift_remove_index.ensures.entries ∙ values-removed c.self.inside.entries.entries c.self.invariant place ∙ ap (λ l. remove l place) c.self.view_is in
    ap (entries_not_on table) left ∙ filter_not-place (is_index_on table) c.loop-place.self place (sym c.index_place.ensures ∙ c.in-Some.is) ∙ c.loop-place.invariant

pub returns : goal.returns
returns c =
    let table = c.args.table.now in
    sym (filter_not-none (is_index_on table) c.loop-place.self (sym c.index_place.ensures ∙ c.in_default.is)) ∙ c.loop-place.invariant
