use Rattle.std.proofs.Common.{remove, slice_get, sym, ap, subst, ◌∙◌}
use Rattle.std.specs.Map.{values_of}
use Rattle.eng_entry.specs.Entries.{HaveDistinctNames}
use Rattle.eng_catalog.specs.Keyed.{AreKeyed}
use Rattle.eng_catalog.proofs.KeyLaws.{distinct_names, entry_at, find_named, keyed_removed, none_named, not_named, values-removed}
use Rattle.eng_catalog.proofs.Lists.{at_place, without_place}
use Rattle.eng_catalog.proofs.entry_map.EntryMap.drop_name.Goals as goal

pub invariant_of-self : goal.invariant_of-self
invariant_of-self c =
    subst AreKeyed (sym c.shift_remove_index.ensures.entries) (keyed_removed c.self.inside.entries.entries c.self.invariant c.in-Some.place)

pub returns-in-Some-shift_remove_index-clause-entry : goal.returns-in-Some-shift_remove_index-clause-entry
returns-in-Some-shift_remove_index-clause-entry c =
    let entries = c.args.self.now in
    let place = c.in-Some.place in
    let taken = c.in-Some-shift_remove_index in
    entry_at c.self.inside.entries.entries c.self.invariant place taken.field-0-0 taken.entry taken.ensures.entry
    ∙ ap (λ l. slice_get l place) c.self.view_is
    ∙ sym (find_named c.args.name.now entries ∙ ap (at_place entries) (sym c.place.ensures ∙ c.in-Some.is))

pub returns-in-Some-shift_remove_index-clause-rest : goal.returns-in-Some-shift_remove_index-clause-rest
returns-in-Some-shift_remove_index-clause-rest c =
    let entries = c.args.self.now in
    let pairs = c.self.inside.entries.entries in
    let place = c.in-Some.place in
    let distinct : HaveDistinctNames entries = subst HaveDistinctNames c.self.view_is (distinct_names pairs c.self.invariant c.len-len.ensures.unique) in
    ap values_of c.shift_remove_index.ensures.entries ∙ values-removed pairs c.self.invariant place ∙ ap (λ l. remove l place) c.self.view_is
    ∙ sym (not_named c.args.name.now entries distinct ∙ ap (without_place entries) (sym c.place.ensures ∙ c.in-Some.is))

pub returns-clause-entry : goal.returns-clause-entry
returns-clause-entry c =
    let entries = c.args.self.now in
    sym (find_named c.args.name.now entries ∙ ap (at_place entries) (sym c.place.ensures ∙ c.in-None.is))

pub returns-clause-rest : goal.returns-clause-rest
returns-clause-rest c =
    let entries = c.args.self.now in
    let none = find_named c.args.name.now entries ∙ ap (at_place entries) (sym c.place.ensures ∙ c.in-None.is) in
    sym (none_named c.args.name.now entries none)
