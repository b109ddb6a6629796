use Rattle.std.proofs.Common.{◌≡◌, ◌+◌, Some, refl, sym, add-one}
use Rattle.std.specs.Prelude.{slice_get}
use Rattle.std.proofs.lemmas.Option.{slice_get_read, slice_get_past}
use Rattle.eng_tree.proofs.Places.{is_there, is_free_behind}
use Rattle.eng_tree.proofs.search.search_behind.Goals as goal

pub returns-in-Equal : goal.returns-in-Equal
returns-in-Equal c =
    let h = c.in-Some.ensures.lookup in
    is_there c.args.key.now c.args.entries.now (c.args.lower + 1) c.in-Some.entry.now c.requires.order (slice_get_read _ _ _ _ refl h.3.0 h.1) (sym c.in-Equal.ensures)

pub returns-in-Greater : goal.returns-in-Greater
returns-in-Greater c =
    let h = c.in-Some.ensures.lookup in
    let e : slice_get c.args.entries.now (c.args.lower + 1) ≡ Some c.in-Some.entry.now = slice_get_read _ _ _ _ refl h.3.0 h.1 in
    rw add-one (is_free_behind c.args.key.now c.args.entries.now c.args.lower c.requires.order c.requires.lower (rw (rw add-one at e) (sym c.in-Greater.ensures)))

pub returns-in-None : goal.returns-in-None
returns-in-None c =
    let h = c.in-None.ensures.lookup in
    let e = slice_get_past c.args.entries.now (c.args.lower + 1) h.3 in
    rw add-one (is_free_behind c.args.key.now c.args.entries.now c.args.lower c.requires.order c.requires.lower (rw (rw add-one at e) tt))
