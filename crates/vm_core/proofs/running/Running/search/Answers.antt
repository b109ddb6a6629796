use Rattle.std.proofs.Common.{◌≡◌, [], Some, None, ap, sym, ◌∙◌}
use Rattle.eng_index.specs.Keys.{found}
use Rattle.vm_code.specs.Machine.{cursor_at, jump, range_in, rows_of, searched, searched_to, world_of}
use Rattle.vm_core.specs.Cursors.{table_of}
use Rattle.vm_core.specs.Paused.{Progress, state_at}
use Rattle.vm_core.proofs.SearchLaws.{searched_at, searched_none}
use Rattle.vm_core.proofs.Steps.{acts_as}
use Rattle.vm_core.proofs.running.Running.search.Goals as goal

pub returns-in-None-clause-leads : goal.returns-in-None-clause-leads
returns-in-None-clause-leads c e =
    let old = c.args.self.now in
    let w = c.args.tables.now.world in
    let s = state_at old w [] in
    let is : None ≡ table_of (cursor_at old.scene.cursors c.args.cursor) =
    c.in-None.ensures ∙ ap (λ cs. table_of (cursor_at cs c.args.cursor)) (c.deref.ensures.value ∙ ap (λ (p : Progress). p.scene.cursors) c.self.view_is) in
    acts_as c.go_to.result e old w c.go_to.new.self w (λ x. jump x c.args.target) (λ x. searched (cursor_at x.scene.cursors c.args.cursor) x c.args.cursor c.args.target c.args.terms.now (range_in x.regs c.args.first c.args.bounds))
    (sym (searched_none s c.args.cursor c.args.target (cursor_at old.scene.cursors c.args.cursor) is c.args.terms.now (range_in old.regs c.args.first c.args.bounds)))
    (c.go_to.ensures e w)

pub returns-in_ok-range-in-Some-clause-leads : goal.returns-in_ok-range-in-Some-clause-leads
returns-in_ok-range-in-Some-clause-leads c e =
    let old = c.args.self.now in
    let w = c.args.tables.now.world in
    let s = state_at old w [] in
    let table = c.in-Some.table in
    let range = c.in_ok-range-in-Some.range in
    let is : Some table ≡ table_of (cursor_at old.scene.cursors c.args.cursor) =
    c.in-Some.ensures ∙ ap (λ cs. table_of (cursor_at cs c.args.cursor)) (c.deref.ensures.value ∙ ap (λ (p : Progress). p.scene.cursors) c.self.view_is) in
    let bounded : range ≡ range_in old.regs c.args.first c.args.bounds = c.in_ok-range-in-Some.ensures ∙ ap (λ (p : Progress). range_in p.regs c.args.first c.args.bounds) c.self.view_is in
    acts_as c.search_table.result e old w c.search_table.new.self c.search_table.new.tables.world (λ x. searched_to x c.args.cursor c.args.target table (found c.args.terms.now range (rows_of (world_of x.shared) table))) (λ x. searched (cursor_at x.scene.cursors c.args.cursor) x c.args.cursor c.args.target c.args.terms.now (range_in x.regs c.args.first c.args.bounds))
    (ap (λ r. searched_to s c.args.cursor c.args.target table (found c.args.terms.now r (rows_of w table))) bounded ∙ sym (searched_at s c.args.cursor c.args.target (cursor_at old.scene.cursors c.args.cursor) table is c.args.terms.now (range_in old.regs c.args.first c.args.bounds)))
    (c.search_table.ensures.leads e)
