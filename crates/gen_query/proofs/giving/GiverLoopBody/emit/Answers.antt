use Rattle.std.proofs.Common.{◌≡◌, length, ap, ◌∙◌}
use Rattle.gen_query.proofs.Shown.{given-does, given-keeps, shows-cursors, shows-units}
use Rattle.vm_code.specs.Draft.{Draft}
use Rattle.vm_code.specs.declared.op.Op.TheVariants as op
use Rattle.gen_query.proofs.giving.GiverLoopBody.emit.Goals as goal

pub returns-clause-does : goal.returns-clause-does
returns-clause-does c =
    let next_is : c.in_ok-next.next ≡ length c.args.b.now.labels = c.in_ok-next.ensures.0 in
    let mine_is : c.in_ok-mine.mine ≡ c.args.b.now.next = c.in_ok-mine.ensures.0 ∙ ap (λ (d : Draft). d.next) c.in_ok-next.ensures.1 in
    let shows = rw (c.in_ok-op.ensures, c.in_ok-mine.ensures.1, c.in_ok-next.ensures.1, mine_is, next_is) at c.in_ok-emit_shown.ensures in
    rw (c.release.ensures, mine_is) (given-does c.args.b.now c.emit_shown.new.b c.args.self.now.results.now c.requires.counted c.args.causes c.requires.taken shows)

pub returns-clause-keeps : goal.returns-clause-keeps
returns-clause-keeps c = given-keeps c.args.self.now.results.now

pub returns-clause-cursors : goal.returns-clause-cursors
returns-clause-cursors c =
    let next_is : c.in_ok-next.next ≡ length c.args.b.now.labels = c.in_ok-next.ensures.0 in
    let mine_is : c.in_ok-mine.mine ≡ c.args.b.now.next = c.in_ok-mine.ensures.0 ∙ ap (λ (d : Draft). d.next) c.in_ok-next.ensures.1 in
    let shows = rw (c.in_ok-op.ensures, c.in_ok-mine.ensures.1, c.in_ok-next.ensures.1, mine_is, next_is) at c.in_ok-emit_shown.ensures in
    ap (λ (d : Draft). d.cursors) c.release.ensures ∙ shows-cursors c.args.b.now c.emit_shown.new.b c.args.self.now.results.now c.requires.counted (op.Copy c.args.causes c.args.b.now.next) shows

pub returns-clause-units : goal.returns-clause-units
returns-clause-units c =
    let next_is : c.in_ok-next.next ≡ length c.args.b.now.labels = c.in_ok-next.ensures.0 in
    let mine_is : c.in_ok-mine.mine ≡ c.args.b.now.next = c.in_ok-mine.ensures.0 ∙ ap (λ (d : Draft). d.next) c.in_ok-next.ensures.1 in
    let shows = rw (c.in_ok-op.ensures, c.in_ok-mine.ensures.1, c.in_ok-next.ensures.1, mine_is, next_is) at c.in_ok-emit_shown.ensures in
    ap (λ (d : Draft). d.units) c.release.ensures ∙ shows-units c.args.b.now c.emit_shown.new.b c.args.self.now.results.now c.requires.counted (op.Copy c.args.causes c.args.b.now.next) shows
