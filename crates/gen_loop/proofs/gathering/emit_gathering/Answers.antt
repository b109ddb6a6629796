use Rattle.std.proofs.Common.{◌≤◌, sym, ap, ◌∙◌, subst}
use Rattle.gen_loop.proofs.Gathered.{end_y, gathered-nest}
use Rattle.vm_code.specs.Draft.{Draft, taken}
use Rattle.gen_loop.proofs.gathering.emit_gathering.Goals as goal

pub bind-requires : goal.bind-requires
bind-requires g c =
    let a = c.args.b.now in
    let p = c.args.plan.now in
    let F = g.B.LoopBody.effect c.args.body.now in
    let most = g.B.LoopBody.cost c.args.body.now in
    let lo = g.B.LoopBody.own c.args.body.now in
    let e2 = c.in_ok-causes.ensures.1 ∙ ap taken c.in_ok-end.ensures.1 in
    let end_is = c.in_ok-end.ensures.0 in
    let causes_is = c.in_ok-causes.ensures.0 ∙ ap (λ (d : Draft). d.next) c.in_ok-end.ensures.1 in
    let sifts = rw (c.in_ok-op.ensures, e2, causes_is, end_is, c.as_slice.ensures) at c.in_ok-emit_conjuncts.ensures.sifts in
    let wide = rw (c.in_ok-op.ensures, e2) at c.in_ok-emit_conjuncts.ensures.cursors in
    let nests = rw (causes_is, c.as_slice-2.ensures) at c.in_ok-emit_nest.ensures.nests in
    rw end_is (end_y a c.emit_conjuncts.new.b c.emit_nest.new.b p lo F most c.in_ok-emit_nest.ensures.keeps c.requires.owned sifts wide nests)

pub returns-clause-nests : goal.returns-clause-nests
returns-clause-nests g c =
    let a = c.args.b.now in
    let p = c.args.plan.now in
    let F = g.B.LoopBody.effect c.args.body.now in
    let most = g.B.LoopBody.cost c.args.body.now in
    let lo = g.B.LoopBody.own c.args.body.now in
    let e2 = c.in_ok-causes.ensures.1 ∙ ap taken c.in_ok-end.ensures.1 in
    let end_is = c.in_ok-end.ensures.0 in
    let causes_is = c.in_ok-causes.ensures.0 ∙ ap (λ (d : Draft). d.next) c.in_ok-end.ensures.1 in
    let sifts = rw (c.in_ok-op.ensures, e2, causes_is, end_is, c.as_slice.ensures) at c.in_ok-emit_conjuncts.ensures.sifts in
    let wide = rw (c.in_ok-op.ensures, e2) at c.in_ok-emit_conjuncts.ensures.cursors in
    let nests = rw (causes_is, c.as_slice-2.ensures) at c.in_ok-emit_nest.ensures.nests in
    rw (c.release.ensures, c.in_ok-bind.ensures, end_is, causes_is) (gathered-nest a c.emit_conjuncts.new.b c.emit_nest.new.b p lo F most c.in_ok-emit_nest.ensures.keeps c.requires.owned sifts wide nests)

pub emit_nest-requires-clause-owned : goal.emit_nest-requires-clause-owned
emit_nest-requires-clause-owned g c =
    let causes_is = c.in_ok-causes.ensures.0 ∙ ap (λ (d : Draft). d.next) c.in_ok-end.ensures.1 in
    subst (λ n. g.B.LoopBody.own c.args.body.now ≤ n) (sym causes_is) c.requires.owned

pub returns-clause-units : goal.returns-clause-units
returns-clause-units g c =
    let units : Draft → _ = λ d. d.units in
    ap units c.release.ensures
    ∙ ap units c.in_ok-bind.ensures
    ∙ c.in_ok-emit_nest.ensures.units
    ∙ c.in_ok-emit_conjuncts.ensures.units
    ∙ ap units c.in_ok-op.ensures
    ∙ ap units (c.in_ok-causes.ensures.1 ∙ ap taken c.in_ok-end.ensures.1)

pub returns-clause-cursors : goal.returns-clause-cursors
returns-clause-cursors g c =
    let cursors : Draft → _ = λ d. d.cursors in
    ap cursors c.release.ensures
    ∙ ap cursors c.in_ok-bind.ensures
    ∙ c.in_ok-emit_nest.ensures.cursors
    ∙ c.in_ok-emit_conjuncts.ensures.cursors
    ∙ ap cursors c.in_ok-op.ensures
    ∙ ap cursors (c.in_ok-causes.ensures.1 ∙ ap taken c.in_ok-end.ensures.1)
