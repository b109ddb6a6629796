use Rattle.std.proofs.Common.{◌≡◌, ℕ, ◌+◌, ◌-◌, ap, ◌∙◌, arith}
use Rattle.gen_loop.specs.Sorting.{at_row_found, walked}
use Rattle.gen_loop.proofs.Seeking.{end-open, found-most, found-next, top-open}
use Rattle.vm_code.specs.Draft.{Draft}
use Rattle.gen_loop.proofs.sorting.emit_walk.Goals as goal

pub bind-requires : goal.bind-requires
bind-requires g c =
    let places = c.in_ok-end.ensures in
    rw (c.in_ok-op.ensures, places.b, places.top) (top-open c.args.b.now c.args.sorter)

pub emit_seeks-requires : goal.emit_seeks-requires
emit_seeks-requires g c = omega (arith, c.in_ok-end.ensures.first, c.in_ok-end.ensures.causes)

pub emit-requires-clause-taken : goal.emit-requires-clause-taken
emit-requires-clause-taken g c =
    let places = c.in_ok-end.ensures in
    let a = c.args.b.now in
    let width = c.args.sorter in
    let span : a.next + width - a.next ≡ width = omega arith in
    let is : c.emit_seeks.new.b ≡ at_row_found a width = rw (c.in_ok-op-2.ensures, c.in_ok-bind.ensures, c.in_ok-op.ensures, c.in_ok-terms.ensures, places.b, places.top, places.end, places.first, places.causes, places.count, span) at c.in_ok-emit_seeks.ensures in
    omega (arith, places.causes, ap (λ (d : Draft). d.next) is, found-next a width)

pub emit-requires-clause-counted : goal.emit-requires-clause-counted
emit-requires-clause-counted g c =
    let places = c.in_ok-end.ensures in
    let a = c.args.b.now in
    let width = c.args.sorter in
    let span : a.next + width - a.next ≡ width = omega arith in
    let is : c.emit_seeks.new.b ≡ at_row_found a width = rw (c.in_ok-op-2.ensures, c.in_ok-bind.ensures, c.in_ok-op.ensures, c.in_ok-terms.ensures, places.b, places.top, places.end, places.first, places.causes, places.count, span) at c.in_ok-emit_seeks.ensures in
    omega (arith, ap (λ (d : Draft). d.next) is, ap (λ (d : Draft). d.most) is, found-next a width, found-most a width)

pub bind-requires-2 : goal.bind-requires-2
bind-requires-2 g c =
    let places = c.in_ok-end.ensures in
    let a = c.args.b.now in
    let width = c.args.sorter in
    let span : a.next + width - a.next ≡ width = omega arith in
    let is : c.emit_seeks.new.b ≡ at_row_found a width = rw (c.in_ok-op-2.ensures, c.in_ok-bind.ensures, c.in_ok-op.ensures, c.in_ok-terms.ensures, places.b, places.top, places.end, places.first, places.causes, places.count, span) at c.in_ok-emit_seeks.ensures in
    let does = rw is at c.in_ok-emit.ensures.does in
    rw (c.in_ok-op-3.ensures, places.end) (end-open a width c.emit.new.b does.grows)

pub release-requires : goal.release-requires
release-requires g c =
    let places = c.in_ok-end.ensures in
    let a = c.args.b.now in
    let width = c.args.sorter in
    let next : Draft → ℕ = λ d. d.next in
    let span : a.next + width - a.next ≡ width = omega arith in
    let is : c.emit_seeks.new.b ≡ at_row_found a width = rw (c.in_ok-op-2.ensures, c.in_ok-bind.ensures, c.in_ok-op.ensures, c.in_ok-terms.ensures, places.b, places.top, places.end, places.first, places.causes, places.count, span) at c.in_ok-emit_seeks.ensures in
    omega (arith, places.first, ap next c.in_ok-bind-2.ensures, ap next c.in_ok-op-3.ensures, c.in_ok-emit.ensures.does.next, ap next is, found-next a width)

pub returns : goal.returns
returns g c =
    let places = c.in_ok-end.ensures in
    let a = c.args.b.now in
    let width = c.args.sorter in
    let span : a.next + width - a.next ≡ width = omega arith in
    let is : c.emit_seeks.new.b ≡ at_row_found a width = rw (c.in_ok-op-2.ensures, c.in_ok-bind.ensures, c.in_ok-op.ensures, c.in_ok-terms.ensures, places.b, places.top, places.end, places.first, places.causes, places.count, span) at c.in_ok-emit_seeks.ensures in
    let behind : c.release.new.self ≡ walked a c.emit.new.b width = rw (c.in_ok-bind-2.ensures, c.in_ok-op-3.ensures, places.top, places.end, places.first) at c.release.ensures in
    record {
      turn = c.emit.new.b;
      does = rw (is, places.causes) at c.in_ok-emit.ensures.does;
      keeps = c.in_ok-emit.ensures.keeps;
      cursors = c.in_ok-emit.ensures.cursors ∙ ap (λ (d : Draft). d.cursors) is;
      units = c.in_ok-emit.ensures.units ∙ ap (λ (d : Draft). d.units) is;
      is = behind;
    }
