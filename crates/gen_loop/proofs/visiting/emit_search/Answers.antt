use Rattle.std.proofs.Common.{ap, ◌∙◌, arith}
use Rattle.vm_code.specs.Draft.{Draft, released, with_op}
use Rattle.vm_code.specs.declared.op.Op.TheVariants as op
use Rattle.gen_loop.proofs.visiting.emit_search.Goals as goal

pub release-requires : goal.release-requires
release-requires c =
    omega (arith, c.next_register-first.ensures, c.in_ok-emit_keys.ensures.fills.next, ap (λ (d : Draft). d.next) c.in_ok-op.ensures)

pub returns : goal.returns
returns c =
    let s = c.args.search.now in
    let keyed = c.emit_keys.new.b in
    let first = c.next_register-first.result in
    record {
      keyed = keyed;
      fills = rw c.as_slice.ensures at c.in_ok-emit_keys.ensures.fills;
      cursors = c.in_ok-emit_keys.ensures.cursors;
      units = c.in_ok-emit_keys.ensures.units;
      is = c.release.ensures
          ∙ ap (λ d. released d first) c.in_ok-op.ensures
          ∙ ap (λ terms. released (with_op keyed (op.Search c.args.cursor terms s.bounds first c.args.end)) first) (c.in_ok-terms.ensures ∙ c.as_slice-2.ensures)
          ∙ ap (λ n. released (with_op keyed (op.Search c.args.cursor s.terms s.bounds n c.args.end)) n) c.next_register-first.ensures;
    }
