use Rattle.std.proofs.Common.{[], ap, ◌∙◌, subst, arith, rules}
use Rattle.gen_loop.specs.Needs.{rowids_needs}
use Rattle.gen_loop.specs.Sorting.{rowids_of}
use Rattle.gen_loop.proofs.Collecting.{fills-rowid}
use Rattle.vm_code.specs.Draft.{Draft}
use Rattle.vm_code.specs.Frames.{Fills, needing}
use Rattle.vm_code.proofs.Fills.{fills_none}
use Rattle.gen_loop.proofs.sorting.emit_rowids.Goals as goal

pub loop-place-init : goal.loop-place-init
loop-place-init c = record { fills = fills_none (needing []) c.args.b.now c.requires.counted; cursors = search rules; units = search rules }

pub loop-place-preserved : goal.loop-place-preserved
loop-place-preserved c =
    let cursors : Draft → _ = λ d. d.cursors in
    let units : Draft → _ = λ d. d.units in
    record {
      fills = rw (c.in_ok-op.ensures, c.in_ok-to.ensures.1) (fills-rowid c.loop-place.place c.in_ok-to.to c.in_ok-to.ensures.0 c.loop-place.invariant.fills);
      cursors = ap cursors c.in_ok-op.ensures ∙ ap cursors c.in_ok-to.ensures.1 ∙ c.loop-place.invariant.cursors;
      units = ap units c.in_ok-op.ensures ∙ ap units c.in_ok-to.ensures.1 ∙ c.loop-place.invariant.units;
    }

pub returns-clause-fills : goal.returns-clause-fills
returns-clause-fills c =
    subst (λ n. Fills (needing (rowids_needs n)) c.args.b.now c.loop-place.b n (λ env. rowids_of n env.rows) (λ env. n)) (omega (arith, c.loop-place.auto.place-end, c.loop-place-test.false)) c.loop-place.invariant.fills
