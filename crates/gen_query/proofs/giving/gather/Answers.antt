use Rattle.std.proofs.Common.{◌≡◌, ◌+◌, ◌-◌, sym, ap, ◌∙◌, subst, arith}
use Rattle.gen_query.specs.Stretches.{Gathers}
use Rattle.gen_query.proofs.Gathering.{gathers_next}
use Rattle.vm_code.specs.Draft.{Draft}
use Rattle.gen_query.proofs.giving.gather.Goals as goal

pub loop-from-preserved : goal.loop-from-preserved
loop-from-preserved c =
    record {
      gathers = subst (λ d. Gathers c.args.b.now d c.args.first (c.loop-from.from + 1 - c.args.first) c.args.causes) (sym c.in_ok-op.ensures) (gathers_next c.args.b.now c.loop-from.b c.args.first c.loop-from.from c.args.causes c.requires.apart c.loop-from.auto.from (omega arith) c.requires.counted c.loop-from.invariant.gathers);
      cursors = ap (λ (d : Draft). d.cursors) c.in_ok-op.ensures ∙ c.loop-from.invariant.cursors;
      units = ap (λ (d : Draft). d.units) c.in_ok-op.ensures ∙ c.loop-from.invariant.units;
    }

pub returns-clause-gathers : goal.returns-clause-gathers
returns-clause-gathers c =
    let is : c.loop-from.from - c.args.first ≡ c.args.end - c.args.first = omega (arith, c.loop-from.auto.from, c.loop-from.auto.from-end, c.loop-from-test.false) in
    subst (λ n. Gathers c.args.b.now c.loop-from.b c.args.first n c.args.causes) is c.loop-from.invariant.gathers
