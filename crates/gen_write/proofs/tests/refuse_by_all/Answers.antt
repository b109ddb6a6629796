use Rattle.std.proofs.Common.{◌≡◌, [], ◌∷◌, take, ◌∙◌, subst, arith, rules}
use Rattle.std.proofs.lemmas.List.{take_all}
use Rattle.gen_write.specs.Stretches.{Checks}
use Rattle.gen_write.proofs.Checking.{checks_next, checks_none, checks_wider}
use Rattle.gen_expr.proofs.Covering.{covers_item}
use Rattle.gen_expr.specs.Needs.{needs_of}
use Rattle.gen_write.specs.Writes.{needs_of_each}
use Rattle.vm_code.specs.Frames.{needing}
use Rattle.gen_write.proofs.tests.refuse_by_all.Goals as goal

pub loop-check-init : goal.loop-check-init
loop-check-init c = record { checks = checks_none (needing (needs_of_each c.args.checks.now)) c.args.b.now c.args.table.now; cursors = search rules; units = search rules }

pub refuse_by_check-requires : goal.refuse_by_check-requires
refuse_by_check-requires c = omega (arith, c.requires, c.loop-check.invariant.checks.next, c.loop-check.invariant.checks.grows.most)

pub loop-check-preserved : goal.loop-check-preserved
loop-check-preserved c =
    let one = c.check-item.result in
    let all = c.args.checks.now in
    let widened = checks_wider (needs_of_each all) (covers_item needs_of all c.loop-check.check-index one c.loop-check-test.true c.check-item.is) c.in_ok-refuse_by_check.ensures.checks in
    let check = subst (λ x. Checks (needing (needs_of_each all)) c.loop-check.b c.refuse_by_check.new.b c.args.table.now (x ∷ [])) c.check-item.is widened in
    record {
      checks = checks_next c.args.table.now c.args.checks.now c.loop-check.check-index one c.loop-check-test.true c.loop-check.invariant.checks check;
      cursors = c.in_ok-refuse_by_check.ensures.cursors ∙ c.loop-check.invariant.cursors;
      units = c.in_ok-refuse_by_check.ensures.units ∙ c.loop-check.invariant.units;
    }

pub returns-clause-checks : goal.returns-clause-checks
returns-clause-checks c =
    let all = c.args.checks.now in
    let whole : take c.loop-check.check-index all ≡ all = take_all c.loop-check.check-index all (omega arith) in
    subst (Checks (needing (needs_of_each all)) c.args.b.now c.loop-check.b c.args.table.now) whole c.loop-check.invariant.checks
