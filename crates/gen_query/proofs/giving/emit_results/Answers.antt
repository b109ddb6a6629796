use Rattle.std.proofs.Common.{◌≡◌, ◌+◌, [], ◌∷◌, ◌++◌, length, sum_by, take, sym, ap, ◌∙◌, subst, arith, rules}
use Rattle.std.proofs.lemmas.List.{take_all, take_more}
use Rattle.gen_expr.specs.Steps.{steps_of}
use Rattle.gen_expr.specs.Needs.{needs_of}
use Rattle.gen_query.specs.Queries.{results_read}
use Rattle.gen_loop.proofs.Keys.{fills_last}
use Rattle.gen_query.proofs.Gathering.{values_in}
use Rattle.sql_meaning.specs.Expression.{value_of}
use Rattle.vm_code.specs.Draft.{Draft}
use Rattle.vm_code.specs.Frames.{Fills, needing}
use Rattle.vm_code.proofs.Fills.{fills_none}
use Rattle.gen_query.proofs.giving.emit_results.Goals as goal

pub loop-result-init : goal.loop-result-init
loop-result-init c = record { fills = fills_none (needing []) c.args.b.now c.requires.counted; cursors = search rules; units = search rules }

pub loop-result-preserved : goal.loop-result-preserved
loop-result-preserved c =
    let i = c.loop-result.result-index in
    let all = c.args.results.now in
    let one = c.result-item.result in
    let more : take (i + 1) all ≡ take i all ++ one ∷ [] = take_more all i one c.loop-result-test.true ∙ ap (λ x. take i all ++ x ∷ []) (sym c.result-item.is) in
    let leaves = rw c.in_ok-to.ensures.1 at c.in_ok-emit.ensures.leaves in
    record {
      fills = subst (λ l. Fills (needing (results_read l)) c.args.b.now c.emit.new.b (length l) (λ env. values_in l env) (λ env. sum_by steps_of l)) (sym more) (fills_last value_of steps_of needs_of (take i all) one c.in_ok-to.to c.in_ok-to.ensures.0 c.loop-result.invariant.fills leaves);
      cursors = c.in_ok-emit.ensures.cursors ∙ ap (λ (d : Draft). d.cursors) c.in_ok-to.ensures.1 ∙ c.loop-result.invariant.cursors;
      units = c.in_ok-emit.ensures.units ∙ ap (λ (d : Draft). d.units) c.in_ok-to.ensures.1 ∙ c.loop-result.invariant.units;
    }

pub returns-clause-fills : goal.returns-clause-fills
returns-clause-fills c =
    let all = c.args.results.now in
    let whole : take c.loop-result.result-index all ≡ all = take_all c.loop-result.result-index all (omega arith) in
    subst (λ l. Fills (needing (results_read l)) c.args.b.now c.loop-result.b (length l) (λ env. values_in l env) (λ env. sum_by steps_of l)) whole c.loop-result.invariant.fills
