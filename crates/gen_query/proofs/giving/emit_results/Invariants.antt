use Rattle.std.proofs.Common.{◌≡◌, length, sum_by, take}
use Rattle.gen_expr.specs.Steps.{steps_of}
use Rattle.gen_query.specs.Queries.{results_read}
use Rattle.gen_query.proofs.Gathering.{values_in}
use Rattle.vm_code.specs.Frames.{Fills, needing}
use Rattle.gen_query.proofs.giving.emit_results.Given as goal

abbrev pub invariant-loop-result : goal.invariant-loop-result
invariant-loop-result l = record {
  fills : Fills (needing (results_read (take l.result-index l.results))) l.initial.b l.b (length (take l.result-index l.results)) (λ env. values_in (take l.result-index l.results) env) (λ env. sum_by steps_of (take l.result-index l.results));
  cursors : l.b.cursors ≡ l.initial.b.cursors;
  units : l.b.units ≡ l.initial.b.units;
}
