use Rattle.std.proofs.Common.{◌+◌, sym, arith}
use Rattle.bound_tree.specs.Exprs as e
use Rattle.bound_tree.specs.Seen.{seen}
use Rattle.eng_value.specs.Collations.{keys_of}
use Rattle.eng_value.specs.Truths.{truth_of}
use Rattle.eng_value.specs.declared.operators.BinaryOperator.TheVariants as binary
use Rattle.gen_expr.proofs.Truths.{comparison_truth}
use Rattle.gen_expr.specs.Steps.{steps_of}
use Rattle.sql_meaning.specs.Expression.{value_of}
use Rattle.vm_code.proofs.Values.{leaves_same}
use Rattle.gen_loop.proofs.sifting.emit_test.Goals as goal

pub returns-in_ok-emit_truth-in-Whole-clause-leaves : goal.returns-in_ok-emit_truth-in-Whole-clause-leaves
returns-in_ok-emit_truth-in-Whole-clause-leaves c =
    rw (← c.form.ensures, c.in-Whole.is) c.in_ok-emit_truth-in-Whole.ensures.leaves

pub returns-in_ok-emit_comparison-in-Comparison-clause-leaves : goal.returns-in_ok-emit_comparison-in-Comparison-clause-leaves
returns-in_ok-emit_comparison-in-Comparison-clause-leaves c =
    let sides = c.in-Comparison.sides in
    let left = seen c.in-Comparison.left.now in
    let right = seen c.in-Comparison.right.now in
    let whole = e.Binary (binary.Compare c.in-Comparison.op sides) left right in
    rw (← c.form.ensures, c.in-Comparison.is) (leaves_same (λ env. truth_of (value_of whole env)) (λ env. steps_of whole + 1) (λ env. sym (comparison_truth (keys_of env.hosts) c.in-Comparison.op sides (value_of left env) (value_of right env))) (λ env. omega arith) c.in_ok-emit_comparison-in-Comparison.ensures.leaves)
