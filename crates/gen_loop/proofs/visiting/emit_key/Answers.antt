use Rattle.std.proofs.Common.{◌≡◌, refl}
use Rattle.std.proofs.lemmas.Result.{on_ok_weaker}
use Rattle.eng_value.specs.Casts.{beside}
use Rattle.eng_value.specs.Outs.{turned}
use Rattle.eng_value.specs.declared.out.Out.TheVariants.{Good}
use Rattle.gen_expr.specs.Steps.{steps_of}
use Rattle.gen_loop.specs.Needs.{key_read}
use Rattle.plan_tree.specs.Visits.{key_expr}
use Rattle.sql_meaning.specs.Expression.{value_of}
use Rattle.vm_code.specs.Draft.{with_op}
use Rattle.vm_code.specs.Frames.{needing}
use Rattle.vm_code.specs.declared.op.Op.TheVariants as op
use Rattle.vm_code.proofs.Values.{leaves_one}
use Rattle.gen_loop.proofs.visiting.emit_key.Goals as goal

pub returns-clause-leaves : goal.returns-clause-leaves
returns-clause-leaves c =
    let k = c.args.key.now in
    on_ok_weaker {P = c.op.new.self ≡ with_op c.emit_tree.new.b (op.Beside c.args.to k.other k.own)} c.op.result (λ is. rw is (leaves_one (needing (key_read k)) c.args.b.now c.emit_tree.new.b (op.Beside c.args.to k.other k.own) c.args.to (λ env. value_of (key_expr k) env) (turned (λ v. Good (beside k.other k.own v))) (λ env. steps_of (key_expr k)) (refl, refl) c.in_ok-emit_tree.ensures.leaves c.requires.taken c.requires.counted (λ m at s. refl))) c.op.ensures
