use Rattle.std.proofs.Common.{◌≡◌, false, true, length, ◌==◌, sym, ◌∙◌, ap, subst, arith}
use Rattle.sql_shell.proofs.Running.{SoFar, ran_at_end, ran_failed, ran_going, ran_partly, empty_text, so_far_all, so_far_ended, so_far_next, so_far_part, so_far_start}
use Rattle.sql_shell.proofs.script.run_parts.Goals as goal

pub loop-rest-init : goal.loop-rest-init
loop-rest-init g c = record {
  so_far = subst (λ x. SoFar g.M.Meanings.hosts c.args.options c.args.pending_runs c.args.text.now c.args.text.now true x (g.K.Sink.written c.args.out.now) (g.K.Sink.written c.args.out.now) c.args.steps.now c.args.steps.now false)
      (sym (ap (λ x. x.state) (c.set_join_order.ensures ∙ c.new-connection.ensures))) (so_far_start g.M.Meanings.hosts c.args.options c.args.pending_runs c.args.text.now _ _);
  utf8 = c.utf8.text;
  later = omega arith;
  budget = ap (λ x. x.budget) (c.set_join_order.ensures ∙ c.new-connection.ensures);
  ticks = omega arith;
  told = c.requires.told;
}

pub is_empty-requires-text-self : goal.is_empty-requires-text-self
is_empty-requires-text-self g c κs = c.loop-rest.invariant.utf8

pub cut-front-requires : goal.cut-front-requires
cut-front-requires g c = record {
  some = λ e. let bad : false ≡ true = c.loop-rest-test.ensures ∙ ap (λ xs. length xs == 0) e in cc;
}

pub returns-in_err-fails-clause-part : goal.returns-in_err-fails-clause-part
returns-in_err-fails-clause-part g c =
    so_far_part g.M.Meanings.hosts c.args.options c.args.pending_runs c.args.text.now c.loop-rest.rest.now c.loop-rest.is_fresh c.loop-rest.connection.state _ _ _ _ _ _ _ c.loop-rest.invariant.so_far _ c.cut-front.result.is_fresh c.cut-front.result.rest.now c.cut-front.ensures.parts c.in_err-fails.ensures.part

pub returns-then-ends-clause-ran : goal.returns-then-ends-clause-ran
returns-then-ends-clause-ran g c = (
  c.run_part.new.connection.state,
  so_far_ended g.M.Meanings.hosts c.args.options c.args.pending_runs c.args.text.now c.loop-rest.rest.now c.loop-rest.is_fresh c.loop-rest.connection.state _ _ _ _ _ _ _ c.loop-rest.invariant.so_far _ c.cut-front.result.is_fresh c.cut-front.result.rest.now c.cut-front.ensures.parts c.run_part.new.connection.state
      (ran_failed g.M.Meanings.hosts c.args.options _ _ _ _ _ _ _ c.in_ok-fails.fails (sym c.ends.ensures ∙ c.if-ends.true) c.in_ok-fails.ensures.ran),
)

pub returns-then-ends-clause-part : goal.returns-then-ends-clause-part
returns-then-ends-clause-part g c =
    so_far_part g.M.Meanings.hosts c.args.options c.args.pending_runs c.args.text.now c.loop-rest.rest.now c.loop-rest.is_fresh c.loop-rest.connection.state _ _ _ _ _ _ _ c.loop-rest.invariant.so_far _ c.cut-front.result.is_fresh c.cut-front.result.rest.now c.cut-front.ensures.parts c.in_ok-fails.ensures.part

pub loop-rest-preserved : goal.loop-rest-preserved
loop-rest-preserved g c = record {
  so_far = so_far_next g.M.Meanings.hosts c.args.options c.args.pending_runs c.args.text.now c.loop-rest.rest.now c.loop-rest.is_fresh c.loop-rest.connection.state _ _ _ _ _ _ _ c.loop-rest.invariant.so_far _ c.cut-front.result.is_fresh c.cut-front.result.rest.now c.cut-front.ensures.parts c.run_part.new.connection.state c.in_ok-fails.fails _
      (ran_going g.M.Meanings.hosts c.args.options _ _ _ _ _ _ _ c.in_ok-fails.fails (sym c.ends.ensures ∙ c.if-ends.false) c.in_ok-fails.ensures.ran) c.either-failed.ensures;
  utf8 = c.cut-front.ensures.utf8;
  later = omega (arith, c.in_ok-fails.ensures.later, c.loop-rest.invariant.later);
  budget = c.in_ok-fails.ensures.budget ∙ c.loop-rest.invariant.budget;
  ticks = omega (arith, c.in_ok-fails.ensures.ticks, c.loop-rest.invariant.ticks);
  told = c.in_ok-fails.ensures.hosts;
}

pub returns-clause-ran : goal.returns-clause-ran
returns-clause-ran g c = (
  c.loop-rest.connection.state,
  ran_at_end g.M.Meanings.hosts c.args.options _ _ _ _ (g.K.Sink.written c.loop-rest.out) _ c.loop-rest.steps c.loop-rest.failed c.at_end.result c.at_end.ensures
      (so_far_all g.M.Meanings.hosts c.args.options c.args.pending_runs c.args.text.now c.loop-rest.rest.now c.loop-rest.is_fresh c.loop-rest.connection.state _ _ (g.K.Sink.written c.loop-rest.out) _ _ c.loop-rest.steps _ c.loop-rest.invariant.so_far (empty_text c.loop-rest.rest.now (sym c.loop-rest-test.ensures))),
)

pub returns-clause-part : goal.returns-clause-part
returns-clause-part g c = ran_partly g.M.Meanings.hosts c.args.options _ _ _ _ _ _ _ _ _ (returns-clause-ran g c).1
