use Rattle.std.proofs.Common.{◌≡◌, ◌+◌, true, take, sym, subst}
use Rattle.std.specs.List.{list_any}
use Rattle.std.specs.declared.option.Option.{Option}
use Rattle.plan_best.proofs.Choices.{begun_at, unless_may, unless_next}
use Rattle.plan_best.specs.Comparing.{is_begun, is_searchable}
use Rattle.plan_best.specs.Drafts.{BestUnless}
use Rattle.plan_best.specs.declared.drafting.Draft.{Draft}
use Rattle.plan_best.proofs.choosing.begun_on_any.Goals as goal
use Rattle.plan_best.proofs.choosing.begun_on_any.Goals.{then-begins+in_ok-draft+in_ok-better, else-begins}

pub loop-terms-preserved : goal.loop-terms-preserved
loop-terms-preserved g c =
    let params = c.args.params.now in
    let indexes = c.args.indexes.now in
    let cs = c.args.conjuncts.now in
    let comparison = c.args.comparison.now in
    let place = c.loop-terms.terms-index in
    let any = list_any (is_begun comparison) (take (place + 1) indexes) in
    elim c.if-begins.branch [
      | then-begins+in_ok-draft+in_ok-better w ↦
          let able : is_searchable indexes comparison.collation comparison.source ≡ true = begun_at comparison indexes place c.loop-terms-test.true c.terms-item.result c.as_slice-terms.result.now c.terms-item.is c.as_slice-terms.ensures c.begins.result c.begins.ensures w.if-begins.true in
          let may = unless_may params indexes cs (list_any (is_begun comparison) (take place indexes)) c.args.best c.loop-terms.best c.loop-terms.invariant in
          subst (λ (o : Option Draft). BestUnless params indexes cs any c.args.best o) (sym w.best-is) (w.in_ok-better.ensures params 0 indexes cs may (w.in_ok-draft.ensures indexes able))
      | else-begins w ↦
          subst (λ (o : Option Draft). BestUnless params indexes cs any c.args.best o) (sym w.best-is) (unless_next params indexes cs comparison place c.loop-terms-test.true c.terms-item.result c.as_slice-terms.result.now c.terms-item.is c.as_slice-terms.ensures c.begins.result c.begins.ensures w.if-begins.false c.args.best c.loop-terms.best c.loop-terms.invariant)
    ]
