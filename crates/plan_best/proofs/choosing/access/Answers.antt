use Rattle.std.proofs.Common.{◌≡◌, ℕ, sym, subst, arith}
use Rattle.std.specs.declared.option.Option.{Option}
use Rattle.plan_best.specs.Drafts.{BestOf, Serves}
use Rattle.plan_best.specs.declared.drafting.Draft.{Draft}
use Rattle.plan_tree.specs.Visits.{AccessFits}
use Rattle.plan_best.proofs.choosing.access.Goals as goal

pub returns-in-Some : goal.returns-in-Some
returns-in-Some g c =
    let params = c.args.params.now in
    let indexes = c.args.indexes.now in
    let cs = c.args.conjuncts.now in
    let first : c.args.item ≡ 0 = grind (arith, c.if-item-eq0.true) in
    let serves : Serves params 0 indexes cs c.in-Some.draft = subst (λ (o : Option Draft). BestOf params indexes cs cs o) c.in-Some.is c.in_ok-draft.ensures in
    record {
      fits = subst (λ (i : ℕ). AccessFits params i indexes cs c.of_draft.result) (sym first) (c.of_draft.ensures params 0 indexes cs serves);
    }
