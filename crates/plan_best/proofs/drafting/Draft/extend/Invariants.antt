use Rattle.std.proofs.Common.{◌≡◌}
use Rattle.plan_best.specs.Drafts.{IsNext, KeepsServing, MayGoOn}
use Rattle.plan_best.specs.declared.comparing.Wanted.TheVariants as wanted
use Rattle.plan_best.proofs.drafting.Draft.extend.Given as goal

abbrev pub invariant-loop-i : goal.invariant-loop-i
invariant-loop-i l = record {
  serves : KeepsServing l.params l.item l.conjuncts l.fn.self l.self;
  goes_on : MayGoOn l.params l.item l.conjuncts l.self;
  terms : l.self.search.terms ≡ l.initial.self.search.terms;
  equal : l.self.search.bounds.equal ≡ l.i;
  next : IsNext wanted.Equal l.self.search.bounds;
}
