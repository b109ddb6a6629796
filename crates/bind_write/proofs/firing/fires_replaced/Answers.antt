use Rattle.std.proofs.Common.{ap, ◌∙◌, ◌≡◌, Bool, IfOk, List, ℕ, subst}
use Rattle.bind_query.specs.Scopes.{around_of}
use Rattle.bind_query.specs.Where.{Where}
use Rattle.bind_target.specs.Meant.{begun_meant}
use Rattle.bind_write.proofs.StepLaws.{replaced-not, replaced-so}
use Rattle.sql_bound.specs.Targets.{can_fire}
use Rattle.sql_bound.specs.Writes.{deleting, replaces_with}
use Rattle.bind_write.proofs.firing.fires_replaced.Goals as goal

pub returns-then-not-replaces_with-clause-ok : goal.returns-then-not-replaces_with-clause-ok
returns-then-not-replaces_with-clause-ok c =
    replaced-not c.replaces_with.result (replaces_with (around_of c.args.scope.now) (begun_meant c.args.begun.now)) (can_fire c.args.begun.now.target.name c.args.begun.now.target.source deleting c.args.entry.now) (c.replaces_with.ensures c.scope.inside.catalog.now ∙ ap (λ (w : Where). replaces_with (around_of w) (begun_meant c.args.begun.now)) c.scope.view_is)
    c.if-not-replaces_with.true

pub returns-clause-ok : goal.returns-clause-ok
returns-clause-ok c =
    replaced-so c.replaces_with.result (replaces_with (around_of c.args.scope.now) (begun_meant c.args.begun.now)) (can_fire c.args.begun.now.target.name c.args.begun.now.target.source deleting c.args.entry.now) (c.replaces_with.ensures c.scope.inside.catalog.now ∙ ap (λ (w : Where). replaces_with (around_of w) (begun_meant c.args.begun.now)) c.scope.view_is)
    c.if-not-replaces_with.false c.can_fire.result
    (subst (λ (name : List ℕ). IfOk c.can_fire.result (λ (b : Bool). b ≡ can_fire name c.args.begun.now.target.source deleting c.args.entry.now)) c.as_str.ensures c.can_fire.ensures.ok)
