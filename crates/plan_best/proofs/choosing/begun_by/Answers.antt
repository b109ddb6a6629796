use Rattle.std.proofs.Common.{◌≡◌, true, Some, ap, arith}
use Rattle.std.proofs.lemmas.Result.{IfOk-weaker}
use Rattle.plan_best.proofs.Choices.{begun_columns}
use Rattle.std.specs.List.{list_any}
use Rattle.std.specs.Prelude.{slice_get}
use Rattle.std.specs.declared.option.Option.{Option}
use Rattle.bound_tree.specs.Exprs.{BoundExpr}
use Rattle.plan_best.specs.Comparing.{is_begun, is_equal_search, is_searchable}
use Rattle.plan_best.specs.Drafts.{BestUnless}
use Rattle.plan_best.specs.declared.drafting.Draft.{Draft}
use Rattle.sql_meaning.specs.Searches.{is_search}
use Rattle.plan_best.proofs.choosing.begun_by.Goals as goal

pub returns-in_ok-better-in-Rowid : goal.returns-in_ok-better-in-Rowid
returns-in_ok-better-in-Rowid g c = λ e at.
    c.in_ok-better-in-Rowid.ensures c.args.params.now 0 c.args.indexes.now c.args.conjuncts.now c.requires.best (c.in_ok-draft-in-Rowid.ensures c.args.indexes.now (ap (is_searchable c.args.indexes.now c.in-Some.comparison.collation) c.in-Rowid.is))

pub returns-in-Column : goal.returns-in-Column
returns-in-Column g c =
    let params = c.args.params.now in
    let indexes = c.args.indexes.now in
    let cs = c.args.conjuncts.now in
    let comparison = c.in-Some.comparison in
    let equal : is_equal_search comparison ≡ true = grind (arith, c.is_equal_search.ensures, c.if-not-is_equal_search.false) in
    IfOk-weaker c.begun_on_any.result (λ (now : Option Draft). BestUnless params indexes cs (list_any (is_begun comparison) indexes) c.args.best now) (λ (now : Option Draft). (e : BoundExpr) → slice_get cs c.args.place ≡ Some e → BestUnless params indexes cs (is_search indexes params e) c.args.best now) (λ now unless. begun_columns params indexes cs c.index-conjuncts-place.result c.args.place c.index-conjuncts-place.is comparison c.in-Some.ensures equal c.in-Column.field-0 c.in-Column.is c.args.best now unless) c.begun_on_any.ensures
