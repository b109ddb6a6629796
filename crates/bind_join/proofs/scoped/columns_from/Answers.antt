use Rattle.std.proofs.Common.{◌≡◌, ℕ, [], ◌∷◌, get_or, slice_get, Some, None, sym, ap, ◌∙◌, arith}
use Rattle.std.proofs.lemmas.Grind.{common_steps}
use Rattle.bound_tree.specs.declared.units.BoundColumn.{BoundColumn}
use Rattle.sql_bound.specs.Froms.{columns_from}
use Rattle.bind_join.proofs.ScopedLaws.{columns-end, columns-step, not-there}
use Rattle.bind_join.proofs.scoped.columns_from.Goals as goal

pub loop-column-preserved : goal.loop-column-preserved
loop-column-preserved c =
    let item = c.args.item in
    let columns = c.args.columns.now in
    let hidden = c.args.hidden.now in
    let i = c.loop-column.column-index in
    let place = c.loop-column.place in
    let x = c.column-item.result in
    let h = c.in-Some.is_hidden.now in
    let one = c.in_ok-one.one in
    let here : slice_get hidden i ≡ Some h = grind (arith, common_steps) in
    let made : columns_from item i (get_or columns i x ∷ []) (h ∷ []) ≡ one ∷ [] =
    ap (λ (n : ℕ). columns_from item n (get_or columns i x ∷ []) (h ∷ [])) (sym c.loop-column.invariant.0)
    ∙ ap (λ (y : BoundColumn). columns_from item place (y ∷ []) (h ∷ [])) (sym c.column-item.is)
    ∙ c.in_ok-one.ensures.ok in (
      grind (arith, common_steps),
      c.loop-column.invariant.1 ∙ columns-step item c.loop-column.found c.put.new.items columns hidden i x h one c.loop-column-test.true here made c.in_ok-put.ensures.ok,
    )

pub returns-in_default-clause-ok : goal.returns-in_default-clause-ok
returns-in_default-clause-ok c =
    let hidden = c.args.hidden.now in
    let i = c.loop-column.column-index in
    let none : slice_get hidden i ≡ None = not-there c.at.result (slice_get hidden i) c.in_default.not-Some (c.at.ensures ∙ ap (slice_get hidden) c.loop-column.invariant.0) in
    sym (c.loop-column.invariant.1 ∙ columns-end c.args.item c.loop-column.found c.args.columns.now hidden i none)
