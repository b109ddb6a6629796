use Rattle.std.proofs.Common.{◌≡◌, ◌+◌, ◌++◌, [], ◌∷◌, false, drop, get_or, append-nil, sym, ap, subst, ◌∙◌}
use Rattle.std.proofs.Math.ListN.{drop_of_length-le}
use Rattle.plan_join.proofs.Consumed.{left_out, kept_more, tested-drop}
use Rattle.plan_join.proofs.testing.tested.Goals as goal
use Rattle.plan_join.proofs.testing.tested.Goals.{then-not-is_consumed+in_ok-push, else-not-is_consumed}
use Rattle.plan_tree.specs.Visits.{tested}

pub loop-place-preserved : goal.loop-place-preserved
loop-place-preserved c =
    let i = c.loop-place.place in
    let one = c.index-conjuncts-place.result in
    let consumed = c.args.consumed.now in
    let all = c.args.conjuncts.now in
    let rest = tested (drop (i + 1) consumed) (drop (i + 1) all) in
    let next = tested-drop consumed all i one c.loop-place-test.true c.index-conjuncts-place.is in
    elim c.if-not-is_consumed.branch [
      | then-not-is_consumed+in_ok-push w ↦ subst (λ l. l ++ rest ≡ tested consumed all) (sym (w.all-is ∙ w.in_ok-push.ensures.ok ∙ ap (λ x. c.loop-place.all ++ x ∷ []) w.copied.ensures)) (kept_more c.loop-place.all _ _ rest (tested consumed all) (get_or consumed i false) c.loop-place.invariant next (sym c.is_consumed.ensures ∙ w.if-not-is_consumed.true))
      | else-not-is_consumed w ↦ subst (λ l. l ++ rest ≡ tested consumed all) (sym w.all-is) (left_out c.loop-place.all one _ rest (tested consumed all) (get_or consumed i false) c.loop-place.invariant next (sym c.is_consumed.ensures ∙ w.if-not-is_consumed.false))
    ]

pub returns : goal.returns
returns c =
    let i = c.loop-place.place in
    let none = ap (tested (drop i c.args.consumed.now)) (drop_of_length-le c.args.conjuncts.now c.loop-place-test.false) in
    sym (append-nil c.loop-place.all) ∙ ap (λ l. c.loop-place.all ++ l) (sym none) ∙ c.loop-place.invariant
