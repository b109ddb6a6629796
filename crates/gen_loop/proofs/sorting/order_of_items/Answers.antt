use Rattle.std.proofs.Common.{[], ◌∷◌, ◌++◌, sym, ap, ◌∙◌, arith}
use Rattle.std.proofs.lemmas.List.FromFn.{map-range_with_len_more}
use Rattle.gen_loop.specs.Sorting.{position_term}
use Rattle.gen_loop.proofs.sorting.order_of_items.Goals as goal

pub loop-place-preserved : goal.loop-place-preserved
loop-place-preserved c =
    let place = c.loop-place.place in
    c.in_ok-push.ensures.ok
    ∙ ap (λ terms. terms ++ position_term place ∷ []) c.loop-place.invariant
    ∙ sym (map-range_with_len_more position_term 0 place place (omega arith))
