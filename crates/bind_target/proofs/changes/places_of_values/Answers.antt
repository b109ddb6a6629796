use Rattle.std.proofs.Common.{ℕ, ◌∷◌, ◌++◌, [], List, Option, Some, map, position, sym, ap, ◌∙◌, arith}
use Rattle.std.proofs.lemmas.List.FromFn.{map-range_with_len_more}
use Rattle.std.specs.List.{range_with_len}
use Rattle.sql_bound.specs.Writes.{is_place}
use Rattle.bind_target.proofs.changes.places_of_values.Goals as goal

pub loop-column-preserved : goal.loop-column-preserved
loop-column-preserved c =
    let g : ℕ → Option ℕ = λ k. position (is_place (Some k)) c.args.listed.now in
    let n = c.loop-column.column in
    c.in_ok-put.ensures.ok
    ∙ ap (λ (ps : List (Option ℕ)). ps ++ c.in_ok-place.place ∷ []) c.loop-column.invariant
    ∙ ap (λ (p : Option ℕ). map g (range_with_len 0 n) ++ p ∷ []) (c.in_ok-place.ensures.ok ∙ ap g c.in_ok-small.ensures.ok)
    ∙ sym (map-range_with_len_more g 0 n n (omega arith))
