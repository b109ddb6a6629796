use Rattle.std.proofs.Common.{◌+◌, ◌<◌, ◌||◌, length, drop, sym, ap, ◌∙◌, arith}
use Rattle.eng_index.specs.Doubles.{has_neighbours}
use Rattle.eng_index.proofs.Doubled.{neighbours_from}
use Rattle.eng_index.proofs.doubles.has_neighbours.Goals as goal

pub returns-then-doubles_at : goal.returns-then-doubles_at
returns-then-doubles_at c =
    let pairs = c.args.tree.now.pairs in
    let at = c.loop-place.place in
    let lt : at < length pairs = omega (arith, c.len-place-end.ensures.len, c.loop-place-test.true) in
    sym (c.loop-place.invariant ∙ neighbours_from pairs at lt ∙ ap (λ b. b || has_neighbours (drop (at + 1) pairs)) (sym c.doubles_at.ensures ∙ c.if-doubles_at.true))

pub loop-place-preserved : goal.loop-place-preserved
loop-place-preserved c =
    let pairs = c.args.tree.now.pairs in
    let at = c.loop-place.place in
    let lt : at < length pairs = omega (arith, c.len-place-end.ensures.len, c.loop-place-test.true) in
    c.loop-place.invariant
    ∙ neighbours_from pairs at lt
    ∙ ap (λ b. b || has_neighbours (drop (at + 1) pairs)) (sym c.doubles_at.ensures ∙ c.if-doubles_at.false)
