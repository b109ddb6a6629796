use Rattle.std.proofs.Common.{◌≡◌, ◌∷◌, suc, sym, subst, arith}
use Rattle.std.proofs.lemmas.Grind.{common_steps}
use Rattle.sql_bound.specs.Answers.{Answers}
use Rattle.sql_bound.specs.Creates.{part_is_there}
use Rattle.sql_bound.specs.HostFacts.{facts_of}
use Rattle.sql_bound.specs.Limits.{walked}
use Rattle.sql_words.specs.Refusals.{◌>>=◌}
use Rattle.bind_command.proofs.indexes.+walking.Goals as goal

pub part_within-returns : goal.part_within-returns
part_within-returns t c =
    let one = part_is_there (facts_of c.args.facts.now) c.args.text.now c.args.columns.now in
    let room : c.args.room ≡ suc c.in-Some.left = grind (arith, common_steps) in
    subst (λ n. Answers (walked one n (c.args.part.now ∷ c.args.rest.now) tt) c.parts_within.result) (sym room)
    (subst (λ r. Answers (r >>= λ u. walked one c.in-Some.left c.args.rest.now u) c.parts_within.result) (sym c.in_ok-part_is_there.ensures) c.parts_within.ensures)
