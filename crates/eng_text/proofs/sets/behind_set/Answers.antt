use Rattle.eng_text.proofs.SetLaws.{Takes-from_set, takes-others, takes-own}
use Rattle.eng_text.proofs.sets.behind_set.Goals as goal

pub returns-then-first-eq94-clause-takes : goal.returns-then-first-eq94-clause-takes
returns-then-first-eq94-clause-takes c =
    Takes-from_set _ _ _ (rw (c.behind_opening.ensures.value, c.in-Some.ensures.0) (takes-others c.args.c _ _ c.if-first-eq94.true))

pub returns-else-first-eq94-clause-takes : goal.returns-else-first-eq94-clause-takes
returns-else-first-eq94-clause-takes c =
    Takes-from_set _ _ _ (rw (c.behind_opening-else-first-eq94.ensures.value, c.in-Some.ensures.0) (takes-own c.args.c _ _ c.if-first-eq94.false))
