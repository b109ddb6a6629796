use Rattle.std.proofs.Common.{map}
use Rattle.sql_bound.specs.Trees.{of_result}
use Rattle.bind_result.proofs.NumberLaws.{at-place}
use Rattle.bind_result.proofs.numbering.shown_at.Goals as goal

pub returns-in-Some-clause-ok : goal.returns-in-Some-clause-ok
returns-in-Some-clause-ok c = at-place c.args.text.now c.args.own.now (map of_result c.args.results.now) c.args.place c.in-Some.place c.shown_in_place.result c.in-Some.is c.shown_in_place.ensures.ok
