use Rattle.std.proofs.Common.{arith}
use Rattle.std.specs.Str.{chars}
use Rattle.eng_text.specs.Heads.{parts_of, same_of}
use Rattle.eng_text.proofs.Matching.{run_from_more}
use Rattle.eng_text.proofs.SearchLaws.{finds-run, nearer-run}
use Rattle.eng_text.proofs.search.Search.step.Goals as goal

pub returns-in-Run : goal.returns-in-Run
returns-in-Run c = record {
  finds_same = finds-run _ _ _ _ c.requires _ c.in-Run.ensures.0;
  led = run_from_more (same_of c.args.self.syntax) (parts_of c.args.self.syntax (chars c.in-Run.pattern.now)) (chars c.args.self.front.text.now);
  nearer = λ bound short. (
    (omega (arith, c.in-Run.ensures.1, short.0), (omega arith, omega (arith, c.in-Run.ensures.1, short.0))),
    nearer-run bound c.args.self.run _ _ _ short.1 c.in-Run.ensures.1,
  );
}
