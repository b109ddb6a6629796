use Rattle.std.proofs.Common.{◌∙◌, arith}
use Rattle.eng_text.proofs.SearchLaws.{finds-one, finds-short, led-one, nearer-one, short_less, single_is}
use Rattle.eng_text.proofs.search.Search.take.Goals as goal

pub returns-in-None : goal.returns-in-None
returns-in-None c =
    let one = single_is c.args.self.syntax c.args.single in
    record {
      finds_same = finds-short _ _ _ _ c.requires.led one.0 one.1 (c.requires.single.0 ∙ one.2) c.in-None.ensures;
      led = tt;
      nearer = λ bound short. tt;
    }

pub returns-in-Some-behind : goal.returns-in-Some-behind
returns-in-Some-behind c =
    let takes = c.in-Some-behind.ensures.takes in
    let is = c.requires.single.0 ∙ takes.is in
    record {
      finds_same = rw (← takes.fits.1) (finds-one _ _ _ _ c.requires.led takes.test takes.rest _ _ is c.in-Some.ensures.0 takes.fits.0);
      led = rw (← takes.fits.1) (led-one _ _ _ _ c.requires.led takes.test takes.rest _ _ is c.in-Some.ensures.0);
      nearer = λ bound short. (
        (omega (arith, c.in-Some-behind.ensures.shorter, c.requires.single.1, short.0), short_less bound c.args.self.run _ _ (omega (arith, c.in-Some.ensures.1)) short.1),
        nearer-one bound c.args.self.run _ _ _ _ (omega (arith, c.in-Some.ensures.1)) (omega (arith, c.in-Some-behind.ensures.shorter, c.requires.single.1)),
      );
    }
