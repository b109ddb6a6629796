use Rattle.std.proofs.Common.{◌≡◌, length}
use Rattle.eng_text.specs.Search.{IsLed, IsShort, accepts, finds, steps_left}
use Rattle.eng_text.proofs.search.matches.Given as goal

abbrev pub invariant-loop-next : goal.invariant-loop-next
invariant-loop-next l = record {
  same : finds l.search ≡ accepts l.fn.syntax l.pattern l.text;
  led : IsLed l.search;
  short : IsShort (length l.pattern) l.search;
}

abbrev pub decreases-loop-next : goal.decreases-loop-next
decreases-loop-next l = steps_left (length l.pattern) l.search
