use Rattle.std.proofs.Common.{◌≡◌, ◌++◌, length}
use Rattle.sql_words.specs.Spelled.{undoubled}
use Rattle.bind_name.proofs.quotes.undoubled.Given as goal

abbrev pub invariant-loop-rest : goal.invariant-loop-rest
invariant-loop-rest l = l.made.items ++ undoubled l.quote l.rest ≡ undoubled l.quote l.bytes

abbrev pub decreases-loop-rest : goal.decreases-loop-rest
decreases-loop-rest l = length l.rest
