use Rattle.std.proofs.Common.{◌≡◌, map, take}
use Rattle.sql_words.specs.Spelled.{name_at}
use Rattle.bind_with.proofs.names.names_of.Given as goal

abbrev pub invariant-loop-token : goal.invariant-loop-token
invariant-loop-token l = l.names ≡ map (name_at l.text) (take l.token-index l.tokens)
