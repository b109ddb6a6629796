use Rattle.std.proofs.Common.{◌≡◌, ◌++◌, drop, map}
use Rattle.sql_bound.specs.Creates.{argument_text}
use Rattle.bind_command.proofs.creating.argument_texts.Given as goal

abbrev pub invariant-loop-argument : goal.invariant-loop-argument
invariant-loop-argument l = l.texts ++ map (argument_text l.text) (drop l.argument-index l.arguments) ≡ map (argument_text l.text) l.arguments
