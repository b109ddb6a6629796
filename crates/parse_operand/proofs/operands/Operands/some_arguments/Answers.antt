use Rattle.std.proofs.Common.{arith}
use Rattle.sql_grammar.specs.Grammar.{some_arguments}
use Rattle.parse_operand.proofs.operands.Operands.some_arguments.Goals as goal

pub returns-in_err-expect : goal.returns-in_err-expect
unfolding some_arguments
returns-in_err-expect g c = grind arith

pub returns-then-sees : goal.returns-then-sees
unfolding some_arguments
returns-then-sees g c = grind arith

pub returns-in_err-expect-2 : goal.returns-in_err-expect-2
unfolding some_arguments
returns-in_err-expect-2 g c = grind arith

pub returns-in_err-exprs : goal.returns-in_err-exprs
unfolding some_arguments
returns-in_err-exprs g c = grind arith

pub returns-then-sees-2 : goal.returns-then-sees-2
unfolding some_arguments
returns-then-sees-2 g c = grind arith

pub returns-in_err-exprs-2 : goal.returns-in_err-exprs-2
unfolding some_arguments
returns-in_err-exprs-2 g c = grind arith

pub returns : goal.returns
unfolding some_arguments
returns g c = grind arith

pub exprs-requires : goal.exprs-requires
exprs-requires g c = record { exprs = c.requires.exprs; «open» = c.requires.«open» }

pub exprs-requires-2 : goal.exprs-requires-2
exprs-requires-2 g c = record { exprs = c.requires.exprs; «open» = c.requires.«open» }
