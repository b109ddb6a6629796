use Rattle.std.proofs.Common.{sym, ◌∙◌}
use Rattle.eng_scalar.proofs.CalledLaws.{function_of-bad}
use Rattle.eng_scalar.proofs.applying.function.Goals as goal

pub returns-in-Ok-Some-clause-out : goal.returns-in-Ok-Some-clause-out
returns-in-Ok-Some-clause-out c = function_of-bad c.args.f c.args.collation c.args.args.now c.in-Ok-Some.causes (sym c.in-Ok-Some.ensures ∙ c.in-Ok-Some.field-0-is)
