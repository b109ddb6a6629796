-- What operands read.
use Rattle.std.specs.Prelude.{List}
use Rattle.eng_value.specs.Environments.{column_of}
use Rattle.eng_value.specs.declared.out.Out.{Out}
use Rattle.eng_value.specs.declared.value.Value.{Value}
use Rattle.vm_code.specs.declared.operand.Operand.{Operand}
use Rattle.vm_code.specs.declared.operand.Operand.TheVariants as operand
use Rattle.vm_code.specs.Machine.{World, current, cursor_at, parameter_at, read}
use Rattle.vm_core.specs.Paused.{Progress}
use Rattle.vm_core.specs.declared.operands.Reading.{Reading}
use Rattle.vm_core.specs.declared.operands.Reading.TheVariants.{Lent, Own}

-- what an operand reads of what a run has come to, with these parameters and tables
abbrev pub operand_now : List Value → Progress → World → Operand → Out
operand_now params p w (operand.Register r) = read p.regs r
operand_now params p w (operand.Constant out) = out
operand_now params p w (operand.Parameter k) = parameter_at params k
operand_now params p w (operand.Argument k) = read p.inputs.args k
operand_now params p w (operand.Column c k) = column_of (current w (cursor_at p.scene.cursors c)) k
operand_now params p w (operand.Rowid c) = (current w (cursor_at p.scene.cursors c)).rowid

-- what was read, lent or copied
abbrev pub out_in : Reading → Out
out_in (Lent out) = out.now
out_in (Own out) = out
