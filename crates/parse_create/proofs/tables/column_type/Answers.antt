use Rattle.std.proofs.Common.{arith}
use Rattle.parse_create.proofs.Clear.{first_type_name}
use Rattle.parse_create.specs.Parts.{column_type}
use Rattle.parse_create.proofs.tables.column_type.Goals as goal

pub returns-in_err-type_name : goal.returns-in_err-type_name
unfolding column_type
returns-in_err-type_name c = grind (arith, first_type_name)

pub returns-in_ok-type_name : goal.returns-in_ok-type_name
unfolding column_type
returns-in_ok-type_name c = grind (arith, first_type_name)

pub returns-else-sees_name : goal.returns-else-sees_name
unfolding column_type
returns-else-sees_name c = grind (arith, first_type_name)
