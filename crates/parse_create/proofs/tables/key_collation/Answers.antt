use Rattle.std.proofs.Common.{arith}
use Rattle.parse_create.proofs.Constrained.{key_collations}
use Rattle.parse_create.proofs.tables.key_collation.Goals as goal

pub returns-in_err-collate : goal.returns-in_err-collate
returns-in_err-collate c = grind (arith, key_collations)

pub returns-in_ok-collate : goal.returns-in_ok-collate
returns-in_ok-collate c = grind (arith, key_collations)

pub returns-else-sees : goal.returns-else-sees
returns-else-sees c = grind (arith, key_collations)
