use Rattle.eng_record.proofs.ColumnSteps.{column_is}
use Rattle.eng_record.proofs.laws.a_column_is_a_value_of_the_row.Goals as goal

pub returns : goal.returns
returns c = column_is
