use Rattle.std.proofs.Common.{refl}
use Rattle.eng_value.proofs.RowLaws.{bad_row-reads, ignoring-reads, ignoring-others}
use Rattle.eng_value.proofs.laws.rows_read_as_they_are.Goals as goal

pub returns-clause-bad : goal.returns-clause-bad
returns-clause-bad c = bad_row-reads

pub returns-clause-carried : goal.returns-clause-carried
returns-clause-carried c = λ width causes. refl

pub returns-clause-ignored : goal.returns-clause-ignored
returns-clause-ignored c = ignoring-reads

pub returns-clause-others : goal.returns-clause-others
returns-clause-others c = ignoring-others
