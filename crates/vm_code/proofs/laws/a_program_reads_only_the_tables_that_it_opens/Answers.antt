use Rattle.vm_code.proofs.Reading.{reads_only_opened}
use Rattle.vm_code.proofs.laws.a_program_reads_only_the_tables_that_it_opens.Goals as goal

pub returns : goal.returns
returns c = reads_only_opened
