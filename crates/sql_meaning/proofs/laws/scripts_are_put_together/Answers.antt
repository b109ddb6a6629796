use Rattle.std.proofs.Common.{length, arith}
use Rattle.sql_meaning.proofs.SegmentLaws.{bytes_are, one_way, parts_of-whole, segmented}
use Rattle.sql_meaning.proofs.laws.scripts_are_put_together.Goals as goal

pub returns-clause-segments : goal.returns-clause-segments
returns-clause-segments c = λ runs fresh text. let found = segmented (length text) runs fresh text (omega arith) in (found.segments, found.are, found.parts)

pub returns-clause-bytes : goal.returns-clause-bytes
returns-clause-bytes c = bytes_are

pub returns-clause-one_way : goal.returns-clause-one_way
returns-clause-one_way c = one_way

pub returns-clause-script : goal.returns-clause-script
returns-clause-script c = parts_of-whole
