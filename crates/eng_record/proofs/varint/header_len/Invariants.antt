use Rattle.std.proofs.Common.{◌≡◌, ◌-◌}
use Rattle.eng_record.specs.Spelling.{own_len_from}
use Rattle.eng_record.proofs.varint.header_len.Given as goal

abbrev pub invariant-loop-own_len : goal.invariant-loop-own_len
invariant-loop-own_len l = own_len_from (9 - l.own_len) l.own_len l.types_len ≡ own_len_from 8 1 l.types_len
