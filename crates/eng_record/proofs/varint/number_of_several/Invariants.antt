use Rattle.std.proofs.Common.{◌≡◌, ◌-◌, ◌<◌, ◌≤◌, ◌^◌, length}
use Rattle.eng_record.specs.Reading.{number_from}
use Rattle.eng_record.proofs.varint.number_of_several.Given as goal

abbrev pub invariant-loop : goal.invariant-loop
invariant-loop l = record {
  same : number_from (8 - l.counter) l.high l.rest ≡ number_from 8 0 l.bytes;
  high : l.high < 128 ^ l.counter;
  shorter : length l.rest ≤ length l.bytes;
}
