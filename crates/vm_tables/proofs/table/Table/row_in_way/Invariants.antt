use Rattle.std.proofs.Common.{◌≡◌, drop}
use Rattle.eng_index.specs.Keys.{row_in_way}
use Rattle.vm_tables.proofs.Finding.{first_double}
use Rattle.vm_tables.proofs.table.Table.row_in_way.Given as goal

abbrev pub invariant-loop-terms : goal.invariant-loop-terms
invariant-loop-terms l = record {
  same : l.self ≡ l.initial.self;
  left : row_in_way l.keys l.initial.self l.row ≡ first_double (drop l.terms-index l.keys) l.initial.self l.row;
}
