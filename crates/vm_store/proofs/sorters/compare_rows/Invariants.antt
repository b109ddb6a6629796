use Rattle.std.proofs.Common.{◌≡◌, drop}
use Rattle.eng_index.specs.Keys.{key_cmp}
use Rattle.vm_code.specs.Machine.{compared}
use Rattle.vm_store.proofs.sorters.compare_rows.Given as goal

abbrev pub invariant-loop-term : goal.invariant-loop-term
invariant-loop-term l =
    key_cmp (drop l.term-index l.terms) (compared l.a) (compared l.b) ≡ key_cmp l.terms (compared l.a) (compared l.b)
