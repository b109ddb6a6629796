use Rattle.std.proofs.Common.{◌≡◌}
use Rattle.std.specs.Prelude.{replicate}
use Rattle.eng_value.specs.declared.out.Out.TheVariants.{Good}
use Rattle.eng_value.specs.declared.value.Value.TheVariants.{Null}
use Rattle.vm_store.proofs.registers.Registers.nulls.Given as goal

abbrev pub invariant-loop : goal.invariant-loop
invariant-loop l = l.outs.items ≡ replicate l.counter (Good Null)
