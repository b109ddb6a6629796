use Rattle.std.proofs.Common.{◌≡◌, take}
use Rattle.gen_loop.specs.Loops.{conjuncts_steps}
use Rattle.gen_loop.specs.Needs.{conjuncts_read}
use Rattle.sql_meaning.specs.Products.{sifted}
use Rattle.vm_code.specs.Frames.{Sifts, needing}
use Rattle.gen_loop.proofs.sifting.emit_conjuncts.Given as goal

abbrev pub invariant-loop-conjunct : goal.invariant-loop-conjunct
invariant-loop-conjunct l = record {
  sifts : Sifts (needing (conjuncts_read (take l.conjunct-index l.conjuncts))) l.initial.b l.b l.causes l.next (sifted (take l.conjunct-index l.conjuncts)) (λ env. conjuncts_steps (take l.conjunct-index l.conjuncts));
  cursors : l.b.cursors ≡ l.initial.b.cursors;
  units : l.b.units ≡ l.initial.b.units;
}
