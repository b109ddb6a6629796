use Rattle.std.proofs.Common.{◌≡◌, length, sum_by, take}
use Rattle.gen_loop.specs.Loops.{key_steps}
use Rattle.gen_loop.specs.Needs.{keys_read}
use Rattle.plan_tree.specs.Visits.{key_outs}
use Rattle.vm_code.specs.Frames.{Fills, needing}
use Rattle.gen_loop.proofs.visiting.emit_keys.Given as goal

abbrev pub invariant-loop-key : goal.invariant-loop-key
invariant-loop-key l = record {
  fills : Fills (needing (keys_read (take l.key-index l.keys))) l.initial.b l.b (length (take l.key-index l.keys)) (λ env. key_outs env (take l.key-index l.keys)) (λ env. sum_by key_steps (take l.key-index l.keys));
  cursors : l.b.cursors ≡ l.initial.b.cursors;
  units : l.b.units ≡ l.initial.b.units;
}
