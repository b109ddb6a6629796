-- What a stretch finds wherever it runs.
use Rattle.std.proofs.Common.{ℕ, ◌≤◌, length, arith}
use Rattle.vm_code.specs.Draft.{Draft}
use Rattle.vm_code.specs.Machine.{IsSound, Setting, world_of}
use Rattle.vm_code.specs.Frames.{Here}
use Rattle.vm_code.specs.Claims.{Claim, Labels, Last, Triple}

-- the tables are sound, and there is room
pub record HasRoom (d : Draft) (h : Here) : Type 0 where
  pub sound : IsSound (world_of h.shared)
  pub regs : d.most ≤ length h.regs
  pub cursors : d.cursors ≤ length h.scene.cursors

pub t_room : {m : Setting} {a b : Draft} {n : Here → ℕ} {g : Labels} {e : Last} (p q : Claim) → Triple m a b n g e (λ h0 h. p h0 h × HasRoom a h) q → Triple m a b n g e p q
t_room {m} {a} {b} {n} {g} {e} p q x = record {
  extends = x.extends;
  runs = λ u at h h0 s room start pre.
      x.runs u at h h0 s room start (pre, record { sound = room.sound; regs = omega (arith, room.regs, x.extends.most); cursors = omega (arith, room.cursors, x.extends.cursors) });
}
