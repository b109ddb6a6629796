-- A run starts from the rowid that was put last, as it was handed over.
use Rattle.std.proofs.Common.{◌≡◌, ℕ, ℤ, sym, subst}
use Rattle.vm_code.specs.declared.program.Program.{Program}
use Rattle.vm_code.specs.Machine.{World, Setting, Shared, Ending, Ends, start}

-- a copy of the rowid is as good
pub from_copy : (m : Setting) (most : ℕ) (p : Program) (w : World) (e : Ending) (x : Shared) {last copy : ℤ} → copy ≡ last → Ends m most (start p w last) e x → Ends m most (start p w copy) e x
from_copy m most p w e x same ends = subst (λ (n : ℤ). Ends m most (start p w n) e x) (sym same) ends
