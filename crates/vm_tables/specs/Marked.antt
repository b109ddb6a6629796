-- Tables with marks, to which they can go back.
use Rattle.std.specs.Prelude.{List}
use Rattle.vm_code.specs.Machine.{World}

-- the tables, and as they were at each mark that is kept, the last first
pub record Marked : Type 0 where
  pub world : World
  pub marks : List World
