-- What a write works on, and what it leaves.
use Rattle.std.specs.Prelude.{ℕ, List, [], ℤ}
use Rattle.eng_value.specs.Environments.{Lists}
use Rattle.eng_value.specs.declared.modules.RowOp.{RowOp}
use Rattle.eng_value.specs.declared.value.Value.{Value}

-- a row that the update hook is told of
pub record Told : Type 0 where
  pub change : RowOp
  pub table : List ℕ
  pub rowid : ℤ

-- the rows of each table, what the update hook is told, how many rows were changed, the rowid of the last row that was put, and the rows that are returned
pub record Written : Type 0 where
  pub world : Lists
  pub told : List Told
  pub changes : ℕ
  pub last_rowid : ℤ
  pub returned : List (List Value)

-- in front of a write: nothing is told, changed or returned yet
abbrev pub unwritten : Lists → ℤ → Written
unwritten world last_rowid = record { world = world; told = []; changes = 0; last_rowid = last_rowid; returned = [] }
