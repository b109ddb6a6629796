-- What a statement may name that no entry of a catalog tells.
use Rattle.std.specs.Prelude.{◌≡◌, ⊤, ℕ, ℤ, Bool, List, Option, Some, None, Result, Ok, Err}
use Rattle.std.specs.declared.alloc.Global.{Global}
use Rattle.std.specs.declared.vec.Vec.{Vec}
use Rattle.eng_value.specs.declared.modules.ModColumn.{ModColumn}
use Rattle.eng_catalog.specs.declared.names.NamesErr.{NamesErr}
use Rattle.eng_catalog.specs.declared.names.NamesErr.TheVariants as failed

-- what there is under a name: how many arguments a function takes, -1 for any number, and whether it may ask; whether a module's
-- name is that of a table, too, and whether its tables can be written; and the columns of its tables by their numbers, where it tells
pub record NameFacts : Type 0 where
  pub scalar_of : List ℕ → Option (ℤ × Bool)
  pub aggregate_of : List ℕ → Option ℤ
  pub is_collation : List ℕ → Bool
  pub module_of : List ℕ → Option (Bool × Bool)
  pub columns_of : List ℕ → ℕ → Option (List ModColumn)
  pub is_savepoint : List ℕ → Bool
  pub recursive_triggers : Bool

-- a module that tells its columns gives these or fails, and never refuses
abbrev pub TellsColumns : Option (List ModColumn) → Result (Vec ModColumn Global) NamesErr → Type 0
TellsColumns None answer = ⊤
TellsColumns (Some columns) (Ok given) = given.items ≡ columns
TellsColumns (Some columns) (Err failed.Fault) = ⊤
TellsColumns (Some columns) (Err failed.Mem) = ⊤
TellsColumns (Some columns) (Err (failed.Refused text)) = ⊥
