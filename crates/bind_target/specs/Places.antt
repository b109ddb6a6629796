-- What is left in a place behind a mutable reference.
use Rattle.std.specs.Prelude.{◌≡◌, ◌⊎◌, Result, Ok, Err}
use Rattle.eng_value.specs.declared.cause.Cause.{Cause}
use Rattle.eng_value.specs.declared.cause.Cause.TheVariants.{Mem}

-- what is left is what is meant
abbrev pub LeavesAt : {A : Type 0} → Result A Cause → Result (Unit {0}) Cause → A → Type 0
LeavesAt meant (Ok done) new = meant ≡ Ok new
LeavesAt meant (Err why) new = (why ≡ Mem) ⊎ (meant ≡ Err why)
