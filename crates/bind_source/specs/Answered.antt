-- The same of an answer by reference.
use Rattle.std.specs.Prelude.{◌≡◌, ◌⊎◌, Result, Ok, Err}
use Rattle.eng_value.specs.declared.cause.Cause.{Cause}
use Rattle.eng_value.specs.declared.cause.Cause.TheVariants.{Mem}
use Rattle.std.specs.Borrow.{Bor}

abbrev pub AnswersAt : {A : Type 0} → Result A Cause → Result (Bor A) Cause → Type 0
AnswersAt meant (Ok a) = meant ≡ Ok a.now
AnswersAt meant (Err why) = (why ≡ Mem) ⊎ (meant ≡ Err why)
