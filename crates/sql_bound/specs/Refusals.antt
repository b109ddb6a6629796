-- Why a statement is refused where its names are bound: a name is printed as it was declared, or as it is written where it is unknown.
use Rattle.std.specs.Prelude.{Result}
use Rattle.eng_value.specs.declared.cause.Cause.{Cause}

abbrev pub Checked : Type 0 → Type 0
Checked A = Result A Cause
