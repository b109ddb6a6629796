-- What is lent of a record.
use Rattle.std.specs.Prelude.{◌≡◌, ⊤, Ok}
use Rattle.eng_value.specs.declared.value.Value.{Value}
use Rattle.eng_value.specs.declared.value.Value.TheVariants as value
use Rattle.eng_record.specs.declared.columns.Lent.{Lent}
use Rattle.eng_record.specs.declared.columns.Lent.TheVariants as lent
use Rattle.eng_record.specs.Reading.{Read}

-- neither an integer nor a text
abbrev pub IsOther : Value → Type 0
IsOther value.Null = ⊤
IsOther (value.Integer n) = ⊥
IsOther (value.Text text) = ⊥
IsOther (value.Blob bytes) = ⊤

-- an integer is lent and a text is, and no other value
abbrev pub Lends : Lent → Value → Type 0
Lends (lent.Integer n) v = v ≡ value.Integer n
Lends (lent.Text text) v = v ≡ value.Text text.now
Lends lent.Other v = IsOther v

-- the same of a value that was read; where there is a fault, nothing is lent
abbrev pub LendsRead : Lent → Read Value → Type 0
LendsRead (lent.Integer n) found = found ≡ Ok (value.Integer n)
LendsRead (lent.Text text) found = found ≡ Ok (value.Text text.now)
LendsRead lent.Other found = (v : Value) → found ≡ Ok v → IsOther v
