-- How the code's arguments stand to one another.
use Rattle.std.specs.Prelude.{◌≡◌, List, [], ◌∷◌}
use Rattle.eng_value.specs.declared.value.Value.{Value}

abbrev pub IsFirst : Value → List Value → Type 0
IsFirst v [] = ⊥
IsFirst v (w ∷ rest) = v ≡ w
