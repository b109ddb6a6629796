-- How a part of a write ends, and how parts follow one another.
use Rattle.std.specs.Prelude.{List, [], ◌∷◌, Result, Ok, Err}
use Rattle.eng_value.specs.Causes.{CauseSet}
use Rattle.eng_value.specs.Written.{Written}

-- it goes on with what it made; or the row is left, with all that was done; or the statement fails for these causes
pub data Step (A : Type 0) : Type 0 where
  Done : A → Written → Step A
  Left : Written → Step A
  Fails : CauseSet → Written → Step A

abbrev pub Effect : Type 0
Effect = Step (Unit {0})

infixl 2 ◌then◌
abbrev pub ◌then◌ : {A B : Type 0} → Step A → (A → Written → Step B) → Step B
Done a x then k = k a x
Left x then k = Left x
Fails causes x then k = Fails causes x

abbrev pub done : Written → Effect
done x = Done tt x

-- what is bad fails the statement
abbrev pub settled : {A : Type 0} → Result A CauseSet → Written → Step A
settled (Ok a) x = Done a x
settled (Err causes) x = Fails causes x

-- a row that is left does not end the others
abbrev pub or_next : Effect → Effect
or_next (Done u x) = Done u x
or_next (Left x) = Done tt x
or_next (Fails causes x) = Fails causes x

-- one after another
abbrev pub each : {A : Type 0} → (A → Written → Effect) → List A → Written → Effect
each f [] x = done x
each f (a ∷ rest) x = f a x then λ u x. each f rest x
