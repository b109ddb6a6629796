-- What comes to something or is refused, in turn: of refusals the first counts.
use Rattle.std.specs.Prelude.{List, [], ◌∷◌, Option, Some, None, Result, Ok, Err}
use Rattle.eng_value.specs.declared.cause.Cause.{Cause}

infixl 10 ◌>>=◌
abbrev pub ◌>>=◌ : {A B E : Type 0} → Result A E → (A → Result B E) → Result B E
(Ok a) >>= f = f a
(Err why) >>= f = Err why

-- all of them, from the first on
abbrev pub in_turn : {A B : Type 0} → (A → Result B Cause) → List A → Result (List B) Cause
in_turn f [] = Ok []
in_turn f (a ∷ rest) = f a >>= λ b. in_turn f rest >>= λ bs. Ok (b ∷ bs)

-- the first that is there
abbrev pub or_else : {X : Type 0} → Option X → Option X → Option X
or_else None b = b
or_else (Some a) b = Some a
