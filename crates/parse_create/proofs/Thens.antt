-- Steps one after another.
use Rattle.std.proofs.Common.{◌≡◌, List, refl}
use Rattle.sql_tree.specs.declared.token.Token.{Token}
use Rattle.sql_grammar.specs.declared.counts.Counts.{Counts}
use Rattle.sql_grammar.specs.Rules.{Outcome, Parser, Done, Stop, ◌>>=◌}

-- what goes on alike
pub then : {A B : Type 0} (o : Outcome A) (f g : A → Parser B) → ((a : A) (c : Counts) (rest : List Token) → f a c rest ≡ g a c rest) → (o >>= f) ≡ (o >>= g)
then (Done a c rest) f g h = h a c rest
then (Stop why rest) f g h = refl

-- three steps, from the left or from the right
pub then_on : {A B C : Type 0} (o : Outcome A) (f : A → Parser B) (g : B → Parser C) → ((o >>= f) >>= g) ≡ (o >>= λ a c rest. f a c rest >>= g)
then_on (Done a c rest) f g = refl
then_on (Stop why rest) f g = refl
