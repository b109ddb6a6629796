-- What the names of types and their parts read, in the steps of the code.
use Rattle.std.proofs.Common.{◌≡◌, ℕ, ◌-◌, true, false, List, [], ◌∷◌, Some, refl, ap, ◌∙◌, None}
use Rattle.sql_tree.specs.declared.token.Token.{Token}
use Rattle.sql_tree.specs.declared.token.TokenKind.TheVariants as kind
use Rattle.sql_grammar.specs.declared.counts.Counts.{Counts}
use Rattle.sql_grammar.specs.declared.counts.Role.TheVariants as role
use Rattle.sql_grammar.specs.Rules.{starts, is_clear, reads, nest, opening, one, Outcome, Done, Stop, ◌>>=◌, tok}
use Rattle.sql_grammar.specs.Grammar.{Name, sizes, or_none, two_sizes, type_sizes, maybe, after, name, one_or_two, signed, type_words, type_name}
use Rattle.sql_grammar.specs.Bodies.{rules}
use Rattle.sql_grammar.proofs.ReadingLaws.{other, chosen}
use Rattle.sql_grammar.proofs.Whole.{nest_is}
use Rattle.parse_cursor.specs.Items.{run}
use Rattle.parse_cursor.specs.Parts.{sign, second_size}
use Rattle.parse_cursor.proofs.Steps.{both_to, maybe_some, maybe_none}

-- ---- sizes

pub sign_some : (d : ℕ) (c : Counts) (ts : List Token) → starts (kind.Plus ∷ kind.Minus ∷ []) ts ≡ true → reads Name rules d sign c ts ≡ (one role.Outside (kind.Plus ∷ kind.Minus ∷ []) c ts >>= λ t e rest. Done (Some t) e rest)
unfolding sign
sign_some d c ts here = chosen _ _ _ here

pub sign_none : (d : ℕ) (c : Counts) (ts : List Token) → starts (kind.Plus ∷ kind.Minus ∷ []) ts ≡ false → reads Name rules d sign c ts ≡ Done None c ts
unfolding sign
sign_none d c ts none = other _ _ _ none

pub ruleset sign_steps = (sign_some, sign_none)

pub signed_is : (d : ℕ) (c : Counts) (ts : List Token) → reads Name rules d signed c ts ≡ (reads Name rules d sign c ts >>= λ s e rest. one role.Outside (kind.Number ∷ []) e rest >>= λ n f end. Done (record { sign = s; number = n }) f end)
unfolding signed sign
signed_is d c ts = both_to (reads Name rules d (maybe (tok role.Outside (kind.Plus ∷ kind.Minus ∷ [])))) (one role.Outside (kind.Number ∷ [])) (λ p. record { sign = p.0; number = p.1 }) c ts

pub second_size_some : (d : ℕ) (c : Counts) (ts : List Token) → starts (kind.Comma ∷ []) ts ≡ true → reads Name rules d second_size c ts ≡ (one role.Outside (kind.Comma ∷ []) c ts >>= λ t e rest. reads Name rules d signed e rest >>= λ a f end. Done (Some a) f end)
unfolding second_size
second_size_some d c ts here = maybe_some role.Outside kind.Comma signed d c ts here

pub second_size_none : (d : ℕ) (c : Counts) (ts : List Token) → starts (kind.Comma ∷ []) ts ≡ false → reads Name rules d second_size c ts ≡ Done None c ts
unfolding second_size
second_size_none d c ts none = maybe_none role.Outside kind.Comma signed d c ts none

pub two_sizes_is : (d : ℕ) (c : Counts) (ts : List Token) → reads Name rules d two_sizes c ts ≡ (reads Name rules d signed c ts >>= λ a e rest. reads Name rules d second_size e rest >>= λ b f end. Done (one_or_two a b) f end)
unfolding two_sizes second_size
two_sizes_is d c ts = both_to (reads Name rules d signed) (reads Name rules d (maybe (after role.Outside kind.Comma signed))) (λ p. one_or_two p.0 p.1) c ts

given : {X : Type 0} (o : Outcome (List X)) → ((o >>= λ a e rest. Done (Some a) e rest) >>= λ x e rest. Done (or_none x) e rest) ≡ o
given (Done a e rest) = refl
given (Stop w rest) = refl

pub type_sizes_some : (d : ℕ) (c : Counts) (ts : List Token) → starts (kind.LeftParen ∷ []) ts ≡ true → reads Name rules d type_sizes c ts ≡ (opening d role.Opening (kind.LeftParen ∷ []) c ts >>= λ t e rest. reads Name rules (d - 1) two_sizes e rest >>= λ a f mid. one role.Closing (kind.RightParen ∷ []) f mid >>= λ z g end. Done a g end)
unfolding type_sizes
type_sizes_some d c ts here = ap (λ o. o >>= λ x e rest. Done (or_none x) e rest) (chosen _ _ _ here) ∙ given (reads Name rules d (nest role.Opening (kind.LeftParen ∷ []) sizes role.Closing (kind.RightParen ∷ [])) c ts) ∙ nest_is Name rules role.Opening (kind.LeftParen ∷ []) sizes role.Closing (kind.RightParen ∷ []) d c ts

pub type_sizes_none : (d : ℕ) (c : Counts) (ts : List Token) → starts (kind.LeftParen ∷ []) ts ≡ false → reads Name rules d type_sizes c ts ≡ Done [] c ts
unfolding type_sizes
type_sizes_none d c ts none = ap (λ o. o >>= λ x e rest. Done (or_none x) e rest) (other _ _ _ none)

pub ruleset type_sizes_steps = (type_sizes_some, type_sizes_none)

-- ---- words

pub type_words_are : (d : ℕ) (c : Counts) (ts : List Token) → reads Name rules d type_words c ts ≡ reads Name rules 0 (run name) c ts
unfolding type_words run
type_words_are d c ts = refl

pub run_names_clear : is_clear Name rules (run name) ≡ true
unfolding run
run_names_clear = refl

pub ruleset type_words_steps = (type_words_are, run_names_clear)

pub type_name_is : (d : ℕ) (c : Counts) (ts : List Token) → reads Name rules d type_name c ts ≡ (reads Name rules d type_words c ts >>= λ a e rest. reads Name rules d type_sizes e rest >>= λ b f end. Done (record { words = a; sizes = b }) f end)
unfolding type_name
type_name_is d c ts = both_to (reads Name rules d type_words) (reads Name rules d type_sizes) (λ p. record { words = p.0; sizes = p.1 }) c ts
