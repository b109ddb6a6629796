-- What lists read, in the steps of the code.
use Rattle.std.proofs.Common.{◌≡◌, ℕ, true, false, List, [], ◌∷◌, ◌++◌, refl, ap}
use Rattle.sql_tree.specs.declared.token.Token.{Token}
use Rattle.sql_tree.specs.declared.token.TokenKind.TheVariants as kind
use Rattle.sql_tree.specs.declared.expr.Expr.{Expr}
use Rattle.sql_tree.specs.declared.expr.Expr.TheVariants as tree
use Rattle.sql_tree.specs.declared.expr.UnaryOp.TheVariants as unary
use Rattle.sql_grammar.specs.declared.counts.Counts.{Counts}
use Rattle.sql_grammar.specs.declared.counts.Role.TheVariants as role
use Rattle.sql_grammar.specs.Rules.{Kinds, starts, is_clear, tok, reads, one, Outcome, Done, Stop, ◌>>=◌}
use Rattle.sql_grammar.specs.Grammar.{Name, sign_op, with_signs, with_nots, signs, nots}
use Rattle.sql_grammar.specs.Bodies.{rules}
use Rattle.parse_cursor.specs.Gives.{collected}
use Rattle.parse_expr.specs.Parts.{prefixes}
use Rattle.parse_expr.proofs.Clear.{signs_clear, nots_clear}
use Rattle.parse_cursor.proofs.Steps.{many_step, many_end}

pub collected_none : {A : Type 0} (o : Outcome (List A)) → collected [] o ≡ o
collected_none (Done a e rest) = refl
collected_none (Stop w rest) = refl

-- ---- signs

pub signs_start : (d : ℕ) (c : Counts) (ts : List Token) → collected [] (reads Name rules d signs c ts) ≡ reads Name rules d signs c ts
signs_start d c ts = collected_none (reads Name rules d signs c ts)

pub signs_step : (found : List Token) (d : ℕ) (c : Counts) (ts : List Token) → starts (kind.Minus ∷ kind.Plus ∷ kind.Tilde ∷ []) ts ≡ true → collected found (reads Name rules d signs c ts) ≡ (one role.Operator (kind.Minus ∷ kind.Plus ∷ kind.Tilde ∷ []) c ts >>= λ a e rest. collected (found ++ a ∷ []) (reads Name rules d signs e rest))
unfolding signs
signs_step found d c ts here = many_step (tok role.Operator (kind.Minus ∷ kind.Plus ∷ kind.Tilde ∷ [])) d found c ts signs_clear here

pub signs_end : (found : List Token) (d : ℕ) (c : Counts) (ts : List Token) → starts (kind.Minus ∷ kind.Plus ∷ kind.Tilde ∷ []) ts ≡ false → collected found (reads Name rules d signs c ts) ≡ Done found c ts
unfolding signs
signs_end found d c ts none = many_end (tok role.Operator (kind.Minus ∷ kind.Plus ∷ kind.Tilde ∷ [])) d found c ts signs_clear none

-- ---- nots

pub nots_start : (d : ℕ) (c : Counts) (ts : List Token) → collected [] (reads Name rules d nots c ts) ≡ reads Name rules d nots c ts
nots_start d c ts = collected_none (reads Name rules d nots c ts)

pub nots_step : (found : List Token) (d : ℕ) (c : Counts) (ts : List Token) → starts (kind.Not ∷ []) ts ≡ true → collected found (reads Name rules d nots c ts) ≡ (one role.Operator (kind.Not ∷ []) c ts >>= λ a e rest. collected (found ++ a ∷ []) (reads Name rules d nots e rest))
unfolding nots
nots_step found d c ts here = many_step (tok role.Operator (kind.Not ∷ [])) d found c ts nots_clear here

pub nots_end : (found : List Token) (d : ℕ) (c : Counts) (ts : List Token) → starts (kind.Not ∷ []) ts ≡ false → collected found (reads Name rules d nots c ts) ≡ Done found c ts
unfolding nots
nots_end found d c ts none = many_end (tok role.Operator (kind.Not ∷ [])) d found c ts nots_clear none

-- ---- signs or nots

pub prefixes_start : (ks : Kinds) (d : ℕ) (c : Counts) (ts : List Token) → collected [] (reads Name rules d (prefixes ks) c ts) ≡ reads Name rules d (prefixes ks) c ts
prefixes_start ks d c ts = collected_none (reads Name rules d (prefixes ks) c ts)

pub prefixes_step : (ks : Kinds) (found : List Token) (d : ℕ) (c : Counts) (ts : List Token) → is_clear Name rules (prefixes ks) ≡ true → starts ks ts ≡ true → collected found (reads Name rules d (prefixes ks) c ts) ≡ (one role.Operator ks c ts >>= λ a e rest. collected (found ++ a ∷ []) (reads Name rules d (prefixes ks) e rest))
unfolding prefixes
prefixes_step ks found d c ts clear here = many_step (tok role.Operator ks) d found c ts clear here

pub prefixes_end : (ks : Kinds) (found : List Token) (d : ℕ) (c : Counts) (ts : List Token) → is_clear Name rules (prefixes ks) ≡ true → starts ks ts ≡ false → collected found (reads Name rules d (prefixes ks) c ts) ≡ Done found c ts
unfolding prefixes
prefixes_end ks found d c ts clear none = many_end (tok role.Operator ks) d found c ts clear none

pub ruleset prefixes_steps = (prefixes_start, prefixes_step, prefixes_end)

pub signs_are_clear : is_clear Name rules (prefixes (kind.Minus ∷ kind.Plus ∷ kind.Tilde ∷ [])) ≡ true
unfolding signs prefixes
signs_are_clear = signs_clear

pub nots_are_clear : is_clear Name rules (prefixes (kind.Not ∷ [])) ≡ true
unfolding nots prefixes
nots_are_clear = nots_clear

-- ---- the last comes first

pub with_signs_last : (signs : List Token) (t : Token) (x : Expr) → with_signs (signs ++ t ∷ []) x ≡ with_signs signs (tree.Unary (sign_op t.kind) x)
with_signs_last [] t x = refl
with_signs_last (s ∷ signs) t x = ap (tree.Unary (sign_op s.kind)) (with_signs_last signs t x)

pub with_nots_last : (nots : List Token) (t : Token) (x : Expr) → with_nots (nots ++ t ∷ []) x ≡ with_nots nots (tree.Unary unary.Not x)
with_nots_last [] t x = refl
with_nots_last (s ∷ nots) t x = ap (tree.Unary unary.Not) (with_nots_last nots t x)
