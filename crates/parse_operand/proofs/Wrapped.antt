-- What stands between brackets behind a word, in the steps of the code.
use Rattle.std.proofs.Common.{◌≡◌, ℕ, ◌-◌, true, List, [], ◌∷◌, Some, refl, ap, ◌∙◌}
use Rattle.sql_tree.specs.declared.token.Token.{Token}
use Rattle.sql_tree.specs.declared.token.TokenKind.TheVariants as kind
use Rattle.sql_tree.specs.declared.expr.Expr.{Expr}
use Rattle.sql_tree.specs.declared.expr.Expr.TheVariants as tree
use Rattle.sql_grammar.specs.declared.counts.Counts.{Counts}
use Rattle.sql_grammar.specs.declared.counts.Role.{Role}
use Rattle.sql_grammar.specs.declared.counts.Role.TheVariants as role
use Rattle.sql_grammar.specs.Rules.{Kinds, Parser, starts, reads, opening, one, Outcome, Done, Stop, ◌>>=◌}
use Rattle.sql_grammar.specs.Grammar.{Name, raising, raise_what, existing, filter}
use Rattle.sql_grammar.specs.Bodies.{rules}
use Rattle.sql_grammar.specs.Queries.{query}
use Rattle.parse_operand.specs.Parts.{behind, in_condition, in_query, in_raise}
use Rattle.parse_operand.proofs.Straight.{raising_is, existing_is, filter_some, filter_none}
use Rattle.parse_operand.proofs.Bracketed.{in_raise_is, in_query_is, in_condition_is}

-- what is made of the tree between brackets
made : {A B : Type 0} (f : A → B) (p : Parser A) (m : Role) (ks : Kinds) (o : Outcome Token) → ((o >>= λ t e mid. p e mid >>= λ a g far. one m ks g far >>= λ z h end. Done a h end) >>= λ a h end. Done (f a) h end) ≡ (o >>= λ t e mid. p e mid >>= λ a g far. one m ks g far >>= λ z h end. Done (f a) h end)
made {A} {B} f p m ks o = word o where
  last : (a : A) (o : Outcome Token) → ((o >>= λ z h end. Done a h end) >>= λ a h end. Done (f a) h end) ≡ (o >>= λ z h end. Done (f a) h end)
  last a (Done z h end) = refl
  last a (Stop w end) = refl

  inside : (o : Outcome A) → ((o >>= λ a g far. one m ks g far >>= λ z h end. Done a h end) >>= λ a h end. Done (f a) h end) ≡ (o >>= λ a g far. one m ks g far >>= λ z h end. Done (f a) h end)
  inside (Done a g far) = last a (one m ks g far)
  inside (Stop w far) = refl

  word : (o : Outcome Token) → ((o >>= λ t e mid. p e mid >>= λ a g far. one m ks g far >>= λ z h end. Done a h end) >>= λ a h end. Done (f a) h end) ≡ (o >>= λ t e mid. p e mid >>= λ a g far. one m ks g far >>= λ z h end. Done (f a) h end)
  word (Done t e mid) = inside (p e mid)
  word (Stop w mid) = refl

pub raising_steps : (d : ℕ) (c : Counts) (ts : List Token) → reads Name rules d raising c ts ≡ (one role.Quiet (kind.Raise ∷ []) c ts >>= λ t e rest. opening d role.Inward (kind.LeftParen ∷ []) e rest >>= λ u f mid. reads Name rules (d - 1) raise_what f mid >>= λ a g far. one role.Outward (kind.RightParen ∷ []) g far >>= λ z h end. Done a h end)
raising_steps d c ts = raising_is d c ts ∙ word (one role.Quiet (kind.Raise ∷ []) c ts) where
  word : (o : Outcome Token) → (o >>= λ t e rest. reads Name rules d in_raise e rest) ≡ (o >>= λ t e rest. opening d role.Inward (kind.LeftParen ∷ []) e rest >>= λ u f mid. reads Name rules (d - 1) raise_what f mid >>= λ a g far. one role.Outward (kind.RightParen ∷ []) g far >>= λ z h end. Done a h end)
  word (Done t e rest) = in_raise_is d e rest
  word (Stop w rest) = refl

pub existing_steps : (d : ℕ) (c : Counts) (ts : List Token) → reads Name rules d existing c ts ≡ (one role.Quiet (kind.Exists ∷ []) c ts >>= λ t e rest. opening d role.Inward (kind.LeftParen ∷ []) e rest >>= λ u f mid. reads Name rules (d - 1) query f mid >>= λ a g far. one role.Outward (kind.RightParen ∷ []) g far >>= λ z h end. Done (tree.Exists a) h end)
existing_steps d c ts = existing_is d c ts ∙ word (one role.Quiet (kind.Exists ∷ []) c ts) where
  word : (o : Outcome Token) → (o >>= λ t e rest. reads Name rules d in_query e rest >>= λ q f end. Done (tree.Exists q) f end) ≡ (o >>= λ t e rest. opening d role.Inward (kind.LeftParen ∷ []) e rest >>= λ u f mid. reads Name rules (d - 1) query f mid >>= λ a g far. one role.Outward (kind.RightParen ∷ []) g far >>= λ z h end. Done (tree.Exists a) h end)
  word (Done t e rest) = ap (λ o. o >>= λ q f end. Done (tree.Exists q) f end) (in_query_is d e rest) ∙ made tree.Exists (reads Name rules (d - 1) query) role.Outward (kind.RightParen ∷ []) (opening d role.Inward (kind.LeftParen ∷ []) e rest)
  word (Stop w rest) = refl

pub filter_words : (d : ℕ) (c : Counts) (ts : List Token) → starts (kind.Filter ∷ []) ts ≡ true → reads Name rules d filter c ts ≡ (one role.Quiet (kind.Filter ∷ []) c ts >>= λ t e rest. opening d role.Inward (kind.LeftParen ∷ []) e rest >>= λ u f mid. reads Name rules (d - 1) (behind kind.Where) f mid >>= λ a g far. one role.Outward (kind.RightParen ∷ []) g far >>= λ z h end. Done (Some a) h end)
filter_words d c ts here = filter_some d c ts here ∙ word (one role.Quiet (kind.Filter ∷ []) c ts) where
  word : (o : Outcome Token) → (o >>= λ t e rest. reads Name rules d in_condition e rest >>= λ a f end. Done (Some a) f end) ≡ (o >>= λ t e rest. opening d role.Inward (kind.LeftParen ∷ []) e rest >>= λ u f mid. reads Name rules (d - 1) (behind kind.Where) f mid >>= λ a g far. one role.Outward (kind.RightParen ∷ []) g far >>= λ z h end. Done (Some a) h end)
  word (Done t e rest) = ap (λ o. o >>= λ a f end. Done (Some a) f end) (in_condition_is d e rest) ∙ made {A = Expr} Some (reads Name rules (d - 1) (behind kind.Where)) role.Outward (kind.RightParen ∷ []) (opening d role.Inward (kind.LeftParen ∷ []) e rest)
  word (Stop w rest) = refl

pub ruleset filters = (filter_words, filter_none)
