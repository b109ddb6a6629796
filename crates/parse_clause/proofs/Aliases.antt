-- What the name of a result or of an item reads, in the steps of the code.
use Rattle.std.proofs.Common.{◌≡◌, ℕ, Bool, true, false, ◌||◌, List, [], ◌∷◌, Some, None, refl, ap, ◌∙◌}
use Rattle.sql_tree.specs.declared.token.Token.{Token}
use Rattle.sql_tree.specs.declared.token.TokenKind.{TokenKind}
use Rattle.sql_tree.specs.declared.token.TokenKind.TheVariants as kind
use Rattle.sql_grammar.specs.declared.counts.Counts.{Counts}
use Rattle.sql_grammar.specs.declared.counts.Role.TheVariants as role
use Rattle.sql_grammar.specs.Rules.{Kinds, starts, reads, one, Done, ◌>>=◌}
use Rattle.sql_grammar.specs.Bodies.{rules}
use Rattle.sql_grammar.proofs.ReadingLaws.{chosen, other}
use Rattle.sql_grammar.specs.Grammar.{Name, name, names}
use Rattle.sql_grammar.specs.Queries.{alias}
use Rattle.parse_cursor.proofs.Steps.{after_to}

-- ---- sets of kinds

pub more_kinds : (k : TokenKind) (ks : Kinds) (ts : List Token) → starts (k ∷ []) ts ≡ true → starts (k ∷ ks) ts ≡ true
more_kinds k ks [] here = cc here
more_kinds k ks (t ∷ ts) here = either _ _ here where
  either : (a x : Bool) → a || false ≡ true → a || x ≡ true
  either true x h = refl
  either false x h = cc h

pub other_kinds : (k : TokenKind) (ks : Kinds) (ts : List Token) → starts (k ∷ []) ts ≡ false → starts (k ∷ ks) ts ≡ starts ks ts
other_kinds k ks [] none = refl
other_kinds k ks (t ∷ ts) none = neither _ _ none where
  neither : (a x : Bool) → a || false ≡ false → a || x ≡ x
  neither true x h = cc h
  neither false x h = refl

-- ---- [[AS] name]

pub alias_as : (d : ℕ) (c : Counts) (ts : List Token) → starts (kind.As ∷ []) ts ≡ true → reads Name rules d alias c ts ≡ (one role.Outside (kind.As ∷ []) c ts >>= λ t e rest. one role.Quiet names e rest >>= λ a f end. Done (Some a) f end)
unfolding alias
alias_as d c ts here = chosen _ _ _ (more_kinds kind.As names ts here) ∙ ap (λ o. o >>= λ a e rest. Done (Some a) e rest) (chosen _ _ _ here) ∙ after_to Some role.Outside kind.As name d c ts

pub alias_name : (d : ℕ) (c : Counts) (ts : List Token) → starts (kind.As ∷ []) ts ≡ false → starts names ts ≡ true → reads Name rules d alias c ts ≡ (one role.Quiet names c ts >>= λ a e rest. Done (Some a) e rest)
unfolding alias
alias_name d c ts none here = chosen _ _ _ (other_kinds kind.As names ts none ∙ here) ∙ ap (λ o. o >>= λ a e rest. Done (Some a) e rest) (other _ _ _ none)

pub alias_none : (d : ℕ) (c : Counts) (ts : List Token) → starts (kind.As ∷ []) ts ≡ false → starts names ts ≡ false → reads Name rules d alias c ts ≡ Done None c ts
unfolding alias
alias_none d c ts none others = other _ _ _ (other_kinds kind.As names ts none ∙ others)

pub ruleset aliases = (alias_as, alias_name, alias_none)
