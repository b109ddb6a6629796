-- A literal that is an expression as a whole.
use Rattle.std.proofs.Common.{◌≡◌, ℕ, ◌&&◌, drop, false, true, List, [], ◌∷◌, Option, refl, sym, subst, inl, inr}
use denote.Enum.Bare.{same_true}
use Rattle.sql_tree.specs.contracts.token.TokenKind.{the_type}
use Rattle.sql_tree.specs.declared.token.Span.{Span}
use Rattle.sql_tree.specs.declared.token.Token.{Token}
use Rattle.sql_tree.specs.declared.token.TokenKind.{TokenKind}
use Rattle.sql_tree.specs.declared.expr.Expr.TheVariants as tree
use Rattle.sql_tree.specs.Kinds.{same_kind}
use Rattle.sql_grammar.specs.declared.counts.Counts.{Counts}
use Rattle.sql_grammar.specs.declared.counts.Role.TheVariants as role
use Rattle.sql_grammar.specs.Marks.{count}
use Rattle.sql_grammar.specs.Rules.{Kinds, has, starts, reads, one, Done, ◌>>=◌}
use Rattle.sql_grammar.specs.Grammar.{Name, expr, literal_kinds, all_rules}
use Rattle.sql_grammar.specs.Bodies.{rules}
use Rattle.sql_grammar.proofs.KindSets.{and_true}
use Rattle.sql_grammar.proofs.ReadingLaws.{bool_cases}
use Rattle.parse_operand.specs.Parts.{list_ends}

-- it holds of each of the kinds
abbrev Each : (TokenKind → Type 0) → Kinds → Type 0
Each P [] = Unit {0}
Each P (k ∷ ks) = P k × Each P ks

all_has : (P : TokenKind → Type 0) (ks : Kinds) → Each P ks → (n : TokenKind) → has ks n ≡ true → P n
all_has P [] every n h = cc h
all_has P (k ∷ ks) every n h = elim (bool_cases (same_kind n k)) [
  | inl same ↦ subst P (sym (same_true the_type tt n k same)) every.0
  | inr other ↦ (let rest : has ks n ≡ true = rw other at h in all_has P ks every.1 n rest)
]

-- a token of the first kind, in front of one of the second, is read as a literal
abbrev IsAlone : TokenKind → TokenKind → Type 0
IsAlone k n = (s z : Span) (p q : Option ℕ) (d : ℕ) (c : Counts) (ts : List Token)
    → reads Name rules d expr c (record { kind = k; span = s; parameter = p } ∷ record { kind = n; span = z; parameter = q } ∷ ts)
    ≡ Done (tree.Literal (record { kind = k; span = s; parameter = p })) c (record { kind = n; span = z; parameter = q } ∷ ts)

each_alone : Each (λ k. Each (IsAlone k) list_ends) literal_kinds
unfolding all_rules count
each_alone = (
  (λ s z p q d c ts. refl, (λ s z p q d c ts. refl, tt)),
  (
    (λ s z p q d c ts. refl, (λ s z p q d c ts. refl, tt)),
    (
      (λ s z p q d c ts. refl, (λ s z p q d c ts. refl, tt)),
      (
        (λ s z p q d c ts. refl, (λ s z p q d c ts. refl, tt)),
        ((λ s z p q d c ts. refl, (λ s z p q d c ts. refl, tt)), ((λ s z p q d c ts. refl, (λ s z p q d c ts. refl, tt)), tt)),
      ),
    ),
  ),
)

-- as the one token that it is
pub lone_literal_is : (d : ℕ) (c : Counts) (ts : List Token) → (starts literal_kinds ts && starts list_ends (drop 1 ts)) ≡ true → reads Name rules d expr c ts ≡ (one role.Quiet literal_kinds c ts >>= λ t e rest. Done (tree.Literal t) e rest)
unfolding count
lone_literal_is d c [] h = cc h
lone_literal_is d c (t ∷ []) h = let both = and_true (has literal_kinds t.kind) false h in cc both.1
lone_literal_is d c (t ∷ u ∷ ts) h =
    let both = and_true (has literal_kinds t.kind) _ h in
    let here : has literal_kinds t.kind ≡ true = both.0 in
    let alone : IsAlone t.kind u.kind = all_has (IsAlone t.kind) list_ends (all_has (λ k. Each (IsAlone k) list_ends) literal_kinds each_alone t.kind here) u.kind both.1 in
    rw here (alone t.span u.span t.parameter u.parameter d c ts)
