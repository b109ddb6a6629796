-- What SELECT and VALUES read, in the steps of the code.
use Rattle.std.proofs.Common.{◌≡◌, ℕ, ◌-◌, true, false, List, [], ◌∷◌, refl, ◌∙◌}
use Rattle.sql_tree.specs.declared.token.Token.{Token}
use Rattle.sql_tree.specs.declared.token.TokenKind.TheVariants as kind
use Rattle.sql_grammar.specs.declared.counts.Counts.{Counts}
use Rattle.sql_grammar.specs.declared.counts.Role.TheVariants as role
use Rattle.sql_grammar.specs.Rules.{starts, reads, one, opening, both, Parser, Outcome, Done, Stop, ◌>>=◌}
use Rattle.sql_grammar.specs.Bodies.{rules}
use Rattle.sql_grammar.proofs.ReadingLaws.{chosen, other}
use Rattle.sql_tree.specs.declared.query.QueryPart.TheVariants as part_is
use Rattle.sql_tree.specs.declared.query.SelectCore.{roll-SelectCore}
use Rattle.sql_grammar.specs.Grammar.{Name, after, exprs, row}
use Rattle.sql_grammar.specs.Queries.{spanned_expr, distinct, results, from, filter_by, group_by, having, select_core, select, values, core, one_row}
use Rattle.parse_cursor.proofs.Steps.{after_is, after_two, or_none_some, or_none_none, both_to, four_to}
use Rattle.parse_cursor.specs.Items.{items}
use Rattle.parse_clause.specs.Parts.{expr_after}
use Rattle.parse_query.proofs.Clear.{groups_clear, rows_clear}
use Rattle.sql_grammar.proofs.Whole.{nest_is}

-- ---- six rules in a row

pub six_to : {A B C D E F X : Type 0} (p : Parser A) (q : Parser B) (r : Parser C) (s : Parser D) (u : Parser E) (v : Parser F) (f : A × (B × (C × (D × (E × F)))) → X) (c : Counts) (ts : List Token)
    → (◌>>=◌ {A = A × (B × (C × (D × (E × F))))} (both p (both q (both r (both s (both u v)))) c ts) (λ x e rest. Done (f x) e rest)) ≡ (p c ts >>= λ a e rest. q e rest >>= λ b g mid. r g mid >>= λ x h near. s h near >>= λ y i far. u i far >>= λ z j last. v j last >>= λ w k end. Done (f (a, (b, (x, (y, (z, w)))))) k end)
six_to {A} {B} {C} {D} {E} {F} p q r s u v f c ts = both_to p (both q (both r (both s (both u v)))) f c ts ∙ word (p c ts) where
  next : (a : A) (o : Outcome B) → (o >>= λ b g mid. both r (both s (both u v)) g mid >>= λ y h end. Done (f (a, (b, y))) h end) ≡ (o >>= λ b g mid. r g mid >>= λ x h near. s h near >>= λ y i far. u i far >>= λ z j last. v j last >>= λ w k end. Done (f (a, (b, (x, (y, (z, w)))))) k end)
  next a (Done b g mid) = four_to r s u v (λ y. f (a, (b, y))) g mid
  next a (Stop w mid) = refl

  word : (o : Outcome A) → (o >>= λ a e rest. both q (both r (both s (both u v))) e rest >>= λ y g end. Done (f (a, y)) g end) ≡ (o >>= λ a e rest. q e rest >>= λ b g mid. r g mid >>= λ x h near. s h near >>= λ y i far. u i far >>= λ z j last. v j last >>= λ w k end. Done (f (a, (b, (x, (y, (z, w)))))) k end)
  word (Done a e rest) = both_to q (both r (both s (both u v))) (λ y. f (a, y)) e rest ∙ next a (q e rest)
  word (Stop w rest) = refl

-- ---- SELECT and VALUES

pub distinct_yes : (d : ℕ) (c : Counts) (ts : List Token) → starts (kind.Distinct ∷ []) ts ≡ true → reads Name rules d distinct c ts ≡ (one role.Outside (kind.Distinct ∷ []) c ts >>= λ t e rest. Done true e rest)
unfolding distinct
distinct_yes d c ts here = chosen _ _ _ here

pub distinct_all : (d : ℕ) (c : Counts) (ts : List Token) → starts (kind.Distinct ∷ []) ts ≡ false → starts (kind.All ∷ []) ts ≡ true → reads Name rules d distinct c ts ≡ (one role.Outside (kind.All ∷ []) c ts >>= λ t e rest. Done false e rest)
unfolding distinct
distinct_all d c ts none here = other _ _ _ none ∙ chosen _ _ _ here

pub distinct_none : (d : ℕ) (c : Counts) (ts : List Token) → starts (kind.Distinct ∷ []) ts ≡ false → starts (kind.All ∷ []) ts ≡ false → reads Name rules d distinct c ts ≡ Done false c ts
unfolding distinct
distinct_none d c ts none others = other _ _ _ none ∙ other _ _ _ others

pub ruleset distincts = (distinct_yes, distinct_all, distinct_none)

pub group_by_some : (d : ℕ) (c : Counts) (ts : List Token) → starts (kind.Group ∷ []) ts ≡ true → reads Name rules d group_by c ts ≡ (one role.Outside (kind.Group ∷ []) c ts >>= λ t e rest. one role.Outside (kind.By ∷ []) e rest >>= λ u f mid. reads Name rules d (items spanned_expr) f mid)
unfolding group_by items
group_by_some d c ts here = or_none_some (after role.Outside kind.Group (after role.Outside kind.By (items spanned_expr))) d c ts here ∙ after_two role.Outside role.Outside kind.Group kind.By (items spanned_expr) d c ts

pub group_by_none : (d : ℕ) (c : Counts) (ts : List Token) → starts (kind.Group ∷ []) ts ≡ false → reads Name rules d group_by c ts ≡ Done [] c ts
unfolding group_by items
group_by_none d c ts none = or_none_none (after role.Outside kind.Group (after role.Outside kind.By (items spanned_expr))) d c ts none

pub ruleset group_bys = (group_by_some, group_by_none, groups_clear)

pub having_is : (d : ℕ) (c : Counts) (ts : List Token) → reads Name rules d having c ts ≡ reads Name rules d (expr_after kind.Having) c ts
unfolding having expr_after
having_is d c ts = refl

pub select_core_is : (d : ℕ) (c : Counts) (ts : List Token) → reads Name rules d select_core c ts
    ≡ (reads Name rules d distinct c ts >>= λ a e rest. reads Name rules d results e rest >>= λ b g mid. reads Name rules d from g mid >>= λ x h near. reads Name rules d filter_by h near >>= λ y i far. reads Name rules d group_by i far >>= λ z j last. reads Name rules d having j last >>= λ w k end. Done (roll-SelectCore (record { distinct = a; results = b; from = x; filter = y; group_by = z; having = w })) k end)
unfolding select_core
select_core_is d c ts = six_to (reads Name rules d distinct) (reads Name rules d results) (reads Name rules d from) (reads Name rules d filter_by) (reads Name rules d group_by) (reads Name rules d having) (λ p. roll-SelectCore (record { distinct = p.0; results = p.1.0; from = p.1.1.0; filter = p.1.1.1.0; group_by = p.1.1.1.1.0; having = p.1.1.1.1.1 })) c ts

pub select_is : (d : ℕ) (c : Counts) (ts : List Token) → reads Name rules d select c ts ≡ (one role.Part (kind.Select ∷ []) c ts >>= λ t e rest. reads Name rules d select_core e rest)
unfolding select
select_is d c ts = after_is role.Part kind.Select select_core d c ts

pub values_is : (d : ℕ) (c : Counts) (ts : List Token) → reads Name rules d values c ts ≡ (one role.Part (kind.Values ∷ []) c ts >>= λ t e rest. reads Name rules d (items one_row) e rest)
unfolding values items
values_is d c ts = after_is role.Part kind.Values (items one_row) d c ts

pub ruleset values_steps = (values_is, rows_clear)

pub core_select : (d : ℕ) (c : Counts) (ts : List Token) → starts (kind.Select ∷ []) ts ≡ true → reads Name rules d core c ts ≡ (reads Name rules d select c ts >>= λ s e rest. Done (true, part_is.Select s) e rest)
unfolding core select
core_select d c ts here = chosen _ _ _ here

pub core_values : (d : ℕ) (c : Counts) (ts : List Token) → starts (kind.Select ∷ []) ts ≡ false → reads Name rules d core c ts ≡ (reads Name rules d values c ts >>= λ v e rest. Done (false, part_is.Values v) e rest)
unfolding core select
core_values d c ts none = other _ _ _ none

pub ruleset cores = (core_select, core_values)

-- ---- a row

pub one_row_is : (d : ℕ) (c : Counts) (ts : List Token) → reads Name rules d one_row c ts ≡ (opening d role.Opening (kind.LeftParen ∷ []) c ts >>= λ t e rest. reads Name rules (d - 1) exprs e rest >>= λ a f mid. one role.Closing (kind.RightParen ∷ []) f mid >>= λ z g end. Done a g end)
unfolding one_row
one_row_is d c ts = nest_is Name rules role.Opening (kind.LeftParen ∷ []) row role.Closing (kind.RightParen ∷ []) d c ts
