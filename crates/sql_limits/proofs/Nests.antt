-- The marked tokens of each derivation are nested, in one way.
use Rattle.std.proofs.Common.{◌≡◌, ◌∙◌, ℕ, Bool, true, false, List, [], ◌∷◌, ◌++◌, refl, sym, ap, append_assoc}
use Rattle.sql_tree.specs.declared.expr.Expr.{Expr}
use Rattle.sql_tree.specs.declared.statement.Statement.{Statement}
use Rattle.sql_tree.specs.declared.token.Token.{Token}
use Rattle.sql_grammar.specs.declared.counts.Role.{Role}
use Rattle.sql_grammar.specs.declared.counts.Role.TheVariants as role
use Rattle.sql_grammar.specs.Bodies.{rules}
use Rattle.sql_grammar.specs.Expressions.{Expression}
use Rattle.sql_grammar.specs.Grammar.{Name, expr}
use Rattle.sql_grammar.specs.Grammar as name
use Rattle.sql_grammar.specs.Marks.{stays, opens, closes, Marked, marked}
use Rattle.sql_grammar.specs.Rules.{nested}
use Rattle.sql_grammar.specs.Statements.{statement, all_statement_rules}
use Rattle.sql_grammar.specs.StatementTexts.{IsStatement}
use Rattle.sql_limits.specs.Nestings.{quiet, operator, outside, fresh, part, of_expression, of_others, Nested, nothing, token, bracket, role_of, opening_of, closing_of, flat}
use Rattle.sql_limits.specs.Limits.{first_expression, other_expressions, outermost_expressions}
use Rattle.sql_limits.proofs.Shapes.{has_roles, Builds, rule_law, nested_law}

-- ---- the roles of the grammar

abbrev may_stay : Role → Bool
may_stay role.Quiet = true
may_stay role.Operator = true
may_stay role.Outside = true
may_stay role.Fresh = true
may_stay role.Part = true
may_stay _ = false

abbrev pub may_enclose : (A : Type 0) → Role → Name A → Role → Bool
may_enclose A role.Inward n role.Outward = true
may_enclose A role.Opening n role.Closing = true
may_enclose A _ n _ = false

statement_roles : has_roles may_stay may_enclose statement ≡ true
unfolding all_statement_rules
statement_roles = refl

inner_roles : (A : Type 0) (n : Name A) → has_roles may_stay may_enclose (rules A n) ≡ true
unfolding all_statement_rules
inner_roles A name.parenthesized = refl
inner_roles A name.subquery = refl
inner_roles A name.expression = refl
inner_roles A name.row = refl
inner_roles A name.arguments = refl
inner_roles A name.table_arguments = refl
inner_roles A name.condition = refl
inner_roles A name.cast = refl
inner_roles A name.choice = refl
inner_roles A name.members = refl
inner_roles A name.sizes = refl
inner_roles A name.raise = refl
inner_roles A name.name_list = refl
inner_roles A name.columns = refl
inner_roles A name.key_columns = refl
inner_roles A name.index_columns = refl
inner_roles A name.module_arguments = refl
inner_roles A name.balanced = refl
inner_roles A name.word = refl

-- within an expression
abbrev may_stay_within : Role → Bool
may_stay_within role.Quiet = true
may_stay_within role.Operator = true
may_stay_within _ = false

abbrev may_enclose_within : (A : Type 0) → Role → Name A → Role → Bool
may_enclose_within A role.Inward n role.Outward = true
may_enclose_within A _ n _ = false

expression_roles : has_roles may_stay_within may_enclose_within expr ≡ true
unfolding all_statement_rules
expression_roles = refl

-- ---- one after another

abbrev pub follow : Nested → Nested → Nested
follow nothing n = n
follow (token s t m) n = token s t (follow m n)
follow (bracket b t inside z m) n = bracket b t inside z (follow m n)

pub flat_follow : (m n : Nested) → flat (follow m n) ≡ flat m ++ flat n
flat_follow nothing n = refl
flat_follow (token s t m) n = ap (λ w. marked (stays (role_of s)) t ∷ w) (flat_follow m n)
flat_follow (bracket b t inside z m) n =
    ap (λ w. marked (opens (opening_of b)) t ∷ (flat inside ++ marked (closes (closing_of b)) z ∷ w)) (flat_follow m n)
    ∙ ap (λ w. marked (opens (opening_of b)) t ∷ w) (sym (append_assoc (flat inside) (marked (closes (closing_of b)) z ∷ flat m) (flat n)))

abbrev pub IsNested : List Marked → Type 0
IsNested w = (n : Nested) × (w ≡ flat n)

single_nested : (m : Role) (t : Token) → may_stay m ≡ true → IsNested (marked (stays m) t ∷ [])
single_nested role.Quiet t y = (token quiet t nothing, refl)
single_nested role.Operator t y = (token operator t nothing, refl)
single_nested role.Outside t y = (token outside t nothing, refl)
single_nested role.Fresh t y = (token fresh t nothing, refl)
single_nested role.Part t y = (token part t nothing, refl)
single_nested role.Inward t y = cc
single_nested role.Outward t y = cc
single_nested role.Opening t y = cc
single_nested role.Closing t y = cc

around_nested : (A : Type 0) (m : Role) (n : Name A) (k : Role) (t z : Token) (w : List Marked) → may_enclose A m n k ≡ true → IsNested w → IsNested (marked (opens m) t ∷ (w ++ marked (closes k) z ∷ []))
around_nested A role.Inward n role.Outward t z w y h = (bracket of_expression t h.0 z nothing, ap (λ v. marked (opens role.Inward) t ∷ (v ++ marked (closes role.Outward) z ∷ [])) h.1)
around_nested A role.Opening n role.Closing t z w y h = (bracket of_others t h.0 z nothing, ap (λ v. marked (opens role.Opening) t ∷ (v ++ marked (closes role.Closing) z ∷ [])) h.1)
around_nested A _ n _ t z w y h = cc

builds_nested : Builds Name may_stay may_enclose IsNested (λ A n. IsNested)
builds_nested = record {
  none = (nothing, refl);
  both = λ v w h k. (follow h.0 k.0, (ap (λ u. u ++ w) h.1 ∙ ap (λ u. flat h.0 ++ u) k.1) ∙ sym (flat_follow h.0 k.0));
  single = single_nested;
  around = around_nested;
}

pub inner_nested : (depth : ℕ) (A : Type 0) (n : Name A) (w : List Marked) (a : A) → nested Name rules depth A n w a → IsNested w
inner_nested = nested_law Name rules may_stay may_enclose IsNested builds_nested inner_roles

pub statement_nested : (depth : ℕ) (w : List Marked) (tree : Statement) → IsStatement depth w tree → IsNested w
statement_nested depth w tree d = rule_law Name rules may_stay may_enclose IsNested (λ A n. IsNested) builds_nested (nested Name rules depth) (inner_nested depth) statement statement_roles w tree d

-- ---- the tokens of one expression

-- all that stands in no bracket is of one expression
abbrev is_whole : Nested → Bool
is_whole nothing = true
is_whole (token quiet t n) = is_whole n
is_whole (token operator t n) = is_whole n
is_whole (token s t n) = false
is_whole (bracket of_expression t inside z n) = is_whole n
is_whole (bracket of_others t inside z n) = false

whole_follow : (m n : Nested) → is_whole m ≡ true → is_whole n ≡ true → is_whole (follow m n) ≡ true
whole_follow nothing n h k = k
whole_follow (token quiet t m) n h k = whole_follow m n h k
whole_follow (token operator t m) n h k = whole_follow m n h k
whole_follow (token outside t m) n h k = cc
whole_follow (token fresh t m) n h k = cc
whole_follow (token part t m) n h k = cc
whole_follow (bracket of_expression t inside z m) n h k = whole_follow m n h k
whole_follow (bracket of_others t inside z m) n h k = cc

whole_first : (n : Nested) → is_whole n ≡ true → first_expression n ≡ n
whole_first nothing h = refl
whole_first (token quiet t m) h = ap (λ n. token quiet t n) (whole_first m h)
whole_first (token operator t m) h = ap (λ n. token operator t n) (whole_first m h)
whole_first (token outside t m) h = cc
whole_first (token fresh t m) h = cc
whole_first (token part t m) h = cc
whole_first (bracket of_expression t inside z m) h = ap (λ n. bracket of_expression t inside z n) (whole_first m h)
whole_first (bracket of_others t inside z m) h = cc

whole_others : (n : Nested) → is_whole n ≡ true → other_expressions n ≡ []
whole_others nothing h = refl
whole_others (token quiet t m) h = whole_others m h
whole_others (token operator t m) h = whole_others m h
whole_others (token outside t m) h = cc
whole_others (token fresh t m) h = cc
whole_others (token part t m) h = cc
whole_others (bracket of_expression t inside z m) h = whole_others m h
whole_others (bracket of_others t inside z m) h = cc

abbrev IsWhole : List Marked → Type 0
IsWhole w = (n : Nested) × (w ≡ flat n) × (is_whole n ≡ true)

single_whole : (m : Role) (t : Token) → may_stay_within m ≡ true → IsWhole (marked (stays m) t ∷ [])
single_whole role.Quiet t y = (token quiet t nothing, refl, refl)
single_whole role.Operator t y = (token operator t nothing, refl, refl)
single_whole _ t y = cc

around_whole : (A : Type 0) (m : Role) (n : Name A) (k : Role) (t z : Token) (w : List Marked) → may_enclose_within A m n k ≡ true → IsNested w → IsWhole (marked (opens m) t ∷ (w ++ marked (closes k) z ∷ []))
around_whole A role.Inward n role.Outward t z w y h = (bracket of_expression t h.0 z nothing, ap (λ v. marked (opens role.Inward) t ∷ (v ++ marked (closes role.Outward) z ∷ [])) h.1, refl)
around_whole A _ n _ t z w y h = cc

builds_whole : Builds Name may_stay_within may_enclose_within IsWhole (λ A n. IsNested)
builds_whole = record {
  none = (nothing, refl, refl);
  both = λ v w h k. (follow h.0 k.0, (ap (λ u. u ++ w) h.1 ∙ ap (λ u. flat h.0 ++ u) k.1) ∙ sym (flat_follow h.0 k.0), whole_follow h.0 k.0 h.2 k.2);
  single = single_whole;
  around = around_whole;
}

pub expression_nested : (depth : ℕ) (w : List Marked) (tree : Expr) → Expression depth w tree → (n : Nested) × (w ≡ flat n) × (outermost_expressions n ≡ n ∷ [])
expression_nested depth w tree d =
    let h = rule_law Name rules may_stay_within may_enclose_within IsWhole (λ A n. IsNested) builds_whole (nested Name rules depth) (inner_nested depth) expr expression_roles w tree d in
    (h.0, h.1, ap (λ n. n ∷ other_expressions h.0) (whole_first h.0 h.2) ∙ ap (λ more. h.0 ∷ more) (whole_others h.0 h.2))
