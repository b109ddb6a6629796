-- What columns and constraints of a table read, in the steps of the code.
use Rattle.std.proofs.Common.{◌≡◌, ◌≢◌, ℕ, length, true, false, if◌then◌else◌, List, [], ◌∷◌, ◌++◌, append_assoc, append-nil, refl, sym, ap, ◌∙◌, arith}
use Rattle.sql_tree.specs.declared.statement.ColumnDefinition.{ColumnDefinition}
use Rattle.sql_tree.specs.declared.statement.TableConstraint.{TableConstraint}
use Rattle.sql_tree.specs.declared.token.Token.{Token}
use Rattle.sql_tree.specs.declared.token.TokenKind.TheVariants as kind
use Rattle.sql_grammar.specs.declared.counts.Counts.{Counts}
use Rattle.sql_grammar.specs.declared.counts.Role.TheVariants as role
use Rattle.sql_grammar.specs.Rules.{many, first, starts, reads, one, Parser, Outcome, Done, Stop, ◌>>=◌}
use Rattle.sql_grammar.specs.Grammar.{Name, names}
use Rattle.sql_grammar.specs.Bodies.{rules}
use Rattle.sql_grammar.specs.Definitions.{Element, a_column, a_constraint, is_constraint, column, table_constraint, columns_in, constraints_in, next_element, next_constraint, more_elements, all_columns}
use Rattle.sql_grammar.proofs.ReadingLaws.{chosen, other}
use Rattle.sql_grammar.proofs.Whole.{many_is, until_is}
use Rattle.sql_grammar.proofs.Clear.{clear, rich}
use Rattle.parse_cursor.proofs.Steps.{both_to, three_to, after_is}
use Rattle.parse_create.specs.Elements.{with_elements, elements_behind, element_behind, columns_with, constraints_with, behind_comma}
use Rattle.parse_create.specs.Parts.{column_type, column_constraints}
use Rattle.parse_create.proofs.Clear.{more_elements_clear, next_constraints_clear, first_column}

pub column_is : (d : ℕ) (c : Counts) (ts : List Token) → reads Name rules d column c ts ≡ (one role.Quiet names c ts >>= λ n e rest. reads Name rules d column_type e rest >>= λ t f mid. reads Name rules d column_constraints f mid >>= λ cs g end. Done (record { name = n; type_name = t; constraints = cs }) g end)
unfolding column column_type column_constraints
column_is d c ts = three_to (one role.Quiet names) (reads Name rules d column_type) (reads Name rules d column_constraints) (λ p. record { name = p.0; type_name = p.1.0; constraints = p.1.1 }) c ts

pub columns_is : (d : ℕ) (c : Counts) (ts : List Token) → reads Name rules d all_columns c ts ≡ (reads Name rules d column c ts >>= λ a e rest. with_elements (a ∷ []) [] (reads Name rules d (elements_behind []) e rest))
unfolding all_columns elements_behind
columns_is d c ts = both_to (reads Name rules d column) (reads Name rules d more_elements) (λ p. record { columns = p.0 ∷ columns_in p.1; constraints = constraints_in p.1 }) c ts

-- ---- one more

abbrev add_one : Element → Outcome (List Element) → Outcome (List Element)
add_one a o = o >>= λ found e end. Done (a ∷ found) e end

add_to : (columns : List ColumnDefinition) (constraints : List TableConstraint) (a : Element) (o : Outcome (List Element)) → with_elements columns constraints (add_one a o) ≡ with_elements (columns_with columns a) (constraints_with constraints a) o
add_to columns constraints (a_column x) (Done found e end) = ap (λ (l : List ColumnDefinition). Done (record { columns = l; constraints = constraints ++ constraints_in found }) e end) (sym (append_assoc columns (x ∷ []) (columns_in found)))
add_to columns constraints (a_constraint x) (Done found e end) = ap (λ (l : List TableConstraint). Done (record { columns = columns ++ columns_in found; constraints = l }) e end) (sym (append_assoc constraints (x ∷ []) (constraints_in found)))
add_to columns constraints a (Stop w end) = refl

-- what comes after one
abbrev rest_behind : (d : ℕ) (constraints : List TableConstraint) → Element → Parser (List Element)
rest_behind d [] a c ts = if is_constraint a then reads Name rules d (many next_constraint) c ts else reads Name rules d more_elements c ts
rest_behind d (k ∷ ks) a c ts = reads Name rules d (many next_constraint) c ts

rest_is : (d : ℕ) (constraints : List TableConstraint) (a : Element) (c : Counts) (ts : List Token) → rest_behind d constraints a c ts ≡ reads Name rules d (elements_behind (constraints_with constraints a)) c ts
unfolding elements_behind
rest_is d [] (a_column x) c ts = refl
rest_is d [] (a_constraint x) c ts = refl
rest_is d (k ∷ ks) (a_column x) c ts = refl
rest_is d (k ∷ ks) (a_constraint x) c ts = refl

module _ (columns : List ColumnDefinition) (constraints : List TableConstraint) (d : ℕ) where
  after_element : (o : Outcome Element) → with_elements columns constraints (o >>= λ a e rest. add_one a (rest_behind d constraints a e rest))
      ≡ (o >>= λ a e rest. with_elements (columns_with columns a) (constraints_with constraints a) (reads Name rules d (elements_behind (constraints_with constraints a)) e rest))
  after_element (Done a e rest) = add_to columns constraints a (rest_behind d constraints a e rest) ∙ ap (with_elements (columns_with columns a) (constraints_with constraints a)) (rest_is d constraints a e rest)
  after_element (Stop w rest) = refl

  after_comma : (o : Outcome Token) → with_elements columns constraints ((o >>= λ t e rest. reads Name rules d (element_behind constraints) e rest) >>= λ a e rest. add_one a (rest_behind d constraints a e rest))
      ≡ (o >>= λ t e rest. behind_comma columns constraints d e rest)
  unfolding behind_comma
  after_comma (Done t e rest) = after_element (reads Name rules d (element_behind constraints) e rest)
  after_comma (Stop w rest) = refl

pub elements_next : (columns : List ColumnDefinition) (constraints : List TableConstraint) (d : ℕ) (c : Counts) (ts : List Token) → starts (kind.Comma ∷ []) ts ≡ true
    → with_elements columns constraints (reads Name rules d (elements_behind constraints) c ts) ≡ (one role.Outside (kind.Comma ∷ []) c ts >>= λ t e rest. behind_comma columns constraints d e rest)
unfolding elements_behind element_behind more_elements next_element next_constraint
elements_next columns [] d c ts here =
    ap (with_elements columns []) (until_is Name rules clear rich next_element next_constraint is_constraint more_elements_clear d c ts ∙ chosen _ _ _ here)
    ∙ ap (λ (o : Outcome Element). with_elements columns [] (o >>= λ a e rest. add_one a (rest_behind d [] a e rest))) (after_is role.Outside kind.Comma (element_behind []) d c ts)
    ∙ after_comma columns [] d (one role.Outside (kind.Comma ∷ []) c ts)
elements_next columns (k ∷ ks) d c ts here =
    ap (with_elements columns (k ∷ ks)) (many_is Name rules clear rich next_constraint next_constraints_clear d c ts ∙ chosen _ _ _ here)
    ∙ ap (λ (o : Outcome Element). with_elements columns (k ∷ ks) (o >>= λ a e rest. add_one a (rest_behind d (k ∷ ks) a e rest))) (after_is role.Outside kind.Comma (element_behind (k ∷ ks)) d c ts)
    ∙ after_comma columns (k ∷ ks) d (one role.Outside (kind.Comma ∷ []) c ts)

pub elements_end : (columns : List ColumnDefinition) (constraints : List TableConstraint) (d : ℕ) (c : Counts) (ts : List Token) → starts (kind.Comma ∷ []) ts ≡ false
    → with_elements columns constraints (reads Name rules d (elements_behind constraints) c ts) ≡ Done (record { columns = columns; constraints = constraints }) c ts
unfolding elements_behind more_elements next_element next_constraint
elements_end columns [] d c ts none =
    ap (with_elements columns []) (until_is Name rules clear rich next_element next_constraint is_constraint more_elements_clear d c ts ∙ other _ _ _ none)
    ∙ ap (λ (l : List ColumnDefinition). Done (record { columns = l; constraints = [] }) c ts) (append-nil columns)
elements_end columns (k ∷ ks) d c ts none =
    ap (with_elements columns (k ∷ ks)) (many_is Name rules clear rich next_constraint next_constraints_clear d c ts ∙ other _ _ _ none)
    ∙ ap (λ (l : List ColumnDefinition). Done (record { columns = l; constraints = (k ∷ ks) ++ [] }) c ts) (append-nil columns)
    ∙ ap (λ (l : List TableConstraint). Done (record { columns = columns; constraints = l }) c ts) (append-nil (k ∷ ks))

-- ---- a column, or a constraint

pub behind_column : (columns : List ColumnDefinition) (constraints : List TableConstraint) (d : ℕ) (c : Counts) (ts : List Token) → length constraints ≡ 0 → starts names ts ≡ true
    → behind_comma columns constraints d c ts ≡ (reads Name rules d column c ts >>= λ x e rest. with_elements (columns ++ x ∷ []) constraints (reads Name rules d (elements_behind constraints) e rest))
unfolding behind_comma element_behind
behind_column columns [] d c ts empty here = ap (λ (o : Outcome Element). o >>= λ a e rest. with_elements (columns_with columns a) (constraints_with [] a) (reads Name rules d (elements_behind (constraints_with [] a)) e rest)) (chosen (starts (first column) ts) _ _ (rw first_column here)) ∙ word (reads Name rules d column c ts) where
  word : (o : Outcome ColumnDefinition) → ((o >>= λ x e rest. Done (a_column x) e rest) >>= λ a e rest. with_elements (columns_with columns a) (constraints_with [] a) (reads Name rules d (elements_behind (constraints_with [] a)) e rest))
      ≡ (o >>= λ x e rest. with_elements (columns ++ x ∷ []) [] (reads Name rules d (elements_behind []) e rest))
  word (Done x e rest) = refl
  word (Stop w rest) = refl
behind_column columns (k ∷ ks) d c ts empty here = absurd (omega arith)

-- what comes of a constraint
constraint_word : (columns : List ColumnDefinition) (constraints : List TableConstraint) (d : ℕ) (o : Outcome TableConstraint)
    → ((o >>= λ x e rest. Done (a_constraint x) e rest) >>= λ a e rest. with_elements (columns_with columns a) (constraints_with constraints a) (reads Name rules d (elements_behind (constraints_with constraints a)) e rest))
    ≡ (o >>= λ x e rest. with_elements columns (constraints ++ x ∷ []) (reads Name rules d (elements_behind (constraints ++ x ∷ [])) e rest))
constraint_word columns constraints d (Done x e rest) = refl
constraint_word columns constraints d (Stop w rest) = refl

pub behind_first : (columns : List ColumnDefinition) (constraints : List TableConstraint) (d : ℕ) (c : Counts) (ts : List Token) → length constraints ≡ 0 → starts names ts ≡ false
    → behind_comma columns constraints d c ts ≡ (reads Name rules d table_constraint c ts >>= λ x e rest. with_elements columns (constraints ++ x ∷ []) (reads Name rules d (elements_behind (constraints ++ x ∷ [])) e rest))
unfolding behind_comma element_behind
behind_first columns [] d c ts empty none = ap (λ (o : Outcome Element). o >>= λ a e rest. with_elements (columns_with columns a) (constraints_with [] a) (reads Name rules d (elements_behind (constraints_with [] a)) e rest)) (other (starts (first column) ts) _ _ (rw first_column none)) ∙ constraint_word columns [] d (reads Name rules d table_constraint c ts)
behind_first columns (k ∷ ks) d c ts empty none = absurd (omega arith)

pub behind_other : (columns : List ColumnDefinition) (constraints : List TableConstraint) (d : ℕ) (c : Counts) (ts : List Token) → length constraints ≢ 0
    → behind_comma columns constraints d c ts ≡ (reads Name rules d table_constraint c ts >>= λ x e rest. with_elements columns (constraints ++ x ∷ []) (reads Name rules d (elements_behind (constraints ++ x ∷ [])) e rest))
unfolding behind_comma element_behind
behind_other columns [] d c ts some = absurd (some refl)
behind_other columns (k ∷ ks) d c ts some = constraint_word columns (k ∷ ks) d (reads Name rules d table_constraint c ts)

pub ruleset elements_steps = (columns_is, elements_next, elements_end, behind_column, behind_first, behind_other)
