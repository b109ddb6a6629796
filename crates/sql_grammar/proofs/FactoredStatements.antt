-- The factored rules of definitions and of other statements derive what the written ones do.
use Rattle.std.proofs.Common.{◌≡◌, ℕ, true, false, List, [], ◌∷◌, ◌++◌, map, refl, ap}
use Rattle.sql_tree.specs.declared.statement.ColumnDefinition.{ColumnDefinition}
use Rattle.sql_tree.specs.declared.statement.TableConstraint.{TableConstraint}
use Rattle.sql_tree.specs.declared.token.TokenKind.{TokenKind}
use Rattle.sql_tree.specs.declared.token.TokenKind.TheVariants as kind
use Rattle.sql_grammar.specs.declared.counts.Role.{Role}
use Rattle.sql_grammar.specs.declared.counts.Role.TheVariants as role
use Rattle.sql_grammar.specs.Marks.{Marked}
use Rattle.sql_grammar.specs.Rules.{seq, many, to, derives}
use Rattle.sql_grammar.specs.Grammar.{Name, Of, after}
use Rattle.sql_grammar.specs.Bodies.{rules}
use Rattle.sql_grammar.specs.Definitions.{column, table_rule_of, table_constraint, Element, a_column, a_constraint, is_constraint, next_element, next_constraint, more_elements, columns_in, constraints_in, all_columns, named_definition, create}
use Rattle.sql_grammar.specs.Statements.{commit, to_savepoint, rollback, transaction, explained, explain}
use Rattle.sql_grammar.specs.Written as written
use Rattle.sql_grammar.proofs.Alike.{same, turned, ◌⊳◌, in_seq, in_to, in_over, in_alt, in_until, to_as, to_to, to_left, to_right, to_alt, to_pure, seq_assoc, alt_left, alt_assoc, alt_turned, many_to, until_apart, tok_or}
use Rattle.sql_grammar.proofs.FactoredExpressions.{◌≈◌, after_alt, after_to, maybe_right}

in_after : {A : Type 0} {m : Role} {k : TokenKind} {r s : Of A} → r ≈ s → after m k r ≈ after m k s
in_after p = in_to _ (in_seq same p)

-- ---- definitions

pub table_rule_is : table_rule_of ≈ written.table_rule_of
unfolding table_rule_of written.table_rule_of
table_rule_is = in_alt same (in_alt to_to same) ⊳ turned alt_assoc ⊳ in_alt (turned (in_to _ (alt_left ⊳ in_alt to_left to_left) ⊳ to_alt ⊳ in_alt to_to to_to)) same

columns_are : (cs : List ColumnDefinition) (ts : List TableConstraint) → columns_in (map a_column cs ++ map a_constraint ts) ≡ cs
columns_are [] [] = refl
columns_are [] (t ∷ ts) = columns_are [] ts
columns_are (c ∷ cs) ts = ap (λ (v : List ColumnDefinition). c ∷ v) (columns_are cs ts)

constraints_are : (cs : List ColumnDefinition) (ts : List TableConstraint) → constraints_in (map a_column cs ++ map a_constraint ts) ≡ ts
constraints_are [] [] = refl
constraints_are [] (t ∷ ts) = ap (λ (v : List TableConstraint). t ∷ v) (constraints_are [] ts)
constraints_are (c ∷ cs) ts = constraints_are cs ts

abbrev next_column : Of ColumnDefinition
next_column = after role.Outside kind.Comma column

abbrev next_rule : Of TableConstraint
next_rule = after role.Outside kind.Comma table_constraint

no_constraint : (d : ℕ) (w : List Marked) (x : Element) → derives Name rules d (to a_column next_column) w x → is_constraint x ≡ false
no_constraint d w x l = rw l.2 refl

some_constraint : (d : ℕ) (w : List Marked) (x : Element) → derives Name rules d (to a_constraint next_rule) w x → is_constraint x ≡ true
some_constraint d w x l = rw l.2 refl

more_elements_are : more_elements ≈ to (λ p. map a_column p.0 ++ map a_constraint p.1) (seq (many next_column) (many next_rule))
unfolding more_elements next_element next_constraint
more_elements_are =
    in_until (after_alt ⊳ in_alt after_to after_to) after_to
    ⊳ until_apart no_constraint some_constraint
    ⊳ in_to _ (in_seq many_to many_to ⊳ to_left ⊳ in_to _ to_right ⊳ to_to) ⊳ to_to

pub all_columns_are : all_columns ≈ written.all_columns
unfolding all_columns written.all_columns
all_columns_are =
    in_to _ (in_seq same more_elements_are ⊳ to_right) ⊳ to_to
    ⊳ to_as (λ p. rw (columns_are p.1.0 p.1.1, constraints_are p.1.0 p.1.1) refl)
    ⊳ turned (in_to _ (to_left ⊳ in_to _ seq_assoc ⊳ to_to) ⊳ to_to)

pub create_is : create ≈ written.create
unfolding create named_definition written.create
create_is = in_over _ (after_alt ⊳ in_alt same (after_alt ⊳ in_alt same (after_alt ⊳ in_alt same after_alt)))

-- ---- statements

pub explain_is : explain ≈ written.explain
unfolding explain explained written.explain
explain_is = in_alt (in_to _ (in_after (turned (to_alt ⊳ in_alt to_to to_pure)) ⊳ after_to)) same

pub transaction_is : transaction ≈ written.transaction
unfolding transaction commit to_savepoint rollback written.transaction
transaction_is = in_alt same (
    in_alt
    (in_to _ (in_seq tok_or same ⊳ alt_left) ⊳ to_alt ⊳ in_alt (turned to_to) (turned to_to))
    (in_alt (in_to _ (in_after maybe_right ⊳ after_alt ⊳ in_alt after_to after_to) ⊳ to_alt ⊳ in_alt to_to to_to ⊳ alt_turned) same ⊳ alt_assoc)
    ⊳ alt_assoc
    )
