-- What the steps of binding DEFAULT and CHECK come to.
use Rattle.std.proofs.Common.{◌≡◌, ◌⊎◌, ◌∙◌, ℕ, List, [], ◌∷◌, ◌++◌, map, None, Result, Ok, Err, IfOk, ap, sym, inl, inr, refl}
use Rattle.std.specs.List.{flat_map}
use Rattle.bind_query.specs.Scopes.{Levels, around_of, in_text, scope_of}
use Rattle.bind_query.specs.Where.{Where}
use Rattle.bind_write.specs.Turns.{check_bound, in_turn}
use Rattle.bind_write.proofs.TurnLaws.{checks-turn, turn-both}
use Rattle.bound_tree.specs.Exprs.{BoundExpr}
use Rattle.eng_entry.specs.Entries.{Entries}
use Rattle.eng_value.specs.declared.cause.Cause.{Cause}
use Rattle.eng_value.specs.declared.cause.Cause.TheVariants.{Mem}
use Rattle.sql_bound.specs.Answers.{Goes, OnlyMem}
use Rattle.sql_bound.specs.Declarations.{DeclaredColumn, checks_of, declared_column, declared_table, table_checks}
use Rattle.sql_bound.specs.Scopes.{Answer, Around, Facts, Level}
use Rattle.sql_bound.specs.Targets.{checks_bound, constraint_bound, in_check}
use Rattle.sql_bound.specs.Trees.{of_expr}
use Rattle.sql_bound.specs.declared.facts.HostFacts.{HostFacts}
use Rattle.sql_bound.specs.declared.scopes.Allowed.{Allowed}
use Rattle.sql_bound.specs.declared.scopes.Operand.{Operand}
use Rattle.sql_bound.specs.declared.scopes.Work.{Work}
use Rattle.sql_words.specs.Refusals.{◌>>=◌}
use Rattle.sql_tree.specs.declared.expr.Expr.{Expr}
use Rattle.sql_tree.specs.declared.statement.ColumnDefinition.{ColumnDefinition}
use Rattle.sql_tree.specs.declared.statement.TableConstraint.{TableConstraint}
use Rattle.sql_tree.specs.declared.statement.TableDefinition.{TableDefinition}

-- ---- a constraint's expression

module _ (catalog : Entries) (facts : HostFacts) (text : List ℕ) (level : Level) (allowed : Allowed) (x : Expr) (w : Work) where
  abbrev inside : Where
  inside = in_text text None catalog facts allowed

  abbrev tree_of : Operand × Work → Answer BoundExpr
  tree_of a = Ok (a.0.tree, a.1)

  module _ (scope : Where) (ls : Levels) (is : scope ≡ inside) (all : ls ≡ level ∷ []) where
    constraint-at : (r : Answer Operand) → (of_expr x).bound (scope_of scope ls []) w ≡ r → constraint_bound (around_of inside) text level allowed (of_expr x) w ≡ (r >>= λ a. tree_of a)
    constraint-at r h =
        ap (λ (s : Where). (of_expr x).bound (scope_of s (level ∷ []) []) w >>= λ a. tree_of a) (sym is)
        ∙ ap (λ (l : Levels). (of_expr x).bound (scope_of scope l []) w >>= λ a. tree_of a) (sym all)
        ∙ ap (λ (m : Answer Operand). m >>= λ a. tree_of a) h

    pub constraint-refused : (why : Cause) → (why ≡ Mem) ⊎ ((of_expr x).bound (scope_of scope ls []) w ≡ Err why)
        → (why ≡ Mem) ⊎ (constraint_bound (around_of inside) text level allowed (of_expr x) w ≡ Err why)
    constraint-refused why (inl mem) = inl mem
    constraint-refused why (inr h) = inr (constraint-at (Err why) h)

    pub constraint-made : (a : Operand) (new : Work) → (of_expr x).bound (scope_of scope ls []) w ≡ Ok (a, new)
        → constraint_bound (around_of inside) text level allowed (of_expr x) w ≡ Ok (a.tree, new)
    constraint-made a new h = constraint-at (Ok (a, new)) h

-- ---- a CHECK

module _ (around : Around) (text : List ℕ) (level own : Level) (same : own ≡ level) (xs : List Expr) (x : Expr) (only : xs ≡ x ∷ []) (checks : List BoundExpr) (w : Work) where
  abbrev put_behind : BoundExpr × Work → Answer (List BoundExpr)
  put_behind a = Ok (checks ++ a.0 ∷ [], a.1)

  check-one : (r : Answer BoundExpr) → constraint_bound around text own in_check (of_expr x) w ≡ r → in_turn (check_bound around text level) xs checks w ≡ (r >>= λ a. put_behind a)
  check-one r h =
      ap (λ (ys : List Expr). in_turn (check_bound around text level) ys checks w) only
      ∙ ap (λ (l : Level). constraint_bound around text l in_check (of_expr x) w >>= λ a. put_behind a) (sym same)
      ∙ ap (λ (m : Answer BoundExpr). m >>= λ a. put_behind a) h

  pub check-refused : (why : Cause) → (why ≡ Mem) ⊎ (constraint_bound around text own in_check (of_expr x) w ≡ Err why)
      → (why ≡ Mem) ⊎ (in_turn (check_bound around text level) xs checks w ≡ Err why)
  check-refused why (inl mem) = inl mem
  check-refused why (inr h) = inr (check-one (Err why) h)

  pub check-put : (b : BoundExpr) (t : Work) → constraint_bound around text own in_check (of_expr x) w ≡ Ok (b, t)
      → (r : Result (Unit {0}) Cause) (new : List BoundExpr) → IfOk r (λ done. new ≡ checks ++ b ∷ []) → OnlyMem r
      → Goes (in_turn (check_bound around text level) xs checks w) r new t
  check-put b t h (Ok done) new put mem = check-one (Ok (b, t)) h ∙ ap (λ (ys : List BoundExpr). Ok (ys, t)) (sym put)
  check-put b t h (Err why) new put mem = inl mem

-- ---- the CHECKs of a table

flat-of-map : {A B C : Type 0} (g : B → List C) (h : A → B) (xs : List A) → flat_map g (map h xs) ≡ flat_map (λ x. g (h x)) xs
flat-of-map g h [] = refl
flat-of-map g h (x ∷ xs) = ap (λ ys. g (h x) ++ ys) (flat-of-map g h xs)

module _ (around : Around) (facts : Facts) (text : List ℕ) (level : Level) (t : TableDefinition) (w : Work) where
  abbrev of_columns : List ColumnDefinition → List Expr
  of_columns columns = flat_map (λ (d : ColumnDefinition). checks_of d.constraints) columns

  abbrev of_table : List BoundExpr × Work → Answer (List BoundExpr)
  of_table m = in_turn (check_bound around text level) (table_checks t.constraints) m.0 m.1

  checks-split : checks_bound around text level (declared_table facts text t).checks w ≡ (in_turn (check_bound around text level) (of_columns t.columns) [] w >>= λ m. of_table m)
  checks-split =
      checks-turn around text level (declared_table facts text t).checks w
      ∙ ap (λ (xs : List Expr). in_turn (check_bound around text level) (xs ++ table_checks t.constraints) [] w) (flat-of-map (λ (d : DeclaredColumn). d.checks) (declared_column facts text) t.columns)
      ∙ turn-both (check_bound around text level) (of_columns t.columns) (table_checks t.constraints) [] w

  module _ (columns : List ColumnDefinition) (each : columns ≡ t.columns) (none : List BoundExpr) (begins : none ≡ []) where
    checks-after : (r : Answer (List BoundExpr)) → in_turn (check_bound around text level) (of_columns columns) none w ≡ r
        → checks_bound around text level (declared_table facts text t).checks w ≡ (r >>= λ m. of_table m)
    checks-after r h =
        checks-split
        ∙ ap (λ (cs : List ColumnDefinition). in_turn (check_bound around text level) (of_columns cs) [] w >>= λ m. of_table m) (sym each)
        ∙ ap (λ (so_far : List BoundExpr). in_turn (check_bound around text level) (of_columns columns) so_far w >>= λ m. of_table m) (sym begins)
        ∙ ap (λ (m : Answer (List BoundExpr)). m >>= λ n. of_table n) h

    pub columns-refused : (why : Cause) → (why ≡ Mem) ⊎ (in_turn (check_bound around text level) (of_columns columns) none w ≡ Err why)
        → (why ≡ Mem) ⊎ (checks_bound around text level (declared_table facts text t).checks w ≡ Err why)
    columns-refused why (inl mem) = inl mem
    columns-refused why (inr h) = inr (checks-after (Err why) h)

    module _ (some : List BoundExpr) (next : Work) (so : in_turn (check_bound around text level) (of_columns columns) none w ≡ Ok (some, next)) (constraints : List TableConstraint) (all : constraints ≡ t.constraints) where
      table-at : (r : Answer (List BoundExpr)) → in_turn (check_bound around text level) (table_checks constraints) some next ≡ r → checks_bound around text level (declared_table facts text t).checks w ≡ r
      table-at r h = checks-after (Ok (some, next)) so ∙ ap (λ (cs : List TableConstraint). in_turn (check_bound around text level) (table_checks cs) some next) (sym all) ∙ h

      pub table-refused : (why : Cause) → (why ≡ Mem) ⊎ (in_turn (check_bound around text level) (table_checks constraints) some next ≡ Err why)
          → (why ≡ Mem) ⊎ (checks_bound around text level (declared_table facts text t).checks w ≡ Err why)
      table-refused why (inl mem) = inl mem
      table-refused why (inr h) = inr (table-at (Err why) h)

      pub checks-made : (made : List BoundExpr) (new : Work) → in_turn (check_bound around text level) (table_checks constraints) some next ≡ Ok (made, new)
          → checks_bound around text level (declared_table facts text t).checks w ≡ Ok (made, new)
      checks-made made new h = table-at (Ok (made, new)) h
