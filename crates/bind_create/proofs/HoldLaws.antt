-- What is only asked, and changes nothing that is declared.
use Rattle.std.proofs.Common.{◌≡◌, List, subst, Result, Ok, Err, inl, inr, ap, sym, ◌∙◌, ◌∷◌}
use Rattle.bind_create.specs.Meant.{Declares, declaring_of}
use Rattle.bind_create.specs.declared.columns.Declaring.{Declaring as DeclaringHere}
use Rattle.eng_value.specs.declared.cause.Cause.{Cause}
use Rattle.sql_bound.specs.Answers.{Answers}
use Rattle.bound_tree.specs.declared.units.BoundColumn.{BoundColumn}
use Rattle.sql_bound.specs.Creates.{Creating, Declaring, constraint_holds, in_turn, key_of, parts_are_there, with_constraint, with_primary, with_table_constraint}
use Rattle.sql_bound.specs.Targets.{in_check, in_default}
use Rattle.sql_tree.specs.declared.expr.Expr.{Expr}
use Rattle.sql_tree.specs.declared.statement.ColumnConstraint.TheVariants as column_constraint
use Rattle.sql_tree.specs.declared.statement.ColumnConstraint.{ColumnConstraint}
use Rattle.sql_tree.specs.declared.statement.IndexedColumn.{IndexedColumn}
use Rattle.sql_tree.specs.declared.statement.TableConstraint.TheVariants as table_constraint
use Rattle.sql_tree.specs.declared.statement.TableConstraint.{TableConstraint}
use Rattle.sql_bound.specs.Refusals.{Checked}
use Rattle.sql_words.specs.Refusals.{◌>>=◌}

abbrev keeping : {A : Type 0} → Declaring → A → Checked Declaring
keeping d a = Ok d

pub keeps : (d : DeclaringHere) (meant : Checked (Unit {0})) (r : Result (Unit {0}) Cause) → Answers meant r → Declares (meant >>= keeping (declaring_of d)) r d
keeps d meant (Ok u) is = ap (λ (c : Checked (Unit {0})). c >>= keeping (declaring_of d)) is
keeps d meant (Err why) (inl mem) = inl mem
keeps d meant (Err why) (inr is) = inr (ap (λ (c : Checked (Unit {0})). c >>= keeping (declaring_of d)) is)

-- ---- one more of those that code has

module _ {A : Type 0} (f : A → Declaring → Checked Declaring) (all rest : List A) (x : A) (d : Declaring) (whole : Checked Declaring) (so : whole ≡ in_turn f all d) (is : all ≡ x ∷ rest) where
  next-is : (r : Checked Declaring) → f x d ≡ r → whole ≡ (r >>= λ e. in_turn f rest e)
  next-is r h = so ∙ ap (λ (xs : List A). in_turn f xs d) is ∙ ap (λ (m : Checked Declaring). m >>= λ e. in_turn f rest e) h

  pub turn-refused : (why : Cause) → f x d ≡ Err why → whole ≡ Err why
  turn-refused why h = next-is (Err why) h

  pub turn-more : (e : Declaring) → f x d ≡ Ok e → whole ≡ in_turn f rest e
  turn-more e h = next-is (Ok e) h

-- ---- by kind

pub check-by : (c : Creating) (k : ColumnConstraint) (x : Expr) (d : DeclaringHere) (r : Result (Unit {0}) Cause)
    → k ≡ column_constraint.Check x → Declares (constraint_holds c in_check c.level x (declaring_of d)) r d → Declares (with_constraint c k (declaring_of d)) r d
check-by c k x d r is h = subst (λ m. Declares (with_constraint c m (declaring_of d)) r d) (sym is) h

pub default-by : (c : Creating) (k : ColumnConstraint) (x : Expr) (d : DeclaringHere) (r : Result (Unit {0}) Cause)
    → k ≡ column_constraint.Default x → Declares (constraint_holds c in_default c.level x (declaring_of d)) r d → Declares (with_constraint c k (declaring_of d)) r d
default-by c k x d r is h = subst (λ m. Declares (with_constraint c m (declaring_of d)) r d) (sym is) h

pub table-check-by : (c : Creating) (k : TableConstraint) (x : Expr) (d : DeclaringHere) (r : Result (Unit {0}) Cause)
    → k ≡ table_constraint.Check x → Declares (constraint_holds c in_check c.level x (declaring_of d)) r d → Declares (with_table_constraint c k (declaring_of d)) r d
table-check-by c k x d r is h = subst (λ m. Declares (with_table_constraint c m (declaring_of d)) r d) (sym is) h

pub table-unique-by : (c : Creating) (k : TableConstraint) (ps qs : List IndexedColumn) (d : DeclaringHere) (r : Result (Unit {0}) Cause)
    → k ≡ table_constraint.Unique ps → qs ≡ ps → Declares (key_of c qs (declaring_of d)) r d → Declares (with_table_constraint c k (declaring_of d)) r d
table-unique-by c k ps qs d r is same h =
    subst (λ m. Declares (with_table_constraint c m (declaring_of d)) r d) (sym is) (subst (λ (ps : List IndexedColumn). Declares (key_of c ps (declaring_of d)) r d) same h)

pub table-primary-by : (c : Creating) (k : TableConstraint) (ps qs : List IndexedColumn) (d e : DeclaringHere) (r : Result (Unit {0}) Cause)
    → k ≡ table_constraint.PrimaryKey ps → qs ≡ ps → with_primary c (declaring_of d) ≡ Ok (declaring_of e) → Declares (key_of c qs (declaring_of e)) r e
    → Declares (with_table_constraint c k (declaring_of d)) r e
table-primary-by c k ps qs d e r is same primary h =
    subst (λ m. Declares (with_table_constraint c m (declaring_of d)) r e) (sym is)
    (subst (λ (m : Checked Declaring). Declares (m >>= λ f. key_of c ps f) r e) (sym primary) (subst (λ (ps : List IndexedColumn). Declares (key_of c ps (declaring_of e)) r e) same h))

pub key-keeps : (c : Creating) (columns : List BoundColumn) (ps : List IndexedColumn) (d : DeclaringHere) (r : Result (Unit {0}) Cause)
    → columns ≡ c.columns → Answers (parts_are_there c.around.facts c.text columns ps) r → Declares (key_of c ps (declaring_of d)) r d
key-keeps c columns ps d r same h =
    keeps d (parts_are_there c.around.facts c.text c.columns ps) r (subst (λ (columns : List BoundColumn). Answers (parts_are_there c.around.facts c.text columns ps) r) same h)
