-- A table that is created, from what it declares.
use Rattle.std.proofs.Common.{◌≡◌, ℕ, List, [], Option, Result, Ok, Err, subst, refl, ap, sym, ◌∙◌}
use Rattle.bind_create.specs.Meant.{level_with}
use Rattle.bind_create.specs.Steps.{nothing_declared, table_with}
use Rattle.bound_tree.specs.declared.statements.BoundCreation.{BoundCreation}
use Rattle.bound_tree.specs.declared.statements.ThingKind.TheVariants.{ATable}
use Rattle.bound_tree.specs.declared.units.BoundColumn.{BoundColumn}
use Rattle.eng_value.specs.declared.cause.Cause.{Cause}
use Rattle.sql_bound.specs.Answers.{Answers}
use Rattle.sql_bound.specs.Creates.{Creating, Declaring, creating, creation_of, in_turn, table_created, with_column, with_table_constraint}
use Rattle.sql_bound.specs.Declarations.{bound_columns, declared_table}
use Rattle.sql_bound.specs.Refusals.{Checked}
use Rattle.sql_bound.specs.Scopes.{Around, Level}
use Rattle.sql_words.specs.Refusals.{◌>>=◌}
use Rattle.sql_tree.specs.declared.statement.TableDefinition.{TableDefinition}

abbrev giving : {A B : Type 0} → B → A → Checked B
giving b a = Ok b

behind : {B : Type 0} (b : B) (r : Checked Declaring) → (r >>= giving b) ≡ ((r >>= giving (tt {0})) >>= giving b)
behind b (Ok e) = refl
behind b (Err why) = refl

both : {B : Type 0} (b : B) (m : Checked Declaring) (n : Declaring → Checked Declaring) → (m >>= λ d. n d >>= giving b) ≡ ((m >>= λ d. n d >>= giving (tt {0})) >>= giving b)
both b (Ok d) n = behind b (n d)
both b (Err why) n = refl

pub table-by : (around : Around) (text name : List ℕ) (t : TableDefinition) (c : Creating) (r : Result BoundCreation Cause)
    → c ≡ creating around text name t → Answers (table_with c t) r → Answers (table_created around text name t) r
table-by around text name t c r is h =
    subst (λ (m : Checked BoundCreation). Answers m r)
    (ap (λ (d : Creating). table_with d t) is
    ∙ sym (both (creation_of ATable name []) (in_turn (with_column (creating around text name t)) t.columns nothing_declared) (in_turn (with_table_constraint (creating around text name t)) t.constraints)))
    h

-- ---- what it is created in

abbrev pub created_in : Around → List ℕ → List ℕ → Level → List BoundColumn → Creating
created_in around text name level columns = record { around = around; text = text; name = name; level = level; columns = columns }

pub creating-is : (around : Around) (text name : List ℕ) (t : TableDefinition) (level : Level) (columns : List BoundColumn) (rowid : Option ℕ)
    → columns ≡ bound_columns (declared_table around.facts text t).columns → rowid ≡ (declared_table around.facts text t).rowid → level ≡ level_with name columns rowid
    → created_in around text name level columns ≡ creating around text name t
creating-is around text name t level columns rowid cs rows is =
    ap (λ (l : Level). created_in around text name l columns) is
    ∙ ap (λ (ds : List BoundColumn). created_in around text name (level_with name ds rowid) ds) cs
    ∙ ap (λ (r : Option ℕ). created_in around text name (level_with name (bound_columns (declared_table around.facts text t).columns) r) (bound_columns (declared_table around.facts text t).columns)) rows
