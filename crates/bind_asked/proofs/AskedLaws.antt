-- What was bound and asked about is what the definitions say of it.
use Rattle.std.proofs.Common.{◌≡◌, inl, inr, ℕ, List, [], Option, Some, None, Result, Ok, Err, refl, sym, subst}
use Rattle.eng_entry.specs.Entries.{Entries}
use Rattle.eng_value.specs.HostMeanings.{IsTold, verdict_of}
use Rattle.eng_value.specs.declared.authorizing.Action.{Action}
use Rattle.eng_value.specs.declared.authorizing.Verdict.{Verdict}
use Rattle.bound_tree.specs.declared.statements.BoundStatement.{BoundStatement}
use Rattle.bound_actions.specs.Statements.{actions_of}
use Rattle.eng_value.specs.declared.cause.Cause.{Cause}
use Rattle.sql_bound.specs.Statements.{bound_of}
use Rattle.sql_tree.specs.declared.statement.Statement.{Statement}
use Rattle.sql_meaning.proofs.ValidLaws.{if_built-ok}
use Rattle.sql_meaning.specs.Built.{is_built}
use Rattle.sql_meaning.specs.Declarations.{tables_of}
use Rattle.sql_meaning.specs.Permits.{Permit, asked_as, permit_of, permitted}
use Rattle.sql_meaning.specs.Running.{if_built, runnable_of}
use Rattle.sql_meaning.specs.Statement.{around}
use Rattle.bind_stmt.specs.Binds.{AnswersBy, Binds, IsBound, IsRefusal}
use Rattle.bind_stmt.specs.declared.statement.Bound.{Bound}
use Rattle.bind_stmt.proofs.Whole.{bound_so, denied, no-memory}

-- what was said is what may be said, where it is what an authorizer says that tells
pub as-said : (told : Option (Option (Action → Verdict))) (p : Permit) (b : BoundStatement) → (IsTold told → p ≡ permit_of (verdict_of told) (actions_of b)) → asked_as told p b ≡ p
as-said None p b said = sym (said tt)
as-said (Some None) p b said = refl
as-said (Some (Some says)) p b said = sym (said (says, refl))

-- what a refusal of names and of actions comes to
module _ (told : Option (Option (Action → Verdict))) (catalog : Entries) (number : ℕ) (text : List ℕ) (s : Statement) where
  abbrev names : Result BoundStatement Cause
  names = if_built (is_built text s) (bound_of (around catalog) text s)

  pub permit-refused : (b : BoundStatement) (p : Permit) (why : Cause) → names ≡ Ok b → IsRefusal (permitted b (asked_as told p b)) why → Binds (asked_as told p) catalog number text s (Err why)
  permit-refused b p why named (inl mem) = subst (λ k. Binds (asked_as told p) catalog number text s (Err k)) (sym mem) (no-memory (asked_as told p) catalog number text s)
  permit-refused b p why named (inr is) =
      let w = if_built-ok (is_built text s) (bound_of (around catalog) text s) b named in denied (asked_as told p) catalog number text s b why w.0 w.1 is

  pub permit-binds : (b allowed : BoundStatement) (p : Permit) (r : Result Bound Cause) → catalog.triggers ≡ [] → names ≡ Ok b → permitted b (asked_as told p b) ≡ Ok allowed
      → AnswersBy IsBound (runnable_of (tables_of catalog) number text s allowed) r → Binds (asked_as told p) catalog number text s r
  permit-binds b allowed p r none named may runs =
      let w = if_built-ok (is_built text s) (bound_of (around catalog) text s) b named in bound_so (asked_as told p) catalog number text s b allowed r none w.0 w.1 may runs
