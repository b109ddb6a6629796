-- What the steps of binding an expression come to.
use Rattle.std.proofs.Common.{◌≡◌, ◌⊎◌, ◌∙◌, ℕ, ℤ, Bool, true, false, List, [], length, drop, Option, Some, None, Result, Ok, Err, ap, sym, inl, inr, if◌then◌else◌, codes, refl, rules}
use Rattle.eng_value.specs.declared.cause.Cause.{Cause}
use Rattle.eng_value.specs.declared.cause.Cause.TheVariants.{Mem, Misuse}
use Rattle.bound_tree.specs.Exprs as e
use Rattle.sql_words.specs.Names.{dotted}
use Rattle.sql_words.specs.Refusals.{◌>>=◌}
use Rattle.sql_tree.specs.declared.expr.Expr.{Expr, the_lemmas}
use Rattle.sql_tree.specs.declared.expr.Expr.TheVariants as expr
use Rattle.sql_tree.specs.declared.token.Token.{Token}
use Rattle.sql_bound.specs.Answers.{Answers, Becomes, Comes, Refuses}
use Rattle.eng_value.specs.declared.cause.Cause.TheVariants.{Unknown}
use Rattle.eng_value.specs.declared.cause.NameKind.TheVariants as kind
use Rattle.bind_callee.specs.Meant.{callee_meant}
use Rattle.bind_callee.specs.declared.called.Called.{Called}
use Rattle.bind_callee.specs.declared.called.Called.TheVariants as called
use Rattle.sql_tree.specs.declared.expr.Arguments.{Arguments}
use Rattle.sql_bound.specs.Callees.{may_call, takes_arity, without_filter}
use Rattle.sql_bound.specs.Carriers.{Expression}
use Rattle.sql_bound.specs.Columns.{called_column_bound, column_bound, name_shown, named_in, of_outer, of_own, seen, seen_or_unknown}
use Rattle.sql_bound.specs.Expressions.{all_bound, call_bound, function_bound, if_allowed, raise_bound, text_at}
use Rattle.sql_bound.specs.Operands.{host_call_of, over}
use Rattle.sql_bound.specs.Refusals.{Checked}
use Rattle.sql_bound.specs.Scopes.{Answer, Scope, called_in, nearest}
use Rattle.sql_bound.specs.Trees.{of_expr}
use Rattle.sql_bound.specs.declared.scopes.Operand.{Operand}
use Rattle.sql_bound.specs.declared.scopes.Sight.{Sight}
use Rattle.sql_bound.specs.declared.scopes.WithEntry.{WithEntry}
use Rattle.sql_bound.specs.declared.scopes.Work.{Work}
use Rattle.bind_query.specs.Scopes.{Levels, own_sight, plain_of, result_called, scope_of, without_results}
use Rattle.bind_query.specs.Where.{Where}
use Rattle.bind_query.proofs.NameLaws.{named-beside, named-refused, named-seen, no-result, result-there}
use Rattle.bind_query.proofs.ScopeLaws.{allowed-beside}

-- ---- results

pub comes-as : {A S : Type 0} (m n : Result (A × S) Cause) (r : Result A Cause) (new : S) → m ≡ n → Comes n r new → Comes m r new
comes-as m n (Ok a) new is h = is ∙ h
comes-as m n (Err why) new is (inl mem) = inl mem
comes-as m n (Err why) new is (inr h) = inr (is ∙ h)

pub comes-become : {A S : Type 0} (m : Result (A × S) Cause) (x : A × S) (r : Result A Cause) (new : S) → m ≡ Ok x → Becomes x r new → Comes m r new
comes-become m x (Ok a) new is h = is ∙ ap Ok h
comes-become m x (Err why) new is mem = inl mem

-- ---- names

module _ (w : Where) (ls : Levels) (ts : List WithEntry) (name : List ℕ) (work : Work) where
  allowed_column : (m : Answer Operand) → w.allowed.columns ≡ true → named_in ls (scope_of w ls ts) name work ≡ m → column_bound (scope_of w ls ts) name work ≡ m
  allowed_column m may is = ap (λ (b : Bool). if b then named_in ls (scope_of w ls ts) name work else Err (Misuse (name_shown ls name))) may ∙ is

  pub column-seen : (sight : Sight) (r : Result Operand Cause) (new : Work) → w.allowed.columns ≡ true → own_sight ls name ≡ Ok (Some sight)
      → Becomes (seen sight work) r new → Comes (column_bound (scope_of w ls ts) name work) r new
  column-seen sight r new may is h =
      comes-become (column_bound (scope_of w ls ts) name work) (seen sight work) r new (allowed_column (Ok (seen sight work)) may (named-seen ls (scope_of w ls ts) name work sight is)) h

  pub column-beside : (r : Result Operand Cause) (new : Work) → w.allowed.columns ≡ true → own_sight ls name ≡ Ok None
      → Comes (of_own None (scope_of w ls ts) name (drop 1 ls) work) r new → Comes (column_bound (scope_of w ls ts) name work) r new
  column-beside r new may is h =
      comes-as (column_bound (scope_of w ls ts) name work) (of_own None (scope_of w ls ts) name (drop 1 ls) work) r new
      (allowed_column (of_own None (scope_of w ls ts) name (drop 1 ls) work) may (named-beside ls (scope_of w ls ts) name work is)) h

  pub column-refused : (why : Cause) → w.allowed.columns ≡ true → (why ≡ Mem) ⊎ (own_sight ls name ≡ Err why)
      → (why ≡ Mem) ⊎ (column_bound (scope_of w ls ts) name work ≡ Err why)
  column-refused why may (inl mem) = inl mem
  column-refused why may (inr is) = inr (allowed_column (Err why) may (named-refused ls (scope_of w ls ts) name work why is))

  pub beside-there : (x : Expr) (p : Where) (r : Result Operand Cause) (new : Work) → p ≡ without_results w → result_called w.text w.results name ≡ Some x
      → Comes ((of_expr x).bound (scope_of p ls ts) work) r new → Comes (of_own None (scope_of w ls ts) name (drop 1 ls) work) r new
  beside-there x p r new plain is h =
      comes-as (of_own None (scope_of w ls ts) name (drop 1 ls) work) ((of_expr x).bound (scope_of p ls ts) work) r new
      (result-there w.text w.standing (plain_of w ls ts) w.results name (drop 1 ls) work x is ∙ ap (λ (q : Where). (of_expr x).bound (scope_of q ls ts) work) (sym plain)) h

  pub beside-none : (r : Result Operand Cause) (new : Work) → result_called w.text w.results name ≡ None
      → Comes (of_outer name (drop 1 ls) work) r new → Comes (of_own None (scope_of w ls ts) name (drop 1 ls) work) r new
  beside-none r new is h =
      comes-as (of_own None (scope_of w ls ts) name (drop 1 ls) work) (of_outer name (drop 1 ls) work) r new
      (no-result w.text w.standing (plain_of w ls ts) w.results name (drop 1 ls) work is) h

-- ---- RAISE

module _ (w : Where) (ls : Levels) (ts : List WithEntry) (work : Work) (x : Expr) (r : Result Operand Cause) where
  pub ignore-comes : x ≡ expr.RaiseIgnore → Answers (if_allowed w.allowed.raises (codes "RAISE") (Ok (over [] e.RaiseIgnore))) r
      → Comes ((of_expr x).bound (scope_of w ls ts) work) r work
  ignore-comes is h =
      comes-as ((of_expr x).bound (scope_of w ls ts) work) (raise_bound (scope_of w ls ts) e.RaiseIgnore work) r work
      (ap (λ (y : Expr). (of_expr y).bound (scope_of w ls ts) work) is ∙ step) (allowed-beside w.allowed.raises (codes "RAISE") (over [] e.RaiseIgnore) work r h)
    where
      step : (of_expr expr.RaiseIgnore).bound (scope_of w ls ts) work ≡ raise_bound (scope_of w ls ts) e.RaiseIgnore work
      step = search (rules, the_lemmas)

  pub abort-comes : (t : Token) → x ≡ expr.RaiseAbort t → Answers (if_allowed w.allowed.raises (codes "RAISE") (Ok (over [] (e.RaiseAbort (text_at w.text t))))) r
      → Comes ((of_expr x).bound (scope_of w ls ts) work) r work
  abort-comes t is h =
      comes-as ((of_expr x).bound (scope_of w ls ts) work) (raise_bound (scope_of w ls ts) (e.RaiseAbort (text_at w.text t)) work) r work
      (ap (λ (y : Expr). (of_expr y).bound (scope_of w ls ts) work) is ∙ step) (allowed-beside w.allowed.raises (codes "RAISE") (over [] (e.RaiseAbort (text_at w.text t))) work r h)
    where
      step : (of_expr (expr.RaiseAbort t)).bound (scope_of w ls ts) work ≡ raise_bound (scope_of w ls ts) (e.RaiseAbort (text_at w.text t)) work
      step = search (rules, the_lemmas)

-- ---- columns of an item that is named

module _ (w : Where) (ls : Levels) (ts : List WithEntry) (table name : List ℕ) (work : Work) (may : w.allowed.columns ≡ true) where
  called_is : (found : Checked (Option Sight)) → nearest name (called_in table name) ls ≡ found
      → called_column_bound (scope_of w ls ts) table name work ≡ (found >>= λ f. seen_or_unknown (dotted table name) f work)
  called_is found is =
      ap (λ (b : Bool). if b then (nearest name (called_in table name) ls >>= λ f. seen_or_unknown (dotted table name) f work) else Err (Misuse (name_shown ls name))) may
      ∙ ap (λ (m : Checked (Option Sight)). m >>= λ f. seen_or_unknown (dotted table name) f work) is

  pub called-seen : (sight : Sight) (r : Result Operand Cause) (new : Work) → nearest name (called_in table name) ls ≡ Ok (Some sight)
      → Becomes (seen sight work) r new → Comes (called_column_bound (scope_of w ls ts) table name work) r new
  called-seen sight r new is h = comes-become (called_column_bound (scope_of w ls ts) table name work) (seen sight work) r new (called_is (Ok (Some sight)) is) h

  pub called-unknown : (r : Result Operand Cause) → nearest name (called_in table name) ls ≡ Ok None
      → Refuses (Unknown kind.Column (dotted table name)) r → Comes (called_column_bound (scope_of w ls ts) table name work) r work
  called-unknown (Ok a) is h = absurd h
  called-unknown (Err why) is (inl mem) = inl mem
  called-unknown (Err why) is (inr same) = inr (called_is (Ok None) is ∙ ap Err (sym same))

  pub called-refused : (why : Cause) → (why ≡ Mem) ⊎ (nearest name (called_in table name) ls ≡ Err why)
      → (why ≡ Mem) ⊎ (called_column_bound (scope_of w ls ts) table name work ≡ Err why)
  called-refused why (inl mem) = inl mem
  called-refused why (inr is) = inr (called_is (Err why) is)

-- ---- functions of hosts

abbrev through : {A : Type 0} → Checked A → Checked (Unit {0}) → Checked A
through x (Ok u) = x
through x (Err why) = Err why

abbrev allowed : Bool → List ℕ → Checked (Unit {0})
allowed b name = if_allowed b name (Ok tt)

allowed-through : {A : Type 0} (b : Bool) (name : List ℕ) (x : Checked A) → allowed b name ≡ Ok tt → if_allowed b name x ≡ x
allowed-through true name x h = refl
allowed-through false name x h = ap (through x) h

module _ (s : Scope) (how : Arguments) (args : List Expression) (filter : Option Expression) (work : Work) where
  abbrev call_made : (List Operand → Operand) → List Operand × Work → Answer Operand
  call_made make xs = Ok (make xs.0, xs.1)

  pub host-refused : (b : Bool) (shown : List ℕ) (arity : ℤ) (make : List Operand → Operand) (why : Cause) → allowed b shown ≡ Ok tt
      → (name : List ℕ) → name ≡ shown → (passed : ℤ) → passed ≡ arity → (given : ℕ) → given ≡ length args
      → (why ≡ Mem) ⊎ (may_call name (takes_arity passed) how given ≡ Err why) → (why ≡ Mem) ⊎ (if_allowed b shown (function_bound s shown (takes_arity arity) make how args filter work) ≡ Err why)
  host-refused b shown arity make why may name same_name passed same given count (inl mem) = inl mem
  host-refused b shown arity make why may name same_name passed same given count (inr is) =
      inr
      (allowed-through b shown (function_bound s shown (takes_arity arity) make how args filter work) may
      ∙ ap (λ (m : Checked (Unit {0})). m >>= λ u. all_bound s args work >>= λ xs. without_filter shown filter >>= λ u. call_made make xs) (as_passed ∙ is))
    where
      as_passed : may_call shown (takes_arity arity) how (length args) ≡ may_call name (takes_arity passed) how given
      as_passed =
          ap (λ (n : List ℕ). may_call n (takes_arity arity) how (length args)) (sym same_name)
          ∙ ap (λ (a : ℤ). may_call name (takes_arity a) how (length args)) (sym same)
          ∙ ap (λ (g : ℕ). may_call name (takes_arity passed) how g) (sym count)

  pub host-called : (name : List ℕ) (d : Called) (shown : List ℕ) (arity : ℤ) (r : Result Operand Cause) (new : Work) → d ≡ called.HostFunction shown arity
      → (passed : ℤ) → passed ≡ arity
      → Comes (if_allowed s.outer.allowed.hosts shown (function_bound s shown (takes_arity passed) (host_call_of shown) how args filter work)) r new
      → Comes (call_bound s name (callee_meant d) how args filter work) r new
  host-called name d shown arity r new is passed same h =
      comes-as (call_bound s name (callee_meant d) how args filter work)
      (if_allowed s.outer.allowed.hosts shown (function_bound s shown (takes_arity passed) (host_call_of shown) how args filter work)) r new
      (ap (λ (x : Called). call_bound s name (callee_meant x) how args filter work) (is ∙ ap (called.HostFunction shown) (sym same))) h
