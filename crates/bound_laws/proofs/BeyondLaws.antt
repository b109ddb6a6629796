-- With an empty FROM beyond all others names stand for the same, and so do expressions whose parts do.
use Rattle.std.proofs.Common.{◌≡◌, ◌∙◌, ℕ, suc, Bool, true, false, ◌||◌, cond, List, [], ◌∷◌, ◌++◌, length, Option, Some, None, Ok, Err, refl, ap}
use Rattle.std.specs.Bool.{⊤}
use Rattle.std.specs.List.{AllByRecursion, flat_map, list_any}
use Rattle.eng_entry.specs.Names.{is_same_name}
use Rattle.eng_value.specs.declared.cause.Cause.TheVariants.{Misuse}
use Rattle.sql_tree.specs.declared.expr.Arguments.{Arguments}
use Rattle.sql_tree.specs.declared.expr.BinaryOp.{BinaryOp}
use Rattle.sql_tree.specs.declared.expr.Expr.TheOpen.{Expr-F}
use Rattle.sql_tree.specs.declared.expr.TypeName.{TypeName}
use Rattle.sql_tree.specs.declared.expr.UnaryOp.{UnaryOp}
use Rattle.sql_tree.specs.declared.token.Token.{Token}
use Rattle.sql_words.specs.Names.{dotted}
use Rattle.sql_words.specs.Refusals.{◌>>=◌}
use Rattle.sql_words.specs.Spelled.{name_at}
use Rattle.sql_bound.specs.Callees.{Aggregate, Aggregator, Callee, HostScalar, Nobody, Scalar, callee_of, may_aggregate, may_call}
use Rattle.sql_bound.specs.Carriers.{ArmParts, Binding, Expression, QueryBinding, QueryParts}
use Rattle.sql_bound.specs.Columns.{alias_named, called_column_bound, column_bound, further_out, if_columns, name_shown, named_in, of_alias, of_outer, of_own, seen_or_unknown}
use Rattle.sql_bound.specs.Expressions.{aggregate_bound, all_bound, any_holds, arm_holds, arms_bound, asked, bound_step, call_bound, function_bound, holds_step, if_allowed, option_bound, option_holds, query_asked, within_aggregate}
use Rattle.sql_bound.specs.Operands.{call_of, host_call_of}
use Rattle.sql_bound.specs.Refusals.{Checked}
use Rattle.sql_bound.specs.Scopes.{Alias, Level, Outer, Scope, UnitsAnswer, bare_in, called_in, counted_once, nearest, nearest_from, nearest_of}
use Rattle.bound_tree.specs.declared.units.BoundUnit.{BoundUnit}
use Rattle.sql_bound.specs.declared.scopes.Asked.{Asked}
use Rattle.sql_bound.specs.declared.scopes.Operand.{Operand}
use Rattle.sql_bound.specs.declared.scopes.ScopeColumn.{ScopeColumn}
use Rattle.sql_bound.specs.declared.scopes.ScopeItem.{ScopeItem}
use Rattle.sql_bound.specs.declared.scopes.Sight.{Sight}
use Rattle.sql_bound.specs.declared.scopes.Standing.{Standing}
use Rattle.sql_bound.specs.declared.scopes.Work.{Work}
use Rattle.bound_laws.specs.Views.{beyond}
use Rattle.bound_laws.proofs.Lists.{IfThere}

-- ---- answers whose parts are the same

pub alike_behind : {A B : Type 0} (m : Checked A) (f g : A → Checked B) → ((a : A) → f a ≡ g a) → (m >>= f) ≡ (m >>= g)
alike_behind (Ok a) f g each = each a
alike_behind (Err why) f g each = refl

pub alike : {A B : Type 0} (m n : Checked A) (f g : A → Checked B) → m ≡ n → ((a : A) → f a ≡ g a) → (m >>= f) ≡ (n >>= g)
alike m n f g same each = ap (λ x. x >>= f) same ∙ alike_behind n f g each

-- ---- what is the same

abbrev pub SameAnswers : Standing → Alias → Alias → Type 0
SameAnswers standing a b = (w : Work) → a.shown standing w ≡ b.shown standing w

-- results by the same names, which stand for the same
abbrev pub AliasesAlike : List Alias → List Alias → Type 0
AliasesAlike [] [] = ⊤
AliasesAlike (a ∷ as_) (b ∷ bs) = (a.name ≡ b.name) × ((standing : Standing) → SameAnswers standing a b) × AliasesAlike as_ bs
AliasesAlike as_ bs = ⊥

abbrev pub scope_beyond : Scope → List Alias → Scope
scope_beyond s others = record { outer = beyond s.outer; aliases = others; aggregates = s.aggregates }

abbrev pub Alike : Binding → Type 0
Alike b = (s : Scope) (others : List Alias) → AliasesAlike others s.aliases → (w : Work) → b (scope_beyond s others) w ≡ b s w

abbrev pub QueryAlike : QueryBinding → Type 0
QueryAlike b = (o : Outer) (units : List BoundUnit) → b (beyond o) units ≡ b o units

pub record ExprAlike (x : Expression) : Type 0 where
  pub bound : Alike x.bound
  pub holds : (o : Outer) → x.aggregates (beyond o) ≡ x.aggregates o

pub record ArmAlike (arm : ArmParts) : Type 0 where
  pub condition : ExprAlike arm.condition
  pub value : ExprAlike arm.value

-- ---- names

module _ (name : List ℕ) (candidates : Level → List ScopeColumn) (none : candidates [] ≡ []) where
  nearest_alike : (up : ℕ) (levels : List Level) → nearest_from up name candidates (levels ++ [] ∷ []) ≡ nearest_from up name candidates levels
  nearest_alike up [] = ap (λ (cs : List ScopeColumn). nearest_of name up cs (Ok None)) none
  nearest_alike up (level ∷ levels) = ap (nearest_of name up (candidates level)) (nearest_alike (suc up) levels)

nearest_is : (name : List ℕ) (candidates : ScopeItem → List ScopeColumn) (levels : List Level) → nearest name candidates (levels ++ [] ∷ []) ≡ nearest name candidates levels
nearest_is name candidates levels = nearest_alike name (λ level. counted_once (flat_map candidates level)) refl 0 levels

outer_alike : (name : List ℕ) (outer : List Level) (w : Work) → of_outer name (outer ++ [] ∷ []) w ≡ of_outer name outer w
outer_alike name outer w = ap (λ (m : Checked (Option Sight)). m >>= λ s. seen_or_unknown name (further_out s) w) (nearest_is name (bare_in name) outer)

alias_alike : (standing : Standing) (name : List ℕ) (outer : List Level) (w : Work) (as_ bs : List Alias) → AliasesAlike as_ bs
    → of_alias standing (alias_named name as_) name (outer ++ [] ∷ []) w ≡ of_alias standing (alias_named name bs) name outer w
alias_alike standing name outer w [] [] same = outer_alike name outer w
alias_alike standing name outer w [] (b ∷ bs) same = absurd same
alias_alike standing name outer w (a ∷ as_) [] same = absurd same
alias_alike standing name outer w (a ∷ as_) (b ∷ bs) same = ap (λ (n : List ℕ). of_alias standing (cond (is_same_name n name) (Some a) (alias_named name as_)) name (outer ++ [] ∷ []) w) same.0 ∙ go (is_same_name b.name name) (alias_alike standing name outer w as_ bs same.2) where
  go : (test : Bool) → of_alias standing (alias_named name as_) name (outer ++ [] ∷ []) w ≡ of_alias standing (alias_named name bs) name outer w
      → of_alias standing (cond test (Some a) (alias_named name as_)) name (outer ++ [] ∷ []) w ≡ of_alias standing (cond test (Some b) (alias_named name bs)) name outer w
  go true rest = same.1 standing w
  go false rest = rest

-- the same without a FROM, where the empty one is the own
alone_alike : (standing : Standing) (name : List ℕ) (w : Work) (as_ bs : List Alias) → AliasesAlike as_ bs → of_alias standing (alias_named name as_) name [] w ≡ of_alias standing (alias_named name bs) name [] w
alone_alike standing name w [] [] same = refl
alone_alike standing name w [] (b ∷ bs) same = absurd same
alone_alike standing name w (a ∷ as_) [] same = absurd same
alone_alike standing name w (a ∷ as_) (b ∷ bs) same = ap (λ (n : List ℕ). of_alias standing (cond (is_same_name n name) (Some a) (alias_named name as_)) name [] w) same.0 ∙ go (is_same_name b.name name) (alone_alike standing name w as_ bs same.2) where
  go : (test : Bool) → of_alias standing (alias_named name as_) name [] w ≡ of_alias standing (alias_named name bs) name [] w
      → of_alias standing (cond test (Some a) (alias_named name as_)) name [] w ≡ of_alias standing (cond test (Some b) (alias_named name bs)) name [] w
  go true rest = same.1 standing w
  go false rest = rest

module _ (s : Scope) (others : List Alias) (same : AliasesAlike others s.aliases) where
  own_alike : (sight : Option Sight) (name : List ℕ) (outer : List Level) (w : Work) → of_own sight (scope_beyond s others) name (outer ++ [] ∷ []) w ≡ of_own sight s name outer w
  own_alike None name outer w = alias_alike s.aggregates name outer w others s.aliases same
  own_alike (Some sight) name outer w = refl

  named_alike : (levels : List Level) (name : List ℕ) (w : Work) → named_in (levels ++ [] ∷ []) (scope_beyond s others) name w ≡ named_in levels s name w
  named_alike [] name w = alone_alike s.aggregates name w others s.aliases same
  named_alike (own ∷ outer) name w = alike_behind (nearest name (bare_in name) (own ∷ [])) _ _ (λ sight. own_alike sight name outer w)

  shown_alike : (levels : List Level) (name : List ℕ) → name_shown (levels ++ [] ∷ []) name ≡ name_shown levels name
  shown_alike [] name = refl
  shown_alike (own ∷ outer) name = refl

  if_alike : {A : Type 0} (name : List ℕ) (m n : Checked A) → m ≡ n → if_columns (scope_beyond s others) name m ≡ if_columns s name n
  if_alike name m n h = go s.outer.allowed.columns where
    go : (may : Bool) → cond may m (Err (Misuse (name_shown (s.outer.levels ++ [] ∷ []) name))) ≡ cond may n (Err (Misuse (name_shown s.outer.levels name)))
    go true = h
    go false = ap (λ (shown : List ℕ). Err (Misuse shown)) (shown_alike s.outer.levels name)

  column_alike : (name : List ℕ) (w : Work) → column_bound (scope_beyond s others) name w ≡ column_bound s name w
  column_alike name w = if_alike name _ _ (named_alike s.outer.levels name w)

  called_column_alike : (table name : List ℕ) (w : Work) → called_column_bound (scope_beyond s others) table name w ≡ called_column_bound s table name w
  called_column_alike table name w = if_alike name _ _ (ap (λ (m : Checked (Option Sight)). m >>= λ found. seen_or_unknown (dotted table name) found w) (nearest_is name (called_in table name) s.outer.levels))

  -- ---- expressions

  pub all_alike : (xs : List Expression) → AllByRecursion ExprAlike xs → (w : Work) → all_bound (scope_beyond s others) xs w ≡ all_bound s xs w
  all_alike [] all w = refl
  all_alike (x ∷ xs) all w = alike _ _ _ _ (all.0.bound s others same w) (λ a. alike _ _ _ _ (all_alike xs all.1 a.1) (λ more. refl))

  option_alike : (x : Option Expression) → IfThere ExprAlike x → (w : Work) → option_bound (scope_beyond s others) x w ≡ option_bound s x w
  option_alike None there w = refl
  option_alike (Some x) there w = alike _ _ _ _ (there.bound s others same w) (λ a. refl)

  arms_alike : (xs : List ArmParts) → AllByRecursion ArmAlike xs → (w : Work) → arms_bound (scope_beyond s others) xs w ≡ arms_bound s xs w
  arms_alike [] all w = refl
  arms_alike (arm ∷ xs) all w = alike _ _ _ _ (all.0.condition.bound s others same w) (λ c. alike _ _ _ _ (all.0.value.bound s others same c.1) (λ v. alike _ _ _ _ (arms_alike xs all.1 v.1) (λ more. refl)))

  function_alike : (name : List ℕ) (takes : ℕ → Bool) (make : List Operand → Operand) (how : Arguments) (xs : List Expression) (filter : Option Expression) → AllByRecursion ExprAlike xs → (w : Work)
      → function_bound (scope_beyond s others) name takes make how xs filter w ≡ function_bound s name takes make how xs filter w
  function_alike name takes make how xs filter all w = alike_behind (may_call name takes how (length xs)) _ _ (λ u. alike _ _ _ _ (all_alike xs all w) (λ args. refl))

  query_alike : (q : QueryParts) → QueryAlike q.bound → (w : Work) → query_asked (scope_beyond s others) q w ≡ query_asked s q w
  query_alike q h w = ap (λ (m : UnitsAnswer Asked). if_allowed s.outer.allowed.queries q.first_word (asked w m)) (h s.outer w.units)

aggregate_alike : (s : Scope) (others : List Alias) → AliasesAlike others s.aliases → (a : Aggregator) (how : Arguments) (xs : List Expression) (filter : Option Expression) → AllByRecursion ExprAlike xs → IfThere ExprAlike filter → (w : Work)
    → aggregate_bound (scope_beyond s others) a how xs filter w ≡ aggregate_bound s a how xs filter w
aggregate_alike s others same a how xs filter all there w =
    alike_behind (may_aggregate a s.aggregates how (length xs)) _ _ (λ u. alike _ _ _ _ (all_alike (within_aggregate s) others same xs all w) (λ args. alike _ _ _ _ (option_alike (within_aggregate s) others same filter there args.1) (λ f. refl)))

call_alike : (s : Scope) (others : List Alias) → AliasesAlike others s.aliases → (name : List ℕ) (callee : Callee) (how : Arguments) (xs : List Expression) (filter : Option Expression) → AllByRecursion ExprAlike xs → IfThere ExprAlike filter → (w : Work)
    → call_bound (scope_beyond s others) name callee how xs filter w ≡ call_bound s name callee how xs filter w
call_alike s others same name (Scalar shown f takes) how xs filter all there w = function_alike s others same shown takes (call_of f) how xs filter all w
call_alike s others same name (HostScalar shown takes) how xs filter all there w = ap (if_allowed s.outer.allowed.hosts shown) (function_alike s others same shown takes (host_call_of shown) how xs filter all w)
call_alike s others same name (Aggregate a) how xs filter all there w = aggregate_alike s others same a how xs filter all there w
call_alike s others same name Nobody how xs filter all there w = refl

-- ---- each kind

pub column_case : (t : Token) → Alike (bound_step (Expr-F.Column t))
column_case t s others same w = column_alike s others same (name_at s.outer.text t) w

pub table_column_case : (t c : Token) → Alike (bound_step (Expr-F.TableColumn t c))
table_column_case t c s others same w = called_column_alike s others same (name_at s.outer.text t) (name_at s.outer.text c) w

pub unary_case : (o : UnaryOp) (a : Expression) → ExprAlike a → Alike (bound_step (Expr-F.Unary o a))
unary_case o a ha s others same w = alike _ _ _ _ (ha.bound s others same w) (λ x. refl)

pub binary_case : (o : BinaryOp) (a b : Expression) → ExprAlike a → ExprAlike b → Alike (bound_step (Expr-F.Binary o a b))
binary_case o a b ha hb s others same w = alike _ _ _ _ (ha.bound s others same w) (λ x. alike _ _ _ _ (hb.bound s others same x.1) (λ y. refl))

pub between_case : (a b c : Expression) → ExprAlike a → ExprAlike b → ExprAlike c → Alike (bound_step (Expr-F.Between a b c))
between_case a b c ha hb hc s others same w = alike _ _ _ _ (ha.bound s others same w) (λ x. alike _ _ _ _ (hb.bound s others same x.1) (λ y. alike _ _ _ _ (hc.bound s others same y.1) (λ z. refl)))

pub like_case : (a b : Expression) (c : Option Expression) → ExprAlike a → ExprAlike b → IfThere ExprAlike c → Alike (bound_step (Expr-F.Like a b c))
like_case a b c ha hb hc s others same w = alike _ _ _ _ (ha.bound s others same w) (λ x. alike _ _ _ _ (hb.bound s others same x.1) (λ y. alike _ _ _ _ (option_alike s others same c hc y.1) (λ z. refl)))

pub in_case : (a : Expression) (xs : List Expression) → ExprAlike a → AllByRecursion ExprAlike xs → Alike (bound_step (Expr-F.In a xs))
in_case a xs ha all s others same w = alike _ _ _ _ (ha.bound s others same w) (λ x. alike _ _ _ _ (all_alike s others same xs all x.1) (λ ys. refl))

pub in_query_case : (a : Expression) (q : QueryParts) → ExprAlike a → QueryAlike q.bound → Alike (bound_step (Expr-F.InQuery a q))
in_query_case a q ha hq s others same w = alike _ _ _ _ (ha.bound s others same w) (λ x. alike _ _ _ _ (query_alike s others same q hq x.1) (λ r. refl))

pub scalar_case : (q : QueryParts) → QueryAlike q.bound → Alike (bound_step (Expr-F.Subquery q))
scalar_case q hq s others same w = alike _ _ _ _ (query_alike s others same q hq w) (λ r. refl)

pub exists_case : (q : QueryParts) → QueryAlike q.bound → Alike (bound_step (Expr-F.Exists q))
exists_case q hq s others same w = alike _ _ _ _ (query_alike s others same q hq w) (λ r. refl)

pub collate_case : (a : Expression) (t : Token) → ExprAlike a → Alike (bound_step (Expr-F.Collate a t))
collate_case a t ha s others same w = alike _ _ _ _ (ha.bound s others same w) (λ x. refl)

pub cast_case : (a : Expression) (t : TypeName) → ExprAlike a → Alike (bound_step (Expr-F.Cast a t))
cast_case a t ha s others same w = alike _ _ _ _ (ha.bound s others same w) (λ x. refl)

pub call_case : (t : Token) (how : Arguments) (xs : List Expression) (filter : Option Expression) → AllByRecursion ExprAlike xs → IfThere ExprAlike filter → Alike (bound_step (Expr-F.Call t how xs filter))
call_case t how xs filter all there s others same w = call_alike s others same (name_at s.outer.text t) (callee_of s.outer.around.facts (name_at s.outer.text t) how (length xs)) how xs filter all there w

pub case_case : (a : Option Expression) (those : List ArmParts) (c : Option Expression) → IfThere ExprAlike a → AllByRecursion ArmAlike those → IfThere ExprAlike c → Alike (bound_step (Expr-F.Case a those c))
case_case a those c ha all hc s others same w =
    alike _ _ _ _ (option_alike s others same a ha w) (λ x. alike _ _ _ _ (arms_alike s others same those all x.1) (λ ys. alike _ _ _ _ (option_alike s others same c hc ys.1) (λ z. refl)))

-- ---- whether an aggregate stands in them

pub either : (a b c d : Bool) → a ≡ c → b ≡ d → (a || b) ≡ (c || d)
either a b c d h k = ap (λ x. x || b) h ∙ ap (λ x. c || x) k

pub any_alike : (o : Outer) (xs : List Expression) → AllByRecursion ExprAlike xs → any_holds (beyond o) xs ≡ any_holds o xs
any_alike o [] all = refl
any_alike o (x ∷ xs) all = either _ _ _ _ (all.0.holds o) (any_alike o xs all.1)

pub if_holds : (o : Outer) (x : Option Expression) → IfThere ExprAlike x → option_holds (beyond o) x ≡ option_holds o x
if_holds o None there = refl
if_holds o (Some x) there = there.holds o

pub arms_hold : (o : Outer) (xs : List ArmParts) → AllByRecursion ArmAlike xs → list_any (arm_holds (beyond o)) xs ≡ list_any (arm_holds o) xs
arms_hold o [] all = refl
arms_hold o (arm ∷ xs) all = either _ _ _ _ (either _ _ _ _ (all.0.condition.holds o) (all.0.value.holds o)) (arms_hold o xs all.1)

pub case_holds : (o : Outer) (a : Option Expression) (those : List ArmParts) (c : Option Expression) → IfThere ExprAlike a → AllByRecursion ArmAlike those → IfThere ExprAlike c → holds_step (Expr-F.Case a those c) (beyond o) ≡ holds_step (Expr-F.Case a those c) o
case_holds o a those c ha all hc =
    either (option_holds (beyond o) a || list_any (arm_holds (beyond o)) those) (option_holds (beyond o) c) (option_holds o a || list_any (arm_holds o) those) (option_holds o c)
    (either (option_holds (beyond o) a) (list_any (arm_holds (beyond o)) those) (option_holds o a) (list_any (arm_holds o) those) (if_holds o a ha) (arms_hold o those all)) (if_holds o c hc)
