-- Expressions: the names in them are looked up from left to right, and the first refusal counts (SQL Language Expressions).
use Rattle.std.specs.Prelude.{ℕ, Bool, true, false, ◌||◌, List, [], ◌∷◌, ◌++◌, length, Option, Some, None, Ok, Err, unwrap_or, if◌then◌else◌, codes}
use Rattle.std.specs.List.{list_any}
use Rattle.eng_value.specs.declared.cause.Cause.TheVariants.{Arity, Misuse, Unknown}
use Rattle.eng_value.specs.declared.cause.NameKind.TheVariants as kind
use Rattle.eng_value.specs.declared.collation.Collation.TheVariants as collation
use Rattle.eng_value.specs.declared.collation.Collation.{Collation}
use Rattle.eng_value.specs.declared.operators.BinaryOperator.TheVariants as binary
use Rattle.sql_lex.specs.Tokens.{slice_of}
use Rattle.sql_tree.specs.Kinds.{same_kind}
use Rattle.sql_tree.specs.declared.expr.Arguments.{Arguments}
use Rattle.sql_tree.specs.declared.expr.BinaryOp.TheVariants as op
use Rattle.sql_tree.specs.declared.expr.Expr.TheOpen.{Expr-F}
use Rattle.sql_tree.specs.declared.token.Token.{Token}
use Rattle.sql_tree.specs.declared.token.TokenKind.TheVariants as token
use Rattle.sql_words.specs.Collations.{collation_named}
use Rattle.sql_words.specs.Refusals.{◌>>=◌}
use Rattle.sql_words.specs.Types.{affinity_of_type}
use Rattle.sql_words.specs.Spelled.{as_text, inside, name_at, undoubled}
use Rattle.bound_tree.specs.Exprs as e
use Rattle.bound_tree.specs.Exprs.{BoundExpr}
use Rattle.bound_tree.specs.declared.units.BoundAggregate.{BoundAggregate}
use Rattle.sql_bound.specs.Callees.{Aggregate, Aggregator, Callee, HostScalar, Nobody, Scalar, callee_of, is_aggregate, is_distinct, may_aggregate, may_call, without_filter}
use Rattle.sql_bound.specs.Carriers.{ArmLayer, ArmParts, Binding, ExprLayer, Expression, Name, Number, Other, QueryParts, Term}
use Rattle.sql_bound.specs.Columns.{called_column_bound, column_bound}
use Rattle.sql_bound.specs.Operands.{binary_of, between_of, call_of, case_of, cast_of, collated, collation_of_arguments, host_call_of, in_of, like_of, literal_operand, option_list, over, result_operand, sides_of, trees_of, unary_of}
use Rattle.sql_bound.specs.Refusals.{Checked}
use Rattle.sql_bound.specs.Scopes.{Answer, Facts, Outer, Scope, UnitsAnswer, handed}
use Rattle.sql_bound.specs.declared.scopes.ArmOperands.{ArmOperands}
use Rattle.sql_bound.specs.declared.scopes.Asked.{Asked}
use Rattle.sql_bound.specs.declared.scopes.Operand.{Operand}
use Rattle.sql_bound.specs.declared.scopes.ResultColumn.{ResultColumn}
use Rattle.sql_bound.specs.declared.scopes.Standing.TheVariants.{Nowhere}
use Rattle.sql_bound.specs.declared.scopes.Work.{Work}

-- ---- parts in turn

abbrev pub all_bound : Scope → List Expression → Work → Answer (List Operand)
all_bound s [] w = Ok ([], w)
all_bound s (x ∷ xs) w = x.bound s w >>= λ a. all_bound s xs a.1 >>= λ more. Ok (a.0 ∷ more.0, more.1)

abbrev pub option_bound : Scope → Option Expression → Work → Answer (Option Operand)
option_bound s None w = Ok (None, w)
option_bound s (Some x) w = x.bound s w >>= λ a. Ok (Some a.0, a.1)

abbrev pub arms_bound : Scope → List ArmParts → Work → Answer (List ArmOperands)
arms_bound s [] w = Ok ([], w)
arms_bound s (arm ∷ arms) w =
    arm.condition.bound s w >>= λ c. arm.value.bound s c.1 >>= λ v. arms_bound s arms v.1 >>= λ more.
    Ok (record { condition = c.0; value = v.0 } ∷ more.0, more.1)

-- ---- what may not stand everywhere

abbrev pub if_allowed : {A : Type 0} → Bool → List ℕ → Checked A → Checked A
if_allowed true name answer = answer
if_allowed false name answer = Err (Misuse name)

abbrev pub parameter_bound : Scope → Token → Work → Answer Operand
parameter_bound s t w = if_allowed s.outer.allowed.parameters (codes "?") (Ok (over [] (e.Parameter (unwrap_or t.parameter 0)), w))

abbrev pub raise_bound : Scope → BoundExpr → Work → Answer Operand
raise_bound s tree w = if_allowed s.outer.allowed.raises (codes "RAISE") (Ok (over [] tree, w))

-- the text of a literal
abbrev pub text_at : List ℕ → Token → List ℕ
text_at text t = as_text (undoubled 0x27 (inside (slice_of text t)))

-- ---- queries: what they need is handed over, and what they give of one column has one

abbrev pub asked : Work → UnitsAnswer Asked → Answer (Asked × List BoundExpr)
asked w answer = answer >>= λ a. let h = handed a.0.needs (record w { units = a.1 }) in Ok ((a.0, h.0), h.1)

abbrev pub query_asked : Scope → QueryParts → Work → Answer (Asked × List BoundExpr)
query_asked s q w = if_allowed s.outer.allowed.queries q.first_word (asked w (q.bound s.outer w.units))

abbrev pub one_column : List ℕ → List ResultColumn → Checked ResultColumn
one_column word (c ∷ []) = Ok c
one_column word columns = Err (Arity word)

abbrev pub exists_bound : Scope → QueryParts → Work → Answer Operand
exists_bound s q w = query_asked s q w >>= λ a. Ok (over [] (e.Exists a.0.0.unit a.0.1), a.1)

abbrev pub scalar_bound : Scope → QueryParts → Work → Answer Operand
scalar_bound s q w = query_asked s q w >>= λ a. one_column q.first_word a.0.0.columns >>= λ c. Ok (over [] (e.Scalar a.0.0.unit a.0.1), a.1)

-- it compares as `x = y` with the query's column y
abbrev pub in_query_of : Operand → ResultColumn → ℕ → List BoundExpr → Operand
in_query_of x c unit arguments = over (x ∷ []) (e.InQuery (sides_of x (result_operand x.tree c)) x.tree unit arguments)

abbrev pub in_query_bound : Scope → Operand → QueryParts → Work → Answer Operand
in_query_bound s x q w = query_asked s q w >>= λ a. one_column q.first_word a.0.0.columns >>= λ c. Ok (in_query_of x c a.0.0.unit a.0.1, a.1)

-- ---- COLLATE: a collation that is built in, or one of a host

abbrev pub host_collation : List ℕ → Option ℕ → Checked Collation
host_collation name None = Err (Unknown kind.Collation name)
host_collation name (Some place) = Ok (collation.Host place)

abbrev pub collation_or_host : Facts → List ℕ → Option Collation → Checked Collation
collation_or_host facts name None = host_collation name (facts.collation name)
collation_or_host facts name (Some c) = Ok c

abbrev pub collation_called : Facts → List ℕ → Checked Collation
collation_called facts name = collation_or_host facts name (collation_named name)

-- ---- calls

abbrev pub function_bound : Scope → List ℕ → (ℕ → Bool) → (List Operand → Operand) → Arguments → List Expression → Option Expression → Work → Answer Operand
function_bound s name takes_count make how args filter w =
    may_call name takes_count how (length args) >>= λ u. all_bound s args w >>= λ xs. without_filter name filter >>= λ u. Ok (make xs.0, xs.1)

-- within an aggregate no other may stand
abbrev pub within_aggregate : Scope → Scope
within_aggregate s = record s { aggregates = Nowhere }

abbrev pub option_tree : Option Operand → Option BoundExpr
option_tree None = None
option_tree (Some a) = Some a.tree

abbrev pub aggregate_of : Aggregator → Arguments → List Operand → Option Operand → BoundAggregate
aggregate_of a how args filter =
    record { kind = a.kind; distinct = is_distinct how; collation = collation_of_arguments args; arguments = trees_of args; filter = option_tree filter }

-- the next slot of the core
abbrev pub with_aggregate : BoundAggregate → Work → Work
with_aggregate a w = record w { aggregates = w.aggregates ++ a ∷ [] }

abbrev pub aggregate_bound : Scope → Aggregator → Arguments → List Expression → Option Expression → Work → Answer Operand
aggregate_bound s a how args filter w =
    may_aggregate a s.aggregates how (length args) >>= λ u. all_bound (within_aggregate s) args w >>= λ xs.
    option_bound (within_aggregate s) filter xs.1 >>= λ f.
    Ok (over (xs.0 ++ option_list f.0) (e.Aggregate (length f.1.aggregates)), with_aggregate (aggregate_of a how xs.0 f.0) f.1)

abbrev pub call_bound : Scope → List ℕ → Callee → Arguments → List Expression → Option Expression → Work → Answer Operand
call_bound s name (Scalar shown f takes_count) how args filter w = function_bound s shown takes_count (call_of f) how args filter w
call_bound s name (HostScalar shown takes_count) how args filter w =
    if_allowed s.outer.allowed.hosts shown (function_bound s shown takes_count (host_call_of shown) how args filter w)
call_bound s name (Aggregate a) how args filter w = aggregate_bound s a how args filter w
call_bound s name Nobody how args filter w = Err (Unknown kind.Function name)

-- ---- every expression

abbrev pub bound_step : ExprLayer → Binding
bound_step (Expr-F.Literal t) s w = Ok (literal_operand s.outer.text t, w)
bound_step (Expr-F.Parameter t) s w = parameter_bound s t w
bound_step (Expr-F.Column t) s w = column_bound s (name_at s.outer.text t) w
bound_step (Expr-F.TableColumn t c) s w = called_column_bound s (name_at s.outer.text t) (name_at s.outer.text c) w
bound_step (Expr-F.Unary o a) s w = a.bound s w >>= λ x. Ok (unary_of o x.0, x.1)
bound_step (Expr-F.Binary o a b) s w = a.bound s w >>= λ x. b.bound s x.1 >>= λ y. Ok (binary_of o x.0 y.0, y.1)
bound_step (Expr-F.Between a b c) s w = a.bound s w >>= λ x. b.bound s x.1 >>= λ y. c.bound s y.1 >>= λ z. Ok (between_of x.0 y.0 z.0, z.1)
bound_step (Expr-F.Like a b c) s w = a.bound s w >>= λ x. b.bound s x.1 >>= λ y. option_bound s c y.1 >>= λ z. Ok (like_of x.0 y.0 z.0, z.1)
bound_step (Expr-F.In a others) s w = a.bound s w >>= λ x. all_bound s others x.1 >>= λ ys. Ok (in_of x.0 ys.0, ys.1)
bound_step (Expr-F.InQuery a q) s w = a.bound s w >>= λ x. in_query_bound s x.0 q x.1
bound_step (Expr-F.Subquery q) s w = scalar_bound s q w
bound_step (Expr-F.Exists q) s w = exists_bound s q w
bound_step (Expr-F.Collate a t) s w = a.bound s w >>= λ x. collation_called s.outer.around.facts (name_at s.outer.text t) >>= λ c. Ok (collated c x.0, x.1)
bound_step (Expr-F.Cast a t) s w = a.bound s w >>= λ x. Ok (cast_of (affinity_of_type s.outer.text t) x.0, x.1)
bound_step (Expr-F.Call t how args filter) s w =
    call_bound s (name_at s.outer.text t) (callee_of s.outer.around.facts (name_at s.outer.text t) how (length args)) how args filter w
bound_step (Expr-F.Case a arms otherwise) s w =
    option_bound s a w >>= λ x. arms_bound s arms x.1 >>= λ ys. option_bound s otherwise ys.1 >>= λ z. Ok (case_of x.0 ys.0 z.0, z.1)
bound_step Expr-F.RaiseIgnore s w = raise_bound s e.RaiseIgnore w
bound_step (Expr-F.RaiseAbort t) s w = raise_bound s (e.RaiseAbort (text_at s.outer.text t)) w

-- ---- whether an aggregate stands in it, outside its queries

abbrev pub any_holds : Outer → List Expression → Bool
any_holds o xs = list_any (λ (x : Expression). x.aggregates o) xs

abbrev pub option_holds : Outer → Option Expression → Bool
option_holds o None = false
option_holds o (Some x) = x.aggregates o

abbrev pub arm_holds : Outer → ArmParts → Bool
arm_holds o arm = arm.condition.aggregates o || arm.value.aggregates o

abbrev pub calls_aggregate : Outer → Token → Arguments → ℕ → Bool
calls_aggregate o t how given = is_aggregate (callee_of o.around.facts (name_at o.text t) how given)

abbrev pub holds_step : ExprLayer → Outer → Bool
holds_step (Expr-F.Literal t) o = false
holds_step (Expr-F.Parameter t) o = false
holds_step (Expr-F.Column t) o = false
holds_step (Expr-F.TableColumn t c) o = false
holds_step (Expr-F.Unary u a) o = a.aggregates o
holds_step (Expr-F.Binary b x y) o = x.aggregates o || y.aggregates o
holds_step (Expr-F.Between a b c) o = a.aggregates o || b.aggregates o || c.aggregates o
holds_step (Expr-F.Like a b c) o = a.aggregates o || b.aggregates o || option_holds o c
holds_step (Expr-F.In a others) o = a.aggregates o || any_holds o others
holds_step (Expr-F.InQuery a q) o = a.aggregates o
holds_step (Expr-F.Subquery q) o = false
holds_step (Expr-F.Exists q) o = false
holds_step (Expr-F.Collate a t) o = a.aggregates o
holds_step (Expr-F.Cast a t) o = a.aggregates o
holds_step (Expr-F.Call t how args filter) o = calls_aggregate o t how (length args) || any_holds o args || option_holds o filter
holds_step (Expr-F.Case a arms otherwise) o = option_holds o a || list_any (arm_holds o) arms || option_holds o otherwise
holds_step Expr-F.RaiseIgnore o = false
holds_step (Expr-F.RaiseAbort t) o = false

-- ---- what it is as a term

abbrev pub literal_term : Token → Term
literal_term t = if same_kind t.kind token.Number then Number t else Other

abbrev pub term_step : ExprLayer → Term
term_step (Expr-F.Literal t) = literal_term t
term_step (Expr-F.Column t) = Name t
term_step other = Other

-- ---- a condition is split at its ANDs

abbrev pub split_by : (BoundExpr → List BoundExpr) → (BoundExpr → List BoundExpr) → BoundExpr → List BoundExpr
split_by left right (e.Binary binary.And a b) = left a ++ right b
split_by left right tree = tree ∷ []

-- what a name of a result stands for is one condition
abbrev pub conjuncts_step : ExprLayer → BoundExpr → List BoundExpr
conjuncts_step (Expr-F.Binary op.And a b) tree = split_by a.conjuncts b.conjuncts tree
conjuncts_step other tree = tree ∷ []

abbrev pub expr_step : ExprLayer → Expression
expr_step x = record { bound = bound_step x; conjuncts = conjuncts_step x; aggregates = holds_step x; term = term_step x }

abbrev pub arm_step : ArmLayer → ArmParts
arm_step arm = record { condition = arm.condition; value = arm.value }
