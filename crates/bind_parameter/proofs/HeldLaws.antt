-- Whether a parameter stands in a tree, clause by clause.
use Rattle.std.proofs.Common.{◌≡◌, ◌<◌, ◌≤◌, ◌+◌, ℕ, Bool, true, false, ◌||◌, List, [], ◌∷◌, map, Option, Some, None, get_or, length, drop, add-one, drop-cons, refl, sym, ap, ◌∙◌}
use Rattle.std.proofs.lemmas.List.{drop_all}
use Rattle.std.specs.Option.{option_map}
use Rattle.std.specs.List.{list_any}
use Rattle.sql_tree.specs.declared.expr.Arguments.{Arguments}
use Rattle.sql_tree.specs.declared.expr.BinaryOp.{BinaryOp}
use Rattle.sql_tree.specs.declared.expr.UnaryOp.{UnaryOp}
use Rattle.sql_tree.specs.declared.expr.TypeName.{TypeName}
use Rattle.sql_tree.specs.declared.token.Token.{Token}
use Rattle.sql_tree.specs.declared.token.Span.{Span}
use Rattle.sql_tree.specs.declared.query.CompoundOp.{CompoundOp}
use Rattle.sql_tree.specs.declared.query.Join.{Join}
use Rattle.sql_tree.specs.declared.query.NullsOrder.{NullsOrder}
use Rattle.sql_tree.specs.declared.expr.Expr.{Expr, fold-roll-Expr}
use Rattle.sql_tree.specs.declared.expr.Arm.{Arm, fold-roll-Arm, roll-Arm}
use Rattle.sql_tree.specs.declared.query.JoinConstraint.{JoinConstraint, fold-roll-JoinConstraint, roll-JoinConstraint}
use Rattle.sql_tree.specs.declared.query.QueryPart.{QueryPart, fold-roll-QueryPart, roll-QueryPart}
use Rattle.sql_tree.specs.declared.query.ResultColumn.{ResultColumn, fold-roll-ResultColumn, roll-ResultColumn}
use Rattle.sql_tree.specs.declared.query.Source.{Source, fold-roll-Source, roll-Source}
use Rattle.sql_tree.specs.declared.query.CommonTable.{CommonTable, fold-roll-CommonTable, roll-CommonTable}
use Rattle.sql_tree.specs.declared.query.CompoundPart.{CompoundPart, fold-roll-CompoundPart, roll-CompoundPart}
use Rattle.sql_tree.specs.declared.query.FromItem.{FromItem, fold-roll-FromItem, roll-FromItem}
use Rattle.sql_tree.specs.declared.query.OrderingTerm.{OrderingTerm, fold-roll-OrderingTerm, roll-OrderingTerm}
use Rattle.sql_tree.specs.declared.query.RowLimit.{RowLimit, fold-roll-RowLimit, roll-RowLimit}
use Rattle.sql_tree.specs.declared.query.SelectCore.{SelectCore, fold-roll-SelectCore, out-SelectCore, roll-SelectCore, roll-out-SelectCore}
use Rattle.sql_tree.specs.declared.query.SpannedExpr.{SpannedExpr, fold-roll-SpannedExpr, roll-SpannedExpr}
use Rattle.sql_tree.specs.declared.query.Query.{Query, fold-roll-Query, out-Query, roll-Query, roll-out-Query}
use Rattle.sql_tree.specs.declared.expr.Expr.TheVariants.{rolls-Literal, rolls-Parameter, rolls-Column, rolls-TableColumn, rolls-Unary, rolls-Binary, rolls-Between, rolls-Like, rolls-In, rolls-InQuery, rolls-Subquery, rolls-Exists, rolls-Collate, rolls-Cast, rolls-Call, rolls-Case, rolls-RaiseIgnore, rolls-RaiseAbort}
use Rattle.sql_tree.specs.declared.expr.Expr.TheVariants as x
use Rattle.sql_tree.specs.declared.query.JoinConstraint.TheVariants.{rolls-Unconstrained, rolls-On, rolls-Using}
use Rattle.sql_tree.specs.declared.query.JoinConstraint.TheVariants as joinconstraint
use Rattle.sql_tree.specs.declared.query.QueryPart.TheVariants.{rolls-Select, rolls-Values}
use Rattle.sql_tree.specs.declared.query.QueryPart.TheVariants as querypart
use Rattle.sql_tree.specs.declared.query.ResultColumn.TheVariants.{rolls-All, rolls-AllOf, rolls-Expression}
use Rattle.sql_tree.specs.declared.query.ResultColumn.TheVariants as resultcolumn
use Rattle.sql_tree.specs.declared.query.Source.TheVariants.{rolls-Table, rolls-Derived}
use Rattle.sql_tree.specs.declared.query.Source.TheVariants as source
use Rattle.sql_bound.specs.Parameters.{any, any_of, expr_has_parameter, query_has_parameter, some}
use Rattle.bind_parameter.specs.Held.{arm_has, constraint_has, part_has, result_has, source_has, table_has, compound_has, item_has, term_has, limit_has, core_has, spanned_has}

-- one of the parts
any-map : {X : Type 0} (f : X → Bool) (xs : List X) → any (map f xs) ≡ list_any f xs
any-map f [] = refl
any-map f (x ∷ xs) = rw (any-map f xs) refl

any-rows : (rows : List (List Expr)) → list_any any (map (map expr_has_parameter) rows) ≡ list_any (list_any expr_has_parameter) rows
any-rows [] = refl
any-rows (row ∷ rows) = rw (any-map expr_has_parameter row, any-rows rows) refl

-- the arguments of a table, if it has some
abbrev pub arguments_have : Option (List Expr) → Bool
arguments_have None = false
arguments_have (Some args) = list_any expr_has_parameter args

pub has-Literal : (t : Token) → expr_has_parameter (x.Literal t) ≡ (false)
has-Literal t = rw (← rolls-Literal t, fold-roll-Expr) refl

pub has-Parameter : (t : Token) → expr_has_parameter (x.Parameter t) ≡ (true)
has-Parameter t = rw (← rolls-Parameter t, fold-roll-Expr) refl

pub has-Column : (t : Token) → expr_has_parameter (x.Column t) ≡ (false)
has-Column t = rw (← rolls-Column t, fold-roll-Expr) refl

pub has-TableColumn : (t : Token) (c : Token) → expr_has_parameter (x.TableColumn t c) ≡ (false)
has-TableColumn t c = rw (← rolls-TableColumn t c, fold-roll-Expr) refl

pub has-Unary : (u : UnaryOp) (a : Expr) → expr_has_parameter (x.Unary u a) ≡ (expr_has_parameter a)
has-Unary u a = rw (← rolls-Unary u a, fold-roll-Expr) refl

pub has-Binary : (u : BinaryOp) (a : Expr) (b : Expr) → expr_has_parameter (x.Binary u a b) ≡ (expr_has_parameter a || expr_has_parameter b)
has-Binary u a b = rw (← rolls-Binary u a b, fold-roll-Expr) refl

pub has-Between : (a : Expr) (b : Expr) (c : Expr) → expr_has_parameter (x.Between a b c) ≡ (expr_has_parameter a || expr_has_parameter b || expr_has_parameter c)
has-Between a b c = rw (← rolls-Between a b c, fold-roll-Expr) refl

pub has-Like : (a : Expr) (b : Expr) (c : Option Expr) → expr_has_parameter (x.Like a b c) ≡ (expr_has_parameter a || expr_has_parameter b || some (option_map expr_has_parameter c))
has-Like a b None = rw (← rolls-Like a b None, fold-roll-Expr) refl
has-Like a b (Some c) = rw (← rolls-Like a b (Some c), fold-roll-Expr) refl

pub has-In : (a : Expr) (others : List Expr) → expr_has_parameter (x.In a others) ≡ (expr_has_parameter a || list_any expr_has_parameter others)
has-In a others = rw (← rolls-In a others, fold-roll-Expr, any-map expr_has_parameter others) refl

pub has-InQuery : (a : Expr) (q : Query) → expr_has_parameter (x.InQuery a q) ≡ (expr_has_parameter a || query_has_parameter q)
has-InQuery a q = rw (← rolls-InQuery a q, fold-roll-Expr) refl

pub has-Subquery : (q : Query) → expr_has_parameter (x.Subquery q) ≡ (query_has_parameter q)
has-Subquery q = rw (← rolls-Subquery q, fold-roll-Expr) refl

pub has-Exists : (q : Query) → expr_has_parameter (x.Exists q) ≡ (query_has_parameter q)
has-Exists q = rw (← rolls-Exists q, fold-roll-Expr) refl

pub has-Collate : (a : Expr) (t : Token) → expr_has_parameter (x.Collate a t) ≡ (expr_has_parameter a)
has-Collate a t = rw (← rolls-Collate a t, fold-roll-Expr) refl

pub has-Cast : (a : Expr) (t : TypeName) → expr_has_parameter (x.Cast a t) ≡ (expr_has_parameter a)
has-Cast a t = rw (← rolls-Cast a t, fold-roll-Expr) refl

pub has-Call : (t : Token) (how : Arguments) (args : List Expr) (filter : Option Expr) → expr_has_parameter (x.Call t how args filter) ≡ (list_any expr_has_parameter args || some (option_map expr_has_parameter filter))
has-Call t how args None = rw (← rolls-Call t how args None, fold-roll-Expr, any-map expr_has_parameter args) refl
has-Call t how args (Some filter) = rw (← rolls-Call t how args (Some filter), fold-roll-Expr, any-map expr_has_parameter args) refl

pub has-Case : (a : Option Expr) (arms : List Arm) (otherwise : Option Expr) → expr_has_parameter (x.Case a arms otherwise) ≡ (some (option_map expr_has_parameter a) || list_any arm_has arms || some (option_map expr_has_parameter otherwise))
has-Case None arms None = rw (← rolls-Case None arms None, fold-roll-Expr, any-map arm_has arms) refl
has-Case None arms (Some otherwise) = rw (← rolls-Case None arms (Some otherwise), fold-roll-Expr, any-map arm_has arms) refl
has-Case (Some a) arms None = rw (← rolls-Case (Some a) arms None, fold-roll-Expr, any-map arm_has arms) refl
has-Case (Some a) arms (Some otherwise) = rw (← rolls-Case (Some a) arms (Some otherwise), fold-roll-Expr, any-map arm_has arms) refl

pub has-RaiseIgnore : expr_has_parameter x.RaiseIgnore ≡ (false)
has-RaiseIgnore = rw (← rolls-RaiseIgnore, fold-roll-Expr) refl

pub has-RaiseAbort : (t : Token) → expr_has_parameter (x.RaiseAbort t) ≡ (false)
has-RaiseAbort t = rw (← rolls-RaiseAbort t, fold-roll-Expr) refl

pub ruleset expr_laws = (has-Literal, has-Parameter, has-Column, has-TableColumn, has-Unary, has-Binary, has-Between, has-Like, has-In, has-InQuery, has-Subquery, has-Exists, has-Collate, has-Cast, has-Call, has-Case, has-RaiseIgnore, has-RaiseAbort)

pub has-constraint-Unconstrained : constraint_has joinconstraint.Unconstrained ≡ (false)
has-constraint-Unconstrained = rw (← rolls-Unconstrained, fold-roll-JoinConstraint) refl

pub has-constraint-On : (x : Expr) → constraint_has (joinconstraint.On x) ≡ (expr_has_parameter x)
has-constraint-On x = rw (← rolls-On x, fold-roll-JoinConstraint) refl

pub has-constraint-Using : (ts : List Token) → constraint_has (joinconstraint.Using ts) ≡ (false)
has-constraint-Using ts = rw (← rolls-Using ts, fold-roll-JoinConstraint) refl

pub ruleset constraint_laws = (has-constraint-Unconstrained, has-constraint-On, has-constraint-Using)

pub has-part-Select : (c : SelectCore) → part_has (querypart.Select c) ≡ (core_has c)
has-part-Select c = rw (← rolls-Select c, fold-roll-QueryPart) refl

pub has-part-Values : (rows : List (List Expr)) → part_has (querypart.Values rows) ≡ (list_any (list_any expr_has_parameter) rows)
has-part-Values rows = rw (← rolls-Values rows, fold-roll-QueryPart, any-rows rows) refl

pub ruleset part_laws = (has-part-Select, has-part-Values)

pub has-result-All : result_has resultcolumn.All ≡ (false)
has-result-All = rw (← rolls-All, fold-roll-ResultColumn) refl

pub has-result-AllOf : (t : Token) → result_has (resultcolumn.AllOf t) ≡ (false)
has-result-AllOf t = rw (← rolls-AllOf t, fold-roll-ResultColumn) refl

pub has-result-Expression : (s : SpannedExpr) (t : Option Token) → result_has (resultcolumn.Expression s t) ≡ (spanned_has s)
has-result-Expression s None = rw (← rolls-Expression s None, fold-roll-ResultColumn) refl
has-result-Expression s (Some t) = rw (← rolls-Expression s (Some t), fold-roll-ResultColumn) refl

pub ruleset result_laws = (has-result-All, has-result-AllOf, has-result-Expression)

pub has-source-Table : (t : Token) (args : Option (List Expr)) → source_has (source.Table t args) ≡ (arguments_have args)
has-source-Table t None = rw (← rolls-Table t None, fold-roll-Source) refl
has-source-Table t (Some args) =
    let each : source_has (source.Table t (Some args)) ≡ any (map expr_has_parameter args) = rw (← rolls-Table t (Some args), fold-roll-Source) refl in
    each ∙ any-map expr_has_parameter args

pub has-source-Derived : (q : Query) → source_has (source.Derived q) ≡ (query_has_parameter q)
has-source-Derived q = rw (← rolls-Derived q, fold-roll-Source) refl

pub ruleset source_laws = (has-source-Table, has-source-Derived)

pub has-Arm : (condition' : Expr) (value' : Expr) → arm_has (roll-Arm (record { condition = condition'; value = value' })) ≡ (expr_has_parameter condition' || expr_has_parameter value')
has-Arm condition' value' = rw fold-roll-Arm refl

pub ruleset arm_laws = has-Arm

pub has-CommonTable : (name' : Token) (columns' : List Token) (query' : Query) → table_has (roll-CommonTable (record { name = name'; columns = columns'; query = query' })) ≡ (query_has_parameter query')
has-CommonTable name' columns' query' = rw fold-roll-CommonTable refl

pub ruleset table_laws = has-CommonTable

pub has-CompoundPart : (op' : CompoundOp) (part' : QueryPart) → compound_has (roll-CompoundPart (record { op = op'; part = part' })) ≡ (part_has part')
has-CompoundPart op' part' = rw fold-roll-CompoundPart refl

pub ruleset compound_laws = has-CompoundPart

pub has-FromItem : (join' : Join) (source' : Source) (alias' : Option Token) (constraint' : JoinConstraint) → item_has (roll-FromItem (record { join = join'; source = source'; alias = alias'; constraint = constraint' })) ≡ (source_has source' || constraint_has constraint')
has-FromItem join' source' alias' constraint' = rw fold-roll-FromItem refl

pub ruleset item_laws = has-FromItem

pub has-OrderingTerm : (key' : SpannedExpr) (descending' : Bool) (nulls' : Option NullsOrder) → term_has (roll-OrderingTerm (record { key = key'; descending = descending'; nulls = nulls' })) ≡ (spanned_has key')
has-OrderingTerm key' descending' nulls' = rw fold-roll-OrderingTerm refl

pub ruleset term_laws = has-OrderingTerm

pub has-RowLimit : (count' : Expr) (offset' : Option Expr) → limit_has (roll-RowLimit (record { count = count'; offset = offset' })) ≡ (expr_has_parameter count' || some (option_map expr_has_parameter offset'))
has-RowLimit count' None = rw fold-roll-RowLimit refl
has-RowLimit count' (Some offset') = rw fold-roll-RowLimit refl

pub ruleset limit_laws = has-RowLimit

pub has-SelectCore : (distinct' : Bool) (results' : List ResultColumn) (from' : List FromItem) (filter' : Option Expr) (group_by' : List SpannedExpr) (having' : Option Expr) → core_has (roll-SelectCore (record { distinct = distinct'; results = results'; from = from'; filter = filter'; group_by = group_by'; having = having' })) ≡ (list_any result_has results' || list_any item_has from' || some (option_map expr_has_parameter filter') || list_any spanned_has group_by' || some (option_map expr_has_parameter having'))
has-SelectCore distinct' results' from' None group_by' None = rw (fold-roll-SelectCore, any-map result_has results', any-map item_has from', any-map spanned_has group_by') refl
has-SelectCore distinct' results' from' None group_by' (Some having') = rw (fold-roll-SelectCore, any-map result_has results', any-map item_has from', any-map spanned_has group_by') refl
has-SelectCore distinct' results' from' (Some filter') group_by' None = rw (fold-roll-SelectCore, any-map result_has results', any-map item_has from', any-map spanned_has group_by') refl
has-SelectCore distinct' results' from' (Some filter') group_by' (Some having') = rw (fold-roll-SelectCore, any-map result_has results', any-map item_has from', any-map spanned_has group_by') refl

pub out-has-SelectCore : (s : SelectCore) → core_has s ≡ (list_any result_has (out-SelectCore s).results || list_any item_has (out-SelectCore s).from || some (option_map expr_has_parameter (out-SelectCore s).filter) || list_any spanned_has (out-SelectCore s).group_by || some (option_map expr_has_parameter (out-SelectCore s).having))
out-has-SelectCore s = sym (ap core_has (roll-out-SelectCore s)) ∙ has-SelectCore (out-SelectCore s).distinct (out-SelectCore s).results (out-SelectCore s).from (out-SelectCore s).filter (out-SelectCore s).group_by (out-SelectCore s).having

pub ruleset core_laws = out-has-SelectCore

pub has-SpannedExpr : (expr' : Expr) (text' : Span) → spanned_has (roll-SpannedExpr (record { expr = expr'; text = text' })) ≡ (expr_has_parameter expr')
has-SpannedExpr expr' text' = rw fold-roll-SpannedExpr refl

pub ruleset spanned_laws = has-SpannedExpr

pub has-Query : (with' : List CommonTable) (first' : QueryPart) (others' : List CompoundPart) (order_by' : List OrderingTerm) (limit' : Option RowLimit) → query_has_parameter (roll-Query (record { with = with'; first = first'; others = others'; order_by = order_by'; limit = limit' })) ≡ (list_any table_has with' || part_has first' || list_any compound_has others' || list_any term_has order_by' || some (option_map limit_has limit'))
has-Query with' first' others' order_by' None = rw (fold-roll-Query, any-map table_has with', any-map compound_has others', any-map term_has order_by') refl
has-Query with' first' others' order_by' (Some limit') = rw (fold-roll-Query, any-map table_has with', any-map compound_has others', any-map term_has order_by') refl

pub out-has-Query : (s : Query) → query_has_parameter s ≡ (list_any table_has (out-Query s).with || part_has (out-Query s).first || list_any compound_has (out-Query s).others || list_any term_has (out-Query s).order_by || some (option_map limit_has (out-Query s).limit))
out-has-Query s = sym (ap query_has_parameter (roll-out-Query s)) ∙ has-Query (out-Query s).with (out-Query s).first (out-Query s).others (out-Query s).order_by (out-Query s).limit

pub ruleset query_laws = out-has-Query

-- ---- the last of some parts

drop-here : {X : Type 0} (xs : List X) (i : ℕ) (d : X) → i < length xs → drop i xs ≡ get_or xs i d ∷ drop (i + 1) xs
drop-here xs i d lt = rw (add-one, drop-cons xs i d)

pub found-any : {X : Type 0} (f : X → Bool) (xs : List X) (i : ℕ) (d : X) → i < length xs → list_any f (drop i xs) ≡ list_any f xs → f (get_or xs i d) ≡ true → true ≡ list_any f xs
found-any f xs i d lt inv h =
    sym (ap (λ b. b || list_any f (drop (i + 1) xs)) h) ∙ sym (ap (list_any f) (drop-here xs i d lt)) ∙ inv

pub none-any : {X : Type 0} (f : X → Bool) (xs : List X) (i : ℕ) → length xs ≤ i → list_any f (drop i xs) ≡ list_any f xs → false ≡ list_any f xs
none-any f xs i le inv = sym (ap (list_any f) (drop_all i xs le)) ∙ inv

pub case-last : (a : Option Expr) (arms : List Arm) (otherwise : Option Expr) (e : Expr) → e ≡ x.Case a arms otherwise → some (option_map expr_has_parameter a) ≡ false → list_any arm_has arms ≡ false
    → expr_has_parameter e ≡ some (option_map expr_has_parameter otherwise)
case-last a arms otherwise e is f g =
    ap expr_has_parameter is
    ∙ has-Case a arms otherwise
    ∙ ap (λ b. b || list_any arm_has arms || some (option_map expr_has_parameter otherwise)) f
    ∙ ap (λ b. b || some (option_map expr_has_parameter otherwise)) g
