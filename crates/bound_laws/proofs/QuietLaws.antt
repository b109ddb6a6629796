-- Where no aggregate may stand, and where none stands, none is taken.
use Rattle.std.proofs.Common.{◌≡◌, ◌∙◌, ℕ, Bool, true, false, ◌||◌, List, [], ◌∷◌, length, map, Option, Some, None, codes, Ok, refl, subst}
use Rattle.std.specs.List.{AllByRecursion, list_any}
use Rattle.std.specs.Option.{option_map}
use Rattle.eng_entry.specs.Names.{is_same_name}
use Rattle.sql_tree.specs.declared.expr.Arguments.{Arguments}
use Rattle.sql_tree.specs.declared.expr.Arm.{Arm, fold-roll-Arm, map-Arm, roll-Arm}
use Rattle.sql_tree.specs.declared.expr.Expr.TheOpen.{Arm-F, Expr-F}
use Rattle.sql_tree.specs.declared.expr.Expr.{Expr, fold-roll-Expr, ind-Expr, map-Expr, roll-Expr}
use Rattle.sql_tree.specs.declared.query.CommonTable.{CommonTable}
use Rattle.sql_tree.specs.declared.query.CompoundPart.{CompoundPart}
use Rattle.sql_tree.specs.declared.query.FromItem.{FromItem}
use Rattle.sql_tree.specs.declared.query.JoinConstraint.{JoinConstraint}
use Rattle.sql_tree.specs.declared.query.OrderingTerm.{OrderingTerm}
use Rattle.sql_tree.specs.declared.query.Query.{Query}
use Rattle.sql_tree.specs.declared.query.QueryPart.{QueryPart}
use Rattle.sql_tree.specs.declared.query.ResultColumn.{ResultColumn}
use Rattle.sql_tree.specs.declared.query.RowLimit.{RowLimit}
use Rattle.sql_tree.specs.declared.query.SelectCore.{SelectCore}
use Rattle.sql_tree.specs.declared.query.Source.{Source}
use Rattle.sql_tree.specs.declared.query.SpannedExpr.{SpannedExpr}
use Rattle.sql_tree.specs.declared.token.Token.{Token}
use Rattle.sql_words.specs.Names.{dotted}
use Rattle.sql_words.specs.Refusals.{◌>>=◌}
use Rattle.sql_words.specs.Spelled.{name_at}
use Rattle.sql_words.specs.Types.{affinity_of_type}
use Rattle.sql_bound.proofs.HandLaws.{same_aggregates}
use Rattle.sql_bound.specs.Callees.{Aggregate, Aggregator, Callee, HostScalar, Nobody, Scalar, callee_of, is_aggregate, may_aggregate, may_call, without_filter}
use Rattle.sql_bound.specs.Carriers.{ArmParts, Expression, QueryParts}
use Rattle.sql_bound.specs.Columns.{alias_named, called_column_bound, column_bound, further_out, named_in, of_alias, of_outer, of_own, seen, seen_or_unknown}
use Rattle.sql_bound.specs.Expressions.{all_bound, any_holds, arm_holds, arms_bound, bound_step, call_bound, calls_aggregate, collation_called, exists_bound, function_bound, one_column, option_bound, option_holds, query_asked, scalar_bound}
use Rattle.sql_bound.specs.Scopes.{Alias, Answer, Level, Outer, Scope, bare_in, called_in, nearest}
use Rattle.sql_bound.specs.Operands.{between_of, binary_of, call_of, cast_of, host_call_of, in_of, like_of, unary_of}
use Rattle.sql_bound.specs.Trees.{of_arm, of_expr, of_query}
use Rattle.sql_bound.specs.declared.scopes.Operand.{Operand}
use Rattle.sql_bound.specs.declared.scopes.Sight.{Sight}
use Rattle.sql_bound.specs.declared.scopes.Standing.TheVariants.{Nowhere, Taken}
use Rattle.sql_bound.specs.declared.scopes.Standing.{Standing}
use Rattle.sql_bound.specs.declared.scopes.Work.{Work}
use Rattle.bound_laws.proofs.ExprLaws.{allowed}
use Rattle.bound_laws.proofs.Goods.{AliasIsQuiet, CallsAlike, IsQuiet, IsSilent, SameSlots}
use Rattle.bound_laws.proofs.Lists.{IfThere}
use Rattle.bound_laws.proofs.NameLaws.{find_kept}
use Rattle.bound_laws.proofs.PlainLaws.{asked_quiet}
use Rattle.bound_laws.proofs.ResultLaws.{silent_left, silent_right}
use Rattle.bound_laws.proofs.Triples.{Gives, gives, gives_if, past, refuses, seq}

-- ---- names

seen_quiet : (shown : List ℕ) (s : Option Sight) (w : Work) → Gives (SameSlots w) (seen_or_unknown shown s w)
seen_quiet shown None w = refuses _ _
seen_quiet shown (Some s) w = gives _ (seen s w) (same_aggregates (record { up = s.up; tree = s.column.tree } ∷ []) w)

outer_quiet : (name : List ℕ) (outer : List Level) (w : Work) → Gives (SameSlots w) (of_outer name outer w)
outer_quiet name outer w = past (nearest name (bare_in name) outer) _ _ (λ s. seen_quiet name (further_out s) w)

alias_quiet : (standing : Standing) (a : Option Alias) (name : List ℕ) (outer : List Level) (w : Work) → IfThere (AliasIsQuiet standing) a → Gives (SameSlots w) (of_alias standing a name outer w)
alias_quiet standing None name outer w there = outer_quiet name outer w
alias_quiet standing (Some a) name outer w there = there w

module _ (s : Scope) (aliases : AllByRecursion (AliasIsQuiet s.aggregates) s.aliases) where
  own_quiet : (sight : Option Sight) (name : List ℕ) (outer : List Level) (w : Work) → Gives (SameSlots w) (of_own sight s name outer w)
  own_quiet None name outer w = alias_quiet s.aggregates (alias_named name s.aliases) name outer w (find_kept (AliasIsQuiet s.aggregates) (λ (a : Alias). is_same_name a.name name) s.aliases aliases)
  own_quiet (Some sight) name outer w = seen_quiet name (Some sight) w

  named_quiet : (levels : List Level) (name : List ℕ) (w : Work) → Gives (SameSlots w) (named_in levels s name w)
  named_quiet [] name w = own_quiet None name [] w
  named_quiet (own ∷ outer) name w = past (nearest name (bare_in name) (own ∷ [])) _ _ (λ sight. own_quiet sight name outer w)

  column_quiet : (name : List ℕ) (w : Work) → Gives (SameSlots w) (column_bound s name w)
  column_quiet name w = gives_if _ s.outer.allowed.columns _ _ (named_quiet s.outer.levels name w)

  called_column_quiet : (table name : List ℕ) (w : Work) → Gives (SameSlots w) (called_column_bound s table name w)
  called_column_quiet table name w = gives_if _ s.outer.allowed.columns _ _ (past (nearest name (called_in table name) s.outer.levels) _ _ (λ found. seen_quiet (dotted table name) found w))

-- ---- expressions, whose parts are so

abbrev ArmIsQuiet : ArmParts → Type 0
ArmIsQuiet arm = IsQuiet arm.condition × IsQuiet arm.value

module _ (s : Scope) (o : Outer) (alike : CallsAlike o s.outer) (aliases : AllByRecursion (AliasIsQuiet s.aggregates) s.aliases) where
  abbrev st : Standing
  st = s.aggregates

  all_quiet : (xs : List Expression) → AllByRecursion IsQuiet xs → IsSilent s.aggregates (any_holds o xs) → (w : Work) → Gives (SameSlots w) (all_bound s xs w)
  all_quiet [] all silent w = gives _ _ refl
  all_quiet (x ∷ xs) all silent w =
      seq _ _ _ _ (all.0 s o alike aliases (silent_left s.aggregates (x.aggregates o) (any_holds o xs) silent) w)
      (λ a ha. seq _ _ _ _ (all_quiet xs all.1 (silent_right s.aggregates (x.aggregates o) (any_holds o xs) silent) a.1) (λ more hm. gives _ _ (hm ∙ ha)))

  option_quiet : (x : Option Expression) → IfThere IsQuiet x → IsSilent s.aggregates (option_holds o x) → (w : Work) → Gives (SameSlots w) (option_bound s x w)
  option_quiet None there silent w = gives _ _ refl
  option_quiet (Some x) there silent w = seq _ _ _ _ (there s o alike aliases silent w) (λ a ha. gives _ _ ha)

  arms_quiet : (xs : List ArmParts) → AllByRecursion ArmIsQuiet xs → IsSilent s.aggregates (list_any (arm_holds o) xs) → (w : Work) → Gives (SameSlots w) (arms_bound s xs w)
  arms_quiet [] all silent w = gives _ _ refl
  arms_quiet (arm ∷ xs) all silent w =
      let first = silent_left s.aggregates (arm_holds o arm) (list_any (arm_holds o) xs) silent in
      seq _ _ _ _ (all.0.0 s o alike aliases (silent_left s.aggregates (arm.condition.aggregates o) (arm.value.aggregates o) first) w)
      (λ c hc. seq _ _ _ _ (all.0.1 s o alike aliases (silent_right s.aggregates (arm.condition.aggregates o) (arm.value.aggregates o) first) c.1)
      (λ v hv. seq _ _ _ _ (arms_quiet xs all.1 (silent_right s.aggregates (arm_holds o arm) (list_any (arm_holds o) xs) silent) v.1) (λ more hm. gives _ _ (hm ∙ hv ∙ hc))))

  one_quiet : (a : Expression) (f : Operand → Operand) → IsQuiet a → IsSilent s.aggregates (a.aggregates o) → (w : Work) → Gives (SameSlots w) (a.bound s w >>= λ x. Ok (f x.0, x.1))
  one_quiet a f ha silent w = seq _ _ _ _ (ha s o alike aliases silent w) (λ x hx. gives _ _ hx)

  two_quiet : (a b : Expression) (f : Operand → Operand → Operand) → IsQuiet a → IsQuiet b → IsSilent s.aggregates (a.aggregates o || b.aggregates o) → (w : Work)
      → Gives (SameSlots w) (a.bound s w >>= λ x. b.bound s x.1 >>= λ y. Ok (f x.0 y.0, y.1))
  two_quiet a b f ha hb silent w =
      seq _ _ _ _ (ha s o alike aliases (silent_left s.aggregates (a.aggregates o) (b.aggregates o) silent) w)
      (λ x hx. seq _ _ _ _ (hb s o alike aliases (silent_right s.aggregates (a.aggregates o) (b.aggregates o) silent) x.1) (λ y hy. gives _ _ (hy ∙ hx)))

  three_quiet : (a b c : Expression) (f : Operand → Operand → Operand → Operand) → IsQuiet a → IsQuiet b → IsQuiet c → IsSilent s.aggregates (a.aggregates o || b.aggregates o || c.aggregates o) → (w : Work)
      → Gives (SameSlots w) (a.bound s w >>= λ x. b.bound s x.1 >>= λ y. c.bound s y.1 >>= λ z. Ok (f x.0 y.0 z.0, z.1))
  three_quiet a b c f ha hb hc silent w =
      let front = silent_left s.aggregates (a.aggregates o || b.aggregates o) (c.aggregates o) silent in
      seq _ _ _ _ (ha s o alike aliases (silent_left s.aggregates (a.aggregates o) (b.aggregates o) front) w)
      (λ x hx. seq _ _ _ _ (hb s o alike aliases (silent_right s.aggregates (a.aggregates o) (b.aggregates o) front) x.1)
      (λ y hy. seq _ _ _ _ (hc s o alike aliases (silent_right s.aggregates (a.aggregates o || b.aggregates o) (c.aggregates o) silent) y.1) (λ z hz. gives _ _ (hz ∙ hy ∙ hx))))

  like_quiet : (a b : Expression) (c : Option Expression) (f : Operand → Operand → Option Operand → Operand) → IsQuiet a → IsQuiet b → IfThere IsQuiet c → IsSilent s.aggregates (a.aggregates o || b.aggregates o || option_holds o c) → (w : Work)
      → Gives (SameSlots w) (a.bound s w >>= λ x. b.bound s x.1 >>= λ y. option_bound s c y.1 >>= λ z. Ok (f x.0 y.0 z.0, z.1))
  like_quiet a b c f ha hb hc silent w =
      let front = silent_left s.aggregates (a.aggregates o || b.aggregates o) (option_holds o c) silent in
      seq _ _ _ _ (ha s o alike aliases (silent_left s.aggregates (a.aggregates o) (b.aggregates o) front) w)
      (λ x hx. seq _ _ _ _ (hb s o alike aliases (silent_right s.aggregates (a.aggregates o) (b.aggregates o) front) x.1)
      (λ y hy. seq _ _ _ _ (option_quiet c hc (silent_right s.aggregates (a.aggregates o || b.aggregates o) (option_holds o c) silent) y.1) (λ z hz. gives _ _ (hz ∙ hy ∙ hx))))

  in_quiet : (a : Expression) (others : List Expression) (f : Operand → List Operand → Operand) → IsQuiet a → AllByRecursion IsQuiet others → IsSilent s.aggregates (a.aggregates o || any_holds o others) → (w : Work)
      → Gives (SameSlots w) (a.bound s w >>= λ x. all_bound s others x.1 >>= λ ys. Ok (f x.0 ys.0, ys.1))
  in_quiet a others f ha all silent w =
      seq _ _ _ _ (ha s o alike aliases (silent_left s.aggregates (a.aggregates o) (any_holds o others) silent) w)
      (λ x hx. seq _ _ _ _ (all_quiet others all (silent_right s.aggregates (a.aggregates o) (any_holds o others) silent) x.1) (λ y hy. gives _ _ (hy ∙ hx)))

  case_quiet : (a : Option Expression) (those : List ArmParts) (c : Option Expression) → IfThere IsQuiet a → AllByRecursion ArmIsQuiet those → IfThere IsQuiet c → IsSilent s.aggregates (option_holds o a || list_any (arm_holds o) those || option_holds o c) → (w : Work)
      → Gives (SameSlots w) (bound_step (Expr-F.Case a those c) s w)
  case_quiet a those c ha all hc silent w =
      let front = silent_left s.aggregates (option_holds o a || list_any (arm_holds o) those) (option_holds o c) silent in
      seq _ _ _ _ (option_quiet a ha (silent_left s.aggregates (option_holds o a) (list_any (arm_holds o) those) front) w)
      (λ x hx. seq _ _ _ _ (arms_quiet those all (silent_right s.aggregates (option_holds o a) (list_any (arm_holds o) those) front) x.1)
      (λ y hy. seq _ _ _ _ (option_quiet c hc (silent_right s.aggregates (option_holds o a || list_any (arm_holds o) those) (option_holds o c) silent) y.1) (λ z hz. gives _ _ (hz ∙ hy ∙ hx))))

  -- ---- calls

  function_quiet : (name : List ℕ) (takes : ℕ → Bool) (make : List Operand → Operand) (how : Arguments) (xs : List Expression) (filter : Option Expression) → AllByRecursion IsQuiet xs → IsSilent s.aggregates (any_holds o xs) → (w : Work)
      → Gives (SameSlots w) (function_bound s name takes make how xs filter w)
  function_quiet name takes make how xs filter all silent w =
      past (may_call name takes how (length xs)) _ _ (λ u. seq _ _ _ _ (all_quiet xs all silent w) (λ args ha. past (without_filter name filter) _ _ (λ v. gives _ _ ha)))

  never : {A : Type 0} (a : Aggregator) (standing : Standing) (how : Arguments) (given : ℕ) (f : Unit {0} → Answer A) (w : Work) → IsSilent standing true → Gives (SameSlots w) (may_aggregate a standing how given >>= f)
  never a Nowhere how given f w silent = refuses _ _
  never a Taken how given f w silent = let no : true ≡ false = silent in cc

  callee_quiet : (name : List ℕ) (callee : Callee) (how : Arguments) (xs : List Expression) (filter : Option Expression) → AllByRecursion IsQuiet xs → IsSilent s.aggregates (is_aggregate callee) → IsSilent s.aggregates (any_holds o xs) → (w : Work)
      → Gives (SameSlots w) (call_bound s name callee how xs filter w)
  callee_quiet name (Scalar shown f takes) how xs filter all none silent w = function_quiet shown takes (call_of f) how xs filter all silent w
  callee_quiet name (HostScalar shown takes) how xs filter all none silent w = allowed _ s.outer.allowed.hosts shown _ (function_quiet shown takes (host_call_of shown) how xs filter all silent w)
  callee_quiet name (Aggregate a) how xs filter all none silent w = never a s.aggregates how (length xs) _ w none
  callee_quiet name Nobody how xs filter all none silent w = refuses _ _

  call_quiet : (t : Token) (how : Arguments) (xs : List Expression) (filter : Option Expression) → AllByRecursion IsQuiet xs → IsSilent s.aggregates (calls_aggregate o t how (length xs) || any_holds o xs || option_holds o filter) → (w : Work)
      → Gives (SameSlots w) (bound_step (Expr-F.Call t how xs filter) s w)
  call_quiet t how xs filter all silent w =
      let front = silent_left s.aggregates (calls_aggregate o t how (length xs) || any_holds o xs) (option_holds o filter) silent in
      let none = silent_left s.aggregates (calls_aggregate o t how (length xs)) (any_holds o xs) front in
      callee_quiet (name_at s.outer.text t) (callee_of s.outer.around.facts (name_at s.outer.text t) how (length xs)) how xs filter all (subst (IsSilent s.aggregates) (alike t how (length xs)) none)
      (silent_right s.aggregates (calls_aggregate o t how (length xs)) (any_holds o xs) front) w

  -- ---- queries

  query_quiet : (q : QueryParts) (w : Work) → Gives (SameSlots w) (query_asked s q w)
  query_quiet q w = allowed _ s.outer.allowed.queries q.first_word _ (asked_quiet [] [] w (q.bound s.outer w.units))

  exists_quiet : (q : QueryParts) (w : Work) → Gives (SameSlots w) (exists_bound s q w)
  exists_quiet q w = seq _ _ _ _ (query_quiet q w) (λ a ha. gives _ _ ha)

  scalar_quiet : (q : QueryParts) (w : Work) → Gives (SameSlots w) (scalar_bound s q w)
  scalar_quiet q w = seq _ _ _ _ (query_quiet q w) (λ a ha. past (one_column q.first_word a.0.0.columns) _ _ (λ c. gives _ _ ha))

  in_query_quiet : (x : Expression) (q : QueryParts) → IsQuiet x → IsSilent s.aggregates (x.aggregates o) → (w : Work) → Gives (SameSlots w) (bound_step (Expr-F.InQuery x q) s w)
  in_query_quiet x q hx silent w =
      seq _ _ _ _ (hx s o alike aliases silent w) (λ y hy. seq _ _ _ _ (query_quiet q y.1) (λ a ha. past (one_column q.first_word a.0.0.columns) _ _ (λ c. gives _ _ (ha ∙ hy))))

  collate_quiet : (a : Expression) (t : Token) → IsQuiet a → IsSilent s.aggregates (a.aggregates o) → (w : Work) → Gives (SameSlots w) (bound_step (Expr-F.Collate a t) s w)
  collate_quiet a t ha silent w = seq _ _ _ _ (ha s o alike aliases silent w) (λ x hx. past (collation_called s.outer.around.facts (name_at s.outer.text t)) _ _ (λ c. gives _ _ hx))

-- ---- every expression; nothing is said of queries

abbrev ExprIsQuiet : Expr → Type 0
ExprIsQuiet x = IsQuiet (of_expr x)

abbrev TreeArmIsQuiet : Arm → Type 0
TreeArmIsQuiet a = ArmIsQuiet (of_arm a)

module _ {Y Z : Type 0} (of : Y → Expr) (quiet : (y : Y) → ExprIsQuiet (of y)) (arm_of : Z → Arm) (arm_quiet : (z : Z) → TreeArmIsQuiet (arm_of z)) where
  all_of : (ys : List Y) → AllByRecursion IsQuiet (map of_expr (map of ys))
  all_of [] = tt
  all_of (y ∷ ys) = (quiet y, all_of ys)

  arms_of : (zs : List Z) → AllByRecursion ArmIsQuiet (map of_arm (map arm_of zs))
  arms_of [] = tt
  arms_of (z ∷ zs) = (arm_quiet z, arms_of zs)

  if_of : (y : Option Y) → IfThere IsQuiet (option_map of_expr (option_map of y))
  if_of None = tt
  if_of (Some y) = quiet y

  abbrev With : Type 0 → Type 0
  With T = T × Unit {0}

  abbrev tree : {T : Type 0} → With T → T
  tree q = q.0

  step : (y : Expr-F Y (With JoinConstraint) (With QueryPart) (With ResultColumn) (With Source) Z (With CommonTable) (With CompoundPart) (With FromItem) (With OrderingTerm) (With Query) (With RowLimit) (With SelectCore) (With SpannedExpr)) → ExprIsQuiet (roll-Expr (map-Expr Y (With JoinConstraint) (With QueryPart) (With ResultColumn) (With Source) Z (With CommonTable) (With CompoundPart) (With FromItem) (With OrderingTerm) (With Query) (With RowLimit) (With SelectCore) (With SpannedExpr) Expr JoinConstraint QueryPart ResultColumn Source Arm CommonTable CompoundPart FromItem OrderingTerm Query RowLimit SelectCore SpannedExpr of tree tree tree tree arm_of tree tree tree tree tree tree tree tree y))
  step (Expr-F.Literal t) = rw fold-roll-Expr (λ s o alike aliases silent w. gives _ _ refl)
  step (Expr-F.Parameter t) = rw fold-roll-Expr (λ s o alike aliases silent w. allowed _ s.outer.allowed.parameters (codes "?") _ (gives _ _ refl))
  step (Expr-F.Column t) = rw fold-roll-Expr (λ s o alike aliases silent w. column_quiet s aliases (name_at s.outer.text t) w)
  step (Expr-F.TableColumn t c) = rw fold-roll-Expr (λ s o alike aliases silent w. called_column_quiet s aliases (name_at s.outer.text t) (name_at s.outer.text c) w)
  step (Expr-F.Unary u a) = rw fold-roll-Expr (λ s o alike aliases silent w. one_quiet s o alike aliases (of_expr (of a)) (unary_of u) (quiet a) silent w)
  step (Expr-F.Binary b x y) = rw fold-roll-Expr (λ s o alike aliases silent w. two_quiet s o alike aliases (of_expr (of x)) (of_expr (of y)) (binary_of b) (quiet x) (quiet y) silent w)
  step (Expr-F.Between a b c) = rw fold-roll-Expr (λ s o alike aliases silent w. three_quiet s o alike aliases (of_expr (of a)) (of_expr (of b)) (of_expr (of c)) between_of (quiet a) (quiet b) (quiet c) silent w)
  step (Expr-F.Like a b None) = rw fold-roll-Expr (λ s o alike aliases silent w. like_quiet s o alike aliases (of_expr (of a)) (of_expr (of b)) None like_of (quiet a) (quiet b) tt silent w)
  step (Expr-F.Like a b (Some c)) = rw fold-roll-Expr (λ s o alike aliases silent w. like_quiet s o alike aliases (of_expr (of a)) (of_expr (of b)) (Some (of_expr (of c))) like_of (quiet a) (quiet b) (quiet c) silent w)
  step (Expr-F.In a others) = rw fold-roll-Expr (λ s o alike aliases silent w. in_quiet s o alike aliases (of_expr (of a)) (map of_expr (map of others)) in_of (quiet a) (all_of others) silent w)
  step (Expr-F.InQuery a q) = rw fold-roll-Expr (λ s o alike aliases silent w. in_query_quiet s o alike aliases (of_expr (of a)) (of_query (tree q)) (quiet a) silent w)
  step (Expr-F.Subquery q) = rw fold-roll-Expr (λ s o alike aliases silent w. scalar_quiet s o alike aliases (of_query (tree q)) w)
  step (Expr-F.Exists q) = rw fold-roll-Expr (λ s o alike aliases silent w. exists_quiet s o alike aliases (of_query (tree q)) w)
  step (Expr-F.Collate a t) = rw fold-roll-Expr (λ s o alike aliases silent w. collate_quiet s o alike aliases (of_expr (of a)) t (quiet a) silent w)
  step (Expr-F.Cast a t) = rw fold-roll-Expr (λ s o alike aliases silent w. one_quiet s o alike aliases (of_expr (of a)) (cast_of (affinity_of_type s.outer.text t)) (quiet a) silent w)
  step (Expr-F.Call t how args None) = rw fold-roll-Expr (λ s o alike aliases silent w. call_quiet s o alike aliases t how (map of_expr (map of args)) None (all_of args) silent w)
  step (Expr-F.Call t how args (Some filter)) = rw fold-roll-Expr (λ s o alike aliases silent w. call_quiet s o alike aliases t how (map of_expr (map of args)) (Some (of_expr (of filter))) (all_of args) silent w)
  step (Expr-F.Case None arms None) = rw fold-roll-Expr (λ s o alike aliases silent w. case_quiet s o alike aliases None (map of_arm (map arm_of arms)) None tt (arms_of arms) tt silent w)
  step (Expr-F.Case None arms (Some last)) = rw fold-roll-Expr (λ s o alike aliases silent w. case_quiet s o alike aliases None (map of_arm (map arm_of arms)) (Some (of_expr (of last))) tt (arms_of arms) (quiet last) silent w)
  step (Expr-F.Case (Some a) arms None) = rw fold-roll-Expr (λ s o alike aliases silent w. case_quiet s o alike aliases (Some (of_expr (of a))) (map of_arm (map arm_of arms)) None (quiet a) (arms_of arms) tt silent w)
  step (Expr-F.Case (Some a) arms (Some last)) = rw fold-roll-Expr (λ s o alike aliases silent w. case_quiet s o alike aliases (Some (of_expr (of a))) (map of_arm (map arm_of arms)) (Some (of_expr (of last))) (quiet a) (arms_of arms) (quiet last) silent w)
  step Expr-F.RaiseIgnore = rw fold-roll-Expr (λ s o alike aliases silent w. allowed _ s.outer.allowed.raises (codes "RAISE") _ (gives _ _ refl))
  step (Expr-F.RaiseAbort t) = rw fold-roll-Expr (λ s o alike aliases silent w. allowed _ s.outer.allowed.raises (codes "RAISE") _ (gives _ _ refl))

  arm_step : (y : Arm-F Y (With JoinConstraint) (With QueryPart) (With ResultColumn) (With Source) Z (With CommonTable) (With CompoundPart) (With FromItem) (With OrderingTerm) (With Query) (With RowLimit) (With SelectCore) (With SpannedExpr)) → TreeArmIsQuiet (roll-Arm (map-Arm Y (With JoinConstraint) (With QueryPart) (With ResultColumn) (With Source) Z (With CommonTable) (With CompoundPart) (With FromItem) (With OrderingTerm) (With Query) (With RowLimit) (With SelectCore) (With SpannedExpr) Expr JoinConstraint QueryPart ResultColumn Source Arm CommonTable CompoundPart FromItem OrderingTerm Query RowLimit SelectCore SpannedExpr of tree tree tree tree arm_of tree tree tree tree tree tree tree tree y))
  arm_step y = rw fold-roll-Arm (quiet y.condition, quiet y.value)

pub quiets : (x : Expr) → ExprIsQuiet x
quiets = ind-Expr ExprIsQuiet (λ q. Unit {0}) (λ q. Unit {0}) (λ q. Unit {0}) (λ q. Unit {0}) TreeArmIsQuiet (λ q. Unit {0}) (λ q. Unit {0}) (λ q. Unit {0}) (λ q. Unit {0}) (λ q. Unit {0}) (λ q. Unit {0}) (λ q. Unit {0}) (λ q. Unit {0})
    (λ l y is. subst (λ z. ExprIsQuiet (roll-Expr z)) is (step (λ e. e.0) (λ e. e.1) (λ e. e.0) (λ e. e.1) y)) (λ l y is. tt) (λ l y is. tt) (λ l y is. tt) (λ l y is. tt)
    (λ l y is. subst (λ z. TreeArmIsQuiet (roll-Arm z)) is (arm_step (λ e. e.0) (λ e. e.1) (λ e. e.0) (λ e. e.1) y))
    (λ l y is. tt) (λ l y is. tt) (λ l y is. tt) (λ l y is. tt) (λ l y is. tt) (λ l y is. tt) (λ l y is. tt) (λ l y is. tt)
