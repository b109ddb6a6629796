-- What is known of each part of a tree: an expression is bound to what is there, is split into what it is within, and takes no aggregate where none may stand or none is in it.
use Rattle.std.proofs.Common.{◌≡◌, ℕ, Bool, false, List, Option, Some, None}
use Rattle.std.specs.Bool.{⊤}
use Rattle.std.specs.List.{AllByRecursion}
use Rattle.sql_tree.specs.declared.expr.Arguments.{Arguments}
use Rattle.sql_tree.specs.declared.token.Token.{Token}
use Rattle.bound_tree.specs.Exprs.{BoundExpr}
use Rattle.sql_bound.specs.Carriers as parts
use Rattle.sql_bound.specs.Carriers.{Binding, CompoundParts, ConstraintParts, CoreParts, Expression, ItemParts, LimitParts, PartParts, QueryParts, ResultParts, SourceParts, SpannedExpression, TableParts, TermParts}
use Rattle.sql_bound.specs.Expressions.{calls_aggregate}
use Rattle.sql_bound.specs.Scopes.{Alias, Outer, Scope}
use Rattle.sql_bound.specs.declared.scopes.Standing.TheVariants.{Nowhere, Taken}
use Rattle.sql_bound.specs.declared.scopes.Standing.{Standing}
use Rattle.sql_bound.specs.declared.scopes.Work.{Work}
use Rattle.bound_laws.specs.Reach.{EachIsWithin, IsWithin, Reach}
use Rattle.bound_laws.proofs.ExprLaws.{ExprBinds}
use Rattle.bound_laws.proofs.Lists.{IfThere}
use Rattle.bound_laws.proofs.States.{Asks, From}
use Rattle.bound_laws.proofs.Triples.{Gives}

-- ---- expressions

abbrev pub Splits : (BoundExpr → List BoundExpr) → Type 0
Splits split = (r : Reach) (from : From) (x : BoundExpr) → IsWithin r from x → EachIsWithin r from (split x)

-- the aggregates are as before
abbrev pub SameSlots : {A : Type 0} → Work → A × Work → Type 0
SameSlots w r = r.1.aggregates ≡ w.aggregates

-- no aggregate may stand there, or none does
abbrev pub IsSilent : Standing → Bool → Type 0
IsSilent Nowhere holds = ⊤
IsSilent Taken holds = holds ≡ false

abbrev pub AliasIsQuiet : Standing → Alias → Type 0
AliasIsQuiet standing a = (w : Work) → Gives (SameSlots w) (a.shown standing w)

-- calls stand for the same there
abbrev pub CallsAlike : Outer → Outer → Type 0
CallsAlike o p = (t : Token) (how : Arguments) (given : ℕ) → calls_aggregate o t how given ≡ calls_aggregate p t how given

abbrev pub IsQuiet : Expression → Type 0
IsQuiet x = (s : Scope) (o : Outer) → CallsAlike o s.outer → AllByRecursion (AliasIsQuiet s.aggregates) s.aliases → IsSilent s.aggregates (x.aggregates o) → (w : Work) → Gives (SameSlots w) (x.bound s w)

pub record GoodExpression (x : Expression) : Type 0 where
  pub binds : ExprBinds x
  pub splits : Splits x.conjuncts
  pub quiet : IsQuiet x

abbrev pub GoodSpanned : SpannedExpression → Type 0
GoodSpanned x = GoodExpression x.expr

-- ---- queries

pub record GoodQuery (q : QueryParts) : Type 0 where
  pub asks : Asks q.bound
  pub tables : (name : List ℕ) (names : List (List ℕ)) → Asks (q.as_table name names)

abbrev pub GoodArguments : Option (List Expression) → Type 0
GoodArguments None = ⊤
GoodArguments (Some args) = AllByRecursion GoodExpression args

abbrev pub GoodSource : SourceParts → Type 0
GoodSource (parts.Table t args) = GoodArguments args
GoodSource (parts.Derived q) = GoodQuery q

abbrev pub GoodConstraint : ConstraintParts → Type 0
GoodConstraint parts.Unconstrained = ⊤
GoodConstraint (parts.On x) = GoodExpression x
GoodConstraint (parts.Using ts) = ⊤

pub record GoodItem (item : ItemParts) : Type 0 where
  pub source : GoodSource item.source
  pub constraint : GoodConstraint item.constraint

abbrev pub GoodResult : ResultParts → Type 0
GoodResult (parts.One x name) = GoodExpression x.expr
GoodResult other = ⊤

pub record GoodCore (core : CoreParts) : Type 0 where
  pub results : AllByRecursion GoodResult core.results
  pub from : AllByRecursion GoodItem core.from
  pub filter : IfThere GoodExpression core.filter
  pub group_by : AllByRecursion GoodSpanned core.group_by
  pub having : IfThere GoodExpression core.having

abbrev pub GoodPart : PartParts → Type 0
GoodPart (parts.Select core) = GoodCore core
GoodPart (parts.Values rows) = AllByRecursion (AllByRecursion GoodExpression) rows

abbrev pub GoodCompound : CompoundParts → Type 0
GoodCompound c = GoodPart c.part

abbrev pub GoodTable : TableParts → Type 0
GoodTable t = GoodQuery t.query

abbrev pub GoodTerm : TermParts → Type 0
GoodTerm t = GoodExpression t.key.expr

pub record GoodLimit (l : LimitParts) : Type 0 where
  pub count : GoodExpression l.count
  pub offset : IfThere GoodExpression l.offset
