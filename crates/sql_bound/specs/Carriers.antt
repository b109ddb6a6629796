-- What each part of a tree comes to: what it is bound to depends on where it stands, so that most of these hold functions.
use Rattle.std.specs.Prelude.{ℕ, Bool, List, Option}
use Rattle.sql_tree.specs.declared.expr.Expr.TheOpen.{Arm-F, CommonTable-F, CompoundPart-F, Expr-F, FromItem-F, JoinConstraint-F, OrderingTerm-F, Query-F, QueryPart-F, ResultColumn-F, RowLimit-F, SelectCore-F, Source-F, SpannedExpr-F}
use Rattle.sql_tree.specs.declared.query.CompoundOp.{CompoundOp}
use Rattle.sql_tree.specs.declared.query.Join.{Join}
use Rattle.sql_tree.specs.declared.query.NullsOrder.{NullsOrder}
use Rattle.sql_tree.specs.declared.statement.ConflictChoice.{ConflictChoice}
use Rattle.sql_tree.specs.declared.statement.TriggerEvent.{TriggerEvent}
use Rattle.sql_tree.specs.declared.statement.TriggerTime.{TriggerTime}
use Rattle.sql_tree.specs.declared.token.Span.{Span}
use Rattle.sql_tree.specs.declared.token.Token.{Token}
use Rattle.bound_tree.specs.Exprs.{BoundExpr}
use Rattle.bound_tree.specs.declared.units.BoundUnit.{BoundUnit}
use Rattle.sql_bound.specs.Scopes.{Answer, Outer, Scope, UnitsAnswer}
use Rattle.sql_bound.specs.declared.scopes.Asked.{Asked}
use Rattle.sql_bound.specs.declared.scopes.Operand.{Operand}
use Rattle.sql_bound.specs.declared.scopes.Work.{Work}

abbrev pub Binding : Type 0
Binding = Scope → Work → Answer Operand

abbrev pub QueryBinding : Type 0
QueryBinding = Outer → List BoundUnit → UnitsAnswer Asked

-- what GROUP BY and ORDER BY ask of a term as a whole: a number, a name, or any other expression
pub data Term : Type 0 where
  Number : Token → Term
  Name : Token → Term
  Other : Term

-- an expression: what it is bound to, what the tree to which it is bound is split into where it is a condition, whether an aggregate stands in it outside its queries, and what it is as a term
pub record Expression : Type 0 where
  pub bound : Binding
  pub conjuncts : BoundExpr → List BoundExpr
  pub aggregates : Outer → Bool
  pub term : Term

pub record SpannedExpression : Type 0 where
  pub expr : Expression
  pub text : Span

pub record ArmParts : Type 0 where
  pub condition : Expression
  pub value : Expression

-- a query: what it is bound to; what it is bound to as a table of a WITH by the table's name, which it may name, and the names of its columns, if they are written; and its first word, in capitals
pub record QueryParts : Type 0 where
  pub bound : QueryBinding
  pub as_table : List ℕ → List (List ℕ) → QueryBinding
  pub first_word : List ℕ

pub data SourceParts : Type 0 where
  Table : Token → Option (List Expression) → SourceParts
  Derived : QueryParts → SourceParts

pub data ConstraintParts : Type 0 where
  Unconstrained : ConstraintParts
  On : Expression → ConstraintParts
  Using : List Token → ConstraintParts

pub record ItemParts : Type 0 where
  pub join : Join
  pub source : SourceParts
  pub alias : Option Token
  pub constraint : ConstraintParts

pub data ResultParts : Type 0 where
  All : ResultParts
  AllOf : Token → ResultParts
  One : SpannedExpression → Option Token → ResultParts

pub record CoreParts : Type 0 where
  pub distinct : Bool
  pub results : List ResultParts
  pub from : List ItemParts
  pub filter : Option Expression
  pub group_by : List SpannedExpression
  pub having : Option Expression

pub data PartParts : Type 0 where
  Select : CoreParts → PartParts
  Values : List (List Expression) → PartParts

pub record CompoundParts : Type 0 where
  pub op : CompoundOp
  pub part : PartParts

pub record TableParts : Type 0 where
  pub name : Token
  pub columns : List Token
  pub query : QueryParts

pub record TermParts : Type 0 where
  pub key : SpannedExpression
  pub descending : Bool
  pub nulls : Option NullsOrder

pub record LimitParts : Type 0 where
  pub count : Expression
  pub offset : Option Expression

-- ---- statements that read or change rows, and triggers

pub record SetParts : Type 0 where
  pub column : Token
  pub value : Expression

-- without a query it is DEFAULT VALUES
pub record InsertParts : Type 0 where
  pub choice : ConflictChoice
  pub table : Token
  pub columns : List Token
  pub source : Option QueryParts

pub record UpdateParts : Type 0 where
  pub choice : ConflictChoice
  pub table : Token
  pub sets : List SetParts
  pub filter : Option Expression

pub record DeleteParts : Type 0 where
  pub table : Token
  pub filter : Option Expression

pub data RowParts : Type 0 where
  Queries : QueryParts → RowParts
  Inserts : InsertParts → RowParts
  Updates : UpdateParts → RowParts
  Deletes : DeleteParts → RowParts

pub record TriggerParts : Type 0 where
  pub time : TriggerTime
  pub event : TriggerEvent
  pub condition : Option Expression
  pub body : List RowParts

-- ---- one layer of a tree over what its parts come to

abbrev pub ExprLayer : Type 0
ExprLayer = Expr-F Expression ConstraintParts PartParts ResultParts SourceParts ArmParts TableParts CompoundParts ItemParts TermParts QueryParts LimitParts CoreParts SpannedExpression

abbrev pub JoinConstraintLayer : Type 0
JoinConstraintLayer = JoinConstraint-F Expression ConstraintParts PartParts ResultParts SourceParts ArmParts TableParts CompoundParts ItemParts TermParts QueryParts LimitParts CoreParts SpannedExpression

abbrev pub QueryPartLayer : Type 0
QueryPartLayer = QueryPart-F Expression ConstraintParts PartParts ResultParts SourceParts ArmParts TableParts CompoundParts ItemParts TermParts QueryParts LimitParts CoreParts SpannedExpression

abbrev pub ResultColumnLayer : Type 0
ResultColumnLayer = ResultColumn-F Expression ConstraintParts PartParts ResultParts SourceParts ArmParts TableParts CompoundParts ItemParts TermParts QueryParts LimitParts CoreParts SpannedExpression

abbrev pub SourceLayer : Type 0
SourceLayer = Source-F Expression ConstraintParts PartParts ResultParts SourceParts ArmParts TableParts CompoundParts ItemParts TermParts QueryParts LimitParts CoreParts SpannedExpression

abbrev pub ArmLayer : Type 0
ArmLayer = Arm-F Expression ConstraintParts PartParts ResultParts SourceParts ArmParts TableParts CompoundParts ItemParts TermParts QueryParts LimitParts CoreParts SpannedExpression

abbrev pub CommonTableLayer : Type 0
CommonTableLayer = CommonTable-F Expression ConstraintParts PartParts ResultParts SourceParts ArmParts TableParts CompoundParts ItemParts TermParts QueryParts LimitParts CoreParts SpannedExpression

abbrev pub CompoundPartLayer : Type 0
CompoundPartLayer = CompoundPart-F Expression ConstraintParts PartParts ResultParts SourceParts ArmParts TableParts CompoundParts ItemParts TermParts QueryParts LimitParts CoreParts SpannedExpression

abbrev pub FromItemLayer : Type 0
FromItemLayer = FromItem-F Expression ConstraintParts PartParts ResultParts SourceParts ArmParts TableParts CompoundParts ItemParts TermParts QueryParts LimitParts CoreParts SpannedExpression

abbrev pub OrderingTermLayer : Type 0
OrderingTermLayer = OrderingTerm-F Expression ConstraintParts PartParts ResultParts SourceParts ArmParts TableParts CompoundParts ItemParts TermParts QueryParts LimitParts CoreParts SpannedExpression

abbrev pub QueryLayer : Type 0
QueryLayer = Query-F Expression ConstraintParts PartParts ResultParts SourceParts ArmParts TableParts CompoundParts ItemParts TermParts QueryParts LimitParts CoreParts SpannedExpression

abbrev pub RowLimitLayer : Type 0
RowLimitLayer = RowLimit-F Expression ConstraintParts PartParts ResultParts SourceParts ArmParts TableParts CompoundParts ItemParts TermParts QueryParts LimitParts CoreParts SpannedExpression

abbrev pub SelectCoreLayer : Type 0
SelectCoreLayer = SelectCore-F Expression ConstraintParts PartParts ResultParts SourceParts ArmParts TableParts CompoundParts ItemParts TermParts QueryParts LimitParts CoreParts SpannedExpression

abbrev pub SpannedExprLayer : Type 0
SpannedExprLayer = SpannedExpr-F Expression ConstraintParts PartParts ResultParts SourceParts ArmParts TableParts CompoundParts ItemParts TermParts QueryParts LimitParts CoreParts SpannedExpression
