-- Bound expressions: over a row of the own FROM, the arguments of the own query, and what its aggregates come to. They hold no query, but ask one by its unit.
use Rattle.std.specs.Prelude.{ℕ, List, [], ◌∷◌}
use Rattle.eng_value.specs.declared.builtin.Builtin.{Builtin}
use Rattle.eng_value.specs.declared.collation.Collation.{Collation}
use Rattle.eng_value.specs.declared.operators.BinaryOperator.{BinaryOperator}
use Rattle.eng_value.specs.declared.operators.Sides.{Sides}
use Rattle.eng_value.specs.declared.operators.UnaryOperator.{UnaryOperator}
use Rattle.sql_words.specs.declared.literal.Literal.{Literal as BoundLiteral}

-- no type may hold lists of itself, so that lists of expressions have a type of their own here; `In`, `Choose` and others below take plain lists
mutual
  pub data BoundExpr : Type 0 where
    Literal : BoundLiteral → BoundExpr
    -- the parameter of this number, from 1 on
    Parameter : ℕ → BoundExpr
    -- a column of an item of the own FROM: the item's place, leftmost 0, and the column's place in it
    Column : ℕ → ℕ → BoundExpr
    -- the rowid of an item, where no column of it is the rowid
    Rowid : ℕ → BoundExpr
    -- what the asker hands over in this place
    Argument : ℕ → BoundExpr
    -- what an aggregate of the own SELECT comes to, by its slot
    Aggregate : ℕ → BoundExpr
    Unary : UnaryOperator → BoundExpr → BoundExpr
    Binary : BinaryOperator → BoundExpr → BoundExpr → BoundExpr
    -- `a LIKE b ESCAPE c`
    LikeEscaped : BoundExpr → BoundExpr → BoundExpr → BoundExpr
    -- `a BETWEEN b AND c`, with the sides of `a >= b` and of `a <= c`
    Between : Sides → Sides → BoundExpr → BoundExpr → BoundExpr → BoundExpr
    -- `a IN (b, ..)`, where each is compared with `a` so
    InList : Sides → BoundExpr → BoundExprs → BoundExpr
    -- the value of the first arm whose condition is true, else the last one
    ChooseArm : BoundArms → BoundExpr → BoundExpr
    -- the value of the first arm whose operand is equal to the first expression, else the last one
    MatchArm : BoundExpr → BoundMatches → BoundExpr → BoundExpr
    -- `iif(a, b, c)`
    Iif : BoundExpr → BoundExpr → BoundExpr → BoundExpr
    -- coalesce or ifnull: the first that is not NULL
    CoalesceList : Builtin → BoundExprs → BoundExpr
    -- a built-in function, which compares texts under the collation
    CallBuiltin : Builtin → Collation → BoundExprs → BoundExpr
    -- a function of a host
    CallHost : List ℕ → BoundExprs → BoundExpr
    -- the value of a query's one column in its first row: the query's unit, and what is handed over to it
    ScalarOf : ℕ → BoundExprs → BoundExpr
    -- whether a query has a row
    ExistsIn : ℕ → BoundExprs → BoundExpr
    -- `a IN (query)`
    InUnit : Sides → BoundExpr → ℕ → BoundExprs → BoundExpr
    RaiseIgnore : BoundExpr
    RaiseAbort : List ℕ → BoundExpr

  pub data BoundExprs : Type 0 where
    NoExprs : BoundExprs
    AnExpr : BoundExpr → BoundExprs → BoundExprs

  -- conditions and values
  pub data BoundArms : Type 0 where
    NoArms : BoundArms
    AnArm : BoundExpr → BoundExpr → BoundArms → BoundArms

  -- operands with how they are compared, and values
  pub data BoundMatches : Type 0 where
    NoMatches : BoundMatches
    AMatch : Sides → BoundExpr → BoundExpr → BoundMatches → BoundMatches

-- ---- with plain lists

-- `WHEN condition THEN value`
pub record BoundArm : Type 0 where
  pub condition : BoundExpr
  pub value : BoundExpr

-- `WHEN operand THEN value`, where the operand is compared so
pub record BoundMatch : Type 0 where
  pub sides : Sides
  pub operand : BoundExpr
  pub value : BoundExpr

abbrev pub exprs : List BoundExpr → BoundExprs
exprs [] = NoExprs
exprs (a ∷ rest) = AnExpr a (exprs rest)

abbrev pub arms : List BoundArm → BoundArms
arms [] = NoArms
arms (a ∷ rest) = AnArm a.condition a.value (arms rest)

abbrev pub matches : List BoundMatch → BoundMatches
matches [] = NoMatches
matches (a ∷ rest) = AMatch a.sides a.operand a.value (matches rest)

abbrev pub In : Sides → BoundExpr → List BoundExpr → BoundExpr
In sides a others = InList sides a (exprs others)

abbrev pub Choose : List BoundArm → BoundExpr → BoundExpr
Choose those last = ChooseArm (arms those) last

abbrev pub Match : BoundExpr → List BoundMatch → BoundExpr → BoundExpr
Match a those last = MatchArm a (matches those) last

abbrev pub Coalesce : Builtin → List BoundExpr → BoundExpr
Coalesce f args = CoalesceList f (exprs args)

abbrev pub Call : Builtin → Collation → List BoundExpr → BoundExpr
Call f collation args = CallBuiltin f collation (exprs args)

abbrev pub HostCall : List ℕ → List BoundExpr → BoundExpr
HostCall name args = CallHost name (exprs args)

abbrev pub Scalar : ℕ → List BoundExpr → BoundExpr
Scalar unit arguments = ScalarOf unit (exprs arguments)

abbrev pub Exists : ℕ → List BoundExpr → BoundExpr
Exists unit arguments = ExistsIn unit (exprs arguments)

abbrev pub InQuery : Sides → BoundExpr → ℕ → List BoundExpr → BoundExpr
InQuery sides a unit arguments = InUnit sides a unit (exprs arguments)
