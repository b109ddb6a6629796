-- The grammar of expressions, as rules with the trees that they make (SQL Language Expressions). What stands in brackets is in Bodies.
use Rattle.std.specs.Prelude.{ℕ, List, [], ◌∷◌, Option, Some, None, fold}
use Rattle.sql_tree.specs.declared.token.Span.{Span}
use Rattle.sql_tree.specs.declared.token.Token.{Token}
use Rattle.sql_tree.specs.declared.token.TokenKind.{TokenKind}
use Rattle.sql_tree.specs.declared.token.TokenKind.TheVariants as kind
use Rattle.sql_tree.specs.declared.expr.Arguments.{Arguments}
use Rattle.sql_tree.specs.declared.expr.Arguments.TheVariants as arguments_are
use Rattle.sql_tree.specs.declared.expr.Arm.{Arm, roll-Arm}
use Rattle.sql_tree.specs.declared.expr.BinaryOp.{BinaryOp}
use Rattle.sql_tree.specs.declared.expr.BinaryOp.TheVariants as binary
use Rattle.sql_tree.specs.declared.expr.Expr.{Expr}
use Rattle.sql_tree.specs.declared.expr.Expr.TheVariants as e
use Rattle.sql_tree.specs.declared.expr.SignedNumber.{SignedNumber}
use Rattle.sql_tree.specs.declared.expr.TypeName.{TypeName}
use Rattle.sql_tree.specs.declared.expr.UnaryOp.{UnaryOp}
use Rattle.sql_tree.specs.declared.expr.UnaryOp.TheVariants as unary
use Rattle.sql_tree.specs.declared.query.Query.{Query}
use Rattle.sql_tree.specs.declared.statement.IndexedColumn.{IndexedColumn}
use Rattle.sql_tree.specs.declared.statement.TableDefinition.{TableDefinition}
use Rattle.sql_grammar.specs.declared.counts.Role.{Role}
use Rattle.sql_grammar.specs.declared.counts.Role.TheVariants as role
use Rattle.sql_grammar.specs.Rules.{Rule, tok, pure, seq, alt, many, to, nest, Kinds}

-- what stands between an opening and a closing token
pub data Name : Type 0 → Type 1 where
  -- `( expr )` or `( query )` as an operand
  parenthesized : Name Expr
  -- `( query )`
  subquery : Name Query
  -- `( expr )` of a constraint
  expression : Name Expr
  -- `VALUES ( .. )`
  row : Name (List Expr)
  -- `name ( .. )`
  arguments : Name (Arguments × List Expr)
  -- `FROM name ( .. )`
  table_arguments : Name (List Expr)
  -- `FILTER ( WHERE expr )`
  condition : Name Expr
  -- `CAST ( expr AS type )`
  cast : Name (Expr × TypeName)
  -- `CASE .. END`
  choice : Name Expr
  -- `IN ( .. )`
  members : Name (Expr → Expr)
  -- `type ( .. )`
  sizes : Name (List SignedNumber)
  -- `RAISE ( .. )`
  raise : Name Expr
  -- `( name, .. )`
  name_list : Name (List Token)
  -- `CREATE TABLE name ( .. )`
  columns : Name TableDefinition
  -- `PRIMARY KEY ( .. )` and `UNIQUE ( .. )`
  key_columns : Name (List IndexedColumn)
  -- `CREATE INDEX .. ( .. )`
  index_columns : Name (List IndexedColumn)
  -- `USING module ( .. )`
  module_arguments : Name (List (Option Span))
  -- `( .. )` in an argument of a module
  balanced : Name (Unit {0})
  -- `PRAGMA name ( word )`
  word : Name Token

abbrev pub Of : Type 0 → Type 1
Of A = Rule Name A

-- ---- words of grammars

-- the bytes from the first of these tokens to the last one
abbrev pub last_end : Token → List Token → ℕ
last_end t [] = t.span.end
last_end t (u ∷ ts) = last_end u ts

abbrev pub span_of : List Token → Span
span_of [] = record { start = 0; end = 0 }
span_of (t ∷ ts) = record { start = t.span.start; end = last_end t ts }

-- [x]
abbrev pub maybe : {A : Type 0} → Of A → Of (Option A)
maybe r = alt (to Some r) (pure None)

-- a token of this kind and role, and what comes after it
abbrev pub after : {A : Type 0} → Role → TokenKind → Of A → Of A
after m k r = to (λ p. p.1) (seq (tok m (k ∷ [])) r)

-- x {"," x}
abbrev pub list_of : {A : Type 0} → Of A → Of (List A)
list_of r = to (λ p. p.0 ∷ p.1) (seq r (many (after role.Outside kind.Comma r)))

-- "(" .. ")" in no expression
abbrev pub in_brackets : {A : Type 0} → Name A → Of A
in_brackets n = nest role.Opening (kind.LeftParen ∷ []) n role.Closing (kind.RightParen ∷ [])

-- "(" .. ")" of an expression
abbrev pub in_parentheses : {A : Type 0} → Name A → Of A
in_parentheses n = nest role.Inward (kind.LeftParen ∷ []) n role.Outward (kind.RightParen ∷ [])

-- x {suffix}, to the left
abbrev pub applied : Expr → List (Expr → Expr) → Expr
applied left suffixes = fold (λ l f. f l) left suffixes

abbrev pub suffixed : Of Expr → Of (List (Expr → Expr)) → Of Expr
suffixed r s = to (λ p. applied p.0 p.1) (seq r s)

-- an operator of these kinds and its right operand
abbrev pub infix_by : Kinds → (TokenKind → BinaryOp) → Of Expr → Of (Expr → Expr)
infix_by ks f r = to (λ p l. e.Binary (f p.0.kind) l p.1) (seq (tok role.Operator ks) r)

-- ---- names: words that are not reserved

abbrev pub names : Kinds
names = kind.Word ∷ kind.QuotedName ∷ kind.Abort ∷ kind.After ∷ kind.Asc ∷ kind.Before ∷ kind.Begin ∷ kind.By ∷ kind.Deferred ∷ kind.Desc ∷ kind.Each ∷ kind.Exclusive ∷ kind.Explain ∷ kind.First ∷ kind.For ∷ kind.Ignore ∷ kind.Immediate ∷ kind.Instead ∷ kind.Key ∷ kind.Last ∷ kind.Nulls ∷ kind.Of ∷ kind.Offset ∷ kind.Plan ∷ kind.Pragma ∷ kind.Query ∷ kind.Release ∷ kind.Replace ∷ kind.Rollback ∷ kind.Row ∷ kind.Trigger ∷ kind.View ∷ kind.Virtual ∷ []

abbrev pub name : Of Token
name = tok role.Quiet names

-- ---- types: name {name} ["(" signed ["," signed] ")"]

-- [+ | -] number
unfoldable pub signed : Of SignedNumber
signed = to (λ p. record { sign = p.0; number = p.1 }) (seq (maybe (tok role.Outside (kind.Plus ∷ kind.Minus ∷ []))) (tok role.Outside (kind.Number ∷ [])))

abbrev pub one_or_two : SignedNumber → Option SignedNumber → List SignedNumber
one_or_two a None = a ∷ []
one_or_two a (Some b) = a ∷ b ∷ []

unfoldable pub two_sizes : Of (List SignedNumber)
two_sizes = to (λ p. one_or_two p.0 p.1) (seq signed (maybe (after role.Outside kind.Comma signed)))

abbrev pub or_none : {X : Type 0} → Option (List X) → List X
or_none None = []
or_none (Some xs) = xs

unfoldable pub type_sizes : Of (List SignedNumber)
type_sizes = to or_none (maybe (in_brackets sizes))

unfoldable pub type_words : Of (List Token)
type_words = to (λ p. p.0 ∷ p.1) (seq name (many name))

unfoldable pub type_name : Of TypeName
type_name = to (λ p. record { words = p.0; sizes = p.1 }) (seq type_words type_sizes)

-- ---- primaries

-- a number, a text, a blob, NULL, TRUE, FALSE
abbrev pub literal_kinds : Kinds
literal_kinds = kind.Number ∷ kind.Text ∷ kind.Blob ∷ kind.Null ∷ kind.True ∷ kind.False ∷ []

unfoldable pub literal : Of Expr
literal = to e.Literal (tok role.Quiet literal_kinds)

unfoldable pub parameter : Of Expr
parameter = to e.Parameter (tok role.Quiet (kind.Parameter ∷ []))

-- [FILTER "(" WHERE expr ")"]
unfoldable pub filter : Of (Option Expr)
filter = maybe (after role.Quiet kind.Filter (in_parentheses condition))

-- "(" ["*" | [DISTINCT] expr {"," expr}] ")" [FILTER ..]
unfoldable pub call : Of (Token → Expr)
call = to (λ p n. e.Call n p.0.0 p.0.1 p.1) (seq (in_parentheses arguments) filter)

-- "." name
unfoldable pub of_table : Of (Token → Expr)
of_table = to (λ c t. e.TableColumn t c) (after role.Quiet kind.Dot name)

-- a column, a column of a table, or a call
unfoldable pub behind_name : Of (Token → Expr)
behind_name = alt of_table (alt call (pure e.Column))

unfoldable pub named : Of Expr
named = to (λ p. p.1 p.0) (seq name behind_name)

unfoldable pub enclosed : Of Expr
enclosed = in_parentheses parenthesized

-- CAST "(" expr AS type ")"
unfoldable pub casting : Of Expr
casting = to (λ p. e.Cast p.0 p.1) (after role.Quiet kind.Cast (in_parentheses cast))

-- EXISTS "(" query ")"
unfoldable pub existing : Of Expr
existing = to e.Exists (after role.Quiet kind.Exists (in_parentheses subquery))

unfoldable pub choosing : Of Expr
choosing = nest role.Inward (kind.Case ∷ []) choice role.Outward (kind.End ∷ [])

unfoldable pub raising : Of Expr
raising = after role.Quiet kind.Raise (in_parentheses raise)

-- prim = literal | parameter | name .. | "(" expr ")" | "(" query ")" | EXISTS .. | CAST .. | CASE .. END | RAISE ..
unfoldable pub primary : Of Expr
primary = alt literal (alt parameter (alt named (alt enclosed (alt existing (alt casting (alt choosing raising))))))

-- ---- operators, from the tightest on

abbrev pub sign_op : TokenKind → UnaryOp
sign_op kind.Minus = unary.Negative
sign_op kind.Plus = unary.Positive
sign_op _ = unary.BitNot

-- the last sign first
abbrev pub with_signs : List Token → Expr → Expr
with_signs [] x = x
with_signs (t ∷ signs) x = e.Unary (sign_op t.kind) (with_signs signs x)

unfoldable pub signs : Of (List Token)
signs = many (tok role.Operator (kind.Minus ∷ kind.Plus ∷ kind.Tilde ∷ []))

-- un = {- + ~} prim
unfoldable pub signed_primary : Of Expr
signed_primary = to (λ p. with_signs p.0 p.1) (seq signs primary)

unfoldable pub collation : Of (Expr → Expr)
collation = to (λ n x. e.Collate x n) (after role.Operator kind.Collate name)

unfoldable pub collations : Of (List (Expr → Expr))
collations = many collation

-- col = un {COLLATE name}
unfoldable pub collated : Of Expr
collated = suffixed signed_primary collations

abbrev pub concatenation_op : TokenKind → BinaryOp
concatenation_op _ = binary.Concatenate

unfoldable pub more_concatenation : Of (List (Expr → Expr))
more_concatenation = many (infix_by (kind.DoubleBar ∷ []) concatenation_op collated)

-- cat = col {"||" col}
unfoldable pub concatenation : Of Expr
concatenation = suffixed collated more_concatenation

abbrev pub product_op : TokenKind → BinaryOp
product_op kind.Star = binary.Multiply
product_op kind.Slash = binary.Divide
product_op _ = binary.Remainder

unfoldable pub more_product : Of (List (Expr → Expr))
more_product = many (infix_by (kind.Star ∷ kind.Slash ∷ kind.Percent ∷ []) product_op concatenation)

-- mul = cat {(* / %) cat}
unfoldable pub product : Of Expr
product = suffixed concatenation more_product

abbrev pub sum_op : TokenKind → BinaryOp
sum_op kind.Plus = binary.Add
sum_op _ = binary.Subtract

unfoldable pub more_sum : Of (List (Expr → Expr))
more_sum = many (infix_by (kind.Plus ∷ kind.Minus ∷ []) sum_op product)

-- sum = mul {(+ -) mul}
unfoldable pub sum : Of Expr
sum = suffixed product more_sum

abbrev pub bits_op : TokenKind → BinaryOp
bits_op kind.Ampersand = binary.BitAnd
bits_op kind.Bar = binary.BitOr
bits_op kind.ShiftLeft = binary.ShiftLeft
bits_op _ = binary.ShiftRight

unfoldable pub more_bits : Of (List (Expr → Expr))
more_bits = many (infix_by (kind.Ampersand ∷ kind.Bar ∷ kind.ShiftLeft ∷ kind.ShiftRight ∷ []) bits_op sum)

-- bit = sum {(& | << >>) sum}
unfoldable pub bits : Of Expr
bits = suffixed sum more_bits

abbrev pub relation_op : TokenKind → BinaryOp
relation_op kind.Less = binary.Less
relation_op kind.LessEqual = binary.LessEqual
relation_op kind.Greater = binary.Greater
relation_op _ = binary.GreaterEqual

unfoldable pub more_relation : Of (List (Expr → Expr))
more_relation = many (infix_by (kind.Less ∷ kind.LessEqual ∷ kind.Greater ∷ kind.GreaterEqual ∷ []) relation_op bits)

-- rel = bit {(< <= > >=) bit}
unfoldable pub relation : Of Expr
relation = suffixed bits more_relation

-- ---- tests: an operand and what stands behind it. The first token of each is its operator

abbrev pub equality_op : TokenKind → BinaryOp
equality_op kind.Equal = binary.Equal
equality_op kind.DoubleEqual = binary.Equal
equality_op _ = binary.NotEqual

unfoldable pub equal_to : Of (Expr → Expr)
equal_to = infix_by (kind.Equal ∷ kind.DoubleEqual ∷ kind.LessGreater ∷ kind.BangEqual ∷ []) equality_op relation

abbrev pub opposite_is : BinaryOp → BinaryOp
opposite_is binary.Is = binary.IsNot
opposite_is _ = binary.Is

-- `IS`, or the opposite behind NOT; and the opposite of that with DISTINCT FROM
abbrev pub is_op : Option Token → Option Token → BinaryOp
is_op None None = binary.Is
is_op (Some t) None = binary.IsNot
is_op None (Some u) = binary.IsNot
is_op (Some t) (Some u) = binary.Is

unfoldable pub distinct_from : Of (Option Token)
distinct_from = maybe (after role.Quiet kind.Distinct (tok role.Quiet (kind.From ∷ [])))

-- IS [NOT] [DISTINCT FROM] rel
unfoldable pub is_test : Of (Expr → Expr)
is_test = to (λ p l. e.Binary (is_op p.0 p.1.0) l p.1.1) (after role.Operator kind.Is (seq (maybe (tok role.Quiet (kind.Not ∷ []))) (seq distinct_from relation)))

-- BETWEEN rel AND rel
unfoldable pub between : Role → Of (Expr → Expr)
between m = to (λ p l. e.Between l p.0 p.1) (after m kind.Between (seq relation (after role.Quiet kind.And relation)))

-- LIKE rel [ESCAPE rel]
unfoldable pub like : Role → Of (Expr → Expr)
like m = to (λ p l. e.Like l p.0 p.1) (after m kind.Like (seq relation (maybe (after role.Quiet kind.Escape relation))))

-- GLOB rel
unfoldable pub glob : Role → Of (Expr → Expr)
glob m = to (λ r l. e.Binary binary.Glob l r) (after m kind.Glob relation)

-- IN "(" [expr {"," expr} | query] ")"
unfoldable pub member_of : Role → Of (Expr → Expr)
member_of m = after m kind.In (in_parentheses members)

-- BETWEEN, LIKE, GLOB, IN
unfoldable pub positive_test : Role → Of (Expr → Expr)
positive_test m = alt (between m) (alt (like m) (alt (glob m) (member_of m)))

-- ISNULL | NOTNULL
abbrev pub null_op : TokenKind → UnaryOp
null_op kind.IsNull = unary.IsNull
null_op _ = unary.NotNull

unfoldable pub null_test : Of (Expr → Expr)
null_test = to (λ t l. e.Unary (null_op t.kind) l) (tok role.Operator (kind.IsNull ∷ kind.NotNull ∷ []))

-- behind NOT: a test, or NULL
unfoldable pub negated : Of (Expr → Expr)
negated = alt (to (λ f l. e.Unary unary.Not (f l)) (positive_test role.Quiet)) (to (λ t l. e.Unary unary.NotNull l) (tok role.Quiet (kind.Null ∷ [])))

unfoldable pub test : Of (Expr → Expr)
test = alt equal_to (alt is_test (alt (positive_test role.Operator) (alt null_test (after role.Operator kind.Not negated))))

unfoldable pub tests : Of (List (Expr → Expr))
tests = many test

-- eq = rel {test}
unfoldable pub equality : Of Expr
equality = suffixed relation tests

-- ---- NOT, AND, OR

abbrev pub with_nots : List Token → Expr → Expr
with_nots [] x = x
with_nots (t ∷ nots) x = e.Unary unary.Not (with_nots nots x)

unfoldable pub nots : Of (List Token)
nots = many (tok role.Operator (kind.Not ∷ []))

-- not = {NOT} eq
unfoldable pub negation : Of Expr
negation = to (λ p. with_nots p.0 p.1) (seq nots equality)

abbrev pub and_op : TokenKind → BinaryOp
and_op _ = binary.And

unfoldable pub more_conjunction : Of (List (Expr → Expr))
more_conjunction = many (infix_by (kind.And ∷ []) and_op negation)

-- and = not {AND not}
unfoldable pub conjunction : Of Expr
conjunction = suffixed negation more_conjunction

abbrev pub or_op : TokenKind → BinaryOp
or_op _ = binary.Or

unfoldable pub more_expr : Of (List (Expr → Expr))
more_expr = many (infix_by (kind.Or ∷ []) or_op conjunction)

-- expr = and {OR and}
unfoldable pub expr : Of Expr
expr = suffixed conjunction more_expr

-- expr {"," expr}
unfoldable pub exprs : Of (List Expr)
exprs = list_of expr

-- ---- an expression in two steps, for where its first token may begin something else: that of a name and what goes on behind it

-- all that may stand behind an operand, from the tightest operator on
abbrev pub Tails : Type 0
Tails = List (Expr → Expr) × (List (Expr → Expr) × (List (Expr → Expr) × (List (Expr → Expr) × (List (Expr → Expr) × (List (Expr → Expr) × (List (Expr → Expr) × (List (Expr → Expr) × List (Expr → Expr))))))))

abbrev pub with_tails : Tails → Expr → Expr
with_tails p x = applied (applied (applied (applied (applied (applied (applied (applied (applied x p.0) p.1.0) p.1.1.0) p.1.1.1.0) p.1.1.1.1.0) p.1.1.1.1.1.0) p.1.1.1.1.1.1.0) p.1.1.1.1.1.1.1.0) p.1.1.1.1.1.1.1.1

unfoldable pub tails : Of (Expr → Expr)
tails = to with_tails (seq collations (seq more_concatenation (seq more_product (seq more_sum (seq more_bits (seq more_relation (seq tests (seq more_conjunction more_expr))))))))

-- an operand that begins with no name
unfoldable pub other_primary : Of Expr
other_primary = alt literal (alt parameter (alt enclosed (alt existing (alt casting (alt choosing raising)))))

unfoldable pub signed_other : Of Expr
signed_other = alt (to (λ p. with_signs (p.0 ∷ []) p.1) (seq (tok role.Operator (kind.Minus ∷ kind.Plus ∷ kind.Tilde ∷ [])) signed_primary)) other_primary

abbrev pub negated_first : Token × (Expr × (List (Expr → Expr) × List (Expr → Expr))) → Expr
negated_first p = applied (applied (with_nots (p.0 ∷ []) p.1.0) p.1.1.0) p.1.1.1

-- an expression that begins with no name
unfoldable pub other_expr : Of Expr
other_expr = alt (to negated_first (seq (tok role.Operator (kind.Not ∷ [])) (seq negation (seq more_conjunction more_expr)))) (to (λ p. p.1 p.0) (seq signed_other tails))

-- ---- between brackets

-- WHEN expr THEN expr
unfoldable pub arm : Of Arm
arm = to (λ p. roll-Arm (record { condition = p.0; value = p.1 })) (seq (after role.Quiet kind.When expr) (after role.Quiet kind.Then expr))

unfoldable pub arms : Of (List Arm)
arms = to (λ p. p.0 ∷ p.1) (seq arm (many arm))

unfoldable pub otherwise : Of (Option Expr)
otherwise = maybe (after role.Quiet kind.Else expr)

-- [expr] arm {arm} [ELSE expr]
unfoldable pub case : Of Expr
case = alt (to (λ p. e.Case None p.0 p.1) (seq arms otherwise)) (to (λ p. e.Case (Some p.0) p.1.0 p.1.1) (seq expr (seq arms otherwise)))

abbrev pub or_no_arguments : Option (Arguments × List Expr) → Arguments × List Expr
or_no_arguments None = (arguments_are.All, [])
or_no_arguments (Some found) = found

-- "*" | [DISTINCT] expr {"," expr}
unfoldable pub some_arguments : Of (Arguments × List Expr)
some_arguments =
    alt (to (λ t. (arguments_are.Star, [])) (tok role.Quiet (kind.Star ∷ [])))
    (alt (to (λ es. (arguments_are.Distinct, es)) (after role.Quiet kind.Distinct exprs)) (to (λ es. (arguments_are.All, es)) exprs))

-- IGNORE | ABORT "," text
unfoldable pub raise_what : Of Expr
raise_what = alt (to (λ t. e.RaiseIgnore) (tok role.Quiet (kind.Ignore ∷ []))) (to e.RaiseAbort (after role.Quiet kind.Abort (after role.Quiet kind.Comma (tok role.Quiet (kind.Text ∷ [])))))

-- opens every rule of expressions where a proof computes with them
unfoldable pub all_rules : Unit {0}
unfolding signed two_sizes type_sizes type_words type_name literal parameter filter call of_table behind_name named enclosed existing casting choosing raising primary signs signed_primary collation collations collated more_concatenation concatenation more_product product more_sum sum more_bits bits more_relation relation equal_to distinct_from is_test between like glob member_of positive_test null_test negated test tests equality nots negation more_conjunction conjunction more_expr expr exprs tails other_primary signed_other other_expr arm arms otherwise case some_arguments raise_what
all_rules = tt
