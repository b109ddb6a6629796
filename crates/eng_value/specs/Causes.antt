-- Sets of causes: an error names any one of them, so their order and number do not count.
use Rattle.std.specs.Prelude.{◌≡◌, ℕ, List, [], ◌∷◌, Bool, ◌&&◌, length, map, nat_eq, if◌then◌else◌}
use Rattle.std.specs.Ordering.{nat_cmp}
use Rattle.std.specs.Cmp.Lexicographic.{pointwise, slice_cmp}
use Rattle.std.specs.FinSet as set
use Rattle.eng_value.specs.declared.cause.Cause.{Cause}
use Rattle.eng_value.specs.declared.cause.Cause.TheVariants.{NotYet, Mem, Interrupted, SinkFault, Real, Overflow, NotText, Escape, TooBig, Full, Unknown, Exists, Reserved, Arity, Misuse, Limit, Syntax, Skip, Ambiguous, BareColumn, Fault, Denied, Constraint, Mismatch, HostRefused, ModuleRefused, TriggerDepth, TransactionState, NoPlan, BestIndex, Locked, Raise, CommitRefused, NotQuery, NoSuchStatement, StatementsFull}
use Rattle.eng_value.specs.declared.cause.ConstraintKind.{ConstraintKind}
use Rattle.eng_value.specs.declared.cause.ConstraintKind.TheVariants as constraint
use Rattle.eng_value.specs.declared.cause.LimitKind.{LimitKind}
use Rattle.eng_value.specs.declared.cause.LimitKind.TheVariants as limit
use Rattle.eng_value.specs.declared.cause.NameKind.{NameKind}
use Rattle.eng_value.specs.declared.cause.NameKind.TheVariants as kind

abbrev pub kind_key : NameKind → ℕ
kind_key kind.Table = 0
kind_key kind.Column = 1
kind_key kind.Function = 2
kind_key kind.Collation = 3
kind_key kind.Pragma = 4
kind_key kind.Module = 5
kind_key kind.Index = 6
kind_key kind.View = 7
kind_key kind.Trigger = 8
kind_key kind.Savepoint = 9

abbrev pub limit_key : LimitKind → ℕ
limit_key limit.Columns = 0
limit_key limit.Nestings = 1
limit_key limit.Operators = 2
limit_key limit.Parts = 3
limit_key limit.Items = 4
limit_key limit.Queries = 5
limit_key limit.Rows = 6
limit_key limit.Asks = 7

abbrev pub constraint_key : ConstraintKind → ℕ
constraint_key constraint.NotNull = 0
constraint_key constraint.Check = 1
constraint_key constraint.Unique = 2

-- which cause it is
abbrev pub number_of : Cause → ℕ
number_of NotYet = 0
number_of Mem = 1
number_of (Interrupted n) = 2
number_of SinkFault = 3
number_of (Full table) = 4
number_of Real = 5
number_of Overflow = 6
number_of NotText = 7
number_of Escape = 8
number_of TooBig = 9
number_of (Limit k) = 10
number_of (Reserved name) = 11
number_of (Arity name) = 12
number_of (Misuse name) = 13
number_of (Unknown k name) = 14
number_of (Exists k name) = 15
number_of (Syntax at) = 16
number_of Skip = 17
number_of (Ambiguous name) = 18
number_of (BareColumn name) = 19
number_of (Fault host) = 20
number_of (Denied action) = 21
number_of (Constraint k table) = 22
number_of Mismatch = 23
number_of (HostRefused text) = 24
number_of (ModuleRefused text) = 25
number_of (TriggerDepth most) = 26
number_of (TransactionState inside) = 27
number_of (NoPlan host) = 28
number_of (BestIndex host) = 29
number_of (Locked table n) = 30
number_of (Raise text) = 31
number_of CommitRefused = 32
number_of NotQuery = 33
number_of (NoSuchStatement n) = 34
number_of StatementsFull = 35

-- the number that it tells, or the kind
abbrev pub detail_of : Cause → ℕ
detail_of (Interrupted n) = n
detail_of (Limit k) = limit_key k
detail_of (Unknown k name) = kind_key k
detail_of (Exists k name) = kind_key k
detail_of (Syntax at) = at
detail_of (Denied action) = action
detail_of (Constraint k table) = constraint_key k
detail_of (TriggerDepth most) = most
detail_of (TransactionState inside) = if inside then 1 else 0
detail_of (Locked table n) = n
detail_of (NoSuchStatement n) = n
detail_of other = 0

-- the name that it tells
abbrev pub name_of : Cause → List ℕ
name_of (Full table) = table
name_of (Reserved name) = name
name_of (Arity name) = name
name_of (Misuse name) = name
name_of (Unknown k name) = name
name_of (Exists k name) = name
name_of (Ambiguous name) = name
name_of (BareColumn name) = name
name_of (Fault host) = host
name_of (Constraint k table) = table
name_of (HostRefused text) = text
name_of (ModuleRefused text) = text
name_of (NoPlan host) = host
name_of (BestIndex host) = host
name_of (Locked table n) = table
name_of (Raise text) = text
name_of other = []

-- no two causes have the same key
abbrev pub cause_key : Cause → List ℕ
cause_key c = number_of c ∷ detail_of c ∷ name_of c

-- a finite set of causes, by their keys
abbrev pub CauseSet : Type 0
CauseSet = set.FinSet (slice_cmp nat_cmp)

-- the set of one cause
abbrev pub only : Cause → CauseSet
only c = set.insert set.empty (cause_key c)

-- the cause is one of them
abbrev pub has_cause : CauseSet → Cause → Bool
has_cause causes c = set.contains causes (cause_key c)

-- two causes are one
abbrev pub is_same_cause : Cause → Cause → Bool
is_same_cause c d = pointwise nat_eq (cause_key c) (cause_key d)

-- each of these stands once: they are as many as their set has
abbrev pub StandOnce : List Cause → Type 0
StandOnce causes = length causes ≡ set.len {R = slice_cmp nat_cmp} (set.from_list (map cause_key causes))

-- there is no other cause than that the row is left
abbrev pub is_skip : CauseSet → Bool
is_skip causes = has_cause causes Skip && nat_eq (set.len causes) 1

-- the causes that may be named: that a row is left is none, where there are others
abbrev pub named : CauseSet → CauseSet
named causes = if is_skip causes then causes else set.remove causes (cause_key Skip)
