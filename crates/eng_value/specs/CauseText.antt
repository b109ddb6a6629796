-- The result code and the text of each cause.
use Rattle.std.specs.Prelude.{ℕ, List, [], ◌++◌, Bool, if◌then◌else◌, codes}
use Rattle.std.specs.Fmt.{decimal}
use Rattle.eng_value.specs.declared.cause.Cause.{Cause}
use Rattle.eng_value.specs.declared.cause.Cause.TheVariants.{NotYet, Mem, Interrupted, SinkFault, Real, Overflow, NotText, Escape, TooBig, Full, Unknown, Exists, Reserved, Arity, Misuse, Limit, Syntax, Skip, Ambiguous, BareColumn, Fault, Denied, Constraint, Mismatch, HostRefused, ModuleRefused, TriggerDepth, TransactionState, NoPlan, BestIndex, Locked, Raise, CommitRefused, NotQuery, NoSuchStatement, StatementsFull}
use Rattle.eng_value.specs.declared.cause.ConstraintKind.{ConstraintKind}
use Rattle.eng_value.specs.declared.cause.ConstraintKind.TheVariants as constraint
use Rattle.eng_value.specs.declared.cause.LimitKind.{LimitKind}
use Rattle.eng_value.specs.declared.cause.LimitKind.TheVariants as limit
use Rattle.eng_value.specs.declared.cause.NameKind.{NameKind}
use Rattle.eng_value.specs.declared.cause.NameKind.TheVariants as kind

abbrev pub code_of : Cause → ℕ
code_of NotYet = 1
code_of Mem = 7
code_of (Interrupted n) = 9
code_of SinkFault = 10
code_of Real = 1
code_of Overflow = 1
code_of NotText = 1
code_of Escape = 1
code_of TooBig = 18
code_of (Full table) = 13
code_of (Unknown k name) = 1
code_of (Exists k name) = 1
code_of (Reserved name) = 1
code_of (Arity name) = 1
code_of (Misuse name) = 1
code_of (Limit k) = 1
code_of (Syntax at) = 1
code_of Skip = 1
code_of (Ambiguous name) = 1
code_of (BareColumn name) = 1
code_of (Fault host) = 10
code_of (Denied action) = 23
code_of (Constraint k table) = 19
code_of Mismatch = 20
code_of (HostRefused text) = 1
code_of (ModuleRefused text) = 1
code_of (TriggerDepth most) = 1
code_of (TransactionState inside) = 1
code_of (NoPlan host) = 1
code_of (BestIndex host) = 1
code_of (Locked table n) = 6
code_of (Raise text) = 19
code_of CommitRefused = 19
code_of NotQuery = 21
code_of (NoSuchStatement n) = 21
code_of StatementsFull = 21

abbrev pub kind_word : NameKind → List ℕ
kind_word kind.Table = codes "table"
kind_word kind.Column = codes "column"
kind_word kind.Function = codes "function"
kind_word kind.Collation = codes "collation"
kind_word kind.Pragma = codes "pragma"
kind_word kind.Module = codes "module"
kind_word kind.Index = codes "index"
kind_word kind.View = codes "view"
kind_word kind.Trigger = codes "trigger"
kind_word kind.Savepoint = codes "savepoint"

abbrev pub limit_words : LimitKind → List ℕ
limit_words limit.Columns = codes "100 columns"
limit_words limit.Nestings = codes "100 nestings"
limit_words limit.Operators = codes "1000 operators"
limit_words limit.Parts = codes "500 parts"
limit_words limit.Items = codes "16 items"
limit_words limit.Queries = codes "20 queries"
limit_words limit.Rows = codes "1000000 rows"
limit_words limit.Asks = codes "16 asks"

abbrev pub constraint_words : ConstraintKind → List ℕ
constraint_words constraint.NotNull = codes "NOT NULL"
constraint_words constraint.Check = codes "CHECK"
constraint_words constraint.Unique = codes "UNIQUE"

-- whether a transaction is open
abbrev pub transaction_words : Bool → List ℕ
transaction_words inside = if inside then codes "a transaction is open" else codes "no transaction is open"

abbrev pub text_of : Cause → List ℕ
text_of NotYet = codes "not built yet"
text_of Mem = codes "out of memory"
text_of (Interrupted n) = codes "interrupted after " ++ decimal n ++ codes " instructions"
text_of SinkFault = []
text_of Real = codes "REAL is not supported"
text_of Overflow = codes "integer overflow"
text_of NotText = codes "blob is not text"
text_of Escape = codes "ESCAPE must be one character"
text_of TooBig = codes "value longer than 1000000 bytes"
text_of (Full table) = codes "table is full: " ++ table
text_of (Unknown k name) = codes "no such " ++ kind_word k ++ codes ": " ++ name
text_of (Exists k name) = kind_word k ++ codes " already exists: " ++ name
text_of (Reserved name) = codes "reserved name: " ++ name
text_of (Arity name) = codes "wrong number of values: " ++ name
text_of (Misuse name) = codes "misuse of: " ++ name
text_of (Limit k) = codes "limit of " ++ limit_words k
text_of (Syntax at) = codes "syntax error at byte " ++ decimal at
text_of Skip = []
text_of (Ambiguous name) = codes "ambiguous column name: " ++ name
text_of (BareColumn name) = codes "column outside aggregate: " ++ name
text_of (Fault host) = codes "fault of " ++ host
text_of (Denied action) = codes "denied: action " ++ decimal action
text_of (Constraint k table) = constraint_words k ++ codes " constraint failed: " ++ table
text_of Mismatch = codes "datatype mismatch"
text_of (HostRefused text) = text
text_of (ModuleRefused text) = text
text_of (TriggerDepth most) = codes "trigger depth over " ++ decimal most
text_of (TransactionState inside) = transaction_words inside
text_of (NoPlan host) = codes "missing argument of " ++ host
text_of (BestIndex host) = codes "bad index answer of " ++ host
text_of (Locked table n) = codes "table " ++ table ++ codes " is read by statement " ++ decimal n
text_of (Raise text) = text
text_of CommitRefused = codes "commit refused by hook"
text_of NotQuery = codes "not a query"
text_of (NoSuchStatement n) = codes "no statement " ++ decimal n
text_of StatementsFull = codes "sixteen statements are open"
