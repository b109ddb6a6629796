-- The names by which functions, transactions and savepoints are told (Built-in Scalar SQL Functions; Built-in Aggregate Functions; Authorizer Action Codes).
use Rattle.std.specs.Prelude.{ℕ, List, codes}
use Rattle.eng_value.specs.declared.builtin.Builtin.TheVariants as builtin
use Rattle.eng_value.specs.declared.builtin.Builtin.{Builtin}
use Rattle.bound_tree.specs.declared.units.AggregateKind.TheVariants as aggregate
use Rattle.bound_tree.specs.declared.units.AggregateKind.{AggregateKind}

-- in lower case, whichever way it is written; substring is told as substr
abbrev pub builtin_word : Builtin → List ℕ
builtin_word builtin.Abs = codes "abs"
builtin_word builtin.Char = codes "char"
builtin_word builtin.Coalesce = codes "coalesce"
builtin_word builtin.IfNull = codes "ifnull"
builtin_word builtin.Iif = codes "iif"
builtin_word builtin.Hex = codes "hex"
builtin_word builtin.Instr = codes "instr"
builtin_word builtin.Length = codes "length"
builtin_word builtin.Lower = codes "lower"
builtin_word builtin.Upper = codes "upper"
builtin_word builtin.Trim = codes "trim"
builtin_word builtin.TrimLeft = codes "ltrim"
builtin_word builtin.TrimRight = codes "rtrim"
builtin_word builtin.Max = codes "max"
builtin_word builtin.Min = codes "min"
builtin_word builtin.NullIf = codes "nullif"
builtin_word builtin.Quote = codes "quote"
builtin_word builtin.Replace = codes "replace"
builtin_word builtin.Substr = codes "substr"
builtin_word builtin.TypeOf = codes "typeof"
builtin_word builtin.Unicode = codes "unicode"
builtin_word builtin.ZeroBlob = codes "zeroblob"

abbrev pub aggregate_word : AggregateKind → List ℕ
aggregate_word aggregate.CountRows = codes "count"
aggregate_word aggregate.Count = codes "count"
aggregate_word aggregate.Sum = codes "sum"
aggregate_word aggregate.Min = codes "min"
aggregate_word aggregate.Max = codes "max"
aggregate_word aggregate.GroupConcat = codes "group_concat"
aggregate_word (aggregate.HostAggregate name) = name
