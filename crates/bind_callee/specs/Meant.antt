-- What plain data of callees stands for.
use Rattle.std.specs.Prelude.{ℕ, nat_eq, Bool, ◌||◌, List, Option, Ok, Err, if◌then◌else◌}
use Rattle.std.specs.List.{find}
use Rattle.eng_entry.specs.Names.{is_same_name}
use Rattle.eng_value.specs.declared.builtin.Builtin.{Builtin}
use Rattle.sql_words.specs.declared.builtins.ArgumentCount.{ArgumentCount}
use Rattle.sql_words.specs.Builtins.{NamedBuiltin, takes}
use Rattle.sql_bound.specs.Callees.{Aggregator, Callee, takes_arity}
use Rattle.sql_bound.specs.Callees as callee
use Rattle.sql_bound.specs.Refusals.{Checked}
use Rattle.sql_tree.specs.declared.expr.Arguments.{Arguments}
use Rattle.sql_tree.specs.declared.expr.Arguments.TheVariants as arguments
use Rattle.eng_value.specs.declared.cause.Cause.TheVariants.{Arity, Misuse}
use Rattle.bind_callee.specs.declared.called.AggregateCount.{AggregateCount}
use Rattle.bind_callee.specs.declared.called.AggregateCount.TheVariants as count
use Rattle.bind_callee.specs.declared.called.Called.{Called}
use Rattle.bind_callee.specs.declared.called.Called.TheVariants as called
use Rattle.bind_callee.specs.declared.called.CalledAggregate.{CalledAggregate}

-- how many arguments it takes
abbrev pub counts_meant : AggregateCount → ℕ → Bool
counts_meant count.One = nat_eq 1
counts_meant count.OneOrTwo = λ n. nat_eq n 1 || nat_eq n 2
counts_meant (count.Arity arity) = takes_arity arity

abbrev pub aggregator_meant : CalledAggregate → Aggregator
aggregator_meant a = record { name = a.name; kind = a.kind; takes_count = counts_meant a.count; takes_star = a.star }

abbrev pub callee_meant : Called → Callee
callee_meant (called.Function name f count) = callee.Scalar name f (takes count)
callee_meant (called.HostFunction name arity) = callee.HostScalar name (takes_arity arity)
callee_meant (called.Aggregate a) = callee.Aggregate (aggregator_meant a)
callee_meant called.Nobody = callee.Nobody

-- ---- the table of functions

-- a row of the table
abbrev pub row : List ℕ → Builtin → ArgumentCount → NamedBuiltin
row name function count = record { name = name; function = function; count = count }

-- the first of this name
abbrev pub named_in : List NamedBuiltin → List ℕ → Option NamedBuiltin
named_in table name = find (λ (b : NamedBuiltin). is_same_name b.name name) table

-- ---- calls of functions, where it is known whether they take so many arguments

abbrev pub called_so : List ℕ → Bool → Arguments → Checked (Unit {0})
called_so name takes arguments.Star = Err (Arity name)
called_so name takes arguments.Distinct = Err (Misuse name)
called_so name takes arguments.All = if takes then Ok tt else Err (Arity name)
