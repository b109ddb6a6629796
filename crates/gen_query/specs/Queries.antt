-- What the program of a query performs over lists of rows, and in how many instructions at most.
use Rattle.std.specs.Prelude.{ℕ, ◌+◌, ◌*◌, ◌≤◌, ℤ, List, [], ◌∷◌, ◌++◌, length, map, sum_by, Option, Some, None}
use Rattle.std.specs.List.{flat_map}
use Rattle.bound_size.specs.Sizes.{all_nodes}
use Rattle.bound_tree.specs.Conditions.{conditions_of}
use Rattle.bound_tree.specs.Exprs.{BoundExpr}
use Rattle.eng_value.specs.Causes.{CauseSet}
use Rattle.eng_value.specs.Environments.{Surroundings, environment, no_causes}
use Rattle.eng_value.specs.Written.{unwritten}
use Rattle.eng_value.specs.declared.out.Out.{Out}
use Rattle.eng_value.specs.declared.value.Value.{Value}
use Rattle.gen_expr.specs.Needs.{needs_of}
use Rattle.gen_expr.specs.Steps.{steps_of}
use Rattle.gen_loop.specs.Loops.{conjuncts_steps}
use Rattle.gen_loop.specs.Needs.{NamesBelow, conjuncts_read}
use Rattle.plan_tree.specs.Plans.{all_conjuncts, rows_of_from}
use Rattle.sql_meaning.specs.Products.{FromRow, in_row}
use Rattle.sql_meaning.specs.Searches.{rows_counted}
use Rattle.sql_meaning.specs.Statement.{Item, given_of, items_at, refusal_of, shown}
use Rattle.sql_meaning.specs.World.{rows_at}
use Rattle.sql_meaning.specs.declared.bound.BoundSelect.{BoundSelect}
use Rattle.sql_meaning.specs.declared.bound.FromTable.{FromTable}
use Rattle.sql_meaning.specs.declared.bound.Join.{Join}
use Rattle.sql_meaning.specs.declared.bound.Join.TheVariants.{Inner, Left}
use Rattle.vm_code.specs.declared.open_cursor.Need.{Need}
use Rattle.vm_code.specs.Frames.{Cost, Effect, Memory, Outcome, Done, Fails}
use Rattle.vm_code.specs.Machine.{World, Run, ending_by, world_of}

-- ---- the whole query

-- what a row has to pass: a BETWEEN among the conjuncts is two conditions
abbrev pub conjuncts_of : BoundSelect → List BoundExpr
conjuncts_of q = flat_map conditions_of q.conjuncts

-- of the rows of the FROM in their order; where there is no item that is a single one
abbrev pub items_in : BoundSelect → Surroundings → List Item
items_in q x =
    let env = environment x [] [] [] in
    flat_map (λ (row : FromRow). items_at (conjuncts_of q) q.results (in_row env row) row.causes) (rows_of_from env q.from)

-- the good items in front of the first bad one are given, and nothing is written
abbrev pub run_by : World → ℤ → List Item → Run
run_by w last_rowid items =
    record { ending = ending_by (refusal_of items); shared = record { given = given_of items; written = unwritten w last_rowid } }

-- which rows are visited for it, and in which loops, is no part of it
abbrev pub query_run : BoundSelect → Surroundings → ℤ → Run
query_run q x last_rowid = run_by x.world last_rowid (items_in q x)

-- ---- VALUES

-- the item of each row in turn; its expressions see no row of a FROM
abbrev pub values_items : List (List BoundExpr) → Surroundings → List Item
values_items rows x = map (λ row. shown row (environment x [] [] []) no_causes) rows

abbrev pub values_run : List (List BoundExpr) → Surroundings → ℤ → Run
values_run rows x last_rowid = run_by x.world last_rowid (values_items rows x)

-- ---- what is read of rows

abbrev pub results_read : List BoundExpr → List Need
results_read results = flat_map needs_of results

-- by what a query tests and by its results
abbrev pub query_reads : BoundSelect → List Need
query_reads q = conjuncts_read (all_conjuncts q.from (conjuncts_of q)) ++ results_read q.results

-- those are rows of the items of its FROM
abbrev pub NamesItsItems : BoundSelect → Type 0
NamesItsItems q = NamesBelow (length q.from) (query_reads q)

-- by rows of VALUES
abbrev pub rows_read : List (List BoundExpr) → List Need
rows_read rows = flat_map results_read rows

-- there are no items that they could name
abbrev pub NamesNoItem : List (List BoundExpr) → Type 0
NamesNoItem rows = NamesBelow 0 (rows_read rows)

-- ---- a stretch of its code

abbrev pub outcome_by : Option CauseSet → Memory → Outcome
outcome_by None x = Done x
outcome_by (Some causes) x = Fails causes x

abbrev pub with_given : Memory → List (List Value) → Memory
with_given x rows = record x { shared = record x.shared { given = x.shared.given ++ rows } }

-- the good items in front of the first bad one are given, and the unit gives up for its causes
abbrev pub gives : List Item → Memory → Outcome
gives items x = outcome_by (refusal_of items) (with_given x (given_of items))

-- the item of what is seen, by what becomes of the causes that a register holds
abbrev pub shown_effect : List BoundExpr → (Out → Out) → Effect
shown_effect results start sight causes x = gives (shown results sight.env (start causes) ∷ []) x

-- that of a row of a FROM, which carries the causes
abbrev pub row_effect : List BoundExpr → Effect
row_effect results = shown_effect results (λ causes. causes)

-- that of a row of VALUES, which carries none
abbrev pub value_effect : List BoundExpr → Effect
value_effect results = shown_effect results (λ causes. no_causes)

-- the items of rows of VALUES
abbrev pub values_effect : List (List BoundExpr) → Effect
values_effect rows sight causes x = gives (map (λ row. shown row sight.env no_causes) rows) x

-- ---- how many instructions

abbrev pub results_steps : List BoundExpr → ℕ
results_steps results = sum_by steps_of results + length results

abbrev pub row_steps : List BoundExpr → ℕ
row_steps results = results_steps results + 5

-- what code costs that depends on the tables alone
abbrev pub by_world : (World → ℕ) → Cost
by_world n sight causes x = n (world_of x.shared)

-- the product, over some items, of 1 and how many rows each has
abbrev pub product_turns : Surroundings → List FromTable → ℕ
product_turns x [] = 1
product_turns x (f ∷ from) = (1 + length (rows_at x.world f.table)) * product_turns x from

-- where an item stands alone, so many of its rows count as its searches leave (sql_meaning's `rows_counted`), whatever plan is taken; those of a
-- LEFT JOIN are searched by its own ON
abbrev pub alone_turns : FromTable → Join → List BoundExpr → Surroundings → ℕ
alone_turns f Inner conjuncts x = 1 + rows_counted x f.indexes conjuncts (rows_at x.world f.table)
alone_turns f (Left ons) conjuncts x = product_turns x (f ∷ [])

abbrev pub turns_over : List FromTable → List BoundExpr → Surroundings → ℕ
turns_over (f ∷ []) conjuncts x = alone_turns f f.join conjuncts x
turns_over from conjuncts x = product_turns x from

abbrev pub turns : BoundSelect → Surroundings → ℕ
turns q x = turns_over q.from (conjuncts_of q) x

-- a side of a conjunct is a key at most once, and a conjunct is tested at most once
abbrev pub tested_steps : List BoundExpr → ℕ
tested_steps conjuncts = sum_by (λ e. steps_of e + 1) conjuncts + conjuncts_steps conjuncts

-- a row may be put into a sorter and taken from it again, whatever plan is taken
abbrev pub sorting_steps : List FromTable → ℕ
sorting_steps from = 2 * length from + 4

-- in each turn, of all loops
abbrev pub turn_steps : List FromTable → List BoundExpr → List BoundExpr → ℕ
turn_steps from conjuncts results =
    tested_steps (all_conjuncts from conjuncts) + 8 * length from + sorting_steps from + row_steps results

-- at most so many for each turn and a few for the whole: linear in the turns times the size of the query
abbrev pub query_steps : BoundSelect → Surroundings → ℕ
query_steps q x = length q.from + 5 + turns q x * turn_steps q.from (conjuncts_of q) q.results

-- those of rows of VALUES, one after the other
abbrev pub rows_in_turn_steps : List (List BoundExpr) → ℕ
rows_in_turn_steps rows = sum_by row_steps rows

abbrev pub values_steps : List (List BoundExpr) → Surroundings → ℕ
values_steps rows x = rows_in_turn_steps rows + 1

-- the instructions by how many turns there are and by how large the query is
abbrev pub StepsAreFew : BoundSelect → Type 0
StepsAreFew q =
    (x : Surroundings) → query_steps q x ≤ 16 + turns q x * (6 * all_nodes (all_conjuncts q.from (conjuncts_of q)) + 4 * all_nodes q.results + 11 * length q.from + 9)

-- those of VALUES by how many nodes its rows have, and how many rows there are
abbrev pub ValuesStepsAreFew : List (List BoundExpr) → Type 0
ValuesStepsAreFew rows =
    (x : Surroundings) → values_steps rows x ≤ 4 * sum_by all_nodes rows + 5 * length rows + 1
