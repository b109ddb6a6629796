-- What the loops of a plan do with the rows that they give, and in how many instructions at most.
use Rattle.std.specs.Prelude.{◌≡◌, ℕ, ◌+◌, ◌*◌, List, [], ◌∷◌, if◌then◌else◌, length, sum_by}
use Rattle.bound_tree.specs.Exprs.{BoundExpr}
use Rattle.eng_value.specs.Environments.{Environment, no_causes}
use Rattle.eng_value.specs.declared.out.Out.{Out}
use Rattle.gen_expr.specs.Steps.{steps_of}
use Rattle.plan_tree.specs.Plans.{gathered, looped, pairs_by, planned}
use Rattle.plan_tree.specs.Visits.{at_item, key_expr, keys_in, visited}
use Rattle.plan_tree.specs.declared.access.JoinPlan.{JoinPlan}
use Rattle.plan_tree.specs.declared.access.Key.{Key}
use Rattle.plan_tree.specs.declared.access.Loop.{Loop}
use Rattle.plan_tree.specs.declared.access.Pairs.{Pairs}
use Rattle.plan_tree.specs.declared.access.Pairs.TheVariants.{Each, OrAlone}
use Rattle.plan_tree.specs.declared.access.Path.{Path}
use Rattle.sql_meaning.specs.Products.{FromRow, in_row, passed}
use Rattle.sql_meaning.specs.World.{rows_at}
use Rattle.vm_code.specs.Frames.{Cost, Effect, Memory, Outcome, Done, Sight, and_then}

-- ---- one after the other

abbrev pub each : {A : Type 0} → (A → Memory → Outcome) → List A → Memory → Outcome
each f [] x = Done x
each f (a ∷ rest) x = and_then (f a x) (each f rest)

-- where it goes on, it has written nothing
abbrev pub KeepsWritten : Effect → Type 0
KeepsWritten f =
    (sight : Sight) (causes : Out) (x y : Memory) → f sight causes x ≡ Done y → y.shared.written ≡ x.shared.written

-- ---- at rows of a FROM

-- the rows that are seen, with causes
abbrev pub row_seen : Sight → Out → FromRow
row_seen sight causes = record { rows = sight.env.rows; causes = causes }

-- what code does where these rows are seen, told their causes
abbrev pub at_row : Effect → Sight → FromRow → Memory → Outcome
at_row f sight row = f (record sight { env = in_row sight.env row }) row.causes

-- unless a conjunct rejects what is seen
abbrev pub passing : List BoundExpr → Effect → Effect
passing conjuncts f sight causes x = each (at_row f sight) (passed sight.env conjuncts (row_seen sight causes)) x

-- with each row of an item that makes a pair
abbrev pub paired : Loop → Effect → Effect
paired l f sight causes x = each (at_row f sight) (pairs_by sight.env l (row_seen sight causes)) x

-- with each row of some loops, outermost first
abbrev pub nested : List Loop → Effect → Effect
nested loops f sight causes x = each (at_row f sight) (looped sight.env loops (row_seen sight causes)) x

-- with each row that the loops of a plan give, which begins without causes
abbrev pub gathering : JoinPlan → Effect → Effect
gathering p f sight causes x = each (at_row f sight) (gathered sight.env p (row_seen sight no_causes)) x

-- with each row of a plan, in its order
abbrev pub from_effect : JoinPlan → Effect → Effect
from_effect p f sight causes x = each (at_row f sight) (planned sight.env p (row_seen sight no_causes)) x

-- ---- how many instructions

abbrev pub conjuncts_steps : List BoundExpr → ℕ
conjuncts_steps conjuncts = sum_by (λ e. steps_of e + 3) conjuncts

-- a key is converted behind its code
abbrev pub key_steps : Key → ℕ
key_steps k = steps_of (key_expr k) + 1

abbrev pub path_steps : Path → ℕ
path_steps p = sum_by key_steps (keys_in p)

-- of each row that is visited, beside its checks and what is done with it
abbrev pub turn_steps : Pairs → ℕ
turn_steps Each = 2
turn_steps (OrAlone ons) = conjuncts_steps ons + 3

-- of a row that may stay alone
abbrev pub alone_steps : Pairs → ℕ → ℕ
alone_steps Each done = 0
alone_steps (OrAlone ons) done = done + 7

-- of a loop, by what is done with a row that the checks see; each item has its cursor on a row of its own
abbrev pub loop_steps : Loop → (Environment → ℕ) → Environment → ℕ
loop_steps l done env =
    path_steps l.path + 1 + alone_steps l.pairs (conjuncts_steps l.checks + done env)
    + sum_by (λ r. turn_steps l.pairs + (conjuncts_steps l.checks + done (at_item env l.place r))) (visited env l.path (rows_at env.world l.table))

-- of some loops, outermost first
abbrev pub nested_steps : List Loop → ℕ → Environment → ℕ
nested_steps [] most env = most
nested_steps (l ∷ loops) most env = loop_steps l (nested_steps loops most) env

-- of the loops of a plan and what stands in front of them
abbrev pub gathered_steps : JoinPlan → ℕ → Environment → ℕ
gathered_steps p most env = 1 + conjuncts_steps p.checks + nested_steps p.loops most env

-- the rows that the loops of a plan give
abbrev pub rows_gathered : JoinPlan → Environment → List FromRow
rows_gathered p env = gathered env p (record { rows = env.rows; causes = no_causes })

-- a row is put into a sorter by the rowids of its items and its causes
abbrev pub put_steps : JoinPlan → ℕ
put_steps p = length p.loops + 2

-- it is taken from the sorter again, and each item has its cursor back on its row
abbrev pub taken_steps : JoinPlan → ℕ
taken_steps p = length p.loops + 2

-- the sorter is opened and sorted once
abbrev pub sorted_steps : JoinPlan → ℕ → Environment → ℕ
sorted_steps p most env = gathered_steps p (put_steps p) env + 2 + length (rows_gathered p env) * (taken_steps p + most)

-- in the order of a plan
abbrev pub ordered_steps : JoinPlan → ℕ → Environment → ℕ
ordered_steps p most env = if p.sort then sorted_steps p most env else gathered_steps p most env

-- each cursor is opened, and all are closed at once
abbrev pub plan_steps : JoinPlan → ℕ → Environment → ℕ
plan_steps p most env = length p.loops + 1 + ordered_steps p most env

abbrev pub from_cost : JoinPlan → ℕ → Cost
from_cost p most sight causes x = plan_steps p most sight.env
