-- What the loops of a plan need of cursors.
use Rattle.std.specs.Prelude.{ℕ, ◌<◌, All, List, [], ◌∷◌, ◌++◌, map}
use Rattle.std.specs.List.{flat_map, range_with_len}
use Rattle.bound_tree.specs.Exprs.{BoundExpr}
use Rattle.gen_expr.specs.Needs.{needs_of}
use Rattle.plan_tree.specs.Plans.{ons_in}
use Rattle.plan_tree.specs.Visits.{key_expr, keys_in}
use Rattle.plan_tree.specs.declared.access.JoinPlan.{JoinPlan}
use Rattle.plan_tree.specs.declared.access.Key.{Key}
use Rattle.plan_tree.specs.declared.access.Loop.{Loop}
use Rattle.vm_code.specs.declared.open_cursor.Need.{Need}
use Rattle.vm_code.specs.declared.open_cursor.Need.TheVariants as need

-- ---- what expressions read

abbrev pub conjuncts_read : List BoundExpr → List Need
conjuncts_read conjuncts = flat_map needs_of conjuncts

abbrev pub key_read : Key → List Need
key_read k = needs_of (key_expr k)

abbrev pub keys_read : List Key → List Need
keys_read keys = flat_map key_read keys

-- the keys of a loop, its ONs and its checks
abbrev pub loop_reads : Loop → List Need
loop_reads l = keys_read (keys_in l.path) ++ conjuncts_read (ons_in l.pairs) ++ conjuncts_read l.checks

-- all expressions of a plan
abbrev pub plan_reads : JoinPlan → List Need
plan_reads p = conjuncts_read p.checks ++ flat_map loop_reads p.loops

-- ---- what loops need

-- a loop moves the cursor of its item, and what is inside it has needs of its own
abbrev pub loop_needs : Loop → List Need → List Need
loop_needs l inner = need.Table l.place ∷ loop_reads l ++ inner

-- loops around a body
abbrev pub loops_needs : List Loop → List Need → List Need
loops_needs [] body = body
loops_needs (l ∷ loops) body = loop_needs l (loops_needs loops body)

-- those of a plan, behind its checks
abbrev pub gathering_needs : JoinPlan → List Need → List Need
gathering_needs p body = conjuncts_read p.checks ++ loops_needs p.loops body

-- the rowids of so many items are read
abbrev pub rowids_needs : ℕ → List Need
rowids_needs width = map need.Rows (range_with_len 0 width)

-- ---- items

-- nothing but rows of the first items
abbrev pub IsNamedBelow : ℕ → Need → Type 0
IsNamedBelow n (need.Rows c) = c < n
IsNamedBelow n other = ⊥

abbrev pub NamesBelow : ℕ → List Need → Type 0
NamesBelow n needs = All (IsNamedBelow n) needs
