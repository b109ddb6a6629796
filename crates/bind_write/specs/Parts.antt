-- Writes as they are written, each as the definition has it (of_rows of Trees.antt).
use Rattle.std.specs.Prelude.{map, [], Option, Some, None, Ok}
use Rattle.bound_tree.specs.Exprs.{BoundExpr}
use Rattle.bound_tree.specs.declared.writes.BoundChange.TheVariants.{Deleted, Updated}
use Rattle.bound_tree.specs.declared.writes.BoundChange.{BoundChange}
use Rattle.sql_bound.specs.Carriers.{DeleteParts, Expression, InsertParts, UpdateParts}
use Rattle.sql_bound.specs.Cores.{conjuncts_bound}
use Rattle.sql_bound.specs.Refusals.{Checked}
use Rattle.sql_bound.specs.Scopes.{Answer, Outer, Scope, begun, scope_over}
use Rattle.sql_bound.specs.Targets.{Target}
use Rattle.sql_bound.specs.Trees.{of_assignment, of_insert_source, of_option}
use Rattle.sql_bound.specs.Writes.{Opened, sets_bound}
use Rattle.sql_bound.specs.declared.scopes.Work.{Work}
use Rattle.sql_words.specs.Refusals.{◌>>=◌}
use Rattle.sql_tree.specs.declared.statement.Delete.{Delete}
use Rattle.sql_tree.specs.declared.statement.Insert.{Insert}
use Rattle.sql_tree.specs.declared.statement.Update.{Update}

abbrev pub insert_parts : Insert → InsertParts
insert_parts i = record { choice = i.choice; table = i.table; columns = i.columns; source = of_insert_source i.source }

abbrev pub update_parts : Update → UpdateParts
update_parts u = record { choice = u.choice; table = u.table; sets = map of_assignment u.assignments; filter = of_option u.filter }

abbrev pub delete_parts : Delete → DeleteParts
delete_parts d = record { table = d.table; filter = of_option d.filter }

-- ---- what they change, once the target is bound

abbrev pub updated : Outer → Target → UpdateParts → Work → Answer BoundChange
updated o t u w = sets_bound (scope_over t.level o) t u.sets ([], w) >>= λ sets. conjuncts_bound (scope_over t.level o) u.filter sets.1 >>= λ c. Ok (Updated sets.0 c.0, c.1)

abbrev pub deleted : Outer → Target → DeleteParts → Work → Answer BoundChange
deleted o t d w = conjuncts_bound (scope_over t.level o) d.filter w >>= λ c. Ok (Deleted c.0, c.1)

-- ---- WHEN, where it stands

abbrev pub condition_in : Scope → Option Expression → Opened → Checked (Option BoundExpr × Opened)
condition_in s None opened = Ok (None, opened)
condition_in s (Some x) opened = x.bound s (begun opened.units) >>= λ a. Ok (Some a.0.tree, record opened { units = a.1.units })
