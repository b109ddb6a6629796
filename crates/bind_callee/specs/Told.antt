-- A place of which nothing is told but the text and what hosts tell.
use Rattle.std.specs.Prelude.{ℕ, List, []}
use Rattle.eng_entry.specs.Entries.{no_entries}
use Rattle.sql_tree.specs.declared.expr.Arm.{Arm, fold-Arm}
use Rattle.sql_bound.specs.Carriers.{ArmParts, CompoundParts, ConstraintParts, CoreParts, Expression, ItemParts, LimitParts, PartParts, QueryParts, ResultParts, SourceParts, SpannedExpression, TableParts, TermParts}
use Rattle.sql_bound.specs.Expressions.{arm_step, expr_step}
use Rattle.sql_bound.specs.Scopes.{Bottom, Facts, Outer, in_statement}
use Rattle.sql_bound.specs.Trees.{compound_step, constraint_step, core_step, item_step, limit_step, outer_at, part_step, query_step, result_step, source_step, spanned_step, table_step, term_step}

abbrev pub told : List ℕ → Facts → Outer
told text facts = outer_at (record { catalog = no_entries; facts = facts }) Bottom text [] in_statement

-- an arm of a CASE, by the same fold as expressions
abbrev pub of_arm : Arm → ArmParts
of_arm = fold-Arm Expression ConstraintParts PartParts ResultParts SourceParts ArmParts TableParts CompoundParts ItemParts TermParts QueryParts LimitParts CoreParts SpannedExpression
    expr_step constraint_step part_step result_step source_step arm_step table_step compound_step item_step term_step query_step limit_step core_step spanned_step
