-- The parts of a query: SELECTs and VALUES, and compounds of them (SELECT, section 3).
use Rattle.std.specs.Prelude.{ℕ, suc, nat_eq, false, List, [], ◌∷◌, ◌++◌, map, length, Ok, Err, unwrap_or, if◌then◌else◌, codes}
use Rattle.std.specs.Fmt.{decimal}
use Rattle.eng_value.specs.declared.cause.Cause.TheVariants.{Arity}
use Rattle.eng_value.specs.declared.collation.Collation.{Collation}
use Rattle.sql_words.specs.Collations.{by_bytes}
use Rattle.sql_words.specs.Refusals.{◌>>=◌, or_else}
use Rattle.bound_tree.specs.Exprs.{BoundExpr}
use Rattle.bound_tree.specs.declared.units.BoundCompound.{BoundCompound}
use Rattle.bound_tree.specs.declared.units.BoundPart.TheVariants as bound_part
use Rattle.bound_tree.specs.declared.units.BoundTerm.{BoundTerm}
use Rattle.sql_bound.specs.Carriers.{CompoundParts, CoreParts, Expression, PartParts, Select, TermParts, Values}
use Rattle.sql_bound.specs.Cores.{core_of, select_bound, without_aggregates}
use Rattle.sql_bound.specs.Froms.{Inside}
use Rattle.sql_bound.specs.Limits.{room_behind}
use Rattle.sql_bound.specs.Orders.{orders_by_aggregate, terms_of_compound, terms_of_select}
use Rattle.sql_bound.specs.Refusals.{Checked}
use Rattle.sql_bound.specs.Results.{result_column, shown_in}
use Rattle.sql_bound.specs.Scopes.{Answer, Scope, scope_over}
use Rattle.sql_bound.specs.declared.queries.BoundSelect.{BoundSelect}
use Rattle.sql_bound.specs.declared.queries.Gathered.{Gathered}
use Rattle.sql_bound.specs.declared.queries.Given.{Given}
use Rattle.sql_bound.specs.declared.scopes.Operand.{Operand}
use Rattle.sql_bound.specs.declared.scopes.ResultColumn.{ResultColumn}
use Rattle.sql_bound.specs.declared.scopes.Work.{Work}

-- ---- VALUES: rows of one width, whose columns are called column1, column2, .. and are to others what those of the first row are

abbrev pub values_columns : ℕ → List Operand → List ResultColumn
values_columns n [] = []
values_columns n (a ∷ row) = result_column (codes "column" ++ decimal n) a ∷ values_columns (suc n) row

abbrev pub row_bound : Scope → List Expression → List Operand × Work → Answer (List Operand)
row_bound s [] so_far = Ok so_far
row_bound s (x ∷ xs) so_far = room_behind so_far.0 >>= λ u. x.bound s so_far.1 >>= λ a. row_bound s xs (so_far.0 ++ a.0 ∷ [], a.1)

abbrev pub width_fits : List ℕ → ℕ → ℕ → Checked (Unit {0})
width_fits name wanted width = if nat_eq width wanted then Ok tt else Err (Arity name)

abbrev pub rows_behind : Scope → ℕ → List (List Expression) → List (List Operand) × Work → Answer (List (List Operand))
rows_behind s width [] so_far = Ok so_far
rows_behind s width (row ∷ rows) so_far =
    row_bound s row ([], so_far.1) >>= λ r. width_fits (codes "VALUES") width (length r.0) >>= λ u. rows_behind s width rows (so_far.0 ++ r.0 ∷ [], r.1)

abbrev pub trees_in : List Operand → List BoundExpr
trees_in row = map (λ (a : Operand). a.tree) row

abbrev pub values_given : List (List Operand) → Given
values_given [] = record { part = bound_part.Values []; columns = [] }
values_given (row ∷ rows) = record { part = bound_part.Values (map trees_in (row ∷ rows)); columns = values_columns 1 row }

abbrev pub values_bound : Scope → List (List Expression) → Work → Answer (List (List Operand))
values_bound s [] w = Ok ([], w)
values_bound s (row ∷ rows) w = row_bound s row ([], w) >>= λ r. rows_behind s (length r.0) rows (r.0 ∷ [], r.1)

-- ---- a part

abbrev pub select_given : BoundSelect → Work → Given × Work
select_given s w = (record { part = bound_part.Select (core_of s w); columns = s.shown.columns }, without_aggregates w)

abbrev pub part_bound : Inside → PartParts → Work → Answer Given
part_bound i (Select core) w = select_bound i core false w >>= λ s. Ok (select_given s.0 s.1)
part_bound i (Values rows) w = values_bound (scope_over [] i.outer) rows w >>= λ rs. Ok (values_given rs.0, rs.1)

-- ---- the parts behind the first: as wide as it, and compared as `=` compares, the first part's columns on the left

abbrev pub first_word : PartParts → List ℕ
first_word (Select core) = codes "SELECT"
first_word (Values rows) = codes "VALUES"

abbrev pub collation_of_both : ResultColumn → ResultColumn → Collation
collation_of_both a b = unwrap_or (or_else (or_else a.explicit b.explicit) (or_else a.column b.column)) by_bytes

abbrev pub collations_of : List ResultColumn → List ResultColumn → List Collation
collations_of [] bs = []
collations_of (a ∷ as_) [] = []
collations_of (a ∷ as_) (b ∷ bs) = collation_of_both a b ∷ collations_of as_ bs

abbrev pub compound_with : CompoundParts → List ResultColumn → Given → BoundCompound
compound_with c columns given = record { op = c.op; part = given.part; collations = collations_of columns given.columns }

abbrev pub others_bound : Inside → List ResultColumn → List CompoundParts → Work → Answer (List BoundCompound)
others_bound i columns [] w = Ok ([], w)
others_bound i columns (c ∷ cs) w =
    part_bound i c.part w >>= λ g. width_fits (first_word c.part) (length columns) (length g.0.columns) >>= λ u.
    others_bound i columns cs g.1 >>= λ more. Ok (compound_with c columns g.0 ∷ more.0, more.1)

-- ---- all parts, and their order

abbrev pub gathered_alone : Given → List BoundTerm → Gathered
gathered_alone g order = record { first = g.part; others = []; order = order; columns = g.columns }

-- one SELECT is ordered by expressions over its FROM, too
abbrev pub select_alone : Inside → CoreParts → List TermParts → Work → Answer Gathered
select_alone i core ts w =
    select_bound i core (orders_by_aggregate i.outer ts) w >>= λ s.
    terms_of_select s.0 i.outer (shown_in i.outer.text s.0.found.level core.results) ts s.1 >>= λ o.
    let given = select_given s.0 o.1 in Ok (gathered_alone given.0 o.0, given.1)

abbrev pub values_alone : Inside → List (List Expression) → List TermParts → Work → Answer Gathered
values_alone i rows ts w =
    part_bound i (Values rows) w >>= λ g. terms_of_compound i.outer.text g.0.columns ts >>= λ o. Ok (gathered_alone g.0 o, g.1)

abbrev pub compound_bound : Inside → PartParts → List CompoundParts → List TermParts → Work → Answer Gathered
compound_bound i first others ts w =
    part_bound i first w >>= λ g. others_bound i g.0.columns others g.1 >>= λ more. terms_of_compound i.outer.text g.0.columns ts >>= λ o.
    Ok (record { first = g.0.part; others = more.0; order = o; columns = g.0.columns }, more.1)

abbrev pub parts_bound : Inside → PartParts → List CompoundParts → List TermParts → Work → Answer Gathered
parts_bound i (Select core) [] ts w = select_alone i core ts w
parts_bound i (Values rows) [] ts w = values_alone i rows ts w
parts_bound i first (c ∷ cs) ts w = compound_bound i first (c ∷ cs) ts w
