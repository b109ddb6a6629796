-- Whether two units are the same: what is asked twice is one unit, so that two expressions are the same where they ask the same, in whatever case their names are written.
use Rattle.std.specs.Prelude.{ℕ, nat_eq, Bool, true, false, ◌&&◌, List, Option}
use Rattle.std.specs.Str.{bytes_eq}
use denote.Enum.Bare.{sameb}
use Rattle.eng_entry.specs.Names.{is_same_name}
use Rattle.eng_value.specs.contracts.modules.ColumnKind as column_kind
use Rattle.sql_tree.specs.contracts.query.CompoundOp as compound_op
use Rattle.bound_tree.specs.Same.{all_same, both_same, same_affinity, same_collation, same_expr, same_exprs, same_truth}
use Rattle.bound_tree.specs.declared.units.AggregateKind.TheVariants.{Count, CountRows, GroupConcat, HostAggregate, Max, Min, Sum}
use Rattle.bound_tree.specs.declared.units.AggregateKind.{AggregateKind}
use Rattle.bound_tree.specs.declared.units.BoundAggregate.{BoundAggregate}
use Rattle.bound_tree.specs.declared.units.BoundColumn.{BoundColumn}
use Rattle.bound_tree.specs.declared.units.BoundCompound.{BoundCompound}
use Rattle.bound_tree.specs.declared.units.BoundCore.{BoundCore}
use Rattle.bound_tree.specs.declared.units.BoundGroups.{BoundGroups}
use Rattle.bound_tree.specs.declared.units.BoundIndex.{BoundIndex}
use Rattle.bound_tree.specs.declared.units.BoundItem.{BoundItem}
use Rattle.bound_tree.specs.declared.units.BoundKey.{BoundKey}
use Rattle.bound_tree.specs.declared.units.BoundPart.TheVariants as bound_part
use Rattle.bound_tree.specs.declared.units.BoundPart.{BoundPart}
use Rattle.bound_tree.specs.declared.units.BoundQuery.{BoundQuery}
use Rattle.bound_tree.specs.declared.units.BoundRecursion.{BoundRecursion}
use Rattle.bound_tree.specs.declared.units.BoundSource.TheVariants as bound_source
use Rattle.bound_tree.specs.declared.units.BoundSource.{BoundSource}
use Rattle.bound_tree.specs.declared.units.BoundTerm.{BoundTerm}
use Rattle.bound_tree.specs.declared.units.BoundUnit.TheVariants as bound_unit
use Rattle.bound_tree.specs.declared.units.BoundUnit.{BoundUnit}
use Rattle.bound_tree.specs.declared.units.IndexPart.{IndexPart}
use Rattle.bound_tree.specs.declared.units.JoinKind.TheVariants as join_kind
use Rattle.bound_tree.specs.declared.units.JoinKind.{JoinKind}
use Rattle.bound_tree.specs.declared.units.TermKey.TheVariants as term_key
use Rattle.bound_tree.specs.declared.units.TermKey.{TermKey}

abbrev pub same_column : BoundColumn → BoundColumn → Bool
same_column a b = is_same_name a.name b.name && same_affinity a.affinity b.affinity && same_collation a.collation b.collation

abbrev pub same_part_of_index : IndexPart → IndexPart → Bool
same_part_of_index a b = nat_eq a.column b.column && same_collation a.collation b.collation && same_truth a.descending b.descending

abbrev pub same_index : BoundIndex → BoundIndex → Bool
same_index a b = nat_eq a.number b.number && bytes_eq a.name b.name && same_truth a.unique b.unique && all_same same_part_of_index a.parts b.parts

abbrev pub same_source : BoundSource → BoundSource → Bool
same_source bound_source.Given bound_source.Given = true
same_source (bound_source.Table a m) (bound_source.Table b n) = bytes_eq a b && nat_eq m n
same_source (bound_source.Module a h m xs) (bound_source.Module b i n ys) = is_same_name a b && is_same_name h i && nat_eq m n && same_exprs xs ys
same_source (bound_source.View a m) (bound_source.View b n) = bytes_eq a b && nat_eq m n
same_source (bound_source.Query m xs) (bound_source.Query n ys) = nat_eq m n && same_exprs xs ys
same_source (bound_source.With m xs) (bound_source.With n ys) = nat_eq m n && same_exprs xs ys
same_source (bound_source.Recursive m xs) (bound_source.Recursive n ys) = nat_eq m n && same_exprs xs ys
same_source bound_source.Queue bound_source.Queue = true
same_source _ _ = false

abbrev pub same_join : JoinKind → JoinKind → Bool
same_join join_kind.Inner join_kind.Inner = true
same_join join_kind.Left join_kind.Left = true
same_join _ _ = false

abbrev pub same_item : BoundItem → BoundItem → Bool
same_item a b =
    same_join a.join b.join && same_exprs a.ons b.ons && same_truth a.ons_made b.ons_made && is_same_name a.shown b.shown && same_source a.source b.source && all_same same_column a.columns b.columns
    && all_same (sameb column_kind.the_type) a.kinds b.kinds && both_same nat_eq a.rowid b.rowid && all_same same_index a.indexes b.indexes

abbrev pub same_kind : AggregateKind → AggregateKind → Bool
same_kind CountRows CountRows = true
same_kind Count Count = true
same_kind Sum Sum = true
same_kind Min Min = true
same_kind Max Max = true
same_kind GroupConcat GroupConcat = true
same_kind (HostAggregate a) (HostAggregate b) = is_same_name a b
same_kind _ _ = false

abbrev pub same_aggregate : BoundAggregate → BoundAggregate → Bool
same_aggregate a b =
    same_kind a.kind b.kind && same_truth a.distinct b.distinct && same_collation a.collation b.collation && same_exprs a.arguments b.arguments
    && both_same same_expr a.filter b.filter

abbrev pub same_key : BoundKey → BoundKey → Bool
same_key a b = same_expr a.expr b.expr && same_collation a.collation b.collation

abbrev pub same_groups : BoundGroups → BoundGroups → Bool
same_groups a b = all_same same_key a.keys b.keys && all_same same_aggregate a.aggregates b.aggregates && same_exprs a.having b.having

abbrev pub same_core : BoundCore → BoundCore → Bool
same_core a b =
    all_same same_item a.items b.items && same_exprs a.conjuncts b.conjuncts && both_same same_groups a.groups b.groups && same_exprs a.results b.results
    && all_same same_collation a.collations b.collations && same_truth a.distinct b.distinct

abbrev pub same_part : BoundPart → BoundPart → Bool
same_part (bound_part.Select a) (bound_part.Select b) = same_core a b
same_part (bound_part.Values a) (bound_part.Values b) = all_same same_exprs a b
same_part _ _ = false

abbrev pub same_compound : BoundCompound → BoundCompound → Bool
same_compound a b = sameb compound_op.the_type a.op b.op && same_part a.part b.part && all_same same_collation a.collations b.collations

abbrev pub same_term_key : TermKey → TermKey → Bool
same_term_key (term_key.Result m) (term_key.Result n) = nat_eq m n
same_term_key (term_key.Expression a) (term_key.Expression b) = same_expr a b
same_term_key _ _ = false

abbrev pub same_term : BoundTerm → BoundTerm → Bool
same_term a b =
    same_term_key a.key b.key && same_collation a.collation b.collation && same_truth a.descending b.descending && same_truth a.nulls_first b.nulls_first

-- what the authorizer is asked, and so which columns read NULL, depends on the view or trigger
abbrev pub same_within : Option (List ℕ) → Option (List ℕ) → Bool
same_within = both_same bytes_eq

abbrev pub same_query : BoundQuery → BoundQuery → Bool
same_query a b =
    same_within a.within b.within && nat_eq a.arguments b.arguments && all_same nat_eq a.tables b.tables && same_part a.first b.first && all_same same_compound a.others b.others
    && all_same same_term a.order b.order && both_same same_expr a.limit b.limit && both_same same_expr a.offset b.offset && all_same same_column a.columns b.columns

abbrev pub same_recursion : BoundRecursion → BoundRecursion → Bool
same_recursion a b =
    same_within a.within b.within && nat_eq a.arguments b.arguments && all_same nat_eq a.tables b.tables && same_part a.first b.first && all_same same_compound a.others b.others && same_truth a.all b.all && same_core a.part b.part
    && all_same same_collation a.collations b.collations && both_same same_expr a.limit b.limit && both_same same_expr a.offset b.offset && all_same same_column a.columns b.columns

abbrev pub same_unit : BoundUnit → BoundUnit → Bool
same_unit (bound_unit.Queried a) (bound_unit.Queried b) = same_query a b
same_unit (bound_unit.Recursed a) (bound_unit.Recursed b) = same_recursion a b
same_unit _ _ = false
