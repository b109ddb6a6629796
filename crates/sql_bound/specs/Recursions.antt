-- Recursive tables: the query of a WITH table that names the table itself (WITH Clause, section 3).
use Rattle.std.specs.Prelude.{ℕ, Bool, true, false, ◌&&◌, List, [], ◌∷◌, length, Option, Some, None, Ok, Err, codes, if◌then◌else◌}
use Rattle.std.specs.List.{list_any}
use Rattle.eng_entry.specs.Names.{is_same_name}
use Rattle.eng_value.specs.declared.cause.Cause.TheVariants.{Misuse}
use Rattle.sql_tree.specs.declared.query.CompoundOp.TheVariants as op
use Rattle.sql_tree.specs.declared.query.CompoundOp.{CompoundOp}
use Rattle.sql_words.specs.Refusals.{◌>>=◌}
use Rattle.sql_words.specs.Spelled.{name_at}
use Rattle.bound_tree.specs.declared.units.BoundCompound.{BoundCompound}
use Rattle.bound_tree.specs.declared.units.BoundUnit.TheVariants.{Recursed}
use Rattle.bound_tree.specs.declared.units.BoundUnit.{BoundUnit}
use Rattle.sql_bound.specs.Carriers as parts
use Rattle.sql_bound.specs.Carriers.{CompoundParts, CoreParts, ItemParts, PartParts, QueryBinding, QueryParts, Select, SourceParts, TableParts, TermParts, Values}
use Rattle.sql_bound.specs.Compounds.{collations_of, first_word, others_bound, part_bound, width_fits}
use Rattle.sql_bound.specs.Cores.{core_of, recursive_select_bound, without_aggregates}
use Rattle.sql_bound.specs.Declarations.{is_empty}
use Rattle.sql_bound.specs.Froms.{Inside, as_columns, or_none, with_names}
use Rattle.sql_bound.specs.Orders.{limit_bound}
use Rattle.sql_bound.specs.Queries.{Written, asked_as, body_bound, entered, query_bound}
use Rattle.sql_bound.specs.Refusals.{Checked}
use Rattle.sql_bound.specs.Scopes.{Outer, UnitsAnswer, begun, with_named}
use Rattle.sql_bound.specs.Withs.{tables_bound}
use Rattle.sql_bound.specs.declared.queries.BoundLimit.{BoundLimit}
use Rattle.sql_bound.specs.declared.queries.BoundSelect.{BoundSelect}
use Rattle.sql_bound.specs.declared.queries.Given.{Given}
use Rattle.sql_bound.specs.declared.scopes.Asked.{Asked}
use Rattle.sql_bound.specs.declared.scopes.ResultColumn.{ResultColumn}
use Rattle.sql_bound.specs.declared.scopes.WithEntry.{WithEntry}
use Rattle.sql_bound.specs.declared.scopes.WithMeaning.TheVariants.{Bound, Itself}
use Rattle.sql_bound.specs.declared.scopes.WithMeaning.{WithMeaning}
use Rattle.sql_bound.specs.declared.scopes.Work.{Work}

-- ---- the query of a WITH table: it is recursive where it is `first UNION [ALL] part`, part its last one, and an item of part's FROM names the table

abbrev pub is_itself : Option WithEntry → Bool
is_itself None = false
is_itself (Some t) = means_itself t.meaning
  where
    means_itself : WithMeaning → Bool
    means_itself Itself = true
    means_itself (Bound u recursive needs cs) = false

abbrev pub names_table : Outer → List ℕ → SourceParts → Bool
names_table o name (parts.Table t args) = is_same_name (name_at o.text t) name && is_empty (or_none args)
names_table o name (parts.Derived q) = false

-- the parts in front of the last one but for the first, whether the last one is behind UNION ALL, and that one, which names the table
pub record Recursive : Type 0 where
  pub front : List CompoundParts
  pub all : Bool
  pub core : CoreParts

abbrev pub part_naming : Outer → List ℕ → Bool → PartParts → Option Recursive
part_naming o name all (Select core) =
    if list_any (λ (item : ItemParts). names_table o name item.source) core.from then Some (record { front = []; all = all; core = core }) else None
part_naming o name all (Values rows) = None

abbrev pub recursive_by : Outer → List ℕ → CompoundOp → PartParts → Option Recursive
recursive_by o name op.Union part = part_naming o name false part
recursive_by o name op.UnionAll part = part_naming o name true part
recursive_by o name other part = None

abbrev pub behind : CompoundParts → Option Recursive → Option Recursive
behind c None = None
behind c (Some r) = Some (record r { front = c ∷ r.front })

abbrev pub last_naming : Outer → List ℕ → List CompoundParts → Option Recursive
last_naming o name [] = None
last_naming o name (c ∷ []) = recursive_by o name c.op c.part
last_naming o name (c ∷ d ∷ cs) = behind c (last_naming o name (d ∷ cs))

abbrev pub recursive_in : Outer → List ℕ → List CompoundParts → Option Recursive
recursive_in o name cs = if is_itself (with_named name o.tables) then last_naming o name cs else None

-- a recursive table has no ORDER BY
abbrev pub unordered : List ℕ → List TermParts → Checked (Unit {0})
unordered name [] = Ok tt
unordered name (t ∷ ts) = Err (Misuse name)

abbrev pub recursion_unit : Outer → List ℕ → Given → List BoundCompound → Recursive → List ResultColumn → BoundSelect → Work → BoundLimit → Work → BoundUnit
recursion_unit o tables g others r columns s x l w =
    Recursed (record {
      within = o.within;
      arguments = length w.needs;
      tables = tables;
      first = g.part;
      others = others;
      all = r.all;
      part = core_of s x;
      collations = collations_of columns s.shown.columns;
      limit = l.count;
      offset = l.offset;
      columns = as_columns columns;
    })

-- first has the names that are written, and part sees them as those of the queue's row
abbrev pub recursion_bound : Inside → List ℕ → List ℕ → List (List ℕ) → Written → Recursive → List BoundUnit → UnitsAnswer Asked
recursion_bound i tables name names q r units =
    part_bound i q.first (begun units) >>= λ g. others_bound i g.0.columns r.front g.1 >>= λ others. with_names name names g.0.columns >>= λ columns.
    recursive_select_bound i (record { name = name; columns = columns }) r.core others.1 >>= λ s.
    width_fits (codes "SELECT") (length columns) (length s.0.shown.columns) >>= λ u. unordered name q.order >>= λ v.
    limit_bound i.outer q.limit (without_aggregates s.1) >>= λ l. Ok (asked_as (recursion_unit i.outer tables g.0 others.0 r columns s.0 s.1 l.0 l.1) columns l.1)

abbrev pub named_columns : List ℕ → List (List ℕ) → Asked × List BoundUnit → UnitsAnswer Asked
named_columns name names a = with_names name names a.0.columns >>= λ cs. Ok (record a.0 { columns = cs }, a.1)

abbrev pub table_body : Inside → List ℕ → List ℕ → List (List ℕ) → Written → Option Recursive → List BoundUnit → UnitsAnswer Asked
table_body i tables name names q (Some r) units = recursion_bound i tables name names q r units
table_body i tables name names q None units = body_bound i tables q units >>= λ a. named_columns name names a

abbrev pub table_in : Written → List ℕ → List (List ℕ) → Inside → List BoundUnit → UnitsAnswer Asked
table_in q name names i units =
    tables_bound i [] q.tables units >>= λ t. table_body t.0.0 t.0.1 name names q (recursive_in t.0.0.outer name q.others) t.1

abbrev pub naming_itself : List ℕ → Outer → Outer
naming_itself name o = record o { tables = record { name = name; around = length o.levels; meaning = Itself } ∷ o.tables }

abbrev pub table_bound : Written → List ℕ → List (List ℕ) → QueryBinding
table_bound q name names o units = entered (naming_itself name o) o.depth (table_in q name names) units

-- ---- its first word

abbrev pub word_of : Written → List ℕ
word_of q = word_by q.tables q.first
  where
    word_by : List TableParts → PartParts → List ℕ
    word_by [] part = first_word part
    word_by (t ∷ ts) part = codes "WITH"

abbrev pub parts_of_query : Written → QueryParts
parts_of_query q = record { bound = query_bound q; as_table = table_bound q; first_word = word_of q }
