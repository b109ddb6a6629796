-- Whether the query of a WITH table is recursive, by the trees of its parts (recursive_in of Recursions.antt).
use Rattle.std.specs.Prelude.{ℕ, Bool, true, false, ◌&&◌, List, [], ◌∷◌, map, Option, Some, None, if◌then◌else◌}
use Rattle.std.specs.List.{list_any}
use Rattle.bind_with.specs.Parts.{arguments_of}
use Rattle.eng_entry.specs.Names.{is_same_name}
use Rattle.sql_bound.specs.Declarations.{is_empty}
use Rattle.sql_bound.specs.Recursions.{Recursive, is_itself}
use Rattle.sql_bound.specs.Scopes.{with_named}
use Rattle.sql_bound.specs.Trees.{of_compound, of_core}
use Rattle.sql_bound.specs.declared.scopes.WithEntry.{WithEntry}
use Rattle.sql_words.specs.Spelled.{name_at}
use Rattle.sql_tree.specs.Layers.{PartLayer, SourceLayer, of_part, of_source}
use Rattle.sql_tree.specs.declared.expr.Expr.TheOpen.{QueryPart-F, Source-F}
use Rattle.sql_tree.specs.declared.query.CompoundOp.TheVariants as op
use Rattle.sql_tree.specs.declared.query.CompoundOp.{CompoundOp}
use Rattle.sql_tree.specs.declared.query.CompoundPart.{CompoundPart, out-CompoundPart}
use Rattle.sql_tree.specs.declared.query.FromItem.{FromItem, out-FromItem}
use Rattle.sql_tree.specs.declared.query.SelectCore.{SelectCore, out-SelectCore}

-- ---- the parts in front of the last one, and that

abbrev pub front_of : {A : Type 0} → List A → List A
front_of [] = []
front_of (x ∷ []) = []
front_of (x ∷ y ∷ xs) = x ∷ front_of (y ∷ xs)

abbrev pub last_of : {A : Type 0} → List A → Option A
last_of [] = None
last_of (x ∷ []) = Some x
last_of (x ∷ y ∷ xs) = last_of (y ∷ xs)

abbrev pub is_all : CompoundOp → Bool
is_all op.UnionAll = true
is_all other = false

abbrev pub is_union : CompoundOp → Bool
is_union op.Union = true
is_union op.UnionAll = true
is_union other = false

abbrev pub all_if : Option CompoundPart → Bool
all_if None = false
all_if (Some c) = is_all (out-CompoundPart c).op

-- ---- whether the last one names the table

abbrev pub named_alone : List ℕ → List ℕ → SourceLayer → Bool
named_alone text name (Source-F.Table t arguments) = is_same_name (name_at text t) name && is_empty (arguments_of arguments)
named_alone text name (Source-F.Derived q) = false

abbrev pub named_by : List ℕ → List ℕ → FromItem → Bool
named_by text name item = named_alone text name (of_source (out-FromItem item).source)

abbrev pub core_by : List ℕ → List ℕ → PartLayer → Option SelectCore
core_by text name (QueryPart-F.Select core) = if list_any (named_by text name) (out-SelectCore core).from then Some core else None
core_by text name (QueryPart-F.Values rows) = None

abbrev pub core_behind : List ℕ → List ℕ → Option CompoundPart → Option SelectCore
core_behind text name None = None
core_behind text name (Some c) = if is_union (out-CompoundPart c).op then core_by text name (of_part (out-CompoundPart c).part) else None

-- the SELECT that names the table
abbrev pub core_in : List ℕ → List WithEntry → List ℕ → List CompoundPart → Option SelectCore
core_in text tables name others = if is_itself (with_named name tables) then core_behind text name (last_of others) else None

-- what a recursive table is, by that
abbrev pub recursive_of : List CompoundPart → SelectCore → Recursive
recursive_of others core = record { front = map of_compound (front_of others); all = all_if (last_of others); core = of_core core }
