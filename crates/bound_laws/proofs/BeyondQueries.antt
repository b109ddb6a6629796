-- With an empty FROM beyond all others whole queries are the same.
use Rattle.std.proofs.Common.{◌≡◌, ◌∙◌, ℕ, Bool, true, false, cond, List, [], ◌∷◌, ◌++◌, length, map, Option, Some, None, codes, Ok, Err, refl, sym, ap}
use Rattle.std.specs.List.{AllByRecursion, list_any}
use Rattle.std.specs.Option.{option_map}
use Rattle.sql_tree.specs.declared.query.CompoundOp.TheVariants as op
use Rattle.sql_tree.specs.declared.query.CompoundOp.{CompoundOp}
use Rattle.sql_words.specs.Refusals.{◌>>=◌}
use Rattle.sql_words.specs.Spelled.{name_at}
use Rattle.bound_tree.specs.declared.units.BoundUnit.{BoundUnit}
use Rattle.sql_bound.specs.Carriers as parts
use Rattle.sql_bound.specs.Carriers.{CompoundParts, ItemParts, LimitParts, PartParts, QueryParts, Select, SourceParts, TableParts, TermParts, Values}
use Rattle.sql_bound.specs.Compounds.{width_fits}
use Rattle.sql_bound.specs.Cores.{without_aggregates}
use Rattle.sql_bound.specs.Froms.{Inside, beside_from, with_names}
use Rattle.sql_bound.specs.Limits.{within_columns}
use Rattle.sql_bound.specs.Queries.{Written, body_bound, entered, query_in}
use Rattle.sql_bound.specs.Recursions.{Recursive, behind, is_itself, last_naming, names_table, naming_itself, part_naming, parts_of_query, recursion_bound, recursive_by, recursive_in, table_body, table_in, unordered}
use Rattle.sql_bound.specs.Refusals.{Checked}
use Rattle.sql_bound.specs.Scopes.{Bottom, Deeper, Depth, Outer, UnitsAnswer, begun, with_named}
use Rattle.sql_bound.specs.Withs.{is_recursion, seeing, table_asked, table_entry, tables_bound}
use Rattle.sql_bound.specs.declared.scopes.Asked.{Asked}
use Rattle.sql_bound.specs.declared.scopes.WithEntry.{WithEntry}
use Rattle.sql_bound.specs.declared.scopes.WithMeaning.TheVariants.{Bound, Itself}
use Rattle.std.specs.Prelude.{slice_get}
use Rattle.bound_laws.specs.Views.{beyond, one_further}
use Rattle.bound_laws.proofs.BeyondFroms.{QueryPartsAlike, inside_beyond, named_beyond, one_more}
use Rattle.bound_laws.proofs.BeyondLaws.{alike, alike_behind, either}
use Rattle.bound_laws.proofs.BeyondSelects.{CompoundAlike, CoreAlike, LimitAlike, PartAlike, TermAlike, limit_alike, others_alike, part_alike, parts_alike, recursive_alike}
use Rattle.bound_laws.proofs.Lists.{IfThere}

abbrev pub TableAlike : TableParts → Type 0
TableAlike t = QueryPartsAlike t.query

pub record WrittenAlike (q : Written) : Type 0 where
  pub tables : AllByRecursion TableAlike q.tables
  pub first : PartAlike q.first
  pub others : AllByRecursion CompoundAlike q.others
  pub order : AllByRecursion TermAlike q.order
  pub limit : IfThere LimitAlike q.limit

in_turn : {A B C : Type 0} (m : Checked A) (f : A → Checked B) (g : B → Checked C) → ((m >>= f) >>= g) ≡ (m >>= λ a. f a >>= g)
in_turn (Ok a) f g = refl
in_turn (Err why) f g = refl

-- ---- WITH

abbrev tables_beyond : (Inside × List ℕ) × List BoundUnit → (Inside × List ℕ) × List BoundUnit
tables_beyond t = ((inside_beyond t.0.0, t.0.1), t.1)

asked_alike : (i : Inside) (t : TableParts) (units : List BoundUnit) → TableAlike t → table_asked (inside_beyond i) t units ≡ table_asked i t units
asked_alike i t units same = alike_behind (within_columns t.columns) _ _ (λ cs. same.tables (name_at i.outer.text t.name) (map (name_at i.outer.text) cs) (beside_from i.outer) units)

seeing_alike : (i : Inside) (name : List ℕ) (a : Asked × List BoundUnit) → seeing (table_entry (inside_beyond i) name a) (inside_beyond i) ≡ inside_beyond (seeing (table_entry i name a) i)
seeing_alike i name a =
    ap (λ (n : ℕ). record (inside_beyond i) { outer = record (beyond i.outer) { tables = record { name = name; around = n; meaning = Bound a.0.unit (is_recursion (slice_get a.1 a.0.unit)) a.0.needs a.0.columns } ∷ map one_further i.outer.tables } }) (one_more i.outer.levels)

tables_alike : (i : Inside) (so_far : List ℕ) (ts : List TableParts) (units : List BoundUnit) → AllByRecursion TableAlike ts → tables_bound (inside_beyond i) so_far ts units ≡ (tables_bound i so_far ts units >>= λ t. Ok (tables_beyond t))
tables_alike i so_far [] units all = refl
tables_alike i so_far (t ∷ ts) units all =
    let name = name_at i.outer.text t.name in
    let next : Asked × List BoundUnit → Checked ((Inside × List ℕ) × List BoundUnit) = λ a. tables_bound (seeing (table_entry i name a) i) (so_far ++ a.0.unit ∷ []) ts a.1 in
    alike (table_asked (inside_beyond i) t units) (table_asked i t units) (λ a. tables_bound (seeing (table_entry (inside_beyond i) name a) (inside_beyond i)) (so_far ++ a.0.unit ∷ []) ts a.1) (λ a. next a >>= λ r. Ok (tables_beyond r)) (asked_alike i t units all.0)
    (λ a. ap (λ (j : Inside). tables_bound j (so_far ++ a.0.unit ∷ []) ts a.1) (seeing_alike i name a) ∙ tables_alike (seeing (table_entry i name a) i) (so_far ++ a.0.unit ∷ []) ts a.1 all.1)
    ∙ sym (in_turn (table_asked i t units) next (λ r. Ok (tables_beyond r)))

-- behind tables that are the same
behind_tables : (q : Written) → WrittenAlike q → (i : Inside) (units : List BoundUnit) (f g : (Inside × List ℕ) × List BoundUnit → UnitsAnswer Asked) → ((t : (Inside × List ℕ) × List BoundUnit) → f (tables_beyond t) ≡ g t)
    → (tables_bound (inside_beyond i) [] q.tables units >>= f) ≡ (tables_bound i [] q.tables units >>= g)
behind_tables q same i units f g each =
    ap (λ m. m >>= f) (tables_alike i [] q.tables units same.tables) ∙ in_turn (tables_bound i [] q.tables units) (λ t. Ok (tables_beyond t)) f ∙ alike_behind (tables_bound i [] q.tables units) (λ t. f (tables_beyond t)) g each

-- ---- a query

body_alike : (i : Inside) (tables : List ℕ) (q : Written) (units : List BoundUnit) → WrittenAlike q → body_bound (inside_beyond i) tables q units ≡ body_bound i tables q units
body_alike i tables q units same = alike _ _ _ _ (parts_alike i q.first q.others q.order (begun units) same.first same.others same.order) (λ g. alike _ _ _ _ (limit_alike i.outer q.limit g.1 same.limit) (λ l. refl))

query_in_alike : (q : Written) → WrittenAlike q → (i : Inside) (units : List BoundUnit) → query_in q (inside_beyond i) units ≡ query_in q i units
query_in_alike q same i units = behind_tables q same i units (λ t. body_bound t.0.0 t.0.1 q t.1) (λ t. body_bound t.0.0 t.0.1 q t.1) (λ t. body_alike t.0.0 t.0.1 q t.1 same)

entered_alike : (o : Outer) (d : Depth) (f : Inside → List BoundUnit → UnitsAnswer Asked) (units : List BoundUnit) → ((i : Inside) → f (inside_beyond i) units ≡ f i units) → entered (beyond o) d f units ≡ entered o d f units
entered_alike o Bottom f units each = refl
entered_alike o (Deeper views below) f units each = each (record { outer = record o { depth = below }; views = views })

-- ---- recursive tables

itself_alike : (t : Option WithEntry) → is_itself (option_map one_further t) ≡ is_itself t
itself_alike None = refl
itself_alike (Some t) = refl

source_named : (o : Outer) (name : List ℕ) (s : SourceParts) → names_table (beyond o) name s ≡ names_table o name s
source_named o name (parts.Table t args) = refl
source_named o name (parts.Derived q) = refl

items_named : (o : Outer) (name : List ℕ) (items : List ItemParts) → list_any (λ (item : ItemParts). names_table (beyond o) name item.source) items ≡ list_any (λ (item : ItemParts). names_table o name item.source) items
items_named o name [] = refl
items_named o name (item ∷ items) = either _ _ _ _ (source_named o name item.source) (items_named o name items)

part_named : (o : Outer) (name : List ℕ) (all : Bool) (p : PartParts) → part_naming (beyond o) name all p ≡ part_naming o name all p
part_named o name all (Select core) = ap (λ (b : Bool). cond b (Some (record { front = []; all = all; core = core })) None) (items_named o name core.from)
part_named o name all (Values rows) = refl

by_named : (o : Outer) (name : List ℕ) (k : CompoundOp) (p : PartParts) → recursive_by (beyond o) name k p ≡ recursive_by o name k p
by_named o name op.Union p = part_named o name false p
by_named o name op.UnionAll p = part_named o name true p
by_named o name other p = refl

last_named : (o : Outer) (name : List ℕ) (cs : List CompoundParts) → last_naming (beyond o) name cs ≡ last_naming o name cs
last_named o name [] = refl
last_named o name (c ∷ []) = by_named o name c.op c.part
last_named o name (c ∷ d ∷ cs) = ap (behind c) (last_named o name (d ∷ cs))

recursive_named : (o : Outer) (name : List ℕ) (cs : List CompoundParts) → recursive_in (beyond o) name cs ≡ recursive_in o name cs
recursive_named o name cs =
    ap (λ (b : Bool). cond b (last_naming (beyond o) name cs) None) (ap is_itself (named_beyond name o.tables) ∙ itself_alike (with_named name o.tables))
    ∙ ap (λ (r : Option Recursive). cond (is_itself (with_named name o.tables)) r None) (last_named o name cs)

pub record RecursiveAlike (r : Recursive) : Type 0 where
  pub front : AllByRecursion CompoundAlike r.front
  pub core : CoreAlike r.core

part_known : (o : Outer) (name : List ℕ) (all : Bool) (p : PartParts) → PartAlike p → IfThere RecursiveAlike (part_naming o name all p)
part_known o name all (Select core) same = go (list_any (λ (item : ItemParts). names_table o name item.source) core.from) where
  go : (b : Bool) → IfThere RecursiveAlike (cond b (Some (record { front = []; all = all; core = core })) None)
  go true = record { front = tt; core = same }
  go false = tt
part_known o name all (Values rows) same = tt

by_known : (o : Outer) (name : List ℕ) (k : CompoundOp) (p : PartParts) → PartAlike p → IfThere RecursiveAlike (recursive_by o name k p)
by_known o name op.Union p same = part_known o name false p same
by_known o name op.UnionAll p same = part_known o name true p same
by_known o name other p same = tt

behind_known : (c : CompoundParts) (r : Option Recursive) → CompoundAlike c → IfThere RecursiveAlike r → IfThere RecursiveAlike (behind c r)
behind_known c None same there = tt
behind_known c (Some r) same there = record { front = (same, there.front); core = there.core }

last_known : (o : Outer) (name : List ℕ) (cs : List CompoundParts) → AllByRecursion CompoundAlike cs → IfThere RecursiveAlike (last_naming o name cs)
last_known o name [] all = tt
last_known o name (c ∷ []) all = by_known o name c.op c.part all.0
last_known o name (c ∷ d ∷ cs) all = behind_known c (last_naming o name (d ∷ cs)) all.0 (last_known o name (d ∷ cs) all.1)

recursive_known : (o : Outer) (name : List ℕ) (cs : List CompoundParts) → AllByRecursion CompoundAlike cs → IfThere RecursiveAlike (recursive_in o name cs)
recursive_known o name cs all = go (is_itself (with_named name o.tables)) where
  go : (b : Bool) → IfThere RecursiveAlike (cond b (last_naming o name cs) None)
  go true = last_known o name cs all
  go false = tt

recursion_alike : (i : Inside) (tables : List ℕ) (name : List ℕ) (names : List (List ℕ)) (q : Written) (r : Recursive) (units : List BoundUnit) → WrittenAlike q → RecursiveAlike r
    → recursion_bound (inside_beyond i) tables name names q r units ≡ recursion_bound i tables name names q r units
recursion_alike i tables name names q r units same rec =
    alike _ _ _ _ (part_alike i q.first (begun units) same.first) (λ g. alike _ _ _ _ (others_alike i g.0.columns r.front g.1 rec.front) (λ others.
    alike_behind (with_names name names g.0.columns) _ _ (λ columns. alike _ _ _ _ (recursive_alike i (record { name = name; columns = columns }) r.core others.1 rec.core) (λ s.
    alike_behind (width_fits (codes "SELECT") (length columns) (length s.0.shown.columns)) _ _ (λ u. alike_behind (unordered name q.order) _ _ (λ v.
    alike _ _ _ _ (limit_alike i.outer q.limit (without_aggregates s.1) same.limit) (λ l. refl)))))))

table_body_alike : (i : Inside) (tables : List ℕ) (name : List ℕ) (names : List (List ℕ)) (q : Written) (r : Option Recursive) (units : List BoundUnit) → WrittenAlike q → IfThere RecursiveAlike r
    → table_body (inside_beyond i) tables name names q r units ≡ table_body i tables name names q r units
table_body_alike i tables name names q (Some r) units same there = recursion_alike i tables name names q r units same there
table_body_alike i tables name names q None units same there = alike _ _ _ _ (body_alike i tables q units same) (λ a. refl)

table_in_alike : (q : Written) → WrittenAlike q → (name : List ℕ) (names : List (List ℕ)) (i : Inside) (units : List BoundUnit) → table_in q name names (inside_beyond i) units ≡ table_in q name names i units
table_in_alike q same name names i units =
    behind_tables q same i units (λ t. table_body t.0.0 t.0.1 name names q (recursive_in t.0.0.outer name q.others) t.1) (λ t. table_body t.0.0 t.0.1 name names q (recursive_in t.0.0.outer name q.others) t.1)
    (λ t. ap (λ (r : Option Recursive). table_body (inside_beyond t.0.0) t.0.1 name names q r t.1) (recursive_named t.0.0.outer name q.others)
    ∙ table_body_alike t.0.0 t.0.1 name names q (recursive_in t.0.0.outer name q.others) t.1 same (recursive_known t.0.0.outer name q.others same.others))

-- ---- the whole

naming_alike : (name : List ℕ) (o : Outer) → naming_itself name (beyond o) ≡ beyond (naming_itself name o)
naming_alike name o = ap (λ (n : ℕ). record (beyond o) { tables = record { name = name; around = n; meaning = Itself } ∷ map one_further o.tables }) (one_more o.levels)

pub written_alike : (q : Written) → WrittenAlike q → QueryPartsAlike (parts_of_query q)
written_alike q same = record {
  bound = λ o units. entered_alike o o.depth (query_in q) units (λ i. query_in_alike q same i units);
  tables = λ name names o units.
      ap (λ (p : Outer). entered p o.depth (table_in q name names) units) (naming_alike name o)
      ∙ entered_alike (naming_itself name o) o.depth (table_in q name names) units (λ i. table_in_alike q same name names i units);
}
