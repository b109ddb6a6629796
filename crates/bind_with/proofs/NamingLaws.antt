-- The part that names the table is that of the definition.
use Rattle.std.proofs.Common.{◌≡◌, ℕ, Bool, true, false, ◌&&◌, ◌||◌, List, [], ◌∷◌, map, Option, Some, None, Result, Ok, Err, IfOk, if◌then◌else◌, refl, ap, sym, ◌∙◌, rules}
use Rattle.std.specs.List.{list_any}
use Rattle.std.specs.Borrow.{Bor}
use Rattle.std.specs.Option.{option_copied, option_map}
use Rattle.eng_value.specs.declared.cause.Cause.{Cause}
use Rattle.bind_with.specs.Recursive.{all_if, core_behind, core_by, core_in, front_of, is_all, is_union, last_of, named_alone, named_by, recursive_of}
use Rattle.sql_bound.specs.Carriers as parts
use Rattle.sql_bound.specs.Carriers.{CompoundParts, ItemParts}
use Rattle.sql_bound.specs.Recursions.{Recursive, behind, is_itself, last_naming, names_table, part_naming, recursive_by, recursive_in}
use Rattle.sql_bound.specs.Scopes.{Outer, with_named}
use Rattle.sql_bound.specs.Trees.{of_compound, of_core, of_item, of_part, of_source}
use Rattle.sql_bound.specs.declared.scopes.WithEntry.{WithEntry}
use Rattle.sql_tree.specs.Layers as layer
use Rattle.sql_tree.specs.Layers.{PartLayer, SourceLayer}
use Rattle.sql_tree.specs.declared.expr.Expr.TheOpen.{QueryPart-F, Source-F}
use Rattle.sql_tree.specs.declared.expr.Expr.{Expr, the_lemmas}
use Rattle.sql_tree.specs.declared.query.CompoundOp.TheVariants as op
use Rattle.sql_tree.specs.declared.query.CompoundOp.{CompoundOp}
use Rattle.sql_tree.specs.declared.query.CompoundPart.{CompoundPart, out-CompoundPart}
use Rattle.sql_tree.specs.declared.query.FromItem.{FromItem, out-FromItem}
use Rattle.sql_tree.specs.declared.query.QueryPart.{QueryPart, out-QueryPart, roll-QueryPart, roll-out-QueryPart}
use Rattle.sql_tree.specs.declared.query.SelectCore.{SelectCore, out-SelectCore}
use Rattle.sql_tree.specs.declared.query.Source.{Source, out-Source, roll-Source, roll-out-Source}

-- ---- an item

source-is : (o : Outer) (name : List ℕ) (l : SourceLayer) → names_table o name (of_source (roll-Source l)) ≡ named_alone o.text name l
source-is o name (Source-F.Table t None) = search (rules, the_lemmas)
source-is o name (Source-F.Table t (Some [])) = search (rules, the_lemmas)
source-is o name (Source-F.Table t (Some (x ∷ xs))) = search (rules, the_lemmas)
source-is o name (Source-F.Derived q) = search (rules, the_lemmas)

source-out : (o : Outer) (name : List ℕ) (s : Source) → names_table o name (of_source s) ≡ named_alone o.text name (layer.of_source s)
source-out o name s = rw (roll-out-Source s) at (source-is o name (out-Source s))

item-source : (item : FromItem) → (of_item item).source ≡ of_source (out-FromItem item).source
item-source item = search (rules, the_lemmas)

item-is : (o : Outer) (name : List ℕ) (item : FromItem) → names_table o name (of_item item).source ≡ named_by o.text name item
item-is o name item = ap (names_table o name) (item-source item) ∙ source-out o name (out-FromItem item).source

items-are : (o : Outer) (name : List ℕ) (items : List FromItem) → list_any (λ (item : ItemParts). names_table o name item.source) (map of_item items) ≡ list_any (named_by o.text name) items
items-are o name [] = refl
items-are o name (item ∷ items) =
    ap (λ b. b || list_any (λ (i : ItemParts). names_table o name i.source) (map of_item items)) (item-is o name item)
    ∙ ap (λ b. named_by o.text name item || b) (items-are o name items)

-- ---- a part

named : Bool → SelectCore → Recursive
named all core = record { front = []; all = all; core = of_core core }

if-named : (all b : Bool) (core : SelectCore) → (if b then Some (record { front = []; all = all; core = of_core core }) else None) ≡ option_map (named all) (if b then Some core else None)
unfolding named
if-named all true core = refl
if-named all false core = refl

core-from : (core : SelectCore) → (of_core core).from ≡ map of_item (out-SelectCore core).from
core-from core = search (rules, the_lemmas)

select-is : (core : SelectCore) → of_part (roll-QueryPart (QueryPart-F.Select core)) ≡ parts.Select (of_core core)
select-is core = search (rules, the_lemmas)

values-naming : (o : Outer) (name : List ℕ) (all : Bool) (rows : List (List Expr)) → part_naming o name all (of_part (roll-QueryPart (QueryPart-F.Values rows))) ≡ None
values-naming o name all rows = search (rules, the_lemmas)

part-is : (o : Outer) (name : List ℕ) (all : Bool) (l : PartLayer) → part_naming o name all (of_part (roll-QueryPart l)) ≡ option_map (named all) (core_by o.text name l)
part-is o name all (QueryPart-F.Select core) =
    ap (part_naming o name all) (select-is core)
    ∙ ap (λ b. if b then Some (record { front = []; all = all; core = of_core core }) else None) (ap (list_any (λ (item : ItemParts). names_table o name item.source)) (core-from core) ∙ items-are o name (out-SelectCore core).from)
    ∙ if-named all (list_any (named_by o.text name) (out-SelectCore core).from) core
part-is o name all (QueryPart-F.Values rows) = values-naming o name all rows

part-out : (o : Outer) (name : List ℕ) (all : Bool) (p : QueryPart) → part_naming o name all (of_part p) ≡ option_map (named all) (core_by o.text name (layer.of_part p))
part-out o name all p = rw (roll-out-QueryPart p) at (part-is o name all (out-QueryPart p))

-- ---- a part behind the first

compound-op : (c : CompoundPart) → (of_compound c).op ≡ (out-CompoundPart c).op
compound-op c = search (rules, the_lemmas)

compound-part : (c : CompoundPart) → (of_compound c).part ≡ of_part (out-CompoundPart c).part
compound-part c = search (rules, the_lemmas)

by-op : (o : Outer) (name : List ℕ) (how : CompoundOp) (p : QueryPart)
    → recursive_by o name how (of_part p) ≡ option_map (named (is_all how)) (if is_union how then core_by o.text name (layer.of_part p) else None)
by-op o name op.Union p = part-out o name false p
by-op o name op.UnionAll p = part-out o name true p
by-op o name op.Intersect p = refl
by-op o name op.Except p = refl

one-is : (o : Outer) (name : List ℕ) (c : CompoundPart) → last_naming o name (of_compound c ∷ []) ≡ option_map (recursive_of (c ∷ [])) (core_behind o.text name (Some c))
unfolding named
one-is o name c =
    ap (λ how. recursive_by o name how (of_compound c).part) (compound-op c)
    ∙ ap (recursive_by o name (out-CompoundPart c).op) (compound-part c)
    ∙ by-op o name (out-CompoundPart c).op (out-CompoundPart c).part

behind-is : (c d : CompoundPart) (cs : List CompoundPart) (core : Option SelectCore) → behind (of_compound c) (option_map (recursive_of (d ∷ cs)) core) ≡ option_map (recursive_of (c ∷ d ∷ cs)) core
behind-is c d cs None = refl
behind-is c d cs (Some core) = refl

last-is : (o : Outer) (name : List ℕ) (cs : List CompoundPart) → last_naming o name (map of_compound cs) ≡ option_map (recursive_of cs) (core_behind o.text name (last_of cs))
last-is o name [] = refl
last-is o name (c ∷ []) = one-is o name c
last-is o name (c ∷ d ∷ cs) = ap (behind (of_compound c)) (last-is o name (d ∷ cs)) ∙ behind-is c d cs (core_behind o.text name (last_of (d ∷ cs)))

-- ---- the whole

if-itself : (b : Bool) (cs : List CompoundPart) (r : Option Recursive) (core : Option SelectCore) → r ≡ option_map (recursive_of cs) core → (if b then r else None) ≡ option_map (recursive_of cs) (if b then core else None)
if-itself true cs r core is = is
if-itself false cs r core is = refl

pub recursive-is : (o : Outer) (name : List ℕ) (cs : List CompoundPart) → recursive_in o name (map of_compound cs) ≡ option_map (recursive_of cs) (core_in o.text o.tables name cs)
recursive-is o name cs = if-itself (is_itself (with_named name o.tables)) cs (last_naming o name (map of_compound cs)) (core_behind o.text name (last_of cs)) (last-is o name cs)

pub recursive-found : (o : Outer) (text name : List ℕ) (tables : List WithEntry) (cs : List CompoundPart) (found : Option SelectCore) → o.text ≡ text → o.tables ≡ tables → found ≡ core_in text tables name cs
    → recursive_in o name (map of_compound cs) ≡ option_map (recursive_of cs) found
recursive-found o text name tables cs found same_text same_tables is =
    recursive-is o name cs
    ∙ ap (λ t. option_map (recursive_of cs) (core_in t o.tables name cs)) same_text
    ∙ ap (λ ts. option_map (recursive_of cs) (core_in text ts name cs)) same_tables
    ∙ ap (option_map (recursive_of cs)) (sym is)

pub recursive-answer : (text name : List ℕ) (tables : List WithEntry) (cs : List CompoundPart) (r : Result (Option (Bor SelectCore)) Cause) → IfOk r (λ found. option_copied found ≡ core_in text tables name cs)
    → (o : Outer) → o.text ≡ text → o.tables ≡ tables → IfOk r (λ found. recursive_in o name (map of_compound cs) ≡ option_map (recursive_of cs) (option_copied found))
recursive-answer text name tables cs (Ok found) is o same_text same_tables = recursive-found o text name tables cs (option_copied found) same_text same_tables is
recursive-answer text name tables cs (Err why) is o same_text same_tables = tt
