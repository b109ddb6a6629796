-- Each column that a FROM brings is one node, and names see no more columns than its items have.
use Rattle.std.proofs.Common.{◌≡◌, ◌≤◌, ℕ, zero, suc, ◌+◌, Bool, true, false, ◌&&◌, cond, filter, List, [], ◌∷◌, ◌++◌, length, map, Option, Some, None, slice_get, Ok, subst, arith}
use Rattle.std.proofs.lemmas.List.{length-map}
use Rattle.std.specs.List.{AllByRecursion}
use Rattle.eng_entry.specs.Names.{is_same_name}
use Rattle.eng_value.specs.declared.limits.TheConstants.{MAX_COLUMNS}
use Rattle.sql_words.specs.Refusals.{◌>>=◌}
use Rattle.sql_words.specs.Spelled.{name_at}
use Rattle.bound_tree.specs.declared.units.BoundColumn.{BoundColumn}
use Rattle.bound_tree.specs.declared.units.BoundItem.{BoundItem}
use Rattle.sql_bound.specs.Carriers.{ConstraintParts, Expression, ItemParts, On, Unconstrained, Using}
use Rattle.sql_bound.specs.Froms.{Inside, called_by, columns_from, common_names, constrained, has_room, are_made, is_any, item_found, items_found, joined_if, joined_to, kind_of_join, nothing_found, of_source, on_bound, on_left, one_of, equality_of, plain_item, rowid_in, scope_item, using_all, using_one, with_item, with_joined, with_units}
use Rattle.sql_bound.specs.Limits.{walked}
use Rattle.sql_bound.specs.Refusals.{Checked}
use Rattle.sql_bound.specs.Scopes.{Level, columns_named, is_shown, scope_over}
use Rattle.sql_bound.specs.declared.froms.Found.{Found}
use Rattle.sql_bound.specs.declared.froms.Joining.{Joining}
use Rattle.sql_bound.specs.declared.froms.QueueTable.{QueueTable}
use Rattle.sql_bound.specs.declared.froms.Sourced.{Sourced}
use Rattle.sql_bound.specs.declared.scopes.ScopeColumn.{ScopeColumn}
use Rattle.sql_bound.specs.declared.scopes.ScopeItem.{ScopeItem}
use Rattle.sql_bound.specs.declared.scopes.Work.{Work}
use Rattle.bound_size.specs.Brought.{AllBringNodes, BringsNodes, IsNode, IsNodeIfThere}
use Rattle.bound_size.specs.Small.{columns_in, seen_columns}
use Rattle.bound_size.proofs.BoundLaws.{bound_by, same_answer}
use Rattle.bound_size.proofs.ColumnLaws.{all_append}

-- ---- an item, as names see it

columns_are_nodes : (item place : ℕ) (cs : List BoundColumn) (hidden : List Bool) → AllByRecursion IsNode (columns_from item place cs hidden)
columns_are_nodes item place [] hidden = tt
columns_are_nodes item place (c ∷ cs) [] = tt
columns_are_nodes item place (c ∷ cs) (h ∷ hidden) = (omega arith, columns_are_nodes item (suc place) cs hidden)

columns_are_few : (item place : ℕ) (cs : List BoundColumn) (hidden : List Bool) → length (columns_from item place cs hidden) ≤ length cs
columns_are_few item place [] hidden = omega arith
columns_are_few item place (c ∷ cs) [] = omega arith
columns_are_few item place (c ∷ cs) (h ∷ hidden) = omega (arith, columns_are_few item (suc place) cs hidden)

column_at : (cs : List ScopeColumn) (place : ℕ) → AllByRecursion IsNode cs → IsNodeIfThere (slice_get cs place)
column_at [] place all = tt
column_at (c ∷ cs) zero all = all.0
column_at (c ∷ cs) (suc place) all = column_at cs place all.1

rowid_is_node : (item : ℕ) (cs : List ScopeColumn) (there : Bool) (place : Option ℕ) → AllByRecursion IsNode cs → IsNodeIfThere (rowid_in item cs there place)
rowid_is_node item cs false place all = tt
rowid_is_node item cs true None all = omega arith
rowid_is_node item cs true (Some place) all = column_at cs place all

-- it brings nodes, and no more than so many
pub record Brings (n : ℕ) (item : ScopeItem) : Type 0 where
  pub nodes : BringsNodes item
  pub count : length item.columns ≤ n

pub item_brings : (place : ℕ) (name : Option (List ℕ)) (s : Sourced) → Brings (length s.columns) (scope_item place name s)
item_brings place name s =
    let all = columns_are_nodes place 0 s.columns s.hidden in
    record {
      nodes = record { columns = all; rowid = rowid_is_node place (columns_from place 0 s.columns s.hidden) s.has_rowid s.rowid all };
      count = columns_are_few place 0 s.columns s.hidden;
    }

-- ---- joins

marked : (b : Bool) (c : ScopeColumn) → IsNode c → IsNode (cond b (record c { joined = true }) c)
marked true c h = h
marked false c h = h

all_marked : (counts : ScopeColumn → Bool) (name : List ℕ) (cs : List ScopeColumn) → AllByRecursion IsNode cs → AllByRecursion IsNode (map (joined_if counts name) cs)
all_marked counts name [] all = tt
all_marked counts name (c ∷ cs) all = (marked (counts c && is_same_name c.name name) c all.0, all_marked counts name cs all.1)

joined_brings : (n : ℕ) (counts : ScopeColumn → Bool) (name : List ℕ) (item : ScopeItem) → Brings n item → Brings n (with_joined counts name item)
joined_brings n counts name item h = record {
  nodes = record { columns = all_marked counts name item.columns h.nodes.columns; rowid = h.nodes.rowid };
  count = omega (arith, h.count, length-map item.columns (joined_if counts name));
}

abbrev RightBrings : ℕ → Joining → Type 0
RightBrings n j = Brings n j.right

using_one_brings : (n : ℕ) (counts : ScopeColumn → Bool) (left : Level) (name : List ℕ) (j k : Joining) → using_one counts left name j ≡ Ok k → RightBrings n j → RightBrings n k
using_one_brings n counts left name j k h brings =
    let with_both : ScopeColumn → ScopeColumn → Joining = λ l r. record { right = with_joined counts name j.right; ons = j.ons ++ equality_of l r ∷ [] } in
    let l = bound_by (one_of name (on_left counts name left)) (λ l. one_of name (filter counts (columns_named name j.right)) >>= λ r. Ok (with_both l r)) k h in
    let r = bound_by (one_of name (filter counts (columns_named name j.right))) (λ r. Ok (with_both l.0 r)) k l.2 in
    subst (RightBrings n) (same_answer (with_both l.0 r.0) k r.2) (joined_brings n counts name j.right brings)

walked_keeps : {A B : Type 0} (P : B → Type 0) (f : A → B → Checked B) (n : ℕ) (xs : List A) (b c : B) → ((x : A) (p q : B) → f x p ≡ Ok q → P p → P q) → walked f n xs b ≡ Ok c → P b → P c
walked_keeps P f n [] b c each h p = subst P (same_answer b c h) p
walked_keeps P f zero (x ∷ xs) b c each h p = cc
walked_keeps P f (suc n) (x ∷ xs) b c each h p =
    let d = bound_by (f x b) (λ d. walked f n xs d) c h in
    walked_keeps P f n xs d.0 c each d.2 (each x b d.0 d.1 p)

using_all_brings : (n : ℕ) (counts : ScopeColumn → Bool) (left : Level) (names : List (List ℕ)) (j : Joining) (w : Work) (r : Joining × Work) → with_units (using_all counts left names j) w ≡ Ok r → RightBrings n j → RightBrings n r.0
using_all_brings n counts left names j w r h brings =
    let k = bound_by (using_all counts left names j) (λ k. Ok (k, w)) r h in
    let kept = walked_keeps (RightBrings n) (using_one counts left) MAX_COLUMNS names j k.0 (λ name p q. using_one_brings n counts left name p q) k.1 brings in
    subst (λ (x : Joining × Work). RightBrings n x.0) (same_answer (k.0, w) r k.2) kept

on_brings : (n : ℕ) (i : Inside) (left : Level) (x : Expression) (j : Joining) (w : Work) (r : Joining × Work) → on_bound i left x j w ≡ Ok r → RightBrings n j → RightBrings n r.0
on_brings n i left x j w r h brings =
    let c = bound_by (x.bound (scope_over (left ++ j.right ∷ []) i.outer) w) (λ c. Ok (record j { ons = x.conjuncts c.0.tree }, c.1)) r h in
    let with_ons : Joining × Work = (record j { ons = x.conjuncts c.0.0.tree }, c.0.1) in
    subst (λ (x : Joining × Work). RightBrings n x.0) (same_answer with_ons r c.2) brings

constrained_brings : (n : ℕ) (i : Inside) (left : Level) (natural : Bool) (constraint : ConstraintParts) (j : Joining) (w : Work) (r : Joining × Work) → constrained i left natural constraint j w ≡ Ok r → RightBrings n j → RightBrings n r.0
constrained_brings n i left true Unconstrained j w r h brings = using_all_brings n is_shown left (common_names left j.right) j w r h brings
constrained_brings n i left true (On x) j w r h brings = cc
constrained_brings n i left true (Using ts) j w r h brings = cc
constrained_brings n i left false Unconstrained j w r h brings = subst (λ (x : Joining × Work). RightBrings n x.0) (same_answer (j, w) r h) brings
constrained_brings n i left false (On x) j w r h brings = on_brings n i left x j w r h brings
constrained_brings n i left false (Using ts) j w r h brings = using_all_brings n is_any left (map (name_at i.outer.text) ts) j w r h brings

-- ---- items in turn

seen-append : (level more : Level) → seen_columns (level ++ more) ≡ seen_columns level + seen_columns more
seen-append [] more = omega arith
seen-append (item ∷ level) more = omega (arith, seen-append level more)

columns-append : (items more : List BoundItem) → columns_in (items ++ more) ≡ columns_in items + columns_in more
columns-append [] more = omega arith
columns-append (item ∷ items) more = omega (arith, columns-append items more)

pub record FoundBrings (f : Found) : Type 0 where
  pub nodes : AllBringNodes f.level
  pub count : seen_columns f.level ≤ columns_in f.items

nothing_brings : FoundBrings nothing_found
nothing_brings = record { nodes = tt; count = omega arith }

behind_brings : (level : Level) (right : ScopeItem) (items : List BoundItem) (item : BoundItem) → AllBringNodes level → seen_columns level ≤ columns_in items → Brings (length item.columns) right
    → AllBringNodes (level ++ right ∷ []) × (seen_columns (level ++ right ∷ []) ≤ columns_in (items ++ item ∷ []))
behind_brings level right items item nodes count brings =
    (all_append BringsNodes level (right ∷ []) nodes (brings.nodes, tt), omega (arith, count, brings.count, seen-append level (right ∷ []), columns-append items (item ∷ [])))

with_item_brings : (item : ItemParts) (name : Option (List ℕ)) (s : Sourced) (f : Found) (j : Joining) → FoundBrings f → RightBrings (length s.columns) j → FoundBrings (with_item item name s f j)
with_item_brings item name s f j found brings =
    let both = behind_brings f.level j.right f.items (record (plain_item name s) { join = kind_of_join item.join.left; ons = j.ons; ons_made = are_made item.constraint }) found.nodes found.count brings in
    record { nodes = both.0; count = both.1 }

item_found_brings : (i : Inside) (queue : Option QueueTable) (item : ItemParts) (f : Found) (w : Work) (g : Found × Work) → FoundBrings f → item_found i queue item f w ≡ Ok g → FoundBrings g.0
item_found_brings i queue item f w g found h =
    let p = bound_by (has_room f) (λ u. of_source i queue item.source f w >>= λ s. joined_to i item (called_by i.outer.text item.alias s.0.name) s.0 f s.1) g h in
    let s = bound_by (of_source i queue item.source f w) (λ s. joined_to i item (called_by i.outer.text item.alias s.0.name) s.0 f s.1) g p.2 in
    let name = called_by i.outer.text item.alias s.0.0.name in
    let start : Joining = record { right = scope_item (length f.items) name s.0.0; ons = [] } in
    let j = bound_by (constrained i f.level item.join.natural item.constraint start s.0.1) (λ j. Ok (with_item item name s.0.0 f j.0, j.1)) g s.2 in
    let brings = constrained_brings (length s.0.0.columns) i f.level item.join.natural item.constraint start s.0.1 j.0 j.1 (item_brings (length f.items) name s.0.0) in
    subst (λ (x : Found × Work). FoundBrings x.0) (same_answer (with_item item name s.0.0 f j.0.0, j.0.1) g j.2) (with_item_brings item name s.0.0 f j.0.0 found brings)

items_found_brings : (i : Inside) (queue : Option QueueTable) (items : List ItemParts) (f : Found) (w : Work) (g : Found × Work) → FoundBrings f → items_found i queue items f w ≡ Ok g → FoundBrings g.0
items_found_brings i queue [] f w g found h = subst (λ (x : Found × Work). FoundBrings x.0) (same_answer (f, w) g h) found
items_found_brings i queue (item ∷ items) f w g found h =
    let p = bound_by (item_found i queue item f w) (λ x. items_found i queue items x.0 x.1) g h in
    items_found_brings i queue items p.0.0 p.0.1 g (item_found_brings i queue item f w p.0 found p.1) p.2

pub from_brings : (i : Inside) (queue : Option QueueTable) (items : List ItemParts) (w : Work) (g : Found × Work) → items_found i queue items nothing_found w ≡ Ok g → FoundBrings g.0
from_brings i queue items w g h = items_found_brings i queue items nothing_found w g nothing_brings h
