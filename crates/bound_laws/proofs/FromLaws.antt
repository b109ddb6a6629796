-- The items of a FROM: each ON names those up to its own, and names find columns of those that are there.
use Rattle.std.proofs.Common.{◌≡◌, ◌≤◌, ◌<◌, ℕ, suc, ◌+◌, Bool, true, false, not, ◌&&◌, cond, filter, List, [], ◌∷◌, ◌++◌, length, map, Option, Some, None, sym, subst, append_assoc, append-nil, arith}
use Rattle.std.specs.List.{AllByRecursion}
use Rattle.std.proofs.lemmas.List.{length-map, map-append}
use Rattle.eng_entry.specs.Names.{is_same_name}
use Rattle.eng_value.specs.declared.limits.TheConstants.{MAX_COLUMNS}
use Rattle.sql_words.specs.Spelled.{name_at}
use Rattle.bound_tree.specs.Exprs.{BoundExpr}
use Rattle.bound_tree.specs.declared.units.BoundColumn.{BoundColumn}
use Rattle.bound_tree.specs.declared.units.BoundItem.{BoundItem}
use Rattle.bound_tree.specs.declared.units.BoundUnit.{BoundUnit}
use Rattle.sql_bound.specs.Carriers.{ConstraintParts, Expression, ItemParts, On, Unconstrained, Using}
use Rattle.sql_bound.specs.Froms.{Inside, are_made, called_by, columns_from, common_names, constrained, equality_of, has_room, is_any, item_found, items_found, joined_if, joined_to, kind_of_join, nothing_found, on_bound, on_left, one_of, plain_item, rowid_in, scope_item, using_all, using_one, with_units}
use Rattle.sql_bound.specs.Scopes.{Level, columns_named, is_shown, unjoined}
use Rattle.sql_bound.specs.declared.froms.Found.{Found}
use Rattle.sql_bound.specs.declared.froms.Joining.{Joining}
use Rattle.sql_bound.specs.declared.froms.QueueTable.{QueueTable}
use Rattle.sql_bound.specs.declared.froms.Sourced.{Sourced}
use Rattle.sql_bound.specs.declared.scopes.ScopeColumn.{ScopeColumn}
use Rattle.sql_bound.specs.declared.scopes.Standing.TheVariants.{Nowhere}
use Rattle.sql_bound.specs.declared.scopes.Work.{Work}
use Rattle.bound_laws.specs.Order.{ItemsAreWithin, SourceIsWithin, width_of, widths_of}
use Rattle.bound_laws.specs.Reach.{EachIsWithin, HasColumn, HasItem, IsWithin, Reach}
use Rattle.bound_laws.proofs.Goods.{GoodConstraint, GoodExpression, GoodItem}
use Rattle.bound_laws.proofs.GrowLaws.{reached_before}
use Rattle.bound_laws.proofs.HandLaws.{column_within}
use Rattle.bound_laws.proofs.Lists.{IfThere, all_append, all_flat, all_kept, all_weaker, column_append, column_last, item_append, item_last, member_at}
use Rattle.bound_laws.proofs.NameLaws.{named_brought}
use Rattle.bound_laws.proofs.PlainLaws.{IsPlain, PlainSteps, over_from, plain_here, plain_later}
use Rattle.bound_laws.proofs.SourceLaws.{source_stays}
use Rattle.bound_laws.proofs.States.{ColumnFits, From, InsideFits, IsColumnOf, ItemFits, LevelFits, Reached}
use Rattle.bound_laws.proofs.Triples.{Gives, any, gives, gives_walked, refuses, seq}
use Rattle.bound_tree.specs.Exprs as e

-- ---- an item, as names see it

columns_fit : (from : From) (item width : ℕ) → ((p : ℕ) → p < width → HasColumn from item p) → (place : ℕ) (cs : List BoundColumn) (hidden : List Bool) → place + length cs ≤ width → AllByRecursion (ColumnFits from) (columns_from item place cs hidden)
columns_fit from item width has place [] hidden room = tt
columns_fit from item width has place (c ∷ cs) [] room = tt
columns_fit from item width has place (c ∷ cs) (h ∷ hidden) room = (has place (omega arith), columns_fit from item width has (suc place) cs hidden (omega arith))

rowid_fits : (from : From) (item : ℕ) (cs : List ScopeColumn) (there : Bool) (place : Option ℕ) → HasItem from item → AllByRecursion (ColumnFits from) cs → IfThere (ColumnFits from) (rowid_in item cs there place)
rowid_fits from item cs false place has all = tt
rowid_fits from item cs true None has all = has
rowid_fits from item cs true (Some place) has all = member_at (ColumnFits from) cs place all

pub item_at : (from : From) (item : ℕ) (name : Option (List ℕ)) (s : Sourced) → ((p : ℕ) → p < length s.columns → HasColumn from item p) → HasItem from item → ItemFits from (scope_item item name s)
item_at from item name s columns has =
    let all = columns_fit from item (length s.columns) columns 0 s.columns s.hidden (omega arith) in
    record { columns = all; rowid = rowid_fits from item (columns_from item 0 s.columns s.hidden) s.has_rowid s.rowid has all }

-- behind those on the left
new_item_fits : (from : From) (item : ℕ) (name : Option (List ℕ)) (s : Sourced) → item ≡ length from → ItemFits (from ++ length s.columns ∷ []) (scope_item item name s)
new_item_fits from item name s is =
    item_at (from ++ length s.columns ∷ []) item name s (λ p h. subst (λ k. HasColumn (from ++ length s.columns ∷ []) k p) (sym is) (column_last from (length s.columns) p h))
    (subst (HasItem (from ++ length s.columns ∷ [])) (sym is) (item_last from (length s.columns)))

-- ---- more items behind it

column_behind : (from more : From) (x : BoundExpr) → IsColumnOf from x → IsColumnOf (from ++ more) x
column_behind from more (e.Column item place) h = column_append from more item place h
column_behind from more (e.Rowid item) h = item_append from more item h
column_behind from more other h = absurd h

if_behind : (from more : From) (c : Option ScopeColumn) → IfThere (ColumnFits from) c → IfThere (ColumnFits (from ++ more)) c
if_behind from more None h = tt
if_behind from more (Some c) h = column_behind from more c.tree h

level_behind : (from more : From) (level : Level) → LevelFits from level → LevelFits (from ++ more) level
level_behind from more level = all_weaker (ItemFits from) (ItemFits (from ++ more)) (λ item h. record {
  columns = all_weaker (ColumnFits from) (ColumnFits (from ++ more)) (λ c. column_behind from more c.tree) item.columns h.columns;
  rowid = if_behind from more item.rowid h.rowid;
}) level

-- ---- joins

marked : (from : From) (b : Bool) (c : ScopeColumn) → ColumnFits from c → ColumnFits from (cond b (record c { joined = true }) c)
marked from true c h = h
marked from false c h = h

all_marked : (from : From) (counts : ScopeColumn → Bool) (name : List ℕ) (cs : List ScopeColumn) → AllByRecursion (ColumnFits from) cs → AllByRecursion (ColumnFits from) (map (joined_if counts name) cs)
all_marked from counts name [] all = tt
all_marked from counts name (c ∷ cs) all = (marked from (counts c && is_same_name c.name name) c all.0, all_marked from counts name cs all.1)

one_fits : (from : From) (name : List ℕ) (cs : List ScopeColumn) → AllByRecursion (ColumnFits from) cs → Gives (ColumnFits from) (one_of name cs)
one_fits from name [] all = refuses _ _
one_fits from name (c ∷ []) all = gives _ _ all.0
one_fits from name (c ∷ d ∷ cs) all = refuses _ _

left_fits : (from : From) (counts : ScopeColumn → Bool) (name : List ℕ) (left : Level) → LevelFits from left → AllByRecursion (ColumnFits from) (on_left counts name left)
left_fits from counts name left here =
    all_flat (ColumnFits from) (ItemFits from) (λ item. filter counts (unjoined (columns_named name item)))
    (λ item h. all_kept (ColumnFits from) counts (unjoined (columns_named name item)) (all_kept (ColumnFits from) (λ (c : ScopeColumn). not c.joined) (columns_named name item) (named_brought from name item h))) left here

-- what is being joined, over the items up to it
pub record JoiningStays (from : From) (j : Joining) (v : Work) : Type 0 where
  pub right : ItemFits from j.right
  pub ons : (r : Reach) → Reached Nowhere v r → EachIsWithin r from j.ons

pub record FoundStays (f : Found) (v : Work) : Type 0 where
  pub level : LevelFits (widths_of f.items) f.level
  pub items : (r : Reach) → Reached Nowhere v r → ItemsAreWithin r [] f.items

pub nothing_stays : (w : Work) → FoundStays nothing_found w
nothing_stays w = record { level = tt; items = λ r k. tt }

module _ (units : List BoundUnit) (outers : List From) (i : Inside) (inside : InsideFits units outers i) where
  using_one_stays : (from : From) (counts : ScopeColumn → Bool) (left : Level) (w : Work) → LevelFits from left → (name : List ℕ) (j : Joining) → JoiningStays from j w → Gives (λ (k : Joining). JoiningStays from k w) (using_one counts left name j)
  using_one_stays from counts left w here name j stays =
      seq _ _ _ _ (one_fits from name (on_left counts name left) (left_fits from counts name left here))
      (λ l hl. seq _ _ _ _ (one_fits from name (filter counts (columns_named name j.right)) (all_kept (ColumnFits from) counts (columns_named name j.right) (named_brought from name j.right stays.right)))
      (λ r hr. gives _ _ (record {
        right = record { columns = all_marked from counts name j.right.columns stays.right.columns; rowid = stays.right.rowid };
        ons = λ reach k. all_append (IsWithin reach from) j.ons (equality_of l r ∷ []) (stays.ons reach k) ((column_within reach from l.tree hl, column_within reach from r.tree hr), tt);
      })))

  abbrev Result : From → Work → Joining × Work → Type 0
  Result from w r = PlainSteps units outers (JoiningStays from) w r

  using_stays : (from : From) (counts : ScopeColumn → Bool) (left : Level) (names : List (List ℕ)) (j : Joining) (w : Work) → LevelFits from left → JoiningStays from j w → IsPlain units outers w → Gives (Result from w) (with_units (using_all counts left names j) w)
  using_stays from counts left names j w here stays plain =
      seq _ _ _ _ (gives_walked (λ (k : Joining). JoiningStays from k w) (using_one counts left) MAX_COLUMNS names j (using_one_stays from counts left w here) stays) (λ k h. plain_here units outers (JoiningStays from) w k plain h)

  on_stays : (from : From) (left : Level) (x : Expression) (j : Joining) (w : Work) → GoodExpression x → LevelFits from left → JoiningStays from j w → IsPlain units outers w → Gives (Result from w) (on_bound i left x j w)
  on_stays from left x j w good here stays plain =
      seq _ _ _ _ (over_from units outers from (left ++ j.right ∷ []) i.outer inside.outer (all_append (ItemFits from) left (j.right ∷ []) here (stays.right, tt)) x good w plain)
      (λ c hc. gives _ _ (record { plain = hc.plain; grows = hc.grows; holds = record { right = stays.right; ons = λ r k. good.splits r from c.0.tree (hc.holds r k) } }))

  constrained_stays : (from : From) (left : Level) (natural : Bool) (constraint : ConstraintParts) (j : Joining) (w : Work) → GoodConstraint constraint → LevelFits from left → JoiningStays from j w → IsPlain units outers w
      → Gives (Result from w) (constrained i left natural constraint j w)
  constrained_stays from left true Unconstrained j w good here stays plain = using_stays from is_shown left (common_names left j.right) j w here stays plain
  constrained_stays from left true (On x) j w good here stays plain = refuses _ _
  constrained_stays from left true (Using ts) j w good here stays plain = refuses _ _
  constrained_stays from left false Unconstrained j w good here stays plain = plain_here units outers (JoiningStays from) w j plain stays
  constrained_stays from left false (On x) j w good here stays plain = on_stays from left x j w good here stays plain
  constrained_stays from left false (Using ts) j w good here stays plain = using_stays from is_any left (map (name_at i.outer.text) ts) j w here stays plain

  -- ---- items in turn

  items_append : (r : Reach) (left : From) (items : List BoundItem) (item : BoundItem) → ItemsAreWithin r left items → SourceIsWithin r (left ++ widths_of items) (width_of item) item.source → EachIsWithin r (left ++ widths_of items ++ width_of item ∷ []) item.ons
      → ItemsAreWithin r left (items ++ item ∷ [])
  items_append r left [] item all source ons =
      let nothing = append-nil left in
      (subst (λ l. SourceIsWithin r l (width_of item) item.source) nothing source, subst (λ l. EachIsWithin r (l ++ width_of item ∷ []) item.ons) nothing ons, tt)
  items_append r left (first ∷ items) item all source ons =
      let same = append_assoc left (width_of first ∷ []) (widths_of items) in
      (all.0, all.1, items_append r (left ++ width_of first ∷ []) items item all.2 (subst (λ l. SourceIsWithin r l (width_of item) item.source) (sym same) source) (subst (λ l. EachIsWithin r (l ++ width_of item ∷ []) item.ons) (sym same) ons))

  abbrev joined_item : ItemParts → Option (List ℕ) → Sourced → Joining → BoundItem
  joined_item item name s j = record (plain_item name s) { join = kind_of_join item.join.left; ons = j.ons; ons_made = are_made item.constraint }

  abbrev width_behind : Found → Sourced → From
  width_behind f s = widths_of f.items ++ length s.columns ∷ []

  widths_behind : (f : Found) (item : BoundItem) → widths_of (f.items ++ item ∷ []) ≡ widths_of f.items ++ width_of item ∷ []
  widths_behind f item = map-append width_of f.items (item ∷ [])

  abbrev FoundResult : Work → Found × Work → Type 0
  FoundResult w r = PlainSteps units outers FoundStays w r

  joined_stays : (item : ItemParts) (name : Option (List ℕ)) (s : Sourced) (f : Found) (w : Work) → GoodConstraint item.constraint → FoundStays f w → ((r : Reach) → Reached Nowhere w r → SourceIsWithin r (widths_of f.items) (length s.columns) s.source) → IsPlain units outers w
      → Gives (FoundResult w) (joined_to i item name s f w)
  joined_stays item name s f w good found source plain =
      let from = width_behind f s in
      let place : length f.items ≡ length (widths_of f.items) = sym (length-map f.items width_of) in
      let right = new_item_fits (widths_of f.items) (length f.items) name s place in
      let left = level_behind (widths_of f.items) (length s.columns ∷ []) f.level found.level in
      seq _ _ _ _ (constrained_stays from f.level item.join.natural item.constraint (record { right = scope_item (length f.items) name s; ons = [] }) w good left (record { right = right; ons = λ r k. tt }) plain)
      (λ j hj. gives _ _ (record {
        plain = hj.plain;
        grows = hj.grows;
        holds = record {
          level = subst (λ l. LevelFits l (f.level ++ j.0.right ∷ [])) (sym (widths_behind f (joined_item item name s j.0))) (all_append (ItemFits from) f.level (j.0.right ∷ []) left (hj.holds.right, tt));
          items = λ r k. items_append r [] f.items (joined_item item name s j.0) (found.items r (reached_before Nowhere w j.1 r hj.grows k)) (source r (reached_before Nowhere w j.1 r hj.grows k)) (hj.holds.ons r k);
        };
      }))

  one_item_stays : (queue : Option QueueTable) (item : ItemParts) (f : Found) (w : Work) → GoodItem item → FoundStays f w → IsPlain units outers w → Gives (FoundResult w) (item_found i queue item f w)
  one_item_stays queue item f w good found plain =
      seq _ _ _ _ (any (has_room f)) (λ u t. seq _ _ _ _ (source_stays units outers i inside f found.level queue item.source w good.source plain)
      (λ s hs. plain_later units outers FoundStays w s.1 hs.grows (joined_to i item (called_by i.outer.text item.alias s.0.name) s.0 f s.1)
      (joined_stays item (called_by i.outer.text item.alias s.0.name) s.0 f s.1 good.constraint (record { level = found.level; items = λ r k. found.items r (reached_before Nowhere w s.1 r hs.grows k) }) hs.holds hs.plain)))

  pub items_stay : (queue : Option QueueTable) (items : List ItemParts) (f : Found) (w : Work) → AllByRecursion GoodItem items → FoundStays f w → IsPlain units outers w → Gives (FoundResult w) (items_found i queue items f w)
  items_stay queue [] f w good found plain = plain_here units outers FoundStays w f plain found
  items_stay queue (item ∷ items) f w good found plain = seq _ _ _ _ (one_item_stays queue item f w good.0 found plain) (λ g hg. plain_later units outers FoundStays w g.1 hg.grows (items_found i queue items g.0 g.1) (items_stay queue items g.0 g.1 good.1 hg.holds hg.plain))
