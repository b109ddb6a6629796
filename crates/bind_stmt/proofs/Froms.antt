-- FROMs, item by item.
use Rattle.std.proofs.Common.{◌≡◌, ◌<◌, ◌≤◌, ℕ, suc, ◌+◌, List, [], ◌∷◌, ◌++◌, Option, Result, Ok, Err, inl, inr, length, map, drop, take, get_or, refl, sym, ap, ◌∙◌, subst, add-one, append_assoc, append-nil}
use Rattle.std.proofs.Math.ListN.{drop_of_length-le}
use Rattle.std.proofs.Math.Seq.{drop-cons, take-suc}
use Rattle.std.proofs.lemmas.Grind.{flat_map-append}
use Rattle.std.proofs.lemmas.List.{map-append}
use Rattle.std.specs.List.{flat_map}
use Rattle.bound_ignored.proofs.ErasedLaws.{flat_map-conditions_of-erased}
use Rattle.bound_ignored.specs.Erased.{ItemMarks, Marks, erased, marks_of}
use Rattle.bound_tree.specs.Conditions.{conditions_of}
use Rattle.bound_tree.specs.Exprs.{BoundExpr}
use Rattle.bound_tree.specs.declared.units.BoundCore.{BoundCore}
use Rattle.bound_tree.specs.declared.units.BoundItem.{BoundItem}
use Rattle.eng_value.specs.declared.cause.Cause.{Cause}
use Rattle.sql_meaning.specs.Running.{from_of, item_of_table, rejecting, table_of_source, tested_by}
use Rattle.sql_meaning.specs.Runnables.{FromItem}
use Rattle.sql_meaning.specs.Searches.{marks_in}
use Rattle.sql_meaning.specs.declared.bound.BoundSelect.{BoundSelect}
use Rattle.sql_meaning.specs.declared.bound.FromTable.{FromTable}
use Rattle.sql_meaning.specs.declared.column.TableEntry.{TableEntry}
use Rattle.sql_meaning.proofs.ValidLaws.{same-ok}
use Rattle.sql_words.specs.Refusals.{◌>>=◌}
use Rattle.bind_stmt.specs.Binds.{AreFrom, IsItem, IsQueryAs, IsRefusal}
use Rattle.bind_stmt.specs.Steps.{inner_ons}
use Rattle.bind_stmt.proofs.Steps.{query_over}

-- ---- the items so far

-- with others behind these
abbrev behind : List FromItem → Result (List FromItem) Cause → Result (List FromItem) Cause
behind front others = others >>= λ more. Ok (front ++ more)

-- of so many of the items, which this is true of
pub record Along (tables : List TableEntry) (items : List BoundItem) (at : ℕ) (P : List FromItem → Type 0) : Type 0 where
  pub front : List FromItem
  pub held : P front
  pub goes : from_of tables items ≡ behind front (from_of tables (drop at items))

behind-none : (r : Result (List FromItem) Cause) → r ≡ behind [] r
behind-none (Ok more) = refl
behind-none (Err why) = refl

behind-one : (front : List FromItem) (i : FromItem) (r : Result (List FromItem) Cause) → behind front (r >>= λ others. Ok (i ∷ others)) ≡ behind (front ++ i ∷ []) r
behind-one front i (Ok more) = ap (λ xs. Ok xs) (sym (append_assoc front (i ∷ []) more))
behind-one front i (Err why) = refl

pub along-none : (tables : List TableEntry) (items : List BoundItem) (P : List FromItem → Type 0) → P [] → Along tables items 0 P
along-none tables items P held = record { front = []; held = held; goes = behind-none (from_of tables items) }

-- the item in this place comes next
next-item : (items : List BoundItem) (at : ℕ) (i : BoundItem) → at < length items → i ≡ get_or items at i → drop at items ≡ i ∷ drop (suc at) items
next-item items at i within is = drop-cons items at i within ∙ ap (λ x. x ∷ drop (suc at) items) (sym is)

pub along-next : (tables : List TableEntry) (items : List BoundItem) (at : ℕ) (i : BoundItem) (t : TableEntry) (P Q : List FromItem → Type 0) → at < length items → i ≡ get_or items at i → table_of_source tables i.source ≡ Ok t
    → ((front : List FromItem) → P front → Q (front ++ item_of_table i t ∷ [])) → Along tables items at P → Along tables items (at + 1) Q
along-next tables items at i t P Q within is found more a =
    let item : FromItem = item_of_table i t in
    let further = from_of tables (drop (suc at) items) in
    let here : from_of tables (drop at items) ≡ (further >>= λ others. Ok (item ∷ others)) = ap (from_of tables) (next-item items at i within is) ∙ ap (λ r. r >>= λ u. further >>= λ others. Ok (item_of_table i u ∷ others)) found in
    record {
      front = a.front ++ item ∷ [];
      held = more a.front a.held;
      goes = a.goes ∙ ap (behind a.front) here ∙ behind-one a.front item further ∙ ap (λ n. behind (a.front ++ item ∷ []) (from_of tables (drop n items))) (sym (add-one at));
    }

along-refused : (tables : List TableEntry) (items : List BoundItem) (at : ℕ) (i : BoundItem) (why : Cause) (P : List FromItem → Type 0) → at < length items → i ≡ get_or items at i → table_of_source tables i.source ≡ Err why
    → Along tables items at P → from_of tables items ≡ Err why
along-refused tables items at i why P within is refused a =
    let further = from_of tables (drop (suc at) items) in
    a.goes ∙ ap (λ rest. behind a.front (from_of tables rest)) (next-item items at i within is)
    ∙ ap (λ r. behind a.front (r >>= λ u. further >>= λ others. Ok (item_of_table i u ∷ others))) refused

pub along-refuses : (tables : List TableEntry) (items : List BoundItem) (at : ℕ) (i : BoundItem) (why : Cause) (P : List FromItem → Type 0) → at < length items → i ≡ get_or items at i → IsRefusal (table_of_source tables i.source) why
    → Along tables items at P → IsRefusal (from_of tables items) why
along-refuses tables items at i why P within is (inl mem) a = inl mem
along-refuses tables items at i why P within is (inr refused) a = inr (along-refused tables items at i why P within is refused a)

pub along-all : (tables : List TableEntry) (items : List BoundItem) (at : ℕ) (P : List FromItem → Type 0) → length items ≤ at → Along tables items at P → (from : List FromItem) × (from_of tables items ≡ Ok from) × P from
along-all tables items at P past a =
    (a.front, a.goes ∙ ap (λ rest. behind a.front (from_of tables rest)) (drop_of_length-le items past) ∙ ap (λ xs. Ok xs) (append-nil a.front), a.held)

-- ---- what is true of them

abbrev mark : List (Option ℕ) → Option ℕ → ItemMarks
mark ignored rowid = record { ignored = ignored; rowid = rowid }

-- one more with its marks
pub marked-next : (made : List BoundItem) (from : List FromItem) (i m : BoundItem) (t : TableEntry) → m.ignored ≡ i.ignored → m.rowid ≡ t.rowid → marks_of made ≡ marks_in from → marks_of (made ++ m ∷ []) ≡ marks_in (from ++ item_of_table i t ∷ [])
marked-next made from i m t ignored rowid same =
    map-append (λ (b : BoundItem). mark b.ignored b.rowid) made (m ∷ [])
    ∙ ap (λ ks. ks ++ mark m.ignored m.rowid ∷ []) same
    ∙ ap (λ places. marks_in from ++ mark places m.rowid ∷ []) ignored
    ∙ ap (λ column. marks_in from ++ mark i.ignored column ∷ []) rowid
    ∙ sym (map-append (λ (j : FromItem). mark j.ignored j.table.rowid) from (item_of_table i t ∷ []))

-- one more by its table
pub are_from-next : (m : Marks) (from : List FromItem) (made : List FromTable) (i : FromItem) (f : FromTable) → AreFrom m from made → IsItem m i f → AreFrom m (from ++ i ∷ []) (made ++ f ∷ [])
are_from-next m [] [] i f all one = (one, tt)
are_from-next m (j ∷ from) (g ∷ made) i f all one = (all.0, are_from-next m from made i f all.1 one)
are_from-next m [] (g ∷ made) i f all one = absurd all
are_from-next m (j ∷ from) [] i f all one = absurd all

-- what one more tests
pub inner-next : (m : Marks) (items : List BoundItem) (at : ℕ) (i : BoundItem) → at < length items → i ≡ get_or items at i
    → map (erased m) (inner_ons (take at items)) ++ map (erased m) (tested_by i.join i.ons) ≡ map (erased m) (inner_ons (take (at + 1) items))
inner-next m items at i within is =
    let tested : BoundItem → List BoundExpr = λ i. tested_by i.join i.ons in
    let one : inner_ons (i ∷ []) ≡ tested i = append-nil (tested i) in
    let grown : take (at + 1) items ≡ take at items ++ i ∷ [] = ap (λ n. take n items) (add-one at) ∙ take-suc items at i within ∙ ap (λ x. take at items ++ x ∷ []) (sym is) in
    sym (ap (λ xs. map (erased m) (inner_ons xs)) grown ∙ ap (map (erased m)) (flat_map-append tested (take at items) (i ∷ []) ∙ ap (λ ons. inner_ons (take at items) ++ ons) one) ∙ map-append (erased m) (inner_ons (take at items)) (tested i))

-- ---- a query over them

pub query-stands : (core : BoundCore) (marks : Marks) (from seen : List FromItem) (r : Result (List FromItem) Cause) (b : BoundSelect) → r ≡ Ok from → marks ≡ marks_in from → r ≡ Ok seen → AreFrom marks seen b.from
    → b.conjuncts ≡ map (erased marks) (rejecting core) → b.results ≡ map (erased marks) core.results → IsQueryAs (query_over core from) b
query-stands core marks from seen r b is marked also over conjuncts results =
    let same : seen ≡ from = same-ok seen from (sym also ∙ is) in
    let all : AreFrom (marks_in from) from b.from = subst (λ (m : Marks). AreFrom m from b.from) marked (subst (λ items. AreFrom marks items b.from) same over) in
    record {
      from = all;
      conjuncts = ap (flat_map conditions_of) conjuncts ∙ flat_map-conditions_of-erased marks (rejecting core) ∙ ap (λ (m : Marks). map (erased m) (flat_map conditions_of (rejecting core))) marked;
      results = results ∙ ap (λ (m : Marks). map (erased m) core.results) marked;
    }
