-- A FROM over rows as they are stored, read by expressions with NULL in place of what is ignored and the rowid in place of the column that is it,
-- comes to the items to which it comes over rows as they are seen.
use Rattle.std.proofs.Common.{◌≡◌, ℕ, zero, suc, ◌+◌, List, [], ◌∷◌, ◌++◌, All, Option, Some, None, length, map, refl, sym, ap, ◌∙◌, subst, arith, zero-add}
use Rattle.std.specs.Bool.{⊤}
use Rattle.std.specs.List.{AllZip, flat_map}
use Rattle.std.specs.Option.{option_map, option_to_list}
use Rattle.std.specs.Prelude.{replicate, slice_index_or, slice_set}
use Rattle.std.proofs.lemmas.List.Elements.{All-head, All-tail}
use Rattle.bound_ignored.specs.Erased.{ItemMarks, Marks, erased, marks_at}
use Rattle.bound_tree.specs.Exprs.{BoundExpr}
use Rattle.eng_value.specs.Environments.{Environment, ItemRow, Lists, ignoring, no_causes, null_row, table_row, with_causes}
use Rattle.eng_value.specs.StoredRows.{StoredRow}
use Rattle.eng_value.specs.declared.out.Out.{Out}
use Rattle.sql_meaning.specs.declared.bound.Join.{Join}
use Rattle.sql_meaning.specs.declared.bound.Join.TheVariants.{Inner, Left}
use Rattle.sql_meaning.specs.Products.{FromRow, JoinedItem, in_row, joined, no_rows, or_alone, passed, product, product_from, sifted, with_item}
use Rattle.sql_meaning.specs.Runnables.{FromItem}
use Rattle.sql_meaning.specs.Searches.{marks_in}
use Rattle.sql_meaning.specs.Statement.{Item, from_rows, items_at, joined_item}
use Rattle.sql_meaning.specs.World.{Context, environment_at, rows_at, seen}
use Rattle.sql_meaning.proofs.ErasedValues.{ReadsAs, items_at-erased, null-reads, seen-reads, sifted-erased}
use Rattle.sql_meaning.proofs.RowidPlaces.{HasPlace}

-- ---- two lists, pairwise

zip-append : {A B : Type 0} (R : A → B → Type 0) (xs more : List A) (ys others : List B) → AllZip R xs ys → AllZip R more others → AllZip R (xs ++ more) (ys ++ others)
zip-append R [] more [] others h k = k
zip-append R (a ∷ xs) more (b ∷ ys) others h k = (h.0, zip-append R xs more ys others h.1 k)
zip-append R [] more (b ∷ ys) others h k = absurd h
zip-append R (a ∷ xs) more [] others h k = absurd h

zip-map : {A B C D : Type 0} (R : A → B → Type 0) (S : C → D → Type 0) (f : A → C) (g : B → D) → ((a : A) (b : B) → R a b → S (f a) (g b)) → (xs : List A) (ys : List B) → AllZip R xs ys → AllZip S (map f xs) (map g ys)
zip-map R S f g each [] [] h = tt
zip-map R S f g each (a ∷ xs) (b ∷ ys) h = (each a b h.0, zip-map R S f g each xs ys h.1)
zip-map R S f g each [] (b ∷ ys) h = absurd h
zip-map R S f g each (a ∷ xs) [] h = absurd h

zip-flat : {A B C D : Type 0} (R : A → B → Type 0) (S : C → D → Type 0) (f : A → List C) (g : B → List D) → ((a : A) (b : B) → R a b → AllZip S (f a) (g b)) → (xs : List A) (ys : List B) → AllZip R xs ys → AllZip S (flat_map f xs) (flat_map g ys)
zip-flat R S f g each [] [] h = tt
zip-flat R S f g each (a ∷ xs) (b ∷ ys) h = zip-append S (f a) (flat_map f xs) (g b) (flat_map g ys) (each a b h.0) (zip-flat R S f g each xs ys h.1)
zip-flat R S f g each [] (b ∷ ys) h = absurd h
zip-flat R S f g each (a ∷ xs) [] h = absurd h

zip-same : {A B C : Type 0} (R : A → B → Type 0) (f : A → List C) (g : B → List C) → ((a : A) (b : B) → R a b → f a ≡ g b) → (xs : List A) (ys : List B) → AllZip R xs ys → flat_map f xs ≡ flat_map g ys
zip-same R f g each [] [] h = refl
zip-same R f g each (a ∷ xs) (b ∷ ys) h = ap (λ front. front ++ flat_map f xs) (each a b h.0) ∙ ap (λ rest. g b ++ rest) (zip-same R f g each xs ys h.1)
zip-same R f g each [] (b ∷ ys) h = absurd h
zip-same R f g each (a ∷ xs) [] h = absurd h

-- ---- rows of items

-- each reads as the other, where these are the marks of the items
abbrev AreRead : (ℕ → ItemMarks) → List ItemRow → List ItemRow → Type 0
AreRead k [] [] = ⊤
AreRead k (r ∷ rows) (o ∷ others) = ReadsAs (k zero) r o × AreRead (λ item. k (suc item)) rows others
AreRead k _ _ = ⊥

read-at : (k : ℕ → ItemMarks) (rows others : List ItemRow) (item : ℕ) → AreRead k rows others → ReadsAs (k item) (slice_index_or rows item null_row) (slice_index_or others item null_row)
read-at k [] [] item h = null-reads (k item)
read-at k (r ∷ rows) (o ∷ others) zero h = h.0
read-at k (r ∷ rows) (o ∷ others) (suc item) h = read-at (λ i. k (suc i)) rows others item h.1
read-at k [] (o ∷ others) item h = absurd h
read-at k (r ∷ rows) [] item h = absurd h

read-set : (k : ℕ → ItemMarks) (rows others : List ItemRow) (place : ℕ) (r o : ItemRow) → AreRead k rows others → ReadsAs (k place) r o → AreRead k (slice_set rows place r) (slice_set others place o)
read-set k [] [] place r o h reads = tt
read-set k (a ∷ rows) (b ∷ others) zero r o h reads = (reads, h.1)
read-set k (a ∷ rows) (b ∷ others) (suc place) r o h reads = (h.0, read-set (λ i. k (suc i)) rows others place r o h.1 reads)
read-set k [] (b ∷ others) place r o h reads = absurd h
read-set k (a ∷ rows) [] place r o h reads = absurd h

none-read : (k : ℕ → ItemMarks) (width : ℕ) → AreRead k (replicate width null_row) (replicate width null_row)
none-read k zero = tt
none-read k (suc width) = (null-reads (k zero), none-read (λ i. k (suc i)) width)

-- ---- rows of a FROM

-- a join as it is tested over rows that are stored
abbrev pub erased_join : Marks → Join → Join
erased_join m Inner = Inner
erased_join m (Left ons) = Left (map (erased m) ons)

-- its rows read as those of the other, which are seen
pub record StandsAs (m : Marks) (k : ItemMarks) (stored other : JoinedItem) : Type 0 where
  pub rows : AllZip (ReadsAs k) stored.rows other.rows
  pub join : stored.join ≡ erased_join m other.join

-- so each does from a place on
abbrev StandFrom : Marks → ℕ → List JoinedItem → List JoinedItem → Type 0
StandFrom m place [] [] = ⊤
StandFrom m place (s ∷ stored) (o ∷ others) = StandsAs m (marks_at m place) s o × StandFrom m (suc place) stored others
StandFrom m place _ _ = ⊥

-- a row reads as the other, and carries the same causes
record IsRead (m : Marks) (row other : FromRow) : Type 0 where
  rows : AreRead (marks_at m) row.rows other.rows
  causes : other.causes ≡ row.causes

module _ (m : Marks) (env : Environment) where
  with_item-read : (place : ℕ) (row other : FromRow) (r o : ItemRow) → IsRead m row other → ReadsAs (marks_at m place) r o → IsRead m (with_item place row r) (with_item place other o)
  with_item-read place row other r o h reads = record {
    rows = read-set (marks_at m) row.rows other.rows place r o h.rows reads;
    causes = ap (λ causes. with_causes causes o.causes) h.causes ∙ ap (with_causes row.causes) reads.causes;
  }

  kept-read : (row other : FromRow) (kept : Option Out) → IsRead m row other
      → AllZip (IsRead m) (option_to_list (option_map (λ causes. record row { causes = causes }) kept)) (option_to_list (option_map (λ causes. record other { causes = causes }) kept))
  kept-read row other None h = tt
  kept-read row other (Some causes) h = (record { rows = h.rows; causes = refl }, tt)

  sifted-read : (conjuncts : List BoundExpr) (row other : FromRow) → IsRead m row other → sifted (map (erased m) conjuncts) (in_row env row) row.causes ≡ sifted conjuncts (in_row env other) other.causes
  sifted-read conjuncts row other h =
      sifted-erased m (in_row env row) other.rows (λ item. read-at (marks_at m) row.rows other.rows item h.rows) conjuncts row.causes ∙ ap (sifted conjuncts (in_row env other)) (sym h.causes)

  passed-read : (conjuncts : List BoundExpr) (row other : FromRow) → IsRead m row other → AllZip (IsRead m) (passed env (map (erased m) conjuncts) row) (passed env conjuncts other)
  passed-read conjuncts row other h =
      let kept = sifted conjuncts (in_row env other) other.causes in
      subst (λ k. AllZip (IsRead m) (option_to_list (option_map (λ causes. record row { causes = causes }) k)) (passed env conjuncts other)) (sym (sifted-read conjuncts row other h)) (kept-read row other kept h)

  or_alone-read : (row other : FromRow) (pairs others : List FromRow) → IsRead m row other → AllZip (IsRead m) pairs others → AllZip (IsRead m) (or_alone row pairs) (or_alone other others)
  or_alone-read row other [] [] h k = (h, tt)
  or_alone-read row other (p ∷ pairs) (q ∷ others) h k = k
  or_alone-read row other [] (q ∷ others) h k = absurd k
  or_alone-read row other (p ∷ pairs) [] h k = absurd k

  joined-read : (place : ℕ) (rows others : List ItemRow) (j : Join) (row other : FromRow) → AllZip (ReadsAs (marks_at m place)) rows others → IsRead m row other → AllZip (IsRead m) (joined env place rows (erased_join m j) row) (joined env place others j other)
  joined-read place rows others Inner row other all h =
      zip-map (ReadsAs (marks_at m place)) (IsRead m) (with_item place row) (with_item place other) (λ r o reads. with_item-read place row other r o h reads) rows others all
  joined-read place rows others (Left ons) row other all h =
      let pairs : ItemRow → List FromRow = λ r. passed env (map (erased m) ons) (with_item place row r) in
      let pairs_seen : ItemRow → List FromRow = λ o. passed env ons (with_item place other o) in
      or_alone-read row other (flat_map pairs rows) (flat_map pairs_seen others) h
      (zip-flat (ReadsAs (marks_at m place)) (IsRead m) pairs pairs_seen (λ r o reads. passed-read ons (with_item place row r) (with_item place other o) (with_item-read place row other r o h reads)) rows others all)

  product_from-read : (place : ℕ) (stored others : List JoinedItem) (row other : FromRow) → StandFrom m place stored others → IsRead m row other → AllZip (IsRead m) (product_from env place stored row) (product_from env place others other)
  product_from-read place [] [] row other all h = (h, tt)
  product_from-read place (s ∷ stored) (o ∷ others) row other all h =
      let stands = all.0 in
      zip-flat (IsRead m) (IsRead m) (product_from env (suc place) stored) (product_from env (suc place) others) (λ p q k. product_from-read (suc place) stored others p q all.1 k) (joined env place s.rows s.join row) (joined env place o.rows o.join other)
      (subst (λ j. AllZip (IsRead m) (joined env place s.rows j row) (joined env place o.rows o.join other)) (sym stands.join) (joined-read place s.rows o.rows o.join row other stands.rows h))
  product_from-read place [] (o ∷ others) row other all h = absurd all
  product_from-read place (s ∷ stored) [] row other all h = absurd all

  same-length : (place : ℕ) (stored others : List JoinedItem) → StandFrom m place stored others → length stored ≡ length others
  same-length place [] [] all = refl
  same-length place (s ∷ stored) (o ∷ others) all = ap suc (same-length (suc place) stored others all.1)
  same-length place [] (o ∷ others) all = absurd all
  same-length place (s ∷ stored) [] all = absurd all

  product-read : (stored others : List JoinedItem) → StandFrom m 0 stored others → AllZip (IsRead m) (product env stored) (product env others)
  product-read stored others all =
      product_from-read 0 stored others (no_rows (length stored)) (no_rows (length others)) all
      (subst (λ width. IsRead m (no_rows (length stored)) (no_rows width)) (same-length 0 stored others all) (record { rows = none-read (marks_at m) (length stored); causes = refl }))

  items-read : (conjuncts results : List BoundExpr) (row other : FromRow) → IsRead m row other
      → items_at (map (erased m) conjuncts) (map (erased m) results) (in_row env row) row.causes ≡ items_at conjuncts results (in_row env other) other.causes
  items-read conjuncts results row other h =
      items_at-erased m (in_row env row) other.rows (λ item. read-at (marks_at m) row.rows other.rows item h.rows) conjuncts results row.causes
      ∙ ap (items_at conjuncts results (in_row env other)) (sym h.causes)

  pub product-erased : (conjuncts results : List BoundExpr) (stored others : List JoinedItem) → StandFrom m 0 stored others
      → flat_map (λ (row : FromRow). items_at (map (erased m) conjuncts) (map (erased m) results) (in_row env row) row.causes) (product env stored)
      ≡ flat_map (λ (row : FromRow). items_at conjuncts results (in_row env row) row.causes) (product env others)
  product-erased conjuncts results stored others all =
      zip-same (IsRead m) (λ (row : FromRow). items_at (map (erased m) conjuncts) (map (erased m) results) (in_row env row) row.causes) (λ (row : FromRow). items_at conjuncts results (in_row env row) row.causes)
      (items-read conjuncts results) (product env stored) (product env others) (product-read stored others all)

-- ---- the items of a FROM

-- an item has the rows of its table as they are stored, and its ON as that is tested over them; each row has a place for the column that is the rowid
pub record IsStored (lists : Lists) (m : Marks) (i : FromItem) (s : JoinedItem) : Type 0 where
  pub rows : s.rows ≡ map table_row (rows_at lists i.table.number)
  pub join : s.join ≡ erased_join m i.join
  pub places : All (HasPlace i.table.rowid) (rows_at lists i.table.number)

module _ (ctx : Context) (m : Marks) where
  rows-read : (ignored : List (Option ℕ)) (column : Option ℕ) (rows : List StoredRow) → All (HasPlace column) rows
      → AllZip (ReadsAs (record { ignored = ignored; rowid = column })) (map table_row rows) (map (λ r. ignoring ignored (table_row (seen column r))) rows)
  rows-read ignored column [] all = tt
  rows-read ignored column (r ∷ rows) all = (seen-reads ignored column r (All-head (HasPlace column) r rows all), rows-read ignored column rows (All-tail (HasPlace column) r rows all))

  item-stands : (i : FromItem) (s : JoinedItem) → IsStored ctx.state.world.tables m i s → StandsAs m (record { ignored = i.ignored; rowid = i.table.rowid }) s (joined_item ctx i)
  item-stands i s h = record {
    rows = subst (λ rows. AllZip (ReadsAs (record { ignored = i.ignored; rowid = i.table.rowid })) rows (joined_item ctx i).rows) (sym h.rows) (rows-read i.ignored i.table.rowid (rows_at ctx.state.world.tables i.table.number) h.places);
    join = h.join;
  }

  -- from a place on these are the marks
  items-stand : (place : ℕ) (from : List FromItem) (stored : List JoinedItem) → ((item : ℕ) → marks_at m (item + place) ≡ marks_at (marks_in from) item) → AllZip (IsStored ctx.state.world.tables m) from stored
      → StandFrom m place stored (map (joined_item ctx) from)
  items-stand place [] [] marks all = tt
  items-stand place (i ∷ from) (s ∷ stored) marks all =
      let here : marks_at m place ≡ record { ignored = i.ignored; rowid = i.table.rowid } = ap (marks_at m) (sym (zero-add place)) ∙ marks 0 in
      let further : (item : ℕ) → marks_at m (item + suc place) ≡ marks_at (marks_in from) item = λ item. ap (marks_at m) (let moved : item + suc place ≡ suc item + place = omega arith in moved) ∙ marks (suc item) in
      (subst (λ k. StandsAs m k s (joined_item ctx i)) (sym here) (item-stands i s all.0), items-stand (suc place) from stored further all.1)
  items-stand place [] (s ∷ stored) marks all = absurd all
  items-stand place (i ∷ from) [] marks all = absurd all

-- over its rows as they are stored a FROM comes to what it means
pub from-erased : (ctx : Context) (conjuncts results : List BoundExpr) (from : List FromItem) (stored : List JoinedItem) → AllZip (IsStored ctx.state.world.tables (marks_in from)) from stored
    → flat_map (λ (row : FromRow). items_at (map (erased (marks_in from)) conjuncts) (map (erased (marks_in from)) results) (in_row (environment_at ctx []) row) row.causes) (product (environment_at ctx []) stored)
    ≡ flat_map (λ (row : FromRow). items_at conjuncts results (environment_at ctx row.rows) row.causes) (from_rows ctx from)
from-erased ctx conjuncts results from stored all =
    product-erased (marks_in from) (environment_at ctx []) conjuncts results stored (map (joined_item ctx) from)
    (items-stand ctx (marks_in from) 0 from stored (λ item. ap (marks_at (marks_in from)) (let none : item + 0 ≡ item = omega arith in none)) all)
