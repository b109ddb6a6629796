-- Where values stand in rows that have one for each column.
use Rattle.std.proofs.Common.{◌≡◌, ◌<◌, ◌+◌, ℕ, zero, suc, nat_eq, nat_lt, Bool, true, false, not, cond, List, [], ◌∷◌, drop, length, map, position, Option, Some, None, refl, ap, ◌∙◌, arith, add-one}
use Rattle.std.specs.Bool.{⊤}
use Rattle.std.specs.List.{position_or_len, range_with_len}
use Rattle.std.proofs.lemmas.Bool.{eq-eqb, le-ltb, lt-ltb, ne_eqb}
use Rattle.sql_bound.specs.Writes.{is_place, shown_places}
use Rattle.bound_tree.specs.Exprs.{BoundExpr}
use Rattle.sql_meaning.specs.Running.{columns_put, first_or}
use Rattle.sql_meaning.specs.declared.column.Column.{Column}
use Rattle.bind_stmt.specs.Plain.{placed_from}

-- so many places, from this one on
abbrev pub places_from : ℕ → ℕ → List (Option ℕ)
places_from k zero = []
places_from k (suc n) = Some k ∷ places_from (suc k) n

pub length-places_from : (k n : ℕ) → length (places_from k n) ≡ n
length-places_from k zero = refl
length-places_from k (suc n) = ap suc (length-places_from (suc k) n)

-- all columns are shown
pub all_shown : {X : Type 0} (k : ℕ) (xs : List X) → shown_places k (map (λ x. false) xs) ≡ places_from k (length xs)
all_shown k [] = refl
all_shown k (x ∷ xs) = ap (λ ps. Some k ∷ ps) (all_shown (suc k) xs)

-- ---- looking for a place

abbrev front : Option ℕ → List (Option ℕ) → ℕ
front p ps = position_or_len (is_place p) ps

front-none : (k n : ℕ) → front None (places_from k n) ≡ n
front-none k zero = refl
front-none k (suc n) = let rest = front-none (suc k) n in omega (arith, rest)

front-some : (i k n place : ℕ) → i < n → place ≡ k + i → front (Some place) (places_from k n) ≡ i
front-some i k zero place lt at = absurd (omega (arith, lt))
front-some zero k (suc n) place lt at =
    let same : nat_eq place k ≡ true = eq-eqb place k (omega (arith, at)) in
    ap (λ b. cond (not b) (1 + front (Some place) (places_from (suc k) n)) 0) same
front-some (suc i) k (suc n) place lt at =
    let other : nat_eq place k ≡ false = ne_eqb place k (λ e. omega (arith, at, e)) in
    let rest = front-some i (suc k) n place (omega (arith, lt)) (omega (arith, at)) in
    ap (λ b. cond (not b) (1 + front (Some place) (places_from (suc k) n)) 0) other ∙ omega (arith, rest)

abbrev placed : ℕ → ℕ → Option ℕ
placed i n = cond (nat_lt i n) (Some i) None

found : (p : Option ℕ) (k n i : ℕ) → front p (places_from k n) ≡ i → position (is_place p) (places_from k n) ≡ placed i n
found p k n i is = ap (λ j. placed j (length (places_from k n))) is ∙ ap (placed i) (length-places_from k n)

-- the rowid has no place
pub no_place : (k n : ℕ) → position (is_place None) (places_from k n) ≡ None
no_place k n = found None k n n (front-none k n) ∙ ap (λ b. cond b (Some n) None) (le-ltb n n (omega arith))

its-place : (i n : ℕ) → i < n → position (is_place (Some i)) (places_from 0 n) ≡ Some i
its-place i n lt = found (Some i) 0 n i (front-some i 0 n i lt (omega arith)) ∙ ap (λ b. cond b (Some i) None) (lt-ltb i n lt)

their-places : (all m n : ℕ) → m + n ≡ all → map (λ k. position (is_place (Some k)) (places_from 0 all)) (range_with_len m n) ≡ places_from m n
their-places all m zero is = refl
their-places all m (suc n) is =
    let here = its-place m all (omega (arith, is)) in
    let rest = their-places all (m + 1) n (omega (arith, is)) in
    ap (λ p. p ∷ map (λ k. position (is_place (Some k)) (places_from 0 all)) (range_with_len (m + 1) n)) here
    ∙ ap (λ ps. Some m ∷ ps) (rest ∙ ap (λ j. places_from j n) (add-one m))

-- each column has its place
pub all_placed : (n : ℕ) → map (λ k. position (is_place (Some k)) (places_from 0 n)) (range_with_len 0 n) ≡ places_from 0 n
all_placed n = their-places n 0 n (omega arith)

-- ---- what columns take of which nothing is said

abbrev pub AreNone : List (Option BoundExpr) → Type 0
AreNone [] = ⊤
AreNone (d ∷ ds) = (d ≡ None) × AreNone ds

abbrev pub AreUnset : List Bool → Type 0
AreUnset [] = ⊤
AreUnset (m ∷ ms) = (m ≡ false) × AreUnset ms

none-first : (ds : List (Option BoundExpr)) → AreNone ds → (first_or None ds ≡ None) × AreNone (drop 1 ds)
none-first [] none = (refl, tt)
none-first (d ∷ ds) none = none

unset-first : (ms : List Bool) → AreUnset ms → (first_or false ms ≡ false) × AreUnset (drop 1 ms)
unset-first [] unset = (refl, tt)
unset-first (m ∷ ms) unset = unset

pub all_put : (k : ℕ) (columns : List Column) (ds : List (Option BoundExpr)) (ms : List Bool) → AreNone ds → AreUnset ms → columns_put columns (places_from k (length columns)) ds ms ≡ placed_from k columns
all_put k [] ds ms none unset = refl
all_put k (c ∷ columns) ds ms none unset =
    let d = none-first ds none in
    let m = unset-first ms unset in
    let rest = columns_put columns (places_from (suc k) (length columns)) (drop 1 ds) (drop 1 ms) in
    ap (λ x. record { affinity = c.affinity; place = Some k; default = x; not_null = first_or false ms } ∷ rest) d.0
    ∙ ap (λ x. record { affinity = c.affinity; place = Some k; default = None; not_null = x } ∷ rest) m.0
    ∙ ap (λ cs. record { affinity = c.affinity; place = Some k; default = None; not_null = false } ∷ cs) (all_put (suc k) columns (drop 1 ds) (drop 1 ms) d.1 m.1)
