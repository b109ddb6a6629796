-- What a walk between two fronts finds.
use Rattle.std.proofs.Common.{◌≡◌, ℕ, zero, suc, ◌+◌, ◌<◌, ◌≤◌, List, [], ◌∷◌, ◌++◌, Bool, true, false, not, cond, Some, None, Option, ℤ, ◌<ℤ◌, length, nat_lt, drop, map, if◌then◌else◌, refl, sym, ap, ◌∙◌, subst, arith, add-one, append_assoc, append-nil}
use Rattle.std.specs.Prelude.{slice_get}
use Rattle.std.proofs.lemmas.Bool.Decides.{nat_tests}
use Rattle.std.proofs.lemmas.Cmp.{int_cmp_total, nat_list_cmp_total}
use Rattle.std.proofs.lemmas.Int.{ints}
use Rattle.std.proofs.lemmas.List.{drop_all}
use Rattle.std.proofs.lemmas.List.Sorted.{ranks_by}
use Rattle.std.specs.Cmp.{IsStrictWeakOrder}
use Rattle.std.specs.List.{AllByRecursion, cons_option, filter, filter_map}
use Rattle.std.specs.List.Sorted.{IsPermutation, IsSorted}
use Rattle.std.specs.Ordering.{int_cmp, is_lt}
use Rattle.std.specs.declared.cmp.Ordering.{Ordering}
use Rattle.std.specs.declared.cmp.Ordering.TheVariants.{Less, Equal, Greater}
use Rattle.eng_cursor.specs.Places.{Place, next_of, row_at, sought, within}
use Rattle.eng_cursor.specs.declared.cursor.How.TheVariants.{Ge}
use Rattle.eng_cursor.proofs.PlaceLaws.{sought_ge}
use Rattle.eng_tree.specs.Map.{Bytes, Pair, order, by_order, place, IsAscending}
use Rattle.eng_value.proofs.Arranging.{all_more, arranged-stays, arranged-to, chain-filter}
use Rattle.eng_value.proofs.Shuffling.{all-shuffled, filter-shuffled, shuffled_back, shuffled_is}
use Rattle.eng_value.proofs.Sorting.{arranged_from_sorted}
use Rattle.eng_value.specs.Arrangements.{Ascends, Chain, Shuffled, onward}
use Rattle.eng_value.specs.StoredRows as rows
use Rattle.eng_value.specs.StoredRows.{StoredRow}
use Rattle.eng_index.specs.declared.fronts.Fronts.{Fronts}
use Rattle.eng_index.specs.declared.key_term.KeyTerm.{KeyTerm}
use Rattle.eng_index.specs.declared.range.Range.{Range}
use Rattle.eng_index.specs.Keys.{found, is_within}
use Rattle.eng_index.specs.Stored.{Indexed, IsIndexOf, IsSoundEntry, entry, rowid_in, rowids_of}
use Rattle.eng_index.specs.Fronts.{BoundsRange, and_behind, lies_in, pairs_at, rowid_below, rowids_below}
use Rattle.eng_index.proofs.EntryLaws.{rowid_in-entry}
use Rattle.eng_index.proofs.Keeping.{chain_rows, leads}
use Rattle.eng_index.proofs.Lists.{all-filter, all-map, filter-agree, filter-all, filter-map, filter-none, filter-twice, filter_map-shuffled, shuffled_from_permutation}

-- ---- a step of the walk

get_none : (ps : List Pair) (at : ℕ) → slice_get ps at ≡ None → drop at ps ≡ []
get_none [] zero is = refl
get_none [] (suc at) is = refl
get_none (p ∷ ps) zero is = absurd (cc)
get_none (p ∷ ps) (suc at) is = get_none ps at is

get_some : (ps : List Pair) (at : ℕ) (p : Pair) → slice_get ps at ≡ Some p → drop at ps ≡ p ∷ drop (suc at) ps
get_some [] at p is = absurd (cc)
get_some (q ∷ ps) zero p is = let same : q ≡ p = cc in ap (λ x. x ∷ ps) same
get_some (q ∷ ps) (suc at) p is = get_some ps at p is

past : (ps : List Pair) (at : ℕ) → nat_lt at (length ps) ≡ false → length ps ≤ at
past ps at is = grind (arith, nat_tests)

pub pairs_at-within : (ps : List Pair) (at : ℕ) → pairs_at ps (within ps (Some at)) ≡ drop at ps
pairs_at-within ps at = by (nat_lt at (length ps)) refl
  where
    by : (b : Bool) → nat_lt at (length ps) ≡ b → pairs_at ps (if b then Some at else None) ≡ drop at ps
    by true is = refl
    by false is = sym (drop_all at ps (past ps at is))

-- the pair that a cursor is on, and those behind it
pub on_pair : (ps : List Pair) (at : Place) (p : Pair) → row_at ps at ≡ Some p → pairs_at ps at ≡ p ∷ pairs_at ps (next_of ps at)
on_pair ps None p is = absurd (cc)
on_pair ps (Some at) p is =
    get_some ps at p is ∙ ap (λ l. p ∷ l) (sym (ap (λ n. drop n ps) (add-one at)) ∙ sym (pairs_at-within ps (at + 1)))

pub one_more : (to : Bytes) (ps : List Pair) (at : Place) (n : ℤ) → rowid_below to (row_at ps at) ≡ Some n → (rowids_below to (pairs_at ps at) ≡ n ∷ rowids_below to (pairs_at ps (next_of ps at))) × (length (pairs_at ps (next_of ps at)) < length (pairs_at ps at))
one_more to ps at n is = by (row_at ps at) refl is
  where
    by : (o : Option Pair) → row_at ps at ≡ o → rowid_below to o ≡ Some n → (rowids_below to (pairs_at ps at) ≡ n ∷ rowids_below to (pairs_at ps (next_of ps at))) × (length (pairs_at ps (next_of ps at)) < length (pairs_at ps at))
    by None o_is e = absurd (cc)
    by (Some p) o_is e =
        let here = on_pair ps at p o_is in
        let longer : length (pairs_at ps at) ≡ suc (length (pairs_at ps (next_of ps at))) = ap length here in
        (ap (rowids_below to) here ∙ ap (λ o. and_behind o (rowids_below to (pairs_at ps (next_of ps at)))) e, omega arith)

pub none_more : (to : Bytes) (ps : List Pair) (at : Place) → rowid_below to (row_at ps at) ≡ None → rowids_below to (pairs_at ps at) ≡ []
none_more to ps None is = refl
none_more to ps (Some at) is = by (slice_get ps at) refl is
  where
    by : (o : Option Pair) → slice_get ps at ≡ o → rowid_below to o ≡ None → rowids_below to (drop at ps) ≡ []
    by None o_is e = ap (rowids_below to) (get_none ps at o_is)
    by (Some p) o_is e =
        ap (rowids_below to) (get_some ps at p o_is) ∙ ap (λ o. and_behind o (rowids_below to (drop (suc at) ps))) e

-- the rowids so far, and those that are left
abbrev pub IsFoundSoFar : Bytes → Bytes → List Pair → List ℤ → Place → Type 0
IsFoundSoFar from to ps rowids at = rowids ++ rowids_below to (pairs_at ps at) ≡ rowids_below to (pairs_at ps (sought Ge from ps))

pub found_more : (from to : Bytes) (ps : List Pair) (rowids more : List ℤ) (at next : Place) (n : ℤ) → IsFoundSoFar from to ps rowids at → rowid_below to (row_at ps at) ≡ Some n → more ≡ rowids ++ n ∷ [] → next ≡ next_of ps at → IsFoundSoFar from to ps more next
found_more from to ps rowids more at next n so_far is more_is next_is =
    ap (λ l. l ++ rowids_below to (pairs_at ps next)) more_is
    ∙ append_assoc rowids (n ∷ []) (rowids_below to (pairs_at ps next))
    ∙ ap (λ x. rowids ++ n ∷ rowids_below to (pairs_at ps x)) next_is
    ∙ ap (λ l. rowids ++ l) (sym (one_more to ps at n is).0)
    ∙ so_far

pub found_all : (from to : Bytes) (ps : List Pair) (rowids : List ℤ) (at : Place) → IsFoundSoFar from to ps rowids at → rowid_below to (row_at ps at) ≡ None → rowids ≡ rowids_below to (pairs_at ps (sought Ge from ps))
found_all from to ps rowids at so_far is =
    sym (append-nil rowids) ∙ ap (λ l. rowids ++ l) (sym (none_more to ps at is)) ∙ so_far

-- ---- the walk as a filter

abbrev pub IsBefore : Pair → Pair → Type 0
IsBefore p q = order p.0 q.0 ≡ Less

pub chain_pairs : (ps : List Pair) → IsAscending ps → Chain IsBefore ps
chain_pairs [] up = tt
chain_pairs (p ∷ ps) up = (leads p.0 ps up.0 up.1, chain_pairs ps up.1)

abbrev is_from_key : Bytes → Pair → Bool
is_from_key from p = not (is_lt (order p.0 from))

abbrev is_below_key : Bytes → Pair → Bool
is_below_key to p = is_lt (order p.0 to)

-- behind a pair that isn't below a key none is
above_too : (k : Bytes) (p q : Pair) → is_lt (order p.0 k) ≡ false → IsBefore p q → is_lt (order q.0 k) ≡ false
above_too k p q is low = by (order q.0 k) refl
  where
    by : (o : Ordering) → order q.0 k ≡ o → is_lt o ≡ false
    by Less less = let lt = nat_list_cmp_total.trans p.0 q.0 k low less in ap is_lt (sym lt) ∙ is
    by Equal same = refl
    by Greater more = refl

pub all_above : (k : Bytes) (p : Pair) (ps : List Pair) → is_lt (order p.0 k) ≡ false → AllByRecursion (IsBefore p) ps → AllByRecursion (λ (q : Pair). is_lt (order q.0 k) ≡ false) ps
all_above k p ps is all = all_more (IsBefore p) (λ (q : Pair). is_lt (order q.0 k) ≡ false) (λ q low. above_too k p q is low) ps all

drop_place : (k : Bytes) (ps : List Pair) → Chain IsBefore ps → drop (place k ps) ps ≡ filter (is_from_key k) ps
drop_place k [] up = refl
drop_place k (p ∷ ps) up = by (order p.0 k) refl (drop_place k ps up.1)
  where
    all_kept : is_lt (order p.0 k) ≡ false → p ∷ ps ≡ p ∷ filter (is_from_key k) ps
    all_kept is =
        ap (λ l. p ∷ l) (sym (filter-all (is_from_key k) ps (all_more (λ (q : Pair). is_lt (order q.0 k) ≡ false) (λ q. is_from_key k q ≡ true) (λ q h. ap not h) ps (all_above k p ps is up.0))))

    by : (o : Ordering) → order p.0 k ≡ o → drop (place k ps) ps ≡ filter (is_from_key k) ps → drop (by_order o (place k ps + 1) 0 0) (p ∷ ps) ≡ cond (not (is_lt o)) (p ∷ filter (is_from_key k) ps) (filter (is_from_key k) ps)
    by Less is rest = ap (λ n. drop n (p ∷ ps)) (add-one (place k ps)) ∙ rest
    by Equal is rest = all_kept (ap is_lt is)
    by Greater is rest = all_kept (ap is_lt is)

pub from_place : (from : Bytes) (ps : List Pair) → IsAscending ps → pairs_at ps (sought Ge from ps) ≡ filter (is_from_key from) ps
from_place from ps up =
    ap (pairs_at ps) (sought_ge from ps) ∙ pairs_at-within ps (place from ps) ∙ drop_place from ps (chain_pairs ps up)

abbrev in_pair : Pair → Option ℤ
in_pair p = rowid_in p.0

abbrev pub lies : Fronts → Pair → Bool
lies fronts p = lies_in (Some fronts) p.0

abbrev HasRowid : Pair → Type 0
HasRowid p = (n : ℤ) × (rowid_in p.0 ≡ Some n)

up_to_key : (to : Bytes) (ps : List Pair) → Chain IsBefore ps → AllByRecursion HasRowid ps → rowids_below to ps ≡ filter_map in_pair (filter (is_below_key to) ps)
up_to_key to [] up all = refl
up_to_key to (p ∷ ps) up all = by (is_lt (order p.0 to)) refl (up_to_key to ps up.1 all.1)
  where
    by : (b : Bool) → is_lt (order p.0 to) ≡ b → rowids_below to ps ≡ filter_map in_pair (filter (is_below_key to) ps) → and_behind (if b then rowid_in p.0 else None) (rowids_below to ps) ≡ filter_map in_pair (cond b (p ∷ filter (is_below_key to) ps) (filter (is_below_key to) ps))
    by true is rest =
        ap (λ o. and_behind o (rowids_below to ps)) all.0.1
        ∙ ap (λ l. all.0.0 ∷ l) rest
        ∙ sym (ap (λ o. cons_option o (filter_map in_pair (filter (is_below_key to) ps))) all.0.1)
    by false is rest =
        sym (ap (filter_map in_pair) (filter-none (is_below_key to) ps (all_above to p ps is up.0)))

walk_between : (fronts : Fronts) (ps : List Pair) → IsAscending ps → AllByRecursion HasRowid ps → rowids_below fronts.to (pairs_at ps (sought Ge fronts.from ps)) ≡ filter_map in_pair (filter (lies fronts) ps)
walk_between fronts ps up all =
    ap (rowids_below fronts.to) (from_place fronts.from ps up)
    ∙ up_to_key fronts.to (filter (is_from_key fronts.from) ps) (chain-filter IsBefore (is_from_key fronts.from) ps (chain_pairs ps up)) (all-filter HasRowid (is_from_key fronts.from) ps all)
    ∙ ap (filter_map in_pair) (filter-twice (is_from_key fronts.from) (is_below_key fronts.to) ps)

-- ---- the rows that are found

rowids_of-entries : (terms : List KeyTerm) (rows : List StoredRow) → AllByRecursion (IsSoundEntry terms) rows → filter_map in_pair (map (entry terms) rows) ≡ rowids_of rows
rowids_of-entries terms [] all = refl
rowids_of-entries terms (r ∷ rows) all =
    ap (λ o. cons_option o (filter_map in_pair (map (entry terms) rows))) (rowid_in-entry terms r all.0)
    ∙ ap (λ l. r.rowid ∷ l) (rowids_of-entries terms rows all.1)

abbrev is_found : List KeyTerm → Range → StoredRow → Bool
is_found terms range r = is_within terms range.equal range.lower range.upper r

-- the entries of the rows that are found are those that lie between the fronts
pub entries_between : (terms : List KeyTerm) (range : Range) (fronts : Fronts) → BoundsRange terms range (Some fronts) → (rows : List StoredRow) → AllByRecursion (IsSoundEntry terms) rows → filter (lies fronts) (map (entry terms) rows) ≡ map (entry terms) (found terms range rows)
entries_between terms range fronts bounds rows sound =
    filter-map (entry terms) (lies fronts) rows
    ∙ ap (map (entry terms)) (filter-agree (λ r. lies fronts (entry terms r)) (is_found terms range) rows (all_more (IsSoundEntry terms) (λ r. lies fronts (entry terms r) ≡ is_found terms range r) (λ r h. bounds r h) rows sound))

pub found_between : (index : Indexed) (range : Range) (fronts : Fronts) → BoundsRange index.terms range (Some fronts) → (rows : List StoredRow) → IsIndexOf index rows → Shuffled (rowids_of (found index.terms range rows)) (rowids_below fronts.to (pairs_at index.pairs (sought Ge fronts.from index.pairs)))
found_between index range fronts bounds rows is =
    onward (shuffled_is (rowids_of (found index.terms range rows)) (filter_map in_pair (filter (lies fronts) (map (entry index.terms) rows))) (sym of_entries)) (onward (filter_map-shuffled in_pair (filter-shuffled (lies fronts) is.entries)) (shuffled_is (filter_map in_pair (filter (lies fronts) index.pairs)) (rowids_below fronts.to (pairs_at index.pairs (sought Ge fronts.from index.pairs))) (sym (walk_between fronts index.pairs is.order have_rowids))))
  where
    have_rowids : AllByRecursion HasRowid index.pairs
    have_rowids =
        all-shuffled HasRowid is.entries (all-map (entry index.terms) HasRowid rows (all_more (IsSoundEntry index.terms) (λ r. HasRowid (entry index.terms r)) (λ r sound. (r.rowid, rowid_in-entry index.terms r sound)) rows is.sound))

    of_entries : filter_map in_pair (filter (lies fronts) (map (entry index.terms) rows)) ≡ rowids_of (found index.terms range rows)
    of_entries =
        ap (filter_map in_pair) (entries_between index.terms range fronts bounds rows is.sound) ∙ rowids_of-entries index.terms (found index.terms range rows) (all-filter (IsSoundEntry index.terms) (is_found index.terms range) rows is.sound)

-- without fronts there is none
pub nothing_found : (index : Indexed) (range : Range) → BoundsRange index.terms range None → (rows : List StoredRow) → IsIndexOf index rows → found index.terms range rows ≡ []
nothing_found index range bounds rows is =
    filter-none (is_found index.terms range) rows (all_more (IsSoundEntry index.terms) (λ r. is_found index.terms range r ≡ false) (λ r sound. sym (bounds r sound)) rows is.sound)

pub none_found : (index : Indexed) (range : Range) → BoundsRange index.terms range None → (rows : List StoredRow) → IsIndexOf index rows → Shuffled (rowids_of (found index.terms range rows)) []
none_found index range bounds rows is =
    shuffled_is (rowids_of (found index.terms range rows)) [] (ap rowids_of (nothing_found index range bounds rows is))

-- ---- sorted

abbrev comes_before : ℤ → ℤ → Bool
comes_before a b = is_lt (int_cmp a b)

less : (a b : ℤ) → a <ℤ b → comes_before a b ≡ true
less a b lt = grind (arith, ints)

ascending_rowids : (all : List StoredRow) → Chain (λ (a b : StoredRow). a.rowid <ℤ b.rowid) all → Ascends comes_before (rowids_of all)
ascending_rowids [] up = tt
ascending_rowids (r ∷ all) up =
    (all-map (λ (x : StoredRow). x.rowid) (λ n. comes_before r.rowid n ≡ true) all (all_more (λ (x : StoredRow). r.rowid <ℤ x.rowid) (λ (x : StoredRow). comes_before r.rowid x.rowid ≡ true) (λ x lt. less r.rowid x.rowid lt) all up.0), ascending_rowids all up.1)

pub sorted_found : (terms : List KeyTerm) (range : Range) (all : List StoredRow) (found_rowids sorted : List ℤ) → rows.IsAscending all → Shuffled (rowids_of (found terms range all)) found_rowids → IsPermutation found_rowids sorted → IsSorted int_cmp sorted → sorted ≡ rowids_of (found terms range all)
sorted_found terms range all found_rowids sorted up s moved in_order =
    let weak : IsStrictWeakOrder comes_before = ranks_by int_cmp_total (λ n. n) in
    sym (arranged-stays comes_before sorted (arranged_from_sorted comes_before weak sorted in_order))
    ∙ arranged-to comes_before weak sorted (rowids_of (found terms range all)) (shuffled_back (onward s (shuffled_from_permutation found_rowids sorted moved))) (ascending_rowids (found terms range all) (chain-filter (λ (a b : StoredRow). a.rowid <ℤ b.rowid) (is_within terms range.equal range.lower range.upper) all (chain_rows all up)))

-- ---- as it is written

pub finds_none : (terms those : List KeyTerm) (pairs : List Pair) (index : Indexed) (range : Range) (fronts : Option Fronts) (rowids : List ℤ) → record { terms = terms; pairs = pairs } ≡ index → those ≡ terms → BoundsRange those range fronts → fronts ≡ None → rowids ≡ [] → (rows : List StoredRow) → IsIndexOf index rows → Shuffled (rowids_of (found index.terms range rows)) rowids
finds_none terms those pairs index range fronts rowids view same bounds none empty_is =
    let bounds' = subst (λ f. BoundsRange terms range f) none (subst (λ ts. BoundsRange ts range fronts) same bounds) in
    subst (λ i. (rows : List StoredRow) → IsIndexOf i rows → Shuffled (rowids_of (found i.terms range rows)) rowids) view (λ rows is. subst (Shuffled (rowids_of (found terms range rows))) (sym empty_is) (none_found (record { terms = terms; pairs = pairs }) range bounds' rows is))

pub finds_between : (terms those : List KeyTerm) (pairs : List Pair) (index : Indexed) (range : Range) (fronts : Option Fronts) (between : Fronts) → record { terms = terms; pairs = pairs } ≡ index → those ≡ terms → BoundsRange those range fronts → fronts ≡ Some between → (rowids : List ℤ) → rowids ≡ rowids_below between.to (pairs_at pairs (sought Ge between.from pairs)) → (rows : List StoredRow) → IsIndexOf index rows → Shuffled (rowids_of (found index.terms range rows)) rowids
finds_between terms those pairs index range fronts between view same bounds some rowids rowids_are =
    let bounds' = subst (λ f. BoundsRange terms range f) some (subst (λ ts. BoundsRange ts range fronts) same bounds) in
    subst (λ i. (rows : List StoredRow) → IsIndexOf i rows → Shuffled (rowids_of (found i.terms range rows)) rowids) view (λ rows is. subst (Shuffled (rowids_of (found terms range rows))) (sym rowids_are) (found_between (record { terms = terms; pairs = pairs }) range between bounds' rows is))
