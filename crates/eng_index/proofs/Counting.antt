-- How many entries lie between two fronts.
use Rattle.std.proofs.Common.{◌≡◌, ℕ, suc, ◌+◌, ◌-◌, List, [], ◌∷◌, Bool, true, false, not, ◌&&◌, cond, Some, None, Option, length, refl, sym, ap, ◌∙◌, subst, arith}
use Rattle.std.specs.List.{AllByRecursion}
use Rattle.std.specs.Ordering.{is_lt}
use Rattle.std.specs.declared.cmp.Ordering.{Ordering}
use Rattle.std.specs.declared.cmp.Ordering.TheVariants.{Less, Equal, Greater}
use Rattle.std.proofs.lemmas.List.{length-map}
use Rattle.eng_tree.specs.Map.{Bytes, Pair, IsAscending, by_order, order, place}
use Rattle.eng_value.proofs.Arranging.{all_more}
use Rattle.eng_value.proofs.Shuffling.{filter-shuffled}
use Rattle.eng_value.specs.Arrangements.{Chain, Shuffled, empty, keep, swap, onward}
use Rattle.eng_value.specs.StoredRows.{StoredRow}
use Rattle.eng_index.specs.declared.fronts.Fronts.{Fronts}
use Rattle.eng_index.specs.declared.key_term.KeyTerm.{KeyTerm}
use Rattle.eng_index.specs.declared.range.Range.{Range}
use Rattle.eng_index.specs.Fronts.{BoundsRange, pairs_between}
use Rattle.eng_index.specs.Keys.{found}
use Rattle.eng_index.specs.Stored.{Indexed, IsIndexOf, entry}
use Rattle.eng_index.proofs.Lists.{filter-none}
use Rattle.eng_index.proofs.Searching.{IsBefore, all_above, chain_pairs, entries_between, lies, nothing_found}

-- ---- places

none_below : (k : Bytes) (ps : List Pair) → AllByRecursion (λ (q : Pair). is_lt (order q.0 k) ≡ false) ps → place k ps ≡ 0
none_below k [] all = refl
none_below k (p ∷ ps) all = by (order p.0 k) refl all.0
  where
    by : (o : Ordering) → order p.0 k ≡ o → is_lt o ≡ false → by_order o (place k ps + 1) 0 0 ≡ 0
    by Less is e = absurd (cc)
    by Equal is e = refl
    by Greater is e = refl

one_below : (k : Bytes) (p : Pair) (ps : List Pair) → is_lt (order p.0 k) ≡ true → place k (p ∷ ps) ≡ place k ps + 1
one_below k p ps e = by (order p.0 k) refl e
  where
    by : (o : Ordering) → order p.0 k ≡ o → is_lt o ≡ true → by_order o (place k ps + 1) 0 0 ≡ place k ps + 1
    by Less is e = refl
    by Equal is e = absurd (cc)
    by Greater is e = absurd (cc)

-- where the first is not below a key, none is
first_above : (k : Bytes) (p : Pair) (ps : List Pair) → Chain IsBefore (p ∷ ps) → is_lt (order p.0 k) ≡ false → place k (p ∷ ps) ≡ 0
first_above k p ps up e = none_below k (p ∷ ps) (e, all_above k p ps e up.0)

none_lies : (fronts : Fronts) (ps : List Pair) → AllByRecursion (λ (q : Pair). is_lt (order q.0 fronts.to) ≡ false) ps → pairs_between fronts ps ≡ []
none_lies fronts ps all =
    filter-none (lies fronts) ps (all_more (λ (q : Pair). is_lt (order q.0 fronts.to) ≡ false) (λ q. lies fronts q ≡ false) (λ q e. ap (λ b. not (is_lt (order q.0 fronts.from)) && b) e ∙ and_false (not (is_lt (order q.0 fronts.from)))) ps all)
  where
    and_false : (b : Bool) → (b && false) ≡ false
    and_false true = refl
    and_false false = refl

-- between two places stand just the pairs that lie between the fronts
apart : (fronts : Fronts) (ps : List Pair) → Chain IsBefore ps → place fronts.to ps - place fronts.from ps ≡ length (pairs_between fronts ps)
apart fronts [] up = refl
apart fronts (p ∷ ps) up = by (is_lt (order p.0 fronts.from)) (is_lt (order p.0 fronts.to)) refl refl (apart fronts ps up.1)
  where
    by : (a b : Bool) → is_lt (order p.0 fronts.from) ≡ a → is_lt (order p.0 fronts.to) ≡ b → place fronts.to ps - place fronts.from ps ≡ length (pairs_between fronts ps) → place fronts.to (p ∷ ps) - place fronts.from (p ∷ ps) ≡ length (cond (not a && b) (p ∷ pairs_between fronts ps) (pairs_between fronts ps))
    by true true low e rest =
        let from = one_below fronts.from p ps low in
        let to = one_below fronts.to p ps e in
        omega arith
    by false true low e rest =
        let above = all_above fronts.from p ps low up.0 in
        let from = first_above fronts.from p ps up low in
        let behind = none_below fronts.from ps above in
        let to = one_below fronts.to p ps e in
        omega arith
    by true false low e rest =
        let to = first_above fronts.to p ps up e in
        let none : length (pairs_between fronts ps) ≡ 0 = ap length (none_lies fronts ps (all_above fronts.to p ps e up.0)) in
        omega arith
    by false false low e rest =
        let to = first_above fronts.to p ps up e in
        let none : length (pairs_between fronts ps) ≡ 0 = ap length (none_lies fronts ps (all_above fronts.to p ps e up.0)) in
        omega arith

pub places_apart : (fronts : Fronts) (ps : List Pair) → IsAscending ps → place fronts.to ps - place fronts.from ps ≡ length (pairs_between fronts ps)
places_apart fronts ps up = apart fronts ps (chain_pairs ps up)

-- ---- rows

length-shuffled : {X : Type 0} {xs ys : List X} → Shuffled xs ys → length xs ≡ length ys
length-shuffled empty = refl
length-shuffled (keep x s) = ap (λ n. suc n) (length-shuffled s)
length-shuffled (swap x y xs) = refl
length-shuffled (onward s t) = length-shuffled s ∙ length-shuffled t

pub count_found : (index : Indexed) (range : Range) (fronts : Fronts) → BoundsRange index.terms range (Some fronts) → (rows : List StoredRow) → IsIndexOf index rows → length (pairs_between fronts index.pairs) ≡ length (found index.terms range rows)
count_found index range fronts bounds rows is =
    sym (length-shuffled (filter-shuffled (lies fronts) is.entries))
    ∙ ap length (entries_between index.terms range fronts bounds rows is.sound)
    ∙ length-map (found index.terms range rows) (entry index.terms)

-- ---- as it is written

pub counts_none : (terms those : List KeyTerm) (pairs : List Pair) (index : Indexed) (range : Range) (fronts : Option Fronts) → record { terms = terms; pairs = pairs } ≡ index → those ≡ terms → BoundsRange those range fronts → fronts ≡ None → (rows : List StoredRow) → IsIndexOf index rows → 0 ≡ length (found index.terms range rows)
counts_none terms those pairs index range fronts view same bounds none =
    let bounds' = subst (λ f. BoundsRange terms range f) none (subst (λ ts. BoundsRange ts range fronts) same bounds) in
    subst (λ i. (rows : List StoredRow) → IsIndexOf i rows → 0 ≡ length (found i.terms range rows)) view (λ rows is. sym (ap length (nothing_found (record { terms = terms; pairs = pairs }) range bounds' rows is)))

pub counts_between : (terms those : List KeyTerm) (pairs : List Pair) (index : Indexed) (range : Range) (fronts : Option Fronts) (between : Fronts) (count : ℕ) → record { terms = terms; pairs = pairs } ≡ index → those ≡ terms → BoundsRange those range fronts → fronts ≡ Some between → count ≡ length (pairs_between between pairs) → (rows : List StoredRow) → IsIndexOf index rows → count ≡ length (found index.terms range rows)
counts_between terms those pairs index range fronts between count view same bounds some count_is =
    let bounds' = subst (λ f. BoundsRange terms range f) some (subst (λ ts. BoundsRange ts range fronts) same bounds) in
    subst (λ i. (rows : List StoredRow) → IsIndexOf i rows → count ≡ length (found i.terms range rows)) view (λ rows is. count_is ∙ count_found (record { terms = terms; pairs = pairs }) range between bounds' rows is)
