-- Rows that are doubles, by neighbours in the tree.
use Rattle.std.proofs.Common.{◌≡◌, ℕ, zero, suc, ◌+◌, ◌-◌, ◌<◌, ◌≤◌, List, [], ◌∷◌, ◌++◌, Bool, true, false, not, ◌==◌, ◌&&◌, ◌||◌, length, take, drop, map, ◌⊎◌, inl, inr, ⊎_elim, refl, sym, ap, ap₂, ◌∙◌, subst, arith, length-append}
use Rattle.std.specs.Prelude.{slice_get}
use Rattle.std.proofs.lemmas.Cmp.{nat_list_cmp_total}
use Rattle.std.proofs.lemmas.List.{length-map}
use Rattle.std.proofs.lemmas.List.{drop_all}
use Rattle.std.specs.List.{AllByRecursion, list_any}
use Rattle.std.specs.Ordering.{int_cmp, is_eq, ordering_then}
use Rattle.std.specs.declared.cmp.Ordering.{Ordering}
use Rattle.std.specs.declared.cmp.Ordering.TheVariants.{Less, Equal, Greater}
use Rattle.eng_key.specs.Rowids.{rowid_key}
use Rattle.eng_key.specs.RowKeys.{IsSoundRow, keyed_row, row_cmp}
use Rattle.eng_key.specs.declared.key_part.KeyPart.{KeyPart}
use Rattle.eng_key.proofs.RowKeyLaws.{keeps_order}
use Rattle.eng_key.proofs.RowidLaws.{length-rowid_key}
use Rattle.eng_tree.specs.Map.{Pair, order}
use Rattle.eng_tree.proofs.Laws.{same_key}
use Rattle.eng_value.specs.Collations.{compare}
use Rattle.eng_value.specs.StoredRows.{StoredRow}
use Rattle.eng_value.specs.Arrangements.{Chain, Shuffled, empty, keep, swap, onward}
use Rattle.eng_value.specs.declared.value.Value.{Value}
use Rattle.eng_value.specs.declared.value.Value.TheVariants.{Integer}
use Rattle.eng_value.proofs.Shuffling.{all-shuffled}
use Rattle.eng_index.specs.declared.key_term.KeyTerm.{KeyTerm}
use Rattle.eng_index.specs.Keys.{has_doubles, is_double, is_equal, key_cmp, key_values, term_cmp, term_value}
use Rattle.eng_index.specs.Stored.{Indexed, IsIndexOf, IsSoundEntry, entry, entry_key, entry_values, is_null, mark_of, rowid_part, term_part}
use Rattle.eng_index.specs.Doubles.{are_both, are_doubles, doubles_at, has_neighbours, terms_of}
use Rattle.eng_index.proofs.EntryLaws.{alike, entry_key-cmp, entry_key-splits, term_part-cmp, terms_key}
use Rattle.eng_index.proofs.Lists.{chain-map-back, differ, lifted, list_any-none, list_any-shuffled}
use Rattle.eng_index.proofs.Searching.{IsBefore, chain_pairs}
use Rattle.eng_index.proofs.WithinFronts.{both-false, known, known_equal, null_is, reverse_eq, turned, unknown}

-- ---- one row is another's double where none of its values is NULL and the terms order both alike

abbrev reads_null : List KeyTerm → StoredRow → Bool
reads_null terms r = list_any is_null (key_values terms r)

is_double-cmp : (terms : List KeyTerm) (a b : StoredRow) → is_double terms a b ≡ (not (reads_null terms a) && is_eq (key_cmp terms a b))
is_double-cmp [] a b = refl
is_double-cmp (t ∷ terms) a b = by (is_null (term_value t a)) refl (is_double-cmp terms a b)
  where
    beside : (o : Ordering) → is_double terms a b ≡ (not (reads_null terms a) && is_eq (key_cmp terms a b)) → (is_eq o && is_double terms a b) ≡ (not (reads_null terms a) && is_eq (ordering_then o (key_cmp terms a b)))
    beside Less rest = sym (both-false (not (reads_null terms a)))
    beside Equal rest = rest
    beside Greater rest = sym (both-false (not (reads_null terms a)))

    by : (n : Bool) → is_null (term_value t a) ≡ n → is_double terms a b ≡ (not (reads_null terms a) && is_eq (key_cmp terms a b)) → (is_equal t (term_value t a) (term_value t b) && is_double terms a b) ≡ (not (n || reads_null terms a) && is_eq (key_cmp (t ∷ terms) a b))
    by true is rest = ap (λ x. is_equal t x (term_value t b) && is_double terms a b) (null_is (term_value t a) is)
    by false is rest =
        ap (λ e. e && is_double terms a b) (known_equal t (term_value t a) (term_value t b) is)
        ∙ beside (term_cmp t (term_value t a) (term_value t b)) rest

-- ---- the order of the keys by the terms

row_cmp-of_terms : (terms : List KeyTerm) (a b : StoredRow) → row_cmp (map term_part terms) (keyed_row (key_values terms a) (map term_part terms)) (keyed_row (key_values terms b) (map term_part terms)) ≡ key_cmp terms a b
row_cmp-of_terms [] a b = refl
row_cmp-of_terms (t ∷ terms) a b =
    ap₂ ordering_then (term_part-cmp t (term_value t a) (term_value t b)) (row_cmp-of_terms terms a b)

sound_values : (terms : List KeyTerm) (r : StoredRow) (ps : List KeyPart) (vs : List Value) → IsSoundRow (key_values terms r ++ vs) (map term_part terms ++ ps) → IsSoundRow (key_values terms r) (map term_part terms)
sound_values [] r ps vs sound = tt
sound_values (t ∷ terms) r ps vs sound = (sound.0, sound_values terms r ps vs sound.1)

terms_key-cmp : (terms : List KeyTerm) (a b : StoredRow) → IsSoundEntry terms a → IsSoundEntry terms b → order (terms_key terms a) (terms_key terms b) ≡ key_cmp terms a b
terms_key-cmp terms a b sound_a sound_b =
    keeps_order (key_values terms a) (map term_part terms) (sound_values terms a (rowid_part ∷ []) (Integer a.rowid ∷ []) sound_a) (key_values terms b) (map term_part terms) (simp length-map) (alike (map term_part terms)) (sound_values terms b (rowid_part ∷ []) (Integer b.rowid ∷ []) sound_b)
    ∙ row_cmp-of_terms terms a b

-- ---- entries that are doubles

terms_of-entry : (terms : List KeyTerm) (r : StoredRow) → terms_of (entry_key terms r) ≡ terms_key terms r
terms_of-entry terms r = ap terms_of (entry_key-splits terms r) ∙ front (terms_key terms r)
  where
    take_front : (xs ys : List ℕ) → take (length xs) (xs ++ ys) ≡ xs
    take_front [] ys = refl
    take_front (x ∷ xs) ys = ap (λ l. x ∷ l) (take_front xs ys)

    front : (k : List ℕ) → take (length (k ++ 1 ∷ rowid_key r.rowid) - 9) (k ++ 1 ∷ rowid_key r.rowid) ≡ k
    front k =
        let len : length (k ++ 1 ∷ rowid_key r.rowid) - 9 ≡ length k = omega (arith, length-append k (1 ∷ rowid_key r.rowid), length-rowid_key r.rowid) in
        ap (λ n. take n (k ++ 1 ∷ rowid_key r.rowid)) len ∙ take_front k (1 ∷ rowid_key r.rowid)

any-append : (terms : List KeyTerm) (r : StoredRow) → list_any is_null (entry_values terms r) ≡ reads_null terms r
any-append [] r = refl
any-append (t ∷ terms) r = ap (λ b. is_null (term_value t r) || b) (any-append terms r)

unmarked : (b : Bool) → (length (mark_of b) == 0) ≡ not b
unmarked true = refl
unmarked false = refl

pub doubles-entries : (terms : List KeyTerm) (a b : StoredRow) → IsSoundEntry terms a → IsSoundEntry terms b → are_doubles (entry terms a) (entry terms b) ≡ is_double terms a b
doubles-entries terms a b sound_a sound_b =
    ap₂ (λ m o. m && is_eq o) (unmarked (list_any is_null (entry_values terms a)) ∙ ap not (any-append terms a)) (ap₂ order (terms_of-entry terms a) (terms_of-entry terms b) ∙ terms_key-cmp terms a b sound_a sound_b)
    ∙ sym (is_double-cmp terms a b)

-- ---- which of two comes first doesn't count

equal_back : (t : KeyTerm) (v w : Value) → is_equal t v w ≡ is_equal t w v
equal_back t v w = by (is_null v) (is_null w) refl refl
  where
    first_null : (x y : Value) → is_null x ≡ true → is_equal t x y ≡ false
    first_null x y is = ap (λ z. is_equal t z y) (null_is x is)

    by : (a b : Bool) → is_null v ≡ a → is_null w ≡ b → is_equal t v w ≡ is_equal t w v
    by true b is is' = first_null v w is ∙ sym (unknown is_eq t w v is)
    by false true is is' = unknown is_eq t v w is' ∙ sym (first_null w v is')
    by false false is is' =
        known is_eq t v w is is'
        ∙ reverse_eq (compare t.collation v w)
        ∙ ap is_eq (sym (turned t.collation v w))
        ∙ sym (known is_eq t w v is' is)

double_back : (terms : List KeyTerm) (a b : StoredRow) → is_double terms a b ≡ is_double terms b a
double_back [] a b = refl
double_back (t ∷ terms) a b = ap₂ (λ x y. x && y) (equal_back t (term_value t a) (term_value t b)) (double_back terms a b)

four : (a b c d : Bool) → ((a || b) || (c || d)) ≡ ((a || c) || (b || d))
four true b c d = refl
four false true true d = refl
four false true false d = refl
four false false true d = refl
four false false false d = refl

has_doubles-shuffled : (terms : List KeyTerm) {xs ys : List StoredRow} → Shuffled xs ys → has_doubles terms xs ≡ has_doubles terms ys
has_doubles-shuffled terms empty = refl
has_doubles-shuffled terms (keep x s) =
    ap₂ (λ a b. a || b) (list_any-shuffled (is_double terms x) s) (has_doubles-shuffled terms s)
has_doubles-shuffled terms (swap x y xs) =
    ap (λ d. (d || list_any (is_double terms x) xs) || (list_any (is_double terms y) xs || has_doubles terms xs)) (double_back terms x y)
    ∙ four (is_double terms y x) (list_any (is_double terms x) xs) (list_any (is_double terms y) xs) (has_doubles terms xs)
has_doubles-shuffled terms (onward s t) = has_doubles-shuffled terms s ∙ has_doubles-shuffled terms t

-- ---- doubles stand beside one another

then_less : (o p : Ordering) → ordering_then o p ≡ Less → (o ≡ Less) ⊎ (o ≡ Equal)
then_less Less p is = inl refl
then_less Equal p is = inr refl
then_less Greater p is = absurd (cc)

both_true : (a b : Bool) → (a && b) ≡ true → (a ≡ true) × (b ≡ true)
both_true true b is = (refl, is)
both_true false b is = absurd (differ (sym is))

equal_from : (o : Ordering) → is_eq o ≡ true → o ≡ Equal
equal_from Less is = absurd (differ (sym is))
equal_from Equal is = refl
equal_from Greater is = absurd (differ (sym is))

less_differs : Less ≡ Equal → ⊥
less_differs is = cc

module _ (terms : List KeyTerm) where
  abbrev AreInOrder : StoredRow → StoredRow → Type 0
  AreInOrder a b = order (entry_key terms a) (entry_key terms b) ≡ Less

  not_after : (a b : StoredRow) → IsSoundEntry terms a → IsSoundEntry terms b → AreInOrder a b → (order (terms_key terms a) (terms_key terms b) ≡ Less) ⊎ (order (terms_key terms a) (terms_key terms b) ≡ Equal)
  not_after a b sound_a sound_b low =
      let cmp = terms_key-cmp terms a b sound_a sound_b in
      ⊎_elim (λ e. inl (cmp ∙ e)) (λ e. inr (cmp ∙ e)) (then_less (key_cmp terms a b) (int_cmp a.rowid b.rowid) (sym (entry_key-cmp terms a b sound_a sound_b) ∙ low))

  -- what lies between two doubles is a double too
  near_too : (a b c : StoredRow) → IsSoundEntry terms a → IsSoundEntry terms b → IsSoundEntry terms c → AreInOrder a b → AreInOrder b c → is_double terms a c ≡ true → is_double terms a b ≡ true
  near_too a b c sound_a sound_b sound_c low low' double =
      is_double-cmp terms a b
      ∙ ap₂ (λ x y. x && y) known_a.0 (ap is_eq (sym (terms_key-cmp terms a b sound_a sound_b) ∙ same (not_after a b sound_a sound_b low) (not_after b c sound_b sound_c low')))
    where
      known_a : (not (reads_null terms a) ≡ true) × (is_eq (key_cmp terms a c) ≡ true)
      known_a = both_true (not (reads_null terms a)) (is_eq (key_cmp terms a c)) (sym (is_double-cmp terms a c) ∙ double)

      ends : order (terms_key terms a) (terms_key terms c) ≡ Equal
      ends = terms_key-cmp terms a c sound_a sound_c ∙ equal_from (key_cmp terms a c) known_a.1

      same : (order (terms_key terms a) (terms_key terms b) ≡ Less) ⊎ (order (terms_key terms a) (terms_key terms b) ≡ Equal) → (order (terms_key terms b) (terms_key terms c) ≡ Less) ⊎ (order (terms_key terms b) (terms_key terms c) ≡ Equal) → order (terms_key terms a) (terms_key terms b) ≡ Equal
      same (inr e) f = e
      same (inl e) (inl f) =
          let less = nat_list_cmp_total.trans (terms_key terms a) (terms_key terms b) (terms_key terms c) e f in
          absurd (less_differs (sym less ∙ ends))
      same (inl e) (inr f) =
          sym (ap (order (terms_key terms a)) (sym (same_key (terms_key terms b) (terms_key terms c) f))) ∙ ends

  first_two : (a b : StoredRow) (rest : List StoredRow) → AllByRecursion (IsSoundEntry terms) (a ∷ b ∷ rest) → AreInOrder a b → AllByRecursion (AreInOrder b) rest → is_double terms a b ≡ list_any (is_double terms a) (b ∷ rest)
  first_two a b rest sound low lows = by (is_double terms a b) refl
    where
      far : (d : Bool) → is_double terms a b ≡ false → (c : StoredRow) → IsSoundEntry terms c → AreInOrder b c → is_double terms a c ≡ d → d ≡ false
      far true is c sound_c low' double =
          absurd (differ (sym (near_too a b c sound.0 sound.1.0 sound_c low low' double) ∙ is))
      far false is c sound_c low' double = refl

      none : is_double terms a b ≡ false → (cs : List StoredRow) → AllByRecursion (IsSoundEntry terms) cs → AllByRecursion (AreInOrder b) cs → AllByRecursion (λ c. is_double terms a c ≡ false) cs
      none is [] all lows = tt
      none is (c ∷ cs) all lows = (far (is_double terms a c) is c all.0 lows.0 refl, none is cs all.1 lows.1)

      by : (d : Bool) → is_double terms a b ≡ d → d ≡ (d || list_any (is_double terms a) rest)
      by true is = refl
      by false is = sym (list_any-none (is_double terms a) rest (none is rest sound.1.1 lows))

  neighbours_rows : (rs : List StoredRow) → AllByRecursion (IsSoundEntry terms) rs → Chain AreInOrder rs → has_neighbours (map (entry terms) rs) ≡ has_doubles terms rs
  neighbours_rows [] sound up = refl
  neighbours_rows (a ∷ []) sound up = refl
  neighbours_rows (a ∷ b ∷ rs) sound up =
      ap₂ (λ x y. x || y) (doubles-entries terms a b sound.0 sound.1.0 ∙ first_two a b rs sound up.0.0 up.1.0) (neighbours_rows (b ∷ rs) sound.1 up.1)

pub neighbours_are_doubles : (index : Indexed) (rows : List StoredRow) → IsIndexOf index rows → has_neighbours index.pairs ≡ has_doubles index.terms rows
neighbours_are_doubles index rows is =
    let of = lifted (entry index.terms) is.entries rows refl in
    let up = chain-map-back (entry index.terms) IsBefore of.those (subst (Chain IsBefore) of.values (chain_pairs index.pairs is.order)) in
    ap has_neighbours of.values
    ∙ neighbours_rows index.terms of.those (all-shuffled (IsSoundEntry index.terms) of.shuffled is.sound) up
    ∙ sym (has_doubles-shuffled index.terms of.shuffled)

-- ---- the loop

get_next : (p : Pair) (ps : List Pair) (i : ℕ) → slice_get (p ∷ ps) (suc i + 1) ≡ slice_get ps (i + 1)
get_next p ps i = let e : suc i + 1 ≡ suc (i + 1) = omega arith in ap (slice_get (p ∷ ps)) e

drop_next : (p : Pair) (ps : List Pair) (i : ℕ) → drop (suc i + 1) (p ∷ ps) ≡ drop (i + 1) ps
drop_next p ps i = let e : suc i + 1 ≡ suc (i + 1) = omega arith in ap (λ n. drop n (p ∷ ps)) e

pub neighbours_from : (ps : List Pair) (i : ℕ) → i < length ps → has_neighbours (drop i ps) ≡ (doubles_at ps i || has_neighbours (drop (i + 1) ps))
neighbours_from [] i lt = absurd (omega arith)
neighbours_from (p ∷ ps) zero lt = refl
neighbours_from (p ∷ ps) (suc i) lt =
    neighbours_from ps i (omega arith)
    ∙ ap₂ (λ o l. are_both (slice_get ps i) o || has_neighbours l) (sym (get_next p ps i)) (sym (drop_next p ps i))

pub neighbours_past : (ps : List Pair) (i : ℕ) → length ps ≤ i → has_neighbours (drop i ps) ≡ false
neighbours_past ps i le = ap has_neighbours (drop_all i ps le)
