-- The tree of an index, with an entry more and with one less.
use Rattle.std.proofs.Common.{◌≡◌, zero, suc, List, [], ◌∷◌, Bool, true, false, not, cond, Some, None, ℤ, ◌<ℤ◌, int_lt, map, if◌then◌else◌, refl, sym, ap, ap₂, ◌∙◌, subst, arith}
use Rattle.std.proofs.lemmas.Cmp.{nat_list_cmp_total}
use Rattle.std.proofs.lemmas.Int.{ints}
use Rattle.std.specs.List.{AllByRecursion, filter}
use Rattle.std.specs.Ordering.{int_eq, is_eq, ordering_reverse}
use Rattle.std.specs.declared.cmp.Ordering.{Ordering}
use Rattle.std.specs.declared.cmp.Ordering.TheVariants.{Less, Equal, Greater}
use Rattle.eng_tree.specs.Map.{Bytes, Pair, order, by_order, find, put, without, IsBelow, IsAscending}
use Rattle.eng_tree.proofs.Laws.{above_from_below, ascending_put, ascending_without, itself, same_key}
use Rattle.eng_value.proofs.Arranging.{all_more}
use Rattle.eng_value.proofs.Shuffling.{all-shuffled, filter-shuffled, map-shuffled, shuffled_back, shuffled_is, shuffled_same}
use Rattle.eng_value.specs.Arrangements.{Chain, Shuffled, empty, keep, swap, onward}
use Rattle.eng_value.specs.StoredRows as rows
use Rattle.eng_value.specs.StoredRows.{StoredRow}
use Rattle.eng_index.specs.declared.key_term.KeyTerm.{KeyTerm}
use Rattle.eng_index.specs.Stored.{Indexed, IsIndexOf, IsSoundEntry, drop_row, entry, entry_key, entry_values, null_mark, put_row, row_under}
use Rattle.eng_index.proofs.EntryLaws.{same_rowid}
use Rattle.eng_index.proofs.Lists.{all-filter, all-map, all_both, all_from, differ, filter-agree, filter-all, filter-map}

-- ---- a pair more

pub put-shuffled : (k v : Bytes) (ps : List Pair) → find k ps ≡ None → Shuffled ((k, v) ∷ ps) (put k v ps)
put-shuffled k v [] e = shuffled_same ((k, v) ∷ [])
put-shuffled k v (p ∷ ps) e = by (order p.0 k) e (λ f. put-shuffled k v ps f)
  where
    by : (o : Ordering) → by_order o (find k ps) (Some p.1) None ≡ None → (find k ps ≡ None → Shuffled ((k, v) ∷ ps) (put k v ps)) → Shuffled ((k, v) ∷ p ∷ ps) (by_order o (p ∷ put k v ps) ((k, v) ∷ ps) ((k, v) ∷ p ∷ ps))
    by Less e more = onward (swap (k, v) p ps) (keep p (more e))
    by Equal e more = absurd (cc)
    by Greater e more = shuffled_same ((k, v) ∷ p ∷ ps)

abbrev pub Lacks : Bytes → Pair → Type 0
Lacks k p = p.0 ≡ k → ⊥

pub find_none : (k : Bytes) (ps : List Pair) → AllByRecursion (Lacks k) ps → find k ps ≡ None
find_none k [] all = refl
find_none k (p ∷ ps) all = by (order p.0 k) refl (find_none k ps all.1)
  where
    by : (o : Ordering) → order p.0 k ≡ o → find k ps ≡ None → by_order o (find k ps) (Some p.1) None ≡ None
    by Less is e = e
    by Equal is e = absurd (all.0 (same_key p.0 k is))
    by Greater is e = refl

-- ---- a row more

put_row-shuffled : (rows : List StoredRow) (r : StoredRow) → Shuffled (r ∷ rows) (put_row rows r)
put_row-shuffled [] r = shuffled_same (r ∷ [])
put_row-shuffled (x ∷ xs) r = by (int_lt r.rowid x.rowid) (put_row-shuffled xs r)
  where
    by : (b : Bool) → Shuffled (r ∷ xs) (put_row xs r) → Shuffled (r ∷ x ∷ xs) (if b then r ∷ x ∷ xs else x ∷ put_row xs r)
    by true s = shuffled_same (r ∷ x ∷ xs)
    by false s = onward (swap r x xs) (keep x s)

eq_self : (a : ℤ) → int_eq a a ≡ true
eq_self a = grind (arith, ints)

others_differ : (rows : List StoredRow) (n : ℤ) → row_under rows n ≡ None → AllByRecursion (λ (x : StoredRow). x.rowid ≡ n → ⊥) rows
others_differ [] n free = tt
others_differ (x ∷ xs) n free = by (int_eq x.rowid n) refl free (λ e. others_differ xs n e)
  where
    by : (b : Bool) → int_eq x.rowid n ≡ b → cond b (Some x) (row_under xs n) ≡ None → (row_under xs n ≡ None → AllByRecursion (λ (x : StoredRow). x.rowid ≡ n → ⊥) xs) → AllByRecursion (λ (x : StoredRow). x.rowid ≡ n → ⊥) (x ∷ xs)
    by true is e rest = absurd (cc)
    by false is e rest = (λ same. differ (sym (eq_self n) ∙ ap (λ m. int_eq m n) (sym same) ∙ is), rest e)

pub entries-lack : (terms : List KeyTerm) (rows : List StoredRow) (r : StoredRow) → IsSoundEntry terms r → AllByRecursion (IsSoundEntry terms) rows → AllByRecursion (λ (x : StoredRow). x.rowid ≡ r.rowid → ⊥) rows → AllByRecursion (Lacks (entry_key terms r)) (map (entry terms) rows)
entries-lack terms rows r sound all others =
    all-map (entry terms) (Lacks (entry_key terms r)) rows (all_both (IsSoundEntry terms) (λ (x : StoredRow). x.rowid ≡ r.rowid → ⊥) (λ x. entry_key terms x ≡ entry_key terms r → ⊥) (λ x h other is. other (same_rowid terms x r h sound is)) rows all others)

pub keeps_put : (index : Indexed) (r : StoredRow) → IsSoundEntry index.terms r → (rows : List StoredRow) → IsIndexOf index rows → row_under rows r.rowid ≡ None → IsIndexOf (record index { pairs = put (entry_key index.terms r) (null_mark (entry_values index.terms r)) index.pairs }) (put_row rows r)
keeps_put index r sound rows is free =
    let key = entry_key index.terms r in
    let mark = null_mark (entry_values index.terms r) in
    let none : find key index.pairs ≡ None = find_none key index.pairs (all-shuffled (Lacks key) is.entries (entries-lack index.terms rows r sound is.sound (others_differ rows r.rowid free))) in
    record {
      order = ascending_put key mark index.pairs is.order;
      entries = onward (map-shuffled (entry index.terms) (shuffled_back (put_row-shuffled rows r))) (onward (keep (entry index.terms r) is.entries) (put-shuffled key mark index.pairs none));
      sound = all-shuffled (IsSoundEntry index.terms) (put_row-shuffled rows r) (sound, is.sound);
    }

-- ---- a pair less

-- a key below the first of pairs that ascend is below all
pub leads : (k : Bytes) (ps : List Pair) → IsBelow k ps → IsAscending ps → AllByRecursion (λ (q : Pair). order k q.0 ≡ Less) ps
leads k [] low up = tt
leads k (p ∷ ps) low up = (low, leads k ps (further ps up.0) up.1)
  where
    further : (ps : List Pair) → IsBelow p.0 ps → IsBelow k ps
    further [] b = tt
    further (q ∷ ps) b = nat_list_cmp_total.trans k p.0 q.0 low b

abbrev is_other : Bytes → Pair → Bool
is_other k p = not (is_eq (order p.0 k))

kept_above : (k : Bytes) (ps : List Pair) → AllByRecursion (λ (q : Pair). order k q.0 ≡ Less) ps → filter (is_other k) ps ≡ ps
kept_above k ps all =
    filter-all (is_other k) ps (all_more (λ (q : Pair). order k q.0 ≡ Less) (λ q. is_other k q ≡ true) (λ q low. ap (λ o. not (is_eq o)) (above_from_below k q.0 low)) ps all)

without-filter : (k : Bytes) (ps : List Pair) → IsAscending ps → without k ps ≡ filter (is_other k) ps
without-filter k [] up = refl
without-filter k (p ∷ ps) up = by (order p.0 k) refl (without-filter k ps up.1)
  where
    by : (o : Ordering) → order p.0 k ≡ o → without k ps ≡ filter (is_other k) ps → by_order o (p ∷ without k ps) ps (p ∷ ps) ≡ cond (not (is_eq o)) (p ∷ filter (is_other k) ps) (filter (is_other k) ps)
    by Less is rest = ap (λ l. p ∷ l) rest
    by Equal is rest = sym (kept_above k ps (leads k ps (subst (λ x. IsBelow x ps) (same_key p.0 k is) up.0) up.1))
    by Greater is rest =
        let low : order k p.0 ≡ Less = nat_list_cmp_total.antisymm k p.0 ∙ ap ordering_reverse is in
        ap (λ l. p ∷ l) (sym (kept_above k ps (leads k (p ∷ ps) low up).1))

-- ---- a row less

-- each row's rowid is below those behind it
pub chain_rows : (all : List StoredRow) → rows.IsAscending all → Chain (λ (a b : StoredRow). a.rowid <ℤ b.rowid) all
chain_rows [] up = tt
chain_rows (x ∷ xs) up =
    (all_from (λ (y : StoredRow). x.rowid <ℤ y.rowid) xs (λ k d lt. up zero (suc k) d (omega arith) (omega arith)), chain_rows xs (λ i j d lt le. up (suc i) (suc j) d (omega arith) (omega arith)))

eq_below : (a b n : ℤ) → a <ℤ b → int_eq a n ≡ true → int_eq b n ≡ true → ⊥
eq_below a b n lt is is' = grind (arith, ints)

abbrev IsThis : StoredRow → StoredRow → Type 0
IsThis r x = int_eq x.rowid r.rowid ≡ true → x ≡ r

-- only the row itself has its rowid
only_this : (all : List StoredRow) (r : StoredRow) → Chain (λ (a b : StoredRow). a.rowid <ℤ b.rowid) all → row_under all r.rowid ≡ Some r → AllByRecursion (IsThis r) all
only_this [] r up e = tt
only_this (x ∷ xs) r up e = by (int_eq x.rowid r.rowid) refl e (λ f. only_this xs r up.1 f)
  where
    by : (b : Bool) → int_eq x.rowid r.rowid ≡ b → cond b (Some x) (row_under xs r.rowid) ≡ Some r → (row_under xs r.rowid ≡ Some r → AllByRecursion (IsThis r) xs) → AllByRecursion (IsThis r) (x ∷ xs)
    by true is e rest =
        let same : x ≡ r = cc in
        (λ h. same, all_more (λ (y : StoredRow). x.rowid <ℤ y.rowid) (IsThis r) (λ y lt h. absurd (eq_below x.rowid y.rowid r.rowid lt is h)) xs up.0)
    by false is e rest = (λ h. absurd (differ (sym h ∙ is)), rest e)

keys_apart : (terms : List KeyTerm) (x r : StoredRow) → IsSoundEntry terms x → IsSoundEntry terms r → IsThis r x → is_other (entry_key terms r) (entry terms x) ≡ not (int_eq x.rowid r.rowid)
keys_apart terms x r sound_x sound_r this = by (int_eq x.rowid r.rowid) refl
  where
    unlike : (o : Ordering) → order (entry_key terms x) (entry_key terms r) ≡ o → int_eq x.rowid r.rowid ≡ false → not (is_eq o) ≡ true
    unlike Less is other = refl
    unlike Equal is other =
        absurd (differ (sym (eq_self r.rowid) ∙ ap (λ n. int_eq n r.rowid) (sym (same_rowid terms x r sound_x sound_r (same_key (entry_key terms x) (entry_key terms r) is))) ∙ other))
    unlike Greater is other = refl

    by : (b : Bool) → int_eq x.rowid r.rowid ≡ b → is_other (entry_key terms r) (entry terms x) ≡ not b
    by true is =
        ap (λ (y : StoredRow). is_other (entry_key terms r) (entry terms y)) (this is) ∙ ap (λ o. not (is_eq o)) (itself (entry_key terms r))
    by false is = unlike (order (entry_key terms x) (entry_key terms r)) refl is

pub keeps_drop : (index : Indexed) (r : StoredRow) → IsSoundEntry index.terms r → (all : List StoredRow) → rows.IsAscending all → IsIndexOf index all → row_under all r.rowid ≡ Some r → IsIndexOf (record index { pairs = without (entry_key index.terms r) index.pairs }) (drop_row all r.rowid)
keeps_drop index r sound all up is there =
    let key = entry_key index.terms r in
    let agree = all_both (IsSoundEntry index.terms) (IsThis r) (λ x. is_other key (entry index.terms x) ≡ not (int_eq x.rowid r.rowid)) (λ x h this. keys_apart index.terms x r h sound this) all is.sound (only_this all r (chain_rows all up) there) in
    let left : filter (is_other key) (map (entry index.terms) all) ≡ map (entry index.terms) (drop_row all r.rowid) = filter-map (entry index.terms) (is_other key) all ∙ ap (map (entry index.terms)) (filter-agree (λ x. is_other key (entry index.terms x)) (λ (x : StoredRow). not (int_eq x.rowid r.rowid)) all agree) in
    record {
      order = ascending_without key index.pairs is.order;
      entries = onward (shuffled_is (map (entry index.terms) (drop_row all r.rowid)) (filter (is_other key) (map (entry index.terms) all)) (sym left)) (onward (filter-shuffled (is_other key) is.entries) (shuffled_is (filter (is_other key) index.pairs) (without key index.pairs) (sym (without-filter key index.pairs is.order))));
      sound = all-filter (IsSoundEntry index.terms) (λ (x : StoredRow). not (int_eq x.rowid r.rowid)) all is.sound;
    }

-- ---- as it is written

pub index_of_none : (terms : List KeyTerm) (pairs : List Pair) → pairs ≡ [] → IsIndexOf (record { terms = terms; pairs = pairs }) []
index_of_none terms pairs is =
    subst (λ ps. IsIndexOf (record { terms = terms; pairs = ps }) []) (sym is) (record { order = tt; entries = empty; sound = tt })

pub index_with : (terms : List KeyTerm) (pairs new : List Pair) (index : Indexed) (key mark : Bytes) (r : StoredRow) → record { terms = terms; pairs = pairs } ≡ index → key ≡ entry_key terms r → mark ≡ null_mark (entry_values terms r) → IsSoundEntry terms r → new ≡ put key mark pairs → (rows : List StoredRow) → IsIndexOf index rows → row_under rows r.rowid ≡ None → IsIndexOf (record { terms = terms; pairs = new }) (put_row rows r)
index_with terms pairs new index key mark r view key_is mark_is sound new_is rows is free =
    let put_is : put (entry_key terms r) (null_mark (entry_values terms r)) pairs ≡ new = ap₂ (λ k m. put k m pairs) (sym key_is) (sym mark_is) ∙ sym new_is in
    subst (λ ps. IsIndexOf (record { terms = terms; pairs = ps }) (put_row rows r)) put_is (keeps_put (record { terms = terms; pairs = pairs }) r sound rows (subst (λ i. IsIndexOf i rows) (sym view) is) free)

pub index_without : (terms : List KeyTerm) (pairs new : List Pair) (index : Indexed) (key : Bytes) (r : StoredRow) → record { terms = terms; pairs = pairs } ≡ index → key ≡ entry_key terms r → IsSoundEntry terms r → new ≡ without key pairs → (all : List StoredRow) → rows.IsAscending all → IsIndexOf index all → row_under all r.rowid ≡ Some r → IsIndexOf (record { terms = terms; pairs = new }) (drop_row all r.rowid)
index_without terms pairs new index key r view key_is sound new_is all up is there =
    let without_is : without (entry_key terms r) pairs ≡ new = ap (λ k. without k pairs) (sym key_is) ∙ sym new_is in
    subst (λ ps. IsIndexOf (record { terms = terms; pairs = ps }) (drop_row all r.rowid)) without_is (keeps_drop (record { terms = terms; pairs = pairs }) r sound all up (subst (λ i. IsIndexOf i all) (sym view) is) there)
