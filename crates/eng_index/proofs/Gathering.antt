-- Entries gathered for an index, and the tree made of them.
use Rattle.std.proofs.Common.{◌≡◌, List, [], ◌∷◌, ◌++◌, None, ℤ, ◌<ℤ◌, map, sym, ap, ap₂, ◌∙◌, subst, arith, append_assoc, append-nil}
use Rattle.std.proofs.lemmas.Int.{ints}
use Rattle.std.specs.List.{AllByRecursion}
use Rattle.eng_tree.specs.Map.{Bytes, Pair, find, put, IsAscending}
use Rattle.eng_value.proofs.Shuffling.{shuffled_behind, shuffled_is}
use Rattle.eng_value.specs.Arrangements.{Chain, Shuffled, onward}
use Rattle.eng_value.specs.StoredRows as rows
use Rattle.eng_value.specs.StoredRows.{StoredRow}
use Rattle.eng_index.specs.declared.key_term.KeyTerm.{KeyTerm}
use Rattle.eng_index.specs.Stored.{AreEntriesOf, HaveOwnKeys, Indexed, IsIndexOf, IsSoundEntry, entry, entry_key, entry_values, null_mark}
use Rattle.eng_index.proofs.EntryLaws.{same_rowid}
use Rattle.eng_index.proofs.Keeping.{chain_rows, find_none, put-shuffled}
use Rattle.eng_index.proofs.Lists.{all-append, chain-behind, chain-map, chain-shuffled, map-append}

pub entries_of_none : (terms : List KeyTerm) (pairs : List Pair) → pairs ≡ [] → AreEntriesOf (record { terms = terms; pairs = pairs }) []
entries_of_none terms pairs is = record { entries = is; sound = tt }

pub entries_with : (terms : List KeyTerm) (pairs new : List Pair) (gathered : Indexed) (key mark : Bytes) (r : StoredRow) → record { terms = terms; pairs = pairs } ≡ gathered → key ≡ entry_key terms r → mark ≡ null_mark (entry_values terms r) → IsSoundEntry terms r → new ≡ pairs ++ (key, mark) ∷ [] → (rows : List StoredRow) → AreEntriesOf gathered rows → AreEntriesOf (record { terms = terms; pairs = new }) (rows ++ r ∷ [])
entries_with terms pairs new gathered key mark r view key_is mark_is sound new_is rows are =
    let so_far = subst (λ g. AreEntriesOf g rows) (sym view) are in
    record {
      entries =
          new_is
          ∙ ap₂ (λ l p. l ++ p ∷ []) so_far.entries (ap₂ (λ k m. (k, m)) key_is mark_is)
          ∙ sym (map-append (entry terms) rows (r ∷ []));
      sound = all-append (IsSoundEntry terms) rows (r ∷ []) so_far.sound (sound, tt);
    }

-- ---- the tree

-- the entries that are left, and those in the tree
abbrev pub IsSplit : List Pair → List Pair → List Pair → Type 0
IsSplit all left pairs = HaveOwnKeys all → Shuffled all (left ++ pairs)

pub none_taken : (all pairs : List Pair) → pairs ≡ [] → IsSplit all all pairs
none_taken all pairs none own = shuffled_is all (all ++ pairs) (sym (append-nil all) ∙ ap (λ l. all ++ l) (sym none))

pub one_taken : (all left rest pairs new : List Pair) (key mark : Bytes) → left ≡ rest ++ (key, mark) ∷ [] → new ≡ put key mark pairs → IsSplit all left pairs → IsSplit all rest new
one_taken all left rest pairs new key mark left_is new_is so_far own =
    let split : Shuffled all (rest ++ (key, mark) ∷ pairs) = subst (Shuffled all) (ap (λ l. l ++ pairs) left_is ∙ append_assoc rest ((key, mark) ∷ []) pairs) (so_far own) in
    let own' = chain-shuffled (λ (p q : Pair). q.0 ≡ p.0 → ⊥) (λ p q apart is. apart (sym is)) split own in
    let free : find key pairs ≡ None = find_none key pairs (chain-behind (λ (p q : Pair). q.0 ≡ p.0 → ⊥) rest (key, mark) pairs own') in
    subst (λ ps. Shuffled all (rest ++ ps)) (sym new_is) (onward split (shuffled_behind rest (put-shuffled key mark pairs free)))

pub all_taken : (all left pairs : List Pair) → left ≡ [] → IsSplit all left pairs → HaveOwnKeys all → Shuffled all pairs
all_taken all left pairs none so_far own = subst (λ l. Shuffled all (l ++ pairs)) none (so_far own)

-- ---- the index

below_differs : (a b : ℤ) → a <ℤ b → b ≡ a → ⊥
below_differs a b lt is = omega (arith, ints)

own_keys : (terms : List KeyTerm) (all : List StoredRow) → AllByRecursion (IsSoundEntry terms) all → Chain (λ (a b : StoredRow). a.rowid <ℤ b.rowid) all → HaveOwnKeys (map (entry terms) all)
own_keys terms all sound up =
    chain-map (entry terms) (λ (p q : Pair). q.0 ≡ p.0 → ⊥) all (apart all sound up)
  where
    behind : (r : StoredRow) → IsSoundEntry terms r → (xs : List StoredRow) → AllByRecursion (IsSoundEntry terms) xs → AllByRecursion (λ (x : StoredRow). r.rowid <ℤ x.rowid) xs → AllByRecursion (λ x. entry_key terms x ≡ entry_key terms r → ⊥) xs
    behind r sound_r [] sound_xs lows = tt
    behind r sound_r (x ∷ xs) sound_xs lows =
        (λ is. below_differs r.rowid x.rowid lows.0 (same_rowid terms x r sound_xs.0 sound_r is), behind r sound_r xs sound_xs.1 lows.1)

    apart : (xs : List StoredRow) → AllByRecursion (IsSoundEntry terms) xs → Chain (λ (a b : StoredRow). a.rowid <ℤ b.rowid) xs → Chain (λ a b. entry_key terms b ≡ entry_key terms a → ⊥) xs
    apart [] sound_xs up = tt
    apart (x ∷ xs) sound_xs up = (behind x sound_xs.0 xs sound_xs.1 up.0, apart xs sound_xs.1 up.1)

pub index_of_entries : (gathered index : Indexed) (terms : List KeyTerm) (entries sorted pairs : List Pair) → record { terms = terms; pairs = entries } ≡ gathered → index.terms ≡ terms → index.pairs ≡ pairs → Shuffled entries sorted → (HaveOwnKeys sorted → Shuffled sorted pairs) → IsAscending pairs → (all : List StoredRow) → rows.IsAscending all → AreEntriesOf gathered all → IsIndexOf index all
index_of_entries gathered index terms entries sorted pairs view terms_is pairs_are s made order all up are =
    let those = subst (λ g. AreEntriesOf g all) (sym view) are in
    let own : HaveOwnKeys entries = subst HaveOwnKeys (sym those.entries) (own_keys terms all those.sound (chain_rows all up)) in
    let own' = chain-shuffled (λ (p q : Pair). q.0 ≡ p.0 → ⊥) (λ p q apart is. apart (sym is)) s own in
    record {
      order = subst IsAscending (sym pairs_are) order;
      entries = subst (λ ts. Shuffled (map (entry ts) all) index.pairs) (sym terms_is) (subst (Shuffled (map (entry terms) all)) (sym pairs_are) (onward (shuffled_is (map (entry terms) all) entries (sym those.entries)) (onward s (made own'))));
      sound = subst (λ ts. AllByRecursion (IsSoundEntry ts) all) (sym terms_is) those.sound;
    }
