-- The keys of entries: how they stand to one another, and where the rowid stands in them.
use Rattle.std.proofs.Common.{◌≡◌, ℕ, ◌+◌, ◌-◌, List, [], ◌∷◌, ◌++◌, Bool, true, false, not, ℤ, map, length, drop, Some, if◌then◌else◌, refl, sym, ap, ap₂, ◌∙◌, arith, append_assoc, append-nil, length-append}
use Rattle.std.proofs.lemmas.List.{length-map}
use Rattle.std.proofs.Math.Seq.{drop-append_seam}
use Rattle.std.specs.Ordering.{int_cmp, ordering_then}
use Rattle.eng_key.specs.Rowids.{IsRowid, rowid_key, rowid_of}
use Rattle.eng_key.specs.RowKeys.{AreAlike, IsSound, IsSoundRow, directed_cmp, keyed_row, part_key, row_cmp, row_key, spelled_value, text_bytes}
use Rattle.eng_key.specs.declared.key_part.KeyPart.{KeyPart}
use Rattle.eng_key.proofs.RowKeyLaws.{keeps_order}
use Rattle.eng_key.proofs.RowidLaws.{length-rowid_key, rowid_comes_back}
use Rattle.eng_key.proofs.SpellingLaws.{then-Equal, then_assoc}
use Rattle.eng_tree.specs.Map.{order}
use Rattle.eng_value.specs.Collations.{compare, keyed, text_key}
use Rattle.eng_value.specs.Compare.{value_cmp}
use Rattle.eng_value.specs.StoredRows.{StoredRow}
use Rattle.eng_value.specs.declared.value.Value.{Value}
use Rattle.eng_value.specs.declared.value.Value.TheVariants.{Null, Integer, Text, Blob}
use Rattle.eng_index.specs.declared.key_term.KeyTerm.{KeyTerm}
use Rattle.eng_index.specs.Keys.{key_cmp, key_values, term_cmp, term_value}
use Rattle.eng_index.specs.Stored.{IsSoundEntry, entry_key, entry_values, parts_of, rowid_in, rowid_part, term_part}

-- ---- terms and parts

up : (v w : Value) → directed_cmp false true v w ≡ value_cmp v w
up Null Null = refl
up Null (Integer n) = refl
up Null (Text t) = refl
up Null (Blob t) = refl
up (Integer m) Null = refl
up (Integer m) (Integer n) = refl
up (Integer m) (Text t) = refl
up (Integer m) (Blob t) = refl
up (Text s) Null = refl
up (Text s) (Integer n) = refl
up (Text s) (Text t) = refl
up (Text s) (Blob t) = refl
up (Blob s) Null = refl
up (Blob s) (Integer n) = refl
up (Blob s) (Text t) = refl
up (Blob s) (Blob t) = refl

down : (v w : Value) → directed_cmp true false v w ≡ value_cmp w v
down Null Null = refl
down Null (Integer n) = refl
down Null (Text t) = refl
down Null (Blob t) = refl
down (Integer m) Null = refl
down (Integer m) (Integer n) = refl
down (Integer m) (Text t) = refl
down (Integer m) (Blob t) = refl
down (Text s) Null = refl
down (Text s) (Integer n) = refl
down (Text s) (Text t) = refl
down (Text s) (Blob t) = refl
down (Blob s) Null = refl
down (Blob s) (Integer n) = refl
down (Blob s) (Text t) = refl
down (Blob s) (Blob t) = refl

-- a part orders as its term does
pub term_part-cmp : (t : KeyTerm) (v w : Value) → directed_cmp t.descending (not t.descending) (keyed (text_key t.collation) v) (keyed (text_key t.collation) w) ≡ term_cmp t v w
term_part-cmp t v w = by t.descending
  where
    by : (d : Bool) → directed_cmp d (not d) (keyed (text_key t.collation) v) (keyed (text_key t.collation) w) ≡ (if d then compare t.collation w v else compare t.collation v w)
    by true = down (keyed (text_key t.collation) v) (keyed (text_key t.collation) w)
    by false = up (keyed (text_key t.collation) v) (keyed (text_key t.collation) w)

pub alike : (parts : List KeyPart) → AreAlike parts parts
alike [] = tt
alike (p ∷ parts) = (refl, refl, alike parts)

-- rows under terms, and what stands behind them
row_cmp-terms : (terms : List KeyTerm) (a b : StoredRow) (ps : List KeyPart) (xs ys : List Value) → row_cmp (map term_part terms ++ ps) (keyed_row (key_values terms a ++ xs) (map term_part terms ++ ps)) (keyed_row (key_values terms b ++ ys) (map term_part terms ++ ps)) ≡ ordering_then (key_cmp terms a b) (row_cmp ps (keyed_row xs ps) (keyed_row ys ps))
row_cmp-terms [] a b ps xs ys = refl
row_cmp-terms (t ∷ terms) a b ps xs ys =
    let all = row_cmp (map term_part terms ++ ps) (keyed_row (key_values terms a ++ xs) (map term_part terms ++ ps)) (keyed_row (key_values terms b ++ ys) (map term_part terms ++ ps)) in
    let first = term_cmp t (term_value t a) (term_value t b) in
    ap (λ o. ordering_then o all) (term_part-cmp t (term_value t a) (term_value t b))
    ∙ ap (ordering_then first) (row_cmp-terms terms a b ps xs ys)
    ∙ sym (then_assoc first (key_cmp terms a b) (row_cmp ps (keyed_row xs ps) (keyed_row ys ps)))

length-entry_values : (terms : List KeyTerm) (r : StoredRow) → length (entry_values terms r) ≡ length terms + 1
length-entry_values terms r = simp (length-append, length-map)

-- ---- the order of entries

-- entries stand to one another as their rows by the terms, and else as the rowids
pub entry_key-cmp : (terms : List KeyTerm) (a b : StoredRow) → IsSoundEntry terms a → IsSoundEntry terms b → order (entry_key terms a) (entry_key terms b) ≡ ordering_then (key_cmp terms a b) (int_cmp a.rowid b.rowid)
entry_key-cmp terms a b sound_a sound_b =
    keeps_order (entry_values terms a) (parts_of terms) sound_a (entry_values terms b) (parts_of terms) (length-entry_values terms a ∙ sym (length-entry_values terms b)) (alike (parts_of terms)) sound_b
    ∙ row_cmp-terms terms a b (rowid_part ∷ []) (Integer a.rowid ∷ []) (Integer b.rowid ∷ [])
    ∙ ap (ordering_then (key_cmp terms a b)) (then-Equal (int_cmp a.rowid b.rowid))

-- ---- the rowid in a key

pub row_key-append : (values more : List Value) (parts others : List KeyPart) → length values ≡ length parts → row_key (values ++ more) (parts ++ others) ≡ row_key values parts ++ row_key more others
row_key-append [] more [] others len = refl
row_key-append [] more (p ∷ parts) others len = absurd (omega arith)
row_key-append (v ∷ values) more [] others len = absurd (omega arith)
row_key-append (v ∷ values) more (p ∷ parts) others len =
    ap (λ k. part_key p v ++ k) (row_key-append values more parts others (omega arith)) ∙ sym (append_assoc (part_key p v) (row_key values parts) (row_key more others))

-- the key of a row by the terms alone
abbrev pub terms_key : List KeyTerm → StoredRow → List ℕ
terms_key terms r = row_key (key_values terms r) (map term_part terms)

rowid_part-key : (n : ℤ) → row_key (Integer n ∷ []) (rowid_part ∷ []) ≡ 1 ∷ rowid_key n
unfolding spelled_value
rowid_part-key n = append-nil (1 ∷ rowid_key n)

pub entry_key-splits : (terms : List KeyTerm) (r : StoredRow) → entry_key terms r ≡ terms_key terms r ++ 1 ∷ rowid_key r.rowid
entry_key-splits terms r =
    row_key-append (key_values terms r) (Integer r.rowid ∷ []) (map term_part terms) (rowid_part ∷ []) (simp length-map)
    ∙ ap (λ k. terms_key terms r ++ k) (rowid_part-key r.rowid)

last_eight : (front : List ℕ) (n : ℤ) → drop (length (front ++ 1 ∷ rowid_key n) - 8) (front ++ 1 ∷ rowid_key n) ≡ rowid_key n
last_eight front n =
    let all : front ++ 1 ∷ rowid_key n ≡ (front ++ 1 ∷ []) ++ rowid_key n = sym (append_assoc front (1 ∷ []) (rowid_key n)) in
    let len : length (front ++ 1 ∷ rowid_key n) - 8 ≡ length (front ++ 1 ∷ []) = omega (arith, length-append front (1 ∷ rowid_key n), length-append front (1 ∷ []), length-rowid_key n) in
    ap₂ drop len all ∙ drop-append_seam (front ++ 1 ∷ []) (rowid_key n)

last_sound : (terms : List KeyTerm) (values : List Value) (v : Value) → length values ≡ length terms → IsSoundRow (values ++ v ∷ []) (map term_part terms ++ rowid_part ∷ []) → IsSound (keyed (text_bytes rowid_part) v)
last_sound [] [] v len sound = sound.0
last_sound [] (w ∷ values) v len sound = absurd (omega arith)
last_sound (t ∷ terms) [] v len sound = absurd (omega arith)
last_sound (t ∷ terms) (w ∷ values) v len sound = last_sound terms values v (omega arith) sound.1

pub sound_rowid : (terms : List KeyTerm) (r : StoredRow) → IsSoundEntry terms r → IsRowid r.rowid
sound_rowid terms r sound = last_sound terms (key_values terms r) (Integer r.rowid) (simp length-map) sound

pub rowid_in-entry : (terms : List KeyTerm) (r : StoredRow) → IsSoundEntry terms r → rowid_in (entry_key terms r) ≡ Some r.rowid
rowid_in-entry terms r sound =
    ap rowid_in (entry_key-splits terms r)
    ∙ ap rowid_of (last_eight (terms_key terms r) r.rowid)
    ∙ rowid_comes_back r.rowid (sound_rowid terms r sound)

-- rows of one key have one rowid
pub same_rowid : (terms : List KeyTerm) (a b : StoredRow) → IsSoundEntry terms a → IsSoundEntry terms b → entry_key terms a ≡ entry_key terms b → a.rowid ≡ b.rowid
same_rowid terms a b sound_a sound_b is =
    let e : Some a.rowid ≡ Some b.rowid = sym (rowid_in-entry terms a sound_a) ∙ ap rowid_in is ∙ rowid_in-entry terms b sound_b in
    cc
