-- The indexes of a table's rows, as they come and go.
use Rattle.std.proofs.Common.{◌≡◌, ℕ, zero, suc, ◌<◌, List, [], ◌∷◌, ◌++◌, Some, length, refl, sym, ap, ◌∙◌, subst, arith}
use Rattle.std.specs.Prelude.{slice_get, slice_set}
use Rattle.std.specs.List.{remove}
use Rattle.eng_index.specs.Stored.{Indexed, IsIndexOf, put_row}
use Rattle.eng_index.specs.declared.key_term.KeyTerm.{KeyTerm}
use Rattle.eng_index.proofs.Lists.{all-append}
use Rattle.eng_value.specs.StoredRows.{StoredRow}
use Rattle.vm_tables.specs.Indexes.{AreIndexesOf, AreInsertedFrom, IsBy}

-- ---- one index

pub place_within : (terms : List KeyTerm) (indexes : List Indexed) (place : ℕ) → IsBy terms indexes place → place < length indexes
place_within terms [] place by = absurd (cc)
place_within terms (x ∷ xs) zero by = omega arith
place_within terms (x ∷ xs) (suc k) by = let rest = place_within terms xs k by in omega (arith, rest)

-- the index that is there
pub index_there : (terms : List KeyTerm) (indexes : List Indexed) (place : ℕ) (index : Indexed) (rows : List StoredRow) → IsBy terms indexes place → slice_get indexes place ≡ Some index → AreIndexesOf indexes rows → (index.terms ≡ terms) × IsIndexOf index rows
index_there terms [] place index rows by is are = absurd (cc)
index_there terms (x ∷ xs) zero index rows by is are =
    let this : x ≡ index = cc in
    let that : by.0 ≡ index = cc in
    (ap (λ (i : Indexed). i.terms) (sym that) ∙ by.2, subst (λ i. IsIndexOf i rows) this are.0)
index_there terms (x ∷ xs) (suc k) index rows by is are = index_there terms xs k index rows by is are.1

-- one more, behind the others
pub last_place : (terms : List KeyTerm) (indexes : List Indexed) (index : Indexed) → index.terms ≡ terms → IsBy terms (indexes ++ index ∷ []) (length indexes)
last_place terms [] index is = (index, refl, is)
last_place terms (x ∷ xs) index is = last_place terms xs index is

pub one_built : (indexes : List Indexed) (index : Indexed) (rows : List StoredRow) → IsIndexOf index rows → AreIndexesOf indexes rows → AreIndexesOf (indexes ++ index ∷ []) rows
one_built indexes index rows is are = all-append (λ (i : Indexed). IsIndexOf i rows) indexes (index ∷ []) are (is, tt)

-- ---- the entry of a row goes into one after another, from the last on

pub none_inserted : (rows : List StoredRow) (row : StoredRow) (indexes : List Indexed) → AreIndexesOf indexes rows → AreInsertedFrom (length indexes) rows row indexes
none_inserted rows row [] are = (tt, tt)
none_inserted rows row (x ∷ xs) are = let rest = none_inserted rows row xs are.1 in ((are.0, rest.0), rest.1)

pub one_inserted : (rows : List StoredRow) (row : StoredRow) (indexes : List Indexed) (place : ℕ) (index new : Indexed) → slice_get indexes place ≡ Some index → (IsIndexOf index rows → IsIndexOf new (put_row rows row)) → AreInsertedFrom (suc place) rows row indexes → AreInsertedFrom place rows row (slice_set indexes place new)
one_inserted rows row [] place index new is insert from = absurd (cc)
one_inserted rows row (x ∷ xs) zero index new is insert from = let same : x ≡ index = cc in (tt, (insert (subst (λ i. IsIndexOf i rows) same from.0.0), from.1))
one_inserted rows row (x ∷ xs) (suc k) index new is insert from =
    let rest = one_inserted rows row xs k index new is insert (from.0.1, from.1) in
    ((from.0.0, rest.0), rest.1)

-- one that is dropped instead
pub one_dropped : (rows : List StoredRow) (row : StoredRow) (indexes : List Indexed) (place : ℕ) (new : Indexed) → place < length indexes → AreInsertedFrom (suc place) rows row indexes → AreInsertedFrom place rows row (remove (slice_set indexes place new) place)
one_dropped rows row [] place new lt from = absurd (omega arith)
one_dropped rows row (x ∷ xs) zero new lt from = (tt, from.1)
one_dropped rows row (x ∷ xs) (suc k) new lt from =
    let rest = one_dropped rows row xs k new (omega arith) (from.0.1, from.1) in
    ((from.0.0, rest.0), rest.1)
