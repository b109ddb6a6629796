-- The bytes of values in the keys of rows: they show where they end, and stand to one another as the values.
use Rattle.std.proofs.Common.{◌≡◌, ℕ, zero, suc, ◌-◌, ◌<◌, List, [], ◌∷◌, ◌++◌, Bool, true, false, ℤ, length, map, get_or, if◌then◌else◌, refl, sym, ap, ap₂, ◌∙◌, arith, append_assoc}
use Rattle.std.proofs.lemmas.List.{length-map}
use Rattle.std.specs.List.{flat_map}
use Rattle.std.specs.Cmp.{nat_cmp_is}
use Rattle.std.specs.Ordering.{int_cmp, nat_cmp, ordering_then}
use Rattle.std.specs.declared.cmp.Ordering.{Ordering}
use Rattle.std.specs.declared.cmp.Ordering.TheVariants.{Less, Equal, Greater}
use Rattle.std.proofs.lemmas.Cmp.{ranked, by_ranked}
use Rattle.eng_value.specs.Compare.{bytes_cmp}
use Rattle.eng_value.specs.declared.value.Value.{Value}
use Rattle.eng_value.specs.declared.value.Value.TheVariants.{Null, Integer, Text, Blob}
use Rattle.eng_key.specs.Rowids.{IsRowid, rowid_key}
use Rattle.eng_key.specs.RowKeys.{AreBytes, IsSound, class_byte, classed, directed_cmp, ended, null_byte, spelled, spelled_value, turned}
use Rattle.eng_key.proofs.RowidLaws.{keys_keep_the_order, length-rowid_key, rowid_key-bytes}

lt_cmp : (a b : ℕ) → a < b → nat_cmp a b ≡ Less
lt_cmp a b lt = sym (nat_cmp_is a b Less lt)

gt_cmp : (a b : ℕ) → b < a → nat_cmp a b ≡ Greater
gt_cmp a b lt = sym (nat_cmp_is a b Greater lt)

eq_cmp : (a : ℕ) → nat_cmp a a ≡ Equal
eq_cmp a = sym (nat_cmp_is a a Equal refl)

pub then_assoc : (o p q : Ordering) → ordering_then (ordering_then o p) q ≡ ordering_then o (ordering_then p q)
then_assoc Less p q = refl
then_assoc Equal p q = refl
then_assoc Greater p q = refl

pub then-Equal : (o : Ordering) → ordering_then o Equal ≡ o
then-Equal Less = refl
then-Equal Equal = refl
then-Equal Greater = refl

-- ---- bytes that are counted from 255 down

abbrev down : ℕ → ℕ
down b = 255 - b

nat_cmp-down : (a b : ℕ) → a < 256 → b < 256 → nat_cmp (down a) (down b) ≡ nat_cmp b a
nat_cmp-down a b h k =
    by_ranked _ _ _ (nat_cmp b a) (ranked b a _ refl)
    (λ is less. lt_cmp (down a) (down b) (omega arith) ∙ sym is)
    (λ is same. sym (nat_cmp_is (down a) (down b) Equal (omega arith)) ∙ sym is)
    (λ is greater. gt_cmp (down a) (down b) (omega arith) ∙ sym is)

-- of one length, they stand the other way round
bytes_cmp-down : (a b : List ℕ) → length a ≡ length b → AreBytes a → AreBytes b → bytes_cmp (map down a) (map down b) ≡ bytes_cmp b a
bytes_cmp-down [] [] len h k = refl
bytes_cmp-down [] (y ∷ b) len h k = absurd (omega arith)
bytes_cmp-down (x ∷ a) [] len h k = absurd (omega arith)
bytes_cmp-down (x ∷ a) (y ∷ b) len h k =
    ap₂ ordering_then (nat_cmp-down x y h.0 k.0) (bytes_cmp-down a b (omega arith) h.1 k.1)

-- ---- what stands behind counts only where the bytes in front are equal

-- of bytes of one length
bytes_cmp-same_length : (a b x y : List ℕ) → length a ≡ length b → bytes_cmp (a ++ x) (b ++ y) ≡ ordering_then (bytes_cmp a b) (bytes_cmp x y)
bytes_cmp-same_length [] [] x y len = refl
bytes_cmp-same_length [] (d ∷ b) x y len = absurd (omega arith)
bytes_cmp-same_length (c ∷ a) [] x y len = absurd (omega arith)
bytes_cmp-same_length (c ∷ a) (d ∷ b) x y len =
    ap (ordering_then (nat_cmp c d)) (bytes_cmp-same_length a b x y (omega arith)) ∙ sym (then_assoc (nat_cmp c d) (bytes_cmp a b) (bytes_cmp x y))

-- where the first ones differ
below : (c d : ℕ) (x y : List ℕ) → c < d → bytes_cmp (c ∷ x) (d ∷ y) ≡ Less
below c d x y lt = ap (λ o. ordering_then o (bytes_cmp x y)) (lt_cmp c d lt)

above : (c d : ℕ) (x y : List ℕ) → d < c → bytes_cmp (c ∷ x) (d ∷ y) ≡ Greater
above c d x y lt = ap (λ o. ordering_then o (bytes_cmp x y)) (gt_cmp c d lt)

-- of bytes with their end
bytes_cmp-ended : (a b x y : List ℕ) → bytes_cmp (ended a ++ x) (ended b ++ y) ≡ ordering_then (bytes_cmp a b) (bytes_cmp x y)
bytes_cmp-ended [] [] x y = refl
bytes_cmp-ended [] (zero ∷ b) x y = refl
bytes_cmp-ended [] (suc d ∷ b) x y = below 0 (suc d) (0 ∷ x) (ended b ++ y) (omega arith)
bytes_cmp-ended (zero ∷ a) [] x y = refl
bytes_cmp-ended (suc c ∷ a) [] x y = above (suc c) 0 (ended a ++ x) (0 ∷ y) (omega arith)
bytes_cmp-ended (zero ∷ a) (zero ∷ b) x y = bytes_cmp-ended a b x y
bytes_cmp-ended (zero ∷ a) (suc d ∷ b) x y =
    below 0 (suc d) (255 ∷ (ended a ++ x)) (ended b ++ y) (omega arith) ∙ sym (ap (λ o. ordering_then o (bytes_cmp x y)) (below 0 (suc d) a b (omega arith)))
bytes_cmp-ended (suc c ∷ a) (zero ∷ b) x y =
    above (suc c) 0 (ended a ++ x) (255 ∷ (ended b ++ y)) (omega arith) ∙ sym (ap (λ o. ordering_then o (bytes_cmp x y)) (above (suc c) 0 a b (omega arith)))
bytes_cmp-ended (suc c ∷ a) (suc d ∷ b) x y =
    ap (ordering_then (nat_cmp (suc c) (suc d))) (bytes_cmp-ended a b x y) ∙ sym (then_assoc (nat_cmp (suc c) (suc d)) (bytes_cmp a b) (bytes_cmp x y))

-- of these, descending
bytes_cmp-ended_down : (a b x y : List ℕ) → AreBytes a → AreBytes b → bytes_cmp (map down (ended a) ++ x) (map down (ended b) ++ y) ≡ ordering_then (bytes_cmp b a) (bytes_cmp x y)
bytes_cmp-ended_down [] [] x y h k = refl
bytes_cmp-ended_down [] (zero ∷ b) x y h k = refl
bytes_cmp-ended_down [] (suc d ∷ b) x y h k = above 255 (down (suc d)) (255 ∷ x) (map down (ended b) ++ y) (omega arith)
bytes_cmp-ended_down (zero ∷ a) [] x y h k = refl
bytes_cmp-ended_down (suc c ∷ a) [] x y h k = below (down (suc c)) 255 (map down (ended a) ++ x) (255 ∷ y) (omega arith)
bytes_cmp-ended_down (zero ∷ a) (zero ∷ b) x y h k = bytes_cmp-ended_down a b x y h.1 k.1
bytes_cmp-ended_down (zero ∷ a) (suc d ∷ b) x y h k =
    above 255 (down (suc d)) (0 ∷ (map down (ended a) ++ x)) (map down (ended b) ++ y) (omega arith) ∙ sym (ap (λ o. ordering_then o (bytes_cmp x y)) (above (suc d) 0 b a (omega arith)))
bytes_cmp-ended_down (suc c ∷ a) (zero ∷ b) x y h k =
    below (down (suc c)) 255 (map down (ended a) ++ x) (0 ∷ (map down (ended b) ++ y)) (omega arith) ∙ sym (ap (λ o. ordering_then o (bytes_cmp x y)) (below 0 (suc c) b a (omega arith)))
bytes_cmp-ended_down (suc c ∷ a) (suc d ∷ b) x y h k =
    ap₂ ordering_then (nat_cmp-down (suc c) (suc d) h.0 k.0) (bytes_cmp-ended_down a b x y h.1 k.1) ∙ sym (then_assoc (nat_cmp (suc d) (suc c)) (bytes_cmp b a) (bytes_cmp x y))

-- ---- values

-- behind the same class the bytes decide
same_class : (c : ℕ) (x y : List ℕ) → bytes_cmp (c ∷ x) (c ∷ y) ≡ bytes_cmp x y
same_class c x y = ap (λ o. ordering_then o (bytes_cmp x y)) (eq_cmp c)

strings : (desc : Bool) (class : ℕ) (a b x y : List ℕ) → AreBytes a → AreBytes b → bytes_cmp (classed desc class (ended a) ++ x) (classed desc class (ended b) ++ y) ≡ ordering_then (if desc then bytes_cmp b a else bytes_cmp a b) (bytes_cmp x y)
strings false class a b x y h k = same_class class (ended a ++ x) (ended b ++ y) ∙ bytes_cmp-ended a b x y
strings true class a b x y h k =
    same_class (4 - class) (map down (ended a) ++ x) (map down (ended b) ++ y) ∙ bytes_cmp-ended_down a b x y h k

pub are_bytes : (bytes : List ℕ) → ((i : ℕ) → get_or bytes i 0 < 256) → AreBytes bytes
are_bytes [] each = tt
are_bytes (b ∷ bytes) each = (each 0, are_bytes bytes (λ i. each (suc i)))

rowid_key-are_bytes : (n : ℤ) → AreBytes (rowid_key n)
rowid_key-are_bytes n = are_bytes (rowid_key n) (rowid_key-bytes n)

same_length : (m n : ℤ) → length (rowid_key m) ≡ length (rowid_key n)
same_length m n = length-rowid_key m ∙ sym (length-rowid_key n)

integers : (desc : Bool) (m n : ℤ) (x y : List ℕ) → IsRowid m → IsRowid n → bytes_cmp (classed desc 1 (rowid_key m) ++ x) (classed desc 1 (rowid_key n) ++ y) ≡ ordering_then (if desc then int_cmp n m else int_cmp m n) (bytes_cmp x y)
integers false m n x y h k =
    same_class 1 (rowid_key m ++ x) (rowid_key n ++ y)
    ∙ bytes_cmp-same_length (rowid_key m) (rowid_key n) x y (same_length m n)
    ∙ ap (λ o. ordering_then o (bytes_cmp x y)) (keys_keep_the_order m n h k)
integers true m n x y h k =
    same_class 3 (map down (rowid_key m) ++ x) (map down (rowid_key n) ++ y)
    ∙ bytes_cmp-same_length (map down (rowid_key m)) (map down (rowid_key n)) x y (length-map (rowid_key m) down ∙ same_length m n ∙ sym (length-map (rowid_key n) down))
    ∙ ap (λ o. ordering_then o (bytes_cmp x y)) (bytes_cmp-down (rowid_key m) (rowid_key n) (same_length m n) (rowid_key-are_bytes m) (rowid_key-are_bytes n) ∙ keys_keep_the_order n m k h)

-- of other classes
lower_class : (desc : Bool) (c d : ℕ) (a b x y : List ℕ) → c < d → d < 4 → bytes_cmp (classed desc c a ++ x) (classed desc d b ++ y) ≡ ordering_then (if desc then Greater else Less) (bytes_cmp x y)
lower_class false c d a b x y lt le = below c d (a ++ x) (b ++ y) lt
lower_class true c d a b x y lt le = above (4 - c) (4 - d) (map down a ++ x) (map down b ++ y) (omega arith)

higher_class : (desc : Bool) (c d : ℕ) (a b x y : List ℕ) → d < c → c < 4 → bytes_cmp (classed desc c a ++ x) (classed desc d b ++ y) ≡ ordering_then (if desc then Less else Greater) (bytes_cmp x y)
higher_class false c d a b x y lt le = above c d (a ++ x) (b ++ y) lt
higher_class true c d a b x y lt le = below (4 - c) (4 - d) (map down a ++ x) (map down b ++ y) (omega arith)

-- of NULL and a class
class_within : (desc : Bool) (c : ℕ) → 0 < c → c < 4 → (0 < class_byte desc c) × (class_byte desc c < 4)
class_within false c lt le = (lt, le)
class_within true c lt le = (omega arith, omega arith)

null_beside : (desc nulls_first : Bool) (c : ℕ) (a x y : List ℕ) → 0 < c → c < 4 → bytes_cmp (null_byte nulls_first ∷ x) (classed desc c a ++ y) ≡ ordering_then (if nulls_first then Less else Greater) (bytes_cmp x y)
null_beside desc true c a x y lt le = below 0 (class_byte desc c) x (turned desc a ++ y) (class_within desc c lt le).0
null_beside desc false c a x y lt le = above 4 (class_byte desc c) x (turned desc a ++ y) (class_within desc c lt le).1

beside_null : (desc nulls_first : Bool) (c : ℕ) (a x y : List ℕ) → 0 < c → c < 4 → bytes_cmp (classed desc c a ++ x) (null_byte nulls_first ∷ y) ≡ ordering_then (if nulls_first then Greater else Less) (bytes_cmp x y)
beside_null desc true c a x y lt le = above (class_byte desc c) 0 (turned desc a ++ x) y (class_within desc c lt le).0
beside_null desc false c a x y lt le = below (class_byte desc c) 4 (turned desc a ++ x) y (class_within desc c lt le).1

pub spelled_value-cmp : (desc nulls_first : Bool) (v w : Value) (x y : List ℕ) → IsSound v → IsSound w → bytes_cmp (spelled_value desc nulls_first v ++ x) (spelled_value desc nulls_first w ++ y) ≡ ordering_then (directed_cmp desc nulls_first v w) (bytes_cmp x y)
unfolding spelled_value
spelled_value-cmp desc first Null Null x y h k = same_class (null_byte first) x y
spelled_value-cmp desc first Null (Integer n) x y h k = null_beside desc first 1 (rowid_key n) x y (omega arith) (omega arith)
spelled_value-cmp desc first Null (Text t) x y h k = null_beside desc first 2 (ended t) x y (omega arith) (omega arith)
spelled_value-cmp desc first Null (Blob t) x y h k = null_beside desc first 3 (ended t) x y (omega arith) (omega arith)
spelled_value-cmp desc first (Integer m) Null x y h k = beside_null desc first 1 (rowid_key m) x y (omega arith) (omega arith)
spelled_value-cmp desc first (Integer m) (Integer n) x y h k = integers desc m n x y h k
spelled_value-cmp desc first (Integer m) (Text t) x y h k = lower_class desc 1 2 (rowid_key m) (ended t) x y (omega arith) (omega arith)
spelled_value-cmp desc first (Integer m) (Blob t) x y h k = lower_class desc 1 3 (rowid_key m) (ended t) x y (omega arith) (omega arith)
spelled_value-cmp desc first (Text s) Null x y h k = beside_null desc first 2 (ended s) x y (omega arith) (omega arith)
spelled_value-cmp desc first (Text s) (Integer n) x y h k = higher_class desc 2 1 (ended s) (rowid_key n) x y (omega arith) (omega arith)
spelled_value-cmp desc first (Text s) (Text t) x y h k = strings desc 2 s t x y h k
spelled_value-cmp desc first (Text s) (Blob t) x y h k = lower_class desc 2 3 (ended s) (ended t) x y (omega arith) (omega arith)
spelled_value-cmp desc first (Blob s) Null x y h k = beside_null desc first 3 (ended s) x y (omega arith) (omega arith)
spelled_value-cmp desc first (Blob s) (Integer n) x y h k = higher_class desc 3 1 (ended s) (rowid_key n) x y (omega arith) (omega arith)
spelled_value-cmp desc first (Blob s) (Text t) x y h k = higher_class desc 3 2 (ended s) (ended t) x y (omega arith) (omega arith)
spelled_value-cmp desc first (Blob s) (Blob t) x y h k = strings desc 3 s t x y h k

-- each begins below what stands behind all
pub spelled_value-begins : (desc nulls_first : Bool) (v : Value) (x : List ℕ) → bytes_cmp (spelled_value desc nulls_first v ++ x) (5 ∷ []) ≡ Less
unfolding spelled_value
spelled_value-begins desc true Null x = refl
spelled_value-begins desc false Null x = refl
spelled_value-begins false first (Integer n) x = refl
spelled_value-begins true first (Integer n) x = refl
spelled_value-begins false first (Text t) x = refl
spelled_value-begins true first (Text t) x = refl
spelled_value-begins false first (Blob t) x = refl
spelled_value-begins true first (Blob t) x = refl

-- ---- as it is written

pub spelled_zero : (b : ℕ) → b ≡ 0 → spelled b ≡ 0 ∷ 255 ∷ []
spelled_zero b is = ap spelled is

pub spelled_other : (b : ℕ) → (b ≡ 0 → ⊥) → spelled b ≡ b ∷ []
spelled_other zero other = absurd (other refl)
spelled_other (suc b) other = refl

turned-append : (desc : Bool) (a b : List ℕ) → turned desc (a ++ b) ≡ turned desc a ++ turned desc b
turned-append false a b = refl
turned-append true [] b = refl
turned-append true (x ∷ a) b = ap (λ l. down x ∷ l) (turned-append true a b)

-- byte after byte, and then the end
pub turned_ended : (desc : Bool) (bytes : List ℕ) → turned desc (ended bytes) ≡ flat_map (λ b. turned desc (spelled b)) bytes ++ turned desc (0 ∷ 0 ∷ [])
turned_ended desc [] = refl
turned_ended desc (b ∷ bytes) =
    turned-append desc (spelled b) (ended bytes)
    ∙ ap (λ l. turned desc (spelled b) ++ l) (turned_ended desc bytes)
    ∙ sym (append_assoc (turned desc (spelled b)) (flat_map (λ c. turned desc (spelled c)) bytes) (turned desc (0 ∷ 0 ∷ [])))
