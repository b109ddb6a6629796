-- The keys of rows: part by part, each with its end, so that the bytes of two keys stand to one another as the rows do (Datatypes In
-- SQLite, sections 4.1 and 7; SELECT, section 4).
use Rattle.std.specs.Prelude.{◌≡◌, ℕ, zero, suc, ◌-◌, ◌<◌, Bool, true, false, List, [], ◌∷◌, ◌++◌, length, map, codes, pos, negsuc, replicate, if◌then◌else◌, ⊤, Option, Some, None, refl}
use Rattle.std.specs.List.{AllByRecursion}
use Rattle.std.specs.Ordering.{ordering_then, is_le, is_lt}
use Rattle.std.specs.declared.cmp.Ordering.{Ordering}
use Rattle.std.specs.declared.cmp.Ordering.TheVariants.{Less, Equal, Greater}
use Rattle.eng_value.specs.Collations.{keyed, text_key}
use Rattle.eng_value.specs.Compare.{bytes_cmp, value_cmp}
use Rattle.eng_value.specs.declared.built.Built.TheVariants as built
use Rattle.eng_value.specs.declared.value.Value.{Value}
use Rattle.eng_value.specs.declared.value.Value.TheVariants.{Null, Integer, Text, Blob}
use Rattle.eng_key.specs.Rowids.{IsRowid, rowid_key}
use Rattle.eng_key.specs.declared.key_part.KeyPart.{KeyPart}

-- ---- bytes that show where they end

-- behind a zero stands 255
abbrev pub spelled : ℕ → List ℕ
spelled zero = 0 ∷ 255 ∷ []
spelled (suc b) = suc b ∷ []

-- two zeros are the end
abbrev pub ended : List ℕ → List ℕ
ended [] = 0 ∷ 0 ∷ []
ended (b ∷ bytes) = spelled b ++ ended bytes

-- descending, bytes are counted from 255 down
abbrev pub turned : Bool → List ℕ → List ℕ
turned false bytes = bytes
turned true bytes = map (λ b. 255 - b) bytes

-- ---- values

-- the classes from 1 to 3, which descending are counted from 4 down
abbrev pub class_byte : Bool → ℕ → ℕ
class_byte false class = class
class_byte true class = 4 - class

abbrev pub classed : Bool → ℕ → List ℕ → List ℕ
classed desc class bytes = class_byte desc class ∷ turned desc bytes

-- NULL stands below each class, or above each, whatever the direction
abbrev pub null_byte : Bool → ℕ
null_byte true = 0
null_byte false = 4

-- a value, descending or not, with NULL first or last
unfoldable pub spelled_value : Bool → Bool → Value → List ℕ
spelled_value desc nulls_first Null = null_byte nulls_first ∷ []
spelled_value desc nulls_first (Integer n) = classed desc 1 (rowid_key n)
spelled_value desc nulls_first (Text text) = classed desc 2 (ended text)
spelled_value desc nulls_first (Blob bytes) = classed desc 3 (ended bytes)

-- how two values stand to one another so: NULL first or last, the others as they are ordered or the other way round
abbrev pub directed_cmp : Bool → Bool → Value → Value → Ordering
directed_cmp desc nulls_first Null Null = Equal
directed_cmp desc nulls_first Null w = if nulls_first then Less else Greater
directed_cmp desc nulls_first v Null = if nulls_first then Greater else Less
directed_cmp desc nulls_first v w = if desc then value_cmp w v else value_cmp v w

-- ---- rows

-- the key that a host gave where there is one
abbrev pub host_or : Option (List ℕ) → List ℕ → List ℕ
host_or None own = own
host_or (Some key) own = key

-- the bytes by which a text is compared in a part
abbrev pub text_bytes : KeyPart → List ℕ → List ℕ
text_bytes part text = host_or part.host (text_key part.coll text)

-- the row with these bytes in the place of its texts; without the values that have no part
abbrev pub keyed_row : List Value → List KeyPart → List Value
keyed_row [] parts = []
keyed_row (v ∷ row) [] = []
keyed_row (v ∷ row) (p ∷ parts) = keyed (text_bytes p) v ∷ keyed_row row parts

-- how two such rows stand to one another: by the first part in which they differ
abbrev pub row_cmp : List KeyPart → List Value → List Value → Ordering
row_cmp (p ∷ parts) (v ∷ row) (w ∷ other) = ordering_then (directed_cmp p.desc p.nulls_first v w) (row_cmp parts row other)
row_cmp parts row other = Equal

abbrev pub part_key : KeyPart → Value → List ℕ
part_key part v = spelled_value part.desc part.nulls_first (keyed (text_bytes part) v)

-- the key of a row; where there are fewer values than parts it is that of a front
abbrev pub row_key : List Value → List KeyPart → List ℕ
row_key [] parts = []
row_key (v ∷ row) [] = []
row_key (v ∷ row) (p ∷ parts) = part_key p v ++ row_key row parts

-- behind each key that begins with this front
abbrev pub behind_front : List ℕ → List ℕ
behind_front front = front ++ 5 ∷ []

-- ---- what keys promise

abbrev pub AreBytes : List ℕ → Type 0
AreBytes bytes = AllByRecursion (λ b. b < 256) bytes

-- an integer has 64 bits, and bytes are bytes
abbrev pub IsSound : Value → Type 0
IsSound Null = ⊤
IsSound (Integer n) = IsRowid n
IsSound (Text text) = AreBytes text
IsSound (Blob bytes) = AreBytes bytes

abbrev pub IsSoundRow : List Value → List KeyPart → Type 0
IsSoundRow row parts = AllByRecursion IsSound (keyed_row row parts)

-- parts that order alike; the keys of hosts are those of each row
abbrev pub AreAlike : List KeyPart → List KeyPart → Type 0
AreAlike [] [] = ⊤
AreAlike [] (q ∷ others) = ⊥
AreAlike (p ∷ parts) [] = ⊥
AreAlike (p ∷ parts) (q ∷ others) = (p.desc ≡ q.desc) × (p.nulls_first ≡ q.nulls_first) × AreAlike parts others

-- the key of this row stands to the keys of all others, byte by byte, as the rows do
abbrev pub KeepsOrder : List Value → List KeyPart → List ℕ → Type 0
KeepsOrder row parts key =
    (other : List Value) (others : List KeyPart) → length row ≡ length other → AreAlike parts others → IsSoundRow other others
    → bytes_cmp key (row_key other others) ≡ row_cmp parts (keyed_row row parts) (keyed_row other others)

-- a key is below a front exactly where the row's front is below that of the front's row, and below what stands behind the front
-- exactly where it isn't above: so just those that begin with the front lie between
abbrev pub FrontsBound : Type 0
FrontsBound =
    (row rest front : List Value) (parts others : List KeyPart) → length row ≡ length front → AreAlike parts others → IsSoundRow row parts → IsSoundRow front others
    → (is_lt (bytes_cmp (row_key (row ++ rest) parts) (row_key front others)) ≡ is_lt (row_cmp parts (keyed_row row parts) (keyed_row front others)))
    × (is_lt (bytes_cmp (row_key (row ++ rest) parts) (behind_front (row_key front others))) ≡ is_le (row_cmp parts (keyed_row row parts) (keyed_row front others)))

-- ---- examples

abbrev ascending : KeyPart
ascending = record { coll = built.Binary; host = None; desc = false; nulls_first = true }

abbrev descending : KeyPart
descending = record { coll = built.NoCase; host = None; desc = true; nulls_first = true }

rows : row_key (Text (codes "a") ∷ Null ∷ []) (ascending ∷ descending ∷ []) ≡ 2 ∷ 97 ∷ 0 ∷ 0 ∷ 0 ∷ []
unfolding spelled_value
rows = refl

zeros_and_ends : row_key (Blob (0 ∷ 255 ∷ []) ∷ Integer (pos 0) ∷ []) (ascending ∷ ascending ∷ []) ≡ 3 ∷ 0 ∷ 255 ∷ 255 ∷ 0 ∷ 0 ∷ 1 ∷ 128 ∷ replicate 7 0
unfolding spelled_value rowid_key
zeros_and_ends = refl

turned_round : row_key (Text (codes "A") ∷ Integer (negsuc 0) ∷ []) (descending ∷ descending ∷ []) ≡ 2 ∷ 158 ∷ 255 ∷ 255 ∷ 3 ∷ 128 ∷ replicate 7 0
unfolding spelled_value rowid_key
turned_round = refl

given_by_a_host : row_key (Text (codes "z") ∷ []) (record ascending { host = Some (1 ∷ []); nulls_first = false } ∷ []) ≡ 2 ∷ 1 ∷ 0 ∷ 0 ∷ []
unfolding spelled_value
given_by_a_host = refl
