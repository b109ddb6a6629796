-- Headers: the length that counts itself, and the types.
use Rattle.std.proofs.Common.{◌≡◌, ℕ, zero, suc, ◌+◌, ◌-◌, ◌^◌, ◌<◌, ◌≤◌, false, cond, eqb, leb, ltb, List, [], ◌∷◌, ◌++◌, length, take, drop, map, Option, Some, None, Ok, Err, refl, sym, ap, subst, ◌∙◌, arith}
use Rattle.std.specs.List.{flat_map, AllByRecursion}
use Rattle.std.proofs.lemmas.Bool.{cond_both, eq-eqb, eqb-true, leb-true, leb-false, le-ltb, ltb-false}
use Rattle.std.proofs.lemmas.List.{length-append, length-take-le, take_at, drop_at, take-append-drop}
use Rattle.eng_value.specs.declared.value.Value.{Value}
use Rattle.eng_record.specs.declared.record_error.RecordErr.TheVariants.{Short, NotShortest}
use Rattle.eng_record.specs.declared.serial_type.SerialType.{SerialType}
use Rattle.eng_record.specs.Spelling.{varint_len, varint, type_of, code, types_spelled, own_len_from, header_len, IsSpellableValue, IsSpellable}
use Rattle.eng_record.specs.Reading.{◌>>=◌, number_at, used, varint_at, type_of_code, or_bad_kind, type_at, types_in, header_len_at, header_at}
use Rattle.eng_record.proofs.Steps.{IsBytes, IsBytes-front, IsBytes-behind, step_ok, read, same_read, as_read, passes, goes_on}
use Rattle.eng_record.proofs.Varints.{varint_len_is, varint_len-le, length-varint, varint_read, varint_written, number_small}
use Rattle.eng_record.proofs.Types.{IsSmallType, type_is_small, type_again, type_written}

-- ---- the length

-- the search stops at the length of the number itself
own_len_is : (more k s : ℕ) → k + more ≡ 9 → k ≤ varint_len (s + k) → varint_len (s + own_len_from more k s) ≡ own_len_from more k s
own_len_is zero k s end least = omega (arith, (varint_len_is (s + k)).most)
own_len_is (suc more) k s end least =
    cond_both (leb (varint_len (s + k)) k) k (own_len_from more (suc k) s) (λ len. varint_len (s + len) ≡ len)
    (λ e. omega (arith, leb-true _ _ e))
    (λ e. own_len_is more (suc k) s (omega arith) (omega (arith, leb-false (varint_len (s + k)) k e, varint_len-le (s + k) (s + suc k) (omega arith))))

pub header_len_is : (s : ℕ) → header_len s ≡ s + varint_len (header_len s)
unfolding header_len
header_len_is s = ap (λ len. s + len) (sym (own_len_is 8 1 s refl (varint_len_is (s + 1)).least))

-- how many bytes a varint took
used_is : (n : ℕ) (rest : List ℕ) → used (varint n ++ rest) rest ≡ varint_len n
used_is n rest = omega (arith, length-append (varint n) rest, length-varint n)

header_len_again : (s : ℕ) (rest : List ℕ) → header_len s < 2 ^ 64 → header_len_at (varint (header_len s) ++ rest) ≡ Ok (s, rest)
unfolding header_len_at
header_len_again s rest fits =
    let n = header_len s in
    let long : ltb n (varint_len n) ≡ false = le-ltb _ _ (omega (arith, header_len_is s)) in
    let left : n - varint_len n ≡ s = omega (arith, header_len_is s) in
    rw (varint_read n rest fits, used_is n rest, long, left, eq-eqb n n refl) refl

-- the bytes of a header's length, and the bytes behind it
record IsHeaderLen (bytes : List ℕ) (s : ℕ) (rest : List ℕ) : Type 0 where
  small : header_len s < 2 ^ 64
  parts : bytes ≡ varint (header_len s) ++ rest

header_len_written : (bytes : List ℕ) (found : ℕ × List ℕ) → IsBytes bytes → header_len_at bytes ≡ Ok found → IsHeaderLen bytes found.0 found.1
unfolding header_len_at
header_len_written bytes found fits e =
    let s = step_ok (number_at bytes) (λ n. cond (ltb n.0 (used bytes n.1)) (Err Short) (cond (eqb n.0 (header_len (n.0 - used bytes n.1))) (Ok (n.0 - used bytes n.1, n.1)) (Err NotShortest))) found e in
    let n = s.0.0 in
    let rest = s.0.1 in
    let left = n - used bytes rest in
    let g = goes_on (ltb n (used bytes rest)) Short (cond (eqb n (header_len left)) (Ok (left, rest)) (Err NotShortest)) found s.2 in
    let p = passes (eqb n (header_len left)) NotShortest (left, rest) found g.1 in
    let same : n ≡ header_len left = eqb-true _ _ p.0 in
    let own : n ≡ left + varint_len n = same ∙ header_len_is left ∙ ap (λ m. left + varint_len m) (sym same) in
    let least : used bytes rest ≡ varint_len n = omega (arith, own, ltb-false n (used bytes rest) g.0) in
    let made : IsHeaderLen bytes left rest = record {
      small = subst (λ m. m < 2 ^ 64) same (number_small bytes n rest fits s.1);
      parts = varint_written bytes n rest fits s.1 least ∙ ap (λ m. varint m ++ rest) same;
    } in
    subst (λ (f : ℕ × List ℕ). IsHeaderLen bytes f.0 f.1) p.1 made

-- ---- the types

varint_again : (n : ℕ) (rest : List ℕ) → n < 2 ^ 64 → varint_at (varint n ++ rest) ≡ Ok (n, rest)
unfolding varint_at
varint_again n rest fits = rw (varint_read n rest fits, used_is n rest, eq-eqb (varint_len n) (varint_len n) refl) refl

type_at_again : (kind : SerialType) (rest : List ℕ) → IsSmallType kind → type_at (varint (code kind) ++ rest) ≡ Ok (kind, rest)
unfolding type_at
type_at_again kind rest h = rw (varint_again (code kind) rest h.small, type_again kind h.is_type) refl

-- a type at the front
record IsTypeAt (bytes : List ℕ) (kind : SerialType) (rest : List ℕ) : Type 0 where
  is_type : IsSmallType kind
  parts : bytes ≡ varint (code kind) ++ rest

found_kind : (o : Option SerialType) (rest : List ℕ) (found : SerialType × List ℕ) → or_bad_kind o rest ≡ Ok found → (o ≡ Some found.0) × (rest ≡ found.1)
found_kind None rest found e = absurd cc
found_kind (Some kind) rest found e =
    let same = same_read (kind, rest) found e in
    (ap (λ (f : SerialType × List ℕ). Some f.0) same, ap (λ (f : SerialType × List ℕ). f.1) same)

type_at_written : (bytes : List ℕ) (found : SerialType × List ℕ) → IsBytes bytes → type_at bytes ≡ Ok found → IsTypeAt bytes found.0 found.1
unfolding type_at varint_at
type_at_written bytes found fits e =
    let s = step_ok (varint_at bytes) (λ n. or_bad_kind (type_of_code n.0) n.1) found e in
    let t = step_ok (number_at bytes) (λ n. cond (eqb (used bytes n.1) (varint_len n.0)) (Ok n) (Err NotShortest)) s.0 s.1 in
    let p = passes (eqb (used bytes t.0.1) (varint_len t.0.0)) NotShortest t.0 s.0 t.2 in
    let kind = found_kind (type_of_code s.0.0) s.0.1 found s.2 in
    let coded = type_written s.0.0 found.0 kind.0 in
    let front : bytes ≡ varint t.0.0 ++ t.0.1 = varint_written bytes t.0.0 t.0.1 fits t.1 (eqb-true _ _ p.0) in
    let whole : bytes ≡ varint s.0.0 ++ s.0.1 = front ∙ ap (λ (n : ℕ × List ℕ). varint n.0 ++ n.1) p.1 in
    let small : s.0.0 < 2 ^ 64 = subst (λ (n : ℕ × List ℕ). n.0 < 2 ^ 64) p.1 (number_small bytes t.0.0 t.0.1 fits t.1) in
    record {
      is_type = record { is_type = coded.is_type; small = subst (λ m. m < 2 ^ 64) (sym coded.number) small };
      parts = whole ∙ ap (λ m. varint m ++ s.0.1) (sym coded.number) ∙ ap (λ (r : List ℕ). varint (code found.0) ++ r) kind.1;
    }

none_in : (most : ℕ) → types_in most [] ≡ Ok []
none_in zero = refl
none_in (suc more) = refl

more_in : (more : ℕ) (bytes : List ℕ) → 0 < length bytes → types_in (suc more) bytes ≡ (type_at bytes >>= λ first. types_in more first.1 >>= λ others. read (first.0 ∷ others))
more_in more [] some = absurd (omega arith)
more_in more (b ∷ bytes) some = refl

-- a varint has a byte at least
some_byte : (n : ℕ) (rest : List ℕ) → 0 < length (varint n ++ rest)
some_byte n rest = omega (arith, length-append (varint n) rest, length-varint n, (varint_len_is n).least)

-- the types of a row are read again
types_again : (most : ℕ) (row : List Value) → AllByRecursion IsSpellableValue row → length (types_spelled row) ≤ most → types_in most (types_spelled row) ≡ Ok (map type_of row)
types_again most [] h room = none_in most
types_again zero (v ∷ row) h room = absurd (omega (arith, some_byte (code (type_of v)) (types_spelled row)))
types_again (suc more) (v ∷ row) h room =
    let n = code (type_of v) in
    let others = types_spelled row in
    let shorter : length others ≤ more = omega (arith, length-append (varint n) others, length-varint n, (varint_len_is n).least) in
    more_in more (varint n ++ others) (some_byte n others) ∙ rw (type_at_again (type_of v) others (type_is_small v h.0), types_again more row h.1 shorter) refl

-- types one after another
abbrev pub kinds_spelled : List SerialType → List ℕ
kinds_spelled kinds = flat_map (λ kind. varint (code kind)) kinds

-- bytes that are types and nothing else
record IsTypes (bytes : List ℕ) (kinds : List SerialType) : Type 0 where
  are_types : AllByRecursion IsSmallType kinds
  parts : bytes ≡ kinds_spelled kinds

types_written : (most : ℕ) (bytes : List ℕ) (kinds : List SerialType) → IsBytes bytes → types_in most bytes ≡ Ok kinds → IsTypes bytes kinds
types_written zero [] kinds fits e = as_read (IsTypes []) [] kinds e (record { are_types = tt; parts = refl })
types_written (suc more) [] kinds fits e = as_read (IsTypes []) [] kinds e (record { are_types = tt; parts = refl })
types_written zero (b ∷ bytes) kinds fits e = absurd cc
types_written (suc more) (b ∷ bytes) kinds fits e =
    let s = step_ok (type_at (b ∷ bytes)) (λ first. types_in more first.1 >>= λ others. Ok (first.0 ∷ others)) kinds e in
    let t = step_ok (types_in more s.0.1) (λ others. Ok (s.0.0 ∷ others)) kinds s.2 in
    let first = type_at_written (b ∷ bytes) s.0 fits s.1 in
    let others = types_written more s.0.1 t.0 (IsBytes-behind (varint (code s.0.0)) s.0.1 (subst IsBytes first.parts fits)) t.1 in
    as_read (IsTypes (b ∷ bytes)) (s.0.0 ∷ t.0) kinds t.2 (record {
      are_types = (first.is_type, others.are_types);
      parts = first.parts ∙ ap (λ (rest : List ℕ). varint (code s.0.0) ++ rest) others.parts;
    })

-- ---- headers

pub header_again : (row : List Value) (rest : List ℕ) → IsSpellable row → header_at (varint (header_len (length (types_spelled row))) ++ (types_spelled row ++ rest)) ≡ Ok (map type_of row, rest)
unfolding header_at
header_again row rest h =
    let kinds = types_spelled row in
    let s = length kinds in
    let long : ltb (length (kinds ++ rest)) s ≡ false = le-ltb _ _ (omega (arith, length-append kinds rest)) in
    rw (header_len_again s (kinds ++ rest) h.header, take_at kinds rest s refl, types_again s row h.values (omega arith), long, drop_at kinds rest s refl) refl

-- a header and the bytes behind it
pub record IsHeader (bytes : List ℕ) (kinds : List SerialType) (rest : List ℕ) : Type 0 where
  pub are_types : AllByRecursion IsSmallType kinds
  pub small : header_len (length (kinds_spelled kinds)) < 2 ^ 64
  pub parts : bytes ≡ varint (header_len (length (kinds_spelled kinds))) ++ (kinds_spelled kinds ++ rest)

header_parts : (bytes : List ℕ) (s : ℕ) (behind : List ℕ) (kinds : List SerialType) → IsHeaderLen bytes s behind → s ≤ length behind → IsTypes (take s behind) kinds → IsHeader bytes kinds (drop s behind)
header_parts bytes s behind kinds len long types =
    let size : s ≡ length (kinds_spelled kinds) = sym (length-take-le s behind long) ∙ ap length types.parts in
    let split : behind ≡ kinds_spelled kinds ++ drop s behind = sym (take-append-drop s behind) ∙ ap (λ (ts : List ℕ). ts ++ drop s behind) types.parts in
    record {
      are_types = types.are_types;
      small = subst (λ m. header_len m < 2 ^ 64) size len.small;
      parts = len.parts ∙ ap (λ m. varint (header_len m) ++ behind) size ∙ ap (λ (r : List ℕ). varint (header_len (length (kinds_spelled kinds))) ++ r) split;
    }

-- a header that is read is that of its types
pub header_written : (bytes : List ℕ) (found : List SerialType × List ℕ) → IsBytes bytes → header_at bytes ≡ Ok found → IsHeader bytes found.0 found.1
unfolding header_at
header_written bytes found fits e =
    let n = step_ok (header_len_at bytes) (λ n. types_in n.0 (take n.0 n.1) >>= λ kinds. cond (ltb (length n.1) n.0) (Err Short) (Ok (kinds, drop n.0 n.1))) found e in
    let s = n.0.0 in
    let behind = n.0.1 in
    let t = step_ok (types_in s (take s behind)) (λ kinds. cond (ltb (length behind) s) (Err Short) (Ok (kinds, drop s behind))) found n.2 in
    let g = goes_on (ltb (length behind) s) Short (Ok (t.0, drop s behind)) found t.2 in
    let len = header_len_written bytes n.0 fits n.1 in
    let behind_fits : IsBytes behind = IsBytes-behind (varint (header_len s)) behind (subst IsBytes len.parts fits) in
    let front_fits : IsBytes (take s behind) = IsBytes-front (take s behind) (drop s behind) (subst IsBytes (sym (take-append-drop s behind)) behind_fits) in
    let types = types_written s (take s behind) t.0 front_fits t.1 in
    as_read (λ (f : List SerialType × List ℕ). IsHeader bytes f.0 f.1) (t.0, drop s behind) found g.1 (header_parts bytes s behind t.0 len (ltb-false _ _ g.0) types)
