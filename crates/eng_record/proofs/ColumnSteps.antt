-- The value in a place of a record is that of its row, and a loop that passes by the values in front of it comes to it.
use Rattle.std.proofs.Common.{◌≡◌, ℕ, zero, suc, ◌-◌, ◌<◌, false, cond, eqb, ltb, List, [], ◌∷◌, length, get_or, take, drop, min, Ok, Err, refl, sym, ap, ◌∙◌, arith, pos}
use Rattle.std.proofs.lemmas.Bool.{ltb-false, le-ltb, eqb-false}
use Rattle.std.proofs.lemmas.List.{drop_min, get_or_past, take_min}
use Rattle.std.specs.Str.{is_utf8}
use Rattle.eng_value.specs.declared.value.Value.{Value}
use Rattle.eng_value.specs.declared.value.Value.TheVariants as value
use Rattle.eng_record.specs.declared.record_error.RecordErr.{RecordErr}
use Rattle.eng_record.specs.declared.record_error.RecordErr.TheVariants as errors
use Rattle.eng_record.specs.declared.serial_type.SerialType.{SerialType}
use Rattle.eng_record.specs.declared.serial_type.SerialType.TheVariants as types
use Rattle.eng_record.specs.Spelling.{integer_len}
use Rattle.eng_record.specs.Columns.{body_among, body_len, body_of, column_at, value_at}
use Rattle.eng_record.specs.Reading.{Read, ◌>>=◌, IsFault, header_len_at, header_at, record_at, reading, type_at, types_in, front, signed, body_at, bodies_at}
use Rattle.eng_record.proofs.Steps.{read, step_ok, passes, goes_on, same_read}
use Rattle.eng_record.proofs.ReadingLoops.{fault_of, type_shorter, types_in_enough, region_types}

-- the values whose types and bodies are still to be read
record Stands (kinds_in bodies : List ℕ) (values : List Value) : Type 0 where
  kinds : List SerialType
  rest : List ℕ
  kinds_are : types_in (length kinds_in) kinds_in ≡ Ok kinds
  values_are : bodies_at kinds bodies ≡ Ok (values, rest)

-- ---- the start

-- a row's record has a header
has_header : (bytes : List ℕ) (row : List Value) → reading bytes ≡ Ok row → (header : ℕ × List ℕ) × (header_len_at bytes ≡ Ok header)
unfolding reading record_at header_at
has_header bytes row is =
    let types_next = λ (x : ℕ × List ℕ) (kinds : List SerialType). cond (ltb (length x.1) x.0) (Err errors.Short) (read (kinds, drop x.0 x.1)) in
    let found = step_ok (record_at bytes) (λ found. cond (eqb (length found.1) 0) (Ok found.0) (Err errors.Trailing)) row is in
    let header = step_ok (header_at bytes) (λ x. bodies_at x.0 x.1) found.0 found.1 in
    let len = step_ok (header_len_at bytes) (λ (x : ℕ × List ℕ). types_in x.0 (take x.0 x.1) >>= types_next x) header.0 header.1 in
    (len.0, len.1)

row_stands : (bytes : List ℕ) (n : ℕ) (rest : List ℕ) (row : List Value) → reading bytes ≡ Ok row → header_len_at bytes ≡ Ok (n, rest) → Stands (take n rest) (drop n rest) row
unfolding reading record_at header_at
row_stands bytes n rest row is len =
    let types_next = λ (x : ℕ × List ℕ) (kinds : List SerialType). cond (ltb (length x.1) x.0) (Err errors.Short) (read (kinds, drop x.0 x.1)) in
    let len_next = λ (x : ℕ × List ℕ). types_in x.0 (take x.0 x.1) >>= types_next x in
    let found = step_ok (record_at bytes) (λ found. cond (eqb (length found.1) 0) (Ok found.0) (Err errors.Trailing)) row is in
    let whole = passes (eqb (length found.0.1) 0) errors.Trailing found.0.0 row found.2 in
    let header = step_ok (header_at bytes) (λ x. bodies_at x.0 x.1) found.0 found.1 in
    let after_len : len_next (n, rest) ≡ Ok header.0 = sym (ap (λ (r : Read (ℕ × List ℕ)). r >>= len_next) len) ∙ header.1 in
    let kinds = step_ok (types_in n (take n rest)) (types_next (n, rest)) header.0 after_len in
    let got = goes_on (ltb (length rest) n) errors.Short (read (kinds.0, drop n rest)) header.0 kinds.2 in
    let header_is = same_read (kinds.0, drop n rest) header.0 got.1 in
    let fits : n ≡ min n (length rest) = omega (arith, ltb-false (length rest) n got.0) in
    let values : bodies_at kinds.0 (drop n rest) ≡ Ok (row, found.0.1) = ap (λ (x : List SerialType × List ℕ). bodies_at x.0 x.1) header_is ∙ header.2 ∙ ap (λ (vs : List Value). read (vs, found.0.1)) whole.1 in
    record { kinds = kinds.0; rest = found.0.1; kinds_are = region_types n n rest fits ∙ kinds.1; values_are = values }

-- ---- a value

-- the value at the front, and the others
record Next (kinds_in bodies : List ℕ) (values : List Value) : Type 0 where
  kind : SerialType
  after : List ℕ
  v : Value
  behind : List ℕ
  others : List Value
  kind_is : type_at kinds_in ≡ Ok (kind, after)
  v_is : body_at kind bodies ≡ Ok (v, behind)
  values_is : values ≡ v ∷ others
  stands : Stands after behind others

next_of : (kinds_in bodies : List ℕ) (values : List Value) → 0 < length kinds_in → Stands kinds_in bodies values → Next kinds_in bodies values
unfolding bodies_at
next_of [] bodies values some s = absurd (omega arith)
next_of (b ∷ kinds_in) bodies values some s =
    let first = step_ok (type_at (b ∷ kinds_in)) (λ first. types_in (length kinds_in) first.1 >>= λ others. Ok (first.0 ∷ others)) s.kinds s.kinds_are in
    let others = step_ok (types_in (length kinds_in) first.0.1) (λ others. Ok (first.0.0 ∷ others)) s.kinds first.2 in
    let kinds_is = same_read (first.0.0 ∷ others.0) s.kinds others.2 in
    let bodies_are : bodies_at (first.0.0 ∷ others.0) bodies ≡ Ok (values, s.rest) = ap (λ (kinds : List SerialType). bodies_at kinds bodies) kinds_is ∙ s.values_are in
    let v = step_ok (body_at first.0.0 bodies) (λ v. bodies_at others.0 v.1 >>= λ vs. Ok (v.0 ∷ vs.0, vs.1)) (values, s.rest) bodies_are in
    let vs = step_ok (bodies_at others.0 v.0.1) (λ vs. Ok (v.0.0 ∷ vs.0, vs.1)) (values, s.rest) v.2 in
    let values_is = same_read (v.0.0 ∷ vs.0.0, vs.0.1) (values, s.rest) vs.2 in
    let lt = type_shorter (b ∷ kinds_in) first.0 first.1 in
    record {
      kind = first.0.0;
      after = first.0.1;
      v = v.0.0;
      behind = v.0.1;
      others = vs.0.0;
      kind_is = first.1;
      v_is = v.1;
      values_is = ap (λ (x : List Value × List ℕ). x.0) (sym values_is);
      stands = record { kinds = others.0; rest = vs.0.1; kinds_are = types_in_enough (length first.0.1) (length kinds_in) first.0.1 (omega arith) (omega arith) ∙ others.1; values_are = vs.1 };
    }

-- what stands behind a body
abbrev with_body : List ℕ → Value × List ℕ → Read (List ℕ × List ℕ)
with_body body x = read (body, x.1)

front_nothing : (bytes : List ℕ) → front 0 bytes ≡ Ok ([], bytes)
unfolding front
front_nothing bytes = rw (le-ltb (length bytes) 0 (omega arith)) refl

body_nothing : (n : Value) (bodies : List ℕ) (x : Value × List ℕ) → read (n, bodies) ≡ Ok x → (body : List ℕ) × (front 0 bodies ≡ Ok (body, x.1))
body_nothing n bodies x is = ([], front_nothing bodies ∙ ap (with_body []) (same_read (n, bodies) x is))

-- the bytes behind a body are those behind as many bytes as its type says
body_front : (kind : SerialType) (bodies : List ℕ) (x : Value × List ℕ) → body_at kind bodies ≡ Ok x → (body : List ℕ) × (front (body_len kind) bodies ≡ Ok (body, x.1))
unfolding body_at
body_front types.Null bodies x is = body_nothing value.Null bodies x is
body_front types.Zero bodies x is = body_nothing (value.Integer (pos 0)) bodies x is
body_front types.One bodies x is = body_nothing (value.Integer (pos 1)) bodies x is
body_front (types.Integer k) bodies x is =
    let found = step_ok (front k bodies) (λ found. cond (eqb (integer_len (signed found.0)) k) (read (value.Integer (signed found.0), found.1)) (Err errors.NotShortest)) x is in
    let got = passes (eqb (integer_len (signed found.0.0)) k) errors.NotShortest (value.Integer (signed found.0.0), found.0.1) x found.2 in
    (found.0.0, found.1 ∙ ap (with_body found.0.0) got.1)
body_front (types.Blob k) bodies x is =
    let found = step_ok (front k bodies) (λ found. read (value.Blob found.0, found.1)) x is in
    (found.0.0, found.1 ∙ ap (with_body found.0.0) (same_read (value.Blob found.0.0, found.0.1) x found.2))
body_front (types.Text k) bodies x is =
    let found = step_ok (front k bodies) (λ found. cond (is_utf8 found.0) (read (value.Text found.0, found.1)) (Err errors.BadText)) x is in
    let got = passes (is_utf8 found.0.0) errors.BadText (value.Text found.0.0, found.0.1) x found.2 in
    (found.0.0, found.1 ∙ ap (with_body found.0.0) got.1)

-- ---- places

-- the value of a body, and the bytes behind it
abbrev value_of : SerialType × List ℕ → Read (Value × List ℕ)
value_of x = body_at x.0 x.1

value_in_place : (place : ℕ) (kinds_in bodies : List ℕ) (values : List Value) → Stands kinds_in bodies values → (behind : List ℕ) × ((body_among place kinds_in bodies >>= value_of) ≡ Ok (get_or values place value.Null, behind))
unfolding bodies_at body_at
value_in_place place [] bodies values s =
    let no_kinds = same_read [] s.kinds s.kinds_are in
    let at_end : bodies_at [] bodies ≡ Ok (values, s.rest) = ap (λ (kinds : List SerialType). bodies_at kinds bodies) no_kinds ∙ s.values_are in
    let no_values : [] ≡ values = ap (λ (x : List Value × List ℕ). x.0) (same_read ([], bodies) (values, s.rest) at_end) in
    let none : get_or values place value.Null ≡ value.Null = get_or_past values place value.Null (omega (arith, ap length no_values)) in
    (bodies, ap (λ (v : Value). read (v, bodies)) (sym none))
value_in_place zero (b ∷ kinds_in) bodies values s =
    let next = next_of (b ∷ kinds_in) bodies values (omega arith) s in
    let first : next.v ≡ get_or values 0 value.Null = sym (ap (λ (vs : List Value). get_or vs 0 value.Null) next.values_is) in (
      next.behind,
      ap (λ (r : Read (SerialType × List ℕ)). (r >>= λ kind. read (kind.0, bodies)) >>= value_of) next.kind_is ∙ next.v_is ∙ ap (λ (v : Value). read (v, next.behind)) first,
    )
value_in_place (suc place) (b ∷ kinds_in) bodies values s =
    let next = next_of (b ∷ kinds_in) bodies values (omega arith) s in
    let passed = body_front next.kind bodies (next.v, next.behind) next.v_is in
    let there = value_in_place place next.after next.behind next.others next.stands in
    let later : get_or next.others place value.Null ≡ get_or values (suc place) value.Null = sym (ap (λ (vs : List Value). get_or vs (suc place) value.Null) next.values_is) in (
      there.0,
      ap (λ (r : Read (SerialType × List ℕ)). (r >>= λ kind. front (body_len kind.0) bodies >>= λ passed. body_among place kind.1 passed.1) >>= value_of) next.kind_is
          ∙ ap (λ (r : Read (List ℕ × List ℕ)). (r >>= λ passed. body_among place next.after passed.1) >>= value_of) passed.1
          ∙ there.1
          ∙ ap (λ (v : Value). read (v, there.0)) later,
    )

-- two steps behind a first are one step and then another
both_steps : {A B C : Type 0} (first : Read A) (f : A → Read B) (g : B → Read C) → (first >>= λ x. f x >>= g) ≡ ((first >>= f) >>= g)
both_steps (Ok x) f g = refl
both_steps (Err fault) f g = refl

pub column_is : (bytes : List ℕ) (row : List Value) (place : ℕ) → reading bytes ≡ Ok row → column_at place bytes ≡ Ok (get_or row place value.Null)
unfolding column_at body_of
column_is bytes row place is =
    let header = has_header bytes row is in
    let n : ℕ = header.0.0 in
    let rest : List ℕ = header.0.1 in
    let there = value_in_place place (take n rest) (drop n rest) row (row_stands bytes n rest row is header.1) in
    ap (λ (r : Read (ℕ × List ℕ)). (r >>= λ header. body_among place (take header.0 header.1) (drop header.0 header.1)) >>= λ found. value_at found.0 found.1) header.1
    ∙ both_steps (body_among place (take n rest) (drop n rest)) value_of (λ x. read x.0)
    ∙ ap (λ (r : Read (Value × List ℕ)). r >>= λ x. read x.0) there.1

-- ---- the loop

pub among_start : (place : ℕ) (bytes : List ℕ) (n m : ℕ) (rest : List ℕ) → header_len_at bytes ≡ Ok (n, rest) → m ≡ min n (length rest) → body_among (place - 0) (take m rest) (drop m rest) ≡ body_of place bytes
unfolding body_of
among_start place bytes n m rest at is =
    let all : place - 0 ≡ place = omega arith in
    ap (λ (k : ℕ). body_among k (take m rest) (drop m rest)) all
    ∙ ap (λ (xs : List ℕ). body_among place xs (drop m rest)) (ap (λ (k : ℕ). take k rest) is ∙ take_min n rest)
    ∙ ap (body_among place (take n rest)) (ap (λ (k : ℕ). drop k rest) is ∙ drop_min n rest)
    ∙ sym (ap (λ (r : Read (ℕ × List ℕ)). r >>= λ header. body_among place (take header.0 header.1) (drop header.0 header.1)) at)

pub among_end : (place : ℕ) (kinds_in bodies : List ℕ) (whole : Read (SerialType × List ℕ)) → body_among place kinds_in bodies ≡ whole → length kinds_in ≡ 0 → whole ≡ Ok (types.Null, bodies)
among_end place [] bodies whole is none = sym is
among_end place (b ∷ kinds_in) bodies whole is none = absurd (omega arith)

pub among_type_fault : (e : RecordErr) (place : ℕ) (kinds_in bodies : List ℕ) (whole : Read (SerialType × List ℕ)) → body_among place kinds_in bodies ≡ whole → 0 < length kinds_in → IsFault e (type_at kinds_in) → IsFault e whole
among_type_fault e place [] bodies whole is some fault = absurd (omega arith)
among_type_fault e zero (b ∷ kinds_in) bodies whole is some fault = fault_of e (type_at (b ∷ kinds_in)) whole fault (λ f at. sym is ∙ ap (λ (r : Read (SerialType × List ℕ)). r >>= λ kind. read (kind.0, bodies)) at)
among_type_fault e (suc place) (b ∷ kinds_in) bodies whole is some fault =
    fault_of e (type_at (b ∷ kinds_in)) whole fault (λ f at. sym is ∙ ap (λ (r : Read (SerialType × List ℕ)). r >>= λ kind. front (body_len kind.0) bodies >>= λ passed. body_among place kind.1 passed.1) at)

-- one place further, the type being known
passed_type : (place more : ℕ) (kinds_in bodies : List ℕ) (kind : SerialType) (after : List ℕ) → place ≡ suc more → 0 < length kinds_in → type_at kinds_in ≡ Ok (kind, after)
    → body_among place kinds_in bodies ≡ (front (body_len kind) bodies >>= λ passed. body_among more after passed.1)
passed_type place more [] bodies kind after further some at = absurd (omega arith)
passed_type place more (b ∷ kinds_in) bodies kind after further some at =
    ap (λ (k : ℕ). body_among k (b ∷ kinds_in) bodies) further ∙ ap (λ (r : Read (SerialType × List ℕ)). r >>= λ kind. front (body_len kind.0) bodies >>= λ passed. body_among more kind.1 passed.1) at

pub among_front_fault : (e : RecordErr) (place : ℕ) (kinds_in bodies : List ℕ) (whole : Read (SerialType × List ℕ)) (kind : SerialType) (after : List ℕ) → 0 < place → body_among place kinds_in bodies ≡ whole → 0 < length kinds_in
    → type_at kinds_in ≡ Ok (kind, after) → IsFault e (front (body_len kind) bodies) → IsFault e whole
among_front_fault e place kinds_in bodies whole kind after more is some at fault =
    let further : place ≡ suc (place - 1) = omega arith in
    fault_of e (front (body_len kind) bodies) whole fault (λ f none. sym is ∙ passed_type place (place - 1) kinds_in bodies kind after further some at ∙ ap (λ (r : Read (List ℕ × List ℕ)). r >>= λ passed. body_among (place - 1) after passed.1) none)

pub among_goes_on : (place more : ℕ) (kinds_in bodies : List ℕ) (whole : Read (SerialType × List ℕ)) (kind : SerialType) (after body behind : List ℕ) → place ≡ suc more → body_among place kinds_in bodies ≡ whole → 0 < length kinds_in
    → type_at kinds_in ≡ Ok (kind, after) → front (body_len kind) bodies ≡ Ok (body, behind) → body_among more after behind ≡ whole
among_goes_on place more kinds_in bodies whole kind after body behind further is some at passed =
    sym (passed_type place more kinds_in bodies kind after further some at ∙ ap (λ (r : Read (List ℕ × List ℕ)). r >>= λ passed. body_among more after passed.1) passed) ∙ is

pub among_here : (place : ℕ) (kinds_in bodies : List ℕ) (whole : Read (SerialType × List ℕ)) (kind : SerialType) (after : List ℕ) → place ≡ 0 → body_among place kinds_in bodies ≡ whole → 0 < length kinds_in → type_at kinds_in ≡ Ok (kind, after)
    → whole ≡ Ok (kind, bodies)
among_here place [] bodies whole kind after here is some at = absurd (omega arith)
among_here place (b ∷ kinds_in) bodies whole kind after here is some at =
    sym is ∙ ap (λ (k : ℕ). body_among k (b ∷ kinds_in) bodies) here ∙ ap (λ (r : Read (SerialType × List ℕ)). r >>= λ kind. read (kind.0, bodies)) at

pub some_left : (n : ℕ) → eqb n 0 ≡ false → 0 < n
some_left n is = omega (arith, eqb-false n 0 is)

-- ---- the value behind the loop

pub column_fault : (e : RecordErr) (place : ℕ) (bytes : List ℕ) → IsFault e (body_of place bytes) → IsFault e (column_at place bytes)
unfolding column_at
column_fault e place bytes fault = fault_of e (body_of place bytes) (column_at place bytes) fault (λ f at. ap (λ (r : Read (SerialType × List ℕ)). r >>= λ found. value_at found.0 found.1) at)

pub column_there : (place : ℕ) (bytes : List ℕ) (kind : SerialType) (bodies : List ℕ) → body_of place bytes ≡ Ok (kind, bodies) → column_at place bytes ≡ value_at kind bodies
unfolding column_at
column_there place bytes kind bodies at = ap (λ (r : Read (SerialType × List ℕ)). r >>= λ found. value_at found.0 found.1) at

pub value_fault : (e : RecordErr) (kind : SerialType) (bodies : List ℕ) (whole : Read Value) → whole ≡ value_at kind bodies → IsFault e (body_at kind bodies) → IsFault e whole
value_fault e kind bodies whole is fault = fault_of e (body_at kind bodies) whole fault (λ f at. is ∙ ap (λ (r : Read (Value × List ℕ)). r >>= λ x. read x.0) at)

pub value_there : (kind : SerialType) (bodies : List ℕ) (whole : Read Value) (v : Value) (behind : List ℕ) → whole ≡ value_at kind bodies → body_at kind bodies ≡ Ok (v, behind) → whole ≡ Ok v
value_there kind bodies whole v behind is at = is ∙ ap (λ (r : Read (Value × List ℕ)). r >>= λ x. read x.0) at
