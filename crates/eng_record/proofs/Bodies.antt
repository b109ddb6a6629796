-- The bodies of values.
use Rattle.std.proofs.Common.{◌≡◌, ℕ, ◌≤◌, true, false, cond, eqb, ltb, List, ◌++◌, length, take, drop, Ok, Err, refl, sym, ap, subst, ◌∙◌, arith}
use Rattle.std.specs.Prelude.{ℤ, pos}
use Rattle.std.specs.Int.{w64, bytes_high_first, cast_unsigned}
use Rattle.std.specs.Str.{is_utf8}
use Rattle.std.proofs.lemmas.Bool.{eq-eqb, eqb-true, le-ltb, ltb-false}
use Rattle.std.proofs.lemmas.List.{length-append, length-take-le, take_at, drop_at, take-append-drop}
use Rattle.eng_value.specs.declared.value.Value.{Value}
use Rattle.eng_value.specs.declared.value.Value.TheVariants as value
use Rattle.eng_record.specs.declared.record_error.RecordErr.TheVariants.{Short, BadText, NotShortest}
use Rattle.eng_record.specs.declared.serial_type.SerialType.{SerialType}
use Rattle.eng_record.specs.declared.serial_type.SerialType.TheVariants as types
use Rattle.eng_record.specs.Spelling.{integer_len, integer_type, type_of, body, IsSpellableValue}
use Rattle.eng_record.specs.Reading.{front, signed, body_at}
use Rattle.eng_record.proofs.Steps.{IsBytes, IsBytes-front, step_ok, as_read, passes, goes_on}
use Rattle.eng_record.proofs.Integers.{IsWidth, one, two, three, four, six, eight, length-high, IsLenOf, zero_len, one_len, width_len, integer_len_is, signed_again, signed_written, signed_fits}
use Rattle.eng_record.proofs.Types.{IsSmallType, integer_typed}

front_again : (n : ℕ) (text rest : List ℕ) → length text ≡ n → front n (text ++ rest) ≡ Ok (text, rest)
unfolding front
front_again n text rest len =
    let long : ltb (length (text ++ rest)) n ≡ false = le-ltb _ _ (omega (arith, length-append text rest)) in
    rw (long, take_at text rest n len, drop_at text rest n len) refl

-- so many bytes from the front
record IsFront (n : ℕ) (bytes text rest : List ℕ) : Type 0 where
  len : length text ≡ n
  parts : bytes ≡ text ++ rest

front_written : (n : ℕ) (bytes : List ℕ) (found : List ℕ × List ℕ) → front n bytes ≡ Ok found → IsFront n bytes found.0 found.1
unfolding front
front_written n bytes found e =
    let g = goes_on (ltb (length bytes) n) Short (Ok (take n bytes, drop n bytes)) found e in
    let long : n ≤ length bytes = ltb-false _ _ g.0 in
    as_read (λ (f : List ℕ × List ℕ). IsFront n bytes f.0 f.1) (take n bytes, drop n bytes) found g.1 (record { len = length-take-le n bytes long; parts = sym (take-append-drop n bytes) })

integer_again : (n : ℤ) (k : ℕ) (rest : List ℕ) → IsLenOf n k → integer_len n ≡ k → body_at (integer_type n k) (bytes_high_first k (cast_unsigned w64 n) ++ rest) ≡ Ok (value.Integer n, rest)
unfolding body_at
integer_again n k rest (zero_len e) len = subst (λ (m : ℤ). body_at (integer_type m 0) rest ≡ Ok (value.Integer m, rest)) (sym e) refl
integer_again n k rest (one_len e) len = subst (λ (m : ℤ). body_at (integer_type m 0) rest ≡ Ok (value.Integer m, rest)) (sym e) refl
integer_again n k rest (width_len width fits) len =
    rw (integer_typed n k width) (rw (front_again k (bytes_high_first k (cast_unsigned w64 n)) rest (length-high k (cast_unsigned w64 n)), signed_again k n width fits, eq-eqb (integer_len n) k len) refl)

-- the body of a value is read again
pub body_again : (v : Value) (rest : List ℕ) → IsSpellableValue v → body_at (type_of v) (body v ++ rest) ≡ Ok (v, rest)
unfolding body_at
body_again value.Null rest h = refl
body_again (value.Integer n) rest h = integer_again n (integer_len n) rest (integer_len_is n h) refl
body_again (value.Text bytes) rest h = rw (front_again (length bytes) bytes rest refl, h.0) refl
body_again (value.Blob bytes) rest h = rw (front_again (length bytes) bytes rest refl) refl

-- a body of this type, of a value that has a spelling
pub record IsBody (kind : SerialType) (bytes : List ℕ) (v : Value) (rest : List ℕ) : Type 0 where
  pub typed : type_of v ≡ kind
  pub spellable : IsSpellableValue v
  pub parts : bytes ≡ body v ++ rest

width_most : (k : ℕ) → IsWidth k → k ≤ 8
width_most k one = omega arith
width_most k two = omega arith
width_most k three = omega arith
width_most k four = omega arith
width_most k six = omega arith
width_most k eight = omega arith

integer_written : (k : ℕ) (bytes text rest : List ℕ) → IsWidth k → IsBytes bytes → IsFront k bytes text rest → integer_len (signed text) ≡ k → IsBody (types.Integer k) bytes (value.Integer (signed text)) rest
integer_written k bytes text rest width fits taken len =
    let text_fits : IsBytes text = IsBytes-front text rest (subst IsBytes taken.parts fits) in
    let same : body (value.Integer (signed text)) ≡ text = ap (λ m. bytes_high_first m (cast_unsigned w64 (signed text))) len ∙ signed_written k text (width_most k width) taken.len text_fits in
    record {
      typed = ap (integer_type (signed text)) len ∙ integer_typed (signed text) k width;
      spellable = signed_fits text text_fits;
      parts = taken.parts ∙ ap (λ (t : List ℕ). t ++ rest) (sym same);
    }

blob_written : (n : ℕ) (bytes text rest : List ℕ) → IsSmallType (types.Blob n) → IsFront n bytes text rest → IsBody (types.Blob n) bytes (value.Blob text) rest
blob_written n bytes text rest h taken =
    record { typed = ap (λ m. types.Blob m) taken.len; spellable = omega (arith, h.small, taken.len); parts = taken.parts }

text_written : (n : ℕ) (bytes text rest : List ℕ) → IsSmallType (types.Text n) → is_utf8 text ≡ true → IsFront n bytes text rest → IsBody (types.Text n) bytes (value.Text text) rest
text_written n bytes text rest h utf8 taken =
    record { typed = ap (λ m. types.Text m) taken.len; spellable = (utf8, omega (arith, h.small, taken.len)); parts = taken.parts }

-- a body that is read is the value's
pub body_written : (kind : SerialType) (bytes : List ℕ) (found : Value × List ℕ) → IsSmallType kind → IsBytes bytes → body_at kind bytes ≡ Ok found → IsBody kind bytes found.0 found.1
unfolding body_at integer_len
body_written types.Null bytes found h fits e =
    as_read (λ (f : Value × List ℕ). IsBody types.Null bytes f.0 f.1) (value.Null, bytes) found e (record { typed = refl; spellable = tt; parts = refl })
body_written (types.Integer k) bytes found h fits e =
    let s = step_ok (front k bytes) (λ f. cond (eqb (integer_len (signed f.0)) k) (Ok (value.Integer (signed f.0), f.1)) (Err NotShortest)) found e in
    let p = passes (eqb (integer_len (signed s.0.0)) k) NotShortest (value.Integer (signed s.0.0), s.0.1) found s.2 in
    subst (λ (f : Value × List ℕ). IsBody (types.Integer k) bytes f.0 f.1) p.1 (integer_written k bytes s.0.0 s.0.1 h.is_type fits (front_written k bytes s.0 s.1) (eqb-true _ _ p.0))
body_written types.Zero bytes found h fits e =
    as_read (λ (f : Value × List ℕ). IsBody types.Zero bytes f.0 f.1) (value.Integer (pos 0), bytes) found e (record { typed = refl; spellable = refl; parts = refl })
body_written types.One bytes found h fits e =
    as_read (λ (f : Value × List ℕ). IsBody types.One bytes f.0 f.1) (value.Integer (pos 1), bytes) found e (record { typed = refl; spellable = refl; parts = refl })
body_written (types.Blob n) bytes found h fits e =
    let s = step_ok (front n bytes) (λ f. Ok (value.Blob f.0, f.1)) found e in
    as_read (λ (f : Value × List ℕ). IsBody (types.Blob n) bytes f.0 f.1) (value.Blob s.0.0, s.0.1) found s.2 (blob_written n bytes s.0.0 s.0.1 h (front_written n bytes s.0 s.1))
body_written (types.Text n) bytes found h fits e =
    let s = step_ok (front n bytes) (λ f. cond (is_utf8 f.0) (Ok (value.Text f.0, f.1)) (Err BadText)) found e in
    let p = passes (is_utf8 s.0.0) BadText (value.Text s.0.0, s.0.1) found s.2 in
    subst (λ (f : Value × List ℕ). IsBody (types.Text n) bytes f.0 f.1) p.1 (text_written n bytes s.0.0 s.0.1 h p.0 (front_written n bytes s.0 s.1))
