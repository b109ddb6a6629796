-- The laws of records: what is written is read again, and what is read would be written so.
use Rattle.std.proofs.Common.{◌≡◌, ℕ, ◌^◌, ◌<◌, cond, eqb, List, [], ◌∷◌, ◌++◌, length, map, Result, Ok, Err, refl, sym, ap, subst, ◌∙◌, append_assoc}
use Rattle.std.specs.Prelude.{IfOk}
use Rattle.std.specs.List.{flat_map, AllByRecursion}
use Rattle.std.proofs.lemmas.Bool.{eqb-true}
use Rattle.std.proofs.lemmas.List.{append-nil, nil_from_length}
use Rattle.eng_value.specs.declared.value.Value.{Value}
use Rattle.eng_record.specs.declared.record_error.RecordErr.{RecordErr}
use Rattle.eng_record.specs.declared.record_error.RecordErr.TheVariants.{Trailing}
use Rattle.eng_record.specs.declared.serial_type.SerialType.{SerialType}
use Rattle.eng_record.specs.Spelling.{varint, type_of, code, body, types_spelled, header_len, spelling, IsSpellableValue, IsSpellable}
use Rattle.eng_record.specs.Reading.{◌>>=◌, header_at, body_at, bodies_at, record_at, reading, Read, Gives}
use Rattle.eng_record.proofs.Steps.{IsBytes, IsBytes-behind, step_ok, same_read, as_read, passes}
use Rattle.eng_record.proofs.Types.{IsSmallType}
use Rattle.eng_record.proofs.Bodies.{body_again, body_written}
use Rattle.eng_record.proofs.Headers.{kinds_spelled, header_again, header_written}

-- ---- bodies

bodies_again : (row : List Value) (rest : List ℕ) → AllByRecursion IsSpellableValue row → bodies_at (map type_of row) (flat_map body row ++ rest) ≡ Ok (row, rest)
unfolding bodies_at
bodies_again [] rest h = refl
bodies_again (v ∷ row) rest h =
    ap (bodies_at (map type_of (v ∷ row))) (append_assoc (body v) (flat_map body row) rest)
    ∙ rw (body_again v (flat_map body row ++ rest) h.0, bodies_again row rest h.1) refl

-- the bodies of values of these types, and the bytes behind them
record AreBodies (kinds : List SerialType) (bytes : List ℕ) (row : List Value) (rest : List ℕ) : Type 0 where
  typed : map type_of row ≡ kinds
  spellable : AllByRecursion IsSpellableValue row
  parts : bytes ≡ flat_map body row ++ rest

bodies_written : (kinds : List SerialType) (bytes : List ℕ) (found : List Value × List ℕ) → AllByRecursion IsSmallType kinds → IsBytes bytes → bodies_at kinds bytes ≡ Ok found → AreBodies kinds bytes found.0 found.1
unfolding bodies_at
bodies_written [] bytes found h fits e =
    as_read (λ (f : List Value × List ℕ). AreBodies [] bytes f.0 f.1) ([], bytes) found e (record { typed = refl; spellable = tt; parts = refl })
bodies_written (kind ∷ kinds) bytes found h fits e =
    let s = step_ok (body_at kind bytes) (λ first. bodies_at kinds first.1 >>= λ others. Ok (first.0 ∷ others.0, others.1)) found e in
    let v = s.0.0 in
    let t = step_ok (bodies_at kinds s.0.1) (λ others. Ok (v ∷ others.0, others.1)) found s.2 in
    let first = body_written kind bytes s.0 h.0 fits s.1 in
    let others = bodies_written kinds s.0.1 t.0 h.1 (IsBytes-behind (body v) s.0.1 (subst IsBytes first.parts fits)) t.1 in
    as_read (λ (f : List Value × List ℕ). AreBodies (kind ∷ kinds) bytes f.0 f.1) (v ∷ t.0.0, t.0.1) found t.2 (record {
      typed = ap (λ (k : SerialType). k ∷ map type_of t.0.0) first.typed ∙ ap (λ (ks : List SerialType). kind ∷ ks) others.typed;
      spellable = (first.spellable, others.spellable);
      parts = first.parts ∙ ap (λ (r : List ℕ). body v ++ r) others.parts ∙ sym (append_assoc (body v) (flat_map body t.0.0) t.0.1);
    })

-- ---- records

-- a row's record is read, whatever stands behind it
pub record_spelled : (row : List Value) (rest : List ℕ) → IsSpellable row → record_at (spelling row ++ rest) ≡ Ok (row, rest)
unfolding record_at
record_spelled row rest h =
    let kinds = types_spelled row in
    let len = varint (header_len (length kinds)) in
    let bodies = flat_map body row in
    let regrouped : spelling row ++ rest ≡ len ++ (kinds ++ (bodies ++ rest)) =
    append_assoc (len ++ kinds) bodies rest ∙ append_assoc len kinds (bodies ++ rest) in
    ap record_at regrouped ∙ rw (header_again row (bodies ++ rest) h, bodies_again row rest h.values) refl

pub reading_spelled : (row : List Value) → IsSpellable row → reading (spelling row) ≡ Ok row
unfolding reading
reading_spelled row h =
    let whole : record_at (spelling row) ≡ Ok (row, []) = ap record_at (sym (append-nil (spelling row))) ∙ record_spelled row [] h in
    rw whole refl

-- the types of a row, spelled one by one
types_are : (row : List Value) → kinds_spelled (map type_of row) ≡ types_spelled row
types_are [] = refl
types_are (v ∷ row) = ap (λ (others : List ℕ). varint (code (type_of v)) ++ others) (types_are row)

-- a record at the front, of a row that has a spelling
record IsRecord (bytes : List ℕ) (row : List Value) (rest : List ℕ) : Type 0 where
  spellable : IsSpellable row
  parts : bytes ≡ spelling row ++ rest

record_written : (bytes : List ℕ) (found : List Value × List ℕ) → IsBytes bytes → record_at bytes ≡ Ok found → IsRecord bytes found.0 found.1
unfolding record_at
record_written bytes found fits e =
    let s = step_ok (header_at bytes) (λ header. bodies_at header.0 header.1) found e in
    let kinds = s.0.0 in
    let behind = s.0.1 in
    let row = found.0 in
    let header = header_written bytes s.0 fits s.1 in
    let front = varint (header_len (length (kinds_spelled kinds))) in
    let behind_fits = IsBytes-behind (kinds_spelled kinds) behind (IsBytes-behind front (kinds_spelled kinds ++ behind) (subst IsBytes header.parts fits)) in
    let bodies = bodies_written kinds behind found header.are_types behind_fits s.2 in
    let types : kinds_spelled kinds ≡ types_spelled row = ap kinds_spelled (sym bodies.typed) ∙ types_are row in
    let len = varint (header_len (length (types_spelled row))) in
    record {
      spellable = record { values = bodies.spellable; header = subst (λ (ts : List ℕ). header_len (length ts) < 2 ^ 64) types header.small };
      parts = header.parts
          ∙ ap (λ (ts : List ℕ). varint (header_len (length ts)) ++ (ts ++ behind)) types
          ∙ ap (λ (r : List ℕ). len ++ (types_spelled row ++ r)) bodies.parts
          ∙ sym (append_assoc len (types_spelled row) (flat_map body row ++ found.1))
          ∙ sym (append_assoc (len ++ types_spelled row) (flat_map body row) found.1);
    }

-- bytes that are read as a row are its record, and the row has one
record IsWhole (bytes : List ℕ) (row : List Value) : Type 0 where
  spellable : IsSpellable row
  parts : bytes ≡ spelling row

reading_written : (bytes : List ℕ) (row : List Value) → IsBytes bytes → reading bytes ≡ Ok row → IsWhole bytes row
unfolding reading
reading_written bytes row fits e =
    let s = step_ok (record_at bytes) (λ found. cond (eqb (length found.1) 0) (Ok found.0) (Err Trailing)) row e in
    let p = passes (eqb (length s.0.1) 0) Trailing s.0.0 row s.2 in
    let front = record_written bytes s.0 fits s.1 in
    let nothing : s.0.1 ≡ [] = nil_from_length s.0.1 (eqb-true _ _ p.0) in
    subst (IsWhole bytes) p.1 (record {
      spellable = front.spellable;
      parts = front.parts ∙ ap (λ (r : List ℕ). spelling s.0.0 ++ r) nothing ∙ append-nil (spelling s.0.0);
    })

pub spelled_reading : (bytes : List ℕ) (row : List Value) → IsBytes bytes → reading bytes ≡ Ok row → bytes ≡ spelling row
spelled_reading bytes row fits e = (reading_written bytes row fits e).parts

pub spellable_reading : (bytes : List ℕ) (row : List Value) → IsBytes bytes → reading bytes ≡ Ok row → IsSpellable row
spellable_reading bytes row fits e = (reading_written bytes row fits e).spellable

-- ---- what a decoder that gives what is read answers

pub is_found : {A : Type 0} (view : A → List Value) (result : Result A RecordErr) (bytes : List ℕ) → IsBytes bytes → Gives view result (reading bytes) → IfOk result (λ x. IsSpellable (view x) × (bytes ≡ spelling (view x)))
is_found view (Ok x) bytes fits given = (spellable_reading bytes (view x) fits given, spelled_reading bytes (view x) fits given)
is_found view (Err e) bytes fits given = tt

pub gives_only : {A : Type 0} (view : A → List Value) (result : Result A RecordErr) (bytes : List ℕ) (row : List Value) → Gives view result (reading bytes) → IsSpellable row → bytes ≡ spelling row → Gives view result (Ok row)
gives_only view result bytes row given h same = subst (λ (r : Read (List Value)). Gives view result r) (ap reading same ∙ reading_spelled row h) given

-- ---- what follows

-- rows with one record are one
pub same_row : (a b : List Value) → IsSpellable a → IsSpellable b → spelling a ≡ spelling b → a ≡ b
same_row a b is_a is_b same = same_read a b (sym (reading_spelled a is_a) ∙ ap reading same ∙ reading_spelled b is_b)

-- a record that begins another is that one
pub same_front : (a b : List Value) (rest : List ℕ) → IsSpellable a → IsSpellable b → spelling b ≡ spelling a ++ rest → (b ≡ a) × (rest ≡ [])
same_front a b rest is_a is_b begins =
    let front : record_at (spelling b) ≡ Ok (a, rest) = ap record_at begins ∙ record_spelled a rest is_a in
    let whole : record_at (spelling b) ≡ Ok (b, []) = ap record_at (sym (append-nil (spelling b))) ∙ record_spelled b [] is_b in
    let same = same_read (b, []) (a, rest) (sym whole ∙ front) in
    (ap (λ (f : List Value × List ℕ). f.0) same, sym (ap (λ (f : List Value × List ℕ). f.1) same))
