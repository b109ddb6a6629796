-- A script is put together of its segments, in one way.
use Rattle.std.proofs.Common.{◌≡◌, ◌≢◌, ℕ, zero, suc, ◌-◌, ◌<◌, ◌≤◌, ◌==◌, Bool, true, List, [], ◌∷◌, ◌++◌, append_assoc, append-nil, length, length-append, length-drop, take, drop, Option, Some, None, if◌then◌else◌, refl, sym, ap, ◌∙◌, subst, arith}
use Rattle.std.specs.Prelude.{slice_index}
use Rattle.std.specs.List.{flat_map}
use Rattle.std.proofs.lemmas.List.{get_or-take, length-take, take-append-drop, take_all, take_more}
use Rattle.std.proofs.Math.Numerals.{add-one}
use Rattle.std.specs.Str.Lossy.{utf8_valid_len}
use Rattle.sql_lex.specs.Cutting.{blank_width}
use Rattle.sql_lex.proofs.CuttingLaws.{blank_width-within}
use Rattle.sql_meaning.specs.declared.script.Ending.TheVariants.{End}
use Rattle.sql_meaning.specs.Parts.{Part, bad_character, bad_parts, characters, end_of, may_go_on, part_here, part_of, part_up_to, parts_from, parts_of, runs_pending, width_here}
use Rattle.sql_meaning.specs.Segments.{AreSegments, BeginsWith, Blank, Ended, Pending, Segment, begins_line, bytes_of, ends_line, parts_in}
use Rattle.sql_meaning.proofs.FrontLaws.{blank_here, cut_is, token_here}
use Rattle.sql_meaning.proofs.PartsLaws.{end_of-within}

-- the segments of a text, with the parts that they are
pub record Segmented (runs fresh : Bool) (text : List ℕ) : Type 0 where
  pub segments : List Segment
  pub are : AreSegments fresh text segments
  pub parts : parts_from runs fresh 0 text ≡ flat_map (parts_in runs) segments

-- one segment in front of the others
one_more : (runs fresh : Bool) (text rest : List ℕ) (s : Segment) (part : List Part) → text ≡ bytes_of s ++ rest → BeginsWith fresh text s → part ≡ parts_in runs s → parts_from runs fresh 0 text ≡ part ++ parts_from runs (ends_line (bytes_of s)) 0 rest
    → Segmented runs (ends_line (bytes_of s)) rest → Segmented runs fresh text
one_more runs fresh text rest s part whole begins part_is cut others = record {
  segments = s ∷ others.segments;
  are = (rest, whole, begins, others.are);
  parts = cut ∙ ap (λ ps. ps ++ parts_from runs (ends_line (bytes_of s)) 0 rest) part_is ∙ ap (λ ps. parts_in runs s ++ ps) others.parts;
}

-- the last byte of a front
ends_line-take : (n : ℕ) (text : List ℕ) → 1 ≤ n → n ≤ length text → ends_line (take n text) ≡ (slice_index text (n - 1) == 10)
ends_line-take n text some within =
    let long : length (take n text) ≡ n = omega (arith, length-take n text) in
    ap (λ k. slice_index (take n text) (k - 1) == 10) long ∙ ap (λ c. c == 10) (get_or-take n text (n - 1) 0 (omega arith))

-- what stands at the front, where all that is shorter is segmented
module _ (runs fresh : Bool) (text : List ℕ) (some : 0 < length text) (shorter : (starts : Bool) (rest : List ℕ) → length rest < length text → Segmented runs starts rest) where
  abbrev line : Bool
  line = begins_line fresh text

  filled : text ≢ []
  filled none = let zero_long : length text ≡ 0 = ap length none in absurd (omega (arith, zero_long))

  -- so many bytes are a segment
  of_width : (width : ℕ) (s : Segment) (part : List Part) → bytes_of s ≡ take width text → 0 < width → width ≤ length text → BeginsWith fresh text s → part_here runs line text ≡ part → width_here line text ≡ width → part ≡ parts_in runs s → Segmented runs fresh text
  of_width width s part own one within begins part_is width_is parts_are =
      let rest : List ℕ = drop width text in
      let whole : text ≡ bytes_of s ++ rest = sym (ap (λ xs. xs ++ rest) own ∙ take-append-drop width text) in
      let starts : ends_line (bytes_of s) ≡ (slice_index text (width - 1) == 10) = ap ends_line own ∙ ends_line-take width text one within in
      one_more runs fresh text rest s part whole begins parts_are
      (cut_is runs fresh text width part (ends_line (bytes_of s)) rest filled part_is width_is one within refl starts)
      (shorter (ends_line (bytes_of s)) rest (omega (arith, length-drop width text)))

  at_token : blank_width text ≡ 0 → (end : Option ℕ) → end ≡ end_of line text → Segmented runs fresh text
  at_token none (Some e) is =
      let within = end_of-within line text e (sym is) in
      let here = token_here runs line text (Some e) (omega (arith, none)) is in
      let c = slice_index text e in
      let long : length (take e text) ≡ e = omega (arith, length-take e text, within) in
      of_width (suc e) (Ended line (take e text) c) (part_of line (take e text)) (sym (take_more text e 0 within) ∙ ap (λ n. take n text) (add-one e)) (omega arith) (omega (arith, within)) (none, refl, sym is ∙ ap Some (sym long)) here.0 here.1 refl
  at_token none None is =
      let here = token_here runs line text None (omega (arith, none)) is in
      of_width (length text) (Pending line text) (part_up_to runs line None text) (sym (take_all (length text) text (omega arith))) some (omega arith) (none, refl, sym is, refl, some) here.0 here.1 refl

  at_front : (w : ℕ) → blank_width text ≡ w → Segmented runs fresh text
  at_front zero is = at_token is (end_of line text) refl
  at_front (suc w) is =
      let within : suc w ≤ length text = omega (arith, is, blank_width-within text) in
      let here = blank_here runs line text (omega (arith, is)) in
      let long : length (take (suc w) text) ≡ suc w = omega (arith, length-take (suc w) text) in
      of_width (suc w) (Blank (take (suc w) text)) [] refl (omega arith) within (omega (arith, long), is ∙ sym long) here.0 (here.1 ∙ is) refl

pub segmented : (most : ℕ) (runs fresh : Bool) (text : List ℕ) → length text ≤ most → Segmented runs fresh text
segmented most runs fresh [] le = record { segments = []; are = refl; parts = refl }
segmented zero runs fresh (b ∷ bytes) le = absurd (omega arith)
segmented (suc most) runs fresh (b ∷ bytes) le =
    at_front runs fresh (b ∷ bytes) (omega arith) (λ starts rest lt. segmented most runs starts rest (omega (arith, lt))) (blank_width (b ∷ bytes)) refl

-- ---- they are all of the text

pub bytes_are : (fresh : Bool) (text : List ℕ) (segments : List Segment) → AreSegments fresh text segments → flat_map bytes_of segments ≡ text
bytes_are fresh text [] a = sym a
bytes_are fresh text (s ∷ segments) a = ap (λ r. bytes_of s ++ r) (bytes_are (ends_line (bytes_of s)) a.0 segments a.3) ∙ sym a.1

-- ---- in one way

same-front : (x y r q : List ℕ) → length x ≡ length y → x ++ r ≡ y ++ q → (x ≡ y) × (r ≡ q)
same-front [] [] r q long is = (refl, is)
same-front [] (c ∷ y) r q long is = absurd (omega (arith, long))
same-front (b ∷ x) [] r q long is = absurd (omega (arith, long))
same-front (b ∷ x) (c ∷ y) r q long is =
    let heads : b ≡ c = cc in
    let rest = same-front x y r q (omega (arith, long)) cc in
    (ap (λ h. h ∷ x) heads ∙ ap (λ t. c ∷ t) rest.0, rest.1)

same-ended : (x y r q : List ℕ) (e f : ℕ) → length x ≡ length y → (x ++ e ∷ []) ++ r ≡ (y ++ f ∷ []) ++ q → (x ≡ y) × (e ≡ f) × (r ≡ q)
same-ended x y r q e f long is =
    let both = same-front x y (e ∷ r) (f ∷ q) long (sym (append_assoc x (e ∷ []) r) ∙ is ∙ append_assoc y (f ∷ []) q) in
    let behind : e ∷ r ≡ f ∷ q = both.1 in
    (both.0, cc, cc)

same-nothing : (x r : List ℕ) → x ≡ x ++ r → r ≡ []
same-nothing x r is = (same-front x x r [] refl (sym is ∙ sym (append-nil x))).1

segment-same : (fresh : Bool) (text : List ℕ) (s t : Segment) (r q : List ℕ) → text ≡ bytes_of s ++ r → text ≡ bytes_of t ++ q → BeginsWith fresh text s → BeginsWith fresh text t → (s ≡ t) × (r ≡ q)
segment-same fresh text (Blank x) (Blank y) r q is at a b =
    let both = same-front x y r q (sym a.1 ∙ b.1) (sym is ∙ at) in (ap Blank both.0, both.1)
segment-same fresh text (Blank x) (Ended l y e) r q is at a b = absurd (omega (arith, a.0, a.1, b.0))
segment-same fresh text (Blank x) (Pending l y) r q is at a b = absurd (omega (arith, a.0, a.1, b.0))
segment-same fresh text (Ended k x e) (Blank y) r q is at a b = absurd (omega (arith, b.0, b.1, a.0))
segment-same fresh text (Ended k x e) (Ended l y f) r q is at a b =
    let lines : k ≡ l = a.1 ∙ sym b.1 in
    let ends : Some (length x) ≡ Some (length y) = sym a.2 ∙ ap (λ m. end_of m text) lines ∙ b.2 in
    let both = same-ended x y r q e f (let same : length x ≡ length y = cc in same) (sym is ∙ at) in
    (ap (λ m. Ended m x e) lines ∙ ap (λ z. Ended l z e) both.0 ∙ ap (Ended l y) both.1, both.2)
segment-same fresh text (Ended k x e) (Pending l y) r q is at a b = absurd (let ends : Some (length x) ≡ None = sym a.2 ∙ ap (λ m. end_of m text) (a.1 ∙ sym b.1) ∙ b.2 in cc)
segment-same fresh text (Pending k x) (Blank y) r q is at a b = absurd (omega (arith, b.0, b.1, a.0))
segment-same fresh text (Pending k x) (Ended l y f) r q is at a b = absurd (let ends : None ≡ Some (length y) = sym a.2 ∙ ap (λ m. end_of m text) (a.1 ∙ sym b.1) ∙ b.2 in cc)
segment-same fresh text (Pending k x) (Pending l y) r q is at a b =
    (ap (λ m. Pending m x) (a.1 ∙ sym b.1) ∙ ap (Pending l) (sym a.3 ∙ b.3), same-nothing x r (sym a.3 ∙ is) ∙ sym (same-nothing y q (sym b.3 ∙ at)))

-- a segment has a byte
some-bytes : (fresh : Bool) (text : List ℕ) (s : Segment) → BeginsWith fresh text s → 0 < length (bytes_of s)
some-bytes fresh text (Blank x) a = a.0
some-bytes fresh text (Ended l x e) a = omega (arith, length-append x (e ∷ []))
some-bytes fresh text (Pending l x) a = a.4

none-before : (fresh : Bool) (text : List ℕ) (s : Segment) (r : List ℕ) → text ≡ [] → text ≡ bytes_of s ++ r → BeginsWith fresh text s → ⊥
none-before fresh text s r none is a =
    let long : length (bytes_of s ++ r) ≡ 0 = ap length (sym is ∙ none) in omega (arith, long, length-append (bytes_of s) r, some-bytes fresh text s a)

pub one_way : (fresh : Bool) (text : List ℕ) (some others : List Segment) → AreSegments fresh text some → AreSegments fresh text others → some ≡ others
one_way fresh text [] [] a b = refl
one_way fresh text [] (t ∷ others) a b = absurd (none-before fresh text t b.0 a b.1 b.2)
one_way fresh text (s ∷ some) [] a b = absurd (none-before fresh text s a.0 b a.1 a.2)
one_way fresh text (s ∷ some) (t ∷ others) a b =
    let same = segment-same fresh text s t a.0 b.0 a.1 b.1 a.2 b.2 in
    let there : AreSegments (ends_line (bytes_of s)) a.0 others = subst (λ r. AreSegments (ends_line (bytes_of s)) r others) (sym same.1) (subst (λ u. AreSegments (ends_line (bytes_of u)) b.0 others) (sym same.0) b.3) in
    ap (λ u. u ∷ some) same.0 ∙ ap (λ rest. t ∷ rest) (one_way (ends_line (bytes_of s)) a.0 some others a.3 there)

-- ---- a script

whole_by : (bytes rest : List ℕ) (valid : ℕ) → drop valid bytes ≡ rest → (if may_go_on End rest then None else Some valid) ≡ None → take valid bytes ≡ bytes
whole_by bytes [] valid at none = sym (append-nil (take valid bytes)) ∙ ap (λ r. take valid bytes ++ r) (sym at) ∙ take-append-drop valid bytes
whole_by bytes (b ∷ rest) valid at none = absurd (let bad : Some valid ≡ None = none in cc)

-- without a bad character all of it is cut
pub parts_of-whole : (bytes : List ℕ) → bad_character End bytes ≡ None → parts_of bytes End ≡ parts_from true true 0 bytes
unfolding parts_of
parts_of-whole bytes none =
    let whole = whole_by bytes (drop (utf8_valid_len bytes) bytes) (utf8_valid_len bytes) refl none in
    ap (λ bad. parts_from (runs_pending End bad) true 0 (characters bytes) ++ bad_parts bad) none ∙ append-nil (parts_from true true 0 (characters bytes)) ∙ ap (parts_from true true 0) whole
