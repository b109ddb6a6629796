-- An accumulator that is given one row more is that of the rows with this one behind them.
use Rattle.std.proofs.Common.{◌≡◌, ◌∙◌, ℕ, ◌+◌, ◌-◌, ◌^◌, ◌<◌, ◌≤◌, Bool, true, false, ◌&&◌, if◌then◌else◌, List, [], ◌∷◌, ◌++◌, length, map, cond, nat_lt, ℤ, ◌+ℤ◌, pos, Some, refl, sym, ap, subst, arith}
use Rattle.std.specs.List.{flat_map, list_all}
use Rattle.std.proofs.Math.Bool.{and-true}
use Rattle.std.proofs.lemmas.Bool.{lt-ltb, ltb-true}
use Rattle.std.proofs.lemmas.Grind.{flat_map-append}
use Rattle.std.proofs.lemmas.List.{append-nil, append_assoc, length-append, length-map, map-append}
use Rattle.std.proofs.lemmas.List.Elements.{filter-append}
use Rattle.std.proofs.lemmas.List.Folds.{list_all-append}
use Rattle.std.proofs.lemmas.List.Sums.{count_by-le-length, fold-append, length-filter}
use Rattle.eng_aggr.specs.Accumulators.{HasRoom, HasRoomInSum, WasGivenFew, added, after, are_texts, best_after, better, joined_after, joined_with, passed, seen, so_far_after, stepped, sum_after, taken, text_or_too_big}
use Rattle.eng_aggr.specs.Aggregates.{argument, is_integer, is_known, is_text, known, pieces, separated, separator, text_of, total, values}
use Rattle.eng_aggr.specs.Totals.{integer_total}
use Rattle.eng_aggr.specs.declared.accumulator.Accumulator.{Accumulator}
use Rattle.eng_aggr.specs.declared.accumulator.SoFar.{SoFar}
use Rattle.eng_aggr.specs.declared.accumulator.SoFar.TheVariants as so_far
use Rattle.eng_aggr.specs.declared.aggregate.Aggregate.{Aggregate}
use Rattle.eng_aggr.specs.declared.aggregate.Aggregate.TheVariants as aggregate
use Rattle.eng_aggr.specs.declared.best.Best.{Best}
use Rattle.eng_aggr.specs.declared.best.Extreme.{Extreme}
use Rattle.eng_aggr.specs.declared.best.Extreme.TheVariants.{Largest, Smallest}
use Rattle.eng_aggr.specs.declared.joining.Joined.TheVariants as joined
use Rattle.eng_aggr.specs.declared.summing.Sum.TheVariants as sum
use Rattle.eng_value.specs.declared.collation.Collation.{Collation}
use Rattle.eng_value.specs.declared.limits.TheConstants.{MAX_VALUE_BYTES}
use Rattle.eng_value.specs.declared.value.Value.{Value}
use Rattle.eng_value.specs.Functions.{integer_in}

-- ---- the rows that are known

filtered : (row : List Value) (b : Bool) → is_known row ≡ b → known (row ∷ []) ≡ cond b (row ∷ []) []
filtered row b e = ap (λ t. cond t (row ∷ []) []) e

known-more : (rows : List (List Value)) (row : List Value) → is_known row ≡ true → known (rows ++ row ∷ []) ≡ known rows ++ row ∷ []
known-more rows row e = filter-append is_known rows (row ∷ []) ∙ ap (λ rs. known rows ++ rs) (filtered row true e)

known-same : (rows : List (List Value)) (row : List Value) → is_known row ≡ false → known (rows ++ row ∷ []) ≡ known rows
known-same rows row e = filter-append is_known rows (row ∷ []) ∙ ap (λ rs. known rows ++ rs) (filtered row false e) ∙ append-nil (known rows)

values-more : (rows : List (List Value)) (row : List Value) → is_known row ≡ true → values (rows ++ row ∷ []) ≡ values rows ++ argument row ∷ []
values-more rows row e = ap (map argument) (known-more rows row e) ∙ map-append argument (known rows) (row ∷ [])

length-more : {X : Type 0} (xs : List X) (x : X) → length xs + 1 ≡ length (xs ++ x ∷ [])
length-more xs x = sym (length-append xs (x ∷ []))

-- ---- sums

sum_case : (a b : Bool) (v : Value) (n : ℕ) (t : ℤ) → is_integer v ≡ b → added v (if a then sum.Exact (integer_total n t) else sum.Real) ≡ (if a && (b && true) then sum.Exact (integer_total (n + 1) (t +ℤ integer_in v)) else sum.Real)
sum_case true b v n t e = ap (λ k. if k then sum.Exact (integer_total (n + 1) (t +ℤ integer_in v)) else sum.Real) (e ∙ sym (and-true b))
sum_case false b v n t e = refl

sum-more : (vs : List Value) (v : Value) → added v (sum_after vs) ≡ sum_after (vs ++ v ∷ [])
sum-more vs v =
    sum_case (list_all is_integer vs) (is_integer v) v (length vs) (total vs) refl
    ∙ ap (λ b. if b then sum.Exact (integer_total (length vs + 1) (total vs +ℤ integer_in v)) else sum.Real) (sym (list_all-append is_integer vs (v ∷ [])))
    ∙ ap (λ n. if list_all is_integer (vs ++ v ∷ []) then sum.Exact (integer_total n (total vs +ℤ integer_in v)) else sum.Real) (length-more vs v)
    ∙ ap (λ t. if list_all is_integer (vs ++ v ∷ []) then sum.Exact (integer_total (length (vs ++ v ∷ [])) t) else sum.Real) (sym (fold-append (λ (s : ℤ) (w : Value). s +ℤ integer_in w) (pos 0) vs (v ∷ [])))

-- ---- the best value

abbrev best_with : Extreme → Collation → Value → Best
best_with extreme c v = record { extreme = extreme; collation = c; value = Some v }

best-more : (extreme : Extreme) (c : Collation) (vs : List Value) (v : Value) → seen v (best_after extreme c vs) ≡ best_after extreme c (vs ++ v ∷ [])
best-more extreme c [] v = refl
best-more extreme c (w ∷ vs) v = ap (best_with extreme c) (sym (fold-append (better extreme c) w vs (v ∷ [])))

-- ---- texts

one_text : (v : Value) → joined_with v v joined.Nothing ≡ joined_after (v ∷ [])
one_text v =
    ap (λ b. if b then text_or_too_big (text_of v) else joined.NotText) (sym (and-true (is_text v)))
    ∙ ap (λ t. if is_text v && true then text_or_too_big t else joined.NotText) (sym (append-nil (text_of v)))

too_big : (front back : List ℕ) → nat_lt MAX_VALUE_BYTES (length front) ≡ true → text_or_too_big (front ++ back) ≡ joined.TooBig
too_big front back e =
    let lt : MAX_VALUE_BYTES < length front = ltb-true MAX_VALUE_BYTES (length front) e in
    let more : MAX_VALUE_BYTES < length (front ++ back) = omega (arith, lt, length-append front back) in
    ap (λ b. if b then joined.TooBig else joined.Text (front ++ back)) (lt-ltb MAX_VALUE_BYTES (length (front ++ back)) more)

-- behind a text that is too big or not
behind_case : (big b : Bool) (front : List ℕ) (s v : Value) → nat_lt MAX_VALUE_BYTES (length front) ≡ big → are_texts s v ≡ b
    → joined_with s v (if big then joined.TooBig else joined.Text front) ≡ (if b then text_or_too_big (front ++ text_of s ++ text_of v) else joined.NotText)
behind_case true true front s v e f =
    ap (λ k. if k then joined.TooBig else joined.NotText) f
    ∙ sym (ap text_or_too_big (append_assoc front (text_of s) (text_of v)) ∙ too_big front (text_of s ++ text_of v) e)
behind_case true false front s v e f = ap (λ k. if k then joined.TooBig else joined.NotText) f
behind_case false b front s v e f = ap (λ k. if k then text_or_too_big (front ++ text_of s ++ text_of v) else joined.NotText) f

joined_case : (a b : Bool) (front : List ℕ) (s v : Value) → are_texts s v ≡ b
    → joined_with s v (if a then text_or_too_big front else joined.NotText) ≡ (if a && b then text_or_too_big (front ++ text_of s ++ text_of v) else joined.NotText)
joined_case true b front s v e = behind_case (nat_lt MAX_VALUE_BYTES (length front)) b front s v refl e
joined_case false b front s v e = refl

all_texts : (p : Value) (ps : List Value) (s v : Value) → (list_all is_text (p ∷ ps) && are_texts s v) ≡ list_all is_text (p ∷ ps ++ s ∷ v ∷ [])
all_texts p ps s v =
    ap (λ b. list_all is_text (p ∷ ps) && (is_text s && b)) (sym (and-true (is_text v)))
    ∙ sym (list_all-append is_text (p ∷ ps) (s ∷ v ∷ []))

whole_text : (p : Value) (ps : List Value) (s v : Value) → flat_map text_of (p ∷ ps) ++ text_of s ++ text_of v ≡ flat_map text_of (p ∷ ps ++ s ∷ v ∷ [])
whole_text p ps s v =
    append_assoc (flat_map text_of (p ∷ ps)) (text_of s) (text_of v)
    ∙ ap (λ t. flat_map text_of (p ∷ ps) ++ (text_of s ++ t)) (sym (append-nil (text_of v)))
    ∙ sym (flat_map-append text_of (p ∷ ps) (s ∷ v ∷ []))

joined-more : (p : Value) (ps : List Value) (s v : Value) → joined_with s v (joined_after (p ∷ ps)) ≡ joined_after (p ∷ ps ++ s ∷ v ∷ [])
joined-more p ps s v =
    joined_case (list_all is_text (p ∷ ps)) (are_texts s v) (flat_map text_of (p ∷ ps)) s v refl
    ∙ ap (λ b. if b then text_or_too_big (flat_map text_of (p ∷ ps) ++ text_of s ++ text_of v) else joined.NotText) (all_texts p ps s v)
    ∙ ap (λ t. if list_all is_text (p ∷ ps ++ s ∷ v ∷ []) then text_or_too_big t else joined.NotText) (whole_text p ps s v)

pieces-more : (rows : List (List Value)) (row : List Value) → joined_with (separator row) (argument row) (joined_after (pieces rows)) ≡ joined_after (pieces (rows ++ row ∷ []))
pieces-more [] row = one_text (argument row)
pieces-more (r ∷ rows) row =
    joined-more (argument r) (flat_map separated rows) (separator row) (argument row)
    ∙ ap (λ ps. joined_after (argument r ∷ ps)) (sym (flat_map-append separated rows (row ∷ [])))

-- ---- one row more

taken-more : (f : Aggregate) (c : Collation) (rows : List (List Value)) (row : List Value) → is_known row ≡ true
    → taken (separator row) (argument row) (so_far_after f c rows) ≡ so_far_after f c (rows ++ row ∷ [])
taken-more aggregate.CountRows c rows row e = ap so_far.Rows (length-more rows row)
taken-more aggregate.Count c rows row e = ap so_far.Known (length-more (known rows) row ∙ ap length (sym (known-more rows row e)))
taken-more aggregate.Sum c rows row e = ap so_far.Sum (sum-more (values rows) (argument row) ∙ ap sum_after (sym (values-more rows row e)))
taken-more aggregate.Min c rows row e = ap so_far.Best (best-more Smallest c (values rows) (argument row) ∙ ap (best_after Smallest c) (sym (values-more rows row e)))
taken-more aggregate.Max c rows row e = ap so_far.Best (best-more Largest c (values rows) (argument row) ∙ ap (best_after Largest c) (sym (values-more rows row e)))
taken-more aggregate.GroupConcat c rows row e = ap so_far.Joined (pieces-more (known rows) row ∙ ap (λ rs. joined_after (pieces rs)) (sym (known-more rows row e)))

passed-more : (f : Aggregate) (c : Collation) (rows : List (List Value)) (row : List Value) → is_known row ≡ false
    → passed (so_far_after f c rows) ≡ so_far_after f c (rows ++ row ∷ [])
passed-more aggregate.CountRows c rows row e = ap so_far.Rows (length-more rows row)
passed-more aggregate.Count c rows row e = ap (λ rs. so_far.Known (length rs)) (sym (known-same rows row e))
passed-more aggregate.Sum c rows row e = ap (λ rs. so_far.Sum (sum_after (map argument rs))) (sym (known-same rows row e))
passed-more aggregate.Min c rows row e = ap (λ rs. so_far.Best (best_after Smallest c (map argument rs))) (sym (known-same rows row e))
passed-more aggregate.Max c rows row e = ap (λ rs. so_far.Best (best_after Largest c (map argument rs))) (sym (known-same rows row e))
passed-more aggregate.GroupConcat c rows row e = ap (λ rs. so_far.Joined (joined_after (pieces rs))) (sym (known-same rows row e))

stepped_case : (b : Bool) (f : Aggregate) (c : Collation) (rows : List (List Value)) (row : List Value) → is_known row ≡ b
    → stepped row (so_far_after f c rows) ≡ so_far_after f c (rows ++ row ∷ [])
stepped_case true f c rows row e = ap (λ b. if b then taken (separator row) (argument row) (so_far_after f c rows) else passed (so_far_after f c rows)) e ∙ taken-more f c rows row e
stepped_case false f c rows row e = ap (λ b. if b then taken (separator row) (argument row) (so_far_after f c rows) else passed (so_far_after f c rows)) e ∙ passed-more f c rows row e

abbrev pub holding : SoFar → Accumulator
holding s = record { so_far = s }

pub stepped_more : (held : Accumulator) (f : Aggregate) (c : Collation) (rows : List (List Value)) (row : List Value) (new : SoFar) → held ≡ after f c rows
    → new ≡ stepped row held.so_far → holding new ≡ after f c (rows ++ row ∷ [])
unfolding after
stepped_more held f c rows row new is e =
    ap holding (e ∙ ap (λ (h : Accumulator). stepped row h.so_far) is ∙ stepped_case (is_known row) f c rows row refl)

-- ---- a count of 64 bits holds one row more

known-few : (rows : List (List Value)) → length (known rows) ≤ length rows
known-few rows = omega (arith, length-filter is_known rows, count_by-le-length is_known rows)

values-few : (rows : List (List Value)) → length (values rows) ≤ length rows
values-few rows = omega (arith, length-map (known rows) argument, known-few rows)

sum-room : (b : Bool) (n : ℕ) (t : ℤ) → n < 2 ^ 64 - 1 → HasRoomInSum (if b then sum.Exact (integer_total n t) else sum.Real)
sum-room true n t lt = lt
sum-room false n t lt = tt

room_after : (f : Aggregate) (c : Collation) (rows : List (List Value)) → length rows < 2 ^ 64 - 1 → HasRoom (so_far_after f c rows)
room_after aggregate.CountRows c rows lt = lt
room_after aggregate.Count c rows lt = let le = known-few rows in omega (arith, lt, le)
room_after aggregate.Sum c rows lt = let le = values-few rows in sum-room (list_all is_integer (values rows)) (length (values rows)) (total (values rows)) (omega (arith, lt, le))
room_after aggregate.Min c rows lt = tt
room_after aggregate.Max c rows lt = tt
room_after aggregate.GroupConcat c rows lt = tt

pub has_room : (held : Accumulator) → WasGivenFew held → HasRoom held.so_far
unfolding after
has_room held few = subst (λ (h : Accumulator). HasRoom h.so_far) (sym few.3) (room_after few.0 few.1 few.2 few.4)
