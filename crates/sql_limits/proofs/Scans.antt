-- The scan of nested tokens fits exactly where they keep the limits.
use Rattle.std.proofs.Common.{◌≡◌, ◌∙◌, ℕ, zero, suc, ◌+◌, ◌<◌, ◌≤◌, ◌⊎◌, List, [], ◌∷◌, ◌++◌, length, slice_index, slice_set, Ok, Err, refl, sym, ap, arith, inl, inr, subst, get_or-set_same, get_or-set_other}
use Rattle.std.proofs.lemmas.List.{length-set}
use Rattle.std.proofs.Math.Nat.{eq-or-lt_of_le}
use Rattle.sql_tree.specs.declared.token.Token.{Token}
use Rattle.sql_grammar.specs.declared.counts.Counts.{Counts}
use Rattle.sql_grammar.specs.declared.counts.Limit.{Limit}
use Rattle.sql_grammar.specs.declared.counts.Limit.TheVariants as limit
use Rattle.sql_grammar.specs.declared.counts.TheConstants.{MAX_NESTINGS, MAX_OPERATORS, MAX_PARTS}
use Rattle.sql_grammar.specs.declared.counts.Role.TheVariants as role
use Rattle.sql_grammar.specs.Marks.{count, stays, opens, closes, Marked, marked, Fits, Past, run}
use Rattle.sql_grammar.proofs.ReadingLaws.{run_append, run_more, fits_then}
use Rattle.sql_limits.specs.Nestings.{Single, quiet, operator, outside, fresh, part, Bracket, of_expression, of_others, Nested, nothing, token, bracket, role_of, opening_of, closing_of, flat}
use Rattle.sql_limits.specs.Fronts.{closed_by}
use Rattle.sql_limits.specs.Limits.{operators, first_expression, other_expressions, parts, first_query, other_queries}
use Rattle.sql_limits.proofs.Counted.{state, kept, taken_in, deeper, counts_quiet, counts_operator, over_operators, counts_outside, counts_fresh, counts_part, over_parts, counts_opening, counts_closing}
use Rattle.sql_limits.proofs.Steps.{OperatorsFrom, KeepsFrom, Same, nothing_keeps, quiet_same, operator_same, outside_same, fresh_same, part_same, inside_keeps, behind_same, none_left, each_append}

-- what is true of the counts in front of nested tokens
pub record Valid (d i o p : ℕ) (ps : List ℕ) : Type 0 where
  pub level : d + p ≡ MAX_NESTINGS
  pub inner : i ≤ p
  pub few : o ≤ MAX_OPERATORS
  pub size : length ps ≡ MAX_NESTINGS + 1
  pub small : slice_index ps p ≤ MAX_PARTS

-- they keep the limits, and the scan goes on behind them
pub record Passes (d i o p : ℕ) (ps : List ℕ) (n : Nested) : Type 0 where
  pub keeps : (l : Limit) → KeepsFrom l d i o (slice_index ps p) n
  pub total : ℕ
  pub after : List ℕ
  pub runs : run d (state o i p ps) (flat n) ≡ Fits d (state total i p after)
  pub few : total ≤ MAX_OPERATORS
  pub exact : 1 ≤ i → total ≡ o + operators n
  pub size : length after ≡ MAX_NESTINGS + 1
  pub same : (k : ℕ) → k < p → slice_index after k ≡ slice_index ps k

-- They don't keep one, and the scan stops at it. Where nothing but closing tokens comes behind, they keep the others.
pub record Stops (d i o p : ℕ) (ps : List ℕ) (n : Nested) : Type 0 where
  pub at : Limit
  pub head : Marked
  pub rest : List Marked
  pub runs : run d (state o i p ps) (flat n) ≡ Past at (head ∷ rest)
  pub breaks : KeepsFrom at d i o (slice_index ps p) n → ⊥
  pub alone : (closings : List (Bracket × Token)) → rest ≡ closed_by closings → (l : Limit) → (l ≡ at) ⊎ KeepsFrom l d i o (slice_index ps p) n

abbrev pub Ends : ℕ → ℕ → ℕ → ℕ → List ℕ → Nested → Type 0
Ends d i o p ps n = Passes d i o p ps n ⊎ Stops d i o p ps n

-- where the scan of the first is that of the second
goes_on : (d i o p : ℕ) (ps : List ℕ) (m : Nested) (u : ℕ) (qs : List ℕ) (n : Nested) → run d (state o i p ps) (flat m) ≡ run d (state u i p qs) (flat n) → Same d i o (slice_index ps p) m d i u (slice_index qs p) n
    → (1 ≤ i → u + operators n ≡ o + operators m) → ((k : ℕ) → k < p → slice_index qs k ≡ slice_index ps k) → Ends d i u p qs n → Ends d i o p ps m
goes_on d i o p ps m u qs n is s sums same (inl x) = inl (record {
  keeps = λ l. s.up l (x.keeps l);
  total = x.total;
  after = x.after;
  runs = is ∙ x.runs;
  few = x.few;
  exact = λ h. x.exact h ∙ sums h;
  size = x.size;
  same = λ k h. x.same k h ∙ same k h;
})
goes_on d i o p ps m u qs n is s sums same (inr x) = inr (record {
  at = x.at;
  head = x.head;
  rest = x.rest;
  runs = is ∙ x.runs;
  breaks = λ h. x.breaks (s.down x.at h);
  alone = λ closings e l. elim (x.alone closings e l) [ inl y ↦ inl y | inr k ↦ inr (s.up l k) ];
})

stays_ok : (d : ℕ) (c e : Counts) (s : Single) (t : Token) (w : List Marked) → count (role_of s) c ≡ Ok e → run d c (marked (stays (role_of s)) t ∷ w) ≡ run d e w
stays_ok d c e s t w h = rw h refl

stays_past : (d : ℕ) (c : Counts) (l : Limit) (s : Single) (t : Token) (w : List Marked) → count (role_of s) c ≡ Err l → run d c (marked (stays (role_of s)) t ∷ w) ≡ Past l (marked (stays (role_of s)) t ∷ w)
stays_past d c l s t w h = rw h refl

opens_ok : (d : ℕ) (c e : Counts) (b : Bracket) (t : Token) (w : List Marked) → count (opening_of b) c ≡ Ok e → run (suc d) c (marked (opens (opening_of b)) t ∷ w) ≡ run d e w
opens_ok d c e b t w h = rw h refl

closes_ok : (d : ℕ) (c e : Counts) (b : Bracket) (t : Token) (w : List Marked) → count (closing_of b) c ≡ Ok e → run d c (marked (closes (closing_of b)) t ∷ w) ≡ run (suc d) e w
closes_ok d c e b t w h = rw h refl

-- ---- numbers

kept_few : (i o : ℕ) → o ≤ MAX_OPERATORS → kept i o ≤ MAX_OPERATORS
kept_few zero o h = omega arith
kept_few (suc i) o h = h

kept_inside : (i o : ℕ) → 1 ≤ i → kept i o ≡ o
kept_inside zero o h = absurd (omega arith)
kept_inside (suc i) o h = refl

taken_few : (b : Bracket) (i o : ℕ) → o ≤ MAX_OPERATORS → taken_in b i o ≤ MAX_OPERATORS
taken_few of_expression i o h = h
taken_few of_others i o h = kept_few i o h

taken_inside : (b : Bracket) (i o : ℕ) → 1 ≤ i → taken_in b i o ≡ o
taken_inside of_expression i o h = refl
taken_inside of_others i o h = kept_inside i o h

deeper_inside : (b : Bracket) (i : ℕ) → 1 ≤ i → 1 ≤ deeper b i
deeper_inside of_expression i h = omega arith
deeper_inside of_others i h = h

deeper_within : (b : Bracket) (i p : ℕ) → i ≤ p → deeper b i ≤ suc p
deeper_within of_expression i p h = omega arith
deeper_within of_others i p h = omega arith

too_many_operators : (i o : ℕ) (t : Token) (n : Nested) → o ≡ MAX_OPERATORS → OperatorsFrom i o (token operator t n) → ⊥
too_many_operators zero o t n e h = let f = h.0 in omega arith
too_many_operators (suc i) o t n e h = omega arith

at_set : (ps : List ℕ) (p v : ℕ) → p < length ps → slice_index (slice_set ps p v) p ≡ v
at_set ps p v h = get_or-set_same ps p v 0 h

below_set : (ps : List ℕ) (p k v : ℕ) → k < p → slice_index (slice_set ps p v) k ≡ slice_index ps k
below_set ps p k v h = get_or-set_other ps p k v 0 (omega arith)

-- ---- where nothing but closing tokens comes behind

none_behind : (n : Nested) (closings : List (Bracket × Token)) → flat n ≡ closed_by closings → n ≡ nothing
none_behind nothing closings e = refl
none_behind (token s t n) [] e = cc
none_behind (token s t n) (x ∷ more) e =
    let heads : marked (stays (role_of s)) t ≡ marked (closes (closing_of x.0)) x.1 = cc in
    let marks : stays (role_of s) ≡ closes (closing_of x.0) = ap (λ y. y.mark) heads in
    cc
none_behind (bracket b t m z n) [] e = cc
none_behind (bracket b t m z n) (x ∷ more) e =
    let heads : marked (opens (opening_of b)) t ≡ marked (closes (closing_of x.0)) x.1 = cc in
    let marks : opens (opening_of b) ≡ closes (closing_of x.0) = ap (λ y. y.mark) heads in
    cc

only_closings : (b : Bracket) (w : List Marked) (z : Token) (n : Nested) (closings : List (Bracket × Token)) → w ++ marked (closes (closing_of b)) z ∷ flat n ≡ closed_by closings → (inner : List (Bracket × Token)) × (w ≡ closed_by inner) × (n ≡ nothing)
only_closings b [] z n [] e = cc
only_closings b [] z n (x ∷ more) e = let tails : flat n ≡ closed_by more = cc in ([], refl, none_behind n more tails)
only_closings b (y ∷ w) z n [] e = cc
only_closings b (y ∷ w) z n (x ∷ more) e =
    let heads : y ≡ marked (closes (closing_of x.0)) x.1 = cc in
    let tails : w ++ marked (closes (closing_of b)) z ∷ flat n ≡ closed_by more = cc in
    let f = only_closings b w z n more tails in
    let g = f.1 in
    (x ∷ f.0, cc, f.2)

none_inside : (b : Bracket) (m : Nested) (z : Token) (n : Nested) (closings : List (Bracket × Token)) → flat m ++ marked (closes (closing_of b)) z ∷ flat n ≡ closed_by closings → (m ≡ nothing) × (n ≡ nothing)
none_inside b m z n closings e = let f = only_closings b (flat m) z n closings e in (none_behind m f.0 f.1, f.2)

operator_alone : (d i o q : ℕ) (t : Token) → q ≤ MAX_PARTS → (l : Limit) → (l ≡ limit.Operators) ⊎ KeepsFrom l d i o q (token operator t nothing)
operator_alone d i o q t h limit.Nestings = inr (omega arith)
operator_alone d i o q t h limit.Operators = inl refl
operator_alone d i o q t h limit.Parts = inr (omega arith, tt)

part_alone : (d i o q : ℕ) (t : Token) → o ≤ MAX_OPERATORS → (l : Limit) → (l ≡ limit.Parts) ⊎ KeepsFrom l d i o q (token part t nothing)
part_alone d i o q t h limit.Nestings = inr (omega arith)
part_alone d zero o q t h limit.Operators = inr (omega arith, (omega arith, tt))
part_alone d (suc i) o q t h limit.Operators = inr (omega arith)
part_alone d i o q t h limit.Parts = inl refl

around_keeps : (b : Bracket) (d i o q : ℕ) (t : Token) (m : Nested) (z : Token) → o ≤ MAX_OPERATORS → q ≤ MAX_PARTS → (l : Limit) → KeepsFrom l d (deeper b i) (taken_in b i o) 0 m → KeepsFrom l (suc d) i o q (bracket b t m z nothing)
around_keeps b d i o q t m z f g limit.Nestings h = omega arith
around_keeps of_expression d zero o q t m z f g limit.Operators h = (omega arith, tt)
around_keeps of_expression d (suc i) o q t m z f g limit.Operators h = omega arith
around_keeps of_others d zero o q t m z f g limit.Operators h = let k = h.0 in (omega arith, each_append (λ e. operators e ≤ MAX_OPERATORS) (first_expression m ∷ other_expressions m) (nothing ∷ []) (omega arith, h.1) (omega arith, tt))
around_keeps of_others d (suc i) o q t m z f g limit.Operators h = omega arith
around_keeps b d i o q t m z f g limit.Parts h = let k = h.0 in (omega arith, each_append (λ e. parts e ≤ MAX_PARTS) (first_query m ∷ other_queries m) [] (omega arith, h.1) tt)

empty_alone : (b : Bracket) (i o q : ℕ) (t : Token) (m : Nested) (z : Token) (n : Nested) → o ≤ MAX_OPERATORS → q ≤ MAX_PARTS → (m ≡ nothing) × (n ≡ nothing) → (l : Limit) → (l ≡ limit.Nestings) ⊎ KeepsFrom l 0 i o q (bracket b t m z n)
empty_alone b i o q t m z n f g e = subst (λ y. (l : Limit) → (l ≡ limit.Nestings) ⊎ KeepsFrom l 0 i o q (bracket b t y z n)) (sym e.0) (subst (λ y. (l : Limit) → (l ≡ limit.Nestings) ⊎ KeepsFrom l 0 i o q (bracket b t nothing z y)) (sym e.1) (go b i)) where
  go : (b : Bracket) (i : ℕ) (l : Limit) → (l ≡ limit.Nestings) ⊎ KeepsFrom l 0 i o q (bracket b t nothing z nothing)
  go b i limit.Nestings = inl refl
  go of_expression zero limit.Operators = inr (omega arith, tt)
  go of_expression (suc i) limit.Operators = inr (omega arith)
  go of_others zero limit.Operators = inr (omega arith, (omega arith, (omega arith, tt)))
  go of_others (suc i) limit.Operators = inr (omega arith)
  go b i limit.Parts = inr (omega arith, (omega arith, tt))

-- ---- the scan

pub ends : (n : Nested) (d i o p : ℕ) (ps : List ℕ) → Valid d i o p ps → Ends d i o p ps n
ends nothing d i o p ps v = inl (record { keeps = λ l. nothing_keeps l d i o _ v.few v.small; total = o; after = ps; runs = refl; few = v.few; exact = λ h. omega arith; size = v.size; same = λ k h. refl })
ends (token quiet t n) d i o p ps v = goes_on d i o p ps (token quiet t n) o ps n (stays_ok d _ _ quiet t (flat n) (counts_quiet _)) (quiet_same d i o _ t n) (λ h. refl) (λ k h. refl) (ends n d i o p ps v)
ends (token operator t n) d i o p ps v = elim (eq-or-lt_of_le v.few) [
  | inl e ↦ inr (record {
    at = limit.Operators;
    head = marked (stays role.Operator) t;
    rest = flat n;
    runs = stays_past d _ _ operator t (flat n) (over_operators o i p ps (omega arith));
    breaks = too_many_operators i o t n e;
    alone = λ closings c. subst (λ m. (l : Limit) → (l ≡ limit.Operators) ⊎ KeepsFrom l d i o (slice_index ps p) (token operator t m)) (sym (none_behind n closings c)) (operator_alone d i o _ t v.small);
  })
  | inr h ↦ goes_on d i o p ps (token operator t n) (o + 1) ps n (stays_ok d _ _ operator t (flat n) (counts_operator o i p ps h)) (operator_same d i o _ t n) (λ l. omega arith) (λ k l. refl)
      (ends n d i (o + 1) p ps (record { level = v.level; inner = v.inner; few = omega arith; size = v.size; small = v.small }))
]
ends (token outside t n) d i o p ps v =
    goes_on d i o p ps (token outside t n) (kept i o) ps n (stays_ok d _ _ outside t (flat n) (counts_outside o i p ps)) (outside_same d i o _ t n v.few) (λ h. ap (λ x. x + operators n) (kept_inside i o h)) (λ k h. refl)
    (ends n d i (kept i o) p ps (record { level = v.level; inner = v.inner; few = kept_few i o v.few; size = v.size; small = v.small }))
ends (token fresh t n) d i o p ps v =
    let level = v.level in
    let size = v.size in
    let here : p < MAX_NESTINGS + 1 = omega arith in
    let there : p < length ps = omega arith in
    let none = at_set ps p 0 there in
    goes_on d i o p ps (token fresh t n) (kept i o) (slice_set ps p 0) n (stays_ok d _ _ fresh t (flat n) (counts_fresh o i p ps here)) (fresh_same d i o _ _ t n v.few v.small none) (λ h. ap (λ x. x + operators n) (kept_inside i o h)) (λ k h. below_set ps p k 0 h)
    (ends n d i (kept i o) p (slice_set ps p 0) (record { level = v.level; inner = v.inner; few = kept_few i o v.few; size = length-set ps p 0 ∙ v.size; small = omega arith }))
ends (token part t n) d i o p ps v =
    let level = v.level in
    let size = v.size in
    let here : p < MAX_NESTINGS + 1 = omega arith in
    let there : p < length ps = omega arith in
    elim (eq-or-lt_of_le v.small) [
      | inl e ↦ inr (record {
        at = limit.Parts;
        head = marked (stays role.Part) t;
        rest = flat n;
        runs = stays_past d _ _ part t (flat n) (over_parts o i p ps here (omega arith));
        breaks = λ h. let f = h.0 in omega arith;
        alone = λ closings c. subst (λ m. (l : Limit) → (l ≡ limit.Parts) ⊎ KeepsFrom l d i o (slice_index ps p) (token part t m)) (sym (none_behind n closings c)) (part_alone d i o _ t v.few);
      })
      | inr h ↦ (
          let q = slice_index ps p + 1 in
          let one_more = at_set ps p q there in
          goes_on d i o p ps (token part t n) (kept i o) (slice_set ps p q) n (stays_ok d _ _ part t (flat n) (counts_part o i p ps here h)) (part_same d i o _ _ t n v.few one_more) (λ l. ap (λ x. x + operators n) (kept_inside i o l)) (λ k l. below_set ps p k q l)
          (ends n d i (kept i o) p (slice_set ps p q) (record { level = v.level; inner = v.inner; few = kept_few i o v.few; size = length-set ps p q ∙ v.size; small = omega arith }))
          )
    ]
ends (bracket b t m z n) zero i o p ps v = inr (record {
  at = limit.Nestings;
  head = marked (opens (opening_of b)) t;
  rest = flat m ++ marked (closes (closing_of b)) z ∷ flat n;
  runs = refl;
  breaks = none_left b i o (slice_index ps p) t m z n;
  alone = λ closings c. empty_alone b i o _ t m z n v.few v.small (none_inside b m z n closings c);
})
ends (bracket b t m z n) (suc d) i o p ps v =
    let level = v.level in
    let size = v.size in
    let inner = v.inner in
    let deep : p < MAX_NESTINGS = omega arith in
    let qs = slice_set ps (suc p) 0 in
    let none = at_set ps (suc p) 0 (omega arith) in
    let within : Valid d (deeper b i) (taken_in b i o) (suc p) qs = record { level = omega arith; inner = deeper_within b i p inner; few = taken_few b i o v.few; size = length-set ps (suc p) 0 ∙ v.size; small = omega arith } in
    let opened = opens_ok d _ _ b t (flat m ++ marked (closes (closing_of b)) z ∷ flat n) (counts_opening b o i p ps inner deep) in
    elim (ends m d (deeper b i) (taken_in b i o) (suc p) qs within) [
      | inl x ↦ (
          let same : (k : ℕ) → k < suc p → slice_index x.after k ≡ slice_index ps k = λ k h. x.same k h ∙ below_set ps (suc p) k 0 h in
          let here = same p (omega arith) in
          let u = x.total in
          let exact = x.exact in
          let small = v.small in
          goes_on (suc d) i o p ps (bracket b t m z n) (taken_in b i u) x.after n
          (opened ∙ fits_then d d _ _ (flat m) _ x.runs ∙ closes_ok d _ _ b z (flat n) (counts_closing b u i p x.after))
          (behind_same b d i o _ _ u t m z n v.few (λ l. subst (λ q. KeepsFrom l d (deeper b i) (taken_in b i o) q m) none (x.keeps l)) here exact)
          (λ h. let e = exact (deeper_inside b i h) in let f = taken_inside b i o h in let g = taken_inside b i u h in omega arith)
          (λ k h. same k (omega arith))
          (ends n (suc d) i (taken_in b i u) p x.after (record { level = v.level; inner = v.inner; few = taken_few b i u x.few; size = x.size; small = omega arith }))
          )
      | inr x ↦ inr (record {
        at = x.at;
        head = x.head;
        rest = x.rest ++ marked (closes (closing_of b)) z ∷ flat n;
        runs = opened ∙ run_append d _ (flat m) _ ∙ ap (λ r. run_more r (marked (closes (closing_of b)) z ∷ flat n)) x.runs;
        breaks = λ h. x.breaks (subst (λ q. KeepsFrom x.at d (deeper b i) (taken_in b i o) q m) (sym none) (inside_keeps b d i o _ t m z n x.at h));
        alone = λ closings c. let f = only_closings b x.rest z n closings c in λ l. elim (x.alone f.0 f.1 l) [
          | inl y ↦ inl y
          | inr k ↦ inr (subst (λ y. KeepsFrom l (suc d) i o (slice_index ps p) (bracket b t m z y)) (sym f.2) (around_keeps b d i o _ t m z v.few v.small l (subst (λ q. KeepsFrom l d (deeper b i) (taken_in b i o) q m) none k)))
        ];
      })
    ]
