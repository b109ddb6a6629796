-- What the limits ask of nested tokens, where something was counted in front of them; and how that changes with each token.
use Rattle.std.proofs.Common.{◌≡◌, ℕ, zero, suc, ◌+◌, ◌≤◌, List, [], ◌∷◌, ◌++◌, arith}
use Rattle.std.specs.List.{AllByRecursion}
use Rattle.sql_tree.specs.declared.token.Token.{Token}
use Rattle.sql_grammar.specs.declared.counts.Limit.{Limit}
use Rattle.sql_grammar.specs.declared.counts.Limit.TheVariants as limit
use Rattle.sql_grammar.specs.declared.counts.TheConstants.{MAX_OPERATORS, MAX_PARTS}
use Rattle.sql_limits.specs.Nestings.{quiet, operator, outside, fresh, part, Bracket, of_expression, of_others, Nested, nothing, token, bracket}
use Rattle.sql_limits.specs.Limits.{depth, operators, first_expression, other_expressions, parts, first_query, other_queries}
use Rattle.sql_limits.proofs.Counted.{kept, taken_in, deeper}

abbrev pub FewOperators : List Nested → Type 0
FewOperators es = AllByRecursion (λ e. operators e ≤ MAX_OPERATORS) es

abbrev pub FewParts : List Nested → Type 0
FewParts qs = AllByRecursion (λ q. parts q ≤ MAX_PARTS) qs

-- within so many brackets of expressions, behind so many operators
abbrev pub OperatorsFrom : ℕ → ℕ → Nested → Type 0
OperatorsFrom zero o n = (o + operators (first_expression n) ≤ MAX_OPERATORS) × FewOperators (other_expressions n)
OperatorsFrom (suc i) o n = o + operators n ≤ MAX_OPERATORS

-- where d brackets may still be opened, within i of expressions, behind o operators and q parts
abbrev pub KeepsFrom : Limit → ℕ → ℕ → ℕ → ℕ → Nested → Type 0
KeepsFrom limit.Nestings d i o q n = depth n ≤ d
KeepsFrom limit.Operators d i o q n = OperatorsFrom i o n
KeepsFrom limit.Parts d i o q n = (q + parts (first_query n) ≤ MAX_PARTS) × FewParts (other_queries n)

pub each_append : (P : Nested → Type 0) (xs ys : List Nested) → AllByRecursion P xs → AllByRecursion P ys → AllByRecursion P (xs ++ ys)
each_append P [] ys f g = g
each_append P (x ∷ xs) ys f g = (f.0, each_append P xs ys f.1 g)

pub each_split : (P : Nested → Type 0) (xs ys : List Nested) → AllByRecursion P (xs ++ ys) → AllByRecursion P xs × AllByRecursion P ys
each_split P [] ys f = (tt, f)
each_split P (x ∷ xs) ys f = let r = each_split P xs ys f.1 in ((f.0, r.0), r.1)

-- ---- single tokens

pub nothing_keeps : (l : Limit) (d i o q : ℕ) → o ≤ MAX_OPERATORS → q ≤ MAX_PARTS → KeepsFrom l d i o q nothing
nothing_keeps limit.Nestings d i o q f g = omega arith
nothing_keeps limit.Operators d zero o q f g = (omega arith, tt)
nothing_keeps limit.Operators d (suc i) o q f g = omega arith
nothing_keeps limit.Parts d i o q f g = (omega arith, tt)

-- what the limits ask of the first is what they ask of the second
pub record Same (d i o q : ℕ) (m : Nested) (e j p r : ℕ) (n : Nested) : Type 0 where
  pub up : (l : Limit) → KeepsFrom l e j p r n → KeepsFrom l d i o q m
  pub down : (l : Limit) → KeepsFrom l d i o q m → KeepsFrom l e j p r n

pub quiet_same : (d i o q : ℕ) (t : Token) (n : Nested) → Same d i o q (token quiet t n) d i o q n
quiet_same d i o q t n = record { up = up i; down = down i } where
  up : (i : ℕ) (l : Limit) → KeepsFrom l d i o q n → KeepsFrom l d i o q (token quiet t n)
  up i limit.Nestings h = h
  up zero limit.Operators h = h
  up (suc i) limit.Operators h = h
  up i limit.Parts h = h

  down : (i : ℕ) (l : Limit) → KeepsFrom l d i o q (token quiet t n) → KeepsFrom l d i o q n
  down i limit.Nestings h = h
  down zero limit.Operators h = h
  down (suc i) limit.Operators h = h
  down i limit.Parts h = h

pub operator_same : (d i o q : ℕ) (t : Token) (n : Nested) → Same d i o q (token operator t n) d i (o + 1) q n
operator_same d i o q t n = record { up = up i; down = down i } where
  up : (i : ℕ) (l : Limit) → KeepsFrom l d i (o + 1) q n → KeepsFrom l d i o q (token operator t n)
  up i limit.Nestings h = h
  up zero limit.Operators h = let f = h.0 in (omega arith, h.1)
  up (suc i) limit.Operators h = omega arith
  up i limit.Parts h = h

  down : (i : ℕ) (l : Limit) → KeepsFrom l d i o q (token operator t n) → KeepsFrom l d i (o + 1) q n
  down i limit.Nestings h = h
  down zero limit.Operators h = let f = h.0 in (omega arith, h.1)
  down (suc i) limit.Operators h = omega arith
  down i limit.Parts h = h

pub outside_same : (d i o q : ℕ) (t : Token) (n : Nested) → o ≤ MAX_OPERATORS → Same d i o q (token outside t n) d i (kept i o) q n
outside_same d i o q t n few = record { up = up i; down = down i } where
  up : (i : ℕ) (l : Limit) → KeepsFrom l d i (kept i o) q n → KeepsFrom l d i o q (token outside t n)
  up i limit.Nestings h = h
  up zero limit.Operators h = let f = h.0 in (omega arith, (omega arith, h.1))
  up (suc i) limit.Operators h = h
  up i limit.Parts h = h

  down : (i : ℕ) (l : Limit) → KeepsFrom l d i o q (token outside t n) → KeepsFrom l d i (kept i o) q n
  down i limit.Nestings h = h
  down zero limit.Operators h = let f = h.1.0 in (omega arith, h.1.1)
  down (suc i) limit.Operators h = h
  down i limit.Parts h = h

pub fresh_same : (d i o q r : ℕ) (t : Token) (n : Nested) → o ≤ MAX_OPERATORS → q ≤ MAX_PARTS → r ≡ 0 → Same d i o q (token fresh t n) d i (kept i o) r n
fresh_same d i o q r t n few small e = record { up = up i; down = down i } where
  up : (i : ℕ) (l : Limit) → KeepsFrom l d i (kept i o) r n → KeepsFrom l d i o q (token fresh t n)
  up i limit.Nestings h = h
  up zero limit.Operators h = let f = h.0 in (omega arith, (omega arith, h.1))
  up (suc i) limit.Operators h = h
  up i limit.Parts h = let f = h.0 in (omega arith, (omega arith, h.1))

  down : (i : ℕ) (l : Limit) → KeepsFrom l d i o q (token fresh t n) → KeepsFrom l d i (kept i o) r n
  down i limit.Nestings h = h
  down zero limit.Operators h = let f = h.1.0 in (omega arith, h.1.1)
  down (suc i) limit.Operators h = h
  down i limit.Parts h = let f = h.1.0 in (omega arith, h.1.1)

pub part_same : (d i o q r : ℕ) (t : Token) (n : Nested) → o ≤ MAX_OPERATORS → r ≡ q + 1 → Same d i o q (token part t n) d i (kept i o) r n
part_same d i o q r t n few e = record { up = up i; down = down i } where
  up : (i : ℕ) (l : Limit) → KeepsFrom l d i (kept i o) r n → KeepsFrom l d i o q (token part t n)
  up i limit.Nestings h = h
  up zero limit.Operators h = let f = h.0 in (omega arith, (omega arith, h.1))
  up (suc i) limit.Operators h = h
  up i limit.Parts h = let f = h.0 in (omega arith, h.1)

  down : (i : ℕ) (l : Limit) → KeepsFrom l d i o q (token part t n) → KeepsFrom l d i (kept i o) r n
  down i limit.Nestings h = h
  down zero limit.Operators h = let f = h.1.0 in (omega arith, h.1.1)
  down (suc i) limit.Operators h = h
  down i limit.Parts h = let f = h.0 in (omega arith, h.1)

-- ---- brackets

-- where a bracket keeps the limits, what stands in it does
pub inside_keeps : (b : Bracket) (d i o q : ℕ) (t : Token) (m : Nested) (z : Token) (n : Nested) (l : Limit) → KeepsFrom l (suc d) i o q (bracket b t m z n) → KeepsFrom l d (deeper b i) (taken_in b i o) 0 m
inside_keeps b d i o q t m z n limit.Nestings h = omega arith
inside_keeps of_expression d zero o q t m z n limit.Operators h = let f = h.0 in omega arith
inside_keeps of_expression d (suc i) o q t m z n limit.Operators h = omega arith
inside_keeps of_others d zero o q t m z n limit.Operators h =
    let f = each_split (λ e. operators e ≤ MAX_OPERATORS) (first_expression m ∷ other_expressions m) (first_expression n ∷ other_expressions n) h.1 in
    let g = f.0.0 in
    (omega arith, f.0.1)
inside_keeps of_others d (suc i) o q t m z n limit.Operators h = omega arith
inside_keeps b d i o q t m z n limit.Parts h =
    let f = each_split (λ q. parts q ≤ MAX_PARTS) (first_query m ∷ other_queries m) (other_queries n) h.1 in
    let g = f.0.0 in
    (omega arith, f.0.1)

-- behind one that keeps them, with the operators in it counted, the limits ask what they ask of the whole
pub behind_same : (b : Bracket) (d i o q r u : ℕ) (t : Token) (m : Nested) (z : Token) (n : Nested) → o ≤ MAX_OPERATORS → ((l : Limit) → KeepsFrom l d (deeper b i) (taken_in b i o) 0 m) → r ≡ q → (1 ≤ deeper b i → u ≡ taken_in b i o + operators m)
    → Same (suc d) i o q (bracket b t m z n) (suc d) i (taken_in b i u) r n
behind_same b d i o q r u t m z n few keeps e exact = record { up = up b i keeps exact; down = down b i keeps exact } where
  up : (b : Bracket) (i : ℕ) → ((l : Limit) → KeepsFrom l d (deeper b i) (taken_in b i o) 0 m) → (1 ≤ deeper b i → u ≡ taken_in b i o + operators m) → (l : Limit) → KeepsFrom l (suc d) i (taken_in b i u) r n → KeepsFrom l (suc d) i o q (bracket b t m z n)
  up b i keeps exact limit.Nestings h = let f = keeps limit.Nestings in omega arith
  up of_expression zero keeps exact limit.Operators h = let x = exact (omega arith) in let f = h.0 in (omega arith, h.1)
  up of_expression (suc i) keeps exact limit.Operators h = let x = exact (omega arith) in omega arith
  up of_others zero keeps exact limit.Operators h =
      let k = keeps limit.Operators in
      let f = k.0 in
      let g = h.0 in
      (omega arith, each_append (λ e. operators e ≤ MAX_OPERATORS) (first_expression m ∷ other_expressions m) (first_expression n ∷ other_expressions n) (omega arith, k.1) (omega arith, h.1))
  up of_others (suc i) keeps exact limit.Operators h = let x = exact (omega arith) in omega arith
  up b i keeps exact limit.Parts h =
      let k = keeps limit.Parts in
      let f = k.0 in
      let g = h.0 in
      (omega arith, each_append (λ q. parts q ≤ MAX_PARTS) (first_query m ∷ other_queries m) (other_queries n) (omega arith, k.1) h.1)

  down : (b : Bracket) (i : ℕ) → ((l : Limit) → KeepsFrom l d (deeper b i) (taken_in b i o) 0 m) → (1 ≤ deeper b i → u ≡ taken_in b i o + operators m) → (l : Limit) → KeepsFrom l (suc d) i o q (bracket b t m z n) → KeepsFrom l (suc d) i (taken_in b i u) r n
  down b i keeps exact limit.Nestings h = omega arith
  down of_expression zero keeps exact limit.Operators h = let x = exact (omega arith) in let f = h.0 in (omega arith, h.1)
  down of_expression (suc i) keeps exact limit.Operators h = let x = exact (omega arith) in omega arith
  down of_others zero keeps exact limit.Operators h =
      let f = each_split (λ e. operators e ≤ MAX_OPERATORS) (first_expression m ∷ other_expressions m) (first_expression n ∷ other_expressions n) h.1 in
      let g = f.1.0 in
      (omega arith, f.1.1)
  down of_others (suc i) keeps exact limit.Operators h = let x = exact (omega arith) in omega arith
  down b i keeps exact limit.Parts h =
      let f = each_split (λ q. parts q ≤ MAX_PARTS) (first_query m ∷ other_queries m) (other_queries n) h.1 in
      let g = h.0 in
      (omega arith, f.1)

-- one nesting too many
pub none_left : (b : Bracket) (i o q : ℕ) (t : Token) (m : Nested) (z : Token) (n : Nested) → KeepsFrom limit.Nestings 0 i o q (bracket b t m z n) → ⊥
none_left b i o q t m z n h = omega arith
