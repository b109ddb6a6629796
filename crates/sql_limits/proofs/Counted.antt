-- What each mark does to the counts, told in their numbers.
use Rattle.std.proofs.Common.{◌≡◌, ◌∙◌, ℕ, zero, suc, ◌+◌, ◌-◌, ◌<◌, ◌≤◌, List, slice_index, slice_set, Ok, Err, refl, ap, arith}
use Rattle.std.proofs.lemmas.Bool.{lt-ltb, le-ltb}
use Rattle.std.proofs.Math.Dec.{eqb-suc-zero}
use Rattle.sql_grammar.specs.declared.counts.Counts.{Counts}
use Rattle.sql_grammar.specs.declared.counts.Limit.TheVariants as limit
use Rattle.sql_grammar.specs.declared.counts.TheConstants.{MAX_NESTINGS, MAX_OPERATORS, MAX_PARTS}
use Rattle.sql_grammar.specs.Marks.{count, outside, fresh, part, opening}
use Rattle.sql_grammar.specs.declared.counts.Role.TheVariants as role
use Rattle.sql_limits.specs.Nestings.{Bracket, of_expression, of_others, opening_of, closing_of}

abbrev pub state : ℕ → ℕ → ℕ → List ℕ → Counts
state o i p ps = record { operators = o; within = i; depth = p; parts = ps }

-- the operators so far, behind a token that stands in no expression unless in one of its brackets
abbrev pub kept : ℕ → ℕ → ℕ
kept zero o = 0
kept (suc i) o = o

-- and in a bracket
abbrev pub taken_in : Bracket → ℕ → ℕ → ℕ
taken_in of_expression i o = o
taken_in of_others i o = kept i o

abbrev pub deeper : Bracket → ℕ → ℕ
deeper of_expression i = suc i
deeper of_others i = i

pub outside_is : (o i p : ℕ) (ps : List ℕ) → outside (state o i p ps) ≡ state (kept i o) i p ps
outside_is o zero p ps = refl
outside_is o (suc i) p ps = rw (eqb-suc-zero i) refl

fresh_is : (o i p : ℕ) (ps : List ℕ) → p < MAX_NESTINGS + 1 → fresh (state o i p ps) ≡ state o i p (slice_set ps p 0)
fresh_is o i p ps h = rw (lt-ltb p (MAX_NESTINGS + 1) h) refl

part_is : (o i p : ℕ) (ps : List ℕ) → p < MAX_NESTINGS + 1 → slice_index ps p < MAX_PARTS → part (state o i p ps) ≡ Ok (state o i p (slice_set ps p (slice_index ps p + 1)))
part_is o i p ps h k = rw (lt-ltb p (MAX_NESTINGS + 1) h, lt-ltb (slice_index ps p) MAX_PARTS k) refl

part_over : (o i p : ℕ) (ps : List ℕ) → p < MAX_NESTINGS + 1 → MAX_PARTS ≤ slice_index ps p → part (state o i p ps) ≡ Err limit.Parts
part_over o i p ps h k = rw (lt-ltb p (MAX_NESTINGS + 1) h, le-ltb (slice_index ps p) MAX_PARTS k) refl

opening_is : (o i p : ℕ) (ps : List ℕ) → p < MAX_NESTINGS → opening (state o i p ps) ≡ Ok (state o i (suc p) (slice_set ps (suc p) 0))
opening_is o i p ps h = let e : p + 1 ≡ suc p = omega arith in let k : suc p < MAX_NESTINGS + 1 = omega arith in rw (lt-ltb p MAX_NESTINGS h, e, lt-ltb (suc p) (MAX_NESTINGS + 1) k) refl

-- ---- by roles

pub counts_quiet : (c : Counts) → count role.Quiet c ≡ Ok c
unfolding count
counts_quiet c = refl

pub counts_operator : (o i p : ℕ) (ps : List ℕ) → o < MAX_OPERATORS → count role.Operator (state o i p ps) ≡ Ok (state (o + 1) i p ps)
unfolding count
counts_operator o i p ps h = rw (lt-ltb o MAX_OPERATORS h) refl

pub over_operators : (o i p : ℕ) (ps : List ℕ) → MAX_OPERATORS ≤ o → count role.Operator (state o i p ps) ≡ Err limit.Operators
unfolding count
over_operators o i p ps h = rw (le-ltb o MAX_OPERATORS h) refl

pub counts_outside : (o i p : ℕ) (ps : List ℕ) → count role.Outside (state o i p ps) ≡ Ok (state (kept i o) i p ps)
unfolding count
counts_outside o i p ps = ap (λ (c : Counts). Ok c) (outside_is o i p ps)

pub counts_fresh : (o i p : ℕ) (ps : List ℕ) → p < MAX_NESTINGS + 1 → count role.Fresh (state o i p ps) ≡ Ok (state (kept i o) i p (slice_set ps p 0))
unfolding count
counts_fresh o i p ps h = ap (λ (c : Counts). Ok (fresh c)) (outside_is o i p ps) ∙ ap (λ (c : Counts). Ok c) (fresh_is (kept i o) i p ps h)

pub counts_part : (o i p : ℕ) (ps : List ℕ) → p < MAX_NESTINGS + 1 → slice_index ps p < MAX_PARTS → count role.Part (state o i p ps) ≡ Ok (state (kept i o) i p (slice_set ps p (slice_index ps p + 1)))
unfolding count
counts_part o i p ps h k = ap (λ (c : Counts). part c) (outside_is o i p ps) ∙ part_is (kept i o) i p ps h k

pub over_parts : (o i p : ℕ) (ps : List ℕ) → p < MAX_NESTINGS + 1 → MAX_PARTS ≤ slice_index ps p → count role.Part (state o i p ps) ≡ Err limit.Parts
unfolding count
over_parts o i p ps h k = ap (λ (c : Counts). part c) (outside_is o i p ps) ∙ part_over (kept i o) i p ps h k

pub counts_opening : (b : Bracket) (o i p : ℕ) (ps : List ℕ) → i ≤ p → p < MAX_NESTINGS → count (opening_of b) (state o i p ps) ≡ Ok (state (taken_in b i o) (deeper b i) (suc p) (slice_set ps (suc p) 0))
unfolding count
counts_opening of_expression o i p ps h k = let e : i + 1 ≡ suc i = omega arith in let l : i < MAX_NESTINGS = omega arith in rw (lt-ltb i MAX_NESTINGS l, e) (opening_is o (suc i) p ps k)
counts_opening of_others o i p ps h k = ap (λ (c : Counts). opening c) (outside_is o i p ps) ∙ opening_is (kept i o) i p ps k

pub counts_closing : (b : Bracket) (o i p : ℕ) (ps : List ℕ) → count (closing_of b) (state o (deeper b i) (suc p) ps) ≡ Ok (state (taken_in b i o) i p ps)
unfolding count
counts_closing of_expression o i p ps = let e : suc i - 1 ≡ i = omega arith in let f : suc p - 1 ≡ p = omega arith in rw (e, f) refl
counts_closing of_others o i p ps = let f : suc p - 1 ≡ p = omega arith in ap (λ (c : Counts). Ok (record { operators = c.operators; within = c.within; depth = c.depth - 1; parts = c.parts })) (outside_is o i (suc p) ps) ∙ rw f refl
