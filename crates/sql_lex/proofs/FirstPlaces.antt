-- What the search for the first place finds.
use Rattle.std.proofs.Common.{◌≡◌, ℕ, suc, zero, ◌+◌, ◌<◌, ◌≤◌, Bool, true, false, cond, Option, Some, None, refl, arith}
use Rattle.sql_lex.specs.Cutting.{first_place}
use Rattle.sql_lex.specs.Places.{IsFirst}

-- the first from a place on, in front of an end
abbrev FirstFrom : (ℕ → Bool) → ℕ → ℕ → Option ℕ → Type 0
FirstFrom passes place end (Some found) = (place ≤ found) × (found < end) × (passes found ≡ true) × ((other : ℕ) → place ≤ other → other < found → passes other ≡ false)
FirstFrom passes place end None = (other : ℕ) → place ≤ other → other < end → passes other ≡ false

this_or_later : (passes : ℕ → Bool) (place other : ℕ) → passes place ≡ false → place ≤ other → (suc place ≤ other → passes other ≡ false) → passes other ≡ false
this_or_later passes place other fails le later = grind arith

one_later : (passes : ℕ → Bool) (place end : ℕ) (o : Option ℕ) → passes place ≡ false → FirstFrom passes (suc place) end o → FirstFrom passes place end o
one_later passes place end None fails h = λ other le lt. this_or_later passes place other fails le (λ more. h other more lt)
one_later passes place end (Some found) fails h =
    (omega (arith, h.0), h.1, h.2, λ other le lt. this_or_later passes place other fails le (λ more. h.3 other more lt))

first_from : (passes : ℕ → Bool) (place more end : ℕ) → place + more ≡ end → FirstFrom passes place end (first_place passes place more)
first_from passes place zero end e = λ other le lt. absurd (omega (arith, e, le, lt))
first_from passes place (suc more) end e =
    by (passes place) refl (first_from passes (suc place) more end (omega (arith, e)))
  where
    by : (t : Bool) → passes place ≡ t → FirstFrom passes (suc place) end (first_place passes (suc place) more) → FirstFrom passes place end (cond t (Some place) (first_place passes (suc place) more))
    by true is h = (omega arith, omega (arith, e), is, λ other le lt. absurd (omega (arith, le, lt)))
    by false is h = one_later passes place end (first_place passes (suc place) more) is h

whole : (passes : ℕ → Bool) (many : ℕ) (o : Option ℕ) → FirstFrom passes 0 many o → IsFirst passes many o
whole passes many None h = λ other lt. h other (omega arith) lt
whole passes many (Some found) h = (h.1, h.2, λ other lt. h.3 other (omega arith) lt)

pub first_place_is : (passes : ℕ → Bool) (many : ℕ) → IsFirst passes many (first_place passes 0 many)
first_place_is passes many = whole passes many (first_place passes 0 many) (first_from passes 0 many many (omega arith))
