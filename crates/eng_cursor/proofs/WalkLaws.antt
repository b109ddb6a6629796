-- What walks visit.
use Rattle.std.proofs.Common.{◌≡◌, ℕ, zero, suc, ◌+◌, ◌<◌, ◌≤◌, Bool, true, false, cond, List, [], ◌∷◌, length, nat_lt, Some, None, refl, ap, ◌∙◌, arith}
use Rattle.std.specs.Prelude.{slice_get}
use Rattle.std.proofs.lemmas.Bool.Decides.{nat_tests}
use Rattle.eng_tree.specs.Map.{Pair, place}
use Rattle.eng_tree.proofs.Places.{get_at_place}
use Rattle.eng_cursor.specs.Places.{next_of, prev_of, row_at, within}
use Rattle.eng_cursor.specs.Walks.{PrevUndoesNext, SeeksAsTheMap, WalksInOrder, nexts}
use Rattle.eng_cursor.proofs.PlaceLaws.{sought_ge, within_pair}

slice_get-past : (pairs : List Pair) (at : ℕ) → length pairs ≤ at → slice_get pairs at ≡ None
slice_get-past [] at le = refl
slice_get-past (p ∷ pairs) zero le = absurd (omega arith)
slice_get-past (p ∷ pairs) (suc at) le = slice_get-past pairs at (omega arith)

past : (pairs : List Pair) (at : ℕ) → nat_lt at (length pairs) ≡ false → length pairs ≤ at
past pairs at is = grind (arith, nat_tests)

within_past : (pairs : List Pair) (at : ℕ) → length pairs ≤ at → within pairs (Some at) ≡ None
within_past pairs at le = grind (arith, nat_tests)

row_at-within : (pairs : List Pair) (at : ℕ) → row_at pairs (within pairs (Some at)) ≡ slice_get pairs at
row_at-within pairs at = by (nat_lt at (length pairs)) refl
  where
    by : (b : Bool) → nat_lt at (length pairs) ≡ b → row_at pairs (cond b (Some at) None) ≡ slice_get pairs at
    by true is = refl
    by false is = let none : slice_get pairs at ≡ None = slice_get-past pairs at (past pairs at is) in cc

next_of-within : (pairs : List Pair) (at : ℕ) → next_of pairs (within pairs (Some at)) ≡ within pairs (Some (suc at))
next_of-within pairs at = by (nat_lt at (length pairs)) refl
  where
    by : (b : Bool) → nat_lt at (length pairs) ≡ b → next_of pairs (cond b (Some at) None) ≡ within pairs (Some (suc at))
    by true is = let e : at + 1 ≡ suc at = omega arith in ap (λ n. within pairs (Some n)) e
    by false is =
        let le = past pairs at is in
        let none : within pairs (Some (suc at)) ≡ None = within_past pairs (suc at) (omega arith) in
        cc

nexts-within : (n : ℕ) (pairs : List Pair) → nexts n pairs ≡ within pairs (Some n)
nexts-within zero pairs = refl
nexts-within (suc n) pairs = ap (next_of pairs) (nexts-within n pairs) ∙ next_of-within pairs n

pub walks : WalksInOrder
walks n pairs = ap (row_at pairs) (nexts-within n pairs) ∙ row_at-within pairs n

there : (pairs : List Pair) (at : ℕ) → within pairs (Some (suc at)) ≡ Some (suc at) → at < length pairs
there pairs at is = by (nat_lt (suc at) (length pairs)) refl is
  where
    by : (b : Bool) → nat_lt (suc at) (length pairs) ≡ b → cond b (Some (suc at)) None ≡ Some (suc at) → at < length pairs
    by true lt is = grind (arith, nat_tests)
    by false lt is = absurd (cc)

pub undoes : PrevUndoesNext
undoes at pairs is =
    let e : at + 1 ≡ suc at = omega arith in
    ap (λ n. prev_of pairs (within pairs (Some n))) e ∙ ap (prev_of pairs) is ∙ within_pair pairs at (there pairs at is)

pub seeks : SeeksAsTheMap
seeks key pairs =
    ap (row_at pairs) (sought_ge key pairs) ∙ row_at-within pairs (place key pairs) ∙ get_at_place key pairs (place key pairs) refl
