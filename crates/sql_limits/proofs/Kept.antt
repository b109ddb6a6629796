-- The scan of nested tokens, and of a front of them, fits exactly where they keep the limits; and where not, it stops at the first token
-- with which one is no longer kept.
use Rattle.std.proofs.Common.{◌≡◌, ◌∙◌, ℕ, zero, suc, ◌+◌, ◌≤◌, ◌⊎◌, ◌↔◌, List, [], ◌∷◌, ◌++◌, length, length-append, replicate, Result, Ok, Err, refl, sym, subst, ap, append_assoc, arith, inl, inr}
use Rattle.std.proofs.lemmas.List.Elements.{All-from_recursion, recursion_from_All}
use Rattle.sql_tree.specs.declared.token.Token.{Token}
use Rattle.sql_grammar.specs.declared.counts.Counts.{Counts}
use Rattle.sql_grammar.specs.declared.counts.Limit.{Limit}
use Rattle.sql_grammar.specs.declared.counts.Limit.TheVariants as limit
use Rattle.sql_grammar.specs.declared.counts.TheConstants.{MAX_NESTINGS, MAX_OPERATORS, MAX_PARTS}
use Rattle.sql_grammar.specs.Answers.{Within}
use Rattle.sql_grammar.specs.Marks.{count, start, Mark, stays, opens, closes, Marked, Run, Fits, Past, counted, step, run_on, run}
use Rattle.sql_grammar.proofs.ReadingLaws.{run_append, run_more, fits_then}
use Rattle.sql_limits.specs.Fronts.{closed_by, Closed, FrontKeepsAll, PassedAt}
use Rattle.sql_limits.specs.Limits.{operators, outermost_expressions, parts, queries, Keeps, KeepsAll}
use Rattle.sql_limits.specs.Nestings.{Bracket, of_expression, of_others, Nested, closing_of, flat}
use Rattle.sql_limits.proofs.Fronts.{front}
use Rattle.sql_limits.proofs.Scans.{Ends, ends}
use Rattle.sql_limits.proofs.Steps.{KeepsFrom}

-- ---- from the start

from_start : (n : Nested) → Ends MAX_NESTINGS 0 0 0 (replicate (MAX_NESTINGS + 1) 0) n
from_start n = ends n MAX_NESTINGS 0 0 0 (replicate (MAX_NESTINGS + 1) 0) (record { level = refl; inner = omega arith; few = omega arith; size = refl; small = omega arith })

kept_from : (l : Limit) (n : Nested) → Keeps l n → KeepsFrom l MAX_NESTINGS 0 0 0 n
kept_from limit.Nestings n k = k
kept_from limit.Operators n k = let f = recursion_from_All (λ e. operators e ≤ MAX_OPERATORS) (outermost_expressions n) k in let g = f.0 in (omega arith, f.1)
kept_from limit.Parts n k = let f = recursion_from_All (λ q. parts q ≤ MAX_PARTS) (queries n) k in let g = f.0 in (omega arith, f.1)

kept : (l : Limit) (n : Nested) → KeepsFrom l MAX_NESTINGS 0 0 0 n → Keeps l n
kept limit.Nestings n k = k
kept limit.Operators n k = let g = k.0 in All-from_recursion (λ e. operators e ≤ MAX_OPERATORS) (outermost_expressions n) (omega arith, k.1)
kept limit.Parts n k = let g = k.0 in All-from_recursion (λ q. parts q ≤ MAX_PARTS) (queries n) (omega arith, k.1)

fits_or_past : {X : Type 0} (e : ℕ) (c : Counts) (l : Limit) (w : List Marked) (r : Run) → r ≡ Fits e c → r ≡ Past l w → X
fits_or_past e c l w r f g = cc

pub fits_kept : (n : Nested) → Within MAX_NESTINGS start (flat n) ↔ KeepsAll n
fits_kept n = elim (from_start n) [
  | inl x ↦ (λ w l. kept l n (x.keeps l), λ k. (_, _, x.runs))
  | inr x ↦ (λ w. fits_or_past w.0 w.1 x.at (x.head ∷ x.rest) (run MAX_NESTINGS start (flat n)) w.2 x.runs, λ k. absurd (x.breaks (kept_from x.at n (k x.at))))
]

-- ---- fronts

close_one : (b : Bracket) (c : Counts) → (k : Counts) × (count (closing_of b) c ≡ Ok k)
unfolding count
close_one of_expression c = (_, refl)
close_one of_others c = (_, refl)

-- no closing token passes a limit
closings_fit : (closings : List (Bracket × Token)) (e : ℕ) (c : Counts) → Within e c (closed_by closings)
closings_fit [] e c = (e, c, refl)
closings_fit (x ∷ more) e c = let one = close_one x.0 c in let rest = closings_fit more (suc e) one.0 in (rest.0, rest.1, rw one.1 rest.2)

within_front : (v w : List Marked) (e : ℕ) (c : Counts) (r : Run) → run e c v ≡ r → Within e c (v ++ w) → Within e c v
within_front v w e c (Fits d k) is f = (d, k, is)
within_front v w e c (Past l u) is f = fits_or_past f.0 f.1 l (u ++ w) (run e c (v ++ w)) f.2 (run_append e c v w ∙ ap (λ r. run_more r w) is)

pub front_fits : (v : List Marked) (n : Nested) → Closed v n → Within MAX_NESTINGS start v ↔ KeepsAll n
front_fits v n h = (
  λ w. (fits_kept n).0 (let more = closings_fit h.0 w.0 w.1 in (more.0, more.1, ap (λ u. run MAX_NESTINGS start u) (sym h.1) ∙ fits_then MAX_NESTINGS w.0 start w.1 v (closed_by h.0) w.2 ∙ more.2)),
  λ k. (let f = (fits_kept n).1 k in within_front v (closed_by h.0) MAX_NESTINGS start (run MAX_NESTINGS start v) refl (f.0, f.1, ap (λ u. run MAX_NESTINGS start u) h.1 ∙ f.2)),
)

-- ---- the first that passes a limit

counted_some : (d : ℕ) (q : Result Counts Limit) (x : Marked) (w : List Marked) (f : ℕ → Counts → Run) (l : Limit) → ((e : ℕ) (c : Counts) → f e c ≡ Past l [] → ⊥) → run_on (counted d q (x ∷ w)) f ≡ Past l [] → ⊥
counted_some d (Ok c) x w f l h is = h d c is
counted_some d (Err m) x w f l h is = cc

step_some : (m : Mark) (d : ℕ) (c : Counts) (x : Marked) (w : List Marked) (f : ℕ → Counts → Run) (l : Limit) → ((e : ℕ) (c : Counts) → f e c ≡ Past l [] → ⊥) → run_on (step m d c (x ∷ w)) f ≡ Past l [] → ⊥
step_some (stays r) d c x w f l h is = counted_some d (count r c) x w f l h is
step_some (opens r) zero c x w f l h is = cc
step_some (opens r) (suc d) c x w f l h is = counted_some d (count r c) x w f l h is
step_some (closes r) d c x w f l h is = counted_some (suc d) (count r c) x w f l h is

-- the end passes none
past_some : (d : ℕ) (c : Counts) (w : List Marked) (l : Limit) → run d c w ≡ Past l [] → ⊥
past_some d c [] l is = cc
past_some d c (x ∷ w) l is = step_some x.mark d c x w (λ e k. run e k w) l (λ e k. past_some e k w l) is

fits_before : (v : List Marked) (x : Marked) (l : Limit) (d : ℕ) (c : Counts) (r : Run) → run d c v ≡ r → run d c (v ++ x ∷ []) ≡ Past l (x ∷ []) → Within d c v
fits_before v x l d c (Fits e k) is past = (e, k, is)
fits_before v x l d c (Past m []) is past = absurd (past_some d c v m is)
fits_before v x l d c (Past m (y ∷ u)) is past =
    let same : Past m ((y ∷ u) ++ x ∷ []) ≡ Past l (x ∷ []) = sym (run_append d c v (x ∷ []) ∙ ap (λ r. run_more r (x ∷ [])) is) ∙ past in
    let tails : u ++ x ∷ [] ≡ [] = cc in
    absurd (let e = ap length tails in let f = length-append u (x ∷ []) in omega arith)

-- the scan up to the token, and the closing tokens behind it
past_closed : (v : List Marked) (x : Marked) (l : Limit) (n : Nested) (h : Closed (v ++ x ∷ []) n) → run MAX_NESTINGS start (v ++ x ∷ []) ≡ Past l (x ∷ []) → run MAX_NESTINGS start (flat n) ≡ Past l (x ∷ closed_by h.0)
past_closed v x l n h past = ap (λ u. run MAX_NESTINGS start u) (sym h.1) ∙ run_append MAX_NESTINGS start (v ++ x ∷ []) (closed_by h.0) ∙ ap (λ r. run_more r (closed_by h.0)) past

past_then : (v : List Marked) (x : Marked) (l : Limit) (n m : Nested) → Closed v n → Closed (v ++ x ∷ []) m → run MAX_NESTINGS start (v ++ x ∷ []) ≡ Past l (x ∷ []) → PassedAt l v x
past_then v x l n m h k past = ((n, h, (front_fits v n h).0 (fits_before v x l MAX_NESTINGS start (run MAX_NESTINGS start v) refl past)), (m, k, breaks (from_start m))) where
  breaks : Ends MAX_NESTINGS 0 0 0 (replicate (MAX_NESTINGS + 1) 0) m → Keeps l m → ⊥
  breaks (inl s) keeps = fits_or_past MAX_NESTINGS _ l (x ∷ closed_by k.0) (run MAX_NESTINGS start (flat m)) s.runs (past_closed v x l m k past)
  breaks (inr s) keeps =
      let same : Past s.at (s.head ∷ s.rest) ≡ Past l (x ∷ closed_by k.0) = sym s.runs ∙ past_closed v x l m k past in
      let limits : l ≡ s.at = cc in
      s.breaks (subst (λ q. KeepsFrom q MAX_NESTINGS 0 0 0 m) limits (kept_from l m keeps))

one_counted : (d : ℕ) (q : Result Counts Limit) (x : Marked) → ((e : ℕ) × (k : Counts) × (run_on (counted d q (x ∷ [])) (λ e k. Fits e k) ≡ Fits e k)) ⊎ ((l : Limit) × (run_on (counted d q (x ∷ [])) (λ e k. Fits e k) ≡ Past l (x ∷ [])))
one_counted d (Ok c) x = inl (d, c, refl)
one_counted d (Err l) x = inr (l, refl)

one_step : (m : Mark) (d : ℕ) (c : Counts) (x : Marked) → ((e : ℕ) × (k : Counts) × (run_on (step m d c (x ∷ [])) (λ e k. Fits e k) ≡ Fits e k)) ⊎ ((l : Limit) × (run_on (step m d c (x ∷ [])) (λ e k. Fits e k) ≡ Past l (x ∷ [])))
one_step (stays r) d c x = one_counted d (count r c) x
one_step (opens r) zero c x = inr (limit.Nestings, refl)
one_step (opens r) (suc d) c x = one_counted d (count r c) x
one_step (closes r) d c x = one_counted (suc d) (count r c) x

then_past : (v : List Marked) (x : Marked) (l : Limit) → PassedAt l v x → run MAX_NESTINGS start (v ++ x ∷ []) ≡ Past l (x ∷ [])
then_past v x l p =
    let f = (front_fits v p.0.0 p.0.1).1 p.0.2 in
    let on = fits_then MAX_NESTINGS f.0 start f.1 v (x ∷ []) f.2 in
    elim (one_step x.mark f.0 f.1 x) [
      | inl s ↦ absurd (p.1.2 ((front_fits (v ++ x ∷ []) p.1.0 p.1.1).0 (s.0, s.1, on ∙ s.2) l))
      | inr s ↦ stops p.1.0 p.1.1 p.1.2 s.0 (on ∙ s.1) (from_start p.1.0)
    ]
  where
    stops : (m : Nested) (k : Closed (v ++ x ∷ []) m) → (Keeps l m → ⊥) → (o : Limit) → run MAX_NESTINGS start (v ++ x ∷ []) ≡ Past o (x ∷ []) → Ends MAX_NESTINGS 0 0 0 (replicate (MAX_NESTINGS + 1) 0) m → run MAX_NESTINGS start (v ++ x ∷ []) ≡ Past l (x ∷ [])
    stops m k breaks o past (inl s) = fits_or_past MAX_NESTINGS _ o (x ∷ closed_by k.0) (run MAX_NESTINGS start (flat m)) s.runs (past_closed v x o m k past)
    stops m k breaks o past (inr s) =
        let same : Past s.at (s.head ∷ s.rest) ≡ Past o (x ∷ closed_by k.0) = sym s.runs ∙ past_closed v x o m k past in
        let behind : s.rest ≡ closed_by k.0 = cc in
        let limits : s.at ≡ o = cc in
        elim (s.alone k.0 behind l) [ inl e ↦ past ∙ ap (λ q. Past q (x ∷ [])) (sym (e ∙ limits)) | inr f ↦ absurd (breaks (kept l m f)) ]

pub front_within : (n : Nested) (v u : List Marked) → v ++ u ≡ flat n → Within MAX_NESTINGS start v ↔ FrontKeepsAll v
front_within n v u is = let m = front n v u is in (λ w. (m.0, m.1, (front_fits v m.0 m.1).0 w), λ k. (front_fits v k.0 k.1).1 k.2)

pub first_past : (n : Nested) (v u : List Marked) (x : Marked) (l : Limit) → (v ++ x ∷ []) ++ u ≡ flat n → (run MAX_NESTINGS start (v ++ x ∷ []) ≡ Past l (x ∷ [])) ↔ PassedAt l v x
first_past n v u x l is =
    let m = front n (v ++ x ∷ []) u is in
    let k = front n v (x ∷ u) (sym (append_assoc v (x ∷ []) u) ∙ is) in
    (past_then v x l k.0 m.0 k.1 m.1, then_past v x l)
