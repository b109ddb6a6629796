-- The first place of a needle, and the bytes that a list begins with.
use Rattle.std.proofs.Common.{◌≡◌, ℕ, zero, suc, ◌+◌, ◌<◌, ◌==◌, List, [], ◌∷◌, ◌++◌, Option, Some, None, length, drop, true, refl, sym, ap, ◌∙◌, arith, length-append, length-drop}
use Rattle.std.proofs.lemmas.Bool.{false≢true, and_parts, eqb-true, eq-eqb, false_from_ne_true}
use Rattle.std.proofs.lemmas.List.Prefix.{at_from_reads, at_reads}
use Rattle.std.specs.Option.{option_map}
use Rattle.memchr.proofs.lemmas.FindLemmas.{IsFirst-agree}
use Rattle.memchr.specs.Find.{IsFirst, FindsNeedle, NoneBefore, OccursAt}
use Rattle.eng_text.specs.Texts.{begins, place_of}

pub begins-append : (needle rest : List ℕ) → begins needle (needle ++ rest) ≡ true
begins-append [] rest = refl
begins-append (n ∷ needle) rest = rw (eq-eqb n n refl) (begins-append needle rest)

pub begins-true : (needle bytes : List ℕ) → begins needle bytes ≡ true → bytes ≡ needle ++ drop (length needle) bytes
begins-true [] bytes h = refl
begins-true (n ∷ needle) [] h = absurd (false≢true h)
begins-true (n ∷ needle) (b ∷ bytes) h =
    let parts = and_parts (n == b) _ h in
    let same = eqb-true n b parts.0 in
    let rest = begins-true needle bytes parts.1 in
    ap (λ bs. b ∷ bs) rest ∙ ap (λ c. c ∷ (needle ++ drop (length needle) bytes)) (sym same)

-- the needle stands at a place
abbrev pub BeginsAt : List ℕ → List ℕ → ℕ → Type 0
BeginsAt needle hay k = begins needle (drop k hay) ≡ true

BeginsAt-from_occurs : (needle hay : List ℕ) (k : ℕ) → OccursAt hay needle k → BeginsAt needle hay k
BeginsAt-from_occurs needle hay k h = rw (at_from_reads 0 hay needle k h.fits h.reads) (begins-append needle _)

OccursAt-from_begins : (needle hay : List ℕ) (k : ℕ) → k < length hay + 1 → BeginsAt needle hay k → OccursAt hay needle k
OccursAt-from_begins needle hay k high h =
    let e = begins-true needle (drop k hay) h in
    record {
      fits = omega (arith, ap length e, length-drop k hay, length-append needle (drop (length needle) (drop k hay)));
      reads = λ j lt. at_reads 0 hay needle k _ e j lt;
    }

place_first : (needle hay : List ℕ) (r : Option ℕ) → IsFirst (BeginsAt needle hay) 0 (length hay + 1) r → r ≡ place_of needle hay
place_first needle [] None h = rw (false_from_ne_true (begins needle []) (h 0 (omega arith) (omega arith))) refl
place_first needle [] (Some zero) h = rw h.1 refl
place_first needle [] (Some (suc k)) h = absurd (omega (arith, h.0.high))
place_first needle (b ∷ hay) None h =
    rw (false_from_ne_true (begins needle (b ∷ hay)) (h 0 (omega arith) (omega arith))) (ap (option_map suc) (place_first needle hay None (λ k low high q. h (suc k) (omega arith) (omega arith) q)))
place_first needle (b ∷ hay) (Some zero) h = rw h.1 refl
place_first needle (b ∷ hay) (Some (suc k)) h =
    let first : NoneBefore (BeginsAt needle hay) 0 (length hay + 1) k = record {
      low = omega arith;
      high = omega (arith, h.0.high);
      before = λ m low high q. h.0.before (suc m) (omega arith) (omega arith) q;
    } in
    rw (false_from_ne_true (begins needle (b ∷ hay)) (h.0.before 0 (omega arith) (omega arith))) (ap (option_map suc) (place_first needle hay (Some k) (first, h.1)))

pub found_place : (hay needle : List ℕ) (r : Option ℕ) → FindsNeedle hay needle 0 r → r ≡ place_of needle hay
found_place hay needle r h =
    place_first needle hay r (IsFirst-agree (OccursAt hay needle) (BeginsAt needle hay) 0 (length hay + 1) (λ k high. BeginsAt-from_occurs needle hay k) (λ k high. OccursAt-from_begins needle hay k high) r h)
