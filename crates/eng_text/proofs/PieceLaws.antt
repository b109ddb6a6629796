-- The first place of a needle, and a replacement as the pieces of a text joined anew.
use Rattle.std.proofs.Common.{◌≡◌, ℕ, zero, suc, ◌-◌, ◌<◌, ◌≤◌, Bool, true, false, ◌&&◌, ◌==◌, if◌then◌else◌, List, [], ◌∷◌, ◌++◌, length, take, drop, Option, Some, None, refl, sym, ap, ◌∙◌, inl, inr, arith, length-append, append_assoc, append-nil}
use Rattle.std.proofs.lemmas.Bool.{cases_Bool, false≢true}
use Rattle.std.proofs.Math.Seq.{drop-append_seam, take-append_seam}
use Rattle.std.specs.Option.{option_map}
use Rattle.eng_text.specs.Pieces.{AreBetween, IsFirstPlace, joined}
use Rattle.eng_text.specs.Texts.{begins, place_of, replaced, replaced_behind}
use Rattle.eng_text.proofs.FindLaws.{begins-append, begins-true}
use Rattle.eng_text.proofs.ReplaceLaws.{behind-skip}

-- ---- what a place says

place-here : (needle text : List ℕ) → begins needle text ≡ true → place_of needle text ≡ Some 0
place-here needle [] is = rw is refl
place-here needle (b ∷ text) is = rw is refl

none_parts : (here : Bool) (later : Option ℕ) → (if here then Some 0 else option_map suc later) ≡ None → (here ≡ false) × (later ≡ None)
none_parts true later is = absurd (cc)
none_parts false None is = (refl, refl)
none_parts false (Some n) is = absurd (cc)

some_parts : (here : Bool) (later : Option ℕ) (n : ℕ) → (if here then Some 0 else option_map suc later) ≡ Some (suc n) → (here ≡ false) × (later ≡ Some n)
some_parts true later n is = absurd (cc)
some_parts false None n is = absurd (cc)
some_parts false (Some k) n is = (refl, cc)

-- ---- the first place

in_nothing : (front needle back : List ℕ) → [] ≡ front ++ (needle ++ back) → begins needle [] ≡ true
in_nothing front [] back is = refl
in_nothing front (n ∷ needle) back is = absurd (omega (arith, ap length is, length-append front (n ∷ (needle ++ back))))

-- where the needle does not stand at the front, it stands behind the first byte
not_here : (needle : List ℕ) (b : ℕ) (text : List ℕ) → begins needle (b ∷ text) ≡ false → (front back : List ℕ) → b ∷ text ≡ front ++ (needle ++ back) → (shorter : List ℕ) × (text ≡ shorter ++ (needle ++ back)) × (length front ≡ suc (length shorter))
not_here needle b text none [] back is = absurd (false≢true (sym none ∙ ap (begins needle) is ∙ begins-append needle back))
not_here needle b text none (f ∷ front) back is = let same : text ≡ front ++ (needle ++ back) = cc in (front, same, refl)

IsFirstPlace-here : (needle text : List ℕ) → begins needle text ≡ true → IsFirstPlace needle text (Some 0)
IsFirstPlace-here needle text is = (([], drop (length needle) text, begins-true needle text is, refl), λ front back at. omega arith)

IsFirstPlace-later : (needle : List ℕ) (b : ℕ) (text : List ℕ) (r : Option ℕ) → begins needle (b ∷ text) ≡ false → IsFirstPlace needle text r → IsFirstPlace needle (b ∷ text) (option_map suc r)
IsFirstPlace-later needle b text None none h = λ front back at. let later = not_here needle b text none front back at in h later.0 back later.1
IsFirstPlace-later needle b text (Some n) none h = (
  (b ∷ h.0.0, h.0.1, ap (λ bs. b ∷ bs) h.0.2, ap suc h.0.3),
  λ front back at. let later = not_here needle b text none front back at in omega (arith, later.2, h.1 later.0 back later.1),
)

pub first_place : (needle text : List ℕ) → IsFirstPlace needle text (place_of needle text)
first_place needle [] =
    elim (cases_Bool (begins needle [])) [
      | inl here ↦ rw here (IsFirstPlace-here needle [] here)
      | inr none ↦ rw none (λ front back at. false≢true (sym none ∙ in_nothing front needle back at))
    ]
first_place needle (b ∷ text) =
    elim (cases_Bool (begins needle (b ∷ text))) [
      | inl here ↦ rw here (IsFirstPlace-here needle (b ∷ text) here)
      | inr none ↦ rw none (IsFirstPlace-later needle b text (place_of needle text) none (first_place needle text))
    ]

-- ---- what stands behind the needle does not change its first place

begins-front : (needle bytes rest : List ℕ) → length needle ≤ length bytes → begins needle (bytes ++ rest) ≡ begins needle bytes
begins-front [] bytes rest le = refl
begins-front (n ∷ needle) [] rest le = absurd (omega arith)
begins-front (n ∷ needle) (b ∷ bytes) rest le = ap (λ t. (n == b) && t) (begins-front needle bytes rest (omega arith))

begins-before : (needle : List ℕ) (b : ℕ) (front back : List ℕ) → begins needle (b ∷ (front ++ (needle ++ back))) ≡ begins needle (b ∷ (front ++ needle))
begins-before needle b front back =
    ap (λ bytes. begins needle (b ∷ bytes)) (sym (append_assoc front needle back)) ∙ begins-front needle (b ∷ (front ++ needle)) back (omega (arith, length-append front needle))

place-before : (needle front back : List ℕ) → place_of needle (front ++ (needle ++ back)) ≡ place_of needle (front ++ needle)
place-before needle [] back =
    place-here needle (needle ++ back) (begins-append needle back) ∙ sym (place-here needle needle (rw append-nil at (begins-append needle [])))
place-before needle (b ∷ front) back = rw (begins-before needle b front back, place-before needle front back) refl

-- ---- replacing

behind-none : (o : ℕ) (os new bytes : List ℕ) → place_of (o ∷ os) bytes ≡ None → replaced_behind (o ∷ os) new zero bytes ≡ bytes
behind-none o os new [] none = refl
behind-none o os new (b ∷ bytes) none =
    let parts = none_parts (begins (o ∷ os) (b ∷ bytes)) (place_of (o ∷ os) bytes) none in
    rw parts.0 (ap (λ bs. b ∷ bs) (behind-none o os new bytes parts.1))

behind-piece : (o : ℕ) (os new rest piece : List ℕ) → place_of (o ∷ os) (piece ++ (o ∷ os)) ≡ Some (length piece) → replaced_behind (o ∷ os) new zero (piece ++ ((o ∷ os) ++ rest)) ≡ piece ++ (new ++ replaced_behind (o ∷ os) new zero rest)
behind-piece o os new rest [] is =
    let size : length (o ∷ os) - 1 ≡ length os = omega arith in
    rw (begins-append (o ∷ os) rest, size, behind-skip (o ∷ os) new (length os) (os ++ rest), drop-append_seam os rest) refl
behind-piece o os new rest (b ∷ piece) is =
    let parts = some_parts (begins (o ∷ os) (b ∷ (piece ++ (o ∷ os)))) (place_of (o ∷ os) (piece ++ (o ∷ os))) (length piece) is in
    rw (begins-before (o ∷ os) b piece rest, parts.0) (ap (λ bs. b ∷ bs) (behind-piece o os new rest piece parts.1))

behind-joined : (o : ℕ) (os new : List ℕ) (pieces : List (List ℕ)) → AreBetween (o ∷ os) pieces → replaced_behind (o ∷ os) new zero (joined (o ∷ os) pieces) ≡ joined new pieces
behind-joined o os new [] are = absurd are
behind-joined o os new (piece ∷ []) are = behind-none o os new piece are
behind-joined o os new (piece ∷ next ∷ pieces) are =
    behind-piece o os new (joined (o ∷ os) (next ∷ pieces)) piece are.0 ∙ ap (λ bytes. piece ++ (new ++ bytes)) (behind-joined o os new (next ∷ pieces) are.1)

-- nothing stands at no place
between_nothing : (pieces : List (List ℕ)) → AreBetween [] pieces → ⊥
between_nothing [] are = are
between_nothing (piece ∷ []) are = let found = sym (place-here [] piece refl) ∙ are in cc
between_nothing (piece ∷ next ∷ pieces) are = between_nothing (next ∷ pieces) are.1

pub replaced_joined : (old new : List ℕ) (pieces : List (List ℕ)) → AreBetween old pieces → replaced old new (joined old pieces) ≡ joined new pieces
replaced_joined [] new pieces are = absurd (between_nothing pieces are)
replaced_joined (o ∷ os) new pieces are = behind-joined o os new pieces are

-- ---- cutting

abbrev IsCut : List ℕ → List ℕ → Type 0
IsCut old text = (piece : List ℕ) × (pieces : List (List ℕ)) × AreBetween old (piece ∷ pieces) × (text ≡ joined old (piece ∷ pieces))

cut_at : (old text : List ℕ) → 0 < length old → (r : Option ℕ) → place_of old text ≡ r → IsFirstPlace old text r → ((rest : List ℕ) → length rest < length text → IsCut old rest) → IsCut old text
cut_at old text some None none h cut = (text, [], none, refl)
cut_at old text some (Some n) at h cut =
    let front : List ℕ = h.0.0 in
    let back : List ℕ = h.0.1 in
    let size : length text ≡ length (front ++ (old ++ back)) = ap length h.0.2 in
    let behind : IsCut old back = cut back (omega (arith, size, length-append front (old ++ back), length-append old back)) in (
      front,
      behind.0 ∷ behind.1,
      (sym (place-before old front back) ∙ ap (place_of old) (sym h.0.2) ∙ at ∙ ap Some (sym h.0.3), behind.2),
      h.0.2 ∙ ap (λ bytes. front ++ (old ++ bytes)) behind.3,
    )

cut_within : (fuel : ℕ) (old text : List ℕ) → 0 < length old → length text < fuel → IsCut old text
cut_within zero old text some lt = absurd (omega arith)
cut_within (suc fuel) old text some lt =
    cut_at old text some (place_of old text) refl (first_place old text) (λ rest shorter. cut_within fuel old rest some (omega arith))

pub cut : (old text : List ℕ) → 0 < length old → (pieces : List (List ℕ)) × AreBetween old pieces × (text ≡ joined old pieces)
cut old text some = let c = cut_within (suc (length text)) old text some (omega arith) in (c.0 ∷ c.1, c.2, c.3)

-- ---- one cut

same_front : (xs ys others rest : List ℕ) → xs ++ rest ≡ ys ++ others → length xs ≡ length ys → (xs ≡ ys) × (rest ≡ others)
same_front xs ys others rest is size = (
  sym (take-append_seam xs rest) ∙ ap (take (length xs)) is ∙ ap (λ n. take n (ys ++ others)) size ∙ take-append_seam ys others,
  sym (drop-append_seam xs rest) ∙ ap (drop (length xs)) is ∙ ap (λ n. drop n (ys ++ others)) size ∙ drop-append_seam ys others,
)

-- two texts with these first places are two
some_place : (old xs ys : List ℕ) (m : ℕ) (n : Option ℕ) → place_of old xs ≡ Some m → place_of old ys ≡ n → xs ≡ ys → Some m ≡ n
some_place old xs ys m n at_xs at_ys is = sym at_xs ∙ ap (place_of old) is ∙ at_ys

pub one_cut : (old : List ℕ) (pieces others : List (List ℕ)) → AreBetween old pieces → AreBetween old others → joined old pieces ≡ joined old others → pieces ≡ others
one_cut old [] others are too is = absurd are
one_cut old (p ∷ []) [] are too is = absurd too
one_cut old (p ∷ p' ∷ ps) [] are too is = absurd too
one_cut old (p ∷ []) (q ∷ []) are too is = ap (λ piece. piece ∷ []) is
one_cut old (p ∷ []) (q ∷ q' ∷ qs) are too is =
    let found = some_place old (joined old (q ∷ q' ∷ qs)) p (length q) None (place-before old q (joined old (q' ∷ qs)) ∙ too.0) are (sym is) in
    absurd (cc)
one_cut old (p ∷ p' ∷ ps) (q ∷ []) are too is =
    let found = some_place old (joined old (p ∷ p' ∷ ps)) q (length p) None (place-before old p (joined old (p' ∷ ps)) ∙ are.0) too is in
    absurd (cc)
one_cut old (p ∷ p' ∷ ps) (q ∷ q' ∷ qs) are too is =
    let found = some_place old (joined old (p ∷ p' ∷ ps)) (joined old (q ∷ q' ∷ qs)) (length p) (Some (length q)) (place-before old p (joined old (p' ∷ ps)) ∙ are.0) (place-before old q (joined old (q' ∷ qs)) ∙ too.0) is in
    let size : length p ≡ length q = cc in
    let fronts = same_front p q (old ++ joined old (q' ∷ qs)) (old ++ joined old (p' ∷ ps)) is size in
    let behind = same_front old old (joined old (q' ∷ qs)) (joined old (p' ∷ ps)) fronts.1 refl in
    let rest : p' ∷ ps ≡ q' ∷ qs = one_cut old (p' ∷ ps) (q' ∷ qs) are.1 too.1 behind.1 in
    let first : p ≡ q = fronts.0 in
    cc
