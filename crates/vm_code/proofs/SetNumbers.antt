-- Sets of open cursors by their numbers.
use Rattle.std.proofs.Common.{◌≡◌, ℕ, zero, suc, ◌+◌, ◌≤◌, ◌<◌, List, [], ◌∷◌, ◌++◌, length, Option, None, take, refl, sym, ap, ◌∙◌, arith, length-append}
use Rattle.std.specs.Prelude.{slice_index_or}
use Rattle.std.proofs.lemmas.List.{get_or_append_left, map-append, take_more}
use Rattle.std.proofs.lemmas.List.Elements.{All-head, All-push, All-tail, All-weaker}
use Rattle.std.proofs.Math.Seq.{get_or-append_seam}
use Rattle.vm_code.specs.declared.way.Way.{Way}
use Rattle.vm_code.specs.declared.way.Way.TheVariants as way
use Rattle.vm_code.specs.OpenSets.{AreNumbers, set_of, sets_of}
use Rattle.vm_code.specs.Track.{OpenSet, Track, behind}

-- a number from 1 on is that of a set in the list
pub set_above : (sets : List (Option OpenSet)) (n place : ℕ) → n ≡ place + 1 → set_of sets n ≡ slice_index_or sets place None
set_above sets n place e = let is : n ≡ suc place = omega (arith, e) in ap (set_of sets) is

-- one set more leaves the others
set_more : (sets : List (Option OpenSet)) (x : Option OpenSet) (n : ℕ) → n ≤ length sets → set_of (sets ++ x ∷ []) n ≡ set_of sets n
set_more sets x zero le = refl
set_more sets x (suc n) le = get_or_append_left sets (x ∷ []) None n (omega (arith, le))

pub sets_more : (sets : List (Option OpenSet)) (x : Option OpenSet) (numbers : List ℕ) → AreNumbers sets numbers → sets_of (sets ++ x ∷ []) numbers ≡ sets_of sets numbers
sets_more sets x [] are = refl
sets_more sets x (n ∷ ns) are =
    ap (λ o. o ∷ sets_of (sets ++ x ∷ []) ns) (set_more sets x n (All-head (λ n. n ≤ length sets) n ns are))
    ∙ ap (λ l. set_of sets n ∷ l) (sets_more sets x ns (All-tail (λ n. n ≤ length sets) n ns are))

-- and is the last one
pub set_last : (sets : List (Option OpenSet)) (x : Option OpenSet) → set_of (sets ++ x ∷ []) (length (sets ++ x ∷ [])) ≡ x
set_last sets x =
    let is : length (sets ++ x ∷ []) ≡ suc (length sets) = omega (arith, length-append sets (x ∷ [])) in
    ap (set_of (sets ++ x ∷ [])) is ∙ get_or-append_seam sets x [] None

pub numbers_more : (sets : List (Option OpenSet)) (x : Option OpenSet) (numbers : List ℕ) → AreNumbers sets numbers → AreNumbers (sets ++ x ∷ []) numbers
numbers_more sets x numbers are =
    All-weaker (λ n. n ≤ length sets) (λ n. n ≤ length (sets ++ x ∷ [])) (λ n le. omega (arith, le, length-append sets (x ∷ []))) numbers are

-- where no number is there is no set
pub set_past : (sets : List (Option OpenSet)) (numbers : List ℕ) (place : ℕ) → length numbers ≤ place → slice_index_or (sets_of sets numbers) place None ≡ None
set_past sets [] place le = refl
set_past sets (n ∷ ns) zero le = absurd (omega (arith, le))
set_past sets (n ∷ ns) (suc place) le = set_past sets ns place (omega (arith, le))

-- what is seen with one set more, which is open now
pub seen_more : (sets all : List (Option OpenSet)) (x : Option OpenSet) (numbers marks : List ℕ) (n : ℕ) → all ≡ sets ++ x ∷ [] → n ≡ length all → AreNumbers sets numbers → AreNumbers sets marks → ◌≡◌ {A = Track} (record { opens = sets_of all numbers; now = set_of all n; marks = sets_of all marks }) (record { opens = sets_of sets numbers; now = x; marks = sets_of sets marks })
seen_more sets all x numbers marks n all_is n_is are are_marks =
    ap (λ l. seen l numbers (set_of l n) marks) all_is
    ∙ ap (λ l. seen_of l (set_of (sets ++ x ∷ []) n) (sets_of (sets ++ x ∷ []) marks)) (sets_more sets x numbers are)
    ∙ ap (λ l. seen_of (sets_of sets numbers) (set_of (sets ++ x ∷ []) n) l) (sets_more sets x marks are_marks)
    ∙ ap (λ k. seen_of (sets_of sets numbers) (set_of (sets ++ x ∷ []) k) (sets_of sets marks)) (n_is ∙ ap length all_is)
    ∙ ap (λ o. seen_of (sets_of sets numbers) o (sets_of sets marks)) (set_last sets x)
  where
    seen_of : List (Option OpenSet) → Option OpenSet → List (Option OpenSet) → Track
    seen_of opens now marks = record { opens = opens; now = now; marks = marks }

    seen : List (Option OpenSet) → List ℕ → Option OpenSet → List ℕ → Track
    seen l numbers now marks = seen_of (sets_of l numbers) now (sets_of l marks)

-- one number more
pub sets_push : (sets : List (Option OpenSet)) (numbers : List ℕ) (n : ℕ) → sets_of sets (numbers ++ n ∷ []) ≡ sets_of sets numbers ++ set_of sets n ∷ []
sets_push sets numbers n = map-append (set_of sets) numbers (n ∷ [])

pub numbers_push : (sets : List (Option OpenSet)) (numbers : List ℕ) (n : ℕ) → AreNumbers sets numbers → n ≤ length sets → AreNumbers sets (numbers ++ n ∷ [])
numbers_push sets numbers n are le = All-push (λ n. n ≤ length sets) numbers n are le

-- the numbers of the first sets of a list, and of one more
pub each_step : (sets : List (Option OpenSet)) (numbers : List ℕ) (place n : ℕ) → place < length sets → n ≡ place + 1 → sets_of sets numbers ≡ take place sets → sets_of sets (numbers ++ n ∷ []) ≡ take (place + 1) sets
each_step sets numbers place n lt n_is before =
    sets_push sets numbers n
    ∙ ap (λ l. l ++ set_of sets n ∷ []) before
    ∙ ap (λ o. take place sets ++ o ∷ []) (set_above sets n place n_is)
    ∙ sym (take_more sets place None lt)

-- behind what is never reached nothing is
pub behind_none : (w : Way) → behind w None ≡ None
behind_none way.Continues = refl
behind_none (way.Opens x) = refl
behind_none (way.Closes c) = refl
behind_none (way.ClosesFrom c) = refl
behind_none (way.Forks l) = refl
behind_none (way.Jumps l) = refl
behind_none (way.Calls u n to) = refl
behind_none way.Leaves = refl
behind_none (way.Returns n) = refl

pub ruleset noted = (sets_push, numbers_push)

pub ruleset changed = (set_last, sets_more, numbers_more)
