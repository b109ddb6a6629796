-- How long the longest beginnings are: of one form behind another, of runs of digits, and of the parts of numbers.
use Rattle.std.proofs.Common.{◌≡◌, ℕ, suc, ◌+◌, ◌≤◌, ◌<◌, ◌==◌, nat_eq, Bool, true, false, ◌&&◌, ◌||◌, cond, List, [], ◌∷◌, ◌++◌, length, take, drop, Option, Some, None, refl, sym, ap, ◌∙◌, arith}
use Rattle.std.specs.List.{list_any}
use Rattle.std.specs.Option.{option_eq, option_map, unwrap_or}
use Rattle.std.proofs.lemmas.Bool.{both_ways}
use Rattle.std.proofs.lemmas.Bool.Decides.{nat_tests}
use Rattle.std.proofs.lemmas.List.{take-append-drop, drop-take, take-take, length-drop, length-take-le, take_all}
use Rattle.eng_number.specs.Forms.{Form, ◌then◌, digits, either, empty, is_digit, longest, one_of, optional, IsLongest}
use Rattle.eng_number.proofs.Beginnings.{Apart, grown, longest-nil, longest-cons, longest-passes, longest-whole, longest-never, longest-empty, longest-either_left, longest-either_right, longest-optional, longest-optional_none, longest-then, some_same, some_none}

-- ---- one form behind another

take-add : (n m : ℕ) (bytes : List ℕ) → take n bytes ++ take m (drop n bytes) ≡ take (n + m) bytes
take-add n m bytes =
    ap (λ x. x ++ take m (drop n bytes)) (sym (take-take n (n + m) bytes (omega arith)))
    ∙ ap (λ x. take n (take (n + m) bytes) ++ x) (sym (drop-take n m bytes))
    ∙ take-append-drop n (take (n + m) bytes)

module _ (p q : Form) (far : Apart p q) (n : ℕ) (bytes rest : List ℕ) (is : IsLongest p bytes (Some n)) (behind_is : rest ≡ drop n bytes) where
  longest-joined : longest (p then q) bytes ≡ option_map (λ x. take n bytes ++ x) (longest q rest)
  longest-joined = longest-then p q far n bytes is.0 is.1 ∙ ap (λ x. option_map (λ y. take n bytes ++ y) (longest q x)) (sym behind_is)

  pub then_some : (m : ℕ) → IsLongest q rest (Some m) → IsLongest (p then q) bytes (Some (n + m))
  then_some m further = (
    omega (arith, is.0, further.0, ap length behind_is, length-drop n bytes),
    longest-joined ∙ ap (option_map (λ x. take n bytes ++ x)) further.1 ∙ ap (λ x. Some (take n bytes ++ take m x)) behind_is ∙ ap Some (take-add n m bytes),
  )

  pub then_none : longest q rest ≡ None → longest (p then q) bytes ≡ None
  then_none further = longest-joined ∙ ap (option_map (λ x. take n bytes ++ x)) further

pub IsLongest-optional : (p : Form) (bytes : List ℕ) (r : Option ℕ) → IsLongest p bytes r → IsLongest (optional p) bytes (Some (unwrap_or r 0))
IsLongest-optional p bytes None is = (omega arith, longest-optional_none p bytes is)
IsLongest-optional p bytes (Some n) is = (is.0, longest-optional p bytes (take n bytes) is.1)

-- the longest text of the form alone, from that of the form or the empty text
module _ (p : Form) (bytes : List ℕ) where
  pub required_none : p [] ≡ false → IsLongest (optional p) bytes (Some 0) → longest p bytes ≡ None
  required_none nonempty is = by (longest p bytes) refl
    where
      by : (o : Option (List ℕ)) → longest p bytes ≡ o → o ≡ None
      by None e = refl
      by (Some x) e =
          let nil : [] ≡ x = some_same [] x (sym is.1 ∙ longest-optional p bytes x e) in
          absurd (both_ways (p []) nonempty (ap p nil ∙ longest-passes p bytes x e))

  pub required_some : (n : ℕ) → 0 < n → IsLongest (optional p) bytes (Some n) → IsLongest p bytes (Some n)
  required_some n positive is = (is.0, by (longest p bytes) refl)
    where
      by : (o : Option (List ℕ)) → longest p bytes ≡ o → o ≡ Some (take n bytes)
      by None e =
          let nil : take n bytes ≡ [] = some_same (take n bytes) [] (sym is.1 ∙ longest-optional_none p bytes e) in
          absurd (omega (arith, length-take-le n bytes is.0, ap length nil))
      by (Some x) e = sym (longest-optional p bytes x e) ∙ is.1

pub IsLongest-either_left : (p q : Form) (bytes : List ℕ) (r : Option ℕ) → IsLongest p bytes r → longest q bytes ≡ None → IsLongest (either p q) bytes r
IsLongest-either_left p q bytes None is none = longest-either_left p q bytes none ∙ is
IsLongest-either_left p q bytes (Some n) is none = (is.0, longest-either_left p q bytes none ∙ is.1)

pub IsLongest-either_right : (p q : Form) (bytes : List ℕ) (r : Option ℕ) → longest p bytes ≡ None → IsLongest q bytes r → IsLongest (either p q) bytes r
IsLongest-either_right p q bytes None none is = longest-either_right p q bytes none ∙ is
IsLongest-either_right p q bytes (Some n) none is = (is.0, longest-either_right p q bytes none ∙ is.1)

whole_text : (p : Form) (bytes : List ℕ) (n : ℕ) → IsLongest p bytes (Some n) → p bytes ≡ (n == length bytes)
whole_text p bytes n is = by (p bytes) (n == length bytes) refl refl
  where
    by : (s t : Bool) → p bytes ≡ s → (n == length bytes) ≡ t → s ≡ t
    by true true e f = refl
    by false false e f = refl
    by true false e f =
        let same : take n bytes ≡ bytes = some_same (take n bytes) bytes (sym is.1 ∙ longest-whole p bytes e) in
        let len : n ≡ length bytes = sym (length-take-le n bytes is.0) ∙ ap length same in
        absurd (grind (arith, nat_tests))
    by false true e f =
        let all : take n bytes ≡ bytes = take_all n bytes (grind (arith, nat_tests)) in
        absurd (both_ways (p bytes) e (ap p (sym all) ∙ longest-passes p bytes (take n bytes) is.1))

no_text : (p : Form) (bytes : List ℕ) → longest p bytes ≡ None → p bytes ≡ false
no_text p bytes none = by (p bytes) refl
  where
    by : (s : Bool) → p bytes ≡ s → s ≡ false
    by false e = refl
    by true e = some_none bytes (sym (longest-whole p bytes e) ∙ none)

-- a text is of the form if it is its own longest beginning
pub text-is : (p : Form) (bytes : List ℕ) (r : Option ℕ) → IsLongest p bytes r → p bytes ≡ option_eq nat_eq r (Some (length bytes))
text-is p bytes None is = no_text p bytes is
text-is p bytes (Some n) is = whole_text p bytes n is

-- ---- one byte out of some

abbrev pub is_one_of : List ℕ → ℕ → Bool
is_one_of these b = list_any (λ t. t == b) these

pub longest-one_of : (these : List ℕ) (b : ℕ) (bytes : List ℕ) → longest (one_of these) (b ∷ bytes) ≡ cond (is_one_of these b) (Some (b ∷ [])) None
longest-one_of these b bytes = longest-cons (one_of these) b bytes ∙ by (is_one_of these b)
  where
    by : (t : Bool) → grown b false (longest (λ x. t && empty x) bytes) ≡ cond t (Some (b ∷ [])) None
    by true = ap (grown b false) (longest-empty bytes)
    by false = ap (grown b false) (longest-never bytes)

pub IsLongest-one_of : (these : List ℕ) (b : ℕ) (bytes : List ℕ) → is_one_of these b ≡ true → IsLongest (one_of these) (b ∷ bytes) (Some 1)
IsLongest-one_of these b bytes e = (omega arith, longest-one_of these b bytes ∙ ap (λ t. cond t (Some (b ∷ [])) None) e)

pub none_of : (these : List ℕ) (b : ℕ) (bytes : List ℕ) → is_one_of these b ≡ false → longest (one_of these) (b ∷ bytes) ≡ None
none_of these b bytes e = longest-one_of these b bytes ∙ ap (λ t. cond t (Some (b ∷ [])) None) e

-- ---- runs of digits

-- how many digits the text begins with
abbrev pub digit_run : List ℕ → ℕ
digit_run [] = 0
digit_run (b ∷ bytes) = cond (is_digit b) (suc (digit_run bytes)) 0

pub digit_run-le : (bytes : List ℕ) → digit_run bytes ≤ length bytes
digit_run-le [] = omega arith
digit_run-le (b ∷ bytes) = by (is_digit b) (digit_run-le bytes)
  where
    by : (t : Bool) → digit_run bytes ≤ length bytes → cond t (suc (digit_run bytes)) 0 ≤ suc (length bytes)
    by true l = omega (arith, l)
    by false l = omega arith

longest-digits : (bytes : List ℕ) → longest (optional digits) bytes ≡ Some (take (digit_run bytes) bytes)
longest-digits [] = longest-nil (optional digits)
longest-digits (b ∷ bytes) = longest-cons (optional digits) b bytes ∙ by (is_digit b) (longest-digits bytes)
  where
    by : (t : Bool) → longest (optional digits) bytes ≡ Some (take (digit_run bytes) bytes)
        → grown b true (longest (λ x. t && (empty x || digits x)) bytes) ≡ Some (take (cond t (suc (digit_run bytes)) 0) (b ∷ bytes))
    by true e = ap (grown b true) e
    by false e = ap (grown b true) (longest-never bytes)

pub IsLongest-digits : (bytes : List ℕ) → IsLongest (optional digits) bytes (Some (digit_run bytes))
IsLongest-digits bytes = (digit_run-le bytes, longest-digits bytes)
