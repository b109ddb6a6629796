-- Steps of reading that did not fail.
use Rattle.std.proofs.Common.{◌≡◌, ℕ, zero, suc, ◌<◌, Bool, true, false, cond, List, [], ◌∷◌, ◌++◌, get_or, replicate, Ok, Err, refl, subst, arith}
use Rattle.eng_record.specs.declared.record_error.RecordErr.{RecordErr}
use Rattle.eng_record.specs.Reading.{Read, ◌>>=◌}

-- ---- bytes

abbrev pub IsBytes : List ℕ → Type 0
IsBytes bytes = (i : ℕ) → get_or bytes i 0 < 256

pub IsBytes-tail : (b : ℕ) (bytes : List ℕ) → IsBytes (b ∷ bytes) → IsBytes bytes
IsBytes-tail b bytes fits i = fits (suc i)

IsBytes-cons : (b : ℕ) (bytes : List ℕ) → b < 256 → IsBytes bytes → IsBytes (b ∷ bytes)
IsBytes-cons b bytes lt fits zero = lt
IsBytes-cons b bytes lt fits (suc i) = fits i

pub IsBytes-behind : (front rest : List ℕ) → IsBytes (front ++ rest) → IsBytes rest
IsBytes-behind [] rest fits = fits
IsBytes-behind (b ∷ front) rest fits = IsBytes-behind front rest (IsBytes-tail b (front ++ rest) fits)

pub IsBytes-front : (front rest : List ℕ) → IsBytes (front ++ rest) → IsBytes front
IsBytes-front [] rest fits = λ i. omega arith
IsBytes-front (b ∷ front) rest fits = IsBytes-cons b front (fits 0) (IsBytes-front front rest (IsBytes-tail b (front ++ rest) fits))

pub IsBytes-fill : (k b : ℕ) (bytes : List ℕ) → b < 256 → IsBytes bytes → IsBytes (replicate k b ++ bytes)
IsBytes-fill zero b bytes lt fits = fits
IsBytes-fill (suc k) b bytes lt fits = IsBytes-cons b (replicate k b ++ bytes) lt (IsBytes-fill k b bytes lt fits)

-- ---- steps

-- a step that did not fail had a value, from which the rest went on
pub step_ok : {A B : Type 0} (first : Read A) (next : A → Read B) (y : B) → (first >>= next) ≡ Ok y → (x : A) × (first ≡ Ok x) × (next x ≡ Ok y)
step_ok (Ok x) next y e = (x, refl, e)
step_ok (Err fault) next y e = absurd cc

-- what was read
abbrev pub read : {A : Type 0} → A → Read A
read x = Ok x

pub same_read : {A : Type 0} (x y : A) → read x ≡ read y → x ≡ y
same_read x y e = cc

-- what holds of a value holds of what was read
pub as_read : {A : Type 0} (P : A → Type 0) (x y : A) → read x ≡ read y → P x → P y
as_read P x y e = subst P (same_read x y e)

-- a test that found no fault
pub passes : {A : Type 0} (test : Bool) (fault : RecordErr) (x y : A) → cond test (read x) (Err fault) ≡ Ok y → (test ≡ true) × (x ≡ y)
passes true fault x y e = (refl, same_read x y e)
passes false fault x y e = absurd cc

-- a test that would have found a fault
pub goes_on : {A : Type 0} (test : Bool) (fault : RecordErr) (next : Read A) (y : A) → cond test (Err fault) next ≡ Ok y → (test ≡ false) × (next ≡ Ok y)
goes_on true fault next y e = absurd cc
goes_on false fault next y e = (refl, e)
