-- Forms of texts: a form is a test of all the bytes of a text.
use Rattle.std.specs.Prelude.{◌≡◌, ℕ, Bool, true, false, ◌&&◌, ◌||◌, ◌==◌, List, [], ◌∷◌, map, take, length, ◌≤◌, reverse, Option, Some, None, filter, if◌then◌else◌}
use Rattle.std.specs.List.{list_any}
use Rattle.std.specs.Int.{is_in_range}

abbrev pub Form : Type 0
Form = List ℕ → Bool

abbrev pub empty : Form
empty [] = true
empty (b ∷ bytes) = false

-- one byte out of these
abbrev pub one_of : List ℕ → Form
one_of these [] = false
one_of these (b ∷ bytes) = list_any (λ t. t == b) these && empty bytes

abbrev pub is_digit : ℕ → Bool
is_digit b = is_in_range 48 57 b

-- one digit or more
abbrev pub digits : Form
digits [] = false
digits (b ∷ bytes) = is_digit b && (empty bytes || digits bytes)

-- each way of cutting a text in two, the shortest front first
abbrev pub cuts : List ℕ → List (List ℕ × List ℕ)
cuts [] = ([], []) ∷ []
cuts (b ∷ bytes) = ([], b ∷ bytes) ∷ map (λ (c : List ℕ × List ℕ). (b ∷ c.0, c.1)) (cuts bytes)

-- the text has a cut with the one form in front of it and the other behind it
infixr 30 ◌then◌
abbrev pub ◌then◌ : Form → Form → Form
(p then q) bytes = list_any (λ (c : List ℕ × List ℕ). p c.0 && q c.1) (cuts bytes)

abbrev pub either : Form → Form → Form
either p q bytes = p bytes || q bytes

abbrev pub optional : Form → Form
optional p = either empty p

-- ---- beginnings

abbrev pub last_of : List (List ℕ) → Option (List ℕ)
last_of [] = None
last_of (x ∷ []) = Some x
last_of (x ∷ y ∷ xs) = last_of (y ∷ xs)

-- the longest beginning of the form, if any
abbrev pub longest : Form → List ℕ → Option (List ℕ)
longest p bytes = last_of (filter p (map (λ (c : List ℕ × List ℕ). c.0) (cuts bytes)))

-- the longest beginning of the form is the one of n bytes; or there is none
abbrev pub IsLongest : Form → List ℕ → Option ℕ → Type 0
IsLongest p bytes None = longest p bytes ≡ None
IsLongest p bytes (Some n) = (n ≤ length bytes) × (longest p bytes ≡ Some (take n bytes))

-- ---- white space: space, tab, line feed, form feed, carriage return

abbrev pub is_space : ℕ → Bool
is_space b = list_any (λ t. t == b) (32 ∷ 9 ∷ 10 ∷ 12 ∷ 13 ∷ [])

abbrev pub without_space : List ℕ → List ℕ
without_space [] = []
without_space (b ∷ bytes) = if is_space b then without_space bytes else b ∷ bytes

-- without the white space at both ends
abbrev pub trimmed : List ℕ → List ℕ
trimmed bytes = reverse (without_space (reverse (without_space bytes)))
