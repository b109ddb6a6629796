-- What the patterns of LIKE and GLOB match (SQL Language Expressions, "The LIKE, GLOB, REGEXP, MATCH, and extract operators").
use Rattle.std.specs.Prelude.{◌≡◌, ◌≤◌, ⊤, ◌++◌, ℕ, Bool, true, false, not, ◌&&◌, ◌||◌, ◌==◌, nat_le, List, [], ◌∷◌, Option, Some, None, if◌then◌else◌, is_some, unwrap_or, codes, refl}
use Rattle.std.specs.List.{flat_map, list_any}
use Rattle.std.specs.Char.{to_ascii_lowercase}

-- ---- patterns

-- what a character has to be: any one, this one, one in these ranges or (where the flag is false) in none of them; or it never fits
pub data Test : Type 0 where
  Any : Test
  Exactly : ℕ → Test
  Member : Bool → List (ℕ × ℕ) → Test
  Never : Test

-- a part of a pattern: any characters, also none; or one that passes a test
pub data Part : Type 0 where
  Run : Part
  One : Test → Part

-- the text, and each of its ends
abbrev pub tails : List ℕ → List (List ℕ)
tails [] = [] ∷ []
tails (c ∷ cs) = (c ∷ cs) ∷ tails cs

abbrev pub in_range : ℕ → ℕ × ℕ → Bool
in_range c r = nat_le r.0 c && nat_le c r.1

-- where `same` says which characters count as one
module _ (same : ℕ → ℕ → Bool) where
  abbrev pub passes : Test → ℕ → Bool
  passes Any c = true
  passes (Exactly d) c = same d c
  passes (Member true ranges) c = list_any (in_range c) ranges
  passes (Member false ranges) c = not (list_any (in_range c) ranges)
  passes Never c = false

  -- a run of any characters leaves some end of the text for the parts behind it
  abbrev pub matches : List Part → List ℕ → Bool
  matches [] [] = true
  matches [] (c ∷ cs) = false
  matches (Run ∷ parts) text = list_any (matches parts) (tails text)
  matches (One test ∷ parts) [] = false
  matches (One test ∷ parts) (c ∷ cs) = passes test c && matches parts cs

-- ---- LIKE

abbrev pub percent : ℕ
percent = 0x25

abbrev pub underscore : ℕ
underscore = 0x5f

abbrev pub is_escape : Option ℕ → ℕ → Bool
is_escape None c = false
is_escape (Some escape) c = escape == c

abbrev pub like_part : ℕ → Part
like_part c = if c == percent then Run else One (if c == underscore then Any else Exactly c)

-- the character behind the escape stands for itself; behind an escape at the end there is none
abbrev pub like_parts : Option ℕ → List ℕ → List Part
like_parts escape [] = []
like_parts escape (c ∷ []) = if is_escape escape c then One Never ∷ [] else like_part c ∷ []
like_parts escape (c ∷ d ∷ cs) =
    if is_escape escape c then One (Exactly d) ∷ like_parts escape cs else like_part c ∷ like_parts escape (d ∷ cs)

-- letters of ASCII match in either case
abbrev pub same_folded : ℕ → ℕ → Bool
same_folded c d = to_ascii_lowercase c == to_ascii_lowercase d

unfoldable pub is_like : Option ℕ → List ℕ → List ℕ → Bool
is_like escape pattern text = matches same_folded (like_parts escape pattern) text

-- ---- writing a text as a pattern of LIKE

abbrev pub backslash : ℕ
backslash = 0x5c

-- each `%`, `_` and `\` of a text with a `\` in front
abbrev pub escaped : List ℕ → List ℕ
escaped [] = []
escaped (c ∷ cs) = if c == percent || c == underscore || c == backslash then backslash ∷ c ∷ escaped cs else c ∷ escaped cs

-- ---- GLOB

-- where a set has come to: behind `[`, behind `[^`, or further on
pub data Place : Type 0 where
  Opened : Place
  Negated : Place
  Within : Place

-- what a pattern has come to: outside a set, or in one, with its ranges so far and the member in front, if a range may begin there
pub data Reading : Type 0 where
  Outside : Reading
  Inside : Bool → Place → List (ℕ × ℕ) → Option ℕ → Reading

abbrev pub glob_part : ℕ → Part
glob_part c = if c == 0x2a then Run else One (if c == 0x3f then Any else Exactly c)

-- `]` closes a set, but stands for itself where it is the first member
abbrev pub closes : Place → ℕ → Bool
closes Opened c = false
closes Negated c = false
closes Within c = c == 0x5d

abbrev pub negates : Place → ℕ → Bool
negates Opened c = c == 0x5e
negates Negated c = false
negates Within c = false

-- `-` between two members makes a range of them, where what follows does not close the set
abbrev pub is_range : Option ℕ → ℕ → ℕ → Bool
is_range prior c d = is_some prior && (c == 0x2d) && not (d == 0x5d)

-- the member in front of the next one: none behind a `]` that stands for itself
abbrev pub before : Place → ℕ → Option ℕ
before Within c = Some c
before Opened c = if c == 0x5d then None else Some c
before Negated c = if c == 0x5d then None else Some c

abbrev pub glob_from : Reading → List ℕ → List Part
glob_from Outside [] = []
glob_from Outside (c ∷ cs) = if c == 0x5b then glob_from (Inside true Opened [] None) cs else glob_part c ∷ glob_from Outside cs
glob_from (Inside member place ranges prior) [] = One Never ∷ []
glob_from (Inside member place ranges prior) (c ∷ []) = if closes place c then One (Member member ranges) ∷ [] else One Never ∷ []
glob_from (Inside member place ranges prior) (c ∷ d ∷ cs) =
    if closes place c then One (Member member ranges) ∷ glob_from Outside (d ∷ cs) else
    if negates place c then glob_from (Inside false Negated [] None) (d ∷ cs) else
    if is_range prior c d then glob_from (Inside member Within ((unwrap_or prior 0, d) ∷ ranges) None) cs else
    glob_from (Inside member Within ((c, c) ∷ ranges) (before place c)) (d ∷ cs)

abbrev pub same_char : ℕ → ℕ → Bool
same_char c d = c == d

unfoldable pub is_glob : List ℕ → List ℕ → Bool
is_glob pattern text = matches same_char (glob_from Outside pattern) text

-- ---- writing a text as a pattern of GLOB

-- each `*`, `?` and `[` of a text as a set of its own
abbrev pub glob_escaped : List ℕ → List ℕ
glob_escaped [] = []
glob_escaped (c ∷ cs) = if c == 0x2a || c == 0x3f || c == 0x5b then 0x5b ∷ c ∷ 0x5d ∷ glob_escaped cs else c ∷ glob_escaped cs

-- ---- writing ranges as a set of GLOB

-- `a-z`
abbrev pub range_text : ℕ × ℕ → List ℕ
range_text r = r.0 ∷ 0x2d ∷ r.1 ∷ []

-- `[a-zA-Z]`, and `[^a-zA-Z]`
abbrev pub set_of : List (ℕ × ℕ) → List ℕ
set_of ranges = 0x5b ∷ flat_map range_text ranges ++ 0x5d ∷ []

abbrev pub other_set_of : List (ℕ × ℕ) → List ℕ
other_set_of ranges = 0x5b ∷ 0x5e ∷ flat_map range_text ranges ++ 0x5d ∷ []

-- from a character to one that is not below it, neither of them `]`
pub record IsWritable (r : ℕ × ℕ) : Type 0 where
  pub ordered : r.0 ≤ r.1
  pub first : (r.0 == 0x5d) ≡ false
  pub last : (r.1 == 0x5d) ≡ false

abbrev pub AreWritable : List (ℕ × ℕ) → Type 0
AreWritable [] = ⊤
AreWritable (r ∷ ranges) = IsWritable r × AreWritable ranges

-- ---- examples

likes : (is_like None (codes "A_") (codes "ab") ≡ true) × (is_like None (codes "%5%") (codes "x15") ≡ true) × (is_like None (codes "%a%b") (codes "xAyyabB") ≡ true) × (is_like None (codes "a%b") (codes "abc") ≡ false)
unfolding is_like
likes = (refl, refl, refl, refl)

escapes : (is_like (Some 0x5c) (codes "5\\%") (codes "5%") ≡ true) × (is_like (Some 0x5c) (codes "5\\%") (codes "55") ≡ false) × (is_like (Some 0x5c) (codes "5\\") (codes "5") ≡ false) × (is_like (Some 0x25) (codes "5%%") (codes "5%") ≡ true)
unfolding is_like
escapes = (refl, refl, refl, refl)

written : escaped (codes "5%_\\") ≡ codes "5\\%\\_\\\\"
written = refl

glob_written : glob_escaped (codes "a*[?]") ≡ codes "a[*][[][?]]"
glob_written = refl

globs : (is_glob (codes "A*") (codes "ab") ≡ false) × (is_glob (codes "a[b-d]?") (codes "acx") ≡ true) × (is_glob (codes "[^a-c]") (codes "d") ≡ true) × (is_glob (codes "[^a-c]") (codes "b") ≡ false)
unfolding is_glob
globs = (refl, refl, refl, refl)

sets : (is_glob (codes "[]a]") (codes "]") ≡ true) × (is_glob (codes "[a") (codes "a") ≡ false) × (is_glob (codes "[a-]") (codes "-") ≡ true) × (is_glob (codes "[^]]") (codes "a") ≡ true) × (is_glob (codes "[]-a]") (codes "-") ≡ true) × (is_glob (codes "x[]") (codes "x]") ≡ false)
unfolding is_glob
sets = (refl, refl, refl, refl, refl, refl)

sets_written : (set_of ((0x61, 0x7a) ∷ (0x30, 0x39) ∷ []) ≡ codes "[a-z0-9]") × (other_set_of ((0x61, 0x7a) ∷ []) ≡ codes "[^a-z]")
sets_written = (refl, refl)
