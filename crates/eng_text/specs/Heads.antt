-- What the code's pieces of a pattern stand for.
use Rattle.std.specs.Prelude.{◌≡◌, ℕ, ◌<◌, Bool, true, false, List, [], ◌∷◌, length, Option, None, MatchOption}
use Rattle.std.specs.Str.{chars}
use denote.Ref.{Bor}
use Rattle.eng_text.specs.Patterns.{Test, Any, Exactly, Never, Part, Run, One, Inside, Opened, Outside, passes, is_like, is_glob, like_parts, glob_from, same_folded, same_char}
use Rattle.eng_text.specs.declared.head.Head.{Head}
use Rattle.eng_text.specs.declared.head.Head.TheVariants as head
use Rattle.eng_text.specs.declared.head.Single.{Single}
use Rattle.eng_text.specs.declared.head.Single.TheVariants.{Char, Set}
use Rattle.eng_text.specs.declared.head.Wanted.{Wanted}
use Rattle.eng_text.specs.declared.head.Wanted.TheVariants as wanted
use Rattle.eng_text.specs.declared.syntax.Syntax.{Syntax}
use Rattle.eng_text.specs.declared.syntax.Syntax.TheVariants.{Like, Glob}

abbrev pub parts_of : Syntax → List ℕ → List Part
parts_of (Like escape) pattern = like_parts escape pattern
parts_of Glob pattern = glob_from Outside pattern

abbrev pub same_of : Syntax → ℕ → ℕ → Bool
same_of (Like escape) = same_folded
same_of Glob = same_char

abbrev pub test_of : Wanted → Test
test_of wanted.Any = Any
test_of (wanted.Exactly c) = Exactly c
test_of wanted.Never = Never

-- by the characters of the pattern and of the text
abbrev pub is_match : Syntax → List ℕ → List ℕ → Bool
is_match (Like escape) pattern text = is_like escape pattern text
is_match Glob pattern text = is_glob pattern text

-- the parts of a pattern, from what is behind the `[` of a set on
abbrev pub set_parts : List ℕ → List Part
set_parts set = glob_from (Inside true Opened [] None) set

-- the parts from a single character on
abbrev pub single_parts : Syntax → Single → List Part
single_parts syntax (Char wanted behind) = One (test_of wanted) ∷ parts_of syntax (chars behind.now)
single_parts syntax (Set set) = set_parts (chars set.now)

abbrev pub single_rest : Single → List ℕ
single_rest (Char wanted behind) = behind.now
single_rest (Set set) = set.now

-- only GLOB has sets
abbrev pub IsOf : Syntax → Single → Type 0
IsOf syntax (Char wanted behind) = Unit {0}
IsOf syntax (Set set) = syntax ≡ Glob

-- what the text behind an escape begins with, for itself
abbrev pub IsEscaped : List ℕ → Single → Type 0
IsEscaped text (Char wanted.Any behind) = ⊥
IsEscaped text (Char (wanted.Exactly c) behind) = text ≡ c ∷ chars behind.now
IsEscaped text (Char wanted.Never behind) = (text ≡ []) × (chars behind.now ≡ [])
IsEscaped text (Set set) = ⊥

-- the pattern begins with this, and what is behind it is shorter
abbrev pub BeginsWith : Syntax → List ℕ → Head → Type 0
BeginsWith syntax text head.End = parts_of syntax (chars text) ≡ []
BeginsWith syntax text (head.Run behind) = (parts_of syntax (chars text) ≡ Run ∷ parts_of syntax (chars behind.now)) × (length behind.now < length text)
BeginsWith syntax text (head.One single) = (parts_of syntax (chars text) ≡ single_parts syntax single) × (length (single_rest single) < length text) × IsOf syntax single

-- the parts begin with a test of one character; what is behind it, where this character passes
pub record Takes (syntax : Syntax) (parts : List Part) (c : ℕ) (behind : Option (Bor (List ℕ))) : Type 0 where
  pub test : Test
  pub rest : List Part
  pub is : parts ≡ One test ∷ rest
  pub fits : MatchOption behind (passes (same_of syntax) test c ≡ false) (λ text. (passes (same_of syntax) test c ≡ true) × (rest ≡ parts_of syntax (chars text.now)))
