-- Sets of GLOB that are written of ranges.
use Rattle.std.proofs.Common.{◌≡◌, ◌≤◌, ◌==◌, ℕ, Bool, true, false, not, ◌||◌, ◌&&◌, List, [], ◌∷◌, ◌++◌, length, Some, None, refl, sym, ap, ◌∙◌, arith}
use Rattle.std.specs.List.{flat_map, list_any}
use Rattle.std.proofs.Math.Bool.{or-false}
use Rattle.std.proofs.lemmas.Bool.Decides.{nat_tests}
use Rattle.eng_text.specs.Patterns.{AreWritable, IsWritable, One, Test, Member, Opened, Negated, Within, Outside, Inside, glob_from, in_range, is_glob, matches, other_set_of, passes, range_text, same_char, set_of}

-- what a set has read of ranges, behind what it had
abbrev members : List (ℕ × ℕ) → List (ℕ × ℕ) → List (ℕ × ℕ)
members [] acc = acc
members (r ∷ ranges) acc = members ranges ((r.0, r.1) ∷ (r.0, r.0) ∷ acc)

-- the end of a set, behind its ranges
abbrev rest_of : List (ℕ × ℕ) → List ℕ
rest_of ranges = flat_map range_text ranges ++ 0x5d ∷ []

-- there is one
ends : (ranges : List (ℕ × ℕ)) → (c : ℕ) × (cs : List ℕ) × (rest_of ranges ≡ c ∷ cs)
ends [] = (0x5d, [], refl)
ends (r ∷ ranges) = (r.0, 0x2d ∷ r.1 ∷ rest_of ranges, refl)

-- a range, where the last member of a range stands behind the first and `-`
range_read : (m : Bool) (acc : List (ℕ × ℕ)) (a b c : ℕ) (cs : List ℕ) → (b == 0x5d) ≡ false → glob_from (Inside m Within acc (Some a)) (0x2d ∷ b ∷ c ∷ cs) ≡ glob_from (Inside m Within ((a, b) ∷ acc) None) (c ∷ cs)
range_read m acc a b c cs last = rw last refl

-- a whole range within a set
range_within : (m : Bool) (acc : List (ℕ × ℕ)) (r : ℕ × ℕ) (rest : List ℕ) → IsWritable r → glob_from (Inside m Within acc None) (r.0 ∷ 0x2d ∷ r.1 ∷ rest) ≡ glob_from (Inside m Within ((r.0, r.1) ∷ (r.0, r.0) ∷ acc) None) rest
range_within m acc r rest w = rw (w.first, w.last) refl

-- ranges up to the end
ranges_within : (m : Bool) (ranges acc : List (ℕ × ℕ)) → AreWritable ranges → glob_from (Inside m Within acc None) (rest_of ranges) ≡ One (Member m (members ranges acc)) ∷ []
ranges_within m [] acc w = refl
ranges_within m (r ∷ ranges) acc w = range_within m acc r (rest_of ranges) w.0 ∙ ranges_within m ranges ((r.0, r.1) ∷ (r.0, r.0) ∷ acc) w.1

-- the first range
first_opened : (r : ℕ × ℕ) (rest : List ℕ) → IsWritable r → (r.0 == 0x5e) ≡ false → glob_from (Inside true Opened [] None) (r.0 ∷ 0x2d ∷ r.1 ∷ rest) ≡ glob_from (Inside true Within ((r.0, r.1) ∷ (r.0, r.0) ∷ []) None) rest
first_opened r rest w plain = rw (w.first, w.last, plain) refl

first_negated : (r : ℕ × ℕ) (rest : List ℕ) → IsWritable r → glob_from (Inside false Negated [] None) (r.0 ∷ 0x2d ∷ r.1 ∷ rest) ≡ glob_from (Inside false Within ((r.0, r.1) ∷ (r.0, r.0) ∷ []) None) rest
first_negated r rest w = rw (w.first, w.last) refl

set_read : (r : ℕ × ℕ) (ranges : List (ℕ × ℕ)) → AreWritable (r ∷ ranges) → (r.0 == 0x5e) ≡ false → glob_from Outside (set_of (r ∷ ranges)) ≡ One (Member true (members (r ∷ ranges) [])) ∷ []
set_read r ranges w plain = first_opened r (rest_of ranges) w.0 plain ∙ ranges_within true ranges ((r.0, r.1) ∷ (r.0, r.0) ∷ []) w.1

other_set_read : (r : ℕ × ℕ) (ranges : List (ℕ × ℕ)) → AreWritable (r ∷ ranges) → glob_from Outside (other_set_of (r ∷ ranges)) ≡ One (Member false (members (r ∷ ranges) [])) ∷ []
other_set_read r ranges w = first_negated r (rest_of ranges) w.0 ∙ ranges_within false ranges ((r.0, r.1) ∷ (r.0, r.0) ∷ []) w.1

-- ---- what the members are

-- the first character of a range is one of the range
begins : (c : ℕ) (r : ℕ × ℕ) (x : Bool) → r.0 ≤ r.1 → (in_range c (r.0, r.1) || (in_range c (r.0, r.0) || x)) ≡ (in_range c r || x)
begins c r x le = grind (arith, nat_tests)

members_are : (c : ℕ) (ranges acc : List (ℕ × ℕ)) → AreWritable ranges → list_any (in_range c) (members ranges acc) ≡ (list_any (in_range c) ranges || list_any (in_range c) acc)
members_are c [] acc w = refl
members_are c (r ∷ ranges) acc w =
    members_are c ranges ((r.0, r.1) ∷ (r.0, r.0) ∷ acc) w.1
    ∙ ap (λ b. list_any (in_range c) ranges || b) (begins c r (list_any (in_range c) acc) w.0.ordered)
    ∙ swap (list_any (in_range c) ranges) (in_range c r) (list_any (in_range c) acc)
  where
    swap : (a b d : Bool) → (a || (b || d)) ≡ ((b || a) || d)
    swap true true d = refl
    swap true false d = refl
    swap false true d = refl
    swap false false d = refl

-- ---- what is matched

one_part : (t : Test) (c : ℕ) → matches same_char (One t ∷ []) (c ∷ []) ≡ passes same_char t c
one_part t c = by (passes same_char t c)
  where
    by : (b : Bool) → (b && true) ≡ b
    by true = refl
    by false = refl

pub set_matches : (r : ℕ × ℕ) (ranges : List (ℕ × ℕ)) (c : ℕ) → AreWritable (r ∷ ranges) → (r.0 == 0x5e) ≡ false → is_glob (set_of (r ∷ ranges)) (c ∷ []) ≡ list_any (in_range c) (r ∷ ranges)
unfolding is_glob
set_matches r ranges c w plain =
    ap (λ parts. matches same_char parts (c ∷ [])) (set_read r ranges w plain) ∙ one_part (Member true (members (r ∷ ranges) [])) c ∙ members_are c (r ∷ ranges) [] w ∙ or-false (list_any (in_range c) (r ∷ ranges))

pub other_set_matches : (r : ℕ × ℕ) (ranges : List (ℕ × ℕ)) (c : ℕ) → AreWritable (r ∷ ranges) → is_glob (other_set_of (r ∷ ranges)) (c ∷ []) ≡ not (list_any (in_range c) (r ∷ ranges))
unfolding is_glob
other_set_matches r ranges c w =
    ap (λ parts. matches same_char parts (c ∷ [])) (other_set_read r ranges w) ∙ one_part (Member false (members (r ∷ ranges) [])) c ∙ ap not (members_are c (r ∷ ranges) [] w ∙ or-false (list_any (in_range c) (r ∷ ranges)))

-- one test passes one character
one_alone : (t : Test) (text : List ℕ) → matches same_char (One t ∷ []) text ≡ true → length text ≡ 1
one_alone t [] e = absurd (cc)
one_alone t (c ∷ []) e = refl
one_alone t (c ∷ d ∷ cs) e = by (passes same_char t c) e
  where
    by : (b : Bool) → (b && false) ≡ true → length (c ∷ d ∷ cs) ≡ 1
    by true f = absurd (cc)
    by false f = absurd (cc)

pub set_is_one : (r : ℕ × ℕ) (ranges : List (ℕ × ℕ)) (text : List ℕ) → AreWritable (r ∷ ranges) → (r.0 == 0x5e) ≡ false → is_glob (set_of (r ∷ ranges)) text ≡ true → length text ≡ 1
unfolding is_glob
set_is_one r ranges text w plain e = one_alone (Member true (members (r ∷ ranges) [])) text (sym (ap (λ parts. matches same_char parts text) (set_read r ranges w plain)) ∙ e)

pub other_set_is_one : (r : ℕ × ℕ) (ranges : List (ℕ × ℕ)) (text : List ℕ) → AreWritable (r ∷ ranges) → is_glob (other_set_of (r ∷ ranges)) text ≡ true → length text ≡ 1
unfolding is_glob
other_set_is_one r ranges text w e = one_alone (Member false (members (r ∷ ranges) [])) text (sym (ap (λ parts. matches same_char parts text) (other_set_read r ranges w)) ∙ e)
