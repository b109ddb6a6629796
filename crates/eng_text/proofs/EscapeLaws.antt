-- A text written as a pattern matches that text alone: in LIKE but for the case of ASCII letters.
use Rattle.std.proofs.Common.{◌≡◌, ℕ, Bool, true, false, ◌||◌, ◌==◌, List, [], ◌∷◌, map, Some, refl, sym, ap, ◌∙◌, inl, inr, arith}
use Rattle.std.proofs.lemmas.Bool.{and_from, and_parts, cases_Bool, eq-eqb, eqb-false, eqb-true, false≢true, ne_eqb, or_cases, or_parts}
use Rattle.std.proofs.lemmas.Bool.Decides.{nat_tests}
use Rattle.std.specs.Char.{to_ascii_lowercase}
use Rattle.eng_text.specs.Patterns.{Test, Exactly, Member, Part, One, Outside, Inside, Within, backslash, escaped, glob_escaped, glob_from, in_range, is_glob, is_like, like_parts, matches, passes, percent, same_char, same_folded, underscore}
use Rattle.eng_text.specs.Texts.{folded}
use Rattle.eng_text.proofs.LikeLaws.{like_parts-plain}

-- the parts of a text are one test for each of its characters
module _ (same : ℕ → ℕ → Bool) (key : ℕ → ℕ) (parts : List ℕ → List Part) (none : parts [] ≡ []) (more : (c : ℕ) (cs : List ℕ) → (test : Test) × (parts (c ∷ cs) ≡ One test ∷ parts cs) × ((d : ℕ) → passes same test d ≡ (key c == key d))) where
  matches_only : (text other : List ℕ) → matches same (parts text) other ≡ true → map key other ≡ map key text
  matches_only [] [] h = refl
  matches_only [] (d ∷ ds) h = absurd (false≢true (rw none at h))
  matches_only (c ∷ cs) [] h = absurd (false≢true (rw (more c cs).1 at h))
  matches_only (c ∷ cs) (d ∷ ds) h =
      let both = and_parts (passes same (more c cs).0 d) (matches same (parts cs) ds) (rw (more c cs).1 at h) in
      let same_key : key c ≡ key d = eqb-true (key c) (key d) (sym ((more c cs).2 d) ∙ both.0) in
      let rest = matches_only cs ds both.1 in
      cc

  matches_each : (text other : List ℕ) → map key other ≡ map key text → matches same (parts text) other ≡ true
  matches_each [] [] is = rw none refl
  matches_each [] (d ∷ ds) is = absurd (cc)
  matches_each (c ∷ cs) [] is = absurd (cc)
  matches_each (c ∷ cs) (d ∷ ds) is =
      let same_key : key c ≡ key d = cc in
      let rest : map key ds ≡ map key cs = cc in
      rw (more c cs).1 (and_from _ _ ((more c cs).2 d ∙ eq-eqb (key c) (key d) same_key) (matches_each cs ds rest))

-- ---- LIKE

like_more : (c : ℕ) (cs : List ℕ) → (test : Test) × (like_parts (Some backslash) (escaped (c ∷ cs)) ≡ One test ∷ like_parts (Some backslash) (escaped cs)) × ((d : ℕ) → passes same_folded test d ≡ (to_ascii_lowercase c == to_ascii_lowercase d))
like_more c cs =
    elim (cases_Bool (c == percent || c == underscore || c == backslash)) [
      | inl special ↦ (Exactly c, rw special refl, λ d. refl)
      | inr plain ↦
          let parts = or_parts (c == percent || c == underscore) _ plain in
          let runs = or_parts (c == percent) _ parts.0 in
          (Exactly c, rw (plain, like_parts-plain (Some backslash) c (escaped cs) (ne_eqb backslash c (λ e. eqb-false c backslash parts.1 (sym e))), runs.0, runs.1) refl, λ d. refl)
    ]

pub escaped_matches_only : (text other : List ℕ) → is_like (Some backslash) (escaped text) other ≡ true → folded other ≡ folded text
unfolding is_like
escaped_matches_only = matches_only same_folded to_ascii_lowercase (λ t. like_parts (Some backslash) (escaped t)) refl like_more

pub escaped_matches_each : (text other : List ℕ) → folded other ≡ folded text → is_like (Some backslash) (escaped text) other ≡ true
unfolding is_like
escaped_matches_each = matches_each same_folded to_ascii_lowercase (λ t. like_parts (Some backslash) (escaped t)) refl like_more

pub escaped_matches : (text : List ℕ) → is_like (Some backslash) (escaped text) text ≡ true
escaped_matches text = escaped_matches_each text text refl

-- ---- GLOB

-- a set of one character
set_of_one : (c : ℕ) (rest : List ℕ) → glob_from (Inside true Within ((c, c) ∷ []) (Some c)) (0x5d ∷ rest) ≡ One (Member true ((c, c) ∷ [])) ∷ glob_from Outside rest
set_of_one c [] = refl
set_of_one c (d ∷ rest) = refl

takes_one : (c d : ℕ) → (in_range d (c, c) || false) ≡ (c == d)
takes_one c d = grind (arith, nat_tests)

-- `*`, `?` or `[`
one_of_three : (c : ℕ) (rest : List ℕ) → (c == 0x2a || c == 0x3f || c == 0x5b) ≡ true → glob_from Outside (0x5b ∷ c ∷ 0x5d ∷ rest) ≡ One (Member true ((c, c) ∷ [])) ∷ glob_from Outside rest
one_of_three c rest is =
    elim (or_cases (c == 0x2a || c == 0x3f) _ is) [
      | inl front ↦ elim (or_cases (c == 0x2a) _ front) [
        | inl star ↦ rw (eqb-true c 0x2a star) (set_of_one 0x2a rest)
        | inr mark ↦ rw (eqb-true c 0x3f mark) (set_of_one 0x3f rest)
      ]
      | inr bracket ↦ rw (eqb-true c 0x5b bracket) (set_of_one 0x5b rest)
    ]

glob_more : (c : ℕ) (cs : List ℕ) → (test : Test) × (glob_from Outside (glob_escaped (c ∷ cs)) ≡ One test ∷ glob_from Outside (glob_escaped cs)) × ((d : ℕ) → passes same_char test d ≡ (c == d))
glob_more c cs =
    elim (cases_Bool (c == 0x2a || c == 0x3f || c == 0x5b)) [
      | inl special ↦ (Member true ((c, c) ∷ []), rw special (one_of_three c (glob_escaped cs) special), takes_one c)
      | inr plain ↦
          let parts = or_parts (c == 0x2a || c == 0x3f) _ plain in
          let runs = or_parts (c == 0x2a) _ parts.0 in
          (Exactly c, rw (plain, parts.1, runs.0, runs.1) refl, λ d. refl)
    ]

map_itself : (cs : List ℕ) → map (λ c. c) cs ≡ cs
map_itself [] = refl
map_itself (c ∷ cs) = ap (λ ds. c ∷ ds) (map_itself cs)

pub glob_escaped_matches : (text : List ℕ) → is_glob (glob_escaped text) text ≡ true
unfolding is_glob
glob_escaped_matches text = matches_each same_char (λ c. c) (λ t. glob_from Outside (glob_escaped t)) refl glob_more text text refl

pub glob_escaped_matches_only : (text other : List ℕ) → is_glob (glob_escaped text) other ≡ true → other ≡ text
unfolding is_glob
glob_escaped_matches_only text other h = sym (map_itself other) ∙ matches_only same_char (λ c. c) (λ t. glob_from Outside (glob_escaped t)) refl glob_more text other h ∙ map_itself text
