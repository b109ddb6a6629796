-- The parts of a script, from the front.
use Rattle.std.proofs.Common.{Bor, ◌≡◌, ◌≢◌, ℕ, suc, Bool, true, false, cond, List, [], ◌∷◌, ◌++◌, Option, Some, None, refl, sym, ◌∙◌, ap, subst, take, drop, length, length-drop, ◌<◌, ◌≤◌, ◌+◌, ◌-◌, ◌==◌, ◌&&◌, arith}
use Rattle.std.specs.Prelude.{MatchOption, if◌then◌else◌, is_some, not, slice_index, unwrap_or}
use Rattle.std.proofs.lemmas.Bool.{eqb-true}
use Rattle.std.proofs.lemmas.List.{drop_all, take_all}
use Rattle.std.proofs.lemmas.Str.{utf8_valid_len-IsUtf8}
use Rattle.std.specs.Str.{IsUtf8}
use Rattle.std.specs.Str.Lossy.{utf8_error_len, utf8_valid_len}
use Rattle.sql_lex.specs.Cutting.{blank_width}
use Rattle.sql_lex.specs.Pieces.{begins_with}
use Rattle.sql_meaning.specs.declared.script.Ending.{Ending}
use Rattle.sql_meaning.specs.declared.script.Ending.TheVariants.{End, ReadFault, TooLong}
use Rattle.sql_meaning.specs.Parts.{Part, bad_character, characters, end_of, may_go_on, part_here, part_of, part_up_to, parts_from, width_here, width_up_to, without_return}
use Rattle.sql_meaning.proofs.FrontLaws.{blank_here, cut_is, token_here}
use Rattle.sql_shell.specs.Cuts.{goes_on}

-- ---- what the code finds there

pub some_length : (text : List ℕ) → text ≢ [] → 0 < length text
some_length [] some = absurd (some refl)
some_length (b ∷ text) some = omega arith

module _ (runs fresh line : Bool) (text : List ℕ) (part : List Part) (fresh' : Bool) (rest : List ℕ) (some : text ≢ []) where
  pub cut_blank : (width : ℕ) → width ≡ blank_width text → 0 < width → width ≤ length text → part ≡ [] → rest ≡ drop width text → fresh' ≡ (slice_index text (width - 1) == 10)
      → parts_from runs fresh 0 text ≡ part ++ parts_from runs fresh' 0 rest
  cut_blank width is one within part_is rest_is fresh_is =
      let here = blank_here runs (fresh && begins_with 46 text) text (omega (arith, is)) in
      cut_is runs fresh text width part fresh' rest some (here.0 ∙ sym part_is) (here.1 ∙ sym is) one within rest_is fresh_is

  module _ (line_is : line ≡ (fresh && begins_with 46 text)) (blank : blank_width text ≤ 0) where
    here_is : (end : Option ℕ) → end ≡ end_of line text → (part_here runs (fresh && begins_with 46 text) text ≡ part_up_to runs line end text) × (width_here (fresh && begins_with 46 text) text ≡ width_up_to end text)
    here_is end is = subst (λ l. (part_here runs l text ≡ part_up_to runs line end text) × (width_here l text ≡ width_up_to end text)) line_is (token_here runs line text end blank is)

    -- a part with an end
    pub cut_ended : (end : ℕ) → Some end ≡ end_of line text → end < length text → part ≡ part_of line (take end text) → rest ≡ drop (end + 1) text → fresh' ≡ (slice_index text (end + 1 - 1) == 10)
        → parts_from runs fresh 0 text ≡ part ++ parts_from runs fresh' 0 rest
    cut_ended end is within part_is rest_is fresh_is =
        let here = here_is (Some end) is in
        let one : suc end ≡ end + 1 = omega arith in
        cut_is runs fresh text (end + 1) part fresh' rest some (here.0 ∙ sym part_is) (here.1 ∙ one) (omega arith) (omega arith) rest_is fresh_is

    -- the pending part
    pub cut_pending : None ≡ end_of line text → 0 < length text → part ≡ (if runs then part_of line text else []) → rest ≡ drop (length text) text → fresh' ≡ (slice_index text (length text - 1) == 10)
        → parts_from runs fresh 0 text ≡ part ++ parts_from runs fresh' 0 rest
    cut_pending is one part_is rest_is fresh_is =
        let here = here_is None is in
        cut_is runs fresh text (length text) part fresh' rest some (here.0 ∙ sym part_is) here.1 one (omega arith) rest_is fresh_is

-- ---- lines

-- the carriage return at the end goes
without_return-of : (front : List ℕ) → without_return (front ++ 13 ∷ []) ≡ front
without_return-of [] = refl
without_return-of (b ∷ []) = refl
without_return-of (b ∷ c ∷ front) = ap (λ line. b ∷ line) (without_return-of (c ∷ front))

no_return : (b : ℕ) → ((front : List ℕ) → b ∷ [] ≢ front ++ 13 ∷ []) → (r : Bool) → (b == 13) ≡ r → cond r [] (b ∷ []) ≡ b ∷ []
no_return b none true e = absurd (none [] (ap (λ x. x ∷ []) (eqb-true b 13 e)))
no_return b none false e = refl

-- a line that has none at its end stays
without_return-none : (line : List ℕ) → ((front : List ℕ) → line ≢ front ++ 13 ∷ []) → without_return line ≡ line
without_return-none [] none = refl
without_return-none (b ∷ []) none = no_return b none (b == 13) refl
without_return-none (b ∷ c ∷ line) none = ap (λ rest. b ∷ rest) (without_return-none (c ∷ line) (λ front e. none (b ∷ front) (ap (λ rest. b ∷ rest) e)))

pub stripped : (line : Bor (List ℕ)) (r : Option (Bor (List ℕ))) → MatchOption r ((front : List ℕ) → line.now ≢ front ++ 13 ∷ []) (λ x. line.now ≡ x.now ++ 13 ∷ []) → (unwrap_or r line).now ≡ without_return line.now
stripped line None none = sym (without_return-none line.now none)
stripped line (Some x) is = sym (ap without_return is ∙ without_return-of x.now)

-- ---- characters

-- whole UTF-8 has no bad character
pub whole-bad : (ending : Ending) (bytes : List ℕ) → IsUtf8 bytes → None ≡ bad_character ending bytes
whole-bad ending bytes utf8 =
    let rest : drop (utf8_valid_len bytes) bytes ≡ [] = ap (λ n. drop n bytes) (utf8_valid_len-IsUtf8 bytes utf8) ∙ drop_all (length bytes) bytes (omega arith) in
    ap (λ r. cond (may_go_on ending r) None (Some (utf8_valid_len bytes))) (sym rest)

pub whole-text : (bytes : List ℕ) → IsUtf8 bytes → bytes ≡ characters bytes
whole-text bytes utf8 = sym (ap (λ n. take n bytes) (utf8_valid_len-IsUtf8 bytes utf8) ∙ take_all (length bytes) bytes (omega arith))

-- behind whole characters, something stands there
may_go_on-some : (ending : Ending) (rest : List ℕ) (fault : Option ℕ) → 0 < length rest → fault ≡ utf8_error_len rest → may_go_on ending rest ≡ goes_on ending fault
may_go_on-some ending [] fault some is = absurd (omega arith)
may_go_on-some End (b ∷ rest) fault some is = refl
may_go_on-some ReadFault (b ∷ rest) fault some is = ap (λ f. not (is_some f)) (sym is)
may_go_on-some TooLong (b ∷ rest) fault some is = ap (λ f. not (is_some f)) (sym is)

pub faulty-bad : (ending : Ending) (bytes : List ℕ) (place : ℕ) (fault bad : Option ℕ) (goes : Bool) → place ≡ utf8_valid_len bytes → place < length bytes → fault ≡ utf8_error_len (drop place bytes) → goes ≡ goes_on ending fault
    → bad ≡ cond goes None (Some place) → bad ≡ bad_character ending bytes
faulty-bad ending bytes place fault bad goes is within fault_is goes_is bad_is =
    let same : may_go_on ending (drop place bytes) ≡ goes = may_go_on-some ending (drop place bytes) fault (omega (arith, length-drop place bytes)) fault_is ∙ sym goes_is in
    bad_is ∙ (ap (λ g. cond g None (Some place)) (sym same) ∙ ap (λ n. cond (may_go_on ending (drop n bytes)) None (Some n)) is)
