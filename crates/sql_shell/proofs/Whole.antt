-- A whole script: its outcomes, its status, and the bytes that the source tells.
use Rattle.std.proofs.Common.{◌≡◌, ◌≢◌, ◌≤◌, ◌<◌, ◌+◌, ◌⊎◌, inl, inr, ℕ, length, Bool, true, false, ◌||◌, List, ◌++◌, Option, Some, None, IfSome, refl, sym, ◌∙◌, ap, ap₂, subst, append-nil, length-append, arith}
use Rattle.std.proofs.Math.Nat.{eq-or-lt_of_le}
use Rattle.std.specs.List.{list_any}
use Rattle.std.specs.Prelude.{cond}
use Rattle.std.specs.Io.KnownBytes.{Appends, Consumes, IsAtEnd}
use Rattle.eng_value.specs.HostMeanings.{HostMeanings}
use Rattle.eng_value.specs.declared.limits.TheConstants.{MAX_SCRIPT_BYTES}
use Rattle.sql_meaning.specs.declared.script.Ending.{Ending}
use Rattle.sql_meaning.specs.declared.script.Ending.TheVariants.{End, ReadFault, TooLong}
use Rattle.sql_meaning.specs.declared.script.Failure.TheVariants.{NotUtf8}
use Rattle.sql_meaning.specs.declared.script.Options.{Options}
use Rattle.sql_meaning.specs.Due.{CutShort, IsRead, IsScript, IsFrontOfScript, MayEnd}
use Rattle.sql_meaning.specs.Parts.{Part, bad_character, bad_parts, characters, looked_at, parts_from, parts_of, runs_pending}
use Rattle.sql_meaning.specs.Script.{AreOutcomes, Came, ends, error_line, is_failed, lines_of, status_by, status_of}
use Rattle.sql_meaning.specs.World.{State, new_state}
use Rattle.sql_shell.specs.Courses.{ended_in, failed_in, status_in}
use Rattle.sql_shell.specs.declared.course.Course.{Course}
use Rattle.sql_shell.specs.declared.course.Course.TheVariants.{Passed, Failed, Ended}
use Rattle.sql_shell.specs.Running.{Ran, RanPartly}
use Rattle.sql_meaning.proofs.ScriptLaws.{AreOutcomes-some}
use Rattle.sql_shell.proofs.Due.{same_read, cut_at_start}
use Rattle.sql_shell.proofs.Running.{partly_behind, partly_more, ran_append, ran_bad, ran_bad_partly, ran_ended}

-- ---- the status

status_with : (options : Options) (ending : Ending) (course : Course) (os : List Came) → failed_in course ≡ list_any is_failed os → ended_in course ≡ list_any (ends options) os → status_in ending course ≡ status_by options ending os
unfolding status_by
status_with options ending Passed os f e = ap₂ (λ x y. cond x 1 (status_of ending y)) e f
status_with options ending Failed os f e = ap₂ (λ x y. cond x 1 (status_of ending y)) e f
status_with options ending Ended os f e = ap₂ (λ x y. cond x 1 (status_of ending y)) e f

pub not_two : (ending : Ending) (course : Course) → status_in ending course ≢ 2
not_two End Passed e = absurd (omega (arith, e))
not_two ReadFault Passed e = absurd (omega (arith, e))
not_two TooLong Passed e = absurd (omega (arith, e))
not_two End Failed e = absurd (omega (arith, e))
not_two ReadFault Failed e = absurd (omega (arith, e))
not_two TooLong Failed e = absurd (omega (arith, e))
not_two ending Ended e = absurd (omega (arith, e))

pub five_at_most : (ending : Ending) (course : Course) → status_in ending course ≤ 5
five_at_most End Passed = omega arith
five_at_most ReadFault Passed = omega arith
five_at_most TooLong Passed = omega arith
five_at_most End Failed = omega arith
five_at_most ReadFault Failed = omega arith
five_at_most TooLong Failed = omega arith
five_at_most ending Ended = omega arith

-- status 0 tells of the end
pub zero-end : (ending : Ending) (course : Course) (bytes : List ℕ) (left : Option (List ℕ)) → MayEnd bytes left ending → status_in ending course ≡ 0 → IsAtEnd left
zero-end End course bytes left may e = may.0
zero-end ReadFault Passed bytes left may e = absurd (omega (arith, e))
zero-end ReadFault Failed bytes left may e = absurd (omega (arith, e))
zero-end ReadFault Ended bytes left may e = absurd (omega (arith, e))
zero-end TooLong Passed bytes left may e = absurd (omega (arith, e))
zero-end TooLong Failed bytes left may e = absurd (omega (arith, e))
zero-end TooLong Ended bytes left may e = absurd (omega (arith, e))

-- and 3 of a read fault
pub three-fault : (ending : Ending) (course : Course) → status_in ending course ≡ 3 → ending ≡ ReadFault
three-fault ReadFault course e = refl
three-fault End Passed e = absurd (omega (arith, e))
three-fault End Failed e = absurd (omega (arith, e))
three-fault End Ended e = absurd (omega (arith, e))
three-fault TooLong Passed e = absurd (omega (arith, e))
three-fault TooLong Failed e = absurd (omega (arith, e))
three-fault TooLong Ended e = absurd (omega (arith, e))

-- ---- the parts of a script

module _ (h : HostMeanings) (options : Options) (bytes : List ℕ) (ending : Ending) (seen text : List ℕ) (bad : Option ℕ) (runs : Bool) (seen_is : seen ≡ looked_at ending bytes) (text_is : text ≡ characters seen)
    (bad_is : bad ≡ bad_character ending seen) (runs_is : runs ≡ runs_pending ending bad) where
  abbrev front : List Part
  front = parts_from runs true 0 text

  parts_are : front ++ bad_parts bad ≡ parts_of bytes ending
  unfolding parts_of
  parts_are =
      ap₂ (λ r t. parts_from r true 0 t ++ bad_parts bad) runs_is text_is
      ∙ (ap (λ b. parts_from (runs_pending ending b) true 0 (characters seen) ++ bad_parts b) bad_is
      ∙ ap (λ s. parts_from (runs_pending ending (bad_character ending s)) true 0 (characters s) ++ bad_parts (bad_character ending s)) seen_is)

  script_is : (u v : Option (List ℕ)) (a b : ℕ) (course : Course) (next : State) → Ran h options new_state next (parts_of bytes ending) u v a b (failed_in course) (ended_in course) → IsScript h options bytes ending u v a b (status_in ending course)
  unfolding AreOutcomes
  script_is u v a b course next p = record {
    came = p.came;
    outcomes = p.outcomes;
    lines = p.lines;
    ran = p.ran;
    result = status_with options ending course p.came p.failures p.endings;
  }

  module _ (u v : Option (List ℕ)) (a b : ℕ) where
    -- an error line ended the script
    pub script_ended : (course : Course) (next : State) → ended_in course ≡ true → Ran h options new_state next front u v a b (failed_in course) (ended_in course) → IsScript h options bytes ending u v a b (status_in ending course)
    script_ended course next e p =
        let q = subst (λ x. Ran h options new_state next front u v a b (failed_in course) x) e p in
        let all = ran_ended h options new_state next front (bad_parts bad) u v a b (failed_in course) q in
        script_is u v a b course next (subst (λ ps. Ran h options new_state next ps u v a b (failed_in course) (ended_in course)) parts_are
        (subst (λ x. Ran h options new_state next (front ++ bad_parts bad) u v a b (failed_in course) x) (sym e) all))

    -- there is no bad character
    pub script_whole : (course : Course) (next : State) → bad ≡ None → Ran h options new_state next front u v a b (failed_in course) (ended_in course) → IsScript h options bytes ending u v a b (status_in ending course)
    script_whole course next none p =
        let same : front ≡ parts_of bytes ending = sym (append-nil front) ∙ (ap (λ x. front ++ bad_parts x) (sym none) ∙ parts_are) in
        script_is u v a b course next (subst (λ ps. Ran h options new_state next ps u v a b (failed_in course) (ended_in course)) same p)

    pub script_part : RanPartly h options new_state front u v a b → RanPartly h options new_state (parts_of bytes ending) u v a b
    script_part p = subst (λ ps. RanPartly h options new_state ps u v a b) parts_are (partly_more h options new_state front (bad_parts bad) u v a b p)

    module _ (w : Option (List ℕ)) (course : Course) (next : State) (place : ℕ) (bad_at : bad ≡ Some place) (on : ended_in course ≡ false) (p : Ran h options new_state next front u v a b (failed_in course) (ended_in course)) where
      running : Ran h options new_state next front u v a b (failed_in course) false
      running = subst (λ x. Ran h options new_state next front u v a b (failed_in course) x) on p

      or-true : (x : Bool) → (x || true) ≡ true
      or-true true = refl
      or-true false = refl

      -- its error line is written
      pub script_bad : Appends v w (error_line (NotUtf8 place)) → IsScript h options bytes ending u w a b (status_in ending Ended)
      script_bad written =
          let all = ran_append h options new_state next front (bad_parts (Some place)) u v w a b b (failed_in course) running next true true (ran_bad h options next v w b place written) in
          script_is u w a b Ended next (subst (λ ps. Ran h options new_state next ps u w a b true true) (ap (λ x. front ++ bad_parts x) (sym bad_at) ∙ parts_are)
          (subst (λ x. Ran h options new_state next (front ++ bad_parts (Some place)) u w a b x true) (or-true (failed_in course)) all))

      pub script_bad_part : CutShort v w (error_line (NotUtf8 place)) → RanPartly h options new_state (parts_of bytes ending) u w a b
      script_bad_part written =
          let all = partly_behind h options new_state next front (bad_parts (Some place)) u v w a b b (failed_in course) running (ran_bad_partly h options next v w b place written) in
          subst (λ ps. RanPartly h options new_state ps u w a b) (ap (λ x. front ++ bad_parts x) (sym bad_at) ∙ parts_are) all

-- ---- the bytes that the source tells

module _ (h : HostMeanings) (options : Options) (left left' old new : Option (List ℕ)) (read slice bytes : List ℕ) (consumed : Consumes left left' read) (same : slice ≡ read) (told : IsRead left left' bytes) (ending : Ending) (may : MayEnd read left' ending) where
  these : slice ≡ bytes
  these = same ∙ same_read left left' read bytes consumed told

  may_end : MayEnd bytes left' ending
  may_end = subst (λ bs. MayEnd bs left' ending) (sym same ∙ these) may

  -- what was run is the script of the bytes that the source tells
  pub told_whole : (a b status code : ℕ) → status ≡ code → IsScript h options slice ending old new a b code → (k : Ending) × MayEnd bytes left' k × IsScript h options bytes k old new a b status
  told_whole a b status code is p = (ending, may_end, subst (λ bs. IsScript h options bs ending old new a b status) these (subst (λ n. IsScript h options slice ending old new a b n) (sym is) p))

  pub told_partly : (a b : ℕ) → RanPartly h options new_state (parts_of slice ending) old new a b → IsFrontOfScript h options bytes left' old new a b
  unfolding AreOutcomes
  told_partly a b p =
      let q : RanPartly h options new_state (parts_of bytes ending) old new a b = subst (λ bs. RanPartly h options new_state (parts_of bs ending) old new a b) these p in
      record { ending = ending; may_end = may_end; came = q.came; outcomes = q.outcomes; front = q.front; ran = q.ran }

-- nothing was written yet
pub told_nothing : (h : HostMeanings) (options : Options) (bytes : List ℕ) (left w : Option (List ℕ)) (n : ℕ) → length bytes ≤ MAX_SCRIPT_BYTES + 1 → IsFrontOfScript h options bytes left w w n n
told_nothing h options bytes left w n few = by (eq-or-lt_of_le few)
  where
    by : (length bytes ≡ MAX_SCRIPT_BYTES + 1) ⊎ (length bytes < MAX_SCRIPT_BYTES + 1) → IsFrontOfScript h options bytes left w w n n
    by (inr short) =
        let os = AreOutcomes-some h options bytes ReadFault in
        record { ending = ReadFault; may_end = omega (arith, short); came = os.0; outcomes = os.1; front = cut_at_start w (lines_of os.0); ran = omega arith }
    by (inl long) =
        let os = AreOutcomes-some h options bytes TooLong in
        record { ending = TooLong; may_end = long; came = os.0; outcomes = os.1; front = cut_at_start w (lines_of os.0); ran = omega arith }

-- a source that is as it was gave no byte
pub nothing_told : (w : Option (List ℕ)) (bytes : List ℕ) → IsRead w w bytes → length bytes ≡ 0
nothing_told None bytes told = absurd told
nothing_told (Some xs) bytes told = omega (arith, ap length told, length-append bytes xs)

-- ---- the words

pub for_some : {X : Type 0} (P : X → Type 0) (o : Option X) → ((x : X) → P x) → IfSome o P
for_some P None p = tt
for_some P (Some x) p = p x
