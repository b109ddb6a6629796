-- What parts of a script came to, one after another.
use Rattle.std.proofs.Common.{◌≡◌, ◌≤◌, ℕ, ◌+◌, ◌-◌, Bool, true, false, ◌&&◌, ◌||◌, List, [], ◌∷◌, ◌++◌, Option, Some, None, Result, Ok, Err, IfOk, OnOk, ℤ, refl, sym, ◌∙◌, ap, subst, append-nil, append_assoc, length, ◌==◌, arith}
use Rattle.std.specs.List.{list_any}
use Rattle.std.proofs.lemmas.Bool.{eqb-true}
use Rattle.std.proofs.KnownBytes.{Appends-nil, Appends-trans}
use Rattle.std.proofs.lemmas.Grind.{flat_map-append}
use Rattle.std.specs.Io.KnownBytes.{Appends}
use Rattle.eng_value.specs.HostMeanings.{HostMeanings}
use Rattle.eng_value.specs.declared.cause.Cause.{Cause}
use Rattle.eng_value.specs.declared.value.Value.{Value}
use Rattle.sql_meaning.specs.declared.script.Failure.{Failure}
use Rattle.sql_meaning.specs.declared.script.Failure.TheVariants.{NotUtf8}
use Rattle.sql_meaning.specs.declared.script.Options.{Options}
use Rattle.sql_meaning.specs.Due.{Along, CutShort}
use Rattle.sql_meaning.specs.Parts.{Part, Statement, DotLine, BadCharacter, parts_from}
use Rattle.sql_meaning.specs.Runs.{last_state}
use Rattle.sql_meaning.specs.Script.{Came, Come, Follow, PartComes, as_meant, as_named, came_lines, dot_line_came, ends, error_line, failed, is_bad_character, is_failed, lines_of, number_asked, row_of_number}
use Rattle.sql_meaning.specs.Statement.{Outcome, text_outcome}
use Rattle.sql_meaning.specs.Work.{instruction_bound}
use Rattle.sql_meaning.specs.Named.{TextIsTold}
use Rattle.sql_meaning.specs.World.{State, context, new_state}
use Rattle.sql_shell.specs.declared.course.Course.{Course}
use Rattle.sql_shell.specs.Courses.{at_end, ended_in, failed_in}
use Rattle.sql_shell.specs.Running.{Ran, RanPartly}
use Rattle.sql_meaning.proofs.CausedLaws.{text_outcome-named}
use Rattle.sql_meaning.proofs.OutcomeLaws.{Come-append, Come-ended, Come-more, gives_meant, instructions-append, last_state-append, number-next}
use Rattle.sql_shell.proofs.Due.{along_start, along_more, cut_at_start, cut_more, cut_short}

-- ---- lines

lines_of-append : (os ps : List Came) → lines_of (os ++ ps) ≡ lines_of os ++ lines_of ps
unfolding lines_of
lines_of-append os ps = flat_map-append came_lines os ps

lines_of-none : lines_of [] ≡ []
unfolding lines_of
lines_of-none = refl

lines_of-one : (o : Came) → lines_of (o ∷ []) ≡ came_lines o
unfolding lines_of
lines_of-one o = append-nil (came_lines o)

-- a front of them is a front of more
front_of_more : (u v : Option (List ℕ)) (os ps : List Came) → CutShort u v (lines_of os) → CutShort u v (lines_of (os ++ ps))
front_of_more u v os ps p =
    subst (λ all. CutShort u v all) (sym (lines_of-append os ps)) (cut_more u u v (lines_of os) (lines_of ps) (lines_of os ++ lines_of ps) (along_start u (lines_of os ++ lines_of ps)) p)

-- what was written whole, and then a front of the others
front_behind : (u v w : Option (List ℕ)) (os ps : List Came) → Appends u v (lines_of os) → CutShort v w (lines_of ps) → CutShort u w (lines_of (os ++ ps))
front_behind u v w os ps p q =
    let due = lines_of os ++ lines_of ps in
    let rest = along_more u u v (lines_of os) (lines_of ps) due (along_start u due) p in
    let all : lines_of ps ≡ lines_of ps ++ [] = sym (append-nil (lines_of ps)) in
    subst (λ xs. CutShort u w xs) (sym (lines_of-append os ps)) (cut_more u v w (lines_of ps) [] due (subst (λ r. Along u v r due) all rest) q)

-- ---- whether there is an error line

or_assoc : (a b c : Bool) → (a || (b || c)) ≡ ((a || b) || c)
or_assoc true b c = refl
or_assoc false b c = refl

any-append : (test : Came → Bool) (os ps : List Came) → list_any test (os ++ ps) ≡ (list_any test os || list_any test ps)
any-append test [] ps = refl
any-append test (o ∷ os) ps = ap (λ b. test o || b) (any-append test os ps) ∙ or_assoc (test o) (list_any test os) (list_any test ps)

or-false : (b : Bool) → (b || false) ≡ b
or-false true = refl
or-false false = refl

pub and-false : (b : Bool) → (b && false) ≡ false
and-false true = refl
and-false false = refl

-- ---- no part

pub ran_none : (h : HostMeanings) (options : Options) (s : State) (u : Option (List ℕ)) (n : ℕ) → Ran h options s s [] u u n n false false
ran_none h options s u n = record {
  came = [];
  outcomes = refl;
  state_is = refl;
  lines = subst (λ all. Appends u u all) (sym lines_of-none) (Appends-nil u);
  failures = refl;
  endings = refl;
  ran = omega arith;
}

-- with no error line no script ends
pub ran_nothing : (h : HostMeanings) (options : Options) (s : State) (u : Option (List ℕ)) (n : ℕ) → Ran h options s s [] u u n n false (options.bail && false)
ran_nothing h options s u n = subst (λ x. Ran h options s s [] u u n n false x) (sym (and-false options.bail)) (ran_none h options s u n)

-- ---- one part

follow_none : (h : HostMeanings) (options : Options) (s : State) (e : Bool) → Follow e [] (Come h options s [] [])
follow_none h options s true = refl
follow_none h options s false = refl

module _ (h : HostMeanings) (options : Options) (s : State) (part : Part) (o : Came) (comes : PartComes h options.budget s part o) where
  alone : Come h options s (part ∷ []) (o ∷ [])
  alone = (comes, follow_none h options o.next (ends options o))

  -- its lines were written
  pub ran_one : (u v : Option (List ℕ)) (before after : ℕ) (piece : List ℕ) (has_failed has_ended : Bool) → piece ≡ came_lines o → Appends u v piece → after ≡ before + o.ran → has_failed ≡ is_failed o → has_ended ≡ ends options o
      → Ran h options s o.next (part ∷ []) u v before after has_failed has_ended
  ran_one u v before after piece has_failed has_ended due written ticks fails ends_is = record {
    came = o ∷ [];
    outcomes = alone;
    state_is = refl;
    lines = subst (λ all. Appends u v all) (due ∙ sym (lines_of-one o)) written;
    failures = fails ∙ sym (or-false (is_failed o));
    endings = ends_is ∙ sym (or-false (ends options o));
    ran = omega arith;
  }

  -- a front of them was
  pub ran_one_partly : (u v : Option (List ℕ)) (before after : ℕ) (piece : List ℕ) → piece ≡ came_lines o → CutShort u v piece → after ≤ before + o.ran → RanPartly h options s (part ∷ []) u v before after
  ran_one_partly u v before after piece due written ticks = record {
    came = o ∷ [];
    outcomes = alone;
    front = subst (λ all. CutShort u v all) (due ∙ sym (lines_of-one o)) written;
    ran = omega arith;
  }

-- a failure that is no bad character ends the script where each error line does
pub came-ends : (options : Options) (o : Came) → is_bad_character o.failure ≡ false → (options.bail && is_failed o) ≡ ends options o
came-ends options o good = sym (ap (λ b. (options.bail && is_failed o) || b) good ∙ or-false (options.bail && is_failed o))

-- nothing of its lines was written
unwritten : (m : Outcome) (why : Option Cause) (rows : List (List Value)) (ran : ℕ) → (as_named m why rows ran).ran ≡ ran
unwritten m None rows ran = refl
unwritten m (Some why) rows ran = refl

pub ran_unwritten : (h : HostMeanings) (options : Options) (s : State) (text : List ℕ) (u : Option (List ℕ)) (before after : ℕ) → before ≤ after → after ≤ before + options.budget → (TextIsTold (context h s []) text → after ≤ before + instruction_bound (context h s []) text)
    → RanPartly h options s (Statement text ∷ []) u u before after
ran_unwritten h options s text u before after later within few =
    let ctx = context h s [] in
    let m = text_outcome ctx text in
    let n = text_outcome-named ctx text in
    let o : Came = as_named m n.0 m.given (after - before) in
    let ran_is = unwritten m n.0 m.given (after - before) in
    ran_one_partly h options s (Statement text) o (λ told. let most = few told in as_meant n.0 m.given (after - before) n.1 (gives_meant m m.given refl) (omega arith) (omega arith)) u u before after (came_lines o) refl (cut_at_start u (came_lines o)) (omega (arith, ran_is, later))

-- a part that is an error line alone
error_alone : (why : Failure) (s : State) → error_line why ≡ came_lines (failed s why)
error_alone why s = refl

module _ (h : HostMeanings) (options : Options) (s : State) (u v : Option (List ℕ)) (n : ℕ) where
  number-good : (k : Option ℤ) → is_bad_character (row_of_number s k).failure ≡ false
  number-good None = refl
  number-good (Some k) = refl

  number-ran : (k : Option ℤ) → (row_of_number s k).ran ≡ 0
  number-ran None = refl
  number-ran (Some k) = refl

  ran_dot_line_as : (line : List ℕ) (has_failed : Bool) → has_failed ≡ is_failed (dot_line_came s line) → Appends u v (came_lines (dot_line_came s line)) → Ran h options s s (DotLine line ∷ []) u v n n has_failed (options.bail && has_failed)
  ran_dot_line_as line has_failed is written =
      let k = number_asked s line in
      let o = dot_line_came s line in
      subst (λ next. Ran h options s next (DotLine line ∷ []) u v n n has_failed (options.bail && has_failed)) (number-next s k)
      (ran_one h options s (DotLine line) o refl u v n n (came_lines o) has_failed (options.bail && has_failed) refl written (omega (arith, number-ran k)) is (ap (λ b. options.bail && b) is ∙ came-ends options o (number-good k)))

  pub ran_dot_line : {E : Type 0} (line : List ℕ) (r : Result Bool E) → IfOk r (λ has_failed. has_failed ≡ is_failed (dot_line_came s line)) → OnOk r (Appends u v (came_lines (dot_line_came s line)))
      → IfOk r (λ has_failed. Ran h options s s (DotLine line ∷ []) u v n n has_failed (options.bail && has_failed))
  ran_dot_line line (Ok has_failed) is written = ran_dot_line_as line has_failed is written
  ran_dot_line line (Err e) is written = tt

  pub ran_dot_line_partly : (line : List ℕ) → CutShort u v (came_lines (dot_line_came s line)) → RanPartly h options s (DotLine line ∷ []) u v n n
  ran_dot_line_partly line written =
      let o = dot_line_came s line in
      ran_one_partly h options s (DotLine line) o refl u v n n (came_lines o) refl written (omega (arith, number-ran (number_asked s line)))

  or-true : (b : Bool) → true ≡ (b || true)
  or-true true = refl
  or-true false = refl

  pub ran_bad : (place : ℕ) → Appends u v (error_line (NotUtf8 place)) → Ran h options s s (BadCharacter place ∷ []) u v n n true true
  ran_bad place written =
      ran_one h options s (BadCharacter place) (failed s (NotUtf8 place)) refl u v n n (error_line (NotUtf8 place)) true true (error_alone (NotUtf8 place) s) written (omega arith) refl (or-true (options.bail && true))

  pub ran_bad_partly : (place : ℕ) → CutShort u v (error_line (NotUtf8 place)) → RanPartly h options s (BadCharacter place ∷ []) u v n n
  ran_bad_partly place written =
      ran_one_partly h options s (BadCharacter place) (failed s (NotUtf8 place)) refl u v n n (error_line (NotUtf8 place)) (error_alone (NotUtf8 place) s) written (omega arith)

-- ---- parts, and then others

module _ (h : HostMeanings) (options : Options) (s s' : State) (xs ys : List Part) (u v w : Option (List ℕ)) (a b c : ℕ) (failed : Bool) (p : Ran h options s s' xs u v a b failed false) where
  then-come : (os : List Came) → Come h options s' ys os → Come h options s (xs ++ ys) (p.came ++ os)
  then-come os come =
      Come-append h options s xs ys p.came os (sym p.endings) p.outcomes (subst (λ x. Come h options x ys os) p.state_is come)

  pub ran_append : (s'' : State) (failed' ended' : Bool) → Ran h options s' s'' ys v w b c failed' ended' → Ran h options s s'' (xs ++ ys) u w a c (failed || failed') ended'
  ran_append s'' failed' ended' q =
      let sum = instructions-append p.came q.came in
      let first = p.ran in
      let second = q.ran in
      record {
        came = p.came ++ q.came;
        outcomes = then-come q.came q.outcomes;
        state_is = q.state_is ∙ (ap (λ x. last_state x q.came) p.state_is ∙ sym (last_state-append s p.came q.came));
        lines = subst (λ all. Appends u w all) (sym (lines_of-append p.came q.came)) (Appends-trans u v w (lines_of p.came) (lines_of q.came) p.lines q.lines);
        failures = ap (λ x. x || failed') p.failures ∙ (ap (λ x. list_any is_failed p.came || x) q.failures ∙ sym (any-append is_failed p.came q.came));
        endings = q.endings ∙ (ap (λ x. x || list_any (ends options) q.came) p.endings ∙ sym (any-append (ends options) p.came q.came));
        ran = omega arith;
      }

  pub partly_behind : RanPartly h options s' ys v w b c → RanPartly h options s (xs ++ ys) u w a c
  partly_behind q =
      let sum = instructions-append p.came q.came in
      let first = p.ran in
      let second = q.ran in
      record {
        came = p.came ++ q.came;
        outcomes = then-come q.came q.outcomes;
        front = front_behind u v w p.came q.came p.lines q.front;
        ran = omega arith;
      }

-- others that did not run can go on as they mean
pub partly_more : (h : HostMeanings) (options : Options) (s : State) (xs ys : List Part) (u v : Option (List ℕ)) (a b : ℕ) → RanPartly h options s xs u v a b → RanPartly h options s (xs ++ ys) u v a b
partly_more h options s xs ys u v a b p =
    let others = Come-more h options s xs ys p.came p.outcomes in
    let sum = instructions-append p.came others.0 in
    let first = p.ran in
    record {
      came = p.came ++ others.0;
      outcomes = others.1;
      front = front_of_more u v p.came others.0 p.front;
      ran = omega arith;
    }

-- where the script ended, the others do not run
pub ran_ended : (h : HostMeanings) (options : Options) (s s' : State) (xs ys : List Part) (u v : Option (List ℕ)) (a b : ℕ) (failed : Bool) → Ran h options s s' xs u v a b failed true → Ran h options s s' (xs ++ ys) u v a b failed true
ran_ended h options s s' xs ys u v a b failed p = record {
  came = p.came;
  outcomes = Come-ended h options s xs ys p.came (sym p.endings) p.outcomes;
  state_is = p.state_is;
  lines = p.lines;
  failures = p.failures;
  endings = p.endings;
  ran = p.ran;
}

pub ran_partly : (h : HostMeanings) (options : Options) (s next : State) (parts : List Part) (u v : Option (List ℕ)) (a b : ℕ) (failed ended : Bool) → Ran h options s next parts u v a b failed ended → RanPartly h options s parts u v a b
ran_partly h options s next parts u v a b failed ended p =
    let ticks = p.ran in
    record {
      came = p.came;
      outcomes = p.outcomes;
      front = cut_short u v [] (lines_of p.came) (lines_of p.came, p.lines, append-nil (lines_of p.came));
      ran = omega arith;
    }

-- ---- how it went

failed-true : (bail fails : Bool) → (bail && fails) ≡ true → fails ≡ true
failed-true true fails e = e
failed-true false fails e = cc

module _ (h : HostMeanings) (options : Options) (s s' : State) (parts : List Part) (u v : Option (List ℕ)) (a b : ℕ) (fails : Bool) where
  -- an error line ended the script
  pub ran_failed : (options.bail && fails) ≡ true → Ran h options s s' parts u v a b fails (options.bail && fails) → Ran h options s s' parts u v a b true true
  ran_failed e p =
      subst (λ x. Ran h options s s' parts u v a b x true) (failed-true options.bail fails e) (subst (λ x. Ran h options s s' parts u v a b fails x) e p)

  -- it goes on
  pub ran_going : (options.bail && fails) ≡ false → Ran h options s s' parts u v a b fails (options.bail && fails) → Ran h options s s' parts u v a b fails false
  ran_going e p = subst (λ x. Ran h options s s' parts u v a b fails x) e p

  by_course : (f : Bool) → Ran h options s s' parts u v a b f false → Ran h options s s' parts u v a b (failed_in (at_end f)) (ended_in (at_end f))
  by_course true p = p
  by_course false p = p

  -- it is at its end
  pub ran_at_end : (course : Course) → course ≡ at_end fails → Ran h options s s' parts u v a b fails false → Ran h options s s' parts u v a b (failed_in course) (ended_in course)
  ran_at_end course is p = subst (λ x. Ran h options s s' parts u v a b (failed_in x) (ended_in x)) (sym is) (by_course fails p)

-- ---- the parts of a text

pub empty_text : (text : List ℕ) → (length text == 0) ≡ true → text ≡ []
empty_text [] e = refl
empty_text (b ∷ text) e = let none : length (b ∷ text) ≡ 0 = eqb-true (length (b ∷ text)) 0 e in absurd (omega (arith, none))

-- the parts of a text in front of this rest ran, and none ended the script
pub record SoFar (h : HostMeanings) (options : Options) (runs : Bool) (text rest : List ℕ) (fresh : Bool) (s : State) (old new : Option (List ℕ)) (before after : ℕ) (failed : Bool) : Type 0 where
  pub done : List Part
  pub ran : Ran h options new_state s done old new before after failed false
  pub parts : done ++ parts_from runs fresh 0 rest ≡ parts_from runs true 0 text

pub so_far_start : (h : HostMeanings) (options : Options) (runs : Bool) (text : List ℕ) (u : Option (List ℕ)) (n : ℕ) → SoFar h options runs text text true new_state u u n n false
so_far_start h options runs text u n = record { done = []; ran = ran_none h options new_state u n; parts = refl }

module _ (h : HostMeanings) (options : Options) (runs : Bool) (text rest : List ℕ) (fresh : Bool) (s : State) (u v w : Option (List ℕ)) (a b c : ℕ) (failed : Bool) (far : SoFar h options runs text rest fresh s u v a b failed) where
  module _ (front : List Part) (fresh' : Bool) (behind : List ℕ) (cut : parts_from runs fresh 0 rest ≡ front ++ parts_from runs fresh' 0 behind) where
    parts_next : (far.done ++ front) ++ parts_from runs fresh' 0 behind ≡ parts_from runs true 0 text
    parts_next = append_assoc far.done front (parts_from runs fresh' 0 behind) ∙ (ap (λ ps. far.done ++ ps) (sym cut) ∙ far.parts)

    -- what stands next ran
    pub so_far_next : (s' : State) (fails failed' : Bool) → Ran h options s s' front v w b c fails false → failed' ≡ (failed || fails) → SoFar h options runs text behind fresh' s' u w a c failed'
    so_far_next s' fails failed' p is = record {
      done = far.done ++ front;
      ran = subst (λ x. Ran h options new_state s' (far.done ++ front) u w a c x false) (sym is) (ran_append h options new_state s far.done front u v w a b c failed far.ran s' fails false p);
      parts = parts_next;
    }

    or-true-right : (x : Bool) → (x || true) ≡ true
    or-true-right true = refl
    or-true-right false = refl

    -- an error line in it ended the script
    pub so_far_ended : (s' : State) → Ran h options s s' front v w b c true true → Ran h options new_state s' (parts_from runs true 0 text) u w a c true true
    so_far_ended s' p =
        let all = ran_append h options new_state s far.done front u v w a b c failed far.ran s' true true p in
        subst (λ ps. Ran h options new_state s' ps u w a c true true) parts_next
        (ran_ended h options new_state s' (far.done ++ front) (parts_from runs fresh' 0 behind) u w a c true
        (subst (λ x. Ran h options new_state s' (far.done ++ front) u w a c x true) (or-true-right failed) all))

    -- the run stopped in it
    pub so_far_part : RanPartly h options s front v w b c → RanPartly h options new_state (parts_from runs true 0 text) u w a c
    so_far_part p =
        let first = partly_behind h options new_state s far.done front u v w a b c failed far.ran p in
        subst (λ ps. RanPartly h options new_state ps u w a c) parts_next (partly_more h options new_state (far.done ++ front) (parts_from runs fresh' 0 behind) u w a c first)

  -- nothing is left
  pub so_far_all : rest ≡ [] → Ran h options new_state s (parts_from runs true 0 text) u v a b failed false
  so_far_all none =
      let end : far.done ++ [] ≡ parts_from runs true 0 text = subst (λ r. far.done ++ parts_from runs fresh 0 r ≡ parts_from runs true 0 text) none far.parts in
      subst (λ ps. Ran h options new_state s ps u v a b failed false) (sym (append-nil far.done) ∙ end) far.ran
