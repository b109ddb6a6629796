-- A text is read whole.
use Rattle.std.proofs.Common.{◌≡◌, ◌≢◌, ℕ, length, List, [], ◌∷◌, Result, Ok, Err, refl, sym, ap, subst, ◌∙◌, arith}
use Rattle.sql_tree.specs.declared.token.Token.{Token}
use Rattle.sql_grammar.specs.declared.counts.Counts.{Counts}
use Rattle.sql_grammar.specs.Answers.{Answer, whole, place}
use Rattle.sql_grammar.specs.Marks.{start}
use Rattle.sql_grammar.specs.Rules.{Parser, Outcome, Done, Stop, Wrong, Over}
use Rattle.parse_cursor.specs.declared.error.ParseError.{ParseError}
use Rattle.parse_cursor.specs.declared.error.ParseError.TheVariants as error
use Rattle.parse_cursor.specs.declared.texts.Failure.{Failure}
use Rattle.parse_cursor.specs.Gives.{why}
use Rattle.parse_cursor.specs.Whole.{Shows, failure_of}

-- what tokens are read as, where reading gives each answer
module _ {A : Type 0} (p : Parser A) (AnswersAs : List Token → Answer A → Type 0) (answered : (ts : List Token) (x : Answer A) → AnswersAs ts x → whole (p start ts) ≡ x) where
  answer_is : (len : ℕ) (k : Counts) (ts : List Token) (x : Answer A) (o : Outcome A) (r : Result A Failure) → k ≡ start → p k ts ≡ o → Shows len (whole o) r → AnswersAs ts x → Shows len x r
  answer_is len k ts x o r first is h m =
      let from_start : p start ts ≡ o = ap (λ c. p c ts) (sym first) ∙ is in
      subst (λ (y : Answer A). Shows len y r) (ap whole (sym from_start) ∙ answered ts x m) h

  pub read_whole : (len : ℕ) (k : Counts) (ts rest : List Token) (c : Counts) (t : A) (x : Answer A) → k ≡ start → p k ts ≡ Done t c rest → length rest ≡ 0 → AnswersAs ts x → Shows len x (Ok t)
  read_whole len k ts [] c t x first is none m = answer_is len k ts x (Done t c []) (Ok t) first is refl m
  read_whole len k ts (r ∷ rest) c t x first is none m = absurd (omega arith)

  pub too_long : (len : ℕ) (k : Counts) (ts rest : List Token) (c : Counts) (t : A) (x : Answer A) (at : ℕ) → k ≡ start → p k ts ≡ Done t c rest → length rest ≢ 0 → at ≡ place len rest → AnswersAs ts x → Shows len x (Err (failure_of error.Syntax at))
  too_long len k ts [] c t x at first is some e m = absurd (some refl)
  too_long len k ts (r ∷ rest) c t x at first is some e m = answer_is len k ts x (Done t c (r ∷ rest)) (Err (failure_of error.Syntax at)) first is e m

  pub stopped : (len : ℕ) (k : Counts) (ts rest : List Token) (x : Answer A) (e : ParseError) (at : ℕ) → k ≡ start → at ≡ place len rest → (e ≢ error.Memory → p k ts ≡ Stop (why e) rest) → AnswersAs ts x → Shows len x (Err (failure_of e at))
  stopped len k ts rest x error.Memory at first is h m = tt
  stopped len k ts rest x error.Syntax at first is h m = answer_is len k ts x (Stop Wrong rest) (Err (failure_of error.Syntax at)) first (h (λ q. cc q)) is m
  stopped len k ts rest x (error.TooMuch l) at first is h m = answer_is len k ts x (Stop (Over l) rest) (Err (failure_of (error.TooMuch l) at)) first (h (λ q. cc q)) (refl, is) m
