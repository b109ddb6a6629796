-- What a search for a match will find, and how far it is from its end.
use Rattle.std.specs.Prelude.{◌≡◌, ℕ, ◌+◌, ◌*◌, ◌<◌, ◌≤◌, Bool, true, false, ◌||◌, List, [], ◌∷◌, length, Option, Some, None, IfSome}
use Rattle.std.specs.Str.{chars}
use Rattle.eng_text.specs.Heads.{parts_of, same_of}
use Rattle.eng_text.specs.Patterns.{Part, Run, matches}
use Rattle.eng_text.specs.declared.search.Front.{Front}
use Rattle.eng_text.specs.declared.search.Search.{Search}
use Rattle.eng_text.specs.declared.search.Step.{Step}
use Rattle.eng_text.specs.declared.search.Step.TheVariants.{On, Done}
use Rattle.eng_text.specs.declared.syntax.Syntax.{Syntax}

-- by the bytes of the pattern and of the text
abbrev pub accepts : Syntax → List ℕ → List ℕ → Bool
accepts syntax pattern text = matches (same_of syntax) (parts_of syntax (chars pattern)) (chars text)

-- a run takes a character at least
abbrev pub takes_more : (ℕ → ℕ → Bool) → List Part → List ℕ → Bool
takes_more same parts [] = false
takes_more same parts (c ∷ cs) = matches same (Run ∷ parts) cs

-- the last run takes more than it did
abbrev pub matches_later : Syntax → Option Front → Bool
matches_later syntax None = false
matches_later syntax (Some run) = takes_more (same_of syntax) (parts_of syntax (chars run.pattern.now)) (chars run.text.now)

-- what the search will find
abbrev pub finds : Search → Bool
finds search = accepts search.syntax search.front.pattern.now search.front.text.now || matches_later search.syntax search.run

-- what the last run can match by taking more, a run in front of all that is left can match too
abbrev pub IsLed : Search → Type 0
IsLed search = matches_later search.syntax search.run ≡ true → matches (same_of search.syntax) (Run ∷ parts_of search.syntax (chars search.front.pattern.now)) (chars search.front.text.now) ≡ true

-- no pattern is longer than this, and what is left of the text is no longer than it was behind the last run
abbrev pub IsShort : ℕ → Search → Type 0
IsShort bound search = (length search.front.pattern.now ≤ bound) × IfSome search.run (λ run. (length search.front.text.now ≤ length run.text.now) × (length run.pattern.now ≤ bound))

-- a bound on how often a run is still tried
abbrev pub tries_left : Option Front → ℕ → ℕ
tries_left None n = n + 1
tries_left (Some run) n = length run.text.now

-- a bound on the steps of the search
abbrev pub steps_left : ℕ → Search → ℕ
steps_left bound search = tries_left search.run (length search.front.text.now) * (bound + 1) + length search.front.pattern.now

abbrev pub MatchStep : Step → (Search → Type 0) → (Bool → Type 0) → Type 0
MatchStep (On search) P Q = P search
MatchStep (Done found) P Q = Q found

-- the step finds what the search will find, and is nearer its end
pub record Advances (before : Search) (step : Step) : Type 0 where
  pub finds_same : MatchStep step (λ after. finds after ≡ finds before) (λ found. found ≡ finds before)
  pub led : MatchStep step (λ after. IsLed after) (λ found. Unit {0})
  pub nearer : (bound : ℕ) → IsShort bound before → MatchStep step (λ after. IsShort bound after × (steps_left bound after < steps_left bound before)) (λ found. Unit {0})
