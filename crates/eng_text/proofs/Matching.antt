-- Laws of matching: a run of any characters takes a text whenever it takes an end of it, so only the last run need be kept.
use Rattle.std.proofs.Common.{◌≡◌, ℕ, Bool, true, false, ◌&&◌, ◌||◌, List, [], ◌∷◌, refl, inl, inr}
use Rattle.std.proofs.lemmas.Bool.{false≢true, and_parts, or_cases, or_left, or_right}
use Rattle.eng_text.specs.Patterns.{Part, Run, One, Test, matches, passes}
use Rattle.eng_text.specs.Search.{takes_more}

module _ (same : ℕ → ℕ → Bool) where
  -- a run in front takes a character more
  pub run_more : (parts : List Part) (c : ℕ) (cs : List ℕ) → matches same (Run ∷ parts) cs ≡ true → matches same (Run ∷ parts) (c ∷ cs) ≡ true
  run_more parts c cs h = or_right (matches same parts (c ∷ cs)) _ h

  pub run_none : (parts : List Part) (text : List ℕ) → matches same parts text ≡ true → matches same (Run ∷ parts) text ≡ true
  run_none parts [] h = or_left _ false h
  run_none parts (c ∷ cs) h = or_left _ _ h

  -- two runs match no more than one
  pub run-run : (parts : List Part) (text : List ℕ) → matches same (Run ∷ Run ∷ parts) text ≡ true → matches same (Run ∷ parts) text ≡ true
  run-run parts [] h = elim (or_cases (matches same (Run ∷ parts) []) false h) [ inl now ↦ now | inr none ↦ absurd (false≢true none) ]
  run-run parts (c ∷ cs) h =
      elim (or_cases (matches same (Run ∷ parts) (c ∷ cs)) _ h) [ inl now ↦ now | inr later ↦ run_more parts c cs (run-run parts cs later) ]

  -- what is behind a character that a run was followed by
  pub run-one : (test : Test) (parts : List Part) (c : ℕ) (cs : List ℕ) → matches same (Run ∷ One test ∷ parts) (c ∷ cs) ≡ true → matches same (Run ∷ parts) cs ≡ true
  run-one test parts c [] h =
      elim (or_cases (passes same test c && matches same parts []) _ h) [ inl now ↦ run_none parts [] (and_parts (passes same test c) _ now).1 | inr none ↦ absurd (false≢true none) ]
  run-one test parts c (d ∷ cs) h =
      elim (or_cases (passes same test c && matches same parts (d ∷ cs)) _ h) [
        | inl now ↦ run_none parts (d ∷ cs) (and_parts (passes same test c) _ now).1
        | inr later ↦ run_more parts d cs (run-one test parts d cs later)
      ]

  -- a run takes no character, or one at least
  pub run_is : (parts : List Part) (text : List ℕ) → matches same (Run ∷ parts) text ≡ (matches same parts text || takes_more same parts text)
  run_is parts [] = refl
  run_is parts (c ∷ cs) = refl

  pub run_from_more : (parts : List Part) (text : List ℕ) → takes_more same parts text ≡ true → matches same (Run ∷ parts) text ≡ true
  run_from_more parts [] h = absurd (false≢true h)
  run_from_more parts (c ∷ cs) h = run_more parts c cs h
