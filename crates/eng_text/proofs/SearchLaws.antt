-- A step of a search finds what the search will find, and is nearer its end.
use Rattle.std.proofs.Common.{◌≡◌, ℕ, ◌+◌, ◌*◌, ◌<◌, ◌≤◌, Bool, true, false, ◌||◌, List, [], ◌∷◌, Option, Some, None, IfSome, length, refl, sym, ◌∙◌, arith}
use Rattle.std.proofs.Math.Nat.{mul-le-mul_right}
use Rattle.std.specs.Str.{chars}
use Rattle.eng_text.specs.Heads.{is_match, single_parts}
use Rattle.eng_text.specs.Patterns.{Part, Run, One, Test, is_glob, is_like, matches, passes}
use Rattle.eng_text.specs.Search.{accepts, takes_more, tries_left}
use Rattle.eng_text.specs.declared.head.Single.{Single}
use Rattle.eng_text.specs.declared.head.Single.TheVariants.{Char, Set}
use Rattle.eng_text.specs.declared.search.Front.{Front}
use Rattle.eng_text.specs.declared.syntax.Syntax.{Syntax}
use Rattle.eng_text.specs.declared.syntax.Syntax.TheVariants.{Like, Glob}
use Rattle.eng_text.proofs.Matching.{run-one, run-run, run_is}
use Rattle.eng_text.proofs.SetLaws.{set_is}

absorbs : (a b : Bool) → (b ≡ true → a ≡ true) → a ≡ (a || b)
absorbs true b h = refl
absorbs false true h = h refl
absorbs false false h = refl

-- a match, by the parts of the pattern
pub accepts_match : (syntax : Syntax) (pattern text : List ℕ) → is_match syntax (chars pattern) (chars text) ≡ accepts syntax pattern text
unfolding is_like is_glob
accepts_match (Like escape) pattern text = refl
accepts_match Glob pattern text = refl

-- what stands for one character is one test
pub single_is : (syntax : Syntax) (single : Single) → (test : Test) × (rest : List Part) × (single_parts syntax single ≡ One test ∷ rest)
single_is syntax (Char wanted behind) = (_, _, refl)
single_is syntax (Set set) = set_is (chars set.now)

-- where `later` is what the last run can match by taking more
module _ (same : ℕ → ℕ → Bool) (later : Bool) (parts : List Part) (text : List ℕ) (led : later ≡ true → matches same (Run ∷ parts) text ≡ true) where
  -- no character is left, but one is wanted
  pub finds-short : (test : Test) (rest : List Part) → parts ≡ One test ∷ rest → text ≡ [] → false ≡ (matches same parts text || later)
  finds-short test rest is none =
      rw (is, none) (absorbs false later (λ h. rw (is, none) at (led h)))

  pub finds-one : (test : Test) (rest : List Part) (c : ℕ) (cs : List ℕ) → parts ≡ One test ∷ rest → text ≡ c ∷ cs → passes same test c ≡ true → (matches same rest cs || later) ≡ (matches same parts text || later)
  finds-one test rest c cs is first fits = rw (is, first, fits) refl

  pub led-one : (test : Test) (rest : List Part) (c : ℕ) (cs : List ℕ) → parts ≡ One test ∷ rest → text ≡ c ∷ cs → later ≡ true → matches same (Run ∷ rest) cs ≡ true
  led-one test rest c cs is first h = run-one same test rest c cs (rw (is, first) at (led h))

  pub finds-run : (rest : List Part) → parts ≡ Run ∷ rest → (matches same rest text || takes_more same rest text) ≡ (matches same parts text || later)
  finds-run rest is =
      sym (run_is same rest text) ∙ absorbs (matches same (Run ∷ rest) text) later (λ h. run-run same rest text (rw is at (led h))) ∙ rw is refl

-- ---- how near the end is

pub short_less : (bound : ℕ) (run : Option Front) (text text_left : ℕ) → text_left ≤ text → IfSome run (λ front. (text ≤ length front.text.now) × (length front.pattern.now ≤ bound)) → IfSome run (λ front. (text_left ≤ length front.text.now) × (length front.pattern.now ≤ bound))
short_less bound None text text_left le h = tt
short_less bound (Some run) text text_left le h = (omega arith, h.1)

pub nearer-one : (bound : ℕ) (run : Option Front) (text text_left pattern pattern_left : ℕ) → text_left ≤ text → pattern_left < pattern → tries_left run text_left * (bound + 1) + pattern_left < tries_left run text * (bound + 1) + pattern
nearer-one bound None text text_left pattern pattern_left le lt = let rows : (text_left + 1) * (bound + 1) ≤ (text + 1) * (bound + 1) = mul-le-mul_right (bound + 1) (omega arith) in omega (arith, rows)
nearer-one bound (Some run) text text_left pattern pattern_left le lt = omega arith

pub nearer-run : (bound : ℕ) (run : Option Front) (text pattern pattern_left : ℕ) → IfSome run (λ front. (text ≤ length front.text.now) × (length front.pattern.now ≤ bound)) → pattern_left < pattern → text * (bound + 1) + pattern_left < tries_left run text * (bound + 1) + pattern
nearer-run bound None text pattern pattern_left le lt = omega arith
nearer-run bound (Some run) text pattern pattern_left le lt = let rows : text * (bound + 1) ≤ length run.text.now * (bound + 1) = mul-le-mul_right (bound + 1) le.0 in omega (arith, rows)
