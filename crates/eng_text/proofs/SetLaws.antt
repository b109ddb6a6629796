-- A set that is tested while it is read takes what the test of its ranges takes.
use Rattle.std.proofs.Common.{◌≡◌, ◌≢◌, ℕ, Bool, true, false, not, ◌&&◌, ◌||◌, ◌==◌, if◌then◌else◌, List, [], ◌∷◌, Option, Some, None, MatchOption, unwrap_or, inl, inr, refl, ap, ◌∙◌}
use Rattle.std.proofs.lemmas.Bool.{ne_eqb, cases_eq}
use Rattle.std.specs.Bool.{beq}
use Rattle.std.specs.List.{list_any}
use Rattle.std.specs.Option.{option_map}
use Rattle.std.specs.Str.{chars}
use denote.Ref.{Bor}
use Rattle.eng_text.specs.Heads.{Takes, set_parts}
use Rattle.eng_text.specs.Patterns.{Test, Member, Never, Part, One, Negated, Within, Inside, Outside, passes, in_range, is_range, glob_from, same_char}
use Rattle.eng_text.specs.Sets.{behind_members, behind_opening}
use Rattle.eng_text.specs.declared.syntax.Syntax.TheVariants.{Glob}

-- ---- the members one by one

pub behind-end : (x : ℕ) (takes_members is_member : Bool) (prior : Option ℕ) (text : List ℕ) → text ≡ [] → behind_members x takes_members is_member prior text ≡ None
behind-end x takes_members is_member prior text is = rw is refl

closing : (x : ℕ) (takes_members is_member : Bool) (prior : Option ℕ) (cs : List ℕ) → behind_members x takes_members is_member prior (0x5d ∷ cs) ≡ (if beq is_member takes_members then Some cs else None)
closing x takes_members is_member prior [] = refl
closing x takes_members is_member prior (d ∷ cs) = refl

pub behind-closing : (x : ℕ) (takes_members is_member b : Bool) (prior : Option ℕ) (text : List ℕ) (c : ℕ) (cs : List ℕ) → text ≡ c ∷ cs → c ≡ 0x5d → beq is_member takes_members ≡ b → behind_members x takes_members is_member prior text ≡ (if b then Some cs else None)
behind-closing x takes_members is_member b prior text c cs is close takes =
    ap (behind_members x takes_members is_member prior) (is ∙ ap (λ d. d ∷ cs) close) ∙ closing x takes_members is_member prior cs ∙ ap (λ t. if t then Some cs else None) takes

pub behind-range : (x : ℕ) (takes_members is_member : Bool) (prior : Option ℕ) (text behind : List ℕ) (low c d : ℕ) (cs : List ℕ) → text ≡ c ∷ behind → c ≢ 0x5d → is_range prior c d ≡ true → prior ≡ Some low → behind ≡ d ∷ cs → behind_members x takes_members is_member prior text ≡ behind_members x takes_members (in_range x (low, d) || is_member) None cs
behind-range x takes_members is_member prior text behind low c d cs is inside range begins ends = rw (is, ends, ne_eqb c 0x5d inside, range, begins) refl

member : (x : ℕ) (takes_members is_member : Bool) (prior : Option ℕ) (c : ℕ) (cs : List ℕ) → c ≢ 0x5d → ((d : ℕ) (ds : List ℕ) → cs ≡ d ∷ ds → is_range prior c d ≡ false) → behind_members x takes_members is_member prior (c ∷ cs) ≡ behind_members x takes_members (in_range x (c, c) || is_member) (Some c) cs
member x takes_members is_member prior c [] inside single = rw (ne_eqb c 0x5d inside) refl
member x takes_members is_member prior c (d ∷ cs) inside single = rw (ne_eqb c 0x5d inside, single d cs refl) refl

pub behind-member : (x : ℕ) (takes_members is_member : Bool) (prior : Option ℕ) (text : List ℕ) (c : ℕ) (cs : List ℕ) → text ≡ c ∷ cs → c ≢ 0x5d → ((d : ℕ) (ds : List ℕ) → cs ≡ d ∷ ds → is_range prior c d ≡ false) → behind_members x takes_members is_member prior text ≡ behind_members x takes_members (in_range x (c, c) || is_member) (Some c) cs
behind-member x takes_members is_member prior text c cs is inside single = rw is (member x takes_members is_member prior c cs inside single)

-- ---- a set as a part of a pattern

-- the parts begin with a test; what is behind it, where the character passes
pub record TakesSet (parts : List Part) (x : ℕ) (behind : Option (List ℕ)) : Type 0 where
  pub test : Test
  pub rest : List Part
  pub is : parts ≡ One test ∷ rest
  pub fits : MatchOption behind (passes same_char test x ≡ false) (λ cs. (passes same_char test x ≡ true) × (rest ≡ glob_from Outside cs))

by_test : (b : Bool) (x : ℕ) (ps qs : List Part) (r s : Option (List ℕ)) → (b ≡ true → TakesSet ps x r) → (b ≡ false → TakesSet qs x s) → TakesSet (if b then ps else qs) x (if b then r else s)
by_test true x ps qs r s h k = h refl
by_test false x ps qs r s h k = k refl

unclosed : (x : ℕ) → TakesSet (One Never ∷ []) x None
unclosed x = record { test = Never; rest = []; is = refl; fits = refl }

closed : (x : ℕ) (takes_members is_member : Bool) (ranges : List (ℕ × ℕ)) (cs : List ℕ) → list_any (in_range x) ranges ≡ is_member → TakesSet (One (Member takes_members ranges) ∷ glob_from Outside cs) x (if beq is_member takes_members then Some cs else None)
closed x true true ranges cs is = record { test = Member true ranges; rest = glob_from Outside cs; is = refl; fits = (is, refl) }
closed x true false ranges cs is = record { test = Member true ranges; rest = glob_from Outside cs; is = refl; fits = is }
closed x false true ranges cs is = record { test = Member false ranges; rest = glob_from Outside cs; is = refl; fits = ap not is }
closed x false false ranges cs is = record { test = Member false ranges; rest = glob_from Outside cs; is = refl; fits = (ap not is, refl) }

closed_at_end : (b : Bool) (x : ℕ) (takes_members is_member : Bool) (ranges : List (ℕ × ℕ)) → list_any (in_range x) ranges ≡ is_member → TakesSet (if b then One (Member takes_members ranges) ∷ [] else One Never ∷ []) x (if b && beq is_member takes_members then Some [] else None)
closed_at_end true x takes_members is_member ranges is = closed x takes_members is_member ranges [] is
closed_at_end false x takes_members is_member ranges is = unclosed x

pub takes-members : (x : ℕ) (takes_members : Bool) (ranges : List (ℕ × ℕ)) (prior : Option ℕ) (cs : List ℕ) → TakesSet (glob_from (Inside takes_members Within ranges prior) cs) x (behind_members x takes_members (list_any (in_range x) ranges) prior cs)
takes-members x takes_members ranges prior [] = unclosed x
takes-members x takes_members ranges prior (c ∷ []) = closed_at_end (c == 0x5d) x takes_members _ ranges refl
takes-members x takes_members ranges prior (c ∷ d ∷ cs) =
    by_test (c == 0x5d) x _ _ _ _ (λ close. closed x takes_members _ ranges (d ∷ cs) refl)
    (λ inside. by_test (is_range prior c d) x _ _ _ _ (λ range. takes-members x takes_members ((unwrap_or prior 0, d) ∷ ranges) None cs) (λ single. takes-members x takes_members ((c, c) ∷ ranges) (Some c) (d ∷ cs)))

-- ---- its opening

by_opening : (b : Bool) (x : ℕ) (ps : List Part) (r s : Option (List ℕ)) → (b ≡ true → TakesSet ps x r) → (b ≡ false → TakesSet ps x s) → TakesSet ps x (if b then r else s)
by_opening true x ps r s h k = h refl
by_opening false x ps r s h k = k refl

or-false : (b : Bool) → (b || false) ≡ b
or-false true = refl
or-false false = refl

-- the first member may be a `]`, and no range ends with it
takes-first : (x : ℕ) (takes_members : Bool) (c d : ℕ) (cs : List ℕ) → TakesSet (glob_from (Inside takes_members Within ((c, c) ∷ []) (if c == 0x5d then None else Some c)) (d ∷ cs)) x (behind_opening x takes_members (c ∷ d ∷ cs))
takes-first x takes_members c d cs =
    by_opening (c == 0x5d) x _ _ _ (λ close. rw close (rw or-false at (takes-members x takes_members ((c, c) ∷ []) None (d ∷ cs))))
    (λ inside. rw inside (takes-members x takes_members ((c, c) ∷ []) (Some c) (d ∷ cs)))

takes-one : (x : ℕ) (takes_members : Bool) (c : ℕ) → TakesSet (One Never ∷ []) x (behind_opening x takes_members (c ∷ []))
takes-one x takes_members c = by_opening (c == 0x5d) x _ _ _ (λ close. unclosed x) (λ inside. rw inside (unclosed x))

takes-negated : (x : ℕ) (cs : List ℕ) → TakesSet (glob_from (Inside false Negated [] None) cs) x (behind_opening x false cs)
takes-negated x [] = unclosed x
takes-negated x (c ∷ []) = takes-one x false c
takes-negated x (c ∷ d ∷ cs) = takes-first x false c d cs

pub takes-others : (x c : ℕ) (cs : List ℕ) → c ≡ 0x5e → TakesSet (set_parts (c ∷ cs)) x (behind_opening x false cs)
takes-others x c [] is = unclosed x
takes-others x c (d ∷ cs) is = rw is (takes-negated x (d ∷ cs))

pub takes-own : (x c : ℕ) (cs : List ℕ) → c ≢ 0x5e → TakesSet (set_parts (c ∷ cs)) x (behind_opening x true (c ∷ cs))
takes-own x c [] other = takes-one x true c
takes-own x c (d ∷ cs) other = rw (ne_eqb c 0x5e other) (takes-first x true c d cs)

-- a set is one test
pub set_is : (cs : List ℕ) → (test : Test) × (rest : List Part) × (set_parts cs ≡ One test ∷ rest)
set_is [] = (Never, [], refl)
set_is (c ∷ cs) =
    elim (cases_eq c 0x5e) [ inl is ↦ let h = takes-others 0 c cs is in (h.test, h.rest, h.is) | inr other ↦ let h = takes-own 0 c cs other in (h.test, h.rest, h.is) ]

pub Takes-from_set : (parts : List Part) (x : ℕ) (behind : Option (Bor (List ℕ))) → TakesSet parts x (option_map (λ text. chars text.now) behind) → Takes Glob parts x behind
Takes-from_set parts x None h = record { test = h.test; rest = h.rest; is = h.is; fits = h.fits }
Takes-from_set parts x (Some text) h = record { test = h.test; rest = h.rest; is = h.is; fits = h.fits }
