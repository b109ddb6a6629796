-- A part of a script that has its end stays a part, whatever the script goes on with.
use Rattle.std.proofs.Common.{◌≡◌, ◌⊎◌, inl, inr, ℕ, zero, suc, ◌-◌, ◌<◌, ◌≤◌, ◌==◌, ◌&&◌, Bool, true, false, cond, List, [], ◌∷◌, ◌++◌, Option, Some, None, length, take, refl, sym, ◌∙◌, ap, subst, arith}
use Rattle.std.specs.Prelude.{nat_lt, unwrap_or}
use Rattle.std.specs.Option.{option_map}
use Rattle.std.proofs.lemmas.Bool.{eqb-true, le-ltb, ltb-false, ltb-true}
use Rattle.std.proofs.lemmas.Bool.Decides.{leb_tells}
use Rattle.std.proofs.lemmas.List.{take-append-le}
use Rattle.sql_lex.specs.Cutting.{blank_width}
use Rattle.sql_lex.proofs.CuttingLaws.{blank_width-ended, blank_width-stays, statement_end-stays, statement_end-within}
use Rattle.sql_meaning.specs.Parts.{Part, end_of, line_end, part_here, part_of, part_up_to, parts_from, width_here, width_up_to}
use Rattle.sql_meaning.proofs.ScriptLaws.{Longer, longer_behind, parts_from-past}

none_some : {X : Type 0} (e : ℕ) → None ≡ Some e → X
none_some e h = absurd (cc)

some_is : (k e : ℕ) → Some k ≡ Some e → k ≡ e
some_is k e h = ap (λ o. unwrap_or o 0) h

-- ---- where a line ends

line_end-stays : (bytes more : List ℕ) (e : ℕ) → line_end bytes ≡ Some e → line_end (bytes ++ more) ≡ Some e
line_end-stays [] more e h = none_some e h
line_end-stays (b ∷ bytes) more e h = by (b == 10) (line_end bytes) (line_end (bytes ++ more)) h (λ k. line_end-stays bytes more k)
  where
    by : (t : Bool) (x y : Option ℕ) → cond t (Some 0) (option_map suc x) ≡ Some e → ((k : ℕ) → x ≡ Some k → y ≡ Some k) → cond t (Some 0) (option_map suc y) ≡ Some e
    by true x y is on = is
    by false None y is on = none_some e is
    by false (Some k) y is on = ap (option_map suc) (on k refl) ∙ is

line_end-within : (bytes : List ℕ) (e : ℕ) → line_end bytes ≡ Some e → e < length bytes
line_end-within [] e h = none_some e h
line_end-within (b ∷ bytes) e h = by (b == 10) (line_end bytes) h (λ k. line_end-within bytes k)
  where
    by : (t : Bool) (x : Option ℕ) → cond t (Some 0) (option_map suc x) ≡ Some e → ((k : ℕ) → x ≡ Some k → k < length bytes) → e < length (b ∷ bytes)
    by true x is on = let same = some_is 0 e is in omega (arith, same)
    by false None is on = none_some e is
    by false (Some k) is on =
        let same = some_is (suc k) e is in
        let lt = on k refl in
        omega (arith, same, lt)

-- ---- either

end_of-stays : (line : Bool) (bytes more : List ℕ) (e : ℕ) → end_of line bytes ≡ Some e → end_of line (bytes ++ more) ≡ Some e
end_of-stays true bytes more e h = line_end-stays bytes more e h
end_of-stays false bytes more e h = statement_end-stays bytes more e h

pub end_of-within : (line : Bool) (bytes : List ℕ) (e : ℕ) → end_of line bytes ≡ Some e → e < length bytes
end_of-within true bytes e h = line_end-within bytes e h
end_of-within false bytes e h = statement_end-within bytes e h

-- a dot line begins with no blank
dotted : (b : ℕ) (bytes more : List ℕ) (fresh : Bool) (e : ℕ) → end_of (fresh && b == 46) (b ∷ bytes) ≡ Some e → blank_width (b ∷ bytes) ≤ 0 → blank_width (b ∷ (bytes ++ more)) ≤ 0
dotted b bytes more fresh e h none = by (fresh && b == 46) refl h
  where
    dot : (f t : Bool) → (f && t) ≡ true → t ≡ true
    dot true t is = is
    dot false t is = cc

    by : (line : Bool) → (fresh && b == 46) ≡ line → end_of line (b ∷ bytes) ≡ Some e → blank_width (b ∷ (bytes ++ more)) ≤ 0
    by false is h' = blank_width-ended (b ∷ bytes) more e h' none
    by true is h' = subst (λ c. blank_width (c ∷ (bytes ++ more)) ≤ 0) (sym (eqb-true b 46 (dot fresh (b == 46) is))) (omega arith)

-- ---- parts

-- what stands at a place of a text with more behind it, and the parts behind that
module _ (fresh : Bool) (b : ℕ) (bytes more : List ℕ) (others : (skip : ℕ) → Longer (parts_from false (b == 10) skip bytes) (parts_from false (b == 10) skip (bytes ++ more))) where
  abbrev line : Bool
  line = fresh && b == 46

  abbrev all : List ℕ
  all = b ∷ bytes

  abbrev longer : List ℕ
  longer = b ∷ (bytes ++ more)

  abbrev behind : List Part → ℕ → List ℕ → List Part
  behind part width tail = part ++ parts_from false (b == 10) (width - 1) tail

  -- nothing is left behind it
  stays-last : (part : List Part) (width : ℕ) → part ≡ [] → length all ≤ width → Longer (behind part width bytes) (behind (part_here false line longer) (width_here line longer) (bytes ++ more))
  stays-last part width none past =
      let gone : parts_from false (b == 10) (width - 1) bytes ≡ [] = parts_from-past false (b == 10) (width - 1) bytes (omega (arith, past)) in
      let all_gone : behind part width bytes ≡ [] = ap (λ ps. ps ++ parts_from false (b == 10) (width - 1) bytes) none ∙ gone in
      let rest = behind (part_here false line longer) (width_here line longer) (bytes ++ more) in
      (rest, ap (λ ps. ps ++ rest) all_gone)

  -- the same part stands there, and others follow
  stays-same : (part : List Part) (width : ℕ) → part_here false line longer ≡ part → width_here line longer ≡ width → Longer (behind part width bytes) (behind (part_here false line longer) (width_here line longer) (bytes ++ more))
  stays-same part width part_is width_is =
      subst (λ ps. Longer (behind part width bytes) (behind ps (width_here line longer) (bytes ++ more))) (sym part_is)
      (subst (λ w. Longer (behind part width bytes) (behind part w (bytes ++ more))) (sym width_is)
      (longer_behind part (parts_from false (b == 10) (width - 1) bytes) (parts_from false (b == 10) (width - 1) (bytes ++ more)) (others (width - 1))))

  here : Longer (behind (part_here false line all) (width_here line all) bytes) (behind (part_here false line longer) (width_here line longer) (bytes ++ more))
  here = by (nat_lt 0 (blank_width all)) refl
    where
      blank-stays : nat_lt 0 (blank_width all) ≡ true → blank_width all < length all → blank_width longer ≡ blank_width all
      blank-stays some less = let one = ltb-true 0 (blank_width all) some in blank_width-stays all more (omega (arith, one, less)) less

      at_blank : nat_lt 0 (blank_width all) ≡ true → (length all ≤ blank_width all) ⊎ (blank_width all < length all) → Longer (behind [] (blank_width all) bytes) (behind (part_here false line longer) (width_here line longer) (bytes ++ more))
      at_blank some (inl past) = stays-last [] (blank_width all) refl past
      at_blank some (inr less) =
          let same = blank-stays some less in
          let still : nat_lt 0 (blank_width longer) ≡ true = ap (λ w. nat_lt 0 w) same ∙ some in
          stays-same [] (blank_width all) (ap (λ c. cond c [] (part_up_to false line (end_of line longer) longer)) still)
          (ap (λ c. cond c (blank_width longer) (width_up_to (end_of line longer) longer)) still ∙ same)

      at_token : nat_lt 0 (blank_width all) ≡ false → (end : Option ℕ) → end_of line all ≡ end → Longer (behind (part_up_to false line end all) (width_up_to end all) bytes) (behind (part_here false line longer) (width_here line longer) (bytes ++ more))
      at_token none None is = stays-last [] (length all) refl (omega arith)
      at_token none (Some e) is =
          let zero_wide = ltb-false 0 (blank_width all) none in
          let still : nat_lt 0 (blank_width longer) ≡ false = le-ltb 0 (blank_width longer) (dotted b bytes more fresh e is zero_wide) in
          let end_is = end_of-stays line all more e is in
          let within = end_of-within line all e is in
          let front : take e longer ≡ take e all = take-append-le e all more (omega (arith, within)) in
          stays-same (part_of line (take e all)) (suc e)
          (ap (λ c. cond c [] (part_up_to false line (end_of line longer) longer)) still ∙ (ap (λ x. part_up_to false line x longer) end_is ∙ ap (part_of line) front))
          (ap (λ c. cond c (blank_width longer) (width_up_to (end_of line longer) longer)) still ∙ ap (λ x. width_up_to x longer) end_is)

      by : (blank : Bool) → nat_lt 0 (blank_width all) ≡ blank
          → Longer (behind (cond blank [] (part_up_to false line (end_of line all) all)) (cond blank (blank_width all) (width_up_to (end_of line all) all)) bytes) (behind (part_here false line longer) (width_here line longer) (bytes ++ more))
      by true is = at_blank is (elim (leb_tells (length all) (blank_width all)) [ inl h ↦ inl h.1 | inr h ↦ inr h.1 ])
      by false is = at_token is (end_of line all) refl

pub parts_from-stays : (fresh : Bool) (skip : ℕ) (text more : List ℕ) → Longer (parts_from false fresh skip text) (parts_from false fresh skip (text ++ more))
parts_from-stays fresh skip [] more = (parts_from false fresh skip more, refl)
parts_from-stays fresh (suc skip) (b ∷ bytes) more = parts_from-stays (b == 10) skip bytes more
parts_from-stays fresh zero (b ∷ bytes) more = here fresh b bytes more (λ skip. parts_from-stays (b == 10) skip bytes more)
