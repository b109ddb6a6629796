-- The outcomes of a script with one ending and another, and its status.
use Rattle.std.proofs.Common.{◌≡◌, ◌≤◌, ◌↔◌, ◌⊎◌, inl, inr, ℕ, zero, suc, ◌-◌, List, [], ◌∷◌, ◌++◌, Bool, true, false, not, ◌&&◌, ◌||◌, cond, Option, Some, None, Any, if◌then◌else◌, length, take, drop, refl, sym, ◌∙◌, ap, subst, arith, append-nil, append_assoc}
use Rattle.std.specs.List.{list_any}
use Rattle.std.specs.Prelude.{is_some, nat_lt, ◌==◌}
use Rattle.std.specs.Str.Lossy.{utf8_error_len, utf8_valid_len}
use Rattle.std.proofs.lemmas.List.Folds.{Any-from_list_any, list_any-from_Any}
use Rattle.eng_value.specs.HostMeanings.{HostMeanings}
use Rattle.eng_value.specs.declared.limits.TheConstants.{MAX_SCRIPT_BYTES}
use Rattle.sql_lex.specs.Cutting.{blank_width}
use Rattle.sql_meaning.specs.declared.script.Ending.{Ending}
use Rattle.sql_meaning.specs.declared.script.Ending.TheVariants.{End, ReadFault, TooLong}
use Rattle.sql_meaning.specs.declared.script.Failure.{Failure}
use Rattle.sql_meaning.specs.declared.script.Options.{Options}
use Rattle.sql_meaning.specs.Parts.{Part, bad_parts, characters, end_of, may_go_on, part_of, part_up_to, parts_from, parts_in, parts_of, runs_pending, width_up_to}
use Rattle.sql_meaning.specs.Runs.{AreAsMeant, IsEnough, IsFrontOf}
use Rattle.sql_meaning.specs.Script.{AreOutcomes, Came, Come, ends, is_bad_character, is_failed, status_by, status_of}
use Rattle.sql_meaning.specs.World.{new_state}
use Rattle.sql_meaning.proofs.OutcomeLaws.{AreAsMeant-Come, Come-front, Come-only, Come-some}

-- ---- each script has outcomes

pub AreOutcomes-some : (hosts : HostMeanings) (options : Options) (bytes : List ℕ) (ending : Ending) → (os : List Came) × AreOutcomes hosts options bytes ending os
unfolding AreOutcomes
AreOutcomes-some hosts options bytes ending = Come-some hosts options new_state (parts_of bytes ending)

-- what its statements mean is among them
pub AreOutcomes-meant : (hosts : HostMeanings) (options : Options) (bytes : List ℕ) (ending : Ending) (os : List Came) → AreAsMeant hosts options new_state (parts_of bytes ending) os → AreOutcomes hosts options bytes ending os
unfolding AreOutcomes
AreOutcomes-meant hosts options bytes ending os c = AreAsMeant-Come hosts options new_state (parts_of bytes ending) os c

-- and nothing else is, where the budget is enough for each
pub AreOutcomes-only : (hosts : HostMeanings) (options : Options) (bytes : List ℕ) (ending : Ending) (os : List Came) → IsEnough hosts options.budget new_state (parts_of bytes ending) → AreOutcomes hosts options bytes ending os → AreAsMeant hosts options new_state (parts_of bytes ending) os
unfolding AreOutcomes
AreOutcomes-only hosts options bytes ending os enough c = Come-only hosts options new_state (parts_of bytes ending) os enough c

-- ---- what is pending

abbrev pub Longer : List Part → List Part → Type 0
Longer xs ys = (rest : List Part) × (xs ++ rest ≡ ys)

pub longer_behind : (front xs ys : List Part) → Longer xs ys → Longer (front ++ xs) (front ++ ys)
longer_behind front xs ys l = (l.0, append_assoc front xs l.0 ∙ ap (λ ps. front ++ ps) l.1)

-- the bytes that are left end before so many
pub parts_from-past : (runs fresh : Bool) (skip : ℕ) (bytes : List ℕ) → length bytes ≤ skip → parts_from runs fresh skip bytes ≡ []
parts_from-past runs fresh skip [] past = refl
parts_from-past runs fresh zero (b ∷ bytes) past = absurd (omega arith)
parts_from-past runs fresh (suc skip) (b ∷ bytes) past = parts_from-past runs (b == 10) skip bytes (omega arith)

-- what stands at a place, and then the parts behind it
abbrev pub from_here : Bool → Bool → ℕ → Bool → Option ℕ → List ℕ → Bool → List ℕ → List Part
from_here runs is_blank width is_line end bytes fresh tail =
    cond is_blank [] (part_up_to runs is_line end bytes) ++ parts_from runs fresh (cond is_blank width (width_up_to end bytes) - 1) tail

-- where what is pending runs, it comes last
pending_here : (runs is_blank : Bool) (width : ℕ) (is_line : Bool) (end : Option ℕ) (bytes : List ℕ) (fresh : Bool) (tail : List ℕ) → length bytes ≡ suc (length tail)
    → ((skip : ℕ) → Longer (parts_from false fresh skip tail) (parts_from runs fresh skip tail))
    → Longer (from_here false is_blank width is_line end bytes fresh tail) (from_here runs is_blank width is_line end bytes fresh tail)
pending_here runs true width is_line end bytes fresh tail one others = others (width - 1)
pending_here runs false width is_line (Some end) bytes fresh tail one others =
    longer_behind (part_of is_line (take end bytes)) (parts_from false fresh (suc end - 1) tail) (parts_from runs fresh (suc end - 1) tail) (others (suc end - 1))
pending_here runs false width is_line None bytes fresh tail one others =
    let none : parts_from false fresh (length bytes - 1) tail ≡ [] = parts_from-past false fresh (length bytes - 1) tail (omega (arith, one)) in (
      part_up_to runs is_line None bytes ++ parts_from runs fresh (length bytes - 1) tail,
      ap (λ ps. ps ++ (part_up_to runs is_line None bytes ++ parts_from runs fresh (length bytes - 1) tail)) none,
    )

parts_from-pending : (runs fresh : Bool) (skip : ℕ) (bytes : List ℕ) → Longer (parts_from false fresh skip bytes) (parts_from runs fresh skip bytes)
parts_from-pending runs fresh skip [] = ([], refl)
parts_from-pending runs fresh (suc skip) (b ∷ bytes) = parts_from-pending runs (b == 10) skip bytes
parts_from-pending runs fresh zero (b ∷ bytes) =
    let is_line = fresh && b == 46 in
    pending_here runs (nat_lt 0 (blank_width (b ∷ bytes))) (blank_width (b ∷ bytes)) is_line (end_of is_line (b ∷ bytes)) (b ∷ bytes) (b == 10) bytes refl (λ skip. parts_from-pending runs (b == 10) skip bytes)

-- ---- one ending and another

longer_all : (xs ys zs : List Part) → Longer xs ys → Longer xs (ys ++ zs)
longer_all xs ys zs l = (l.0 ++ zs, sym (append_assoc xs l.0 zs) ∙ ap (λ ps. ps ++ zs) l.1)

-- behind whole characters, what may go on where the reading failed is what the end cuts
abbrev bad_at : Bool → ℕ → Option ℕ
bad_at goes_on place = if goes_on then None else Some place

abbrev parts_with : Ending → Option ℕ → List ℕ → List Part
parts_with ending bad front = parts_from (runs_pending ending bad) true 0 front ++ bad_parts bad

longer_by : (bytes : List ℕ) (place : ℕ) (front : List ℕ) → Longer (parts_with ReadFault (bad_at (may_go_on ReadFault bytes) place) front) (parts_with End (bad_at (may_go_on End bytes) place) front)
longer_by [] place front = longer_all (parts_from false true 0 front ++ []) (parts_from true true 0 front) [] (subst (λ ps. Longer ps (parts_from true true 0 front)) (sym (append-nil (parts_from false true 0 front))) (parts_from-pending true true 0 front))
longer_by (b ∷ bytes) place front = at (is_some (utf8_error_len (b ∷ bytes)))
  where
    at : (faulty : Bool) → Longer (parts_from false true 0 front ++ bad_parts (cond (not faulty) None (Some place))) (parts_from false true 0 front ++ bad_parts (Some place))
    at true = ([], append-nil (parts_from false true 0 front ++ bad_parts (Some place)))
    at false = (bad_parts (Some place), ap (λ ps. ps ++ bad_parts (Some place)) (append-nil (parts_from false true 0 front)))

parts_in-longer : (bytes : List ℕ) → Longer (parts_in ReadFault bytes) (parts_in End bytes)
parts_in-longer bytes = longer_by (drop (utf8_valid_len bytes) bytes) (utf8_valid_len bytes) (characters bytes)

-- what came at the end began as it does where the next read fails
pub AreOutcomes-End : (hosts : HostMeanings) (options : Options) (bytes : List ℕ) (os : List Came) → AreOutcomes hosts options bytes End os → (front : List Came) × AreOutcomes hosts options bytes ReadFault front × IsFrontOf front os
unfolding AreOutcomes parts_of
AreOutcomes-End hosts options bytes os c =
    let l = parts_in-longer bytes in
    Come-front hosts options new_state (parts_in ReadFault bytes) l.0 os (subst (λ ps. Come hosts options new_state ps os) (sym l.1) c)

may_go_on-TooLong : (bytes : List ℕ) → may_go_on TooLong bytes ≡ may_go_on ReadFault bytes
may_go_on-TooLong [] = refl
may_go_on-TooLong (b ∷ bytes) = refl

parts_in-TooLong : (bytes : List ℕ) → parts_in TooLong bytes ≡ parts_in ReadFault bytes
parts_in-TooLong bytes =
    let n = utf8_valid_len bytes in
    ap (λ g. parts_from false true 0 (characters bytes) ++ bad_parts (if g then None else Some n)) (may_go_on-TooLong (drop n bytes))

-- past the limit no byte is looked at
pub AreOutcomes-TooLong : (hosts : HostMeanings) (options : Options) (bytes : List ℕ) (os : List Came) → AreOutcomes hosts options bytes TooLong os ↔ AreOutcomes hosts options (take MAX_SCRIPT_BYTES bytes) ReadFault os
unfolding AreOutcomes parts_of
AreOutcomes-TooLong hosts options bytes os =
    let e = parts_in-TooLong (take MAX_SCRIPT_BYTES bytes) in
    (λ c. subst (λ ps. Come hosts options new_state ps os) e c, λ c. subst (λ ps. Come hosts options new_state ps os) (sym e) c)

-- ---- the status

bad-failed : (f : Option Failure) → is_bad_character f ≡ true → is_some f ≡ true
bad-failed None e = cc
bad-failed (Some why) e = refl

either-failed : (bail failed bad : Bool) → (bad ≡ true → failed ≡ true) → ((bail && failed) || bad) ≡ true → failed ≡ true
either-failed bail true bad so e = refl
either-failed true false bad so e = so e
either-failed false false bad so e = so e

-- what ends a script has an error line
ends-failed : (options : Options) (o : Came) → ends options o ≡ true → is_failed o ≡ true
ends-failed options o e = either-failed options.bail (is_failed o) (is_bad_character o.failure) (bad-failed o.failure) e

or_true : (a b c d : Bool) → (a ≡ true → c ≡ true) → (b ≡ true → d ≡ true) → (a || b) ≡ true → (c || d) ≡ true
or_true true b true d f g e = refl
or_true true b false d f g e = let bad : false ≡ true = f refl in cc
or_true false b true d f g e = refl
or_true false b false d f g e = g e

ended-failed : (options : Options) (os : List Came) → list_any (ends options) os ≡ true → list_any is_failed os ≡ true
ended-failed options [] e = cc
ended-failed options (o ∷ os) e = or_true (ends options o) (list_any (ends options) os) (is_failed o) (list_any is_failed os) (ends-failed options o) (ended-failed options os) e

abbrev status_with : Bool → Ending → Bool → ℕ
status_with ended ending failed = if ended then 1 else status_of ending failed

-- the status is 1 where an error line ended the script, and at its end where it has one
one_where : (ended failed : Bool) (ending : Ending) → (ended ≡ true → failed ≡ true) → (status_with ended ending failed ≡ 1) ↔ ((failed ≡ true) × ((ending ≡ End) ⊎ (ended ≡ true)))
one_where true failed ending so = (λ e. (so refl, inr refl), λ h. refl)
one_where false true End so = (λ e. (refl, inl refl), λ h. refl)
one_where false false End so = (λ e. absurd (omega arith), λ h. let bad : false ≡ true = h.0 in cc)
one_where false failed ReadFault so = (λ e. absurd (omega arith), λ h. elim h.1 [ inl e ↦ cc | inr e ↦ cc ])
one_where false failed TooLong so = (λ e. absurd (omega arith), λ h. elim h.1 [ inl e ↦ cc | inr e ↦ cc ])

pub status_by-one : (options : Options) (ending : Ending) (os : List Came) → (status_by options ending os ≡ 1) ↔ (Any (λ o. is_failed o ≡ true) os × ((ending ≡ End) ⊎ Any (λ o. ends options o ≡ true) os))
unfolding status_by
status_by-one options ending os =
    let one = one_where (list_any (ends options) os) (list_any is_failed os) ending (ended-failed options os) in (
      λ e. let h = one.0 e in (Any-from_list_any is_failed os h.0, elim h.1 [ inl k ↦ inl k | inr k ↦ inr (Any-from_list_any (ends options) os k) ]),
      λ h. one.1 (list_any-from_Any is_failed os h.0, elim h.1 [ inl k ↦ inl k | inr k ↦ inr (list_any-from_Any (ends options) os k) ]),
    )

-- every other status tells of the ending
zero_where : (ended failed : Bool) (ending : Ending) → status_with ended ending failed ≡ 0 → ending ≡ End
zero_where true failed ending e = absurd (omega (arith, e))
zero_where false failed End e = refl
zero_where false failed ReadFault e = absurd (omega (arith, e))
zero_where false failed TooLong e = absurd (omega (arith, e))

three_where : (ended failed : Bool) (ending : Ending) → status_with ended ending failed ≡ 3 → ending ≡ ReadFault
three_where true failed ending e = absurd (omega (arith, e))
three_where false true End e = absurd (omega (arith, e))
three_where false false End e = absurd (omega (arith, e))
three_where false failed ReadFault e = refl
three_where false failed TooLong e = absurd (omega (arith, e))

five_where : (ended failed : Bool) (ending : Ending) → status_with ended ending failed ≡ 5 → ending ≡ TooLong
five_where true failed ending e = absurd (omega (arith, e))
five_where false true End e = absurd (omega (arith, e))
five_where false false End e = absurd (omega (arith, e))
five_where false failed ReadFault e = absurd (omega (arith, e))
five_where false failed TooLong e = refl

pub status_by-zero : (options : Options) (ending : Ending) (os : List Came) → status_by options ending os ≡ 0 → ending ≡ End
unfolding status_by
status_by-zero options ending os e = zero_where (list_any (ends options) os) (list_any is_failed os) ending e

pub status_by-three : (options : Options) (ending : Ending) (os : List Came) → status_by options ending os ≡ 3 → ending ≡ ReadFault
unfolding status_by
status_by-three options ending os e = three_where (list_any (ends options) os) (list_any is_failed os) ending e

pub status_by-five : (options : Options) (ending : Ending) (os : List Came) → status_by options ending os ≡ 5 → ending ≡ TooLong
unfolding status_by
status_by-five options ending os e = five_where (list_any (ends options) os) (list_any is_failed os) ending e
