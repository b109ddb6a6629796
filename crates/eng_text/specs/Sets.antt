-- A set of GLOB, tested against one character while it is read.
use Rattle.std.specs.Prelude.{◌≡◌, ℕ, ◌<◌, Bool, true, false, ◌&&◌, ◌||◌, ◌==◌, List, [], ◌∷◌, length, Option, Some, None, MatchOption, if◌then◌else◌, unwrap_or}
use Rattle.std.specs.Bool.{beq}
use Rattle.std.specs.Str.{chars}
use Rattle.eng_text.specs.Patterns.{in_range, is_range}
use Rattle.eng_text.specs.declared.sets.Members.{Members}
use Rattle.eng_text.specs.declared.sets.Range.{Range}

-- what is behind the members of a set, where the set takes the character; given whether that is among the members so far, and the
-- member that a range may begin with
abbrev pub behind_members : ℕ → Bool → Bool → Option ℕ → List ℕ → Option (List ℕ)
behind_members x takes_members is_member prior [] = None
behind_members x takes_members is_member prior (c ∷ []) = if (c == 0x5d) && beq is_member takes_members then Some [] else None
behind_members x takes_members is_member prior (c ∷ d ∷ cs) =
    if c == 0x5d then (if beq is_member takes_members then Some (d ∷ cs) else None) else
    if is_range prior c d then behind_members x takes_members (in_range x (unwrap_or prior 0, d) || is_member) None cs else
    behind_members x takes_members (in_range x (c, c) || is_member) (Some c) (d ∷ cs)

-- the same, given what is behind `[` or `[^`
abbrev pub behind_opening : ℕ → Bool → List ℕ → Option (List ℕ)
behind_opening x takes_members [] = None
behind_opening x takes_members (c ∷ cs) =
    if c == 0x5d then behind_members x takes_members (in_range x (c, c)) None cs else behind_members x takes_members false None (c ∷ cs)

-- the same, given the members that are left
abbrev pub members_behind : ℕ → Bool → Members → Option (List ℕ)
members_behind x takes_members members = behind_members x takes_members members.is_member members.prior (chars members.rest.now)

-- the range that a member begins, given the member in front of it and what is behind it
abbrev pub IsRangeOf : Option ℕ → ℕ → List ℕ → Option Range → Type 0
IsRangeOf prior c behind range = MatchOption range ((d : ℕ) (cs : List ℕ) → chars behind ≡ d ∷ cs → is_range prior c d ≡ false)
    (λ r. (is_range prior c r.high ≡ true) × (prior ≡ Some r.low) × (chars behind ≡ r.high ∷ chars r.rest.now) × (length r.rest.now < length behind))
