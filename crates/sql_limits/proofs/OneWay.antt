-- Marked tokens are nested in one way at most.
use Rattle.std.proofs.Common.{◌≡◌, ◌∙◌, Bool, true, false, List, [], ◌∷◌, ◌++◌, refl, sym, subst, ap, append_assoc, append-nil}
use Rattle.sql_grammar.specs.declared.counts.Role.{Role}
use Rattle.sql_grammar.specs.declared.counts.Role.TheVariants as role
use Rattle.sql_grammar.specs.Marks.{stays, opens, closes, Marked, marked}
use Rattle.sql_limits.specs.Nestings.{Single, quiet, operator, outside, fresh, part, Bracket, of_expression, of_others, Nested, nothing, token, bracket, role_of, opening_of, closing_of, flat}

-- the end of what stands in a bracket
abbrev is_end : List Marked → Bool
is_end [] = true
is_end (x ∷ w) = elim x.mark as (λ m. Bool) [ stays r ↦ false | opens r ↦ false | closes r ↦ true ]

abbrev single_of : Role → Single
single_of role.Operator = operator
single_of role.Outside = outside
single_of role.Fresh = fresh
single_of role.Part = part
single_of _ = quiet

single_again : (s : Single) → single_of (role_of s) ≡ s
single_again quiet = refl
single_again operator = refl
single_again outside = refl
single_again fresh = refl
single_again part = refl

abbrev bracket_of : Role → Bracket
bracket_of role.Inward = of_expression
bracket_of _ = of_others

bracket_again : (b : Bracket) → bracket_of (opening_of b) ≡ b
bracket_again of_expression = refl
bracket_again of_others = refl

same_single : (s u : Single) → role_of s ≡ role_of u → s ≡ u
same_single s u e = sym (single_again s) ∙ ap single_of e ∙ single_again u

same_bracket : (b c : Bracket) → opening_of b ≡ opening_of c → b ≡ c
same_bracket b c e = sym (bracket_again b) ∙ ap bracket_of e ∙ bracket_again c

no_end : {X : Type 0} (u w : List Marked) → is_end u ≡ true → u ≡ w → is_end w ≡ false → X
no_end u w h e k = let f : is_end w ≡ true = subst (λ v. is_end v ≡ true) e h in cc

-- what is nested in front of an end is told by the tokens
cut : (m n : Nested) (u v : List Marked) → is_end u ≡ true → is_end v ≡ true → flat m ++ u ≡ flat n ++ v → (m ≡ n) × (u ≡ v)
cut nothing nothing u v h k e = (refl, e)
cut nothing (token s t n) u v h k e = no_end u (marked (stays (role_of s)) t ∷ (flat n ++ v)) h e refl
cut nothing (bracket b t i z n) u v h k e = no_end u (marked (opens (opening_of b)) t ∷ ((flat i ++ marked (closes (closing_of b)) z ∷ flat n) ++ v)) h e refl
cut (token s t m) nothing u v h k e = no_end v (marked (stays (role_of s)) t ∷ (flat m ++ u)) k (sym e) refl
cut (bracket b t i z m) nothing u v h k e = no_end v (marked (opens (opening_of b)) t ∷ ((flat i ++ marked (closes (closing_of b)) z ∷ flat m) ++ u)) k (sym e) refl
cut (token s t m) (token r x n) u v h k e =
    let heads : marked (stays (role_of s)) t ≡ marked (stays (role_of r)) x = cc in
    let tails : flat m ++ u ≡ flat n ++ v = cc in
    let marks : stays (role_of s) ≡ stays (role_of r) = ap (λ y. y.mark) heads in
    let tokens : t ≡ x = ap (λ y. y.token) heads in
    let roles : role_of s ≡ role_of r = cc in
    let singles = same_single s r roles in
    let more = cut m n u v h k tails in
    let rest = more.0 in
    (cc, more.1)
cut (token s t m) (bracket c x i z n) u v h k e =
    let heads : marked (stays (role_of s)) t ≡ marked (opens (opening_of c)) x = cc in
    let marks : stays (role_of s) ≡ opens (opening_of c) = ap (λ y. y.mark) heads in
    cc
cut (bracket b t i z m) (token r x n) u v h k e =
    let heads : marked (opens (opening_of b)) t ≡ marked (stays (role_of r)) x = cc in
    let marks : opens (opening_of b) ≡ stays (role_of r) = ap (λ y. y.mark) heads in
    cc
cut (bracket b t i z m) (bracket c x j y n) u v h k e =
    let heads : marked (opens (opening_of b)) t ≡ marked (opens (opening_of c)) x = cc in
    let marks : opens (opening_of b) ≡ opens (opening_of c) = ap (λ y. y.mark) heads in
    let tokens : t ≡ x = ap (λ y. y.token) heads in
    let roles : opening_of b ≡ opening_of c = cc in
    let tails : (flat i ++ marked (closes (closing_of b)) z ∷ flat m) ++ u ≡ (flat j ++ marked (closes (closing_of c)) y ∷ flat n) ++ v = cc in
    let brackets = same_bracket b c roles in
    let inner = cut i j (marked (closes (closing_of b)) z ∷ (flat m ++ u)) (marked (closes (closing_of c)) y ∷ (flat n ++ v)) refl refl (sym (append_assoc (flat i) (marked (closes (closing_of b)) z ∷ flat m) u) ∙ tails ∙ append_assoc (flat j) (marked (closes (closing_of c)) y ∷ flat n) v) in
    let insides = inner.0 in
    let ends = inner.1 in
    let last : marked (closes (closing_of b)) z ≡ marked (closes (closing_of c)) y = cc in
    let closings : z ≡ y = ap (λ y. y.token) last in
    let behind : flat m ++ u ≡ flat n ++ v = cc in
    let more = cut m n u v h k behind in
    let rest = more.0 in
    (cc, more.1)

pub one_way : (m n : Nested) → flat m ≡ flat n → m ≡ n
one_way m n e = let r = cut m n [] [] refl refl (append-nil (flat m) ∙ e ∙ sym (append-nil (flat n))) in r.0
