-- What code needs of cursors covers what the code of its parts needs.
use Rattle.std.proofs.Common.{◌≡◌, ◌∙◌, ℕ, ◌<◌, List, [], ◌∷◌, ◌++◌, length, get_or, All, refl, sym, ap, subst}
use Rattle.std.specs.List.{flat_map}
use Rattle.std.proofs.lemmas.List.Concat.{flat_map-cons}
use Rattle.std.proofs.lemmas.List.Elements.{All-head}
use Rattle.eng_value.specs.declared.builtin.Builtin.{Builtin}
use Rattle.eng_value.specs.declared.collation.Collation.{Collation}
use Rattle.eng_value.specs.declared.operators.Sides.{Sides}
use Rattle.bound_tree.specs.Exprs as e
use Rattle.bound_tree.specs.Exprs.{BoundArm, BoundExpr, BoundMatch, arms, exprs, matches}
use Rattle.gen_expr.specs.Needs.{arm_needs_of, match_needs_of, needs_of, needs_of_all, needs_of_arms, needs_of_matches}
use Rattle.vm_code.specs.declared.open_cursor.Need.{Need}
use Rattle.vm_code.specs.declared.operand.Operand.{Operand}
use Rattle.vm_code.specs.Track.{Meets, OpenSet, operand_needs}
use Rattle.vm_code.proofs.Meeting.{met_both, met_each, met_left, met_none, met_right}

-- where the one is so of cursors, the other is
abbrev pub Covers : List Need → List Need → Type 0
Covers more needs = (xs : OpenSet) → All (Meets xs) more → All (Meets xs) needs

pub covers_none : (more : List Need) → Covers more []
covers_none more xs met = met_none xs

pub covers_is : {more needs : List Need} → more ≡ needs → Covers more needs
covers_is is xs met = subst (All (Meets xs)) is met

pub covers_left : (needs more : List Need) → Covers (needs ++ more) needs
covers_left needs more xs met = met_left xs needs more met

pub covers_right : (needs more : List Need) → Covers (needs ++ more) more
covers_right needs more xs met = met_right xs needs more met

-- three lists
pub covers_first : (a b c : List Need) → Covers (a ++ b ++ c) a
covers_first a b c xs met = met_left xs a b (met_left xs (a ++ b) c met)

pub covers_second : (a b c : List Need) → Covers (a ++ b ++ c) b
covers_second a b c xs met = met_right xs a b (met_left xs (a ++ b) c met)

pub covers_third : (a b c : List Need) → Covers (a ++ b ++ c) c
covers_third a b c xs met = met_right xs (a ++ b) c met

-- one of those of a list
pub covers_item : {A : Type 0} (f : A → List Need) (those : List A) (i : ℕ) (x : A) → i < length those → x ≡ get_or those i x → Covers (flat_map f those) (f x)
covers_item {A} f those i x lt is xs met =
    subst (λ (y : A). All (Meets xs) (f y)) (sym is) (met_each xs f those met i x lt)

-- ---- operands

operand_met : (xs : OpenSet) (o : Operand) (os : List Operand) → All (Meets xs) (flat_map operand_needs (o ∷ os)) → All (Meets xs) (operand_needs o)
operand_met xs o os met =
    All-head (λ p. All (Meets xs) (operand_needs p)) o os (met_each xs operand_needs (o ∷ os) met)

others_met : (xs : OpenSet) (o : Operand) (os : List Operand) → All (Meets xs) (flat_map operand_needs (o ∷ os)) → All (Meets xs) (flat_map operand_needs os)
others_met xs o os met =
    met_right xs (operand_needs o) (flat_map operand_needs os) (subst (All (Meets xs)) (flat_map-cons operand_needs o os) met)

-- the first two of three
pub covers_low : (o p q : Operand) → Covers (flat_map operand_needs (o ∷ p ∷ q ∷ [])) (operand_needs o ++ operand_needs p)
covers_low o p q xs met =
    met_both xs (operand_needs o) (operand_needs p) (operand_met xs o (p ∷ q ∷ []) met) (operand_met xs p (q ∷ []) (others_met xs o (p ∷ q ∷ []) met))

-- the first and the last of three
pub covers_high : (o p q : Operand) → Covers (flat_map operand_needs (o ∷ p ∷ q ∷ [])) (operand_needs o ++ operand_needs q)
covers_high o p q xs met =
    met_both xs (operand_needs o) (operand_needs q) (operand_met xs o (p ∷ q ∷ []) met) (operand_met xs q [] (others_met xs p (q ∷ []) (others_met xs o (p ∷ q ∷ []) met)))

-- the only one
pub covers_only : (o : Operand) → Covers (flat_map operand_needs (o ∷ [])) (operand_needs o)
covers_only o xs met = operand_met xs o [] met

-- ---- expressions over lists

needs-all : (es : List BoundExpr) → needs_of_all (exprs es) ≡ flat_map needs_of es
needs-all [] = refl
needs-all (x ∷ es) = ap (λ l. needs_of x ++ l) (needs-all es) ∙ sym (flat_map-cons needs_of x es)

needs-arms : (those : List BoundArm) → needs_of_arms (arms those) ≡ flat_map arm_needs_of those
needs-arms [] = refl
needs-arms (x ∷ those) = ap (λ l. arm_needs_of x ++ l) (needs-arms those) ∙ sym (flat_map-cons arm_needs_of x those)

needs-matches : (those : List BoundMatch) → needs_of_matches (matches those) ≡ flat_map match_needs_of those
needs-matches [] = refl
needs-matches (x ∷ those) =
    ap (λ l. match_needs_of x ++ l) (needs-matches those) ∙ sym (flat_map-cons match_needs_of x those)

pub needs_of-In : (sides : Sides) (a : BoundExpr) (others : List BoundExpr) → needs_of (e.In sides a others) ≡ needs_of a ++ flat_map needs_of others
needs_of-In sides a others = ap (λ l. needs_of a ++ l) (needs-all others)

pub needs_of-Coalesce : (f : Builtin) (es : List BoundExpr) → needs_of (e.Coalesce f es) ≡ flat_map needs_of es
needs_of-Coalesce f es = needs-all es

pub needs_of-Choose : (those : List BoundArm) (otherwise : BoundExpr) → needs_of (e.Choose those otherwise) ≡ flat_map arm_needs_of those ++ needs_of otherwise
needs_of-Choose those otherwise = ap (λ l. l ++ needs_of otherwise) (needs-arms those)

pub needs_of-Match : (a : BoundExpr) (those : List BoundMatch) (otherwise : BoundExpr) → needs_of (e.Match a those otherwise) ≡ needs_of a ++ flat_map match_needs_of those ++ needs_of otherwise
needs_of-Match a those otherwise = ap (λ l. needs_of a ++ l ++ needs_of otherwise) (needs-matches those)

pub needs_of-Call : (f : Builtin) (collation : Collation) (args : List BoundExpr) → needs_of (e.Call f collation args) ≡ flat_map needs_of args
needs_of-Call f collation args = needs-all args

-- what an arm needs is what its parts need
pub covers_condition : (arm : BoundArm) → Covers (arm_needs_of arm) (needs_of arm.condition)
covers_condition arm xs met = met_left xs (needs_of arm.condition) (needs_of arm.value) met

pub covers_value : (arm : BoundArm) → Covers (arm_needs_of arm) (needs_of arm.value)
covers_value arm xs met = met_right xs (needs_of arm.condition) (needs_of arm.value) met

pub covers_operand : (arm : BoundMatch) → Covers (match_needs_of arm) (needs_of arm.operand)
covers_operand arm xs met = met_left xs (needs_of arm.operand) (needs_of arm.value) met

pub covers_shown : (arm : BoundMatch) → Covers (match_needs_of arm) (needs_of arm.value)
covers_shown arm xs met = met_right xs (needs_of arm.operand) (needs_of arm.value) met
