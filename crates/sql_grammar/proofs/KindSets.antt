-- Sets of kinds, and tests of them.
use Rattle.std.proofs.Common.{◌≡◌, not, ◌&&◌, ◌||◌, Bool, true, false, List, [], ◌∷◌, if◌then◌else◌, refl, sym, subst, inl, inr}
use denote.Enum.Bare.{same_true}
use Rattle.sql_tree.specs.contracts.token.TokenKind.{the_type}
use Rattle.sql_tree.specs.declared.token.Token.{Token}
use Rattle.sql_tree.specs.declared.token.TokenKind.{TokenKind}
use Rattle.sql_tree.specs.Kinds.{same_kind}
use Rattle.sql_grammar.specs.Rules.{Kinds, join, has, starts, apart}
use Rattle.sql_grammar.proofs.ReadingLaws.{bool_cases}

pub and_true : (a b : Bool) → (a && b) ≡ true → (a ≡ true) × (b ≡ true)
and_true true b e = (refl, e)
and_true false b e = cc

pub or_false : (a b : Bool) → (a || b) ≡ false → (a ≡ false) × (b ≡ false)
or_false true b e = cc
or_false false b e = (refl, e)

pub or_left : (a b : Bool) → a ≡ true → (a || b) ≡ true
or_left true b e = refl
or_left false b e = cc

pub or_right : (a b : Bool) → b ≡ true → (a || b) ≡ true
or_right true b e = refl
or_right false b e = e

pub not_true : (a : Bool) → not a ≡ true → a ≡ false
not_true true e = cc
not_true false e = refl

pub other_kind : (b : Bool) (x y : Kinds) (n : TokenKind) → has x n ≡ true → has y n ≡ true → has (if b then x else y) n ≡ true
other_kind true x y n p q = p
other_kind false x y n p q = q

pub has_right : (ks js : Kinds) (n : TokenKind) → has js n ≡ true → has (join ks js) n ≡ true
has_right [] js n e = e
has_right (k ∷ ks) js n e = other_kind (has js k) (join ks js) (k ∷ join ks js) n (has_right ks js n e) (or_right (same_kind n k) _ (has_right ks js n e))

pub has_left : (ks js : Kinds) (n : TokenKind) → has ks n ≡ true → has (join ks js) n ≡ true
has_left [] js n e = cc
has_left (k ∷ ks) js n e =
    elim (bool_cases (same_kind n k)) [
      | inl h ↦ (let same : n ≡ k = same_true the_type tt n k h in
          elim (bool_cases (has js k)) [
            | inl b ↦ has_right (k ∷ ks) js n (subst (λ (m : TokenKind). has js m ≡ true) (sym same) b)
            | inr b ↦ rw b (or_left (same_kind n k) _ h)
          ])
      | inr h ↦ (let rest : has ks n ≡ true = rw h at e in
          other_kind (has js k) (join ks js) (k ∷ join ks js) n (has_left ks js n rest) (or_right (same_kind n k) _ (has_left ks js n rest)))
    ]

pub not_has : (ks js : Kinds) (n : TokenKind) → has (join ks js) n ≡ false → (has ks n ≡ false) × (has js n ≡ false)
not_has ks js n e = (
  elim (bool_cases (has ks n)) [ inl b ↦ (let c = has_left ks js n b in cc) | inr b ↦ b ],
  elim (bool_cases (has js n)) [ inl b ↦ (let c = has_right ks js n b in cc) | inr b ↦ b ],
)

pub starts_apart : (ks js : Kinds) (ts : List Token) → starts (join ks js) ts ≡ false → (starts ks ts ≡ false) × (starts js ts ≡ false)
starts_apart ks js [] e = (refl, refl)
starts_apart ks js (t ∷ ts) e = not_has ks js t.kind e

pub apart_has : (ks js : Kinds) (n : TokenKind) → apart ks js ≡ true → has js n ≡ true → has ks n ≡ false
apart_has [] js n e h = refl
apart_has (k ∷ ks) js n e h =
    let p = and_true (not (has js k)) (apart ks js) e in
    elim (bool_cases (same_kind n k)) [
      | inl same ↦ (let is : n ≡ k = same_true the_type tt n k same in let no : has js k ≡ false = not_true _ p.0 in let yes : has js k ≡ true = subst (λ (m : TokenKind). has js m ≡ true) is h in cc)
      | inr different ↦ rw different (apart_has ks js n p.1 h)
    ]
