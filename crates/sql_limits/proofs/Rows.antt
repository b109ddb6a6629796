-- What stands between the tokens that stand in no expression, where nested tokens are put one behind another.
use Rattle.std.proofs.Common.{◌≡◌, ◌∙◌, ◌&&◌, ◌||◌, ◌⊎◌, Bool, true, false, List, [], ◌∷◌, ◌++◌, refl, sym, subst, ap, append_assoc, inl, inr}
use Rattle.std.specs.List.{AllByRecursion}
use Rattle.sql_tree.specs.declared.token.Token.{Token}
use Rattle.sql_grammar.specs.declared.counts.Role.TheVariants as role
use Rattle.sql_grammar.specs.Marks.{stays, marked}
use Rattle.sql_grammar.proofs.KindSets.{and_true}
use Rattle.sql_grammar.proofs.ReadingLaws.{bool_cases}
use Rattle.sql_limits.specs.Limits.{first_expression, other_expressions, outermost_expressions}
use Rattle.sql_limits.specs.Nestings.{quiet, operator, outside, fresh, part, of_expression, of_others, Nested, nothing, token, bracket, flat}
use Rattle.sql_limits.specs.Outermost.{names, IsNames, IsOneAtMost}
use Rattle.sql_limits.proofs.Nests.{follow, flat_follow}

-- the last of the first and the first of the second become one
abbrev glue : Nested → List Nested → Nested → List Nested → List Nested
glue x [] y ys = follow x y ∷ ys
glue x (z ∷ xs) y ys = x ∷ glue z xs y ys

glue_head : (f : Nested → Nested) → ((x y : Nested) → follow (f x) y ≡ f (follow x y)) → (x : Nested) (xs : List Nested) (y : Nested) (ys : List Nested) (a : Nested) (more : List Nested) → a ∷ more ≡ glue x xs y ys → f a ∷ more ≡ glue (f x) xs y ys
glue_head f h x [] y ys a more e = let one : a ≡ follow x y = cc in let rest : more ≡ ys = cc in ap (λ z. z ∷ more) (ap f one ∙ sym (h x y)) ∙ ap (λ zs. follow (f x) y ∷ zs) rest
glue_head f h x (z ∷ xs) y ys a more e = let one : a ≡ x = cc in let rest : more ≡ glue z xs y ys = cc in ap (λ b. f b ∷ more) one ∙ ap (λ zs. f x ∷ zs) rest

glue_append : (v : Nested) (vs : List Nested) (x : Nested) (xs : List Nested) (y : Nested) (ys : List Nested) → glue v (vs ++ x ∷ xs) y ys ≡ v ∷ (vs ++ glue x xs y ys)
glue_append v [] x xs y ys = refl
glue_append v (u ∷ vs) x xs y ys = ap (λ zs. v ∷ zs) (glue_append u vs x xs y ys)

pub outermost_follow : (m n : Nested) → outermost_expressions (follow m n) ≡ glue (first_expression m) (other_expressions m) (first_expression n) (other_expressions n)
outermost_follow nothing n = refl
outermost_follow (token quiet t m) n = glue_head (λ x. token quiet t x) (λ x y. refl) (first_expression m) (other_expressions m) (first_expression n) (other_expressions n) _ _ (outermost_follow m n)
outermost_follow (token operator t m) n = glue_head (λ x. token operator t x) (λ x y. refl) (first_expression m) (other_expressions m) (first_expression n) (other_expressions n) _ _ (outermost_follow m n)
outermost_follow (token outside t m) n = ap (λ zs. nothing ∷ zs) (outermost_follow m n)
outermost_follow (token fresh t m) n = ap (λ zs. nothing ∷ zs) (outermost_follow m n)
outermost_follow (token part t m) n = ap (λ zs. nothing ∷ zs) (outermost_follow m n)
outermost_follow (bracket of_expression t i z m) n = glue_head (λ x. bracket of_expression t i z x) (λ x y. refl) (first_expression m) (other_expressions m) (first_expression n) (other_expressions n) _ _ (outermost_follow m n)
outermost_follow (bracket of_others t i z m) n =
    ap (λ zs. nothing ∷ (first_expression i ∷ other_expressions i) ++ zs) (outermost_follow m n)
    ∙ sym (glue_append nothing (first_expression i ∷ other_expressions i) (first_expression m) (other_expressions m) (first_expression n) (other_expressions n))

-- ---- rows

abbrev pub head : List Nested → Nested
head [] = nothing
head (x ∷ xs) = x

abbrev pub last : List Nested → Nested
last [] = nothing
last (x ∷ []) = x
last (x ∷ y ∷ ys) = last (y ∷ ys)

abbrev pub is_more : List Nested → Bool
is_more [] = false
is_more (x ∷ []) = false
is_more (x ∷ y ∷ ys) = true

-- Each is one expression at most. The first has names alone, where s; there are two at least, where c; the last has no token, where e.
pub record Row (s c e : Bool) (xs : List Nested) : Type 0 where
  pub each : AllByRecursion IsOneAtMost xs
  pub starts : s ≡ true → IsNames (head xs)
  pub parted : c ≡ true → is_more xs ≡ true
  pub ends : e ≡ true → last xs ≡ nothing

names_append : (ts us : List Token) → names (ts ++ us) ≡ names ts ++ names us
names_append [] us = refl
names_append (t ∷ ts) us = ap (λ w. marked (stays role.Quiet) t ∷ w) (names_append ts us)

names_join : (x y : Nested) → IsNames x → IsNames y → IsNames (follow x y)
names_join x y a b = (a.0 ++ b.0, flat_follow x y ∙ ap (λ w. w ++ flat y) a.1 ∙ ap (λ w. names a.0 ++ w) b.1 ∙ sym (names_append a.0 b.0))

with_names : (x y : Nested) → IsOneAtMost x → IsNames y → IsOneAtMost (follow x y)
with_names x y (inl a) b = inl (names_join x y a b)
with_names x y (inr a) b = inr (
  a.0,
  a.1,
  a.2,
  a.3 ++ b.0,
  a.4,
  flat_follow x y ∙ ap (λ w. w ++ flat y) a.5 ∙ ap (λ w. (a.1 ++ names a.3) ++ w) b.1 ∙ append_assoc a.1 (names a.3) (names b.0) ∙ ap (λ w. a.1 ++ w) (sym (names_append a.3 b.0)),
)

glue_some : (x : Nested) (xs : List Nested) (y : Nested) (ys : List Nested) → (z : Nested) × (zs : List Nested) × (glue x xs y ys ≡ z ∷ zs)
glue_some x [] y ys = (follow x y, ys, refl)
glue_some x (z ∷ xs) y ys = (x, glue z xs y ys, refl)

last_behind : (x : Nested) (xs : List Nested) → ((z : Nested) × (zs : List Nested) × (xs ≡ z ∷ zs)) → last (x ∷ xs) ≡ last xs
last_behind x xs some = ap (λ ys. last (x ∷ ys)) some.2 ∙ sym (ap last some.2)

more_behind : (x : Nested) (xs : List Nested) → ((z : Nested) × (zs : List Nested) × (xs ≡ z ∷ zs)) → is_more (x ∷ xs) ≡ true
more_behind x xs some = ap (λ ys. is_more (x ∷ ys)) some.2

more_same : (x y : Nested) (ys : List Nested) → is_more (y ∷ ys) ≡ true → is_more (x ∷ ys) ≡ true
more_same x y [] h = cc
more_same x y (z ∷ ys) h = refl

or_else : (a b : Bool) → (a || b) ≡ true → a ≡ false → b ≡ true
or_else true b h e = cc
or_else false b h e = h

-- the last of the one has no token, or the first of the other has names alone
glue_one : (s c e s' c' e' : Bool) (x y : Nested) (ys : List Nested) → Row s c e (x ∷ []) → Row s' c' e' (y ∷ ys) → (e || s') ≡ true → Row (s && (c || s')) (c || c') (e' && (c' || e)) (follow x y ∷ ys)
glue_one s c e s' c' e' x y ys f g h = record { each = (joined (bool_cases e), g.each.1); starts = starts; parted = parted; ends = ends ys g.parted g.ends } where
  alone : c ≡ false
  alone = elim (bool_cases c) [ inl a ↦ absurd (let m = f.parted a in cc) | inr a ↦ a ]

  joined : (e ≡ true) ⊎ (e ≡ false) → IsOneAtMost (follow x y)
  joined (inl a) = subst (λ z. IsOneAtMost (follow z y)) (sym (f.ends a)) g.each.0
  joined (inr a) = with_names x y f.each.0 (g.starts (or_else e s' h a))

  starts : (s && (c || s')) ≡ true → IsNames (follow x y)
  starts k = let p = and_true s _ k in names_join x y (f.starts p.0) (g.starts (or_else c s' p.1 alone))

  parted : (c || c') ≡ true → is_more (follow x y ∷ ys) ≡ true
  parted k = more_same (follow x y) y ys (g.parted (or_else c c' k alone))

  ends : (zs : List Nested) → (c' ≡ true → is_more (y ∷ zs) ≡ true) → (e' ≡ true → last (y ∷ zs) ≡ nothing) → (e' && (c' || e)) ≡ true → last (follow x y ∷ zs) ≡ nothing
  ends [] m l k =
      let p = and_true e' _ k in
      let none : c' ≡ false = elim (bool_cases c') [ inl a ↦ absurd (let b = m a in cc) | inr a ↦ a ] in
      let first = f.ends (or_else c' e p.1 none) in
      let second = l p.0 in
      ap (λ z. follow z y) first ∙ second
  ends (z ∷ zs) m l k = let p = and_true e' _ k in l p.0

pub glue_rows : (s c e s' c' e' : Bool) (x : Nested) (xs : List Nested) (y : Nested) (ys : List Nested) → Row s c e (x ∷ xs) → Row s' c' e' (y ∷ ys) → (e || s') ≡ true → Row (s && (c || s')) (c || c') (e' && (c' || e)) (glue x xs y ys)
glue_rows s c e s' c' e' x [] y ys f g h = glue_one s c e s' c' e' x y ys f g h
glue_rows s c e s' c' e' x (z ∷ xs) y ys f g h =
    let more = glue_rows false false e s' c' e' z xs y ys (record { each = f.each.1; starts = λ k. cc; parted = λ k. cc; ends = f.ends }) g h in
    let some = glue_some z xs y ys in
    record { each = (f.each.0, more.each); starts = λ k. (let p = and_true s _ k in f.starts p.0); parted = λ k. more_behind x (glue z xs y ys) some; ends = λ k. last_behind x (glue z xs y ys) some ∙ more.ends k }
