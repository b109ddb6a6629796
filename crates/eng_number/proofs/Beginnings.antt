-- Laws of forms and of the longest beginnings of a form, byte by byte.
use Rattle.std.proofs.Common.{◌≡◌, ℕ, zero, suc, ◌≤◌, Bool, true, false, ◌&&◌, ◌||◌, cond, List, [], ◌∷◌, ◌++◌, map, length, take, drop, Option, Some, None, refl, sym, ap, ◌∙◌, arith}
use Rattle.std.specs.List.{filter, list_any}
use Rattle.std.specs.Option.{option_map}
use mathlib.Core.Path.{fun_ext}
use Rattle.eng_number.specs.Forms.{Form, ◌then◌, cuts, either, empty, last_of, longest, optional}

-- ---- cuts

abbrev Cut : Type 0
Cut = List ℕ × List ℕ

-- what may follow a byte
abbrev pub behind : ℕ → Form → Form
behind b p = λ bytes. p (b ∷ bytes)

any_map : {A B : Type 0} (f : A → B) (test : B → Bool) (xs : List A) → list_any test (map f xs) ≡ list_any (λ x. test (f x)) xs
any_map f test [] = refl
any_map f test (x ∷ xs) = ap (λ b. test (f x) || b) (any_map f test xs)

pub then-nil : (p q : Form) → (p then q) [] ≡ (p [] && q [])
then-nil p q = or_none (p [] && q [])
  where
    or_none : (b : Bool) → (b || false) ≡ b
    or_none true = refl
    or_none false = refl

pub then-cons : (p q : Form) (b : ℕ) (bytes : List ℕ) → (p then q) (b ∷ bytes) ≡ ((p [] && q (b ∷ bytes)) || (behind b p then q) bytes)
then-cons p q b bytes =
    ap (λ t. (p [] && q (b ∷ bytes)) || t) (any_map (λ (c : Cut). (b ∷ c.0, c.1)) (λ (c : Cut). p c.0 && q c.1) (cuts bytes))

-- ---- the longest beginning, byte by byte

-- the longest beginning where no longer one than the empty one passes
abbrev pub alone : Bool → Option (List ℕ)
alone true = Some []
alone false = None

-- the longest beginning of a text with the byte in front, from the one of what may follow the byte
abbrev pub grown : ℕ → Bool → Option (List ℕ) → Option (List ℕ)
grown b passes (Some x) = Some (b ∷ x)
grown b passes None = alone passes

map-map : {A B C : Type 0} (f : A → B) (g : B → C) (xs : List A) → map g (map f xs) ≡ map (λ x. g (f x)) xs
map-map f g [] = refl
map-map f g (x ∷ xs) = ap (λ ys. g (f x) ∷ ys) (map-map f g xs)

cond-map : {A B : Type 0} (f : A → B) (t : Bool) (x : A) (xs : List A) → cond t (f x ∷ map f xs) (map f xs) ≡ map f (cond t (x ∷ xs) xs)
cond-map f true x xs = refl
cond-map f false x xs = refl

filter-cons : (p : Form) (b : ℕ) (xs : List (List ℕ)) → filter p (map (λ x. b ∷ x) xs) ≡ map (λ x. b ∷ x) (filter (behind b p) xs)
filter-cons p b [] = refl
filter-cons p b (x ∷ xs) =
    ap (λ ys. cond (p (b ∷ x)) ((b ∷ x) ∷ ys) ys) (filter-cons p b xs) ∙ cond-map (λ y. b ∷ y) (p (b ∷ x)) x (filter (behind b p) xs)

last-map : (b : ℕ) (xs : List (List ℕ)) → last_of (map (λ x. b ∷ x) xs) ≡ option_map (λ x. b ∷ x) (last_of xs)
last-map b [] = refl
last-map b (x ∷ []) = refl
last-map b (x ∷ y ∷ xs) = last-map b (y ∷ xs)

some_grown : (b : ℕ) (passes : Bool) (x : List ℕ) (xs : List (List ℕ)) → option_map (λ y. b ∷ y) (last_of (x ∷ xs)) ≡ grown b passes (last_of (x ∷ xs))
some_grown b passes x [] = refl
some_grown b passes x (y ∷ xs) = some_grown b passes y xs

last-grown : (b : ℕ) (passes : Bool) (xs : List (List ℕ)) → last_of (cond passes ([] ∷ map (λ x. b ∷ x) xs) (map (λ x. b ∷ x) xs)) ≡ grown b passes (last_of xs)
last-grown b true [] = refl
last-grown b false [] = refl
last-grown b true (x ∷ xs) = last-map b (x ∷ xs) ∙ some_grown b true x xs
last-grown b false (x ∷ xs) = last-map b (x ∷ xs) ∙ some_grown b false x xs

pub longest-nil : (p : Form) → longest p [] ≡ alone (p [])
longest-nil p = by (p [])
  where
    by : (t : Bool) → last_of (cond t ([] ∷ []) []) ≡ alone t
    by true = refl
    by false = refl

pub longest-cons : (p : Form) (b : ℕ) (bytes : List ℕ) → longest p (b ∷ bytes) ≡ grown b (p []) (longest (behind b p) bytes)
longest-cons p b bytes =
    let inner : map (λ (c : Cut). c.0) (map (λ (c : Cut). (b ∷ c.0, c.1)) (cuts bytes)) ≡ map (λ x. b ∷ x) (map (λ (c : Cut). c.0) (cuts bytes)) =
    map-map (λ (c : Cut). (b ∷ c.0, c.1)) (λ (c : Cut). c.0) (cuts bytes) ∙ sym (map-map (λ (c : Cut). c.0) (λ x. b ∷ x) (cuts bytes)) in
    ap (λ fs. last_of (cond (p []) ([] ∷ filter p fs) (filter p fs))) inner
    ∙ ap (λ fs. last_of (cond (p []) ([] ∷ fs) fs)) (filter-cons p b (map (λ (c : Cut). c.0) (cuts bytes)))
    ∙ last-grown b (p []) (filter (behind b p) (map (λ (c : Cut). c.0) (cuts bytes)))

-- ---- what a longest beginning tells of the form

pub some_same : {A : Type 0} (x y : A) → Some x ≡ Some y → x ≡ y
some_same x y e = cc

pub some_none : {A B : Type 0} (x : A) → Some x ≡ None → B
some_none x e = absurd (cc)

-- the cases of `alone` and `grown`
alone-none : (passes : Bool) → alone passes ≡ None → passes ≡ false
alone-none true e = some_none [] e
alone-none false e = refl

alone-some : (passes : Bool) (x : List ℕ) → alone passes ≡ Some x → (passes ≡ true) × (x ≡ [])
alone-some true x e = (refl, sym (some_same [] x e))
alone-some false x e = some_none x (sym e)

grown-none : (b : ℕ) (passes : Bool) (r : Option (List ℕ)) → grown b passes r ≡ None → (passes ≡ false) × (r ≡ None)
grown-none b passes (Some x) e = some_none (b ∷ x) e
grown-none b passes None e = (alone-none passes e, refl)

grown-nil : (b : ℕ) (passes : Bool) (r : Option (List ℕ)) → grown b passes r ≡ Some [] → (passes ≡ true) × (r ≡ None)
grown-nil b passes (Some x) e = absurd (cc)
grown-nil b passes None e = ((alone-some passes [] e).0, refl)

grown-cons : (b : ℕ) (passes : Bool) (r : Option (List ℕ)) (x : List ℕ) → grown b passes r ≡ Some (b ∷ x) → r ≡ Some x
grown-cons b passes (Some y) x e = cc
grown-cons b passes None x e = let is = (alone-some passes (b ∷ x) e).1 in absurd (cc)

-- where there is none, the empty text does not pass
pub longest-none : (p : Form) (bytes : List ℕ) → longest p bytes ≡ None → p [] ≡ false
longest-none p [] e = alone-none (p []) (sym (longest-nil p) ∙ e)
longest-none p (b ∷ bytes) e = (grown-none b (p []) (longest (behind b p) bytes) (sym (longest-cons p b bytes) ∙ e)).0

pub longest-passes : (p : Form) (bytes x : List ℕ) → longest p bytes ≡ Some x → p x ≡ true
longest-passes p [] x e = let is = alone-some (p []) x (sym (longest-nil p) ∙ e) in ap p is.1 ∙ is.0
longest-passes p (b ∷ bytes) x e = by (longest (behind b p) bytes) (longest-passes (behind b p) bytes) (sym (longest-cons p b bytes) ∙ e)
  where
    by : (r : Option (List ℕ)) → ((y : List ℕ) → r ≡ Some y → p (b ∷ y) ≡ true) → grown b (p []) r ≡ Some x → p x ≡ true
    by (Some y) passes e = ap p (sym (some_same (b ∷ y) x e)) ∙ passes y refl
    by None passes e = let is = alone-some (p []) x e in ap p is.1 ∙ is.0

-- a text that passes is its own longest beginning
pub longest-whole : (p : Form) (bytes : List ℕ) → p bytes ≡ true → longest p bytes ≡ Some bytes
longest-whole p [] e = longest-nil p ∙ ap alone e
longest-whole p (b ∷ bytes) e = longest-cons p b bytes ∙ ap (grown b (p [])) (longest-whole (behind b p) bytes e)

-- ---- forms that no text has, and the form of the empty text

abbrev pub never : Form
never bytes = false

pub longest-never : (bytes : List ℕ) → longest never bytes ≡ None
longest-never [] = longest-nil never
longest-never (b ∷ bytes) = longest-cons never b bytes ∙ ap (grown b false) (longest-never bytes)

pub never-then : (q : Form) (bytes : List ℕ) → (never then q) bytes ≡ false
never-then q [] = then-nil never q
never-then q (b ∷ bytes) = then-cons never q b bytes ∙ never-then q bytes

pub longest-empty : (bytes : List ℕ) → longest empty bytes ≡ Some []
longest-empty [] = longest-nil empty
longest-empty (b ∷ bytes) = longest-cons empty b bytes ∙ ap (grown b true) (longest-never bytes)

-- ---- either of two forms

or-none : (s t : Bool) → t ≡ false → (s || t) ≡ s
or-none true t e = refl
or-none false t e = e

pub longest-either_left : (p q : Form) (bytes : List ℕ) → longest q bytes ≡ None → longest (either p q) bytes ≡ longest p bytes
longest-either_left p q [] e =
    longest-nil (either p q) ∙ ap alone (or-none (p []) (q []) (longest-none q [] e)) ∙ sym (longest-nil p)
longest-either_left p q (b ∷ bytes) e =
    let none = grown-none b (q []) (longest (behind b q) bytes) (sym (longest-cons q b bytes) ∙ e) in
    longest-cons (either p q) b bytes
    ∙ ap (λ t. grown b t (longest (either (behind b p) (behind b q)) bytes)) (or-none (p []) (q []) none.0)
    ∙ ap (grown b (p [])) (longest-either_left (behind b p) (behind b q) bytes none.1)
    ∙ sym (longest-cons p b bytes)

or-comm : (s t : Bool) → (s || t) ≡ (t || s)
or-comm true true = refl
or-comm true false = refl
or-comm false true = refl
or-comm false false = refl

pub longest-either_right : (p q : Form) (bytes : List ℕ) → longest p bytes ≡ None → longest (either p q) bytes ≡ longest q bytes
longest-either_right p q bytes e =
    let swapped : either p q ≡ either q p = fun_ext (λ x. or-comm (p x) (q x)) in
    ap (λ r. longest r bytes) swapped ∙ longest-either_left q p bytes e

pub longest-optional_none : (p : Form) (bytes : List ℕ) → longest p bytes ≡ None → longest (optional p) bytes ≡ Some []
longest-optional_none p bytes e = longest-either_left empty p bytes e ∙ longest-empty bytes

pub longest-optional : (p : Form) (bytes x : List ℕ) → longest p bytes ≡ Some x → longest (optional p) bytes ≡ Some x
longest-optional p [] x e = longest-nil (optional p) ∙ ap Some (sym (alone-some (p []) x (sym (longest-nil p) ∙ e)).1)
longest-optional p (b ∷ bytes) x e = longest-cons (optional p) b bytes ∙ by (longest (behind b p) bytes) (sym (longest-cons p b bytes) ∙ e)
  where
    by : (r : Option (List ℕ)) → grown b (p []) r ≡ Some x → grown b true r ≡ Some x
    by (Some y) e = e
    by None e = ap Some (sym (alone-some (p []) x e).1)

-- ---- one form behind another

-- no text of q begins with a byte that stands in a text of p
pub record Apart (p q : Form) : Type 0 where
  pub apart : (b : ℕ) (x y z : List ℕ) → p (x ++ b ∷ y) ≡ true → q (b ∷ z) ≡ false

behind-then : (p q : Form) (b : ℕ) → behind b (p then q) ≡ either (λ x. p [] && q (b ∷ x)) (behind b p then q)
behind-then p q b = fun_ext (then-cons p q b)

pub longest-then_none : (p q : Form) (bytes : List ℕ) → longest p bytes ≡ None → longest (p then q) bytes ≡ None
longest-then_none p q [] e =
    longest-nil (p then q) ∙ ap alone (then-nil p q ∙ ap (λ t. t && q []) (longest-none p [] e))
longest-then_none p q (b ∷ bytes) e =
    let none = grown-none b (p []) (longest (behind b p) bytes) (sym (longest-cons p b bytes) ∙ e) in
    let passes : (p then q) [] ≡ false = then-nil p q ∙ ap (λ t. t && q []) none.0 in
    let rest : behind b (p then q) ≡ (behind b p then q) = behind-then p q b ∙ fun_ext (λ x. ap (λ t. (t && q (b ∷ x)) || (behind b p then q) x) none.0) in
    longest-cons (p then q) b bytes
    ∙ ap (λ t. grown b t (longest (behind b (p then q)) bytes)) passes
    ∙ ap (λ (r : Form). grown b false (longest r bytes)) rest
    ∙ ap (grown b false) (longest-then_none (behind b p) q bytes none.1)

option_map-same : {A : Type 0} (f : A → A) (o : Option A) → ((x : A) → f x ≡ x) → option_map f o ≡ o
option_map-same f None same = refl
option_map-same f (Some x) same = ap Some (same x)

-- the longest text of the one form, and the longest of the other behind it
pub longest-then : (p q : Form) → Apart p q → (n : ℕ) (bytes : List ℕ) → n ≤ length bytes → longest p bytes ≡ Some (take n bytes)
    → longest (p then q) bytes ≡ option_map (λ x. take n bytes ++ x) (longest q (drop n bytes))
longest-then p q far (suc n) [] l e = absurd (omega arith)
longest-then p q far zero [] l e =
    let passes : p [] ≡ true = longest-passes p [] [] e in
    longest-nil (p then q)
    ∙ ap alone (then-nil p q ∙ ap (λ t. t && q []) passes)
    ∙ sym (longest-nil q)
    ∙ sym (option_map-same (λ x. x) (longest q []) (λ x. refl))
longest-then p q far zero (b ∷ bytes) l e =
    let first = grown-nil b (p []) (longest (behind b p) bytes) (sym (longest-cons p b bytes) ∙ e) in
    let passes : (p then q) [] ≡ q [] = then-nil p q ∙ ap (λ t. t && q []) first.0 in
    let rest : behind b (p then q) ≡ either (behind b q) (behind b p then q) =
    behind-then p q b ∙ fun_ext (λ x. ap (λ t. (t && q (b ∷ x)) || (behind b p then q) x) first.0) in
    longest-cons (p then q) b bytes
    ∙ ap (λ t. grown b t (longest (behind b (p then q)) bytes)) passes
    ∙ ap (λ (r : Form). grown b (q []) (longest r bytes)) rest
    ∙ ap (grown b (q [])) (longest-either_left (behind b q) (behind b p then q) bytes (longest-then_none (behind b p) q bytes first.1))
    ∙ sym (longest-cons q b bytes)
    ∙ sym (option_map-same (λ x. x) (longest q (b ∷ bytes)) (λ x. refl))
longest-then p q far (suc n) (b ∷ bytes) l e =
    let inner : longest (behind b p) bytes ≡ Some (take n bytes) = grown-cons b (p []) (longest (behind b p) bytes) (take n bytes) (sym (longest-cons p b bytes) ∙ e) in
    let alone : (x : List ℕ) → q (b ∷ x) ≡ false = λ x. far.apart b [] (take n bytes) x (longest-passes p (b ∷ bytes) (b ∷ take n bytes) e) in
    let rest : behind b (p then q) ≡ (behind b p then q) =
    behind-then p q b ∙ fun_ext (λ x. ap (λ t. (p [] && t) || (behind b p then q) x) (alone x) ∙ ap (λ t. t || (behind b p then q) x) (and-false (p []))) in
    let further : Apart (behind b p) q = record { apart = λ c x y z i. far.apart c (b ∷ x) y z i } in
    longest-cons (p then q) b bytes
    ∙ ap (λ (r : Form). grown b ((p then q) []) (longest r bytes)) rest
    ∙ ap (grown b ((p then q) [])) (longest-then (behind b p) q further n bytes (omega arith) inner)
    ∙ ap (λ t. grown b t (option_map (λ x. take n bytes ++ x) (longest q (drop n bytes)))) (then-nil p q)
    ∙ by (longest q (drop n bytes)) (longest-none q (drop n bytes))
  where
    and-false : (t : Bool) → (t && false) ≡ false
    and-false true = refl
    and-false false = refl

    by : (o : Option (List ℕ)) → (o ≡ None → q [] ≡ false)
        → grown b (p [] && q []) (option_map (λ x. take n bytes ++ x) o) ≡ option_map (λ x. (b ∷ take n bytes) ++ x) o
    by None none = ap (λ t. grown b (p [] && t) None) (none refl) ∙ ap (λ t. grown b t None) (and-false (p []))
    by (Some x) none = refl
