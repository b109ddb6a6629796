-- What the words of the grammar read, in the steps of the code.
use Rattle.std.proofs.Common.{◌≡◌, ℕ, ◌<◌, subst, arith, length, true, false, List, [], ◌∷◌, ◌++◌, append_assoc, append-nil, Some, None, Result, Ok, Err, refl, ap, sym, ◌∙◌, inl, inr}
use Rattle.sql_tree.specs.declared.token.Token.{Token}
use Rattle.sql_tree.specs.declared.token.TokenKind.{TokenKind}
use Rattle.sql_tree.specs.declared.token.TokenKind.TheVariants as kind
use Rattle.sql_tree.specs.declared.expr.BinaryOp.{BinaryOp}
use Rattle.sql_tree.specs.declared.expr.Expr.{Expr}
use Rattle.sql_tree.specs.declared.expr.Expr.TheVariants as tree
use Rattle.sql_grammar.specs.declared.counts.Counts.{Counts}
use Rattle.sql_grammar.specs.declared.counts.Limit.{Limit}
use Rattle.sql_grammar.specs.declared.counts.Role.{Role}
use Rattle.sql_grammar.specs.declared.counts.Role.TheVariants as role
use Rattle.sql_grammar.specs.Marks.{count}
use Rattle.sql_grammar.specs.Rules.{Kinds, has, starts, first, is_clear, can_be_empty, many, to, over, before, both, taken, Parser, reads, one, Done, Stop, ◌>>=◌, Outcome}
use Rattle.sql_grammar.specs.Grammar.{Name, Of, maybe, after, list_of, or_none, infix_by, suffixed, applied}
use Rattle.sql_grammar.specs.Bodies.{rules}
use Rattle.sql_grammar.specs.Queries.{given}
use Rattle.sql_grammar.proofs.ReadingLaws.{other, chosen, bool_cases}
use Rattle.sql_grammar.proofs.Whole.{many_is, no_longer, takes_some}
use Rattle.sql_grammar.proofs.Clear.{clear, rich}
use Rattle.parse_cursor.specs.Gives.{collected, apply_to, apply_one}

pub both_to : {A B C : Type 0} (p : Parser A) (q : Parser B) (f : A × B → C) (c : Counts) (ts : List Token)
    → (◌>>=◌ {A = A × B} (both p q c ts) (λ x e rest. Done (f x) e rest)) ≡ (p c ts >>= λ a e rest. q e rest >>= λ b g end. Done (f (a, b)) g end)
both_to {A} {B} p q f c ts = first_of_two (p c ts) where
  second : (a : A) (o : Outcome B) → (◌>>=◌ {A = A × B} (o >>= λ b g end. Done (a, b) g end) (λ x e rest. Done (f x) e rest)) ≡ (o >>= λ b g end. Done (f (a, b)) g end)
  second a (Done b g end) = refl
  second a (Stop w end) = refl

  first_of_two : (o : Outcome A) → (◌>>=◌ {A = A × B} (o >>= λ a e rest. q e rest >>= λ b g end. Done (a, b) g end) (λ x e rest. Done (f x) e rest)) ≡ (o >>= λ a e rest. q e rest >>= λ b g end. Done (f (a, b)) g end)
  first_of_two (Done a e rest) = second a (q e rest)
  first_of_two (Stop w rest) = refl

pub one_shorter : (m : Role) (ks : Kinds) (c e : Counts) (ts rest : List Token) (t : Token) → one m ks c ts ≡ Done t e rest → length rest < length ts
one_shorter m ks c e [] rest t is = cc is
one_shorter m ks c e (x ∷ ts) rest t is = elim (bool_cases (has ks x.kind)) [
  | inl here ↦ at (count m c) (sym (chosen _ _ _ here) ∙ is)
  | inr none ↦ (let no : one m ks c (x ∷ ts) ≡ Stop _ (x ∷ ts) = other _ _ _ none in cc (no, is))
] where
  at : (q : Result Counts Limit) → taken q x ts ≡ Done t e rest → length rest < length (x ∷ ts)
  at (Ok f) h = let same : ts ≡ rest = cc h in subst (λ (v : List Token). length v < length (x ∷ ts)) same (omega arith)
  at (Err l) h = cc h

-- ---- words

-- a token, and what comes after it
pub after_to : {A B : Type 0} (f : A → B) (m : Role) (k : TokenKind) (r : Of A) (d : ℕ) (c : Counts) (ts : List Token) → reads Name rules d (to f (after m k r)) c ts ≡ (one m (k ∷ []) c ts >>= λ t e rest. reads Name rules d r e rest >>= λ a g end. Done (f a) g end)
after_to {A} f m k r d c ts = word (one m (k ∷ []) c ts) where
  inner : (t : Token) (o : Outcome A) → ((◌>>=◌ {A = Token × A} (o >>= λ b g end. Done (t, b) g end) (λ p g end. Done p.1 g end)) >>= λ a g end. Done (f a) g end) ≡ (o >>= λ a g end. Done (f a) g end)
  inner t (Done a g end) = refl
  inner t (Stop w end) = refl

  word : (o : Outcome Token) → ((◌>>=◌ {A = Token × A} (o >>= λ t e rest. reads Name rules d r e rest >>= λ b g end. Done (t, b) g end) (λ p g end. Done p.1 g end)) >>= λ a g end. Done (f a) g end) ≡ (o >>= λ t e rest. reads Name rules d r e rest >>= λ a g end. Done (f a) g end)
  word (Done t e rest) = inner t (reads Name rules d r e rest)
  word (Stop w rest) = refl

pub after_is : {A : Type 0} (m : Role) (k : TokenKind) (r : Of A) (d : ℕ) (c : Counts) (ts : List Token) → reads Name rules d (after m k r) c ts ≡ (one m (k ∷ []) c ts >>= λ t e rest. reads Name rules d r e rest)
after_is {A} m k r d c ts = word (one m (k ∷ []) c ts) where
  inner : (t : Token) (o : Outcome A) → (◌>>=◌ {A = Token × A} (o >>= λ b g end. Done (t, b) g end) (λ p g end. Done p.1 g end)) ≡ o
  inner t (Done a g end) = refl
  inner t (Stop w end) = refl

  word : (o : Outcome Token) → (◌>>=◌ {A = Token × A} (o >>= λ t e rest. reads Name rules d r e rest >>= λ b g end. Done (t, b) g end) (λ p g end. Done p.1 g end)) ≡ (o >>= λ t e rest. reads Name rules d r e rest)
  word (Done t e rest) = inner t (reads Name rules d r e rest)
  word (Stop w rest) = refl

pub maybe_some : {A : Type 0} (m : Role) (k : TokenKind) (r : Of A) (d : ℕ) (c : Counts) (ts : List Token) → starts (k ∷ []) ts ≡ true → reads Name rules d (maybe (after m k r)) c ts ≡ (one m (k ∷ []) c ts >>= λ t e rest. reads Name rules d r e rest >>= λ a g end. Done (Some a) g end)
maybe_some m k r d c ts here = chosen _ _ _ here ∙ after_to Some m k r d c ts

pub maybe_none : {A : Type 0} (m : Role) (k : TokenKind) (r : Of A) (d : ℕ) (c : Counts) (ts : List Token) → starts (k ∷ []) ts ≡ false → reads Name rules d (maybe (after m k r)) c ts ≡ Done None c ts
maybe_none m k r d c ts none = other _ _ _ none

-- ---- of what stands in front

pub apply_done : {A X : Type 0} (f : A → X → Expr) (x : X) (o : Outcome A) → apply_one x (o >>= λ a g end. Done (f a) g end) ≡ (o >>= λ a g end. Done (f a x) g end)
apply_done f x (Done a g end) = refl
apply_done f x (Stop w end) = refl

pub apply_after : {A X : Type 0} (f : A → X → Expr) (m : Role) (k : TokenKind) (r : Of A) (x : X) (d : ℕ) (c : Counts) (ts : List Token) → apply_one x (reads Name rules d (to f (after m k r)) c ts) ≡ (one m (k ∷ []) c ts >>= λ t e rest. reads Name rules d r e rest >>= λ a g end. Done (f a x) g end)
apply_after {A} f m k r x d c ts = ap (apply_one x) (after_to f m k r d c ts) ∙ word (one m (k ∷ []) c ts) where
  word : (o : Outcome Token) → apply_one x (o >>= λ t e rest. reads Name rules d r e rest >>= λ a g end. Done (f a) g end) ≡ (o >>= λ t e rest. reads Name rules d r e rest >>= λ a g end. Done (f a x) g end)
  word (Done t e rest) = apply_done f x (reads Name rules d r e rest)
  word (Stop w rest) = refl

pub apply_both : {A B X : Type 0} (p : Parser A) (q : Parser B) (f : A × B → X → Expr) (x : X) (c : Counts) (ts : List Token) → apply_one x (◌>>=◌ {A = A × B} (both p q c ts) (λ y e rest. Done (f y) e rest)) ≡ (p c ts >>= λ a e rest. q e rest >>= λ b g end. Done (f (a, b) x) g end)
apply_both {A} {B} p q f x c ts = ap (apply_one x) (both_to p q f c ts) ∙ word (p c ts) where
  word : (o : Outcome A) → apply_one x (o >>= λ a e rest. q e rest >>= λ b g end. Done (f (a, b)) g end) ≡ (o >>= λ a e rest. q e rest >>= λ b g end. Done (f (a, b) x) g end)
  word (Done a e rest) = apply_done (λ b. f (a, b)) x (q e rest)
  word (Stop w rest) = refl

-- ---- lists

pub many_step : {A : Type 0} (r : Of A) (d : ℕ) (found : List A) (c : Counts) (ts : List Token) → is_clear Name rules (many r) ≡ true → starts (first r) ts ≡ true
    → collected found (reads Name rules d (many r) c ts) ≡ (reads Name rules d r c ts >>= λ a e rest. collected (found ++ a ∷ []) (reads Name rules d (many r) e rest))
many_step {A} r d found c ts h here =
    ap (collected found) (many_is Name rules clear rich r h d c ts ∙ chosen _ _ _ here) ∙ outer (reads Name rules d r c ts) where
      inner : (a : A) (o : Outcome (List A)) → collected found (o >>= λ more f end. Done (a ∷ more) f end) ≡ collected (found ++ a ∷ []) o
      inner a (Done more f end) = ap (λ l. Done l f end) (sym (append_assoc found (a ∷ []) more))
      inner a (Stop w end) = refl

      outer : (o : Outcome A) → collected found (o >>= λ a e rest. reads Name rules d (many r) e rest >>= λ more f end. Done (a ∷ more) f end) ≡ (o >>= λ a e rest. collected (found ++ a ∷ []) (reads Name rules d (many r) e rest))
      outer (Done a e rest) = inner a (reads Name rules d (many r) e rest)
      outer (Stop w rest) = refl

pub many_end : {A : Type 0} (r : Of A) (d : ℕ) (found : List A) (c : Counts) (ts : List Token) → is_clear Name rules (many r) ≡ true → starts (first r) ts ≡ false → collected found (reads Name rules d (many r) c ts) ≡ Done found c ts
many_end r d found c ts h none = ap (collected found) (many_is Name rules clear rich r h d c ts ∙ other _ _ _ none) ∙ ap (λ l. Done l c ts) (append-nil found)

-- ---- suffixes

pub suffixed_is : (r : Of Expr) (s : Of (List (Expr → Expr))) (d : ℕ) (c : Counts) (ts : List Token) → reads Name rules d (suffixed r s) c ts ≡ (reads Name rules d r c ts >>= λ a e rest. apply_to a (reads Name rules d s e rest))
suffixed_is r s d c ts = both_to (reads Name rules d r) (reads Name rules d s) (λ p. applied p.0 p.1) c ts

pub suffix_step : (s : Of (Expr → Expr)) (d : ℕ) (left : Expr) (c : Counts) (ts : List Token) → is_clear Name rules (many s) ≡ true → starts (first s) ts ≡ true
    → apply_to left (reads Name rules d (many s) c ts) ≡ (apply_one left (reads Name rules d s c ts) >>= λ x e rest. apply_to x (reads Name rules d (many s) e rest))
suffix_step s d left c ts h here =
    ap (apply_to left) (many_is Name rules clear rich s h d c ts ∙ chosen _ _ _ here) ∙ outer (reads Name rules d s c ts) where
      inner : (f : Expr → Expr) (r : Outcome (List (Expr → Expr))) → apply_to left (r >>= λ more g end. Done (f ∷ more) g end) ≡ apply_to (f left) r
      inner f (Done more g end) = refl
      inner f (Stop w end) = refl

      outer : (o : Outcome (Expr → Expr)) → apply_to left (o >>= λ a e rest. reads Name rules d (many s) e rest >>= λ more f end. Done (a ∷ more) f end)
          ≡ (apply_one left o >>= λ x e rest. apply_to x (reads Name rules d (many s) e rest))
      outer (Done f e rest) = inner f (reads Name rules d (many s) e rest)
      outer (Stop w rest) = refl

pub suffix_end : (s : Of (Expr → Expr)) (d : ℕ) (left : Expr) (c : Counts) (ts : List Token) → is_clear Name rules (many s) ≡ true → starts (first s) ts ≡ false → apply_to left (reads Name rules d (many s) c ts) ≡ Done left c ts
suffix_end s d left c ts h none = ap (apply_to left) (many_is Name rules clear rich s h d c ts ∙ other _ _ _ none)

pub suffix_shorter : (s : Of (Expr → Expr)) → is_clear Name rules s ≡ true → can_be_empty s ≡ false → (d : ℕ) (left : Expr) (c e : Counts) (ts rest : List Token) (a : Expr) → apply_one left (reads Name rules d s c ts) ≡ Done a e rest → length rest < length ts
suffix_shorter s h solid d left c e ts rest a is = of (reads Name rules d s c ts) refl is where
  of : (o : Outcome (Expr → Expr)) → reads Name rules d s c ts ≡ o → apply_one left o ≡ Done a e rest → length rest < length ts
  of (Done f g end) i q = let same : end ≡ rest = cc q in subst (λ (r : List Token). length r < length ts) same (takes_some Name rules clear rich s h solid d c g ts end f i)
  of (Stop w end) i q = cc q

-- an operator and its right operand
pub infix_step : (ks : Kinds) (f : TokenKind → BinaryOp) (r : Of Expr) (d : ℕ) (left : Expr) (c : Counts) (ts : List Token) → is_clear Name rules (many (infix_by ks f r)) ≡ true → starts ks ts ≡ true
    → apply_to left (reads Name rules d (many (infix_by ks f r)) c ts) ≡ (one role.Operator ks c ts >>= λ t e rest. reads Name rules d r e rest >>= λ x g end. apply_to (tree.Binary (f t.kind) left x) (reads Name rules d (many (infix_by ks f r)) g end))
infix_step ks f r d left c ts h here =
    suffix_step (infix_by ks f r) d left c ts h here
    ∙ ap (λ o. apply_one left o >>= λ x e rest. apply_to x (reads Name rules d (many (infix_by ks f r)) e rest)) (both_to (one role.Operator ks) (reads Name rules d r) (λ p l. tree.Binary (f p.0.kind) l p.1) c ts)
    ∙ word (one role.Operator ks c ts) where
      right : (t : Token) (o : Outcome Expr) → (apply_one left (o >>= λ x g end. Done (λ l. tree.Binary (f t.kind) l x) g end) >>= λ x e rest. apply_to x (reads Name rules d (many (infix_by ks f r)) e rest))
          ≡ (o >>= λ x g end. apply_to (tree.Binary (f t.kind) left x) (reads Name rules d (many (infix_by ks f r)) g end))
      right t (Done x g end) = refl
      right t (Stop w end) = refl

      word : (o : Outcome Token) → (apply_one left (o >>= λ t e rest. reads Name rules d r e rest >>= λ x g end. Done (λ l. tree.Binary (f t.kind) l x) g end) >>= λ x e rest. apply_to x (reads Name rules d (many (infix_by ks f r)) e rest))
          ≡ (o >>= λ t e rest. reads Name rules d r e rest >>= λ x g end. apply_to (tree.Binary (f t.kind) left x) (reads Name rules d (many (infix_by ks f r)) g end))
      word (Done t e rest) = right t (reads Name rules d r e rest)
      word (Stop w rest) = refl

-- ---- several parts

-- one after another
pub three_to : {A B C D : Type 0} (p : Parser A) (q : Parser B) (s : Parser C) (f : A × (B × C) → D) (c : Counts) (ts : List Token)
    → (◌>>=◌ {A = A × (B × C)} (both p (both q s) c ts) (λ x e rest. Done (f x) e rest)) ≡ (p c ts >>= λ a e rest. q e rest >>= λ b g mid. s g mid >>= λ z h end. Done (f (a, (b, z))) h end)
three_to {A} {B} {C} p q s f c ts = both_to p (both q s) f c ts ∙ word (p c ts) where
  word : (o : Outcome A) → (o >>= λ a e rest. both q s e rest >>= λ y g end. Done (f (a, y)) g end) ≡ (o >>= λ a e rest. q e rest >>= λ b g mid. s g mid >>= λ z h end. Done (f (a, (b, z))) h end)
  word (Done a e rest) = both_to q s (λ y. f (a, y)) e rest
  word (Stop w rest) = refl

pub four_to : {A B C D E : Type 0} (p : Parser A) (q : Parser B) (s : Parser C) (u : Parser D) (f : A × (B × (C × D)) → E) (c : Counts) (ts : List Token)
    → (◌>>=◌ {A = A × (B × (C × D))} (both p (both q (both s u)) c ts) (λ x e rest. Done (f x) e rest)) ≡ (p c ts >>= λ a e rest. q e rest >>= λ b g mid. s g mid >>= λ z h near. u h near >>= λ y i end. Done (f (a, (b, (z, y)))) i end)
four_to {A} {B} {C} {D} {E} p q s u f c ts = both_to p (both q (both s u)) f c ts ∙ word (p c ts) where
  word : (o : Outcome A) → (o >>= λ a e rest. both q (both s u) e rest >>= λ y g end. Done (f (a, y)) g end) ≡ (o >>= λ a e rest. q e rest >>= λ b g mid. s g mid >>= λ z h near. u h near >>= λ y i end. Done (f (a, (b, (z, y)))) i end)
  word (Done a e rest) = three_to q s u (λ y. f (a, y)) e rest
  word (Stop w rest) = refl

-- two tokens, and what comes after them
pub after_two : {A : Type 0} (m n : Role) (k j : TokenKind) (r : Of A) (d : ℕ) (c : Counts) (ts : List Token)
    → reads Name rules d (after m k (after n j r)) c ts ≡ (one m (k ∷ []) c ts >>= λ t e rest. one n (j ∷ []) e rest >>= λ u f mid. reads Name rules d r f mid)
after_two m n k j r d c ts = after_is m k (after n j r) d c ts ∙ word (one m (k ∷ []) c ts) where
  word : (o : Outcome Token) → (o >>= λ t e rest. reads Name rules d (after n j r) e rest) ≡ (o >>= λ t e rest. one n (j ∷ []) e rest >>= λ u f mid. reads Name rules d r f mid)
  word (Done t e rest) = after_is n j r d e rest
  word (Stop w rest) = refl

-- ---- x {"," x}

pub list_is : {A : Type 0} (r : Of A) (d : ℕ) (c : Counts) (ts : List Token)
    → reads Name rules d (list_of r) c ts ≡ (reads Name rules d r c ts >>= λ a e rest. collected (a ∷ []) (reads Name rules d (many (after role.Outside kind.Comma r)) e rest))
list_is r d c ts = both_to (reads Name rules d r) (reads Name rules d (many (after role.Outside kind.Comma r))) (λ p. p.0 ∷ p.1) c ts

pub next_is : {A : Type 0} (r : Of A) (found : List A) (d : ℕ) (c : Counts) (ts : List Token) → is_clear Name rules (many (after role.Outside kind.Comma r)) ≡ true → starts (kind.Comma ∷ []) ts ≡ true
    → collected found (reads Name rules d (many (after role.Outside kind.Comma r)) c ts)
    ≡ (one role.Outside (kind.Comma ∷ []) c ts >>= λ t e rest. reads Name rules d r e rest >>= λ a f end. collected (found ++ a ∷ []) (reads Name rules d (many (after role.Outside kind.Comma r)) f end))
next_is {A} r found d c ts h here = many_step (after role.Outside kind.Comma r) d found c ts h here ∙ ap again (after_is role.Outside kind.Comma r d c ts) ∙ word (one role.Outside (kind.Comma ∷ []) c ts) where
  again : Outcome A → Outcome (List A)
  again o = o >>= λ a f end. collected (found ++ a ∷ []) (reads Name rules d (many (after role.Outside kind.Comma r)) f end)

  word : (o : Outcome Token) → again (o >>= λ t e rest. reads Name rules d r e rest) ≡ (o >>= λ t e rest. again (reads Name rules d r e rest))
  word (Done t e rest) = refl
  word (Stop w rest) = refl

pub last_is : {A : Type 0} (r : Of A) (found : List A) (d : ℕ) (c : Counts) (ts : List Token) → is_clear Name rules (many (after role.Outside kind.Comma r)) ≡ true → starts (kind.Comma ∷ []) ts ≡ false
    → collected found (reads Name rules d (many (after role.Outside kind.Comma r)) c ts) ≡ Done found c ts
last_is r found d c ts h none = many_end (after role.Outside kind.Comma r) d found c ts h none

-- a "," and what follows it take tokens
pub next_shorter : {A : Type 0} (r : Of A) → is_clear Name rules r ≡ true → (d : ℕ) (c e f : Counts) (ts mid rest : List Token) (t : Token) (a : A)
    → one role.Outside (kind.Comma ∷ []) c ts ≡ Done t e mid → reads Name rules d r e mid ≡ Done a f rest → length rest < length ts
next_shorter r h d c e f ts mid rest t a g is = omega (arith, one_shorter role.Outside (kind.Comma ∷ []) c e ts mid t g, no_longer Name rules clear rich r h d e f mid rest a is)

-- ---- what may be there

-- [x], as a list that is empty without it
pub or_none_some : {A : Type 0} (r : Of (List A)) (d : ℕ) (c : Counts) (ts : List Token) → starts (first r) ts ≡ true → reads Name rules d (to or_none (maybe r)) c ts ≡ reads Name rules d r c ts
or_none_some {A} r d c ts here = ap (λ o. o >>= λ x e rest. Done (or_none x) e rest) (chosen _ _ _ here) ∙ word (reads Name rules d r c ts) where
  word : (o : Outcome (List A)) → ((o >>= λ a e rest. Done (Some a) e rest) >>= λ x e rest. Done (or_none x) e rest) ≡ o
  word (Done a e rest) = refl
  word (Stop w rest) = refl

pub or_none_none : {A : Type 0} (r : Of (List A)) (d : ℕ) (c : Counts) (ts : List Token) → starts (first r) ts ≡ false → reads Name rules d (to or_none (maybe r)) c ts ≡ Done [] c ts
or_none_none r d c ts none = ap (λ o. o >>= λ x e rest. Done (or_none x) e rest) (other _ _ _ none)

-- [x], as whether it is there
pub given_yes : {A : Type 0} (r : Of A) (d : ℕ) (c : Counts) (ts : List Token) → starts (first r) ts ≡ true → reads Name rules d (given r) c ts ≡ (reads Name rules d r c ts >>= λ a e rest. Done true e rest)
given_yes r d c ts here = chosen _ _ _ here

pub given_no : {A : Type 0} (r : Of A) (d : ℕ) (c : Counts) (ts : List Token) → starts (first r) ts ≡ false → reads Name rules d (given r) c ts ≡ Done false c ts
given_no r d c ts none = other _ _ _ none

-- a tree with its tokens
pub over_is : {A B : Type 0} (f : A → List Token → B) (r : Of A) (d : ℕ) (c : Counts) (ts : List Token) → reads Name rules d (over f r) c ts ≡ (reads Name rules d r c ts >>= λ a e rest. Done (f a (before ts rest)) e rest)
over_is f r d c ts = refl
