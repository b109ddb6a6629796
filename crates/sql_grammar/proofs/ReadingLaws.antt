-- The laws of each form of rule.
use Rattle.std.proofs.Common.{◌≡◌, ℕ, zero, suc, take, ◌-◌, ◌<◌, ◌≤◌, length-append, ◌||◌, max, Bool, true, false, List, [], ◌∷◌, ◌++◌, length, if◌then◌else◌, None, is_some, Result, Ok, Err, refl, sym, ◌∙◌, ap, subst, append_assoc, append-nil, arith, ◌⊎◌, inl, inr}
use Rattle.sql_tree.specs.declared.token.Token.{Token}
use Rattle.sql_tree.specs.declared.token.TokenKind.{TokenKind}
use Rattle.sql_grammar.specs.declared.counts.Limit.{Limit}
use Rattle.sql_grammar.specs.declared.counts.Role.{Role}
use Rattle.sql_grammar.specs.declared.counts.Counts.{Counts}
use Rattle.sql_grammar.specs.Kinds.{all_kinds}
use Rattle.sql_grammar.specs.Marks.{count, Mark, stays, opens, closes, Marked, marked, plain, Run, Fits, Past, counted, step, run_on, run}
use Rattle.sql_grammar.specs.Rules.{Kinds, has, starts, Lang, Tok, To, Made, before, Loop, Fork, Parser, Outcome, Done, Stop, Fail, Wrong, Over, ◌>>=◌, one, on, all_of, some_kind}
use Rattle.sql_grammar.specs.Exact.{Begins, again, rest_of, replace, Covers, Means, Found, Reads, same_level}

pub bool_cases : (b : Bool) → (b ≡ true) ⊎ (b ≡ false)
bool_cases true = inl refl
bool_cases false = inr refl

again_split : (w rest x : List Token) → (y : List Token) × (again (w ++ rest) y ≡ w ++ again rest x)
again_split [] rest x = (x, refl)
again_split (t ∷ w) rest x = (w ++ again rest x, refl)

starts_again : (ks : Kinds) (w rest x : List Token) → starts ks (w ++ again rest x) ≡ starts ks (w ++ rest)
starts_again ks [] [] x = refl
starts_again ks [] (t ∷ rest) x = refl
starts_again ks (t ∷ w) rest x = refl

-- ---- marked tokens

pub plain_append : (v w : List Marked) → plain (v ++ w) ≡ plain v ++ plain w
plain_append [] w = refl
plain_append (x ∷ v) w = ap (λ (u : List Token). x.token ∷ u) (plain_append v w)

pub plain_assoc : (v w : List Marked) (z : List Token) → plain (v ++ w) ++ z ≡ plain v ++ (plain w ++ z)
plain_assoc v w z = ap (λ (u : List Token). u ++ z) (plain_append v w) ∙ append_assoc (plain v) (plain w) z

abbrev pub run_more : Run → List Marked → Run
run_more (Fits e c) w = run e c w
run_more (Past l u) w = Past l (u ++ w)

counted_append : (d : ℕ) (q : Result Counts Limit) (u w : List Marked) (f g : ℕ → Counts → Run) → ((e : ℕ) (c : Counts) → f e c ≡ run_more (g e c) w)
    → run_on (counted d q (u ++ w)) f ≡ run_more (run_on (counted d q u) g) w
counted_append d (Ok c) u w f g h = h d c
counted_append d (Err l) u w f g h = refl

step_append : (m : Mark) (d : ℕ) (k : Counts) (u w : List Marked) (f g : ℕ → Counts → Run) → ((e : ℕ) (c : Counts) → f e c ≡ run_more (g e c) w)
    → run_on (step m d k (u ++ w)) f ≡ run_more (run_on (step m d k u) g) w
step_append (stays r) d k u w f g h = counted_append d (count r k) u w f g h
step_append (opens r) zero k u w f g h = refl
step_append (opens r) (suc d) k u w f g h = counted_append d (count r k) u w f g h
step_append (closes r) d k u w f g h = counted_append (suc d) (count r k) u w f g h

pub run_append : (d : ℕ) (k : Counts) (v w : List Marked) → run d k (v ++ w) ≡ run_more (run d k v) w
run_append d k [] w = refl
run_append d k (x ∷ v) w = step_append x.mark d k (x ∷ v) w (λ e c. run e c (v ++ w)) (λ e c. run e c v) (λ e c. run_append e c v w)

pub fits_then : (d e : ℕ) (k c : Counts) (v w : List Marked) → run d k v ≡ Fits e c → run d k (v ++ w) ≡ run e c w
fits_then d e k c v w h = run_append d k v w ∙ ap (λ (r : Run). run_more r w) h

-- ---- one token

sample_has : (ks : Kinds) (kinds : List TokenKind) → is_some (some_kind ks kinds) ≡ true → (k : TokenKind) × (has ks k ≡ true)
sample_has ks [] e = cc
sample_has ks (k ∷ kinds) e =
    elim (bool_cases (has ks k)) [
      | inl here ↦ (k, here)
      | inr none ↦ sample_has ks kinds (let f : is_some (some_kind ks (k ∷ kinds)) ≡ is_some (some_kind ks kinds) = rw none refl in sym f ∙ e)
    ]

pub some_token : (ks : Kinds) → is_some (some_kind ks all_kinds) ≡ true → (t : Token) × (has ks t.kind ≡ true)
some_token ks e = let k = sample_has ks all_kinds e in (record { kind = k.0; span = record { start = 0; end = 0 }; parameter = None }, k.1)

pub chosen : {A : Type 0} (b : Bool) (x y : A) → b ≡ true → (if b then x else y) ≡ x
chosen b x y e = rw e refl

pub other : {A : Type 0} (b : Bool) (x y : A) → b ≡ false → (if b then x else y) ≡ y
other b x y e = rw e refl

-- a token where it stands: `up` of the openings that were left are left after it
module _ (to_mark : Role → Mark) (up : ℕ → ℕ) (steps : (r : Role) (d : ℕ) (k : Counts) (w : List Marked) → step (to_mark r) d k w ≡ counted (up d) (count r k) w) where
  one_step : (r : Role) (d : ℕ) (k : Counts) (t : Token) (q : Result Counts Limit) → count r k ≡ q
      → run d k (marked (to_mark r) t ∷ []) ≡ run_on (counted (up d) q (marked (to_mark r) t ∷ [])) (λ e c. Fits e c)
  one_step r d k t q h = ap (λ s. run_on s (λ e c. Fits e c)) (steps r d k (marked (to_mark r) t ∷ []) ∙ ap (λ p. counted (up d) p (marked (to_mark r) t ∷ [])) h)

  pub one_reads : (r : Role) (ks : Kinds) → is_some (some_kind ks all_kinds) ≡ true → (d : ℕ) (k : Counts) (ts : List Token) → Reads up (λ d. one r ks) (λ d. Tok to_mark r ks) d k ts
  one_reads r ks some d k [] =
      let t = some_token ks some in
      (Fail [], record { is = refl; w = []; split = refl; means = ((0, marked (to_mark r) t.0 ∷ [], t.0, (refl, t.1)), (d, k, refl)); same = λ e x c. refl })
  one_reads r ks some d k (t ∷ ts) =
      elim (bool_cases (has ks t.kind)) [
        | inl here ↦ at here (count r k) refl
        | inr none ↦ (let s = some_token ks some in (Fail (t ∷ ts), record { is = rw none refl; w = []; split = refl; means = ((0, marked (to_mark r) s.0 ∷ [], s.0, (refl, s.1)), (d, k, refl)); same = λ e x c. rw none refl }))
      ] where
        at : has ks t.kind ≡ true → (q : Result Counts Limit) → count r k ≡ q → Reads up (λ d. one r ks) (λ d. Tok to_mark r ks) d k (t ∷ ts)
        at here (Ok c) e = (Done t c ts, record { is = rw (here, e) refl; w = marked (to_mark r) t ∷ []; split = refl; means = ((refl, here), one_step r d k t (Ok c) e); same = λ f x h. rw (here, e) refl })
        at here (Err l) e = (Stop (Over l) (t ∷ ts), record { is = rw (here, e) refl; w = []; split = refl; means = (to_mark r, (0, [], t, (refl, here)), one_step r d k t (Err l) e); same = λ f x h. rw (here, e) refl })

-- ---- what more openings allow

abbrev pub Grows : {A : Type 0} → (ℕ → Lang A) → Type 0
Grows {A} L = (d e : ℕ) (w : List Marked) (a : A) → d ≤ e → L d w a → L e w a

pub left_of_max : (d e : ℕ) → d ≤ max d e
left_of_max d e = omega arith

pub right_of_max : (d e : ℕ) → e ≤ max d e
right_of_max d e = omega arith

-- ---- one after the other, by the tree of the first

begins_on : {A B : Type 0} (L : ℕ → Lang A) (M : A → ℕ → Lang B) → Grows L → ((a : A) → Grows (M a)) → (w : List Marked) → Begins L w → ((a : A) → Begins (M a) []) → Begins (λ d. Fork (L d) (λ a. M a d)) w
begins_on L M f g w b some =
    let c = some b.2 in
    let v : List Marked = c.1 in
    (max b.0 c.0, b.1 ++ v, (b.2, c.2), (w ++ b.1, v, sym (append_assoc w b.1 v), f b.0 _ _ _ (left_of_max b.0 c.0) b.3, g b.2 c.0 _ _ _ (right_of_max b.0 c.0) c.3))

begins_second_on : {A B : Type 0} (L : ℕ → Lang A) (M : A → ℕ → Lang B) → Grows L → ((a : A) → Grows (M a)) → (d : ℕ) (w v : List Marked) (a : A) → L d w a → Begins (M a) v → Begins (λ d. Fork (L d) (λ a. M a d)) (w ++ v)
begins_second_on L M f g d w v a l c =
    (max d c.0, c.1, (a, c.2), (w, v ++ c.1, append_assoc w v c.1, f d _ _ _ (left_of_max d c.0) l, g a c.0 _ _ _ (right_of_max d c.0) c.3))

pub two_on : {A B : Type 0} (p : Parser A) (q : A → Parser B) (k c : Counts) (ts mid : List Token) (a : A) (o : Outcome B) → p k ts ≡ Done a c mid → q a c mid ≡ o → on p q k ts ≡ (o >>= λ b e end. Done (a, b) e end)
two_on p q k c ts mid a o f g = ap (λ r. r >>= λ a d rest. q a d rest >>= λ b e end. Done (a, b) e end) f ∙ ap (λ r. r >>= λ b e end. Done (a, b) e end) g

second_on : {A B : Type 0} (p : Parser A) (q : A → Parser B) (k c : Counts) (w v : List Marked) (mid end x : List Token) (a : A) (o : Outcome B) → mid ≡ plain v ++ end
    → ((y : List Token) → p k (plain w ++ again mid y) ≡ Done a c (again mid y)) → q a c (plain v ++ again end x) ≡ o → on p q k (plain (w ++ v) ++ again end x) ≡ (o >>= λ b e end. Done (a, b) e end)
second_on p q k c w v mid end x a o split f g =
    let y = again_split (plain v) end x in
    let is : again mid y.0 ≡ plain v ++ again end x = ap (λ m. again m y.0) split ∙ y.1 in
    two_on p q k c _ _ a o (ap (p k) (plain_assoc w v (again end x)) ∙ subst (λ (m : List Token). p k (plain w ++ m) ≡ Done a c m) is (f y.0)) g

module _ {A B : Type 0} (up : ℕ → ℕ) (P : ℕ → Parser A) (Q : A → ℕ → Parser B) (L : ℕ → Lang A) (M : A → ℕ → Lang B) (f : Grows L) (g : (a : A) → Grows (M a)) (some : (a : A) → Begins (M a) []) (d : ℕ) where
  abbrev P&&Q : ℕ → Parser (A × B)
  P&&Q = λ e. on (P e) (λ a. Q a e)

  abbrev L&&M : ℕ → Lang (A × B)
  L&&M = λ e. Fork (L e) (λ a. M a e)

  on_after : (k c : Counts) (ts mid : List Token) (a : A) (r : Found same_level P L d k ts (Done a c mid)) (o : Outcome B) → Found up (Q a) (M a) d c mid o → Reads up P&&Q L&&M d k ts
  on_after k c ts mid a r (Done b e end) s = (
    Done (a, b) e end,
    record {
      is = two_on (P d) (λ a. Q a d) k c ts mid a (Done b e end) r.is s.is;
      w = r.w ++ s.w;
      split = r.split ∙ ap (λ m. plain r.w ++ m) s.split ∙ sym (plain_assoc r.w s.w end);
      means = ((r.w, s.w, refl, r.means.0, s.means.0), fits_then d d k c r.w s.w r.means.1 ∙ s.means.1);
      same = λ h x i. second_on (P h) (λ a. Q a h) k c r.w s.w mid end x a (Done b e (again end x)) s.split (λ y. r.same h y i) (s.same h x i);
    },
  )
  on_after k c ts mid a r (Stop Wrong end) s = (
    Fail end,
    record {
      is = two_on (P d) (λ a. Q a d) k c ts mid a (Fail end) r.is s.is;
      w = r.w ++ s.w;
      split = r.split ∙ ap (λ m. plain r.w ++ m) s.split ∙ sym (plain_assoc r.w s.w end);
      means = (begins_second_on L M f g d r.w s.w a r.means.0 s.means.0, (s.means.1.0, s.means.1.1, fits_then d d k c r.w s.w r.means.1 ∙ s.means.1.2));
      same = λ h x i. second_on (P h) (λ a. Q a h) k c r.w s.w mid end x a (Fail (again end x)) s.split (λ y. r.same h y i) (s.same h x i);
    },
  )
  on_after k c ts mid a r (Stop (Over l) []) s = absurd s.means
  on_after k c ts mid a r (Stop (Over l) (t ∷ end)) s =
      let z : List Marked = marked s.means.0 t ∷ [] in (
        Stop (Over l) (t ∷ end),
        record {
          is = two_on (P d) (λ a. Q a d) k c ts mid a (Stop (Over l) (t ∷ end)) r.is s.is;
          w = r.w ++ s.w;
          split = r.split ∙ ap (λ m. plain r.w ++ m) s.split ∙ sym (plain_assoc r.w s.w (t ∷ end));
          means = (
            s.means.0,
            subst (Begins L&&M) (sym (append_assoc r.w s.w z)) (begins_second_on L M f g d r.w (s.w ++ z) a r.means.0 s.means.1),
            ap (run d k) (append_assoc r.w s.w z) ∙ fits_then d d k c r.w (s.w ++ z) r.means.1 ∙ s.means.2,
          );
          same = λ h x i. second_on (P h) (λ a. Q a h) k c r.w s.w mid (t ∷ end) x a (Stop (Over l) (t ∷ x)) s.split (λ y. r.same h y (omega arith)) (s.same h x i);
        },
      )

  on_from : (q : (a : A) (c : Counts) (ts : List Token) → Reads up (Q a) (M a) d c ts) (k : Counts) (ts : List Token) (o : Outcome A) → Found same_level P L d k ts o → Reads up P&&Q L&&M d k ts
  on_from q k ts (Done a c mid) r = on_after k c ts mid a r (q a c mid).0 (q a c mid).1
  on_from q k ts (Stop Wrong rest) r = (
    Fail rest,
    record {
      is = ap (λ r. r >>= λ a c rest. Q a d c rest >>= λ b e end. Done (a, b) e end) r.is;
      w = r.w;
      split = r.split;
      means = (begins_on L M f g r.w r.means.0 some, r.means.1);
      same = λ h x i. ap (λ r. r >>= λ a c rest. Q a h c rest >>= λ b e end. Done (a, b) e end) (r.same h x i);
    },
  )
  on_from q k ts (Stop (Over l) []) r = absurd r.means
  on_from q k ts (Stop (Over l) (t ∷ rest)) r = (
    Stop (Over l) (t ∷ rest),
    record {
      is = ap (λ r. r >>= λ a c rest. Q a d c rest >>= λ b e end. Done (a, b) e end) r.is;
      w = r.w;
      split = r.split;
      means = (r.means.0, begins_on L M f g (r.w ++ marked r.means.0 t ∷ []) r.means.1 some, r.means.2);
      same = λ h x i. ap (λ r. r >>= λ a c rest. Q a h c rest >>= λ b e end. Done (a, b) e end) (r.same h x i);
    },
  )

  pub on_reads : ((k : Counts) (ts : List Token) → Reads same_level P L d k ts) → ((a : A) (c : Counts) (ts : List Token) → Reads up (Q a) (M a) d c ts) → (k : Counts) (ts : List Token) → Reads up P&&Q L&&M d k ts
  on_reads p q k ts = on_from q k ts (p k ts).0 (p k ts).1

-- ---- a function of the tree

module _ {A B : Type 0} (up : ℕ → ℕ) (f : A → B) (P : ℕ → Parser A) (L : ℕ → Lang A) (d : ℕ) where
  abbrev fP : ℕ → Parser B
  fP = λ e k ts. P e k ts >>= λ a c rest. Done (f a) c rest

  abbrev fL : ℕ → Lang B
  fL = λ e. To f (L e)

  begins_to : (w : List Marked) → Begins L w → Begins fL w
  begins_to w b = (b.0, b.1, f b.2, (b.2, b.3, refl))

  to_from : (k : Counts) (ts : List Token) (o : Outcome A) → Found up P L d k ts o → Reads up fP fL d k ts
  to_from k ts (Done a c rest) r = (Done (f a) c rest, record { is = ap (λ r. r >>= λ a c rest. Done (f a) c rest) r.is; w = r.w; split = r.split; means = ((a, r.means.0, refl), r.means.1); same = λ h x i. ap (λ r. r >>= λ a c rest. Done (f a) c rest) (r.same h x i) })
  to_from k ts (Stop Wrong rest) r = (Fail rest, record { is = ap (λ r. r >>= λ a c rest. Done (f a) c rest) r.is; w = r.w; split = r.split; means = (begins_to r.w r.means.0, r.means.1); same = λ h x i. ap (λ r. r >>= λ a c rest. Done (f a) c rest) (r.same h x i) })
  to_from k ts (Stop (Over l) []) r = absurd r.means
  to_from k ts (Stop (Over l) (t ∷ rest)) r = (Stop (Over l) (t ∷ rest), record { is = ap (λ r. r >>= λ a c rest. Done (f a) c rest) r.is; w = r.w; split = r.split; means = (r.means.0, begins_to (r.w ++ marked r.means.0 t ∷ []) r.means.1, r.means.2); same = λ h x i. ap (λ r. r >>= λ a c rest. Done (f a) c rest) (r.same h x i) })

  pub to_reads : ((k : Counts) (ts : List Token) → Reads up P L d k ts) → (k : Counts) (ts : List Token) → Reads up fP fL d k ts
  to_reads p k ts = to_from k ts (p k ts).0 (p k ts).1

-- ---- a function of the tree and of its tokens

take_front : (v rest : List Token) → take (length v) (v ++ rest) ≡ v
take_front [] rest = refl
take_front (t ∷ v) rest = ap (λ (u : List Token). t ∷ u) (take_front v rest)

pub before_front : (v rest : List Token) → before (v ++ rest) rest ≡ v
before_front v rest = let n : length (v ++ rest) - length rest ≡ length v = omega (arith, length-append v rest) in rw n (take_front v rest)

module _ {A B : Type 0} (up : ℕ → ℕ) (f : A → List Token → B) (P : ℕ → Parser A) (L : ℕ → Lang A) (d : ℕ) where
  abbrev oP : ℕ → Parser B
  oP = λ e k ts. P e k ts >>= λ a c rest. Done (f a (before ts rest)) c rest

  abbrev oL : ℕ → Lang B
  oL = λ e. Made f (L e)

  begins_over : (w : List Marked) → Begins L w → Begins oL w
  begins_over w b = (b.0, b.1, f b.2 (plain (w ++ b.1)), (b.2, b.3, refl))

  over_done : (e : ℕ) (k c : Counts) (ts rest : List Token) (a : A) (w : List Marked) → ts ≡ plain w ++ rest → P e k ts ≡ Done a c rest → oP e k ts ≡ Done (f a (plain w)) c rest
  over_done e k c ts rest a w split is = ap (λ r. r >>= λ a c rest. Done (f a (before ts rest)) c rest) is ∙ ap (λ (v : List Token). Done (f a v) c rest) (ap (λ (v : List Token). before v rest) split ∙ before_front (plain w) rest)

  over_from : (k : Counts) (ts : List Token) (o : Outcome A) → Found up P L d k ts o → Reads up oP oL d k ts
  over_from k ts (Done a c rest) r = (Done (f a (plain r.w)) c rest, record { is = over_done d k c ts rest a r.w r.split r.is; w = r.w; split = r.split; means = ((a, r.means.0, refl), r.means.1); same = λ h x i. over_done h k c (plain r.w ++ again rest x) (again rest x) a r.w refl (r.same h x i) })
  over_from k ts (Stop Wrong rest) r = (Fail rest, record { is = ap (λ r. r >>= λ a c rest. Done (f a (before ts rest)) c rest) r.is; w = r.w; split = r.split; means = (begins_over r.w r.means.0, r.means.1); same = λ h x i. ap (λ o. o >>= λ a c end. Done (f a (before (plain r.w ++ again rest x) end)) c end) (r.same h x i) })
  over_from k ts (Stop (Over l) []) r = absurd r.means
  over_from k ts (Stop (Over l) (t ∷ rest)) r = (Stop (Over l) (t ∷ rest), record { is = ap (λ r. r >>= λ a c rest. Done (f a (before ts rest)) c rest) r.is; w = r.w; split = r.split; means = (r.means.0, begins_over (r.w ++ marked r.means.0 t ∷ []) r.means.1, r.means.2); same = λ h x i. ap (λ o. o >>= λ a c end. Done (f a (before (plain r.w ++ t ∷ x) end)) c end) (r.same h x i) })

  pub over_reads : ((k : Counts) (ts : List Token) → Reads up P L d k ts) → (k : Counts) (ts : List Token) → Reads up oP oL d k ts
  over_reads p k ts = over_from k ts (p k ts).0 (p k ts).1

-- ---- one of two

abbrev pub either : {A : Type 0} → Kinds → (ℕ → Parser A) → (ℕ → Parser A) → ℕ → Parser A
either ks P Q e k ts = if starts ks ts then P e k ts else Q e k ts

module _ {A : Type 0} (ks : Kinds) (P Q : ℕ → Parser A) (L M : ℕ → Lang A) (d : ℕ) where
  abbrev L|M : ℕ → Lang A
  L|M = λ e ts a. L e ts a ⊎ M e ts a

  means_left : (k : Counts) (w : List Marked) (o : Outcome A) → Means same_level L d k w o → Means same_level L|M d k w o
  means_left k w (Done a c rest) m = (inl m.0, m.1)
  means_left k w (Stop Wrong rest) m = ((m.0.0, m.0.1, m.0.2, inl m.0.3), m.1)
  means_left k w (Stop (Over l) []) m = m
  means_left k w (Stop (Over l) (t ∷ rest)) m = (m.0, (m.1.0, m.1.1, m.1.2, inl m.1.3), m.2)

  means_right : (k : Counts) (w : List Marked) (o : Outcome A) → Means same_level M d k w o → Means same_level L|M d k w o
  means_right k w (Done a c rest) m = (inr m.0, m.1)
  means_right k w (Stop Wrong rest) m = ((m.0.0, m.0.1, m.0.2, inr m.0.3), m.1)
  means_right k w (Stop (Over l) []) m = m
  means_right k w (Stop (Over l) (t ∷ rest)) m = (m.0, (m.1.0, m.1.1, m.1.2, inr m.1.3), m.2)

  starts_same : (b : Bool) (ts w rest x : List Token) → ts ≡ w ++ rest → starts ks ts ≡ b → starts ks (w ++ again rest x) ≡ b
  starts_same b ts w rest x s e = starts_again ks w rest x ∙ ap (starts ks) (sym s) ∙ e

  pub alt_reads : ((k : Counts) (ts : List Token) → Reads same_level P L d k ts) → ((k : Counts) (ts : List Token) → Reads same_level Q M d k ts) → (k : Counts) (ts : List Token) → Reads same_level (either ks P Q) L|M d k ts
  alt_reads p q k ts =
      elim (bool_cases (starts ks ts)) [
        | inl here ↦ (let o = (p k ts).0 in let r = (p k ts).1 in (o, record { is = chosen _ _ _ here ∙ r.is; w = r.w; split = r.split; means = means_left k r.w o r.means; same = λ e x c. chosen _ _ _ (starts_same true ts (plain r.w) (rest_of o) x r.split here) ∙ r.same e x c }))
        | inr none ↦ (let o = (q k ts).0 in let r = (q k ts).1 in (o, record { is = other _ _ _ none ∙ r.is; w = r.w; split = r.split; means = means_right k r.w o r.means; same = λ e x c. other _ _ _ (starts_same false ts (plain r.w) (rest_of o) x r.split none) ∙ r.same e x c }))
      ]

-- ---- any number

module _ {A : Type 0} (ks : Bool → Kinds) (f : A → Bool) where
  pub none_of : (p : Bool → Parser A) (n : ℕ) (b : Bool) (k : Counts) (ts : List Token) → starts (ks b) ts ≡ false → all_of ks p f n b k ts ≡ Done [] k ts
  none_of p zero b k ts none = refl
  none_of p (suc n) b k ts none = other _ _ _ none

  abbrev pub go_on : (Bool → Parser A) → ℕ → Bool → Outcome A → Outcome (List A)
  go_on p n b o = o >>= λ a c rest. all_of ks p f n (b || f a) c rest >>= λ found e end. Done (a ∷ found) e end

  pub one_turn : (p : Bool → Parser A) (n : ℕ) (b : Bool) (k : Counts) (ts : List Token) (o : Outcome A) → starts (ks b) ts ≡ true → length ts ≤ n → p b k ts ≡ o → all_of ks p f n b k ts ≡ go_on p (n - 1) b o
  one_turn p zero b k [] o here h is = cc
  one_turn p zero b k (t ∷ ts) o here h is = absurd (omega arith)
  one_turn p (suc n) b k ts o here h is = chosen _ _ _ here ∙ (let e : suc n - 1 ≡ n = omega arith in rw e (ap (go_on p n b) is))

abbrev pub add_one : {A : Type 0} → A → Outcome (List A) → Outcome (List A)
add_one a o = o >>= λ found e end. Done (a ∷ found) e end

pub loop_grows : {A : Type 0} (L : Bool → ℕ → Lang A) (f : A → Bool) → ((b : Bool) → Grows (L b)) → (b : Bool) → Grows (λ e. Loop (λ c. L c e) f b)
loop_grows L f grows b d e w [] h m = m
loop_grows L f grows b d e w (a ∷ found) h m = (m.0, m.1, m.2, grows b d e m.0 a h m.3, loop_grows L f grows (b || f a) d e m.1 found h m.4)

module _ {A : Type 0} (ks : Bool → Kinds) (f : A → Bool) (P : Bool → ℕ → Parser A) (L : Bool → ℕ → Lang A) (grows : (b : Bool) → Grows (L b)) (solid : (b : Bool) (d : ℕ) (a : A) → L b d [] a → ⊥) (d : ℕ) where
  abbrev L∗ : Bool → ℕ → Lang (List A)
  L∗ b = λ e. Loop (λ c. L c e) f b

  abbrev P∗ : ℕ → Bool → Parser A
  P∗ e = λ b. P b e

  record Turns (b : Bool) (k : Counts) (ts : List Token) (o : Outcome (List A)) : Type 0 where
    is : (n : ℕ) → length ts ≤ n → all_of ks (P∗ d) f n b k ts ≡ o
    w : List Marked
    split : ts ≡ plain w ++ rest_of o
    means : Means same_level (L∗ b) d k w o
    same : (e n : ℕ) (x : List Token) → Covers o d e → length (plain w ++ again (rest_of o) x) ≤ n → all_of ks (P∗ e) f n b k (plain w ++ again (rest_of o) x) ≡ replace o x

  begins_one : (b : Bool) (w : List Marked) → Begins (L b) w → Begins (L∗ b) w
  begins_one b w l = (l.0, l.1, l.2 ∷ [], (w ++ l.1, [], sym (append-nil (w ++ l.1)), l.3, refl))

  some_taken : (b : Bool) (w : List Marked) (a : A) → L b d w a → 0 < length (plain w)
  some_taken b [] a l = absurd (solid b d a l)
  some_taken b (t ∷ w) a l = omega arith

  begins_next : (b : Bool) (w v : List Marked) (a : A) → L b d w a → Begins (L∗ (b || f a)) v → Begins (L∗ b) (w ++ v)
  begins_next b w v a l c =
      (max d c.0, c.1, a ∷ c.2, (w, v ++ c.1, append_assoc w v c.1, grows b d _ w a (left_of_max d c.0) l, loop_grows L f grows (b || f a) c.0 _ (v ++ c.1) c.2 (right_of_max d c.0) c.3))

  -- the length of what is left for the next turn
  shorter : (w v : List Token) (n : ℕ) → 0 < length w → length (w ++ v) ≤ n → length v ≤ n - 1
  shorter w v n h k = omega (arith, length-append w v)

  -- a turn, and the turns after it, before another rest
  next_same : (b : Bool) (k c : Counts) (e n : ℕ) (ts : List Token) (w v : List Marked) (mid end x : List Token) (a : A) (o : Outcome (List A)) → starts (ks b) ts ≡ true → 0 < length (plain w) → ts ≡ plain w ++ mid → mid ≡ plain v ++ end
      → ((y : List Token) → P b e k (plain w ++ again mid y) ≡ Done a c (again mid y)) → length (plain (w ++ v) ++ again end x) ≤ n
      → ((n : ℕ) → length (plain v ++ again end x) ≤ n → all_of ks (P∗ e) f n (b || f a) c (plain v ++ again end x) ≡ o) → all_of ks (P∗ e) f n b k (plain (w ++ v) ++ again end x) ≡ add_one a o
  next_same b k c e n ts w v mid end x a o here some s₁ s₂ p h g =
      let y = again_split (plain v) end x in
      let is : again mid y.0 ≡ plain v ++ again end x = ap (λ m. again m y.0) s₂ ∙ y.1 in
      let first : P b e k (plain (w ++ v) ++ again end x) ≡ Done a c (plain v ++ again end x) = ap (P b e k) (plain_assoc w v (again end x)) ∙ subst (λ (m : List Token). P b e k (plain w ++ m) ≡ Done a c m) is (p y.0) in
      let all : ts ≡ plain (w ++ v) ++ end = s₁ ∙ ap (λ m. plain w ++ m) s₂ ∙ sym (plain_assoc w v end) in
      let still : starts (ks b) (plain (w ++ v) ++ again end x) ≡ true = starts_again (ks b) (plain (w ++ v)) end x ∙ ap (starts (ks b)) (sym all) ∙ here in
      one_turn ks f (P∗ e) n b k (plain (w ++ v) ++ again end x) _ still h first
      ∙ ap (add_one a) (g (n - 1) (shorter (plain w) (plain v ++ again end x) n some (subst (λ (m : List Token). length m ≤ n) (plain_assoc w v (again end x)) h)))

  turn_then : (b : Bool) (k c : Counts) (ts mid : List Token) (a : A) → starts (ks b) ts ≡ true → (r : Found same_level (P b) (L b) d k ts (Done a c mid)) → (o : Outcome (List A)) → Turns (b || f a) c mid o → (o : Outcome (List A)) × Turns b k ts o
  turn_then b k c ts mid a here r (Done found e end) s =
      let some : 0 < length (plain r.w) = some_taken b r.w a r.means.0 in (
        Done (a ∷ found) e end,
        record {
          is = λ n h. one_turn ks f (P∗ d) n b k ts _ here h r.is ∙ ap (add_one a) (s.is (n - 1) (shorter (plain r.w) mid n some (subst (λ (m : List Token). length m ≤ n) r.split h)));
          w = r.w ++ s.w;
          split = r.split ∙ ap (λ m. plain r.w ++ m) s.split ∙ sym (plain_assoc r.w s.w end);
          means = ((r.w, s.w, refl, r.means.0, s.means.0), fits_then d d k c r.w s.w r.means.1 ∙ s.means.1);
          same = λ i n x j h. next_same b k c i n ts r.w s.w mid end x a _ here some r.split s.split (λ y. r.same i y j) h (λ n q. s.same i n x j q);
        },
      )
  turn_then b k c ts mid a here r (Stop Wrong end) s =
      let some : 0 < length (plain r.w) = some_taken b r.w a r.means.0 in (
        Fail end,
        record {
          is = λ n h. one_turn ks f (P∗ d) n b k ts _ here h r.is ∙ ap (add_one a) (s.is (n - 1) (shorter (plain r.w) mid n some (subst (λ (m : List Token). length m ≤ n) r.split h)));
          w = r.w ++ s.w;
          split = r.split ∙ ap (λ m. plain r.w ++ m) s.split ∙ sym (plain_assoc r.w s.w end);
          means = (begins_next b r.w s.w a r.means.0 s.means.0, (s.means.1.0, s.means.1.1, fits_then d d k c r.w s.w r.means.1 ∙ s.means.1.2));
          same = λ i n x j h. next_same b k c i n ts r.w s.w mid end x a _ here some r.split s.split (λ y. r.same i y j) h (λ n q. s.same i n x j q);
        },
      )
  turn_then b k c ts mid a here r (Stop (Over l) []) s = absurd s.means
  turn_then b k c ts mid a here r (Stop (Over l) (t ∷ end)) s =
      let some : 0 < length (plain r.w) = some_taken b r.w a r.means.0 in
      let z : List Marked = marked s.means.0 t ∷ [] in (
        Stop (Over l) (t ∷ end),
        record {
          is = λ n h. one_turn ks f (P∗ d) n b k ts _ here h r.is ∙ ap (add_one a) (s.is (n - 1) (shorter (plain r.w) mid n some (subst (λ (m : List Token). length m ≤ n) r.split h)));
          w = r.w ++ s.w;
          split = r.split ∙ ap (λ m. plain r.w ++ m) s.split ∙ sym (plain_assoc r.w s.w (t ∷ end));
          means = (
            s.means.0,
            subst (Begins (L∗ b)) (sym (append_assoc r.w s.w z)) (begins_next b r.w (s.w ++ z) a r.means.0 s.means.1),
            ap (run d k) (append_assoc r.w s.w z) ∙ fits_then d d k c r.w (s.w ++ z) r.means.1 ∙ s.means.2,
          );
          same = λ i n x j h. next_same b k c i n ts r.w s.w mid (t ∷ end) x a _ here some r.split s.split (λ y. r.same i y (omega arith)) h (λ n q. s.same i n x j q);
        },
      )

  turn_from : (b : Bool) (n : ℕ) (k : Counts) (ts : List Token) → starts (ks b) ts ≡ true → length ts ≤ suc n → ((b : Bool) (c : Counts) (mid : List Token) → length mid ≤ n → (o : Outcome (List A)) × Turns b c mid o)
      → (o : Outcome A) → Found same_level (P b) (L b) d k ts o → (o : Outcome (List A)) × Turns b k ts o
  turn_from b n k ts here h next (Done a c mid) r =
      let some : 0 < length (plain r.w) = some_taken b r.w a r.means.0 in
      let m = next (b || f a) c mid (omega (arith, ap length r.split, length-append (plain r.w) mid)) in
      turn_then b k c ts mid a here r m.0 m.1
  turn_from b n k ts here h next (Stop Wrong rest) r = (
    Fail rest,
    record {
      is = λ n h. one_turn ks f (P∗ d) n b k ts _ here h r.is;
      w = r.w;
      split = r.split;
      means = (begins_one b r.w r.means.0, r.means.1);
      same = λ e n x c h. one_turn ks f (P∗ e) n b k _ _ (starts_again (ks b) (plain r.w) rest x ∙ ap (starts (ks b)) (sym r.split) ∙ here) h (r.same e x c);
    },
  )
  turn_from b n k ts here h next (Stop (Over l) []) r = absurd r.means
  turn_from b n k ts here h next (Stop (Over l) (t ∷ rest)) r = (
    Stop (Over l) (t ∷ rest),
    record {
      is = λ n h. one_turn ks f (P∗ d) n b k ts _ here h r.is;
      w = r.w;
      split = r.split;
      means = (r.means.0, begins_one b (r.w ++ marked r.means.0 t ∷ []) r.means.1, r.means.2);
      same = λ e n x c h. one_turn ks f (P∗ e) n b k _ _ (starts_again (ks b) (plain r.w) (t ∷ rest) x ∙ ap (starts (ks b)) (sym r.split) ∙ here) h (r.same e x c);
    },
  )

  no_turn : (b : Bool) (k : Counts) (ts : List Token) → starts (ks b) ts ≡ false → (o : Outcome (List A)) × Turns b k ts o
  no_turn b k ts none = (
    Done [] k ts,
    record {
      is = λ n h. none_of ks f (P∗ d) n b k ts none;
      w = [];
      split = refl;
      means = (refl, refl);
      same = λ e n x c h. none_of ks f (P∗ e) n b k (again ts x) (starts_again (ks b) [] ts x ∙ none);
    },
  )

  turns : ((b : Bool) (k : Counts) (ts : List Token) → Reads same_level (P b) (L b) d k ts) → (n : ℕ) (b : Bool) (k : Counts) (ts : List Token) → length ts ≤ n → (o : Outcome (List A)) × Turns b k ts o
  turns p zero b k [] h = no_turn b k [] refl
  turns p zero b k (t ∷ ts) h = absurd (omega arith)
  turns p (suc n) b k ts h =
      elim (bool_cases (starts (ks b) ts)) [
        | inl here ↦ turn_from b n k ts here h (turns p n) (p b k ts).0 (p b k ts).1
        | inr none ↦ no_turn b k ts none
      ]

  pub loop_reads : ((b : Bool) (k : Counts) (ts : List Token) → Reads same_level (P b) (L b) d k ts) → (b : Bool) (k : Counts) (ts : List Token) → Reads same_level (λ e k ts. all_of ks (P∗ e) f (length ts) b k ts) (L∗ b) d k ts
  loop_reads p b k ts =
      let t = turns p (length ts) b k ts (omega arith) in
      let r = t.1 in
      (t.0, record { is = r.is (length ts) (omega arith); w = r.w; split = r.split; means = r.means; same = λ e x c. r.same e _ x c (omega arith) })

  -- a turn, and then as if from there
  pub turn_step : ((b : Bool) (k : Counts) (ts : List Token) → Reads same_level (P b) (L b) d k ts) → (b : Bool) (k c : Counts) (ts rest : List Token) (a : A) → starts (ks b) ts ≡ true → P b d k ts ≡ Done a c rest
      → all_of ks (P∗ d) f (length ts) b k ts ≡ add_one a (all_of ks (P∗ d) f (length rest) (b || f a) c rest)
  turn_step p b k c ts rest a here is =
      let r = subst (λ o. Found same_level (P b) (L b) d k ts o) (sym (p b k ts).1.is ∙ is) (p b k ts).1 in
      let some : 0 < length (plain r.w) = some_taken b r.w a r.means.0 in
      let t = turns p (length rest) (b || f a) c rest (omega arith) in
      let s = t.1 in
      one_turn ks f (P∗ d) (length ts) b k ts _ here (omega arith) is
      ∙ ap (add_one a) (s.is (length ts - 1) (omega (arith, ap length r.split, length-append (plain r.w) rest)) ∙ sym (s.is (length rest) (omega arith)))

-- ---- where a limit is passed

counted_past : (d : ℕ) (q : Result Counts Limit) (u : List Marked) (f : ℕ → Counts → Run) (n : ℕ) (l : Limit) (v : List Marked) → length u ≤ n → ((e : ℕ) (c : Counts) → f e c ≡ Past l v → length v ≤ n)
    → run_on (counted d q u) f ≡ Past l v → length v ≤ n
counted_past d (Ok c) u f n l v h g is = g d c is
counted_past d (Err j) u f n l v h g is = let same : u ≡ v = cc is in subst (λ (x : List Marked). length x ≤ n) same h

step_past : (m : Mark) (d : ℕ) (k : Counts) (u : List Marked) (f : ℕ → Counts → Run) (n : ℕ) (l : Limit) (v : List Marked) → length u ≤ n → ((e : ℕ) (c : Counts) → f e c ≡ Past l v → length v ≤ n)
    → run_on (step m d k u) f ≡ Past l v → length v ≤ n
step_past (stays r) d k u f n l v h g is = counted_past d (count r k) u f n l v h g is
step_past (opens r) zero k u f n l v h g is = let same : u ≡ v = cc is in subst (λ (x : List Marked). length x ≤ n) same h
step_past (opens r) (suc d) k u f n l v h g is = counted_past d (count r k) u f n l v h g is
step_past (closes r) d k u f n l v h g is = counted_past (suc d) (count r k) u f n l v h g is

-- it is one of these tokens
pub past_length : (d : ℕ) (k : Counts) (w : List Marked) (l : Limit) (v : List Marked) → run d k w ≡ Past l v → length v ≤ length w
past_length d k [] l v is = cc is
past_length d k (x ∷ w) l v is = step_past x.mark d k (x ∷ w) (λ e c. run e c w) (length (x ∷ w)) l v (omega arith) (λ e c h. let r = past_length e c w l v h in omega (arith, r)) is

pub plain_length : (w : List Marked) → length (plain w) ≡ length w
plain_length [] = refl
plain_length (x ∷ w) = ap suc (plain_length w)

pub plain_split : (v : List Marked) (x z : List Token) → plain v ≡ x ++ z → (a b : List Marked) × (v ≡ a ++ b) × (plain a ≡ x)
plain_split v [] z e = ([], v, refl, refl)
plain_split [] (t ∷ x) z e = cc e
plain_split (m ∷ v) (t ∷ x) z e =
    let first : m.token ≡ t = cc e in
    let rest : plain v ≡ x ++ z = cc e in
    let r = plain_split v x z rest in
    (m ∷ r.0, r.1, ap (λ (u : List Marked). m ∷ u) r.2, ap (λ (u : List Token). m.token ∷ u) r.3 ∙ ap (λ (s : Token). s ∷ x) first)

-- two ways to cut one list
pub data Cuts (x r y s : List Token) : Type 0 where
  alike : x ≡ y → r ≡ s → Cuts x r y s
  less_first : (t : Token) (z : List Token) → y ≡ x ++ t ∷ z → r ≡ t ∷ (z ++ s) → Cuts x r y s
  more_first : (t : Token) (z : List Token) → x ≡ y ++ t ∷ z → s ≡ t ∷ (z ++ r) → Cuts x r y s

one_more : (t u : Token) (x r y s : List Token) → t ≡ u → Cuts x r y s → Cuts (t ∷ x) r (u ∷ y) s
one_more t u x r y s e (alike p q) = alike (ap (λ (v : List Token). t ∷ v) p ∙ ap (λ (w : Token). w ∷ y) e) q
one_more t u x r y s e (less_first v z p q) = less_first v z (ap (λ (w : List Token). u ∷ w) p ∙ ap (λ (w : Token). w ∷ (x ++ v ∷ z)) (sym e)) q
one_more t u x r y s e (more_first v z p q) = more_first v z (ap (λ (w : List Token). t ∷ w) p ∙ ap (λ (w : Token). w ∷ (y ++ v ∷ z)) e) q

pub cuts : (x r y s : List Token) → x ++ r ≡ y ++ s → Cuts x r y s
cuts [] r [] s e = alike refl e
cuts [] r (u ∷ y) s e = less_first u y refl e
cuts (t ∷ x) r [] s e = more_first t x refl (sym e)
cuts (t ∷ x) r (u ∷ y) s e = let first : t ≡ u = cc e in let rest : x ++ r ≡ y ++ s = cc e in one_more t u x r y s first (cuts x r y s rest)
