-- What rules derive: with more openings no less, and something at all.
use Rattle.std.proofs.Common.{◌≡◌, ℕ, zero, suc, ◌≤◌, ◌||◌, max, Bool, true, false, List, [], ◌∷◌, ◌++◌, is_some, refl, sym, subst, arith, inl, inr}
use Rattle.sql_grammar.specs.Kinds.{all_kinds}
use Rattle.sql_grammar.specs.Marks.{stays, opens, closes, Marked, marked, plain}
use Rattle.sql_grammar.specs.Rules.{Kinds, join, has, Lang, Loop, Rule, tok, pure, seq, fork, pick, alt, many, until, to, over, nest, some_kind, can_be_empty, first, is_clear, derives_in, nested, derives, can_end, ends}
use Rattle.sql_grammar.specs.Exact.{Begins}
use Rattle.sql_grammar.proofs.ReadingLaws.{bool_cases, Grows, left_of_max, right_of_max, some_token}
use Rattle.sql_grammar.proofs.KindSets.{and_true, or_left, or_right, has_right, has_left}

module _ (N : Type 0 → Type 1) (rules : (A : Type 0) → N A → Rule N A) where
  module _ (inner : (A : Type 0) → N A → Lang A) where
    pub no_tokens : (xs ys : List Marked) → [] ≡ xs ++ ys → (xs ≡ []) × (ys ≡ [])
    no_tokens [] ys e = (refl, sym e)
    no_tokens (x ∷ xs) ys e = cc

    pub empty_law : {A : Type 0} (r : Rule N A) (a : A) → derives_in N rules inner r [] a → can_be_empty r ≡ true
    empty_law (tok m ks) a d = cc d.0
    empty_law (pure x) a d = refl
    empty_law (seq r s) a d =
        let n = no_tokens d.0 d.1 d.2 in
        let p : can_be_empty r ≡ true = empty_law r a.0 (subst (λ (w : List Marked). derives_in N rules inner r w a.0) n.0 d.3) in
        let q : can_be_empty s ≡ true = empty_law s a.1 (subst (λ (w : List Marked). derives_in N rules inner s w a.1) n.1 d.4) in
        rw p q
    empty_law (fork r f s t) a d =
        let n = no_tokens d.0 d.1 d.2 in
        empty_law r a.0 (subst (λ (w : List Marked). derives_in N rules inner r w a.0) n.0 d.3)
    empty_law (alt r s) a d = elim d [ inl p ↦ or_left _ _ (empty_law r a p) | inr p ↦ or_right _ _ (empty_law s a p) ]
    empty_law (many r) a d = refl
    empty_law (until r f s) a d = refl
    empty_law (to f r) a d = empty_law r d.0 d.1
    empty_law (over f r) a d = empty_law r d.0 d.1
    empty_law (nest m o n k c) a d = cc d.3

    pub loop_first : {A : Type 0} (ks : Kinds) (l : Bool → Lang A) (f : A → Bool) → ((b : Bool) (t : Marked) (w : List Marked) (a : A) → l b (t ∷ w) a → has ks t.token.kind ≡ true)
        → (found : List A) (b : Bool) (t : Marked) (w : List Marked) → Loop l f b (t ∷ w) found → has ks t.token.kind ≡ true
    loop_first ks l f g [] b t w m = cc m
    loop_first ks l f g (a ∷ found) b t w m = at (loop_first ks l f g found (b || f a) t w) m.0 m.1 m.2 m.3 m.4 where
      at : (Loop l f (b || f a) (t ∷ w) found → has ks t.token.kind ≡ true) → (xs ys : List Marked) → t ∷ w ≡ xs ++ ys → l b xs a → Loop l f (b || f a) ys found → has ks t.token.kind ≡ true
      at next [] ys e p q = next (subst (λ (z : List Marked). Loop l f (b || f a) z found) (sym e) q)
      at next (x ∷ xs) ys e p q = let same : t ≡ x = cc e in subst (λ (z : Marked). has ks z.token.kind ≡ true) (sym same) (g b x xs a p)

    pub first_law : {A : Type 0} (r : Rule N A) (t : Marked) (w : List Marked) (a : A) → derives_in N rules inner r (t ∷ w) a → has (first r) t.token.kind ≡ true
    first_law (tok m ks) t w a d = let same : marked (stays m) a ≡ t = cc d.0 in subst (λ (z : Marked). has ks z.token.kind ≡ true) same d.1
    first_law (pure x) t w a d = cc d.0
    first_law (seq r s) t w a d = at (first_law r) (first_law s) d.0 d.1 d.2 d.3 d.4 where
      at : ((t : Marked) (w : List Marked) (b : _) → derives_in N rules inner r (t ∷ w) b → has (first r) t.token.kind ≡ true)
          → ((t : Marked) (w : List Marked) (b : _) → derives_in N rules inner s (t ∷ w) b → has (first s) t.token.kind ≡ true) → (xs ys : List Marked) → t ∷ w ≡ xs ++ ys → derives_in N rules inner r xs a.0 → derives_in N rules inner s ys a.1 → has (first (seq r s)) t.token.kind ≡ true
      at f g [] ys e p q =
          let absent : can_be_empty r ≡ true = empty_law r a.0 p in
          rw absent (has_right (first r) (first s) _ (g t w a.1 (subst (λ (z : List Marked). derives_in N rules inner s z a.1) (sym e) q)))
      at f g (x ∷ xs) ys e p q =
          let same : t ≡ x = cc e in
          let h : has (first r) t.token.kind ≡ true = subst (λ (z : Marked). has (first r) z.token.kind ≡ true) (sym same) (f x xs a.0 p) in
          elim (bool_cases (can_be_empty r)) [ inl b ↦ rw b (has_left (first r) (first s) _ h) | inr b ↦ rw b h ]
    first_law (fork r g s u) t w a d = at (first_law r) (first_law s) (first_law u) d.0 d.1 d.2 d.3 (g a.0) d.4 where
      at : ((t : Marked) (w : List Marked) (b : _) → derives_in N rules inner r (t ∷ w) b → has (first r) t.token.kind ≡ true)
          → ((t : Marked) (w : List Marked) (b : _) → derives_in N rules inner s (t ∷ w) b → has (first s) t.token.kind ≡ true)
          → ((t : Marked) (w : List Marked) (b : _) → derives_in N rules inner u (t ∷ w) b → has (first u) t.token.kind ≡ true)
          → (xs ys : List Marked) → t ∷ w ≡ xs ++ ys → derives_in N rules inner r xs a.0 → (b : Bool) → pick b (derives_in N rules inner s) (derives_in N rules inner u) ys a.1 → has (first (fork r g s u)) t.token.kind ≡ true
      at f k h [] ys e p true q =
          let absent : can_be_empty r ≡ true = empty_law r a.0 p in
          rw absent (has_right (first r) (join (first s) (first u)) _ (has_left (first s) (first u) _ (k t w a.1 (subst (λ (z : List Marked). derives_in N rules inner s z a.1) (sym e) q))))
      at f k h [] ys e p false q =
          let absent : can_be_empty r ≡ true = empty_law r a.0 p in
          rw absent (has_right (first r) (join (first s) (first u)) _ (has_right (first s) (first u) _ (h t w a.1 (subst (λ (z : List Marked). derives_in N rules inner u z a.1) (sym e) q))))
      at f k h (x ∷ xs) ys e p b q =
          let same : t ≡ x = cc e in
          let here : has (first r) t.token.kind ≡ true = subst (λ (z : Marked). has (first r) z.token.kind ≡ true) (sym same) (f x xs a.0 p) in
          elim (bool_cases (can_be_empty r)) [ inl b ↦ rw b (has_left (first r) (join (first s) (first u)) _ here) | inr b ↦ rw b here ]
    first_law (alt r s) t w a d = elim d [ inl p ↦ has_left (first r) (first s) _ (first_law r t w a p) | inr p ↦ has_right (first r) (first s) _ (first_law s t w a p) ]
    first_law (many r) t w a d = loop_first (first r) (λ b. derives_in N rules inner r) (λ a. false) (λ b. first_law r) a false t w d
    first_law {A} (until r f s) t w found d = loop_first (join (first r) (first s)) (λ b. pick b (derives_in N rules inner s) (derives_in N rules inner r)) f (at (first_law r) (first_law s)) found false t w d where
      at : ((t : Marked) (w : List Marked) (b : _) → derives_in N rules inner r (t ∷ w) b → has (first r) t.token.kind ≡ true)
          → ((t : Marked) (w : List Marked) (b : _) → derives_in N rules inner s (t ∷ w) b → has (first s) t.token.kind ≡ true)
          → (b : Bool) (t : Marked) (w : List Marked) (a : _) → pick b (derives_in N rules inner s) (derives_in N rules inner r) (t ∷ w) a → has (join (first r) (first s)) t.token.kind ≡ true
      at g h true t w a p = has_right (first r) (first s) _ (h t w a p)
      at g h false t w a p = has_left (first r) (first s) _ (g t w a p)
    first_law (to f r) t w a d = first_law r t w d.0 d.1
    first_law (over f r) t w a d = first_law r t w d.0 d.1
    first_law (nest m o n k c) t w a d = let same : marked (opens m) d.0 ≡ t = cc d.3 in subst (λ (z : Marked). has o z.token.kind ≡ true) same d.4

  -- ---- what is within more openings

  pub loop_mono : {A : Type 0} (l m : Bool → Lang A) (f : A → Bool) → ((b : Bool) (w : List Marked) (a : A) → l b w a → m b w a) → (b : Bool) (w : List Marked) (found : List A) → Loop l f b w found → Loop m f b w found
  loop_mono l m f g b w [] d = d
  loop_mono l m f g b w (a ∷ found) d = (d.0, d.1, d.2, g b d.0 a d.3, loop_mono l m f g (b || f a) d.1 found d.4)

  pub pick_mono : {A : Type 0} (l l' m m' : Lang A) (w : List Marked) (a : A) (b : Bool) → (l w a → l' w a) → (m w a → m' w a) → pick b l m w a → pick b l' m' w a
  pick_mono l l' m m' w a true f g d = f d
  pick_mono l l' m m' w a false f g d = g d

  pub derives_mono : (inner outer : (A : Type 0) → N A → Lang A) → ((A : Type 0) (n : N A) (w : List Marked) (a : A) → inner A n w a → outer A n w a)
      → {A : Type 0} (r : Rule N A) (w : List Marked) (a : A) → derives_in N rules inner r w a → derives_in N rules outer r w a
  derives_mono inner outer f (tok m ks) w a d = d
  derives_mono inner outer f (pure x) w a d = d
  derives_mono inner outer f (seq r s) w a d = (d.0, d.1, d.2, derives_mono inner outer f r d.0 a.0 d.3, derives_mono inner outer f s d.1 a.1 d.4)
  derives_mono inner outer f (fork r g s t) w a d = (d.0, d.1, d.2, derives_mono inner outer f r d.0 a.0 d.3, pick_mono (derives_in N rules inner s) (derives_in N rules outer s) (derives_in N rules inner t) (derives_in N rules outer t) d.1 a.1 (g a.0) (derives_mono inner outer f s d.1 a.1) (derives_mono inner outer f t d.1 a.1) d.4)
  derives_mono inner outer f (alt r s) w a d = elim d [ inl p ↦ inl (derives_mono inner outer f r w a p) | inr p ↦ inr (derives_mono inner outer f s w a p) ]
  derives_mono inner outer f (many r) w a d = loop_mono (λ b. derives_in N rules inner r) (λ b. derives_in N rules outer r) (λ a. false) (λ b. derives_mono inner outer f r) false w a d
  derives_mono inner outer f (until r g s) w found d = loop_mono (λ b. pick b (derives_in N rules inner s) (derives_in N rules inner r)) (λ b. pick b (derives_in N rules outer s) (derives_in N rules outer r)) g
      (λ b w a. pick_mono (derives_in N rules inner s) (derives_in N rules outer s) (derives_in N rules inner r) (derives_in N rules outer r) w a b (derives_mono inner outer f s w a) (derives_mono inner outer f r w a)) false w found d
  derives_mono inner outer f (to g r) w a d = (d.0, derives_mono inner outer f r w d.0 d.1, d.2)
  derives_mono inner outer f (over g r) w a d = (d.0, derives_mono inner outer f r w d.0 d.1, d.2)
  derives_mono inner outer f (nest {A} m o n k c) w a d = (d.0, d.1, d.2, d.3, d.4, d.5, f A n d.2 a d.6)

  pub nested_grows : (d e : ℕ) → d ≤ e → (A : Type 0) (n : N A) (w : List Marked) (a : A) → nested N rules d A n w a → nested N rules e A n w a
  nested_grows zero e h A n w a l = absurd l
  nested_grows (suc d) zero h A n w a l = absurd (omega arith)
  nested_grows (suc d) (suc e) h A n w a l = derives_mono (nested N rules d) (nested N rules e) (nested_grows d e (omega arith)) (rules A n) w a l

  pub grows : {A : Type 0} (r : Rule N A) → Grows (λ e. derives N rules e r)
  grows r d e w a h l = derives_mono (nested N rules d) (nested N rules e) (nested_grows d e h) r w a l

  pub begins_pick : {A : Type 0} (b : Bool) (L M : ℕ → Lang A) (w : List Marked) → Begins L w → Begins M w → Begins (λ e. pick b (L e) (M e)) w
  begins_pick true L M w f g = f
  begins_pick false L M w f g = g

  pub pick_grows : {A : Type 0} (b : Bool) (s t : Rule N A) → Grows (λ e. pick b (derives N rules e s) (derives N rules e t))
  pick_grows true s t d e w a h l = grows s d e w a h l
  pick_grows false s t d e w a h l = grows t d e w a h l

  -- ---- something is derived

  pub end_law : (inner : (A : Type 0) → N A → Bool) → ((A : Type 0) (n : N A) → inner A n ≡ true → Begins (λ e. nested N rules e A n) [])
      → {A : Type 0} (r : Rule N A) → is_clear N rules r ≡ true → can_end inner r ≡ true → Begins (λ e. derives N rules e r) []
  end_law inner f (tok m ks) h k = let t = some_token ks h in (0, marked (stays m) t.0 ∷ [], t.0, (refl, t.1))
  end_law inner f (pure x) h k = (0, [], x, (refl, refl))
  end_law inner f (seq r s) h k =
      let p = and_true (is_clear N rules r) _ h in
      let q = and_true (is_clear N rules s) _ p.1 in
      let j = and_true (can_end inner r) _ k in
      let b = end_law inner f r p.0 j.0 in
      let c = end_law inner f s q.0 j.1 in
      (max b.0 c.0, b.1 ++ c.1, (b.2, c.2), (b.1, c.1, refl, grows r b.0 _ _ _ (left_of_max b.0 c.0) b.3, grows s c.0 _ _ _ (right_of_max b.0 c.0) c.3))
  end_law inner f (fork r g s t) h k =
      let p = and_true (is_clear N rules r) _ h in
      let q = and_true (is_clear N rules s) _ p.1 in
      let u = and_true (is_clear N rules t) _ q.1 in
      let j = and_true (can_end inner r) _ k in
      let i = and_true (can_end inner s) _ j.1 in
      let b = end_law inner f r p.0 j.0 in
      let c = begins_pick (g b.2) (λ e. derives N rules e s) (λ e. derives N rules e t) [] (end_law inner f s q.0 i.0) (end_law inner f t u.0 i.1) in
      (max b.0 c.0, b.1 ++ c.1, (b.2, c.2), (b.1, c.1, refl, grows r b.0 _ _ _ (left_of_max b.0 c.0) b.3, pick_grows (g b.2) s t c.0 _ _ _ (right_of_max b.0 c.0) c.3))
  end_law inner f (alt r s) h k =
      let p = and_true (is_clear N rules r) _ h in
      let q = and_true (is_clear N rules s) _ p.1 in
      elim (bool_cases (can_end inner r)) [
        | inl y ↦ (let b = end_law inner f r p.0 y in (b.0, b.1, b.2, inl b.3))
        | inr n ↦ (let b = end_law inner f s q.0 (rw n at k) in (b.0, b.1, b.2, inr b.3))
      ]
  end_law inner f (many r) h k = (0, [], [], refl)
  end_law inner f (until r g s) h k = (0, [], [], refl)
  end_law inner f (to g r) h k = let b = end_law inner f r h k in (b.0, b.1, g b.2, (b.2, b.3, refl))
  end_law inner f (over g r) h k = let b = end_law inner f r h k in (b.0, b.1, g b.2 (plain b.1), (b.2, b.3, refl))
  end_law inner f (nest {A} m o n k c) h l =
      let p = and_true (is_some (some_kind o all_kinds)) _ h in
      let q = and_true (is_some (some_kind c all_kinds)) _ p.1 in
      let t = some_token o p.0 in
      let z = some_token c q.0 in
      let b = f A n l in
      (b.0, marked (opens m) t.0 ∷ (b.1 ++ marked (closes k) z.0 ∷ []), b.2, (t.0, z.0, b.1, refl, t.1, z.1, b.3))

  pub ends_law : ((A : Type 0) (n : N A) → is_clear N rules (rules A n) ≡ true) → (d : ℕ) (A : Type 0) (n : N A) → ends N rules d A n ≡ true → Begins (λ e. nested N rules e A n) []
  ends_law clear zero A n h = cc
  ends_law clear (suc d) A n h = let b = end_law (ends N rules d) (ends_law clear d) (rules A n) (clear A n) h in (suc b.0, b.1, b.2, b.3)
