-- Each clear rule is read exactly.
use Rattle.std.proofs.Common.{◌≡◌, ℕ, zero, suc, ◌-◌, ◌<◌, ◌≤◌, length-append, not, ◌||◌, nat_eq, max, Bool, true, false, List, [], ◌∷◌, ◌++◌, length, if◌then◌else◌, is_some, Result, Ok, Err, refl, sym, ◌∙◌, ap, subst, append_assoc, append-nil, drop, arith, inl, inr}
use Rattle.std.proofs.Math.Dec.{eqb-suc-zero}
use Rattle.sql_tree.specs.declared.token.Token.{Token}
use Rattle.sql_grammar.specs.declared.counts.Limit.{Limit}
use Rattle.sql_grammar.specs.declared.counts.Limit.TheVariants as limit
use Rattle.sql_grammar.specs.declared.counts.Role.{Role}
use Rattle.sql_grammar.specs.declared.counts.Counts.{Counts}
use Rattle.sql_grammar.specs.Kinds.{all_kinds}
use Rattle.sql_grammar.specs.Marks.{count, Mark, stays, opens, closes, Marked, marked, plain, Run, Fits, Past, counted, step, run_on, run}
use Rattle.sql_grammar.specs.Rules.{Kinds, join, has, starts, Lang, Tok, Loop, To, Rule, tok, pure, seq, fork, Fork, pick, pick_kinds, pick_read, alt, many, until, to, over, nest, before, Parser, Outcome, Done, Stop, Fail, Wrong, Over, ◌>>=◌, taken, one, both, all_of, body, opening, some_kind, can_be_empty, first, more, apart, is_clear, nested, derives, reads}
use Rattle.sql_grammar.specs.Answers.{Answer, Tree, Syntax, TooMuch, whole, IsTree, NoneBegins, IsFirstWrong, IsFirstPast, Meets}
use Rattle.sql_grammar.specs.Exact.{Begins, rest_of, Found, Reads, same_level}
use Rattle.sql_grammar.proofs.ReadingLaws.{Cuts, alike, less_first, more_first, cuts, past_length, plain_length, plain_split, bool_cases, plain_append, plain_assoc, run_more, run_append, fits_then, left_of_max, right_of_max, one_reads, some_token, on_reads, to_reads, over_reads, before_front, alt_reads, loop_reads, chosen, other, none_of, one_turn, turn_step, add_one}
use Rattle.sql_grammar.proofs.KindSets.{and_true, or_right, not_true, starts_apart, apart_has}
use Rattle.sql_grammar.proofs.Derivations.{empty_law, first_law, grows, begins_pick, pick_grows}

module _ (N : Type 0 → Type 1) (rules : (A : Type 0) → N A → Rule N A) where
  -- ---- each rule reads its language

  module _ (rich : (A : Type 0) (n : N A) → Begins (λ e. nested N rules e A n) []) (clear : (A : Type 0) (n : N A) → is_clear N rules (rules A n) ≡ true) where
    abbrev R : {A : Type 0} → Rule N A → ℕ → Parser A
    R r e = reads N rules e r

    abbrev D : {A : Type 0} → Rule N A → ℕ → Lang A
    D r e = derives N rules e r

    pub productive : {A : Type 0} (r : Rule N A) → is_clear N rules r ≡ true → Begins (D r) []
    productive (tok m ks) h = let t = some_token ks h in (0, marked (stays m) t.0 ∷ [], t.0, (refl, t.1))
    productive (pure x) h = (0, [], x, (refl, refl))
    productive (seq r s) h =
        let p = and_true (is_clear N rules r) _ h in
        let q = and_true (is_clear N rules s) _ p.1 in
        let b = productive r p.0 in
        let c = productive s q.0 in
        (max b.0 c.0, b.1 ++ c.1, (b.2, c.2), (b.1, c.1, refl, grows N rules r b.0 _ _ _ (left_of_max b.0 c.0) b.3, grows N rules s c.0 _ _ _ (right_of_max b.0 c.0) c.3))
    productive (fork r g s t) h =
        let p = and_true (is_clear N rules r) _ h in
        let q = and_true (is_clear N rules s) _ p.1 in
        let u = and_true (is_clear N rules t) _ q.1 in
        let b = productive r p.0 in
        let c = begins_pick N rules (g b.2) (D s) (D t) [] (productive s q.0) (productive t u.0) in
        (max b.0 c.0, b.1 ++ c.1, (b.2, c.2), (b.1, c.1, refl, grows N rules r b.0 _ _ _ (left_of_max b.0 c.0) b.3, pick_grows N rules (g b.2) s t c.0 _ _ _ (right_of_max b.0 c.0) c.3))
    productive (alt r s) h = let p = and_true (is_clear N rules r) _ h in let b = productive r p.0 in (b.0, b.1, b.2, inl b.3)
    productive (many r) h = (0, [], [], refl)
    productive (until r f s) h = (0, [], [], refl)
    productive (to f r) h = let b = productive r h in (b.0, b.1, f b.2, (b.2, b.3, refl))
    productive (over f r) h = let b = productive r h in (b.0, b.1, f b.2 (plain b.1), (b.2, b.3, refl))
    productive (nest {A} m o n k c) h =
        let p = and_true (is_some (some_kind o all_kinds)) _ h in
        let q = and_true (is_some (some_kind c all_kinds)) _ p.1 in
        let t = some_token o p.0 in
        let z = some_token c q.0 in
        let b = rich A n in
        (b.0, marked (opens m) t.0 ∷ (b.1 ++ marked (closes k) z.0 ∷ []), b.2, (t.0, z.0, b.1, refl, t.1, z.1, b.3))

    -- what stands between the opening and the closing token, and the latter
    abbrev F : {A : Type 0} → N A → Role → Kinds → ℕ → Parser A
    F {A} n k c e = body (R (rules A n) e) k c

    abbrev FL : {A : Type 0} → N A → Role → Kinds → ℕ → Lang A
    FL {A} n k c e = To (λ (x : A × Token). x.0) (Fork (D (rules A n) e) (λ a. Tok closes k c))

    abbrev W : {A : Type 0} → Role → Kinds → N A → Role → Kinds → ℕ → Parser A
    W m o n k c = R (nest m o n k c)

    abbrev WL : {A : Type 0} → Role → Kinds → N A → Role → Kinds → ℕ → Lang A
    WL m o n k c = D (nest m o n k c)

    inside : {A : Type 0} (m : Role) (o : Kinds) (n : N A) (k : Role) (c : Kinds) (e : ℕ) (t : Token) (w : List Marked) (a : A) → has o t.kind ≡ true → FL n k c e w a → WL m o n k c (suc e) (marked (opens m) t ∷ w) a
    inside {A} m o n k c e t w a here l =
        let s = l.1 in
        let is : marked (opens m) t ∷ w ≡ marked (opens m) t ∷ (s.0 ++ marked (closes k) l.0.1 ∷ []) = ap (λ (v : List Marked). marked (opens m) t ∷ v) (s.2 ∙ ap (λ v. s.0 ++ v) s.4.0) in
        (t, l.0.1, s.0, is, here, s.4.1, subst (λ (b : A). D (rules A n) e s.0 b) (sym l.2) s.3)

    begins_inside : {A : Type 0} (m : Role) (o : Kinds) (n : N A) (k : Role) (c : Kinds) (t : Token) (w : List Marked) → has o t.kind ≡ true → Begins (FL n k c) w → Begins (WL m o n k c) (marked (opens m) t ∷ w)
    begins_inside m o n k c t w here b = (suc b.0, b.1, b.2, inside m o n k c b.0 t (w ++ b.1) b.2 here b.3)

    -- a token that may open it
    begins_opening : {A : Type 0} (m : Role) (o : Kinds) (n : N A) (k : Role) (c : Kinds) → is_clear N rules (nest m o n k c) ≡ true → (t : Token) → has o t.kind ≡ true → Begins (WL m o n k c) (marked (opens m) t ∷ [])
    begins_opening {A} m o n k c h t here =
        let p = and_true (is_some (some_kind o all_kinds)) _ h in
        let q = and_true (is_some (some_kind c all_kinds)) _ p.1 in
        let z = some_token c q.0 in
        let b = rich A n in
        (b.0, b.1 ++ marked (closes k) z.0 ∷ [], b.2, (t, z.0, b.1, refl, here, z.1, b.3))

    opening_is : {A : Type 0} (m : Role) (o : Kinds) (n : N A) (k : Role) (c : Kinds) (e : ℕ) (i j : Counts) (t : Token) (w : List Token) (r : Outcome A) → has o t.kind ≡ true → count m i ≡ Ok j → F n k c e j w ≡ r → W m o n k c (suc e) i (t ∷ w) ≡ r
    opening_is m o n k c e i j t w r here ok is = rw (here, ok) is

    opening_run : (m : Role) (d : ℕ) (i j : Counts) (t : Token) (w : List Marked) → count m i ≡ Ok j → run (suc d) i (marked (opens m) t ∷ w) ≡ run d j w
    opening_run m d i j t w ok = rw ok refl

    nest_shift : {A : Type 0} (m : Role) (o : Kinds) (n : N A) (k : Role) (c : Kinds) (d : ℕ) (i j : Counts) (t : Token) (ts : List Token) → has o t.kind ≡ true → count m i ≡ Ok j
        → (r : Outcome A) → Found (λ e. suc e) (F n k c) (FL n k c) d j ts r → Found same_level (W m o n k c) (WL m o n k c) (suc d) i (t ∷ ts) r
    nest_shift m o n k c d i j t ts here ok (Done a e rest) f = record {
      is = opening_is m o n k c d i j t ts _ here ok f.is;
      w = marked (opens m) t ∷ f.w;
      split = ap (λ v. t ∷ v) f.split;
      means = (inside m o n k c d t f.w a here f.means.0, opening_run m d i j t f.w ok ∙ f.means.1);
      same = elim [ zero ↦ λ x h. absurd (omega arith) | suc e ↦ λ x h. opening_is m o n k c e i j t _ _ here ok (f.same e x (omega arith)) ];
    }
    nest_shift m o n k c d i j t ts here ok (Stop Wrong rest) f = record {
      is = opening_is m o n k c d i j t ts _ here ok f.is;
      w = marked (opens m) t ∷ f.w;
      split = ap (λ v. t ∷ v) f.split;
      means = (begins_inside m o n k c t f.w here f.means.0, (f.means.1.0, f.means.1.1, opening_run m d i j t f.w ok ∙ f.means.1.2));
      same = elim [ zero ↦ λ x h. absurd (omega arith) | suc e ↦ λ x h. opening_is m o n k c e i j t _ _ here ok (f.same e x (omega arith)) ];
    }
    nest_shift m o n k c d i j t ts here ok (Stop (Over l) []) f = absurd f.means
    nest_shift m o n k c d i j t ts here ok (Stop (Over l) (z ∷ rest)) f = record {
      is = opening_is m o n k c d i j t ts _ here ok f.is;
      w = marked (opens m) t ∷ f.w;
      split = ap (λ v. t ∷ v) f.split;
      means = (f.means.0, begins_inside m o n k c t (f.w ++ marked f.means.0 z ∷ []) here f.means.1, opening_run m d i j t (f.w ++ marked f.means.0 z ∷ []) ok ∙ f.means.2);
      same = elim [ zero ↦ λ x h. absurd (omega arith) | suc e ↦ λ x h. opening_is m o n k c e i j t _ _ here ok (f.same e x (omega arith)) ];
    }

    nest_none : {A : Type 0} (m : Role) (o : Kinds) (n : N A) (k : Role) (c : Kinds) → is_clear N rules (nest m o n k c) ≡ true → (d : ℕ) (i : Counts) (ts : List Token) → starts o ts ≡ false → Reads same_level (W m o n k c) (WL m o n k c) d i ts
    nest_none m o n k c h d i [] none = (Fail [], record { is = refl; w = []; split = refl; means = (productive (nest m o n k c) h, (d, i, refl)); same = λ e x q. refl })
    nest_none m o n k c h d i (t ∷ ts) none = (Fail (t ∷ ts), record { is = rw none refl; w = []; split = refl; means = (productive (nest m o n k c) h, (d, i, refl)); same = λ e x q. rw none refl })

    nest_over : {A : Type 0} (m : Role) (o : Kinds) (n : N A) (k : Role) (c : Kinds) → is_clear N rules (nest m o n k c) ≡ true → (i : Counts) (t : Token) (ts : List Token) → has o t.kind ≡ true → Reads same_level (W m o n k c) (WL m o n k c) 0 i (t ∷ ts)
    nest_over {A} m o n k c h i t ts here = (
      Stop (Over limit.Nestings) (t ∷ ts),
      record {
        is = rw here refl;
        w = [];
        split = refl;
        means = (opens m, begins_opening m o n k c h t here, refl);
        same = elim [ zero ↦ λ x q. rw here refl | suc e ↦ λ x q. absurd (omega arith) ];
      },
    )

    -- the opening token passes a limit
    nest_past : {A : Type 0} (m : Role) (o : Kinds) (n : N A) (k : Role) (c : Kinds) → is_clear N rules (nest m o n k c) ≡ true → (d : ℕ) (i : Counts) (l : Limit) (t : Token) (ts : List Token) → has o t.kind ≡ true → count m i ≡ Err l
        → Reads same_level (W m o n k c) (WL m o n k c) (suc d) i (t ∷ ts)
    nest_past {A} m o n k c h d i l t ts here err = (
      Stop (Over l) (t ∷ ts),
      record {
        is = rw (here, err) refl;
        w = [];
        split = refl;
        means = (opens m, begins_opening m o n k c h t here, rw err refl);
        same = elim [ zero ↦ λ x q. absurd (omega arith) | suc e ↦ λ x q. rw (here, err) refl ];
      },
    )

    pure_reads : {A : Type 0} (x : A) (d : ℕ) (i : Counts) (ts : List Token) → Reads same_level (R (pure x)) (D (pure x)) d i ts
    pure_reads x d i ts = (Done x i ts, record { is = refl; w = []; split = refl; means = ((refl, refl), refl); same = λ e x c. refl })

    pick_reads : {A : Type 0} (P Q : ℕ → Parser A) (L M : ℕ → Lang A) (d : ℕ) (b : Bool) → ((i : Counts) (ts : List Token) → Reads same_level P L d i ts) → ((i : Counts) (ts : List Token) → Reads same_level Q M d i ts)
        → (i : Counts) (ts : List Token) → Reads same_level (λ e. pick_read b (P e) (Q e)) (λ e. pick b (L e) (M e)) d i ts
    pick_reads P Q L M d true p q i ts = p i ts
    pick_reads P Q L M d false p q i ts = q i ts

    solid_law : {A : Type 0} (r : Rule N A) → not (can_be_empty r) ≡ true → (e : ℕ) (a : A) → D r e [] a → ⊥
    solid_law r h e a l = let yes : can_be_empty r ≡ true = empty_law N rules (nested N rules e) r a l in let no : can_be_empty r ≡ false = not_true _ h in cc

    pick_solid : {A : Type 0} (r s : Rule N A) → not (can_be_empty r) ≡ true → not (can_be_empty s) ≡ true → (b : Bool) (e : ℕ) (a : A) → pick b (D s e) (D r e) [] a → ⊥
    pick_solid r s h k true e a l = solid_law s k e a l
    pick_solid r s h k false e a l = solid_law r h e a l

    -- at a number of openings, where the inner rules are read exactly with fewer
    module _ (d : ℕ) (inner : (A : Type 0) (m : Role) (o : Kinds) (n : N A) (k : Role) (c : Kinds) → is_clear N rules (nest m o n k c) ≡ true → (i : Counts) (ts : List Token) → Reads same_level (W m o n k c) (WL m o n k c) d i ts) where
      rule_reads : {A : Type 0} (r : Rule N A) → is_clear N rules r ≡ true → (i : Counts) (ts : List Token) → Reads same_level (R r) (D r) d i ts
      rule_reads (tok m ks) h i ts = one_reads stays same_level (λ r d k w. refl) m ks h d i ts
      rule_reads (pure x) h i ts = pure_reads x d i ts
      rule_reads (seq r s) h i ts =
          let p = and_true (is_clear N rules r) _ h in
          let q = and_true (is_clear N rules s) _ p.1 in
          on_reads same_level (R r) (λ a. R s) (D r) (λ a. D s) (grows N rules r) (λ a. grows N rules s) (λ a. productive s q.0) d (rule_reads r p.0) (λ a. rule_reads s q.0) i ts
      rule_reads (fork r g s t) h i ts =
          let p = and_true (is_clear N rules r) _ h in
          let q = and_true (is_clear N rules s) _ p.1 in
          let u = and_true (is_clear N rules t) _ q.1 in
          on_reads same_level (R r) (λ a e. pick_read (g a) (R s e) (R t e)) (D r) (λ a e. pick (g a) (D s e) (D t e)) (grows N rules r) (λ a. pick_grows N rules (g a) s t)
          (λ a. begins_pick N rules (g a) (D s) (D t) [] (productive s q.0) (productive t u.0)) d (rule_reads r p.0) (λ a. pick_reads (R s) (R t) (D s) (D t) d (g a) (rule_reads s q.0) (rule_reads t u.0)) i ts
      rule_reads (alt r s) h i ts =
          let p = and_true (is_clear N rules r) _ h in
          let q = and_true (is_clear N rules s) _ p.1 in
          alt_reads (first r) (R r) (R s) (D r) (D s) d (rule_reads r p.0) (rule_reads s q.0) i ts
      rule_reads (many r) h i ts =
          let p = and_true (is_clear N rules r) _ h in
          let q = and_true (not (can_be_empty r)) _ p.1 in
          loop_reads (λ b. first r) (λ a. false) (λ b. R r) (λ b. D r) (λ b. grows N rules r) (λ b. solid_law r q.0) d (λ b. rule_reads r p.0) false i ts
      rule_reads (until r f s) h i ts =
          let p = and_true (is_clear N rules r) _ h in
          let q = and_true (is_clear N rules s) _ p.1 in
          let u = and_true (not (can_be_empty r)) _ q.1 in
          let v = and_true (not (can_be_empty s)) _ u.1 in
          loop_reads (λ b. pick_kinds b (first s) (first r)) f (λ b e. pick_read b (R s e) (R r e)) (λ b e. pick b (D s e) (D r e)) (λ b. pick_grows N rules b s r) (pick_solid r s u.0 v.0) d
          (λ b. pick_reads (R s) (R r) (D s) (D r) d b (rule_reads s q.0) (rule_reads r p.0)) false i ts
      rule_reads (to f r) h i ts = to_reads same_level f (R r) (D r) d (rule_reads r h) i ts
      rule_reads (over f r) h i ts = over_reads same_level f (R r) (D r) d (rule_reads r h) i ts
      rule_reads (nest {A} m o n k c) h i ts = inner A m o n k c h i ts

    inner_reads : (d : ℕ) (A : Type 0) (m : Role) (o : Kinds) (n : N A) (k : Role) (c : Kinds) → is_clear N rules (nest m o n k c) ≡ true → (i : Counts) (ts : List Token) → Reads same_level (W m o n k c) (WL m o n k c) d i ts
    inner_reads d A m o n k c h i [] = nest_none m o n k c h d i [] refl
    inner_reads zero A m o n k c h i (t ∷ ts) =
        elim (bool_cases (has o t.kind)) [
          | inl here ↦ nest_over m o n k c h i t ts here
          | inr none ↦ nest_none m o n k c h 0 i (t ∷ ts) none
        ]
    inner_reads (suc d) A m o n k c h i (t ∷ ts) =
        elim (bool_cases (has o t.kind)) [
          | inl here ↦ at (rule_reads d (inner_reads d) (rules A n) (clear A n)) here (count m i) refl
          | inr none ↦ nest_none m o n k c h (suc d) i (t ∷ ts) none
        ] where
          at : ((i : Counts) (ts : List Token) → Reads same_level (R (rules A n)) (D (rules A n)) d i ts) → has o t.kind ≡ true → (q : Result Counts Limit) → count m i ≡ q → Reads same_level (W m o n k c) (WL m o n k c) (suc d) i (t ∷ ts)
          at inner here (Err l) e = nest_past m o n k c h d i l t ts here e
          at inner here (Ok j) e =
              let p = and_true (is_some (some_kind o all_kinds)) _ h in
              let q = and_true (is_some (some_kind c all_kinds)) _ p.1 in
              let last = one_reads closes (λ e. suc e) (λ r d k w. refl) k c q.0 d in
              let pair = on_reads (λ e. suc e) (R (rules A n)) (λ a e. one k c) (D (rules A n)) (λ a e. Tok closes k c) (grows N rules (rules A n)) (λ a d e w b k l. l)
              (λ a. let z = some_token c q.0 in (0, marked (closes k) z.0 ∷ [], z.0, (refl, z.1))) d inner (λ a. last) in
              let all = to_reads (λ e. suc e) (λ (x : A × Token). x.0) (λ e. both (R (rules A n) e) (one k c)) (λ e. Fork (D (rules A n) e) (λ a. Tok closes k c)) d pair j ts in
              (all.0, nest_shift m o n k c d i j t ts here e all.0 all.1)

    pub reads_exactly : {A : Type 0} (r : Rule N A) → is_clear N rules r ≡ true → (d : ℕ) (i : Counts) (ts : List Token) → Reads same_level (R r) (D r) d i ts
    reads_exactly r h d i ts = rule_reads d (inner_reads d) r h i ts

  pub nest_is : {A : Type 0} (m : Role) (o : Kinds) (n : N A) (k : Role) (c : Kinds) (d : ℕ) (i : Counts) (ts : List Token)
      → reads N rules d (nest m o n k c) i ts ≡ (opening d m o i ts >>= λ t j rest. reads N rules (d - 1) (rules A n) j rest >>= λ a e mid. one k c e mid >>= λ z f end. Done a f end)
  nest_is m o n k c d i [] = refl
  nest_is m o n k c zero i (t ∷ ts) = elim (bool_cases (has o t.kind)) [ inl here ↦ rw here refl | inr none ↦ rw none refl ]
  nest_is {A} m o n k c (suc d) i (t ∷ ts) =
      elim (bool_cases (has o t.kind)) [
        | inl here ↦ (let less : suc d - 1 ≡ d = omega arith in let some : nat_eq (suc d) 0 ≡ false = eqb-suc-zero d in rw (here, some, less) (opened (count m i)))
        | inr none ↦ rw none refl
      ] where
        last : (r : Outcome A) → (◌>>=◌ {A = A × Token} (r >>= λ a e rest. one k c e rest >>= λ b f end. Done (a, b) f end) (λ x f rest. Done x.0 f rest)) ≡ (r >>= λ a e mid. one k c e mid >>= λ z f end. Done a f end)
        last (Done a e mid) = close (one k c e mid) where
          close : (r : Outcome Token) → (◌>>=◌ {A = A × Token} (r >>= λ b f end. Done (a, b) f end) (λ x f rest. Done x.0 f rest)) ≡ (r >>= λ z f end. Done a f end)
          close (Done z f end) = refl
          close (Stop why rest) = refl
        last (Stop why rest) = refl

        opened : (q : Result Counts Limit) → (taken q t ts >>= λ u j rest. body (reads N rules d (rules A n)) k c j rest) ≡ (taken q t ts >>= λ u j rest. reads N rules d (rules A n) j rest >>= λ a e mid. one k c e mid >>= λ z f end. Done a f end)
        opened (Ok j) = last (reads N rules d (rules A n) j ts)
        opened (Err l) = refl

  -- ---- what is derived is read, up to a limit, where no token follows that would make it longer

  -- a tree of marked tokens and a rest, where the tokens ran so
  abbrev pub ended : {A : Type 0} → A → List Token → Run → Outcome A
  ended a rest (Fits e c) = Done a c rest
  ended a rest (Past l u) = Stop (Over l) (plain u ++ rest)

  abbrev Level : ℕ → Run → Type 0
  Level d (Fits e c) = e ≡ d
  Level d (Past l u) = Unit {0}

  ended_to : {A B : Type 0} (f : A → B) (a : A) (rest : List Token) (r : Run) → (ended a rest r >>= λ x c end. Done (f x) c end) ≡ ended (f a) rest r
  ended_to f a rest (Fits e c) = refl
  ended_to f a rest (Past l u) = refl

  -- `v` are the tokens in front of the rest
  ended_over : {A B : Type 0} (f : A → List Token → B) (a : A) (v rest : List Token) (r : Run) → (ended a rest r >>= λ x c end. Done (f x (before (v ++ rest) end)) c end) ≡ ended (f a v) rest r
  ended_over f a v rest (Fits e c) = ap (λ (u : List Token). Done (f a u) c rest) (before_front v rest)
  ended_over f a v rest (Past l u) = refl

  after_ended : {A B : Type 0} (d u : ℕ) (k : Counts) (xs ys : List Marked) (rest : List Token) (a : A) (b : B) (o : Outcome A) (g : A → Parser B)
      → o ≡ ended a (plain ys ++ rest) (run d k xs) → Level d (run d k xs) → ((c : Counts) → (g a c (plain ys ++ rest) ≡ ended b rest (run d c ys)) × Level u (run d c ys))
      → ((o >>= g) ≡ ended b rest (run d k (xs ++ ys))) × Level u (run d k (xs ++ ys))
  after_ended {A} {B} d u k xs ys rest a b o g i j next = go (run d k xs) refl i j where
    go : (r : Run) → run d k xs ≡ r → o ≡ ended a (plain ys ++ rest) r → Level d r → ((o >>= g) ≡ ended b rest (run d k (xs ++ ys))) × Level u (run d k (xs ++ ys))
    go (Fits e c) h i j =
        let same : run d k (xs ++ ys) ≡ run d c ys = fits_then d e k c xs ys h ∙ ap (λ n. run n c ys) j in
        (ap (λ o. o >>= g) i ∙ (next c).0 ∙ ap (ended b rest) (sym same), subst (Level u) (sym same) (next c).1)
    go (Past l v) h i j =
        let same : run d k (xs ++ ys) ≡ Past l (v ++ ys) = run_append d k xs ys ∙ ap (λ (r : Run). run_more r ys) h in
        (ap (λ o. o >>= g) i ∙ ap (λ z. Stop (Over l) z) (sym (plain_assoc v ys rest)) ∙ ap (ended b rest) (sym same), subst (Level u) (sym same) tt)

  starts_first : {A : Type 0} (ks : Kinds) (l : Lang A) → ((t : Marked) (w : List Marked) (a : A) → l (t ∷ w) a → has ks t.token.kind ≡ true)
      → ((a : A) → l [] a → ⊥) → (w : List Marked) (rest : List Token) (a : A) → l w a → starts ks (plain w ++ rest) ≡ true
  starts_first ks l f solid [] rest a d = absurd (solid a d)
  starts_first ks l f solid (t ∷ w) rest a d = f t w a d

  -- what stands before a rest doesn't go on, if the rest doesn't or begins otherwise
  stops : {B : Type 0} (ks js : Kinds) (m : Lang B) → apart ks js ≡ true → ((t : Marked) (w : List Marked) (b : B) → m (t ∷ w) b → has js t.token.kind ≡ true)
      → (ys : List Marked) (rest : List Token) (b : B) → m ys b → (m [] b → starts ks rest ≡ false) → starts ks (plain ys ++ rest) ≡ false
  stops ks js m e f [] rest b d g = g d
  stops ks js m e f (y ∷ ys) rest b d g = apart_has ks js y.token.kind e (f y ys b d)

  -- read with d openings left, where it is derived with e
  abbrev Took : {A : Type 0} → Rule N A → ℕ → Counts → List Marked → A → List Token → Type 0
  Took r d k w a rest = (reads N rules d r k (plain w ++ rest) ≡ ended a rest (run d k w)) × Level d (run d k w)

  abbrev Takes : {A : Type 0} → Rule N A → ℕ → ℕ → Type 0
  Takes {A} r d e = (w : List Marked) (a : A) (rest : List Token) (k : Counts) → derives N rules e r w a → starts (more r) rest ≡ false → Took r d k w a rest

  tok_takes : (mk : Role → Mark) (u : ℕ) (m : Role) (ks : Kinds) (d : ℕ) (k : Counts) (t : Token) (rest : List Token) → has ks t.kind ≡ true → ((w : List Marked) → step (mk m) d k w ≡ counted u (count m k) w)
      → (one m ks k (t ∷ rest) ≡ ended t rest (run d k (marked (mk m) t ∷ []))) × Level u (run d k (marked (mk m) t ∷ []))
  tok_takes mk u m ks d k t rest here steps = go (count m k) refl where
    go : (q : Result Counts Limit) → count m k ≡ q → (one m ks k (t ∷ rest) ≡ ended t rest (run d k (marked (mk m) t ∷ []))) × Level u (run d k (marked (mk m) t ∷ []))
    go (Ok c) e =
        let ran : run d k (marked (mk m) t ∷ []) ≡ Fits u c = ap (λ s. run_on s (λ e c. Fits e c)) (steps (marked (mk m) t ∷ []) ∙ ap (λ q. counted u q (marked (mk m) t ∷ [])) e) in
        (chosen _ _ _ here ∙ ap (λ q. taken q t rest) e ∙ ap (ended t rest) (sym ran), subst (Level u) (sym ran) refl)
    go (Err l) e =
        let ran : run d k (marked (mk m) t ∷ []) ≡ Past l (marked (mk m) t ∷ []) = ap (λ s. run_on s (λ e c. Fits e c)) (steps (marked (mk m) t ∷ []) ∙ ap (λ q. counted u q (marked (mk m) t ∷ [])) e) in
        (chosen _ _ _ here ∙ ap (λ q. taken q t rest) e ∙ ap (ended t rest) (sym ran), subst (Level u) (sym ran) tt)

  seq_takes : {A B : Type 0} (r : Rule N A) (s : Rule N B) (d e : ℕ) → apart (more r) (first s) ≡ true → Takes r d e → Takes s d e → Takes (seq r s) d e
  seq_takes {A} {B} r s d e h f g w p rest k l i =
      let xs : List Marked = l.0 in
      let ys : List Marked = l.1 in
      let last : starts (more s) rest ≡ false = elim (bool_cases (can_be_empty s)) [
        | inl b ↦ (starts_apart (more r) (more s) rest (rw b at i)).1
        | inr b ↦ rw b at i
      ] in
      let mid : starts (more r) (plain ys ++ rest) ≡ false = stops (more r) (first s) (derives N rules e s) h (first_law N rules (nested N rules e) s) ys rest p.1 l.4
      (λ none. let b : can_be_empty s ≡ true = empty_law N rules (nested N rules e) s p.1 none in (starts_apart (more r) (more s) rest (rw b at i)).0) in
      let one = f xs p.0 (plain ys ++ rest) k l.3 mid in
      let all = after_ended d d k xs ys rest p.0 p (reads N rules d r k (plain xs ++ (plain ys ++ rest))) (λ a c end. reads N rules d s c end >>= λ b e last. Done (a, b) e last) one.0 one.1
      (λ c. let two = g ys p.1 rest c l.4 last in (ap (λ o. o >>= λ b e last. Done (p.0, b) e last) two.0 ∙ ended_to (λ b. (p.0, b)) p.1 rest (run d c ys), two.1)) in
      subst (λ (v : List Marked). Took (seq r s) d k v p rest) (sym l.2) (ap (reads N rules d (seq r s) k) (plain_assoc xs ys rest) ∙ all.0, all.1)

  fork_takes : {A B : Type 0} (r : Rule N A) (test : A → Bool) (s t : Rule N B) (d e : ℕ) → apart (more r) (first s) ≡ true → apart (more r) (first t) ≡ true → Takes r d e → Takes s d e → Takes t d e → Takes (fork r test s t) d e
  fork_takes {A} {B} r test s t d e h₁ h₂ f g q w p rest k l i =
      let xs : List Marked = l.0 in
      let ys : List Marked = l.1 in
      let both_sets = starts_apart (if can_be_empty s || can_be_empty t then more r else []) (join (more s) (more t)) rest i in
      let ends_too = starts_apart (more s) (more t) rest both_sets.1 in
      let next = second (test p.0) ys l.4 both_sets.0 ends_too.0 ends_too.1 in
      let one = f xs p.0 (plain ys ++ rest) k l.3 next.0 in
      let all = after_ended d d k xs ys rest p.0 p (reads N rules d r k (plain xs ++ (plain ys ++ rest))) (λ a c end. pick_read (test a) (reads N rules d s) (reads N rules d t) c end >>= λ b e last. Done (a, b) e last) one.0 one.1
      (λ c. let two = next.1 c in (ap (λ o. o >>= λ b e last. Done (p.0, b) e last) two.0 ∙ ended_to (λ b. (p.0, b)) p.1 rest (run d c ys), two.1)) in
      subst (λ (v : List Marked). Took (fork r test s t) d k v p rest) (sym l.2) (ap (reads N rules d (fork r test s t) k) (plain_assoc xs ys rest) ∙ all.0, all.1) where
        second : (b : Bool) (ys : List Marked) → pick b (derives N rules e s) (derives N rules e t) ys p.1 → starts (if can_be_empty s || can_be_empty t then more r else []) rest ≡ false → starts (more s) rest ≡ false → starts (more t) rest ≡ false
            → (starts (more r) (plain ys ++ rest) ≡ false) × ((c : Counts) → (pick_read b (reads N rules d s) (reads N rules d t) c (plain ys ++ rest) ≡ ended p.1 rest (run d c ys)) × Level d (run d c ys))
        second true ys m n₀ n₁ n₂ = (
          stops (more r) (first s) (derives N rules e s) h₁ (first_law N rules (nested N rules e) s) ys rest p.1 m
              (λ none. let b : can_be_empty s ≡ true = empty_law N rules (nested N rules e) s p.1 none in rw b at n₀),
          λ c. g ys p.1 rest c m n₁,
        )
        second false ys m n₀ n₁ n₂ = (
          stops (more r) (first t) (derives N rules e t) h₂ (first_law N rules (nested N rules e) t) ys rest p.1 m
              (λ none. let b : can_be_empty t ≡ true = empty_law N rules (nested N rules e) t p.1 none in let c : (can_be_empty s || can_be_empty t) ≡ true = or_right _ _ b in rw c at n₀),
          λ c. q ys p.1 rest c m n₂,
        )

  alt_takes : {A : Type 0} (r s : Rule N A) (d e : ℕ) → can_be_empty r ≡ false → apart (first r) (first s) ≡ true → Takes r d e → Takes s d e → Takes (alt r s) d e
  alt_takes r s d e solid h f g w a rest k l i =
      let p = starts_apart (more r) (join (more s) (if can_be_empty s then first r else [])) rest i in
      let q = starts_apart (more s) (if can_be_empty s then first r else []) rest p.1 in
      elim l [
        | inl j ↦ (let yes : starts (first r) (plain w ++ rest) ≡ true = starts_first (first r) (derives N rules e r) (first_law N rules (nested N rules e) r)
            (λ b n. let y : can_be_empty r ≡ true = empty_law N rules (nested N rules e) r b n in cc) w rest a j in
            let t = f w a rest k j p.0 in
            (chosen _ _ _ yes ∙ t.0, t.1))
        | inr j ↦ (let no : starts (first r) (plain w ++ rest) ≡ false = stops (first r) (first s) (derives N rules e s) h (first_law N rules (nested N rules e) s) w rest a j
            (λ none. let b : can_be_empty s ≡ true = empty_law N rules (nested N rules e) s a none in rw b at q.1) in
            let t = g w a rest k j q.0 in
            (other _ _ _ no ∙ t.0, t.1))
      ]

  -- turns
  module _ {A : Type 0} (ks mores : Bool → Kinds) (f : A → Bool) (p : Bool → Parser A) (l : Bool → Lang A) (d : ℕ) (rest : List Token)
      (took : (b : Bool) (w : List Marked) (a : A) (rest : List Token) (k : Counts) → l b w a → starts (mores b) rest ≡ false → (p b k (plain w ++ rest) ≡ ended a rest (run d k w)) × Level d (run d k w))
      (firsts : (b : Bool) (t : Marked) (w : List Marked) (a : A) → l b (t ∷ w) a → has (ks b) t.token.kind ≡ true)
      (solid : (b : Bool) (a : A) → l b [] a → ⊥)
      (clear : (b c : Bool) → apart (mores b) (ks (b || c)) ≡ true)
      (none : (b : Bool) → starts (ks b) rest ≡ false) (no_more : (b : Bool) → starts (mores b) rest ≡ false) where
    turn_first : (found : List A) (b : Bool) (t : Marked) (w : List Marked) → Loop l f b (t ∷ w) found → has (ks b) t.token.kind ≡ true
    turn_first [] b t w m = cc m
    turn_first (a ∷ found) b t w m = at m.0 m.1 m.2 m.3 where
      at : (xs ys : List Marked) → t ∷ w ≡ xs ++ ys → l b xs a → has (ks b) t.token.kind ≡ true
      at [] ys e q = absurd (solid b a q)
      at (x ∷ xs) ys e q = let same : t ≡ x = cc e in subst (λ (z : Marked). has (ks b) z.token.kind ≡ true) (sym same) (firsts b x xs a q)

    some_length : (b : Bool) (xs : List Marked) (a : A) → l b xs a → 0 < length (plain xs)
    some_length b [] a m = absurd (solid b a m)
    some_length b (t ∷ xs) a m = omega arith

    loop_takes : (found : List A) (w : List Marked) (n : ℕ) (b : Bool) (k : Counts) → Loop l f b w found → length (plain w ++ rest) ≤ n
        → (all_of ks p f n b k (plain w ++ rest) ≡ ended found rest (run d k w)) × Level d (run d k w)
    loop_takes [] w n b k m h =
        subst (λ (v : List Marked). (all_of ks p f n b k (plain v ++ rest) ≡ ended [] rest (run d k v)) × Level d (run d k v)) (sym m) (none_of ks f p n b k rest (none b), refl)
    loop_takes (a ∷ found) w n b k m h =
        let xs : List Marked = m.0 in
        let ys : List Marked = m.1 in
        let split : plain w ++ rest ≡ plain xs ++ (plain ys ++ rest) = ap (λ (v : List Marked). plain v ++ rest) m.2 ∙ plain_assoc xs ys rest in
        let yes : starts (ks b) (plain xs ++ (plain ys ++ rest)) ≡ true = starts_first (ks b) (l b) (firsts b) (solid b) xs (plain ys ++ rest) a m.3 in
        let mid : starts (mores b) (plain ys ++ rest) ≡ false = stops (mores b) (ks (b || f a)) (Loop l f (b || f a)) (clear b (f a)) (λ t v c q. turn_first c (b || f a) t v q) ys rest found m.4 (λ e. no_more b) in
        let some : 0 < length (plain xs) = some_length b xs a m.3 in
        let fits : length (plain xs ++ (plain ys ++ rest)) ≤ n = subst (λ (v : List Token). length v ≤ n) split h in
        let one = took b xs a (plain ys ++ rest) k m.3 mid in
        let all = after_ended d d k xs ys rest a (a ∷ found) (p b k (plain xs ++ (plain ys ++ rest))) (λ a c rest. all_of ks p f (n - 1) (b || f a) c rest >>= λ found e end. Done (a ∷ found) e end) one.0 one.1
        (λ c. let two = loop_takes found ys (n - 1) (b || f a) c m.4 (omega (arith, length-append (plain xs) (plain ys ++ rest))) in (ap (add_one a) two.0 ∙ ended_to (λ found. a ∷ found) found rest (run d c ys), two.1)) in
        subst (λ (v : List Marked). (all_of ks p f n b k (plain v ++ rest) ≡ ended (a ∷ found) rest (run d k v)) × Level d (run d k v)) (sym m.2)
        (ap (all_of ks p f n b k) (plain_assoc xs ys rest) ∙ one_turn ks f p n b k (plain xs ++ (plain ys ++ rest)) _ yes fits refl ∙ all.0, all.1)

  nest_takes : {A : Type 0} (m : Role) (o : Kinds) (n : N A) (z : Role) (c : Kinds) → apart (more (rules A n)) c ≡ true → (d e : ℕ) → ((d : ℕ) → Takes (rules A n) d e) → Takes (nest m o n z c) d (suc e)
  nest_takes {A} m o n z c h d e f w a rest k l i =
      subst (λ (v : List Marked). Took (nest m o n z c) d k v a rest) (sym l.3) (at d l.0 l.1 l.2 l.4 l.5 l.6) where
        at : (d : ℕ) (t y : Token) (xs : List Marked) → has o t.kind ≡ true → has c y.kind ≡ true → nested N rules (suc e) A n xs a → Took (nest m o n z c) d k (marked (opens m) t ∷ (xs ++ marked (closes z) y ∷ [])) a rest
        at zero t y xs p q g = (rw p refl, tt)
        at (suc d) t y xs p q g = go (count m k) refl where
          go : (r : Result Counts Limit) → count m k ≡ r → Took (nest m o n z c) (suc d) k (marked (opens m) t ∷ (xs ++ marked (closes z) y ∷ [])) a rest
          go (Err j) same = (rw (p, same) refl, rw same tt)
          go (Ok j) same =
              let last : List Marked = marked (closes z) y ∷ [] in
              let one_more = f d xs a (y ∷ rest) j g (apart_has (more (rules A n)) c y.kind h q) in
              let all = after_ended d (suc d) j xs last rest a (a, y) (reads N rules d (rules A n) j (plain xs ++ (y ∷ rest))) (λ a i end. one z c i end >>= λ b e last. Done (a, b) e last) one_more.0 one_more.1
              (λ i. let two = tok_takes closes (suc d) z c d i y rest q (λ w. refl) in (ap (λ o. o >>= λ b e last. Done (a, b) e last) two.0 ∙ ended_to (λ b. (a, b)) y rest (run d i last), two.1)) in
              let ran : run (suc d) k (marked (opens m) t ∷ (xs ++ last)) ≡ run d j (xs ++ last) = rw same refl in
              let is : body (reads N rules d (rules A n)) z c j (plain (xs ++ last) ++ rest) ≡ ended a rest (run d j (xs ++ last)) =
              ap (body (reads N rules d (rules A n)) z c j) (plain_assoc xs last rest) ∙ ap (λ r. r >>= (λ x d rest. Done x.0 d rest)) all.0 ∙ ended_to (λ (x : A × Token). x.0) (a, y) rest (run d j (xs ++ last)) in (
                (let opened : reads N rules (suc d) (nest m o n z c) k (t ∷ (plain (xs ++ last) ++ rest)) ≡ body (reads N rules d (rules A n)) z c j (plain (xs ++ last) ++ rest) = rw (p, same) refl in
                    opened ∙ is ∙ ap (ended a rest) (sym ran)),
                subst (Level (suc d)) (sym ran) all.1,
              )

  or_clear : (r s : Bool → Kinds) → apart (r false) (s false) ≡ true → apart (r false) (s true) ≡ true → apart (r true) (s true) ≡ true → (b c : Bool) → apart (r b) (s (b || c)) ≡ true
  or_clear r s f g h true c = h
  or_clear r s f g h false true = g
  or_clear r s f g h false false = f

  module _ (clear : (A : Type 0) (n : N A) → is_clear N rules (rules A n) ≡ true) where
    module _ (d e : ℕ) (inner : (A : Type 0) (m : Role) (o : Kinds) (n : N A) (z : Role) (c : Kinds) → apart (more (rules A n)) c ≡ true → Takes (nest m o n z c) d e) where
      pick_takes : {A : Type 0} (r s : Rule N A) → Takes r d e → Takes s d e → (b : Bool) (w : List Marked) (a : A) (rest : List Token) (k : Counts) → pick b (derives N rules e s) (derives N rules e r) w a
          → starts (pick_kinds b (more s) (more r)) rest ≡ false → (pick_read b (reads N rules d s) (reads N rules d r) k (plain w ++ rest) ≡ ended a rest (run d k w)) × Level d (run d k w)
      pick_takes r s f g true w a rest k l i = g w a rest k l i
      pick_takes r s f g false w a rest k l i = f w a rest k l i

      pick_first : {A : Type 0} (r s : Rule N A) (b : Bool) (t : Marked) (w : List Marked) (a : A) → pick b (derives N rules e s) (derives N rules e r) (t ∷ w) a → has (pick_kinds b (first s) (first r)) t.token.kind ≡ true
      pick_first r s true t w a l = first_law N rules (nested N rules e) s t w a l
      pick_first r s false t w a l = first_law N rules (nested N rules e) r t w a l

      rule_takes : {A : Type 0} (r : Rule N A) → is_clear N rules r ≡ true → Takes r d e
      rule_takes (tok m ks) h w a rest k l i = subst (λ (v : List Marked). Took (tok m ks) d k v a rest) (sym l.0) (tok_takes stays d m ks d k a rest l.1 (λ v. refl))
      rule_takes (pure x) h w a rest k l i =
          subst (λ (v : List Marked). Took (pure x) d k v a rest) (sym l.0) (ap (λ b. Done b k rest) (sym l.1), refl)
      rule_takes (seq r s) h w a rest k l i =
          let p = and_true (is_clear N rules r) _ h in
          let q = and_true (is_clear N rules s) _ p.1 in
          seq_takes r s d e q.1 (rule_takes r p.0) (rule_takes s q.0) w a rest k l i
      rule_takes (fork r g s t) h w a rest k l i =
          let p = and_true (is_clear N rules r) _ h in
          let q = and_true (is_clear N rules s) _ p.1 in
          let u = and_true (is_clear N rules t) _ q.1 in
          let x = and_true (not (can_be_empty r)) _ u.1 in
          let j = and_true (apart (more r) (first s)) _ x.1 in
          fork_takes r g s t d e j.0 j.1 (rule_takes r p.0) (rule_takes s q.0) (rule_takes t u.0) w a rest k l i
      rule_takes (alt r s) h w a rest k l i =
          let p = and_true (is_clear N rules r) _ h in
          let q = and_true (is_clear N rules s) _ p.1 in
          let x = and_true (not (can_be_empty r)) _ q.1 in
          alt_takes r s d e (not_true _ x.0) x.1 (rule_takes r p.0) (rule_takes s q.0) w a rest k l i
      rule_takes (many r) h w a rest k l i =
          let p = and_true (is_clear N rules r) _ h in
          let q = and_true (not (can_be_empty r)) _ p.1 in
          let j = starts_apart (first r) (more r) rest i in
          loop_takes (λ b. first r) (λ b. more r) (λ a. false) (λ b. reads N rules d r) (λ b. derives N rules e r) d rest (λ b w a rest k. rule_takes r p.0 w a rest k) (λ b. first_law N rules (nested N rules e) r)
          (λ b x m. let y : can_be_empty r ≡ true = empty_law N rules (nested N rules e) r x m in let n : can_be_empty r ≡ false = not_true _ q.0 in cc) (λ b c. q.1) (λ b. j.0) (λ b. j.1) a w (length (plain w ++ rest)) false k l (omega arith)
      rule_takes (until r f s) h w a rest k l i =
          let p = and_true (is_clear N rules r) _ h in
          let q = and_true (is_clear N rules s) _ p.1 in
          let u = and_true (not (can_be_empty r)) _ q.1 in
          let v = and_true (not (can_be_empty s)) _ u.1 in
          let x = and_true (apart (more r) (first r)) _ v.1 in
          let y = and_true (apart (more r) (first s)) _ x.1 in
          let j = starts_apart (join (first r) (more r)) (join (first s) (more s)) rest i in
          let jr = starts_apart (first r) (more r) rest j.0 in
          let js = starts_apart (first s) (more s) rest j.1 in
          loop_takes (λ b. pick_kinds b (first s) (first r)) (λ b. pick_kinds b (more s) (more r)) f (λ b. pick_read b (reads N rules d s) (reads N rules d r)) (λ b. pick b (derives N rules e s) (derives N rules e r)) d rest
          (pick_takes r s (rule_takes r p.0) (rule_takes s q.0)) (pick_first r s) (pick_not_empty r s (not_true _ u.0) (not_true _ v.0))
          (or_clear (λ b. pick_kinds b (more s) (more r)) (λ b. pick_kinds b (first s) (first r)) x.0 y.0 y.1) (elim [ true ↦ js.0 | false ↦ jr.0 ]) (elim [ true ↦ js.1 | false ↦ jr.1 ]) a w (length (plain w ++ rest)) false k l (omega arith) where
            pick_not_empty : {A : Type 0} (r s : Rule N A) → can_be_empty r ≡ false → can_be_empty s ≡ false → (b : Bool) (a : A) → pick b (derives N rules e s) (derives N rules e r) [] a → ⊥
            pick_not_empty r s m n true a l = let y : can_be_empty s ≡ true = empty_law N rules (nested N rules e) s a l in cc
            pick_not_empty r s m n false a l = let y : can_be_empty r ≡ true = empty_law N rules (nested N rules e) r a l in cc
      rule_takes {A} (to f r) h w a rest k l i =
          let one = rule_takes r h w l.0 rest k l.1 i in
          (ap (λ o. o >>= λ a c rest. Done (f a) c rest) one.0 ∙ ended_to f l.0 rest (run d k w) ∙ ap (λ (b : A). ended b rest (run d k w)) (sym l.2), one.1)
      rule_takes {A} (over f r) h w a rest k l i =
          let one = rule_takes r h w l.0 rest k l.1 i in
          (ap (λ o. o >>= λ a c end. Done (f a (before (plain w ++ rest) end)) c end) one.0 ∙ ended_over f l.0 (plain w) rest (run d k w) ∙ ap (λ (b : A). ended b rest (run d k w)) (sym l.2), one.1)
      rule_takes (nest {A} m o n z c) h w a rest k l i =
          let p = and_true (is_some (some_kind o all_kinds)) _ h in
          let q = and_true (is_some (some_kind c all_kinds)) _ p.1 in
          inner A m o n z c q.1 w a rest k l i

    inner_takes : (e d : ℕ) (A : Type 0) (m : Role) (o : Kinds) (n : N A) (z : Role) (c : Kinds) → apart (more (rules A n)) c ≡ true → Takes (nest m o n z c) d e
    inner_takes zero d A m o n z c h w a rest k l i = absurd l.6
    inner_takes (suc e) d A m o n z c h w a rest k l i = nest_takes m o n z c h d e (λ d. rule_takes d e (inner_takes e d) (rules A n) (clear A n)) w a rest k l i

    pub takes : {A : Type 0} (r : Rule N A) → is_clear N rules r ≡ true → (d e : ℕ) → Takes r d e
    takes r h d e = rule_takes d e (inner_takes e d) r h

    -- ---- the whole

    pub whole_takes : {A : Type 0} (r : Rule N A) → is_clear N rules r ≡ true → (d e : ℕ) (k : Counts) (w : List Marked) (a : A) → derives N rules e r w a → reads N rules d r k (plain w) ≡ ended a [] (run d k w)
    whole_takes r h d e k w a l = ap (reads N rules d r k) (sym (append-nil (plain w))) ∙ (takes r h d e w a [] k l refl).0

    module _ (rich : (A : Type 0) (n : N A) → Begins (λ e. nested N rules e A n) []) where
      abbrev Lr : {A : Type 0} → Rule N A → ℕ → Lang A
      Lr r e = derives N rules e r

      ended_not : {A : Type 0} (a : A) (r : Run) (rest : List Token) → ended a [] r ≡ Stop Wrong rest → ⊥
      ended_not a (Fits e c) rest h = cc h
      ended_not a (Past l u) rest h = cc h

      ended_no_rest : {A : Type 0} (a b : A) (c : Counts) (r : Run) (t : Token) (rest : List Token) → ended a [] r ≡ Done b c (t ∷ rest) → ⊥
      ended_no_rest a b c (Fits e i) t rest h = cc h
      ended_no_rest a b c (Past l u) t rest h = cc h

      plain_next : (w v u : List Marked) (t : Token) → plain v ≡ plain w ++ t ∷ [] → plain (v ++ u) ≡ plain w ++ t ∷ plain u
      plain_next w v u t h = plain_append v u ∙ ap (λ (z : List Token). z ++ plain u) h ∙ append_assoc (plain w) (t ∷ []) (plain u)

      meets : {A : Type 0} (r : Rule N A) → is_clear N rules r ≡ true → (d : ℕ) (k : Counts) (ts : List Token) (o : Outcome A) → Found same_level (λ e. reads N rules e r) (Lr r) d k ts o → Meets (Lr r) d k ts (whole o)
      meets {A} r h d k ts (Done a c []) f = (d, f.w, f.split ∙ append-nil (plain f.w), f.means.0, (d, c, f.means.1))
      meets r h d k ts (Done a c (t ∷ rest)) f = (
        f.w,
        f.split,
        (d, [], a, subst (λ (v : List Marked). derives N rules d r v a) (sym (append-nil f.w)) f.means.0),
        (d, c, f.means.1),
        λ v same b. ended_no_rest b.2 a c (run d k (v ++ b.1)) t (plain b.1)
            (sym (whole_takes r h d b.0 k (v ++ b.1) b.2 b.3) ∙ ap (reads N rules d r k) (plain_next f.w v b.1 t same) ∙ f.same d (plain b.1) (omega arith)),
      )
      meets r h d k ts (Stop Wrong []) f = (
        f.w,
        f.split,
        f.means.0,
        f.means.1,
        λ e v b same l. ended_not b (run d k v) [] (sym (whole_takes r h d e k v b l) ∙ ap (reads N rules d r k) (same ∙ sym (append-nil (plain f.w))) ∙ f.same d [] (omega arith)),
      )
      meets r h d k ts (Stop Wrong (t ∷ rest)) f = (
        f.w,
        f.split,
        f.means.0,
        f.means.1,
        λ v same b. ended_not b.2 (run d k (v ++ b.1)) (t ∷ plain b.1)
            (sym (whole_takes r h d b.0 k (v ++ b.1) b.2 b.3) ∙ ap (reads N rules d r k) (plain_next f.w v b.1 t same) ∙ f.same d (plain b.1) (omega arith)),
      )
      meets r h d k ts (Stop (Over l) []) f = absurd f.means
      meets r h d k ts (Stop (Over l) (t ∷ rest)) f = (f.w, f.means.0, f.split, f.means.1, f.means.2)

      -- what is read is a tree, the first wrong token, or the first that passes a limit
      pub meets_at : {A : Type 0} (r : Rule N A) → is_clear N rules r ≡ true → (d : ℕ) (k : Counts) (ts : List Token) (o : Outcome A) → reads N rules d r k ts ≡ o → Meets (Lr r) d k ts (whole o)
      meets_at r h d k ts o is =
          let f = reads_exactly rich clear r h d k ts in
          subst (λ o. Meets (Lr r) d k ts (whole o)) (sym f.1.is ∙ is) (meets r h d k ts f.0 f.1)

      -- a tree within the limits is read
      pub only_tree : {A : Type 0} (r : Rule N A) → is_clear N rules r ≡ true → (d : ℕ) (k : Counts) (ts : List Token) (a : A) → IsTree (Lr r) d k ts a → (c : Counts) × (reads N rules d r k ts ≡ Done a c [])
      only_tree r h d k ts a t = (t.4.1, ap (reads N rules d r k) t.2 ∙ whole_takes r h d t.0 k t.1 a t.3 ∙ ap (ended a []) t.4.2)

      same_front : (v w rest : List Token) → v ++ rest ≡ w ++ rest → v ≡ w
      same_front [] [] rest e = refl
      same_front [] (y ∷ w) rest e = absurd (omega (arith, ap length e, length-append w rest))
      same_front (x ∷ v) [] rest e = absurd (omega (arith, ap length e, length-append v rest))
      same_front (x ∷ v) (y ∷ w) rest e =
          let hd : x ≡ y = cc e in
          let tl : v ++ rest ≡ w ++ rest = cc e in
          let is = same_front v w rest tl in cc

      -- the first token that passes a limit is found
      pub only_past : {A : Type 0} (r : Rule N A) → is_clear N rules r ≡ true → (d : ℕ) (k : Counts) (l : Limit) (ts : List Token) (t : Token) (rest : List Token) → IsFirstPast (Lr r) d k l ts (t ∷ rest) → reads N rules d r k ts ≡ Stop (Over l) (t ∷ rest)
      only_past {A} r h d k l ts t rest p =
          let w : List Marked = p.0 in
          let x : List Marked = marked p.1 t ∷ [] in
          let b = p.3 in
          let ran : run d k ((w ++ x) ++ b.1) ≡ Past l (x ++ b.1) = run_append d k (w ++ x) b.1 ∙ ap (λ (q : Run). run_more q b.1) p.4 in
          let text : plain ((w ++ x) ++ b.1) ≡ plain w ++ (t ∷ plain b.1) = plain_next w (w ++ x) b.1 t (plain_append w x) in
          let is : reads N rules d r k (plain w ++ (t ∷ plain b.1)) ≡ Stop (Over l) (t ∷ plain b.1) =
          ap (reads N rules d r k) (sym text) ∙ whole_takes r h d b.0 k ((w ++ x) ++ b.1) b.2 b.3 ∙ ap (ended b.2 []) ran ∙ ap (λ z. Stop (Over l) (t ∷ z)) (append-nil (plain b.1)) in
          let f = reads_exactly rich clear r h d k (plain w ++ (t ∷ plain b.1)) in
          let g = subst (λ o. Found same_level (λ e. reads N rules e r) (Lr r) d k (plain w ++ (t ∷ plain b.1)) o) (sym f.1.is ∙ is) f.1 in
          let front : plain g.w ≡ plain w = sym (same_front (plain w) (plain g.w) (t ∷ plain b.1) g.split) in
          ap (reads N rules d r k) (p.2 ∙ ap (λ (v : List Token). v ++ t ∷ rest) (sym front)) ∙ g.same d rest refl

      -- a text with a tree within the limits has no other
      pub one_tree : {A : Type 0} (r : Rule N A) → is_clear N rules r ≡ true → (d : ℕ) (k : Counts) (ts : List Token) (a b : A) → IsTree (Lr r) d k ts a → (e : ℕ) (v : List Marked) → ts ≡ plain v → Lr r e v b → a ≡ b
      one_tree {A} r h d k ts a b t e v same l =
          let read = only_tree r h d k ts a t in
          go (run d k v) (sym read.1 ∙ ap (reads N rules d r k) same ∙ whole_takes r h d e k v b l) where
            go : {c : Counts} (q : Run) → Done a c [] ≡ ended b [] q → a ≡ b
            go (Fits i j) e = cc e
            go (Past i u) e = cc e

      -- ---- for the steps of code

      found_at : {A : Type 0} (r : Rule N A) → is_clear N rules r ≡ true → (d : ℕ) (k : Counts) (ts : List Token) (o : Outcome A) → reads N rules d r k ts ≡ o → Found same_level (λ e. reads N rules e r) (Lr r) d k ts o
      found_at r h d k ts o is = let f = reads_exactly rich clear r h d k ts in subst (λ o. Found same_level (λ e. reads N rules e r) (Lr r) d k ts o) (sym f.1.is ∙ is) f.1

      -- no token comes back
      pub no_longer : {A : Type 0} (r : Rule N A) → is_clear N rules r ≡ true → (d : ℕ) (k c : Counts) (ts rest : List Token) (a : A) → reads N rules d r k ts ≡ Done a c rest → length rest ≤ length ts
      no_longer {A} r h d k c ts rest a is =
          let g = found_at r h d k ts (Done a c rest) is in
          omega (arith, ap length g.split, length-append (plain g.w) rest)

      -- what cannot be empty takes a token
      pub takes_some : {A : Type 0} (r : Rule N A) → is_clear N rules r ≡ true → can_be_empty r ≡ false → (d : ℕ) (k c : Counts) (ts rest : List Token) (a : A) → reads N rules d r k ts ≡ Done a c rest → length rest < length ts
      takes_some {A} r h n d k c ts rest a is =
          let g = found_at r h d k ts (Done a c rest) is in
          some g.w g.split g.means.0 where
            some : (w : List Marked) → ts ≡ plain w ++ rest → derives N rules d r w a → length rest < length ts
            some [] split l = let e : can_be_empty r ≡ true = empty_law N rules (nested N rules d) r a l in cc
            some (t ∷ w) split l = omega (arith, ap length split, length-append (plain w) rest)

      -- the tokens that are left are the last ones
      pub left_over : {A : Type 0} (r : Rule N A) → is_clear N rules r ≡ true → (d : ℕ) (k : Counts) (ts : List Token) (o : Outcome A) → reads N rules d r k ts ≡ o
          → (length (rest_of o) ≤ length ts) × (drop (length ts - length (rest_of o)) ts ≡ rest_of o)
      left_over {A} r h d k ts o is =
          let g = found_at r h d k ts o is in
          let n : length ts - length (rest_of o) ≡ length (plain g.w) = omega (arith, ap length g.split, length-append (plain g.w) (rest_of o)) in
          (omega (arith, ap length g.split, length-append (plain g.w) (rest_of o)), rw n (ap (drop (length (plain g.w))) g.split ∙ after_front (plain g.w) (rest_of o))) where
            after_front : (w v : List Token) → drop (length w) (w ++ v) ≡ v
            after_front [] v = refl
            after_front (t ∷ w) v = after_front w v

      pub many_is : {A : Type 0} (r : Rule N A) → is_clear N rules (many r) ≡ true → (d : ℕ) (k : Counts) (ts : List Token)
          → reads N rules d (many r) k ts ≡ (if starts (first r) ts then (reads N rules d r k ts >>= λ a c rest. reads N rules d (many r) c rest >>= λ found e end. Done (a ∷ found) e end) else Done [] k ts)
      many_is {A} r h d k ts =
          elim (bool_cases (starts (first r) ts)) [
            | inl here ↦ (turn here (reads N rules d r k ts) refl ∙ sym (chosen _ _ _ here))
            | inr none ↦ (none_of (λ b. first r) (λ a. false) (λ b. reads N rules d r) (length ts) false k ts none ∙ sym (other _ _ _ none))
          ] where
            turn : starts (first r) ts ≡ true → (o : Outcome A) → reads N rules d r k ts ≡ o
                → reads N rules d (many r) k ts ≡ (reads N rules d r k ts >>= λ a c rest. reads N rules d (many r) c rest >>= λ found e end. Done (a ∷ found) e end)
            turn here (Done a c rest) is =
                (let p = and_true (is_clear N rules r) _ h in
                let q = and_true (not (can_be_empty r)) _ p.1 in
                turn_step (λ b. first r) (λ a. false) (λ b e. reads N rules e r) (λ b. Lr r) (λ b. grows N rules r) (λ b e a l. let yes : can_be_empty r ≡ true = empty_law N rules (nested N rules e) r a l in let no : can_be_empty r ≡ false = not_true _ q.0 in cc) d
                (λ b. reads_exactly rich clear r p.0 d) false k c ts rest a here is) ∙ sym (ap (λ o. o >>= λ a c rest. reads N rules d (many r) c rest >>= λ found e end. Done (a ∷ found) e end) is)
            turn here (Stop why rest) is =
                one_turn (λ b. first r) (λ a. false) (λ b. reads N rules d r) (length ts) false k ts (Stop why rest) here (omega arith) is ∙ sym (ap (λ o. o >>= λ a c rest. reads N rules d (many r) c rest >>= λ found e end. Done (a ∷ found) e end) is)

      -- ---- the first wrong token is found

      front_begins : {A : Type 0} (L : ℕ → Lang A) (v : List Marked) (x z rest : List Token) (t : Token) → Begins L v → plain v ≡ x ++ t ∷ z → NoneBegins L x (t ∷ rest) → ⊥
      front_begins L v x z rest t b e none =
          let s = plain_split v (x ++ t ∷ []) z (e ∙ sym (append_assoc x (t ∷ []) z)) in
          none s.0 s.3 (b.0, s.1 ++ b.1, b.2, subst (λ (w : List Marked). L b.0 w b.2) (ap (λ (w : List Marked). w ++ b.1) s.2 ∙ append_assoc s.0 s.1 b.1) b.3)

      one_wrong : {A : Type 0} (L : ℕ → Lang A) (d : ℕ) (k : Counts) (ts r s : List Token) → IsFirstWrong L d k ts r → IsFirstWrong L d k ts s → r ≡ s
      one_wrong L d k ts r s p q = of (cuts (plain p.0) r (plain q.0) s (sym p.1 ∙ q.1)) where
        of : Cuts (plain p.0) r (plain q.0) s → r ≡ s
        of (alike e f) = f
        of (less_first t z e f) = absurd (front_begins L q.0 (plain p.0) z (z ++ s) t q.2 e (subst (λ (v : List Token). NoneBegins L (plain p.0) v) f p.4))
        of (more_first t z e f) = absurd (front_begins L p.0 (plain q.0) z (z ++ r) t p.2 e (subst (λ (v : List Token). NoneBegins L (plain q.0) v) f q.4))

      ended_past : {A : Type 0} (a : A) (l : Limit) (rest : List Token) (q : Run) (n : ℕ) → ((j : Limit) (v : List Marked) → q ≡ Past j v → length v ≤ n) → ended a [] q ≡ Stop (Over l) rest → length rest ≤ n
      ended_past a l rest (Fits e c) n h is = cc is
      ended_past a l rest (Past j v) n h is =
          let same : plain v ++ [] ≡ rest = cc is in
          omega (arith, h j v refl, ap length same, length-append (plain v) [], plain_length v)

      -- no limit is passed before the first wrong token
      not_past : {A : Type 0} (r : Rule N A) → is_clear N rules r ≡ true → (d : ℕ) (k : Counts) (ts rest : List Token) (l : Limit) (t : Token) (more : List Token) → IsFirstWrong (Lr r) d k ts rest → IsFirstPast (Lr r) d k l ts (t ∷ more) → ⊥
      not_past {A} r h d k ts rest l t more p q = of (cuts (plain p.0) rest (plain q.0) (t ∷ more) (sym p.1 ∙ q.2)) where
        with_t : plain (q.0 ++ marked q.1 t ∷ []) ≡ plain q.0 ++ t ∷ []
        with_t = plain_append q.0 (marked q.1 t ∷ [])

        of : Cuts (plain p.0) rest (plain q.0) (t ∷ more) → ⊥
        of (alike e f) = front_begins (Lr r) (q.0 ++ marked q.1 t ∷ []) (plain p.0) [] more t q.3 (with_t ∙ ap (λ (v : List Token). v ++ t ∷ []) (sym e)) (subst (λ (v : List Token). NoneBegins (Lr r) (plain p.0) v) f p.4)
        of (less_first u z e f) = front_begins (Lr r) (q.0 ++ marked q.1 t ∷ []) (plain p.0) (z ++ t ∷ []) (z ++ t ∷ more) u q.3
            (with_t ∙ ap (λ (v : List Token). v ++ t ∷ []) e ∙ append_assoc (plain p.0) (u ∷ z) (t ∷ [])) (subst (λ (v : List Token). NoneBegins (Lr r) (plain p.0) v) f p.4)
        of (more_first u z e f) =
            let same : u ≡ t = cc f in
            let b = p.2 in
            let text : plain (p.0 ++ b.1) ≡ plain q.0 ++ t ∷ (z ++ plain b.1) =
            plain_append p.0 b.1 ∙ ap (λ (v : List Token). v ++ plain b.1) e ∙ append_assoc (plain q.0) (u ∷ z) (plain b.1) ∙ ap (λ (x : Token). plain q.0 ++ x ∷ (z ++ plain b.1)) same in
            let is = only_past r h d k l (plain (p.0 ++ b.1)) t (z ++ plain b.1) (q.0, q.1, text, q.3, q.4) in
            let ran : run d k (p.0 ++ b.1) ≡ run p.3.0 p.3.1 b.1 = fits_then d p.3.0 k p.3.1 p.0 b.1 p.3.2 in
            let few = ended_past b.2 l (t ∷ (z ++ plain b.1)) (run p.3.0 p.3.1 b.1) (length b.1) (λ j v e. past_length p.3.0 p.3.1 b.1 j v e)
            (ap (ended b.2 []) (sym ran) ∙ sym (whole_takes r h d b.0 k (p.0 ++ b.1) b.2 b.3) ∙ is) in
            omega (arith, few, length-append z (plain b.1), plain_length b.1)

      -- no tree, where a token is wrong
      not_tree : {A : Type 0} (L : ℕ → Lang A) (d : ℕ) (k : Counts) (ts rest : List Token) (a : A) → IsFirstWrong L d k ts rest → IsTree L d k ts a → ⊥
      not_tree {A} L d k ts rest a p q = of rest p.1 p.4 where
        of : (rest : List Token) → ts ≡ plain p.0 ++ rest → NoneBegins L (plain p.0) rest → ⊥
        of [] e none = none q.0 q.1 a (sym q.2 ∙ e ∙ append-nil (plain p.0)) q.3
        of (t ∷ rest) e none = front_begins L q.1 (plain p.0) rest rest t (q.0, [], a, subst (λ (w : List Marked). L q.0 w a) (sym (append-nil q.1)) q.3) (sym q.2 ∙ e) none

      pub only_wrong : {A : Type 0} (r : Rule N A) → is_clear N rules r ≡ true → (d : ℕ) (k : Counts) (ts rest : List Token) → IsFirstWrong (Lr r) d k ts rest → whole (reads N rules d r k ts) ≡ Syntax rest
      only_wrong {A} r h d k ts rest p = of (whole (reads N rules d r k ts)) (meets_at r h d k ts (reads N rules d r k ts) refl) where
        of : (x : Answer A) → Meets (Lr r) d k ts x → x ≡ Syntax rest
        of (Tree a) m = absurd (not_tree (Lr r) d k ts rest a p m)
        of (Syntax s) m = ap (λ (v : List Token). Syntax v) (one_wrong (Lr r) d k ts s rest m p)
        of (TooMuch l []) m = absurd m
        of (TooMuch l (t ∷ more)) m = absurd (not_past r h d k ts rest l t more p m)

      -- each text has one answer, which reading gives
      pub only_meets : {A : Type 0} (r : Rule N A) → is_clear N rules r ≡ true → (d : ℕ) (k : Counts) (ts : List Token) (x : Answer A) → Meets (Lr r) d k ts x → whole (reads N rules d r k ts) ≡ x
      only_meets r h d k ts (Tree a) m = ap whole (only_tree r h d k ts a m).1
      only_meets r h d k ts (Syntax rest) m = only_wrong r h d k ts rest m
      only_meets r h d k ts (TooMuch l []) m = absurd m
      only_meets r h d k ts (TooMuch l (t ∷ rest)) m = ap whole (only_past r h d k l ts t rest m)

      pub some_answer : {A : Type 0} (r : Rule N A) → is_clear N rules r ≡ true → (d : ℕ) (k : Counts) (ts : List Token) → (x : Answer A) × Meets (Lr r) d k ts x
      some_answer r h d k ts = (whole (reads N rules d r k ts), meets_at r h d k ts (reads N rules d r k ts) refl)

      -- ---- any number of the first, and then of the second

      then_same : {A : Type 0} (r s : Rule N A) (f : A → Bool) (d n : ℕ) (k : Counts) (ts : List Token)
          → all_of (λ b. pick_kinds b (first s) (first r)) (λ b. pick_read b (reads N rules d s) (reads N rules d r)) f n true k ts ≡ all_of (λ b. first s) (λ b. reads N rules d s) (λ a. false) n false k ts
      then_same r s f d zero k ts = refl
      then_same {A} r s f d (suc n) k ts = at (starts (first s) ts) (reads N rules d s k ts) (then_same r s f d n) where
        at : (b : Bool) (o : Outcome A) → ((k : Counts) (ts : List Token) → all_of (λ b. pick_kinds b (first s) (first r)) (λ b. pick_read b (reads N rules d s) (reads N rules d r)) f n true k ts ≡ all_of (λ b. first s) (λ b. reads N rules d s) (λ a. false) n false k ts)
            → (if b then o >>= (λ a c rest. all_of (λ b. pick_kinds b (first s) (first r)) (λ b. pick_read b (reads N rules d s) (reads N rules d r)) f n (true || f a) c rest >>= λ found e end. Done (a ∷ found) e end) else Done [] k ts)
            ≡ (if b then o >>= (λ a c rest. all_of (λ b. first s) (λ b. reads N rules d s) (λ a. false) n (false || false) c rest >>= λ found e end. Done (a ∷ found) e end) else Done [] k ts)
        at true (Done a c rest) h = ap (add_one a) (h c rest)
        at true (Stop w rest) h = refl
        at false o h = refl

      pub until_is : {A : Type 0} (r s : Rule N A) (f : A → Bool) → is_clear N rules (until r f s) ≡ true → (d : ℕ) (k : Counts) (ts : List Token)
          → reads N rules d (until r f s) k ts ≡ (if starts (first r) ts then (reads N rules d r k ts >>= λ a c rest. (if f a then reads N rules d (many s) c rest else reads N rules d (until r f s) c rest) >>= λ found e end. Done (a ∷ found) e end) else Done [] k ts)
      until_is {A} r s f h d k ts =
          elim (bool_cases (starts (first r) ts)) [
            | inl here ↦ (turn here (reads N rules d r k ts) refl ∙ sym (chosen _ _ _ here))
            | inr none ↦ (none_of (λ b. pick_kinds b (first s) (first r)) f (λ b. pick_read b (reads N rules d s) (reads N rules d r)) (length ts) false k ts none ∙ sym (other _ _ _ none))
          ] where
            next : (a : A) (c : Counts) (rest : List Token) (b : Bool) → all_of (λ b. pick_kinds b (first s) (first r)) (λ b. pick_read b (reads N rules d s) (reads N rules d r)) f (length rest) b c rest
                ≡ (if b then reads N rules d (many s) c rest else reads N rules d (until r f s) c rest)
            next a c rest true = then_same r s f d (length rest) c rest
            next a c rest false = refl

            turn : starts (first r) ts ≡ true → (o : Outcome A) → reads N rules d r k ts ≡ o
                → reads N rules d (until r f s) k ts ≡ (reads N rules d r k ts >>= λ a c rest. (if f a then reads N rules d (many s) c rest else reads N rules d (until r f s) c rest) >>= λ found e end. Done (a ∷ found) e end)
            turn here (Done a c rest) is =
                (let p = and_true (is_clear N rules r) _ h in
                let q = and_true (is_clear N rules s) _ p.1 in
                let u = and_true (not (can_be_empty r)) _ q.1 in
                let v = and_true (not (can_be_empty s)) _ u.1 in
                turn_step (λ b. pick_kinds b (first s) (first r)) f (λ b e. pick_read b (reads N rules e s) (reads N rules e r)) (λ b e. pick b (Lr s e) (Lr r e)) (λ b. pick_grows N rules b s r) (pick_solid rich clear r s u.0 v.0) d
                (λ b. pick_reads rich clear (λ e. reads N rules e s) (λ e. reads N rules e r) (Lr s) (Lr r) d b (reads_exactly rich clear s q.0 d) (reads_exactly rich clear r p.0 d)) false k c ts rest a here is
                ∙ ap (add_one a) (next a c rest (f a))) ∙ sym (ap (λ o. o >>= λ a c rest. (if f a then reads N rules d (many s) c rest else reads N rules d (until r f s) c rest) >>= λ found e end. Done (a ∷ found) e end) is)
            turn here (Stop why rest) is =
                one_turn (λ b. pick_kinds b (first s) (first r)) f (λ b. pick_read b (reads N rules d s) (reads N rules d r)) (length ts) false k ts (Stop why rest) here (omega arith) is
                ∙ sym (ap (λ o. o >>= λ a c rest. (if f a then reads N rules d (many s) c rest else reads N rules d (until r f s) c rest) >>= λ found e end. Done (a ∷ found) e end) is)
