-- Laws of rules that derive the same trees from the same tokens: what turns a grammar as it is written into one that is clear.
use Rattle.std.proofs.Common.{◌≡◌, ℕ, zero, suc, Bool, true, false, ◌||◌, List, [], ◌∷◌, ◌++◌, map, refl, sym, ◌∙◌, ap, subst, append_assoc, append-nil, ◌⊎◌, inl, inr}
use denote.Enum.Bare.{same_true}
use Rattle.sql_tree.specs.contracts.token.TokenKind.{the_type}
use Rattle.sql_tree.specs.declared.token.Token.{Token}
use Rattle.sql_tree.specs.declared.token.TokenKind.{TokenKind}
use Rattle.sql_tree.specs.Kinds.{same_kind}
use Rattle.sql_grammar.specs.declared.counts.Role.{Role}
use Rattle.sql_grammar.specs.Alike.{Alike}
use Rattle.sql_grammar.specs.Marks.{Marked, marked, plain, stays}
use Rattle.sql_grammar.specs.Rules.{Kinds, Lang, Loop, To, Rule, tok, pure, seq, fork, alt, many, until, to, over, nest, pick, has, derives}
use Rattle.sql_grammar.proofs.KindSets.{or_left, or_right}

either : (a b : Bool) → (a || b) ≡ true → (a ≡ true) ⊎ (b ≡ true)
either true b e = inl refl
either false b e = inr e

only : (a : Bool) → (a || false) ≡ true → a ≡ true
only true e = refl
only false e = e

loop_map : {A : Type 0} (k l : Bool → Lang A) (test : A → Bool) → ((b : Bool) (w : List Marked) (a : A) → k b w a → l b w a) → (b : Bool) (w : List Marked) (found : List A) → Loop k test b w found → Loop l test b w found
loop_map k l test g b w [] p = p
loop_map k l test g b w (a ∷ found) p = (p.0, p.1, p.2, g b p.0 a p.3, loop_map k l test g (b || test a) p.1 found p.4)

loop_to : {A B : Type 0} (f : A → B) (l : Lang A) (w : List Marked) (found : List B) → Loop (λ b. To f l) (λ b. false) false w found → (xs : List A) × Loop (λ b. l) (λ a. false) false w xs × (found ≡ map f xs)
loop_to f l w [] p = ([], p, refl)
loop_to {A} {B} f l w (b ∷ found) p =
    let q = loop_to f l p.1 found p.4 in
    (p.3.0 ∷ q.0, (p.0, p.1, p.2, p.3.1, q.1), ap (λ (x : B). x ∷ found) p.3.2 ∙ ap (λ (v : List B). f p.3.0 ∷ v) q.2)

to_loop : {A B : Type 0} (f : A → B) (l : Lang A) (w : List Marked) (xs : List A) → Loop (λ b. l) (λ a. false) false w xs → Loop (λ b. To f l) (λ b. false) false w (map f xs)
to_loop f l w [] p = p
to_loop f l w (a ∷ xs) p = (p.0, p.1, p.2, (a, p.3, refl), to_loop f l p.1 xs p.4)

pick_map : {A : Type 0} (b : Bool) (k k' l l' : Lang A) (w : List Marked) (a : A) → (k w a → k' w a) → (l w a → l' w a) → pick b k l w a → pick b k' l' w a
pick_map true k k' l l' w a f g p = f p
pick_map false k k' l l' w a f g p = g p

-- turns of either language, and after one of the second, which the test tells, only of that
module _ {A : Type 0} (u v : Lang A) (f : A → Bool) (first : (w : List Marked) (a : A) → u w a → f a ≡ false) (second : (w : List Marked) (a : A) → v w a → f a ≡ true) where
  abbrev Either : Bool → Lang A
  Either b = pick b v (λ w a. u w a ⊎ v w a)

  abbrev Turns : Lang A → Lang (List A)
  Turns l = Loop (λ b. l) (λ a. false) false

  only_second : (w : List Marked) (found : List A) → Loop Either f true w found → Turns v w found
  only_second w [] p = p
  only_second w (a ∷ more) p = (p.0, p.1, p.2, p.3, only_second p.1 more p.4)

  of_second : (b : Bool) (w : List Marked) (a : A) → v w a → Either b w a
  of_second true w a p = p
  of_second false w a p = inr p

  all_second : (b : Bool) (w : List Marked) (found : List A) → Turns v w found → Loop Either f b w found
  all_second b w [] p = p
  all_second b w (a ∷ more) p = (p.0, p.1, p.2, of_second b p.0 a p.3, all_second (b || f a) p.1 more p.4)

  pub apart_loop : (w : List Marked) (found : List A) → Loop Either f false w found → (xs ys : List A) × (v' w' : List Marked) × (w ≡ v' ++ w') × Turns u v' xs × Turns v w' ys × (found ≡ xs ++ ys)
  apart_loop w [] p = ([], [], [], [], p, refl, refl, refl)
  apart_loop w (a ∷ more) p = elim p.3 [
    | inl h ↦ (let q = apart_loop p.1 more (subst (λ (b : Bool). Loop Either f b p.1 more) (first p.0 a h) p.4) in
        (a ∷ q.0, q.1, p.0 ++ q.2, q.3, p.2 ∙ ap (λ (z : List Marked). p.0 ++ z) q.4 ∙ sym (append_assoc p.0 q.2 q.3), (p.0, q.2, refl, h, q.5), q.6, ap (λ (z : List A). a ∷ z) q.7))
    | inr h ↦ ([], a ∷ more, [], w, refl, refl, (p.0, p.1, p.2, h, only_second p.1 more (subst (λ (b : Bool). Loop Either f b p.1 more) (second p.0 a h) p.4)), refl)
  ]

  pub joined_loop : (v' w' : List Marked) (xs ys : List A) → Turns u v' xs → Turns v w' ys → Loop Either f false (v' ++ w') (xs ++ ys)
  joined_loop v' w' [] ys p q = subst (λ (z : List Marked). Loop Either f false (z ++ w') ys) (sym p) (all_second false w' ys q)
  joined_loop v' w' (a ∷ xs) ys p q = (
    p.0,
    p.1 ++ w',
    ap (λ (z : List Marked). z ++ w') p.2 ∙ append_assoc p.0 p.1 w',
    inl p.3,
    subst (λ (b : Bool). Loop Either f b (p.1 ++ w') (xs ++ ys)) (sym (first p.0 a p.3)) (joined_loop p.1 w' xs ys p.4 q),
  )

module _ {N : Type 0 → Type 1} {rules : (A : Type 0) → N A → Rule N A} where
  pub same : {A : Type 0} {r : Rule N A} → Alike N rules r r
  same = record { there = λ d w a l. l; back = λ d w a l. l }

  pub turned : {A : Type 0} {r s : Rule N A} → Alike N rules r s → Alike N rules s r
  turned p = record { there = p.back; back = p.there }

  infixr 5 ◌⊳◌
  pub ◌⊳◌ : {A : Type 0} {r s t : Rule N A} → Alike N rules r s → Alike N rules s t → Alike N rules r t
  p ⊳ q = record { there = λ d w a l. q.there d w a (p.there d w a l); back = λ d w a l. p.back d w a (q.back d w a l) }

  -- ---- in a place

  pub in_seq : {A B : Type 0} {r r' : Rule N A} {s s' : Rule N B} → Alike N rules r r' → Alike N rules s s' → Alike N rules (seq r s) (seq r' s')
  in_seq p q = record {
    there = λ d w a l. (l.0, l.1, l.2, p.there d l.0 a.0 l.3, q.there d l.1 a.1 l.4);
    back = λ d w a l. (l.0, l.1, l.2, p.back d l.0 a.0 l.3, q.back d l.1 a.1 l.4);
  }

  pub in_to : {A B : Type 0} (f : A → B) {r r' : Rule N A} → Alike N rules r r' → Alike N rules (to f r) (to f r')
  in_to f p = record { there = λ d w b l. (l.0, p.there d w l.0 l.1, l.2); back = λ d w b l. (l.0, p.back d w l.0 l.1, l.2) }

  pub in_over : {A B : Type 0} (f : A → List Token → B) {r r' : Rule N A} → Alike N rules r r' → Alike N rules (over f r) (over f r')
  in_over f p = record { there = λ d w b l. (l.0, p.there d w l.0 l.1, l.2); back = λ d w b l. (l.0, p.back d w l.0 l.1, l.2) }

  pub in_alt : {A : Type 0} {r r' s s' : Rule N A} → Alike N rules r r' → Alike N rules s s' → Alike N rules (alt r s) (alt r' s')
  in_alt p q = record {
    there = λ d w a l. elim l [ inl h ↦ inl (p.there d w a h) | inr h ↦ inr (q.there d w a h) ];
    back = λ d w a l. elim l [ inl h ↦ inl (p.back d w a h) | inr h ↦ inr (q.back d w a h) ];
  }

  pub in_many : {A : Type 0} {r r' : Rule N A} → Alike N rules r r' → Alike N rules (many r) (many r')
  in_many {r} {r'} p = record {
    there = λ d w found l. loop_map (λ b. derives N rules d r) (λ b. derives N rules d r') (λ a. false) (λ b. p.there d) false w found l;
    back = λ d w found l. loop_map (λ b. derives N rules d r') (λ b. derives N rules d r) (λ a. false) (λ b. p.back d) false w found l;
  }

  -- ---- functions of trees

  -- the same function, said otherwise
  pub to_as : {A B : Type 0} {f g : A → B} {r : Rule N A} → ((a : A) → f a ≡ g a) → Alike N rules (to f r) (to g r)
  to_as e = record { there = λ d w b l. (l.0, l.1, l.2 ∙ e l.0); back = λ d w b l. (l.0, l.1, l.2 ∙ sym (e l.0)) }

  pub to_same : {A : Type 0} {r : Rule N A} → Alike N rules (to (λ a. a) r) r
  to_same {A} {r} = record { there = λ d w b l. subst (λ (x : A). derives N rules d r w x) (sym l.2) l.1; back = λ d w b l. (b, l, refl) }

  pub to_to : {A B C : Type 0} {f : B → C} {g : A → B} {r : Rule N A} → Alike N rules (to f (to g r)) (to (λ a. f (g a)) r)
  to_to {f} {g} = record {
    there = λ d w c l. (l.1.0, l.1.1, l.2 ∙ ap f l.1.2);
    back = λ d w c l. (g l.0, (l.0, l.1, refl), l.2);
  }

  pub to_left : {A A' B : Type 0} {g : A → A'} {r : Rule N A} {s : Rule N B} → Alike N rules (seq (to g r) s) (to (λ p. (g p.0, p.1)) (seq r s))
  to_left {A} {A'} {B} {g} {r} {s} = record {
    there = λ d w p l. ((l.3.0, p.1), (l.0, l.1, l.2, l.3.1, l.4), ap (λ (x : A'). (x, p.1)) l.3.2);
    back = λ d w p l. (l.1.0, l.1.1, l.1.2, (l.0.0, l.1.3, ap (λ (x : A' × B). x.0) l.2), subst (λ (x : B). derives N rules d s l.1.1 x) (sym (ap (λ (x : A' × B). x.1) l.2)) l.1.4);
  }

  pub to_right : {A B B' : Type 0} {g : B → B'} {r : Rule N A} {s : Rule N B} → Alike N rules (seq r (to g s)) (to (λ p. (p.0, g p.1)) (seq r s))
  to_right {A} {B} {B'} {g} {r} {s} = record {
    there = λ d w p l. ((p.0, l.4.0), (l.0, l.1, l.2, l.3, l.4.1), ap (λ (x : B'). (p.0, x)) l.4.2);
    back = λ d w p l. (l.1.0, l.1.1, l.1.2, subst (λ (x : A). derives N rules d r l.1.0 x) (sym (ap (λ (x : A × B'). x.0) l.2)) l.1.3, (l.0.1, l.1.4, ap (λ (x : A × B'). x.1) l.2));
  }

  pub to_alt : {A B : Type 0} {f : A → B} {r s : Rule N A} → Alike N rules (to f (alt r s)) (alt (to f r) (to f s))
  to_alt = record {
    there = λ d w b l. elim l.1 [ inl h ↦ inl (l.0, h, l.2) | inr h ↦ inr (l.0, h, l.2) ];
    back = λ d w b l. elim l [ inl h ↦ (h.0, inl h.1, h.2) | inr h ↦ (h.0, inr h.1, h.2) ];
  }

  pub to_pure : {A B : Type 0} {f : A → B} {x : A} → Alike N rules (to f (pure x)) (pure (f x))
  to_pure {f} {x} = record { there = λ d w b l. (l.1.0, l.2 ∙ ap f l.1.1); back = λ d w b l. (x, (l.0, refl), l.1) }

  -- ---- functions of trees and of their tokens

  pub over_to : {A B C : Type 0} {f : B → List Token → C} {g : A → B} {r : Rule N A} → Alike N rules (over f (to g r)) (over (λ a ts. f (g a) ts) r)
  over_to {A} {B} {C} {f} {g} = record {
    there = λ d w c l. (l.1.0, l.1.1, l.2 ∙ ap (λ (x : B). f x (plain w)) l.1.2);
    back = λ d w c l. (g l.0, (l.0, l.1, refl), l.2);
  }

  pub to_over : {A B C : Type 0} {f : B → C} {g : A → List Token → B} {r : Rule N A} → Alike N rules (to f (over g r)) (over (λ a ts. f (g a ts)) r)
  to_over {f} {g} = record {
    there = λ d w c l. (l.1.0, l.1.1, l.2 ∙ ap f l.1.2);
    back = λ d w c l. (g l.0 (plain w), (l.0, l.1, refl), l.2);
  }

  pub over_alt : {A B : Type 0} {f : A → List Token → B} {r s : Rule N A} → Alike N rules (over f (alt r s)) (alt (over f r) (over f s))
  over_alt = record {
    there = λ d w b l. elim l.1 [ inl h ↦ inl (l.0, h, l.2) | inr h ↦ inr (l.0, h, l.2) ];
    back = λ d w b l. elim l [ inl h ↦ (h.0, inl h.1, h.2) | inr h ↦ (h.0, inr h.1, h.2) ];
  }

  -- the first token, and those behind it
  pub over_first : {A B : Type 0} {f : Token × A → List Token → B} {m : Role} {ks : Kinds} {r : Rule N A}
      → Alike N rules (over f (seq (tok m ks) r)) (to (λ (p : Token × (A × List Token)). f (p.0, p.1.0) (p.0 ∷ p.1.1)) (seq (tok m ks) (over (λ a ts. (a, ts)) r)))
  over_first {A} {B} {f} {m} {ks} {r} = record {
    there = λ d w b l. ((l.0.0, (l.0.1, plain l.1.1)), (l.1.0, l.1.1, l.1.2, l.1.3, (l.0.1, l.1.4, refl)), l.2 ∙ ap (λ (v : List Token). f l.0 v) (first w l.1.0 l.1.1 l.0.0 l.1.2 l.1.3.0));
    back = λ d w b l. ((l.0.0, l.1.4.0), (l.1.0, l.1.1, l.1.2, l.1.3, l.1.4.1), l.2 ∙ ap (λ (x : A × List Token). f (l.0.0, x.0) (l.0.0 ∷ x.1)) l.1.4.2 ∙ ap (λ (v : List Token). f (l.0.0, l.1.4.0) v) (sym (first w l.1.0 l.1.1 l.0.0 l.1.2 l.1.3.0)));
  } where
    first : (w xs ys : List Marked) (t : Token) → w ≡ xs ++ ys → xs ≡ marked (stays m) t ∷ [] → plain w ≡ t ∷ plain ys
    first w xs ys t e h = ap plain (e ∙ ap (λ (v : List Marked). v ++ ys) h)

  -- ---- one after the other

  pub seq_assoc : {A B C : Type 0} {r : Rule N A} {s : Rule N B} {t : Rule N C} → Alike N rules (seq (seq r s) t) (to (λ p. ((p.0, p.1.0), p.1.1)) (seq r (seq s t)))
  seq_assoc {A} {B} {C} {r} {s} {t} = record {
    there = λ d w p l. ((p.0.0, (p.0.1, p.1)), (l.3.0, l.3.1 ++ l.1, l.2 ∙ ap (λ (v : List Marked). v ++ l.1) l.3.2 ∙ append_assoc l.3.0 l.3.1 l.1, l.3.3, (l.3.1, l.1, refl, l.3.4, l.4)), refl);
    back = λ d w p l. subst (λ (q : (A × B) × C). derives N rules d (seq (seq r s) t) w q) (sym l.2)
        (l.1.0 ++ l.1.4.0, l.1.4.1, l.1.2 ∙ ap (λ (v : List Marked). l.1.0 ++ v) l.1.4.2 ∙ sym (append_assoc l.1.0 l.1.4.0 l.1.4.1), (l.1.0, l.1.4.0, refl, l.1.3, l.1.4.3), l.1.4.4);
  }

  pub pure_left : {A B : Type 0} {x : A} {s : Rule N B} → Alike N rules (seq (pure x) s) (to (λ b. (x, b)) s)
  pure_left {A} {B} {x} {s} = record {
    there = λ d w p l. (p.1, subst (λ (v : List Marked). derives N rules d s v p.1) (sym (l.2 ∙ ap (λ (v : List Marked). v ++ l.1) l.3.0)) l.4, ap (λ (y : A). (y, p.1)) l.3.1);
    back = λ d w p l. ([], w, refl, (refl, ap (λ (y : A × B). y.0) l.2), subst (λ (y : B). derives N rules d s w y) (sym (ap (λ (y : A × B). y.1) l.2)) l.1);
  }

  pub pure_right : {A B : Type 0} {r : Rule N A} {x : B} → Alike N rules (seq r (pure x)) (to (λ a. (a, x)) r)
  pure_right {A} {B} {r} {x} = record {
    there = λ d w p l. (p.0, subst (λ (v : List Marked). derives N rules d r v p.0) (sym (l.2 ∙ ap (λ (v : List Marked). l.0 ++ v) l.4.0 ∙ append-nil l.0)) l.3, ap (λ (y : B). (p.0, y)) l.4.1);
    back = λ d w p l. (w, [], sym (append-nil w), subst (λ (y : A). derives N rules d r w y) (sym (ap (λ (y : A × B). y.0) l.2)) l.1, (refl, ap (λ (y : A × B). y.1) l.2));
  }

  -- ---- one or the other

  pub alt_left : {A B : Type 0} {r s : Rule N A} {t : Rule N B} → Alike N rules (seq (alt r s) t) (alt (seq r t) (seq s t))
  alt_left = record {
    there = λ d w p l. elim l.3 [ inl h ↦ inl (l.0, l.1, l.2, h, l.4) | inr h ↦ inr (l.0, l.1, l.2, h, l.4) ];
    back = λ d w p l. elim l [ inl h ↦ (h.0, h.1, h.2, inl h.3, h.4) | inr h ↦ (h.0, h.1, h.2, inr h.3, h.4) ];
  }

  pub alt_right : {A B : Type 0} {r : Rule N A} {s t : Rule N B} → Alike N rules (seq r (alt s t)) (alt (seq r s) (seq r t))
  alt_right = record {
    there = λ d w p l. elim l.4 [ inl h ↦ inl (l.0, l.1, l.2, l.3, h) | inr h ↦ inr (l.0, l.1, l.2, l.3, h) ];
    back = λ d w p l. elim l [ inl h ↦ (h.0, h.1, h.2, h.3, inl h.4) | inr h ↦ (h.0, h.1, h.2, h.3, inr h.4) ];
  }

  pub alt_assoc : {A : Type 0} {r s t : Rule N A} → Alike N rules (alt (alt r s) t) (alt r (alt s t))
  alt_assoc = record {
    there = λ d w a l. elim l [ inl h ↦ elim h [ inl i ↦ inl i | inr i ↦ inr (inl i) ] | inr h ↦ inr (inr h) ];
    back = λ d w a l. elim l [ inl h ↦ inl (inl h) | inr h ↦ elim h [ inl i ↦ inl (inr i) | inr i ↦ inr i ] ];
  }

  pub alt_swap : {A : Type 0} {r s t : Rule N A} → Alike N rules (alt r (alt s t)) (alt s (alt r t))
  alt_swap = record {
    there = λ d w a l. elim l [ inl h ↦ inr (inl h) | inr h ↦ elim h [ inl i ↦ inl i | inr i ↦ inr (inr i) ] ];
    back = λ d w a l. elim l [ inl h ↦ inr (inl h) | inr h ↦ elim h [ inl i ↦ inl i | inr i ↦ inr (inr i) ] ];
  }

  pub alt_turned : {A : Type 0} {r s : Rule N A} → Alike N rules (alt r s) (alt s r)
  alt_turned = record {
    there = λ d w a l. elim l [ inl h ↦ inr h | inr h ↦ inl h ];
    back = λ d w a l. elim l [ inl h ↦ inr h | inr h ↦ inl h ];
  }

  -- two rows of alternatives, side by side
  pub alt_beside : {A : Type 0} {r r' s s' : Rule N A} → Alike N rules (alt (alt r s) (alt r' s')) (alt (alt r r') (alt s s'))
  alt_beside = alt_assoc ⊳ in_alt same alt_swap ⊳ turned alt_assoc

  -- where the test tells the alternatives of the first apart
  pub fork_or : {A B : Type 0} {f : A → Bool} {r s : Rule N A} {t u : Rule N B} → ((d : ℕ) (w : List Marked) (a : A) → derives N rules d r w a → f a ≡ true) → ((d : ℕ) (w : List Marked) (a : A) → derives N rules d s w a → f a ≡ false)
      → Alike N rules (fork (alt r s) f t u) (alt (seq r t) (seq s u))
  fork_or {A} {B} {f} {r} {s} {t} {u} first second = record {
    there = λ d w p l. elim l.3 [
      | inl h ↦ inl (l.0, l.1, l.2, h, subst (λ (b : Bool). pick b (derives N rules d t) (derives N rules d u) l.1 p.1) (first d l.0 p.0 h) l.4)
      | inr h ↦ inr (l.0, l.1, l.2, h, subst (λ (b : Bool). pick b (derives N rules d t) (derives N rules d u) l.1 p.1) (second d l.0 p.0 h) l.4)
    ];
    back = λ d w p l. elim l [
      | inl h ↦ (h.0, h.1, h.2, inl h.3, subst (λ (b : Bool). pick b (derives N rules d t) (derives N rules d u) h.1 p.1) (sym (first d h.0 p.0 h.3)) h.4)
      | inr h ↦ (h.0, h.1, h.2, inr h.3, subst (λ (b : Bool). pick b (derives N rules d t) (derives N rules d u) h.1 p.1) (sym (second d h.0 p.0 h.3)) h.4)
    ];
  }

  -- ---- any number

  -- one turn more, or none
  pub many_turn : {A : Type 0} {r : Rule N A} → Alike N rules (many r) (alt (to (λ p. p.0 ∷ p.1) (seq r (many r))) (pure []))
  many_turn {A} {r} = record { there = go; back = λ d w found l. elim l [ inl h ↦ subst (λ (x : List A). derives N rules d (many r) w x) (sym h.2) h.1 | inr h ↦ subst (λ (x : List A). derives N rules d (many r) w x) (sym h.1) h.0 ] } where
    go : (d : ℕ) (w : List Marked) (found : List A) → derives N rules d (many r) w found → derives N rules d (alt (to (λ p. p.0 ∷ p.1) (seq r (many r))) (pure [])) w found
    go d w [] l = inr (l, refl)
    go d w (a ∷ found) l = inl ((a, found), l, refl)

  pub many_to : {A B : Type 0} {f : A → B} {r : Rule N A} → Alike N rules (many (to f r)) (to (map f) (many r))
  many_to {A} {B} {f} {r} = record {
    there = λ d w found l. loop_to f (derives N rules d r) w found l;
    back = λ d w found l. subst (λ (x : List B). derives N rules d (many (to f r)) w x) (sym l.2) (to_loop f (derives N rules d r) w l.0 l.1);
  }

  pub in_until : {A : Type 0} {f : A → Bool} {r r' s s' : Rule N A} → Alike N rules r r' → Alike N rules s s' → Alike N rules (until r f s) (until r' f s')
  in_until {f} {r} {r'} {s} {s'} p q = record {
    there = λ d w found l. loop_map (λ b. pick b (derives N rules d s) (derives N rules d r)) (λ b. pick b (derives N rules d s') (derives N rules d r')) f
        (λ b v a. pick_map b (derives N rules d s) (derives N rules d s') (derives N rules d r) (derives N rules d r') v a (q.there d v a) (p.there d v a)) false w found l;
    back = λ d w found l. loop_map (λ b. pick b (derives N rules d s') (derives N rules d r')) (λ b. pick b (derives N rules d s) (derives N rules d r)) f
        (λ b v a. pick_map b (derives N rules d s') (derives N rules d s) (derives N rules d r') (derives N rules d r) v a (q.back d v a) (p.back d v a)) false w found l;
  }

  -- any number of the first, and then any number of the second, where a test tells them apart
  pub until_apart : {A : Type 0} {f : A → Bool} {r s : Rule N A} → ((d : ℕ) (w : List Marked) (a : A) → derives N rules d r w a → f a ≡ false) → ((d : ℕ) (w : List Marked) (a : A) → derives N rules d s w a → f a ≡ true)
      → Alike N rules (until (alt r s) f s) (to (λ p. p.0 ++ p.1) (seq (many r) (many s)))
  until_apart {A} {f} {r} {s} first second = record {
    there = λ d w found l. let q = apart_loop (derives N rules d r) (derives N rules d s) f (first d) (second d) w found l in ((q.0, q.1), (q.2, q.3, q.4, q.5, q.6), q.7);
    back = λ d w found l. subst (λ (z : List A). derives N rules d (until (alt r s) f s) w z) (sym l.2)
        (subst (λ (z : List Marked). derives N rules d (until (alt r s) f s) z (l.0.0 ++ l.0.1)) (sym l.1.2) (joined_loop (derives N rules d r) (derives N rules d s) f (first d) (second d) l.1.0 l.1.1 l.0.0 l.0.1 l.1.3 l.1.4));
  }

  -- a run of one rule in front of another, which makes a tree from the last of the run on
  pub run_turn : {A B : Type 0} (g : List A → B → B) (f : A → B → B) {r : Rule N A} {s : Rule N B} → ((x : B) → g [] x ≡ x) → ((a : A) (more : List A) (x : B) → g (a ∷ more) x ≡ f a (g more x))
      → Alike N rules (to (λ p. g p.0 p.1) (seq (many r) s)) (alt (to (λ p. f p.0 p.1) (seq r (to (λ p. g p.0 p.1) (seq (many r) s)))) s)
  run_turn g f none one = in_to _ (in_seq many_turn same ⊳ alt_left)
      ⊳ to_alt
      ⊳ in_alt
      (in_to _ (to_left ⊳ in_to _ seq_assoc ⊳ to_to) ⊳ to_to ⊳ to_as (λ p. one p.0 p.1.0 p.1.1) ⊳ turned (in_to _ to_right ⊳ to_to))
      (in_to _ pure_left ⊳ to_to ⊳ to_as none ⊳ to_same)

  -- ---- sets of kinds and names

  pub tok_or : {m : Role} {k : TokenKind} {ks : Kinds} → Alike N rules (tok m (k ∷ ks)) (alt (tok m (k ∷ [])) (tok m ks))
  tok_or {m} {k} {ks} = record {
    there = λ d w t l. elim (either (same_kind t.kind k) (has ks t.kind) l.1) [ inl h ↦ inl (l.0, or_left (same_kind t.kind k) false h) | inr h ↦ inr (l.0, h) ];
    back = λ d w t l. elim l [ inl h ↦ (h.0, or_left (same_kind t.kind k) (has ks t.kind) (only (same_kind t.kind k) h.1)) | inr h ↦ (h.0, or_right (same_kind t.kind k) (has ks t.kind) h.1) ];
  }

  -- the kind of the token is known
  pub to_kind : {A : Type 0} {m : Role} {k : TokenKind} {f g : Token → A} → ((t : Token) → t.kind ≡ k → f t ≡ g t) → Alike N rules (to f (tok m (k ∷ []))) (to g (tok m (k ∷ [])))
  to_kind {k} e = record {
    there = λ d w b l. (l.0, l.1, l.2 ∙ e l.0 (same_true the_type tt l.0.kind k (only (same_kind l.0.kind k) l.1.1)));
    back = λ d w b l. (l.0, l.1, l.2 ∙ sym (e l.0 (same_true the_type tt l.0.kind k (only (same_kind l.0.kind k) l.1.1))));
  }

  -- one bracket with alternatives inside, or alternatives of brackets
  pub nest_or : {A B : Type 0} {m k : Role} {o c : Kinds} {n p : N A} {q : N B} {f : B → A} → Alike N rules (rules A n) (alt (rules A p) (to f (rules B q))) → Alike N rules (nest m o n k c) (alt (nest m o p k c) (to f (nest m o q k c)))
  nest_or {A} {B} {m} {k} {o} {c} {n} {p} {q} {f} is = record { there = there; back = back } where
    there : (d : ℕ) (w : List Marked) (a : A) → derives N rules d (nest m o n k c) w a → derives N rules d (alt (nest m o p k c) (to f (nest m o q k c))) w a
    there zero w a l = absurd l.6
    there (suc d) w a l = elim (is.there d l.2 a l.6) [
      | inl h ↦ inl (l.0, l.1, l.2, l.3, l.4, l.5, h)
      | inr h ↦ inr (h.0, (l.0, l.1, l.2, l.3, l.4, l.5, h.1), h.2)
    ]

    back : (d : ℕ) (w : List Marked) (a : A) → derives N rules d (alt (nest m o p k c) (to f (nest m o q k c))) w a → derives N rules d (nest m o n k c) w a
    back zero w a l = elim l [ inl h ↦ absurd h.6 | inr h ↦ absurd h.1.6 ]
    back (suc d) w a l = elim l [
      | inl h ↦ (h.0, h.1, h.2, h.3, h.4, h.5, is.back d h.2 a (inl h.6))
      | inr h ↦ (h.1.0, h.1.1, h.1.2, h.1.3, h.1.4, h.1.5, is.back d h.1.2 a (inr (h.0, h.1.6, h.2)))
    ]
