-- What is true of each tree that a rule derives, and of how many tokens it is derived from.
use Rattle.std.proofs.Common.{◌≡◌, ℕ, zero, suc, ◌+◌, ◌≤◌, ◌||◌, length-append, Bool, true, false, List, [], ◌∷◌, ◌++◌, length, refl, sym, subst, arith, inl, inr}
use Rattle.sql_tree.specs.declared.token.Token.{Token}
use Rattle.sql_grammar.specs.declared.counts.Role.{Role}
use Rattle.sql_grammar.specs.Marks.{Marked, marked, plain, opens, closes}
use Rattle.sql_grammar.specs.Rules.{Kinds, Lang, Loop, Rule, tok, pure, seq, fork, alt, many, until, to, over, nest, pick, can_be_empty, derives_in, nested}
use Rattle.sql_grammar.proofs.Derivations.{empty_law}

-- a fact of a number of tokens and a tree of them
abbrev pub Fact : Type 0 → Type 1
Fact A = ℕ → A → Type 0

pub plain_keeps_length : (w : List Marked) → length (plain w) ≡ length w
plain_keeps_length [] = refl
plain_keeps_length (x ∷ w) = let e = plain_keeps_length w in omega arith

-- of two parts that are derived from m and from n tokens
joins : {A : Type 0} (R : Fact A) (a : A) (xs ys w : List Marked) → w ≡ xs ++ ys → R (length xs + length ys) a → R (length w) a
joins R a xs ys w e f = rw (e, length-append xs ys) f

between_length : (m k : Role) (t z : Token) (xs w : List Marked) → w ≡ marked (opens m) t ∷ (xs ++ marked (closes k) z ∷ []) → length w ≡ length xs + 2
between_length m k t z xs w e = rw (e, length-append xs (marked (closes k) z ∷ [])) (omega arith)

loop_law : {A : Type 0} (l : Bool → Lang A) (test : A → Bool) (P : Fact A) (Q : Fact (List A)) → ((b : Bool) (w : List Marked) (a : A) → l b w a → P (length w) a)
    → Q 0 [] → ((m n : ℕ) (a : A) (more : List A) → P m a → Q n more → Q (m + n) (a ∷ more)) → (b : Bool) (w : List Marked) (found : List A) → Loop l test b w found → Q (length w) found
loop_law l test P Q f none h b w [] d = subst (λ (v : List Marked). Q (length v) []) (sym d) none
loop_law l test P Q f none h b w (a ∷ more) d = joins Q (a ∷ more) d.0 d.1 w d.2 (h (length d.0) (length d.1) a more (f b d.0 a d.3) (loop_law l test P Q f none h (b || test a) d.1 more d.4))

pick_law : {A : Type 0} (b : Bool) (l m : Lang A) (P : Fact A) → ((w : List Marked) (a : A) → l w a → P (length w) a) → ((w : List Marked) (a : A) → m w a → P (length w) a) → (w : List Marked) (a : A) → pick b l m w a → P (length w) a
pick_law true l m P f g w a d = f w a d
pick_law false l m P f g w a d = g w a d

-- the fact holds of all that the rule derives, where names stand for the inner languages
pub record Weighs (N : Type 0 → Type 1) (rules : (A : Type 0) → N A → Rule N A) (inner : (A : Type 0) → N A → Lang A) {A : Type 0} (P : Fact A) (r : Rule N A) : Type 0 where
  pub by : (w : List Marked) (a : A) → derives_in N rules inner r w a → P (length w) a

module _ {N : Type 0 → Type 1} {rules : (A : Type 0) → N A → Rule N A} {inner : (A : Type 0) → N A → Lang A} where
  pub weighs_tok : {m : Role} {ks : Kinds} {P : Fact Token} → ((t : Token) → P 1 t) → Weighs N rules inner P (tok m ks)
  weighs_tok {P} f = record { by = λ w t d. subst (λ (v : List Marked). P (length v) t) (sym d.0) (f t) }

  pub weighs_pure : {A : Type 0} {x : A} {P : Fact A} → P 0 x → Weighs N rules inner P (pure x)
  weighs_pure {P} f = record { by = λ w a d. subst (λ (v : List Marked). P (length v) a) (sym d.0) (subst (λ b. P 0 b) (sym d.1) f) }

  pub weighs_alt : {A : Type 0} {r s : Rule N A} {P : Fact A} → Weighs N rules inner P r → Weighs N rules inner P s → Weighs N rules inner P (alt r s)
  weighs_alt f g = record { by = λ w a d. elim d [ inl p ↦ f.by w a p | inr p ↦ g.by w a p ] }

  pub weighs_to : {A B : Type 0} {h : A → B} {r : Rule N A} {P : Fact A} {Q : Fact B} → Weighs N rules inner P r → ((n : ℕ) (a : A) → P n a → Q n (h a)) → Weighs N rules inner Q (to h r)
  weighs_to {Q} f g = record { by = λ w b d. subst (λ c. Q (length w) c) (sym d.2) (g (length w) d.0 (f.by w d.0 d.1)) }

  pub weighs_over : {A B : Type 0} {h : A → List Token → B} {r : Rule N A} {P : Fact A} {Q : Fact B} → Weighs N rules inner P r → ((n : ℕ) (a : A) (ts : List Token) → P n a → Q n (h a ts)) → Weighs N rules inner Q (over h r)
  weighs_over {Q} f g = record { by = λ w b d. subst (λ c. Q (length w) c) (sym d.2) (g (length w) d.0 (plain w) (f.by w d.0 d.1)) }

  pub weighs_seq : {A B : Type 0} {r : Rule N A} {s : Rule N B} {P : Fact A} {Q : Fact B} {R : Fact (A × B)} → Weighs N rules inner P r → Weighs N rules inner Q s → ((m n : ℕ) (a : A) (b : B) → P m a → Q n b → R (m + n) (a, b)) → Weighs N rules inner R (seq r s)
  weighs_seq {R} f g h = record { by = λ w p d. joins R p d.0 d.1 w d.2 (h (length d.0) (length d.1) p.0 p.1 (f.by d.0 p.0 d.3) (g.by d.1 p.1 d.4)) }

  -- a tree made of two parts
  pub weighs_both : {A B C : Type 0} {h : A × B → C} {r : Rule N A} {s : Rule N B} {P : Fact A} {Q : Fact B} {R : Fact C} → Weighs N rules inner P r → Weighs N rules inner Q s → ((m n : ℕ) (a : A) (b : B) → P m a → Q n b → R (m + n) (h (a, b))) → Weighs N rules inner R (to h (seq r s))
  weighs_both {h} {R} f g k = weighs_to (weighs_seq {R = λ n p. R n (h p)} f g k) (λ n p found. found)

  pub weighs_many : {A : Type 0} {r : Rule N A} {P : Fact A} {Q : Fact (List A)} → Weighs N rules inner P r → Q 0 [] → ((m n : ℕ) (a : A) (more : List A) → P m a → Q n more → Q (m + n) (a ∷ more)) → Weighs N rules inner Q (many r)
  weighs_many {r} {P} {Q} f none h = record { by = λ w found d. loop_law (λ b. derives_in N rules inner r) (λ a. false) P Q (λ b. f.by) none h false w found d }

  -- what comes second follows from the first
  pub weighs_fork : {A B : Type 0} {r : Rule N A} {test : A → Bool} {s t : Rule N B} {P : Fact A} {Q : Fact B} {R : Fact (A × B)}
      → Weighs N rules inner P r → Weighs N rules inner Q s → Weighs N rules inner Q t → ((m n : ℕ) (a : A) (b : B) → P m a → Q n b → R (m + n) (a, b)) → Weighs N rules inner R (fork r test s t)
  weighs_fork {test} {s} {t} {Q} {R} f g k h = record {
    by = λ w p d. joins R p d.0 d.1 w d.2 (h (length d.0) (length d.1) p.0 p.1 (f.by d.0 p.0 d.3) (pick_law (test p.0) (derives_in N rules inner s) (derives_in N rules inner t) Q g.by k.by d.1 p.1 d.4));
  }

  pub weighs_until : {A : Type 0} {r : Rule N A} {test : A → Bool} {s : Rule N A} {P : Fact A} {Q : Fact (List A)}
      → Weighs N rules inner P r → Weighs N rules inner P s → Q 0 [] → ((m n : ℕ) (a : A) (more : List A) → P m a → Q n more → Q (m + n) (a ∷ more)) → Weighs N rules inner Q (until r test s)
  weighs_until {r} {test} {s} {P} {Q} f g none h = record {
    by = λ w found d. loop_law (λ b. pick b (derives_in N rules inner s) (derives_in N rules inner r)) test P Q (λ b. pick_law b (derives_in N rules inner s) (derives_in N rules inner r) P g.by f.by) none h false w found d;
  }

  -- a token at least, where a rule derives nothing from none
  pub weighs_something : {A : Type 0} {r : Rule N A} → can_be_empty r ≡ false → Weighs N rules inner (λ n a. 1 ≤ n) r
  weighs_something {A} {r} e = record { by = go } where
    go : (w : List Marked) (a : A) → derives_in N rules inner r w a → 1 ≤ length w
    go [] a d = let some = empty_law N rules inner r a d in cc
    go (x ∷ w) a d = omega arith

  -- what is named, and its two brackets
  pub weighs_nest : {A : Type 0} {m : Role} {o : Kinds} {name : N A} {k : Role} {c : Kinds} {P : Fact A} {Q : Fact A}
      → ((w : List Marked) (a : A) → inner A name w a → P (length w) a) → ((n : ℕ) (a : A) → P n a → Q (n + 2) a) → Weighs N rules inner Q (nest m o name k c)
  weighs_nest {m} {k} f h = record { by = λ w a d. rw (between_length m k d.0 d.1 d.2 w d.3) (h (length d.2) a (f d.2 a d.6)) }

module _ (N : Type 0 → Type 1) (rules : (A : Type 0) → N A → Rule N A) where
  -- what holds of each rule where it holds of all that are named within it, at any depth
  pub weighs_nested : (P : (A : Type 0) → N A → Fact A)
      → ((inner : (A : Type 0) → N A → Lang A) → ((A : Type 0) (name : N A) (w : List Marked) (a : A) → inner A name w a → P A name (length w) a) → (A : Type 0) (name : N A) → Weighs N rules inner (P A name) (rules A name))
      → (depth : ℕ) (A : Type 0) (name : N A) (w : List Marked) (a : A) → nested N rules depth A name w a → P A name (length w) a
  weighs_nested P f zero A name w a d = absurd d
  weighs_nested P f (suc depth) A name w a d = let g = f (nested N rules depth) (weighs_nested P f depth) A name in g.by w a d
