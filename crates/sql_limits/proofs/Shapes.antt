-- What the roles in the rules of a grammar say of the marked tokens that are derived.
use Rattle.std.proofs.Common.{◌≡◌, ℕ, zero, suc, ◌&&◌, ◌||◌, Bool, true, false, List, [], ◌∷◌, ◌++◌, sym, subst, inl, inr}
use Rattle.sql_tree.specs.declared.token.Token.{Token}
use Rattle.sql_grammar.specs.declared.counts.Role.{Role}
use Rattle.sql_grammar.specs.Marks.{stays, opens, closes, Marked, marked}
use Rattle.sql_grammar.specs.Rules.{Lang, Loop, Rule, tok, pure, seq, fork, alt, many, until, to, over, nest, pick, derives_in, nested}
use Rattle.sql_grammar.proofs.KindSets.{and_true}

-- the roles of single tokens pass a test, and those of brackets with the name of what stands in them
abbrev pub has_roles : {N : Type 0 → Type 1} → (Role → Bool) → ((A : Type 0) → Role → N A → Role → Bool) → {A : Type 0} → Rule N A → Bool
has_roles f g (tok m ks) = f m
has_roles f g (pure a) = true
has_roles f g (seq r s) = has_roles f g r && has_roles f g s
has_roles f g (fork r h s t) = has_roles f g r && (has_roles f g s && has_roles f g t)
has_roles f g (alt r s) = has_roles f g r && has_roles f g s
has_roles f g (many r) = has_roles f g r
has_roles f g (until r h s) = has_roles f g r && has_roles f g s
has_roles f g (to h r) = has_roles f g r
has_roles f g (over h r) = has_roles f g r
has_roles f g (nest {A} m o n k c) = g A m n k

-- A fact of marked tokens, P, holds of all single tokens and brackets of such roles, where Q holds of what stands in the brackets; and
-- of what is put together of such.
pub record Builds (N : Type 0 → Type 1) (f : Role → Bool) (g : (A : Type 0) → Role → N A → Role → Bool) (P : List Marked → Type 0) (Q : (A : Type 0) → N A → List Marked → Type 0) : Type 1 where
  pub none : P []
  pub both : (v w : List Marked) → P v → P w → P (v ++ w)
  pub single : (m : Role) (t : Token) → f m ≡ true → P (marked (stays m) t ∷ [])
  pub around : (A : Type 0) (m : Role) (n : N A) (k : Role) (t z : Token) (w : List Marked) → g A m n k ≡ true → Q A n w → P (marked (opens m) t ∷ (w ++ marked (closes k) z ∷ []))

module _ (N : Type 0 → Type 1) (rules : (A : Type 0) → N A → Rule N A) (f : Role → Bool) (g : (A : Type 0) → Role → N A → Role → Bool) (P : List Marked → Type 0) (Q : (A : Type 0) → N A → List Marked → Type 0) (b : Builds N f g P Q) where
  joined : (v w u : List Marked) → u ≡ v ++ w → P v → P w → P u
  joined v w u e h k = subst P (sym e) (b.both v w h k)

  loop_law : {A : Type 0} (l : Bool → Lang A) (test : A → Bool) → ((c : Bool) (w : List Marked) (a : A) → l c w a → P w) → (c : Bool) (w : List Marked) (found : List A) → Loop l test c w found → P w
  loop_law l test h c w [] d = subst P (sym d) b.none
  loop_law l test h c w (a ∷ found) d = joined d.0 d.1 w d.2 (h c d.0 a d.3) (loop_law l test h (c || test a) d.1 found d.4)

  pick_law : {A : Type 0} (c : Bool) (l m : Lang A) → ((w : List Marked) (a : A) → l w a → P w) → ((w : List Marked) (a : A) → m w a → P w) → (w : List Marked) (a : A) → pick c l m w a → P w
  pick_law true l m h k w a d = h w a d
  pick_law false l m h k w a d = k w a d

  pub rule_law : (inner : (A : Type 0) → N A → Lang A) → ((A : Type 0) (n : N A) (w : List Marked) (a : A) → inner A n w a → Q A n w)
      → {A : Type 0} (r : Rule N A) → has_roles f g r ≡ true → (w : List Marked) (a : A) → derives_in N rules inner r w a → P w
  rule_law inner h (tok m ks) y w a d = subst P (sym d.0) (b.single m a y)
  rule_law inner h (pure x) y w a d = subst P (sym d.0) b.none
  rule_law inner h (seq r s) y w a d = let p = and_true (has_roles f g r) _ y in joined d.0 d.1 w d.2 (rule_law inner h r p.0 d.0 a.0 d.3) (rule_law inner h s p.1 d.1 a.1 d.4)
  rule_law inner h (fork r k s t) y w a d =
      let p = and_true (has_roles f g r) _ y in
      let q = and_true (has_roles f g s) _ p.1 in
      joined d.0 d.1 w d.2 (rule_law inner h r p.0 d.0 a.0 d.3) (pick_law (k a.0) (derives_in N rules inner s) (derives_in N rules inner t) (rule_law inner h s q.0) (rule_law inner h t q.1) d.1 a.1 d.4)
  rule_law inner h (alt r s) y w a d = let p = and_true (has_roles f g r) _ y in elim d [ inl x ↦ rule_law inner h r p.0 w a x | inr x ↦ rule_law inner h s p.1 w a x ]
  rule_law inner h (many r) y w a d = loop_law (λ c. derives_in N rules inner r) (λ x. false) (λ c. rule_law inner h r y) false w a d
  rule_law inner h (until r k s) y w a d =
      let p = and_true (has_roles f g r) _ y in
      loop_law (λ c. pick c (derives_in N rules inner s) (derives_in N rules inner r)) k (λ c. pick_law c (derives_in N rules inner s) (derives_in N rules inner r) (rule_law inner h s p.1) (rule_law inner h r p.0)) false w a d
  rule_law inner h (to k r) y w a d = rule_law inner h r y w d.0 d.1
  rule_law inner h (over k r) y w a d = rule_law inner h r y w d.0 d.1
  rule_law inner h (nest {A} m o n k c) y w a d = subst P (sym d.3) (b.around A m n k d.0 d.1 d.2 y (h A n d.2 a d.6))

module _ (N : Type 0 → Type 1) (rules : (A : Type 0) → N A → Rule N A) (f : Role → Bool) (g : (A : Type 0) → Role → N A → Role → Bool) (P : List Marked → Type 0) (b : Builds N f g P (λ A n. P)) where
  pub nested_law : ((A : Type 0) (n : N A) → has_roles f g (rules A n) ≡ true) → (depth : ℕ) (A : Type 0) (n : N A) (w : List Marked) (a : A) → nested N rules depth A n w a → P w
  nested_law h zero A n w a d = absurd d
  nested_law h (suc depth) A n w a d = rule_law N rules f g P (λ A n. P) b (nested N rules depth) (nested_law h depth) (rules A n) (h A n) w a d
