-- The answers of a grammar whose marked tokens are nested.
use Rattle.std.proofs.Common.{◌≡◌, ◌∙◌, ℕ, ◌↔◌, List, [], ◌∷◌, ◌++◌, sym, subst, ap}
use Rattle.sql_tree.specs.declared.token.Token.{Token}
use Rattle.sql_grammar.specs.declared.counts.TheConstants.{MAX_NESTINGS}
use Rattle.sql_grammar.specs.Answers.{Answer, Tree, Syntax, TooMuch, Within, Meets}
use Rattle.sql_grammar.specs.Exact.{Begins}
use Rattle.sql_grammar.specs.Marks.{start, Marked, marked, plain, Past, run}
use Rattle.sql_grammar.specs.Rules.{Lang}
use Rattle.sql_limits.specs.Answers.{IsAnswer}
use Rattle.sql_limits.specs.Fronts.{FrontKeepsAll, PassedAt}
use Rattle.sql_limits.specs.Limits.{KeepsAll}
use Rattle.sql_limits.specs.Nestings.{Nested, flat}
use Rattle.sql_limits.proofs.Kept.{fits_kept, front_within, first_past}
use Rattle.sql_limits.proofs.Nests.{IsNested}

module _ {A : Type 0} (L : ℕ → Lang A) (nests : (d : ℕ) (w : List Marked) (a : A) → L d w a → IsNested w) where
  pub fits : (d : ℕ) (w : List Marked) (a : A) → L d w a → (n : Nested) × (w ≡ flat n) × (Within MAX_NESTINGS start w ↔ KeepsAll n)
  fits d w a h = let n = nests d w a h in (n.0, n.1, subst (λ v. Within MAX_NESTINGS start v ↔ KeepsAll n.0) (sym n.1) (fits_kept n.0))

  pub answers : (ts : List Token) (x : Answer A) → Meets L MAX_NESTINGS start ts x ↔ IsAnswer L ts x
  answers ts (Tree a) = (there, back) where
    there : Meets L MAX_NESTINGS start ts (Tree a) → IsAnswer L ts (Tree a)
    there t = let n = nests t.0 t.1 a t.3 in (t.0, n.0, t.2 ∙ ap plain n.1, subst (λ v. L t.0 v a) n.1 t.3, (fits_kept n.0).0 (subst (λ v. Within MAX_NESTINGS start v) n.1 t.4))

    back : IsAnswer L ts (Tree a) → Meets L MAX_NESTINGS start ts (Tree a)
    back t = (t.0, flat t.1, t.2, t.3, (fits_kept t.1).1 t.4)
  answers ts (Syntax rest) = (λ t. (t.0, t.1, t.2, (fronts t.0 t.2).0 t.3, t.4), λ t. (t.0, t.1, t.2, (fronts t.0 t.2).1 t.3, t.4)) where
    fronts : (v : List Marked) → Begins L v → Within MAX_NESTINGS start v ↔ FrontKeepsAll v
    fronts v b = let n = nests b.0 (v ++ b.1) b.2 b.3 in front_within n.0 v b.1 n.1
  answers ts (TooMuch l []) = (λ t. t, λ t. t)
  answers ts (TooMuch l (t ∷ rest)) = (λ s. (s.0, s.1, s.2, s.3, (passed s.0 (marked s.1 t) s.3).0 s.4), λ s. (s.0, s.1, s.2, s.3, (passed s.0 (marked s.1 t) s.3).1 s.4)) where
    passed : (v : List Marked) (x : Marked) → Begins L (v ++ x ∷ []) → (run MAX_NESTINGS start (v ++ x ∷ []) ≡ Past l (x ∷ [])) ↔ PassedAt l v x
    passed v x b = let n = nests b.0 ((v ++ x ∷ []) ++ b.1) b.2 b.3 in first_past n.0 v b.1 x l n.1
