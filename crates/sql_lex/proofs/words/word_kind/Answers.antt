use Rattle.std.proofs.Common.{◌≡◌, ◌<◌, ℕ, Bool, true, false, ◌&&◌, cond, List, [], ◌∷◌, length, refl, sym, ◌∙◌, ap, arith}
use Rattle.std.specs.Prelude.{nat_le}
use Rattle.std.specs.List.{list_all}
use Rattle.std.specs.Str.{str_eq_ignore_ascii_case}
use Rattle.sql_tree.specs.declared.token.TokenKind.{TokenKind}
use Rattle.sql_tree.specs.declared.token.TokenKind.TheVariants as kind
use Rattle.sql_lex.specs.declared.keywords.TheConstants.{KEYWORDS}
use Rattle.sql_lex.specs.Pieces.{kind_where, word_kind}
use Rattle.sql_lex.proofs.words.word_kind.Goals as goal

and-false : (b : Bool) → (b && false) ≡ false
and-false true = refl
and-false false = refl

-- a text of two bytes or more is none of fewer
longer-other : (text word : List ℕ) → nat_le 2 (length text) ≡ true → length word < 2 → str_eq_ignore_ascii_case text word ≡ false
longer-other [] word long short = cc
longer-other (a ∷ []) word long short = cc
longer-other (a ∷ b ∷ text) [] long short = refl
longer-other (a ∷ b ∷ text) (c ∷ []) long short = and-false _
longer-other (a ∷ b ∷ text) (c ∷ d ∷ word) long short = absurd (omega (arith, short))

-- so that no longer keyword is a word of one letter
none-short : {K : Type 0} (name_of : K → List ℕ) (kind_of : K → TokenKind) (word : List ℕ) → length word < 2 → (ks : List K) → list_all (λ k. nat_le 2 (length (name_of k))) ks ≡ true
    → kind.Word ≡ kind_where (λ k. str_eq_ignore_ascii_case (name_of k) word) kind_of ks
none-short name_of kind_of word short [] long = refl
none-short name_of kind_of word short (k ∷ ks) long =
    by (nat_le 2 (length (name_of k))) refl long (none-short name_of kind_of word short ks)
  where
    by : (t : Bool) → nat_le 2 (length (name_of k)) ≡ t → (t && list_all (λ k. nat_le 2 (length (name_of k))) ks) ≡ true → (list_all (λ k. nat_le 2 (length (name_of k))) ks ≡ true → kind.Word ≡ kind_where (λ k. str_eq_ignore_ascii_case (name_of k) word) kind_of ks)
        → kind.Word ≡ kind_where (λ k. str_eq_ignore_ascii_case (name_of k) word) kind_of (k ∷ ks)
    by false e all others = cc
    by true e all others =
        others all ∙ sym (ap (λ c. cond c (kind_of k) (kind_where (λ k. str_eq_ignore_ascii_case (name_of k) word) kind_of ks)) (longer-other (name_of k) word e short))

pub returns-then-word-lt2 : goal.returns-then-word-lt2
unfolding word_kind
returns-then-word-lt2 c = none-short (λ k. k.0.now) (λ k. k.1) c.args.word.now c.if-word-lt2.true KEYWORDS refl

pub returns-else-word-lt2 : goal.returns-else-word-lt2
unfolding word_kind
returns-else-word-lt2 c = c.kind_in.ensures
