-- Comparisons, IS, LIKE and GLOB (Datatypes In SQLite, sections 4 and 7; SQL Language Expressions, section 5).
use Rattle.std.specs.Prelude.{◌≡◌, ℕ, List, [], ◌∷◌, ℤ, pos, unsigned_abs, Some, None, codes, refl}
use Rattle.std.specs.Ordering.{is_eq}
use Rattle.std.specs.Fmt.{digits}
use Rattle.std.specs.Str.{chars}
use Rattle.std.specs.declared.cmp.Ordering.{Ordering}
use Rattle.eng_number.specs.Numbers.{text_kind}
use Rattle.eng_text.specs.Patterns.{is_like, is_glob}
use Rattle.eng_value.specs.declared.affinity.Affinity.TheVariants as affinity
use Rattle.eng_value.specs.declared.built.Built.TheVariants as built
use Rattle.eng_value.specs.declared.cause.Cause.TheVariants as cause
use Rattle.eng_value.specs.declared.collation.Collation.TheVariants as collation
use Rattle.eng_value.specs.declared.compare_op.CompareOp.{CompareOp}
use Rattle.eng_value.specs.declared.compare_op.CompareOp.TheVariants as compares
use Rattle.eng_value.specs.declared.operators.Sides.{Sides}
use Rattle.eng_value.specs.declared.out.Out.{Out}
use Rattle.eng_value.specs.declared.out.Out.TheVariants.{Good}
use Rattle.eng_value.specs.declared.value.Value.{Value}
use Rattle.eng_value.specs.declared.value.Value.TheVariants.{Null, Integer, Text}
use Rattle.eng_value.specs.Casts.{beside, to_text}
use Rattle.eng_value.specs.Collations.{Keys, compare_by, own_keys}
use Rattle.eng_value.specs.Outs.{bad, turned, on_both, on_three, passes, truth_value}

-- ---- comparisons

module _ (keys : Keys) where
  -- how two values stand to one another, each as the affinities of both sides want it, by the keys of the collation
  abbrev pub compare_sides : Sides → Value → Value → Ordering
  compare_sides sides a b = compare_by (keys sides.collation) (beside sides.right sides.left a) (beside sides.left sides.right b)

  -- NULL beside NULL
  abbrev pub comparison : CompareOp → Sides → Value → Value → Value
  comparison op sides Null b = Null
  comparison op sides a Null = Null
  comparison op sides a b = truth_value (passes op (compare_sides sides a b))

  unfoldable pub comparison_of : CompareOp → Sides → Out → Out → Out
  comparison_of op sides a b = on_both (λ v w. Good (comparison op sides v w)) a b

  -- IS takes NULL for a value
  unfoldable pub is_of : Sides → Out → Out → Out
  is_of sides a b = on_both (λ v w. Good (truth_value (is_eq (compare_sides sides v w)))) a b

-- ---- LIKE and GLOB: of a text and a pattern, both cast to TEXT; NULL beside NULL

abbrev pub liked : Value → Value → Value
liked (Text text) (Text pattern) = truth_value (is_like None (chars pattern) (chars text))
liked text pattern = Null

unfoldable pub like_of : Out → Out → Out
like_of text pattern = on_both (λ t p. Good (liked t p)) (turned to_text text) (turned to_text pattern)

abbrev pub globbed : Value → Value → Value
globbed (Text text) (Text pattern) = truth_value (is_glob (chars pattern) (chars text))
globbed text pattern = Null

unfoldable pub glob_of : Out → Out → Out
glob_of text pattern = on_both (λ t p. Good (globbed t p)) (turned to_text text) (turned to_text pattern)

-- the number of a text's one character, or Escape
abbrev pub one_char : List ℕ → Out
one_char (c ∷ []) = Good (Integer (pos c))
one_char cs = bad cause.Escape

abbrev pub escape_char : Value → Out
escape_char (Text text) = one_char (chars text)
escape_char v = Good Null

-- an ESCAPE, cast to TEXT
abbrev pub to_escape : Out → Out
to_escape escape = turned escape_char (turned to_text escape)

-- NULL where one of the three is
abbrev pub liked_beside : Value → Value → Value → Value
liked_beside (Text text) (Text pattern) (Integer escape) = truth_value (is_like (Some (unsigned_abs escape)) (chars pattern) (chars text))
liked_beside text pattern escape = Null

unfoldable pub like_escaped_of : Out → Out → Out → Out
like_escaped_of text pattern escape =
    on_three (λ t p e. Good (liked_beside t p e)) (turned to_text text) (turned to_text pattern) (to_escape escape)

-- ---- examples

abbrev number : ℤ → Out
number n = Good (Integer n)

abbrev text : List ℕ → Out
text t = Good (Text t)

abbrev column_and_literal : Sides
column_and_literal = record { left = affinity.Integer; right = affinity.None; collation = collation.Built built.Binary }

compared : (comparison_of own_keys compares.Eq column_and_literal (number (pos 1)) (text (codes "1")) ≡ number (pos 1)) × (comparison_of own_keys compares.Eq column_and_literal (number (pos 1)) (text (codes "1.0")) ≡ number (pos 0)) × (comparison_of own_keys compares.Lt column_and_literal (number (pos 9)) (text (codes " 10 ")) ≡ number (pos 1)) × (comparison_of own_keys compares.Eq column_and_literal (Good Null) (Good Null) ≡ Good Null) × (is_of own_keys column_and_literal (Good Null) (Good Null) ≡ number (pos 1))
unfolding comparison_of is_of beside text_kind
compared = (refl, refl, refl, refl, refl)

matched : (like_of (text (codes "ABC")) (text (codes "a%")) ≡ number (pos 1)) × (like_of (number (pos 15)) (text (codes "%5")) ≡ number (pos 1)) × (like_of (Good Null) (text (codes "%")) ≡ Good Null) × (glob_of (text (codes "ABC")) (text (codes "a*")) ≡ number (pos 0))
unfolding like_of glob_of is_like is_glob chars digits
matched = (refl, refl, refl, refl)

matched_beside : (like_escaped_of (text (codes "5%")) (text (codes "5!%")) (text (codes "!")) ≡ number (pos 1)) × (like_escaped_of (Good Null) (text (codes "%")) (text (codes "!!")) ≡ bad cause.Escape) × (like_escaped_of (text (codes "a")) (text (codes "%")) (Good Null) ≡ Good Null)
unfolding like_escaped_of is_like chars
matched_beside = (refl, refl, refl)
