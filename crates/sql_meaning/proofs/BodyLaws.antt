-- A statement's body has the tokens of its text, but for a `;` at the end.
use Rattle.std.proofs.Common.{◌≡◌, ◌≤◌, ℕ, ◌+◌, ◌-◌, Bool, true, false, cond, List, [], ◌∷◌, ◌++◌, append_assoc, append-nil, length, length-take, slice_get, take, drop, refl, sym, ap, subst, ◌∙◌, arith}
use Rattle.std.proofs.lemmas.List.{take-append-drop}
use Rattle.sql_grammar.specs.Answers.{Answer, Tree}
use Rattle.sql_grammar.specs.StatementTexts.{AnswersAs, HasTree}
use Rattle.sql_grammar.proofs.SizeLaws.{statement_within}
use Rattle.sql_grammar.proofs.StatementLaws.{an_answer, read_as_answered}
use Rattle.sql_lex.proofs.FrontLaws.{tokens_cut_behind}
use Rattle.sql_lex.specs.Tokens.{tokens_of}
use Rattle.sql_tree.specs.Sizes.{size_of_statement}
use Rattle.sql_tree.specs.declared.statement.Statement.{Statement}
use Rattle.sql_tree.specs.declared.token.Token.{Token}
use Rattle.sql_words.specs.Bodies.{answer_of, body_of, end_of, is_semicolon, without_end}

-- ---- the last of some tokens ends them

record EndsWith (tokens : List Token) : Type 0 where
  front : List Token
  last : Token
  are : tokens ≡ front ++ last ∷ []
  end : end_of tokens ≡ last.span.end

last_of : (t : Token) (tokens : List Token) → EndsWith (t ∷ tokens)
last_of t [] = record { front = []; last = t; are = refl; end = refl }
last_of t (u ∷ tokens) =
    let rest = last_of u tokens in record { front = t ∷ rest.front; last = rest.last; are = ap (λ ts. t ∷ ts) rest.are; end = rest.end }

-- ---- at most one is left out

record IsFront (some tokens : List Token) : Type 0 where
  others : List Token
  are : tokens ≡ some ++ others
  many : length tokens ≤ 1 + length some

kept : (tokens : List Token) → IsFront (without_end tokens) tokens
kept tokens = by (is_semicolon (slice_get tokens (length tokens - 1)))
  where
    by : (ends : Bool) → IsFront (cond ends (take (length tokens - 1) tokens) tokens) tokens
    by true = record { others = drop (length tokens - 1) tokens; are = sym (take-append-drop (length tokens - 1) tokens); many = omega (arith, length-take (length tokens - 1) tokens) }
    by false = record { others = []; are = sym (append-nil tokens); many = omega arith }

-- cut behind its last token
body_same : (text : List ℕ) (some : List Token) → IsFront some (tokens_of text) → length (tokens_of text) ≤ 1 + length (tokens_of (take (end_of some) text))
body_same text [] f = omega (arith, f.many)
body_same text (t ∷ some) f =
    let e = last_of t some in
    let all : tokens_of text ≡ e.front ++ e.last ∷ f.others = f.are ∙ ap (λ ts. ts ++ f.others) e.are ∙ append_assoc e.front (e.last ∷ []) f.others in
    let same : tokens_of (take (end_of (t ∷ some)) text) ≡ t ∷ some = ap (λ n. tokens_of (take n text)) e.end ∙ tokens_cut_behind text e.front f.others e.last all ∙ sym e.are in
    subst (λ ts. length (tokens_of text) ≤ 1 + length ts) (sym same) f.many

pub body-tokens : (text : List ℕ) → length (tokens_of text) ≤ 1 + length (tokens_of (body_of text))
body-tokens text = body_same text (without_end (tokens_of text)) (kept (tokens_of text))

-- ---- a tree is no larger than the text that it is read from

tree_within : (text : List ℕ) (s : Statement) (x : Answer Statement) → AnswersAs (tokens_of text) x → answer_of text ≡ x → answer_of text ≡ Tree s → size_of_statement s ≤ length (tokens_of text)
tree_within text s x answers is tree =
    let has : HasTree (tokens_of text) s = subst (AnswersAs (tokens_of text)) (sym is ∙ tree) answers in statement_within (tokens_of text) s has

pub statement-sized : (text : List ℕ) (s : Statement) → answer_of text ≡ Tree s → size_of_statement s ≤ 1 + length (tokens_of (body_of text))
statement-sized text s tree =
    let a = an_answer (tokens_of text) in
    omega (arith, tree_within text s a.0 a.1 (read_as_answered (tokens_of text) a.0 a.1) tree, body-tokens text)
