-- A text without tokens is no statement.
use Rattle.std.proofs.Common.{◌≡◌, ◌+◌, ◌≤◌, ℕ, List, [], ◌∷◌, length, Ok, Err, refl, sym, ap, ◌∙◌, subst, arith}
use Rattle.eng_value.specs.declared.cause.Cause.TheVariants as cause
use Rattle.sql_grammar.specs.Answers.{Answer, Tree, Syntax, TooMuch, place, whole}
use Rattle.sql_grammar.specs.Marks.{start}
use Rattle.sql_grammar.specs.Statements.{command, explain, pragma, statement}
use Rattle.sql_grammar.specs.StatementTexts.{read_statement}
use Rattle.sql_lex.specs.Cutting.{start_of}
use Rattle.sql_lex.specs.Tokens.{tokens_of}
use Rattle.sql_meaning.specs.Runnables.{Runnable}
use Rattle.sql_words.specs.Bodies.{answer_of}
use Rattle.sql_meaning.specs.Permits.{Asking}
use Rattle.sql_meaning.specs.Statement.{answer_bound, limit_kind, text_bound, text_bound_from}
use Rattle.sql_meaning.specs.World.{World}
use Rattle.sql_tree.specs.declared.statement.Statement.{Statement}
use Rattle.sql_tree.specs.declared.token.Token.{Token}

none_read : (tree : Statement) → whole (read_statement start []) ≡ Tree tree → ⊥
unfolding statement explain command pragma
none_read tree e =
    let is : whole (read_statement start []) ≡ Syntax [] = refl in
    let bad : Syntax [] ≡ Tree tree = sym is ∙ e in
    absurd (cc)

none_bound : (asked : Asking) (w : World) (text : List ℕ) (a : Answer Statement) (x : Runnable) → whole (read_statement start []) ≡ a → answer_bound asked w 0 text a ≡ Ok x → ⊥
none_bound asked w text (Tree tree) x is e = none_read tree is
none_bound asked w text (Syntax rest) x is e = absurd (let bad : Err (cause.Syntax (0 + place (length text) rest)) ≡ Ok x = e in cc)
none_bound asked w text (TooMuch l rest) x is e = absurd (let bad : Err (cause.Limit (limit_kind l)) ≡ Ok x = e in cc)

pub has_tokens : (asked : Asking) (w : World) (text : List ℕ) (x : Runnable) → text_bound asked w text ≡ Ok x → 1 ≤ length (tokens_of text)
has_tokens asked w text x e = by (tokens_of text) refl
  where
    by : (ts : List Token) → tokens_of text ≡ ts → 1 ≤ length ts
    by [] is =
        let first : start_of (tokens_of text) 0 ≡ 0 = ap (λ ts. start_of ts 0) is in
        let from : text_bound_from asked w 0 text ≡ Ok x = subst (λ k. text_bound_from asked w k text ≡ Ok x) first e in
        absurd (none_bound asked w text (answer_of text) x (ap (λ ts. whole (read_statement start ts)) (sym is)) from)
    by (t ∷ ts) is = omega arith
