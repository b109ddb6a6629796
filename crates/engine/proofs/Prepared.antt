-- A text is prepared as the definitions say: what its tokens' answer tells, and how its statement was bound.
use Rattle.std.proofs.Common.{◌≡◌, ◌≤◌, inl, inr, ℕ, ◌+◌, arith, List, length, drop, Option, Some, None, Result, Ok, Err, refl, sym, ap, ◌∙◌, subst}
use Rattle.bind_stmt.specs.declared.statement.Bound.{Bound}
use Rattle.bind_stmt.specs.Binds.{Binds, BindsTo, IsRefusal}
use Rattle.bind_stmt.specs.Small.{IsSmall}
use Rattle.eng_entry.specs.Entries.{Entries}
use Rattle.eng_value.specs.declared.cause.Cause.{Cause}
use Rattle.eng_value.specs.declared.cause.Cause.TheVariants as cause
use Rattle.parse_cursor.specs.declared.texts.Failure.{Failure}
use Rattle.parse_cursor.specs.declared.texts.Failure.TheVariants as failure
use Rattle.parse_cursor.specs.Whole.{Shows}
use Rattle.sql_grammar.proofs.StatementLaws.{an_answer, read_as_answered}
use Rattle.sql_grammar.proofs.SizeLaws.{statement_within}
use Rattle.sql_grammar.specs.Answers.{Answer, Tree, Syntax, TooMuch}
use Rattle.sql_grammar.specs.StatementTexts.{AnswersAs}
use Rattle.sql_lex.specs.Cutting.{start_of}
use Rattle.sql_lex.specs.Tokens.{tokens_of}
use Rattle.sql_meaning.specs.Runnables.{Runnable, Creates, DoesNothing, Drops, Explains, Indexes, Puts, Queries, Shows as ShowsRows, Unindexes}
use Rattle.sql_words.specs.Bodies.{answer_of, body_of}
use Rattle.sql_meaning.specs.Permits.{Asking}
use Rattle.sql_meaning.specs.Statement.{answer_bound, explained, limit_kind, plain_bound, text_bound, text_bound_from}
use Rattle.sql_meaning.specs.World.{World}
use Rattle.sql_tree.specs.declared.statement.Explain.{Explain}
use Rattle.sql_tree.specs.declared.statement.Statement.{Statement}
use Rattle.sql_tree.specs.Sizes.{size_of_statement}
use Rattle.vm_code.specs.Machine.{World as Lists}
use Rattle.engine.specs.declared.preparing.Prepared.{Prepared}
use Rattle.engine.specs.declared.preparing.Ready.{Ready}
use Rattle.engine.specs.Held.{world_in}
use Rattle.engine.specs.Prepared.{Prepares, Readies, behind, cause_of}
use Rattle.engine.proofs.Bodies.{tokens_kept}

-- what is small beside a tree is small beside one that is no smaller
small_more : (size more : ℕ) (x : Runnable) → size ≤ more → IsSmall size x → IsSmall more x
small_more size more (Creates e) le small = omega (arith, small)
small_more size more (Drops t) le small = omega (arith, small)
small_more size more (Indexes i) le small = omega (arith, small)
small_more size more (Unindexes name) le small = omega (arith, small)
small_more size more (Puts p) le small = record { nodes = omega (arith, small.nodes); count = omega (arith, small.count) }
small_more size more (Queries q) le small = record {
  filter = small.filter;
  shown = small.shown;
  stars = small.stars;
  within = omega (arith, small.within);
  hundred = small.hundred;
  of_table = small.of_table;
  results = small.results;
}
small_more size more (ShowsRows rows) le small = omega (arith, small)
small_more size more DoesNothing le small = omega (arith, small)
small_more size more (Explains how x) le small = omega (arith, small)

prepares_more : (size more : ℕ) (meant : Result Runnable Cause) (r : Result Prepared Cause) → size ≤ more → Prepares size meant r → Prepares more meant r
prepares_more size more meant (Ok r) le p = (p.0, p.1, p.2, small_more size more p.0 le p.3, p.4)
prepares_more size more meant (Err why) le p = p

-- ---- what stands behind EXPLAIN

explained_ok : (how : Option Explain) (answer : Result Runnable Cause) (x : Runnable) → answer ≡ Ok x → explained how answer ≡ Ok (behind how x)
explained_ok None answer x is = is
explained_ok (Some how) answer x is = ap (explained (Some how)) is

explained_err : (how : Option Explain) (answer : Result Runnable Cause) (why : Cause) → answer ≡ Err why → explained how answer ≡ Err why
explained_err None answer why is = is
explained_err (Some how) answer why is = ap (explained (Some how)) is

-- ---- how a statement was bound

pub bound_to : (asked : Asking) (catalog : Entries) (number : ℕ) (text : List ℕ) (s : Statement) (b : Bound) → Binds asked catalog number text s (Ok b) → BindsTo (size_of_statement s) (plain_bound asked catalog number text s) (Ok b)
unfolding Binds
bound_to asked catalog number text s b binds = binds

pub refused_to : (asked : Asking) (catalog : Entries) (number : ℕ) (text : List ℕ) (s : Statement) (why : Cause) → Binds asked catalog number text s (Err why) → IsRefusal (plain_bound asked catalog number text s) why
unfolding Binds
refused_to asked catalog number text s why binds = binds

-- ---- texts

-- a text whose first token stands there
pub from_first : (asked : Asking) (w : World) (text : List ℕ) (first many : ℕ) (r : Result Prepared Cause) → first ≡ start_of (tokens_of text) 0 → many ≡ length (tokens_of (drop first text)) → Prepares many (text_bound_from asked w first text) r → Prepares (length (tokens_of text)) (text_bound asked w text) r
from_first asked w text first many r at is p =
    let kept : length (tokens_of (drop first text)) ≤ length (tokens_of text) = subst (λ k. length (tokens_of (drop k text)) ≤ length (tokens_of text)) (sym at) (tokens_kept text) in
    prepares_more many (length (tokens_of text)) (text_bound asked w text) r (omega (arith, is, kept)) (subst (λ k. Prepares many (text_bound_from asked w k text) r) at p)

module _ (asked : Asking) (entries : Entries) (lists : Lists) (before : ℕ) (text : List ℕ) where
  abbrev Bounds : Answer Statement → Result Runnable Cause
  Bounds = answer_bound asked (world_in entries lists) before text

  -- the tree of a text, which is no larger than it
  abbrev pub IsTreeOf : Statement → Type 0
  IsTreeOf s = (answer_of text ≡ Tree s) × (size_of_statement s ≤ length (tokens_of text))

  found_in : (x : Answer Statement) → AnswersAs (tokens_of text) x → (s : Statement) → Shows (length text) x (Ok s) → IsTreeOf s
  found_in (Tree tree) answers s is = (read_as_answered (tokens_of text) (Tree tree) answers ∙ ap Tree (sym is), rw is (statement_within (tokens_of text) tree answers))
  found_in (Syntax rest) answers s is = absurd is
  found_in (TooMuch limit rest) answers s is = absurd is

  -- the tree that was parsed is the text's
  pub found : (s : Statement) → ((x : Answer Statement) → AnswersAs (tokens_of text) x → Shows (length text) x (Ok s)) → IsTreeOf s
  found s shows = let a = an_answer (tokens_of text) in found_in a.0 a.1 s (shows a.0 a.1)

  -- where the grammar answers so, the text is bound so
  answered : (x : Answer Statement) (r : Result Runnable Cause) → AnswersAs (tokens_of text) x → Bounds x ≡ r → Bounds (answer_of text) ≡ r
  answered x r answers is = ap Bounds (read_as_answered (tokens_of text) x answers) ∙ is

  failed_in : (x : Answer Statement) → AnswersAs (tokens_of text) x → (f : Failure) → Shows (length text) x (Err f) → IsRefusal (Bounds (answer_of text)) (cause_of before f)
  failed_in x answers failure.Memory is = inl refl
  failed_in (Tree tree) answers (failure.Syntax at) is = absurd is
  failed_in (Tree tree) answers (failure.TooMuch limit at) is = absurd is
  failed_in (Syntax rest) answers (failure.Syntax at) is = inr (answered (Syntax rest) (Err (cause.Syntax (before + at))) answers (ap (λ n. Err (cause.Syntax (before + n))) (sym is)))
  failed_in (Syntax rest) answers (failure.TooMuch limit at) is = absurd is
  failed_in (TooMuch l rest) answers (failure.Syntax at) is = absurd is
  failed_in (TooMuch l rest) answers (failure.TooMuch limit at) is =
      inr (answered (TooMuch l rest) (Err (cause.Limit (limit_kind limit))) answers (ap (λ k. Err (cause.Limit (limit_kind k))) (sym is.0)))

  -- a text that was not parsed has no statement
  pub failed : (f : Failure) (why : Cause) → why ≡ cause_of before f → ((x : Answer Statement) → AnswersAs (tokens_of text) x → Shows (length text) x (Err f)) → IsRefusal (Bounds (answer_of text)) why
  failed f why is shows = let a = an_answer (tokens_of text) in rw is (failed_in a.0 a.1 f (shows a.0 a.1))

  -- a statement that is refused
  pub prepared_refusal : (s : Statement) (why : Cause) → IsTreeOf s → IsRefusal (plain_bound asked entries (length lists) (body_of text) s) why → IsRefusal (Bounds (answer_of text)) why
  prepared_refusal s why is (inl memory) = inl memory
  prepared_refusal s why is (inr refused) = inr (ap Bounds is.0 ∙ explained_err s.explain (plain_bound asked entries (length lists) (body_of text) s) why refused)

  -- a statement that is ready
  pub prepared : (s : Statement) (r : Ready) → IsTreeOf s → Readies (size_of_statement s) (plain_bound asked entries (length lists) (body_of text) s) (Ok r)
      → Prepares (length (tokens_of text)) (Bounds (answer_of text)) (Ok (record { explain = s.explain; ready = r }))
  prepared s r is p =
      let bound : Bounds (answer_of text) ≡ Ok (behind s.explain p.0) = ap Bounds is.0 ∙ explained_ok s.explain (plain_bound asked entries (length lists) (body_of text) s) p.0 p.1 in
      (p.0, bound, p.2, small_more (size_of_statement s) (length (tokens_of text)) p.0 is.1 p.3, p.4)
