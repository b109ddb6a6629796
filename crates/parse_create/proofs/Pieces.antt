-- What arguments of a module read, in the steps of the code.
use Rattle.std.proofs.Common.{◌≡◌, ℕ, suc, ◌-◌, ◌≤◌, ◌<◌, length, Bool, ◌||◌, true, false, List, [], ◌∷◌, ◌++◌, Option, Some, None, refl, sym, ap, ◌∙◌, arith}
use Rattle.sql_tree.specs.declared.token.Span.{Span}
use Rattle.sql_tree.specs.declared.token.Token.{Token}
use Rattle.sql_tree.specs.declared.token.TokenKind.{TokenKind}
use Rattle.sql_tree.specs.Kinds.{same_kind}
use Rattle.sql_tree.specs.declared.token.TokenKind.TheVariants as kind
use Rattle.sql_grammar.specs.declared.counts.Counts.{Counts}
use Rattle.sql_grammar.specs.declared.counts.Role.TheVariants as role
use Rattle.sql_grammar.specs.Kinds.{all_words, argument_kinds}
use Rattle.sql_grammar.specs.Rules.{Kinds, has, starts, first, before, many, seq, reads, opening, one, Outcome, Done, Stop, ◌>>=◌}
use Rattle.sql_grammar.specs.Grammar.{Name, after, name, names, span_of, balanced, in_brackets, module_arguments}
use Rattle.sql_grammar.specs.Bodies.{rules}
use Rattle.sql_grammar.specs.Definitions.{argument_piece, inner_piece, inner_pieces, text_of, module_argument, arguments_of, all_module_arguments, using_module}
use Rattle.sql_grammar.proofs.ReadingLaws.{chosen, other}
use Rattle.sql_grammar.proofs.Whole.{nest_is, many_is, takes_some}
use Rattle.sql_grammar.proofs.Clear.{clear, rich}
use Rattle.parse_cursor.specs.Items.{items}
use Rattle.parse_cursor.specs.Parts.{any_word}
use Rattle.parse_cursor.proofs.Steps.{both_to, after_to, or_none_some, or_none_none}
use Rattle.parse_create.specs.Arguments.{argument_token, closed, marks, pieces, without_nothing, in_arguments, some_arguments}
use Rattle.parse_create.proofs.Clear.{first_argument_piece, first_inner_piece, argument_piece_clear, argument_piece_solid, argument_pieces_clear, inner_pieces_clear}
use Rattle.parse_create.proofs.Lists.{arguments_clear}
use Rattle.parse_create.proofs.Thens.{then, then_on}

-- ---- tokens

has_append : (ks js : Kinds) (n : TokenKind) → has (ks ++ js) n ≡ (has ks n || has js n)
has_append [] js n = refl
has_append (k ∷ ks) js n = of (same_kind n k) (has_append ks js n) where
  of : (b : Bool) → has (ks ++ js) n ≡ (has ks n || has js n) → (b || has (ks ++ js) n) ≡ ((b || has ks n) || has js n)
  of true h = refl
  of false h = h

starts_append : (ks js : Kinds) (ts : List Token) → starts (ks ++ js) ts ≡ (starts ks ts || starts js ts)
starts_append ks js [] = refl
starts_append ks js (t ∷ ts) = has_append ks js t.kind

-- words stand behind the first of these kinds, or at their end
has_both : (k : TokenKind) (ks js : Kinds) (n : TokenKind) → has (k ∷ (ks ++ js)) n ≡ (has (k ∷ js) n || has ks n)
has_both k ks js n = ap (λ b. same_kind n k || b) (has_append ks js n) ∙ turned (same_kind n k) (has ks n) (has js n) where
  turned : (a b c : Bool) → (a || (b || c)) ≡ ((a || c) || b)
  turned true b c = refl
  turned false true true = refl
  turned false true false = refl
  turned false false true = refl
  turned false false false = refl

abbrev behind_first : Kinds → Kinds
behind_first [] = []
behind_first (k ∷ ks) = ks

has_argument : (n : TokenKind) → has argument_kinds n ≡ (has all_words n || has marks n)
has_argument n = has_both kind.Word marks (behind_first all_words) n

pub token_starts : (ts : List Token) → starts (first argument_token) ts ≡ (starts (first any_word) ts || starts marks ts)
unfolding argument_token any_word
token_starts [] = refl
token_starts (t ∷ ts) = has_argument t.kind

one_alike : (ks js : Kinds) (c : Counts) (t : Token) (ts : List Token) → has ks t.kind ≡ has js t.kind → one role.Outside ks c (t ∷ ts) ≡ one role.Outside js c (t ∷ ts)
one_alike ks js c t ts e = rw e refl

pub token_word : (d : ℕ) (c : Counts) (ts : List Token) → starts (first any_word) ts ≡ true → reads Name rules d argument_token c ts ≡ (reads Name rules d any_word c ts >>= λ t e rest. Done tt e rest)
unfolding argument_token any_word
token_word d c [] here = cc here
token_word d c (t ∷ ts) here =
    let either : (has all_words t.kind || has marks t.kind) ≡ true = rw here refl in
    ap (λ (o : Outcome Token). o >>= λ t e rest. Done tt e rest) (one_alike argument_kinds all_words c t ts (has_argument t.kind ∙ either ∙ sym here))

pub token_mark : (d : ℕ) (c : Counts) (ts : List Token) → starts (first any_word) ts ≡ false → reads Name rules d argument_token c ts ≡ (one role.Outside marks c ts >>= λ t e rest. Done tt e rest)
unfolding argument_token any_word
token_mark d c [] none = refl
token_mark d c (t ∷ ts) none =
    let either : (has all_words t.kind || has marks t.kind) ≡ has marks t.kind = rw none refl in
    ap (λ (o : Outcome Token). o >>= λ t e rest. Done tt e rest) (one_alike argument_kinds marks c t ts (has_argument t.kind ∙ either))

pub ruleset token_steps = (token_word, token_mark)

pub piece_starts : (ts : List Token) → starts (first argument_piece) ts ≡ (starts (first argument_token) ts || starts (kind.LeftParen ∷ []) ts)
piece_starts ts = ap (λ (ks : Kinds). starts ks ts) first_argument_piece ∙ starts_append (first argument_token) (kind.LeftParen ∷ []) ts

inner_starts : (ts : List Token) → starts (first inner_piece) ts ≡ (starts (first argument_piece) ts || starts (kind.Comma ∷ []) ts)
inner_starts ts = ap (λ (ks : Kinds). starts ks ts) first_inner_piece ∙ starts_append (first argument_piece) (kind.Comma ∷ []) ts

-- ---- a piece

pub piece_token : (d : ℕ) (c : Counts) (ts : List Token) → starts (first argument_token) ts ≡ true → reads Name rules d argument_piece c ts ≡ reads Name rules d argument_token c ts
unfolding argument_piece argument_token
piece_token d c ts here = chosen _ _ _ here

pub piece_open : (d : ℕ) (c : Counts) (ts : List Token) → starts (first argument_token) ts ≡ false → reads Name rules d argument_piece c ts ≡ (opening d role.Opening (kind.LeftParen ∷ []) c ts >>= λ t e rest. closed (reads Name rules (d - 1) inner_pieces e rest))
unfolding argument_piece argument_token
piece_open d c ts none = other _ _ _ none ∙ nest_is Name rules role.Opening (kind.LeftParen ∷ []) balanced role.Closing (kind.RightParen ∷ []) d c ts

-- ---- pieces within parentheses

abbrev skip : Outcome (List (Unit {0})) → Outcome (Unit {0})
skip o = o >>= λ xs e end. Done tt e end

skipped_one : (a : Unit {0}) (o : Outcome (List (Unit {0}))) → skip (o >>= λ more e end. Done (a ∷ more) e end) ≡ skip o
skipped_one a (Done more e end) = refl
skipped_one a (Stop w end) = refl

skipped : (o : Outcome (Unit {0})) (f : Unit {0} → Counts → List Token → Outcome (List (Unit {0}))) → skip (o >>= λ a c rest. f a c rest >>= λ more e end. Done (a ∷ more) e end) ≡ (o >>= λ a c rest. skip (f a c rest))
skipped (Done a c rest) f = skipped_one a (f a c rest)
skipped (Stop w rest) f = refl

inner_is : (d : ℕ) (c : Counts) (ts : List Token) → starts (first inner_piece) ts ≡ true → reads Name rules d inner_pieces c ts ≡ (reads Name rules d inner_piece c ts >>= λ a e rest. reads Name rules d inner_pieces e rest)
unfolding inner_pieces
inner_is d c ts here = ap skip (many_is Name rules clear rich inner_piece inner_pieces_clear d c ts ∙ chosen _ _ _ here) ∙ skipped (reads Name rules d inner_piece c ts) (λ a e rest. reads Name rules d (many inner_piece) e rest)

inner_end : (d : ℕ) (c : Counts) (ts : List Token) → starts (first inner_piece) ts ≡ false → reads Name rules d inner_pieces c ts ≡ Done tt c ts
unfolding inner_pieces
inner_end d c ts none = ap skip (many_is Name rules clear rich inner_piece inner_pieces_clear d c ts ∙ other _ _ _ none)

inner_of : (d : ℕ) (c : Counts) (ts : List Token) → starts (first argument_piece) ts ≡ true → reads Name rules d inner_piece c ts ≡ reads Name rules d argument_piece c ts
unfolding inner_piece
inner_of d c ts here = chosen _ _ _ here

inner_comma : (d : ℕ) (c : Counts) (ts : List Token) → starts (first argument_piece) ts ≡ false → reads Name rules d inner_piece c ts ≡ (one role.Outside (kind.Comma ∷ []) c ts >>= λ t e rest. Done tt e rest)
unfolding inner_piece
inner_comma d c ts none = other _ _ _ none

closed_on : (o : Outcome (Unit {0})) (f : Unit {0} → Counts → List Token → Outcome (Unit {0})) → closed (o >>= f) ≡ (o >>= λ a c rest. closed (f a c rest))
closed_on (Done a c rest) f = refl
closed_on (Stop w rest) f = refl

pub within_piece : (d : ℕ) (c : Counts) (ts : List Token) → starts (first argument_piece) ts ≡ true → closed (reads Name rules d inner_pieces c ts) ≡ (reads Name rules d argument_piece c ts >>= λ x e rest. closed (reads Name rules d inner_pieces e rest))
within_piece d c ts here =
    let some : starts (first inner_piece) ts ≡ true = inner_starts ts ∙ ap (λ (b : Bool). b || starts (kind.Comma ∷ []) ts) here in
    ap closed (inner_is d c ts some) ∙ closed_on (reads Name rules d inner_piece c ts) (λ x e rest. reads Name rules d inner_pieces e rest) ∙ ap (λ (o : Outcome (Unit {0})). o >>= λ x e rest. closed (reads Name rules d inner_pieces e rest)) (inner_of d c ts here)

pub within_comma : (d : ℕ) (c : Counts) (ts : List Token) → starts (first argument_piece) ts ≡ false → starts (kind.Comma ∷ []) ts ≡ true
    → closed (reads Name rules d inner_pieces c ts) ≡ (one role.Outside (kind.Comma ∷ []) c ts >>= λ t e rest. closed (reads Name rules d inner_pieces e rest))
within_comma d c ts none here =
    let some : starts (first inner_piece) ts ≡ true = inner_starts ts ∙ ap (λ (b : Bool). b || starts (kind.Comma ∷ []) ts) none ∙ here in
    ap closed (inner_is d c ts some) ∙ closed_on (reads Name rules d inner_piece c ts) (λ x e rest. reads Name rules d inner_pieces e rest)
    ∙ ap (λ (o : Outcome (Unit {0})). o >>= λ x e rest. closed (reads Name rules d inner_pieces e rest)) (inner_comma d c ts none) ∙ then_on (one role.Outside (kind.Comma ∷ []) c ts) (λ t e rest. Done tt e rest) (λ x e rest. closed (reads Name rules d inner_pieces e rest))

pub within_end : (d : ℕ) (c : Counts) (ts : List Token) → starts (first argument_piece) ts ≡ false → starts (kind.Comma ∷ []) ts ≡ false
    → closed (reads Name rules d inner_pieces c ts) ≡ (one role.Closing (kind.RightParen ∷ []) c ts >>= λ z e end. Done tt e end)
within_end d c ts none nor =
    let neither : starts (first inner_piece) ts ≡ false = inner_starts ts ∙ ap (λ (b : Bool). b || starts (kind.Comma ∷ []) ts) none ∙ nor in
    ap closed (inner_end d c ts neither)

pub piece_shorter : (d : ℕ) (c e : Counts) (ts rest : List Token) (a : Unit {0}) → reads Name rules d argument_piece c ts ≡ Done a e rest → length rest < length ts
piece_shorter d c e ts rest a is = takes_some Name rules clear rich argument_piece argument_piece_clear argument_piece_solid d c e ts rest a is

pub ruleset piece_steps = (piece_token, piece_open, within_piece, within_comma, within_end)

-- ---- pieces of an argument

pub pieces_next : (d : ℕ) (c : Counts) (ts : List Token) → starts (first argument_piece) ts ≡ true → reads Name rules d pieces c ts ≡ (reads Name rules d argument_piece c ts >>= λ a e rest. reads Name rules d pieces e rest)
unfolding pieces
pieces_next d c ts here = ap skip (many_is Name rules clear rich argument_piece argument_pieces_clear d c ts ∙ chosen _ _ _ here) ∙ skipped (reads Name rules d argument_piece c ts) (λ a e rest. reads Name rules d (many argument_piece) e rest)

pub pieces_end : (d : ℕ) (c : Counts) (ts : List Token) → starts (first argument_piece) ts ≡ false → reads Name rules d pieces c ts ≡ Done tt c ts
unfolding pieces
pieces_end d c ts none = ap skip (many_is Name rules clear rich argument_piece argument_pieces_clear d c ts ∙ other _ _ _ none)

pub ruleset pieces_steps = (pieces_next, pieces_end)

-- ---- the text of an argument

pub no_text : (ts rest : List Token) → length ts ≤ length rest → text_of (before ts rest) ≡ None
no_text ts rest few = let n : length ts - length rest ≡ 0 = omega (arith, few) in rw n refl

pub some_text : (ts rest : List Token) → length rest < length ts → text_of (before ts rest) ≡ Some (span_of (before ts rest))
some_text [] rest some = absurd (omega (arith, some))
some_text (t ∷ ts) rest some = let n : length (t ∷ ts) - length rest ≡ suc (length ts - length rest) = omega (arith, some) in rw n refl

pub ruleset texts = (no_text, some_text)

abbrev text_behind : List Token → Outcome (List (Unit {0})) → Outcome (Option Span)
text_behind ts o = o >>= λ xs e rest. Done (text_of (before ts rest)) e rest

text_skipped : (ts : List Token) (o : Outcome (List (Unit {0}))) → text_behind ts o ≡ (skip o >>= λ a e rest. Done (text_of (before ts rest)) e rest)
text_skipped ts (Done xs e rest) = refl
text_skipped ts (Stop w rest) = refl

pub module_argument_is : (d : ℕ) (c : Counts) (ts : List Token) → reads Name rules d module_argument c ts ≡ (reads Name rules d pieces c ts >>= λ a e rest. Done (text_of (before ts rest)) e rest)
unfolding module_argument pieces
module_argument_is d c ts = text_skipped ts (reads Name rules d (many argument_piece) c ts)

-- ---- arguments

trimmed : (a : Option Span) (more : List (Option Span)) → arguments_of (a, more) ≡ without_nothing (a ∷ more)
trimmed None [] = refl
trimmed None (a ∷ more) = refl
trimmed (Some a) more = refl

pub all_arguments_is : (d : ℕ) (c : Counts) (ts : List Token) → reads Name rules d all_module_arguments c ts ≡ (reads Name rules d (items module_argument) c ts >>= λ found e rest. Done (without_nothing found) e rest)
unfolding all_module_arguments items
all_arguments_is d c ts =
    both_to (reads Name rules d module_argument) (reads Name rules d (many (after role.Outside kind.Comma module_argument))) arguments_of c ts
    ∙ then (reads Name rules d module_argument c ts) _ _ (λ a e rest. then (reads Name rules d (many (after role.Outside kind.Comma module_argument)) e rest) _ _ (λ more f end. ap (λ (l : List (Option Span)). Done l f end) (trimmed a more)))
    ∙ sym (both_to (reads Name rules d module_argument) (reads Name rules d (many (after role.Outside kind.Comma module_argument))) (λ p. without_nothing (p.0 ∷ p.1)) c ts)
    ∙ sym (at_list (reads Name rules d (seq module_argument (many (after role.Outside kind.Comma module_argument))) c ts)) where
      at_list : (o : Outcome (Option Span × List (Option Span))) → ((o >>= λ p e rest. Done (p.0 ∷ p.1) e rest) >>= λ found e rest. Done (without_nothing found) e rest) ≡ (o >>= λ p e rest. Done (without_nothing (p.0 ∷ p.1)) e rest)
      at_list (Done p e rest) = refl
      at_list (Stop w rest) = refl

pub ruleset all_arguments_steps = (all_arguments_is, arguments_clear)

pub in_arguments_is : (d : ℕ) (c : Counts) (ts : List Token) → reads Name rules d in_arguments c ts ≡ (opening d role.Opening (kind.LeftParen ∷ []) c ts >>= λ t e rest. reads Name rules (d - 1) all_module_arguments e rest >>= λ a f mid. one role.Closing (kind.RightParen ∷ []) f mid >>= λ z g end. Done a g end)
unfolding in_arguments
in_arguments_is d c ts = nest_is Name rules role.Opening (kind.LeftParen ∷ []) module_arguments role.Closing (kind.RightParen ∷ []) d c ts

pub arguments_given : (d : ℕ) (c : Counts) (ts : List Token) → starts (kind.LeftParen ∷ []) ts ≡ true → reads Name rules d some_arguments c ts ≡ reads Name rules d in_arguments c ts
unfolding some_arguments in_arguments
arguments_given d c ts here = or_none_some (in_brackets module_arguments) d c ts here

pub arguments_missing : (d : ℕ) (c : Counts) (ts : List Token) → starts (kind.LeftParen ∷ []) ts ≡ false → reads Name rules d some_arguments c ts ≡ Done [] c ts
unfolding some_arguments
arguments_missing d c ts none = or_none_none (in_brackets module_arguments) d c ts none

pub ruleset given_arguments = (arguments_given, arguments_missing)

pub using_module_is : (d : ℕ) (c : Counts) (ts : List Token) → reads Name rules d using_module c ts ≡ (one role.Outside (kind.Using ∷ []) c ts >>= λ t e rest. one role.Quiet names e rest >>= λ n f mid. reads Name rules d some_arguments f mid >>= λ a g end. Done (record { module_name = n; arguments = a }) g end)
unfolding using_module some_arguments
using_module_is d c ts =
    after_to (λ p. record { module_name = p.0; arguments = p.1 }) role.Outside kind.Using (seq name some_arguments) d c ts
    ∙ then (one role.Outside (kind.Using ∷ []) c ts) _ _ (λ t e rest. both_to (one role.Quiet names) (reads Name rules d some_arguments) (λ p. record { module_name = p.0; arguments = p.1 }) e rest)
