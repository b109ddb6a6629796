-- Results, GROUP BY and ORDER BY, as functions of their own bind them.
use Rattle.std.proofs.Common.{◌≡◌, ℕ, Bool, IfOk, rules, List, [], ◌∷◌, map, slice_get, Option, Some, None, Result, Ok, Err, inl, inr, ap, sym, ◌∙◌, refl}
use Rattle.std.specs.Option.{option_map}
use Rattle.eng_value.specs.declared.cause.Cause.{Cause}
use Rattle.eng_value.specs.declared.cause.Cause.TheVariants.{Unknown}
use Rattle.eng_value.specs.declared.cause.NameKind.TheVariants as kind
use Rattle.sql_tree.specs.declared.expr.Expr.{Expr, the_lemmas}
use Rattle.sql_tree.specs.declared.query.OrderingTerm.{OrderingTerm, out-OrderingTerm}
use Rattle.sql_tree.specs.declared.query.ResultColumn.TheVariants as column
use Rattle.sql_tree.specs.declared.query.ResultColumn.{ResultColumn as Written}
use Rattle.sql_tree.specs.declared.query.SpannedExpr.{SpannedExpr, out-SpannedExpr}
use Rattle.sql_tree.specs.declared.token.Span.{Span}
use Rattle.sql_tree.specs.declared.token.Token.{Token}
use Rattle.sql_words.specs.Refusals.{◌>>=◌}
use Rattle.sql_words.specs.Spelled.{literal_at, name_at}
use Rattle.bound_tree.specs.Exprs.{BoundExpr}
use Rattle.bound_tree.specs.declared.units.BoundKey.{BoundKey}
use Rattle.bound_tree.specs.declared.units.BoundTerm.{BoundTerm}
use Rattle.sql_bound.specs.Answers.{Answers, Comes, Goes, OnlyMem, Refuses}
use Rattle.sql_bound.specs.Carriers.{Binding, Expression, Name, Number, Other, SpannedExpression, Term, TermParts}
use Rattle.sql_bound.specs.Cores.{by_number as key_by_number, by_term as key_by_term, key_of, keys_bound, numbered, scope_with}
use Rattle.sql_bound.specs.Groups.{grouped_checked}
use Rattle.sql_bound.specs.Limits.{room_behind}
use Rattle.sql_bound.specs.Operands.{column_operand}
use Rattle.sql_bound.specs.Orders.{by_alias, by_number, by_result, by_term, expression_term, numbered_term, place_given, terms_of_select, with_work}
use Rattle.sql_bound.specs.Refusals.{Checked}
use Rattle.sql_bound.specs.Results.{ResultScope, ShownResult, at_place, column_result, column_shown, columns_result, one_shown, place_named, shown_in, text_of, with_result}
use Rattle.sql_bound.specs.Scopes.{Answer, Level, Outer, Scope}
use Rattle.sql_bound.specs.Trees.{of_expr, of_result, of_spanned, of_term}
use Rattle.sql_bound.specs.declared.queries.BoundSelect.{BoundSelect}
use Rattle.sql_bound.specs.declared.queries.Shown.{Shown}
use Rattle.sql_bound.specs.declared.scopes.Operand.{Operand}
use Rattle.sql_bound.specs.declared.scopes.ResultColumn.{ResultColumn}
use Rattle.sql_bound.specs.declared.scopes.ScopeColumn.{ScopeColumn}
use Rattle.sql_bound.specs.declared.scopes.Standing.TheVariants.{Taken}
use Rattle.sql_bound.specs.declared.scopes.WithEntry.{WithEntry}
use Rattle.sql_bound.specs.declared.scopes.Work.{Work}
use Rattle.bind_column.proofs.StarLaws.{all_shown-is, shown_of-is}
use Rattle.bind_column.specs.Stars.{all_of, those_of}
use Rattle.bind_result.proofs.NumberLaws.{result-All, result-AllOf, result-Expression, spanned_expr}
use Rattle.bind_result.specs.Numbers.{binding_of, bound_of, column_binding}
use Rattle.bind_result.specs.declared.numbering.ShownAt.{ShownAt}
use Rattle.bind_result.specs.declared.numbering.ShownAt.TheVariants as placed
use Rattle.bind_result.specs.Shows.{Changes, columns_put, one_put, star_put}
use Rattle.bind_result.specs.Terms.{named_place, numbered_place, place_meant, place_there, select_place, term_checked}
use Rattle.bind_result.specs.declared.orders.TermPlace.TheVariants.{At, Nowhere, Else}
use Rattle.bind_result.specs.declared.orders.TermPlace.{TermPlace}
use Rattle.bind_query.specs.Results.{key_bound, one_met, result_met, result_scope, term_bound, term_by, term_by_expression}
use Rattle.bind_query.specs.Scopes.{Levels, clause, outer_of, own_of, scope_of, without_results}
use Rattle.bind_query.specs.Where.{Where}
use Rattle.bind_query.proofs.AnswerLaws.{beside, comes-beside, kept, one-beside}
use Rattle.bind_with.proofs.AnswerLaws.{comes-by, comes-made, comes-refuses}
use Rattle.bind_query.specs.Turns.{in_turn}
use Rattle.bind_query.proofs.TurnedLaws.{in_front, turned}

-- ---- what changes alone

pub goes-by : {S : Type 0} (whole : Answer S) (meant : Checked S) (r : Result (Unit {0}) Cause) (new : S) (w : Work) → whole ≡ beside w meant → Changes meant r new → Goes whole r new w
goes-by whole meant (Ok done) new w is h = is ∙ ap (beside w) h
goes-by whole meant (Err why) new w is (inl mem) = inl mem
goes-by whole meant (Err why) new w is (inr same) = inr (is ∙ ap (beside w) same)

-- ---- stars

module _ (s : ResultScope) (w : Work) where
  star-next : (cs : List ScopeColumn) (rest : List ShownResult) (room grouped : Checked (Unit {0})) (shown : Shown)
      → ((next : Shown) → columns_result s rest (next, w) ≡ (columns_put s.grouped s.keys s.own cs next >>= λ all. kept w all))
      → (room >>= λ u. (grouped >>= λ u. kept w shown) >>= λ next. columns_result s rest next)
      ≡ (((room >>= λ u. grouped >>= λ u. Ok shown) >>= λ next. columns_put s.grouped s.keys s.own cs next) >>= λ all. kept w all)
  star-next cs rest (Err why) grouped shown h = refl
  star-next cs rest (Ok u) (Err why) shown h = refl
  star-next cs rest (Ok u) (Ok v) shown h = h shown

  star-columns : (cs : List ScopeColumn) (shown : Shown) → columns_result s (map column_shown cs) (shown, w) ≡ (columns_put s.grouped s.keys s.own cs shown >>= λ all. kept w all)
  star-columns [] shown = refl
  star-columns (c ∷ cs) shown =
      star-next cs (map column_shown cs) (room_behind shown.trees) (grouped_checked s.grouped s.keys s.own c.tree) (with_result (column_shown c) (column_operand c c.tree) shown)
      (star-columns cs)

  star-checked : (cs : Checked (List ScopeColumn)) (shown : Shown)
      → ((cs >>= λ xs. Ok (map column_shown xs)) >>= λ more. columns_result s more (shown, w)) ≡ ((cs >>= λ xs. columns_put s.grouped s.keys s.own xs shown) >>= λ all. kept w all)
  star-checked (Err why) shown = refl
  star-checked (Ok cs) shown = star-columns cs shown

  pub met-All : (shown : Shown) → result_met s (of_result column.All) (shown, w) ≡ ((all_of s.own >>= λ xs. columns_put s.grouped s.keys s.own xs shown) >>= λ all. kept w all)
  met-All shown = rw (result-All, all_shown-is s.own) (star-checked (all_of s.own) shown)

  pub met-AllOf : (t : Token) (shown : Shown)
      → result_met s (of_result (column.AllOf t)) (shown, w) ≡ ((those_of (name_at s.scope.outer.text t) s.own >>= λ xs. columns_put s.grouped s.keys s.own xs shown) >>= λ all. kept w all)
  met-AllOf t shown = rw (result-AllOf t, shown_of-is (name_at s.scope.outer.text t) s.own) (star-checked (those_of (name_at s.scope.outer.text t) s.own) shown)

-- ---- an expression

bind-ok : {A : Type 0} (r : Checked A) → (r >>= λ a. Ok a) ≡ r
bind-ok (Ok a) = refl
bind-ok (Err why) = refl

one-alone : (s : ResultScope) (r : ShownResult) (so_far : Shown × Work) (room : Checked (Unit {0})) (a : Answer Shown)
    → (room >>= λ u. a >>= λ next. Ok next) ≡ (room >>= λ u. a)
one-alone s r so_far (Err why) a = refl
one-alone s r so_far (Ok u) a = bind-ok a

pub met-Expression : (s : ResultScope) (x : SpannedExpr) (alias : Option Token) (so_far : Shown × Work)
    → result_met s (of_result (column.Expression x alias)) so_far ≡ one_met s (one_shown s.scope.outer.text (of_spanned x) alias) so_far
met-Expression s x alias so_far =
    rw (result-Expression x alias)
    (one-alone s (one_shown s.scope.outer.text (of_spanned x) alias) so_far (room_behind so_far.0.trees) (column_result s (one_shown s.scope.outer.text (of_spanned x) alias) so_far))

-- ---- a result, over the FROM that code has

module _ (s : Scope) (ls : Levels) (own : Level) (grouped : Bool) (keys : List BoundKey) (shown new : Shown) (w : Work) (r : Result (Unit {0}) Cause) (is : own ≡ own_of ls) where
  pub all-goes : Changes (star_put grouped keys own (all_of own) shown) r new → Goes (result_met (result_scope s (own_of ls) grouped keys) (of_result column.All) (shown, w)) r new w
  all-goes h =
      goes-by (result_met (result_scope s (own_of ls) grouped keys) (of_result column.All) (shown, w)) (star_put grouped keys (own_of ls) (all_of (own_of ls)) shown) r new w
      (met-All (result_scope s (own_of ls) grouped keys) w shown) (rw is at h)

  pub table-goes : (text : List ℕ) (t : Token) → text ≡ s.outer.text → Changes (star_put grouped keys own (those_of (name_at text t) own) shown) r new
      → Goes (result_met (result_scope s (own_of ls) grouped keys) (of_result (column.AllOf t)) (shown, w)) r new w
  table-goes text t same h =
      goes-by (result_met (result_scope s (own_of ls) grouped keys) (of_result (column.AllOf t)) (shown, w)) (star_put grouped keys (own_of ls) (those_of (name_at s.outer.text t) (own_of ls)) shown) r new w
      (met-AllOf (result_scope s (own_of ls) grouped keys) w t shown) (rw (is, same) at h)

  pub shown-goes : (text : List ℕ) (trees : List BoundExpr) (x : SpannedExpr) (alias : Option Token) (a : Operand) (first : Work) → text ≡ s.outer.text → trees ≡ shown.trees → room_behind trees ≡ Ok tt
      → (of_expr (out-SpannedExpr x).expr).bound s first ≡ Ok (a, w) → Changes (one_put grouped keys own (one_shown text (of_spanned x) alias) a shown) r new
      → Goes (one_met (result_scope s (own_of ls) grouped keys) (one_shown s.outer.text (of_spanned x) alias) (shown, first)) r new w
  shown-goes text trees x alias a first same there room bound h =
      goes-by (one_met (result_scope s (own_of ls) grouped keys) (one_shown s.outer.text (of_spanned x) alias) (shown, first)) (one_put grouped keys (own_of ls) (one_shown s.outer.text (of_spanned x) alias) a shown) r new w
      (rw (rw there at room, spanned_expr x, bound) (one-beside w (grouped_checked grouped keys (own_of ls) a.tree) (with_result (one_shown s.outer.text (of_spanned x) alias) a shown)))
      (rw (is, same) at h)

module _ (s : ResultScope) (x : SpannedExpr) (alias : Option Token) (shown : Shown) (w : Work) (why : Cause) (trees : List BoundExpr) (there : trees ≡ shown.trees) where
  pub shown-full : room_behind trees ≡ Err why → one_met s (one_shown s.scope.outer.text (of_spanned x) alias) (shown, w) ≡ Err why
  shown-full room = rw (rw there at room) refl

  pub shown-refused : room_behind trees ≡ Ok tt → (of_expr (out-SpannedExpr x).expr).bound s.scope w ≡ Err why → one_met s (one_shown s.scope.outer.text (of_spanned x) alias) (shown, w) ≡ Err why
  shown-refused room bound = rw (rw there at room, spanned_expr x, bound) refl

-- ---- GROUP BY

spanned_text : (x : SpannedExpr) → (of_spanned x).text ≡ (out-SpannedExpr x).text
spanned_text x = search (rules, the_lemmas)

pub key-by : (s : Scope) (shown : List ShownResult) (x : SpannedExpression) (term : Term) (w : Work) → key_by_term s shown x term w ≡ key_by_number s shown x (place_meant s.outer.text term) w
key-by s shown x (Number t) w = refl
key-by s shown x (Name t) w = refl
key-by s shown x Other w = refl

module _ (s : Scope) (shown : List ShownResult) (x : SpannedExpr) (w : Work) where
  key-placed : (place : Option (Option ℕ)) → place_meant s.outer.text (of_expr (out-SpannedExpr x).expr).term ≡ place
      → key_by_term s shown (of_spanned x) (of_spanned x).expr.term w ≡ key_by_number s shown (of_spanned x) place w
  key-placed place is =
      key-by s shown (of_spanned x) (of_spanned x).expr.term w
      ∙ ap (λ (e : Expression). key_by_number s shown (of_spanned x) (place_meant s.outer.text e.term) w) (spanned_expr x)
      ∙ ap (λ (p : Option (Option ℕ)). key_by_number s shown (of_spanned x) p w) is

  pub key-numbered : (text : List ℕ) (place : Option ℕ) → text ≡ s.outer.text → place_meant text (of_expr (out-SpannedExpr x).expr).term ≡ Some place
      → key_by_term s shown (of_spanned x) (of_spanned x).expr.term w ≡ numbered s (text_of s.outer.text (out-SpannedExpr x).text) (at_place shown place) w
  key-numbered text place same is = key-placed (Some place) (rw same at is) ∙ ap (λ (t : Span). numbered s (text_of s.outer.text t) (at_place shown place) w) (spanned_text x)

  pub key-expression : (text : List ℕ) → text ≡ s.outer.text → place_meant text (of_expr (out-SpannedExpr x).expr).term ≡ None → key_by_term s shown (of_spanned x) (of_spanned x).expr.term w ≡ (of_expr (out-SpannedExpr x).expr).bound s w
  key-expression text same is = key-placed None (rw same at is) ∙ ap (λ (e : Expression). e.bound s w) (spanned_expr x)

abbrev pub numbered_by : Scope → List ℕ → Option Binding → Work → Answer Operand
numbered_by s text None w = Err (Unknown kind.Column text)
numbered_by s text (Some b) w = b (record s { aliases = [] }) w

numbered-bound : (s : Scope) (text : List ℕ) (r : Option ShownResult) (w : Work) → numbered s text r w ≡ numbered_by s text (option_map bound_of r) w
numbered-bound s text None w = refl
numbered-bound s text (Some r) w = refl

module _ (w : Where) (ls : Levels) (ts : List WithEntry) (text : List ℕ) (place : Option ℕ) (work : Work) (at : ShownAt) (own : Level) (is : own ≡ own_of ls)
    (here : List ℕ) (rs : List Written) (of_text : here ≡ w.text) (of_results : rs ≡ w.results) (seen : binding_of at ≡ option_map bound_of (at_place (shown_in here own (map of_result rs)) place)) where
  there : binding_of at ≡ option_map bound_of (at_place (shown_in w.text own (map of_result w.results)) place)
  there = rw (of_text, of_results) at seen

  abbrev whole : Answer Operand
  whole = numbered (scope_of w ls ts) text (at_place (shown_in w.text (own_of ls) (map of_result w.results)) place) work

  numbered-at : (o : Option Binding) → binding_of at ≡ o → whole ≡ numbered_by (scope_of w ls ts) text o work
  numbered-at o same =
      numbered-bound (scope_of w ls ts) text (at_place (shown_in w.text (own_of ls) (map of_result w.results)) place) work
      ∙ ap (λ (l : Level). numbered_by (scope_of w ls ts) text (option_map bound_of (at_place (shown_in w.text l (map of_result w.results)) place)) work) (sym is)
      ∙ ap (λ (b : Option Binding). numbered_by (scope_of w ls ts) text b work) (sym there ∙ same)

  pub numbered-column : (c : ScopeColumn) (a : Operand) → at ≡ placed.Column c → a ≡ column_operand c c.tree → whole ≡ Ok (a, work)
  numbered-column c a same made = numbered-at (Some (column_binding c)) (ap binding_of same) ∙ ap (kept work) (sym made)

  pub numbered-expr : (e : Expr) (p : Where) (r : Result Operand Cause) (new : Work) → binding_of at ≡ Some (of_expr e).bound → p ≡ without_results w
      → Comes ((of_expr e).bound (scope_of p ls ts) work) r new → Comes whole r new
  numbered-expr e p r new same plain h =
      comes-by whole ((of_expr e).bound (scope_of p ls ts) work) r new (numbered-at (Some (of_expr e).bound) same ∙ ap (λ (q : Where). (of_expr e).bound (scope_of q ls ts) work) (sym plain)) h

  pub numbered-nothing : (r : Result Operand Cause) (span : Span) (other : List ℕ) → text ≡ text_of w.text span → other ≡ w.text → at ≡ placed.Nothing → Refuses (Unknown kind.Column (text_of other span)) r → Comes whole r work
  numbered-nothing r span other as_text as_other same g =
      let h : Refuses (Unknown kind.Column text) r = rw (as_text, ← as_other) g in comes-by whole (Err (Unknown kind.Column text)) r work (numbered-at None (ap binding_of same)) (comes-refuses (Unknown kind.Column text) r work h)

abbrev keyed : Operand × Work → Answer BoundKey
keyed a = Ok (key_of a.0, a.1)

module _ (s : Scope) (shown : List ShownResult) where
  key-next : (xs : List SpannedExpression) (r : Answer Operand)
      → (r >>= λ a. keys_bound s shown xs a.1 >>= λ more. in_front (key_of a.0) more)
      ≡ ((r >>= λ a. keyed a) >>= λ k. keys_bound s shown xs k.1 >>= λ more. in_front k.0 more)
  key-next xs (Err why) = refl
  key-next xs (Ok a) = refl

  pub keys-turn : (xs : List SpannedExpression) (w : Work) → keys_bound s shown xs w ≡ in_turn (key_bound s shown) xs [] w
  keys-turn = turned (key_bound s shown) (keys_bound s shown) (λ w. refl) (λ x xs w. key-next xs (key_by_term s shown x x.expr.term w))

-- ---- ORDER BY

module _ (s : BoundSelect) (o : Outer) (t : TermParts) (w : Work) where
  term-there : (c : Option ResultColumn) (place : ℕ) → with_work w (numbered_term o.text t s.shown.columns c (Some place)) ≡ term_by s (scope_with Taken s.found.level o) t (place_there c place) w
  term-there None place = refl
  term-there (Some c) place = refl

  term-number : (place : Option (Option ℕ)) → by_number s o t place w ≡ term_by s (scope_with Taken s.found.level o) t (numbered_place s.shown.columns place) w
  term-number None = refl
  term-number (Some None) = refl
  term-number (Some (Some place)) = term-there (slice_get s.shown.columns place) place

  term-name : (place : Option ℕ) → by_alias s o t place w ≡ term_by s (scope_with Taken s.found.level o) t (named_place Else place) w
  term-name None = refl
  term-name (Some place) = refl

  pub term-by : (results : List ShownResult) (term : Term) → by_term s o results t term w ≡ term_by s (scope_with Taken s.found.level o) t (select_place o.text s.shown.columns results term) w
  term-by results (Number n) = term-number (place_named (literal_at o.text n))
  term-by results (Name n) = term-name (place_given (name_at o.text n) results)
  term-by results Other = refl

pub terms-turn : (s : BoundSelect) (o : Outer) (results : List ShownResult) (ts : List TermParts) (w : Work)
    → terms_of_select s o results ts w ≡ in_turn (term_bound s (scope_with Taken s.found.level o) results) ts [] w
terms-turn s o results =
    turned (term_bound s (scope_with Taken s.found.level o) results) (terms_of_select s o results) (λ w. refl)
    (λ t ts w. ap (λ (r : Answer BoundTerm). r >>= λ a. terms_of_select s o results ts a.1 >>= λ more. in_front a.0 more) (term-by s o t w results t.key.expr.term))

term-expr : (x : OrderingTerm) → (of_term x).key.expr ≡ of_expr (out-SpannedExpr (out-OrderingTerm x).key).expr
term-expr x = search (rules, the_lemmas)

term-text : (x : OrderingTerm) → (of_term x).key.text ≡ (out-SpannedExpr (out-OrderingTerm x).key).text
term-text x = search (rules, the_lemmas)

-- over the FROM of the SELECT
pub order-by : (s : BoundSelect) (w p : Where) (ls all : Levels) (ts : List WithEntry) (own : Level) (results : List Written) (order : List TermParts) (work : Work) → own ≡ s.found.level → all ≡ own ∷ ls → p ≡ clause Taken [] w
    → terms_of_select s (outer_of w ls ts) (shown_in w.text s.found.level (map of_result results)) order work
    ≡ in_turn (term_bound s (scope_of p all ts) (shown_in p.text s.found.level (map of_result results))) order [] work
order-by s w p ls all ts own results order work here front is = rw (is, front, here) (terms-turn s (outer_of w ls ts) (shown_in w.text s.found.level (map of_result results)) order work)

module _ (s : BoundSelect) (sc : Scope) (rs : List Written) (x : OrderingTerm) (w : Work) (place : TermPlace) (text : List ℕ) (columns : List ResultColumn) (own : Level)
    (of_text : text ≡ sc.outer.text) (of_columns : columns ≡ s.shown.columns) (of_own : own ≡ s.found.level)
    (there : place ≡ select_place text columns (shown_in text own (map of_result rs)) (of_expr (out-SpannedExpr (out-OrderingTerm x).key).expr).term) where
  abbrev meant : Answer BoundTerm
  meant = term_bound s sc (shown_in sc.outer.text s.found.level (map of_result rs)) (of_term x) w

  term-placed : (p : TermPlace) → place ≡ p → meant ≡ term_by s sc (of_term x) p w
  term-placed p is =
      ap (λ (e : Expression). term_by s sc (of_term x) (select_place sc.outer.text s.shown.columns (shown_in sc.outer.text s.found.level (map of_result rs)) e.term) w) (term-expr x)
      ∙ ap (λ (q : TermPlace). term_by s sc (of_term x) q w) (sym (rw (of_text, of_columns, of_own) at there) ∙ is)

  pub term-at : (n : ℕ) (cs : List ResultColumn) (r : Result BoundTerm Cause) → place ≡ At n → cs ≡ s.shown.columns → IfOk r (λ t. t ≡ by_result (of_term x) cs n) → OnlyMem r → Comes meant r w
  term-at n cs r is same made mem = comes-made meant (by_result (of_term x) s.shown.columns n) r w (term-placed (At n) is) (rw same at made) mem

  pub term-nowhere : (other : List ℕ) (r : Result BoundTerm Cause) → place ≡ Nowhere → other ≡ sc.outer.text → Refuses (Unknown kind.Column (text_of other (out-SpannedExpr (out-OrderingTerm x).key).text)) r → Comes meant r w
  term-nowhere other r is same h =
      comes-by meant (Err (Unknown kind.Column (text_of sc.outer.text (out-SpannedExpr (out-OrderingTerm x).key).text))) r w
      (term-placed Nowhere is ∙ ap (λ (t : Span). Err (Unknown kind.Column (text_of sc.outer.text t))) (term-text x))
      (comes-refuses (Unknown kind.Column (text_of sc.outer.text (out-SpannedExpr (out-OrderingTerm x).key).text)) r w (rw same at h))

  pub term-else : (r : Result BoundTerm Cause) (new : Work) → place ≡ Else → Comes (term_by_expression s sc (of_term x) w) r new → Comes meant r new
  term-else r new is h = comes-by meant (term_by_expression s sc (of_term x) w) r new (term-placed Else is) h

module _ (s : BoundSelect) (sc : Scope) (x : OrderingTerm) (w : Work) where
  pub expression-refused : (why : Cause) → (of_expr (out-SpannedExpr (out-OrderingTerm x).key).expr).bound sc w ≡ Err why → term_by_expression s sc (of_term x) w ≡ Err why
  expression-refused why bound = rw (term-expr x, bound) refl

  pub expression-comes : (a : Operand) (v : Work) (r : Result BoundTerm Cause) → (of_expr (out-SpannedExpr (out-OrderingTerm x).key).expr).bound sc w ≡ Ok (a, v)
      → Answers (term_checked s (of_term x) a) r → Comes (term_by_expression s sc (of_term x) w) r v
  expression-comes a v r bound h =
      comes-beside (term_by_expression s sc (of_term x) w) v (term_checked s (of_term x) a) r
      (rw (term-expr x, bound) (one-beside v (grouped_checked s.grouped s.keys s.found.level a.tree) (expression_term (of_term x) a))) h
