-- A SELECT gives as many columns as its results show.
use Rattle.std.proofs.Common.{◌≡◌, ℕ, ◌+◌, Bool, List, [], ◌∷◌, ◌++◌, length, Ok, Err, arith}
use Rattle.std.proofs.Math.ListN.{length-append}
use Rattle.sql_words.specs.Refusals.{◌>>=◌}
use Rattle.sql_bound.specs.Carriers.{CoreParts, ResultParts}
use Rattle.sql_bound.specs.Cores.{clauses_bound, conjuncts_bound, having_bound, is_grouped, keys_bound, scope_of_clause, scope_with, select_bound}
use Rattle.sql_bound.specs.Froms.{Inside, items_found, nothing_found}
use Rattle.sql_bound.specs.Groups.{grouped_checked}
use Rattle.sql_bound.specs.Limits.{room_behind}
use Rattle.sql_bound.specs.Refusals.{Checked}
use Rattle.sql_bound.specs.Results.{ResultScope, ShownResult, column_result, columns_result, name_of_result, nothing_shown, result_column, results_bound, shown_by, shown_in, shown_or_none}
use Rattle.sql_bound.specs.Scopes.{Outer}
use Rattle.sql_bound.specs.declared.froms.Found.{Found}
use Rattle.sql_bound.specs.declared.queries.BoundSelect.{BoundSelect}
use Rattle.sql_bound.specs.declared.queries.Shown.{Shown}
use Rattle.sql_bound.specs.declared.scopes.ResultColumn.{ResultColumn}
use Rattle.sql_bound.specs.declared.scopes.Standing.TheVariants.{Nowhere, Taken}
use Rattle.sql_bound.specs.declared.scopes.Standing.{Standing}
use Rattle.sql_bound.specs.declared.scopes.Work.{Work}
use Rattle.std.proofs.Common.{None}
use Rattle.bound_laws.proofs.Triples.{Gives, gives, past, refuses, seq, weaker}

module _ (s : ResultScope) where
  abbrev HasMore : Shown → ℕ → Shown × Work → Type 0
  HasMore shown n r = length r.0.columns ≡ length shown.columns + n

  one_more : (x : ShownResult) (shown : Shown) (w : Work) → Gives (HasMore shown 1) (column_result s x (shown, w))
  one_more x shown w =
      past (x.bound s.scope w) _ _ (λ a. past (grouped_checked s.grouped s.keys s.own a.0.tree) _ _ (λ u.
      let c : ResultColumn = result_column (name_of_result x a.0) a.0 in
      gives _ _ (omega (arith, length-append shown.columns (c ∷ [])))))

  several_more : (xs : List ShownResult) (shown : Shown) (w : Work) → Gives (HasMore shown (length xs)) (columns_result s xs (shown, w))
  several_more [] shown w = gives _ _ (omega arith)
  several_more (x ∷ xs) shown w =
      past (room_behind shown.trees) _ _ (λ u. seq _ _ _ _ (one_more x shown w) (λ next hn. weaker (HasMore next.0 (length xs)) (HasMore shown (length (x ∷ xs))) (columns_result s xs next) (λ r h. omega (arith, h, hn)) (several_more xs next.0 next.1)))

  results_more : (rs : List ResultParts) (shown : Shown) (w : Work) → Gives (HasMore shown (length (shown_in s.scope.outer.text s.own rs))) (results_bound s rs (shown, w))
  results_more [] shown w = gives _ _ (omega arith)
  results_more (r ∷ rs) shown w = go (shown_by s.scope.outer.text s.own r) (λ next. results_more rs next.0 next.1) where
    go : (m : Checked (List ShownResult)) → ((next : Shown × Work) → Gives (HasMore next.0 (length (shown_in s.scope.outer.text s.own rs))) (results_bound s rs next))
        → Gives (HasMore shown (length (shown_or_none m ++ shown_in s.scope.outer.text s.own rs))) (m >>= λ more. columns_result s more (shown, w) >>= λ next. results_bound s rs next)
    go (Ok more) rest =
        seq _ _ _ _ (several_more more shown w)
        (λ next hn. weaker (HasMore next.0 (length (shown_in s.scope.outer.text s.own rs))) (HasMore shown (length (more ++ shown_in s.scope.outer.text s.own rs))) (results_bound s rs next)
        (λ t h. omega (arith, h, hn, length-append more (shown_in s.scope.outer.text s.own rs))) (rest next))
    go (Err why) rest = refuses _ _

abbrev pub ShowsAll : Outer → CoreParts → BoundSelect × Work → Type 0
ShowsAll o core r = length (shown_in o.text r.0.found.level core.results) ≡ length r.0.shown.columns

clauses_show : (standing : Standing) (o : Outer) (core : CoreParts) (grouped : Bool) (f : Found) (w : Work) → Gives (ShowsAll o core) (clauses_bound standing o core grouped f w)
clauses_show standing o core grouped f w =
    past (conjuncts_bound (scope_of_clause Nowhere f.level o core.results) core.filter w) _ _ (λ c.
    past (keys_bound (scope_of_clause Nowhere f.level o core.results) (shown_in o.text f.level core.results) core.group_by c.1) _ _ (λ k.
    past (having_bound (scope_of_clause standing f.level o core.results) k.0 f.level core.having k.1) _ _ (λ h.
    seq _ _ _ _ (results_more (record { scope = scope_with standing f.level o; own = f.level; grouped = grouped; keys = k.0 }) core.results nothing_shown h.1) (λ r hr. gives _ _ (omega (arith, hr))))))

pub select_shows : (i : Inside) (core : CoreParts) (ordered : Bool) (w : Work) → Gives (ShowsAll i.outer core) (select_bound i core ordered w)
select_shows i core ordered w = past (items_found i None core.from nothing_found w) _ _ (λ f. clauses_show Taken i.outer core (is_grouped i.outer core ordered) f.0 f.1)
