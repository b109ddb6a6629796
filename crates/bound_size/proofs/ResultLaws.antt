-- What results show: each expression is as large as it is written, but for the factor, and each column of a `*` is one node.
use Rattle.std.proofs.Common.{◌≡◌, ◌≤◌, ℕ, zero, suc, ◌+◌, ◌*◌, Bool, true, false, cond, filter, List, [], ◌∷◌, ◌++◌, length, map, Ok, refl, sym, ap, subst, ◌∙◌, arith, length-append}
use Rattle.std.proofs.lemmas.List.{length-map}
use Rattle.std.specs.List.{AllByRecursion, flat_map, list_all, list_any}
use Rattle.eng_value.specs.declared.cause.Cause.TheVariants.{Unknown}
use Rattle.eng_value.specs.declared.cause.NameKind.TheVariants as kind
use Rattle.sql_tree.specs.Layers.{ResultLayer}
use Rattle.sql_tree.specs.Sizes.{result_size, size_of, size_of_result, total}
use Rattle.sql_tree.specs.declared.expr.Expr.TheOpen.{ResultColumn-F}
use Rattle.sql_tree.specs.declared.query.ResultColumn.{ResultColumn, out-ResultColumn}
use Rattle.sql_words.specs.Refusals.{◌>>=◌}
use Rattle.sql_words.specs.Spelled.{name_at}
use Rattle.sql_bound.proofs.LimitLaws.{results_kept}
use Rattle.sql_bound.specs.Carriers.{ResultParts}
use Rattle.sql_bound.specs.Groups.{grouped_checked}
use Rattle.sql_bound.specs.Limits.{room_behind}
use Rattle.sql_bound.specs.Operands.{column_operand}
use Rattle.sql_bound.specs.Results.{ResultScope, ShownResult, all_shown, column_result, column_shown, columns_of_item, columns_result, is_shown_bare, nothing_shown, one_shown, results_bound, shown_by, shown_of, with_result}
use Rattle.sql_bound.specs.Scopes.{Level, is_called, is_shown}
use Rattle.sql_bound.specs.Trees.{of_expr, of_result}
use Rattle.sql_bound.specs.declared.queries.Shown.{Shown}
use Rattle.sql_bound.specs.declared.scopes.Operand.{Operand}
use Rattle.sql_bound.specs.declared.scopes.ScopeColumn.{ScopeColumn}
use Rattle.sql_bound.specs.declared.scopes.ScopeItem.{ScopeItem}
use Rattle.sql_bound.specs.declared.scopes.Work.{Work}
use Rattle.bound_size.specs.Brought.{AllBringNodes, BringsNodes, IsNode, own_of}
use Rattle.bound_size.specs.Plain.{is_plain_result, result_is_plain}
use Rattle.bound_size.specs.Sizes.{all_nodes, nodes_of}
use Rattle.bound_size.specs.Small.{AreFewShown, seen_columns}
use Rattle.bound_size.proofs.BoundLaws.{answer, both_hold, bound_by, if_passed, same_answer}
use Rattle.bound_size.proofs.ColumnLaws.{all_flat, all_kept}
use Rattle.bound_size.proofs.LayerLaws.{of_result-out, result_parts}
use Rattle.bound_size.proofs.NodeLaws.{all_nodes-append, all_nodes-one}
use Rattle.bound_size.proofs.SizeLaws.{tree_nodes}

-- ---- one result more

abbrev Showing : Type 0
Showing = Shown × Work

record OneMore (s : ResultScope) (r : ShownResult) (before after : Showing) : Type 0 where
  operand : Operand × Work
  bound : r.bound s.scope before.1 ≡ Ok operand
  nodes : all_nodes after.0.trees ≡ all_nodes before.0.trees + nodes_of operand.0.tree
  count : length after.0.trees ≡ length before.0.trees + 1

one_more : (s : ResultScope) (r : ShownResult) (before after : Showing) → column_result s r before ≡ Ok after → OneMore s r before after
one_more s r before after h =
    let a = bound_by (r.bound s.scope before.1) (λ a. grouped_checked s.grouped s.keys s.own a.0.tree >>= λ u. Ok (with_result r a.0 before.0, a.1)) after h in
    let u = bound_by (grouped_checked s.grouped s.keys s.own a.0.0.tree) (λ u. Ok (with_result r a.0.0 before.0, a.0.1)) after a.2 in
    let with_one : Showing = (with_result r a.0.0 before.0, a.0.1) in
    let trees : before.0.trees ++ a.0.0.tree ∷ [] ≡ after.0.trees = ap (λ (x : Showing). x.0.trees) (same_answer with_one after u.2) in
    record {
      operand = a.0;
      bound = a.1;
      nodes = sym (ap all_nodes trees) ∙ all_nodes-append before.0.trees (a.0.0.tree ∷ []) ∙ ap (λ n. all_nodes before.0.trees + n) (all_nodes-one a.0.0.tree);
      count = sym (ap length trees) ∙ length-append before.0.trees (a.0.0.tree ∷ []);
    }

-- ---- what a `*` shows

-- wherever it is bound, it is one node
abbrev IsStar : ShownResult → Type 0
IsStar r = (s : ResultScope) (w : Work) (a : Operand × Work) → r.bound s.scope w ≡ Ok a → nodes_of a.0.tree ≤ 1

column_is_star : (c : ScopeColumn) → IsNode c → IsStar (column_shown c)
column_is_star c h s w a bound = subst (λ (x : Operand × Work). nodes_of x.0.tree ≤ 1) (same_answer (column_operand c c.tree, w) a bound) h

columns_are_stars : (cs : List ScopeColumn) → AllByRecursion IsNode cs → AllByRecursion IsStar (map column_shown cs)
columns_are_stars [] all = tt
columns_are_stars (c ∷ cs) all = (column_is_star c all.0, columns_are_stars cs all.1)

record Grown (before after : Showing) (more many : ℕ) : Type 0 where
  nodes : all_nodes after.0.trees ≤ all_nodes before.0.trees + more
  count : length before.0.trees + many ≤ length after.0.trees

stars_grown : (s : ResultScope) (rs : List ShownResult) (before after : Showing) → AllByRecursion IsStar rs → columns_result s rs before ≡ Ok after → Grown before after (length rs) (length rs)
stars_grown s [] before after all h = subst (λ x. Grown before x 0 0) (same_answer before after h) (record { nodes = omega arith; count = omega arith })
stars_grown s (r ∷ rs) before after all h =
    let room = bound_by (room_behind before.0.trees) (λ u. column_result s r before >>= λ next. columns_result s rs next) after h in
    let next = bound_by (column_result s r before) (λ next. columns_result s rs next) after room.2 in
    let one = one_more s r before next.0 next.1 in
    let star = all.0 s before.1 one.operand one.bound in
    let rest = stars_grown s rs next.0 after all.1 next.2 in
    record { nodes = omega (arith, one.nodes, star, rest.nodes); count = omega (arith, one.count, rest.count) }

-- ---- of the columns that are seen

fewer_pass : {X : Type 0} (passes : X → Bool) (xs : List X) → length (filter passes xs) ≤ length xs
fewer_pass passes [] = omega arith
fewer_pass passes (x ∷ xs) = go (passes x) (fewer_pass passes xs) where
  go : (b : Bool) → length (filter passes xs) ≤ length xs → length (cond b (x ∷ filter passes xs) (filter passes xs)) ≤ suc (length xs)
  go true few = omega (arith, few)
  go false few = omega (arith, few)

fewer_seen : {X : Type 0} (f : ScopeItem → List X) → ((item : ScopeItem) → length (f item) ≤ length item.columns) → (level : Level) → length (flat_map f level) ≤ seen_columns level
fewer_seen f each [] = omega arith
fewer_seen f each (item ∷ level) = omega (arith, each item, fewer_seen f each level, length-append (f item) (flat_map f level))

abbrev bare_columns : ScopeItem → List ScopeColumn
bare_columns item = filter is_shown_bare item.columns

abbrev AreStars : ℕ → List ShownResult → Type 0
AreStars n rs = AllByRecursion IsStar rs × (length rs ≤ n)

all_are_stars : (level : Level) (rs : List ShownResult) → AllBringNodes level → all_shown level ≡ Ok rs → AreStars (seen_columns level) rs
all_are_stars [] rs nodes h = cc
all_are_stars (item ∷ items) rs nodes h =
    let level : Level = item ∷ items in
    let cs = flat_map bare_columns level in
    let all = all_flat IsNode BringsNodes bare_columns (λ x brings. all_kept IsNode is_shown_bare x.columns brings.columns) level nodes in
    let few = fewer_seen bare_columns (λ x. fewer_pass is_shown_bare x.columns) level in
    subst (AreStars (seen_columns level)) (same_answer (map column_shown cs) rs h) (columns_are_stars cs all, omega (arith, few, length-map cs column_shown))

if_called : (b : Bool) (item : ScopeItem) → BringsNodes item → AreStars (length item.columns) (cond b (map column_shown (filter is_shown item.columns)) [])
if_called true item brings =
    let cs = filter is_shown item.columns in
    (columns_are_stars cs (all_kept IsNode is_shown item.columns brings.columns), omega (arith, fewer_pass is_shown item.columns, length-map cs column_shown))
if_called false item brings = (tt, omega arith)

called_few : (b : Bool) (item : ScopeItem) → length (cond b (map column_shown (filter is_shown item.columns)) []) ≤ length item.columns
called_few true item = let cs = filter is_shown item.columns in omega (arith, fewer_pass is_shown item.columns, length-map cs column_shown)
called_few false item = omega arith

called_are_stars : (name : List ℕ) (level : Level) (rs : List ShownResult) → AllBringNodes level → shown_of name level ≡ Ok rs → AreStars (seen_columns level) rs
called_are_stars name level rs nodes h =
    let shown = flat_map (columns_of_item name) level in
    let all = all_flat IsStar BringsNodes (columns_of_item name) (λ item brings. (if_called (is_called name item.name) item brings).0) level nodes in
    let few = fewer_seen (columns_of_item name) (λ item. called_few (is_called name item.name) item) level in
    subst (AreStars (seen_columns level))
    (same_answer shown rs (if_passed (list_any (λ (item : ScopeItem). is_called name item.name) level) (answer shown) (Unknown kind.Table name) rs h)) (all, few)

-- ---- results in turn

-- so many of the nodes are columns of `*`, none of no column
record GrownBy (n size : ℕ) (before after : Showing) : Type 0 where
  stars : ℕ
  nodes : all_nodes after.0.trees ≤ all_nodes before.0.trees + (2 * size + stars)
  count : length before.0.trees + stars ≤ length after.0.trees
  none : n ≡ 0 → stars ≡ 0

by_stars : (s : ResultScope) (n size : ℕ) (rs : List ShownResult) (before after : Showing) → AreStars n rs → columns_result s rs before ≡ Ok after → GrownBy n size before after
by_stars s n size rs before after stars h =
    let grown = stars_grown s rs before after stars.0 h in
    let few = stars.1 in
    record { stars = length rs; nodes = omega (arith, grown.nodes); count = grown.count; none = λ z. omega (arith, few, z) }

module _ (s : ResultScope) (bare : s.scope.aliases ≡ []) (outer : AllBringNodes (own_of s.scope.outer.levels)) (own : AllBringNodes s.own) where
  one_grown : (l : ResultLayer) (rs : List ShownResult) (before after : Showing) → result_is_plain l ≡ true → shown_by s.scope.outer.text s.own (result_parts l) ≡ Ok rs → columns_result s rs before ≡ Ok after
      → GrownBy (seen_columns s.own) (result_size l) before after
  one_grown ResultColumn-F.All rs before after plain shown h = by_stars s (seen_columns s.own) 1 rs before after (all_are_stars s.own rs own shown) h
  one_grown (ResultColumn-F.AllOf t) rs before after plain shown h = by_stars s (seen_columns s.own) 1 rs before after (called_are_stars (name_at s.scope.outer.text t) s.own rs own shown) h
  one_grown (ResultColumn-F.Expression x name) rs before after plain shown h =
      let r : ShownResult = one_shown s.scope.outer.text (record { expr = of_expr x.expr; text = x.text }) name in
      let here = subst (λ those. columns_result s those before ≡ Ok after) (sym (same_answer (r ∷ []) rs shown)) h in
      let room = bound_by (room_behind before.0.trees) (λ u. column_result s r before >>= λ next. columns_result s [] next) after here in
      let next = bound_by (column_result s r before) (λ next. columns_result s [] next) after room.2 in
      let one = one_more s r before next.0 next.1 in
      let nodes = tree_nodes x.expr s.scope before.1 one.operand plain bare outer one.bound in
      subst (λ y. GrownBy (seen_columns s.own) (size_of x.expr) before y) (same_answer next.0 after next.2)
      (record { stars = 0; nodes = omega (arith, one.nodes, nodes); count = omega (arith, one.count); none = λ z. refl })

  results_grown : (rs : List ResultColumn) (before after : Showing) → list_all is_plain_result rs ≡ true → results_bound s (map of_result rs) before ≡ Ok after
      → GrownBy (seen_columns s.own) (total (map size_of_result rs)) before after
  results_grown [] before after plain h =
      subst (λ y. GrownBy (seen_columns s.own) 0 before y) (same_answer before after h) (record { stars = 0; nodes = omega arith; count = omega arith; none = λ z. refl })
  results_grown (r ∷ rs) before after plain h =
      let both = both_hold (is_plain_result r) (list_all is_plain_result rs) plain in
      let more = bound_by (shown_by s.scope.outer.text s.own (of_result r)) (λ more. columns_result s more before >>= λ next. results_bound s (map of_result rs) next) after h in
      let next = bound_by (columns_result s more.0 before) (λ next. results_bound s (map of_result rs) next) after more.2 in
      let shown = subst (λ (p : ResultParts). shown_by s.scope.outer.text s.own p ≡ Ok more.0) (of_result-out r) more.1 in
      let one = one_grown (out-ResultColumn r) more.0 before next.0 both.0 shown next.1 in
      let rest = results_grown rs next.0 after both.1 next.2 in
      record {
        stars = one.stars + rest.stars;
        nodes = omega (arith, one.nodes, rest.nodes);
        count = omega (arith, one.count, rest.count);
        none = λ z. omega (arith, one.none z, rest.none z);
      }

hundred_columns : (n stars : ℕ) → stars ≤ 100 → (n ≡ 0 → stars ≡ 0) → stars ≤ 100 * n
hundred_columns zero stars few none = omega (arith, none refl)
hundred_columns (suc n) stars few none = omega (arith, few)

pub results_few : (s : ResultScope) (rs : List ResultColumn) (w : Work) (r : Shown × Work) → s.scope.aliases ≡ [] → AllBringNodes (own_of s.scope.outer.levels) → AllBringNodes s.own → list_all is_plain_result rs ≡ true
    → results_bound s (map of_result rs) (nothing_shown, w) ≡ Ok r → AreFewShown (total (map size_of_result rs)) (seen_columns s.own) r.0.trees
results_few s rs w r bare outer own plain h =
    let grown = results_grown s bare outer own rs (nothing_shown, w) r plain h in
    let few : length r.0.trees ≤ 100 = results_kept s (map of_result rs) (nothing_shown, w) r (omega arith) h in
    let hundred : grown.stars ≤ 100 = omega (arith, grown.count, few) in
    record { stars = grown.stars; hundred = hundred; of_columns = hundred_columns (seen_columns s.own) grown.stars hundred grown.none; nodes = omega (arith, grown.nodes) }
