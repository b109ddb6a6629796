-- With an empty FROM beyond all others the clauses of a SELECT, its order and the parts of a query are the same.
use Rattle.std.proofs.Common.{◌≡◌, ◌∙◌, ℕ, Bool, true, false, not, ◌||◌, cond, filter, List, [], ◌∷◌, ◌++◌, length, map, Option, Some, None, is_some, codes, Ok, Err, refl, ap}
use Rattle.std.specs.Bool.{⊤}
use Rattle.std.specs.List.{AllByRecursion, list_any}
use Rattle.sql_words.specs.Refusals.{◌>>=◌}
use Rattle.sql_words.specs.Spelled.{literal_at, name_at}
use Rattle.bound_tree.specs.declared.units.BoundKey.{BoundKey}
use Rattle.sql_bound.specs.Carriers.{All, AllOf, CompoundParts, CoreParts, Expression, LimitParts, Name, Number, One, Other, PartParts, ResultParts, Select, SpannedExpression, Term, TermParts, Values}
use Rattle.sql_bound.specs.Compounds.{compound_bound, first_word, others_bound, part_bound, parts_bound, row_bound, rows_behind, select_alone, values_alone, values_bound, width_fits}
use Rattle.sql_bound.specs.Cores.{by_number, by_term, clauses_bound, conjuncts_bound, having_bound, is_grouped, keys_bound, numbered, recursive_select_bound, result_aggregates, scope_of_clause, scope_with, select_bound}
use Rattle.sql_bound.specs.Declarations.{is_empty}
use Rattle.sql_bound.specs.Froms.{Inside, nothing_found}
use Rattle.sql_bound.specs.Limits.{room_behind}
use Rattle.sql_bound.specs.Orders as orders
use Rattle.sql_bound.specs.Orders.{by_expression, limit_bound, offset_bound, orders_by_aggregate, place_given, terms_of_compound, terms_of_select}
use Rattle.sql_bound.specs.Refusals.{Checked}
use Rattle.sql_bound.specs.Results.{ResultScope, ShownResult, alias_of, aliases_of, all_shown, at_place, column_result, column_shown, columns_of_item, columns_result, nothing_shown, place_named, results_bound, shown_by, shown_in, shown_or_none, text_of}
use Rattle.sql_bound.specs.Scopes.{Alias, Level, Outer, Scope, is_called, is_shown, scope_over}
use Rattle.sql_bound.specs.declared.froms.Found.{Found}
use Rattle.sql_bound.specs.declared.froms.QueueTable.{QueueTable}
use Rattle.sql_bound.specs.declared.queries.BoundSelect.{BoundSelect}
use Rattle.sql_bound.specs.declared.queries.Shown.{Shown}
use Rattle.sql_bound.specs.declared.scopes.Operand.{Operand}
use Rattle.sql_bound.specs.declared.scopes.ResultColumn.{ResultColumn}
use Rattle.sql_bound.specs.declared.scopes.ScopeColumn.{ScopeColumn}
use Rattle.sql_bound.specs.declared.scopes.ScopeItem.{ScopeItem}
use Rattle.sql_bound.specs.declared.scopes.Standing.TheVariants.{Nowhere, Taken}
use Rattle.sql_bound.specs.declared.scopes.Standing.{Standing}
use Rattle.sql_bound.specs.declared.scopes.Work.{Work}
use Rattle.bound_laws.specs.Views.{beyond}
use Rattle.bound_laws.proofs.BeyondFroms.{ItemAlike, inside_beyond, items_alike}
use Rattle.bound_laws.proofs.BeyondLaws.{AliasesAlike, Alike, ExprAlike, alike, alike_behind, either, scope_beyond}
use Rattle.bound_laws.proofs.Lists.{IfThere, all_flat, member_at}
use Rattle.bound_laws.proofs.ResultLaws.{listed}
use Rattle.bound_laws.proofs.Triples.{Gives, gives, gives_if, refuses}

abbrev pub ResultAlike : ResultParts → Type 0
ResultAlike (One x name) = ExprAlike x.expr
ResultAlike other = ⊤

abbrev pub SpannedAlike : SpannedExpression → Type 0
SpannedAlike x = ExprAlike x.expr

pub record CoreAlike (core : CoreParts) : Type 0 where
  pub results : AllByRecursion ResultAlike core.results
  pub from : AllByRecursion ItemAlike core.from
  pub filter : IfThere ExprAlike core.filter
  pub group_by : AllByRecursion SpannedAlike core.group_by
  pub having : IfThere ExprAlike core.having

abbrev pub PartAlike : PartParts → Type 0
PartAlike (Select core) = CoreAlike core
PartAlike (Values rows) = AllByRecursion (AllByRecursion ExprAlike) rows

abbrev pub CompoundAlike : CompoundParts → Type 0
CompoundAlike c = PartAlike c.part

abbrev pub TermAlike : TermParts → Type 0
TermAlike t = ExprAlike t.key.expr

pub record LimitAlike (l : LimitParts) : Type 0 where
  pub count : ExprAlike l.count
  pub offset : IfThere ExprAlike l.offset

-- ---- results

abbrev ShownAlike : ShownResult → Type 0
ShownAlike r = Alike r.bound

columns_shown : (cs : List ScopeColumn) → AllByRecursion ShownAlike (map column_shown cs)
columns_shown [] = tt
columns_shown (c ∷ cs) = ((λ s others same w. refl), columns_shown cs)

item_shown : (name : List ℕ) (item : ScopeItem) → ⊤ → AllByRecursion ShownAlike (columns_of_item name item)
item_shown name item t = go (is_called name item.name) where
  go : (b : Bool) → AllByRecursion ShownAlike (cond b (map column_shown (filter is_shown item.columns)) [])
  go true = columns_shown (filter is_shown item.columns)
  go false = tt

of_any : (level : Level) → AllByRecursion (λ (item : ScopeItem). ⊤) level
of_any [] = tt
of_any (item ∷ level) = (tt, of_any level)

all_are : (level : Level) → Gives (AllByRecursion ShownAlike) (all_shown level)
all_are [] = refuses _ _
all_are (item ∷ items) = gives _ _ (columns_shown _)

shown_are : (text : List ℕ) (level : Level) (r : ResultParts) → ResultAlike r → Gives (AllByRecursion ShownAlike) (shown_by text level r)
shown_are text level All same = all_are level
shown_are text level (AllOf t) same =
    gives_if _ (list_any (λ (item : ScopeItem). is_called (name_at text t) item.name) level) _ _
    (gives _ _ (all_flat ShownAlike (λ (item : ScopeItem). ⊤) (columns_of_item (name_at text t)) (item_shown (name_at text t)) level (of_any level)))
shown_are text level (One x name) same = gives _ _ (same.bound, tt)

shown_list : (text : List ℕ) (level : Level) (rs : List ResultParts) → AllByRecursion ResultAlike rs → AllByRecursion ShownAlike (shown_in text level rs)
shown_list text level rs all = all_flat ShownAlike ResultAlike (λ r. shown_or_none (shown_by text level r)) (λ r same. listed ShownAlike (shown_by text level r) (shown_are text level r same)) rs all

abbrev results_beyond : ResultScope → ResultScope
results_beyond s = record s { scope = scope_beyond s.scope [] }

module _ (s : ResultScope) (bare : s.scope.aliases ≡ []) where
  none_alike : AliasesAlike [] s.scope.aliases
  none_alike = rw bare tt

  one_result : (r : ShownResult) (so_far : Shown × Work) → ShownAlike r → column_result (results_beyond s) r so_far ≡ column_result s r so_far
  one_result r so_far same = alike _ _ _ _ (same s.scope [] none_alike so_far.1) (λ a. refl)

  several : (rs : List ShownResult) (so_far : Shown × Work) → AllByRecursion ShownAlike rs → columns_result (results_beyond s) rs so_far ≡ columns_result s rs so_far
  several [] so_far all = refl
  several (r ∷ rs) so_far all = alike_behind (room_behind so_far.0.trees) _ _ (λ u. alike _ _ _ _ (one_result r so_far all.0) (λ next. several rs next all.1))

  results_alike : (rs : List ResultParts) (so_far : Shown × Work) → AllByRecursion ResultAlike rs → results_bound (results_beyond s) rs so_far ≡ results_bound s rs so_far
  results_alike [] so_far all = refl
  results_alike (r ∷ rs) so_far all = go (shown_by s.scope.outer.text s.own r) (shown_are s.scope.outer.text s.own r all.0) (λ next. results_alike rs next all.1) where
    go : (m : Checked (List ShownResult)) → Gives (AllByRecursion ShownAlike) m → ((next : Shown × Work) → results_bound (results_beyond s) rs next ≡ results_bound s rs next)
        → (m >>= λ more. columns_result (results_beyond s) more so_far >>= λ next. results_bound (results_beyond s) rs next) ≡ (m >>= λ more. columns_result s more so_far >>= λ next. results_bound s rs next)
    go (Ok more) h rest = alike _ _ _ _ (several more so_far h.holds) rest
    go (Err why) h rest = refl

-- ---- names of results

one_alias : (text : List ℕ) (plain : Scope) (r : ResultParts) → plain.aliases ≡ [] → ResultAlike r → AliasesAlike (alias_of text (scope_beyond plain []) r) (alias_of text plain r)
one_alias text plain All bare same = tt
one_alias text plain (AllOf t) bare same = tt
one_alias text plain (One x None) bare same = tt
one_alias text plain (One x (Some t)) bare same = (refl, (λ standing w. same.bound (record plain { aggregates = standing }) [] (rw bare tt) w), tt)

both_alias : (as_ bs cs ds : List Alias) → AliasesAlike as_ bs → AliasesAlike cs ds → AliasesAlike (as_ ++ cs) (bs ++ ds)
both_alias [] [] cs ds h k = k
both_alias [] (b ∷ bs) cs ds h k = absurd h
both_alias (a ∷ as_) [] cs ds h k = absurd h
both_alias (a ∷ as_) (b ∷ bs) cs ds h k = (h.0, h.1, both_alias as_ bs cs ds h.2 k)

all_aliases : (text : List ℕ) (plain : Scope) (rs : List ResultParts) → plain.aliases ≡ [] → AllByRecursion ResultAlike rs → AliasesAlike (aliases_of text (scope_beyond plain []) rs) (aliases_of text plain rs)
all_aliases text plain [] bare all = tt
all_aliases text plain (r ∷ rs) bare all = both_alias (alias_of text (scope_beyond plain []) r) (alias_of text plain r) (aliases_of text (scope_beyond plain []) rs) (aliases_of text plain rs) (one_alias text plain r bare all.0) (all_aliases text plain rs bare all.1)

-- ---- the clauses

conjuncts_alike : (s : Scope) (others : List Alias) → AliasesAlike others s.aliases → (x : Option Expression) (w : Work) → IfThere ExprAlike x → conjuncts_bound (scope_beyond s others) x w ≡ conjuncts_bound s x w
conjuncts_alike s others same None w there = refl
conjuncts_alike s others same (Some x) w there = alike _ _ _ _ (there.bound s others same w) (λ a. refl)

having_alike : (s : Scope) (others : List Alias) → AliasesAlike others s.aliases → (keys : List BoundKey) (own : Level) (x : Option Expression) (w : Work) → IfThere ExprAlike x → having_bound (scope_beyond s others) keys own x w ≡ having_bound s keys own x w
having_alike s others same keys own None w there = refl
having_alike s others same keys own (Some x) w there = alike _ _ _ _ (there.bound s others same w) (λ a. refl)

module _ (s : Scope) (others : List Alias) (same : AliasesAlike others s.aliases) (shown : List ShownResult) (each : AllByRecursion ShownAlike shown) where
  numbered_alike : (text : List ℕ) (r : Option ShownResult) (w : Work) → IfThere ShownAlike r → numbered (scope_beyond s others) text r w ≡ numbered s text r w
  numbered_alike text None w there = refl
  numbered_alike text (Some r) w there = there (record s { aliases = [] }) [] tt w

  placed_alike : (place : Option ℕ) → IfThere ShownAlike (at_place shown place)
  placed_alike None = tt
  placed_alike (Some place) = member_at ShownAlike shown place each

  by_number_alike : (x : SpannedExpression) (place : Option (Option ℕ)) (w : Work) → SpannedAlike x → by_number (scope_beyond s others) shown x place w ≡ by_number s shown x place w
  by_number_alike x None w h = h.bound s others same w
  by_number_alike x (Some place) w h = numbered_alike (text_of s.outer.text x.text) (at_place shown place) w (placed_alike place)

  by_term_alike : (x : SpannedExpression) (t : Term) (w : Work) → SpannedAlike x → by_term (scope_beyond s others) shown x t w ≡ by_term s shown x t w
  by_term_alike x (Number t) w h = by_number_alike x (place_named (literal_at s.outer.text t)) w h
  by_term_alike x (Name t) w h = h.bound s others same w
  by_term_alike x Other w h = h.bound s others same w

  keys_alike : (xs : List SpannedExpression) (w : Work) → AllByRecursion SpannedAlike xs → keys_bound (scope_beyond s others) shown xs w ≡ keys_bound s shown xs w
  keys_alike [] w all = refl
  keys_alike (x ∷ xs) w all = alike _ _ _ _ (by_term_alike x x.expr.term w all.0) (λ a. alike _ _ _ _ (keys_alike xs a.1 all.1) (λ more. refl))

clauses_alike : (standing : Standing) (o : Outer) (core : CoreParts) (grouped : Bool) (f : Found) (w : Work) → CoreAlike core → clauses_bound standing (beyond o) core grouped f w ≡ clauses_bound standing o core grouped f w
clauses_alike standing o core grouped f w same =
    let where_aliases = all_aliases o.text (scope_with Nowhere f.level o) core.results refl same.results in
    let having_aliases = all_aliases o.text (scope_with standing f.level o) core.results refl same.results in
    alike _ _ _ _ (conjuncts_alike (scope_of_clause Nowhere f.level o core.results) (aliases_of o.text (scope_beyond (scope_with Nowhere f.level o) []) core.results) where_aliases core.filter w same.filter) (λ c.
    alike _ _ _ _ (keys_alike (scope_of_clause Nowhere f.level o core.results) (aliases_of o.text (scope_beyond (scope_with Nowhere f.level o) []) core.results) where_aliases (shown_in o.text f.level core.results) (shown_list o.text f.level core.results same.results) core.group_by c.1 same.group_by) (λ k.
    alike _ _ _ _ (having_alike (scope_of_clause standing f.level o core.results) (aliases_of o.text (scope_beyond (scope_with standing f.level o) []) core.results) having_aliases k.0 f.level core.having k.1 same.having) (λ h.
    alike _ _ _ _ (results_alike (record { scope = scope_with standing f.level o; own = f.level; grouped = grouped; keys = k.0 }) refl core.results (nothing_shown, h.1) same.results) (λ r. refl))))

aggregates_alike : (o : Outer) (rs : List ResultParts) → AllByRecursion ResultAlike rs → list_any (result_aggregates (beyond o)) rs ≡ list_any (result_aggregates o) rs
aggregates_alike o [] all = refl
aggregates_alike o (r ∷ rs) all = either _ _ _ _ (one r all.0) (aggregates_alike o rs all.1) where
  one : (r : ResultParts) → ResultAlike r → result_aggregates (beyond o) r ≡ result_aggregates o r
  one All same = refl
  one (AllOf t) same = refl
  one (One x name) same = same.holds o

grouped_alike : (o : Outer) (core : CoreParts) (b c : Bool) → CoreAlike core → b ≡ c → is_grouped (beyond o) core b ≡ is_grouped o core c
grouped_alike o core b c same h =
    either _ _ _ _ (ap (λ (x : Bool). not (is_empty core.group_by) || is_some core.having || x) (aggregates_alike o core.results same.results)) h

select_alike : (i : Inside) (core : CoreParts) (b c : Bool) (w : Work) → CoreAlike core → b ≡ c → select_bound (inside_beyond i) core b w ≡ select_bound i core c w
select_alike i core b c w same h =
    alike _ _ _ _ (items_alike i None core.from nothing_found w same.from)
    (λ f. ap (λ (g : Bool). clauses_bound Taken (beyond i.outer) core g f.0 f.1) (grouped_alike i.outer core b c same h) ∙ clauses_alike Taken i.outer core (is_grouped i.outer core c) f.0 f.1 same)

pub recursive_alike : (i : Inside) (queue : QueueTable) (core : CoreParts) (w : Work) → CoreAlike core → recursive_select_bound (inside_beyond i) queue core w ≡ recursive_select_bound i queue core w
recursive_alike i queue core w same =
    alike _ _ _ _ (items_alike i (Some queue) core.from nothing_found w same.from)
    (λ f. ap (λ (g : Bool). clauses_bound Nowhere (beyond i.outer) core g f.0 f.1) (grouped_alike i.outer core false false same refl) ∙ clauses_alike Nowhere i.outer core (is_grouped i.outer core false) f.0 f.1 same)

-- ---- VALUES

row_alike : (o : Outer) (xs : List Expression) (so_far : List Operand × Work) → AllByRecursion ExprAlike xs → row_bound (scope_over [] (beyond o)) xs so_far ≡ row_bound (scope_over [] o) xs so_far
row_alike o [] so_far all = refl
row_alike o (x ∷ xs) so_far all = alike_behind (room_behind so_far.0) _ _ (λ u. alike _ _ _ _ (all.0.bound (scope_over [] o) [] tt so_far.1) (λ a. row_alike o xs (so_far.0 ++ a.0 ∷ [], a.1) all.1))

more_alike : (o : Outer) (width : ℕ) (rows : List (List Expression)) (so_far : List (List Operand) × Work) → AllByRecursion (AllByRecursion ExprAlike) rows → rows_behind (scope_over [] (beyond o)) width rows so_far ≡ rows_behind (scope_over [] o) width rows so_far
more_alike o width [] so_far all = refl
more_alike o width (row ∷ rows) so_far all =
    alike _ _ _ _ (row_alike o row ([], so_far.1) all.0) (λ r. alike_behind (width_fits (codes "VALUES") width (length r.0)) _ _ (λ u. more_alike o width rows (so_far.0 ++ r.0 ∷ [], r.1) all.1))

values_alike : (o : Outer) (rows : List (List Expression)) (w : Work) → AllByRecursion (AllByRecursion ExprAlike) rows → values_bound (scope_over [] (beyond o)) rows w ≡ values_bound (scope_over [] o) rows w
values_alike o [] w all = refl
values_alike o (row ∷ rows) w all = alike _ _ _ _ (row_alike o row ([], w) all.0) (λ r. more_alike o (length r.0) rows (r.0 ∷ [], r.1) all.1)

-- ---- parts and their order

pub part_alike : (i : Inside) (p : PartParts) (w : Work) → PartAlike p → part_bound (inside_beyond i) p w ≡ part_bound i p w
part_alike i (Select core) w same = alike _ _ _ _ (select_alike i core false false w same refl) (λ s. refl)
part_alike i (Values rows) w same = alike _ _ _ _ (values_alike i.outer rows w same) (λ rs. refl)

pub others_alike : (i : Inside) (columns : List ResultColumn) (cs : List CompoundParts) (w : Work) → AllByRecursion CompoundAlike cs → others_bound (inside_beyond i) columns cs w ≡ others_bound i columns cs w
others_alike i columns [] w all = refl
others_alike i columns (c ∷ cs) w all =
    alike _ _ _ _ (part_alike i c.part w all.0) (λ g. alike_behind (width_fits (first_word c.part) (length columns) (length g.0.columns)) _ _ (λ u. alike _ _ _ _ (others_alike i columns cs g.1 all.1) (λ more. refl)))

module _ (b : BoundSelect) (o : Outer) where
  expression_alike : (t : TermParts) (w : Work) → TermAlike t → by_expression b (beyond o) t w ≡ by_expression b o t w
  expression_alike t w same = alike _ _ _ _ (same.bound (scope_with Taken b.found.level o) [] tt w) (λ a. refl)

  number_alike : (t : TermParts) (place : Option (Option ℕ)) (w : Work) → TermAlike t → orders.by_number b (beyond o) t place w ≡ orders.by_number b o t place w
  number_alike t None w same = expression_alike t w same
  number_alike t (Some place) w same = refl

  alias_alike : (t : TermParts) (place : Option ℕ) (w : Work) → TermAlike t → orders.by_alias b (beyond o) t place w ≡ orders.by_alias b o t place w
  alias_alike t None w same = expression_alike t w same
  alias_alike t (Some place) w same = refl

  term_alike : (results : List ShownResult) (t : TermParts) (term : Term) (w : Work) → TermAlike t → orders.by_term b (beyond o) results t term w ≡ orders.by_term b o results t term w
  term_alike results t (Number n) w same = number_alike t (place_named (literal_at o.text n)) w same
  term_alike results t (Name n) w same = alias_alike t (place_given (name_at o.text n) results) w same
  term_alike results t Other w same = expression_alike t w same

  terms_alike : (results : List ShownResult) (ts : List TermParts) (w : Work) → AllByRecursion TermAlike ts → terms_of_select b (beyond o) results ts w ≡ terms_of_select b o results ts w
  terms_alike results [] w all = refl
  terms_alike results (t ∷ ts) w all = alike _ _ _ _ (term_alike results t t.key.expr.term w all.0) (λ a. alike _ _ _ _ (terms_alike results ts a.1 all.1) (λ more. refl))

ordered_alike : (o : Outer) (ts : List TermParts) → AllByRecursion TermAlike ts → orders_by_aggregate (beyond o) ts ≡ orders_by_aggregate o ts
ordered_alike o [] all = refl
ordered_alike o (t ∷ ts) all = either _ _ _ _ (all.0.holds o) (ordered_alike o ts all.1)

alone_alike : (i : Inside) (core : CoreParts) (ts : List TermParts) (w : Work) → CoreAlike core → AllByRecursion TermAlike ts → select_alone (inside_beyond i) core ts w ≡ select_alone i core ts w
alone_alike i core ts w same all =
    alike _ _ _ _ (select_alike i core (orders_by_aggregate (beyond i.outer) ts) (orders_by_aggregate i.outer ts) w same (ordered_alike i.outer ts all))
    (λ s. alike _ _ _ _ (terms_alike s.0 i.outer (shown_in i.outer.text s.0.found.level core.results) ts s.1 all) (λ r. refl))

values_alone_alike : (i : Inside) (rows : List (List Expression)) (ts : List TermParts) (w : Work) → AllByRecursion (AllByRecursion ExprAlike) rows → values_alone (inside_beyond i) rows ts w ≡ values_alone i rows ts w
values_alone_alike i rows ts w all = alike _ _ _ _ (part_alike i (Values rows) w all) (λ g. refl)

compound_alike : (i : Inside) (first : PartParts) (others : List CompoundParts) (ts : List TermParts) (w : Work) → PartAlike first → AllByRecursion CompoundAlike others → compound_bound (inside_beyond i) first others ts w ≡ compound_bound i first others ts w
compound_alike i first others ts w same all = alike _ _ _ _ (part_alike i first w same) (λ g. alike _ _ _ _ (others_alike i g.0.columns others g.1 all) (λ more. refl))

pub parts_alike : (i : Inside) (first : PartParts) (others : List CompoundParts) (ts : List TermParts) (w : Work) → PartAlike first → AllByRecursion CompoundAlike others → AllByRecursion TermAlike ts
    → parts_bound (inside_beyond i) first others ts w ≡ parts_bound i first others ts w
parts_alike i (Select core) [] ts w same all terms = alone_alike i core ts w same terms
parts_alike i (Values rows) [] ts w same all terms = values_alone_alike i rows ts w same
parts_alike i (Select core) (c ∷ cs) ts w same all terms = compound_alike i (Select core) (c ∷ cs) ts w same all
parts_alike i (Values rows) (c ∷ cs) ts w same all terms = compound_alike i (Values rows) (c ∷ cs) ts w same all

-- ---- LIMIT

offset_alike : (o : Outer) (x : Option Expression) (w : Work) → IfThere ExprAlike x → offset_bound (scope_over [] (beyond o)) x w ≡ offset_bound (scope_over [] o) x w
offset_alike o None w there = refl
offset_alike o (Some x) w there = alike _ _ _ _ (there.bound (scope_over [] o) [] tt w) (λ a. refl)

pub limit_alike : (o : Outer) (l : Option LimitParts) (w : Work) → IfThere LimitAlike l → limit_bound (beyond o) l w ≡ limit_bound o l w
limit_alike o None w there = refl
limit_alike o (Some l) w there = alike _ _ _ _ (there.count.bound (scope_over [] o) [] tt w) (λ c. alike _ _ _ _ (offset_alike o l.offset c.1 there.offset) (λ f. refl))
