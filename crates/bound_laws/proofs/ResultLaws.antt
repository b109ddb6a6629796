-- Results: each is bound to what is there, and takes no aggregate where none may stand or none is in it.
use Rattle.std.proofs.Common.{◌≡◌, ◌∙◌, ℕ, Bool, true, false, ◌||◌, cond, filter, List, [], ◌∷◌, map, Some, None, Ok, Err, refl}
use Rattle.std.specs.Bool.{⊤}
use Rattle.std.specs.List.{AllByRecursion, list_any}
use Rattle.sql_words.specs.Spelled.{name_at}
use Rattle.bound_tree.specs.declared.units.BoundUnit.{BoundUnit}
use Rattle.sql_bound.specs.Carriers.{All, AllOf, One, ResultParts}
use Rattle.sql_bound.specs.Cores.{result_aggregates, scope_of_clause, scope_with}
use Rattle.sql_bound.specs.Groups.{grouped_checked}
use Rattle.sql_bound.specs.Limits.{room_behind}
use Rattle.sql_bound.specs.Refusals.{Checked}
use Rattle.sql_bound.specs.Results.{ResultScope, ShownResult, alias_of, all_shown, column_result, column_shown, columns_of_item, columns_result, is_shown_bare, results_bound, shown_by, shown_in, shown_or_none}
use Rattle.sql_bound.specs.Scopes.{Answer, Level, Outer, inside, is_called, is_shown}
use Rattle.sql_bound.specs.declared.queries.Shown.{Shown}
use Rattle.sql_bound.specs.declared.scopes.ScopeColumn.{ScopeColumn}
use Rattle.sql_bound.specs.declared.scopes.ScopeItem.{ScopeItem}
use Rattle.sql_bound.specs.declared.scopes.Standing.TheVariants.{Nowhere, Taken}
use Rattle.sql_bound.specs.declared.scopes.Standing.{Standing}
use Rattle.sql_bound.specs.declared.scopes.Work.{Work}
use Rattle.bound_laws.specs.Reach.{EachIsWithin, IsWithin, Reach}
use Rattle.bound_laws.proofs.Goods.{AliasIsQuiet, CallsAlike, GoodResult, IsSilent, SameSlots}
use Rattle.bound_laws.proofs.GrowLaws.{grown, not_grown, reached_before, stays_here}
use Rattle.bound_laws.proofs.HandLaws.{column_within}
use Rattle.bound_laws.proofs.Lists.{all_append, all_flat, all_kept, all_mapped_of}
use Rattle.bound_laws.proofs.PlainLaws.{inside_fits}
use Rattle.bound_laws.proofs.States.{AliasFits, BindsIn, ColumnFits, From, Grows, Here, ItemFits, LevelFits, OuterFits, Reached, ScopeFits, Steps, WorkFits}
use Rattle.bound_laws.proofs.Triples.{Gives, gives, gives_if, past, refuses, seq}

pub steps_later : {A : Type 0} (h : Here) (T : A → Work → Type 0) (w v : Work) → Grows w v → (m : Answer A) → Gives (Steps h T v) m → Gives (Steps h T w) m
steps_later h T w v g (Ok r) k = record { holds = record { fits = k.holds.fits; grows = grown w v r.1 g k.holds.grows; holds = k.holds.holds } }
steps_later h T w v g (Err why) k = record { holds = tt }

pub slots_later : {A : Type 0} (w v : Work) → v.aggregates ≡ w.aggregates → (m : Answer A) → Gives (SameSlots v) m → Gives (SameSlots w) m
slots_later w v same (Ok r) k = record { holds = k.holds ∙ same }
slots_later w v same (Err why) k = record { holds = tt }

pub either_false : (a b : Bool) → (a || b) ≡ false → (a ≡ false) × (b ≡ false)
either_false true b h = cc
either_false false b h = (refl, h)

pub silent_left : (standing : Standing) (a b : Bool) → IsSilent standing (a || b) → IsSilent standing a
silent_left Nowhere a b h = tt
silent_left Taken a b h = (either_false a b h).0

pub silent_right : (standing : Standing) (a b : Bool) → IsSilent standing (a || b) → IsSilent standing b
silent_right Nowhere a b h = tt
silent_right Taken a b h = (either_false a b h).1

pub listed : (P : ShownResult → Type 0) (m : Checked (List ShownResult)) → Gives (AllByRecursion P) m → AllByRecursion P (shown_or_none m)
listed P (Ok rs) k = k.holds
listed P (Err why) k = tt

-- ---- what results stand for

module _ (h : Here) where
  abbrev pub ShownBinds : ShownResult → Type 0
  ShownBinds r = BindsIn h r.bound

  column_binds : (c : ScopeColumn) → ColumnFits h.own c → ShownBinds (column_shown c)
  column_binds c at s scope w fits = gives _ _ (record { fits = fits; grows = not_grown w; holds = λ r k. column_within r h.own c.tree at })

  item_columns : (name : List ℕ) (item : ScopeItem) → ItemFits h.own item → AllByRecursion ShownBinds (columns_of_item name item)
  item_columns name item fits = go (is_called name item.name) where
    go : (b : Bool) → AllByRecursion ShownBinds (cond b (map column_shown (filter is_shown item.columns)) [])
    go true = all_mapped_of ShownBinds (ColumnFits h.own) column_shown column_binds (filter is_shown item.columns) (all_kept (ColumnFits h.own) is_shown item.columns fits.columns)
    go false = tt

  all_shown_bind : (level : Level) → LevelFits h.own level → Gives (AllByRecursion ShownBinds) (all_shown level)
  all_shown_bind [] here = refuses _ _
  all_shown_bind (item ∷ items) here =
      gives _ _ (all_mapped_of ShownBinds (ColumnFits h.own) column_shown column_binds _
      (all_flat (ColumnFits h.own) (ItemFits h.own) (λ (x : ScopeItem). filter is_shown_bare x.columns) (λ x fits. all_kept (ColumnFits h.own) is_shown_bare x.columns fits.columns) (item ∷ items) here))

  pub shown_bind : (text : List ℕ) (level : Level) (r : ResultParts) → LevelFits h.own level → GoodResult r → Gives (AllByRecursion ShownBinds) (shown_by text level r)
  shown_bind text level All here good = all_shown_bind level here
  shown_bind text level (AllOf t) here good =
      gives_if _ (list_any (λ (item : ScopeItem). is_called (name_at text t) item.name) level) _ _
      (gives _ _ (all_flat ShownBinds (ItemFits h.own) (columns_of_item (name_at text t)) (item_columns (name_at text t)) level here))
  shown_bind text level (One x name) here good = gives _ _ (good.binds h, tt)

  pub all_shown_in : (text : List ℕ) (level : Level) (rs : List ResultParts) → LevelFits h.own level → AllByRecursion GoodResult rs → AllByRecursion ShownBinds (shown_in text level rs)
  all_shown_in text level rs here good = all_flat ShownBinds GoodResult (λ r. shown_or_none (shown_by text level r)) (λ r g. listed ShownBinds (shown_by text level r) (shown_bind text level r here g)) rs good

  -- ---- results in turn

  module _ (s : ResultScope) (scope : ScopeFits h s.scope) (here : LevelFits h.own s.own) where
    abbrev pub ShownStays : Shown → Work → Type 0
    ShownStays shown v = (r : Reach) → Reached s.scope.aggregates v r → EachIsWithin r h.own shown.trees

    abbrev Result : Work → Shown × Work → Type 0
    Result w r = Steps h ShownStays w r

    one_result : (x : ShownResult) (shown : Shown) (w : Work) → ShownBinds x → WorkFits h w → ShownStays shown w → Gives (Result w) (column_result s x (shown, w))
    one_result x shown w binds fits stays =
        seq _ _ _ _ (binds s.scope scope w fits) (λ a ha. past (grouped_checked s.grouped s.keys s.own a.0.tree) _ _ (λ u. gives _ _ (record {
          fits = ha.fits;
          grows = ha.grows;
          holds = λ r k. all_append (IsWithin r h.own) shown.trees (a.0.tree ∷ []) (stays r (reached_before _ _ _ _ ha.grows k)) (ha.holds r k, tt);
        })))

    several_results : (xs : List ShownResult) (shown : Shown) (w : Work) → AllByRecursion ShownBinds xs → WorkFits h w → ShownStays shown w → Gives (Result w) (columns_result s xs (shown, w))
    several_results [] shown w all fits stays = stays_here h ShownStays w shown fits stays
    several_results (x ∷ xs) shown w all fits stays =
        past (room_behind shown.trees) _ _ (λ u. seq _ _ _ _ (one_result x shown w all.0 fits stays) (λ next hn. steps_later h ShownStays w next.1 hn.grows (columns_result s xs next) (several_results xs next.0 next.1 all.1 hn.fits hn.holds)))

    pub results_bind : (rs : List ResultParts) (shown : Shown) (w : Work) → AllByRecursion GoodResult rs → WorkFits h w → ShownStays shown w → Gives (Result w) (results_bound s rs (shown, w))
    results_bind [] shown w good fits stays = stays_here h ShownStays w shown fits stays
    results_bind (r ∷ rs) shown w good fits stays =
        seq _ _ _ _ (shown_bind s.scope.outer.text s.own r here good.0) (λ more hm. seq _ _ _ _ (several_results more shown w hm fits stays)
        (λ next hn. steps_later h ShownStays w next.1 hn.grows (results_bound s rs next) (results_bind rs next.0 next.1 good.1 hn.fits hn.holds)))

-- ---- without aggregates

module _ (s : ResultScope) (o : Outer) (alike : CallsAlike o s.scope.outer) (quiet : AllByRecursion (AliasIsQuiet s.scope.aggregates) s.scope.aliases) where
  abbrev pub ShownIsQuiet : ShownResult → Type 0
  ShownIsQuiet x = (w : Work) → Gives (SameSlots w) (x.bound s.scope w)

  column_quiet : (c : ScopeColumn) → ShownIsQuiet (column_shown c)
  column_quiet c w = gives _ _ refl

  columns_quiet : (cs : List ScopeColumn) → AllByRecursion ShownIsQuiet (map column_shown cs)
  columns_quiet [] = tt
  columns_quiet (c ∷ cs) = (column_quiet c, columns_quiet cs)

  item_quiet : (name : List ℕ) (item : ScopeItem) → ⊤ → AllByRecursion ShownIsQuiet (columns_of_item name item)
  item_quiet name item t = go (is_called name item.name) where
    go : (b : Bool) → AllByRecursion ShownIsQuiet (cond b (map column_shown (filter is_shown item.columns)) [])
    go true = columns_quiet (filter is_shown item.columns)
    go false = tt

  of_any : (level : Level) → AllByRecursion (λ (item : ScopeItem). ⊤) level
  of_any [] = tt
  of_any (item ∷ level) = (tt, of_any level)

  all_quiet : (level : Level) → Gives (AllByRecursion ShownIsQuiet) (all_shown level)
  all_quiet [] = refuses _ _
  all_quiet (item ∷ items) = gives _ _ (columns_quiet _)

  shown_quiet : (text : List ℕ) (level : Level) (r : ResultParts) → GoodResult r → IsSilent s.scope.aggregates (result_aggregates o r) → Gives (AllByRecursion ShownIsQuiet) (shown_by text level r)
  shown_quiet text level All good silent = all_quiet level
  shown_quiet text level (AllOf t) good silent =
      gives_if _ (list_any (λ (item : ScopeItem). is_called (name_at text t) item.name) level) _ _
      (gives _ _ (all_flat ShownIsQuiet (λ (item : ScopeItem). ⊤) (columns_of_item (name_at text t)) (item_quiet (name_at text t)) level (of_any level)))
  shown_quiet text level (One x name) good silent = gives _ _ (good.quiet s.scope o alike quiet silent, tt)

  -- each of them, where no aggregate may stand
  pub all_quiet_in : (text : List ℕ) (level : Level) (rs : List ResultParts) → AllByRecursion GoodResult rs → ((b : Bool) → IsSilent s.scope.aggregates b) → AllByRecursion ShownIsQuiet (shown_in text level rs)
  all_quiet_in text level rs good silent =
      all_flat ShownIsQuiet GoodResult (λ r. shown_or_none (shown_by text level r)) (λ r g. listed ShownIsQuiet (shown_by text level r) (shown_quiet text level r g (silent (result_aggregates o r)))) rs good

  several_quiet : (xs : List ShownResult) (shown : Shown) (w : Work) → AllByRecursion ShownIsQuiet xs → Gives (SameSlots w) (columns_result s xs (shown, w))
  several_quiet [] shown w all = gives _ _ refl
  several_quiet (x ∷ xs) shown w all =
      past (room_behind shown.trees) _ _ (λ u. seq _ _ _ _ (one_quiet x shown w all.0) (λ next hn. slots_later w next.1 hn (columns_result s xs next) (several_quiet xs next.0 next.1 all.1)))
    where
      one_quiet : (x : ShownResult) (shown : Shown) (w : Work) → ShownIsQuiet x → Gives (SameSlots w) (column_result s x (shown, w))
      one_quiet x shown w k = seq _ _ _ _ (k w) (λ a ha. past (grouped_checked s.grouped s.keys s.own a.0.tree) _ _ (λ u. gives _ _ ha))

  pub results_quiet : (rs : List ResultParts) (shown : Shown) (w : Work) → AllByRecursion GoodResult rs → IsSilent s.scope.aggregates (list_any (result_aggregates o) rs) → Gives (SameSlots w) (results_bound s rs (shown, w))
  results_quiet [] shown w good silent = gives _ _ refl
  results_quiet (r ∷ rs) shown w good silent =
      seq _ _ _ _ (shown_quiet s.scope.outer.text s.own r good.0 (silent_left s.scope.aggregates (result_aggregates o r) (list_any (result_aggregates o) rs) silent))
      (λ more hm. seq _ _ _ _ (several_quiet more shown w hm) (λ next hn. slots_later w next.1 hn (results_bound s rs next)
      (results_quiet rs next.0 next.1 good.1 (silent_right s.scope.aggregates (result_aggregates o r) (list_any (result_aggregates o) rs) silent))))

-- ---- names of results

module _ (units : List BoundUnit) (outers : List From) (own : From) (level : Level) (o : Outer) (fits : OuterFits units outers o) (here : LevelFits own level) where
  abbrev hence : Here
  hence = record { units = units; own = own; outers = outers }

  pub with_fits : (standing : Standing) → ScopeFits hence (scope_with standing level o)
  with_fits standing = record { outer = inside_fits units outers own level o fits here; aliases = tt }

  alias_fits : (first : Standing) (text : List ℕ) (r : ResultParts) → GoodResult r → AllByRecursion (AliasFits hence) (alias_of text (scope_with first level o) r)
  alias_fits first text All good = tt
  alias_fits first text (AllOf t) good = tt
  alias_fits first text (One x None) good = tt
  alias_fits first text (One x (Some t)) good = (λ standing w work. good.binds hence (record (scope_with first level o) { aggregates = standing }) (record { outer = inside_fits units outers own level o fits here; aliases = tt }) w work, tt)

  pub clause_fits : (standing : Standing) (rs : List ResultParts) → AllByRecursion GoodResult rs → ScopeFits hence (scope_of_clause standing level o rs)
  clause_fits standing rs good = record {
    outer = inside_fits units outers own level o fits here;
    aliases = all_flat (AliasFits hence) GoodResult (alias_of o.text (scope_with standing level o)) (alias_fits standing o.text) rs good;
  }

module _ (level : Level) (o : Outer) where
  alias_quiet : (first : Standing) (text : List ℕ) (r : ResultParts) → GoodResult r → AllByRecursion (AliasIsQuiet Nowhere) (alias_of text (scope_with first level o) r)
  alias_quiet first text All good = tt
  alias_quiet first text (AllOf t) good = tt
  alias_quiet first text (One x None) good = tt
  alias_quiet first text (One x (Some t)) good = (λ w. good.quiet (record (scope_with first level o) { aggregates = Nowhere }) (inside level o) (λ t how given. refl) tt tt w, tt)

  -- where no aggregate may stand names of results take none
  pub aliases_quiet : (rs : List ResultParts) → AllByRecursion GoodResult rs → AllByRecursion (AliasIsQuiet Nowhere) (scope_of_clause Nowhere level o rs).aliases
  aliases_quiet rs good = all_flat (AliasIsQuiet Nowhere) GoodResult (alias_of o.text (scope_with Nowhere level o)) (alias_quiet Nowhere o.text) rs good
