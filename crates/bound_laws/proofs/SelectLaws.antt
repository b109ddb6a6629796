-- A SELECT: its clauses name what is there.
use Rattle.std.proofs.Common.{◌≡◌, ◌∙◌, ◌≤◌, ℕ, Bool, true, false, not, ◌||◌, cond, List, [], ◌∷◌, length, Option, Some, None, is_some, refl, ap, arith}
use Rattle.std.specs.List.{AllByRecursion, list_any}
use Rattle.sql_words.specs.Spelled.{literal_at}
use Rattle.bound_tree.specs.Exprs.{BoundExpr}
use Rattle.bound_tree.specs.declared.units.BoundAggregate.{BoundAggregate}
use Rattle.bound_tree.specs.declared.units.BoundKey.{BoundKey}
use Rattle.bound_tree.specs.declared.units.BoundUnit.{BoundUnit}
use Rattle.sql_bound.specs.Carriers.{CoreParts, Expression, Name, Number, Other, SpannedExpression, Term}
use Rattle.sql_bound.specs.Cores.{by_number, by_term, clauses_bound, conjuncts_bound, core_of, groups_of, having_bound, is_grouped, keys_bound, numbered, result_aggregates, results_of, scope_of_clause, scope_with}
use Rattle.sql_bound.specs.Declarations.{is_empty}
use Rattle.sql_bound.specs.Groups.{grouped_checked}
use Rattle.sql_bound.specs.Results.{ResultScope, ShownResult, at_place, nothing_shown, place_named, shown_in, text_of}
use Rattle.sql_bound.specs.Scopes.{Outer, Scope}
use Rattle.sql_bound.specs.declared.froms.Found.{Found}
use Rattle.sql_bound.specs.declared.queries.BoundSelect.{BoundSelect}
use Rattle.sql_bound.specs.declared.queries.Shown.{Shown}
use Rattle.sql_bound.specs.declared.scopes.Standing.TheVariants.{Nowhere, Taken}
use Rattle.sql_bound.specs.declared.scopes.Standing.{Standing}
use Rattle.sql_bound.specs.declared.scopes.Work.{Work}
use Rattle.bound_laws.specs.Order.{AggregateIsWithin, CoreIsWithin, GroupsAreWithin, aggregates_of, behind, in_front, widths_of}
use Rattle.bound_laws.specs.Reach.{EachIsWithin, IsWithin, Reach}
use Rattle.bound_laws.proofs.FromLaws.{FoundStays}
use Rattle.bound_laws.proofs.Goods.{GoodCore, GoodExpression, GoodSpanned, IsSilent, SameSlots}
use Rattle.bound_laws.proofs.GrowLaws.{grown, reached_before, stays_here}
use Rattle.bound_laws.proofs.Lists.{BeginsWith, IfThere, member_at}
use Rattle.bound_laws.proofs.ResultLaws.{ShownBinds, ShownIsQuiet, aliases_quiet, all_quiet_in, all_shown_in, clause_fits, results_bind, results_quiet, with_fits}
use Rattle.bound_laws.proofs.States.{AggregateStays, From, Grows, Here, LevelFits, OuterFits, Reached, ScopeFits, Steps, TreeStays, WorkFits, count_in}
use Rattle.bound_laws.proofs.Triples.{Gives, gives, past, refuses, seq}

pub record SelectStays (standing : Standing) (b : BoundSelect) (v : Work) : Type 0 where
  pub found : FoundStays b.found v
  pub conjuncts : (r : Reach) → Reached Nowhere v r → EachIsWithin r (widths_of b.found.items) b.conjuncts
  pub keys : (r : Reach) → Reached Nowhere v r → AllByRecursion (λ (k : BoundKey). IsWithin r (widths_of b.found.items) k.expr) b.keys
  pub having : (r : Reach) → Reached standing v r → EachIsWithin r (widths_of b.found.items) b.having
  pub shown : (r : Reach) → Reached standing v r → EachIsWithin r (widths_of b.found.items) b.shown.trees

pub found_later : (f : Found) (w v : Work) → Grows w v → FoundStays f w → FoundStays f v
found_later f w v g found = record { level = found.level; items = λ r k. found.items r (reached_before _ _ _ _ g k) }

pub select_later : (standing : Standing) (b : BoundSelect) (w v : Work) → Grows w v → SelectStays standing b w → SelectStays standing b v
select_later standing b w v g s = record {
  found = found_later b.found w v g s.found;
  conjuncts = λ r k. s.conjuncts r (reached_before _ _ _ _ g k);
  keys = λ r k. s.keys r (reached_before _ _ _ _ g k);
  having = λ r k. s.having r (reached_before _ _ _ _ g k);
  shown = λ r k. s.shown r (reached_before _ _ _ _ g k);
}

-- ---- behind FROM

module _ (units : List BoundUnit) (outers : List From) (o : Outer) (fits : OuterFits units outers o) (core : CoreParts) (good : GoodCore core) (f : Found) where
  abbrev own : From
  own = widths_of f.items

  abbrev hence : Here
  hence = record { units = units; own = widths_of f.items; outers = outers }

  module _ (here : LevelFits (widths_of f.items) f.level) where
    abbrev clause : Standing → Scope
    clause standing = scope_of_clause standing f.level o core.results

    clause_is_fit : (standing : Standing) → ScopeFits hence (clause standing)
    clause_is_fit standing = clause_fits units outers own f.level o fits here standing core.results good.results

    abbrev EachStays : Standing → List BoundExpr → Work → Type 0
    EachStays standing xs v = (r : Reach) → Reached standing v r → EachIsWithin r own xs

    -- ---- WHERE and HAVING

    where_stays : (x : Option Expression) → IfThere GoodExpression x → (w : Work) → WorkFits hence w → Gives (Steps hence (EachStays Nowhere) w) (conjuncts_bound (clause Nowhere) x w)
    where_stays None there w work = stays_here hence (EachStays Nowhere) w [] work (λ r k. tt)
    where_stays (Some x) there w work =
        seq _ _ _ _ (there.binds hence (clause Nowhere) (clause_is_fit Nowhere) w work) (λ a ha. gives _ _ (record { fits = ha.fits; grows = ha.grows; holds = λ r k. there.splits r own a.0.tree (ha.holds r k) }))

    where_quiet : (x : Option Expression) → IfThere GoodExpression x → (w : Work) → Gives (SameSlots w) (conjuncts_bound (clause Nowhere) x w)
    where_quiet None there w = gives _ _ refl
    where_quiet (Some x) there w =
        seq _ _ _ _ (there.quiet (clause Nowhere) (clause Nowhere).outer (λ t how given. refl) (aliases_quiet f.level o core.results good.results) tt w) (λ a ha. gives _ _ ha)

    having_stays : (standing : Standing) (keys : List BoundKey) (x : Option Expression) → IfThere GoodExpression x → (w : Work) → WorkFits hence w → Gives (Steps hence (EachStays standing) w) (having_bound (clause standing) keys f.level x w)
    having_stays standing keys None there w work = stays_here hence (EachStays standing) w [] work (λ r k. tt)
    having_stays standing keys (Some x) there w work =
        seq _ _ _ _ (there.binds hence (clause standing) (clause_is_fit standing) w work)
        (λ a ha. past (grouped_checked true keys f.level a.0.tree) _ _ (λ u. gives _ _ (record { fits = ha.fits; grows = ha.grows; holds = λ r k. there.splits r own a.0.tree (ha.holds r k) })))

    having_quiet : (standing : Standing) (keys : List BoundKey) (x : Option Expression) → IfThere GoodExpression x → IsSilent standing (is_some x) → (w : Work) → Gives (SameSlots w) (having_bound (clause standing) keys f.level x w)
    having_quiet standing keys None there silent w = gives _ _ refl
    having_quiet Taken keys (Some x) there silent w = let no : true ≡ false = silent in cc
    having_quiet Nowhere keys (Some x) there silent w =
        seq _ _ _ _ (there.quiet (clause Nowhere) (clause Nowhere).outer (λ t how given. refl) (aliases_quiet f.level o core.results good.results) tt w) (λ a ha. past (grouped_checked true keys f.level a.0.tree) _ _ (λ u. gives _ _ ha))

    -- ---- GROUP BY

    abbrev plainly : Scope
    plainly = record (clause Nowhere) { aliases = [] }

    plainly_fit : ScopeFits hence plainly
    plainly_fit = let at = clause_is_fit Nowhere in record { outer = at.outer; aliases = tt }

    abbrev listed : List ShownResult
    listed = shown_in o.text f.level core.results

    numbered_stays : (text : List ℕ) (r : Option ShownResult) → IfThere (ShownBinds hence) r → (w : Work) → WorkFits hence w → Gives (Steps hence (TreeStays Nowhere own) w) (numbered (clause Nowhere) text r w)
    numbered_stays text None there w work = refuses _ _
    numbered_stays text (Some r) there w work = there plainly plainly_fit w work

    at_place_there : {X : Type 0} (P : X → Type 0) (xs : List X) (place : Option ℕ) → AllByRecursion P xs → IfThere P (at_place xs place)
    at_place_there P xs None all = tt
    at_place_there P xs (Some place) all = member_at P xs place all

    by_number_stays : (x : SpannedExpression) (place : Option (Option ℕ)) → GoodSpanned x → (w : Work) → WorkFits hence w → Gives (Steps hence (TreeStays Nowhere own) w) (by_number (clause Nowhere) listed x place w)
    by_number_stays x None g w work = g.binds hence (clause Nowhere) (clause_is_fit Nowhere) w work
    by_number_stays x (Some place) g w work =
        numbered_stays (text_of o.text x.text) (at_place listed place) (at_place_there (ShownBinds hence) listed place (all_shown_in hence o.text f.level core.results here good.results)) w work

    by_term_stays : (x : SpannedExpression) (t : Term) → GoodSpanned x → (w : Work) → WorkFits hence w → Gives (Steps hence (TreeStays Nowhere own) w) (by_term (clause Nowhere) listed x t w)
    by_term_stays x (Number t) g w work = by_number_stays x (place_named (literal_at o.text t)) g w work
    by_term_stays x (Name t) g w work = g.binds hence (clause Nowhere) (clause_is_fit Nowhere) w work
    by_term_stays x Other g w work = g.binds hence (clause Nowhere) (clause_is_fit Nowhere) w work

    abbrev KeysStay : List BoundKey → Work → Type 0
    KeysStay keys v = (r : Reach) → Reached Nowhere v r → AllByRecursion (λ (k : BoundKey). IsWithin r own k.expr) keys

    keys_stay : (xs : List SpannedExpression) → AllByRecursion GoodSpanned xs → (w : Work) → WorkFits hence w → Gives (Steps hence KeysStay w) (keys_bound (clause Nowhere) listed xs w)
    keys_stay [] all w work = stays_here hence KeysStay w [] work (λ r k. tt)
    keys_stay (x ∷ xs) all w work =
        seq _ _ _ _ (by_term_stays x x.expr.term all.0 w work) (λ a ha. seq _ _ _ _ (keys_stay xs all.1 a.1 ha.fits) (λ more hm. gives _ _ (record {
          fits = hm.fits;
          grows = grown _ _ _ ha.grows hm.grows;
          holds = λ r k. (ha.holds r (reached_before _ _ _ _ hm.grows k), hm.holds r k);
        })))

    abbrev plain_results : ResultScope
    plain_results = record { scope = plainly; own = f.level; grouped = false; keys = [] }

    numbered_quiet : (text : List ℕ) (r : Option ShownResult) → IfThere (ShownIsQuiet plain_results o (λ t how given. refl) tt) r → (w : Work) → Gives (SameSlots w) (numbered (clause Nowhere) text r w)
    numbered_quiet text None there w = refuses _ _
    numbered_quiet text (Some r) there w = there w

    expression_quiet : (x : SpannedExpression) → GoodSpanned x → (w : Work) → Gives (SameSlots w) (x.expr.bound (clause Nowhere) w)
    expression_quiet x g w = g.quiet (clause Nowhere) (clause Nowhere).outer (λ t how given. refl) (aliases_quiet f.level o core.results good.results) tt w

    by_number_quiet : (x : SpannedExpression) (place : Option (Option ℕ)) → GoodSpanned x → (w : Work) → Gives (SameSlots w) (by_number (clause Nowhere) listed x place w)
    by_number_quiet x None g w = expression_quiet x g w
    by_number_quiet x (Some place) g w =
        numbered_quiet (text_of o.text x.text) (at_place listed place)
        (at_place_there (ShownIsQuiet plain_results o (λ t how given. refl) tt) listed place (all_quiet_in plain_results o (λ t how given. refl) tt o.text f.level core.results good.results (λ b. tt))) w

    by_term_quiet : (x : SpannedExpression) (t : Term) → GoodSpanned x → (w : Work) → Gives (SameSlots w) (by_term (clause Nowhere) listed x t w)
    by_term_quiet x (Number t) g w = by_number_quiet x (place_named (literal_at o.text t)) g w
    by_term_quiet x (Name t) g w = expression_quiet x g w
    by_term_quiet x Other g w = expression_quiet x g w

    keys_quiet : (xs : List SpannedExpression) → AllByRecursion GoodSpanned xs → (w : Work) → Gives (SameSlots w) (keys_bound (clause Nowhere) listed xs w)
    keys_quiet [] all w = gives _ _ refl
    keys_quiet (x ∷ xs) all w = seq _ _ _ _ (by_term_quiet x x.expr.term all.0 w) (λ a ha. seq _ _ _ _ (keys_quiet xs all.1 a.1) (λ more hm. gives _ _ (hm ∙ ha)))

    -- ---- the results

    abbrev result_scope : Standing → Bool → List BoundKey → ResultScope
    result_scope standing grouped keys = record { scope = scope_with standing f.level o; own = f.level; grouped = grouped; keys = keys }

    abbrev ShownStay : Standing → Shown → Work → Type 0
    ShownStay standing shown v = (r : Reach) → Reached standing v r → EachIsWithin r own shown.trees

    shown_stay : (standing : Standing) (grouped : Bool) (keys : List BoundKey) (w : Work) → WorkFits hence w → Gives (Steps hence (ShownStay standing) w) (results_of standing o core f.level grouped keys w)
    shown_stay standing grouped keys w work =
        results_bind hence (result_scope standing grouped keys) (with_fits units outers own f.level o fits here standing) here core.results nothing_shown w good.results work (λ r k. tt)

    shown_are_quiet : (standing : Standing) (grouped : Bool) (keys : List BoundKey) (w : Work) → IsSilent standing (list_any (result_aggregates o) core.results) → Gives (SameSlots w) (results_of standing o core f.level grouped keys w)
    shown_are_quiet standing grouped keys w silent = results_quiet (result_scope standing grouped keys) o (λ t how given. refl) tt core.results nothing_shown w good.results silent

    -- ---- all of them

    pub clauses_stay : (standing : Standing) (grouped : Bool) (w : Work) → WorkFits hence w → FoundStays f w
        → Gives (λ (r : BoundSelect × Work). (r.0.found ≡ f) × (r.0.grouped ≡ grouped) × Steps hence (SelectStays standing) w r) (clauses_bound standing o core grouped f w)
    clauses_stay standing grouped w work found =
        seq _ _ _ _ (where_stays core.filter good.filter w work) (λ c hc. seq _ _ _ _ (keys_stay core.group_by good.group_by c.1 hc.fits) (λ k hk. seq _ _ _ _ (having_stays standing k.0 core.having good.having k.1 hk.fits)
        (λ x hx. seq _ _ _ _ (shown_stay standing grouped k.0 x.1 hx.fits) (λ s hs. gives _ _ (
          refl,
          refl,
          record {
            fits = hs.fits;
            grows = grown _ _ _ hc.grows (grown _ _ _ hk.grows (grown _ _ _ hx.grows hs.grows));
            holds = record {
              found = found_later f w s.1 (grown _ _ _ hc.grows (grown _ _ _ hk.grows (grown _ _ _ hx.grows hs.grows))) found;
              conjuncts = λ r j. hc.holds r (reached_before _ _ _ _ (grown _ _ _ hk.grows (grown _ _ _ hx.grows hs.grows)) j);
              keys = λ r j. hk.holds r (reached_before _ _ _ _ (grown _ _ _ hx.grows hs.grows) j);
              having = λ r j. hx.holds r (reached_before _ _ _ _ hs.grows j);
              shown = λ r j. hs.holds r j;
            };
          },
        )))))

    pub clauses_quiet : (standing : Standing) (grouped : Bool) (w : Work) → IsSilent standing (is_some core.having) → IsSilent standing (list_any (result_aggregates o) core.results)
        → Gives (SameSlots w) (clauses_bound standing o core grouped f w)
    clauses_quiet standing grouped w no_having no_result =
        seq _ _ _ _ (where_quiet core.filter good.filter w) (λ c hc. seq _ _ _ _ (keys_quiet core.group_by good.group_by c.1) (λ k hk. seq _ _ _ _ (having_quiet standing k.0 core.having good.having no_having k.1)
        (λ x hx. seq _ _ _ _ (shown_are_quiet standing grouped k.0 x.1 no_result) (λ s hs. gives _ _ (hs ∙ hx ∙ hk ∙ hc)))))

-- ---- what is not grouped

four : (a b c d : Bool) → (a || b || c || d) ≡ false → (b ≡ false) × (c ≡ false) × (d ≡ false)
four true b c d h = cc
four false true c d h = cc
four false false true d h = cc
four false false false true h = cc
four false false false false h = (refl, refl, refl)

-- has no HAVING, and no aggregate in its results or its order
pub none_grouped : (o : Outer) (core : CoreParts) (ordered : Bool) → is_grouped o core ordered ≡ false → (is_some core.having ≡ false) × (list_any (result_aggregates o) core.results ≡ false) × (ordered ≡ false)
none_grouped o core ordered h = four (not (is_empty core.group_by)) (is_some core.having) (list_any (result_aggregates o) core.results) ordered h

-- ---- a core

slots_behind : (keys : List BoundKey) (having : List BoundExpr) (slots : List BoundAggregate) (grouped : Bool) → (grouped ≡ false → slots ≡ [])
    → length slots ≤ length (aggregates_of (cond grouped (Some (record { keys = keys; aggregates = slots; having = having })) None))
slots_behind keys having slots true none = omega arith
slots_behind keys having slots false none = let empty : length slots ≡ 0 = ap length (none refl) in omega arith

in_standing : (standing : Standing) (v : Work) (n : ℕ) → length v.aggregates ≤ n → count_in standing v ≤ n
in_standing Nowhere v n h = omega arith
in_standing Taken v n h = h

-- behind the groups all aggregates may be named; where it is not grouped there is none
pub behind_reached : (standing : Standing) (b : BoundSelect) (v : Work) → (b.grouped ≡ false → v.aggregates ≡ []) → (units : List BoundUnit) (arguments : ℕ) → BeginsWith v.units units → length v.needs ≤ arguments
    → Reached standing v (behind units arguments (core_of b v))
behind_reached standing b v none units arguments begins room = record {
  units = begins;
  arguments = room;
  aggregates = in_standing standing v (length (aggregates_of (groups_of b v.aggregates))) (slots_behind b.keys b.having v.aggregates b.grouped none);
}

aggregates_within : (from : From) (v : Work) (r : Reach) → Reached Nowhere v r → (slots : List BoundAggregate) → AllByRecursion (AggregateStays from v) slots → AllByRecursion (AggregateIsWithin r from) slots
aggregates_within from v r k [] all = tt
aggregates_within from v r k (a ∷ slots) all = (all.0 r k, aggregates_within from v r k slots all.1)

pub core_within : (standing : Standing) (b : BoundSelect) (v : Work) → SelectStays standing b v → AllByRecursion (AggregateStays (widths_of b.found.items) v) v.aggregates → (b.grouped ≡ false → v.aggregates ≡ [])
    → (units : List BoundUnit) (arguments : ℕ) → BeginsWith v.units units → length v.needs ≤ arguments → CoreIsWithin units arguments (core_of b v)
core_within standing b v stays slots none units arguments begins room =
    let front : Reached Nowhere v (in_front units arguments) = record { units = begins; arguments = room; aggregates = omega arith } in
    let back = behind_reached standing b v none units arguments begins room in
    record {
      items = stays.found.items (in_front units arguments) front;
      conjuncts = stays.conjuncts (in_front units arguments) front;
      groups = go b.grouped front back;
      results = stays.shown (behind units arguments (core_of b v)) back;
    }
  where
    go : (grouped : Bool) → Reached Nowhere v (in_front units arguments) → Reached standing v (behind units arguments (core_of b v))
        → GroupsAreWithin (in_front units arguments) (behind units arguments (core_of b v)) (widths_of b.found.items) (cond grouped (Some (record { keys = b.keys; aggregates = v.aggregates; having = b.having })) None)
    go true front back = record {
      keys = stays.keys (in_front units arguments) front;
      aggregates = aggregates_within (widths_of b.found.items) v (in_front units arguments) front v.aggregates slots;
      having = stays.having (behind units arguments (core_of b v)) back;
    }
    go false front back = tt
