-- Writes with the triggers that they fire, each opened once, name what is there.
use Rattle.std.proofs.Common.{◌≡◌, ◌≤◌, ◌<◌, ℕ, zero, suc, Bool, true, false, List, [], ◌∷◌, length, map, slice_set, Option, Some, None, codes, Ok, Err, refl, sym, subst, arith}
use Rattle.std.specs.Bool.{⊤}
use Rattle.std.specs.List.{AllByRecursion}
use Rattle.std.specs.Option.{option_map}
use Rattle.std.proofs.Math.ListN.{length-append}
use Rattle.std.proofs.lemmas.List.{length-map, length-set}
use Rattle.eng_entry.specs.Names.{is_same_name}
use Rattle.eng_entry.specs.declared.entry.Entry.{Entry}
use Rattle.sql_tree.specs.declared.expr.Expr.{Expr}
use Rattle.sql_tree.specs.declared.statement.Assignment.{Assignment}
use Rattle.sql_tree.specs.declared.statement.InsertSource.TheVariants as source
use Rattle.sql_tree.specs.declared.statement.InsertSource.{InsertSource}
use Rattle.sql_tree.specs.declared.statement.RowCommand.TheVariants as rows_by
use Rattle.sql_tree.specs.declared.statement.RowCommand.{RowCommand}
use Rattle.sql_tree.specs.declared.statement.TriggerDefinition.{TriggerDefinition}
use Rattle.bound_tree.specs.Exprs.{BoundExpr}
use Rattle.bound_tree.specs.declared.units.BoundUnit.{BoundUnit}
use Rattle.bound_tree.specs.declared.writes.BoundStep.{BoundStep}
use Rattle.bound_tree.specs.declared.writes.BoundTrigger.{BoundTrigger}
use Rattle.bound_tree.specs.declared.writes.BoundWrite.{BoundWrite}
use Rattle.bound_tree.specs.declared.writes.FiringEvent.TheVariants.{AtDelete, AtInsert, AtUpdate}
use Rattle.bound_tree.specs.declared.writes.FiringEvent.{FiringEvent}
use Rattle.sql_bound.specs.Carriers.{Deletes, Expression, Inserts, Queries, RowParts, SetParts, TriggerParts, Updates}
use Rattle.sql_bound.specs.Declarations.{definition_of, trigger_in}
use Rattle.sql_bound.specs.Froms.{scope_item}
use Rattle.sql_bound.specs.Limits.{most_queries}
use Rattle.sql_bound.specs.Refusals.{Checked}
use Rattle.sql_bound.specs.Scopes.{Answer, Around, Level, Outer, begun}
use Rattle.sql_bound.specs.Trees.{of_assignment, of_insert_source, of_option, of_rows, of_trigger}
use Rattle.sql_bound.specs.Triggers.{row_scope, behind_others, condition_bound, event_of, header_of, opened_now, opened_or, opening_of, outer_of, place_of_trigger, rows_seen, step_bound, steps_bound, trigger_at_place, trigger_of, with_trigger, write_step}
use Rattle.sql_bound.specs.Writes.{Begun, Opened, Opening, captures_of, delete_begun, fired_all, fired_one, fires, insert_begun, update_begun, write_bound}
use Rattle.sql_bound.specs.declared.froms.Sourced.{Sourced}
use Rattle.sql_bound.specs.declared.scopes.Need.{Need}
use Rattle.bound_laws.specs.Order.{AddsUnits, in_front}
use Rattle.bound_laws.specs.Reach.{EachIsWithin, IsWithinIfThere, Serves}
use Rattle.bound_laws.specs.Writes.{StepIsWithin, TriggerIsWithin, WriteIsWithin}
use Rattle.bound_laws.proofs.FromLaws.{item_at}
use Rattle.bound_laws.proofs.Goods.{GoodExpression, GoodQuery}
use Rattle.bound_laws.proofs.HandLaws.{column_within, none_of_nothing}
use Rattle.bound_laws.proofs.Lists.{place_within, BeginsWith, IfThere, adds_before, adds_nothing, all_append, all_weaker, begins_added, begins_before, begins_itself, serves_later}
use Rattle.bound_laws.proofs.PlainLaws.{IsPlain, PlainSteps, over_from}
use Rattle.bound_laws.proofs.QueryLaws.{begun_plain}
use Rattle.bound_laws.proofs.States.{From, IsColumnOf, ItemFits, LevelFits, NeedFits, NeedsFit, OuterFits, from_at}
use Rattle.bound_laws.proofs.TargetLaws.{nought_reached}
use Rattle.bound_laws.proofs.TreeLaws.{expression_is_good, query_is_good}
use Rattle.bound_laws.proofs.Triples.{Gives, gives, refuses, seq}
use Rattle.bound_laws.proofs.ViewLaws.{levels_fit}
use Rattle.bound_laws.proofs.WriteLaws.{BegunFits, GoodRows, delete_stays, insert_stays, update_stays}

-- ---- what is opened stays within what comes

abbrev pub Stands : (List BoundUnit → ℕ → Type 0) → Opened → Type 0
Stands P op = (us : List BoundUnit) (n : ℕ) → BeginsWith op.units us → length op.triggers ≤ n → P us n

pub record Opens (op now : Opened) : Type 0 where
  pub units : AddsUnits op.units now.units
  pub triggers : length op.triggers ≤ length now.triggers

opens_nothing : (op : Opened) → Opens op op
opens_nothing op = record { units = adds_nothing op.units; triggers = omega arith }

opens : (a b c : Opened) → Opens a b → Opens b c → Opens a c
opens a b c h k = record { units = adds_before a.units b.units c.units h.units k.units; triggers = omega (arith, h.triggers, k.triggers) }

stands_later : (P : List BoundUnit → ℕ → Type 0) (a b : Opened) → Opens a b → Stands P a → Stands P b
stands_later P a b h stands us n begins room = stands us n (begins_before a.units b.units us (begins_added a.units b.units h.units) begins) (omega (arith, h.triggers, room))

abbrev TriggerStands : Opened → BoundTrigger → Type 0
TriggerStands op t = Stands (λ us n. TriggerIsWithin us n t) op

abbrev pub OpenedFits : Opened → Type 0
OpenedFits op = AllByRecursion (TriggerStands op) op.triggers

triggers_later : (a b : Opened) → Opens a b → (ts : List BoundTrigger) → AllByRecursion (TriggerStands a) ts → AllByRecursion (TriggerStands b) ts
triggers_later a b h ts = all_weaker (TriggerStands a) (TriggerStands b) (λ t. stands_later (λ us n. TriggerIsWithin us n t) a b h) ts

-- of which this holds, and every trigger so far
pub record OpenSteps {A : Type 0} (T : A → Opened → Type 0) (op : Opened) (r : A × Opened) : Type 0 where
  pub fits : OpenedFits r.1
  pub opens : Opens op r.1
  pub holds : T r.0 r.1

steps_later : {A : Type 0} (T : A → Opened → Type 0) (a b : Opened) → Opens a b → (m : Checked (A × Opened)) → Gives (OpenSteps T b) m → Gives (OpenSteps T a) m
steps_later T a b h (Ok r) k = record { holds = record { fits = k.holds.fits; opens = opens a b r.1 h k.holds.opens; holds = k.holds.holds } }
steps_later T a b h (Err why) k = record { holds = tt }

units_opened : (op : Opened) (units : List BoundUnit) → AddsUnits op.units units → Opens op (record op { units = units })
units_opened op units adds = record { units = adds; triggers = omega arith }

abbrev IsPlace : ℕ → Opened → Type 0
IsPlace place op = place < length op.triggers

abbrev pub OpensWell : Opening → Type 0
OpensWell opening = (s : Sourced) (entry : Entry) (op : Opened) → OpenedFits op → Gives (OpenSteps IsPlace op) (opening s entry op)

-- ---- what is needed is brought by the row of the trigger, if it stands in one

-- no more than one FROM is around
abbrev pub rows_of : List From → From
rows_of [] = []
rows_of (rows ∷ outers) = rows

abbrev pub IsOutermost : List From → Type 0
IsOutermost [] = ⊤
IsOutermost (rows ∷ []) = ⊤
IsOutermost (rows ∷ more ∷ outers) = ⊥

need_within : (outers : List From) → IsOutermost outers → (n : Need) → NeedFits outers n → IsColumnOf (rows_of outers) n.tree
need_within [] outermost n fits = absurd (none_of_nothing n.tree fits)
need_within (rows ∷ []) outermost n fits = go n.up fits where
  go : (up : ℕ) → IsColumnOf (from_at (rows ∷ []) up) n.tree → IsColumnOf rows n.tree
  go zero h = h
  go (suc up) h = absurd (none_of_nothing n.tree h)
need_within (rows ∷ more ∷ outers) outermost n fits = absurd outermost

captures_within : (outers : List From) → IsOutermost outers → (us : List BoundUnit) (needs : List Need) → NeedsFit outers needs → EachIsWithin (in_front us 0) (rows_of outers) (captures_of needs)
captures_within outers outermost us [] fit = tt
captures_within outers outermost us (n ∷ needs) fit = (column_within (in_front us 0) (rows_of outers) n.tree (need_within outers outermost n fit.0), captures_within outers outermost us needs fit.1)

captures_count : (needs : List Need) → length (captures_of needs) ≡ length needs
captures_count needs = length-map needs (λ (n : Need). n.tree)

-- ---- a write with the triggers that it fires

module _ (opening : Opening) (well : OpensWell opening) (around : Around) (outers : List From) (outermost : IsOutermost outers) where
  abbrev Places : List ℕ → Opened → Type 0
  Places places op = AllByRecursion (λ place. place < length op.triggers) places

  places_later : (places : List ℕ) (a b : Opened) → Opens a b → Places places a → Places places b
  places_later places a b h = all_weaker (λ place. place < length a.triggers) (λ place. place < length b.triggers) (λ place k. omega (arith, k, h.triggers)) places

  one_fired : (b : Begun) (fires_it : Bool) (entry : Entry) (places : List ℕ) (op : Opened) → OpenedFits op → Places places op → Gives (OpenSteps Places op) (fired_one opening b fires_it entry (places, op))
  one_fired b false entry places op fits at = gives _ _ (record { fits = fits; opens = opens_nothing op; holds = at })
  one_fired b true entry places op fits at =
      seq _ _ _ _ (well b.target.source entry op fits) (λ p hp. gives _ _ (record {
        fits = hp.fits;
        opens = hp.opens;
        holds = all_append (λ place. place < length p.1.triggers) places (p.0 ∷ []) (places_later places op p.1 hp.opens at) (hp.holds, tt);
      }))

  all_fired : (b : Begun) (entries : List Entry) (places : List ℕ) (op : Opened) → OpenedFits op → Places places op → Gives (OpenSteps Places op) (fired_all opening around b entries (places, op))
  all_fired b [] places op fits at = gives _ _ (record { fits = fits; opens = opens_nothing op; holds = at })
  all_fired b (entry ∷ entries) places op fits at =
      seq _ _ _ _ (one_fired b (fires around b entry) entry places op fits at)
      (λ next hn. steps_later Places op next.1 hn.opens (fired_all opening around b entries next) (all_fired b entries next.0 next.1 hn.fits hn.holds))

  abbrev WriteStands : BoundWrite → Opened → Type 0
  WriteStands w op = Stands (λ us n. WriteIsWithin us n (rows_of outers) w) op

  pub write_stands : (counts : Bool) (m : Answer Begun) (op : Opened) → OpenedFits op → Gives (PlainSteps op.units outers BegunFits (begun op.units)) m → Gives (OpenSteps WriteStands op) (write_bound opening around counts m op)
  write_stands counts m op fits begins_well =
      seq _ _ _ _ begins_well (λ b hb.
      let start : Opened = record op { units = b.1.units } in
      let first = units_opened op b.1.units hb.grows.units in
      seq _ _ _ _ (all_fired b.0 around.catalog.triggers [] start (triggers_later op start first op.triggers fits) tt) (λ f hf. gives _ _ (record {
        fits = hf.fits;
        opens = opens op start f.1 first hf.opens;
        holds = λ us n begins room.
            let behind : BeginsWith b.1.units us = begins_before b.1.units f.1.units us (begins_added b.1.units f.1.units hf.opens.units) begins in
            record {
              target = hb.holds.target us behind;
              captures = captures_within outers outermost us b.1.needs hb.plain.fits.needs;
              change = hb.holds.change us (length (captures_of b.1.needs)) behind (let same = captures_count b.1.needs in omega arith);
              fires = all_weaker (λ place. place < length f.1.triggers) (λ place. place < n) (λ place k. omega (arith, k, room)) f.0 hf.holds;
            };
      })))

  -- ---- the body of a trigger

  module _ (o : Outer) (here : (units : List BoundUnit) → OuterFits units outers o) where
    abbrev StepStands : BoundStep → Opened → Type 0
    StepStands s op = Stands (λ us n. StepIsWithin us n (rows_of outers) s) op

    written : (m : Answer Begun) (op : Opened) → OpenedFits op → Gives (PlainSteps op.units outers BegunFits (begun op.units)) m → Gives (OpenSteps StepStands op) (write_step opening around m op)
    written m op fits begins_well = seq _ _ _ _ (write_stands false m op fits begins_well) (λ b hb. gives _ _ (record { fits = hb.fits; opens = hb.opens; holds = λ us n begins room. hb.holds us n begins room }))

    start_plain : (units : List BoundUnit) → IsPlain units outers (begun units)
    start_plain units = begun_plain units outers units (begins_itself units)

    step_stands : (c : RowParts) (op : Opened) → GoodRows c → OpenedFits op → Gives (OpenSteps StepStands op) (step_bound opening around o c op)
    step_stands (Queries q) op good fits =
        seq _ _ _ _ (good.asks op.units outers o (here op.units) op.units (begins_itself op.units)) (λ a ha.
        let first = units_opened op a.1 ha.adds in
        gives _ _ (record {
          fits = triggers_later op (record op { units = a.1 }) first op.triggers fits;
          opens = first;
          holds = λ us n begins room.
              ((length a.0.columns, serves_later a.1 us a.0.unit (length (captures_of a.0.needs)) (length a.0.columns) begins (subst (λ n. Serves a.1 a.0.unit n (length a.0.columns)) (sym (captures_count a.0.needs)) ha.serves)), captures_within outers outermost us a.0.needs ha.needs);
        }))
    step_stands (Inserts i) op good fits = written (insert_begun o i (begun op.units)) op fits (insert_stays op.units outers o (here op.units) i (begun op.units) good (start_plain op.units) refl)
    step_stands (Updates u) op good fits = written (update_begun o u (begun op.units)) op fits (update_stays op.units outers o (here op.units) u (begun op.units) good (start_plain op.units) refl)
    step_stands (Deletes d) op good fits = written (delete_begun o d (begun op.units)) op fits (delete_stays op.units outers o (here op.units) d (begun op.units) good (start_plain op.units) refl)

    abbrev StepsStand : List BoundStep → Opened → Type 0
    StepsStand ss op = Stands (λ us n. AllByRecursion (StepIsWithin us n (rows_of outers)) ss) op

    pub steps_stand : (cs : List RowParts) (op : Opened) → AllByRecursion GoodRows cs → OpenedFits op → Gives (OpenSteps StepsStand op) (steps_bound opening around o cs op)
    steps_stand [] op all fits = gives _ _ (record { fits = fits; opens = opens_nothing op; holds = λ us n begins room. tt })
    steps_stand (c ∷ cs) op all fits =
        seq _ _ _ _ (step_stands c op all.0 fits) (λ b hb. seq _ _ _ _ (steps_stand cs b.1 all.1 hb.fits) (λ more hm. gives _ _ (record {
          fits = hm.fits;
          opens = opens op b.1 more.1 hb.opens hm.opens;
          holds = λ us n begins room. (stands_later (λ us n. StepIsWithin us n (rows_of outers) b.0) b.1 more.1 hm.opens hb.holds us n begins room, hm.holds us n begins room);
        })))

-- ---- a trigger is opened

pub record GoodTrigger (t : TriggerParts) : Type 0 where
  pub condition : IfThere GoodExpression t.condition
  pub body : AllByRecursion GoodRows t.body

abbrev old_and_new : Sourced → From
old_and_new s = length s.columns ∷ length s.columns ∷ []

row_at : (from : From) (item : ℕ) (name : List ℕ) (s : Sourced) → ItemFits from (scope_item item (Some name) s) → ItemFits from (row_scope item name s)
row_at from item name s fits = record { columns = fits.columns; rowid = fits.rowid }

rows_fit : (event : FiringEvent) (s : Sourced) → LevelFits (old_and_new s) (rows_seen event s)
rows_fit AtDelete s = (row_at (old_and_new s) 0 (codes "old") s (item_at (old_and_new s) 0 (Some (codes "old")) s (λ p h. h) tt), tt)
rows_fit AtInsert s = (row_at (old_and_new s) 1 (codes "new") s (item_at (old_and_new s) 1 (Some (codes "new")) s (λ p h. h) tt), tt)
rows_fit AtUpdate s = (
  row_at (old_and_new s) 0 (codes "old") s (item_at (old_and_new s) 0 (Some (codes "old")) s (λ p h. h) tt),
  (row_at (old_and_new s) 1 (codes "new") s (item_at (old_and_new s) 1 (Some (codes "new")) s (λ p h. h) tt), tt),
)

alone_fits : (units : List BoundUnit) (around : Around) (entry : Entry) → OuterFits units [] (outer_of around entry [])
alone_fits units around entry = record { levels = tt; tables = tt; depth = levels_fit around most_queries }

body_fits : (around : Around) (entry : Entry) (event : FiringEvent) (s : Sourced) (units : List BoundUnit) → OuterFits units (old_and_new s ∷ []) (outer_of around entry (rows_seen event s ∷ []))
body_fits around entry event s units = record { levels = (rows_fit event s, tt); tables = tt; depth = levels_fit around most_queries }

abbrev ConditionStands : From → Option BoundExpr → Opened → Type 0
ConditionStands rows c op = Stands (λ us n. IsWithinIfThere (in_front us 0) rows c) op

condition_stands : (around : Around) (entry : Entry) (rows : From) (level : Level) (x : Option Expression) (op : Opened) → LevelFits rows level → IfThere GoodExpression x → OpenedFits op
    → Gives (OpenSteps (ConditionStands rows) op) (condition_bound around entry level x op)
condition_stands around entry rows level None op here there fits = gives _ _ (record { fits = fits; opens = opens_nothing op; holds = λ us n begins room. tt })
condition_stands around entry rows level (Some x) op here there fits =
    seq _ _ _ _ (over_from op.units [] rows level (outer_of around entry []) (alone_fits op.units around entry) here x there (begun op.units) (begun_plain op.units [] op.units (begins_itself op.units))) (λ a ha.
    let first = units_opened op a.1.units ha.grows.units in
    gives _ _ (record {
      fits = triggers_later op (record op { units = a.1.units }) first op.triggers fits;
      opens = first;
      holds = λ us n begins room. ha.holds (in_front us 0) (nought_reached op.units a.1 us ha.plain begins);
    }))

all_set : {X : Type 0} (P : X → Type 0) (xs : List X) (place : ℕ) (x : X) → AllByRecursion P xs → P x → AllByRecursion P (slice_set xs place x)
all_set P [] place x all h = tt
all_set P (y ∷ xs) zero x all h = (h, all.1)
all_set P (y ∷ xs) (suc place) x all h = (all.0, all_set P xs place x all.1 h)

module _ (opening : Opening) (well : OpensWell opening) (around : Around) (s : Sourced) (entry : Entry) (t : TriggerParts) (good : GoodTrigger t) (op : Opened) (fits : OpenedFits op) where
  abbrev header : BoundTrigger
  header = header_of entry s t

  abbrev begun_here : Opened
  begun_here = behind_others (header_of entry s t) op

  header_opens : Opens op begun_here
  header_opens = record { units = adds_nothing op.units; triggers = omega (arith, length-append op.triggers (header ∷ [])) }

  header_fits : OpenedFits begun_here
  header_fits = all_append (TriggerStands begun_here) op.triggers (header ∷ []) (triggers_later op begun_here header_opens op.triggers fits) ((λ us n begins room. record { condition = tt; body = tt }), tt)

  ends : (c : Option BoundExpr × Opened) (b : List BoundStep × Opened) → OpenSteps (ConditionStands (old_and_new s)) begun_here c → OpenSteps (λ (ss : List BoundStep) now. Stands (λ us n. AllByRecursion (StepIsWithin us n (old_and_new s)) ss) now) c.1 b
      → OpenSteps IsPlace op (length op.triggers, with_trigger (length op.triggers) (record header { condition = c.0; body = b.0 }) b.1)
  ends c b hc hb =
      let made : BoundTrigger = record header { condition = c.0; body = b.0 } in
      let last : Opened = with_trigger (length op.triggers) made b.1 in
      let count : length last.triggers ≡ length b.1.triggers = length-set b.1.triggers (length op.triggers) made in
      let put : Opens b.1 last = record { units = adds_nothing b.1.units; triggers = omega arith } in
      let rest : Opens c.1 last = opens c.1 b.1 last hb.opens put in
      record {
        fits = all_set (TriggerStands last) b.1.triggers (length op.triggers) made (triggers_later b.1 last put b.1.triggers hb.fits)
            (λ us n begins room. record {
              condition = stands_later (λ us n. IsWithinIfThere (in_front us 0) (old_and_new s) c.0) c.1 last rest hc.holds us n begins room;
              body = stands_later (λ us n. AllByRecursion (StepIsWithin us n (old_and_new s)) b.0) b.1 last put hb.holds us n begins room;
            });
        opens = opens op begun_here last header_opens (opens begun_here c.1 last hc.opens rest);
        holds = omega (arith, hc.opens.triggers, hb.opens.triggers, length-append op.triggers (header ∷ []));
      }

  pub trigger_stands : Gives (OpenSteps IsPlace op) (trigger_at_place opening around s entry t (length op.triggers) op)
  trigger_stands =
      seq _ _ _ _ (condition_stands around entry (old_and_new s) (rows_seen (event_of t.event) s) t.condition begun_here (rows_fit (event_of t.event) s) good.condition header_fits) (λ c hc.
      seq _ _ _ _ (steps_stand opening well around (old_and_new s ∷ []) tt (outer_of around entry (rows_seen (event_of t.event) s ∷ [])) (body_fits around entry (event_of t.event) s) t.body c.1 good.body hc.fits) (λ b hb. gives _ _ (ends c b hc hb)))

-- ---- as triggers and rows are written

if_good : (x : Option Expr) → IfThere GoodExpression (of_option x)
if_good None = tt
if_good (Some x) = expression_is_good x

source_good : (i : InsertSource) → IfThere GoodQuery (of_insert_source i)
source_good (source.Query q) = query_is_good q
source_good source.Defaults = tt

sets_good : (as_ : List Assignment) → AllByRecursion (λ (a : SetParts). GoodExpression a.value) (map of_assignment as_)
sets_good [] = tt
sets_good (a ∷ as_) = (expression_is_good a.value, sets_good as_)

pub rows_good : (r : RowCommand) → GoodRows (of_rows r)
rows_good (rows_by.Query q) = query_is_good q
rows_good (rows_by.Insert i) = source_good i.source
rows_good (rows_by.Update u) = record { sets = sets_good u.assignments; filter = if_good u.filter }
rows_good (rows_by.Delete d) = if_good d.filter

body_good : (rs : List RowCommand) → AllByRecursion GoodRows (map of_rows rs)
body_good [] = tt
body_good (r ∷ rs) = (rows_good r, body_good rs)

trigger_good : (t : TriggerDefinition) → GoodTrigger (of_trigger t)
trigger_good t = record { condition = if_good t.condition; body = body_good t.body }

if_trigger_good : (t : Option TriggerDefinition) → IfThere GoodTrigger (option_map of_trigger t)
if_trigger_good None = tt
if_trigger_good (Some t) = trigger_good t

-- ---- so many triggers are not opened yet

opened_before_or : (found : Option ℕ) (op : Opened) (now : Checked (ℕ × Opened)) → OpenedFits op → ((place : ℕ) → found ≡ Some place → place < length op.triggers) → Gives (OpenSteps IsPlace op) now → Gives (OpenSteps IsPlace op) (opened_or found op now)
opened_before_or (Some place) op now fits at later = gives _ _ (record { fits = fits; opens = opens_nothing op; holds = at place refl })
opened_before_or None op now fits at later = later

now_stands : (opening : Opening) → OpensWell opening → (around : Around) (s : Sourced) (entry : Entry) (t : Option TriggerParts) (op : Opened) → IfThere GoodTrigger t → OpenedFits op → Gives (OpenSteps IsPlace op) (opened_now opening around s entry t op)
now_stands opening well around s entry None op good fits = refuses _ _
now_stands opening well around s entry (Some t) op good fits = trigger_stands opening well around s entry t good op fits

pub opening_well : (around : Around) (n : ℕ) → OpensWell (opening_of trigger_of around n)
opening_well around zero s entry op fits =
    opened_before_or (place_of_trigger entry.name op.triggers) op _ fits (place_within (λ (t : BoundTrigger). is_same_name t.name entry.name) op.triggers) (refuses _ _)
opening_well around (suc n) s entry op fits =
    opened_before_or (place_of_trigger entry.name op.triggers) op _ fits (place_within (λ (t : BoundTrigger). is_same_name t.name entry.name) op.triggers)
    (now_stands (opening_of trigger_of around n) (opening_well around n) around s entry (trigger_of entry) op (if_trigger_good (trigger_in (definition_of entry))) fits)
