-- The parts of a query, their order and LIMIT name what is there.
use Rattle.std.proofs.Common.{◌≡◌, ◌∙◌, ◌≤◌, ℕ, Bool, false, List, [], ◌∷◌, ◌++◌, length, map, Some, None, is_some, codes, Ok, Err, refl, sym, ap, subst, arith}
use Rattle.std.specs.List.{AllByRecursion, list_any}
use Rattle.bound_tree.specs.declared.units.BoundCompound.{BoundCompound}
use Rattle.bound_tree.specs.declared.units.BoundPart.TheVariants as bound_part
use Rattle.bound_tree.specs.declared.units.BoundPart.{BoundPart}
use Rattle.bound_tree.specs.declared.units.BoundUnit.{BoundUnit}
use Rattle.sql_bound.specs.Carriers.{CompoundParts, CoreParts, Expression, PartParts, Select, Values}
use Rattle.sql_bound.specs.Compounds.{first_word, others_bound, part_bound, row_bound, rows_behind, trees_in, values_bound, values_given, width_fits}
use Rattle.sql_bound.specs.Limits.{room_behind}
use Rattle.sql_bound.specs.Cores.{clauses_bound, core_of, is_grouped, recursive_select_bound, result_aggregates, select_bound, without_aggregates}
use Rattle.sql_bound.specs.Froms.{Inside, nothing_found}
use Rattle.sql_bound.specs.Scopes.{Answer, scope_over}
use Rattle.sql_bound.specs.declared.froms.Found.{Found}
use Rattle.sql_bound.specs.declared.froms.QueueTable.{QueueTable}
use Rattle.sql_bound.specs.declared.queries.BoundSelect.{BoundSelect}
use Rattle.sql_bound.specs.declared.queries.Given.{Given}
use Rattle.sql_bound.specs.declared.scopes.Operand.{Operand}
use Rattle.sql_bound.specs.declared.scopes.ResultColumn.{ResultColumn}
use Rattle.sql_bound.specs.declared.scopes.Standing.TheVariants.{Nowhere, Taken}
use Rattle.sql_bound.specs.declared.scopes.Standing.{Standing}
use Rattle.sql_bound.specs.declared.scopes.Work.{Work}
use Rattle.bound_laws.specs.Order.{PartIsWithin, in_front, widths_of}
use Rattle.bound_laws.specs.Reach.{EachIsWithin, IsWithin, Reach}
use Rattle.bound_laws.proofs.FromLaws.{FoundStays, items_stay, nothing_stays}
use Rattle.bound_laws.proofs.Goods.{GoodCompound, GoodCore, GoodExpression, GoodPart, IsSilent, SameSlots}
use Rattle.bound_laws.proofs.GrowLaws.{grown, reached_before}
use Rattle.bound_laws.proofs.Lists.{BeginsWith, all_append, begins_added, begins_before}
use Rattle.bound_laws.proofs.OperandLaws.{OperandsAre}
use Rattle.bound_laws.proofs.PlainLaws.{IsPlain, PlainSteps, both, over_from, over_own, plain_here, plain_later}
use Rattle.bound_laws.proofs.SelectLaws.{SelectStays, clauses_quiet, clauses_stay, core_within, none_grouped}
use Rattle.bound_laws.proofs.States.{From, Grows, Here, InsideFits, Reached, Steps, WorkFits}
use Rattle.bound_laws.proofs.Triples.{Gives, gives, past, seq}

-- ---- what stays within the units and arguments that there are at the end

abbrev pub Lasts : (List BoundUnit → ℕ → Type 0) → Work → Type 0
Lasts P v = (units : List BoundUnit) (arguments : ℕ) → BeginsWith v.units units → length v.needs ≤ arguments → P units arguments

pub lasts_later : (P : List BoundUnit → ℕ → Type 0) (w v : Work) → Grows w v → Lasts P w → Lasts P v
lasts_later P w v g h units arguments begins room = h units arguments (begins_before w.units v.units units (begins_added w.units v.units g.units) begins) (omega (arith, g.needs, room))

pub front_reached : (v : Work) (units : List BoundUnit) (arguments : ℕ) → BeginsWith v.units units → length v.needs ≤ arguments → Reached Nowhere v (in_front units arguments)
front_reached v units arguments begins room = record { units = begins; arguments = room; aggregates = omega arith }

abbrev pub PartStays : BoundPart → Work → Type 0
PartStays part v = Lasts (λ units arguments. PartIsWithin units arguments part) v

abbrev pub GivenStays : Given → Work → Type 0
GivenStays g v = PartStays g.part v

abbrev pub OthersStay : List BoundCompound → Work → Type 0
OthersStay cs v = Lasts (λ us arguments. AllByRecursion (λ (c : BoundCompound). PartIsWithin us arguments c.part) cs) v

-- ---- a SELECT, from its FROM on

module _ (units : List BoundUnit) (outers : List From) (i : Inside) (inside : InsideFits units outers i) where
  abbrev pub over : Found → Here
  over f = record { units = units; own = widths_of f.items; outers = outers }

  -- over its own FROM, and without aggregates where it is not grouped
  pub record Selects (standing : Standing) (w : Work) (r : BoundSelect × Work) : Type 0 where
    pub fits : WorkFits (over r.0.found) r.1
    pub grows : Grows w r.1
    pub stays : SelectStays standing r.0 r.1
    pub none : r.0.grouped ≡ false → r.1.aggregates ≡ []

  clauses_select : (standing : Standing) (core : CoreParts) (grouped : Bool) (f : Found) (w v : Work) → GoodCore core → Grows w v → IsPlain units outers v → FoundStays f v
      → (grouped ≡ false → IsSilent standing (is_some core.having) × IsSilent standing (list_any (result_aggregates i.outer) core.results))
      → Gives (Selects standing w) (clauses_bound standing i.outer core grouped f v)
  clauses_select standing core grouped f w v good grows plain found silent =
      go (clauses_bound standing i.outer core grouped f v) (clauses_stay units outers i.outer inside.outer core good f found.level standing grouped v (over_own units outers (widths_of f.items) v plain) found)
      (λ none. clauses_quiet units outers i.outer inside.outer core good f found.level standing grouped v (silent none).0 (silent none).1)
    where
      go : (m : Answer BoundSelect) → Gives (λ (r : BoundSelect × Work). (r.0.found ≡ f) × (r.0.grouped ≡ grouped) × Steps (over f) (SelectStays standing) v r) m → (grouped ≡ false → Gives (SameSlots v) m) → Gives (Selects standing w) m
      go (Ok r) h quiet = record {
        holds = record {
          fits = subst (λ g. WorkFits (over g) r.1) (sym h.holds.0) h.holds.2.fits;
          grows = grown w v r.1 grows h.holds.2.grows;
          stays = h.holds.2.holds;
          none = λ is. (quiet (sym h.holds.1 ∙ is)).holds ∙ plain.none;
        };
      }
      go (Err why) h quiet = record { holds = tt }

  silent_if : (core : CoreParts) (ordered : Bool) → is_grouped i.outer core ordered ≡ false → IsSilent Taken (is_some core.having) × IsSilent Taken (list_any (result_aggregates i.outer) core.results)
  silent_if core ordered h = let all = none_grouped i.outer core ordered h in (all.0, all.1)

  pub select_stays : (core : CoreParts) (ordered : Bool) (w : Work) → GoodCore core → IsPlain units outers w → Gives (λ (r : BoundSelect × Work). Selects Taken w r × (r.0.grouped ≡ false → ordered ≡ false)) (select_bound i core ordered w)
  select_stays core ordered w good plain =
      seq _ _ _ _ (items_stay units outers i inside None core.from nothing_found w good.from (nothing_stays w) plain)
      (λ f hf. both _ _ (clauses_bound Taken i.outer core (is_grouped i.outer core ordered) f.0 f.1)
      (clauses_select Taken core (is_grouped i.outer core ordered) f.0 w f.1 good hf.grows hf.plain hf.holds (silent_if core ordered))
      (told f hf))
    where
      told : (f : Found × Work) → PlainSteps units outers FoundStays w f → Gives (λ (r : BoundSelect × Work). r.0.grouped ≡ false → ordered ≡ false) (clauses_bound Taken i.outer core (is_grouped i.outer core ordered) f.0 f.1)
      told f hf = go (clauses_bound Taken i.outer core (is_grouped i.outer core ordered) f.0 f.1)
          (clauses_stay units outers i.outer inside.outer core good f.0 hf.holds.level Taken (is_grouped i.outer core ordered) f.1 (over_own units outers (widths_of f.0.items) f.1 hf.plain) hf.holds) where
            go : (m : Answer BoundSelect) → Gives (λ (r : BoundSelect × Work). (r.0.found ≡ f.0) × (r.0.grouped ≡ is_grouped i.outer core ordered) × Steps (over f.0) (SelectStays Taken) f.1 r) m → Gives (λ (r : BoundSelect × Work). r.0.grouped ≡ false → ordered ≡ false) m
            go (Ok r) h = record { holds = λ is. (none_grouped i.outer core ordered (sym h.holds.1 ∙ is)).2 }
            go (Err why) h = record { holds = tt }

  pub recursive_stays : (queue : QueueTable) (core : CoreParts) (w : Work) → GoodCore core → IsPlain units outers w → Gives (Selects Nowhere w) (recursive_select_bound i queue core w)
  recursive_stays queue core w good plain =
      seq _ _ _ _ (items_stay units outers i inside (Some queue) core.from nothing_found w good.from (nothing_stays w) plain)
      (λ f hf. clauses_select Nowhere core (is_grouped i.outer core false) f.0 w f.1 good hf.grows hf.plain hf.holds (λ none. (tt, tt)))

  -- the next SELECT begins without aggregates
  pub ended_plain : (own : From) (w v : Work) → WorkFits (record { units = units; own = own; outers = outers }) v → IsPlain units outers (without_aggregates v)
  ended_plain own w v fits = record { fits = record { begins = fits.begins; needs = fits.needs; aggregates = tt }; none = refl }

  pub ended_grows : (w v : Work) → IsPlain units outers w → Grows w v → Grows w (without_aggregates v)
  ended_grows w v plain grows = record { units = grows.units; needs = grows.needs; aggregates = let none : length w.aggregates ≡ 0 = ap length plain.none in omega arith }

  pub core_stays : (standing : Standing) (w : Work) (s : BoundSelect × Work) → Selects standing w s → PartStays (bound_part.Select (core_of s.0 s.1)) (without_aggregates s.1)
  core_stays standing w s selects units_ arguments begins room = core_within standing s.0 s.1 selects.stays selects.fits.aggregates selects.none units_ arguments begins room

  -- ---- VALUES

  abbrev RowStays : List Operand → Work → Type 0
  RowStays row v = (r : Reach) → Reached Nowhere v r → OperandsAre r [] row

  row_stays : (xs : List Expression) (row : List Operand) (w : Work) → AllByRecursion GoodExpression xs → RowStays row w → IsPlain units outers w → Gives (PlainSteps units outers RowStays w) (row_bound (scope_over [] i.outer) xs (row, w))
  row_stays [] row w all stays plain = plain_here units outers RowStays w row plain stays
  row_stays (x ∷ xs) row w all stays plain =
      past (room_behind row) _ _ (λ u. seq _ _ _ _ (over_from units outers [] [] i.outer inside.outer tt x all.0 w plain)
      (λ a ha. plain_later units outers RowStays w a.1 ha.grows (row_bound (scope_over [] i.outer) xs (row ++ a.0 ∷ [], a.1))
      (row_stays xs (row ++ a.0 ∷ []) a.1 all.1 (λ r k. all_append (λ (x : Operand). IsWithin r [] x.tree) row (a.0 ∷ []) (stays r (reached_before _ _ _ _ ha.grows k)) (ha.holds r k, tt)) ha.plain)))

  abbrev RowsStay : List (List Operand) → Work → Type 0
  RowsStay rows v = (r : Reach) → Reached Nowhere v r → AllByRecursion (OperandsAre r []) rows

  more_rows_stay : (width : ℕ) (rows : List (List Expression)) (so_far : List (List Operand)) (w : Work) → AllByRecursion (AllByRecursion GoodExpression) rows → RowsStay so_far w → IsPlain units outers w
      → Gives (PlainSteps units outers RowsStay w) (rows_behind (scope_over [] i.outer) width rows (so_far, w))
  more_rows_stay width [] so_far w all stays plain = plain_here units outers RowsStay w so_far plain stays
  more_rows_stay width (row ∷ rows) so_far w all stays plain =
      seq _ _ _ _ (row_stays row [] w all.0 (λ r k. tt) plain) (λ a ha. past (width_fits (codes "VALUES") width (length a.0)) _ _ (λ u. plain_later units outers RowsStay w a.1 ha.grows (rows_behind (scope_over [] i.outer) width rows (so_far ++ a.0 ∷ [], a.1))
      (more_rows_stay width rows (so_far ++ a.0 ∷ []) a.1 all.1 (λ r k. all_append (OperandsAre r []) so_far (a.0 ∷ []) (stays r (reached_before _ _ _ _ ha.grows k)) (ha.holds r k, tt)) ha.plain)))

  rows_stay : (rows : List (List Expression)) (w : Work) → AllByRecursion (AllByRecursion GoodExpression) rows → IsPlain units outers w → Gives (PlainSteps units outers RowsStay w) (values_bound (scope_over [] i.outer) rows w)
  rows_stay [] w all plain = plain_here units outers RowsStay w [] plain (λ r k. tt)
  rows_stay (row ∷ rows) w all plain =
      seq _ _ _ _ (row_stays row [] w all.0 (λ r k. tt) plain)
      (λ a ha. plain_later units outers RowsStay w a.1 ha.grows (rows_behind (scope_over [] i.outer) (length a.0) rows (a.0 ∷ [], a.1)) (more_rows_stay (length a.0) rows (a.0 ∷ []) a.1 all.1 (λ r k. (ha.holds r k, tt)) ha.plain))

  row_within : (r : Reach) (row : List Operand) → OperandsAre r [] row → EachIsWithin r [] (trees_in row)
  row_within r [] all = tt
  row_within r (a ∷ row) all = (all.0, row_within r row all.1)

  rows_within : (r : Reach) (rows : List (List Operand)) → AllByRecursion (OperandsAre r []) rows → AllByRecursion (EachIsWithin r []) (map trees_in rows)
  rows_within r [] all = tt
  rows_within r (row ∷ rows) all = (row_within r row all.0, rows_within r rows all.1)

  given_stays : (rows : List (List Operand)) (v : Work) → RowsStay rows v → PartStays (values_given rows).part v
  given_stays [] v stays us arguments begins room = tt
  given_stays (row ∷ rows) v stays us arguments begins room = rows_within (in_front us arguments) (row ∷ rows) (stays (in_front us arguments) (front_reached v us arguments begins room))

  -- ---- a part

  pub part_stays : (p : PartParts) (w : Work) → GoodPart p → IsPlain units outers w → Gives (PlainSteps units outers GivenStays w) (part_bound i p w)
  part_stays (Select core) w good plain =
      seq _ _ _ _ (select_stays core false w good plain) (λ s hs. gives _ _ (record {
        plain = ended_plain (widths_of s.0.found.items) w s.1 hs.0.fits;
        grows = ended_grows w s.1 plain hs.0.grows;
        holds = core_stays Taken w s hs.0;
      }))
  part_stays (Values rows) w good plain = seq _ _ _ _ (rows_stay rows w good plain) (λ rs hr. gives _ _ (record { plain = hr.plain; grows = hr.grows; holds = given_stays rs.0 rs.1 hr.holds }))

  pub others_stay : (columns : List ResultColumn) (cs : List CompoundParts) (w : Work) → AllByRecursion GoodCompound cs → IsPlain units outers w → Gives (PlainSteps units outers OthersStay w) (others_bound i columns cs w)
  others_stay columns [] w all plain = plain_here units outers OthersStay w [] plain (λ us arguments begins room. tt)
  others_stay columns (c ∷ cs) w all plain =
      seq _ _ _ _ (part_stays c.part w all.0 plain) (λ g hg. past (width_fits (first_word c.part) (length columns) (length g.0.columns)) _ _ (λ u. seq _ _ _ _ (others_stay columns cs g.1 all.1 hg.plain) (λ more hm. gives _ _ (record {
        plain = hm.plain;
        grows = grown _ _ _ hg.grows hm.grows;
        holds = λ us arguments begins room. (lasts_later (λ us arguments. PartIsWithin us arguments g.0.part) g.1 more.1 hm.grows hg.holds us arguments begins room, hm.holds us arguments begins room);
      }))))
