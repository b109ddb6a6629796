-- The order of a query and its LIMIT name what is there, and so do all of its parts.
use Rattle.std.proofs.Common.{◌≡◌, ◌∙◌, ◌<◌, ℕ, Bool, false, List, [], ◌∷◌, length, slice_get, Option, Some, None, Ok, Err, refl, sym, ap, arith}
use Rattle.std.proofs.lemmas.Option.{slice_get_within}
use Rattle.eng_entry.specs.Names.{is_same_name}
use Rattle.std.specs.List.{AllByRecursion}
use Rattle.sql_words.specs.Spelled.{literal_at, name_at}
use Rattle.bound_tree.specs.Exprs.{BoundExpr}
use Rattle.bound_tree.specs.declared.units.BoundCompound.{BoundCompound}
use Rattle.bound_tree.specs.declared.units.BoundPart.TheVariants as bound_part
use Rattle.bound_tree.specs.declared.units.BoundPart.{BoundPart}
use Rattle.bound_tree.specs.declared.units.BoundTerm.{BoundTerm}
use Rattle.bound_tree.specs.declared.units.BoundUnit.{BoundUnit}
use Rattle.bound_tree.specs.declared.units.TermKey.TheVariants as term_key
use Rattle.bound_tree.specs.declared.units.TermKey.{TermKey}
use Rattle.sql_bound.specs.Carriers.{CompoundParts, CoreParts, Expression, LimitParts, Name, Number, Other, PartParts, Select, Term, TermParts, Values}
use Rattle.sql_bound.specs.Compounds.{compound_bound, gathered_alone, parts_bound, select_alone, select_given, values_alone}
use Rattle.sql_bound.specs.Cores.{core_of, scope_with, select_bound}
use Rattle.sql_bound.specs.Froms.{Inside}
use Rattle.sql_bound.specs.Groups.{grouped_checked}
use Rattle.sql_bound.specs.Orders.{is_given, by_alias, by_expression, by_number, by_term, compound_name, compound_number, compound_term, limit_bound, numbered_term, offset_bound, orders_by_aggregate, place_called, place_given, terms_of_compound, terms_of_select}
use Rattle.sql_bound.specs.Refusals.{Checked}
use Rattle.sql_bound.specs.Results.{ShownResult, at_place, place_named, shown_in}
use Rattle.sql_bound.specs.Scopes.{scope_over}
use Rattle.sql_bound.specs.declared.queries.BoundLimit.{BoundLimit}
use Rattle.sql_bound.specs.declared.queries.BoundSelect.{BoundSelect}
use Rattle.sql_bound.specs.declared.queries.Gathered.{Gathered}
use Rattle.sql_bound.specs.declared.scopes.ResultColumn.{ResultColumn}
use Rattle.sql_bound.specs.declared.scopes.Standing.TheVariants.{Taken}
use Rattle.sql_bound.specs.declared.scopes.Work.{Work}
use Rattle.bound_laws.specs.Order.{KeyIsWithin, PartIsWithin, behind, in_front, widths_of}
use Rattle.bound_laws.specs.Reach.{IsWithin, IsWithinIfThere, Reach}
use Rattle.bound_laws.proofs.CountLaws.{ShowsAll, select_shows}
use Rattle.bound_laws.proofs.Goods.{GoodCompound, GoodCore, GoodExpression, GoodLimit, GoodPart, GoodTerm, SameSlots}
use Rattle.bound_laws.proofs.GrowLaws.{grown, reached_before, stays_here}
use Rattle.bound_laws.proofs.Lists.{IfThere, place_within}
use Rattle.bound_laws.proofs.PartLaws.{Lasts, Selects, core_stays, ended_grows, ended_plain, front_reached, lasts_later, others_stay, over, part_stays, select_stays}
use Rattle.bound_laws.proofs.PlainLaws.{IsPlain, PlainSteps, both, over_from, plain_here}
use Rattle.bound_laws.proofs.ResultLaws.{either_false, with_fits}
use Rattle.bound_laws.proofs.SelectLaws.{behind_reached, select_later}
use Rattle.bound_laws.proofs.States.{From, Here, InsideFits, Reached, ScopeFits, Steps, WorkFits}
use Rattle.bound_laws.proofs.Triples.{Gives, gives, past, refuses, seq}

-- ---- terms over one SELECT

abbrev TermIs : Reach → From → ℕ → TermKey → Type 0
TermIs r from n (term_key.Result place) = place < n
TermIs r from n (term_key.Expression a) = IsWithin r from a

abbrev TermStays : From → ℕ → BoundTerm → Work → Type 0
TermStays from n t v = (r : Reach) → Reached Taken v r → TermIs r from n t.key

abbrev TermsStay : From → ℕ → List BoundTerm → Work → Type 0
TermsStay from n ts v = (r : Reach) → Reached Taken v r → AllByRecursion (λ (t : BoundTerm). TermIs r from n t.key) ts

-- one of so many results
abbrev IsResult : ℕ → TermKey → Type 0
IsResult n (term_key.Result place) = place < n
IsResult n (term_key.Expression a) = ⊥

numbered_is : (text : List ℕ) (t : TermParts) (columns : List ResultColumn) (c : Option ResultColumn) (place : Option ℕ) → ((p : ℕ) → place ≡ Some p → slice_get columns p ≡ c)
    → Gives (λ (b : BoundTerm). IsResult (length columns) b.key) (numbered_term text t columns c place)
numbered_is text t columns (Some c) (Some place) is = gives _ _ (slice_get_within columns place c (is place refl))
numbered_is text t columns (Some c) None is = refuses _ _
numbered_is text t columns None place is = refuses _ _

at_place_is : (columns : List ResultColumn) (place : Option ℕ) (p : ℕ) → place ≡ Some p → slice_get columns p ≡ at_place columns place
at_place_is columns place p is = sym (ap (at_place columns) is)

result_is : (r : Reach) (from : From) (n : ℕ) (key : TermKey) → IsResult n key → TermIs r from n key
result_is r from n (term_key.Result place) h = h
result_is r from n (term_key.Expression a) h = absurd h

result_within : (units : List BoundUnit) (arguments : ℕ) (part : BoundPart) (n : ℕ) (key : TermKey) → IsResult n key → KeyIsWithin units arguments part n key
result_within units arguments part n (term_key.Result place) h = h
result_within units arguments part n (term_key.Expression a) h = absurd h

results_within : (units : List BoundUnit) (arguments : ℕ) (part : BoundPart) (n : ℕ) (ts : List BoundTerm) → AllByRecursion (λ (t : BoundTerm). IsResult n t.key) ts → AllByRecursion (λ (t : BoundTerm). KeyIsWithin units arguments part n t.key) ts
results_within units arguments part n [] all = tt
results_within units arguments part n (t ∷ ts) all = (result_within units arguments part n t.key all.0, results_within units arguments part n ts all.1)

-- of a compound
compound_number_is : (text : List ℕ) (t : TermParts) (columns : List ResultColumn) (place : Option (Option ℕ)) → Gives (λ (b : BoundTerm). IsResult (length columns) b.key) (compound_number text t columns place)
compound_number_is text t columns None = refuses _ _
compound_number_is text t columns (Some place) = numbered_is text t columns (at_place columns place) place (at_place_is columns place)

compound_name_is : (text : List ℕ) (t : TermParts) (columns : List ResultColumn) (place : Option ℕ) → ((p : ℕ) → place ≡ Some p → p < length columns) → Gives (λ (b : BoundTerm). IsResult (length columns) b.key) (compound_name text t columns place)
compound_name_is text t columns None at = refuses _ _
compound_name_is text t columns (Some place) at = gives _ _ (at place refl)

compound_is : (text : List ℕ) (columns : List ResultColumn) (t : TermParts) (term : Term) → Gives (λ (b : BoundTerm). IsResult (length columns) b.key) (compound_term text columns t term)
compound_is text columns t (Number n) = compound_number_is text t columns (place_named (literal_at text n))
compound_is text columns t (Name n) = compound_name_is text t columns (place_called (name_at text n) columns) (place_within (λ (c : ResultColumn). is_same_name c.name (name_at text n)) columns)
compound_is text columns t Other = refuses _ _

compounds_are : (text : List ℕ) (columns : List ResultColumn) (ts : List TermParts) → Gives (AllByRecursion (λ (b : BoundTerm). IsResult (length columns) b.key)) (terms_of_compound text columns ts)
compounds_are text columns [] = gives _ _ tt
compounds_are text columns (t ∷ ts) = seq _ _ _ _ (compound_is text columns t t.key.expr.term) (λ a ha. seq _ _ _ _ (compounds_are text columns ts) (λ more hm. gives _ _ (ha, hm)))

if_so : {A : Type 0} (P : A → Type 0) (b : Bool) (m : Checked A) → (b ≡ false → Gives P m) → Gives (λ (a : A). b ≡ false → P a) m
if_so P b (Ok a) h = record { holds = λ is. (h is).holds }
if_so P b (Err why) h = record { holds = tt }

module _ (units : List BoundUnit) (outers : List From) (i : Inside) (inside : InsideFits units outers i) where
  module _ (b : BoundSelect) (hence : Here) (scope : ScopeFits hence (scope_with Taken b.found.level i.outer)) where
    expression_stays : (t : TermParts) → GoodTerm t → (w : Work) → WorkFits hence w → Gives (Steps hence (TermStays hence.own (length b.shown.columns)) w) (by_expression b i.outer t w)
    expression_stays t good w work =
        seq _ _ _ _ (good.binds hence (scope_with Taken b.found.level i.outer) scope w work) (λ a ha. past (grouped_checked b.grouped b.keys b.found.level a.0.tree) _ _ (λ u. gives _ _ (record { fits = ha.fits; grows = ha.grows; holds = λ r j. ha.holds r j })))

    by_result_stays : (t : BoundTerm) (w : Work) → WorkFits hence w → IsResult (length b.shown.columns) t.key → Gives (Steps hence (TermStays hence.own (length b.shown.columns)) w) (Ok (t, w))
    by_result_stays t w work is = stays_here hence (TermStays hence.own (length b.shown.columns)) w t work (λ r k. result_is r hence.own (length b.shown.columns) t.key is)

    by_number_stays : (t : TermParts) (place : Option (Option ℕ)) → GoodTerm t → (w : Work) → WorkFits hence w → Gives (Steps hence (TermStays hence.own (length b.shown.columns)) w) (by_number b i.outer t place w)
    by_number_stays t None good w work = expression_stays t good w work
    by_number_stays t (Some place) good w work = seq _ _ _ _ (numbered_is i.outer.text t b.shown.columns (at_place b.shown.columns place) place (at_place_is b.shown.columns place)) (λ a is. by_result_stays a w work is)

    by_alias_stays : (t : TermParts) (place : Option ℕ) → ((p : ℕ) → place ≡ Some p → p < length b.shown.columns) → GoodTerm t → (w : Work) → WorkFits hence w → Gives (Steps hence (TermStays hence.own (length b.shown.columns)) w) (by_alias b i.outer t place w)
    by_alias_stays t None at good w work = expression_stays t good w work
    by_alias_stays t (Some place) at good w work = stays_here hence (TermStays hence.own (length b.shown.columns)) w _ work (λ r k. at place refl)

    term_stays : (results : List ShownResult) → length results ≡ length b.shown.columns → (t : TermParts) (term : Term) → GoodTerm t → (w : Work) → WorkFits hence w → Gives (Steps hence (TermStays hence.own (length b.shown.columns)) w) (by_term b i.outer results t term w)
    term_stays results all_shown t (Number n) good w work = by_number_stays t (place_named (literal_at i.outer.text n)) good w work
    term_stays results all_shown t (Name n) good w work =
        by_alias_stays t (place_given (name_at i.outer.text n) results) (λ p is. let at = place_within (is_given (name_at i.outer.text n)) results p is in omega arith) good w work
    term_stays results all_shown t Other good w work = expression_stays t good w work

    terms_stay : (results : List ShownResult) → length results ≡ length b.shown.columns → (ts : List TermParts) → AllByRecursion GoodTerm ts → (w : Work) → WorkFits hence w → Gives (Steps hence (TermsStay hence.own (length b.shown.columns)) w) (terms_of_select b i.outer results ts w)
    terms_stay results all_shown [] all w work = stays_here hence (TermsStay hence.own (length b.shown.columns)) w [] work (λ r k. tt)
    terms_stay results all_shown (t ∷ ts) all w work =
        seq _ _ _ _ (term_stays results all_shown t t.key.expr.term all.0 w work) (λ a ha. seq _ _ _ _ (terms_stay results all_shown ts all.1 a.1 ha.fits) (λ more hm. gives _ _ (record {
          fits = hm.fits;
          grows = grown _ _ _ ha.grows hm.grows;
          holds = λ r k. (ha.holds r (reached_before _ _ _ _ hm.grows k), hm.holds r k);
        })))

  -- ---- without aggregates

  module _ (b : BoundSelect) where
    expression_quiet : (t : TermParts) → GoodTerm t → t.key.expr.aggregates i.outer ≡ false → (w : Work) → Gives (SameSlots w) (by_expression b i.outer t w)
    expression_quiet t good none w =
        seq _ _ _ _ (good.quiet (scope_with Taken b.found.level i.outer) i.outer (λ t how given. refl) tt none w) (λ a ha. past (grouped_checked b.grouped b.keys b.found.level a.0.tree) _ _ (λ u. gives _ _ ha))

    by_number_quiet : (t : TermParts) (place : Option (Option ℕ)) → GoodTerm t → t.key.expr.aggregates i.outer ≡ false → (w : Work) → Gives (SameSlots w) (by_number b i.outer t place w)
    by_number_quiet t None good none w = expression_quiet t good none w
    by_number_quiet t (Some place) good none w = past (numbered_term i.outer.text t b.shown.columns (at_place b.shown.columns place) place) _ _ (λ a. gives _ _ refl)

    by_alias_quiet : (t : TermParts) (place : Option ℕ) → GoodTerm t → t.key.expr.aggregates i.outer ≡ false → (w : Work) → Gives (SameSlots w) (by_alias b i.outer t place w)
    by_alias_quiet t None good none w = expression_quiet t good none w
    by_alias_quiet t (Some place) good none w = gives _ _ refl

    term_quiet : (results : List ShownResult) (t : TermParts) (term : Term) → GoodTerm t → t.key.expr.aggregates i.outer ≡ false → (w : Work) → Gives (SameSlots w) (by_term b i.outer results t term w)
    term_quiet results t (Number n) good none w = by_number_quiet t (place_named (literal_at i.outer.text n)) good none w
    term_quiet results t (Name n) good none w = by_alias_quiet t (place_given (name_at i.outer.text n) results) good none w
    term_quiet results t Other good none w = expression_quiet t good none w

    terms_quiet : (results : List ShownResult) (ts : List TermParts) → AllByRecursion GoodTerm ts → orders_by_aggregate i.outer ts ≡ false → (w : Work) → Gives (SameSlots w) (terms_of_select b i.outer results ts w)
    terms_quiet results [] all none w = gives _ _ refl
    terms_quiet results (t ∷ ts) all none w =
        let each = either_false (t.key.expr.aggregates i.outer) (orders_by_aggregate i.outer ts) none in
        seq _ _ _ _ (term_quiet results t t.key.expr.term all.0 each.0 w) (λ a ha. seq _ _ _ _ (terms_quiet results ts all.1 each.1 a.1) (λ more hm. gives _ _ (hm ∙ ha)))

  -- ---- all parts

  pub record GatheredIs (us : List BoundUnit) (arguments : ℕ) (g : Gathered) : Type 0 where
    pub first : PartIsWithin us arguments g.first
    pub others : AllByRecursion (λ (c : BoundCompound). PartIsWithin us arguments c.part) g.others
    pub order : AllByRecursion (λ (t : BoundTerm). KeyIsWithin us arguments g.first (length g.columns) t.key) g.order

  abbrev pub GatheredStays : Gathered → Work → Type 0
  GatheredStays g v = Lasts (λ us arguments. GatheredIs us arguments g) v

  key_within : (us : List BoundUnit) (arguments : ℕ) (b : BoundSelect) (v : Work) (n : ℕ) (key : TermKey) → TermIs (behind us arguments (core_of b v)) (widths_of b.found.items) n key → KeyIsWithin us arguments (bound_part.Select (core_of b v)) n key
  key_within us arguments b v n (term_key.Result place) h = h
  key_within us arguments b v n (term_key.Expression a) h = h

  keys_within : (us : List BoundUnit) (arguments : ℕ) (b : BoundSelect) (v : Work) (n : ℕ) (ts : List BoundTerm) → AllByRecursion (λ (t : BoundTerm). TermIs (behind us arguments (core_of b v)) (widths_of b.found.items) n t.key) ts
      → AllByRecursion (λ (t : BoundTerm). KeyIsWithin us arguments (bound_part.Select (core_of b v)) n t.key) ts
  keys_within us arguments b v n [] all = tt
  keys_within us arguments b v n (t ∷ ts) all = (key_within us arguments b v n t.key all.0, keys_within us arguments b v n ts all.1)

  abbrev Result : Work → Gathered × Work → Type 0
  Result w r = PlainSteps units outers GatheredStays w r

  alone_stays : (core : CoreParts) (ts : List TermParts) (w : Work) → GoodCore core → AllByRecursion GoodTerm ts → IsPlain units outers w → Gives (Result w) (select_alone i core ts w)
  alone_stays core ts w good all plain =
      seq _ _ _ _ (both _ _ (select_bound i core (orders_by_aggregate i.outer ts) w) (select_stays units outers i inside core (orders_by_aggregate i.outer ts) w good plain) (select_shows i core (orders_by_aggregate i.outer ts) w))
      (λ s hs. seq _ _ _ _ (ordered s hs.0.0 hs.1) (λ o ho. gives _ _ (ends s hs.0.0 hs.0.1 o ho.0 ho.1)))
    where
      ordered : (s : BoundSelect × Work) → Selects units outers i inside Taken w s → ShowsAll i.outer core s
          → Gives (λ (o : List BoundTerm × Work). Steps (over units outers i inside s.0.found) (TermsStay (widths_of s.0.found.items) (length s.0.shown.columns)) s.1 o × (orders_by_aggregate i.outer ts ≡ false → SameSlots s.1 o)) (terms_of_select s.0 i.outer (shown_in i.outer.text s.0.found.level core.results) ts s.1)
      ordered s hs all_shown =
          both _ _ (terms_of_select s.0 i.outer (shown_in i.outer.text s.0.found.level core.results) ts s.1)
          (terms_stay s.0 (over units outers i inside s.0.found) (with_fits units outers (widths_of s.0.found.items) s.0.found.level i.outer inside.outer hs.stays.found.level Taken) (shown_in i.outer.text s.0.found.level core.results) all_shown ts all s.1 hs.fits)
          (if_so (SameSlots s.1) (orders_by_aggregate i.outer ts) (terms_of_select s.0 i.outer (shown_in i.outer.text s.0.found.level core.results) ts s.1) (λ none. terms_quiet s.0 (shown_in i.outer.text s.0.found.level core.results) ts all none s.1))

      ends : (s : BoundSelect × Work) → Selects units outers i inside Taken w s → (s.0.grouped ≡ false → orders_by_aggregate i.outer ts ≡ false)
          → (o : List BoundTerm × Work) → Steps (over units outers i inside s.0.found) (TermsStay (widths_of s.0.found.items) (length s.0.shown.columns)) s.1 o → (orders_by_aggregate i.outer ts ≡ false → SameSlots s.1 o)
          → Result w (let given = select_given s.0 o.1 in (gathered_alone given.0 o.0, given.1))
      ends s hs unordered o ho same =
          let grows = grown w s.1 o.1 hs.grows ho.grows in
          let none : s.0.grouped ≡ false → o.1.aggregates ≡ [] = λ is. same (unordered is) ∙ hs.none is in
          let selects : Selects units outers i inside Taken w (s.0, o.1) = record { fits = ho.fits; grows = grows; stays = select_later Taken s.0 s.1 o.1 ho.grows hs.stays; none = none } in
          record {
            plain = ended_plain units outers i inside (widths_of s.0.found.items) w o.1 ho.fits;
            grows = ended_grows units outers i inside w o.1 plain grows;
            holds = λ us arguments begins room. record {
              first = core_stays units outers i inside Taken w (s.0, o.1) selects us arguments begins room;
              others = tt;
              order = keys_within us arguments s.0 o.1 (length s.0.shown.columns) o.0 (ho.holds (behind us arguments (core_of s.0 o.1)) (behind_reached Taken s.0 o.1 none us arguments begins room));
            };
          }

  values_stay : (rows : List (List Expression)) (ts : List TermParts) (w : Work) → AllByRecursion (AllByRecursion GoodExpression) rows → IsPlain units outers w → Gives (Result w) (values_alone i rows ts w)
  values_stay rows ts w all plain =
      seq _ _ _ _ (part_stays units outers i inside (Values rows) w all plain) (λ g hg. seq _ _ _ _ (compounds_are i.outer.text g.0.columns ts) (λ o ho. gives _ _ (record {
        plain = hg.plain;
        grows = hg.grows;
        holds = λ us arguments begins room. record { first = hg.holds us arguments begins room; others = tt; order = results_within us arguments g.0.part (length g.0.columns) o ho };
      })))

  compound_stays : (first : PartParts) (others : List CompoundParts) (ts : List TermParts) (w : Work) → GoodPart first → AllByRecursion GoodCompound others → IsPlain units outers w → Gives (Result w) (compound_bound i first others ts w)
  compound_stays first others ts w good all plain =
      seq _ _ _ _ (part_stays units outers i inside first w good plain) (λ g hg. seq _ _ _ _ (others_stay units outers i inside g.0.columns others g.1 all hg.plain) (λ more hm. seq _ _ _ _ (compounds_are i.outer.text g.0.columns ts) (λ o ho. gives _ _ (record {
        plain = hm.plain;
        grows = grown _ _ _ hg.grows hm.grows;
        holds = λ us arguments begins room. record {
          first = lasts_later (λ us arguments. PartIsWithin us arguments g.0.part) g.1 more.1 hm.grows hg.holds us arguments begins room;
          others = hm.holds us arguments begins room;
          order = results_within us arguments g.0.part (length g.0.columns) o ho;
        };
      }))))

  pub parts_stay : (first : PartParts) (others : List CompoundParts) (ts : List TermParts) (w : Work) → GoodPart first → AllByRecursion GoodCompound others → AllByRecursion GoodTerm ts → IsPlain units outers w → Gives (Result w) (parts_bound i first others ts w)
  parts_stay (Select core) [] ts w good all terms plain = alone_stays core ts w good terms plain
  parts_stay (Values rows) [] ts w good all terms plain = values_stay rows ts w good plain
  parts_stay (Select core) (c ∷ cs) ts w good all terms plain = compound_stays (Select core) (c ∷ cs) ts w good all plain
  parts_stay (Values rows) (c ∷ cs) ts w good all terms plain = compound_stays (Values rows) (c ∷ cs) ts w good all plain

  -- ---- LIMIT

  pub record LimitIs (us : List BoundUnit) (arguments : ℕ) (l : BoundLimit) : Type 0 where
    pub count : IsWithinIfThere (in_front us arguments) [] l.count
    pub offset : IsWithinIfThere (in_front us arguments) [] l.offset

  abbrev pub LimitStays : BoundLimit → Work → Type 0
  LimitStays l v = Lasts (λ us arguments. LimitIs us arguments l) v

  abbrev OffsetStays : Option BoundExpr → Work → Type 0
  OffsetStays f v = Lasts (λ us arguments. IsWithinIfThere (in_front us arguments) [] f) v

  offset_stays : (x : Option Expression) (w : Work) → IfThere GoodExpression x → IsPlain units outers w → Gives (PlainSteps units outers OffsetStays w) (offset_bound (scope_over [] i.outer) x w)
  offset_stays None w there plain = plain_here units outers OffsetStays w None plain (λ us arguments begins room. tt)
  offset_stays (Some x) w there plain =
      seq _ _ _ _ (over_from units outers [] [] i.outer inside.outer tt x there w plain)
      (λ a ha. gives _ _ (record { plain = ha.plain; grows = ha.grows; holds = λ us arguments begins room. ha.holds (in_front us arguments) (front_reached a.1 us arguments begins room) }))

  pub limit_stays : (l : Option LimitParts) (w : Work) → IfThere GoodLimit l → IsPlain units outers w → Gives (PlainSteps units outers LimitStays w) (limit_bound i.outer l w)
  limit_stays None w there plain = plain_here units outers LimitStays w _ plain (λ us arguments begins room. record { count = tt; offset = tt })
  limit_stays (Some l) w there plain =
      seq _ _ _ _ (over_from units outers [] [] i.outer inside.outer tt l.count there.count w plain) (λ c hc. seq _ _ _ _ (offset_stays l.offset c.1 there.offset hc.plain) (λ f hf. gives _ _ (record {
        plain = hf.plain;
        grows = grown _ _ _ hc.grows hf.grows;
        holds = λ us arguments begins room. record { count = hc.holds (in_front us arguments) (reached_before _ _ _ _ hf.grows (front_reached f.1 us arguments begins room)); offset = hf.holds us arguments begins room };
      })))
