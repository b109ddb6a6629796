-- A query adds units in order, and its own is handed what it takes.
use Rattle.std.proofs.Common.{suc, ◌≡◌, ◌≤◌, ◌<◌, ℕ, nat_eq, Bool, true, false, ◌&&◌, cond, List, [], ◌∷◌, ◌++◌, length, map, position, get_or, Option, Some, None, codes, Ok, Err, refl, sym, ap, subst, arith}
use Rattle.std.specs.List.{AllByRecursion, list_any}
use Rattle.std.proofs.lemmas.Bool.Decides.{Decides-eqb}
use Rattle.std.proofs.lemmas.List.Quantifiers.{position-Some}
use Rattle.std.proofs.Math.ListN.{length-append}
use Rattle.sql_tree.specs.declared.query.CompoundOp.TheVariants as op
use Rattle.sql_tree.specs.declared.query.CompoundOp.{CompoundOp}
use Rattle.sql_words.specs.Spelled.{name_at}
use Rattle.bound_tree.specs.Same.{all_same, both_same, same_collation, same_expr, same_truth}
use Rattle.bound_tree.specs.SameUnits.{same_column, same_compound, same_core, same_part, same_term, same_unit, same_within}
use Rattle.bound_tree.specs.declared.units.BoundCompound.{BoundCompound}
use Rattle.bound_tree.specs.declared.units.BoundTerm.{BoundTerm}
use Rattle.bound_tree.specs.declared.units.BoundUnit.TheVariants.{Queried, Recursed}
use Rattle.bound_tree.specs.declared.units.BoundUnit.{BoundUnit}
use Rattle.sql_bound.specs.Carriers.{CompoundParts, ItemParts, PartParts, Select, TableParts, Values}
use Rattle.sql_bound.specs.Compounds.{width_fits}
use Rattle.sql_bound.specs.Cores.{core_of, without_aggregates}
use Rattle.sql_bound.specs.Froms.{Inside, beside_from, with_names}
use Rattle.sql_bound.specs.Limits.{within_columns}
use Rattle.sql_bound.specs.Queries.{Written, asked_as, body_bound, entered, query_bound, query_in, query_unit, unit_at, with_unit}
use Rattle.sql_bound.specs.Recursions.{Recursive, behind, is_itself, last_naming, named_columns, names_table, naming_itself, part_naming, parts_of_query, recursion_bound, recursion_unit, recursive_by, recursive_in, table_body, table_bound, table_in, unordered}
use Rattle.sql_bound.specs.Scopes.{Bottom, Deeper, Depth, Outer, UnitsAnswer, begun, with_named}
use Rattle.sql_bound.specs.Withs.{seeing, table_asked, table_entry, tables_bound}
use Rattle.sql_bound.specs.declared.queries.BoundLimit.{BoundLimit}
use Rattle.sql_bound.specs.declared.queries.BoundSelect.{BoundSelect}
use Rattle.sql_bound.specs.declared.queries.Gathered.{Gathered}
use Rattle.sql_bound.specs.declared.queries.Given.{Given}
use Rattle.sql_bound.specs.declared.scopes.Asked.{Asked}
use Rattle.sql_bound.specs.declared.scopes.ResultColumn.{ResultColumn}
use Rattle.sql_bound.specs.declared.scopes.Standing.TheVariants.{Nowhere}
use Rattle.sql_bound.specs.declared.scopes.Work.{Work}
use Rattle.bound_laws.specs.Order.{AddsUnits, CoreIsWithin, KeyIsWithin, PartIsWithin, UnitIsWithin, widths_of}
use Rattle.bound_laws.specs.Reach.{Serves, arguments_of, columns_of}
use Rattle.bound_laws.proofs.Goods.{GoodCompound, GoodCore, GoodLimit, GoodPart, GoodQuery, GoodTable, GoodTerm}
use Rattle.bound_laws.proofs.GrowLaws.{grown}
use Rattle.bound_laws.proofs.Lists.{BeginsWith, IfThere, adds_before, adds_nothing, adds_one, all_append, all_weaker, begins_added, begins_itself, serves_at, serves_below, serves_last}
use Rattle.bound_laws.proofs.OrderLaws.{GatheredIs, GatheredStays, LimitStays, limit_stays, parts_stay}
use Rattle.bound_laws.proofs.PartLaws.{GivenStays, OthersStay, Selects, core_stays, ended_grows, ended_plain, lasts_later, others_stay, part_stays, recursive_stays}
use Rattle.bound_laws.proofs.PlainLaws.{IsPlain, PlainSteps, inside_fits, outer_later}
use Rattle.bound_laws.proofs.SourceLaws.{as_wide, columns_length, levels_count}
use Rattle.bound_laws.proofs.States.{AskedFits, Asks, DepthFits, From, Grows, InsideFits, NeedsFit, OuterFits}
use Rattle.bound_laws.proofs.Triples.{Gives, gives, past, refuses, seq}

-- ---- units that are the same take the same

nine : (w n t f o r l s c : Bool) → (w && n && t && f && o && r && l && s && c) ≡ true → n ≡ true
nine w true t f o r l s c h = refl
nine true false t f o r l s c h = cc
nine false false t f o r l s c h = cc

eleven : (w n t f o a p k l s c : Bool) → (w && n && t && f && o && a && p && k && l && s && c) ≡ true → n ≡ true
eleven w true t f o a p k l s c h = refl
eleven true false t f o a p k l s c h = cc
eleven false false t f o a p k l s c h = cc

same_arguments : (u v : BoundUnit) → same_unit u v ≡ true → arguments_of u ≡ arguments_of v
same_arguments (Queried a) (Queried b) h =
    (Decides-eqb a.arguments b.arguments).0
    (nine (same_within a.within b.within) (nat_eq a.arguments b.arguments) (all_same nat_eq a.tables b.tables) (same_part a.first b.first) (all_same same_compound a.others b.others) (all_same same_term a.order b.order) (both_same same_expr a.limit b.limit) (both_same same_expr a.offset b.offset) (all_same same_column a.columns b.columns) h)
same_arguments (Recursed a) (Recursed b) h =
    (Decides-eqb a.arguments b.arguments).0
    (eleven (same_within a.within b.within) (nat_eq a.arguments b.arguments) (all_same nat_eq a.tables b.tables) (same_part a.first b.first) (all_same same_compound a.others b.others) (same_truth a.all b.all) (same_core a.part b.part) (all_same same_collation a.collations b.collations) (both_same same_expr a.limit b.limit) (both_same same_expr a.offset b.offset) (all_same same_column a.columns b.columns) h)
same_arguments (Queried a) (Recursed b) h = cc
same_arguments (Recursed a) (Queried b) h = cc

last_of : (a b : Bool) → (a && b) ≡ true → b ≡ true
last_of true b h = h
last_of false b h = cc

same_length : {A B : Type 0} (same : A → B → Bool) (xs : List A) (ys : List B) → all_same same xs ys ≡ true → length xs ≡ length ys
same_length same [] [] h = refl
same_length same [] (y ∷ ys) h = cc
same_length same (x ∷ xs) [] h = cc
same_length same (x ∷ xs) (y ∷ ys) h = ap suc (same_length same xs ys (last_of (same x y) (all_same same xs ys) h))

same_width : (u v : BoundUnit) → same_unit u v ≡ true → length (columns_of u) ≡ length (columns_of v)
same_width (Queried a) (Queried b) h =
    same_length same_column a.columns b.columns
    (last_of (same_within a.within b.within && nat_eq a.arguments b.arguments && all_same nat_eq a.tables b.tables && same_part a.first b.first && all_same same_compound a.others b.others && all_same same_term a.order b.order && both_same same_expr a.limit b.limit && both_same same_expr a.offset b.offset) (all_same same_column a.columns b.columns) h)
same_width (Recursed a) (Recursed b) h =
    same_length same_column a.columns b.columns
    (last_of (same_within a.within b.within && nat_eq a.arguments b.arguments && all_same nat_eq a.tables b.tables && same_part a.first b.first && all_same same_compound a.others b.others && same_truth a.all b.all && same_core a.part b.part && all_same same_collation a.collations b.collations && both_same same_expr a.limit b.limit && both_same same_expr a.offset b.offset) (all_same same_column a.columns b.columns) h)
same_width (Queried a) (Recursed b) h = cc
same_width (Recursed a) (Queried b) h = cc

record Placed (u : BoundUnit) (units : List BoundUnit) (r : ℕ × List BoundUnit) : Type 0 where
  adds : AddsUnits units r.1
  serves : Serves r.1 r.0 (arguments_of u) (length (columns_of u))

placed : (u : BoundUnit) (units : List BoundUnit) → UnitIsWithin units u → Placed u units (with_unit u units)
placed u units within = go (position (same_unit u) units) (λ place is. position-Some (same_unit u) units place u is) where
  go : (found : Option ℕ) → ((place : ℕ) → found ≡ Some place → (place < length units) × (same_unit u (get_or units place u) ≡ true) × ((k : ℕ) → k < place → same_unit u (get_or units k u) ≡ false)) → Placed u units (unit_at u units found)
  go (Some place) at =
      let h = at place refl in
      record {
        adds = adds_nothing units;
        serves = subst (λ n. Serves units place n (length (columns_of u))) (sym (same_arguments u (get_or units place u) h.1))
            (subst (Serves units place (arguments_of (get_or units place u))) (sym (same_width u (get_or units place u) h.1)) (serves_at units place u h.0));
      }
  go None at = record { adds = adds_one units u within; serves = serves_last units u }

-- what a query comes to whose unit takes what it needs
pub asked_as_fits : (now : List BoundUnit) (outers : List From) (u : BoundUnit) (columns : List ResultColumn) (w : Work) → UnitIsWithin w.units u → arguments_of u ≡ length w.needs → length (columns_of u) ≡ length columns → AddsUnits now w.units → NeedsFit outers w.needs
    → AskedFits now outers (asked_as u columns w)
asked_as_fits now outers u columns w within takes wide adds needs =
    let at = placed u w.units within in
    record { adds = adds_before now w.units (with_unit u w.units).1 adds at.adds; serves = subst (λ n. Serves (with_unit u w.units).1 (with_unit u w.units).0 n (length columns)) takes (subst (Serves (with_unit u w.units).1 (with_unit u w.units).0 (arguments_of u)) wide at.serves); needs = needs }

-- ---- WITH

abbrev AreBelow : List BoundUnit → List ℕ → Type 0
AreBelow units tables = AllByRecursion (λ table. table < length units) tables

added_length : (us vs : List BoundUnit) → AddsUnits us vs → length us ≤ length vs
added_length us vs h = let same : length vs ≡ length (us ++ h.0) = ap length h.1 in omega (arith, length-append us h.0)

below_later : (us vs : List BoundUnit) (tables : List ℕ) → AddsUnits us vs → AreBelow us tables → AreBelow vs tables
below_later us vs tables h all = all_weaker (λ table. table < length us) (λ table. table < length vs) (λ table k. omega (arith, k, added_length us vs h)) tables all

record TablesFit (now : List BoundUnit) (outers : List From) (r : (Inside × List ℕ) × List BoundUnit) : Type 0 where
  inside : InsideFits r.1 outers r.0.0
  tables : AreBelow r.1 r.0.1
  adds : AddsUnits now r.1

-- ---- a query, as it is written

pub record GoodRecursive (r : Recursive) : Type 0 where
  pub front : AllByRecursion GoodCompound r.front
  pub core : GoodCore r.core

pub record GoodWritten (q : Written) : Type 0 where
  pub tables : AllByRecursion GoodTable q.tables
  pub first : GoodPart q.first
  pub others : AllByRecursion GoodCompound q.others
  pub order : AllByRecursion GoodTerm q.order
  pub limit : IfThere GoodLimit q.limit

pub begun_plain : (units : List BoundUnit) (outers : List From) (now : List BoundUnit) → BeginsWith units now → IsPlain units outers (begun now)
begun_plain units outers now begins = record { fits = record { begins = begins; needs = tt; aggregates = tt }; none = refl }

module _ (outers : List From) where
  tables_fit : (ts : List TableParts) → AllByRecursion GoodTable ts → (i : Inside) (now : List BoundUnit) → InsideFits now outers i → (so_far : List ℕ) → AreBelow now so_far → Gives (TablesFit now outers) (tables_bound i so_far ts now)
  tables_fit [] all i now inside so_far below = gives _ _ (record { inside = inside; tables = below; adds = adds_nothing now })
  tables_fit (t ∷ ts) all i now inside so_far below =
      seq _ _ _ _ (one_table t all.0) (λ a found. later a.1 found.adds (tables_bound (seeing (table_entry i (name_at i.outer.text t.name) a) i) (so_far ++ a.0.unit ∷ []) ts a.1)
      (tables_fit ts all.1 (seeing (table_entry i (name_at i.outer.text t.name) a) i) a.1 (seen a found) (so_far ++ a.0.unit ∷ [])
      (all_append (λ table. table < length a.1) so_far (a.0.unit ∷ []) (below_later now a.1 so_far found.adds below) (serves_below a.1 a.0.unit (length a.0.needs) (length a.0.columns) found.serves, tt))))
    where
      one_table : (t : TableParts) → GoodTable t → Gives (AskedFits now ([] ∷ outers)) (table_asked i t now)
      one_table t good =
          past (within_columns t.columns) _ _ (λ cs. good.tables (name_at i.outer.text t.name) (map (name_at i.outer.text) cs) now ([] ∷ outers) (beside_from i.outer) (inside_fits now outers [] [] i.outer inside.outer tt) now (begins_itself now))

      seen : (a : Asked × List BoundUnit) → AskedFits now ([] ∷ outers) a → InsideFits a.1 outers (seeing (table_entry i (name_at i.outer.text t.name) a) i)
      seen a found =
          let o = outer_later now a.1 outers i.outer (begins_added now a.1 found.adds) inside.outer in
          record {
            outer = record {
              levels = o.levels;
              tables = (record { serves = found.serves; fits = record { before = []; after = outers; all = refl; count = sym (levels_count outers i.outer.levels inside.outer.levels); fit = found.needs } }, o.tables);
              depth = o.depth;
            };
            views = inside.views;
          }

      later : (more : List BoundUnit) → AddsUnits now more → (m : UnitsAnswer (Inside × List ℕ)) → Gives (TablesFit more outers) m → Gives (TablesFit now outers) m
      later more adds (Ok r) h = record { holds = record { inside = h.holds.inside; tables = h.holds.tables; adds = adds_before now more r.1 adds h.holds.adds } }
      later more adds (Err why) h = record { holds = tt }

  -- ---- behind its WITH

  module _ (i : Inside) (tables : List ℕ) (q : Written) (good : GoodWritten q) (now : List BoundUnit) (inside : InsideFits now outers i) (below : AreBelow now tables) where
    query_within : (g : Gathered × Work) (l : BoundLimit × Work) → PlainSteps now outers (GatheredStays now outers i inside) (begun now) g → PlainSteps now outers (LimitStays now outers i inside) g.1 l
        → UnitIsWithin l.1.units (query_unit i.outer tables g.0 l.0 l.1)
    query_within g l hg hl =
        let all = lasts_later (λ us arguments. GatheredIs now outers i inside us arguments g.0) g.1 l.1 hl.grows hg.holds l.1.units (length l.1.needs) (begins_itself l.1.units) (omega arith) in
        let limits = hl.holds l.1.units (length l.1.needs) (begins_itself l.1.units) (omega arith) in
        record {
          tables = below_later now l.1.units tables (adds_before now g.1.units l.1.units hg.grows.units hl.grows.units) below;
          first = all.first;
          others = all.others;
          order = subst (λ n. AllByRecursion (λ (t : BoundTerm). KeyIsWithin l.1.units (length l.1.needs) g.0.first n t.key) g.0.order) (sym (columns_length g.0.columns)) all.order;
          limit = limits.count;
          offset = limits.offset;
        }

    pub body_fits : Gives (AskedFits now outers) (body_bound i tables q now)
    body_fits =
        seq _ _ _ _ (parts_stay now outers i inside q.first q.others q.order (begun now) good.first good.others good.order (begun_plain now outers now (begins_itself now)))
        (λ g hg. seq _ _ _ _ (limit_stays now outers i inside q.limit g.1 good.limit hg.plain)
        (λ l hl. gives _ _ (asked_as_fits now outers (query_unit i.outer tables g.0 l.0 l.1) g.0.columns l.1 (query_within g l hg hl) refl (columns_length g.0.columns) (adds_before now g.1.units l.1.units hg.grows.units hl.grows.units) hl.plain.fits.needs)))

    -- ---- a recursive table

    recursion_within : (r : Recursive) (columns : List ResultColumn) (g : Given × Work) (others : List BoundCompound × Work) (s : BoundSelect × Work) (l : BoundLimit × Work)
        → PlainSteps now outers GivenStays (begun now) g → PlainSteps now outers OthersStay g.1 others → Selects now outers i inside Nowhere others.1 s → PlainSteps now outers (LimitStays now outers i inside) (without_aggregates s.1) l
        → UnitIsWithin l.1.units (recursion_unit i.outer tables g.0 others.0 r columns s.0 s.1 l.0 l.1)
    recursion_within r columns g others s l hg ho hs hl =
        let plain : Grows others.1 (without_aggregates s.1) = ended_grows now outers i inside others.1 s.1 ho.plain hs.grows in
        let rest : Grows others.1 l.1 = grown others.1 (without_aggregates s.1) l.1 plain hl.grows in
        let whole : Grows (begun now) l.1 = grown (begun now) g.1 l.1 hg.grows (grown g.1 others.1 l.1 ho.grows rest) in
        let here = begins_itself l.1.units in
        let limits = hl.holds l.1.units (length l.1.needs) here (omega arith) in
        record {
          tables = below_later now l.1.units tables whole.units below;
          first = lasts_later (λ us arguments. PartIsWithin us arguments g.0.part) g.1 l.1 (grown g.1 others.1 l.1 ho.grows rest) hg.holds l.1.units (length l.1.needs) here (omega arith);
          others = lasts_later (λ us arguments. AllByRecursion (λ (c : BoundCompound). PartIsWithin us arguments c.part) others.0) others.1 l.1 rest ho.holds l.1.units (length l.1.needs) here (omega arith);
          part = lasts_later (λ us arguments. CoreIsWithin us arguments (core_of s.0 s.1)) (without_aggregates s.1) l.1 hl.grows (core_stays now outers i inside Nowhere others.1 s hs) l.1.units (length l.1.needs) here (omega arith);
          limit = limits.count;
          offset = limits.offset;
        }

    recursion_fits : (name : List ℕ) (names : List (List ℕ)) (r : Recursive) → GoodRecursive r → Gives (AskedFits now outers) (recursion_bound i tables name names q r now)
    recursion_fits name names r rec =
        seq _ _ _ _ (part_stays now outers i inside q.first (begun now) good.first (begun_plain now outers now (begins_itself now))) (λ g hg.
        seq _ _ _ _ (others_stay now outers i inside g.0.columns r.front g.1 rec.front hg.plain) (λ others ho.
        past (with_names name names g.0.columns) _ _ (λ columns.
        seq _ _ _ _ (recursive_stays now outers i inside (record { name = name; columns = columns }) r.core others.1 rec.core ho.plain) (λ s hs.
        past (width_fits (codes "SELECT") (length columns) (length s.0.shown.columns)) _ _ (λ u.
        past (unordered name q.order) _ _ (λ v.
        seq _ _ _ _ (limit_stays now outers i inside q.limit (without_aggregates s.1) good.limit (ended_plain now outers i inside (widths_of s.0.found.items) others.1 s.1 hs.fits)) (λ l hl.
        let rest : Grows others.1 l.1 = grown others.1 (without_aggregates s.1) l.1 (ended_grows now outers i inside others.1 s.1 ho.plain hs.grows) hl.grows in
        let whole : Grows (begun now) l.1 = grown (begun now) g.1 l.1 hg.grows (grown g.1 others.1 l.1 ho.grows rest) in
        gives _ _ (asked_as_fits now outers (recursion_unit i.outer tables g.0 others.0 r columns s.0 s.1 l.0 l.1) columns l.1 (recursion_within r columns g others s l hg ho hs hl) refl (columns_length columns) whole.units hl.plain.fits.needs))))))))

    renamed_fits : (name : List ℕ) (names : List (List ℕ)) (a : Asked × List BoundUnit) → AskedFits now outers a → Gives (AskedFits now outers) (named_columns name names a)
    renamed_fits name names a found = seq _ _ _ _ (as_wide name names a.0.columns) (λ cs wide. gives _ _ (record { adds = found.adds; serves = subst (Serves a.1 a.0.unit (length a.0.needs)) (sym wide) found.serves; needs = found.needs }))

    pub table_body_fits : (name : List ℕ) (names : List (List ℕ)) (r : Option Recursive) → IfThere GoodRecursive r → Gives (AskedFits now outers) (table_body i tables name names q r now)
    table_body_fits name names (Some r) there = recursion_fits name names r there
    table_body_fits name names None there = seq _ _ _ _ body_fits (λ a found. renamed_fits name names a found)

  -- ---- entered one level deeper

  entered_fits : (o : Outer) (d : Depth) (f : Inside → List BoundUnit → UnitsAnswer Asked) (now : List BoundUnit) → OuterFits now outers o → DepthFits d
      → ((i : Inside) → InsideFits now outers i → Gives (AskedFits now outers) (f i now)) → Gives (AskedFits now outers) (entered o d f now)
  entered_fits o Bottom f now fits depth each = refuses _ _
  entered_fits o (Deeper views below) f now fits depth each =
      each (record { outer = record o { depth = below }; views = views }) (record { outer = record { levels = fits.levels; tables = fits.tables; depth = depth.1 }; views = depth.0 })

  later_asked : (now more : List BoundUnit) → AddsUnits now more → (m : UnitsAnswer Asked) → Gives (AskedFits more outers) m → Gives (AskedFits now outers) m
  later_asked now more adds (Ok a) h = record { holds = record { adds = adds_before now more a.1 adds h.holds.adds; serves = h.holds.serves; needs = h.holds.needs } }
  later_asked now more adds (Err why) h = record { holds = tt }

  query_in_fits : (q : Written) → GoodWritten q → (now : List BoundUnit) (i : Inside) → InsideFits now outers i → Gives (AskedFits now outers) (query_in q i now)
  query_in_fits q good now i inside =
      seq _ _ _ _ (tables_fit q.tables good.tables i now inside [] tt) (λ t ht. later_asked now t.1 ht.adds (body_bound t.0.0 t.0.1 q t.1) (body_fits t.0.0 t.0.1 q good t.1 ht.inside ht.tables))

  -- ---- which part names the table

  part_good : (o : Outer) (name : List ℕ) (all : Bool) (p : PartParts) → GoodPart p → IfThere GoodRecursive (part_naming o name all p)
  part_good o name all (Select core) good = go (list_any (λ (item : ItemParts). names_table o name item.source) core.from) where
    go : (b : Bool) → IfThere GoodRecursive (cond b (Some (record { front = []; all = all; core = core })) None)
    go true = record { front = tt; core = good }
    go false = tt
  part_good o name all (Values rows) good = tt

  by_good : (o : Outer) (name : List ℕ) (k : CompoundOp) (p : PartParts) → GoodPart p → IfThere GoodRecursive (recursive_by o name k p)
  by_good o name op.Union p good = part_good o name false p good
  by_good o name op.UnionAll p good = part_good o name true p good
  by_good o name other p good = tt

  behind_good : (c : CompoundParts) (r : Option Recursive) → GoodCompound c → IfThere GoodRecursive r → IfThere GoodRecursive (behind c r)
  behind_good c None good there = tt
  behind_good c (Some r) good there = record { front = (good, there.front); core = there.core }

  last_good : (o : Outer) (name : List ℕ) (cs : List CompoundParts) → AllByRecursion GoodCompound cs → IfThere GoodRecursive (last_naming o name cs)
  last_good o name [] all = tt
  last_good o name (c ∷ []) all = by_good o name c.op c.part all.0
  last_good o name (c ∷ d ∷ cs) all = behind_good c (last_naming o name (d ∷ cs)) all.0 (last_good o name (d ∷ cs) all.1)

  recursive_good : (o : Outer) (name : List ℕ) (cs : List CompoundParts) → AllByRecursion GoodCompound cs → IfThere GoodRecursive (recursive_in o name cs)
  recursive_good o name cs all = go (is_itself (with_named name o.tables)) where
    go : (b : Bool) → IfThere GoodRecursive (cond b (last_naming o name cs) None)
    go true = last_good o name cs all
    go false = tt

  table_in_fits : (q : Written) → GoodWritten q → (name : List ℕ) (names : List (List ℕ)) (now : List BoundUnit) (i : Inside) → InsideFits now outers i → Gives (AskedFits now outers) (table_in q name names i now)
  table_in_fits q good name names now i inside =
      seq _ _ _ _ (tables_fit q.tables good.tables i now inside [] tt)
      (λ t ht. later_asked now t.1 ht.adds (table_body t.0.0 t.0.1 name names q (recursive_in t.0.0.outer name q.others) t.1)
      (table_body_fits t.0.0 t.0.1 q good t.1 ht.inside ht.tables name names (recursive_in t.0.0.outer name q.others) (recursive_good t.0.0.outer name q.others good.others)))

-- ---- the whole

query_asks : (q : Written) → GoodWritten q → Asks (query_bound q)
query_asks q good units outers o fits now begins =
    let here = outer_later units now outers o begins fits in
    entered_fits outers o o.depth (query_in q) now here here.depth (query_in_fits outers q good now)

table_asks : (q : Written) → GoodWritten q → (name : List ℕ) (names : List (List ℕ)) → Asks (table_bound q name names)
table_asks q good name names units outers o fits now begins =
    let here = outer_later units now outers o begins fits in
    let with_itself : OuterFits now outers (naming_itself name o) = record { levels = here.levels; tables = (tt, here.tables); depth = here.depth } in
    entered_fits outers (naming_itself name o) o.depth (table_in q name names) now with_itself here.depth (table_in_fits outers q good name names now)

pub written_good : (q : Written) → GoodWritten q → GoodQuery (parts_of_query q)
written_good q good = record { asks = query_asks q good; tables = table_asks q good }
