-- Where the rows of an item come from names what is there.
use Rattle.std.proofs.Common.{nat_eq, ◌≡◌, ◌∙◌, ℕ, zero, suc, ◌+◌, ◌-◌, Bool, true, false, cond, List, [], ◌∷◌, ◌++◌, length, map, Option, Some, None, Ok, Err, refl, sym, ap, subst, arith}
use Rattle.std.specs.List.{AllByRecursion}
use Rattle.std.proofs.lemmas.List.{length-map}
use Rattle.eng_entry.specs.Names.{is_same_name}
use Rattle.eng_entry.specs.declared.entry.Entry.{Entry}
use Rattle.eng_entry.specs.declared.entry.EntryKind.TheVariants as entry_kind
use Rattle.eng_entry.specs.declared.entry.EntryKind.{EntryKind}
use Rattle.sql_tree.specs.declared.statement.TableDefinition.{TableDefinition}
use Rattle.sql_tree.specs.declared.statement.ViewDefinition.{ViewDefinition}
use Rattle.sql_words.specs.Spelled.{name_at}
use Rattle.bound_tree.specs.Exprs.{BoundExpr}
use Rattle.bound_tree.specs.declared.units.BoundSource.TheVariants as bound_source
use Rattle.bound_tree.specs.declared.units.BoundUnit.{BoundUnit}
use Rattle.sql_bound.specs.Carriers as parts
use Rattle.sql_bound.specs.Carriers.{Expression, SourceParts}
use Rattle.sql_bound.specs.Declarations.{definition_of, table_in, table_named, view_in}
use Rattle.eng_value.specs.declared.cause.Cause.TheVariants.{Arity, Misuse}
use Rattle.std.proofs.lemmas.Bool.Decides.{Decides-eqb}
use Rattle.sql_bound.specs.Froms.{renamed, plain_source as source_of_query, arguments_fit, as_columns, columns_told, with_names, without_arguments, Inside, beside_from, module_there, of_catalog, of_entry, of_eponymous, of_module, of_name, of_queue, of_source, of_table, of_view, of_with, or_none, with_source, with_units}
use Rattle.sql_bound.specs.Lasting.{collations_kept}
use Rattle.sql_bound.specs.Refusals.{Checked}
use Rattle.sql_bound.specs.Scopes.{Level, further, handed, with_named}
use Rattle.sql_bound.specs.declared.froms.Found.{Found}
use Rattle.sql_bound.specs.declared.froms.QueueTable.{QueueTable}
use Rattle.sql_bound.specs.declared.froms.Sourced.{Sourced}
use Rattle.sql_bound.specs.declared.scopes.Need.{Need}
use Rattle.sql_bound.specs.declared.scopes.ResultColumn.{ResultColumn}
use Rattle.sql_bound.specs.declared.scopes.Standing.TheVariants.{Nowhere}
use Rattle.sql_bound.specs.declared.scopes.WithEntry.{WithEntry}
use Rattle.sql_bound.specs.declared.scopes.WithMeaning.TheVariants.{Bound, Itself}
use Rattle.sql_bound.specs.declared.scopes.WithMeaning.{WithMeaning}
use Rattle.sql_bound.specs.declared.scopes.Work.{Work}
use Rattle.sql_bound.proofs.HandLaws.{same_aggregates}
use Rattle.bound_laws.specs.Order.{SourceIsWithin, widths_of}
use Rattle.bound_laws.specs.Reach.{EachIsWithin, Reach, Serves}
use Rattle.bound_laws.proofs.Goods.{GoodArguments, GoodExpression, GoodSource}
use Rattle.bound_laws.proofs.HandLaws.{handed_count, handed_fits, handed_units, none_of_nothing, with_units_grown}
use Rattle.bound_laws.proofs.Lists.{IfThere, serves_later}
use Rattle.bound_laws.proofs.NameLaws.{find_kept}
use Rattle.bound_laws.proofs.OperandLaws.{trees_within}
use Rattle.bound_laws.proofs.PlainLaws.{IsPlain, PlainSteps, all_over_from, asked_plain, at, inside_fits, plain_again, plain_here, with_units_plain}
use Rattle.bound_laws.proofs.States.{EntryFits, From, InsideFits, LevelFits, LevelsFit, MeaningFits, NeedFits, NeededFits, NeedsFit, Reached, from_at}
use Rattle.bound_laws.proofs.Triples.{Gives, gives, past, refuses, seq}

-- where no FROM is around nothing is needed
pub nothing_needed : (needs : List Need) → NeedsFit [] needs → needs ≡ []
nothing_needed [] fit = refl
nothing_needed (n ∷ needs) fit = absurd (none_of_nothing n.tree fit.0)

-- ---- what a WITH table needs, from further in

from_behind : (before after : List From) (up : ℕ) → from_at (before ++ after) (up + length before) ≡ from_at after up
from_behind [] after up = let same : up + 0 ≡ up = omega arith in ap (from_at after) same
from_behind (b ∷ before) after up = let next : up + suc (length before) ≡ suc (up + length before) = omega arith in ap (from_at (b ∷ before ++ after)) next ∙ from_behind before after up

further_in : (before after : List From) (n : Need) → NeedFits ([] ∷ after) n → NeedFits ([] ∷ (before ++ after)) (further (length before) n)
further_in before after n fits = go n.up fits where
  go : (up : ℕ) → NeedFits ([] ∷ after) (record n { up = up }) → NeedFits ([] ∷ (before ++ after)) (record n { up = up + length before })
  go zero h = absurd (none_of_nothing n.tree h)
  go (suc up) h =
      let next : suc up + length before ≡ suc (up + length before) = omega arith in
      let same : from_at ([] ∷ (before ++ after)) (suc up + length before) ≡ from_at after up = ap (from_at ([] ∷ (before ++ after))) next ∙ from_behind before after up in
      subst (λ from. NeedFits (from ∷ []) (record n { up = 0 })) (sym same) h

all_further_in : (before after : List From) (needs : List Need) → NeedsFit ([] ∷ after) needs → NeedsFit ([] ∷ (before ++ after)) (map (further (length before)) needs)
all_further_in before after [] fit = tt
all_further_in before after (n ∷ needs) fit = (further_in before after n fit.0, all_further_in before after needs fit.1)

pub levels_count : (outers : List From) (levels : List Level) → LevelsFit outers levels → length levels ≡ length outers
levels_count [] [] fits = refl
levels_count [] (level ∷ levels) fits = absurd fits
levels_count (from ∷ outers) [] fits = absurd fits
levels_count (from ∷ outers) (level ∷ levels) fits = ap suc (levels_count outers levels fits.1)

length_both : (before after : List From) → length (before ++ after) ≡ length before + length after
length_both [] after = omega arith
length_both (b ∷ before) after = omega (arith, length_both before after)

needs_here : (around : ℕ) (outers : List From) (levels : List Level) (needs : List Need) → LevelsFit outers levels → NeededFits around outers needs → NeedsFit ([] ∷ outers) (map (further (length levels - around)) needs)
needs_here around outers levels needs fits needed =
    let count = levels_count outers levels fits in
    let parts : length outers ≡ length needed.before + length needed.after = ap length needed.all ∙ length_both needed.before needed.after in
    let behind : length needed.after ≡ around = needed.count in
    let distance : length needed.before ≡ length levels - around = omega arith in
    subst (λ d. NeedsFit ([] ∷ outers) (map (further d) needs)) distance
    (subst (λ all. NeedsFit ([] ∷ all) (map (further (length needed.before)) needs)) (sym needed.all) (all_further_in needed.before needed.after needs needed.fit))

-- ---- columns by other names are as many

pub columns_length : (cs : List ResultColumn) → length (as_columns cs) ≡ length cs
columns_length [] = refl
columns_length (c ∷ cs) = ap suc (columns_length cs)

renamed_length : (ns : List (List ℕ)) (cs : List ResultColumn) → length ns ≡ length cs → length (renamed ns cs) ≡ length cs
renamed_length [] cs same = same
renamed_length (n ∷ ns) [] same = cc
renamed_length (n ∷ ns) (c ∷ cs) same = let rest : length ns ≡ length cs = cc in ap suc (renamed_length ns cs rest)

pub as_wide : (name : List ℕ) (names : List (List ℕ)) (cs : List ResultColumn) → Gives (λ (ds : List ResultColumn). length ds ≡ length cs) (with_names name names cs)
as_wide name [] cs = gives _ _ refl
as_wide name (n ∷ ns) cs = go (nat_eq (length (n ∷ ns)) (length cs)) (Decides-eqb (length (n ∷ ns)) (length cs)).0 where
  go : (b : Bool) → (b ≡ true → length (n ∷ ns) ≡ length cs) → Gives (λ (ds : List ResultColumn). length ds ≡ length cs) (cond b (Ok (renamed (n ∷ ns) cs)) (Err (Arity name)))
  go true same = gives _ _ (renamed_length (n ∷ ns) cs (same refl))
  go false same = refuses _ _

-- ---- sources

module _ (units : List BoundUnit) (outers : List From) (i : Inside) (inside : InsideFits units outers i) where
  abbrev pub SourceStays : From → Sourced → Work → Type 0
  SourceStays left s v = (r : Reach) → Reached Nowhere v r → SourceIsWithin r left (length s.columns) s.source

  abbrev Result : From → Work → Sourced × Work → Type 0
  Result left w r = PlainSteps units outers (SourceStays left) w r

  -- it names nothing
  plain_source : (left : From) (w : Work) (m : Checked Sourced) → IsPlain units outers w → Gives (λ (s : Sourced). (r : Reach) → SourceIsWithin r left (length s.columns) s.source) m → Gives (Result left w) (with_units m w)
  plain_source left w m plain always = seq _ _ _ _ always (λ s h. plain_here units outers (SourceStays left) w s plain (λ r k. h r))

  table_stays : (left : From) (name : List ℕ) (entry : Entry) (t : Option TableDefinition) → Gives (λ (s : Sourced). (r : Reach) → SourceIsWithin r left (length s.columns) s.source) (of_table i.outer name entry t)
  table_stays left name entry None = refuses _ _
  table_stays left name entry (Some t) = past (collations_kept i.outer.around entry t) _ _ (λ u. gives _ _ (λ r. tt))

  -- a view needs nothing
  view_stays : (left : From) (name : List ℕ) (entry : Entry) (v : Option ViewDefinition) (w : Work) → IsPlain units outers w → Gives (Result left w) (of_view i name entry v w)
  view_stays left name entry None w plain = refuses _ _
  view_stays left name entry (Some v) w plain = seq _ _ _ _ (inside.views entry.name entry.text v.query w.units) (λ a fits. seq _ _ _ _ (as_wide entry.name (map (name_at entry.text) v.columns) a.0.columns) (λ cs wide. gives _ _ (record {
    plain = with_units_plain units outers w a.1 plain fits.adds;
    grows = with_units_grown (at units outers []) Nowhere w a.1 fits.adds;
    holds = λ r k.
        serves_later a.1 r.units a.0.unit 0 (length (as_columns cs)) k.units
        (subst (λ (n : ℕ). Serves a.1 a.0.unit 0 n) (sym (columns_length cs ∙ wide)) (subst (λ (needs : List Need). Serves a.1 a.0.unit (length needs) (length a.0.columns)) (nothing_needed a.0.needs fits.needs) fits.serves));
  })))

  module_stays : (shown name : List ℕ) (table : ℕ) (args : List Expression) (f : Found) (w : Work) → AllByRecursion GoodExpression args → LevelFits (widths_of f.items) f.level → IsPlain units outers w
      → Gives (Result (widths_of f.items) w) (of_module i shown name table args f w)
  module_stays shown name table args f w all here plain =
      past (columns_told i.outer.around.facts name table) _ _ (λ cs. past (arguments_fit name cs args) _ _ (λ v. seq _ _ _ _ (all_over_from units outers (widths_of f.items) f.level i.outer inside.outer here args all w plain)
      (λ xs hx. gives _ _ (record { plain = hx.plain; grows = hx.grows; holds = λ r k. trees_within r (widths_of f.items) xs.0 (hx.holds r k) }))))

  queue_stays : (left : From) (name : List ℕ) (queue : Option QueueTable) (has : Bool) → Gives (λ (s : Sourced). (r : Reach) → SourceIsWithin r left (length s.columns) s.source) (of_queue name queue has)
  queue_stays left name (Some q) true = refuses _ _
  queue_stays left name None has = refuses _ _
  queue_stays left name (Some q) false = go (is_same_name q.name name) where
    go : (b : Bool) → Gives (λ (s : Sourced). (r : Reach) → SourceIsWithin r left (length s.columns) s.source) (cond b (Ok (record (source_of_query (Some name) bound_source.Queue (as_columns q.columns)) { is_queue = true })) (Err (Misuse name)))
    go true = gives _ _ (λ r. tt)
    go false = refuses _ _

  with_source_stays : (left : From) (width : ℕ) (recursive : Bool) (unit : ℕ) (given : List BoundExpr) (r : Reach) → Serves r.units unit (length given) width → EachIsWithin r [] given → SourceIsWithin r left width (with_source recursive unit given)
  with_source_stays left width false unit given r serves all = (serves, all)
  with_source_stays left width true unit given r serves all = (serves, all)

  with_stays : (left : From) (queue : Option QueueTable) (t : WithEntry) (m : WithMeaning) (f : Found) (w : Work) → MeaningFits units outers t.around m → IsPlain units outers w → Gives (Result left w) (of_with i queue t m f w)
  with_stays left queue t Itself f w fits plain = plain_source left w (of_queue t.name queue f.has_queue) plain (queue_stays left t.name queue f.has_queue)
  with_stays left queue t (Bound unit recursive needs cs) f w fits plain =
      let far = map (further (length i.outer.levels - t.around)) needs in
      let here = needs_here t.around outers i.outer.levels needs inside.outer.levels fits.fits in
      let steps = handed_fits (at units outers []) Nowhere far w plain.fits here in
      let start = serves_later units w.units unit (length needs) (length cs) plain.fits.begins fits.serves in
      let serves = handed_units (at units outers []) Nowhere far w unit (length needs) (length cs) plain.fits here start in
      let count : length (handed far w).0 ≡ length needs = handed_count (at units outers []) Nowhere far w ∙ length-map needs (further (length i.outer.levels - t.around)) in
      gives _ _ (record {
        plain = plain_again units outers [] (handed far w).1 steps.fits (same_aggregates far w ∙ plain.none);
        grows = steps.grows;
        holds = λ r k.
            with_source_stays left (length (as_columns cs)) recursive unit (handed far w).0 r
            (serves_later (handed far w).1.units r.units unit (length (handed far w).0) (length (as_columns cs)) k.units
            (subst (λ n. Serves (handed far w).1.units unit (length (handed far w).0) n) (sym (columns_length cs)) (subst (λ n. Serves (handed far w).1.units unit n (length cs)) (sym count) serves))) (steps.holds r k);
      })

  -- ---- by any name

  module _ (f : Found) (here : LevelFits (widths_of f.items) f.level) where
    entry_stays : (name : List ℕ) (entry : Entry) (k : EntryKind) (args : List Expression) (w : Work) → AllByRecursion GoodExpression args → IsPlain units outers w → Gives (Result (widths_of f.items) w) (of_entry i name entry k args f w)
    entry_stays name entry entry_kind.Table args w all plain =
        past (without_arguments entry.name args) _ _ (λ u. plain_source (widths_of f.items) w (of_table i.outer name entry (table_in (definition_of entry))) plain (table_stays (widths_of f.items) name entry (table_in (definition_of entry))))
    entry_stays name entry entry_kind.View args w all plain = past (without_arguments entry.name args) _ _ (λ u. view_stays (widths_of f.items) name entry (view_in (definition_of entry)) w plain)
    entry_stays name entry entry_kind.Module args w all plain = past (module_there entry (i.outer.around.facts.host_module entry.owner)) _ _ (λ u. module_stays entry.name entry.owner entry.number args f w all here plain)
    entry_stays name entry entry_kind.Index args w all plain = refuses _ _
    entry_stays name entry entry_kind.Trigger args w all plain = refuses _ _

    eponymous_stays : (name : List ℕ) (told : Option (Bool × Bool)) (args : List Expression) (w : Work) → AllByRecursion GoodExpression args → IsPlain units outers w → Gives (Result (widths_of f.items) w) (of_eponymous i name told args f w)
    eponymous_stays name None args w all plain = refuses _ _
    eponymous_stays name (Some (true, writable)) args w all plain = module_stays name name 0 args f w all here plain
    eponymous_stays name (Some (false, writable)) args w all plain = refuses _ _

    pub catalog_stays : (name : List ℕ) (entry : Option Entry) (args : List Expression) (w : Work) → AllByRecursion GoodExpression args → IsPlain units outers w → Gives (Result (widths_of f.items) w) (of_catalog i name entry args f w)
    catalog_stays name (Some entry) args w all plain = entry_stays name entry entry.kind args w all plain
    catalog_stays name None args w all plain = eponymous_stays name (i.outer.around.facts.host_module name) args w all plain

    name_stays : (queue : Option QueueTable) (name : List ℕ) (t : Option WithEntry) (args : List Expression) (w : Work) → IfThere (EntryFits units outers) t → AllByRecursion GoodExpression args → IsPlain units outers w
        → Gives (Result (widths_of f.items) w) (of_name i queue name t args f w)
    name_stays queue name (Some t) args w fits all plain = past (without_arguments t.name args) _ _ (λ u. with_stays (widths_of f.items) queue t t.meaning f w fits plain)
    name_stays queue name None args w fits all plain = catalog_stays name (table_named name i.outer.around.catalog) args w all plain

    arguments_good : (args : Option (List Expression)) → GoodArguments args → AllByRecursion GoodExpression (or_none args)
    arguments_good None good = tt
    arguments_good (Some args) good = good

    pub source_stays : (queue : Option QueueTable) (source : SourceParts) (w : Work) → GoodSource source → IsPlain units outers w → Gives (Result (widths_of f.items) w) (of_source i queue source f w)
    source_stays queue (parts.Table t args) w good plain =
        let name = name_at i.outer.text t in
        name_stays queue name (with_named name i.outer.tables) (or_none args) w (find_kept (EntryFits units outers) (λ (e : WithEntry). is_same_name e.name name) i.outer.tables inside.outer.tables) (arguments_good args good) plain
    source_stays queue (parts.Derived q) w good plain =
        seq _ _ _ _ (asked_plain units outers w (q.bound (beside_from i.outer) w.units) plain (good.asks units ([] ∷ outers) (beside_from i.outer) (inside_fits units outers [] [] i.outer inside.outer tt) w.units plain.fits.begins))
        (λ a ha. gives _ _ (record { plain = ha.plain; grows = ha.grows; holds = λ r k. (subst (λ n. Serves r.units a.0.0.unit (length a.0.1) n) (sym (columns_length a.0.0.columns)) (serves_later a.1.units r.units a.0.0.unit (length a.0.1) (length a.0.0.columns) k.units ha.holds.serves), ha.holds.stays r k) }))
