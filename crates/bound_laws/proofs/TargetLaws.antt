-- What a write writes names what is there, before anything is needed.
use Rattle.std.proofs.Common.{◌≡◌, ◌∙◌, ℕ, Bool, true, false, List, [], ◌∷◌, length, map, Option, Some, None, Ok, Err, refl, sym, ap, subst, arith}
use Rattle.std.specs.List.{AllByRecursion}
use Rattle.eng_entry.specs.declared.entry.Entry.{Entry}
use Rattle.eng_entry.specs.declared.entry.EntryKind.TheVariants as entry_kind
use Rattle.eng_entry.specs.declared.entry.EntryKind.{EntryKind}
use Rattle.sql_tree.specs.declared.expr.Expr.{Expr}
use Rattle.sql_tree.specs.declared.statement.TableDefinition.{TableDefinition}
use Rattle.sql_tree.specs.declared.statement.ViewDefinition.{ViewDefinition}
use Rattle.sql_words.specs.Spelled.{name_at}
use Rattle.bound_tree.specs.Exprs.{BoundExpr}
use Rattle.bound_tree.specs.declared.units.BoundColumn.{BoundColumn}
use Rattle.bound_tree.specs.declared.units.BoundUnit.{BoundUnit}
use Rattle.bound_tree.specs.declared.writes.FiringEvent.TheVariants.{AtDelete, AtInsert, AtUpdate}
use Rattle.bound_tree.specs.declared.writes.FiringEvent.{FiringEvent}
use Rattle.sql_bound.specs.Declarations.{DeclaredColumn, DeclaredTable, declared_table, definition_of, table_in, table_named, view_in}
use Rattle.sql_bound.specs.Froms.{Inside, arguments_fit, columns_told, module_there, nothing_found, of_catalog, of_entry, of_eponymous, of_module, of_table, of_view, scope_item, with_names, with_units}
use Rattle.sql_bound.specs.Limits.{most_queries}
use Rattle.sql_bound.specs.Refusals.{Checked}
use Rattle.sql_bound.specs.Scopes.{Answer, Around, Level, Outer}
use Rattle.sql_bound.specs.Targets.{Firing, Target, checks_bound, constraint_bound, declared_target, default_bound, defaults_bound, in_check, in_default, inside_write, may_write_module, may_write_view, plain_target, shown_name, table_target, target_bound, target_of}
use Rattle.sql_bound.specs.Trees.{full_depth, of_expr, outer_at}
use Rattle.sql_bound.specs.declared.froms.Sourced.{Sourced}
use Rattle.sql_bound.specs.declared.scopes.Allowed.{Allowed}
use Rattle.sql_bound.specs.declared.scopes.Standing.TheVariants.{Nowhere}
use Rattle.sql_bound.specs.declared.scopes.Work.{Work}
use Rattle.bound_laws.specs.Order.{in_front, width_of}
use Rattle.bound_laws.specs.Reach.{EachIsWithin, IsWithin, IsWithinIfThere}
use Rattle.bound_laws.specs.Writes.{TargetIsWithin}
use Rattle.bound_laws.proofs.FromLaws.{item_at}
use Rattle.bound_laws.proofs.GrowLaws.{grown, not_grown}
use Rattle.bound_laws.proofs.Lists.{BeginsWith, begins_added, begins_before}
use Rattle.bound_laws.proofs.PlainLaws.{IsPlain, PlainSteps, both, over_from}
use Rattle.bound_laws.proofs.SourceLaws.{SourceStays, catalog_stays, nothing_needed}
use Rattle.bound_laws.proofs.States.{From, Grows, InsideFits, LevelFits, NeedsFit, OuterFits, Reached}
use Rattle.bound_laws.proofs.TreeLaws.{expression_is_good}
use Rattle.bound_laws.proofs.Triples.{Gives, gives, past, refuses, seq}
use Rattle.bound_laws.proofs.ViewLaws.{levels_fit, view_asks}

-- ---- nothing is needed of what is around

pub plain_around : (units : List BoundUnit) (outers others : List From) (w : Work) → w.needs ≡ [] → IsPlain units outers w → IsPlain units others w
plain_around units outers others w none plain = record {
  fits = record { begins = plain.fits.begins; needs = subst (NeedsFit others) (sym none) tt; aggregates = plain.fits.aggregates };
  none = plain.none;
}

abbrev SameNeeds : {A : Type 0} → Work → A × Work → Type 0
SameNeeds w r = r.1.needs ≡ w.needs

module _ (i : Inside) (w : Work) where
  with_units_needs : (m : Checked Sourced) → Gives (SameNeeds w) (with_units m w)
  with_units_needs m = past m _ _ (λ s. gives _ _ refl)

  module_needs : (shown name : List ℕ) (table : ℕ) → Gives (SameNeeds w) (of_module i shown name table [] nothing_found w)
  module_needs shown name table = past (columns_told i.outer.around.facts name table) _ _ (λ cs. past (arguments_fit name cs []) _ _ (λ u. gives _ _ refl))

  view_needs : (name : List ℕ) (entry : Entry) (v : Option ViewDefinition) → Gives (SameNeeds w) (of_view i name entry v w)
  view_needs name entry None = refuses _ _
  view_needs name entry (Some v) = past (i.views entry.name entry.text v.query w.units) _ _ (λ a. past (with_names entry.name (map (name_at entry.text) v.columns) a.0.columns) _ _ (λ cs. gives _ _ refl))

  entry_needs : (name : List ℕ) (entry : Entry) (k : EntryKind) → Gives (SameNeeds w) (of_entry i name entry k [] nothing_found w)
  entry_needs name entry entry_kind.Table = with_units_needs (of_table i.outer name entry (table_in (definition_of entry)))
  entry_needs name entry entry_kind.View = view_needs name entry (view_in (definition_of entry))
  entry_needs name entry entry_kind.Module = past (module_there entry (i.outer.around.facts.host_module entry.owner)) _ _ (λ u. module_needs entry.name entry.owner entry.number)
  entry_needs name entry entry_kind.Index = refuses _ _
  entry_needs name entry entry_kind.Trigger = refuses _ _

  eponymous_needs : (name : List ℕ) (told : Option (Bool × Bool)) → Gives (SameNeeds w) (of_eponymous i name told [] nothing_found w)
  eponymous_needs name None = refuses _ _
  eponymous_needs name (Some (true, writable)) = module_needs name name 0
  eponymous_needs name (Some (false, writable)) = refuses _ _

  catalog_needs : (name : List ℕ) (entry : Option Entry) → Gives (SameNeeds w) (of_catalog i name entry [] nothing_found w)
  catalog_needs name (Some entry) = entry_needs name entry entry.kind
  catalog_needs name None = eponymous_needs name (i.outer.around.facts.host_module name)

-- ---- constraints, in the text of their table

text_fits : (units : List BoundUnit) (around : Around) (text : List ℕ) (allowed : Allowed) → OuterFits units [] (outer_at around (full_depth around) text [] allowed)
text_fits units around text allowed = record { levels = tt; tables = tt; depth = levels_fit around most_queries }

-- whatever units come
abbrev Endures : (List BoundUnit → Type 0) → Work → Type 0
Endures P v = (us : List BoundUnit) → BeginsWith v.units us → P us

endures_later : (P : List BoundUnit → Type 0) (w v : Work) → Grows w v → Endures P w → Endures P v
endures_later P w v g h us begins = h us (begins_before w.units v.units us (begins_added w.units v.units g.units) begins)

pub nought_reached : (units : List BoundUnit) (v : Work) (us : List BoundUnit) → IsPlain units [] v → BeginsWith v.units us → Reached Nowhere v (in_front us 0)
nought_reached units v us plain begins = record { units = begins; arguments = let none : length v.needs ≡ 0 = ap length (nothing_needed v.needs plain.fits.needs) in omega arith; aggregates = omega arith }

module _ (units : List BoundUnit) (around : Around) (text : List ℕ) where
  constraint_within : (own : From) (level : Level) (allowed : Allowed) (x : Expr) (w : Work) → LevelFits own level → IsPlain units [] w
      → Gives (PlainSteps units [] (λ (a : BoundExpr) v. Endures (λ us. IsWithin (in_front us 0) own a) v) w) (constraint_bound around text level allowed (of_expr x) w)
  constraint_within own level allowed x w here plain =
      seq _ _ _ _ (over_from units [] own level (outer_at around (full_depth around) text [] allowed) (text_fits units around text allowed) here (of_expr x) (expression_is_good x) w plain)
      (λ a ha. gives _ _ (record { plain = ha.plain; grows = ha.grows; holds = λ us begins. ha.holds (in_front us 0) (nought_reached units a.1 us ha.plain begins) }))

  checks_within : (own : From) (level : Level) (xs : List Expr) (w : Work) → LevelFits own level → IsPlain units [] w
      → Gives (PlainSteps units [] (λ (as_ : List BoundExpr) v. Endures (λ us. EachIsWithin (in_front us 0) own as_) v) w) (checks_bound around text level xs w)
  checks_within own level [] w here plain = gives _ _ (record { plain = plain; grows = not_grown w; holds = λ us begins. tt })
  checks_within own level (x ∷ xs) w here plain =
      seq _ _ _ _ (constraint_within own level in_check x w here plain) (λ a ha. seq _ _ _ _ (checks_within own level xs a.1 here ha.plain) (λ more hm. gives _ _ (record {
        plain = hm.plain;
        grows = grown _ _ _ ha.grows hm.grows;
        holds = λ us begins. (endures_later (λ us. IsWithin (in_front us 0) own a.0) a.1 more.1 hm.grows ha.holds us begins, hm.holds us begins);
      })))

  abbrev DefaultEndures : Option BoundExpr → Work → Type 0
  DefaultEndures d v = Endures (λ us. IsWithinIfThere (in_front us 0) [] d) v

  default_within : (x : Option Expr) (w : Work) → IsPlain units [] w → Gives (PlainSteps units [] DefaultEndures w) (default_bound around text x w)
  default_within None w plain = gives _ _ (record { plain = plain; grows = not_grown w; holds = λ us begins. tt })
  default_within (Some x) w plain = seq _ _ _ _ (constraint_within [] [] in_default x w tt plain) (λ a ha. gives _ _ (record { plain = ha.plain; grows = ha.grows; holds = λ us begins. ha.holds us begins }))

  defaults_within : (cs : List DeclaredColumn) (w : Work) → IsPlain units [] w
      → Gives (PlainSteps units [] (λ (ds : List (Option BoundExpr)) v. Endures (λ us. AllByRecursion (IsWithinIfThere (in_front us 0) []) ds) v) w) (defaults_bound around text cs w)
  defaults_within [] w plain = gives _ _ (record { plain = plain; grows = not_grown w; holds = λ us begins. tt })
  defaults_within (c ∷ cs) w plain =
      seq _ _ _ _ (default_within c.default w plain) (λ a ha. seq _ _ _ _ (defaults_within cs a.1 ha.plain) (λ more hm. gives _ _ (record {
        plain = hm.plain;
        grows = grown _ _ _ ha.grows hm.grows;
        holds = λ us begins. (endures_later (λ us. IsWithinIfThere (in_front us 0) [] a.0) a.1 more.1 hm.grows ha.holds us begins, hm.holds us begins);
      })))

-- ---- the target

-- its item is as wide as its source, and so is the FROM in which SET and WHERE see it
pub record TargetFits (t : Target) (v : Work) : Type 0 where
  pub bound : (us : List BoundUnit) → BeginsWith v.units us → TargetIsWithin us t.target
  pub level : LevelFits (width_of t.target.item ∷ []) t.level

no_defaults : (units : List BoundUnit) (cs : List BoundColumn) → AllByRecursion (IsWithinIfThere (in_front units 0) []) (map (λ (c : BoundColumn). None) cs)
no_defaults units [] = tt
no_defaults units (c ∷ cs) = (tt, no_defaults units cs)

one_item : (name : List ℕ) (s : Sourced) → LevelFits (length s.columns ∷ []) (scope_item 0 (Some name) s ∷ [])
one_item name s = (item_at (length s.columns ∷ []) 0 (Some name) s (λ p h. h) tt, tt)

module _ (units : List BoundUnit) (outers : List From) (o : Outer) (i : Inside) (inside : InsideFits units outers i) where
  abbrev Source : Sourced → Work → Type 0
  Source s v = SourceStays units outers i inside [] s v

  plain_is : (name : List ℕ) (s : Sourced) (w : Work) → w.needs ≡ [] → Source s w → TargetFits (target_of name s (plain_target s name)) w
  plain_is name s w none stays = record {
    bound = λ us begins. record { item = (stays (in_front us 0) (record { units = begins; arguments = let no : length w.needs ≡ 0 = ap length none in omega arith; aggregates = omega arith }), tt, tt); defaults = no_defaults us s.columns; checks = tt };
    level = one_item name s;
  }

  pub record TargetSteps (w : Work) (r : Target × Work) : Type 0 where
    pub plain : IsPlain units outers r.1
    pub none : r.1.needs ≡ []
    pub grows : Grows w r.1
    pub fits : TargetFits r.0 r.1

  plainly : (name : List ℕ) (s : Sourced) (w : Work) → IsPlain units outers w → w.needs ≡ [] → Source s w → Gives (TargetSteps w) (Ok (target_of name s (plain_target s name), w))
  plainly name s w plain none stays = gives _ _ (record { plain = plain; none = none; grows = not_grown w; fits = plain_is name s w none stays })

  tables_target : (around : Around) (text : List ℕ) (s : Sourced) (t : DeclaredTable) (name : List ℕ) (w : Work) → IsPlain units outers w → w.needs ≡ [] → Source s w → Gives (TargetSteps w) (table_target around text s t name w)
  tables_target around text s t name w plain none stays =
      let alone = plain_around units outers [] w none plain in
      seq _ _ _ _ (defaults_within units around text t.columns w alone) (λ d hd. seq _ _ _ _ (checks_within units around text (length s.columns ∷ []) (scope_item 0 (Some name) s ∷ []) t.checks d.1 (one_item name s) hd.plain) (λ c hc.
      let grows = grown w d.1 c.1 hd.grows hc.grows in
      let nothing = nothing_needed c.1.needs hc.plain.fits.needs in
      let before = plain_is name s w none stays in
      gives _ _ (record {
        plain = plain_around units [] outers c.1 nothing hc.plain;
        none = nothing;
        grows = grows;
        fits = record {
          bound = λ us begins. record {
            item = (before.bound us (begins_before w.units c.1.units us (begins_added w.units c.1.units grows.units) begins)).item;
            defaults = endures_later (λ us. AllByRecursion (IsWithinIfThere (in_front us 0) []) d.0) d.1 c.1 hc.grows hd.holds us begins;
            checks = hc.holds us begins;
          };
          level = one_item name s;
        };
      })))

  by_table : (around : Around) (event : FiringEvent) (name : List ℕ) (s : Sourced) (entry : Entry) (w : Work) → IsPlain units outers w → w.needs ≡ [] → Source s w → (t : Option TableDefinition) → table_in (definition_of entry) ≡ t
      → Gives (TargetSteps w) (declared_target around event name s (Some entry) w)
  by_table around AtDelete name s entry w plain none stays t is = plainly name s w plain none stays
  by_table around AtInsert name s entry w plain none stays None is = rw is (plainly name s w plain none stays)
  by_table around AtInsert name s entry w plain none stays (Some t) is = rw is (tables_target around entry.text s (declared_table around.facts entry.text t) name w plain none stays)
  by_table around AtUpdate name s entry w plain none stays None is = rw is (plainly name s w plain none stays)
  by_table around AtUpdate name s entry w plain none stays (Some t) is = rw is (tables_target around entry.text s (declared_table around.facts entry.text t) name w plain none stays)

  declared_is : (around : Around) (event : FiringEvent) (name : List ℕ) (s : Sourced) (entry : Option Entry) (w : Work) → IsPlain units outers w → w.needs ≡ [] → Source s w → Gives (TargetSteps w) (declared_target around event name s entry w)
  declared_is around AtDelete name s None w plain none stays = plainly name s w plain none stays
  declared_is around AtInsert name s None w plain none stays = plainly name s w plain none stays
  declared_is around AtUpdate name s None w plain none stays = plainly name s w plain none stays
  declared_is around event name s (Some entry) w plain none stays = by_table around event name s entry w plain none stays (table_in (definition_of entry)) refl

  targets_later : (w v : Work) → Grows w v → (m : Answer Target) → Gives (TargetSteps v) m → Gives (TargetSteps w) m
  targets_later w v g (Ok r) h = record { holds = record { plain = h.holds.plain; none = h.holds.none; grows = grown w v r.1 g h.holds.grows; fits = h.holds.fits } }
  targets_later w v g (Err why) h = record { holds = tt }

pub write_fits : (units : List BoundUnit) (outers : List From) (o : Outer) → OuterFits units outers o → InsideFits units outers (inside_write o)
write_fits units outers o fits = record { outer = fits; views = λ name text q now. view_asks o.around most_queries name text q now }

pub target_fits : (units : List BoundUnit) (outers : List From) (o : Outer) (fits : OuterFits units outers o) (name : List ℕ) (f : Firing) (w : Work) → IsPlain units outers w → w.needs ≡ []
    → Gives (TargetSteps units outers o (inside_write o) (write_fits units outers o fits) w) (target_bound o name f w)
target_fits units outers o fits name f w plain none =
    let i = inside_write o in
    let inside = write_fits units outers o fits in
    let entry = table_named name o.around.catalog in
    past (may_write_module o.around name entry) _ _ (λ u.
    seq _ _ _ _ (both _ _ (of_catalog i name entry [] nothing_found w) (catalog_stays units outers i inside nothing_found tt name entry [] w tt plain) (catalog_needs i w name entry)) (λ s hs.
    past (may_write_view o.around s.0 f s.0.source) _ _ (λ v.
    targets_later units outers o i inside w s.1 hs.0.grows (declared_target o.around f.event (shown_name name s.0.name) s.0 entry s.1)
    (declared_is units outers o i inside o.around f.event (shown_name name s.0.name) s.0 entry s.1 hs.0.plain (hs.1 ∙ none) hs.0.holds))))
