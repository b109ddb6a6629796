-- Where no aggregate may stand: between the clauses of a query none is gathered.
use Rattle.std.proofs.Common.{◌≡◌, ◌∙◌, ℕ, List, [], ◌∷◌, length, Ok, Err, refl, sym, ap, subst}
use Rattle.std.specs.List.{AllByRecursion}
use Rattle.bound_tree.specs.declared.units.BoundUnit.{BoundUnit}
use Rattle.sql_bound.proofs.HandLaws.{same_aggregates}
use Rattle.sql_bound.specs.Carriers.{Expression}
use Rattle.sql_bound.specs.Expressions.{all_bound, asked}
use Rattle.sql_bound.specs.Refusals.{Checked}
use Rattle.sql_bound.specs.Scopes.{Answer, Level, Outer, UnitsAnswer, inside, scope_over}
use Rattle.sql_bound.specs.declared.scopes.Asked.{Asked}
use Rattle.sql_bound.specs.declared.scopes.Operand.{Operand}
use Rattle.sql_bound.specs.declared.scopes.Standing.TheVariants.{Nowhere}
use Rattle.sql_bound.specs.declared.scopes.WithEntry.{WithEntry}
use Rattle.sql_bound.specs.declared.scopes.WithMeaning.TheVariants.{Bound, Itself}
use Rattle.sql_bound.specs.declared.scopes.WithMeaning.{WithMeaning}
use Rattle.sql_bound.specs.declared.scopes.Work.{Work}
use Rattle.bound_laws.specs.Order.{AddsUnits}
use Rattle.bound_laws.proofs.ExprLaws.{ExprBinds, OperandsStay, all_bind}
use Rattle.bound_laws.proofs.Goods.{GoodExpression, SameSlots}
use Rattle.bound_laws.proofs.GrowLaws.{grown, not_grown}
use Rattle.bound_laws.proofs.HandLaws.{AskedAt, asked_fits, with_units_fits}
use Rattle.bound_laws.proofs.Lists.{BeginsWith, all_weaker, serves_later}
use Rattle.bound_laws.proofs.States.{AggregateStays, AskedFits, EntryFits, From, Grows, Here, LevelFits, MeaningFits, OuterFits, ScopeFits, Stays, Steps, WorkFits}
use Rattle.bound_laws.proofs.Triples.{Gives, gives, seq}

pub both : {A : Type 0} (P Q : A → Type 0) (m : Checked A) → Gives P m → Gives Q m → Gives (λ (a : A). P a × Q a) m
both P Q (Ok a) h k = record { holds = (h.holds, k.holds) }
both P Q (Err why) h k = record { holds = tt }

-- ---- WITH tables are seen from further in, and as units come

seen_further : (units : List BoundUnit) (outers : List From) (own : From) (around : ℕ) (m : WithMeaning) → MeaningFits units outers around m → MeaningFits units (own ∷ outers) around m
seen_further units outers own around Itself fits = tt
seen_further units outers own around (Bound unit recursive needs columns) fits = record {
  serves = fits.serves;
  fits = record { before = own ∷ fits.fits.before; after = fits.fits.after; all = ap (λ l. own ∷ l) fits.fits.all; count = fits.fits.count; fit = fits.fits.fit };
}

pub entries_further : (units : List BoundUnit) (outers : List From) (own : From) (ts : List WithEntry) → AllByRecursion (EntryFits units outers) ts → AllByRecursion (EntryFits units (own ∷ outers)) ts
entries_further units outers own ts = all_weaker (EntryFits units outers) (EntryFits units (own ∷ outers)) (λ t. seen_further units outers own t.around t.meaning) ts

meaning_later : (units now : List BoundUnit) (outers : List From) (around : ℕ) (m : WithMeaning) → BeginsWith units now → MeaningFits units outers around m → MeaningFits now outers around m
meaning_later units now outers around Itself h fits = tt
meaning_later units now outers around (Bound unit recursive needs columns) h fits = record { serves = serves_later units now unit (length needs) (length columns) h fits.serves; fits = fits.fits }

pub outer_later : (units now : List BoundUnit) (outers : List From) (o : Outer) → BeginsWith units now → OuterFits units outers o → OuterFits now outers o
outer_later units now outers o h fits = record {
  levels = fits.levels;
  tables = all_weaker (EntryFits units outers) (EntryFits now outers) (λ t. meaning_later units now outers t.around t.meaning h) o.tables fits.tables;
  depth = fits.depth;
}

pub inside_fits : (units : List BoundUnit) (outers : List From) (own : From) (level : Level) (o : Outer) → OuterFits units outers o → LevelFits own level → OuterFits units (own ∷ outers) (inside level o)
inside_fits units outers own level o fits at = record { levels = (at, fits.levels); tables = entries_further units outers own o.tables fits.tables; depth = fits.depth }

-- ---- work without aggregates

module _ (units : List BoundUnit) (outers : List From) where
  abbrev pub at : From → Here
  at own = record { units = units; own = own; outers = outers }

  pub record IsPlain (w : Work) : Type 0 where
    pub fits : WorkFits (at []) w
    pub none : w.aggregates ≡ []

  pub record PlainSteps {A : Type 0} (T : A → Work → Type 0) (w : Work) (r : A × Work) : Type 0 where
    pub plain : IsPlain r.1
    pub grows : Grows w r.1
    pub holds : T r.0 r.1

  -- over any FROM
  pub over_own : (own : From) (w : Work) → IsPlain w → WorkFits (at own) w
  over_own own w plain = record { begins = plain.fits.begins; needs = plain.fits.needs; aggregates = subst (AllByRecursion (AggregateStays own w)) (sym plain.none) tt }

  pub plain_again : (own : From) (w : Work) → WorkFits (at own) w → w.aggregates ≡ [] → IsPlain w
  plain_again own w fits none = record { fits = record { begins = fits.begins; needs = fits.needs; aggregates = subst (AllByRecursion (AggregateStays [] w)) (sym none) tt }; none = none }

  pub plain_here : {A : Type 0} (T : A → Work → Type 0) (w : Work) (a : A) → IsPlain w → T a w → Gives (PlainSteps T w) (Ok (a, w))
  plain_here T w a plain t = record { holds = record { plain = plain; grows = not_grown w; holds = t } }

  pub plain_steps : {A : Type 0} (own : From) (T : A → Work → Type 0) (w : Work) (m : Answer A) → IsPlain w → Gives (Steps (at own) T w) m → Gives (SameSlots w) m → Gives (PlainSteps T w) m
  plain_steps own T w (Ok r) plain steps same = record { holds = record { plain = plain_again own r.1 steps.holds.fits (same.holds ∙ plain.none); grows = steps.holds.grows; holds = steps.holds.holds } }
  plain_steps own T w (Err why) plain steps same = record { holds = tt }

  -- from an earlier work on
  pub plain_later : {A : Type 0} (T : A → Work → Type 0) (w v : Work) → Grows w v → (m : Answer A) → Gives (PlainSteps T v) m → Gives (PlainSteps T w) m
  plain_later T w v g (Ok r) h = record { holds = record { plain = h.holds.plain; grows = grown w v r.1 g h.holds.grows; holds = h.holds.holds } }
  plain_later T w v g (Err why) h = record { holds = tt }

  -- ---- expressions over a FROM, without names of results

  pub over_fits : (own : From) (level : Level) (o : Outer) → OuterFits units outers o → LevelFits own level → ScopeFits (at own) (scope_over level o)
  over_fits own level o fits here = record { outer = inside_fits units outers own level o fits here; aliases = tt }

  module _ (own : From) (level : Level) (o : Outer) (fits : OuterFits units outers o) (here : LevelFits own level) where
    abbrev StaysThere : Operand → Work → Type 0
    StaysThere a v = Stays Nowhere own v a.tree

    pub over_from : (x : Expression) → GoodExpression x → (w : Work) → IsPlain w → Gives (PlainSteps StaysThere w) (x.bound (scope_over level o) w)
    over_from x good w plain =
        plain_steps own StaysThere w (x.bound (scope_over level o) w) plain (good.binds (at own) (scope_over level o) (over_fits own level o fits here) w (over_own own w plain))
        (good.quiet (scope_over level o) (scope_over level o).outer (λ t how given. refl) tt tt w)

    all_quiet : (xs : List Expression) → AllByRecursion GoodExpression xs → (w : Work) → Gives (SameSlots w) (all_bound (scope_over level o) xs w)
    all_quiet [] all w = gives _ _ refl
    all_quiet (x ∷ xs) all w =
        seq _ _ _ _ (all.0.quiet (scope_over level o) (scope_over level o).outer (λ t how given. refl) tt tt w) (λ a ha. seq _ _ _ _ (all_quiet xs all.1 a.1) (λ more hm. gives _ _ (hm ∙ ha)))

    pub all_over_from : (xs : List Expression) → AllByRecursion GoodExpression xs → (w : Work) → IsPlain w → Gives (PlainSteps (OperandsStay (at own) Nowhere) w) (all_bound (scope_over level o) xs w)
    all_over_from xs all w plain =
        plain_steps own (OperandsStay (at own) Nowhere) w (all_bound (scope_over level o) xs w) plain
        (all_bind (at own) xs (all_weaker GoodExpression ExprBinds (λ x g. g.binds) xs all) (scope_over level o) (over_fits own level o fits here) w (over_own own w plain))
        (all_quiet xs all w)

  -- ---- queries that are asked where no aggregate may stand

  pub asked_quiet : (w : Work) (answer : UnitsAnswer Asked) → Gives (SameSlots w) (asked w answer)
  asked_quiet w (Ok a) = record { holds = same_aggregates a.0.needs (record w { units = a.1 }) }
  asked_quiet w (Err why) = record { holds = tt }

  pub asked_plain : (w : Work) (answer : UnitsAnswer Asked) → IsPlain w → Gives (AskedFits w.units ([] ∷ outers)) answer → Gives (PlainSteps (AskedAt (at []) Nowhere) w) (asked w answer)
  asked_plain w answer plain asks = plain_steps [] (AskedAt (at []) Nowhere) w (asked w answer) plain (asked_fits (at []) Nowhere w answer plain.fits asks) (asked_quiet w answer)

  pub with_units_plain : (w : Work) (more : List BoundUnit) → IsPlain w → AddsUnits w.units more → IsPlain (record w { units = more })
  with_units_plain w more plain adds = record { fits = with_units_fits (at []) Nowhere w more plain.fits adds; none = plain.none }
