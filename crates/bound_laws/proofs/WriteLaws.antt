-- A write, before its triggers are opened, names what is there.
use Rattle.std.proofs.Common.{Ok, Err, refl, ◌<◌, nat_eq, position, cond, Bool, true, false, arith, ◌≡◌, ℕ, List, [], ◌∷◌, length, map, Option, Some, None}
use Rattle.std.specs.List.{AllByRecursion, range_with_len}
use Rattle.std.proofs.lemmas.Bool.Decides.{Decides-eqb}
use Rattle.eng_value.specs.declared.cause.Cause.TheVariants.{Arity}
use Rattle.sql_words.specs.Spelled.{name_at}
use Rattle.bound_tree.specs.Exprs.{BoundExpr}
use Rattle.bound_tree.specs.declared.units.BoundUnit.{BoundUnit}
use Rattle.bound_tree.specs.declared.writes.BoundChange.{BoundChange}
use Rattle.bound_tree.specs.declared.writes.BoundSet.{BoundSet}
use Rattle.sql_bound.specs.Carriers.{DeleteParts, Deletes, Expression, InsertParts, Inserts, Queries, QueryParts, RowParts, SetParts, UpdateParts, Updates}
use Rattle.sql_bound.specs.Compounds.{width_fits}
use Rattle.sql_bound.specs.Cores.{conjuncts_bound}
use Rattle.sql_bound.specs.Froms.{beside_from}
use Rattle.sql_bound.specs.Limits.{room_behind}
use Rattle.sql_bound.specs.Scopes.{Level, Outer, scope_over}
use Rattle.sql_bound.specs.Targets.{Target, found_place, inside_write, place_written}
use Rattle.sql_bound.specs.Writes.{is_place, Begun, delete_begun, deleting, insert_begun, inserted_from, inserting, places_named, set_bound, sets_bound, update_begun, updating}
use Rattle.sql_bound.specs.declared.scopes.Standing.TheVariants.{Nowhere}
use Rattle.sql_bound.specs.declared.scopes.Work.{Work}
use Rattle.bound_laws.specs.Order.{in_front, width_of}
use Rattle.bound_laws.specs.Reach.{EachIsWithin, IsWithin, Reach, Serves}
use Rattle.bound_laws.specs.Writes.{ChangeIsWithin, IsBelow, TargetIsWithin}
use Rattle.bound_laws.proofs.Goods.{GoodExpression, GoodQuery}
use Rattle.bound_laws.proofs.GrowLaws.{grown, reached_before}
use Rattle.bound_laws.proofs.Lists.{BeginsWith, IfThere, all_append, begins_added, begins_before, place_within, serves_later}
use Rattle.bound_laws.proofs.PartLaws.{Lasts, front_reached}
use Rattle.bound_laws.proofs.PlainLaws.{IsPlain, PlainSteps, asked_plain, inside_fits, over_from, plain_here, plain_later}
use Rattle.bound_laws.proofs.States.{From, Grows, LevelFits, OuterFits, Reached}
use Rattle.bound_laws.proofs.TargetLaws.{TargetFits, TargetSteps, target_fits, write_fits}
use Rattle.bound_laws.proofs.Triples.{Gives, gives, past, refuses, seq}

-- ---- what is written

pub record GoodUpdate (u : UpdateParts) : Type 0 where
  pub sets : AllByRecursion (λ (a : SetParts). GoodExpression a.value) u.sets
  pub filter : IfThere GoodExpression u.filter

abbrev pub GoodRows : RowParts → Type 0
GoodRows (Queries q) = GoodQuery q
GoodRows (Inserts i) = IfThere GoodQuery i.source
GoodRows (Updates u) = GoodUpdate u
GoodRows (Deletes d) = IfThere GoodExpression d.filter

pub record BegunFits (b : Begun) (v : Work) : Type 0 where
  pub target : (us : List BoundUnit) → BeginsWith v.units us → TargetIsWithin us b.target.target
  pub change : Lasts (λ us arguments. ChangeIsWithin us arguments (width_of b.target.target.item ∷ []) b.change) v

module _ (units : List BoundUnit) (outers : List From) (o : Outer) (fits : OuterFits units outers o) where
  abbrev Result : Work → Begun × Work → Type 0
  Result w r = PlainSteps units outers BegunFits w r

  abbrev Found : Work → Target × Work → Type 0
  Found w r = TargetSteps units outers o (inside_write o) (write_fits units outers o fits) w r

  target_later : (w v : Work) (t : Target) → Grows w v → TargetFits t w → (us : List BoundUnit) → BeginsWith v.units us → TargetIsWithin us t.target
  target_later w v t g found us begins = found.bound us (begins_before w.units v.units us (begins_added w.units v.units g.units) begins)

  -- ---- INSERT

  abbrev ChangeStays : Target → BoundChange → Work → Type 0
  ChangeStays t c v = Lasts (λ us arguments. ChangeIsWithin us arguments (width_of t.target.item ∷ []) c) v

  -- a source is as wide as the columns that are listed
  width_is : (name : List ℕ) (wanted width : ℕ) → Gives (λ (u : Unit {0}). width ≡ wanted) (width_fits name wanted width)
  width_is name wanted width = go (nat_eq width wanted) (Decides-eqb width wanted).0 where
    go : (b : Bool) → (b ≡ true → width ≡ wanted) → Gives (λ (u : Unit {0}). width ≡ wanted) (cond b (Ok tt) (Err (Arity name)))
    go true same = gives _ _ (same refl)
    go false same = refuses _ _

  place_below : (listed : List (Option ℕ)) (k : Option ℕ) (width : ℕ) → width ≡ length listed → IsBelow width (position (is_place k) listed)
  place_below listed k width wide = go (position (is_place k) listed) (place_within (is_place k) listed) where
    go : (found : Option ℕ) → ((p : ℕ) → found ≡ Some p → p < length listed) → IsBelow width found
    go None at = tt
    go (Some p) at = let below = at p refl in omega arith

  places_below : (listed : List (Option ℕ)) (ks : List ℕ) (width : ℕ) → width ≡ length listed → AllByRecursion (IsBelow width) (map (λ k. position (is_place (Some k)) listed) ks)
  places_below listed [] width wide = tt
  places_below listed (k ∷ ks) width wide = (place_below listed (Some k) width wide, places_below listed ks width wide)

  placed_in : (t : Target) (listed : List (Option ℕ)) (us : List BoundUnit) (unit given width : ℕ) → width ≡ length listed → Serves us unit given width
      → (n : ℕ) × Serves us unit given n × AllByRecursion (IsBelow n) (map (λ k. position (is_place (Some k)) listed) (range_with_len 0 (length t.source.columns))) × IsBelow n (position (is_place t.source.rowid) listed)
  placed_in t listed us unit given width wide serves = (width, serves, places_below listed (range_with_len 0 (length t.source.columns)) width wide, place_below listed t.source.rowid width wide)

  source_stays : (t : Target) (listed : List (Option ℕ)) (q : Option QueryParts) (w : Work) → IfThere GoodQuery q → IsPlain units outers w → Gives (PlainSteps units outers (ChangeStays t) w) (inserted_from o t listed q w)
  source_stays t listed None w good plain = plain_here units outers (ChangeStays t) w _ plain (λ us arguments begins room. tt)
  source_stays t listed (Some q) w good plain =
      seq _ _ _ _ (asked_plain units outers w (q.bound (beside_from o) w.units) plain (good.asks units ([] ∷ outers) (beside_from o) (inside_fits units outers [] [] o fits tt) w.units plain.fits.begins))
      (λ a ha. seq _ _ _ _ (width_is t.name (length listed) (length a.0.0.columns)) (λ u wide. gives _ _ (record {
        plain = ha.plain;
        grows = ha.grows;
        holds = λ us arguments begins room. (placed_in t listed us a.0.0.unit (length a.0.1) (length a.0.0.columns) wide (serves_later a.1.units us a.0.0.unit (length a.0.1) (length a.0.0.columns) begins ha.holds.serves), ha.holds.stays (in_front us arguments) (front_reached a.1 us arguments begins room));
      })))

  pub insert_stays : (i : InsertParts) (w : Work) → IfThere GoodQuery i.source → IsPlain units outers w → w.needs ≡ [] → Gives (Result w) (insert_begun o i w)
  insert_stays i w good plain none =
      seq _ _ _ _ (target_fits units outers o fits (name_at o.text i.table) inserting w plain none) (λ t ht.
      past (places_named t.0 (map (name_at o.text) i.columns)) _ _ (λ listed.
      seq _ _ _ _ (source_stays t.0 listed i.source t.1 good ht.plain) (λ c hc. gives _ _ (record {
        plain = hc.plain;
        grows = grown _ _ _ ht.grows hc.grows;
        holds = record { target = target_later t.1 c.1 t.0 hc.grows ht.fits; change = hc.holds };
      }))))

  -- ---- UPDATE and DELETE

  abbrev SetsStay : From → List BoundSet → Work → Type 0
  SetsStay from sets v = (r : Reach) → Reached Nowhere v r → AllByRecursion (λ (s : BoundSet). IsWithin r from s.value) sets

  module _ (from : From) (level : Level) (here : LevelFits from level) where
    sets_stay : (t : Target) (sets : List SetParts) (so_far : List BoundSet) (w : Work) → AllByRecursion (λ (a : SetParts). GoodExpression a.value) sets → SetsStay from so_far w → IsPlain units outers w
        → Gives (PlainSteps units outers (SetsStay from) w) (sets_bound (scope_over level o) t sets (so_far, w))
    sets_stay t [] so_far w all stays plain = plain_here units outers (SetsStay from) w so_far plain stays
    sets_stay t (a ∷ sets) so_far w all stays plain =
        seq _ _ _ _ (one_set a all.0) (λ next hn. plain_later units outers (SetsStay from) w next.1 hn.grows (sets_bound (scope_over level o) t sets next) (sets_stay t sets next.0 next.1 all.1 hn.holds hn.plain))
      where
        one_set : (a : SetParts) → GoodExpression a.value → Gives (PlainSteps units outers (SetsStay from) w) (set_bound (scope_over level o) t a (so_far, w))
        one_set a good =
            past (room_behind so_far) _ _ (λ u. past (found_place (name_at o.text a.column) (place_written t.source (name_at o.text a.column))) _ _ (λ place.
            seq _ _ _ _ (over_from units outers from level o fits here a.value good w plain) (λ x hx. gives _ _ (record {
              plain = hx.plain;
              grows = hx.grows;
              holds = λ r k. all_append (λ (s : BoundSet). IsWithin r from s.value) so_far (record { column = place; value = x.0.tree } ∷ []) (stays r (reached_before _ _ _ _ hx.grows k)) (hx.holds r k, tt);
            }))))

    abbrev WhereStays : List BoundExpr → Work → Type 0
    WhereStays xs v = (r : Reach) → Reached Nowhere v r → EachIsWithin r from xs

    where_stays : (x : Option Expression) (w : Work) → IfThere GoodExpression x → IsPlain units outers w → Gives (PlainSteps units outers WhereStays w) (conjuncts_bound (scope_over level o) x w)
    where_stays None w there plain = plain_here units outers WhereStays w [] plain (λ r k. tt)
    where_stays (Some x) w there plain =
        seq _ _ _ _ (over_from units outers from level o fits here x there w plain) (λ a ha. gives _ _ (record { plain = ha.plain; grows = ha.grows; holds = λ r k. there.splits r from a.0.tree (ha.holds r k) }))

  pub update_stays : (u : UpdateParts) (w : Work) → GoodUpdate u → IsPlain units outers w → w.needs ≡ [] → Gives (Result w) (update_begun o u w)
  update_stays u w good plain none =
      seq _ _ _ _ (target_fits units outers o fits (name_at o.text u.table) (updating o.text u) w plain none) (λ t ht.
      seq _ _ _ _ (sets_stay (width_of t.0.target.item ∷ []) t.0.level ht.fits.level t.0 u.sets [] t.1 good.sets (λ r k. tt) ht.plain) (λ sets hs.
      seq _ _ _ _ (where_stays (width_of t.0.target.item ∷ []) t.0.level ht.fits.level u.filter sets.1 good.filter hs.plain) (λ c hc. gives _ _ (record {
        plain = hc.plain;
        grows = grown _ _ _ ht.grows (grown _ _ _ hs.grows hc.grows);
        holds = record {
          target = target_later t.1 c.1 t.0 (grown _ _ _ hs.grows hc.grows) ht.fits;
          change = λ us arguments begins room. let at = front_reached c.1 us arguments begins room in (hs.holds (in_front us arguments) (reached_before _ _ _ _ hc.grows at), hc.holds (in_front us arguments) at);
        };
      }))))

  pub delete_stays : (d : DeleteParts) (w : Work) → IfThere GoodExpression d.filter → IsPlain units outers w → w.needs ≡ [] → Gives (Result w) (delete_begun o d w)
  delete_stays d w good plain none =
      seq _ _ _ _ (target_fits units outers o fits (name_at o.text d.table) deleting w plain none) (λ t ht.
      seq _ _ _ _ (where_stays (width_of t.0.target.item ∷ []) t.0.level ht.fits.level d.filter t.1 good ht.plain) (λ c hc. gives _ _ (record {
        plain = hc.plain;
        grows = grown _ _ _ ht.grows hc.grows;
        holds = record { target = target_later t.1 c.1 t.0 hc.grows ht.fits; change = λ us arguments begins room. hc.holds (in_front us arguments) (front_reached c.1 us arguments begins room) };
      })))
