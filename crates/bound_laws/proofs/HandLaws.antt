-- What is handed over to a query: columns of the own FROM, and arguments that bring what stands further out.
use Rattle.std.proofs.Common.{◌≡◌, ◌<◌, ℕ, zero, suc, List, [], ◌∷◌, ◌++◌, length, position, Option, Some, None, refl, sym, ap, subst, arith}
use Rattle.std.proofs.Math.ListN.{length-append}
use Rattle.std.proofs.lemmas.List.Quantifiers.{position-Some}
use Rattle.bound_tree.specs.Exprs as e
use Rattle.bound_tree.specs.Exprs.{BoundExpr, exprs}
use Rattle.bound_tree.specs.declared.units.BoundUnit.{BoundUnit}
use Rattle.sql_bound.specs.Expressions.{asked}
use Rattle.sql_bound.specs.Scopes.{UnitsAnswer, argument_at, brought, handed, is_need, needed}
use Rattle.sql_bound.specs.declared.scopes.Asked.{Asked}
use Rattle.sql_bound.specs.declared.scopes.Need.{Need}
use Rattle.sql_bound.specs.declared.scopes.Standing.{Standing}
use Rattle.sql_bound.specs.declared.scopes.Work.{Work}
use Rattle.bound_laws.specs.Order.{AddsUnits}
use Rattle.bound_laws.specs.Reach.{IsWithin, Reach, Serves}
use Rattle.bound_laws.proofs.GrowLaws.{aggregates_later, grown, not_grown, stays_later}
use Rattle.bound_laws.proofs.Lists.{adds_nothing, all_append, begins_added, begins_before, serves_later}
use Rattle.bound_laws.proofs.States.{AllStay, AskedFits, From, Grows, Here, IsColumnOf, NeedFits, NeedsFit, Stays, Steps, WorkFits, from_at}
use Rattle.bound_laws.proofs.Triples.{Gives, gives, seq}

-- a column of the own FROM is within any reach
pub column_within : (r : Reach) (own : From) (x : BoundExpr) → IsColumnOf own x → IsWithin r own x
column_within r own (e.Column item place) h = h
column_within r own (e.Rowid item) h = h
column_within r own other h = absurd h

pub none_of_nothing : (x : BoundExpr) → IsColumnOf [] x → ⊥
none_of_nothing (e.Column item place) h = h
none_of_nothing (e.Rowid item) h = h
none_of_nothing other h = h

-- ---- one

abbrev pub StaysAt : Standing → From → BoundExpr → Work → Type 0
StaysAt standing own x v = Stays standing own v x

longer : (w : Work) (n : Need) → Grows w (record w { needs = w.needs ++ n ∷ [] })
longer w n = record { units = adds_nothing w.units; needs = omega (arith, length-append w.needs (n ∷ [])); aggregates = omega arith }

module _ (h : Here) (standing : Standing) where
  argument_fits : (n : Need) (place : Option ℕ) (w : Work) → ((p : ℕ) → place ≡ Some p → p < length w.needs) → WorkFits h w → NeedFits h.outers n → Steps h (StaysAt standing h.own) w (argument_at place n w)
  argument_fits n (Some place) w at fits need = record {
    fits = fits;
    grows = not_grown w;
    holds = λ r k. omega (arith, at place refl, k.arguments);
  }
  argument_fits n None w at fits need = record {
    fits = record {
      begins = fits.begins;
      needs = all_append (NeedFits h.outers) w.needs (n ∷ []) fits.needs (need, tt);
      aggregates = aggregates_later h.own w (record w { needs = w.needs ++ n ∷ [] }) w.aggregates (longer w n) fits.aggregates;
    };
    grows = longer w n;
    holds = λ r k. omega (arith, k.arguments, length-append w.needs (n ∷ []));
  }

  needed_fits : (n : Need) (w : Work) → WorkFits h w → NeedFits h.outers n → Steps h (StaysAt standing h.own) w (needed n w)
  needed_fits n w fits need = argument_fits n (position (is_need n) w.needs) w (λ p is. (position-Some (is_need n) w.needs p n is).0) fits need

  pub brought_fits : (up : ℕ) (x : BoundExpr) (w : Work) → WorkFits h w → IsColumnOf (from_at (h.own ∷ h.outers) up) x → Steps h (StaysAt standing h.own) w (brought up x w)
  brought_fits zero x w fits column = record { fits = fits; grows = not_grown w; holds = λ r k. column_within r h.own x column }
  brought_fits (suc up) x w fits column = needed_fits (record { up = up; tree = x }) w fits column

  -- ---- all that a query needs

  abbrev pub AllStayAt : List BoundExpr → Work → Type 0
  AllStayAt xs v = AllStay standing h.own v xs

  pub handed_fits : (needs : List Need) (w : Work) → WorkFits h w → NeedsFit (h.own ∷ h.outers) needs → Steps h AllStayAt w (handed needs w)
  handed_fits [] w fits all = record { fits = fits; grows = not_grown w; holds = λ r k. tt }
  handed_fits (n ∷ needs) w fits all =
      let first = brought_fits n.up n.tree w fits all.0 in
      let rest = handed_fits needs (brought n.up n.tree w).1 first.fits all.1 in
      record {
        fits = rest.fits;
        grows = grown w (brought n.up n.tree w).1 (handed needs (brought n.up n.tree w).1).1 first.grows rest.grows;
        holds = λ r k. (stays_later standing h.own (brought n.up n.tree w).1 (handed needs (brought n.up n.tree w).1).1 (brought n.up n.tree w).0 rest.grows first.holds r k, rest.holds r k);
      }

  pub handed_count : (needs : List Need) (w : Work) → length (handed needs w).0 ≡ length needs
  handed_count [] w = refl
  handed_count (n ∷ needs) w = ap suc (handed_count needs (brought n.up n.tree w).1)

  -- ---- the units that a query adds

  pub with_units_grown : (w : Work) (units : List BoundUnit) → AddsUnits w.units units → Grows w (record w { units = units })
  with_units_grown w units adds = record { units = adds; needs = omega arith; aggregates = omega arith }

  pub with_units_fits : (w : Work) (units : List BoundUnit) → WorkFits h w → AddsUnits w.units units → WorkFits h (record w { units = units })
  with_units_fits w units fits adds = record {
    begins = begins_before h.units w.units units fits.begins (begins_added w.units units adds);
    needs = fits.needs;
    aggregates = aggregates_later h.own w (record w { units = units }) w.aggregates (with_units_grown w units adds) fits.aggregates;
  }

  -- a query that is asked is handed what it takes
  pub record AskedAt (a : Asked × List BoundExpr) (v : Work) : Type 0 where
    pub serves : Serves v.units a.0.unit (length a.1) (length a.0.columns)
    pub stays : AllStay standing h.own v a.1

  pub handed_units : (needs : List Need) (w : Work) (unit given width : ℕ) → WorkFits h w → NeedsFit (h.own ∷ h.outers) needs → Serves w.units unit given width → Serves (handed needs w).1.units unit given width
  handed_units needs w unit given width fits all serves =
      let steps = handed_fits needs w fits all in
      serves_later w.units (handed needs w).1.units unit given width (begins_added w.units (handed needs w).1.units steps.grows.units) serves

  pub asked_fits : (w : Work) (answer : UnitsAnswer Asked) → WorkFits h w → Gives (AskedFits w.units (h.own ∷ h.outers)) answer → Gives (Steps h AskedAt w) (asked w answer)
  asked_fits w answer fits asks = seq _ _ _ _ asks (λ a found. gives _ _ (go a found)) where
    go : (a : Asked × List BoundUnit) → AskedFits w.units (h.own ∷ h.outers) a → Steps h AskedAt w (let t = handed a.0.needs (record w { units = a.1 }) in ((a.0, t.0), t.1))
    go a found =
        let start : Work = record w { units = a.1 } in
        let ready = with_units_fits w a.1 fits found.adds in
        let steps = handed_fits a.0.needs start ready found.needs in
        let serves = handed_units a.0.needs start a.0.unit (length a.0.needs) (length a.0.columns) ready found.needs found.serves in
        record {
          fits = steps.fits;
          grows = grown w start (handed a.0.needs start).1 (with_units_grown w a.1 found.adds) steps.grows;
          holds = record { serves = subst (λ n. Serves (handed a.0.needs start).1.units a.0.unit n (length a.0.columns)) (sym (handed_count a.0.needs start)) serves; stays = steps.holds };
        }
