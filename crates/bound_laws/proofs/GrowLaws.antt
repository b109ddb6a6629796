-- What is gathered grows, and what stays within it stays.
use Rattle.std.proofs.Common.{◌≤◌, List, Ok, arith}
use Rattle.std.specs.List.{AllByRecursion}
use Rattle.bound_tree.specs.Exprs.{BoundExpr}
use Rattle.bound_tree.specs.declared.units.BoundAggregate.{BoundAggregate}
use Rattle.sql_bound.specs.declared.scopes.Standing.TheVariants.{Nowhere, Taken}
use Rattle.sql_bound.specs.declared.scopes.Standing.{Standing}
use Rattle.sql_bound.specs.declared.scopes.Work.{Work}
use Rattle.bound_laws.specs.Reach.{Reach}
use Rattle.bound_laws.proofs.Lists.{adds_before, adds_nothing, all_weaker, begins_added, begins_before}
use Rattle.bound_laws.proofs.States.{AggregateStays, AllStay, From, Grows, Here, Reached, Stays, Steps, WorkFits, count_in}
use Rattle.bound_laws.proofs.Triples.{Gives}

pub not_grown : (w : Work) → Grows w w
not_grown w = record { units = adds_nothing w.units; needs = omega arith; aggregates = omega arith }

pub grown : (w v u : Work) → Grows w v → Grows v u → Grows w u
grown w v u h k = record {
  units = adds_before w.units v.units u.units h.units k.units;
  needs = omega (arith, h.needs, k.needs);
  aggregates = omega (arith, h.aggregates, k.aggregates);
}

count_grown : (standing : Standing) (w v : Work) → Grows w v → count_in standing w ≤ count_in standing v
count_grown Taken w v h = h.aggregates
count_grown Nowhere w v h = omega arith

pub reached_before : (standing : Standing) (w v : Work) (r : Reach) → Grows w v → Reached standing v r → Reached standing w r
reached_before standing w v r h k = record {
  units = begins_before w.units v.units r.units (begins_added w.units v.units h.units) k.units;
  arguments = omega (arith, h.needs, k.arguments);
  aggregates = omega (arith, count_grown standing w v h, k.aggregates);
}

pub stays_later : (standing : Standing) (own : From) (w v : Work) (x : BoundExpr) → Grows w v → Stays standing own w x → Stays standing own v x
stays_later standing own w v x h stays r k = stays r (reached_before standing w v r h k)

pub all_stay_later : (standing : Standing) (own : From) (w v : Work) (xs : List BoundExpr) → Grows w v → AllStay standing own w xs → AllStay standing own v xs
all_stay_later standing own w v xs h stays r k = stays r (reached_before standing w v r h k)

pub aggregates_later : (own : From) (w v : Work) (as_ : List BoundAggregate) → Grows w v → AllByRecursion (AggregateStays own w) as_ → AllByRecursion (AggregateStays own v) as_
aggregates_later own w v as_ h = all_weaker (AggregateStays own w) (AggregateStays own v) (λ a stays r k. stays r (reached_before Nowhere w v r h k)) as_

-- ---- steps

-- nothing is gathered
pub stays_here : {A : Type 0} (h : Here) (T : A → Work → Type 0) (w : Work) (a : A) → WorkFits h w → T a w → Gives (Steps h T w) (Ok (a, w))
stays_here h T w a fits t = record { holds = record { fits = fits; grows = not_grown w; holds = t } }

-- one behind another
pub behind : {A B : Type 0} (h : Here) (T : A → Work → Type 0) (S : B → Work → Type 0) (w : Work) (r : A × Work) (t : B × Work) → Steps h T w r → Steps h S r.1 t → Steps h S w t
behind h T S w r t one two = record { fits = two.fits; grows = grown w r.1 t.1 one.grows two.grows; holds = two.holds }

pub of_same_work : {A B : Type 0} (h : Here) (T : A → Work → Type 0) (S : B → Work → Type 0) (w : Work) (r : A × Work) (b : B) → Steps h T w r → S b r.1 → Gives (Steps h S w) (Ok (b, r.1))
of_same_work h T S w r b one s = record { holds = record { fits = one.fits; grows = one.grows; holds = s } }
