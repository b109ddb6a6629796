-- What is handed over to a query, and what it leaves as it was.
use Rattle.std.proofs.Common.{◌≡◌, ◌∙◌, ℕ, zero, suc, Option, List, [], ◌∷◌, ◌++◌, length, position, Some, None, Ok, Err, refl, sym, ap, append_assoc, append-nil}
use Rattle.bound_tree.specs.Exprs.{BoundExpr}
use Rattle.bound_tree.specs.declared.units.BoundUnit.{BoundUnit}
use Rattle.sql_bound.specs.Expressions.{asked}
use Rattle.sql_bound.specs.Refusals.{Checked}
use Rattle.sql_bound.specs.Scopes.{UnitsAnswer, argument_at, brought, handed, is_need}
use Rattle.sql_bound.specs.declared.scopes.Asked.{Asked}
use Rattle.sql_bound.specs.declared.scopes.Need.{Need}
use Rattle.sql_bound.specs.declared.scopes.Work.{Work}

pub as_many : (needs : List Need) (w : Work) → length (handed needs w).0 ≡ length needs
as_many [] w = refl
as_many (n ∷ needs) w = ap suc (as_many needs (brought n.up n.tree w).1)

-- ---- one expression

argument_units : (place : Option ℕ) (n : Need) (w : Work) → (argument_at place n w).1.units ≡ w.units
argument_units None n w = refl
argument_units (Some place) n w = refl

brought_units : (up : ℕ) (tree : BoundExpr) (w : Work) → (brought up tree w).1.units ≡ w.units
brought_units zero tree w = refl
brought_units (suc up) tree w = let n : Need = record { up = up; tree = tree } in argument_units (position (is_need n) w.needs) n w

argument_aggregates : (place : Option ℕ) (n : Need) (w : Work) → (argument_at place n w).1.aggregates ≡ w.aggregates
argument_aggregates None n w = refl
argument_aggregates (Some place) n w = refl

brought_aggregates : (up : ℕ) (tree : BoundExpr) (w : Work) → (brought up tree w).1.aggregates ≡ w.aggregates
brought_aggregates zero tree w = refl
brought_aggregates (suc up) tree w = let n : Need = record { up = up; tree = tree } in argument_aggregates (position (is_need n) w.needs) n w

abbrev pub IsLonger : List Need → List Need → Type 0
IsLonger longer needs = (more : List Need) × (longer ≡ needs ++ more)

argument_needs : (place : Option ℕ) (n : Need) (w : Work) → IsLonger (argument_at place n w).1.needs w.needs
argument_needs None n w = (n ∷ [], refl)
argument_needs (Some place) n w = ([], sym (append-nil w.needs))

brought_needs : (up : ℕ) (tree : BoundExpr) (w : Work) → IsLonger (brought up tree w).1.needs w.needs
brought_needs zero tree w = ([], sym (append-nil w.needs))
brought_needs (suc up) tree w = let n : Need = record { up = up; tree = tree } in argument_needs (position (is_need n) w.needs) n w

-- ---- one after another

pub same_units : (needs : List Need) (w : Work) → (handed needs w).1.units ≡ w.units
same_units [] w = refl
same_units (n ∷ needs) w = same_units needs (brought n.up n.tree w).1 ∙ brought_units n.up n.tree w

pub same_aggregates : (needs : List Need) (w : Work) → (handed needs w).1.aggregates ≡ w.aggregates
same_aggregates [] w = refl
same_aggregates (n ∷ needs) w = same_aggregates needs (brought n.up n.tree w).1 ∙ brought_aggregates n.up n.tree w

pub needs_kept : (needs : List Need) (w : Work) → IsLonger (handed needs w).1.needs w.needs
needs_kept [] w = ([], sym (append-nil w.needs))
needs_kept (n ∷ needs) w =
    let first = brought_needs n.up n.tree w in
    let rest = needs_kept needs (brought n.up n.tree w).1 in
    (first.0 ++ rest.0, rest.1 ∙ ap (λ l. l ++ rest.0) first.1 ∙ append_assoc w.needs first.0 rest.0)

-- ---- where a query is asked

abbrev Handing : Type 0
Handing = (Asked × List BoundExpr) × Work

abbrev handed_to : Asked → Work → Handing
handed_to a w = ((a, (handed a.needs w).0), (handed a.needs w).1)

abbrev told : Asked → List BoundUnit → UnitsAnswer Asked
told a units = Ok (a, units)

abbrev answered : {A : Type 0} → A → Checked A
answered a = Ok a

one_value : {A : Type 0} (a b : A) → answered a ≡ answered b → a ≡ b
one_value a b h = cc

pub asked_with_all : (w v : Work) (answer : UnitsAnswer Asked) (a : Asked) (arguments : List BoundExpr) → asked w answer ≡ Ok ((a, arguments), v) → (answer ≡ Ok (a, v.units)) × (length arguments ≡ length a.needs)
asked_with_all w v (Err why) a arguments h = cc
asked_with_all w v (Ok b) a arguments h =
    let begun : Work = record w { units = b.1 } in
    let whole : handed_to b.0 begun ≡ ((a, arguments), v) = one_value (handed_to b.0 begun) ((a, arguments), v) h in
    let same : b.0 ≡ a = ap (λ (x : Handing). x.0.0) whole in
    let all : (handed b.0.needs begun).0 ≡ arguments = ap (λ (x : Handing). x.0.1) whole in
    let left : (handed b.0.needs begun).1 ≡ v = ap (λ (x : Handing). x.1) whole in
    let units : b.1 ≡ v.units = sym (same_units b.0.needs begun) ∙ ap (λ (x : Work). x.units) left in
    (ap (λ (x : Asked). told x b.1) same ∙ ap (λ u. told a u) units, ap length (sym all) ∙ as_many b.0.needs begun ∙ ap (λ (x : Asked). length x.needs) same)
