-- A query's unit stands in its place, or one that is the same.
use Rattle.std.proofs.Common.{◌≡◌, ℕ, true, Option, List, [], ◌∷◌, ◌++◌, length, position, slice_get, slice_index_or, Some, None, Ok, refl, sym, ap, subst, ◌∙◌}
use Rattle.std.proofs.lemmas.List.Quantifiers.{position-Some}
use Rattle.std.proofs.lemmas.Option.{slice_get-get_or}
use Rattle.sql_tree.specs.Layers.{of_part, of_query as query_layer}
use Rattle.sql_tree.specs.declared.query.Query.{Query}
use Rattle.sql_words.specs.Refusals.{◌>>=◌}
use Rattle.bound_tree.specs.Exprs.{BoundExpr}
use Rattle.bound_tree.specs.SameUnits.{same_unit}
use Rattle.bound_tree.specs.declared.statements.BoundCommand.TheVariants as bound_command
use Rattle.bound_tree.specs.declared.statements.BoundCommand.{BoundCommand}
use Rattle.bound_tree.specs.declared.units.BoundUnit.TheVariants.{Queried}
use Rattle.bound_tree.specs.declared.units.BoundUnit.{BoundUnit}
use Rattle.bound_tree.specs.declared.writes.BoundChange.{BoundChange}
use Rattle.sql_bound.proofs.HandLaws.{same_units}
use Rattle.sql_bound.specs.Carriers.{Queries}
use Rattle.sql_bound.specs.Compounds.{width_fits}
use Rattle.sql_bound.specs.Expressions.{asked}
use Rattle.sql_bound.specs.Froms.{beside_from}
use Rattle.sql_bound.specs.Queries.{unit_at}
use Rattle.sql_bound.specs.Scopes.{Outer, handed}
use Rattle.sql_bound.specs.Statements.{rows_bound}
use Rattle.sql_bound.specs.Targets.{Target}
use Rattle.sql_bound.specs.Trees.{of_query}
use Rattle.sql_bound.specs.Writes.{Opened, inserted_from, insertion}
use Rattle.sql_bound.specs.declared.scopes.Asked.{Asked}
use Rattle.sql_bound.specs.declared.scopes.Work.{Work}
use Rattle.bound_size.specs.Plain.{is_plain_query}
use Rattle.bound_size.specs.Small.{MakesSmall}
use Rattle.bound_size.proofs.BoundLaws.{bound_by, same_answer}
use Rattle.bound_size.proofs.QueryLaws.{Makes, query_small}
use Rattle.bound_size.proofs.SameSizes.{part_same, query_unit_same}

behind : {X : Type 0} (xs : List X) (x : X) → slice_get (xs ++ x ∷ []) (length xs) ≡ Some x
behind [] x = refl
behind (y ∷ xs) x = behind xs x

unit_placed : (q : Query) (a : Asked × List BoundUnit) (m : Makes q a) (found : Option ℕ) → position (same_unit (Queried m.unit)) m.work.units ≡ found
    → MakesSmall q (unit_at (Queried m.unit) m.work.units found).0 (unit_at (Queried m.unit) m.work.units found).1
unit_placed q a m None h = record { unit = m.unit; placed = behind m.work.units (Queried m.unit); small = m.small }
unit_placed q a m (Some place) h =
    let at = position-Some (same_unit (Queried m.unit)) m.work.units place (Queried m.unit) h in
    let there = slice_index_or m.work.units place (Queried m.unit) in
    let same = query_unit_same m.unit there at.1 in
    record {
      unit = same.0;
      placed = slice_get-get_or m.work.units place (Queried m.unit) at.0 ∙ ap (λ (u : BoundUnit). Some u) same.1;
      small = part_same (of_part (query_layer q).first) m.unit.first same.0.first same.2 m.small;
    }

pub query_placed : (q : Query) (o : Outer) (units : List BoundUnit) (a : Asked × List BoundUnit) → is_plain_query q ≡ true → (of_query q).bound o units ≡ Ok a → MakesSmall q a.0.unit a.1
query_placed q o units a plain h =
    let m = query_small q o units a plain h in
    subst (λ (x : Asked × List BoundUnit). MakesSmall q x.0.unit x.1) (sym m.made) (unit_placed q a m (position (same_unit (Queried m.unit)) m.work.units) refl)

-- ---- as a statement, and as the source of an INSERT

pub asked_placed : (q : Query) (o : Outer) (r : BoundCommand × Opened) → is_plain_query q ≡ true → rows_bound o (Queries (of_query q)) ≡ Ok r → (place : ℕ) × (r.0 ≡ bound_command.Asked place) × MakesSmall q place r.1.units
asked_placed q o r plain h =
    let a = bound_by ((of_query q).bound o []) (λ a. Ok (bound_command.Asked a.0.unit, record { units = a.1; triggers = [] })) r h in
    let all : BoundCommand × Opened = (bound_command.Asked a.0.0.unit, record { units = a.0.1; triggers = [] }) in
    let same = same_answer all r a.2 in
    (a.0.0.unit, sym (ap (λ (x : BoundCommand × Opened). x.0) same), subst (λ (x : BoundCommand × Opened). MakesSmall q a.0.0.unit x.1.units) same (query_placed q o [] a.0 plain a.1))

pub inserted_placed : (q : Query) (o : Outer) (t : Target) (listed : List (Option ℕ)) (w : Work) (r : BoundChange × Work) → is_plain_query q ≡ true → inserted_from o t listed (Some (of_query q)) w ≡ Ok r
    → (place : ℕ) × (arguments : List BoundExpr) × (r.0 ≡ insertion t listed place arguments) × MakesSmall q place r.1.units
inserted_placed q o t listed w r plain h =
    let answer = (of_query q).bound (beside_from o) w.units in
    let made : (Asked × List BoundExpr) × Work → BoundChange × Work = λ a. (insertion t listed a.0.0.unit a.0.1, a.1) in
    let a = bound_by (asked w answer) (λ a. width_fits t.name (length listed) (length a.0.0.columns) >>= λ u. Ok (made a)) r h in
    let u = bound_by (width_fits t.name (length listed) (length a.0.0.0.columns)) (λ u. Ok (made a.0)) r a.2 in
    let handing : Asked × List BoundUnit → (Asked × List BoundExpr) × Work = λ b. let k = handed b.0.needs (record w { units = b.1 }) in ((b.0, k.0), k.1) in
    let b = bound_by answer (λ b. Ok (handing b)) a.0 a.1 in
    let small = query_placed q (beside_from o) w.units b.0 plain b.1 in
    let kept : (handing b.0).1.units ≡ b.0.1 = same_units b.0.0.needs (record w { units = b.0.1 }) in
    let here = subst (λ (x : (Asked × List BoundExpr) × Work). MakesSmall q x.0.0.unit x.1.units) (same_answer (handing b.0) a.0 b.2) (subst (λ (x : List BoundUnit). MakesSmall q b.0.0.unit x) (sym kept) small) in
    let same = same_answer (made a.0) r u.2 in
    (a.0.0.0.unit, a.0.0.1, sym (ap (λ (x : BoundChange × Work). x.0) same), subst (λ (x : BoundChange × Work). MakesSmall q a.0.0.0.unit x.1.units) same here)
