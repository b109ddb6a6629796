-- What a name in FROM stands for, and how an item is joined, by what code has of them.
use Rattle.std.proofs.Common.{◌≡◌, ℕ, Bool, false, List, map, length, Option, Some, Result, Ok, Err, refl, ap, ◌∙◌, rules}
use Rattle.bind_query.proofs.FromLaws.{item-constraint, item-join}
use Rattle.bind_with.proofs.AnswerLaws.{comes-by, comes-refused, comes-units}
use Rattle.bind_with.specs.Items.{of_with_at, view_given}
use Rattle.bound_tree.specs.declared.units.BoundSource.TheVariants as bound_source
use Rattle.bound_tree.specs.declared.units.BoundUnit.{BoundUnit}
use Rattle.eng_entry.specs.declared.entry.Entry.{Entry}
use Rattle.eng_value.specs.declared.cause.Cause.TheVariants.{Unknown}
use Rattle.eng_value.specs.declared.cause.NameKind.TheVariants as kind
use Rattle.eng_value.specs.declared.cause.Cause.{Cause}
use Rattle.sql_bound.specs.Answers.{Answers, Comes}
use Rattle.sql_bound.specs.Carriers.{ConstraintParts, Expression, Using}
use Rattle.sql_bound.specs.Froms.{Inside, as_columns, constrained, is_any, no_table, of_name, of_view, of_with, plain_source, using_all, with_names, with_units, without_arguments}
use Rattle.sql_bound.specs.Refusals.{Checked}
use Rattle.sql_bound.specs.Scopes.{Answer, Level, UnitsAnswer}
use Rattle.sql_bound.specs.Trees.{of_constraint, of_item}
use Rattle.sql_bound.specs.declared.froms.Found.{Found}
use Rattle.sql_bound.specs.declared.froms.Joining.{Joining}
use Rattle.sql_bound.specs.declared.froms.QueueTable.{QueueTable}
use Rattle.sql_bound.specs.declared.froms.Sourced.{Sourced}
use Rattle.sql_bound.specs.declared.scopes.Asked.{Asked}
use Rattle.sql_bound.specs.declared.scopes.ResultColumn.{ResultColumn}
use Rattle.sql_bound.specs.declared.scopes.WithEntry.{WithEntry}
use Rattle.sql_bound.specs.declared.scopes.WithMeaning.TheVariants.{Bound, Itself}
use Rattle.sql_bound.specs.declared.scopes.WithMeaning.{WithMeaning}
use Rattle.sql_bound.specs.declared.scopes.Work.{Work}
use Rattle.sql_words.specs.Refusals.{◌>>=◌}
use Rattle.sql_words.specs.Spelled.{name_at}
use Rattle.sql_tree.specs.declared.expr.Expr.{the_lemmas}
use Rattle.sql_tree.specs.declared.query.FromItem.{FromItem, out-FromItem}
use Rattle.sql_tree.specs.declared.query.Join.{Join}
use Rattle.sql_tree.specs.declared.query.JoinConstraint.TheVariants as join_constraint
use Rattle.sql_tree.specs.declared.query.JoinConstraint.{JoinConstraint}
use Rattle.sql_tree.specs.declared.statement.ViewDefinition.{ViewDefinition}
use Rattle.sql_tree.specs.declared.token.Token.{Token}

with-at : (i : Inside) (queue : Option QueueTable) (t : WithEntry) (m : WithMeaning) (f : Found) (w : Work) → of_with i queue t m f w ≡ of_with_at (length i.outer.levels) queue t m f w
with-at i queue t Itself f w = refl
with-at i queue t (Bound u recursive needs cs) f w = refl

module _ (i : Inside) (queue : Option QueueTable) (name : List ℕ) (found : Option WithEntry) (t : WithEntry) (args : List Expression) (f : Found) (w : Work) (is : found ≡ Some t) where
  pub named-by : without_arguments t.name args ≡ Ok tt → of_name i queue name found args f w ≡ of_with_at (length i.outer.levels) queue t t.meaning f w
  named-by none =
      ap (λ (o : Option WithEntry). of_name i queue name o args f w) is
      ∙ ap (λ (u : Checked (Unit {0})). u >>= λ x. of_with i queue t t.meaning f w) none
      ∙ with-at i queue t t.meaning f w

  pub named-refused : (why : Cause) → without_arguments t.name args ≡ Err why → of_name i queue name found args f w ≡ Err why
  named-refused why some =
      ap (λ (o : Option WithEntry). of_name i queue name o args f w) is
      ∙ ap (λ (u : Checked (Unit {0})). u >>= λ x. of_with i queue t t.meaning f w) some

pub constrained-by : (i : Inside) (left : Level) (item : FromItem) (b : Bool) (j : Joining) (w : Work) → (out-FromItem item).join.natural ≡ b
    → constrained i left (of_item item).join.natural (of_item item).constraint j w ≡ constrained i left b (of_constraint (out-FromItem item).constraint) j w
constrained-by i left item b j w is =
    ap (λ (how : Join). constrained i left how.natural (of_item item).constraint j w) (item-join item)
    ∙ ap (λ (c : ConstraintParts). constrained i left (out-FromItem item).join.natural c j w) (item-constraint item)
    ∙ ap (λ (n : Bool). constrained i left n (of_constraint (out-FromItem item).constraint) j w) is

-- ---- USING

using-tree : (ts : List Token) → of_constraint (join_constraint.Using ts) ≡ Using ts
using-tree ts = search (rules, the_lemmas)

pub using-is : (i : Inside) (left : Level) (c : JoinConstraint) (ts : List Token) (j : Joining) (w : Work) (r : Result Joining Cause) → c ≡ join_constraint.Using ts
    → Answers (using_all is_any left (map (name_at i.outer.text) ts) j) r → Comes (constrained i left false (of_constraint c) j w) r w
using-is i left c ts j w r is told =
    comes-by (constrained i left false (of_constraint c) j w) (with_units (using_all is_any left (map (name_at i.outer.text) ts) j) w) r w
    (ap (λ (x : JoinConstraint). constrained i left false (of_constraint x) j w) is ∙ ap (λ (x : ConstraintParts). constrained i left false x j w) (using-tree ts))
    (comes-units (using_all is_any left (map (name_at i.outer.text) ts) j) r w told)

-- ---- no table

pub no-table : (meant : Answer Sourced) (name : List ℕ) (r : Result Sourced Cause) (w : Work) → meant ≡ Err (Unknown kind.Table name) → Answers (no_table {A = Sourced} name) r → Comes meant r w
no-table meant name r w is told = comes-by meant (Err (Unknown kind.Table name)) r w is (comes-refused (Unknown kind.Table name) r w told)

-- ---- a view whose query is bound

module _ (i : Inside) (name : List ℕ) (entry : Entry) (d : ViewDefinition) (w : Work) where
  abbrev rows : Asked × List BoundUnit → List ResultColumn → Answer Sourced
  rows a cs = Ok (plain_source (Some entry.name) (bound_source.View entry.name a.0.unit) (as_columns cs), record w { units = a.1 })

  abbrev given : Asked × List BoundUnit → List ResultColumn → Checked Sourced
  given a cs = Ok (plain_source (Some entry.name) (bound_source.View entry.name a.0.unit) (as_columns cs))

  abbrev named : Asked × List BoundUnit → Answer Sourced
  named a = with_names entry.name (map (name_at entry.text) d.columns) a.0.columns >>= rows a

  rows-given : (a : Asked × List BoundUnit) (cs : Checked (List ResultColumn)) → (cs >>= rows a) ≡ with_units (cs >>= given a) (record w { units = a.1 })
  rows-given a (Ok cs) = refl
  rows-given a (Err why) = refl

  pub view-bound : (v : Option ViewDefinition) (a : Asked × List BoundUnit) (r : Result Sourced Cause) → v ≡ Some d → i.views entry.name entry.text d.query w.units ≡ Ok a
      → Answers (view_given entry d a.0.unit a.0.columns) r → Comes (of_view i name entry v w) r (record w { units = a.1 })
  view-bound v a r is bound told =
      comes-by (of_view i name entry v w) (with_units (view_given entry d a.0.unit a.0.columns) (record w { units = a.1 })) r (record w { units = a.1 })
      (ap (λ (o : Option ViewDefinition). of_view i name entry o w) is
      ∙ ap (λ (u : UnitsAnswer Asked). u >>= named) bound
      ∙ rows-given a (with_names entry.name (map (name_at entry.text) d.columns) a.0.columns))
      (comes-units (view_given entry d a.0.unit a.0.columns) r (record w { units = a.1 }) told)
