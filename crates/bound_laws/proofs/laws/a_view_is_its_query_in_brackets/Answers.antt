use Rattle.std.proofs.Common.{◌≡◌, ◌∙◌, ℕ, refl, sym, ap}
use Rattle.eng_entry.specs.declared.entry.Entry.{Entry}
use Rattle.sql_bound.specs.Froms.{derived}
use Rattle.sql_bound.specs.Scopes.{Around}
use Rattle.sql_bound.specs.declared.scopes.Work.{Work}
use Rattle.sql_tree.specs.declared.statement.ViewDefinition.{ViewDefinition}
use Rattle.bound_laws.proofs.BeyondTrees.{query_is_alike}
use Rattle.bound_laws.proofs.ViewLaws.{bound_alike, misnamed_alike, refused_alike, view_asks}
use Rattle.bound_laws.specs.Views.{in_brackets, in_view, views_at}
use Rattle.bound_laws.proofs.laws.a_view_is_its_query_in_brackets.Goals as goal

-- in brackets it sees one empty FROM more
without_from : (around : Around) (depth : ℕ) (entry : Entry) (v : ViewDefinition) (w : Work) → derived w (views_at around depth entry.name entry.text v.query w.units) ≡ in_brackets around depth entry v w
without_from around depth entry v w = sym (ap (derived w) ((query_is_alike v.query).bound (in_view around depth entry.name entry.text) w.units))

pub returns-clause-bound : goal.returns-clause-bound
returns-clause-bound c around depth o name entry v w after s is fit =
    bound_alike entry v w (views_at around depth entry.name entry.text v.query w.units) (view_asks around depth entry.name entry.text v.query w.units) s after (without_from around depth entry v w ∙ is) fit

pub returns-clause-misnamed : goal.returns-clause-misnamed
returns-clause-misnamed c around depth o name entry v w after s is fit =
    misnamed_alike entry v w (views_at around depth entry.name entry.text v.query w.units) (view_asks around depth entry.name entry.text v.query w.units) s after (without_from around depth entry v w ∙ is) fit

pub returns-clause-refused : goal.returns-clause-refused
returns-clause-refused c around depth o name entry v w why is =
    refused_alike entry v w (views_at around depth entry.name entry.text v.query w.units) (view_asks around depth entry.name entry.text v.query w.units) why (without_from around depth entry v w ∙ is)

pub returns-clause-as_deep : goal.returns-clause-as_deep
returns-clause-as_deep c around depth o f units = refl
