use Rattle.std.proofs.Common.{subst, length}
use Rattle.bound_laws.specs.Reach.{Serves}
use Rattle.bound_laws.proofs.Lists.{order_of_all}
use Rattle.bound_laws.proofs.OutermostLaws.{query_fits}
use Rattle.bound_laws.proofs.SourceLaws.{nothing_needed}
use Rattle.bound_laws.proofs.laws.a_query_names_what_is_there.Goals as goal

pub returns-clause-adds : goal.returns-clause-adds
returns-clause-adds c around depth q o units more a deep levels tables is = (query_fits around depth q o units (a, more) deep levels tables is).adds

pub returns-clause-order : goal.returns-clause-order
returns-clause-order c around depth q o units more a deep levels tables before is = order_of_all units more (query_fits around depth q o units (a, more) deep levels tables is).adds before

pub returns-clause-own : goal.returns-clause-own
returns-clause-own c around depth q o units more a deep levels tables is =
    let fits = query_fits around depth q o units (a, more) deep levels tables is in
    subst (λ needs. Serves more a.unit (length needs) (length a.columns)) (nothing_needed a.needs fits.needs) fits.serves

pub returns-clause-nothing_needed : goal.returns-clause-nothing_needed
returns-clause-nothing_needed c around depth q o units more a deep levels tables is = nothing_needed a.needs (query_fits around depth q o units (a, more) deep levels tables is).needs
