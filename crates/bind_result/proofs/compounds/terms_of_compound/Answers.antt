use Rattle.std.proofs.Common.{◌≡◌, map, sym, subst}
use Rattle.sql_bound.specs.Orders.{terms_of_compound}
use Rattle.sql_bound.specs.Trees.{of_term}
use Rattle.bind_result.specs.Terms.{collected}
use Rattle.bind_result.proofs.TermLaws.{terms-collected}
use Rattle.bind_result.proofs.compounds.terms_of_compound.Goals as goal

pub loop-term-init : goal.loop-term-init
loop-term-init c =
    let terms = map of_term c.args.order.now in
    subst (λ so_far. terms_of_compound c.args.text.now c.args.columns.now terms ≡ collected c.args.text.now c.args.columns.now terms so_far) (sym c.new-terms.ensures) (terms-collected c.args.text.now c.args.columns.now terms)
