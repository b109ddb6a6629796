use Rattle.parse_query.proofs.parsing.+nesting.Given as goal

abbrev pub decreases-boxed_expr : goal.decreases-boxed_expr
decreases-boxed_expr l = l.depth

abbrev pub decreases-boxed_query : goal.decreases-boxed_query
decreases-boxed_query l = l.depth
