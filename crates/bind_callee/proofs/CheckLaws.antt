-- A call goes by whether so many arguments are taken.
use Rattle.std.proofs.Common.{◌≡◌, ℕ, Bool, List, refl}
use Rattle.sql_tree.specs.declared.expr.Arguments.{Arguments}
use Rattle.sql_tree.specs.declared.expr.Arguments.TheVariants as arguments
use Rattle.sql_bound.specs.Callees.{may_call}
use Rattle.bind_callee.specs.Meant.{called_so}

pub may_call-is : (name : List ℕ) (takes_count : ℕ → Bool) (how : Arguments) (given : ℕ) → may_call name takes_count how given ≡ called_so name (takes_count given) how
may_call-is name takes_count arguments.Star given = refl
may_call-is name takes_count arguments.Distinct given = refl
may_call-is name takes_count arguments.All given = refl

pub ruleset called = may_call-is
