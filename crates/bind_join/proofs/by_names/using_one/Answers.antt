use Rattle.std.proofs.Common.{◌≡◌, filter, Ok, Err, sym, ap, ◌∙◌, arith}
use Rattle.std.proofs.lemmas.Grind.{common_steps}
use Rattle.bind_join.specs.Joins.{counted}
use Rattle.sql_bound.specs.Froms.{one_of, on_left, using_one}
use Rattle.sql_bound.specs.Scopes.{columns_named}
use Rattle.bind_join.proofs.JoinLaws.{using-is, using-no_left, using-no_right}
use Rattle.bind_join.proofs.by_names.using_one.Goals as goal

pub returns-in_err-l : goal.returns-in_err-l
returns-in_err-l c =
    let name = c.args.name.now in
    let why = c.in_err-l.field-0.0 in
    let refused : one_of name c.in_ok-lefts.lefts ≡ Err why → using_one (counted c.args.which) c.args.left.now name c.args.j ≡ Err why = λ h.
    using-no_left c.args.which c.args.left.now name c.args.j why (ap (one_of name) (sym c.in_ok-lefts.ensures.ok) ∙ h) in
    grind (arith, common_steps, refused)

pub returns-in_err-r : goal.returns-in_err-r
returns-in_err-r c =
    let name = c.args.name.now in
    let why = c.in_err-r.field-0.0 in
    let refused : one_of name c.in_ok-rights.rights ≡ Err why → using_one (counted c.args.which) c.args.left.now name c.args.j ≡ Err why = λ h.
    using-no_right c.args.which c.args.left.now name c.args.j c.in_ok-l.l why (ap (one_of name) (sym c.in_ok-lefts.ensures.ok) ∙ c.in_ok-l.ensures) (ap (one_of name) (sym c.in_ok-rights.ensures.ok) ∙ h) in
    grind (arith, common_steps, refused)

pub returns : goal.returns
returns c =
    let name = c.args.name.now in
    using-is c.args.which c.args.left.now name c.args.j c.in_ok-l.l c.in_ok-r.r c.with_equality.result
    (ap (one_of name) (sym c.in_ok-lefts.ensures.ok) ∙ c.in_ok-l.ensures)
    (ap (one_of name) (sym c.in_ok-rights.ensures.ok) ∙ c.in_ok-r.ensures)
    c.with_equality.ensures.ok c.with_equality.ensures.mem
