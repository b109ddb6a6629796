use Rattle.std.proofs.Common.{inl, [], refl, ap, subst, sym, ◌∙◌}
use Rattle.std.proofs.lemmas.Result.{err_from_is_err_and}
use Rattle.bind_stmt.specs.Binds.{Answers}
use Rattle.eng_value.specs.HostMeanings.{verdict_of}
use Rattle.sql_meaning.specs.Permits.{Ignores, Permit, permit_of, permitted}
use Rattle.bind_asked.specs.Said.{permit}
use Rattle.bind_asked.proofs.AskedLaws.{as-said}
use Rattle.bind_asked.proofs.binding.permit.Goals as goal

pub returns-in_err-listed-clause-permitted : goal.returns-in_err-listed-clause-permitted
returns-in_err-listed-clause-permitted g c =
    let why = err_from_is_err_and c.from_residual.result c.from_residual.ensures.1 in
    (Ignores [], rw (why.1, why.2) (inl refl))

pub returns-in_err-said-clause-permitted : goal.returns-in_err-said-clause-permitted
returns-in_err-said-clause-permitted g c =
    let why = err_from_is_err_and c.from_residual-in_err-said.result c.from_residual-in_err-said.ensures.1 in
    (Ignores [], rw (why.1, why.2) (inl refl))

pub returns-clause-permitted : goal.returns-clause-permitted
returns-clause-permitted g c =
    let told = g.M.Meanings.hosts.authorizer in
    let p = permit c.in_ok-said.said in
    let same = as-said told p c.args.bound (λ is. c.in_ok-said.ensures.said is ∙ ap (permit_of (verdict_of told)) (c.as_slice.ensures ∙ c.in_ok-listed.ensures)) in
    (p, subst (λ (q : Permit). Answers (permitted c.args.bound q) c.allowed.result) (sym same) c.allowed.ensures)
