use Rattle.std.proofs.Common.{◌≡◌, [], inl, refl, ap, ◌∙◌, length, drop, rules}
use Rattle.std.proofs.lemmas.Result.{err_from_is_err_and}
use Rattle.sql_meaning.specs.Permits.{Ignores, asked_as}
use Rattle.std.proofs.lemmas.Str.{IsCharBoundary-start}
use Rattle.sql_lex.specs.Cutting.{start_of}
use Rattle.sql_lex.specs.Tokens.{tokens_of}
use Rattle.vm_core.specs.Meant.{meant}
use Rattle.engine.specs.Held.{world_in}
use Rattle.engine.proofs.Bodies.{first_cut}
use Rattle.engine.proofs.Prepared.{from_first}
use Rattle.engine.proofs.preparing.prepare.Goals as goal

pub prepare_from-requires-clause-cut : goal.prepare_from-requires-clause-cut
prepare_from-requires-clause-cut g c = IsCharBoundary-start c.args.text.now c.utf8.text

pub range_from-requires : goal.range_from-requires
range_from-requires g c _ =
    rw (c.start_of-start.ensures, c.deref.ensures.value) (first_cut c.args.text.now c.utf8.text c.in_ok-found.found.items c.in_ok-found.ensures.order c.in_ok-found.ensures.characters)

pub prepare_from-requires-2-clause-cut : goal.prepare_from-requires-2-clause-cut
prepare_from-requires-2-clause-cut g c =
    rw (c.start_of-start.ensures, c.deref.ensures.value) (first_cut c.args.text.now c.utf8.text c.in_ok-found.found.items c.in_ok-found.ensures.order c.in_ok-found.ensures.characters)

pub returns-in_err-found-clause-readies : goal.returns-in_err-found-clause-readies
returns-in_err-found-clause-readies g c =
    let why = err_from_is_err_and c.from_residual.result c.from_residual.ensures.1 in
    (Ignores [], λ lists many. rw (why.1, why.2) (inl refl))

pub returns-in_err-again-clause-readies : goal.returns-in_err-again-clause-readies
returns-in_err-again-clause-readies g c =
    let why = err_from_is_err_and c.from_residual-in_err-again.result c.from_residual-in_err-again.ensures.1 in
    (Ignores [], λ lists many. rw (why.1, why.2) (inl refl))

pub returns-clause-readies : goal.returns-clause-readies
returns-clause-readies g c =
    let text = c.args.text.now in
    let first : c.start_of-start.result ≡ start_of (tokens_of text) 0 = c.start_of-start.ensures ∙ ap (λ ts. start_of ts 0) (c.deref.ensures.value ∙ c.in_ok-found.ensures.tokens) in
    let from : c.range_from.result.now ≡ drop c.start_of-start.result text = search rules in
    let said = c.prepare_from-2.ensures.readies in
    let asked = asked_as (meant (λ b. (goal.Authorizer-dyn g (b.vtable, b.value)).verdicts b.value) c.args.hosts.now).authorizer said.0 in
    (said.0, λ lists many. from_first asked (world_in c.args.schema.now lists) text c.start_of-start.result (length c.deref-2.result.now) c.prepare_from-2.result first (ap length (c.deref-2.ensures.value ∙ c.in_ok-again.ensures.tokens ∙ ap tokens_of from)) (said.1 lists many))
