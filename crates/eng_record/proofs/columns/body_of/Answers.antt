use Rattle.std.proofs.Common.{◌≡◌, ℕ, suc, ◌+◌, ◌-◌, refl, sym, ap, subst, ◌∙◌, arith}
use Rattle.std.proofs.lemmas.Bool.{eqb-true}
use Rattle.std.proofs.lemmas.Result.{err_from_is_err_and}
use Rattle.eng_record.specs.Columns.{body_of}
use Rattle.eng_record.specs.Reading.{IsFault, front, header_len_at}
use Rattle.eng_record.proofs.ColumnSteps.{among_end, among_front_fault, among_goes_on, among_here, among_start, among_type_fault, some_left}
use Rattle.eng_record.proofs.ReadingLoops.{fault_of}
use Rattle.eng_record.proofs.columns.body_of.Goals as goal

pub returns-in_err-types_len-clause-exact : goal.returns-in_err-types_len-clause-exact
unfolding body_of
returns-in_err-types_len-clause-exact c =
    let p = err_from_is_err_and c.from_residual.result c.from_residual.ensures.1 in
    rw (p.1, p.2) (fault_of c.in_err-types_len.field-0.0 (header_len_at c.args.bytes.now) (body_of c.args.number c.args.bytes.now) c.in_err-types_len.ensures.exact (λ f at. rw at refl))

pub loop-init : goal.loop-init
loop-init c =
    rw (c.split_at.ensures.front, c.split_at.ensures.back) (among_start c.args.number c.args.bytes.now c.in_ok-types_len.types_len c.min.result c.in_ok-types_len.rest.now c.in_ok-types_len.ensures.exact c.min.ensures)

pub returns-then-is_empty-clause-exact : goal.returns-then-is_empty-clause-exact
returns-then-is_empty-clause-exact c =
    among_end _ c.loop.types.now c.loop.bodies.now _ c.loop.invariant (eqb-true _ _ (sym c.is_empty.ensures ∙ c.if-is_empty.true))

pub returns-in_err-kind-clause-exact : goal.returns-in_err-kind-clause-exact
returns-in_err-kind-clause-exact c =
    let p = err_from_is_err_and c.from_residual-in_err-kind.result c.from_residual-in_err-kind.ensures.1 in
    rw (p.1, p.2) (among_type_fault c.in_err-kind.field-0.0 _ c.loop.types.now c.loop.bodies.now _ c.loop.invariant (some_left _ (sym c.is_empty.ensures ∙ c.if-is_empty.false)) c.in_err-kind.ensures.exact)

pub returns-in_err-other_bodies-clause-exact : goal.returns-in_err-other_bodies-clause-exact
returns-in_err-other_bodies-clause-exact c =
    let p = err_from_is_err_and c.from_residual-in_err-other_bodies.result c.from_residual-in_err-other_bodies.ensures.1 in
    let fault = subst (λ (n : ℕ). IsFault c.in_err-other_bodies.field-0.0 (front n c.loop.bodies.now)) c.body_len.ensures c.in_err-other_bodies.ensures.exact in
    rw (p.1, p.2) (among_front_fault c.in_err-other_bodies.field-0.0 (c.args.number - c.loop.counter) c.loop.types.now c.loop.bodies.now _ c.in_ok-kind.kind c.in_ok-kind.other_types.now (omega arith) c.loop.invariant (some_left _ (sym c.is_empty.ensures ∙ c.if-is_empty.false)) c.in_ok-kind.ensures.exact fault)

pub loop-preserved : goal.loop-preserved
loop-preserved c =
    let further : c.args.number - c.loop.counter ≡ suc (c.args.number - (c.loop.counter + 1)) = omega arith in
    let passed = ap (λ (n : ℕ). front n c.loop.bodies.now) (sym c.body_len.ensures) ∙ c.in_ok-other_bodies.ensures.exact in
    among_goes_on (c.args.number - c.loop.counter) (c.args.number - (c.loop.counter + 1)) c.loop.types.now c.loop.bodies.now _ c.in_ok-kind.kind c.in_ok-kind.other_types.now _ c.in_ok-other_bodies.other_bodies.now further c.loop.invariant (some_left _ (sym c.is_empty.ensures ∙ c.if-is_empty.false)) c.in_ok-kind.ensures.exact passed

pub returns-then-is_empty-2-clause-exact : goal.returns-then-is_empty-2-clause-exact
returns-then-is_empty-2-clause-exact c =
    among_end _ c.loop.types.now c.loop.bodies.now _ c.loop.invariant (eqb-true _ _ (sym c.is_empty-2.ensures ∙ c.if-is_empty-2.true))

pub returns-in_err-kind-2-clause-exact : goal.returns-in_err-kind-2-clause-exact
returns-in_err-kind-2-clause-exact c =
    let p = err_from_is_err_and c.from_residual-in_err-kind-2.result c.from_residual-in_err-kind-2.ensures.1 in
    rw (p.1, p.2) (among_type_fault c.in_err-kind-2.field-0.0 _ c.loop.types.now c.loop.bodies.now _ c.loop.invariant (some_left _ (sym c.is_empty-2.ensures ∙ c.if-is_empty-2.false)) c.in_err-kind-2.ensures.exact)

pub returns-clause-exact : goal.returns-clause-exact
returns-clause-exact c =
    let here : c.args.number - c.loop.counter ≡ 0 = omega arith in
    among_here (c.args.number - c.loop.counter) c.loop.types.now c.loop.bodies.now _ c.in_ok-kind-2.kind _ here c.loop.invariant (some_left _ (sym c.is_empty-2.ensures ∙ c.if-is_empty-2.false)) c.in_ok-kind-2.ensures.exact
