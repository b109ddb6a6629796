use Rattle.std.proofs.Common.{◌≡◌, ◌+◌, ◌<◌, false, length, refl, ap, ◌∙◌, arith}
use Rattle.std.proofs.lemmas.Result.{on_ok_weaker}
use Rattle.eng_index.specs.declared.key_term.TermSource.TheVariants.{Rowid}
use Rattle.eng_value.specs.declared.built.Built.TheVariants.{Binary}
use Rattle.plan_best.proofs.Following.{more_equal, more_next, more_terms, serves_on, still_goes_on, still_term}
use Rattle.plan_best.specs.Drafts.{KeepsServing}
use Rattle.plan_best.specs.declared.comparing.Wanted.TheVariants as wanted
use Rattle.plan_best.proofs.drafting.Draft.extend.Goals as goal

pub end-requires-clause-goes_on : goal.end-requires-clause-goes_on
end-requires-clause-goes_on c =
    still_goes_on c.args.params.now c.args.item c.args.conjuncts.now c.in_ok-add.field-0 wanted.Equal c.loop-i.self c.add.new.self c.in_ok-add.ensures.added c.if-not-branch.true c.loop-i.invariant.goes_on

pub end-requires-clause-term : goal.end-requires-clause-term
end-requires-clause-term c =
    let long : length c.loop-i.self.search.terms ≡ length c.args.self.now.search.terms = ap length c.loop-i.invariant.terms in
    let lt : c.loop-i.i < length c.loop-i.self.search.terms = grind (arith, long, c.min-i-end.ensures, c.len.ensures) in
    still_term c.in_ok-add.field-0 wanted.Equal c.loop-i.self c.add.new.self c.in_ok-add.ensures.added c.if-not-branch.true c.as_slice.result.now c.loop-i.i (record { source = Rowid; collation = Binary; descending = false }) c.as_slice.ensures c.loop-i.invariant.equal lt

pub returns-then-not-branch : goal.returns-then-not-branch
returns-then-not-branch c =
    let params = c.args.params.now in
    let item = c.args.item in
    let cs = c.args.conjuncts.now in
    let self = c.args.self.now in
    let first : KeepsServing params item cs self c.add.new.self = serves_on params item cs self c.loop-i.self c.add.new.self c.loop-i.invariant.serves c.in_ok-add.ensures.serves in
    on_ok_weaker {P = KeepsServing params item cs c.add.new.self c.end.new.self} c.end.result (λ last. serves_on params item cs self c.add.new.self c.end.new.self first last) c.end.ensures

pub loop-i-preserved : goal.loop-i-preserved
loop-i-preserved c =
    let added = c.in_ok-add.field-0 in
    let old = c.loop-i.self in
    let new = c.add.new.self in
    record {
      serves = serves_on c.args.params.now c.args.item c.args.conjuncts.now c.args.self.now old new c.loop-i.invariant.serves c.in_ok-add.ensures.serves;
      goes_on = c.in_ok-add.ensures.goes_on refl;
      terms = more_terms added old new c.in_ok-add.ensures.added c.if-not-branch.false ∙ c.loop-i.invariant.terms;
      equal = more_equal added old new c.in_ok-add.ensures.added c.if-not-branch.false ∙ ap (λ n. n + 1) c.loop-i.invariant.equal;
      next = more_next added old new c.in_ok-add.ensures.added c.if-not-branch.false c.loop-i.invariant.next;
    }
