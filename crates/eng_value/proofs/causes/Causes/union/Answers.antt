use Rattle.std.proofs.Common.{◌≡◌, ◌+◌, ◌++◌, [], ◌∷◌, ap, sym, ◌∙◌, take, arith}
use Rattle.std.specs.FinSet as set
use Rattle.std.proofs.lemmas.List.{take_all, take_more}
use Rattle.eng_value.specs.Causes.{CauseSet, cause_key}
use Rattle.eng_value.proofs.CauseLaws.{set_of, union-first, union-none, union-push}
use Rattle.eng_value.proofs.causes.Causes.union.Goals as goal

pub loop-cause-init : goal.loop-cause-init
loop-cause-init c = sym (union-none c.add.new.self)

pub loop-cause-preserved : goal.loop-cause-preserved
loop-cause-preserved c =
    let all = c.deref-cause-items.result.now in
    let i = c.loop-cause.cause-index in
    let one = c.cause-item.result in
    let more : take (i + 1) all ≡ take i all ++ one ∷ [] = take_more all i one c.loop-cause-test.true ∙ ap (λ x. take i all ++ x ∷ []) (sym c.cause-item.is) in
    c.in_ok-add-2.ensures
    ∙ ap (λ (s : CauseSet). set.insert s (cause_key one)) c.loop-cause.invariant
    ∙ sym (union-push c.add.new.self (take i all) one)
    ∙ ap (λ cs. set.union c.add.new.self (set_of cs)) (sym more)

pub returns : goal.returns
returns c =
    let mine = c.args.self.now in
    let theirs = c.other.inside in
    let read : take c.loop-cause.cause-index c.deref-cause-items.result.now ≡ theirs.others.items =
    take_all c.loop-cause.cause-index c.deref-cause-items.result.now (omega arith) ∙ c.deref-cause-items.ensures.value in
    let begun : c.add.new.self ≡ set.insert mine (cause_key theirs.first) = c.in_ok-add.ensures ∙ ap (λ (s : CauseSet). set.insert s (cause_key theirs.first)) c.in_ok-all.ensures.cases in
    c.loop-cause.invariant
    ∙ ap (λ cs. set.union c.add.new.self (set_of cs)) read
    ∙ ap (λ (s : CauseSet). set.union s (set_of theirs.others.items)) begun
    ∙ union-first mine theirs.first theirs.others.items
    ∙ ap (λ (s : CauseSet). set.union mine s) c.other.view_is
