use Rattle.std.proofs.Common.{◌≡◌, ◌∷◌, ◌∙◌, ap, sym, subst, rules, tests}
use Rattle.std.proofs.lemmas.List.{nil_from_length}
use Rattle.std.proofs.lemmas.List.Elements.{filter_from_retain}
use Rattle.std.specs.List.{filter}
use Rattle.eng_value.specs.Causes.{CauseSet, StandOnce, named}
use Rattle.eng_value.proofs.CauseLaws.{StandOnce-another, StandOnce-one, StandOnce-others, is_other, named-alone, named-another, named-others, set_of}
use Rattle.eng_value.proofs.causes.Causes.named.Goals as goal

pub invariant_of-result : goal.invariant_of-result
invariant_of-result c =
    let are : c.retain.new.self.items ≡ filter is_other c.self.inside.others.items = filter_from_retain _ is_other (λ f x b g called. search (rules, tests)) _ _ _ c.retain.ensures.filtered in
    StandOnce-others c.self.inside.first c.self.inside.others.items _ are (sym c.is_skip.ensures ∙ c.if-not-is_skip.true) c.self.invariant

pub returns-then-not-is_skip : goal.returns-then-not-is_skip
returns-then-not-is_skip c =
    let are : c.retain.new.self.items ≡ filter is_other c.self.inside.others.items = filter_from_retain _ is_other (λ f x b g called. search (rules, tests)) _ _ _ c.retain.ensures.filtered in
    named-others c.self.inside.first c.self.inside.others.items _ are (sym c.is_skip.ensures ∙ c.if-not-is_skip.true) c.self.invariant ∙ ap (λ (s : CauseSet). named s) c.self.view_is

pub invariant_of-result-in-Some : goal.invariant_of-result-in-Some
invariant_of-result-in-Some c =
    let are : c.retain.new.self.items ≡ filter is_other c.self.inside.others.items = filter_from_retain _ is_other (λ f x b g called. search (rules, tests)) _ _ _ c.retain.ensures.filtered in
    StandOnce-another c.self.inside.first c.in-Some.other c.self.inside.others.items _ _ are c.in-Some.ensures.items (sym c.is_skip.ensures ∙ c.if-not-is_skip.false) c.self.invariant

pub returns-in-Some : goal.returns-in-Some
returns-in-Some c =
    let are : c.retain.new.self.items ≡ filter is_other c.self.inside.others.items = filter_from_retain _ is_other (λ f x b g called. search (rules, tests)) _ _ _ c.retain.ensures.filtered in
    named-another c.self.inside.first c.in-Some.other c.self.inside.others.items _ _ are c.in-Some.ensures.items (sym c.is_skip.ensures ∙ c.if-not-is_skip.false) c.self.invariant ∙ ap (λ (s : CauseSet). named s) c.self.view_is

pub invariant_of-result-2 : goal.invariant_of-result-2
invariant_of-result-2 c = subst (λ cs. StandOnce (c.self.inside.first ∷ cs)) (sym (nil_from_length c.pop.new.self.items (search rules))) (StandOnce-one c.self.inside.first)

pub returns : goal.returns
returns c =
    let are : c.retain.new.self.items ≡ filter is_other c.self.inside.others.items = filter_from_retain _ is_other (λ f x b g called. search (rules, tests)) _ _ _ c.retain.ensures.filtered in
    ap (λ cs. set_of (c.self.inside.first ∷ cs)) (nil_from_length c.pop.new.self.items (search rules))
    ∙ named-alone c.self.inside.first c.self.inside.others.items _ are (nil_from_length c.retain.new.self.items (search rules)) (sym c.is_skip.ensures ∙ c.if-not-is_skip.false) c.self.invariant
    ∙ ap (λ (s : CauseSet). named s) c.self.view_is
