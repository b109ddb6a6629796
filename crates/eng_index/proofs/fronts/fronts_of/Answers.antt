use Rattle.std.proofs.Common.{◌≡◌, ◌∙◌, sym, ap, length, take}
use Rattle.std.proofs.lemmas.Result.{IfOk-weaker}
use Rattle.std.specs.Prelude.{Some}
use Rattle.eng_key.specs.RowKeys.{behind_front}
use Rattle.eng_index.specs.Fronts.{BoundsRange, LimitsFront}
use Rattle.eng_index.proofs.WithinFronts.{bounds_front, bounds_limited, bounds_nothing, is_front}
use Rattle.eng_index.proofs.fronts.fronts_of.Goals as goal

pub returns-then-has_null : goal.returns-then-has_null
returns-then-has_null c =
    bounds_nothing c.args.terms.now c.args.range.now c.with_terms-equal.result.now (c.with_terms-equal.ensures ∙ ap (take (length c.args.terms.now)) c.as_slice.ensures) (sym c.has_null.ensures ∙ c.if-has_null.true)

pub returns-in-None : goal.returns-in-None
returns-in-None c =
    let equal = c.with_terms-equal.result.now in
    let is = is_front c.args.terms.now c.args.parts.now c.args.range.now equal c.in_ok-front.front (c.with_terms-equal.ensures ∙ ap (take (length c.args.terms.now)) c.as_slice.ensures) (sym c.has_null.ensures ∙ c.if-has_null.false) c.requires c.in_ok-front.ensures.key c.in_ok-front.ensures.sound in
    IfOk-weaker c.beginning_with.result (λ fronts. fronts ≡ Some (record { from = c.in_ok-front.front; to = behind_front c.in_ok-front.front })) (BoundsRange c.args.terms.now c.args.range.now) (bounds_front c.args.terms.now c.args.range.now equal c.in_ok-front.front is (sym c.in-None.ensures)) c.beginning_with.ensures

pub returns-in-Some : goal.returns-in-Some
returns-in-Some c =
    let equal = c.with_terms-equal.result.now in
    let is = is_front c.args.terms.now c.args.parts.now c.args.range.now equal c.in_ok-front.front (c.with_terms-equal.ensures ∙ ap (take (length c.args.terms.now)) c.as_slice.ensures) (sym c.has_null.ensures ∙ c.if-has_null.false) c.requires c.in_ok-front.ensures.key c.in_ok-front.ensures.sound in
    IfOk-weaker c.limited.result (LimitsFront c.in_ok-front.front c.in-Some.term c.args.range.now) (BoundsRange c.args.terms.now c.args.range.now) (bounds_limited c.args.terms.now c.args.range.now equal c.in_ok-front.front c.in-Some.term is (sym c.in-Some.ensures)) c.limited.ensures
