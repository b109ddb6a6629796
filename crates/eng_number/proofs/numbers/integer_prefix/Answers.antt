use Rattle.std.proofs.Common.{◌∙◌, sym, ap, ◌≡◌, rules, w64, to_z, of_z}
use Rattle.eng_number.specs.Forms.{longest}
use Rattle.eng_number.specs.Numbers.{clamped_prefix, integer_prefix, whole_number}
use Rattle.eng_number.proofs.Beginnings.{longest-passes}
use Rattle.eng_number.proofs.numbers.integer_prefix.Goals as goal

pub clamped-requires : goal.clamped-requires
clamped-requires c = longest-passes whole_number c.without_space-bytes.result.now _ c.in-Some.ensures.1

pub returns-in-Some : goal.returns-in-Some
unfolding integer_prefix
returns-in-Some c =
    let same : to_z w64 (of_z w64 c.clamped.result) ≡ c.clamped.result = search rules in
    same
    ∙ c.clamped.ensures
    ∙ ap clamped_prefix (sym c.in-Some.ensures.1)
    ∙ ap (λ bytes. clamped_prefix (longest whole_number bytes)) c.without_space-bytes.ensures

pub returns-in-None : goal.returns-in-None
unfolding integer_prefix
returns-in-None c =
    ap clamped_prefix (sym c.in-None.ensures)
    ∙ ap (λ bytes. clamped_prefix (longest whole_number bytes)) c.without_space-bytes.ensures
