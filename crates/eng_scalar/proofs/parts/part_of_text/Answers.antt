use Rattle.std.proofs.Common.{ℕ, List, sym, ap, ◌∙◌}
use Rattle.std.proofs.lemmas.Int.{to_z-of_z}
use Rattle.std.specs.Prelude.{encode_utf8_all}
use Rattle.std.specs.Str.{chars}
use Rattle.eng_value.specs.declared.out.Out.TheVariants.{Good}
use Rattle.eng_value.specs.declared.value.Value.TheVariants as sql
use Rattle.eng_scalar.proofs.parts.part_of_text.Goals as goal

pub returns : goal.returns
returns c =
    let fits = c.ranges.start in
    let part = simp to_z-of_z at (c.part_of-part.ensures.part (chars c.args.text.now) (sym c.count.ensures.count)) in
    ap (λ (t : List ℕ). Good (sql.Text t)) (c.in_ok-from_str.ensures ∙ c.chars_between-found.ensures ∙ ap encode_utf8_all (sym part))
