-- The values of the arguments are what the function is called on, and they come back to where they were.
use Rattle.std.proofs.Common.{◌≡◌, ◌∙◌, List, IfOk, ap, map, subst}
use Rattle.eng_key.specs.Values.{value_keys}
use Rattle.eng_value.specs.Collations.{own_keys}
use Rattle.eng_value.specs.Functions.{call_of}
use Rattle.eng_value.specs.declared.out.Out.{Out}
use Rattle.eng_value.specs.declared.out.Out.TheVariants.{Good}
use Rattle.eng_value.specs.declared.value.Value.{Value}
use Rattle.eng_scalar.proofs.CalledLaws.{function_of-good, good_again}
use Rattle.eng_scalar.proofs.applying.on_values.Goals as goal

pub returns-clause-out : goal.returns-clause-out
returns-clause-out c =
    let good = function_of-good c.args.f c.args.collation c.args.args.now c.requires in
    let same = ap (λ (vs : List Value). call_of c.args.f vs (map (value_keys own_keys c.args.collation) vs)) (c.deref.ensures.value ∙ c.move_out.ensures) ∙ good in
    subst (λ (wanted : Out). IfOk c.call_by_keys-out.result (λ out. out ≡ wanted)) same c.call_by_keys-out.ensures

pub returns-clause-args : goal.returns-clause-args
returns-clause-args c = c.move_back.ensures ∙ ap (map Good) c.move_out.ensures ∙ good_again c.args.args.now c.requires
