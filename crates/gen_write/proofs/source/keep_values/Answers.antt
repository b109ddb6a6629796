use Rattle.std.proofs.Common.{◌≡◌, ◌+◌, [], ◌∷◌, ◌++◌, take, sym, ap, ◌∙◌, subst, arith, rules}
use Rattle.std.proofs.lemmas.List.{take_all, take_more}
use Rattle.gen_write.specs.Stretches.{KeepsValues}
use Rattle.gen_write.proofs.Keeping.{keeps_none, keeps_then, keeps_wider}
use Rattle.gen_expr.proofs.Covering.{covers_item}
use Rattle.gen_expr.specs.Needs.{needs_of}
use Rattle.gen_write.specs.Writes.{needs_of_each}
use Rattle.vm_code.specs.Frames.{needing}
use Rattle.gen_write.proofs.source.keep_values.Goals as goal

pub loop-e-init : goal.loop-e-init
loop-e-init c = record { keeps = rw c.new-kept.ensures (keeps_none (needing (needs_of_each c.args.row.now)) c.args.b.now c.args.causes c.requires.counted); cursors = search rules; units = search rules }

pub keep_value-requires-clause-taken : goal.keep_value-requires-clause-taken
keep_value-requires-clause-taken c = omega (arith, c.requires.taken, c.loop-e.invariant.keeps.next)

pub keep_value-requires-clause-counted : goal.keep_value-requires-clause-counted
keep_value-requires-clause-counted c = c.loop-e.invariant.keeps.counted

pub loop-e-preserved : goal.loop-e-preserved
loop-e-preserved c =
    let i = c.loop-e.e-index in
    let all = c.args.row.now in
    let one = c.e-item.result in
    let more : take (i + 1) all ≡ take i all ++ one ∷ [] = take_more all i one c.loop-e-test.true ∙ ap (λ x. take i all ++ x ∷ []) (sym c.e-item.is) in
    let value = keeps_wider (needs_of_each all) (covers_item needs_of all i one c.loop-e-test.true c.e-item.is) c.in_ok-keep_value.ensures.keeps in
    record {
      keeps = rw (more, c.in_ok-push.ensures.ok) (keeps_then c.args.causes (take i all) one c.loop-e.kept c.in_ok-keep_value.field-0 c.requires.taken c.loop-e.invariant.keeps value);
      cursors = c.in_ok-keep_value.ensures.cursors ∙ c.loop-e.invariant.cursors;
      units = c.in_ok-keep_value.ensures.units ∙ c.loop-e.invariant.units;
    }

pub returns-clause-keeps : goal.returns-clause-keeps
returns-clause-keeps c =
    let all = c.args.row.now in
    let whole : take c.loop-e.e-index all ≡ all = take_all c.loop-e.e-index all (omega arith) in
    subst (λ es. KeepsValues (needing (needs_of_each all)) c.args.b.now c.loop-e.b c.args.causes es c.loop-e.kept) whole c.loop-e.invariant.keeps
