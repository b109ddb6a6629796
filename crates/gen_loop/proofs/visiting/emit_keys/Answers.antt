use Rattle.std.proofs.Common.{◌≡◌, ◌+◌, [], ◌∷◌, ◌++◌, length, sum_by, take, sym, ap, ◌∙◌, subst, arith, rules}
use Rattle.std.proofs.lemmas.List.{take_all, take_more}
use Rattle.gen_loop.specs.Loops.{key_steps}
use Rattle.gen_loop.specs.Needs.{key_read, keys_read}
use Rattle.gen_loop.proofs.Keys.{fills_last}
use Rattle.plan_tree.specs.Visits.{key_out, key_outs}
use Rattle.vm_code.specs.Draft.{Draft}
use Rattle.vm_code.specs.Frames.{Fills, needing}
use Rattle.vm_code.proofs.Fills.{fills_none}
use Rattle.gen_loop.proofs.visiting.emit_keys.Goals as goal

pub loop-key-init : goal.loop-key-init
loop-key-init c = record { fills = fills_none (needing []) c.args.b.now c.requires.counted; cursors = search rules; units = search rules }

pub loop-key-preserved : goal.loop-key-preserved
loop-key-preserved c =
    let i = c.loop-key.key-index in
    let all = c.args.keys.now in
    let one = c.key-item.result in
    let more : take (i + 1) all ≡ take i all ++ one ∷ [] = take_more all i one c.loop-key-test.true ∙ ap (λ x. take i all ++ x ∷ []) (sym c.key-item.is) in
    let leaves = rw c.in_ok-to.ensures.1 at c.in_ok-emit_key.ensures.leaves in
    record {
      fills = subst (λ l. Fills (needing (keys_read l)) c.args.b.now c.emit_key.new.b (length l) (λ env. key_outs env l) (λ env. sum_by key_steps l)) (sym more) (fills_last key_out key_steps key_read (take i all) one c.in_ok-to.to c.in_ok-to.ensures.0 c.loop-key.invariant.fills leaves);
      cursors = c.in_ok-emit_key.ensures.cursors ∙ ap (λ (d : Draft). d.cursors) c.in_ok-to.ensures.1 ∙ c.loop-key.invariant.cursors;
      units = c.in_ok-emit_key.ensures.units ∙ ap (λ (d : Draft). d.units) c.in_ok-to.ensures.1 ∙ c.loop-key.invariant.units;
    }

pub returns-clause-fills : goal.returns-clause-fills
returns-clause-fills c =
    let all = c.args.keys.now in
    let whole : take c.loop-key.key-index all ≡ all = take_all c.loop-key.key-index all (omega arith) in
    subst (λ l. Fills (needing (keys_read l)) c.args.b.now c.loop-key.b (length l) (λ env. key_outs env l) (λ env. sum_by key_steps l)) whole c.loop-key.invariant.fills
