use Rattle.std.proofs.Common.{◌≡◌, ◌+◌, [], ◌∷◌, ◌++◌, take, sym, ap, ◌∙◌, subst, arith, rules}
use Rattle.std.proofs.lemmas.List.{take_all, take_more}
use Rattle.gen_loop.specs.Loops.{conjuncts_steps}
use Rattle.gen_loop.specs.Needs.{conjuncts_read}
use Rattle.gen_loop.proofs.Conjuncts.{sifts_more}
use Rattle.vm_code.proofs.Sifting.{sifts_none}
use Rattle.sql_meaning.specs.Products.{sifted}
use Rattle.vm_code.specs.Frames.{Sifts, needing}
use Rattle.gen_loop.proofs.sifting.emit_conjuncts.Goals as goal

pub loop-conjunct-init : goal.loop-conjunct-init
loop-conjunct-init c = record { sifts = sifts_none (needing []) c.args.b.now c.args.causes c.args.next; cursors = search rules; units = search rules }

pub emit_conjunct-requires-clause-taken : goal.emit_conjunct-requires-clause-taken
emit_conjunct-requires-clause-taken c = omega (arith, c.loop-conjunct.invariant.sifts.next, c.requires.taken)

pub emit_conjunct-requires-clause-counted : goal.emit_conjunct-requires-clause-counted
emit_conjunct-requires-clause-counted c =
    omega (arith, c.loop-conjunct.invariant.sifts.next, c.loop-conjunct.invariant.sifts.grows.most, c.requires.counted)

pub loop-conjunct-preserved : goal.loop-conjunct-preserved
loop-conjunct-preserved c =
    let i = c.loop-conjunct.conjunct-index in
    let all = c.args.conjuncts.now in
    let one = c.conjunct-item.result in
    let more : take (i + 1) all ≡ take i all ++ one ∷ [] = take_more all i one c.loop-conjunct-test.true ∙ ap (λ x. take i all ++ x ∷ []) (sym c.conjunct-item.is) in
    record {
      sifts = subst (λ l. Sifts (needing (conjuncts_read l)) c.args.b.now c.emit_conjunct.new.b c.args.causes c.args.next (sifted l) (λ env. conjuncts_steps l)) (sym more) (sifts_more c.args.causes c.args.next (take i all) one c.loop-conjunct.invariant.sifts c.in_ok-emit_conjunct.ensures.sifts);
      cursors = c.in_ok-emit_conjunct.ensures.cursors ∙ c.loop-conjunct.invariant.cursors;
      units = c.in_ok-emit_conjunct.ensures.units ∙ c.loop-conjunct.invariant.units;
    }

pub returns-clause-sifts : goal.returns-clause-sifts
returns-clause-sifts c =
    let all = c.args.conjuncts.now in
    let whole : take c.loop-conjunct.conjunct-index all ≡ all = take_all c.loop-conjunct.conjunct-index all (omega arith) in
    subst (λ l. Sifts (needing (conjuncts_read l)) c.args.b.now c.loop-conjunct.b c.args.causes c.args.next (sifted l) (λ env. conjuncts_steps l)) whole c.loop-conjunct.invariant.sifts
