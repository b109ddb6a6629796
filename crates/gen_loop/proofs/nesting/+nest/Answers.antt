use Rattle.std.proofs.Common.{◌≡◌, [], ◌∷◌, length, sym, ap, ◌∙◌}
use Rattle.std.proofs.lemmas.List.{nil_from_length}
use Rattle.gen_loop.specs.Loops.{nested, nested_steps}
use Rattle.gen_loop.proofs.Alone as alone
use Rattle.gen_loop.proofs.Alone.{flagging, unset}
use Rattle.gen_loop.proofs.Ordered.{nested-cons, nested-keeps, nested-nil}
use Rattle.gen_loop.proofs.Pairs as pairs
use Rattle.gen_loop.proofs.Pairs.{opening}
use Rattle.gen_loop.proofs.Turns.{nests_body, nests_same}
use Rattle.vm_code.specs.Draft.{Draft, taken, with_label, with_op}
use Rattle.vm_code.specs.declared.op.Op.TheVariants as op
use Rattle.gen_loop.proofs.nesting.+nest.Goals as goal

pub emit_nest-returns-in_ok-emit-in-None-clause-nests : goal.emit_nest-returns-in_ok-emit-in-None-clause-nests
emit_nest-returns-in_ok-emit-in-None-clause-nests g t c =
    let none : c.args.loops.now ≡ [] = nil_from_length c.args.loops.now c.in-None.ensures.cases in
    let F = g.B.LoopBody.effect c.args.body.now in
    rw none (nests_same (nested [] F) (λ sight v x. sym (nested-nil F sight v x)) (nests_body c.in_ok-emit-in-None.ensures.does))

-- ---- each row makes a pair

pub emit_each-bind-requires-2 : goal.emit_each-bind-requires-2
emit_each-bind-requires-2 g t c =
    let places = c.in_ok-end.ensures in
    let F = g.B.LoopBody.effect c.args.body.now in
    let most = g.B.LoopBody.cost c.args.body.now in
    let lo = g.B.LoopBody.own c.args.body.now in
    let l = c.args.outer.now in
    let loops = c.args.inner.now in
    let keeps = nested-keeps loops F c.in_ok-emit_nest.ensures.keeps in
    let comes = rw (places.b, places.end) at c.in_ok-emit_first_row.ensures in
    let sifts = rw (c.in_ok-op.ensures, c.in_ok-bind.ensures, places.top, places.mine, places.next, c.as_slice.ensures) at c.in_ok-emit_conjuncts.ensures.sifts in
    let wide = rw (c.in_ok-op.ensures, c.in_ok-bind.ensures) at c.in_ok-emit_conjuncts.ensures.cursors in
    let nests = rw places.mine at c.in_ok-emit_nest.ensures.nests in
    rw places.next (pairs.next_y c.args.b.now c.emit_first_row.new.b c.emit_conjuncts.new.b c.emit_nest.new.b l loops lo c.args.causes (nested loops F) keeps (nested_steps loops most) c.requires.each c.requires.owned c.requires.taken comes sifts wide nests)

pub emit_each-bind-requires-3 : goal.emit_each-bind-requires-3
emit_each-bind-requires-3 g t c =
    let places = c.in_ok-end.ensures in
    let F = g.B.LoopBody.effect c.args.body.now in
    let most = g.B.LoopBody.cost c.args.body.now in
    let lo = g.B.LoopBody.own c.args.body.now in
    let l = c.args.outer.now in
    let loops = c.args.inner.now in
    let keeps = nested-keeps loops F c.in_ok-emit_nest.ensures.keeps in
    let comes = rw (places.b, places.end) at c.in_ok-emit_first_row.ensures in
    let sifts = rw (c.in_ok-op.ensures, c.in_ok-bind.ensures, places.top, places.mine, places.next, c.as_slice.ensures) at c.in_ok-emit_conjuncts.ensures.sifts in
    let wide = rw (c.in_ok-op.ensures, c.in_ok-bind.ensures) at c.in_ok-emit_conjuncts.ensures.cursors in
    let nests = rw places.mine at c.in_ok-emit_nest.ensures.nests in
    rw (c.in_ok-op-2.ensures, c.in_ok-bind-2.ensures, places.end, places.next) (pairs.end_e c.args.b.now c.emit_first_row.new.b c.emit_conjuncts.new.b c.emit_nest.new.b l loops lo c.args.causes (nested loops F) keeps (nested_steps loops most) c.requires.each c.requires.owned c.requires.taken comes sifts wide nests)

pub emit_each-returns-clause-nests : goal.emit_each-returns-clause-nests
emit_each-returns-clause-nests g t c =
    let places = c.in_ok-end.ensures in
    let F = g.B.LoopBody.effect c.args.body.now in
    let most = g.B.LoopBody.cost c.args.body.now in
    let lo = g.B.LoopBody.own c.args.body.now in
    let l = c.args.outer.now in
    let loops = c.args.inner.now in
    let keeps = nested-keeps loops F c.in_ok-emit_nest.ensures.keeps in
    let comes = rw (places.b, places.end) at c.in_ok-emit_first_row.ensures in
    let sifts = rw (c.in_ok-op.ensures, c.in_ok-bind.ensures, places.top, places.mine, places.next, c.as_slice.ensures) at c.in_ok-emit_conjuncts.ensures.sifts in
    let wide = rw (c.in_ok-op.ensures, c.in_ok-bind.ensures) at c.in_ok-emit_conjuncts.ensures.cursors in
    let nests = rw places.mine at c.in_ok-emit_nest.ensures.nests in
    rw (c.release.ensures, c.in_ok-bind-3.ensures, c.in_ok-op-2.ensures, c.in_ok-bind-2.ensures, places.end, places.top, places.next, places.mine) (nests_same (nested (l ∷ loops) F) (λ sight v x. sym (nested-cons F sight l loops v x)) (pairs.pairs-nest c.args.b.now c.emit_first_row.new.b c.emit_conjuncts.new.b c.emit_nest.new.b l loops lo c.args.causes (nested loops F) keeps (nested_steps loops most) c.requires.each c.requires.owned c.requires.taken comes sifts wide nests))

-- ---- a row may stay alone

pub emit_or_alone-bind-requires-2 : goal.emit_or_alone-bind-requires-2
emit_or_alone-bind-requires-2 g t c =
    let places = c.in_ok-end.ensures in
    let a = c.args.b.now in
    let l = c.args.outer.now in
    let ons = c.args.ons.now in
    let e1 = c.in_ok-pair.ensures.1 in
    let e2 = c.in_ok-done.ensures.1 ∙ ap with_label e1 in
    let e3 : c.take.new.self ≡ flagging a = c.in_ok-flag.ensures.1 ∙ ap taken e2 in
    let pair_is = c.in_ok-pair.ensures.0 in
    let flag_is : c.in_ok-flag.flag ≡ a.next = c.in_ok-flag.ensures.0 ∙ ap (λ (d : Draft). d.next) e2 in
    let end_is = places.end ∙ ap (λ (d : Draft). length d.labels) e3 in
    let top_is = places.top ∙ ap (λ (d : Draft). length (with_label d).labels) e3 in
    let next_is = places.next ∙ ap (λ (d : Draft). length (with_label (with_label d)).labels) e3 in
    let mine_is = places.mine ∙ ap (λ (d : Draft). d.next) e3 in
    let opened : c.op.new.self ≡ unset a = c.in_ok-op.ensures ∙ ap (λ d. with_op d (op.Null c.in_ok-flag.flag)) (places.b ∙ ap opening e3) ∙ ap (λ n. with_op (opening (flagging a)) (op.Null n)) flag_is in
    let comes = rw (opened, end_is) at c.in_ok-emit_first_row.ensures in
    let on_sifts = rw (c.in_ok-op-2.ensures, c.in_ok-bind.ensures, top_is, mine_is, next_is) at c.in_ok-emit_conjuncts.ensures.sifts in
    rw pair_is (alone.pair-open a c.emit_first_row.new.b c.emit_conjuncts.new.b l ons c.args.causes comes on_sifts)

pub emit_or_alone-bind-requires-3 : goal.emit_or_alone-bind-requires-3
emit_or_alone-bind-requires-3 g t c =
    let places = c.in_ok-end.ensures in
    let a = c.args.b.now in
    let l = c.args.outer.now in
    let ons = c.args.ons.now in
    let e1 = c.in_ok-pair.ensures.1 in
    let e2 = c.in_ok-done.ensures.1 ∙ ap with_label e1 in
    let e3 : c.take.new.self ≡ flagging a = c.in_ok-flag.ensures.1 ∙ ap taken e2 in
    let pair_is = c.in_ok-pair.ensures.0 in
    let flag_is : c.in_ok-flag.flag ≡ a.next = c.in_ok-flag.ensures.0 ∙ ap (λ (d : Draft). d.next) e2 in
    let end_is = places.end ∙ ap (λ (d : Draft). length d.labels) e3 in
    let top_is = places.top ∙ ap (λ (d : Draft). length (with_label d).labels) e3 in
    let next_is = places.next ∙ ap (λ (d : Draft). length (with_label (with_label d)).labels) e3 in
    let mine_is = places.mine ∙ ap (λ (d : Draft). d.next) e3 in
    let opened : c.op.new.self ≡ unset a = c.in_ok-op.ensures ∙ ap (λ d. with_op d (op.Null c.in_ok-flag.flag)) (places.b ∙ ap opening e3) ∙ ap (λ n. with_op (opening (flagging a)) (op.Null n)) flag_is in
    let comes = rw (opened, end_is) at c.in_ok-emit_first_row.ensures in
    let on_sifts = rw (c.in_ok-op-2.ensures, c.in_ok-bind.ensures, top_is, mine_is, next_is) at c.in_ok-emit_conjuncts.ensures.sifts in
    let F = g.B.LoopBody.effect c.args.body.now in
    let most = g.B.LoopBody.cost c.args.body.now in
    let lo = g.B.LoopBody.own c.args.body.now in
    let loops = c.args.inner.now in
    let keeps = nested-keeps loops F c.in_ok-emit_nest.ensures.keeps in
    let sifts = rw (c.in_ok-op-3.ensures, c.in_ok-bind-2.ensures, pair_is, flag_is, mine_is, next_is, c.as_slice.ensures) at c.in_ok-emit_conjuncts-2.ensures.sifts in
    let u_wide = rw (c.in_ok-op-2.ensures, c.in_ok-bind.ensures) at c.in_ok-emit_conjuncts.ensures.cursors in
    let wide = rw (c.in_ok-op-3.ensures, c.in_ok-bind-2.ensures) at c.in_ok-emit_conjuncts-2.ensures.cursors in
    let nests = rw mine_is at c.in_ok-emit_nest.ensures.nests in
    rw next_is (alone.next_y a c.emit_first_row.new.b c.emit_conjuncts.new.b c.emit_conjuncts-2.new.b c.emit_nest.new.b l ons loops lo c.args.causes (nested loops F) keeps (nested_steps loops most) c.requires.alone c.requires.owned c.requires.taken comes on_sifts sifts u_wide wide nests)

pub emit_or_alone-bind-requires-4 : goal.emit_or_alone-bind-requires-4
emit_or_alone-bind-requires-4 g t c =
    let places = c.in_ok-end.ensures in
    let a = c.args.b.now in
    let l = c.args.outer.now in
    let ons = c.args.ons.now in
    let e1 = c.in_ok-pair.ensures.1 in
    let e2 = c.in_ok-done.ensures.1 ∙ ap with_label e1 in
    let e3 : c.take.new.self ≡ flagging a = c.in_ok-flag.ensures.1 ∙ ap taken e2 in
    let pair_is = c.in_ok-pair.ensures.0 in
    let flag_is : c.in_ok-flag.flag ≡ a.next = c.in_ok-flag.ensures.0 ∙ ap (λ (d : Draft). d.next) e2 in
    let end_is = places.end ∙ ap (λ (d : Draft). length d.labels) e3 in
    let top_is = places.top ∙ ap (λ (d : Draft). length (with_label d).labels) e3 in
    let next_is = places.next ∙ ap (λ (d : Draft). length (with_label (with_label d)).labels) e3 in
    let mine_is = places.mine ∙ ap (λ (d : Draft). d.next) e3 in
    let opened : c.op.new.self ≡ unset a = c.in_ok-op.ensures ∙ ap (λ d. with_op d (op.Null c.in_ok-flag.flag)) (places.b ∙ ap opening e3) ∙ ap (λ n. with_op (opening (flagging a)) (op.Null n)) flag_is in
    let comes = rw (opened, end_is) at c.in_ok-emit_first_row.ensures in
    let on_sifts = rw (c.in_ok-op-2.ensures, c.in_ok-bind.ensures, top_is, mine_is, next_is) at c.in_ok-emit_conjuncts.ensures.sifts in
    let F = g.B.LoopBody.effect c.args.body.now in
    let most = g.B.LoopBody.cost c.args.body.now in
    let lo = g.B.LoopBody.own c.args.body.now in
    let loops = c.args.inner.now in
    let keeps = nested-keeps loops F c.in_ok-emit_nest.ensures.keeps in
    let sifts = rw (c.in_ok-op-3.ensures, c.in_ok-bind-2.ensures, pair_is, flag_is, mine_is, next_is, c.as_slice.ensures) at c.in_ok-emit_conjuncts-2.ensures.sifts in
    let u_wide = rw (c.in_ok-op-2.ensures, c.in_ok-bind.ensures) at c.in_ok-emit_conjuncts.ensures.cursors in
    let wide = rw (c.in_ok-op-3.ensures, c.in_ok-bind-2.ensures) at c.in_ok-emit_conjuncts-2.ensures.cursors in
    let nests = rw mine_is at c.in_ok-emit_nest.ensures.nests in
    rw (c.in_ok-op-4.ensures, c.in_ok-bind-3.ensures, end_is, next_is) (alone.end_e a c.emit_first_row.new.b c.emit_conjuncts.new.b c.emit_conjuncts-2.new.b c.emit_nest.new.b l ons loops lo c.args.causes (nested loops F) keeps (nested_steps loops most) c.requires.alone c.requires.owned c.requires.taken comes on_sifts sifts u_wide wide nests)

pub emit_or_alone-bind-requires-5 : goal.emit_or_alone-bind-requires-5
emit_or_alone-bind-requires-5 g t c =
    let places = c.in_ok-end.ensures in
    let a = c.args.b.now in
    let l = c.args.outer.now in
    let ons = c.args.ons.now in
    let e1 = c.in_ok-pair.ensures.1 in
    let e2 = c.in_ok-done.ensures.1 ∙ ap with_label e1 in
    let e3 : c.take.new.self ≡ flagging a = c.in_ok-flag.ensures.1 ∙ ap taken e2 in
    let pair_is = c.in_ok-pair.ensures.0 in
    let flag_is : c.in_ok-flag.flag ≡ a.next = c.in_ok-flag.ensures.0 ∙ ap (λ (d : Draft). d.next) e2 in
    let end_is = places.end ∙ ap (λ (d : Draft). length d.labels) e3 in
    let top_is = places.top ∙ ap (λ (d : Draft). length (with_label d).labels) e3 in
    let next_is = places.next ∙ ap (λ (d : Draft). length (with_label (with_label d)).labels) e3 in
    let mine_is = places.mine ∙ ap (λ (d : Draft). d.next) e3 in
    let opened : c.op.new.self ≡ unset a = c.in_ok-op.ensures ∙ ap (λ d. with_op d (op.Null c.in_ok-flag.flag)) (places.b ∙ ap opening e3) ∙ ap (λ n. with_op (opening (flagging a)) (op.Null n)) flag_is in
    let comes = rw (opened, end_is) at c.in_ok-emit_first_row.ensures in
    let on_sifts = rw (c.in_ok-op-2.ensures, c.in_ok-bind.ensures, top_is, mine_is, next_is) at c.in_ok-emit_conjuncts.ensures.sifts in
    let F = g.B.LoopBody.effect c.args.body.now in
    let most = g.B.LoopBody.cost c.args.body.now in
    let lo = g.B.LoopBody.own c.args.body.now in
    let loops = c.args.inner.now in
    let keeps = nested-keeps loops F c.in_ok-emit_nest.ensures.keeps in
    let sifts = rw (c.in_ok-op-3.ensures, c.in_ok-bind-2.ensures, pair_is, flag_is, mine_is, next_is, c.as_slice.ensures) at c.in_ok-emit_conjuncts-2.ensures.sifts in
    let u_wide = rw (c.in_ok-op-2.ensures, c.in_ok-bind.ensures) at c.in_ok-emit_conjuncts.ensures.cursors in
    let wide = rw (c.in_ok-op-3.ensures, c.in_ok-bind-2.ensures) at c.in_ok-emit_conjuncts-2.ensures.cursors in
    let nests = rw mine_is at c.in_ok-emit_nest.ensures.nests in
    let done_is = c.in_ok-done.ensures.0 ∙ ap (λ (d : Draft). length d.labels) e1 in
    rw (c.in_ok-op-7.ensures, c.in_ok-op-6.ensures, c.in_ok-op-5.ensures, c.in_ok-bind-4.ensures, c.in_ok-op-4.ensures, c.in_ok-bind-3.ensures, end_is, next_is, top_is, done_is) (alone.done_f a c.emit_first_row.new.b c.emit_conjuncts.new.b c.emit_conjuncts-2.new.b c.emit_nest.new.b l ons loops lo c.args.causes (nested loops F) keeps (nested_steps loops most) c.requires.alone c.requires.owned c.requires.taken comes on_sifts sifts u_wide wide nests)

pub emit_or_alone-returns-clause-nests : goal.emit_or_alone-returns-clause-nests
emit_or_alone-returns-clause-nests g t c =
    let places = c.in_ok-end.ensures in
    let a = c.args.b.now in
    let l = c.args.outer.now in
    let ons = c.args.ons.now in
    let e1 = c.in_ok-pair.ensures.1 in
    let e2 = c.in_ok-done.ensures.1 ∙ ap with_label e1 in
    let e3 : c.take.new.self ≡ flagging a = c.in_ok-flag.ensures.1 ∙ ap taken e2 in
    let pair_is = c.in_ok-pair.ensures.0 in
    let flag_is : c.in_ok-flag.flag ≡ a.next = c.in_ok-flag.ensures.0 ∙ ap (λ (d : Draft). d.next) e2 in
    let end_is = places.end ∙ ap (λ (d : Draft). length d.labels) e3 in
    let top_is = places.top ∙ ap (λ (d : Draft). length (with_label d).labels) e3 in
    let next_is = places.next ∙ ap (λ (d : Draft). length (with_label (with_label d)).labels) e3 in
    let mine_is = places.mine ∙ ap (λ (d : Draft). d.next) e3 in
    let opened : c.op.new.self ≡ unset a = c.in_ok-op.ensures ∙ ap (λ d. with_op d (op.Null c.in_ok-flag.flag)) (places.b ∙ ap opening e3) ∙ ap (λ n. with_op (opening (flagging a)) (op.Null n)) flag_is in
    let comes = rw (opened, end_is) at c.in_ok-emit_first_row.ensures in
    let on_sifts = rw (c.in_ok-op-2.ensures, c.in_ok-bind.ensures, top_is, mine_is, next_is) at c.in_ok-emit_conjuncts.ensures.sifts in
    let F = g.B.LoopBody.effect c.args.body.now in
    let most = g.B.LoopBody.cost c.args.body.now in
    let lo = g.B.LoopBody.own c.args.body.now in
    let loops = c.args.inner.now in
    let keeps = nested-keeps loops F c.in_ok-emit_nest.ensures.keeps in
    let sifts = rw (c.in_ok-op-3.ensures, c.in_ok-bind-2.ensures, pair_is, flag_is, mine_is, next_is, c.as_slice.ensures) at c.in_ok-emit_conjuncts-2.ensures.sifts in
    let u_wide = rw (c.in_ok-op-2.ensures, c.in_ok-bind.ensures) at c.in_ok-emit_conjuncts.ensures.cursors in
    let wide = rw (c.in_ok-op-3.ensures, c.in_ok-bind-2.ensures) at c.in_ok-emit_conjuncts-2.ensures.cursors in
    let nests = rw mine_is at c.in_ok-emit_nest.ensures.nests in
    let done_is = c.in_ok-done.ensures.0 ∙ ap (λ (d : Draft). length d.labels) e1 in
    rw (c.release.ensures, c.in_ok-bind-5.ensures, c.in_ok-op-7.ensures, c.in_ok-op-6.ensures, c.in_ok-op-5.ensures, c.in_ok-bind-4.ensures, c.in_ok-op-4.ensures, c.in_ok-bind-3.ensures, pair_is, done_is, flag_is, end_is, top_is, next_is, mine_is) (nests_same (nested (l ∷ loops) F) (λ sight v x. sym (nested-cons F sight l loops v x)) (alone.alone-nest a c.emit_first_row.new.b c.emit_conjuncts.new.b c.emit_conjuncts-2.new.b c.emit_nest.new.b l ons loops lo c.args.causes (nested loops F) keeps (nested_steps loops most) c.requires.alone c.requires.owned c.requires.taken comes on_sifts sifts u_wide wide nests))
