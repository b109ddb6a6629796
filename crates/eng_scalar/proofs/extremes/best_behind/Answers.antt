-- The loop has come to the end of the arguments or of the keys.
use Rattle.std.proofs.Common.{◌≡◌, ◌∙◌, length, sym, min}
use Rattle.std.proofs.lemmas.Slice.Zip.{zip_end}
use Rattle.eng_scalar.specs.Extremes.{beats}
use Rattle.eng_scalar.proofs.ExtremeLaws.{best_behind-end}
use Rattle.eng_scalar.proofs.extremes.best_behind.Goals as goal

pub returns : goal.returns
returns c =
    let vs = c.args.args.now in
    let ks = c.args.keys.now in
    let n : length c.loop-arg.yielded ≡ min (length vs) (length ks) = zip_end vs ks c.loop-arg.yielded _ c.loop-arg.arg-iterator c.next.new.self _ (cc) (cc) c.loop-arg.yielded_by c.in-None.is c.next.ensures.steps in
    sym (best_behind-end (beats c.args.extreme) c.loop-arg.best.now c.loop-arg.best_key.now vs ks _ n) ∙ c.loop-arg.invariant
