use Rattle.std.proofs.Common.{◌≡◌, ◌∙◌, length, sym, min, false, true}
use Rattle.std.specs.Ordering.{nat_cmp, is_ne}
use Rattle.std.proofs.lemmas.List.{length_push}
use Rattle.std.specs.Char.{to_ascii_lowercase}
use Rattle.std.proofs.lemmas.Slice.Zip.{zip_turn, zip_end}
use Rattle.eng_value.proofs.Beside.{bytes_cmp-end, bytes_cmp-same, bytes_cmp-other}
use Rattle.eng_value.proofs.collations.compare_folded.Goals as goal

pub returns : goal.returns
returns c =
    let a = c.args.a.now in
    let b = c.args.b.now in
    let n : length c.loop-x.yielded ≡ min (length a) (length b) = zip_end a b c.loop-x.yielded _ c.loop-x.x-iterator c.next.new.self _ (cc) (cc) c.loop-x.yielded_by c.in-None.is c.next.ensures.steps in
    c.cmp.ensures ∙ sym (bytes_cmp-end to_ascii_lowercase a b _ n) ∙ c.loop-x.invariant

pub loop-x-preserved : goal.loop-x-preserved
loop-x-preserved c =
    let a = c.args.a.now in
    let b = c.args.b.now in
    let x = c.in-Some.x.now in
    let y = c.in-Some.y.now in
    let t = zip_turn a b c.loop-x.yielded _ c.loop-x.x-iterator c.next.new.self _ (cc) (cc) c.loop-x.yielded_by (c.in-Some.x, c.in-Some.y) c.in-Some.is c.next.ensures.steps in
    let cmp : c.cmp-ordering.result ≡ nat_cmp (to_ascii_lowercase x) (to_ascii_lowercase y) = cc in
    let same : is_ne (nat_cmp (to_ascii_lowercase x) (to_ascii_lowercase y)) ≡ false = cc in
    rw (length_push c.loop-x.yielded (c.in-Some.x, c.in-Some.y)) (bytes_cmp-same to_ascii_lowercase a b _ x y t.0 t.1 (t.2 0) (t.3 0) same ∙ c.loop-x.invariant)

pub returns-then-is_ne : goal.returns-then-is_ne
returns-then-is_ne c =
    let a = c.args.a.now in
    let b = c.args.b.now in
    let x = c.in-Some.x.now in
    let y = c.in-Some.y.now in
    let t = zip_turn a b c.loop-x.yielded _ c.loop-x.x-iterator c.next.new.self _ (cc) (cc) c.loop-x.yielded_by (c.in-Some.x, c.in-Some.y) c.in-Some.is c.next.ensures.steps in
    let cmp : c.cmp-ordering.result ≡ nat_cmp (to_ascii_lowercase x) (to_ascii_lowercase y) = cc in
    let other : is_ne (nat_cmp (to_ascii_lowercase x) (to_ascii_lowercase y)) ≡ true = cc in
    cmp ∙ bytes_cmp-other to_ascii_lowercase a b _ x y t.0 t.1 (t.2 0) (t.3 0) other ∙ c.loop-x.invariant
