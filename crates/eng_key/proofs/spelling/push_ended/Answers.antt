use Rattle.std.proofs.Common.{◌≡◌, ◌++◌, ◌∷◌, [], OnOk, sym, ap, ◌∙◌, subst, append_assoc}
use Rattle.std.specs.List.{flat_map}
use Rattle.eng_key.specs.RowKeys.{ended, spelled, turned}
use Rattle.eng_key.proofs.SpellingLaws.{turned_ended}
use Rattle.eng_key.proofs.spelling.push_ended.Goals as goal

pub returns : goal.returns
returns c =
    let old = c.args.key.now.items in
    let desc = c.args.desc in
    let bytes = c.args.bytes.now in
    let each = flat_map (λ b. turned desc (spelled b)) bytes in
    let end = turned desc (0 ∷ 0 ∷ []) in
    let all : c.push_each.new.key.items ++ end ≡ old ++ turned desc (ended bytes) =
    ap (λ k. k ++ end) c.in_ok-push_each.ensures ∙ append_assoc old each end ∙ ap (λ k. old ++ k) (sym (turned_ended desc bytes)) in
    subst (λ k. OnOk c.push_turned.result (c.push_turned.new.key.items ≡ k)) all c.push_turned.ensures
