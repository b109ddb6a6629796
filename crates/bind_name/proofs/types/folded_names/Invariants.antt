use Rattle.std.proofs.Common.{◌≡◌, map, take}
use Rattle.eng_text.specs.Texts.{folded}
use Rattle.sql_words.specs.Spelled.{name_at}
use Rattle.bind_name.proofs.types.folded_names.Given as goal

abbrev pub invariant-loop-token : goal.invariant-loop-token
invariant-loop-token l = l.names ≡ map (λ t. folded (name_at l.text t)) (take l.token-index l.tokens)
