use Rattle.std.proofs.Common.{◌≡◌, drop}
use Rattle.std.specs.Str.{str_eq_ignore_ascii_case}
use Rattle.sql_lex.specs.Pieces.{kind_where}
use Rattle.sql_lex.proofs.words.kind_in.Given as goal

abbrev pub invariant-loop-name : goal.invariant-loop-name
invariant-loop-name l = kind_where (λ k. str_eq_ignore_ascii_case k.0.now l.word) (λ k. k.1) (drop l.name-index l.keywords) ≡ kind_where (λ k. str_eq_ignore_ascii_case k.0.now l.word) (λ k. k.1) l.keywords
