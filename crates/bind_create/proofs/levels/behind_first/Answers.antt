use Rattle.std.proofs.Common.{rules, ◌≡◌, ◌++◌, ◌∷◌, [], reverse, sym, ◌∙◌, ap, List}
use Rattle.std.proofs.lemmas.List.{reverse-append}
use Rattle.bind_create.proofs.LevelLaws.{level-more}
use Rattle.bind_create.specs.Levels.{names_of}
use Rattle.sql_bound.specs.Creates.{behind_first}
use Rattle.sql_bound.specs.declared.scopes.ScopeColumn.{ScopeColumn}
use Rattle.bind_create.proofs.levels.behind_first.Goals as goal

pub loop-column-preserved : goal.loop-column-preserved
loop-column-preserved c =
    let popped : reverse c.loop-column.rest ≡ c.in-Some.column ∷ reverse c.pop.new.self = search (rules, reverse-append) in
    level-more c.loop-column.made (reverse c.pop.new.self) c.in-Some.column _ c.pushed.new.all (behind_first [] c.args.columns)
    (ap (λ (rest : List ScopeColumn). c.loop-column.made ++ behind_first (names_of c.loop-column.made) rest) (sym popped) ∙ c.loop-column.invariant)
    (search rules) c.in_ok-pushed.ensures.ok
