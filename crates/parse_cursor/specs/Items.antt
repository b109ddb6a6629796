-- Lists of what a rule derives.
use Rattle.std.specs.Prelude.{List, ◌∷◌}
use Rattle.sql_tree.specs.declared.token.TokenKind.TheVariants as kind
use Rattle.sql_grammar.specs.declared.counts.Role.TheVariants as role
use Rattle.sql_grammar.specs.Rules.{seq, many, to}
use Rattle.sql_grammar.specs.Grammar.{Of, after, list_of}

-- x {"," x}
unfoldable pub items : {A : Type 0} → Of A → Of (List A)
items r = list_of r

-- {"," x}
unfoldable pub more_items : {A : Type 0} → Of A → Of (List A)
more_items r = many (after role.Outside kind.Comma r)

-- x {x}
unfoldable pub run : {A : Type 0} → Of A → Of (List A)
run r = to (λ x. x.0 ∷ x.1) (seq r (many r))

-- {x}
unfoldable pub more_of_run : {A : Type 0} → Of A → Of (List A)
more_of_run r = many r
