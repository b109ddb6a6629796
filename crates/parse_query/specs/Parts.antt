-- Parts of rules that functions of their own parse.
use Rattle.std.specs.Prelude.{Bool, List, [], ◌++◌, map, None}
use Rattle.sql_tree.specs.declared.query.CompoundPart.{CompoundPart}
use Rattle.sql_tree.specs.declared.query.Query.{Query}
use Rattle.sql_tree.specs.declared.query.QueryPart.{QueryPart}
use Rattle.sql_tree.specs.declared.token.TokenKind.TheVariants as kind
use Rattle.sql_grammar.specs.declared.counts.Role.TheVariants as role
use Rattle.sql_grammar.specs.Rules.{pure, many, to, Outcome, Done, ◌>>=◌}
use Rattle.sql_grammar.specs.Grammar.{Of, after}
use Rattle.sql_grammar.specs.Queries.{compound_part, Parts, parts, ends_in_select, last_of, Ordering}
use Rattle.parse_query.specs.declared.compounds.FoundParts.{FoundParts}
use Rattle.parse_clause.specs.Parts.{in_query}

-- ---- in brackets

-- AS "(" query ")"
unfoldable pub as_query : Of Query
as_query = after role.Outside kind.As in_query

-- ---- compounds

-- {comp core}
unfoldable pub compound_parts : Of (List (Bool × CompoundPart))
compound_parts = many compound_part

-- without telling of each part whether it is a SELECT
abbrev pub found_of : Parts → FoundParts
found_of p = record { first = p.0.1; others = map (λ x. x.1) p.1; ends_in_select = ends_in_select p }

unfoldable pub found_parts : Of FoundParts
found_parts = to found_of parts

-- parts that were found before, of which the last one is a SELECT or not, and those from there on
abbrev pub with_parts : QueryPart → List CompoundPart → Bool → Outcome (List (Bool × CompoundPart)) → Outcome FoundParts
with_parts first others b o = o >>= λ more c rest. Done (record { first = first; others = others ++ map (λ x. x.1) more; ends_in_select = last_of b more }) c rest

-- ---- ordering

unfoldable pub unordered : Of Ordering
unordered = pure ([], None)
