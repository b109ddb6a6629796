-- What compound queries read, in the steps of the code.
use Rattle.std.proofs.Common.{◌≡◌, ℕ, ◌<◌, length, Bool, if◌then◌else◌, true, false, List, [], ◌∷◌, ◌++◌, map, append_assoc, append-nil, refl, ap, sym, ◌∙◌}
use Rattle.sql_tree.specs.declared.token.Token.{Token}
use Rattle.sql_tree.specs.declared.token.TokenKind.TheVariants as kind
use Rattle.sql_grammar.specs.declared.counts.Counts.{Counts}
use Rattle.sql_grammar.specs.declared.counts.Role.TheVariants as role
use Rattle.sql_grammar.specs.Rules.{starts, reads, one, tok, Outcome, Done, Stop, ◌>>=◌}
use Rattle.sql_grammar.specs.Bodies.{rules}
use Rattle.sql_grammar.proofs.ReadingLaws.{chosen, other}
use Rattle.sql_tree.specs.declared.query.CompoundOp.TheVariants as compound
use Rattle.sql_tree.specs.declared.query.CompoundPart.{CompoundPart, roll-CompoundPart}
use Rattle.sql_tree.specs.declared.query.QueryPart.{QueryPart}
use Rattle.sql_grammar.specs.Grammar.{Name}
use Rattle.sql_grammar.specs.Queries.{given, union, compound_op, core, compound_part, parts, last_of}
use Rattle.sql_grammar.proofs.Clear.{clear, rich}
use Rattle.sql_grammar.proofs.Whole.{many_is, takes_some}
use Rattle.parse_cursor.proofs.Steps.{both_to}
use Rattle.parse_query.specs.declared.compounds.TheConstants.{COMPOUNDS}
use Rattle.parse_query.specs.Parts.{compound_parts, found_of, found_parts, with_parts}
use Rattle.parse_query.proofs.Clear.{compound_parts_clear, compound_part_clear, compound_part_solid, first_compound_part}
use Rattle.parse_cursor.specs.Parts.{given_word}

pub union_is : (d : ℕ) (c : Counts) (ts : List Token) → reads Name rules d union c ts ≡ (one role.Outside (kind.Union ∷ []) c ts >>= λ t e rest. reads Name rules d (given_word kind.All) e rest >>= λ b f end. Done (if b then compound.UnionAll else compound.Union) f end)
unfolding union given_word
union_is d c ts = both_to (one role.Outside (kind.Union ∷ [])) (reads Name rules d (given (tok role.Outside (kind.All ∷ [])))) (λ p. if p.1 then compound.UnionAll else compound.Union) c ts

pub op_union : (d : ℕ) (c : Counts) (ts : List Token) → starts (kind.Union ∷ []) ts ≡ true → reads Name rules d compound_op c ts ≡ reads Name rules d union c ts
unfolding compound_op union
op_union d c ts here = chosen _ _ _ here

pub op_intersect : (d : ℕ) (c : Counts) (ts : List Token) → starts (kind.Union ∷ []) ts ≡ false → starts (kind.Intersect ∷ []) ts ≡ true → reads Name rules d compound_op c ts ≡ (one role.Outside (kind.Intersect ∷ []) c ts >>= λ t e rest. Done compound.Intersect e rest)
unfolding compound_op union
op_intersect d c ts none here = other _ _ _ none ∙ chosen _ _ _ here

pub op_except : (d : ℕ) (c : Counts) (ts : List Token) → starts (kind.Union ∷ []) ts ≡ false → starts (kind.Intersect ∷ []) ts ≡ false → reads Name rules d compound_op c ts ≡ (one role.Outside (kind.Except ∷ []) c ts >>= λ t e rest. Done compound.Except e rest)
unfolding compound_op union
op_except d c ts none others = other _ _ _ none ∙ other _ _ _ others

pub ruleset compound_ops = (op_union, op_intersect, op_except)

pub compound_part_is : (d : ℕ) (c : Counts) (ts : List Token) → reads Name rules d compound_part c ts ≡ (reads Name rules d compound_op c ts >>= λ o e rest. reads Name rules d core e rest >>= λ p f end. Done (p.0, roll-CompoundPart (record { op = o; part = p.1 })) f end)
unfolding compound_part
compound_part_is d c ts = both_to (reads Name rules d compound_op) (reads Name rules d core) (λ p. (p.1.0, roll-CompoundPart (record { op = p.0; part = p.1.1 }))) c ts

pub parts_is : (d : ℕ) (c : Counts) (ts : List Token) → reads Name rules d found_parts c ts ≡ (reads Name rules d core c ts >>= λ p e rest. with_parts p.1 [] p.0 (reads Name rules d compound_parts e rest))
unfolding found_parts parts compound_parts
parts_is d c ts = both_to (reads Name rules d core) (reads Name rules d compound_parts) found_of c ts

pub parts_next : (head : QueryPart) (others : List CompoundPart) (b : Bool) (d : ℕ) (c : Counts) (ts : List Token) → starts COMPOUNDS ts ≡ true
    → with_parts head others b (reads Name rules d compound_parts c ts) ≡ (reads Name rules d compound_part c ts >>= λ p e rest. with_parts head (others ++ p.1 ∷ []) p.0 (reads Name rules d compound_parts e rest))
unfolding compound_parts
parts_next head others b d c ts here =
    ap (with_parts head others b) (many_is Name rules clear rich compound_part compound_parts_clear d c ts ∙ chosen _ _ _ (ap (λ ks. starts ks ts) first_compound_part ∙ here)) ∙ outer (reads Name rules d compound_part c ts) where
      inner : (p : Bool × CompoundPart) (o : Outcome (List (Bool × CompoundPart))) → with_parts head others b (o >>= λ more f end. Done (p ∷ more) f end) ≡ with_parts head (others ++ p.1 ∷ []) p.0 o
      inner p (Done more f end) = ap (λ l. Done (record { first = head; others = l; ends_in_select = last_of p.0 more }) f end) (sym (append_assoc others (p.1 ∷ []) (map (λ x. x.1) more)))
      inner p (Stop w end) = refl

      outer : (o : Outcome (Bool × CompoundPart)) → with_parts head others b (o >>= λ p e rest. reads Name rules d compound_parts e rest >>= λ more f end. Done (p ∷ more) f end) ≡ (o >>= λ p e rest. with_parts head (others ++ p.1 ∷ []) p.0 (reads Name rules d compound_parts e rest))
      outer (Done p e rest) = inner p (reads Name rules d compound_parts e rest)
      outer (Stop w rest) = refl

pub parts_end : (head : QueryPart) (others : List CompoundPart) (b : Bool) (d : ℕ) (c : Counts) (ts : List Token) → starts COMPOUNDS ts ≡ false → with_parts head others b (reads Name rules d compound_parts c ts) ≡ Done (record { first = head; others = others; ends_in_select = b }) c ts
unfolding compound_parts
parts_end head others b d c ts none = ap (with_parts head others b) (many_is Name rules clear rich compound_part compound_parts_clear d c ts ∙ other _ _ _ (ap (λ ks. starts ks ts) first_compound_part ∙ none)) ∙ ap (λ l. Done (record { first = head; others = l; ends_in_select = b }) c ts) (append-nil others)

pub part_shorter : (d : ℕ) (c e : Counts) (ts rest : List Token) (p : Bool × CompoundPart) → reads Name rules d compound_part c ts ≡ Done p e rest → length rest < length ts
part_shorter d c e ts rest p is = takes_some Name rules clear rich compound_part compound_part_clear compound_part_solid d c e ts rest p is

pub ruleset parts_steps = (parts_is, parts_next, parts_end)
