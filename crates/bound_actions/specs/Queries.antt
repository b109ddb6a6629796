-- What queries do: SELECT, then what stands in it in the order of the text; and units in turn, each over what those in front do.
use Rattle.std.specs.Prelude.{ℕ, List, [], ◌∷◌, ◌++◌, map, Option, Some, None}
use Rattle.std.specs.List.{flat_map}
use Rattle.eng_value.specs.declared.authorizing.ActionKind.TheVariants.{Select}
use Rattle.bound_tree.specs.Exprs.{BoundExpr}
use Rattle.bound_tree.specs.declared.units.BoundAggregate.{BoundAggregate}
use Rattle.bound_tree.specs.declared.units.BoundCompound.{BoundCompound}
use Rattle.bound_tree.specs.declared.units.BoundCore.{BoundCore}
use Rattle.bound_tree.specs.declared.units.BoundGroups.{BoundGroups}
use Rattle.bound_tree.specs.declared.units.BoundKey.{BoundKey}
use Rattle.bound_tree.specs.declared.units.BoundPart.TheVariants as part
use Rattle.bound_tree.specs.declared.units.BoundPart.{BoundPart}
use Rattle.bound_tree.specs.declared.units.BoundQuery.{BoundQuery}
use Rattle.bound_tree.specs.declared.units.BoundRecursion.{BoundRecursion}
use Rattle.bound_tree.specs.declared.units.BoundTerm.{BoundTerm}
use Rattle.bound_tree.specs.declared.units.BoundUnit.TheVariants as unit
use Rattle.bound_tree.specs.declared.units.BoundUnit.{BoundUnit}
use Rattle.bound_tree.specs.declared.units.TermKey.TheVariants as key
use Rattle.bound_tree.specs.declared.units.TermKey.{TermKey}
use Rattle.bound_actions.specs.Expressions.{call, pieces_of}
use Rattle.bound_actions.specs.Froms.{all_pieces, items_pieces, over, readable}
use Rattle.bound_actions.specs.Pieces.{action, asked, settled}
use Rattle.bound_actions.specs.Words.{aggregate_word}
use Rattle.bound_actions.specs.declared.pieces.Piece.TheVariants.{Does}
use Rattle.bound_actions.specs.declared.pieces.Piece.{Piece}
use Rattle.bound_actions.specs.declared.pieces.Spot.{Spot}

abbrev pub optional_pieces : List (List Piece) → Spot → Option BoundExpr → List Piece
optional_pieces u s None = []
optional_pieces u s (Some x) = pieces_of u s x

-- ---- a SELECT; an aggregate does what it does where it is named, by its slot

abbrev pub aggregate_pieces : List (List Piece) → Spot → BoundAggregate → List Piece
aggregate_pieces u s a = call s (aggregate_word a.kind) ∷ all_pieces u s a.arguments ++ optional_pieces u s a.filter

abbrev pub slots_of : List (List Piece) → Spot → Option BoundGroups → List (List Piece)
slots_of u s None = []
slots_of u s (Some g) = map (aggregate_pieces u s) g.aggregates

abbrev pub with_slots : List (List Piece) → Option BoundGroups → Spot → Spot
with_slots u groups s = record s { slots = slots_of u s groups }

abbrev pub core_spot : List (List Piece) → Option (List ℕ) → BoundCore → Spot
core_spot u within c = with_slots u c.groups (over within (map readable c.items))

abbrev pub groups_pieces : List (List Piece) → Spot → Option BoundGroups → List Piece
groups_pieces u s None = []
groups_pieces u s (Some g) = flat_map (λ (k : BoundKey). pieces_of u s k.expr) g.keys ++ all_pieces u s g.having

abbrev pub core_pieces : List (List Piece) → Spot → BoundCore → List Piece
core_pieces u s c =
    Does (action s.within Select [] []) ∷ all_pieces u s c.results ++ items_pieces u s 0 c.items ++ all_pieces u s c.conjuncts ++ groups_pieces u s c.groups

-- ---- parts: VALUES does what its expressions do

abbrev pub part_spot : List (List Piece) → Option (List ℕ) → BoundPart → Spot
part_spot u within (part.Select c) = core_spot u within c
part_spot u within (part.Values rows) = over within []

abbrev pub part_pieces : List (List Piece) → Spot → BoundPart → List Piece
part_pieces u s (part.Select c) = core_pieces u s c
part_pieces u s (part.Values rows) = flat_map (all_pieces u s) rows

abbrev pub own_part : List (List Piece) → Option (List ℕ) → BoundPart → List Piece
own_part u within p = settled (part_pieces u (part_spot u within p) p)

abbrev pub others_pieces : List (List Piece) → Option (List ℕ) → List BoundCompound → List Piece
others_pieces u within others = flat_map (λ (c : BoundCompound). own_part u within c.part) others

-- ---- whole queries: a WITH table does what it does where it is written

abbrev pub tables_pieces : List (List Piece) → List ℕ → List Piece
tables_pieces u tables = flat_map (λ table. asked u table []) tables

abbrev pub term_pieces : List (List Piece) → Spot → TermKey → List Piece
term_pieces u s (key.Result place) = []
term_pieces u s (key.Expression x) = pieces_of u s x

abbrev pub terms_pieces : List (List Piece) → Spot → List BoundTerm → List Piece
terms_pieces u s terms = flat_map (λ (t : BoundTerm). term_pieces u s t.key) terms

-- ORDER BY stands over the FROM of the one part
abbrev pub body_pieces : List (List Piece) → Spot → BoundQuery → List Piece
body_pieces u s q =
    part_pieces u s q.first ++ others_pieces u q.within q.others ++ terms_pieces u s q.order ++ optional_pieces u s q.limit ++ optional_pieces u s q.offset

abbrev pub own_body : List (List Piece) → BoundQuery → List Piece
own_body u q = settled (body_pieces u (part_spot u q.within q.first) q)

abbrev pub query_pieces : List (List Piece) → BoundQuery → List Piece
query_pieces u q = tables_pieces u q.tables ++ own_body u q

abbrev pub own_core : List (List Piece) → Option (List ℕ) → BoundCore → List Piece
own_core u within c = settled (core_pieces u (core_spot u within c) c)

abbrev pub recursion_pieces : List (List Piece) → BoundRecursion → List Piece
recursion_pieces u r =
    tables_pieces u r.tables ++ own_part u r.within r.first ++ others_pieces u r.within r.others ++ own_core u r.within r.part ++
    optional_pieces u (over r.within []) r.limit ++ optional_pieces u (over r.within []) r.offset

-- ---- units in turn

abbrev pub unit_pieces : List (List Piece) → BoundUnit → List Piece
unit_pieces u (unit.Queried q) = query_pieces u q
unit_pieces u (unit.Recursed r) = recursion_pieces u r

abbrev pub units_behind : List (List Piece) → List BoundUnit → List (List Piece)
units_behind front [] = front
units_behind front (x ∷ xs) = units_behind (front ++ unit_pieces front x ∷ []) xs

abbrev pub units_pieces : List BoundUnit → List (List Piece)
units_pieces xs = units_behind [] xs
