-- What the items of a FROM do: a table or a view is read, and a view or a subquery adds what it does itself.
use Rattle.std.specs.Prelude.{ℕ, suc, Bool, true, false, List, [], ◌∷◌, ◌++◌, map, Option, Some, None}
use Rattle.std.specs.List.{flat_map}
use Rattle.eng_value.specs.declared.authorizing.ActionKind.TheVariants.{Read, Recursive}
use Rattle.bound_tree.specs.Exprs.{BoundExpr}
use Rattle.bound_tree.specs.declared.units.BoundColumn.{BoundColumn}
use Rattle.bound_tree.specs.declared.units.BoundItem.{BoundItem}
use Rattle.bound_tree.specs.declared.units.BoundSource.TheVariants as source
use Rattle.bound_tree.specs.declared.units.BoundSource.{BoundSource}
use Rattle.bound_actions.specs.Expressions.{pieces_of}
use Rattle.bound_actions.specs.Pieces.{action, asked, unit_named}
use Rattle.bound_actions.specs.declared.pieces.Piece.TheVariants.{Does, Stands}
use Rattle.bound_actions.specs.declared.pieces.Piece.{Piece}
use Rattle.bound_actions.specs.declared.pieces.Readable.{Readable}
use Rattle.bound_actions.specs.declared.pieces.Spot.{Spot}

-- ---- as its columns are read

abbrev pub table_of : BoundSource → Option (List ℕ)
table_of (source.Table name number) = Some name
table_of (source.Module name host number args) = Some name
table_of (source.View name unit) = Some name
table_of (source.Query unit handed) = None
table_of (source.With unit handed) = None
table_of (source.Recursive unit handed) = None
table_of source.Queue = None
table_of source.Given = None

-- the columns of an item, as those of this table
abbrev pub columns_as : Option (List ℕ) → BoundItem → Readable
columns_as table i = record { table = table; columns = map (λ (c : BoundColumn). c.name) i.columns }

abbrev pub readable : BoundItem → Readable
readable i = columns_as (table_of i.source) i

-- over these items, without aggregates
abbrev pub over : Option (List ℕ) → List Readable → Spot
over within items = record { within = within; items = items; slots = [] }

-- ---- as they stand in FROM: what is handed over to a WITH table is read where the table is named, since what it does itself stands where it is written

abbrev pub all_pieces : List (List Piece) → Spot → List BoundExpr → List Piece
all_pieces u s es = flat_map (pieces_of u s) es

abbrev pub table_stands : Spot → ℕ → List ℕ → Piece
table_stands s item name = Stands item (action s.within Read name [])

abbrev pub source_pieces : List (List Piece) → Spot → ℕ → BoundSource → List Piece
source_pieces u s item (source.Table name number) = table_stands s item name ∷ []
source_pieces u s item (source.Module name host number args) = table_stands s item name ∷ all_pieces u s args
source_pieces u s item (source.View name unit) = table_stands s item name ∷ unit_named u unit
source_pieces u s item (source.Query unit handed) = asked u unit (map (pieces_of u s) handed)
source_pieces u s item (source.With unit handed) = all_pieces u s handed
source_pieces u s item (source.Recursive unit handed) = Does (action s.within Recursive [] []) ∷ all_pieces u s handed
source_pieces u s item source.Queue = []
source_pieces u s item source.Given = []

-- what USING and NATURAL make names nothing
abbrev pub on_pieces : List (List Piece) → Spot → Bool → List BoundExpr → List Piece
on_pieces u s true ons = []
on_pieces u s false ons = all_pieces u s ons

abbrev pub items_pieces : List (List Piece) → Spot → ℕ → List BoundItem → List Piece
items_pieces u s item [] = []
items_pieces u s item (i ∷ items) = source_pieces u s item i.source ++ on_pieces u s i.ons_made i.ons ++ items_pieces u s (suc item) items
