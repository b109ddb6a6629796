-- What expressions do.
use Rattle.std.specs.Prelude.{◌≡◌, [], ◌∷◌, Some, None, codes, refl}
use Rattle.eng_value.specs.declared.builtin.Builtin.TheVariants as builtin
use Rattle.sql_words.specs.Collations.{by_bytes}
use Rattle.bound_tree.specs.Exprs as e
use Rattle.bound_tree.specs.declared.units.BoundSource.TheVariants as source
use Rattle.bound_actions.specs.Expressions.{pieces_of}
use Rattle.bound_actions.specs.Froms.{over, readable}
use Rattle.bound_actions.specs.Samples.{both, calls, item, null, read, t_item}
use Rattle.bound_actions.specs.declared.pieces.Piece.TheVariants.{Does, Brings, Reads}
use Rattle.bound_actions.specs.declared.pieces.Spot.{Spot}

-- over t and a query in FROM, in the view v
abbrev spot : Spot
spot = over (Some (codes "v")) (readable t_item ∷ readable (item (source.Query 0 []) (codes "x" ∷ [])) ∷ [])

-- `b || rowid`: a rowid is read as any column
columns_are_read : pieces_of [] spot (both (e.Column 0 1) (e.Rowid 0)) ≡ Reads 0 (read (Some (codes "v")) (codes "t") (codes "b")) ∷ Reads 0 (read (Some (codes "v")) (codes "t") (codes "rowid")) ∷ []
columns_are_read = refl

-- a column of a query in FROM is nothing itself
a_query_is_not_read : pieces_of [] spot (e.Column 1 0) ≡ []
a_query_is_not_read = refl

-- what is handed over is read where it is named
an_argument : pieces_of [] spot (both null (e.Argument 2)) ≡ Brings 2 ∷ []
an_argument = refl

-- `max(a, iif(b, NULL, NULL))`: the call stands in front of what stands in it
calls_in_calls : pieces_of [] spot (e.Call builtin.Max by_bytes (e.Column 0 0 ∷ e.Iif (e.Column 0 1) null null ∷ [])) ≡ Does (calls (Some (codes "v")) (codes "max")) ∷ Reads 0 (read (Some (codes "v")) (codes "t") (codes "a")) ∷ Does (calls (Some (codes "v")) (codes "iif")) ∷ Reads 0 (read (Some (codes "v")) (codes "t") (codes "b")) ∷ []
calls_in_calls = refl

-- a query that is asked stands where it is written, with what is handed over to it
a_query_asked : pieces_of ((Does (calls None (codes "f")) ∷ Brings 0 ∷ Brings 1 ∷ []) ∷ []) spot (e.Exists 0 (e.Column 0 0 ∷ [])) ≡ Does (calls None (codes "f")) ∷ Reads 0 (read (Some (codes "v")) (codes "t") (codes "a")) ∷ []
a_query_asked = refl

-- one that is not there does nothing
no_query_asked : pieces_of [] spot (e.Exists 0 (e.Column 0 0 ∷ [])) ≡ []
no_query_asked = refl
