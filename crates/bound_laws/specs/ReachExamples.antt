-- What is within, and what is not.
use Rattle.std.specs.Prelude.{ℕ, [], ◌∷◌, codes, None, refl}
use Rattle.std.proofs.Common.{arith}
use Rattle.eng_value.specs.declared.affinity.Affinity.TheVariants as affinity
use Rattle.sql_words.specs.Collations.{by_bytes}
use Rattle.bound_tree.specs.Exprs as e
use Rattle.bound_tree.specs.Exprs.{BoundExpr}
use Rattle.bound_tree.specs.declared.units.BoundColumn.{BoundColumn}
use Rattle.bound_tree.specs.declared.units.BoundPart.TheVariants.{Values}
use Rattle.bound_tree.specs.declared.units.BoundUnit.TheVariants.{Queried}
use Rattle.bound_tree.specs.declared.units.BoundUnit.{BoundUnit}
use Rattle.bound_laws.specs.Order.{AreInOrder}
use Rattle.bound_laws.specs.Reach.{IsWithin, Reach}

abbrev column : BoundColumn
column = record { name = codes "column1"; affinity = affinity.None; collation = by_bytes }

-- `VALUES (x)`, over so many arguments
abbrev values : ℕ → BoundExpr → BoundUnit
values arguments x =
    Queried (record { within = None; arguments = arguments; tables = []; first = Values ((x ∷ []) ∷ []); others = []; order = []; limit = None; offset = None; columns = column ∷ [] })

-- behind `VALUES (argument)`, with two arguments and one aggregate
abbrev here : Reach
here = record { units = values 1 (e.Argument 0) ∷ []; arguments = 2; aggregates = 1 }

-- over items of two and three columns
the_last_column_is_there : IsWithin here (2 ∷ 3 ∷ []) (e.Column 1 2)
the_last_column_is_there = omega arith

one_behind_it_is_not : IsWithin here (2 ∷ 3 ∷ []) (e.Column 0 2) → ⊥
one_behind_it_is_not h = omega arith

nor_is_a_third_item : IsWithin here (2 ∷ 3 ∷ []) (e.Rowid 2) → ⊥
nor_is_a_third_item h = h

a_third_argument_is_not : IsWithin here [] (e.Argument 2) → ⊥
a_third_argument_is_not h = omega arith

nor_is_a_second_aggregate : IsWithin here [] (e.Aggregate 1) → ⊥
nor_is_a_second_aggregate h = omega arith

-- the query in front takes one argument
it_is_handed_one : IsWithin here [] (e.Scalar 0 (e.Argument 1 ∷ []))
it_is_handed_one = ((refl, refl), (omega arith, tt))

and_no_fewer : IsWithin here [] (e.Scalar 0 []) → ⊥
and_no_fewer h = omega (arith, h.0.0)

there_is_no_other : IsWithin here [] (e.Exists 1 []) → ⊥
there_is_no_other h = h.0.1

-- a query behind it may ask it, and none may ask itself
asked_in_order : AreInOrder (values 1 (e.Argument 0) ∷ values 0 (e.Scalar 0 (e.Parameter 1 ∷ [])) ∷ [])
asked_in_order = (
  record { tables = tt; first = ((omega arith, tt), tt); others = tt; order = tt; limit = tt; offset = tt },
  (record { tables = tt; first = ((((refl, refl), (tt, tt)), tt), tt); others = tt; order = tt; limit = tt; offset = tt }, tt),
)

none_asks_itself : AreInOrder (values 0 (e.Exists 0 []) ∷ []) → ⊥
none_asks_itself h = h.0.first.0.0.0.1
