-- What is named, worked out.
use Rattle.std.specs.Prelude.{◌≡◌, [], ◌∷◌, Some, codes, refl}
use Rattle.std.proofs.Common.{arith}
use Rattle.bound_tree.specs.Exprs as e
use Rattle.bound_tree.specs.Exprs.{BoundExpr}
use Rattle.sql_meaning.specs.Runnables.{FromItem}
use Rattle.sql_meaning.specs.declared.bound.Join.TheVariants as join
use Rattle.meaning_laws.specs.Names.{NamesBelow, NamesBelowIfThere, items_named}
use Rattle.meaning_laws.specs.Runs.{JoinsAreWithin}

-- `iif(a.x, b.rowid, f(a.y, ?1))` over `a, b`
abbrev both : BoundExpr
both = e.Iif (e.Column 0 3) (e.Rowid 1) (e.HostCall (codes "f") (e.Column 0 4 ∷ e.Parameter 1 ∷ []))

each_item_is_named : items_named both ≡ 0 ∷ 1 ∷ 0 ∷ []
each_item_is_named = refl

-- what is handed to a query counts, and what that query names does not
what_is_handed_is_named : items_named (e.Scalar 7 (e.Column 2 0 ∷ e.Argument 5 ∷ [])) ≡ 2 ∷ []
what_is_handed_is_named = refl

over_two_items : NamesBelow 2 both
over_two_items = (omega arith, (omega arith, (omega arith, tt)))

but_not_over_one : NamesBelow 1 both → ⊥
but_not_over_one h = omega (arith, h.1.0)

a_default_names_no_column : NamesBelowIfThere 0 (Some (e.Column 0 0)) → ⊥
a_default_names_no_column h = omega (arith, h.0)

-- ---- `a LEFT JOIN b ON ..`, and `a, b`

abbrev left_joined : BoundExpr → FromItem → FromItem
left_joined x i = record i { join = join.Left (x ∷ []) }

abbrev listed : FromItem → FromItem
listed i = record i { join = join.Inner }

an_on_names_its_own_item : (a b : FromItem) → JoinsAreWithin 0 (listed a ∷ left_joined both b ∷ [])
an_on_names_its_own_item a b = (tt, ((over_two_items, tt), tt))

and_none_behind_it : (a b : FromItem) → JoinsAreWithin 0 (left_joined both a ∷ listed b ∷ []) → ⊥
and_none_behind_it a b h = omega (arith, h.0.0.1.0)
