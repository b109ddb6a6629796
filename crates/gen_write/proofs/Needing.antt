-- What the expressions of an INSERT need of cursors is so where its rows are put.
use Rattle.std.proofs.Common.{◌≡◌, List, [], ◌∷◌, All, refl, sym, subst, arith, inr}
use Rattle.std.specs.List.{flat_map}
use Rattle.std.proofs.lemmas.List.Elements.{All-weaker}
use Rattle.gen_expr.specs.Needs.{needs_of}
use Rattle.gen_write.specs.Writes.{NamesWhatIsThere, default_needs, needs_of_each}
use Rattle.bound_tree.specs.Exprs.{BoundExpr}
use Rattle.sql_meaning.specs.declared.bound.BoundInsert.{BoundInsert}
use Rattle.vm_code.specs.declared.open_cursor.CursorKind.TheVariants.{Row, Table}
use Rattle.vm_code.specs.declared.open_cursor.Need.{Need}
use Rattle.vm_code.specs.declared.open_cursor.Need.TheVariants as need
use Rattle.vm_code.specs.Track.{Meets, OpenSet, on}
use Rattle.vm_code.proofs.Meeting.{met_all, met_none}

-- nothing is needed where none of them needs anything
met_by_none : {A : Type 0} (f : A → List Need) (those : List A) → All (λ a. f a ≡ []) those → (xs : OpenSet) → All (Meets xs) (flat_map f those)
met_by_none f those none xs =
    met_all xs f those (All-weaker (λ a. f a ≡ []) (λ a. All (Meets xs) (f a)) (λ a e. subst (All (Meets xs)) (sym e) (met_none xs)) those none)

pub met_source : (b : BoundInsert) → NamesWhatIsThere b → (xs : OpenSet) → All (Meets xs) (flat_map needs_of_each b.rows)
met_source b fits xs =
    met_all xs needs_of_each b.rows (All-weaker (All (λ (x : BoundExpr). needs_of x ≡ [])) (λ (row : List BoundExpr). All (Meets xs) (needs_of_each row)) (λ row none. met_by_none needs_of row none xs) b.rows fits.rows)

pub met_defaults : (b : BoundInsert) → NamesWhatIsThere b → (xs : OpenSet) → All (Meets xs) (flat_map default_needs b.columns)
met_defaults b fits xs = met_by_none default_needs b.columns fits.defaults xs

-- the row that is put stands beside the table
pub met_checks : (b : BoundInsert) → NamesWhatIsThere b → All (Meets (on Table 1 ∷ on Row 0 ∷ [])) (needs_of_each b.checks)
met_checks b fits =
    let both : OpenSet = on Table 1 ∷ on Row 0 ∷ [] in
    let stands : Meets both (need.Rows 0) = inr (1, omega arith, refl) in
    met_all both needs_of b.checks (All-weaker (λ (x : BoundExpr). All (λ (n : Need). n ≡ need.Rows 0) (needs_of x)) (λ (x : BoundExpr). All (Meets both) (needs_of x)) (λ x each. All-weaker (λ (n : Need). n ≡ need.Rows 0) (Meets both) (λ n e. subst (Meets both) (sym e) stands) (needs_of x) each) b.checks fits.checks)
