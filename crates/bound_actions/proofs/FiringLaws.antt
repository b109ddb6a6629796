-- Triggers that are listed or are not.
use Rattle.std.proofs.Common.{◌≡◌, ℕ, ◌-◌, ◌≤◌, Bool, false, List, [], ◌∷◌, length, take, drop, Some, refl, sym, ap, ◌∙◌, arith}
use Rattle.std.proofs.lemmas.List.{length-drop, take_all}
use Rattle.std.specs.Prelude.{slice_get}
use Rattle.bound_tree.specs.declared.writes.BoundTrigger.{BoundTrigger}
use Rattle.bound_actions.specs.Writes.{Opening, is_listed, marked, opened, rows_spot, trigger_listed, trigger_with}
use Rattle.bound_actions.specs.declared.listing.Listed.{Listed}
use Rattle.bound_actions.specs.declared.pieces.Piece.{Piece}
use Rattle.bound_actions.specs.declared.pieces.Spot.{Spot}

behind_one : (left : List BoundTrigger) → take (length left - 1) (drop 1 left) ≡ drop 1 left
behind_one left = take_all (length left - 1) (drop 1 left) (omega (arith, length-drop 1 left))

one_fewer : (u : List (List Piece)) (all left : List BoundTrigger) (table : List ℕ) (place : ℕ) (so_far : Listed) → 1 ≤ length left → trigger_listed (opened u all (drop 1 left)) u table place (slice_get all place) (is_listed place so_far) so_far ≡ opened u all left table place so_far
one_fewer u all [] table place so_far h = absurd (omega arith)
one_fewer u all (t ∷ left) table place so_far h = refl

-- one fewer may be open within it
pub opened-next : (u : List (List Piece)) (all left : List BoundTrigger) (table : List ℕ) (place : ℕ) (so_far : Listed) → 1 ≤ length left → trigger_listed (opened u all (take (length left - 1) (drop 1 left))) u table place (slice_get all place) (is_listed place so_far) so_far ≡ opened u all left table place so_far
opened-next u all left table place so_far h =
    ap (λ (rest : List BoundTrigger). trigger_listed (opened u all rest) u table place (slice_get all place) (is_listed place so_far) so_far) (behind_one left)
    ∙ one_fewer u all left table place so_far h

pub listed-now : (opening : Opening) (u : List (List Piece)) (table : List ℕ) (place : ℕ) (t : BoundTrigger) (so_far next : Listed) (spot : Spot) (listed : Bool) → listed ≡ is_listed place so_far → listed ≡ false → next ≡ marked place so_far → spot ≡ rows_spot table t → trigger_with opening u spot t next ≡ trigger_listed opening u table place (Some t) (is_listed place so_far) so_far
listed-now opening u table place t so_far next spot listed listed_is none next_is spot_is =
    ap (λ s. trigger_with opening u s t next) spot_is
    ∙ ap (trigger_with opening u (rows_spot table t) t) next_is
    ∙ ap (λ b. trigger_listed opening u table place (Some t) b so_far) (sym none ∙ listed_is)
