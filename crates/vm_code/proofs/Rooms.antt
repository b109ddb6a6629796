-- Room for registers one after another.
use Rattle.std.proofs.Common.{◌≡◌, ℕ, ◌+◌, ◌<◌, max, List, [], ◌∷◌, ◌++◌, length, take, ap, ◌∙◌, arith}
use Rattle.std.specs.List.{flat_map}
use Rattle.std.specs.Prelude.{slice_index_or}
use Rattle.std.proofs.lemmas.List.{append-nil, take_more}
use Rattle.std.proofs.lemmas.List.Concat.{flat_map-append, flat_map-cons}
use Rattle.vm_code.specs.declared.operand.Operand.{Operand}
use Rattle.vm_code.specs.Track.{Span, operand_spans, room_for}

pub room_append : (xs ys : List Span) → room_for (xs ++ ys) ≡ max (room_for xs) (room_for ys)
room_append [] ys = omega arith
room_append (x ∷ xs) ys = ap (max (x.first + x.count)) (room_append xs ys) ∙ omega arith

-- one operand more
pub room_step : (os : List Operand) (i : ℕ) (d : Operand) → i < length os → room_for (flat_map operand_spans (take (i + 1) os)) ≡ max (room_for (operand_spans (slice_index_or os i d))) (room_for (flat_map operand_spans (take i os)))
room_step os i d lt =
    ap (λ l. room_for (flat_map operand_spans l)) (take_more os i d lt)
    ∙ ap room_for (flat_map-append operand_spans (take i os) (slice_index_or os i d ∷ []))
    ∙ room_append (flat_map operand_spans (take i os)) (flat_map operand_spans (slice_index_or os i d ∷ []))
    ∙ ap (λ l. max (room_for (flat_map operand_spans (take i os))) (room_for l)) (flat_map-cons operand_spans (slice_index_or os i d) [] ∙ append-nil (operand_spans (slice_index_or os i d)))
    ∙ omega arith
