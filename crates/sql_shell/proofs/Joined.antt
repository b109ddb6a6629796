-- Values that are joined by `|`, and lines behind one another.
use Rattle.std.proofs.Common.{◌≡◌, ℕ, List, [], ◌∷◌, ◌++◌, map, sym, ◌∙◌, ap, append-nil, append_assoc, get_or, take, drop, length, ◌<◌, ◌≤◌, ◌-◌, arith}
use Rattle.std.proofs.lemmas.Grind.{flat_map-append}
use Rattle.std.proofs.lemmas.List.{take_rest}
use Rattle.std.specs.List.{flat_map, join_with_byte}
use Rattle.eng_value.specs.declared.value.Value.{Value}
use Rattle.sql_meaning.specs.Script.{printed, row_line}

-- each value behind the first has a `|` in front
pub join_printed : (v : Value) (vs : List Value) → join_with_byte 124 (map printed (v ∷ vs)) ≡ printed v ++ flat_map (λ w. 124 ∷ printed w) vs
join_printed v [] = sym (append-nil (printed v))
join_printed v (w ∷ vs) = ap (λ more. printed v ++ (124 ∷ more)) (join_printed w vs)

-- the same of a list that is not empty
pub join_first : (values : List Value) (first : Value) → first ≡ get_or values 0 first → 0 < length values → join_with_byte 124 (map printed values) ≡ printed first ++ flat_map (λ w. 124 ∷ printed w) (drop 1 values)
join_first [] first e some = absurd (omega arith)
join_first (v ∷ vs) first e some = join_printed v vs ∙ ap (λ x. printed x ++ flat_map (λ w. 124 ∷ printed w) vs) (sym e)

-- the first value is written, and then the others, each with a `|` in front
pub joined_in_two : (values : List Value) (first : Value) (before between after : List ℕ) → first ≡ get_or values 0 first → 1 ≤ length values → between ≡ before ++ printed first → after ≡ between ++ flat_map (λ w. 124 ∷ printed w) (take (length values - 1) (drop 1 values)) → after ≡ before ++ join_with_byte 124 (map printed values)
joined_in_two values first before between after e some one others =
    others ∙ (ap (λ x. x ++ flat_map (λ w. 124 ∷ printed w) (take (length values - 1) (drop 1 values))) one
    ∙ (append_assoc before (printed first) (flat_map (λ w. 124 ∷ printed w) (take (length values - 1) (drop 1 values)))
    ∙ ap (λ x. before ++ x) (ap (λ vs. printed first ++ flat_map (λ w. 124 ∷ printed w) vs) (take_rest values 1) ∙ sym (join_first values first e some))))

-- the line of one row more
pub line_behind : (rows : List (List Value)) (row : List Value) → flat_map row_line (rows ++ row ∷ []) ≡ flat_map row_line rows ++ row_line row
line_behind rows row = flat_map-append row_line rows (row ∷ []) ∙ ap (λ x. flat_map row_line rows ++ x) (append-nil (row_line row))
