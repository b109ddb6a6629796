-- The parts of a script, from the front.
use Rattle.std.proofs.Common.{◌≡◌, ◌≢◌, ℕ, zero, suc, Bool, cond, List, [], ◌∷◌, ◌++◌, Option, refl, sym, ◌∙◌, ap, drop, length, ◌<◌, ◌≤◌, ◌-◌, ◌==◌, ◌&&◌, arith}
use Rattle.std.specs.Prelude.{slice_index}
use Rattle.std.proofs.lemmas.Bool.{le-ltb, lt-ltb}
use Rattle.sql_lex.specs.Cutting.{blank_width}
use Rattle.sql_lex.specs.Pieces.{begins_with}
use Rattle.sql_meaning.specs.Parts.{Part, end_of, part_here, part_up_to, parts_from, width_here, width_up_to}

-- ---- what stands at the front

-- behind so many more bytes
pub parts_from-skip : (runs : Bool) (before skip : ℕ) (bytes : List ℕ) → skip ≤ length bytes → parts_from runs (before == 10) skip bytes ≡ parts_from runs (slice_index (before ∷ bytes) skip == 10) 0 (drop skip bytes)
parts_from-skip runs before zero bytes within = refl
parts_from-skip runs before (suc skip) [] within = absurd (omega arith)
parts_from-skip runs before (suc skip) (b ∷ bytes) within = parts_from-skip runs b skip bytes (omega arith)

pub parts_from-here : (runs fresh : Bool) (bytes : List ℕ) (width : ℕ) → bytes ≢ [] → width_here (fresh && begins_with 46 bytes) bytes ≡ width → 0 < width → width ≤ length bytes
    → parts_from runs fresh 0 bytes ≡ part_here runs (fresh && begins_with 46 bytes) bytes ++ parts_from runs (slice_index bytes (width - 1) == 10) 0 (drop width bytes)
parts_from-here runs fresh [] width some is one within = absurd (some refl)
parts_from-here runs fresh (b ∷ bytes) zero some is one within = absurd (omega arith)
parts_from-here runs fresh (b ∷ bytes) (suc skip) some is one within =
    let line = fresh && b == 46 in
    let same : skip ≡ suc skip - 1 = omega arith in
    let behind : width_here line (b ∷ bytes) - 1 ≡ skip = omega (arith, is) in
    ap (λ w. part_here runs line (b ∷ bytes) ++ parts_from runs (b == 10) w bytes) behind
    ∙ (ap (λ ps. part_here runs line (b ∷ bytes) ++ ps) (parts_from-skip runs b skip bytes (omega arith))
    ∙ ap (λ w. part_here runs line (b ∷ bytes) ++ parts_from runs (slice_index (b ∷ bytes) w == 10) 0 (drop skip bytes)) same)

-- the part that was found, so many bytes wide, and what is behind it
pub cut_is : (runs fresh : Bool) (text : List ℕ) (width : ℕ) (part : List Part) (fresh' : Bool) (rest : List ℕ) → text ≢ [] → part_here runs (fresh && begins_with 46 text) text ≡ part → width_here (fresh && begins_with 46 text) text ≡ width
    → 0 < width → width ≤ length text → rest ≡ drop width text → fresh' ≡ (slice_index text (width - 1) == 10) → parts_from runs fresh 0 text ≡ part ++ parts_from runs fresh' 0 rest
cut_is runs fresh text width part fresh' rest some part_is is one within rest_is fresh_is =
    parts_from-here runs fresh text width some is one within
    ∙ (ap (λ ps. ps ++ parts_from runs (slice_index text (width - 1) == 10) 0 (drop width text)) part_is
    ∙ (ap (λ f. part ++ parts_from runs f 0 (drop width text)) (sym fresh_is) ∙ ap (λ r. part ++ parts_from runs fresh' 0 r) (sym rest_is)))

-- white space or a comment
pub blank_here : (runs line : Bool) (text : List ℕ) → 0 < blank_width text → (part_here runs line text ≡ []) × (width_here line text ≡ blank_width text)
blank_here runs line text some =
    let e = lt-ltb 0 (blank_width text) some in (
      ap (λ c. cond c [] (part_up_to runs line (end_of line text) text)) e,
      ap (λ c. cond c (blank_width text) (width_up_to (end_of line text) text)) e,
    )

-- a part, up to its end if it has one
pub token_here : (runs line : Bool) (text : List ℕ) (end : Option ℕ) → blank_width text ≤ 0 → end ≡ end_of line text → (part_here runs line text ≡ part_up_to runs line end text) × (width_here line text ≡ width_up_to end text)
token_here runs line text end none is =
    let e = le-ltb 0 (blank_width text) none in (
      ap (λ c. cond c [] (part_up_to runs line (end_of line text) text)) e ∙ ap (λ x. part_up_to runs line x text) (sym is),
      ap (λ c. cond c (blank_width text) (width_up_to (end_of line text) text)) e ∙ ap (λ x. width_up_to x text) (sym is),
    )
