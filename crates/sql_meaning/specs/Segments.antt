-- What a script is put together of.
use Rattle.std.specs.Prelude.{◌≡◌, ◌<◌, ℕ, ◌-◌, Bool, ◌&&◌, ◌==◌, List, [], ◌∷◌, ◌++◌, length, Some, None, if◌then◌else◌, slice_index}
use Rattle.sql_lex.specs.Cutting.{blank_width}
use Rattle.sql_lex.specs.Pieces.{begins_with}
use Rattle.sql_meaning.specs.Parts.{Part, end_of, part_of}

-- a byte of white space or a comment; a dot line or a statement with the byte that ends it, a line feed or a `;`; or one without its end. The flag says which of the two it is
pub data Segment : Type 0 where
  Blank : List ℕ → Segment
  Ended : Bool → List ℕ → ℕ → Segment
  Pending : Bool → List ℕ → Segment

abbrev pub bytes_of : Segment → List ℕ
bytes_of (Blank bytes) = bytes
bytes_of (Ended is_line bytes end) = bytes ++ end ∷ []
bytes_of (Pending is_line bytes) = bytes

-- the part that it is; what is pending is one only where pending parts run
abbrev pub parts_in : Bool → Segment → List Part
parts_in pending_runs (Blank bytes) = []
parts_in pending_runs (Ended is_line bytes end) = part_of is_line bytes
parts_in pending_runs (Pending is_line bytes) = if pending_runs then part_of is_line bytes else []

-- a dot line begins where a line does
abbrev pub begins_line : Bool → List ℕ → Bool
begins_line is_fresh text = is_fresh && begins_with 46 text

-- the text begins with it, where no statement is pending; `is_fresh` says that a line begins there
abbrev pub BeginsWith : Bool → List ℕ → Segment → Type 0
BeginsWith is_fresh text (Blank bytes) = (0 < length bytes) × (blank_width text ≡ length bytes)
BeginsWith is_fresh text (Ended is_line bytes end) = (blank_width text ≡ 0) × (is_line ≡ begins_line is_fresh text) × (end_of is_line text ≡ Some (length bytes))
BeginsWith is_fresh text (Pending is_line bytes) = (blank_width text ≡ 0) × (is_line ≡ begins_line is_fresh text) × (end_of is_line text ≡ None) × (text ≡ bytes) × (0 < length bytes)

-- a line begins behind these bytes
abbrev pub ends_line : List ℕ → Bool
ends_line bytes = slice_index bytes (length bytes - 1) == 10

-- the text is put together of these, one behind another
abbrev pub AreSegments : Bool → List ℕ → List Segment → Type 0
AreSegments is_fresh text [] = text ≡ []
AreSegments is_fresh text (s ∷ segments) = (rest : List ℕ) × (text ≡ bytes_of s ++ rest) × BeginsWith is_fresh text s × AreSegments (ends_line (bytes_of s)) rest segments
