-- What is open at the instructions of a draft agrees: wherever an instruction leads, the same is open as behind it.
use Rattle.std.specs.Prelude.{◌≡◌, ⊤, ℕ, ◌+◌, ◌≤◌, ◌<◌, List, [], ◌∷◌, length, All, Contains, Some, slice_get, ◌⊎◌}
use Rattle.vm_code.specs.declared.op.Op.{Op}
use Rattle.vm_code.specs.declared.way.Way.TheVariants as way
use Rattle.vm_code.specs.declared.open_cursor.Need.{Need}
use Rattle.vm_code.specs.declared.open_cursor.OpenCursor.{OpenCursor}
use Rattle.vm_code.specs.declared.way.Way.{Way}
use Rattle.vm_code.specs.Track.{Meets, OpenSet, way_of, needs_of, spans_of, room_for, behind, target_of, open_at}
use Rattle.vm_code.specs.Draft.{Draft}

abbrev pub AreBelow : ℕ → OpenSet → Type 0
AreBelow n xs = (x : OpenCursor) → Contains xs x → x.cursor < n

-- where the label's place is, these are open
abbrev pub IsMarked : Draft → ℕ → OpenSet → Type 0
IsMarked d l xs = slice_get d.track.marks l ≡ Some (Some xs)

-- the instruction is reached, with these open
abbrev pub IsReached : Draft → ℕ → Op → OpenSet → Type 0
IsReached d k o xs = (slice_get d.code k ≡ Some o) × (slice_get d.track.opens k ≡ Some (Some xs))

-- it enters no other unit and comes back to none
abbrev pub StaysInside : Way → Type 0
StaysInside (way.Calls u n to) = ⊥
StaysInside (way.Returns n) = ⊥
StaysInside other = ⊤

pub record IsTracked (d : Draft) : Type 0 where
  pub long : length d.track.opens ≡ length d.code
  pub wide : length d.track.marks ≡ length d.labels
  -- nothing is open at first, and what is open later are cursors of the draft
  pub first : open_at d.track 0 ≡ Some []
  pub now : (xs : OpenSet) → d.track.now ≡ Some xs → AreBelow d.cursors xs
  pub marks : (l : ℕ) (xs : OpenSet) → IsMarked d l xs → AreBelow d.cursors xs
  pub opens : (k : ℕ) (xs : OpenSet) → slice_get d.track.opens k ≡ Some (Some xs) → AreBelow d.cursors xs
  -- an instruction stays in its unit, and there is room for the registers that it names
  pub inside_unit : (k : ℕ) (o : Op) → slice_get d.code k ≡ Some o → StaysInside (way_of o)
  pub room : (k : ℕ) (o : Op) → slice_get d.code k ≡ Some o → room_for (spans_of o) ≤ d.reach
  -- what it needs of cursors is so
  pub uses : (k : ℕ) (o : Op) (xs : OpenSet) → IsReached d k o xs → All (Meets xs) (needs_of o)
  -- behind it, and where it jumps, what it leaves open is open
  pub falls : (k : ℕ) (o : Op) (xs ys : OpenSet) → IsReached d k o xs → behind (way_of o) (Some xs) ≡ Some ys → open_at d.track (k + 1) ≡ Some ys
  pub jumps : (k : ℕ) (o : Op) (xs : OpenSet) (l : ℕ) → IsReached d k o xs → target_of (way_of o) ≡ Some l → IsMarked d l xs
  -- labels have their places in the code, with what they are marked with
  pub inside : (l place : ℕ) → slice_get d.labels l ≡ Some (Some place) → place ≤ length d.code
  pub places : (l place : ℕ) (xs : OpenSet) → slice_get d.labels l ≡ Some (Some place) → IsMarked d l xs → open_at d.track place ≡ Some xs

-- it goes on behind itself, with the same open, and needs no cursor
abbrev pub GoesOn : Op → Type 0
GoesOn o = (way_of o ≡ way.Continues) × (needs_of o ≡ [])

-- one of these
abbrev pub Among : List ℕ → ℕ → Type 0
Among [] l = ⊥
Among (x ∷ xs) l = (x ≡ l) ⊎ Among xs l

abbrev pub HasPlace : Draft → ℕ → Type 0
HasPlace d l = (place : ℕ) × (slice_get d.labels l ≡ Some (Some place))

-- code that leaves open what it finds open, where that is what it needs of cursors, and jumps out of it to some labels alone, where the same is open; the labels that it makes have their places
pub record Steady (needs : List Need) (labels : List ℕ) (a b : Draft) : Type 0 where
  pub keeps : (l : ℕ) → HasPlace a l → HasPlace b l
  pub made : (l : ℕ) → length a.labels ≤ l → l < length b.labels → HasPlace b l
  pub stays : (xs : OpenSet) → a.track.now ≡ Some xs → All (Meets xs) needs → IsTracked a → ((l : ℕ) → Among labels l → IsMarked a l xs) → (b.track.now ≡ Some xs) × IsTracked b
