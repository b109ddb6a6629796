-- What the stretches of the code of loops do.
use Rattle.std.specs.Prelude.{◌≡◌, ◌≢◌, ⊤, ℕ, ◌+◌, ◌<◌, List, [], ◌∷◌, length, map, sum_by, None}
use Rattle.std.specs.List.{AllByRecursion, range_with_len}
use Rattle.eng_value.specs.Arrangements.{Shuffled}
use Rattle.eng_value.specs.Environments.{Environment}
use Rattle.gen_loop.specs.Loops.{key_steps}
use Rattle.gen_loop.specs.Needs.{keys_read}
use Rattle.plan_tree.specs.Visits.{IsCounted, key_outs}
use Rattle.plan_tree.specs.declared.access.Loop.{Loop}
use Rattle.plan_tree.specs.declared.access.Path.{Path}
use Rattle.plan_tree.specs.declared.access.Path.TheVariants as path
use Rattle.plan_tree.specs.declared.access.Search.{Search}
use Rattle.vm_code.specs.declared.op.Op.TheVariants as op
use Rattle.vm_code.specs.declared.open_cursor.Need.{Need}
use Rattle.vm_code.specs.Draft.{Draft, released, with_op}
use Rattle.vm_code.specs.Tracked.{Steady}
use Rattle.vm_code.specs.Frames.{Did, Effect, Fills, Grows, Holds, Ready, Shut, effect_at, environment_of, here, needing}
use Rattle.vm_code.specs.Machine.{Cursor, Open, Setting, State, cursor_at}

-- ---- onto the first row

-- the keys of a search in registers that they take, and the search by them; behind it these are free
pub record Seeks (a b : Draft) (cursor end : ℕ) (s : Search) : Type 0 where
  pub keyed : Draft
  pub fills : Fills (needing (keys_read s.keys)) a keyed (length s.keys) (λ env. key_outs env s.keys) (λ env. sum_by key_steps s.keys)
  pub cursors : keyed.cursors ≡ a.cursors
  pub units : keyed.units ≡ a.units
  pub is : b ≡ released (with_op keyed (op.Search cursor s.terms s.bounds a.next end)) a.next

-- a cursor that is open comes onto the first of the rows that a path visits, or code goes on at a label where there is none
abbrev pub Comes : Draft → Draft → ℕ → ℕ → Path → Type 0
Comes a b cursor end path.Scan = b ≡ with_op a (op.Rewind cursor end)
Comes a b cursor end (path.Search s) = Seeks a b cursor end s

-- ---- cursors

-- so many cursors more
abbrev pub with_cursors : Draft → ℕ → Draft
with_cursors d n = record d { cursors = d.cursors + n }

-- the cursors in the places of loops are open on their tables
abbrev pub opened_each : Draft → List Loop → Draft
opened_each d [] = d
opened_each d (l ∷ loops) = opened_each (with_op d (op.OpenRead l.place l.table)) loops

-- a cursor more for each loop, and those in their places are open
abbrev pub opened_all : Draft → List Loop → Draft
opened_all d loops = opened_each (with_cursors d (length loops)) loops

-- ---- loops

-- the cursors of loops that are still to come are open on their tables, and on no row
abbrev pub Stand : List Loop → List Cursor → Type 0
Stand [] cursors = ⊤
Stand (l ∷ loops) cursors = (cursor_at cursors l.place ≡ Open l.table None) × Stand loops cursors

-- none of the loops goes by this cursor
abbrev pub Apart : ℕ → List Loop → Type 0
Apart c [] = ⊤
Apart c (l ∷ loops) = (l.place ≢ c) × Apart c loops

-- loops go by cursors of a draft, each by one of its own, and have as many keys as their bounds ask for
abbrev pub ArePlaced : ℕ → List Loop → Type 0
ArePlaced n [] = ⊤
ArePlaced n (l ∷ loops) = (l.place < n) × IsCounted l.path × Apart l.place loops × ArePlaced n loops

abbrev pub places_of : List Loop → List ℕ
places_of loops = map (λ (l : Loop). l.place) loops

-- the places of loops are the first ones, each once, in any order; each has as many keys as its bounds ask for
pub record AreSpread (loops : List Loop) : Type 0 where
  pub places : Shuffled (places_of loops) (range_with_len 0 (length loops))
  pub counted : AllByRecursion (λ (l : Loop). IsCounted l.path) loops

-- code with an effect, which finds the cursors of these loops open and on no row, and those from its own on closed, and leaves all so
pub record Nests (needs : List Need) (loops : List Loop) (a b : Draft) (lo causes : ℕ) (f : Effect) (cost : Environment → ℕ) : Type 0 where
  pub grows : Grows a b
  pub next : b.next ≡ a.next
  pub steady : Steady needs [] a b
  pub does : (m : Setting) → ArePlaced a.cursors loops → (u : ℕ) (at : ℕ → ℕ) → Holds b m.prog u at → (s : State) → Ready b u s → s.pc ≡ length a.code → Stand loops s.scene.cursors → Shut a.cursors s.scene.cursors
      → Did m (cost (environment_of m (here s))) s (length b.code) None lo a.next a.cursors (effect_at m f lo causes (here s))
