-- A loop over rows that a cursor stands on, whose turns cost what they cost in the state that each of them finds.
use Rattle.std.proofs.Common.{◌≡◌, ℕ, pos, ◌+◌, ◌≤◌, ◌<◌, List, [], ◌∷◌, Some, None, refl, sym, ap, ◌∙◌}
use Rattle.std.specs.Prelude.{⊤, slice_get, slice_set}
use Rattle.std.proofs.lemmas.List.{set-get_or}
use Rattle.eng_value.specs.Environments.{ItemRow, null_row}
use Rattle.eng_value.specs.Written.{unwritten}
use Rattle.vm_code.specs.declared.op.Op.{Op}
use Rattle.vm_code.specs.declared.op.Op.TheVariants as op
use Rattle.vm_code.specs.Draft.{Draft, with_op, bound}
use Rattle.vm_code.specs.Machine.{Closed, Cursor, Standing, Setting, State, Next, act, advanced, cursor_at, jump, skip, with_cursor, no_store}
use Rattle.vm_code.specs.Frames.{placed, Here, here}
use Rattle.vm_code.specs.Claims.{Claim, Labels, Last, Triple}
use Rattle.vm_code.proofs.Triples.{t_use}
use Rattle.vm_code.proofs.Loops.{At, moved, comes_onto, goes_onto, t_turns}

-- the cursor comes onto the first of these rows; a jump where there is none
abbrev pub stood : List ItemRow → State → ℕ → ℕ → Next
stood [] s c target = jump s target
stood (r ∷ rs) s c target = skip (with_cursor s c (Standing r rs))

-- some frame
nowhere : Here
nowhere = record {
  regs = [];
  inputs = record { args = []; running = [] };
  scene = record { cursors = []; slots = [] };
  store = no_store;
  shared = record { given = []; written = unwritten [] (pos 0) };
}

-- The first instruction stands the cursor on the first of the rows, which are a function of the frame at the start. The body is a family over the row and those behind it, and over that frame, since its claims are about the start of each turn, as is what it costs (`n`). `left` bounds what the turns over rows cost from a state on: a turn and the Next behind it use up their part.
pub t_along : {m : Setting} {a z y : Draft} {k : Here → ℕ} {g : Labels} {e : Last} {p : Claim} (c end top : ℕ) (first : Op) (rows : Here → List ItemRow) (n : ItemRow → Here → ℕ) (left : List ItemRow → Here → ℕ) (total : Here → ℕ) (inv : List ItemRow → Claim) → ((r : ItemRow) (rs : List ItemRow) (h : Here) → n r h ≤ left (r ∷ rs) h) → ((rs : List ItemRow) (h : Here) (x : Cursor) → left rs (moved h c x) ≡ left rs h) → ((at : ℕ → ℕ) (h0 : Here) (s : State) → At c Closed (inv (rows h0)) h0 (here s) → act m (Some (placed at first)) s ≡ stood (rows h0) s c (at end)) → slice_get z.labels top ≡ Some None → slice_get y.labels end ≡ Some None → c < y.cursors → ((rs : List ItemRow) (h0 h : Here) (x : Cursor) → inv rs h0 h → inv rs h0 (moved h c x)) → Triple m a z k g e p (λ h0 h. At c Closed (inv (rows h0)) h0 h × (left (rows h0) h ≤ total h0)) → ((h0 : Here) (r : ItemRow) (rs : List ItemRow) → Triple m (bound (with_op z first) top) y (n r) (λ l h1. g l h0) (λ h1. e h0) (λ h1 h. (h1 ≡ h) × At c (Standing r rs) (inv (r ∷ rs)) h0 h) (λ h1 h. At c (Standing r rs) (inv rs) h0 h × (n r h1 + 1 + left rs h ≤ left (r ∷ rs) h1))) → Triple m a (bound (with_op y (op.Next c top)) end) (λ h0. k h0 + (1 + total h0)) g e p (At c Closed (inv []))
t_along {m} {a} {z} {y} {k} {g} {e} {p} c end top first rows n left total inv fits still first_law top_open end_open c_lt stable before body =
    t_turns c end top first Closed Standing rows (λ h0. n) (λ h0. left) total (λ h0 h. inv (rows h0) h0 h) (λ r h. ⊤) inv begins (λ target front rs r h0 s up is pre. goes target rs r s pre.0) (λ front rs r h0 h up is holds. tt) (λ r rs h0 h. fits r rs h) (λ rs h0 h x. still rs h x) top_open end_open c_lt (body nowhere null_row []).extends stable opened turn
  where
    -- a closed cursor may be closed
    closed_again : (s : State) → cursor_at s.scene.cursors c ≡ Closed → with_cursor s c Closed ≡ s
    closed_again s is =
        ap (λ l. record s { scene = record s.scene { cursors = l } }) (ap (slice_set s.scene.cursors c) (sym is) ∙ set-get_or s.scene.cursors c Closed)

    stands : (rs : List ItemRow) (s : State) (target : ℕ) → cursor_at s.scene.cursors c ≡ Closed → stood rs s c target ≡ comes_onto Closed Standing rs s c target
    stands [] s target is = ap (λ t. jump t target) (sym (closed_again s is))
    stands (r ∷ rs) s target is = refl

    begins : (at : ℕ → ℕ) (h0 : Here) (s : State) → At c Closed (λ h0 h. inv (rows h0) h0 h) h0 (here s) → act m (Some (placed at first)) s ≡ comes_onto Closed Standing (rows h0) s c (at end)
    begins at h0 s pre = first_law at h0 s pre ∙ stands (rows h0) s (at end) pre.0

    goes : (target : ℕ) (rs : List ItemRow) (r : ItemRow) (s : State) → cursor_at s.scene.cursors c ≡ Standing r rs → act m (Some (op.Next c target)) s ≡ goes_onto Closed Standing rs s c target
    goes target [] r s is = ap (λ x. advanced x s c target) is
    goes target (q ∷ qs) r s is = ap (λ x. advanced x s c target) is

    opened : Triple m a z k g e p (λ h0 h. At c Closed (λ h0 h. inv (rows h0) h0 h × inv (rows h0) h0 h) h0 h × (left (rows h0) h ≤ total h0))
    opened =
        t_use p (λ h0 h. At c Closed (λ h0 h. inv (rows h0) h0 h × inv (rows h0) h0 h) h0 h × (left (rows h0) h ≤ total h0)) (λ h0 h pre. pre) (λ h0 h post. ((post.0.0, (post.0.1, post.0.1)), post.1)) before

    turn : (h0 : Here) (r : ItemRow) (rs : List ItemRow) → Triple m (bound (with_op z first) top) y (n r) (λ l h1. g l h0) (λ h1. e h0) (λ h1 h. (h1 ≡ h) × At c (Standing r rs) (λ h0 h. ⊤ × inv (r ∷ rs) h0 h) h0 h) (λ h1 h. At c (Standing r rs) (inv rs) h0 h × (n r h1 + 1 + left rs h ≤ left (r ∷ rs) h1))
    turn h0 r rs =
        t_use (λ h1 h. (h1 ≡ h) × At c (Standing r rs) (λ h0 h. ⊤ × inv (r ∷ rs) h0 h) h0 h) (λ h1 h. At c (Standing r rs) (inv rs) h0 h × (n r h1 + 1 + left rs h ≤ left (r ∷ rs) h1)) (λ h1 h pre. (pre.0, (pre.1.0, pre.1.1.1))) (λ h1 h post. post) (body h0 r rs)
