-- Cursors that are opened in the places of loops, and closed at once, in drafts and frames.
use Rattle.std.proofs.Common.{◌≡◌, ℕ, zero, suc, ◌+◌, ◌≤◌, List, [], ◌∷◌, ◌++◌, get_or, length, map, None, refl, sym, ap, ◌∙◌, arith, ⊎_elim}
use Rattle.std.specs.Prelude.{slice_set}
use Rattle.std.proofs.Math.ListN.{get_or-map, length-set}
use Rattle.std.proofs.Math.Seq.{map-set_same}
use Rattle.std.proofs.lemmas.List.{get_or-set_other, get_or-set_same}
use Rattle.gen_loop.specs.Stretches.{Apart, ArePlaced, Stand, opened_all, opened_each, places_of, with_cursors}
use Rattle.plan_tree.specs.declared.access.Loop.{Loop}
use Rattle.vm_code.specs.declared.op.Op.TheVariants as op
use Rattle.vm_code.specs.Draft.{Draft, with_op}
use Rattle.vm_code.specs.Tracked.{Among}
use Rattle.vm_code.specs.Machine.{Cursor, Closed, Open, Setting, closed_from, cursor_at}
use Rattle.vm_code.specs.Frames.{Grows, Here, Shut}
use Rattle.vm_code.specs.Claims.{Claim, Labels, Last, Triple}
use Rattle.vm_code.proofs.Drafts.{g_op, g_registers, grows_none, grows_then}
use Rattle.vm_code.proofs.Loops.{moved}
use Rattle.vm_code.proofs.Triples.{t_draft, t_more, t_op, t_seq}

-- ---- drafts

g_cursors : (d : Draft) (n : ℕ) → Grows d (with_cursors d n)
g_cursors d n = g_registers d d.next d.most (d.cursors + n) (omega arith) (omega arith)

each-grows : (loops : List Loop) (d : Draft) → Grows d (opened_each d loops)
each-grows [] d = grows_none d
each-grows (l ∷ loops) d =
    grows_then (g_op d (op.OpenRead l.place l.table)) (each-grows loops (with_op d (op.OpenRead l.place l.table)))

pub opened-grows : (loops : List Loop) (d : Draft) → Grows d (opened_all d loops)
opened-grows loops d = grows_then (g_cursors d (length loops)) (each-grows loops (with_cursors d (length loops)))

-- what opening leaves as it is
each-same : {A : Type 0} (f : Draft → A) → ((d : Draft) (place table : ℕ) → f (with_op d (op.OpenRead place table)) ≡ f d) → (loops : List Loop) (d : Draft) → f (opened_each d loops) ≡ f d
each-same f same [] d = refl
each-same f same (l ∷ loops) d = each-same f same loops (with_op d (op.OpenRead l.place l.table)) ∙ same d l.place l.table

pub opened-cursors : (loops : List Loop) (d : Draft) → (opened_all d loops).cursors ≡ d.cursors + length loops
opened-cursors loops d = each-same (λ (d : Draft). d.cursors) (λ d place table. refl) loops (with_cursors d (length loops))

pub opened-next : (loops : List Loop) (d : Draft) → (opened_all d loops).next ≡ d.next
opened-next loops d = each-same (λ (d : Draft). d.next) (λ d place table. refl) loops (with_cursors d (length loops))

pub opened-most : (loops : List Loop) (d : Draft) → (opened_all d loops).most ≡ d.most
opened-most loops d = each-same (λ (d : Draft). d.most) (λ d place table. refl) loops (with_cursors d (length loops))

pub opened-labels : (loops : List Loop) (d : Draft) → (opened_all d loops).labels ≡ d.labels
opened-labels loops d = each-same (λ (d : Draft). d.labels) (λ d place table. refl) loops (with_cursors d (length loops))

pub opened-units : (loops : List Loop) (d : Draft) → (opened_all d loops).units ≡ d.units
opened-units loops d = each-same (λ (d : Draft). d.units) (λ d place table. refl) loops (with_cursors d (length loops))

-- one more behind the others
pub opened-push : (loops : List Loop) (l : Loop) (d : Draft) → opened_each d (loops ++ l ∷ []) ≡ with_op (opened_each d loops) (op.OpenRead l.place l.table)
opened-push [] l d = refl
opened-push (k ∷ loops) l d = opened-push loops l (with_op d (op.OpenRead k.place k.table))

-- ---- the cursors of the frame

abbrev pub cursors_opened : List Loop → List Cursor → List Cursor
cursors_opened [] cursors = cursors
cursors_opened (l ∷ loops) cursors = cursors_opened loops (slice_set cursors l.place (Open l.table None))

pub length-opened : (loops : List Loop) (cursors : List Cursor) → length (cursors_opened loops cursors) ≡ length cursors
length-opened [] cursors = refl
length-opened (l ∷ loops) cursors =
    length-opened loops (slice_set cursors l.place (Open l.table None)) ∙ length-set cursors l.place (Open l.table None)

apart-opened : (loops : List Loop) (k : ℕ) (cursors : List Cursor) → Apart k loops → cursor_at (cursors_opened loops cursors) k ≡ cursor_at cursors k
apart-opened [] k cursors apart = refl
apart-opened (l ∷ loops) k cursors apart =
    apart-opened loops k (slice_set cursors l.place (Open l.table None)) apart.1
    ∙ get_or-set_other cursors l.place k (Open l.table None) Closed (λ same. apart.0 (sym same))

behind-apart : (loops : List Loop) (n k : ℕ) → ArePlaced n loops → n ≤ k → Apart k loops
behind-apart [] n k placed le = tt
behind-apart (l ∷ loops) n k placed le =
    ((λ same. absurd (omega (arith, same, placed.0, le))), behind-apart loops n k placed.3 le)

pub shut-opened : (loops : List Loop) (n : ℕ) (cursors : List Cursor) → ArePlaced n loops → Shut n cursors → Shut n (cursors_opened loops cursors)
shut-opened loops n cursors placed shut k le = apart-opened loops k cursors (behind-apart loops n k placed le) ∙ shut k le

pub stand-opened : (loops : List Loop) (n : ℕ) (cursors : List Cursor) → ArePlaced n loops → n ≤ length cursors → Stand loops (cursors_opened loops cursors)
stand-opened [] n cursors placed wide = tt
stand-opened (l ∷ loops) n cursors placed wide =
    let now = slice_set cursors l.place (Open l.table None) in
    (apart-opened loops l.place now placed.2 ∙ get_or-set_same cursors l.place (Open l.table None) Closed (omega (arith, placed.0, wide)), stand-opened loops n now placed.3 (omega (arith, wide, length-set cursors l.place (Open l.table None))))

-- in each of their places a cursor is open on a table, on no row
pub stand-at : (loops : List Loop) (cursors : List Cursor) (k : ℕ) → Stand loops cursors → Among (places_of loops) k → (t : ℕ) × (cursor_at cursors k ≡ Open t None)
stand-at [] cursors k stand none = absurd none
stand-at (l ∷ loops) cursors k stand among =
    ⊎_elim (λ same. (l.table, ap (cursor_at cursors) (sym same) ∙ stand.0)) (λ more. stand-at loops cursors k stand.1 more) among

-- what can't tell an open cursor that is on no row from a closed one
pub same-opened : {A : Type 0} (f : Cursor → A) → ((table : ℕ) → f (Open table None) ≡ f Closed) → (loops : List Loop) (cursors : List Cursor) → ((k : ℕ) → f (cursor_at cursors k) ≡ f Closed) → map f (cursors_opened loops cursors) ≡ map f cursors
same-opened f alike [] cursors closed = refl
same-opened f alike (l ∷ loops) cursors closed =
    let there : Cursor = Open l.table None in
    let now = slice_set cursors l.place there in
    let same : map f now ≡ map f cursors = map-set_same f cursors l.place there Closed (alike l.table ∙ sym (closed l.place)) in
    same-opened f alike loops now (λ k. sym (get_or-map f now k Closed) ∙ ap (λ xs. get_or xs k (f Closed)) same ∙ get_or-map f cursors k Closed ∙ closed k)
    ∙ same

-- cursors that were all closed are closed again
pub closed_again : (xs ys : List Cursor) → length xs ≡ length ys → Shut 0 ys → closed_from 0 xs ≡ ys
closed_again [] [] e shut = refl
closed_again [] (y ∷ ys) e shut = absurd (omega (arith, e))
closed_again (x ∷ xs) [] e shut = absurd (omega (arith, e))
closed_again (x ∷ xs) (y ∷ ys) e shut =
    ap (λ l. Closed ∷ l) (closed_again xs ys (omega (arith, e)) (λ k le. shut (suc k) (omega arith)))
    ∙ ap (λ z. z ∷ ys) (sym (shut 0 (omega arith)))

pub length-closed : (c : ℕ) (xs : List Cursor) → length (closed_from c xs) ≡ length xs
length-closed c [] = refl
length-closed zero (x ∷ xs) = ap suc (length-closed zero xs)
length-closed (suc c) (x ∷ xs) = ap suc (length-closed c xs)

-- ---- what opening does

-- only the cursors are others
abbrev pub IsAt : (Here → List Cursor) → Claim
IsAt f h0 h = h ≡ record h0 { scene = record h0.scene { cursors = f h0 } }

t_each : (m : Setting) (g : Labels) (e : Last) (loops : List Loop) (d : Draft) (f : Here → List Cursor) → Triple m d (opened_each d loops) (λ h0. length loops) g e (IsAt f) (IsAt (λ h0. cursors_opened loops (f h0)))
t_each m g e [] d f = t_draft m g e (IsAt f) (grows_none d) refl
t_each m g e (l ∷ loops) d f =
    let there : Cursor = Open l.table None in
    let f1 : Here → List Cursor = λ h0. slice_set (f h0) l.place there in
    let d1 = with_op d (op.OpenRead l.place l.table) in
    let open_it : Triple m d d1 (λ h0. 1) g e (IsAt f) (IsAt f1) = t_op m d (op.OpenRead l.place l.table) (λ h. moved h l.place there) g e (IsAt f) (IsAt f1) (λ at s. refl) (λ h. (refl, length-set h.scene.cursors l.place there)) (λ h0 h most wide pre. ap (λ x. moved x l.place there) pre) in
    t_more (λ h0. length (l ∷ loops)) (λ h0. omega arith) (t_seq open_it (t_each m g e loops d1 f1))

pub t_opens : (m : Setting) (g : Labels) (e : Last) (loops : List Loop) (d : Draft) (f : Here → List Cursor) → Triple m d (opened_all d loops) (λ h0. length loops) g e (IsAt f) (IsAt (λ h0. cursors_opened loops (f h0)))
t_opens m g e loops d f =
    t_more (λ h0. length loops) (λ h0. omega arith) (t_seq (t_draft m g e (IsAt f) (g_cursors d (length loops)) refl) (t_each m g e loops (with_cursors d (length loops)) f))
