-- What is open along the calls of the Builder.
use Rattle.std.proofs.Common.{◌≡◌, ◌≢◌, ℕ, zero, suc, ◌+◌, ◌-◌, ◌≤◌, ◌<◌, max, List, [], ◌∷◌, ◌++◌, false, not, true, nat_eq, length, All, Contains, Some, None, refl, sym, ap, ◌∙◌, subst, arith, ◌⊎◌, inl, inr, ⊎_elim, length-append, cond}
use Rattle.std.specs.Prelude.{slice_get, slice_set, slice_index_or}
use Rattle.std.proofs.lemmas.Bool.{cases_lt, lt-ltb}
use Rattle.std.proofs.lemmas.Option.{slice_get_within, get_or_from_slice_get}
use Rattle.std.proofs.lemmas.List.{get_or_append_left}
use Rattle.std.proofs.lemmas.List.Elements.{All-weaker, Contains-append_left, Contains-push, Contains-push_cases}
use Rattle.std.proofs.Math.Seq.{get_or-append_seam}
use Rattle.std.proofs.Math.ListN.{length-set}
use Rattle.vm_code.specs.declared.op.Op.{Op}
use Rattle.vm_code.specs.declared.op.Op.TheVariants.{CloseFrom, Goto}
use Rattle.vm_code.specs.declared.way.Way.{Way}
use Rattle.vm_code.specs.declared.way.Way.TheVariants as way
use Rattle.vm_code.specs.declared.open_cursor.CursorKind.{CursorKind}
use Rattle.vm_code.specs.declared.open_cursor.CursorKind.TheVariants.{Row, Sorter, Table}
use Rattle.vm_code.specs.declared.open_cursor.Need.{Need}
use Rattle.vm_code.specs.declared.open_cursor.Need.TheVariants as need
use Rattle.vm_code.specs.declared.open_cursor.OpenCursor.{OpenCursor}
use Rattle.vm_code.specs.Track.{Meets, OpenSet, Track, on, way_of, needs_of, spans_of, room_for, behind, target_of, passed, arrived, open_at, opened, closed, closed_from}
use Rattle.vm_code.specs.Draft.{Draft, with_op, with_label, bound, taken, with_cursor, given_back, released}
use Rattle.vm_code.specs.Tracked.{AreBelow, IsMarked, IsReached, IsTracked, Among, GoesOn, HasPlace, StaysInside, Steady}
use Rattle.vm_code.specs.Frames.{Grows}
use Rattle.vm_code.proofs.Meeting.{met_among, met_more, met_none, met_one}
use Rattle.vm_code.proofs.Drafts.{get-append, get-last, get-set, get-set_other, g_label, g_op, open_new, open_old, open_other}

-- ---- lists

-- an element of a list with one more is one of the list, or the last one
get-more : {A : Type 0} (xs : List A) (x y : A) (k : ℕ) → slice_get (xs ++ x ∷ []) k ≡ Some y → (slice_get xs k ≡ Some y) ⊎ ((k ≡ length xs) × (x ≡ y))
get-more [] x y zero e = inr (refl, cc)
get-more [] x y (suc k) e = cc
get-more (z ∷ zs) x y zero e = inl e
get-more (z ∷ zs) x y (suc k) e = ⊎_elim (λ l. inl l) (λ r. inr (ap suc r.0, r.1)) (get-more zs x y k e)

-- one of a list of which one was set is that one, or one of before
get-set_cases : {A : Type 0} (xs : List A) (i k : ℕ) (y z : A) → slice_get (slice_set xs i y) k ≡ Some z → ((k ≡ i) × (y ≡ z)) ⊎ (slice_get xs k ≡ Some z)
get-set_cases [] i k y z e = inr e
get-set_cases (x ∷ xs) zero zero y z e = inl (refl, cc)
get-set_cases (x ∷ xs) zero (suc k) y z e = inr e
get-set_cases (x ∷ xs) (suc i) zero y z e = inr e
get-set_cases (x ∷ xs) (suc i) (suc k) y z e = ⊎_elim (λ l. inl (ap suc l.0, l.1)) (λ r. inr r) (get-set_cases xs i k y z e)

same_or_not : (k l : ℕ) → (k ≡ l) ⊎ (k ≢ l)
same_or_not k l = ⊎_elim (λ lt. inr (λ e. absurd (omega (arith, lt, e)))) (λ le. ⊎_elim (λ lt. inr (λ e. absurd (omega (arith, lt, e)))) (λ ge. inl (omega (arith, le, ge))) (cases_lt l k)) (cases_lt k l)

-- ---- what is open in front of a place

open-passed : (w : Way) (t : Track) (place : ℕ) → place ≤ length t.opens → open_at (passed w t) place ≡ open_at t place
open-passed w t place le =
    get_or_append_left (t.opens ++ t.now ∷ []) (behind w t.now ∷ []) None place (omega (arith, length-append t.opens (t.now ∷ [])))

open-behind : (w : Way) (t : Track) (place : ℕ) → place ≡ length t.opens + 1 → open_at (passed w t) place ≡ behind w t.now
open-behind w t place e =
    ap (λ k. slice_index_or ((t.opens ++ t.now ∷ []) ++ behind w t.now ∷ []) k None) (e ∙ sym (length-append t.opens (t.now ∷ [])))
    ∙ get_or-append_seam (t.opens ++ t.now ∷ []) (behind w t.now) [] None

pub open-now : (t : Track) (place : ℕ) → place ≡ length t.opens → open_at t place ≡ t.now
open-now t place e =
    ap (λ k. slice_index_or (t.opens ++ t.now ∷ []) k None) e ∙ get_or-append_seam t.opens t.now [] None

-- a label's place changes nothing that was known
open-arrived : (t : Track) (l place : ℕ) (xs ys : OpenSet) → slice_index_or t.marks l None ≡ Some xs → ((t.now ≡ Some xs) ⊎ (t.now ≡ None)) → place ≤ length t.opens → open_at t place ≡ Some ys → open_at (arrived t l) place ≡ Some ys
open-arrived t l place xs ys mark fits le was = ⊎_elim inside last (cases_lt place (length t.opens))
  where
    inside : place < length t.opens → open_at (arrived t l) place ≡ Some ys
    inside lt =
        get_or_append_left t.opens (slice_index_or t.marks l None ∷ []) None place lt
        ∙ sym (get_or_append_left t.opens (t.now ∷ []) None place lt)
        ∙ was

    now_is : place ≡ length t.opens → t.now ≡ Some ys
    now_is is = sym (open-now t place is) ∙ was

    same : place ≡ length t.opens → Some xs ≡ Some ys
    same is = ⊎_elim (λ found. sym found ∙ now_is is) (λ none. let no : None ≡ Some ys = sym none ∙ now_is is in cc) fits

    last : length t.opens ≤ place → open_at (arrived t l) place ≡ Some ys
    last ge = let is : place ≡ length t.opens = omega (arith, ge, le) in open-now (arrived t l) place is ∙ mark ∙ same is

-- ---- one more instruction

reached-more : (d : Draft) (o p : Op) (k : ℕ) (xs : OpenSet) → IsTracked d → IsReached (with_op d o) k p xs → IsReached d k p xs ⊎ ((k ≡ length d.code) × (o ≡ p) × (d.track.now ≡ Some xs))
reached-more d o p k xs t r =
    ⊎_elim (λ old. ⊎_elim (λ at. inl (old, at)) (λ new. let lt = slice_get_within d.code k p old in absurd (omega (arith, lt, new.0, t.long))) opens) (λ new. ⊎_elim (λ at. let lt = slice_get_within d.track.opens k (Some xs) at in absurd (omega (arith, lt, new.0, t.long))) (λ is. inr (new.0, new.1, is.1)) opens) (get-more d.code o p k r.0)
  where
    opens : (slice_get d.track.opens k ≡ Some (Some xs)) ⊎ ((k ≡ length d.track.opens) × (d.track.now ≡ Some xs))
    opens = get-more d.track.opens d.track.now (Some xs) k r.1

-- it is reached, stays in the unit, has what it needs of cursors, and jumps to where the same is open
pub tracked_op : (d : Draft) (o : Op) (xs : OpenSet) → IsTracked d → d.track.now ≡ Some xs → StaysInside (way_of o) → All (Meets xs) (needs_of o) → ((l : ℕ) → target_of (way_of o) ≡ Some l → IsMarked d l xs) → ((ys : OpenSet) → behind (way_of o) (Some xs) ≡ Some ys → AreBelow d.cursors ys) → IsTracked (with_op d o)
tracked_op d o xs t is stays uses jumps below = record {
  long = length-append d.track.opens (d.track.now ∷ []) ∙ ap (λ n. n + 1) t.long ∙ sym (length-append d.code (o ∷ []));
  wide = t.wide;
  first = open-passed (way_of o) d.track 0 (omega arith) ∙ t.first;
  now = λ ys e. below ys (ap (behind (way_of o)) (sym is) ∙ e);
  marks = t.marks;
  opens = λ k zs e. ⊎_elim (λ old. t.opens k zs old) (λ new. t.now zs new.1) (get-more d.track.opens d.track.now (Some zs) k e);
  inside_unit = λ k p e. ⊎_elim (λ old. t.inside_unit k p old) (λ new. subst (λ q. StaysInside (way_of q)) new.1 stays) (get-more d.code o p k e);
  room = λ k p e. ⊎_elim (λ old. let le = t.room k p old in omega (arith, le)) (λ new. subst (λ q. room_for (spans_of q) ≤ max d.reach (room_for (spans_of o))) new.1 (omega arith)) (get-more d.code o p k e);
  uses = λ k p zs r. ⊎_elim (λ old. t.uses k p zs old) (λ new. new_uses p zs new.1 new.2) (reached-more d o p k zs t r);
  falls = λ k p zs ys r e. ⊎_elim (λ old. old_falls k p zs ys old e) (λ new. new_falls k p zs ys new.0 new.1 new.2 e) (reached-more d o p k zs t r);
  jumps = λ k p zs l r e. ⊎_elim (λ old. t.jumps k p zs l old e) (λ new. new_jumps p zs l new.1 new.2 e) (reached-more d o p k zs t r);
  inside = λ l place e. let le = t.inside l place e in omega (arith, le, length-append d.code (o ∷ []));
  places = λ l place zs e m. let le = t.inside l place e in open-passed (way_of o) d.track place (omega (arith, le, t.long)) ∙ t.places l place zs e m;
}
  where
    same : (zs : OpenSet) → d.track.now ≡ Some zs → xs ≡ zs
    same zs e = let both : Some xs ≡ Some zs = sym is ∙ e in cc

    new_uses : (p : Op) (zs : OpenSet) → o ≡ p → d.track.now ≡ Some zs → All (Meets zs) (needs_of p)
    new_uses p zs e now = subst (λ q. All (Meets zs) (needs_of q)) e (subst (λ ys. All (Meets ys) (needs_of o)) (same zs now) uses)

    new_jumps : (p : Op) (zs : OpenSet) (l : ℕ) → o ≡ p → d.track.now ≡ Some zs → target_of (way_of p) ≡ Some l → IsMarked d l zs
    new_jumps p zs l e now to = subst (IsMarked d l) (same zs now) (jumps l (ap (λ q. target_of (way_of q)) e ∙ to))

    old_falls : (k : ℕ) (p : Op) (zs ys : OpenSet) → IsReached d k p zs → behind (way_of p) (Some zs) ≡ Some ys → open_at (passed (way_of o) d.track) (k + 1) ≡ Some ys
    old_falls k p zs ys old e =
        let lt = slice_get_within d.code k p old.0 in
        open-passed (way_of o) d.track (k + 1) (omega (arith, lt, t.long)) ∙ t.falls k p zs ys old e

    new_falls : (k : ℕ) (p : Op) (zs ys : OpenSet) → k ≡ length d.code → o ≡ p → d.track.now ≡ Some zs → behind (way_of p) (Some zs) ≡ Some ys → open_at (passed (way_of o) d.track) (k + 1) ≡ Some ys
    new_falls k p zs ys place e now to =
        open-behind (way_of o) d.track (k + 1) (omega (arith, place, t.long)) ∙ ap (behind (way_of o)) now ∙ ap (λ q. behind (way_of q) (Some zs)) e ∙ to

-- ---- labels

-- one more
pub tracked_label : (d : Draft) → IsTracked d → IsTracked (with_label d)
tracked_label d t = record {
  long = t.long;
  wide = length-append d.track.marks (d.track.now ∷ []) ∙ ap (λ n. n + 1) t.wide ∙ sym (length-append d.labels (None ∷ []));
  first = t.first;
  now = t.now;
  marks = λ l xs m. ⊎_elim (λ old. t.marks l xs old) (λ new. t.now xs new.1) (get-more d.track.marks d.track.now (Some xs) l m);
  opens = t.opens;
  inside_unit = t.inside_unit;
  room = t.room;
  uses = t.uses;
  falls = t.falls;
  jumps = λ k o xs l r e. get-append d.track.marks (d.track.now ∷ []) l (Some xs) (t.jumps k o xs l r e);
  inside = λ l place e. t.inside l place (placed l place e);
  places = λ l place xs e m. t.places l place xs (placed l place e) (was l place xs e m);
}
  where
    placed : (l place : ℕ) → slice_get (d.labels ++ None ∷ []) l ≡ Some (Some place) → slice_get d.labels l ≡ Some (Some place)
    placed l place e = ⊎_elim (λ old. old) (λ new. let no = new.1 in cc) (get-more d.labels None (Some place) l e)

    was : (l place : ℕ) (xs : OpenSet) → slice_get (d.labels ++ None ∷ []) l ≡ Some (Some place) → slice_get (d.track.marks ++ d.track.now ∷ []) l ≡ Some (Some xs) → IsMarked d l xs
    was l place xs e m =
        let lt = slice_get_within d.labels l (Some place) (placed l place e) in
        ⊎_elim (λ old. old) (λ new. let at = new.0 in absurd (omega (arith, lt, at, t.wide))) (get-more d.track.marks d.track.now (Some xs) l m)

mark-read : (d : Draft) (l : ℕ) (xs : OpenSet) → IsMarked d l xs → slice_index_or d.track.marks l None ≡ Some xs
mark-read d l xs m = get_or_from_slice_get d.track.marks l (Some xs) None m

-- a place, where what falls there has open what the label is marked with, or nothing falls there
pub tracked_bound : (d : Draft) (l : ℕ) (xs : OpenSet) → IsTracked d → IsMarked d l xs → ((d.track.now ≡ Some xs) ⊎ (d.track.now ≡ None)) → IsTracked (bound d l)
tracked_bound d l xs t mark fits = record {
  long = t.long;
  wide = t.wide ∙ sym (length-set d.labels l (Some (length d.code)));
  first = open-arrived d.track l 0 xs [] (mark-read d l xs mark) fits (omega arith) t.first;
  now = λ ys e. t.marks l ys (subst (λ zs. IsMarked d l zs) (let both : Some xs ≡ Some ys = sym (mark-read d l xs mark) ∙ e in cc) mark);
  marks = t.marks;
  opens = t.opens;
  inside_unit = t.inside_unit;
  room = t.room;
  uses = t.uses;
  falls = λ k o zs ys r e.
      let lt = slice_get_within d.code k o r.0 in
      open-arrived d.track l (k + 1) xs ys (mark-read d l xs mark) fits (omega (arith, lt, t.long)) (t.falls k o zs ys r e);
  jumps = t.jumps;
  inside = λ k place e. ⊎_elim (λ here. let at : Some (length d.code) ≡ Some place = here.1 in let is : length d.code ≡ place = cc in omega (arith, is)) (λ old. t.inside k place old) (get-set_cases d.labels l k (Some (length d.code)) (Some place) e);
  places = λ k place zs e m. ⊎_elim (λ here. at_label k place zs here.0 here.1 m) (λ old. elsewhere k place zs old m) (get-set_cases d.labels l k (Some (length d.code)) (Some place) e);
}
  where
    elsewhere : (k place : ℕ) (zs : OpenSet) → slice_get d.labels k ≡ Some (Some place) → IsMarked d k zs → open_at (arrived d.track l) place ≡ Some zs
    elsewhere k place zs old m =
        let le = t.inside k place old in
        open-arrived d.track l place xs zs (mark-read d l xs mark) fits (omega (arith, le, t.long)) (t.places k place zs old m)

    at_label : (k place : ℕ) (zs : OpenSet) → k ≡ l → Some (length d.code) ≡ Some place → IsMarked d k zs → open_at (arrived d.track l) place ≡ Some zs
    at_label k place zs same at m =
        let is : length d.code ≡ place = cc in
        open-now (arrived d.track l) place (sym is ∙ sym t.long) ∙ mark-read d l zs (subst (λ j. IsMarked d j zs) same m)

-- ---- registers and cursors

pub tracked_registers : (d : Draft) (next most cursors : ℕ) → d.cursors ≤ cursors → IsTracked d → IsTracked (record d { next = next; most = most; cursors = cursors })
tracked_registers d next most cursors le t = record {
  long = t.long;
  wide = t.wide;
  first = t.first;
  now = λ xs e c in_xs. let lt = t.now xs e c in_xs in omega arith;
  marks = λ l xs m c in_xs. let lt = t.marks l xs m c in_xs in omega arith;
  opens = λ k xs e c in_xs. let lt = t.opens k xs e c in_xs in omega arith;
  inside_unit = t.inside_unit;
  room = t.room;
  uses = t.uses;
  falls = t.falls;
  jumps = t.jumps;
  inside = t.inside;
  places = t.places;
}

-- ---- code that leaves open what it finds open

pub needs_none : (o : Op) (xs : OpenSet) → needs_of o ≡ [] → All (Meets xs) (needs_of o)
needs_none o xs none = subst (All (Meets xs)) (sym none) (met_none xs)

pub needs_one : (o : Op) (need : Need) (xs : OpenSet) → needs_of o ≡ need ∷ [] → Meets xs need → All (Meets xs) (needs_of o)
needs_one o need xs needs_is met = subst (All (Meets xs)) (sym needs_is) (met_one xs need met)

-- by where it leads it stays in its unit
pub stays_by : (o : Op) (w : Way) → way_of o ≡ w → StaysInside w → StaysInside (way_of o)
stays_by o w e stays = subst StaysInside (sym e) stays

eq-same : (n : ℕ) → nat_eq n n ≡ true
eq-same n = grind (arith)

eq-below : (x c : ℕ) → x < c → nat_eq x c ≡ false
eq-below x c lt = grind (arith)

-- labels that have places keep them
pub has-bound : (d : Draft) (l k : ℕ) → HasPlace d k → HasPlace (bound d l) k
has-bound d l k h = ⊎_elim (λ same. (length d.code, subst (λ n. slice_get (slice_set d.labels l (Some (length d.code))) n ≡ Some (Some (length d.code))) (sym same) (get-set d.labels l (Some (length d.code)) (omega (arith, same, slice_get_within d.labels k (Some h.0) h.1))))) (λ apart. (h.0, get-set_other d.labels l k (Some (length d.code)) (Some h.0) apart h.1)) (same_or_not k l)

pub place-bound : (d : Draft) (l : ℕ) → slice_get d.labels l ≡ Some None → HasPlace (bound d l) l
place-bound d l is_open = (length d.code, get-set d.labels l (Some (length d.code)) (slice_get_within d.labels l None is_open))

none_made : (d : Draft) (l k : ℕ) → length d.labels ≤ k → k < length (bound d l).labels → HasPlace (bound d l) k
none_made d l k le lt = absurd (omega (arith, le, lt, length-set d.labels l (Some (length d.code))))

made_in : {needs : List Need} {labels : List ℕ} {a b c : Draft} → Steady needs labels a b → Steady needs labels b c → (l : ℕ) → length a.labels ≤ l → l < length c.labels → HasPlace c l
made_in {needs} {labels} {a} {b} {c} x y l le lt =
    ⊎_elim (λ inside. y.keeps l (x.made l le inside)) (λ behind_b. y.made l behind_b lt) (cases_lt l (length b.labels))

pub st_none : (needs : List Need) (labels : List ℕ) (a : Draft) → Steady needs labels a a
st_none needs labels a = record { keeps = λ l h. h; made = λ l le lt. absurd (omega arith); stays = λ xs is met t marks. (is, t) }

pub st_then : {needs : List Need} {labels : List ℕ} {a b c : Draft} → Grows a b → Steady needs labels a b → Steady needs labels b c → Steady needs labels a c
st_then {needs} {labels} {a} {b} {c} g x y = record {
  keeps = λ l h. y.keeps l (x.keeps l h);
  made = λ l le lt. made_in x y l le lt;
  stays = λ xs is met t marks.
      let at = x.stays xs is met t marks in y.stays xs at.0 met at.1 (λ l among. g.marks l xs (marks l among));
}

-- the same where a label of the first gets its place in the second
pub st_on : {needs : List Need} {labels : List ℕ} {a b c : Draft} → ((l : ℕ) (xs : OpenSet) → IsMarked a l xs → IsMarked b l xs) → Steady needs labels a b → Steady needs labels b c → Steady needs labels a c
st_on {needs} {labels} {a} {b} {c} same x y = record {
  keeps = λ l h. y.keeps l (x.keeps l h);
  made = λ l le lt. made_in x y l le lt;
  stays = λ xs is met t marks.
      let at = x.stays xs is met t marks in y.stays xs at.0 met at.1 (λ l among. same l xs (marks l among));
}

-- out of which it may jump to more labels
pub st_more : {needs : List Need} {labels : List ℕ} {a b : Draft} (more : List ℕ) → ((l : ℕ) → Among labels l → Among more l) → Steady needs labels a b → Steady needs more a b
st_more {needs} {labels} {a} {b} more wider x = record { keeps = x.keeps; made = x.made; stays = λ xs is met t marks. x.stays xs is met t (λ l among. marks l (wider l among)) }

-- where more is so of cursors
pub st_wider : {more needs : List Need} {labels : List ℕ} {a b : Draft} → ((xs : OpenSet) → All (Meets xs) more → All (Meets xs) needs) → Steady needs labels a b → Steady more labels a b
st_wider {more} {needs} {labels} {a} {b} wider x = record { keeps = x.keeps; made = x.made; stays = λ xs is met t marks. x.stays xs is (wider xs met) t marks }

-- what does not jump out, where more is so of cursors
pub st_within : {more needs : List Need} {a b : Draft} (labels : List ℕ) → ((xs : OpenSet) → All (Meets xs) more → All (Meets xs) needs) → Steady needs [] a b → Steady more labels a b
st_within {more} {needs} {a} {b} labels wider x = record { keeps = x.keeps; made = x.made; stays = λ xs is met t marks. x.stays xs is (wider xs met) t (λ l none. absurd none) }

-- what needs no cursor from outside and does not jump out
pub st_inner : {a b : Draft} (needs : List Need) (labels : List ℕ) → Steady [] [] a b → Steady needs labels a b
st_inner needs labels x = st_within labels (λ xs met. met_none xs) x

-- an instruction that goes on, and needs no more than is so
pub st_reads : (needs : List Need) (labels : List ℕ) (d : Draft) (o : Op) → way_of o ≡ way.Continues → ((xs : OpenSet) → All (Meets xs) needs → All (Meets xs) (needs_of o)) → Steady needs labels d (with_op d o)
st_reads needs labels d o on has = record {
  keeps = λ l h. h;
  made = λ l le lt. absurd (omega arith);
  stays = λ xs is met t marks. (
    ap (λ w. behind w d.track.now) on ∙ is,
    tracked_op d o xs t is (stays_by o way.Continues on tt) (has xs met) (λ l e. let wrong : None ≡ Some l = sym (ap target_of on) ∙ e in cc) (λ ys e. t.now ys (is ∙ ap (λ w. behind w (Some xs)) (sym on) ∙ e)),
  );
}

-- the same of one that jumps, or goes on
pub st_fork_reads : (needs : List Need) (labels : List ℕ) (d : Draft) (o : Op) (l : ℕ) → way_of o ≡ way.Forks l → ((xs : OpenSet) → All (Meets xs) needs → All (Meets xs) (needs_of o)) → Among labels l → Steady needs labels d (with_op d o)
st_fork_reads needs labels d o l on has among = record {
  keeps = λ l h. h;
  made = λ l le lt. absurd (omega arith);
  stays = λ xs is met t marks. (
    ap (λ w. behind w d.track.now) on ∙ is,
    tracked_op d o xs t is (stays_by o (way.Forks l) on tt) (has xs met) (λ k e. let same : Some l ≡ Some k = sym (ap target_of on) ∙ e in subst (λ j. IsMarked d j xs) (cc) (marks l among)) (λ ys e. t.now ys (is ∙ ap (λ w. behind w (Some xs)) (sym on) ∙ e)),
  );
}

-- an instruction that goes on and needs no cursor
pub st_op : (needs : List Need) (labels : List ℕ) (d : Draft) (o : Op) → GoesOn o → Steady needs labels d (with_op d o)
st_op needs labels d o (on, none) = st_reads needs labels d o on (λ xs met. needs_none o xs none)

-- one that jumps, or goes on
pub st_fork : (needs : List Need) (labels : List ℕ) (d : Draft) (o : Op) (l : ℕ) → way_of o ≡ way.Forks l → needs_of o ≡ [] → Among labels l → Steady needs labels d (with_op d o)
st_fork needs labels d o l on none among =
    st_fork_reads needs labels d o l on (λ xs met. needs_none o xs none) among

-- one that goes on and needs one thing, which is among those that are so
pub st_use : (needs : List Need) (labels : List ℕ) (d : Draft) (o : Op) (own : Need) → way_of o ≡ way.Continues → needs_of o ≡ own ∷ [] → Contains needs own → Steady needs labels d (with_op d o)
st_use needs labels d o own on needs_is inside =
    st_reads needs labels d o on (λ xs met. needs_one o own xs needs_is (met_among xs needs own inside met))

-- the same of one that jumps, or goes on
pub st_fork_use : (needs : List Need) (labels : List ℕ) (d : Draft) (o : Op) (l : ℕ) (own : Need) → way_of o ≡ way.Forks l → needs_of o ≡ own ∷ [] → Contains needs own → Among labels l → Steady needs labels d (with_op d o)
st_fork_use needs labels d o l own on needs_is inside among =
    st_fork_reads needs labels d o l on (λ xs met. needs_one o own xs needs_is (met_among xs needs own inside met)) among

pub st_registers : (needs : List Need) (labels : List ℕ) (d : Draft) (next most cursors : ℕ) → d.cursors ≤ cursors → Steady needs labels d (record d { next = next; most = most; cursors = cursors })
st_registers needs labels d next most cursors le = record {
  keeps = λ l h. h;
  made = λ l le lt. absurd (omega arith);
  stays = λ xs is met t marks. (is, tracked_registers d next most cursors le t);
}

pub st_taken : (needs : List Need) (labels : List ℕ) (d : Draft) → Steady needs labels d (taken d)
st_taken needs labels d = st_registers needs labels d (d.next + 1) (max d.most (d.next + 1)) d.cursors (omega arith)

pub st_given_back : (needs : List Need) (labels : List ℕ) (d : Draft) → Steady needs labels d (given_back d)
st_given_back needs labels d = st_registers needs labels d (d.next - 1) d.most d.cursors (omega arith)

pub st_released : (needs : List Need) (labels : List ℕ) (d : Draft) (n : ℕ) → Steady needs labels d (released d n)
st_released needs labels d n = st_registers needs labels d n d.most d.cursors (omega arith)

pub st_cursor : (needs : List Need) (labels : List ℕ) (d : Draft) → Steady needs labels d (with_cursor d)
st_cursor needs labels d = st_registers needs labels d d.next d.most (d.cursors + 1) (omega arith)

-- a jump, and the place of another label behind it
pub st_goto : (needs : List Need) (labels : List ℕ) (d : Draft) (to next : ℕ) → Among labels to → Among labels next → Steady needs labels d (bound (with_op d (Goto to)) next)
st_goto needs labels d to next among_to among_next = record {
  keeps = λ l h. has-bound (with_op d (Goto to)) next l h;
  made = λ l le lt. none_made (with_op d (Goto to)) next l le lt;
  stays = λ xs is met t marks. (
    mark-read d next xs (marks next among_next),
    tracked_bound (with_op d (Goto to)) next xs (tracked_op d (Goto to) xs t is tt (needs_none (Goto to) xs refl) (λ l e. subst (λ j. IsMarked d j xs) (cc) (marks to among_to)) (λ ys e. cc)) (marks next among_next) (inr refl),
  );
}

-- an instruction that leaves the unit, and the place of a label behind it
pub st_leave : (needs : List Need) (labels : List ℕ) (d : Draft) (o : Op) (next : ℕ) → way_of o ≡ way.Leaves → needs_of o ≡ [] → Among labels next → Steady needs labels d (bound (with_op d o) next)
st_leave needs labels d o next on none among = record {
  keeps = λ l h. has-bound (with_op d o) next l h;
  made = λ l le lt. none_made (with_op d o) next l le lt;
  stays = λ xs is met t marks. (
    mark-read d next xs (marks next among),
    tracked_bound (with_op d o) next xs (tracked_op d o xs t is (stays_by o way.Leaves on tt) (needs_none o xs none) (λ l e. let wrong : None ≡ Some l = sym (ap target_of on) ∙ e in cc) (λ ys e. let wrong : None ≡ Some ys = sym (ap (λ w. behind w (Some xs)) on) ∙ e in cc)) (marks next among) (inr (ap (λ w. behind w d.track.now) on)),
  );
}

-- a label of its own is marked with what is open where it is made
pub mark-new : (a : Draft) (l : ℕ) (xs : OpenSet) → IsTracked a → a.track.now ≡ Some xs → l ≡ length a.labels → IsMarked (with_label a) l xs
mark-new a l xs t is l_is =
    ap (slice_get (a.track.marks ++ a.track.now ∷ [])) (l_is ∙ sym t.wide) ∙ get-last a.track.marks a.track.now ∙ ap Some is

pub st_made : {needs : List Need} {labels : List ℕ} {a b : Draft} (l : ℕ) → l ≡ length a.labels → HasPlace b l → Steady needs (l ∷ labels) (with_label a) b → Steady needs labels a b
st_made {needs} {labels} {a} {b} l l_is has x = record {
  keeps = λ k h. x.keeps k (h.0, get-append a.labels (None ∷ []) k (Some h.0) h.1);
  made = λ k le lt. ⊎_elim (λ more. x.made k (omega (arith, more, l_is, length-append a.labels (None ∷ []))) lt) (λ same. subst (HasPlace b) (omega (arith, same, le, l_is)) has) (cases_lt l k);
  stays = λ xs is met t marks. x.stays xs is met (tracked_label a t) (λ k among. ⊎_elim (λ same. subst (λ j. IsMarked (with_label a) j xs) same (mark-new a l xs t is l_is)) (λ old. (g_label a).marks k xs (marks k old)) among);
}

-- a label gets its place where code goes on
pub st_bind : (needs : List Need) (labels : List ℕ) (d : Draft) (l : ℕ) → Among labels l → Steady needs labels d (bound d l)
st_bind needs labels d l among = record {
  keeps = λ k h. has-bound d l k h;
  made = λ k le lt. none_made d l k le lt;
  stays = λ xs is met t marks. (mark-read d l xs (marks l among), tracked_bound d l xs t (marks l among) (inl is));
}

-- a label of its own gets its place at the end
pub st_label : {needs : List Need} {labels : List ℕ} {a b : Draft} (l : ℕ) → l ≡ length a.labels → Grows (with_label a) b → Steady needs (l ∷ labels) (with_label a) b → Steady needs labels a (bound b l)
st_label {needs} {labels} {a} {b} l l_is g x = st_made l l_is (place-bound b l (g.open_labels l (subst (λ n. slice_get (with_label a).labels n ≡ Some None) (sym l_is) (open_new a)))) (st_then g x (st_bind needs (l ∷ labels) b l (inl refl)))

-- ---- cursors of its own

contains-head : (x : OpenCursor) (xs : OpenSet) → Contains (x ∷ xs) x
contains-head x xs = (0, omega arith, refl)

contains-tail : (x y : OpenCursor) (xs : OpenSet) → Contains xs y → Contains (x ∷ xs) y
contains-tail x y xs h = (suc h.0, omega (arith, h.1), h.2)

below-tail : {n : ℕ} {x : OpenCursor} (xs : OpenSet) → AreBelow n (x ∷ xs) → AreBelow n xs
below-tail {n} {x} xs below y h = below y (contains-tail x y xs h)

-- what is below a number is kept
pub closed_from-same : (n : ℕ) (xs : OpenSet) → AreBelow n xs → closed_from n xs ≡ xs
closed_from-same n [] below = refl
closed_from-same n (x ∷ xs) below =
    ap (λ b. cond b (x ∷ closed_from n xs) (closed_from n xs)) (lt-ltb x.cursor n (below x (contains-head x xs)))
    ∙ ap (λ l. x ∷ l) (closed_from-same n xs (below-tail xs below))

-- what is not there is not left out
closed-same : (c : ℕ) (xs : OpenSet) → AreBelow c xs → closed c xs ≡ xs
closed-same c [] below = refl
closed-same c (x ∷ xs) below =
    ap (λ b. cond (not b) (x ∷ closed c xs) (closed c xs)) (eq-below x.cursor c (below x (contains-head x xs)))
    ∙ ap (λ l. x ∷ l) (closed-same c xs (below-tail xs below))

-- a cursor of its own comes behind the others
pub opened-new : (x : OpenCursor) (xs : OpenSet) → AreBelow x.cursor xs → opened x xs ≡ xs ++ x ∷ []
opened-new x xs below = ap (λ l. l ++ x ∷ []) (closed-same x.cursor xs below)

closed-last : (x : OpenCursor) (xs : OpenSet) → AreBelow x.cursor xs → closed x.cursor (xs ++ x ∷ []) ≡ xs
closed-last x [] below = ap (λ b. cond (not b) (x ∷ []) []) (eq-same x.cursor)
closed-last x (y ∷ xs) below =
    ap (λ b. cond (not b) (y ∷ closed x.cursor (xs ++ x ∷ [])) (closed x.cursor (xs ++ x ∷ []))) (eq-below y.cursor x.cursor (below y (contains-head y xs)))
    ∙ ap (λ l. y ∷ l) (closed-last x xs (below-tail xs below))

-- one that is opened and closed is as if it had never been
pub closed-opened : (x : OpenCursor) (xs : OpenSet) → AreBelow x.cursor xs → closed x.cursor (opened x xs) ≡ xs
closed-opened x xs below = ap (closed x.cursor) (opened-new x xs below) ∙ closed-last x xs below

-- what is open from the cursors of the first draft on is closed, which is nothing
pub st_close_from : {needs : List Need} {labels : List ℕ} {a b : Draft} → Steady needs labels a b → Steady needs labels a (with_op b (CloseFrom a.cursors))
st_close_from {needs} {labels} {a} {b} x = record {
  keeps = x.keeps;
  made = x.made;
  stays = λ xs is met t marks.
      let at = x.stays xs is met t marks in
      let same = closed_from-same a.cursors xs (t.now xs is) in (
        ap (behind (way.ClosesFrom a.cursors)) at.0 ∙ ap Some same,
        tracked_op b (CloseFrom a.cursors) xs at.1 at.0 tt (needs_none (CloseFrom a.cursors) xs refl) (λ l e. cc) (λ ys e. at.1.now ys (at.0 ∙ ap Some (sym same) ∙ e)),
      );
}

-- ---- cursors that are opened and closed

below-opened : (x : OpenCursor) (xs : OpenSet) → AreBelow x.cursor xs → AreBelow (x.cursor + 1) (opened x xs)
below-opened x xs below y h =
    ⊎_elim (λ old. let lt = below y old in omega arith) (λ same. let is : x.cursor ≡ y.cursor = ap (λ (v : OpenCursor). v.cursor) same in omega (arith, is)) (Contains-push_cases xs x y (subst (λ (l : OpenSet). Contains l y) (opened-new x xs below) h))

-- what was so of cursors is so with one more open
met-more_open : (x : OpenCursor) (xs : OpenSet) (n : Need) → Meets xs n → Meets (xs ++ x ∷ []) n
met-more_open x xs (need.Open c) met = (met.0, Contains-append_left xs (x ∷ []) (on met.0 c) met.1)
met-more_open x xs (need.Table c) met = Contains-append_left xs (x ∷ []) (on Table c) met
met-more_open x xs (need.Rows c) met =
    ⊎_elim (λ table. inl (Contains-append_left xs (x ∷ []) (on Table c) table)) (λ row. inr (Contains-append_left xs (x ∷ []) (on Row c) row)) met
met-more_open x xs (need.Sorter c) met = Contains-append_left xs (x ∷ []) (on Sorter c) met

met-opened : (x : OpenCursor) (xs : OpenSet) → AreBelow x.cursor xs → (n : Need) → Meets xs n → Meets (opened x xs) n
met-opened x xs below n met =
    subst (λ (l : OpenSet). Meets l n) (sym (opened-new x xs below)) (met-more_open x xs n met)

-- what an instruction needs of a cursor that is open on what is of a kind, where the cursor moves or rows are read
abbrev pub own_need : CursorKind → ℕ → Need
own_need Table c = need.Table c
own_need Row c = need.Rows c
own_need Sorter c = need.Sorter c

own-met : (kind : CursorKind) (c : ℕ) (xs : OpenSet) → Meets (opened (on kind c) xs) (own_need kind c)
own-met Table c xs = Contains-push (closed c xs) (on Table c)
own-met Row c xs = inr (Contains-push (closed c xs) (on Row c))
own-met Sorter c xs = Contains-push (closed c xs) (on Sorter c)

-- a cursor of its own is opened, and closed behind code that may use it
module _ (a y : Draft) (open_op close_op : Op) (kind : CursorKind) (needs : List Need) (opens : way_of open_op ≡ way.Opens (on kind a.cursors)) (opens_needs : needs_of open_op ≡ []) (closes : way_of close_op ≡ way.Closes a.cursors) (closes_needs : needs_of close_op ≡ need.Open a.cursors ∷ []) (wide : a.cursors + 1 ≤ y.cursors) (body : Steady (own_need kind a.cursors ∷ needs) [] (with_op (with_cursor a) open_op) y) where
  abbrev c : OpenCursor
  c = on kind a.cursors

  abbrev reading : Draft
  reading = with_op (with_cursor a) open_op

  stays_in : (xs : OpenSet) → a.track.now ≡ Some xs → All (Meets xs) needs → IsTracked a → ((with_op y close_op).track.now ≡ Some xs) × IsTracked (with_op y close_op)
  stays_in xs is met t = (
    ap (λ w. behind w y.track.now) closes ∙ ap (behind (way.Closes a.cursors)) body_now.0 ∙ ap Some back,
    tracked_op y close_op ys body_now.1 body_now.0 (stays_by close_op (way.Closes a.cursors) closes tt) (needs_one close_op (need.Open a.cursors) ys closes_needs (kind, Contains-push (closed a.cursors xs) c)) (λ l e. let wrong : None ≡ Some l = sym (ap target_of closes) ∙ e in cc) (λ zs e k h. let lt = t.now xs is k (subst (λ (v : OpenSet). Contains v k) (sym (left zs e)) h) in omega (arith, lt, wide)),
  )
    where
      ys : OpenSet
      ys = opened c xs

      back : closed a.cursors ys ≡ xs
      back = closed-opened c xs (t.now xs is)

      left : (zs : OpenSet) → behind (way_of close_op) (Some ys) ≡ Some zs → xs ≡ zs
      left zs e = let same : Some (closed a.cursors ys) ≡ Some zs = sym (ap (λ w. behind w (Some ys)) closes) ∙ e in sym back ∙ cc

      opened_now : behind (way_of open_op) (Some xs) ≡ Some ys
      opened_now = ap (λ w. behind w (Some xs)) opens

      read : IsTracked reading
      read = tracked_op (with_cursor a) open_op xs (tracked_registers a a.next a.most (a.cursors + 1) (omega arith) t) is (stays_by open_op (way.Opens c) opens tt) (needs_none open_op xs opens_needs) (λ l e. let wrong : None ≡ Some l = sym (ap target_of opens) ∙ e in cc) (λ zs e. let same : Some ys ≡ Some zs = sym opened_now ∙ e in subst (AreBelow (a.cursors + 1)) (cc) (below-opened c xs (t.now xs is)))

      body_met : All (Meets ys) (own_need kind a.cursors ∷ needs)
      body_met =
          met_more ys (own_need kind a.cursors) needs (own-met kind a.cursors xs) (All-weaker (Meets xs) (Meets ys) (λ n m. met-opened c xs (t.now xs is) n m) needs met)

      body_now : (y.track.now ≡ Some ys) × IsTracked y
      body_now = body.stays ys (ap (behind (way_of open_op)) is ∙ opened_now) body_met read (λ l none. absurd none)

  pub st_opened : (labels : List ℕ) → Steady needs labels a (with_op y close_op)
  st_opened labels = record { keeps = body.keeps; made = body.made; stays = λ xs is met t marks. stays_in xs is met t }

-- a loop: the cursor is opened, comes to its first row if it has one, goes on from row to row, and is closed; with the code of a row between, which finds it open
module _ (a y : Draft) (open_op first_op next_op close_op : Op) (kind : CursorKind) (needs : List Need) (end top : ℕ) (opens : way_of open_op ≡ way.Opens (on kind a.cursors)) (opens_needs : needs_of open_op ≡ []) (begins : way_of first_op ≡ way.Forks end) (begins_needs : needs_of first_op ≡ own_need kind a.cursors ∷ []) (goes : way_of next_op ≡ way.Forks top) (goes_needs : needs_of next_op ≡ own_need kind a.cursors ∷ []) (closes : way_of close_op ≡ way.Closes a.cursors) (closes_needs : needs_of close_op ≡ need.Open a.cursors ∷ []) (end_is : end ≡ length a.labels) (top_is : top ≡ length (with_label a).labels) where
  abbrev labelled : Draft
  labelled = with_label (with_label (with_op (with_cursor a) open_op))

  abbrev at_first : Draft
  at_first = with_op labelled first_op

  abbrev at_row : Draft
  at_row = bound at_first top

  abbrev at_next : Draft
  at_next = with_op y next_op

  abbrev own : List Need
  own = own_need kind a.cursors ∷ needs

  abbrev inside : List ℕ
  inside = top ∷ end ∷ []

  pub st_loop : (labels : List ℕ) → Grows at_row y → Steady own [] at_row y → Steady needs labels a (with_op (bound at_next end) close_op)
  st_loop labels grows row =
      st_opened a (bound at_next end) open_op close_op kind needs opens opens_needs closes closes_needs (omega (arith, grows.cursors)) body labels
    where
      used : Contains own (own_need kind a.cursors)
      used = (0, omega arith, refl)

      end_apart : end ≢ top
      end_apart = λ same. absurd (omega (arith, same, end_is, top_is, length-append a.labels (None ∷ [])))

      top_open : slice_get at_first.labels top ≡ Some None
      top_open = subst (λ n. slice_get (with_label (with_label a)).labels n ≡ Some None) (sym top_is) (open_new (with_label a))

      end_open : slice_get at_row.labels end ≡ Some None
      end_open =
          open_other at_first top end end_apart (open_old (with_label a) end (subst (λ n. slice_get (with_label a).labels n ≡ Some None) (sym end_is) (open_new a)))

      top_place : HasPlace (bound at_next end) top
      top_place = has-bound at_next end top (row.keeps top (place-bound at_first top top_open))

      turns : Steady own inside labelled (bound at_next end)
      turns =
          st_then (g_op labelled first_op) (st_fork_use own inside labelled first_op end (own_need kind a.cursors) begins begins_needs used (inr (inl refl))) (st_on (λ l xs m. m) (st_bind own inside at_first top (inl refl)) (st_then grows (st_within inside (λ xs met. met) row) (st_then (g_op y next_op) (st_fork_use own inside y next_op top (own_need kind a.cursors) goes goes_needs used (inl refl)) (st_bind own inside at_next end (inr (inl refl))))))

      body : Steady own [] (with_op (with_cursor a) open_op) (bound at_next end)
      body =
          st_made end end_is (place-bound at_next end (grows.open_labels end end_open)) (st_made top top_is top_place turns)
