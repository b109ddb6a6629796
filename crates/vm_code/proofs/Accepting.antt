-- From the code of a main unit to a program that keeps the rules.
use Rattle.std.proofs.Common.{◌≡◌, ℕ, ◌+◌, ◌≤◌, ◌<◌, List, [], ◌∷◌, length, All, Option, Some, None, refl, sym, ap, ◌∙◌, subst, arith, ⊎_elim}
use Rattle.std.specs.Prelude.{slice_get}
use Rattle.std.specs.Option.{option_map}
use Rattle.std.proofs.lemmas.Bool.{cases_lt}
use Rattle.std.proofs.lemmas.Option.{slice_get_within, slice_get-get_or, slice_get-map}
use Rattle.std.proofs.lemmas.List.{get_or_append_left, length-map}
use Rattle.vm_code.specs.declared.op.Op.{Op}
use Rattle.vm_code.specs.declared.op.Op.TheVariants as op
use Rattle.vm_code.specs.declared.program.Program.{Program}
use Rattle.vm_code.specs.declared.program.Unit as unit_type
use Rattle.vm_code.specs.declared.program.UnitKind.{UnitKind}
use Rattle.vm_code.specs.declared.program.UnitKind.TheVariants.{Called, Main}
use Rattle.vm_code.specs.declared.way.Way.{Way}
use Rattle.vm_code.specs.declared.way.Way.TheVariants as way
use Rattle.vm_code.specs.Track.{Meets, OpenSet, way_of, needs_of, spans_of, room_for, behind, target_of, open_at}
use Rattle.vm_code.specs.Draft.{Draft, begun, with_op}
use Rattle.vm_code.specs.Tracked.{AreBelow, HasPlace, IsTracked, StaysInside, Steady}
use Rattle.vm_code.specs.Accepted.{IsAccepted, UnitFits, UnitsFit}
use Rattle.vm_code.specs.Frames.{placed, place_in, place_or, IsFinished, IsProgramOf}
use Rattle.vm_code.proofs.Meeting.{met_none}
use Rattle.vm_code.proofs.Tracks.{needs_none, open-now, stays_by, tracked_op}

-- ---- instructions with places in the stead of labels

abbrev at_way : (ℕ → ℕ) → Way → Way
at_way at (way.Forks l) = way.Forks (at l)
at_way at (way.Jumps l) = way.Jumps (at l)
at_way at other = other

-- where it leads, what it needs and which registers it names
pub record SameBut (at : ℕ → ℕ) (o : Op) : Type 0 where
  pub leads : way_of (placed at o) ≡ at_way at (way_of o)
  pub needs : needs_of (placed at o) ≡ needs_of o
  pub spans : spans_of (placed at o) ≡ spans_of o

placed-way : (at : ℕ → ℕ) (o : Op) → SameBut at o
placed-way at (op.Goto target) = record { leads = refl; needs = refl; spans = refl }
placed-way at (op.If r target on_null) = record { leads = refl; needs = refl; spans = refl }
placed-way at (op.IfNot r target on_null) = record { leads = refl; needs = refl; spans = refl }
placed-way at (op.IsNull r target) = record { leads = refl; needs = refl; spans = refl }
placed-way at (op.NotNull r target) = record { leads = refl; needs = refl; spans = refl }
placed-way at (op.IsBad r target) = record { leads = refl; needs = refl; spans = refl }
placed-way at op.Halt = record { leads = refl; needs = refl; spans = refl }
placed-way at (op.HaltBad r) = record { leads = refl; needs = refl; spans = refl }
placed-way at (op.Call u first n to) = record { leads = refl; needs = refl; spans = refl }
placed-way at (op.Ret first n) = record { leads = refl; needs = refl; spans = refl }
placed-way at (op.Argument k to) = record { leads = refl; needs = refl; spans = refl }
placed-way at (op.ResultRow first n) = record { leads = refl; needs = refl; spans = refl }
placed-way at (op.Null to) = record { leads = refl; needs = refl; spans = refl }
placed-way at (op.Integer n to) = record { leads = refl; needs = refl; spans = refl }
placed-way at (op.String8 text to) = record { leads = refl; needs = refl; spans = refl }
placed-way at (op.Blob bytes to) = record { leads = refl; needs = refl; spans = refl }
placed-way at (op.Bad cause to) = record { leads = refl; needs = refl; spans = refl }
placed-way at (op.Variable k to) = record { leads = refl; needs = refl; spans = refl }
placed-way at (op.Copy from to) = record { leads = refl; needs = refl; spans = refl }
placed-way at (op.Affinity r affinity) = record { leads = refl; needs = refl; spans = refl }
placed-way at (op.Beside r other own) = record { leads = refl; needs = refl; spans = refl }
placed-way at (op.MustBeInt r) = record { leads = refl; needs = refl; spans = refl }
placed-way at (op.Unary o a to) = record { leads = refl; needs = refl; spans = refl }
placed-way at (op.Binary o a b to) = record { leads = refl; needs = refl; spans = refl }
placed-way at (op.LikeEscaped a b c to) = record { leads = refl; needs = refl; spans = refl }
placed-way at (op.Function f collation args to) = record { leads = refl; needs = refl; spans = refl }
placed-way at (op.Merge from to) = record { leads = refl; needs = refl; spans = refl }
placed-way at (op.OpenRead c table) = record { leads = refl; needs = refl; spans = refl }
placed-way at (op.OpenWrite c table) = record { leads = refl; needs = refl; spans = refl }
placed-way at (op.RowOf c rowid first n) = record { leads = refl; needs = refl; spans = refl }
placed-way at (op.Close c) = record { leads = refl; needs = refl; spans = refl }
placed-way at (op.CloseFrom c) = record { leads = refl; needs = refl; spans = refl }
placed-way at (op.Rewind c target) = record { leads = refl; needs = refl; spans = refl }
placed-way at (op.Next c target) = record { leads = refl; needs = refl; spans = refl }
placed-way at (op.Search c terms bounds first target) = record { leads = refl; needs = refl; spans = refl }
placed-way at (op.SeekRowid c rowid) = record { leads = refl; needs = refl; spans = refl }
placed-way at (op.SorterOpen c) = record { leads = refl; needs = refl; spans = refl }
placed-way at (op.SorterInsert first n) = record { leads = refl; needs = refl; spans = refl }
placed-way at (op.SorterSort c terms target) = record { leads = refl; needs = refl; spans = refl }
placed-way at (op.SorterData c first n) = record { leads = refl; needs = refl; spans = refl }
placed-way at (op.SorterNext c target) = record { leads = refl; needs = refl; spans = refl }
placed-way at (op.Column c k to) = record { leads = refl; needs = refl; spans = refl }
placed-way at (op.Rowid c to) = record { leads = refl; needs = refl; spans = refl }
placed-way at (op.NotExists c rowid target) = record { leads = refl; needs = refl; spans = refl }
placed-way at (op.NoConflict c rowid first n keys target) = record { leads = refl; needs = refl; spans = refl }
placed-way at (op.NewRowid c to table) = record { leads = refl; needs = refl; spans = refl }
placed-way at (op.Insert c rowid first n) = record { leads = refl; needs = refl; spans = refl }
placed-way at (op.BuildIndex c terms unique) = record { leads = refl; needs = refl; spans = refl }
placed-way at (op.Schema change) = record { leads = refl; needs = refl; spans = refl }

behind-at : (at : ℕ → ℕ) (w : Way) (now : Option OpenSet) → behind (at_way at w) now ≡ behind w now
behind-at at way.Continues now = refl
behind-at at (way.Opens c) now = refl
behind-at at (way.Closes c) now = refl
behind-at at (way.ClosesFrom c) now = refl
behind-at at (way.Forks l) now = refl
behind-at at (way.Jumps l) now = refl
behind-at at (way.Calls u n to) now = refl
behind-at at way.Leaves now = refl
behind-at at (way.Returns n) now = refl

target-at : (at : ℕ → ℕ) (w : Way) (place : ℕ) → target_of (at_way at w) ≡ Some place → (l : ℕ) × (target_of w ≡ Some l) × (at l ≡ place)
target-at at way.Continues place e = cc
target-at at (way.Opens c) place e = cc
target-at at (way.Closes c) place e = cc
target-at at (way.ClosesFrom c) place e = cc
target-at at (way.Forks l) place e = (l, refl, cc)
target-at at (way.Jumps l) place e = (l, refl, cc)
target-at at (way.Calls u n to) place e = cc
target-at at way.Leaves place e = cc
target-at at (way.Returns n) place e = cc

stays-at : (at : ℕ → ℕ) (w : Way) → StaysInside w → StaysInside (at_way at w)
stays-at at way.Continues stays = tt
stays-at at (way.Opens c) stays = tt
stays-at at (way.Closes c) stays = tt
stays-at at (way.ClosesFrom c) stays = tt
stays-at at (way.Forks l) stays = tt
stays-at at (way.Jumps l) stays = tt
stays-at at (way.Calls u n to) stays = absurd stays
stays-at at way.Leaves stays = tt
stays-at at (way.Returns n) stays = absurd stays

-- what stays in its unit needs no other
fits-inside : (p : Program) (x : unit_type.Unit) (w : Way) → StaysInside w → UnitsFit p x w
fits-inside p x way.Continues stays = tt
fits-inside p x (way.Opens c) stays = tt
fits-inside p x (way.Closes c) stays = tt
fits-inside p x (way.ClosesFrom c) stays = tt
fits-inside p x (way.Forks l) stays = tt
fits-inside p x (way.Jumps l) stays = tt
fits-inside p x (way.Calls u n to) stays = absurd stays
fits-inside p x way.Leaves stays = tt
fits-inside p x (way.Returns n) stays = absurd stays

-- ---- a draft that was finished

mapped : (f : Op → Op) (o : Option Op) (p : Op) → option_map f o ≡ Some p → (q : Op) × (o ≡ Some q) × (f q ≡ p)
mapped f None p e = cc
mapped f (Some q) p e = (q, refl, cc)

module _ (kind : UnitKind) (arguments results : ℕ) (d : Draft) (p : Program) (x : unit_type.Unit) (t : IsTracked d) (ended : d.track.now ≡ None) (complete : (l : ℕ) → l < length d.labels → HasPlace d l) (is : IsFinished kind arguments results d x) where
  abbrev at : ℕ → ℕ
  at = place_in d.labels

  -- the instruction of the draft that one of the unit is
  source : (k : ℕ) (p : Op) → slice_get x.code k ≡ Some p → (o : Op) × (slice_get d.code k ≡ Some o) × (placed at o ≡ p)
  source k p e =
      mapped (placed at) (slice_get d.code k) p (sym (slice_get-map (placed at) d.code k) ∙ ap (λ l. slice_get l k) (sym is.code) ∙ e)

  -- what is open at a place stands at an instruction
  stands : (place : ℕ) (ys : OpenSet) → place ≤ length d.track.opens → open_at d.track place ≡ Some ys → slice_get d.track.opens place ≡ Some (Some ys)
  stands place ys le e = ⊎_elim inside last (cases_lt place (length d.track.opens))
    where
      inside : place < length d.track.opens → slice_get d.track.opens place ≡ Some (Some ys)
      inside lt =
          slice_get-get_or d.track.opens place None lt
          ∙ ap Some (sym (get_or_append_left d.track.opens (d.track.now ∷ []) None place lt) ∙ e)

      last : length d.track.opens ≤ place → slice_get d.track.opens place ≡ Some (Some ys)
      last ge =
          let wrong : None ≡ Some ys = sym ended ∙ sym (open-now d.track place (omega (arith, ge, le))) ∙ e in cc

  jumps_to : (k : ℕ) (o : Op) (xs : OpenSet) (place : ℕ) → slice_get d.code k ≡ Some o → slice_get d.track.opens k ≡ Some (Some xs) → target_of (at_way at (way_of o)) ≡ Some place → slice_get d.track.opens place ≡ Some (Some xs)
  jumps_to k o xs place e open_k to =
      let label = target-at at (way_of o) place to in
      let mark = t.jumps k o xs label.0 (e, open_k) label.1 in
      let known = complete label.0 (omega (arith, slice_get_within d.track.marks label.0 (Some xs) mark, t.wide)) in
      let place_is : known.0 ≡ place = sym (ap place_or known.1) ∙ label.2 in
      subst (λ n. slice_get d.track.opens n ≡ Some (Some xs)) place_is (stands known.0 xs (omega (arith, t.inside label.0 known.0 known.1, t.long)) (t.places label.0 known.0 xs known.1 mark))

  -- what is open at an instruction of the unit is what was open there under construction
  opens_is : (k : ℕ) (xs : OpenSet) → slice_get x.sets k ≡ Some (Some xs) → slice_get d.track.opens k ≡ Some (Some xs)
  opens_is k xs e = ap (λ l. slice_get l k) (sym is.sets) ∙ e

  was_open : (k : ℕ) (xs : OpenSet) → slice_get d.track.opens k ≡ Some (Some xs) → slice_get x.sets k ≡ Some (Some xs)
  was_open k xs e = ap (λ l. slice_get l k) is.sets ∙ e

  -- and all of them are cursors of the draft
  below-open : (k : ℕ) (xs : OpenSet) → slice_get d.track.opens k ≡ Some (Some xs) → AreBelow d.cursors xs
  below-open k xs e = t.opens k xs e

  has_room : (k : ℕ) (q : Op) → slice_get x.code k ≡ Some q → room_for (spans_of q) ≤ x.registers
  has_room k q e =
      let o = source k q e in
      let le = t.room k o.0 o.1 in
      let same : room_for (spans_of q) ≡ room_for (spans_of o.0) = ap (λ q. room_for (spans_of q)) (sym o.2) ∙ ap room_for (placed-way at o.0).spans in
      omega (arith, le, same, is.registers)

  stays_in_unit : (k : ℕ) (q : Op) → slice_get x.code k ≡ Some q → UnitsFit p x (way_of q)
  stays_in_unit k q e =
      let o = source k q e in
      let leads : at_way at (way_of o.0) ≡ way_of q = sym (placed-way at o.0).leads ∙ ap way_of o.2 in
      fits-inside p x (way_of q) (subst StaysInside leads (stays-at at (way_of o.0) (t.inside_unit k o.0 o.1)))

  pub fits_finished : UnitFits p x
  fits_finished = record {
    long = ap length is.sets ∙ t.long ∙ sym (ap length is.code ∙ length-map d.code (placed at));
    first = was_open 0 [] (stands 0 [] (omega arith) t.first);
    registers = has_room;
    cursors = λ k xs e. subst (λ n. AreBelow n xs) (sym is.cursors) (below-open k xs (opens_is k xs e));
    units = stays_in_unit;
    uses = λ k q xs e open_k.
        let o = source k q e in
        subst (λ q. All (Meets xs) (needs_of q)) o.2 (subst (All (Meets xs)) (sym (placed-way at o.0).needs) (t.uses k o.0 xs (o.1, opens_is k xs open_k)));
    falls = λ k q xs ys e open_k behind_is.
        let o = source k q e in
        let same : behind (way_of o.0) (Some xs) ≡ Some ys = sym (behind-at at (way_of o.0) (Some xs)) ∙ ap (λ w. behind w (Some xs)) (sym (placed-way at o.0).leads) ∙ ap (λ q. behind (way_of q) (Some xs)) o.2 ∙ behind_is in
        let lt = slice_get_within d.code k o.0 o.1 in
        was_open (k + 1) ys (stands (k + 1) ys (omega (arith, lt, t.long)) (t.falls k o.0 xs ys (o.1, opens_is k xs open_k) same));
    jumps = λ k q xs place e open_k to.
        let o = source k q e in
        was_open place xs (jumps_to k o.0 xs place o.1 (opens_is k xs open_k) (ap target_of (sym (placed-way at o.0).leads) ∙ ap (λ q. target_of (way_of q)) o.2 ∙ to));
  }

-- ---- whole units

pub tracked_begun : (units : List (Option unit_type.Unit)) → IsTracked (begun units)
tracked_begun units = record {
  long = refl;
  wide = refl;
  first = refl;
  now = λ xs e c h. let none : [] ≡ xs = cc in let lt = h.1 in absurd (omega (arith, lt, ap length none));
  marks = λ l xs m. cc;
  opens = λ k xs e. cc;
  inside_unit = λ k o e. cc;
  room = λ k o e. cc;
  uses = λ k o xs r. let none = r.0 in cc;
  falls = λ k o xs ys r e. let none = r.0 in cc;
  jumps = λ k o xs l r e. let none = r.0 in cc;
  inside = λ l place e. cc;
  places = λ l place xs e m. cc;
}

-- code from the start of a main unit that no other stands beside, and an instruction that leaves it
pub accepted_of : (units : List (Option unit_type.Unit)) (d : Draft) (o : Op) (p : Program) → Steady [] [] (begun units) d → d.units ≡ [] → way_of o ≡ way.Leaves → needs_of o ≡ [] → IsProgramOf (with_op d o) p → IsAccepted p
accepted_of units d o p x alone leaves none is = record {
  main = is.finished.kind_is;
  main_fits = fits_finished Main 0 0 (with_op d o) p p.main tracked (ap (λ w. behind w d.track.now) leaves) (λ l lt. x.made l (omega arith) lt) is.finished;
  called = λ k y e. no_unit k y e;
  called_fit = λ k y e. absurd_unit k y e;
}
  where
    at_end : (d.track.now ≡ Some []) × IsTracked d
    at_end = x.stays [] refl (met_none []) (tracked_begun units) (λ l no_label. absurd no_label)

    tracked : IsTracked (with_op d o)
    tracked = tracked_op d o [] at_end.1 at_end.0 (stays_by o way.Leaves leaves tt) (needs_none o [] none) (λ l e. let wrong : None ≡ Some l = sym (ap target_of leaves) ∙ e in cc) (λ ys e. let wrong : None ≡ Some ys = sym (ap (λ w. behind w (Some [])) leaves) ∙ e in cc)

    none_there : (k : ℕ) (y : unit_type.Unit) → slice_get p.units k ≡ Some (Some y) → None ≡ Some (Some y)
    none_there k y e = ap (λ us. slice_get us k) (sym (is.units ∙ alone)) ∙ e

    no_unit : (k : ℕ) (y : unit_type.Unit) → slice_get p.units k ≡ Some (Some y) → y.kind ≡ Called
    no_unit k y e = let wrong : None ≡ Some (Some y) = none_there k y e in cc

    absurd_unit : (k : ℕ) (y : unit_type.Unit) → slice_get p.units k ≡ Some (Some y) → UnitFits p y
    absurd_unit k y e = let wrong : None ≡ Some (Some y) = none_there k y e in cc
