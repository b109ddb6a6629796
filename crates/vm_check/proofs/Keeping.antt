-- What an accepted program keeps: every frame fits its unit.
use Rattle.std.proofs.Common.{◌≡◌, ℕ, zero, suc, ◌+◌, ◌≤◌, ◌<◌, List, [], ◌∷◌, length, Bool, true, false, not, Some, None, ℤ, refl, sym, ap, ◌∙◌, subst, arith, map, pos}
use Rattle.std.specs.Prelude.{All, Contains, if◌then◌else◌, slice_get, slice_set, slice_index_or, ⊤}
use Rattle.std.proofs.Math.ListN.{length-set}
use Rattle.std.proofs.lemmas.List.{length-replicate}
use Rattle.std.proofs.lemmas.List.Elements.{Contains-push}
use Rattle.std.specs.declared.option.Option.{Option}
use Rattle.eng_index.specs.Keys.{found, has_doubles, row_in_way}
use Rattle.eng_index.specs.declared.key_term.KeyTerm.{KeyTerm}
use Rattle.eng_index.specs.declared.range.Range.{Range}
use Rattle.eng_key.specs.Values.{value_keys}
use Rattle.eng_value.specs.Applied.{unary_of, binary_of, function_by, merged}
use Rattle.eng_value.specs.Arrangements.{arranged}
use Rattle.eng_value.specs.Casts.{beside, store_as}
use Rattle.eng_value.specs.Causes.{CauseSet, is_skip, named, only}
use Rattle.eng_value.specs.Collations.{keys_of}
use Rattle.eng_value.specs.Comparisons.{like_escaped_of}
use Rattle.eng_value.specs.Environments.{ItemRow, column_of}
use Rattle.eng_value.specs.Outs.{bad, turned}
use Rattle.eng_value.specs.StoredRows.{StoredRow, next_rowid}
use Rattle.eng_value.specs.declared.cause.Cause.TheVariants.{Full, Constraint, Mismatch}
use Rattle.eng_value.specs.declared.cause.ConstraintKind.TheVariants.{Unique}
use Rattle.eng_value.specs.declared.out.Out.{Out}
use Rattle.eng_value.specs.declared.out.Out.TheVariants.{Good}
use Rattle.eng_value.specs.declared.value.Value.TheVariants.{Null, Integer, Text, Blob}
use Rattle.vm_code.specs.declared.op.Op.{Op}
use Rattle.vm_code.specs.declared.op.Op.TheVariants as op
use Rattle.vm_code.specs.declared.open_cursor.CursorKind.{CursorKind}
use Rattle.vm_code.specs.declared.open_cursor.CursorKind.TheVariants.{Row, Sorter, Table}
use Rattle.vm_code.specs.declared.open_cursor.Need.{Need}
use Rattle.vm_code.specs.declared.open_cursor.Need.TheVariants as need
use Rattle.vm_code.specs.declared.open_cursor.OpenCursor.{OpenCursor}
use Rattle.vm_code.specs.declared.program.Program.{Program}
use Rattle.vm_code.specs.declared.program.Unit.{Unit}
use Rattle.vm_code.specs.declared.program.UnitKind.TheVariants.{Called, Main}
use Rattle.vm_code.specs.declared.way.Way.{Way}
use Rattle.vm_code.specs.declared.way.Way.TheVariants as way
use Rattle.vm_code.specs.Accepted.{IsAccepted, IsOpenAt, UnitFits, UnitsFit}
use Rattle.vm_code.specs.Machine as machine
use Rattle.vm_code.specs.Machine.{World, Cursor, Closed, Open, Chosen, Holding, Standing, Sorted, Inputs, Scene, Store, Shared, Frame, State, Setting, Next, On, End, Leaving, Halts, GivesUp, act, step, go_on, after, start, code_of, code_in, unit_at, read, outs_from, integer_in, values_from, parameter_at, current, cursor_at, cursor_rows, world_of, rows_of, row_behind, row_in, range_in, some_rowid, operand_of, is_accepted, is_rejected, is_null, is_known, is_bad, is_integer, is_missing, jump_if, rewound, rewound_to, searched, searched_to, advanced, advanced_to, sought, sought_to, conflicted, conflicted_to, inserted, with_schema, with_given, put_all, entered, frame_of, called, returned, given_up, resumed, skip_if, leads_to, leaving_of, drawn, row_of_outs, columns_from, comes_before, last_list, other_lists, added, sorted_to, first_sorted, dropped, dropped_to, built, standing_on}
use Rattle.vm_code.specs.Track.{Meets, OpenSet, way_of, needs_of, spans_of, room_for, behind, target_of, closed, closed_from, on, opened}
use Rattle.vm_check.specs.Missing.{MeetsNothingMissing, NeverMissing, SomeoneWaits, StandsAs, WayIsThere}
use Rattle.vm_check.proofs.Standing.{Covers, covers_moved, covers_opened, covers_closed, covers_closed_from, closed_from_long, met_is_there}

pub there_is : {X : Type 0} (xs : List X) (k : ℕ) → k < length xs → (x : X) × (slice_get xs k ≡ Some x)
there_is [] k lt = absurd (omega arith)
there_is (x ∷ xs) zero lt = (x, refl)
there_is (x ∷ xs) (suc k) lt = there_is xs k (omega arith)

pub got_below : {X : Type 0} (xs : List X) (k : ℕ) (x : X) → slice_get xs k ≡ Some x → k < length xs
got_below [] k x e = absurd (cc)
got_below (y ∷ xs) zero x e = omega arith
got_below (y ∷ xs) (suc k) x e = omega (arith, got_below xs k x e)

put_all_long : (regs : List Out) (to : ℕ) (vs : List Out) → length (put_all regs to vs) ≡ length regs
put_all_long regs to [] = refl
put_all_long regs to (v ∷ vs) = put_all_long (slice_set regs to v) (to + 1) vs ∙ length-set regs to v

-- the only one is met
only_met : (P : Need → Type 0) (n : Need) → All P (n ∷ []) → P n
only_met P n h = h 0 n (omega arith)

-- ---- states that fit

record FrameFits (p : Program) (u pc : ℕ) (regs : List Out) (cursors : List Cursor) : Type 0 where
  unit : Unit
  is : unit_at p u ≡ Some unit
  fits : UnitFits p unit
  set : OpenSet
  reached : IsOpenAt unit pc set
  registers : length regs ≡ unit.registers
  wide : length cursors ≡ unit.cursors
  covers : Covers set cursors

-- the frames that wait, where this unit runs: each has room for what the one above it gives
abbrev StackFits : Program → Unit → List Frame → Type 0
StackFits p x [] = x.kind ≡ Main
StackFits p x (f ∷ fs) = (here : FrameFits p f.unit f.pc f.regs f.scene.cursors) × ((f.to + x.results ≤ length f.regs) × StackFits p here.unit fs)

record Fits (p : Program) (s : State) : Type 0 where
  here : FrameFits p s.unit s.pc s.regs s.scene.cursors
  below : StackFits p here.unit s.stack

abbrev FitsNext : Program → Next → Type 0
FitsNext p (On s) = Fits p s
FitsNext p (End e shared) = ⊤

-- what the rules say of an instruction in its place
record OpFits (p : Program) (x : Unit) (place : ℕ) (xs : OpenSet) (o : Op) : Type 0 where
  registers : room_for (spans_of o) ≤ x.registers
  units : UnitsFit p x (way_of o)
  uses : All (Meets xs) (needs_of o)
  falls : (ys : OpenSet) → behind (way_of o) (Some xs) ≡ Some ys → IsOpenAt x (place + 1) ys
  jumps : (target : ℕ) → target_of (way_of o) ≡ Some target → IsOpenAt x target xs

module _ (m : Setting) (accepted : IsAccepted m.prog) where
  abbrev p : Program
  p = m.prog

  -- the rules hold of every unit
  unit_fits : (u : ℕ) (x : Unit) → unit_at p u ≡ Some x → UnitFits p x
  unit_fits zero x e =
      let same : p.main ≡ x = cc in
      subst (UnitFits p) same accepted.main_fits
  unit_fits (suc u) x e = by (slice_get p.units u) refl e
    where
      by : (o : Option (Option Unit)) → slice_get p.units u ≡ o → machine.unit_in o ≡ Some x → UnitFits p x
      by None is e = absurd (cc)
      by (Some y) is e = accepted.called_fit u x (is ∙ ap Some e)

  abbrev Goes : (s : State) → Fits p s → OpenSet → ℕ → Type 0
  Goes s fits set place = IsOpenAt fits.here.unit place set

  lands : (s : State) (fits : Fits p s) (set : OpenSet) (place : ℕ) (regs : List Out) (cursors : List Cursor) (store : Store) (shared : Shared) → Goes s fits set place → length regs ≡ length s.regs → length cursors ≡ length s.scene.cursors → Covers set cursors → Fits p (record s { pc = place; regs = regs; scene = record s.scene { cursors = cursors }; store = store; shared = shared })
  lands s fits set place regs cursors store shared to long wide covers = record {
    here = record {
      unit = fits.here.unit;
      is = fits.here.is;
      fits = fits.here.fits;
      set = set;
      reached = to;
      registers = long ∙ fits.here.registers;
      wide = wide ∙ fits.here.wide;
      covers = covers;
    };
    below = fits.below;
  }

  puts : (s : State) (fits : Fits p s) (r : ℕ) (v : Out) → Goes s fits fits.here.set (s.pc + 1) → FitsNext p (machine.put s r v)
  puts s fits r v to =
      lands s fits fits.here.set (s.pc + 1) (slice_set s.regs r v) s.scene.cursors s.store s.shared to (length-set s.regs r v) refl fits.here.covers

  shares : (s : State) (fits : Fits p s) (shared : Shared) → Goes s fits fits.here.set (s.pc + 1) → FitsNext p (machine.skip (record s { shared = shared }))
  shares s fits shared to = lands s fits fits.here.set (s.pc + 1) s.regs s.scene.cursors s.store shared to refl refl fits.here.covers

  -- rows of sorters are put aside
  stores : (s : State) (fits : Fits p s) (store : Store) → Goes s fits fits.here.set (s.pc + 1) → FitsNext p (machine.skip (record s { store = store }))
  stores s fits store to = lands s fits fits.here.set (s.pc + 1) s.regs s.scene.cursors store s.shared to refl refl fits.here.covers

  jumps_to : (s : State) (fits : Fits p s) (place : ℕ) → Goes s fits fits.here.set place → Fits p (record s { pc = place })
  jumps_to s fits place to = lands s fits fits.here.set place s.regs s.scene.cursors s.store s.shared to refl refl fits.here.covers

  forks : (b : Bool) (s : State) (fits : Fits p s) (target : ℕ) → Goes s fits fits.here.set (s.pc + 1) → Goes s fits fits.here.set target → FitsNext p (jump_if b s target)
  forks true s fits target to other = jumps_to s fits target other
  forks false s fits target to other = jumps_to s fits (s.pc + 1) to

  -- ---- cursors that move

  abbrev On_kind : State → ℕ → CursorKind → Type 0
  On_kind s c kind = StandsAs (cursor_at s.scene.cursors c) kind

  -- a cursor that is open stands
  stands : (s : State) (fits : Fits p s) (x : OpenCursor) → Contains fits.here.set x → On_kind s x.cursor x.kind
  stands s fits x h = fits.here.covers x h

  moves : (s : State) (fits : Fits p s) (c : ℕ) (kind : CursorKind) (x : Cursor) (store : Store) (place : ℕ) → On_kind s c kind → StandsAs x kind → Goes s fits fits.here.set place → Fits p (record s { pc = place; scene = record s.scene { cursors = slice_set s.scene.cursors c x }; store = store })
  moves s fits c kind x store place was now to =
      lands s fits fits.here.set place s.regs (slice_set s.scene.cursors c x) store s.shared to refl (length-set s.scene.cursors c x) (covers_moved fits.here.set s.scene.cursors c kind x was now fits.here.covers)

  -- on a table
  moves_on : (s : State) (fits : Fits p s) (c : ℕ) (x : Cursor) (place : ℕ) → On_kind s c Table → StandsAs x Table → Goes s fits fits.here.set place → Fits p (record s { pc = place; scene = record s.scene { cursors = slice_set s.scene.cursors c x } })
  moves_on s fits c x place was now to = moves s fits c Table x s.store place was now to

  rewinds_to : (s : State) (fits : Fits p s) (c target t : ℕ) (rows : List StoredRow) → On_kind s c Table → Goes s fits fits.here.set (s.pc + 1) → Goes s fits fits.here.set target → FitsNext p (rewound_to s c target t rows)
  rewinds_to s fits c target t [] was to other = moves_on s fits c (Open t None) target was refl other
  rewinds_to s fits c target t (r ∷ rs) was to other = moves_on s fits c (Open t (Some r.rowid)) (s.pc + 1) was refl to

  rewinds : (x : Cursor) (s : State) (fits : Fits p s) (c target : ℕ) → On_kind s c Table → Goes s fits fits.here.set (s.pc + 1) → Goes s fits fits.here.set target → FitsNext p (rewound x s c target)
  rewinds Closed s fits c target was to other = jumps_to s fits target other
  rewinds (Open t place) s fits c target was to other = rewinds_to s fits c target t (rows_of (world_of s.shared) t) was to other
  rewinds (Chosen t rowid rest) s fits c target was to other = rewinds_to s fits c target t (rows_of (world_of s.shared) t) was to other
  rewinds (Holding rows) s fits c target was to other = jumps_to s fits target other
  rewinds (Standing row rest) s fits c target was to other = jumps_to s fits target other
  rewinds (Sorted rows) s fits c target was to other = jumps_to s fits target other

  searches_to : (s : State) (fits : Fits p s) (c target t : ℕ) (rows : List StoredRow) → On_kind s c Table → Goes s fits fits.here.set (s.pc + 1) → Goes s fits fits.here.set target → FitsNext p (searched_to s c target t rows)
  searches_to s fits c target t [] was to other = moves_on s fits c (Open t None) target was refl other
  searches_to s fits c target t (r ∷ rs) was to other = moves_on s fits c (Chosen t r.rowid (machine.rowids_of rs)) (s.pc + 1) was refl to

  searches : (x : Cursor) (s : State) (fits : Fits p s) (c target : ℕ) (terms : List KeyTerm) (range : Range) → On_kind s c Table → Goes s fits fits.here.set (s.pc + 1) → Goes s fits fits.here.set target → FitsNext p (searched x s c target terms range)
  searches Closed s fits c target terms range was to other = jumps_to s fits target other
  searches (Open t place) s fits c target terms range was to other = searches_to s fits c target t (found terms range (rows_of (world_of s.shared) t)) was to other
  searches (Chosen t rowid rest) s fits c target terms range was to other = searches_to s fits c target t (found terms range (rows_of (world_of s.shared) t)) was to other
  searches (Holding rows) s fits c target terms range was to other = jumps_to s fits target other
  searches (Standing row rest) s fits c target terms range was to other = jumps_to s fits target other
  searches (Sorted rows) s fits c target terms range was to other = jumps_to s fits target other

  advances_to : (s : State) (fits : Fits p s) (c target t : ℕ) (r : Option StoredRow) → On_kind s c Table → Goes s fits fits.here.set (s.pc + 1) → Goes s fits fits.here.set target → FitsNext p (advanced_to s c target t r)
  advances_to s fits c target t None was to other = moves_on s fits c (Open t None) (s.pc + 1) was refl to
  advances_to s fits c target t (Some r) was to other = moves_on s fits c (Open t (Some r.rowid)) target was refl other

  advances : (x : Cursor) (s : State) (fits : Fits p s) (c target : ℕ) → StandsAs x Table → On_kind s c Table → Goes s fits fits.here.set (s.pc + 1) → Goes s fits fits.here.set target → FitsNext p (advanced x s c target)
  advances Closed s fits c target is was to other = jumps_to s fits (s.pc + 1) to
  advances (Open t None) s fits c target is was to other = jumps_to s fits (s.pc + 1) to
  advances (Open t (Some n)) s fits c target is was to other =
      advances_to s fits c target t (row_behind (rows_of (world_of s.shared) t) n) was to other
  advances (Chosen t n []) s fits c target is was to other = moves_on s fits c (Open t None) (s.pc + 1) was refl to
  advances (Chosen t n (next ∷ rest)) s fits c target is was to other = moves_on s fits c (Chosen t next rest) target was refl other
  advances (Holding rows) s fits c target is was to other = jumps_to s fits (s.pc + 1) to
  advances (Standing row rest) s fits c target is was to other = absurd (cc)
  advances (Sorted rows) s fits c target is was to other = jumps_to s fits (s.pc + 1) to

  seeks_to : (s : State) (fits : Fits p s) (c t : ℕ) (rowid : Option ℤ) → On_kind s c Table → Goes s fits fits.here.set (s.pc + 1) → FitsNext p (sought_to s c t rowid)
  seeks_to s fits c t None was to = moves_on s fits c (Open t None) (s.pc + 1) was refl to
  seeks_to s fits c t (Some n) was to = by (is_missing (rows_of (world_of s.shared) t) n)
    where
      by : (b : Bool) → FitsNext p (machine.skip (machine.with_cursor s c (if b then Open t None else Open t (Some n))))
      by true = moves_on s fits c (Open t None) (s.pc + 1) was refl to
      by false = moves_on s fits c (Open t (Some n)) (s.pc + 1) was refl to

  seeks : (x : Cursor) (s : State) (fits : Fits p s) (c : ℕ) (rowid : Option ℤ) → On_kind s c Table → Goes s fits fits.here.set (s.pc + 1) → FitsNext p (sought x s c rowid)
  seeks Closed s fits c rowid was to = jumps_to s fits (s.pc + 1) to
  seeks (Open t place) s fits c rowid was to = seeks_to s fits c t rowid was to
  seeks (Chosen t place rest) s fits c rowid was to = seeks_to s fits c t rowid was to
  seeks (Holding rows) s fits c rowid was to = jumps_to s fits (s.pc + 1) to
  seeks (Standing row rest) s fits c rowid was to = jumps_to s fits (s.pc + 1) to
  seeks (Sorted rows) s fits c rowid was to = jumps_to s fits (s.pc + 1) to

  conflicts_to : (s : State) (fits : Fits p s) (c target t : ℕ) (r : Option StoredRow) → On_kind s c Table → Goes s fits fits.here.set (s.pc + 1) → Goes s fits fits.here.set target → FitsNext p (conflicted_to s c target t r)
  conflicts_to s fits c target t None was to other = jumps_to s fits target other
  conflicts_to s fits c target t (Some r) was to other = moves_on s fits c (Open t (Some r.rowid)) (s.pc + 1) was refl to

  conflicts : (x : Cursor) (s : State) (fits : Fits p s) (c target : ℕ) (keys : List (List KeyTerm)) (row : StoredRow) → On_kind s c Table → Goes s fits fits.here.set (s.pc + 1) → Goes s fits fits.here.set target → FitsNext p (conflicted x s c target keys row)
  conflicts Closed s fits c target keys row was to other = jumps_to s fits target other
  conflicts (Open t place) s fits c target keys row was to other = conflicts_to s fits c target t (row_in_way keys (rows_of (world_of s.shared) t) row) was to other
  conflicts (Chosen t place rest) s fits c target keys row was to other = conflicts_to s fits c target t (row_in_way keys (rows_of (world_of s.shared) t) row) was to other
  conflicts (Holding rows) s fits c target keys row was to other = jumps_to s fits target other
  conflicts (Standing old rest) s fits c target keys row was to other = jumps_to s fits target other
  conflicts (Sorted rows) s fits c target keys row was to other = jumps_to s fits target other

  -- ---- cursors that are opened

  -- it is one of the frame's
  opened_below : (s : State) (fits : Fits p s) (c : ℕ) (kind : CursorKind) → Goes s fits (opened (on kind c) fits.here.set) (s.pc + 1) → c < length s.scene.cursors
  opened_below s fits c kind to = omega (arith, fits.here.wide, fits.here.fits.cursors (s.pc + 1) (opened (on kind c) fits.here.set) to (on kind c) (Contains-push (closed c fits.here.set) (on kind c)))

  opens : (s : State) (fits : Fits p s) (c : ℕ) (kind : CursorKind) (x : Cursor) (store : Store) → StandsAs x kind → Goes s fits (opened (on kind c) fits.here.set) (s.pc + 1) → Fits p (record s { pc = s.pc + 1; scene = record s.scene { cursors = slice_set s.scene.cursors c x }; store = store })
  opens s fits c kind x store is to =
      lands s fits (opened (on kind c) fits.here.set) (s.pc + 1) s.regs (slice_set s.scene.cursors c x) store s.shared to refl (length-set s.scene.cursors c x) (covers_opened fits.here.set s.scene.cursors kind c x (opened_below s fits c kind to) is fits.here.covers)

  -- ---- sorters

  sorts : (s : State) (fits : Fits p s) (c target : ℕ) (store : Store) (rows : List ItemRow) → On_kind s c Sorter → Goes s fits fits.here.set (s.pc + 1) → Goes s fits fits.here.set target → FitsNext p (sorted_to (record s { store = store }) c target rows)
  sorts s fits c target store [] was to other = moves s fits c Sorter (Sorted []) store target was refl other
  sorts s fits c target store (row ∷ rest) was to other = moves s fits c Sorter (Sorted (row ∷ rest)) store (s.pc + 1) was refl to

  drops_to : (s : State) (fits : Fits p s) (c target : ℕ) (rows : List ItemRow) → On_kind s c Sorter → Goes s fits fits.here.set (s.pc + 1) → Goes s fits fits.here.set target → FitsNext p (dropped_to s c target rows)
  drops_to s fits c target [] was to other = jumps_to s fits (s.pc + 1) to
  drops_to s fits c target (row ∷ []) was to other = moves s fits c Sorter (Sorted []) s.store (s.pc + 1) was refl to
  drops_to s fits c target (row ∷ next ∷ rest) was to other = moves s fits c Sorter (Sorted (next ∷ rest)) s.store target was refl other

  drops : (x : Cursor) (s : State) (fits : Fits p s) (c target : ℕ) → On_kind s c Sorter → Goes s fits fits.here.set (s.pc + 1) → Goes s fits fits.here.set target → FitsNext p (dropped x s c target)
  drops Closed s fits c target was to other = jumps_to s fits (s.pc + 1) to
  drops (Open t place) s fits c target was to other = jumps_to s fits (s.pc + 1) to
  drops (Chosen t place rest) s fits c target was to other = jumps_to s fits (s.pc + 1) to
  drops (Holding rows) s fits c target was to other = jumps_to s fits (s.pc + 1) to
  drops (Standing row rest) s fits c target was to other = jumps_to s fits (s.pc + 1) to
  drops (Sorted rows) s fits c target was to other = drops_to s fits c target rows was to other

  -- ---- units that are called, and that come back

  enters : (o : Option Unit) (u : ℕ) (y : Unit) → unit_at p u ≡ Some y → o ≡ Some y → (s : State) (fits : Fits p s) (args : List Out) (to : ℕ) → to + y.results ≤ fits.here.unit.registers → Goes s fits fits.here.set (s.pc + 1) → FitsNext p (called o s u args to)
  enters None u y is same s fits args to room goes = absurd (cc)
  enters (Some z) u y is same s fits args to room goes =
      let one : z ≡ y = cc in
      subst (λ v. Fits p (entered v u (machine.inputs_with s.inputs args) (frame_of s to) s.stack s.shared)) (sym one) (record {
        here = record {
          unit = y;
          is = is;
          fits = unit_fits u y is;
          set = [];
          reached = (unit_fits u y is).first;
          registers = length-replicate {A = Out} y.registers (Good Null);
          wide = length-replicate {A = Cursor} y.cursors Closed;
          covers = λ x h. absurd (omega (arith, h.1));
        };
        below = (
          record {
            unit = fits.here.unit;
            is = fits.here.is;
            fits = fits.here.fits;
            set = fits.here.set;
            reached = goes;
            registers = fits.here.registers;
            wide = fits.here.wide;
            covers = fits.here.covers;
          },
          (omega (arith, room, fits.here.registers), fits.below),
        );
      })

  resumes : (x : Unit) (f : Frame) (fs : List Frame) (shared : Shared) (results : List Out) → StackFits p x (f ∷ fs) → Fits p (resumed f fs shared results)
  resumes x f fs shared results below = record {
    here = record {
      unit = below.0.unit;
      is = below.0.is;
      fits = below.0.fits;
      set = below.0.set;
      reached = below.0.reached;
      registers = put_all_long f.regs f.to results ∙ below.0.registers;
      wide = below.0.wide;
      covers = below.0.covers;
    };
    below = below.1.1;
  }

  returns : (x : Unit) (fs : List Frame) (shared : Shared) (results : List Out) → StackFits p x fs → FitsNext p (returned fs shared results)
  returns x [] shared results below = tt
  returns x (f ∷ fs) shared results below = resumes x f fs shared results below

  gives_up : (x : Unit) (fs : List Frame) (shared : Shared) (causes : CauseSet) → StackFits p x fs → FitsNext p (given_up fs shared causes)
  gives_up x [] shared causes below = tt
  gives_up x (f ∷ fs) shared causes below = by (is_skip causes)
    where
      by : (b : Bool) → FitsNext p (if b then On (resumed f fs shared (Good (Integer (pos 1)) ∷ [])) else End (machine.Failed (named causes)) shared)
      by true = resumes x f fs shared (Good (Integer (pos 1)) ∷ []) below
      by false = tt

  leaves : (l : Leaving) (x : Unit) (fs : List Frame) (shared : Shared) → StackFits p x fs → FitsNext p (leads_to l fs shared)
  leaves Halts x fs shared below = tt
  leaves (GivesUp causes) x fs shared below = gives_up x fs shared causes below

  skips_if : (b : Bool) (s : State) (fits : Fits p s) (causes : CauseSet) → Goes s fits fits.here.set (s.pc + 1) → FitsNext p (skip_if b s causes)
  skips_if true s fits causes to = jumps_to s fits (s.pc + 1) to
  skips_if false s fits causes to = gives_up fits.here.unit s.stack s.shared causes fits.below

  draws : (s : State) (fits : Fits p s) (r : ℕ) (table : List ℕ) (n : Option ℤ) → Goes s fits fits.here.set (s.pc + 1) → FitsNext p (drawn s r table n)
  draws s fits r table None to = gives_up fits.here.unit s.stack s.shared (only (Full table)) fits.below
  draws s fits r table (Some n) to = puts s fits r (Good (Integer n)) to

  builds : (s : State) (fits : Fits p s) (unique : Option (List ℕ)) (terms : List KeyTerm) (rows : List StoredRow) → Goes s fits fits.here.set (s.pc + 1) → FitsNext p (built s unique terms rows)
  builds s fits None terms rows to = jumps_to s fits (s.pc + 1) to
  builds s fits (Some table) terms rows to = skips_if (not (has_doubles terms rows)) s fits (only (Constraint Unique table)) to

  -- ---- each instruction

  acts : (o : Op) (s : State) (fits : Fits p s) → OpFits p fits.here.unit s.pc fits.here.set o → FitsNext p (act m (Some o) s)
  acts (op.Goto target) s fits ok = jumps_to s fits target (ok.jumps target refl)
  acts (op.If r target on_null) s fits ok = forks (is_accepted on_null (read s.regs r)) s fits target (ok.falls fits.here.set refl) (ok.jumps target refl)
  acts (op.IfNot r target on_null) s fits ok = forks (is_rejected on_null (read s.regs r)) s fits target (ok.falls fits.here.set refl) (ok.jumps target refl)
  acts (op.IsNull r target) s fits ok = forks (is_null (read s.regs r)) s fits target (ok.falls fits.here.set refl) (ok.jumps target refl)
  acts (op.NotNull r target) s fits ok = forks (is_known (read s.regs r)) s fits target (ok.falls fits.here.set refl) (ok.jumps target refl)
  acts (op.IsBad r target) s fits ok = forks (is_bad (read s.regs r)) s fits target (ok.falls fits.here.set refl) (ok.jumps target refl)
  acts op.Halt s fits ok = tt
  acts (op.HaltBad r) s fits ok = leaves (leaving_of (read s.regs r)) fits.here.unit s.stack s.shared fits.below
  acts (op.Call u first n to) s fits ok = enters (unit_at p u) u ok.units.0 ok.units.1 ok.units.1 s fits (outs_from s.regs first n) to ok.units.4 (ok.falls fits.here.set refl)
  acts (op.Ret first n) s fits ok = returns fits.here.unit s.stack s.shared (outs_from s.regs first n) fits.below
  acts (op.Argument k to) s fits ok = puts s fits to (read s.inputs.args k) (ok.falls fits.here.set refl)
  acts (op.ResultRow first n) s fits ok = shares s fits (with_given s.shared (values_from s.regs first n)) (ok.falls fits.here.set refl)
  acts (op.Null to) s fits ok = puts s fits to (Good Null) (ok.falls fits.here.set refl)
  acts (op.Integer n to) s fits ok = puts s fits to (Good (Integer n)) (ok.falls fits.here.set refl)
  acts (op.String8 text to) s fits ok = puts s fits to (Good (Text text)) (ok.falls fits.here.set refl)
  acts (op.Blob bytes to) s fits ok = puts s fits to (Good (Blob bytes)) (ok.falls fits.here.set refl)
  acts (op.Bad cause to) s fits ok = puts s fits to (bad cause) (ok.falls fits.here.set refl)
  acts (op.Variable k to) s fits ok = puts s fits to (parameter_at m.params k) (ok.falls fits.here.set refl)
  acts (op.Copy from to) s fits ok = puts s fits to (read s.regs from) (ok.falls fits.here.set refl)
  acts (op.Affinity r affinity) s fits ok = puts s fits r (turned (store_as affinity) (read s.regs r)) (ok.falls fits.here.set refl)
  acts (op.Beside r other own) s fits ok = puts s fits r (turned (λ v. Good (beside other own v)) (read s.regs r)) (ok.falls fits.here.set refl)
  acts (op.MustBeInt r) s fits ok = skips_if (is_integer (read s.regs r)) s fits (only Mismatch) (ok.falls fits.here.set refl)
  acts (op.Unary o a to) s fits ok = puts s fits to (unary_of o (operand_of m s a)) (ok.falls fits.here.set refl)
  acts (op.Binary o a b to) s fits ok = puts s fits to (binary_of (keys_of m.hosts) o (operand_of m s a) (operand_of m s b)) (ok.falls fits.here.set refl)
  acts (op.LikeEscaped a b c to) s fits ok = puts s fits to (like_escaped_of (operand_of m s a) (operand_of m s b) (operand_of m s c)) (ok.falls fits.here.set refl)
  acts (op.Function f collation args to) s fits ok = puts s fits to (function_by (value_keys (keys_of m.hosts)) f collation (map (operand_of m s) args)) (ok.falls fits.here.set refl)
  acts (op.Merge from to) s fits ok = puts s fits to (merged (read s.regs from) (read s.regs to)) (ok.falls fits.here.set refl)
  acts (op.OpenRead c t) s fits ok = opens s fits c Table (Open t None) s.store refl (ok.falls (opened (on Table c) fits.here.set) refl)
  acts (op.OpenWrite c t) s fits ok = opens s fits c Table (Open t None) s.store refl (ok.falls (opened (on Table c) fits.here.set) refl)
  acts (op.RowOf c rowid first n) s fits ok = opens s fits c Row (standing_on (row_in s.regs rowid first n)) s.store refl (ok.falls (opened (on Row c) fits.here.set) refl)
  acts (op.Close c) s fits ok =
      lands s fits (closed c fits.here.set) (s.pc + 1) s.regs (slice_set s.scene.cursors c Closed) s.store s.shared (ok.falls (closed c fits.here.set) refl) refl (length-set s.scene.cursors c Closed) (covers_closed fits.here.set s.scene.cursors c Closed fits.here.covers)
  acts (op.CloseFrom c) s fits ok =
      lands s fits (closed_from c fits.here.set) (s.pc + 1) s.regs (machine.closed_from c s.scene.cursors) s.store s.shared (ok.falls (closed_from c fits.here.set) refl) refl (closed_from_long c s.scene.cursors) (covers_closed_from fits.here.set s.scene.cursors c fits.here.covers)
  acts (op.Rewind c target) s fits ok = rewinds (cursor_at s.scene.cursors c) s fits c target (stands s fits (on Table c) (only_met (Meets fits.here.set) (need.Table c) ok.uses)) (ok.falls fits.here.set refl) (ok.jumps target refl)
  acts (op.Next c target) s fits ok =
      let was : On_kind s c Table = stands s fits (on Table c) (only_met (Meets fits.here.set) (need.Table c) ok.uses) in
      advances (cursor_at s.scene.cursors c) s fits c target was was (ok.falls fits.here.set refl) (ok.jumps target refl)
  acts (op.Search c terms bounds first target) s fits ok = searches (cursor_at s.scene.cursors c) s fits c target terms (range_in s.regs first bounds) (stands s fits (on Table c) (only_met (Meets fits.here.set) (need.Table c) ok.uses)) (ok.falls fits.here.set refl) (ok.jumps target refl)
  acts (op.SeekRowid c rowid) s fits ok = seeks (cursor_at s.scene.cursors c) s fits c (some_rowid s.regs rowid) (stands s fits (on Table c) (only_met (Meets fits.here.set) (need.Table c) ok.uses)) (ok.falls fits.here.set refl)
  acts (op.SorterOpen c) s fits ok = opens s fits c Sorter (Sorted []) (record s.store { lists = [] ∷ s.store.lists }) refl (ok.falls (opened (on Sorter c) fits.here.set) refl)
  acts (op.SorterInsert first n) s fits ok = stores s fits (record s.store { lists = added (row_of_outs (outs_from s.regs first n)) s.store.lists }) (ok.falls fits.here.set refl)
  acts (op.SorterSort c terms target) s fits ok = sorts s fits c target (record s.store { lists = other_lists s.store.lists }) (arranged (comes_before terms) (last_list s.store.lists)) (stands s fits (on Sorter c) (only_met (Meets fits.here.set) (need.Sorter c) ok.uses)) (ok.falls fits.here.set refl) (ok.jumps target refl)
  acts (op.SorterData c first n) s fits ok =
      lands s fits fits.here.set (s.pc + 1) (put_all s.regs first (columns_from (first_sorted (cursor_at s.scene.cursors c)) 0 n)) s.scene.cursors s.store s.shared (ok.falls fits.here.set refl) (put_all_long s.regs first (columns_from (first_sorted (cursor_at s.scene.cursors c)) 0 n)) refl fits.here.covers
  acts (op.SorterNext c target) s fits ok = drops (cursor_at s.scene.cursors c) s fits c target (stands s fits (on Sorter c) (only_met (Meets fits.here.set) (need.Sorter c) ok.uses)) (ok.falls fits.here.set refl) (ok.jumps target refl)
  acts (op.Column c k to) s fits ok = puts s fits to (column_of (current (world_of s.shared) (cursor_at s.scene.cursors c)) k) (ok.falls fits.here.set refl)
  acts (op.Rowid c to) s fits ok = puts s fits to (current (world_of s.shared) (cursor_at s.scene.cursors c)).rowid (ok.falls fits.here.set refl)
  acts (op.NoConflict c rowid first n keys target) s fits ok = conflicts (cursor_at s.scene.cursors c) s fits c target keys (row_in s.regs rowid first n) (stands s fits (on Table c) (only_met (Meets fits.here.set) (need.Table c) ok.uses)) (ok.falls fits.here.set refl) (ok.jumps target refl)
  acts (op.NotExists c rowid target) s fits ok = forks (is_missing (cursor_rows (world_of s.shared) (cursor_at s.scene.cursors c)) (integer_in s.regs rowid)) s fits target (ok.falls fits.here.set refl) (ok.jumps target refl)
  acts (op.NewRowid c to table) s fits ok = draws s fits to table (next_rowid (cursor_rows (world_of s.shared) (cursor_at s.scene.cursors c))) (ok.falls fits.here.set refl)
  acts (op.Insert c rowid first n) s fits ok = shares s fits (record s.shared { written = inserted (cursor_at s.scene.cursors c) s.shared.written (row_in s.regs rowid first n) }) (ok.falls fits.here.set refl)
  acts (op.BuildIndex c terms unique) s fits ok = builds s fits unique terms (cursor_rows (world_of s.shared) (cursor_at s.scene.cursors c)) (ok.falls fits.here.set refl)
  acts (op.Schema change) s fits ok = shares s fits (record s.shared { written = with_schema change s.shared.written }) (ok.falls fits.here.set refl)

  -- ---- runs

  -- the instruction where it stands
  record Instructs (s : State) (fits : Fits p s) : Type 0 where
    o : Op
    is : slice_get (code_of p s.unit) s.pc ≡ Some o
    ok : OpFits p fits.here.unit s.pc fits.here.set o

  instructs : (s : State) (fits : Fits p s) → Instructs s fits
  instructs s fits =
      let x : Unit = fits.here.unit in
      let rules : UnitFits p x = fits.here.fits in
      let found : (o : Op) × (slice_get x.code s.pc ≡ Some o) = there_is x.code s.pc (omega (arith, got_below x.sets s.pc (Some fits.here.set) fits.here.reached, rules.long)) in
      record {
        o = found.0;
        is = ap (λ y. slice_get (code_in y) s.pc) fits.here.is ∙ found.1;
        ok = record {
          registers = rules.registers s.pc found.0 found.1;
          units = rules.units s.pc found.0 found.1;
          uses = rules.uses s.pc found.0 fits.here.set found.1 fits.here.reached;
          falls = λ ys e. rules.falls s.pc found.0 fits.here.set ys found.1 fits.here.reached e;
          jumps = λ target e. rules.jumps s.pc found.0 fits.here.set target found.1 fits.here.reached e;
        };
      }

  steps : (s : State) (fits : Fits p s) → FitsNext p (step m s)
  steps s fits =
      let x = instructs s fits in
      subst (λ o. FitsNext p (act m o s)) (sym x.is) (acts x.o s fits x.ok)

  fits_after : (n : ℕ) (s t : State) → Fits p s → after m n s ≡ On t → Fits p t
  fits_after zero s t fits e =
      let same : s ≡ t = cc in
      subst (Fits p) same fits
  fits_after (suc n) s t fits e = by (step m s) (steps s fits) (λ v f. fits_after n v t f) e
    where
      by : (x : Next) → FitsNext p x → ((v : State) → Fits p v → after m n v ≡ On t → Fits p t) → go_on x (after m n) ≡ On t → Fits p t
      by (On v) f ih e = ih v f e
      by (End o shared) f ih e = absurd (cc)

  fits_start : (w : World) (last_rowid : ℤ) → Fits p (start p w last_rowid)
  fits_start w last_rowid = record {
    here = record {
      unit = p.main;
      is = refl;
      fits = accepted.main_fits;
      set = [];
      reached = accepted.main_fits.first;
      registers = length-replicate {A = Out} p.main.registers (Good Null);
      wide = length-replicate {A = Cursor} p.main.cursors Closed;
      covers = λ x h. absurd (omega (arith, h.1));
    };
    below = accepted.main;
  }

  way_there : (s : State) (fits : Fits p s) (w : Way) → UnitsFit p fits.here.unit w → ((ys : OpenSet) → behind w (Some fits.here.set) ≡ Some ys → Goes s fits ys (s.pc + 1)) → WayIsThere p s w
  way_there s fits way.Continues units falls = tt
  way_there s fits (way.Opens x) units falls = opened_below s fits x.cursor x.kind (falls (opened x fits.here.set) refl)
  way_there s fits (way.Closes c) units falls = tt
  way_there s fits (way.ClosesFrom c) units falls = tt
  way_there s fits (way.Forks target) units falls = tt
  way_there s fits (way.Jumps target) units falls = tt
  way_there s fits (way.Calls u n to) units falls = (units.0, units.1, units.3)
  way_there s fits way.Leaves units falls = tt
  way_there s fits (way.Returns n) units falls = waits s.stack fits.here.unit units.0 units.1 fits.below
    where
      waits : (fs : List Frame) (x : Unit) → x.kind ≡ Called → x.results ≡ n → StackFits p x fs → SomeoneWaits fs n
      waits [] x kind results below = absurd (cc)
      waits (f ∷ fs) x kind results below = (f, (fs, refl, omega (arith, below.1.0, results)))

  pub never : (w : World) (last_rowid : ℤ) (n : ℕ) (s : State) → after m n (start p w last_rowid) ≡ On s → MeetsNothingMissing p s
  never w last_rowid n s e =
      let fits : Fits p s = fits_after n (start p w last_rowid) s (fits_start w last_rowid) e in
      let x = instructs s fits in
      record {
        o = x.o;
        instruction = x.is;
        registers = omega (arith, x.ok.registers, fits.here.registers);
        cursors = λ k d lt. met_is_there fits.here.set s.scene.cursors (slice_index_or (needs_of x.o) k d) fits.here.covers (x.ok.uses k d lt);
        way = way_there s fits (way_of x.o) x.ok.units x.ok.falls;
      }

-- whatever the setting
pub never_missing : (p : Program) → IsAccepted p → NeverMissing p
never_missing p accepted m w last_rowid n s same e =
    subst (λ q. MeetsNothingMissing q s) same (never m (subst IsAccepted (sym same) accepted) w last_rowid n s (subst (λ q. after m n (start q w last_rowid) ≡ On s) (sym same) e))
