-- A run looks at no other tables than those that its program opens.
use Rattle.std.proofs.Common.{◌≡◌, ◌≢◌, ℕ, zero, suc, ◌+◌, List, [], ◌∷◌, ◌++◌, Bool, true, false, pos, not, ◌&&◌, nat_lt, is_some, Some, None, ℤ, All, Contains, length, map, if◌then◌else◌, refl, sym, ap, ◌∙◌, subst, arith, ⊎_elim}
use Rattle.std.specs.Prelude.{replicate, slice_get, slice_set}
use Rattle.std.specs.declared.option.Option.{Option}
use Rattle.std.proofs.lemmas.Bool.{cases_lt, lt-ltb}
use Rattle.std.proofs.lemmas.Option.{slice_get_within, get_or_from_slice_get}
use Rattle.eng_index.specs.Keys.{found, has_doubles, row_in_way}
use Rattle.eng_index.specs.declared.key_term.KeyTerm.{KeyTerm}
use Rattle.eng_index.specs.declared.range.Range.{Range}
use Rattle.eng_key.specs.Values.{value_keys}
use Rattle.eng_value.specs.Applied.{binary_of, function_by, unary_of}
use Rattle.eng_value.specs.Arrangements.{arranged}
use Rattle.eng_value.specs.Causes.{CauseSet, is_skip, named, only}
use Rattle.eng_value.specs.Collations.{keys_of}
use Rattle.eng_value.specs.Comparisons.{like_escaped_of}
use Rattle.eng_value.specs.Environments.{ItemRow, column_of}
use Rattle.eng_value.specs.StoredRows.{StoredRow, next_rowid}
use Rattle.eng_value.specs.Written.{Written}
use Rattle.eng_value.specs.declared.cause.Cause.TheVariants.{Constraint, Full, Mismatch}
use Rattle.eng_value.specs.declared.cause.ConstraintKind.TheVariants.{Unique}
use Rattle.eng_value.specs.declared.out.Out.{Out}
use Rattle.eng_value.specs.declared.out.Out.TheVariants.{Good}
use Rattle.eng_value.specs.declared.value.Value.TheVariants.{Integer}
use Rattle.vm_code.specs.declared.op.Op.{Op}
use Rattle.vm_code.specs.declared.op.Op.TheVariants as op
use Rattle.vm_code.specs.declared.operand.Operand.{Operand}
use Rattle.vm_code.specs.declared.operand.Operand.TheVariants as operand
use Rattle.vm_code.specs.declared.program.Unit.{Unit}
use Rattle.vm_code.specs.declared.schema_change.SchemaChange.{SchemaChange}
use Rattle.vm_code.specs.declared.schema_change.SchemaChange.TheVariants.{AddTable, DropTable}
use Rattle.vm_code.specs.Machine.{World, rows_of, row_under, row_behind, put_row, is_free, Cursor, Closed, Open, Chosen, Holding, Standing, Sorted, Frame, State, Ending, Finished, Failed, Leaving, Halts, GivesUp, Setting, Next, On, End, act, step, go_on, after, code_of, unit_at, read, put, skip, jump, operand_of, outs_from, integer_in, row_in, is_missing, is_integer, skip_if, standing_on, jump_if, is_accepted, is_rejected, is_null, is_known, is_bad, range_in, rewound, rewound_to, rowids_of, searched, searched_to, conflicted, conflicted_to, built, advanced, advanced_to, sought, sought_to, some_rowid, sorted_to, dropped, dropped_to, comes_before, first_sorted, columns_from, put_all, last_list, other_lists, with_lists, drawn, with_row, with_schema, with_cursor, with_cursors, inserted, wrote, called, frame_of, returned, resumed, given_up, leads_to, leaving_of, closed_from, current, cursor_at, cursor_rows, row_read, world_of}
use Rattle.vm_code.proofs.Drafts.{get-append, get-set, get-set_other}
use Rattle.vm_code.proofs.Rows.{All-cons, All-head, All-tail}
use Rattle.vm_code.specs.Reading.{opened_by, OpensOnly, IsIn, AreIn, StaysIn, Agree, shared_over, over, Alike}

module _ (tables : List ℕ) where
  -- ---- worlds that agree

  agree_rows : (w v : World) (t : ℕ) → Contains tables t → Agree tables w v → rows_of w t ≡ rows_of v t
  agree_rows w v t inside same =
      let x = same t inside in get_or_from_slice_get w t x.0 [] x.1 ∙ sym (get_or_from_slice_get v t x.0 [] x.2)

  agree_there : (w v : World) (t : ℕ) → Contains tables t → Agree tables w v → (nat_lt t (length w) ≡ true) × (nat_lt t (length v) ≡ true)
  agree_there w v t inside same =
      let x = same t inside in (lt-ltb t (length w) (slice_get_within w t x.0 x.1), lt-ltb t (length v) (slice_get_within v t x.0 x.2))

  agree_set : (w v : World) (t : ℕ) (rows : List StoredRow) → Agree tables w v → Agree tables (slice_set w t rows) (slice_set v t rows)
  agree_set w v t rows same k known =
      ⊎_elim (λ lt. other (omega arith)) (λ le. ⊎_elim (λ lt. other (omega arith)) (λ le2. at (omega arith)) (cases_lt t k)) (cases_lt k t)
    where
      other : k ≢ t → (l : List StoredRow) × (slice_get (slice_set w t rows) k ≡ Some l) × (slice_get (slice_set v t rows) k ≡ Some l)
      other ne = let x = same k known in (x.0, get-set_other w t k rows x.0 ne x.1, get-set_other v t k rows x.0 ne x.2)

      at : k ≡ t → (l : List StoredRow) × (slice_get (slice_set w t rows) k ≡ Some l) × (slice_get (slice_set v t rows) k ≡ Some l)
      at e =
          let x = same t (subst (Contains tables) e known) in
          (rows, ap (slice_get (slice_set w t rows)) e ∙ get-set w t rows (slice_get_within w t x.0 x.1), ap (slice_get (slice_set v t rows)) e ∙ get-set v t rows (slice_get_within v t x.0 x.2))

  agree_push : (w v : World) (rows : List StoredRow) → Agree tables w v → Agree tables (w ++ rows ∷ []) (v ++ rows ∷ [])
  agree_push w v rows same k known =
      let x = same k known in (x.0, get-append w (rows ∷ []) k x.0 x.1, get-append v (rows ∷ []) k x.0 x.2)

  -- ---- cursors that stay in the tables

  set_in : (xs : List Cursor) (c : ℕ) (x : Cursor) → AreIn tables xs → IsIn tables x → AreIn tables (slice_set xs c x)
  set_in [] c x all one k = all k
  set_in (y ∷ ys) zero x all one zero = one
  set_in (y ∷ ys) zero x all one (suc k) = all (suc k)
  set_in (y ∷ ys) (suc c) x all one zero = all zero
  set_in (y ∷ ys) (suc c) x all one (suc k) = set_in ys c x (λ j. all (suc j)) one k

  closed_from_in : (c : ℕ) (xs : List Cursor) → AreIn tables xs → AreIn tables (closed_from c xs)
  closed_from_in zero [] all k = all k
  closed_from_in (suc c) [] all k = all k
  closed_from_in zero (x ∷ xs) all zero = tt
  closed_from_in zero (x ∷ xs) all (suc k) = closed_from_in zero xs (λ j. all (suc j)) k
  closed_from_in (suc c) (x ∷ xs) all zero = all zero
  closed_from_in (suc c) (x ∷ xs) all (suc k) = closed_from_in c xs (λ j. all (suc j)) k

  closed_in : (n k : ℕ) → IsIn tables (cursor_at (replicate n Closed) k)
  closed_in zero k = tt
  closed_in (suc n) zero = tt
  closed_in (suc n) (suc k) = closed_in n k

  -- ---- one instruction

  module _ (m : Setting) (s : State) (v : World) (stays : StaysIn tables s) (same : Agree tables (world_of s.shared) v) where
    abbrev w : World
    w = world_of s.shared

    -- a state that differs in neither cursors nor tables
    goes : (pc : ℕ) (regs : List Out) → StaysIn tables (record s { pc = pc; regs = regs })
    goes pc regs = record { cursors = stays.cursors; stack = stays.stack }

    put_alike : (r : ℕ) (a b : Out) → b ≡ a → Alike tables (put s r a) (put (over v s) r b)
    put_alike r a b e =
        (v, ap (λ o. over v (record s { pc = s.pc + 1; regs = slice_set s.regs r o })) e, same, goes (s.pc + 1) (slice_set s.regs r a))

    skip_alike : Alike tables (skip s) (skip (over v s))
    skip_alike = (v, refl, same, goes (s.pc + 1) s.regs)

    jump_alike : (target : ℕ) → Alike tables (jump s target) (jump (over v s) target)
    jump_alike target = (v, refl, same, goes target s.regs)

    jump_if_alike : (b : Bool) (target : ℕ) → Alike tables (jump_if b s target) (jump_if b (over v s) target)
    jump_if_alike true target = jump_alike target
    jump_if_alike false target = skip_alike

    -- with other cursors
    moves : (pc : ℕ) (cursors : List Cursor) → AreIn tables cursors → StaysIn tables (record (with_cursors s cursors) { pc = pc })
    moves pc cursors all = record { cursors = all; stack = stays.stack }

    cursors_alike : (pc : ℕ) (cursors : List Cursor) → AreIn tables cursors → Alike tables (On (record (with_cursors s cursors) { pc = pc })) (On (record (with_cursors (over v s) cursors) { pc = pc }))
    cursors_alike pc cursors all = (v, refl, same, moves pc cursors all)

    move_alike : (pc c : ℕ) (x : Cursor) → IsIn tables x → Alike tables (On (record (with_cursor s c x) { pc = pc })) (On (record (with_cursor (over v s) c x) { pc = pc }))
    move_alike pc c x one = cursors_alike pc (slice_set s.scene.cursors c x) (set_in s.scene.cursors c x stays.cursors one)

    current_alike : (x : Cursor) → IsIn tables x → current v x ≡ current w x
    current_alike Closed inside = refl
    current_alike (Open t None) inside = refl
    current_alike (Open t (Some n)) inside = ap (λ rows. row_read (row_under rows n)) (sym (agree_rows w v t inside same))
    current_alike (Chosen t n rest) inside = ap (λ rows. row_read (row_under rows n)) (sym (agree_rows w v t inside same))
    current_alike (Holding rows) inside = refl
    current_alike (Standing row rest) inside = refl
    current_alike (Sorted rows) inside = refl

    cursor_rows_alike : (x : Cursor) → IsIn tables x → cursor_rows v x ≡ cursor_rows w x
    cursor_rows_alike Closed inside = refl
    cursor_rows_alike (Open t place) inside = sym (agree_rows w v t inside same)
    cursor_rows_alike (Chosen t n rest) inside = sym (agree_rows w v t inside same)
    cursor_rows_alike (Holding rows) inside = refl
    cursor_rows_alike (Standing row rest) inside = refl
    cursor_rows_alike (Sorted rows) inside = refl

    operand_alike : (o : Operand) → operand_of m (over v s) o ≡ operand_of m s o
    operand_alike (operand.Register r) = refl
    operand_alike (operand.Constant out) = refl
    operand_alike (operand.Parameter k) = refl
    operand_alike (operand.Argument k) = refl
    operand_alike (operand.Column c k) = ap (λ row. column_of row k) (current_alike (cursor_at s.scene.cursors c) (stays.cursors c))
    operand_alike (operand.Rowid c) = ap (λ (row : ItemRow). row.rowid) (current_alike (cursor_at s.scene.cursors c) (stays.cursors c))

    operands_alike : (os : List Operand) → map (operand_of m (over v s)) os ≡ map (operand_of m s) os
    operands_alike [] = refl
    operands_alike (o ∷ os) = ap (λ a. a ∷ map (operand_of m (over v s)) os) (operand_alike o) ∙ ap (λ l. operand_of m s o ∷ l) (operands_alike os)

    rewound_to_alike : (c target t : ℕ) (rows : List StoredRow) → Contains tables t → Alike tables (rewound_to s c target t rows) (rewound_to (over v s) c target t rows)
    rewound_to_alike c target t [] inside = move_alike target c (Open t None) inside
    rewound_to_alike c target t (r ∷ rs) inside = move_alike (s.pc + 1) c (Open t (Some r.rowid)) inside

    rewound_alike : (x : Cursor) (c target : ℕ) → IsIn tables x → Alike tables (rewound x s c target) (rewound x (over v s) c target)
    rewound_alike Closed c target inside = jump_alike target
    rewound_alike (Open t place) c target inside =
        subst (λ rows. Alike tables (rewound_to s c target t (rows_of w t)) (rewound_to (over v s) c target t rows)) (agree_rows w v t inside same) (rewound_to_alike c target t (rows_of w t) inside)
    rewound_alike (Chosen t n rest) c target inside =
        subst (λ rows. Alike tables (rewound_to s c target t (rows_of w t)) (rewound_to (over v s) c target t rows)) (agree_rows w v t inside same) (rewound_to_alike c target t (rows_of w t) inside)
    rewound_alike (Holding rows) c target inside = jump_alike target
    rewound_alike (Standing row rest) c target inside = jump_alike target
    rewound_alike (Sorted rows) c target inside = jump_alike target

    searched_to_alike : (c target t : ℕ) (rows : List StoredRow) → Contains tables t → Alike tables (searched_to s c target t rows) (searched_to (over v s) c target t rows)
    searched_to_alike c target t [] inside = move_alike target c (Open t None) inside
    searched_to_alike c target t (r ∷ rs) inside = move_alike (s.pc + 1) c (Chosen t r.rowid (rowids_of rs)) inside

    table_searched_alike : (c target t : ℕ) (terms : List KeyTerm) (range : Range) → Contains tables t → Alike tables (searched_to s c target t (found terms range (rows_of w t))) (searched_to (over v s) c target t (found terms range (rows_of v t)))
    table_searched_alike c target t terms range inside =
        subst (λ rows. Alike tables (searched_to s c target t (found terms range (rows_of w t))) (searched_to (over v s) c target t (found terms range rows))) (agree_rows w v t inside same) (searched_to_alike c target t (found terms range (rows_of w t)) inside)

    conflicted_to_alike : (c target t : ℕ) (o : Option StoredRow) → Contains tables t → Alike tables (conflicted_to s c target t o) (conflicted_to (over v s) c target t o)
    conflicted_to_alike c target t None inside = jump_alike target
    conflicted_to_alike c target t (Some r) inside = move_alike (s.pc + 1) c (Open t (Some r.rowid)) inside

    table_conflicted_alike : (c target t : ℕ) (keys : List (List KeyTerm)) (row : StoredRow) → Contains tables t → Alike tables (conflicted_to s c target t (row_in_way keys (rows_of w t) row)) (conflicted_to (over v s) c target t (row_in_way keys (rows_of v t) row))
    table_conflicted_alike c target t keys row inside =
        subst (λ rows. Alike tables (conflicted_to s c target t (row_in_way keys (rows_of w t) row)) (conflicted_to (over v s) c target t (row_in_way keys rows row))) (agree_rows w v t inside same) (conflicted_to_alike c target t (row_in_way keys (rows_of w t) row) inside)

    conflicted_alike : (x : Cursor) (c target : ℕ) (keys : List (List KeyTerm)) (row : StoredRow) → IsIn tables x → Alike tables (conflicted x s c target keys row) (conflicted x (over v s) c target keys row)
    conflicted_alike Closed c target keys row inside = jump_alike target
    conflicted_alike (Open t place) c target keys row inside = table_conflicted_alike c target t keys row inside
    conflicted_alike (Chosen t n rest) c target keys row inside = table_conflicted_alike c target t keys row inside
    conflicted_alike (Holding rows) c target keys row inside = jump_alike target
    conflicted_alike (Standing x rest) c target keys row inside = jump_alike target
    conflicted_alike (Sorted rows) c target keys row inside = jump_alike target

    searched_alike : (x : Cursor) (c target : ℕ) (terms : List KeyTerm) (range : Range) → IsIn tables x → Alike tables (searched x s c target terms range) (searched x (over v s) c target terms range)
    searched_alike Closed c target terms range inside = jump_alike target
    searched_alike (Open t place) c target terms range inside = table_searched_alike c target t terms range inside
    searched_alike (Chosen t n rest) c target terms range inside = table_searched_alike c target t terms range inside
    searched_alike (Holding rows) c target terms range inside = jump_alike target
    searched_alike (Standing row rest) c target terms range inside = jump_alike target
    searched_alike (Sorted rows) c target terms range inside = jump_alike target

    advanced_to_alike : (c target t : ℕ) (r : Option StoredRow) → Contains tables t → Alike tables (advanced_to s c target t r) (advanced_to (over v s) c target t r)
    advanced_to_alike c target t None inside = move_alike (s.pc + 1) c (Open t None) inside
    advanced_to_alike c target t (Some r) inside = move_alike target c (Open t (Some r.rowid)) inside

    advanced_alike : (x : Cursor) (c target : ℕ) → IsIn tables x → Alike tables (advanced x s c target) (advanced x (over v s) c target)
    advanced_alike Closed c target inside = skip_alike
    advanced_alike (Open t None) c target inside = skip_alike
    advanced_alike (Open t (Some n)) c target inside =
        subst (λ rows. Alike tables (advanced_to s c target t (row_behind (rows_of w t) n)) (advanced_to (over v s) c target t (row_behind rows n))) (agree_rows w v t inside same) (advanced_to_alike c target t (row_behind (rows_of w t) n) inside)
    advanced_alike (Chosen t n []) c target inside = move_alike (s.pc + 1) c (Open t None) inside
    advanced_alike (Chosen t n (next ∷ rest)) c target inside = move_alike target c (Chosen t next rest) inside
    advanced_alike (Holding rows) c target inside = skip_alike
    advanced_alike (Standing row []) c target inside = move_alike (s.pc + 1) c Closed tt
    advanced_alike (Standing row (next ∷ rest)) c target inside = move_alike target c (Standing next rest) tt
    advanced_alike (Sorted rows) c target inside = skip_alike

    found_in : (t : ℕ) (n : ℤ) (b : Bool) → Contains tables t → IsIn tables (if b then Open t None else Open t (Some n))
    found_in t n true inside = inside
    found_in t n false inside = inside

    sought_to_alike : (c t : ℕ) (n : Option ℤ) → Contains tables t → Alike tables (sought_to s c t n) (sought_to (over v s) c t n)
    sought_to_alike c t None inside = move_alike (s.pc + 1) c (Open t None) inside
    sought_to_alike c t (Some n) inside =
        subst (λ rows. Alike tables (sought_to s c t (Some n)) (skip (with_cursor (over v s) c (if is_missing rows n then Open t None else Open t (Some n))))) (agree_rows w v t inside same) (move_alike (s.pc + 1) c (if is_missing (rows_of w t) n then Open t None else Open t (Some n)) (found_in t n (is_missing (rows_of w t) n) inside))

    sought_alike : (x : Cursor) (c : ℕ) (n : Option ℤ) → IsIn tables x → Alike tables (sought x s c n) (sought x (over v s) c n)
    sought_alike Closed c n inside = skip_alike
    sought_alike (Open t place) c n inside = sought_to_alike c t n inside
    sought_alike (Chosen t place rest) c n inside = sought_to_alike c t n inside
    sought_alike (Holding rows) c n inside = skip_alike
    sought_alike (Standing row rest) c n inside = skip_alike
    sought_alike (Sorted rows) c n inside = skip_alike

    -- a cursor on a sorter's rows, which are no table's
    lists_alike : (pc c : ℕ) (rows : List ItemRow) (lists : List (List ItemRow)) → Alike tables (On (record (with_cursor (with_lists s lists) c (Sorted rows)) { pc = pc })) (On (record (with_cursor (with_lists (over v s) lists) c (Sorted rows)) { pc = pc }))
    lists_alike pc c rows lists =
        (v, refl, same, record { cursors = set_in s.scene.cursors c (Sorted rows) stays.cursors tt; stack = stays.stack })

    sorted_to_alike : (c target : ℕ) (rows : List ItemRow) (lists : List (List ItemRow)) → Alike tables (sorted_to (with_lists s lists) c target rows) (sorted_to (with_lists (over v s) lists) c target rows)
    sorted_to_alike c target [] lists = lists_alike target c [] lists
    sorted_to_alike c target (row ∷ rest) lists = lists_alike (s.pc + 1) c (row ∷ rest) lists

    dropped_to_alike : (c target : ℕ) (rows : List ItemRow) → Alike tables (dropped_to s c target rows) (dropped_to (over v s) c target rows)
    dropped_to_alike c target [] = skip_alike
    dropped_to_alike c target (row ∷ []) = move_alike (s.pc + 1) c (Sorted []) tt
    dropped_to_alike c target (row ∷ next ∷ rest) = move_alike target c (Sorted (next ∷ rest)) tt

    dropped_alike : (x : Cursor) (c target : ℕ) → Alike tables (dropped x s c target) (dropped x (over v s) c target)
    dropped_alike Closed c target = skip_alike
    dropped_alike (Open t place) c target = skip_alike
    dropped_alike (Chosen t n rest) c target = skip_alike
    dropped_alike (Holding rows) c target = skip_alike
    dropped_alike (Standing row rest) c target = skip_alike
    dropped_alike (Sorted rows) c target = dropped_to_alike c target rows

    resumed_alike : (f : Frame) (fs : List Frame) (results : List Out) → s.stack ≡ f ∷ fs → Alike tables (On (resumed f fs s.shared results)) (On (resumed f fs (shared_over v s.shared) results))
    resumed_alike f fs results e =
        let frames : All (λ (f : Frame). AreIn tables f.scene.cursors) (f ∷ fs) = subst (All (λ (f : Frame). AreIn tables f.scene.cursors)) e stays.stack in
        (v, refl, same, record { cursors = All-head (λ (f : Frame). AreIn tables f.scene.cursors) f fs frames; stack = All-tail (λ (f : Frame). AreIn tables f.scene.cursors) f fs frames })

    end_alike : (e : Ending) → Alike tables (End e s.shared) (End e (shared_over v s.shared))
    end_alike e = (v, refl, refl, same)

    either_alike : (b : Bool) (n n' k k' : Next) → Alike tables n n' → Alike tables k k' → Alike tables (if b then n else k) (if b then n' else k')
    either_alike true n n' k k' x y = x
    either_alike false n n' k k' x y = y

    given_up_alike : (fs : List Frame) (causes : CauseSet) → s.stack ≡ fs → Alike tables (given_up fs s.shared causes) (given_up fs (shared_over v s.shared) causes)
    given_up_alike [] causes e = end_alike (Failed (named causes))
    given_up_alike (f ∷ fs) causes e =
        either_alike (is_skip causes) _ _ _ _ (resumed_alike f fs (Good (Integer (pos 1)) ∷ []) e) (end_alike (Failed (named causes)))

    skip_if_alike : (b : Bool) (causes : CauseSet) → Alike tables (skip_if b s causes) (skip_if b (over v s) causes)
    skip_if_alike true causes = skip_alike
    skip_if_alike false causes = given_up_alike s.stack causes refl

    built_alike : (unique : Option (List ℕ)) (terms : List KeyTerm) (rows : List StoredRow) → Alike tables (built s unique terms rows) (built (over v s) unique terms rows)
    built_alike None terms rows = skip_alike
    built_alike (Some table) terms rows = skip_if_alike (not (has_doubles terms rows)) (only (Constraint Unique table))

    leads_to_alike : (o : Leaving) → Alike tables (leads_to o s.stack s.shared) (leads_to o s.stack (shared_over v s.shared))
    leads_to_alike Halts = end_alike Finished
    leads_to_alike (GivesUp causes) = given_up_alike s.stack causes refl

    returned_alike : (fs : List Frame) (results : List Out) → s.stack ≡ fs → Alike tables (returned fs s.shared results) (returned fs (shared_over v s.shared) results)
    returned_alike [] results e = end_alike Finished
    returned_alike (f ∷ fs) results e = resumed_alike f fs results e

    called_alike : (x : Option Unit) (u : ℕ) (args : List Out) (to : ℕ) → Alike tables (called x s u args to) (called x (over v s) u args to)
    called_alike None u args to = put_alike to _ _ refl
    called_alike (Some x) u args to =
        (v, refl, same, record { cursors = λ k. closed_in x.cursors k; stack = All-cons (λ (f : Frame). AreIn tables f.scene.cursors) (frame_of s to) s.stack stays.cursors stays.stack })

    drawn_alike : (r : ℕ) (name : List ℕ) (n : Option ℤ) → Alike tables (drawn s r name n) (drawn (over v s) r name n)
    drawn_alike r name None = given_up_alike s.stack (only (Full name)) refl
    drawn_alike r name (Some n) = put_alike r _ _ refl

    -- what is written to tables that agree
    wrote_alike : (x : Written) (v2 : World) → Agree tables x.world v2 → Alike tables (wrote s x) (wrote (over v s) (record x { world = v2 }))
    wrote_alike x v2 agree = (v2, refl, agree, record { cursors = stays.cursors; stack = stays.stack })

    free_alike : (t : ℕ) (n : ℤ) → Contains tables t → is_free v t n ≡ is_free w t n
    free_alike t n inside =
        let there = agree_there w v t inside same in
        ap (λ b. b && not (is_some (row_under (rows_of v t) n))) (there.1 ∙ sym there.0)
        ∙ ap (λ rows. nat_lt t (length w) && not (is_some (row_under rows n))) (sym (agree_rows w v t inside same))

    with_row_alike : (t : ℕ) (r : StoredRow) → Contains tables t → Alike tables (wrote s (with_row s.shared.written t r)) (wrote (over v s) (with_row (record s.shared.written { world = v }) t r))
    with_row_alike t r inside = by (is_free w t r.rowid) refl (is_free v t r.rowid) refl
      where
        rows_put : Alike tables (wrote s (record s.shared.written { world = slice_set w t (put_row (rows_of w t) r); changes = s.shared.written.changes + 1; last_rowid = r.rowid })) (wrote (over v s) (record s.shared.written { world = slice_set v t (put_row (rows_of v t) r); changes = s.shared.written.changes + 1; last_rowid = r.rowid }))
        rows_put =
            subst (λ rows. Alike tables (wrote s (record s.shared.written { world = slice_set w t (put_row (rows_of w t) r); changes = s.shared.written.changes + 1; last_rowid = r.rowid })) (wrote (over v s) (record s.shared.written { world = slice_set v t (put_row rows r); changes = s.shared.written.changes + 1; last_rowid = r.rowid }))) (agree_rows w v t inside same) (wrote_alike (record s.shared.written { world = slice_set w t (put_row (rows_of w t) r); changes = s.shared.written.changes + 1; last_rowid = r.rowid }) (slice_set v t (put_row (rows_of w t) r)) (agree_set w v t (put_row (rows_of w t) r) same))

        by : (b : Bool) → is_free w t r.rowid ≡ b → (c : Bool) → is_free v t r.rowid ≡ c → Alike tables (wrote s (if b then record s.shared.written { world = slice_set w t (put_row (rows_of w t) r); changes = s.shared.written.changes + 1; last_rowid = r.rowid } else s.shared.written)) (wrote (over v s) (if c then record s.shared.written { world = slice_set v t (put_row (rows_of v t) r); changes = s.shared.written.changes + 1; last_rowid = r.rowid } else record s.shared.written { world = v }))
        by true e true f = rows_put
        by false e false f = wrote_alike s.shared.written v same
        by true e false f = absurd (let both : true ≡ false = sym e ∙ sym (free_alike t r.rowid inside) ∙ f in cc)
        by false e true f = absurd (let both : false ≡ true = sym e ∙ sym (free_alike t r.rowid inside) ∙ f in cc)

    inserted_alike : (x : Cursor) (r : StoredRow) → IsIn tables x → Alike tables (wrote s (inserted x s.shared.written r)) (wrote (over v s) (inserted x (record s.shared.written { world = v }) r))
    inserted_alike Closed r inside = wrote_alike s.shared.written v same
    inserted_alike (Open t place) r inside = with_row_alike t r inside
    inserted_alike (Chosen t n rest) r inside = with_row_alike t r inside
    inserted_alike (Holding rows) r inside = wrote_alike s.shared.written v same
    inserted_alike (Standing row rest) r inside = wrote_alike s.shared.written v same
    inserted_alike (Sorted rows) r inside = wrote_alike s.shared.written v same

    -- a table that loses its rows may be one that the program does not open
    schema_alike : (change : SchemaChange) → Alike tables (wrote s (with_schema change s.shared.written)) (wrote (over v s) (with_schema change (record s.shared.written { world = v })))
    schema_alike AddTable = wrote_alike (with_schema AddTable s.shared.written) (v ++ [] ∷ []) (agree_push w v [] same)
    schema_alike (DropTable t) = wrote_alike (with_schema (DropTable t) s.shared.written) (slice_set v t []) (agree_set w v t [] same)

    act_alike : (o : Op) → All (Contains tables) (opened_by o) → Alike tables (act m (Some o) s) (act m (Some o) (over v s))
    act_alike (op.Goto target) opens = jump_alike target
    act_alike (op.If r target on_null) opens = jump_if_alike (is_accepted on_null (read s.regs r)) target
    act_alike (op.IfNot r target on_null) opens = jump_if_alike (is_rejected on_null (read s.regs r)) target
    act_alike (op.IsNull r target) opens = jump_if_alike (is_null (read s.regs r)) target
    act_alike (op.NotNull r target) opens = jump_if_alike (is_known (read s.regs r)) target
    act_alike (op.IsBad r target) opens = jump_if_alike (is_bad (read s.regs r)) target
    act_alike op.Halt opens = end_alike Finished
    act_alike (op.HaltBad r) opens = leads_to_alike (leaving_of (read s.regs r))
    act_alike (op.Call u first n to) opens = called_alike (unit_at m.prog u) u (outs_from s.regs first n) to
    act_alike (op.Ret first n) opens = returned_alike s.stack (outs_from s.regs first n) refl
    act_alike (op.Argument k to) opens = put_alike to _ _ refl
    act_alike (op.ResultRow first n) opens = (v, refl, same, record { cursors = stays.cursors; stack = stays.stack })
    act_alike (op.Null to) opens = put_alike to _ _ refl
    act_alike (op.Integer n to) opens = put_alike to _ _ refl
    act_alike (op.String8 text to) opens = put_alike to _ _ refl
    act_alike (op.Blob bytes to) opens = put_alike to _ _ refl
    act_alike (op.Bad cause to) opens = put_alike to _ _ refl
    act_alike (op.Variable k to) opens = put_alike to _ _ refl
    act_alike (op.Copy from to) opens = put_alike to _ _ refl
    act_alike (op.Affinity r affinity) opens = put_alike r _ _ refl
    act_alike (op.Beside r other own) opens = put_alike r _ _ refl
    act_alike (op.MustBeInt r) opens = skip_if_alike (is_integer (read s.regs r)) (only Mismatch)
    act_alike (op.Unary o a to) opens = put_alike to _ _ (ap (unary_of o) (operand_alike a))
    act_alike (op.Binary o a b to) opens =
        put_alike to _ _ (ap (λ x. binary_of (keys_of m.hosts) o x (operand_of m (over v s) b)) (operand_alike a) ∙ ap (binary_of (keys_of m.hosts) o (operand_of m s a)) (operand_alike b))
    act_alike (op.LikeEscaped a b c to) opens =
        put_alike to _ _ (ap (λ x. like_escaped_of x (operand_of m (over v s) b) (operand_of m (over v s) c)) (operand_alike a) ∙ ap (λ x. like_escaped_of (operand_of m s a) x (operand_of m (over v s) c)) (operand_alike b) ∙ ap (like_escaped_of (operand_of m s a) (operand_of m s b)) (operand_alike c))
    act_alike (op.Function f collation args to) opens =
        put_alike to _ _ (ap (function_by (value_keys (keys_of m.hosts)) f collation) (operands_alike args))
    act_alike (op.Merge from to) opens = put_alike to _ _ refl
    act_alike (op.OpenRead c t) opens = move_alike (s.pc + 1) c (Open t None) (All-head (Contains tables) t [] opens)
    act_alike (op.OpenWrite c t) opens = move_alike (s.pc + 1) c (Open t None) (All-head (Contains tables) t [] opens)
    act_alike (op.RowOf c rowid first n) opens = move_alike (s.pc + 1) c (standing_on (row_in s.regs rowid first n)) tt
    act_alike (op.Close c) opens = move_alike (s.pc + 1) c Closed tt
    act_alike (op.CloseFrom c) opens = cursors_alike (s.pc + 1) (closed_from c s.scene.cursors) (closed_from_in c s.scene.cursors stays.cursors)
    act_alike (op.Rewind c target) opens = rewound_alike (cursor_at s.scene.cursors c) c target (stays.cursors c)
    act_alike (op.Next c target) opens = advanced_alike (cursor_at s.scene.cursors c) c target (stays.cursors c)
    act_alike (op.Search c terms bounds first target) opens =
        searched_alike (cursor_at s.scene.cursors c) c target terms (range_in s.regs first bounds) (stays.cursors c)
    act_alike (op.SeekRowid c rowid) opens =
        sought_alike (cursor_at s.scene.cursors c) c (some_rowid s.regs rowid) (stays.cursors c)
    act_alike (op.SorterOpen c) opens = lists_alike (s.pc + 1) c [] ([] ∷ s.store.lists)
    act_alike (op.SorterInsert first n) opens = (v, refl, same, record { cursors = stays.cursors; stack = stays.stack })
    act_alike (op.SorterSort c terms target) opens =
        sorted_to_alike c target (arranged (comes_before terms) (last_list s.store.lists)) (other_lists s.store.lists)
    act_alike (op.SorterData c first n) opens =
        (v, refl, same, goes (s.pc + 1) (put_all s.regs first (columns_from (first_sorted (cursor_at s.scene.cursors c)) 0 n)))
    act_alike (op.SorterNext c target) opens = dropped_alike (cursor_at s.scene.cursors c) c target
    act_alike (op.Column c k to) opens =
        put_alike to _ _ (ap (λ row. column_of row k) (current_alike (cursor_at s.scene.cursors c) (stays.cursors c)))
    act_alike (op.Rowid c to) opens =
        put_alike to _ _ (ap (λ (row : ItemRow). row.rowid) (current_alike (cursor_at s.scene.cursors c) (stays.cursors c)))
    act_alike (op.NoConflict c rowid first n keys target) opens =
        conflicted_alike (cursor_at s.scene.cursors c) c target keys (row_in s.regs rowid first n) (stays.cursors c)
    act_alike (op.NotExists c rowid target) opens =
        subst (λ rows. Alike tables (jump_if (is_missing (cursor_rows w (cursor_at s.scene.cursors c)) (integer_in s.regs rowid)) s target) (jump_if (is_missing rows (integer_in s.regs rowid)) (over v s) target)) (sym (cursor_rows_alike (cursor_at s.scene.cursors c) (stays.cursors c))) (jump_if_alike (is_missing (cursor_rows w (cursor_at s.scene.cursors c)) (integer_in s.regs rowid)) target)
    act_alike (op.NewRowid c to name) opens =
        subst (λ rows. Alike tables (drawn s to name (next_rowid (cursor_rows w (cursor_at s.scene.cursors c)))) (drawn (over v s) to name (next_rowid rows))) (sym (cursor_rows_alike (cursor_at s.scene.cursors c) (stays.cursors c))) (drawn_alike to name (next_rowid (cursor_rows w (cursor_at s.scene.cursors c))))
    act_alike (op.Insert c rowid first n) opens =
        inserted_alike (cursor_at s.scene.cursors c) (row_in s.regs rowid first n) (stays.cursors c)
    act_alike (op.BuildIndex c terms unique) opens =
        subst (λ rows. Alike tables (built s unique terms (cursor_rows w (cursor_at s.scene.cursors c))) (built (over v s) unique terms rows)) (sym (cursor_rows_alike (cursor_at s.scene.cursors c) (stays.cursors c))) (built_alike unique terms (cursor_rows w (cursor_at s.scene.cursors c)))
    act_alike (op.Schema change) opens = schema_alike change

    step_alike : OpensOnly tables m.prog → Alike tables (step m s) (step m (over v s))
    step_alike only_these = by (slice_get (code_of m.prog s.unit) s.pc) refl
      where
        by : (o : Option Op) → slice_get (code_of m.prog s.unit) s.pc ≡ o → Alike tables (act m o s) (act m o (over v s))
        by None e = end_alike Finished
        by (Some o) e = act_alike o (only_these s.unit s.pc o e)

  -- ---- a whole run

  go_on_alike : (m : Setting) (n : ℕ) (x y : Next) → ((s : State) (v : World) → StaysIn tables s → Agree tables (world_of s.shared) v → Alike tables (after m n s) (after m n (over v s))) → Alike tables x y → Alike tables (go_on x (after m n)) (go_on y (after m n))
  go_on_alike m n (On s) (On t) ih (v, is, same, stays) = subst (λ t. Alike tables (after m n s) (after m n t)) (sym is) (ih s v stays same)
  go_on_alike m n (End e x) (End f y) ih alike = alike
  go_on_alike m n (On s) (End f y) ih alike = absurd alike
  go_on_alike m n (End e x) (On t) ih alike = absurd alike

  after_alike : (m : Setting) → OpensOnly tables m.prog → (n : ℕ) (s : State) (v : World) → StaysIn tables s → Agree tables (world_of s.shared) v → Alike tables (after m n s) (after m n (over v s))
  after_alike m only_these zero s v stays same = (v, refl, same, stays)
  after_alike m only_these (suc n) s v stays same =
      go_on_alike m n (step m s) (step m (over v s)) (λ t u stays same. after_alike m only_these n t u stays same) (step_alike m s v stays same only_these)

pub reads_only_opened : (m : Setting) (tables : List ℕ) → OpensOnly tables m.prog → (n : ℕ) (s : State) (v : World) → StaysIn tables s → Agree tables (world_of s.shared) v → Alike tables (after m n s) (after m n (over v s))
reads_only_opened m tables only_these n s v stays same = after_alike tables m only_these n s v stays same
