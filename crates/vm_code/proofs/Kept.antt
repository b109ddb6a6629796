-- What every instruction keeps: that the tables are sound.
use Rattle.std.proofs.Common.{◌≡◌, ℕ, zero, suc, ◌+◌, ◌<◌, List, [], ◌∷◌, ◌++◌, Bool, true, false, not, Some, None, ℤ, nat_lt, length, is_some, if◌then◌else◌, refl, subst, arith, All, ltb-true}
use Rattle.std.specs.Prelude.{slice_get, slice_set}
use Rattle.std.specs.declared.option.Option.{Option}
use Rattle.std.proofs.lemmas.Bool.{and_parts}
use Rattle.eng_index.specs.Keys.{found, has_doubles, row_in_way}
use Rattle.eng_index.specs.declared.key_term.KeyTerm.{KeyTerm}
use Rattle.eng_index.specs.declared.range.Range.{Range}
use Rattle.eng_value.specs.Arrangements.{arranged}
use Rattle.eng_value.specs.Causes.{CauseSet, is_skip, only}
use Rattle.eng_value.specs.Environments.{ItemRow}
use Rattle.eng_value.specs.StoredRows.{StoredRow, IsAscending, next_rowid}
use Rattle.eng_value.specs.Written.{Written}
use Rattle.eng_value.specs.declared.cause.Cause.TheVariants.{Constraint, Full, Mismatch}
use Rattle.eng_value.specs.declared.cause.ConstraintKind.TheVariants.{Unique}
use Rattle.eng_value.specs.declared.out.Out.{Out}
use Rattle.vm_code.specs.declared.op.Op.{Op}
use Rattle.vm_code.specs.declared.op.Op.TheVariants as op
use Rattle.vm_code.specs.declared.program.Unit.{Unit}
use Rattle.vm_code.specs.declared.schema_change.SchemaChange.{SchemaChange}
use Rattle.vm_code.specs.declared.schema_change.SchemaChange.TheVariants.{AddTable, DropTable}
use Rattle.vm_code.specs.Machine.{Row, World, IsSound, rows_of, row_under, put_row, is_free, Cursor, Closed, Open, Chosen, Holding, Standing, Sorted, Shared, Frame, State, Setting, Next, On, End, Leaving, Halts, GivesUp, Reaches, act, step, go_on, after, code_of, unit_at, read, outs_from, values_from, integer_in, row_in, skip_if, is_missing, is_integer, jump_if, is_accepted, is_rejected, is_null, is_known, is_bad, range_in, rewound, rewound_to, searched, searched_to, conflicted, conflicted_to, built, advanced, advanced_to, sought, sought_to, some_rowid, sorted_to, dropped, dropped_to, comes_before, last_list, other_lists, with_lists, drawn, with_given, with_row, with_table, with_schema, inserted, called, returned, given_up, leads_to, leaving_of, cursor_at, cursor_rows, row_behind, world_of}
use Rattle.vm_code.proofs.Rows.{All-cons, All-nil, ascending_put, ascending_nil}

-- what is shared behind an instruction
abbrev pub shared_of : Next → Shared
shared_of (On s) = s.shared
shared_of (End e x) = x

-- ---- what giving a row, putting a row and changing the schema keep

module _ (P : Shared → Type 0) (given : (x : Shared) (r : Row) → P x → P (with_given x r)) (row : (x : Shared) (t : ℕ) (r : StoredRow) → P x → P (record x { written = with_row x.written t r })) (schema : (x : Shared × SchemaChange) → P x.0 → P (record x.0 { written = with_schema x.1 x.0.written })) where
  jump_keeps : (b : Bool) (s : State) (target : ℕ) → P s.shared → P (shared_of (jump_if b s target))
  jump_keeps true s target p = p
  jump_keeps false s target p = p

  called_keeps : (x : Option Unit) (s : State) (u : ℕ) (args : List Out) (to : ℕ) → P s.shared → P (shared_of (called x s u args to))
  called_keeps None s u args to p = p
  called_keeps (Some x) s u args to p = p

  returned_keeps : (fs : List Frame) (x : Shared) (results : List Out) → P x → P (shared_of (returned fs x results))
  returned_keeps [] x results p = p
  returned_keeps (f ∷ fs) x results p = p

  either_keeps : (b : Bool) (n k : Next) → P (shared_of n) → P (shared_of k) → P (shared_of (if b then n else k))
  either_keeps true n k p q = p
  either_keeps false n k p q = q

  given_up_keeps : (fs : List Frame) (x : Shared) (causes : CauseSet) → P x → P (shared_of (given_up fs x causes))
  given_up_keeps [] x causes p = p
  given_up_keeps (f ∷ fs) x causes p = either_keeps (is_skip causes) _ _ p p

  skip_if_keeps : (b : Bool) (s : State) (causes : CauseSet) → P s.shared → P (shared_of (skip_if b s causes))
  skip_if_keeps true s causes p = p
  skip_if_keeps false s causes p = given_up_keeps s.stack s.shared causes p

  leads_to_keeps : (o : Leaving) (fs : List Frame) (x : Shared) → P x → P (shared_of (leads_to o fs x))
  leads_to_keeps Halts fs x p = p
  leads_to_keeps (GivesUp causes) fs x p = given_up_keeps fs x causes p

  rewound_to_keeps : (s : State) (c target t : ℕ) (rows : List StoredRow) → P s.shared → P (shared_of (rewound_to s c target t rows))
  rewound_to_keeps s c target t [] p = p
  rewound_to_keeps s c target t (r ∷ rs) p = p

  rewound_keeps : (x : Cursor) (s : State) (c target : ℕ) → P s.shared → P (shared_of (rewound x s c target))
  rewound_keeps Closed s c target p = p
  rewound_keeps (Open t place) s c target p = rewound_to_keeps s c target t (rows_of (world_of s.shared) t) p
  rewound_keeps (Chosen t n rest) s c target p = rewound_to_keeps s c target t (rows_of (world_of s.shared) t) p
  rewound_keeps (Holding rows) s c target p = p
  rewound_keeps (Standing row rest) s c target p = p
  rewound_keeps (Sorted rows) s c target p = p

  searched_to_keeps : (s : State) (c target t : ℕ) (rows : List StoredRow) → P s.shared → P (shared_of (searched_to s c target t rows))
  searched_to_keeps s c target t [] p = p
  searched_to_keeps s c target t (r ∷ rs) p = p

  conflicted_to_keeps : (s : State) (c target t : ℕ) (o : Option StoredRow) → P s.shared → P (shared_of (conflicted_to s c target t o))
  conflicted_to_keeps s c target t None p = p
  conflicted_to_keeps s c target t (Some r) p = p

  conflicted_keeps : (x : Cursor) (s : State) (c target : ℕ) (keys : List (List KeyTerm)) (row : StoredRow) → P s.shared → P (shared_of (conflicted x s c target keys row))
  conflicted_keeps Closed s c target keys row p = p
  conflicted_keeps (Open t place) s c target keys row p = conflicted_to_keeps s c target t (row_in_way keys (rows_of (world_of s.shared) t) row) p
  conflicted_keeps (Chosen t n rest) s c target keys row p = conflicted_to_keeps s c target t (row_in_way keys (rows_of (world_of s.shared) t) row) p
  conflicted_keeps (Holding rows) s c target keys row p = p
  conflicted_keeps (Standing x rest) s c target keys row p = p
  conflicted_keeps (Sorted rows) s c target keys row p = p

  searched_keeps : (x : Cursor) (s : State) (c target : ℕ) (terms : List KeyTerm) (range : Range) → P s.shared → P (shared_of (searched x s c target terms range))
  searched_keeps Closed s c target terms range p = p
  searched_keeps (Open t place) s c target terms range p = searched_to_keeps s c target t (found terms range (rows_of (world_of s.shared) t)) p
  searched_keeps (Chosen t n rest) s c target terms range p = searched_to_keeps s c target t (found terms range (rows_of (world_of s.shared) t)) p
  searched_keeps (Holding rows) s c target terms range p = p
  searched_keeps (Standing row rest) s c target terms range p = p
  searched_keeps (Sorted rows) s c target terms range p = p

  built_keeps : (s : State) (unique : Option (List ℕ)) (terms : List KeyTerm) (rows : List StoredRow) → P s.shared → P (shared_of (built s unique terms rows))
  built_keeps s None terms rows p = p
  built_keeps s (Some table) terms rows p = skip_if_keeps (not (has_doubles terms rows)) s (only (Constraint Unique table)) p

  advanced_to_keeps : (s : State) (c target t : ℕ) (r : Option StoredRow) → P s.shared → P (shared_of (advanced_to s c target t r))
  advanced_to_keeps s c target t None p = p
  advanced_to_keeps s c target t (Some r) p = p

  advanced_keeps : (x : Cursor) (s : State) (c target : ℕ) → P s.shared → P (shared_of (advanced x s c target))
  advanced_keeps Closed s c target p = p
  advanced_keeps (Open t None) s c target p = p
  advanced_keeps (Open t (Some n)) s c target p = advanced_to_keeps s c target t (row_behind (rows_of (world_of s.shared) t) n) p
  advanced_keeps (Chosen t n []) s c target p = p
  advanced_keeps (Chosen t n (next ∷ rest)) s c target p = p
  advanced_keeps (Holding rows) s c target p = p
  advanced_keeps (Standing row []) s c target p = p
  advanced_keeps (Standing row (next ∷ rest)) s c target p = p
  advanced_keeps (Sorted rows) s c target p = p

  sought_to_keeps : (s : State) (c t : ℕ) (n : Option ℤ) → P s.shared → P (shared_of (sought_to s c t n))
  sought_to_keeps s c t None p = p
  sought_to_keeps s c t (Some n) p = p

  sought_keeps : (x : Cursor) (s : State) (c : ℕ) (n : Option ℤ) → P s.shared → P (shared_of (sought x s c n))
  sought_keeps Closed s c n p = p
  sought_keeps (Open t place) s c n p = sought_to_keeps s c t n p
  sought_keeps (Chosen t place rest) s c n p = sought_to_keeps s c t n p
  sought_keeps (Holding rows) s c n p = p
  sought_keeps (Standing row rest) s c n p = p
  sought_keeps (Sorted rows) s c n p = p

  sorted_to_keeps : (s : State) (c target : ℕ) (rows : List ItemRow) → P s.shared → P (shared_of (sorted_to s c target rows))
  sorted_to_keeps s c target [] p = p
  sorted_to_keeps s c target (row ∷ rest) p = p

  dropped_to_keeps : (s : State) (c target : ℕ) (rows : List ItemRow) → P s.shared → P (shared_of (dropped_to s c target rows))
  dropped_to_keeps s c target [] p = p
  dropped_to_keeps s c target (row ∷ []) p = p
  dropped_to_keeps s c target (row ∷ next ∷ rest) p = p

  dropped_keeps : (x : Cursor) (s : State) (c target : ℕ) → P s.shared → P (shared_of (dropped x s c target))
  dropped_keeps Closed s c target p = p
  dropped_keeps (Open t place) s c target p = p
  dropped_keeps (Chosen t n rest) s c target p = p
  dropped_keeps (Holding rows) s c target p = p
  dropped_keeps (Standing row rest) s c target p = p
  dropped_keeps (Sorted rows) s c target p = dropped_to_keeps s c target rows p

  drawn_keeps : (s : State) (r : ℕ) (name : List ℕ) (n : Option ℤ) → P s.shared → P (shared_of (drawn s r name n))
  drawn_keeps s r name None p = given_up_keeps s.stack s.shared (only (Full name)) p
  drawn_keeps s r name (Some n) p = p

  inserted_keeps : (x : Cursor) (y : Shared) (r : StoredRow) → P y → P (record y { written = inserted x y.written r })
  inserted_keeps Closed y r p = p
  inserted_keeps (Open t place) y r p = row y t r p
  inserted_keeps (Chosen t n rest) y r p = row y t r p
  inserted_keeps (Holding rows) y r p = p
  inserted_keeps (Standing at rest) y r p = p
  inserted_keeps (Sorted rows) y r p = p

  pub act_keeps : (m : Setting) (o : Option Op) (s : State) → P s.shared → P (shared_of (act m o s))
  act_keeps m None s p = p
  act_keeps m (Some (op.Goto target)) s p = p
  act_keeps m (Some (op.If r target on_null)) s p = jump_keeps (is_accepted on_null (read s.regs r)) s target p
  act_keeps m (Some (op.IfNot r target on_null)) s p = jump_keeps (is_rejected on_null (read s.regs r)) s target p
  act_keeps m (Some (op.IsNull r target)) s p = jump_keeps (is_null (read s.regs r)) s target p
  act_keeps m (Some (op.NotNull r target)) s p = jump_keeps (is_known (read s.regs r)) s target p
  act_keeps m (Some (op.IsBad r target)) s p = jump_keeps (is_bad (read s.regs r)) s target p
  act_keeps m (Some op.Halt) s p = p
  act_keeps m (Some (op.HaltBad r)) s p = leads_to_keeps (leaving_of (read s.regs r)) s.stack s.shared p
  act_keeps m (Some (op.Call u first n to)) s p = called_keeps (unit_at m.prog u) s u (outs_from s.regs first n) to p
  act_keeps m (Some (op.Ret first n)) s p = returned_keeps s.stack s.shared (outs_from s.regs first n) p
  act_keeps m (Some (op.Argument k to)) s p = p
  act_keeps m (Some (op.ResultRow first n)) s p = given s.shared (values_from s.regs first n) p
  act_keeps m (Some (op.Null to)) s p = p
  act_keeps m (Some (op.Integer n to)) s p = p
  act_keeps m (Some (op.String8 text to)) s p = p
  act_keeps m (Some (op.Blob bytes to)) s p = p
  act_keeps m (Some (op.Bad cause to)) s p = p
  act_keeps m (Some (op.Variable k to)) s p = p
  act_keeps m (Some (op.Copy from to)) s p = p
  act_keeps m (Some (op.Affinity r affinity)) s p = p
  act_keeps m (Some (op.Beside r other own)) s p = p
  act_keeps m (Some (op.MustBeInt r)) s p = skip_if_keeps (is_integer (read s.regs r)) s (only Mismatch) p
  act_keeps m (Some (op.Unary o a to)) s p = p
  act_keeps m (Some (op.Binary o a b to)) s p = p
  act_keeps m (Some (op.LikeEscaped a b c to)) s p = p
  act_keeps m (Some (op.Function f collation args to)) s p = p
  act_keeps m (Some (op.Merge from to)) s p = p
  act_keeps m (Some (op.OpenRead c t)) s p = p
  act_keeps m (Some (op.OpenWrite c t)) s p = p
  act_keeps m (Some (op.RowOf c rowid first n)) s p = p
  act_keeps m (Some (op.Close c)) s p = p
  act_keeps m (Some (op.CloseFrom c)) s p = p
  act_keeps m (Some (op.Rewind c target)) s p = rewound_keeps (cursor_at s.scene.cursors c) s c target p
  act_keeps m (Some (op.Next c target)) s p = advanced_keeps (cursor_at s.scene.cursors c) s c target p
  act_keeps m (Some (op.Search c terms bounds first target)) s p =
      searched_keeps (cursor_at s.scene.cursors c) s c target terms (range_in s.regs first bounds) p
  act_keeps m (Some (op.SeekRowid c rowid)) s p = sought_keeps (cursor_at s.scene.cursors c) s c (some_rowid s.regs rowid) p
  act_keeps m (Some (op.SorterOpen c)) s p = p
  act_keeps m (Some (op.SorterInsert first n)) s p = p
  act_keeps m (Some (op.SorterSort c terms target)) s p =
      sorted_to_keeps (with_lists s (other_lists s.store.lists)) c target (arranged (comes_before terms) (last_list s.store.lists)) p
  act_keeps m (Some (op.SorterData c first n)) s p = p
  act_keeps m (Some (op.SorterNext c target)) s p = dropped_keeps (cursor_at s.scene.cursors c) s c target p
  act_keeps m (Some (op.Column c k to)) s p = p
  act_keeps m (Some (op.Rowid c to)) s p = p
  act_keeps m (Some (op.NoConflict c rowid first n keys target)) s p =
      conflicted_keeps (cursor_at s.scene.cursors c) s c target keys (row_in s.regs rowid first n) p
  act_keeps m (Some (op.NotExists c rowid target)) s p =
      jump_keeps (is_missing (cursor_rows (world_of s.shared) (cursor_at s.scene.cursors c)) (integer_in s.regs rowid)) s target p
  act_keeps m (Some (op.NewRowid c to name)) s p = drawn_keeps s to name (next_rowid (cursor_rows (world_of s.shared) (cursor_at s.scene.cursors c))) p
  act_keeps m (Some (op.Insert c rowid first n)) s p = inserted_keeps (cursor_at s.scene.cursors c) s.shared (row_in s.regs rowid first n) p
  act_keeps m (Some (op.BuildIndex c terms unique)) s p =
      built_keeps s unique terms (cursor_rows (world_of s.shared) (cursor_at s.scene.cursors c)) p
  act_keeps m (Some (op.Schema change)) s p = schema (s.shared, change) p

  go_on_keeps : (m : Setting) (n : ℕ) (x : Next) → ((s : State) → P s.shared → P (shared_of (after m n s))) → P (shared_of x) → P (shared_of (go_on x (after m n)))
  go_on_keeps m n (On s) ih p = ih s p
  go_on_keeps m n (End e x) ih p = p

  pub after_keeps : (m : Setting) (n : ℕ) (s : State) → P s.shared → P (shared_of (after m n s))
  after_keeps m zero s p = p
  after_keeps m (suc n) s p = go_on_keeps m n (step m s) (λ t q. after_keeps m n t q) (act_keeps m (slice_get (code_of m.prog s.unit) s.pc) s p)

-- ---- sound tables

abbrev IsOrdered : World → Type 0
IsOrdered w = All IsAscending w

pub ordered_rows : (w : World) (t : ℕ) → IsSound w → IsAscending (rows_of w t)
ordered_rows w t sound = by w t sound.ordered
  where
    by : (w : World) (t : ℕ) → IsOrdered w → IsAscending (rows_of w t)
    by [] t up = ascending_nil
    by (rows ∷ w) zero up = up zero rows (omega arith)
    by (rows ∷ w) (suc t) up = by w t (λ k d h. up (suc k) d (omega arith))

ordered_set : (w : World) (t : ℕ) (rows : List StoredRow) → IsAscending rows → IsOrdered w → IsOrdered (slice_set w t rows)
ordered_set [] t rows up w_up = w_up
ordered_set (x ∷ w) zero rows up w_up = All-cons IsAscending rows w up (λ k d h. w_up (suc k) d (omega arith))
ordered_set (x ∷ w) (suc t) rows up w_up =
    All-cons IsAscending x (slice_set w t rows) (w_up zero x (omega arith)) (ordered_set w t rows up (λ k d h. w_up (suc k) d (omega arith)))

ordered_push : (w : World) (rows : List StoredRow) → IsAscending rows → IsOrdered w → IsOrdered (w ++ rows ∷ [])
ordered_push [] rows up w_up = All-cons IsAscending rows [] up (All-nil IsAscending)
ordered_push (x ∷ w) rows up w_up =
    All-cons IsAscending x (w ++ rows ∷ []) (w_up zero x (omega arith)) (ordered_push w rows up (λ k d h. w_up (suc k) d (omega arith)))

-- a table has the row or not
none_from_absent : {X : Type 0} (o : Option X) → not (is_some o) ≡ true → o ≡ None
none_from_absent None e = refl
none_from_absent (Some x) e = absurd (cc)

pub free_parts : (w : World) (t : ℕ) (n : ℤ) → is_free w t n ≡ true → (t < length w) × (row_under (rows_of w t) n ≡ None)
free_parts w t n e =
    let both = and_parts (nat_lt t (length w)) (not (is_some (row_under (rows_of w t) n))) e in
    (ltb-true t (length w) both.0, none_from_absent (row_under (rows_of w t) n) both.1)

-- a fact about what a row more leaves, by whether its rowid is free
pub with_row_by : (P : Written → Type 0) (x : Written) (t : ℕ) (r : StoredRow) → P x → (is_free x.world t r.rowid ≡ true → P (record x { world = slice_set x.world t (put_row (rows_of x.world t) r); changes = x.changes + 1; last_rowid = r.rowid })) → P (with_row x t r)
with_row_by P x t r same more = by (is_free x.world t r.rowid) refl
  where
    by : (b : Bool) → is_free x.world t r.rowid ≡ b → P (if b then record x { world = slice_set x.world t (put_row (rows_of x.world t) r); changes = x.changes + 1; last_rowid = r.rowid } else x)
    by true is = more is
    by false is = same

abbrev HasSound : Shared → Type 0
HasSound x = IsSound (world_of x)

pub sound_with_row : (x : Written) (t : ℕ) (r : StoredRow) → IsSound x.world → IsSound (with_row x t r).world
sound_with_row x t r up =
    with_row_by (λ (y : Written). IsSound y.world) x t r up (λ free. record { ordered = ordered_set x.world t (put_row (rows_of x.world t) r) (ascending_put (rows_of x.world t) r (ordered_rows x.world t up) (free_parts x.world t r.rowid free).1) up.ordered })

pub sound_with_table : (x : Written) → IsSound x.world → IsSound (with_table x).world
sound_with_table x up = record { ordered = ordered_push x.world [] ascending_nil up.ordered }

pub sound_with_schema : (change : SchemaChange) (x : Written) → IsSound x.world → IsSound (with_schema change x).world
sound_with_schema AddTable x up = sound_with_table x up
sound_with_schema (DropTable table) x up = record { ordered = ordered_set x.world table [] ascending_nil up.ordered }

pub sound_shared : (m : Setting) (n : ℕ) (s : State) → IsSound (world_of s.shared) → IsSound (world_of (shared_of (after m n s)))
sound_shared m n s up = after_keeps HasSound (λ x r p. p) (λ x t r p. sound_with_row x.written t r p) (λ x p. sound_with_schema x.1 x.0.written p) m n s up

-- a machine that goes on has sound tables
pub sound_after : {m : Setting} {most : ℕ} {s t : State} → Reaches m most s t → IsSound (world_of s.shared) → IsSound (world_of t.shared)
sound_after {m} {most} {s} {t} way up = subst (λ x. IsSound (world_of (shared_of x))) way.is (sound_shared m way.steps s up)
