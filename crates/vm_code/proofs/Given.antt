-- Rows that were given before change nothing of a run, and a run has one end.
use Rattle.std.proofs.Common.{◌≡◌, ℕ, zero, suc, ◌+◌, ◌-◌, ◌<◌, List, [], ◌∷◌, Bool, true, false, not, Some, None, ℤ, map, refl, sym, ap, ◌∙◌, arith, append_assoc, append-nil, ⊎_elim, if◌then◌else◌}
use Rattle.std.specs.Prelude.{slice_get}
use Rattle.std.specs.declared.option.Option.{Option}
use Rattle.std.proofs.lemmas.Bool.{cases_lt}
use Rattle.eng_index.specs.Keys.{found, has_doubles, row_in_way}
use Rattle.eng_index.specs.declared.key_term.KeyTerm.{KeyTerm}
use Rattle.eng_index.specs.declared.range.Range.{Range}
use Rattle.eng_key.specs.Values.{value_keys}
use Rattle.eng_value.specs.Applied.{binary_of, function_by, unary_of}
use Rattle.eng_value.specs.Arrangements.{arranged}
use Rattle.eng_value.specs.Causes.{CauseSet, is_skip, only}
use Rattle.eng_value.specs.Collations.{keys_of}
use Rattle.eng_value.specs.Comparisons.{like_escaped_of}
use Rattle.eng_value.specs.Environments.{ItemRow}
use Rattle.eng_value.specs.StoredRows.{StoredRow, next_rowid}
use Rattle.eng_value.specs.declared.cause.Cause.TheVariants.{Constraint, Full, Mismatch}
use Rattle.eng_value.specs.declared.cause.ConstraintKind.TheVariants.{Unique}
use Rattle.eng_value.specs.declared.out.Out.{Out}
use Rattle.vm_code.specs.declared.op.Op.{Op}
use Rattle.vm_code.specs.declared.op.Op.TheVariants as op
use Rattle.vm_code.specs.declared.operand.Operand.{Operand}
use Rattle.vm_code.specs.declared.operand.Operand.TheVariants as operand
use Rattle.vm_code.specs.declared.program.Unit.{Unit}
use Rattle.vm_code.specs.Machine.{Row, rows_of, Cursor, Closed, Open, Chosen, Holding, Standing, Sorted, Shared, Frame, State, Ending, Leaving, Halts, GivesUp, Setting, Next, On, End, act, step, go_on, after, code_of, unit_at, read, put, operand_of, outs_from, values_from, integer_in, row_in, is_missing, is_integer, skip_if, jump_if, is_accepted, is_rejected, is_null, is_known, is_bad, range_in, rewound, rewound_to, searched, searched_to, conflicted, conflicted_to, built, advanced, advanced_to, sought, sought_to, some_rowid, sorted_to, dropped, dropped_to, comes_before, last_list, other_lists, with_lists, drawn, called, returned, given_up, leads_to, leaving_of, cursor_at, cursor_rows, row_behind, world_of}
use Rattle.vm_code.specs.Reading.{below, prepend, under}
use Rattle.vm_code.proofs.Runs.{after_add}

module _ (g : List Row) where
  jump_given : (b : Bool) (s : State) (target : ℕ) → jump_if b (under g s) target ≡ prepend g (jump_if b s target)
  jump_given true s target = refl
  jump_given false s target = refl

  called_given : (x : Option Unit) (s : State) (u : ℕ) (args : List Out) (to : ℕ) → called x (under g s) u args to ≡ prepend g (called x s u args to)
  called_given None s u args to = refl
  called_given (Some x) s u args to = refl

  returned_given : (fs : List Frame) (x : Shared) (results : List Out) → returned fs (below g x) results ≡ prepend g (returned fs x results)
  returned_given [] x results = refl
  returned_given (f ∷ fs) x results = refl

  either_given : (b : Bool) (n n' k k' : Next) → n' ≡ prepend g n → k' ≡ prepend g k → (if b then n' else k') ≡ prepend g (if b then n else k)
  either_given true n n' k k' e f = e
  either_given false n n' k k' e f = f

  given_up_given : (fs : List Frame) (x : Shared) (causes : CauseSet) → given_up fs (below g x) causes ≡ prepend g (given_up fs x causes)
  given_up_given [] x causes = refl
  given_up_given (f ∷ fs) x causes = either_given (is_skip causes) _ _ _ _ refl refl

  skip_if_given : (b : Bool) (s : State) (causes : CauseSet) → skip_if b (under g s) causes ≡ prepend g (skip_if b s causes)
  skip_if_given true s causes = refl
  skip_if_given false s causes = given_up_given s.stack s.shared causes

  leads_to_given : (o : Leaving) (fs : List Frame) (x : Shared) → leads_to o fs (below g x) ≡ prepend g (leads_to o fs x)
  leads_to_given Halts fs x = refl
  leads_to_given (GivesUp causes) fs x = given_up_given fs x causes

  rewound_to_given : (s : State) (c target t : ℕ) (rows : List StoredRow) → rewound_to (under g s) c target t rows ≡ prepend g (rewound_to s c target t rows)
  rewound_to_given s c target t [] = refl
  rewound_to_given s c target t (r ∷ rs) = refl

  rewound_given : (x : Cursor) (s : State) (c target : ℕ) → rewound x (under g s) c target ≡ prepend g (rewound x s c target)
  rewound_given Closed s c target = refl
  rewound_given (Open t place) s c target = rewound_to_given s c target t (rows_of (world_of s.shared) t)
  rewound_given (Chosen t n rest) s c target = rewound_to_given s c target t (rows_of (world_of s.shared) t)
  rewound_given (Holding rows) s c target = refl
  rewound_given (Standing row rest) s c target = refl
  rewound_given (Sorted rows) s c target = refl

  searched_to_given : (s : State) (c target t : ℕ) (rows : List StoredRow) → searched_to (under g s) c target t rows ≡ prepend g (searched_to s c target t rows)
  searched_to_given s c target t [] = refl
  searched_to_given s c target t (r ∷ rs) = refl

  conflicted_to_given : (s : State) (c target t : ℕ) (o : Option StoredRow) → conflicted_to (under g s) c target t o ≡ prepend g (conflicted_to s c target t o)
  conflicted_to_given s c target t None = refl
  conflicted_to_given s c target t (Some r) = refl

  conflicted_given : (x : Cursor) (s : State) (c target : ℕ) (keys : List (List KeyTerm)) (row : StoredRow) → conflicted x (under g s) c target keys row ≡ prepend g (conflicted x s c target keys row)
  conflicted_given Closed s c target keys row = refl
  conflicted_given (Open t place) s c target keys row = conflicted_to_given s c target t (row_in_way keys (rows_of (world_of s.shared) t) row)
  conflicted_given (Chosen t n rest) s c target keys row = conflicted_to_given s c target t (row_in_way keys (rows_of (world_of s.shared) t) row)
  conflicted_given (Holding rows) s c target keys row = refl
  conflicted_given (Standing x rest) s c target keys row = refl
  conflicted_given (Sorted rows) s c target keys row = refl

  searched_given : (x : Cursor) (s : State) (c target : ℕ) (terms : List KeyTerm) (range : Range) → searched x (under g s) c target terms range ≡ prepend g (searched x s c target terms range)
  searched_given Closed s c target terms range = refl
  searched_given (Open t place) s c target terms range = searched_to_given s c target t (found terms range (rows_of (world_of s.shared) t))
  searched_given (Chosen t n rest) s c target terms range = searched_to_given s c target t (found terms range (rows_of (world_of s.shared) t))
  searched_given (Holding rows) s c target terms range = refl
  searched_given (Standing row rest) s c target terms range = refl
  searched_given (Sorted rows) s c target terms range = refl

  built_given : (s : State) (unique : Option (List ℕ)) (terms : List KeyTerm) (rows : List StoredRow) → built (under g s) unique terms rows ≡ prepend g (built s unique terms rows)
  built_given s None terms rows = refl
  built_given s (Some table) terms rows = skip_if_given (not (has_doubles terms rows)) s (only (Constraint Unique table))

  advanced_to_given : (s : State) (c target t : ℕ) (r : Option StoredRow) → advanced_to (under g s) c target t r ≡ prepend g (advanced_to s c target t r)
  advanced_to_given s c target t None = refl
  advanced_to_given s c target t (Some r) = refl

  advanced_given : (x : Cursor) (s : State) (c target : ℕ) → advanced x (under g s) c target ≡ prepend g (advanced x s c target)
  advanced_given Closed s c target = refl
  advanced_given (Open t None) s c target = refl
  advanced_given (Open t (Some n)) s c target = advanced_to_given s c target t (row_behind (rows_of (world_of s.shared) t) n)
  advanced_given (Chosen t n []) s c target = refl
  advanced_given (Chosen t n (next ∷ rest)) s c target = refl
  advanced_given (Holding rows) s c target = refl
  advanced_given (Standing row []) s c target = refl
  advanced_given (Standing row (next ∷ rest)) s c target = refl
  advanced_given (Sorted rows) s c target = refl

  sought_to_given : (s : State) (c t : ℕ) (n : Option ℤ) → sought_to (under g s) c t n ≡ prepend g (sought_to s c t n)
  sought_to_given s c t None = refl
  sought_to_given s c t (Some n) = refl

  sought_given : (x : Cursor) (s : State) (c : ℕ) (n : Option ℤ) → sought x (under g s) c n ≡ prepend g (sought x s c n)
  sought_given Closed s c n = refl
  sought_given (Open t place) s c n = sought_to_given s c t n
  sought_given (Chosen t place rest) s c n = sought_to_given s c t n
  sought_given (Holding rows) s c n = refl
  sought_given (Standing row rest) s c n = refl
  sought_given (Sorted rows) s c n = refl

  sorted_to_given : (s : State) (c target : ℕ) (rows : List ItemRow) → sorted_to (under g s) c target rows ≡ prepend g (sorted_to s c target rows)
  sorted_to_given s c target [] = refl
  sorted_to_given s c target (row ∷ rest) = refl

  dropped_to_given : (s : State) (c target : ℕ) (rows : List ItemRow) → dropped_to (under g s) c target rows ≡ prepend g (dropped_to s c target rows)
  dropped_to_given s c target [] = refl
  dropped_to_given s c target (row ∷ []) = refl
  dropped_to_given s c target (row ∷ next ∷ rest) = refl

  dropped_given : (x : Cursor) (s : State) (c target : ℕ) → dropped x (under g s) c target ≡ prepend g (dropped x s c target)
  dropped_given Closed s c target = refl
  dropped_given (Open t place) s c target = refl
  dropped_given (Chosen t n rest) s c target = refl
  dropped_given (Holding rows) s c target = refl
  dropped_given (Standing row rest) s c target = refl
  dropped_given (Sorted rows) s c target = dropped_to_given s c target rows

  drawn_given : (s : State) (r : ℕ) (name : List ℕ) (n : Option ℤ) → drawn (under g s) r name n ≡ prepend g (drawn s r name n)
  drawn_given s r name None = given_up_given s.stack s.shared (only (Full name))
  drawn_given s r name (Some n) = refl

  operand_given : (m : Setting) (s : State) (o : Operand) → operand_of m (under g s) o ≡ operand_of m s o
  operand_given m s (operand.Register r) = refl
  operand_given m s (operand.Constant out) = refl
  operand_given m s (operand.Parameter k) = refl
  operand_given m s (operand.Argument k) = refl
  operand_given m s (operand.Column c k) = refl
  operand_given m s (operand.Rowid c) = refl

  operands_given : (m : Setting) (s : State) (os : List Operand) → map (operand_of m (under g s)) os ≡ map (operand_of m s) os
  operands_given m s [] = refl
  operands_given m s (o ∷ os) =
      ap (λ v. v ∷ map (operand_of m (under g s)) os) (operand_given m s o) ∙ ap (λ vs. operand_of m s o ∷ vs) (operands_given m s os)

  pub act_given : (m : Setting) (o : Option Op) (s : State) → act m o (under g s) ≡ prepend g (act m o s)
  act_given m None s = refl
  act_given m (Some (op.Goto target)) s = refl
  act_given m (Some (op.If r target on_null)) s = jump_given (is_accepted on_null (read s.regs r)) s target
  act_given m (Some (op.IfNot r target on_null)) s = jump_given (is_rejected on_null (read s.regs r)) s target
  act_given m (Some (op.IsNull r target)) s = jump_given (is_null (read s.regs r)) s target
  act_given m (Some (op.NotNull r target)) s = jump_given (is_known (read s.regs r)) s target
  act_given m (Some (op.IsBad r target)) s = jump_given (is_bad (read s.regs r)) s target
  act_given m (Some op.Halt) s = refl
  act_given m (Some (op.HaltBad r)) s = leads_to_given (leaving_of (read s.regs r)) s.stack s.shared
  act_given m (Some (op.Call u first n to)) s = called_given (unit_at m.prog u) s u (outs_from s.regs first n) to
  act_given m (Some (op.Ret first n)) s = returned_given s.stack s.shared (outs_from s.regs first n)
  act_given m (Some (op.Argument k to)) s = refl
  act_given m (Some (op.ResultRow first n)) s =
      ap (λ l. On (record s { pc = s.pc + 1; shared = record s.shared { given = l } })) (append_assoc g s.shared.given (values_from s.regs first n ∷ []))
  act_given m (Some (op.Null to)) s = refl
  act_given m (Some (op.Integer n to)) s = refl
  act_given m (Some (op.String8 text to)) s = refl
  act_given m (Some (op.Blob bytes to)) s = refl
  act_given m (Some (op.Bad cause to)) s = refl
  act_given m (Some (op.Variable k to)) s = refl
  act_given m (Some (op.Copy from to)) s = refl
  act_given m (Some (op.Affinity r affinity)) s = refl
  act_given m (Some (op.Beside r other own)) s = refl
  act_given m (Some (op.MustBeInt r)) s = skip_if_given (is_integer (read s.regs r)) s (only Mismatch)
  act_given m (Some (op.Unary o a to)) s = ap (λ v. put (under g s) to (unary_of o v)) (operand_given m s a)
  act_given m (Some (op.Binary o a b to)) s =
      ap (λ v. put (under g s) to (binary_of (keys_of m.hosts) o v (operand_of m (under g s) b))) (operand_given m s a)
      ∙ ap (λ v. put (under g s) to (binary_of (keys_of m.hosts) o (operand_of m s a) v)) (operand_given m s b)
  act_given m (Some (op.LikeEscaped a b c to)) s =
      ap (λ v. put (under g s) to (like_escaped_of v (operand_of m (under g s) b) (operand_of m (under g s) c))) (operand_given m s a)
      ∙ ap (λ v. put (under g s) to (like_escaped_of (operand_of m s a) v (operand_of m (under g s) c))) (operand_given m s b)
      ∙ ap (λ v. put (under g s) to (like_escaped_of (operand_of m s a) (operand_of m s b) v)) (operand_given m s c)
  act_given m (Some (op.Function f collation args to)) s =
      ap (λ vs. put (under g s) to (function_by (value_keys (keys_of m.hosts)) f collation vs)) (operands_given m s args)
  act_given m (Some (op.Merge from to)) s = refl
  act_given m (Some (op.OpenRead c t)) s = refl
  act_given m (Some (op.OpenWrite c t)) s = refl
  act_given m (Some (op.RowOf c rowid first n)) s = refl
  act_given m (Some (op.Close c)) s = refl
  act_given m (Some (op.CloseFrom c)) s = refl
  act_given m (Some (op.Rewind c target)) s = rewound_given (cursor_at s.scene.cursors c) s c target
  act_given m (Some (op.Next c target)) s = advanced_given (cursor_at s.scene.cursors c) s c target
  act_given m (Some (op.Search c terms bounds first target)) s =
      searched_given (cursor_at s.scene.cursors c) s c target terms (range_in s.regs first bounds)
  act_given m (Some (op.SeekRowid c rowid)) s = sought_given (cursor_at s.scene.cursors c) s c (some_rowid s.regs rowid)
  act_given m (Some (op.SorterOpen c)) s = refl
  act_given m (Some (op.SorterInsert first n)) s = refl
  act_given m (Some (op.SorterSort c terms target)) s =
      sorted_to_given (with_lists s (other_lists s.store.lists)) c target (arranged (comes_before terms) (last_list s.store.lists))
  act_given m (Some (op.SorterData c first n)) s = refl
  act_given m (Some (op.SorterNext c target)) s = dropped_given (cursor_at s.scene.cursors c) s c target
  act_given m (Some (op.Column c k to)) s = refl
  act_given m (Some (op.Rowid c to)) s = refl
  act_given m (Some (op.NoConflict c rowid first n keys target)) s =
      conflicted_given (cursor_at s.scene.cursors c) s c target keys (row_in s.regs rowid first n)
  act_given m (Some (op.NotExists c rowid target)) s =
      jump_given (is_missing (cursor_rows (world_of s.shared) (cursor_at s.scene.cursors c)) (integer_in s.regs rowid)) s target
  act_given m (Some (op.NewRowid c to name)) s = drawn_given s to name (next_rowid (cursor_rows (world_of s.shared) (cursor_at s.scene.cursors c)))
  act_given m (Some (op.Insert c rowid first n)) s = refl
  act_given m (Some (op.BuildIndex c terms unique)) s =
      built_given s unique terms (cursor_rows (world_of s.shared) (cursor_at s.scene.cursors c))
  act_given m (Some (op.Schema change)) s = refl

  go_on_given : (m : Setting) (n : ℕ) (x : Next) → ((s : State) → after m n (under g s) ≡ prepend g (after m n s)) → go_on (prepend g x) (after m n) ≡ prepend g (go_on x (after m n))
  go_on_given m n (On s) ih = ih s
  go_on_given m n (End e x) ih = refl

  -- a run behind other rows is the run, with its rows behind them
  pub after_given : (m : Setting) (n : ℕ) (s : State) → after m n (under g s) ≡ prepend g (after m n s)
  after_given m zero s = refl
  after_given m (suc n) s =
      ap (λ x. go_on x (after m n)) (act_given m (slice_get (code_of m.prog s.unit) s.pc) s) ∙ go_on_given m n (step m s) (λ t. after_given m n t)

module _ (m : Setting) where
  go_on_over : (n k : ℕ) (x : Next) (e : Ending) (y : Shared) → ((s : State) → after m n s ≡ End e y → after m (n + k) s ≡ End e y) → go_on x (after m n) ≡ End e y → go_on x (after m (n + k)) ≡ End e y
  go_on_over n k (On s) e y ih h = ih s h
  go_on_over n k (End f xs) e y ih h = h

  -- a run that is over stays so
  pub over : (n k : ℕ) (s : State) (e : Ending) (y : Shared) → after m n s ≡ End e y → after m (n + k) s ≡ End e y
  over zero k s e y h = cc
  over (suc n) k s e y h =
      let z : suc n + k ≡ suc (n + k) = omega arith in
      ap (λ i. after m i s) z ∙ go_on_over n k (step m s) e y (λ t f. over n k t e y f) h

  -- two ends are one
  pub one_end : (n k : ℕ) (s : State) (e f : Ending) (x y : Shared) → after m n s ≡ End e x → after m k s ≡ End f y → End e x ≡ End f y
  one_end n k s e f x y h i =
      ⊎_elim (λ lt. let z : n + (k - n) ≡ k = omega arith in sym (over n (k - n) s e x h) ∙ ap (λ j. after m j s) z ∙ i) (λ le. let z : k + (n - k) ≡ n = omega arith in sym h ∙ ap (λ j. after m j s) (sym z) ∙ over k (n - k) s f y i) (cases_lt n k)

  -- a run that goes on is shorter than one that is over
  pub still_on : (n k : ℕ) (s t : State) (e : Ending) (x : Shared) → after m n s ≡ End e x → after m k s ≡ On t → k < n
  still_on n k s t e x h i =
      ⊎_elim (λ lt. lt) (λ le. let z : n + (k - n) ≡ k = omega arith in let both : End e x ≡ On t = sym (over n (k - n) s e x h) ∙ ap (λ j. after m j s) z ∙ i in cc) (cases_lt k n)

  -- one stretch of a run and the next, which begins with no row given
  pub next_stretch : (ran n : ℕ) (s t : State) (g : List Row) (x : Next) → after m ran s ≡ On (record t { shared = record t.shared { given = g } }) → after m n (record t { shared = record t.shared { given = [] } }) ≡ x → after m (ran + n) s ≡ prepend g x
  next_stretch ran n s t g x e f =
      let same : record t { shared = record t.shared { given = g } } ≡ under g (record t { shared = record t.shared { given = [] } }) = ap (λ l. record t { shared = record t.shared { given = l } }) (sym (append-nil g)) in
      after_add m ran n s (record t { shared = record t.shared { given = g } }) (prepend g x) e (ap (after m n) same ∙ after_given g m n (record t { shared = record t.shared { given = [] } }) ∙ ap (prepend g) f)
