-- What the stretches of a write's code do.
use Rattle.std.specs.Prelude.{◌≡◌, ◌≢◌, ℕ, ◌+◌, ◌≤◌, ◌<◌, Bool, true, false, not, List, [], ◌∷◌, length, map, fold, sum_by, Option, Some, None, slice_get}
use Rattle.eng_index.specs.declared.key_term.KeyTerm.{KeyTerm}
use Rattle.eng_value.specs.Causes.{CauseSet, only}
use Rattle.eng_value.specs.Environments.{Environment, no_causes, with_causes}
use Rattle.eng_value.specs.Truths.{truth_in, truth_of}
use Rattle.eng_value.specs.declared.affinity.Affinity.{Affinity}
use Rattle.eng_value.specs.declared.affinity.Affinity.TheVariants as affinity
use Rattle.eng_value.specs.declared.cause.Cause.TheVariants.{Constraint}
use Rattle.eng_value.specs.declared.cause.ConstraintKind.{ConstraintKind}
use Rattle.eng_value.specs.declared.cause.ConstraintKind.TheVariants as constraint
use Rattle.eng_value.specs.declared.out.Out.{Out}
use Rattle.eng_value.specs.declared.out.Out.TheVariants.{Good}
use Rattle.eng_value.specs.declared.truth.Truth.{Truth}
use Rattle.eng_value.specs.declared.truth.Truth.TheVariants as truth
use Rattle.eng_value.specs.declared.value.Value.{Value}
use Rattle.eng_value.specs.declared.value.Value.TheVariants.{Null}
use Rattle.eng_value.specs.declared.value.Value.TheVariants as value
use Rattle.gen_write.specs.Writes.{Course, check_steps, column_steps, read_steps, seen_in, value_steps}
use Rattle.gen_write.specs.declared.source.Kept.{Kept}
use Rattle.gen_write.specs.declared.source.Kept.TheVariants as kept
use Rattle.sql_meaning.specs.Expression.{literal_out, value_of}
use Rattle.sql_meaning.specs.Rows.{stored_for}
use Rattle.sql_meaning.specs.Statement.{Item, given_of, refusal_of, shown}
use Rattle.bound_tree.specs.Exprs.{BoundExpr}
use Rattle.sql_words.specs.declared.literal.Literal.{Literal}
use Rattle.sql_words.specs.declared.literal.Literal.TheVariants as literal
use Rattle.sql_meaning.specs.declared.bound.PutColumn.{PutColumn}
use Rattle.vm_code.specs.declared.op.Op.TheVariants as op
use Rattle.vm_code.specs.Draft.{Draft, bound, taken, with_label, with_op}
use Rattle.vm_code.specs.declared.open_cursor.CursorKind.TheVariants.{Table}
use Rattle.vm_code.specs.Track.{OpenSet, on}
use Rattle.vm_code.specs.Tracked.{HasPlace, IsTracked, Steady}
use Rattle.vm_code.specs.Frames.{Gave, Given, Grows, Holds, Left, Ready, environment_of, here}
use Rattle.vm_code.specs.Machine.{World, Shared, Scene, Setting, State, Closed, Open, Reaches, outs_from, read}

-- ---- what is kept of the source

abbrev pub kept_out : List Out → Kept → Out
kept_out regs (kept.Literal l) = literal_out l.now
kept_out regs (kept.Register r) = read regs r

-- the registers below a mark are as they were, but for the one that gathers causes
abbrev pub SameBut : ℕ → ℕ → List Out → List Out → Type 0
SameBut causes mark r q = (k : ℕ) → k < mark → k ≢ causes → read q k ≡ read r k

-- a row's values are kept, as long as those registers are as they were
abbrev pub AreKept : ℕ → ℕ → List Kept → List Value → List Out → Type 0
AreKept causes mark row values regs = (q : List Out) → SameBut causes mark regs q → map (kept_out q) row ≡ map Good values

-- and so are those of all rows
abbrev pub AreAllKept : ℕ → ℕ → List (List Kept) → List (List Value) → List Out → Type 0
AreAllKept causes mark source rows regs =
    (q : List Out) → SameBut causes mark regs q → map (map (kept_out q)) source ≡ map (map Good) rows

-- ---- the source is evaluated

abbrev pub values_in : List BoundExpr → Environment → List Out
values_in row env = map (λ e. value_of e env) row

abbrev pub items_for : List (List BoundExpr) → Environment → List Item
items_for rows env = map (λ row. shown row env no_causes) rows

-- the machine comes to a place where this is kept of what expressions came to, as long as the registers below a mark are as they are, and their causes gathered; the others below the first mark are as they were
pub record Held (m : Setting) (most : ℕ) (s : State) (place low high causes : ℕ) (row : List Kept) (outs : List Out) : Type 0 where
  pub regs : List Out
  pub way : Reaches m most s (record s { pc = place; regs = regs })
  pub long : length regs ≡ length s.regs
  pub has : (q : List Out) → SameBut causes high regs q → map (kept_out q) row ≡ outs
  pub gathers : read regs causes ≡ fold with_causes (read s.regs causes) outs
  pub keeps : SameBut causes low s.regs regs

-- code that evaluates the expressions of a row, keeps what they came to and gathers their causes; where it takes no register there are none, and else it takes instructions
pub record KeepsValues (given : Given) (a b : Draft) (causes : ℕ) (es : List BoundExpr) (row : List Kept) : Type 0 where
  pub grows : Grows a b
  pub next : a.next ≤ b.next
  pub counted : b.next ≤ b.most
  pub steady : Steady given.needs [] a b
  pub calm : b.next ≡ a.next → (env : Environment) → fold with_causes no_causes (values_in es env) ≡ no_causes
  pub busy : a.next < b.next → 0 < sum_by value_steps es
  pub keeps : (m : Setting) → given.calls m → (u : ℕ) (at : ℕ → ℕ) → Holds b m.prog u at → (s : State) → Ready b u s → s.pc ≡ length a.code
      → Held m (sum_by value_steps es) s (length b.code) a.next b.next causes row (values_in es (environment_of m (here s)))

-- the machine comes to a place where the values of these rows are kept, and there are no causes
pub record Sourced (m : Setting) (most : ℕ) (s : State) (place low high causes : ℕ) (source : List (List Kept)) (rows : List (List Value)) : Type 0 where
  pub regs : List Out
  pub way : Reaches m most s (record s { pc = place; regs = regs })
  pub long : length regs ≡ length s.regs
  pub has : AreAllKept causes high source rows regs
  pub calm : read regs causes ≡ no_causes
  pub keeps : SameBut causes low s.regs regs

-- or the unit gives up
abbrev pub SourcedBy : Setting → ℕ → State → ℕ → ℕ → ℕ → ℕ → List (List Kept) → Option CauseSet → List (List Value) → Type 0
SourcedBy m most s place low high causes source None rows = Sourced m most s place low high causes source rows
SourcedBy m most s place low high causes source (Some why) rows = Gave m most s why s.shared

-- code that evaluates rows in turn, keeps what they came to, and gives up behind the first bad one
pub record KeepsRows (given : Given) (a b : Draft) (causes : ℕ) (rows : List (List BoundExpr)) (source : List (List Kept)) : Type 0 where
  pub grows : Grows a b
  pub next : a.next ≤ b.next
  pub counted : b.next ≤ b.most
  pub steady : Steady given.needs [] a b
  pub wide : length source ≡ length rows
  pub keeps : (m : Setting) → given.calls m → (u : ℕ) (at : ℕ → ℕ) → Holds b m.prog u at → (s : State) → Ready b u s → s.pc ≡ length a.code → read s.regs causes ≡ no_causes
      → SourcedBy m (sum_by read_steps rows) s (length b.code) a.next b.next causes source (refusal_of (items_for rows (environment_of m (here s)))) (given_of (items_for rows (environment_of m (here s))))

-- the unit gives up where a register is bad
abbrev pub with_bad_refused : Draft → ℕ → Draft
with_bad_refused d causes =
    bound (with_op (bound (with_op (with_op (with_label (with_label d)) (op.IsBad causes (length (with_label d).labels))) (op.Goto (length d.labels))) (length (with_label d).labels)) (op.HaltBad causes)) (length d.labels)

-- it does so where it may be bad
abbrev pub with_row_tested : Bool → Draft → ℕ → Draft
with_row_tested true d causes = with_bad_refused d causes
with_row_tested false d causes = d

-- ---- the columns of a row

abbrev pub is_text : Value → Bool
is_text (value.Text t) = true
is_text other = false

abbrev pub is_integer : Value → Bool
is_integer (value.Integer n) = true
is_integer other = false

-- a column of an affinity stores a value as it is, by their kinds
abbrev pub stays : Affinity → Value → Bool
stays affinity.Integer v = not (is_text v)
stays affinity.Numeric v = not (is_text v)
stays affinity.Real v = false
stays affinity.Text v = not (is_integer v)
stays affinity.Blob v = true
stays affinity.None v = true

-- a literal's value is stored so
abbrev pub HoldsLiteral : Affinity → Literal → Type 0
HoldsLiteral a (literal.Value v) = stays a v ≡ true
HoldsLiteral a (literal.Bad why) = ⊥

-- what is kept of a value is a literal that is stored so, or nothing, where NULL is
abbrev pub HoldsKept : Affinity → Option Kept → Type 0
HoldsKept a None = stays a Null ≡ true
HoldsKept a (Some (kept.Literal l)) = HoldsLiteral a l.now
HoldsKept a (Some (kept.Register r)) = ⊥

-- what the columns store of them is never bad
abbrev pub AreHeld : List Kept → List PutColumn → Type 0
AreHeld row columns =
    (q : List Out) (values : List Value) (env : Environment) → map (kept_out q) row ≡ map Good values → fold with_causes no_causes (stored_for env columns values) ≡ no_causes

-- what is kept of the value at a place
abbrev pub kept_at : List Kept → Option ℕ → Option Kept
kept_at row None = None
kept_at row (Some place) = slice_get row place

abbrev pub out_loaded : List Out → Option Kept → Out
out_loaded regs None = Good Null
out_loaded regs (Some k) = kept_out regs k

-- code that leaves that in a register
pub record Loads (given : Given) (a b : Draft) (to : ℕ) (k : Option Kept) : Type 0 where
  pub grows : Grows a b
  pub next : b.next ≡ a.next
  pub steady : Steady given.needs [] a b
  pub loads : (m : Setting) → given.calls m → (u : ℕ) (at : ℕ → ℕ) → Holds b m.prog u at → (s : State) → Ready b u s → s.pc ≡ length a.code
      → Left m 1 s (length b.code) a.next to (out_loaded s.regs k)

-- the machine comes to a place with these in registers one after another, from the mark on, and with their causes gathered in another register; the others below the mark are as they were
pub record Stored (m : Setting) (most : ℕ) (s : State) (place mark causes : ℕ) (outs : List Out) : Type 0 where
  pub regs : List Out
  pub way : Reaches m most s (record s { pc = place; regs = regs })
  pub long : length regs ≡ length s.regs
  pub has : outs_from regs mark (length outs) ≡ outs
  pub gathers : read regs causes ≡ fold with_causes (read s.regs causes) outs
  pub keeps : SameBut causes mark s.regs regs

-- code that leaves what columns store of the values that are kept, and of defaults, in the registers that it takes, and gathers their causes
pub record Stores (given : Given) (a b : Draft) (causes : ℕ) (row : List Kept) (columns : List PutColumn) : Type 0 where
  pub grows : Grows a b
  pub next : b.next ≡ a.next + length columns
  pub counted : b.next ≤ b.most
  pub steady : Steady given.needs [] a b
  pub stores : (m : Setting) → given.calls m → (u : ℕ) (at : ℕ → ℕ) → Holds b m.prog u at → (s : State) → Ready b u s → s.pc ≡ length a.code → (values : List Value) → AreKept causes a.next row values s.regs
      → Stored m (sum_by column_steps columns) s (length b.code) a.next causes (stored_for (environment_of m (here s)) columns values)

-- what is in a register is stored there, and its causes are gathered
abbrev pub with_stored : Draft → Affinity → ℕ → ℕ → Draft
with_stored d affinity to causes = with_op (with_op d (op.Affinity to affinity)) (op.Merge to causes)

-- ---- the tests of a row

-- the unit gives up for a constraint of a table; a register serves for it
abbrev pub with_refused : Draft → ConstraintKind → List ℕ → ℕ → Draft
with_refused d kind name register = with_op (with_op d (op.Bad (Constraint kind name) register)) (op.HaltBad register)

-- it does so where a register is NULL
abbrev pub with_null_refused : Draft → List ℕ → ℕ → ℕ → Draft
with_null_refused d name register causes =
    bound (with_refused (with_op (with_label d) (op.NotNull register (length d.labels))) constraint.NotNull name causes) (length d.labels)

abbrev pub with_null_tested : Bool → Draft → List ℕ → ℕ → ℕ → Draft
with_null_tested true d name register causes = with_null_refused d name register causes
with_null_tested false d name register causes = d

-- and so for the columns that may not be NULL, which are in registers one after another
abbrev pub with_nulls_refused : Draft → List PutColumn → List ℕ → ℕ → ℕ → Draft
with_nulls_refused d [] name register causes = d
with_nulls_refused d (c ∷ columns) name register causes = with_nulls_refused (with_null_tested c.not_null d name register causes) columns name (register + 1) causes

-- a rowid is drawn where nothing is given
abbrev pub with_rowid_drawn : Draft → ℕ → List ℕ → Draft
with_rowid_drawn d to name = with_op d (op.NewRowid 1 to name)

-- one that is given is an integer, and where it is missing it is drawn
abbrev pub with_rowid_tested : Draft → ℕ → List ℕ → Draft
with_rowid_tested d register name =
    bound (with_rowid_drawn (bound (with_op (with_op (with_op (with_label (with_label d)) (op.IsNull register (length (with_label d).labels))) (op.MustBeInt register)) (op.Goto (length d.labels))) (length (with_label d).labels)) register name) (length d.labels)

abbrev pub with_rowid_fixed : Option ℕ → Draft → ℕ → List ℕ → Draft
with_rowid_fixed None d first name = with_rowid_drawn (taken d) d.next name
with_rowid_fixed (Some place) d first name = with_rowid_tested d (first + place) name

-- the register of the rowid, among those from the first on or behind them
abbrev pub rowid_register : Option ℕ → ℕ → ℕ → ℕ
rowid_register None first next = next
rowid_register (Some place) first next = first + place

-- the registers of a row come to hold it as it is stored: where its rowid stands among the columns, another register takes that, and NULL comes in its place
abbrev pub with_row_stored : Bool → Draft → ℕ → Draft
with_row_stored false d rowid = d
with_row_stored true d rowid = with_op (with_op (taken d) (op.Copy rowid d.next)) (op.Null rowid)

-- the register of its rowid then
abbrev pub stored_rowid : Bool → ℕ → ℕ → ℕ
stored_rowid false rowid next = rowid
stored_rowid true rowid next = next

-- the unit gives up where a row of the table is in the way of the one that registers hold
abbrev pub with_met_refused : Draft → List ℕ → List (List KeyTerm) → ℕ → ℕ → ℕ → ℕ → Draft
with_met_refused d name keys rowid first count causes =
    bound (with_refused (with_op (with_label d) (op.NoConflict 1 rowid first count keys (length d.labels))) constraint.Unique name causes) (length d.labels)

-- it does so where one may be
abbrev pub with_met_tested : Bool → Draft → List ℕ → List (List KeyTerm) → ℕ → ℕ → ℕ → ℕ → Draft
with_met_tested true d name keys rowid first count causes = with_met_refused d name keys rowid first count causes
with_met_tested false d name keys rowid first count causes = d

-- the unit gives up where what a register holds is false, for that constraint, and where it is bad; two labels are there for that
abbrev pub with_truth_refused : Draft → ℕ → ℕ → ℕ → List ℕ → Draft
with_truth_refused d truth passed bad table =
    bound (with_op (bound (with_op (with_op (with_op d (op.If truth passed true)) (op.IsBad truth bad)) (op.Bad (Constraint constraint.Check table) truth)) bad) (op.HaltBad truth)) passed

-- why a CHECK does not let a row pass that has this truth
abbrev pub broken_by : List ℕ → Truth → Option CauseSet
broken_by table truth.True = None
broken_by table truth.False = Some (only (Constraint constraint.Check table))
broken_by table truth.Unknown = None
broken_by table (truth.Failed causes) = Some causes

abbrev pub unless_broken_by : Option CauseSet → Option CauseSet → Option CauseSet
unless_broken_by None others = others
unless_broken_by (Some causes) others = Some causes

-- why the first does not that does not
abbrev pub first_broken : List ℕ → List BoundExpr → Environment → Option CauseSet
first_broken table [] env = None
first_broken table (c ∷ checks) env = unless_broken_by (broken_by table (truth_in (truth_of (value_of c env)))) (first_broken table checks env)

-- the machine comes to a place, the registers below a mark as they were
pub record Passed (m : Setting) (most : ℕ) (s : State) (place mark : ℕ) : Type 0 where
  pub regs : List Out
  pub way : Reaches m most s (record s { pc = place; regs = regs })
  pub long : length regs ≡ length s.regs
  pub keeps : (k : ℕ) → k < mark → read regs k ≡ read s.regs k

-- or the unit gives up
abbrev pub PassedBy : Setting → ℕ → State → ℕ → ℕ → Option CauseSet → Type 0
PassedBy m most s place mark None = Passed m most s place mark
PassedBy m most s place mark (Some why) = Gave m most s why s.shared

-- code that gives up at the first CHECK that is false or bad
pub record Checks (given : Given) (a b : Draft) (table : List ℕ) (checks : List BoundExpr) : Type 0 where
  pub grows : Grows a b
  pub next : b.next ≡ a.next
  pub steady : Steady given.needs [] a b
  pub passes : (m : Setting) → given.calls m → (u : ℕ) (at : ℕ → ℕ) → Holds b m.prog u at → (s : State) → Ready b u s → s.pc ≡ length a.code
      → PassedBy m (sum_by check_steps checks) s (length b.code) a.next (first_broken table checks (environment_of m (here s)))

-- between such code a cursor stands on the row, where there are CHECKs
pub record Between (given : Given) (a b : Draft) (table : List ℕ) (checks : List BoundExpr) (rowid first count : ℕ) : Type 0 where
  pub last : Draft
  pub checked : Checks given (with_op a (op.RowOf 0 rowid first count)) last table checks
  pub is : b ≡ with_op last (op.Close 0)

abbrev pub ChecksRow : Given → Draft → Draft → List ℕ → List BoundExpr → ℕ → ℕ → ℕ → Type 0
ChecksRow given a b table [] rowid first count = b ≡ a
ChecksRow given a b table (c ∷ checks) rowid first count = Between given a b table (c ∷ checks) rowid first count

-- ---- rows

-- code that finds these cursors open, and no others, and leaves them so; the labels that it makes have their places
pub record SteadyAt (xs : OpenSet) (a b : Draft) : Type 0 where
  pub keeps : (l : ℕ) → HasPlace a l → HasPlace b l
  pub made : (l : ℕ) → length a.labels ≤ l → l < length b.labels → HasPlace b l
  pub stays : a.track.now ≡ Some xs → IsTracked a → (b.track.now ≡ Some xs) × IsTracked b

-- the cursor of the row that CHECKs read is closed, and the other one is open on the table
abbrev pub scene_on : ℕ → Scene
scene_on table = record { cursors = Closed ∷ Open table None ∷ []; slots = [] }

-- in front of a row: the unit was called with nothing, and there are no causes
pub record IsSet (table causes : ℕ) (s : State) : Type 0 where
  pub scene : s.scene ≡ scene_on table
  pub args : s.inputs.args ≡ []
  pub calm : read s.regs causes ≡ no_causes

-- what expressions see of these tables
abbrev pub seen_from : Setting → World → Environment
seen_from m w = seen_in (record { params = m.params; hosts = m.hosts; world = w; ask = m.ask })

-- the machine comes to a place with this shared and no causes, the other registers below the mark as they were
pub record Got (m : Setting) (most : ℕ) (s : State) (place mark causes : ℕ) (x : Shared) : Type 0 where
  pub regs : List Out
  pub way : Reaches m most s (record s { pc = place; regs = regs; shared = x })
  pub long : length regs ≡ length s.regs
  pub calm : read regs causes ≡ no_causes
  pub keeps : SameBut causes mark s.regs regs

abbrev pub Ran : Setting → ℕ → State → ℕ → ℕ → ℕ → Option CauseSet → Shared → Type 0
Ran m most s place mark causes None x = Got m most s place mark causes x
Ran m most s place mark causes (Some why) x = Gave m most s why x

-- code that takes the course of what registers keep, from what is shared; its expressions see the tables of any time. Where they name what is there, it leaves open what it finds open
pub record Puts {X : Type 0} (fits : Type 0) (a b : Draft) (table causes : ℕ) (IsThere : X → List Out → Type 0) (course : Environment → X → Shared → Course) (most : ℕ) : Type 0 where
  pub grows : Grows a b
  pub next : b.next ≡ a.next
  pub steady : fits → SteadyAt (on Table 1 ∷ []) a b
  pub puts : (m : Setting) → (u : ℕ) (at : ℕ → ℕ) → Holds b m.prog u at → (s : State) → Ready b u s → s.pc ≡ length a.code → IsSet table causes s → (w : World) (x : X) → IsThere x s.regs
      → Ran m most s (length b.code) a.next causes (course (seen_from m w) x s.shared).causes (course (seen_from m w) x s.shared).shared
