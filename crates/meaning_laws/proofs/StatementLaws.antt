-- What runs of a statement names only what is there.
use Rattle.std.proofs.Common.{◌≡◌, ℕ, List, [], ◌∷◌, length, map, Option, Some, None, Ok, Err, Result, is_some, subst}
use Rattle.std.specs.Bool.{⊤}
use Rattle.bound_ignored.specs.Marked.{ignoring, marked_command, marked_unit}
use Rattle.bound_tree.specs.Exprs.{BoundExpr}
use Rattle.bound_tree.specs.declared.statements.BoundCommand.TheVariants as bound
use Rattle.bound_tree.specs.declared.statements.BoundCommand.{BoundCommand}
use Rattle.bound_tree.specs.declared.statements.BoundCreation.{BoundCreation}
use Rattle.bound_tree.specs.declared.statements.BoundStatement.{BoundStatement}
use Rattle.bound_tree.specs.declared.units.BoundUnit.{BoundUnit}
use Rattle.bound_tree.specs.declared.writes.BoundChange.TheVariants as change
use Rattle.bound_tree.specs.declared.writes.BoundChange.{BoundChange}
use Rattle.bound_tree.specs.declared.writes.BoundWrite.{BoundWrite}
use Rattle.eng_entry.specs.Entries.{Entries}
use Rattle.eng_value.specs.declared.authorizing.Action.{Action}
use Rattle.eng_value.specs.declared.cause.Cause.TheVariants as cause
use Rattle.eng_value.specs.declared.cause.Cause.{Cause}
use Rattle.sql_bound.specs.Declarations.{definition_in}
use Rattle.sql_bound.specs.Statements.{bound_of}
use Rattle.sql_meaning.proofs.ValidLaws.{if_built-ok, same-ok, then-ok}
use Rattle.sql_meaning.specs.Built.{is_built}
use Rattle.sql_meaning.specs.Declarations.{columns_created, table_called, tables_of}
use Rattle.sql_meaning.specs.Permits.{Asking, Denies, Ignores, Permit, permitted}
use Rattle.sql_meaning.specs.Runnables.{Creates, DoesNothing, Drops, Explains, Runnable, Unindexes}
use Rattle.sql_meaning.specs.Running.{are_own, command_of, creation_by, entry_with, first_part, found_table, index_on, kind_removed, part_of, query_of, removal_of, runnable_of}
use Rattle.sql_meaning.specs.Statement.{around, explained, plain_bound, statement_bound}
use Rattle.sql_meaning.specs.declared.column.TableEntry.{TableEntry}
use Rattle.sql_tree.specs.declared.statement.Definition.TheVariants as definition
use Rattle.sql_tree.specs.declared.statement.Definition.{Definition}
use Rattle.sql_tree.specs.declared.statement.ObjectKind.TheVariants as object
use Rattle.sql_tree.specs.declared.statement.ObjectKind.{ObjectKind}
use Rattle.sql_tree.specs.declared.statement.Explain.{Explain}
use Rattle.sql_tree.specs.declared.statement.Statement.{Statement}
use Rattle.sql_words.specs.Refusals.{◌>>=◌}
use Rattle.std.specs.Prelude.{slice_get}
use Rattle.bound_laws.specs.Order.{AreInOrder, in_front, width_of}
use Rattle.bound_laws.specs.Reach.{IsWithinIfThere, Reach}
use Rattle.bound_laws.specs.Writes.{ChangeIsWithin, CommandIsWithin, StatementIsWithin, WriteIsWithin}
use Rattle.bound_laws.proofs.Lists.{all_weaker}
use Rattle.bound_laws.proofs.StatementLaws.{statement_is}
use Rattle.meaning_laws.specs.Names.{NamesBelowIfThere}
use Rattle.meaning_laws.proofs.FromLaws.{all_below}
use Rattle.meaning_laws.proofs.NameLaws.{named_below}
use Rattle.meaning_laws.proofs.PutLaws.{SourceRuns, WriteRuns, put_runs}
use Rattle.meaning_laws.proofs.QueryLaws.{RunsWell, part_runs}
use Rattle.meaning_laws.proofs.UnitLaws.{GivesPart, Keeps, all_as_bound, as_bound, bound_keeps, gives_part, marked_keeps}

-- what runs of a command takes of what was bound
abbrev pub CommandRuns : List BoundUnit → BoundCommand → Type 0
CommandRuns units (bound.Asked place) = GivesPart units place 0
CommandRuns units (bound.Written w) = WriteRuns units w
CommandRuns units (bound.Created c) = ⊤
CommandRuns units (bound.Removed r) = ⊤
CommandRuns units (bound.Transacted t) = ⊤
CommandRuns units (bound.Pragma name) = ⊤
CommandRuns units (bound.Nothing kind name owner) = ⊤

-- ---- CREATE and DROP name nothing

nothing_named : (named : Runnable) (r : Runnable) → RunsWell named → (let answer : Result Runnable Cause = Ok named in answer ≡ Ok r) → RunsWell r
nothing_named named r h e = subst RunsWell (same-ok named r e) h

module _ (tables : List TableEntry) (number : ℕ) (text : List ℕ) (s : Statement) (c : BoundCreation) where
  table_runs : (r : Runnable) → creation_by tables number text s c None ≡ Ok r → RunsWell r
  table_runs r e =
      let made : Runnable = Creates (entry_with number text c.name s) in
      nothing_named made r (record { within = tt; columns = tt }) (if_built-ok (is_some (columns_created text s.command)) (Ok made) r e).1

  creation_runs : (d : Option Definition) (r : Runnable) → creation_by tables number text s c d ≡ Ok r → RunsWell r
  creation_runs (Some (definition.Index i)) r e =
      let one = then-ok (found_table (table_called tables c.owner)) (index_on text s c) r (if_built-ok (are_own c.parts) (found_table (table_called tables c.owner) >>= index_on text s c) r e).1 in
      nothing_named _ r (record { within = tt; columns = tt }) one.2
  creation_runs (Some (definition.Table t)) r e = table_runs r e
  creation_runs (Some (definition.View v)) r e = table_runs r e
  creation_runs (Some (definition.Trigger t)) r e = table_runs r e
  creation_runs (Some (definition.VirtualTable v)) r e = table_runs r e
  creation_runs None r e = table_runs r e

removal_runs : (tables : List TableEntry) (k : Option ObjectKind) (name : List ℕ) (r : Runnable) → removal_of tables k name ≡ Ok r → RunsWell r
removal_runs tables (Some object.Table) name r e =
    let drops : TableEntry → Result Runnable Cause = λ t. Ok (Drops t) in
    let table = then-ok (found_table (table_called tables name)) drops r e in
    nothing_named (Drops table.0) r (record { within = tt; columns = tt }) table.2
removal_runs tables (Some object.Index) name r e = nothing_named (Unindexes name) r (record { within = tt; columns = tt }) e
removal_runs tables (Some object.View) name r e = absurd (let bad : Err cause.NotYet ≡ Ok r = e in cc)
removal_runs tables (Some object.Trigger) name r e = absurd (let bad : Err cause.NotYet ≡ Ok r = e in cc)
removal_runs tables None name r e = absurd (let bad : Err cause.NotYet ≡ Ok r = e in cc)

-- ---- any command

query_runs : (tables : List TableEntry) (units : List BoundUnit) (place : ℕ) (r : Runnable) → GivesPart units place 0 → query_of tables units place ≡ Ok r → RunsWell r
query_runs tables units place r h e =
    let made = then-ok (first_part (slice_get units place)) (part_of tables) r e in
    let stands = h made.0 made.1 in
    part_runs stands.0 tables made.0 r stands.1 made.2

command_runs : (tables : List TableEntry) (number : ℕ) (text : List ℕ) (s : Statement) (units : List BoundUnit) (k : BoundCommand) (r : Runnable) → CommandRuns units k → command_of tables number text s units k ≡ Ok r → RunsWell r
command_runs tables number text s units (bound.Asked place) r h e = query_runs tables units place r h e
command_runs tables number text s units (bound.Written w) r h e = put_runs tables units w r h e
command_runs tables number text s units (bound.Created c) r h e = creation_runs tables number text s c (definition_in s.command) r e
command_runs tables number text s units (bound.Removed x) r h e = removal_runs tables (kind_removed s.command) x.name r e
command_runs tables number text s units (bound.Transacted t) r h e = absurd (let bad : Err cause.NotYet ≡ Ok r = e in cc)
command_runs tables number text s units (bound.Pragma name) r h e = nothing_named DoesNothing r (record { within = tt; columns = tt }) e
command_runs tables number text s units (bound.Nothing kind name owner) r h e = nothing_named DoesNothing r (record { within = tt; columns = tt }) e

-- ---- what was bound is within what there is

default_below : (r : Reach) (d : Option BoundExpr) → IsWithinIfThere r [] d → NamesBelowIfThere 0 d
default_below r None h = tt
default_below r (Some x) h = named_below r [] x h

module _ (f : BoundUnit → BoundUnit) (keeps : Keeps f) (units : List BoundUnit) (order : AreInOrder units) where
  source_runs : (arguments : ℕ) (target : List ℕ) (c : BoundChange) → ChangeIsWithin units arguments target c → SourceRuns (map f units) c
  source_runs arguments target (change.Inserted places given source handed) h = gives_part f keeps [] units source (length handed) h.0.0 order h.0.1
  source_runs arguments target change.Defaulted h = tt
  source_runs arguments target (change.Updated sets conjuncts) h = tt
  source_runs arguments target (change.Deleted conjuncts) h = tt

  write_runs : (triggers : ℕ) (w : BoundWrite) → WriteIsWithin units triggers [] w → WriteRuns (map f units) w
  write_runs triggers w h =
      let front : Reach = in_front units 0 in
      record {
        defaults = all_weaker (IsWithinIfThere front []) (NamesBelowIfThere 0) (default_below front) w.target.defaults h.target.defaults;
        checks = all_below front (width_of w.target.item ∷ []) w.target.checks h.target.checks;
        source = source_runs (length w.captures) (width_of w.target.item ∷ []) w.change h.change;
      }

  within_runs : (triggers : ℕ) (k : BoundCommand) → CommandIsWithin units triggers k → CommandRuns (map f units) k
  within_runs triggers (bound.Asked place) h = gives_part f keeps [] units place 0 h.0 order h.1
  within_runs triggers (bound.Written w) h = write_runs triggers w h
  within_runs triggers (bound.Created c) h = tt
  within_runs triggers (bound.Removed r) h = tt
  within_runs triggers (bound.Transacted t) h = tt
  within_runs triggers (bound.Pragma name) h = tt
  within_runs triggers (bound.Nothing kind name owner) h = tt

-- ---- what is ignored stands at the items alone

marked_runs : (ignored : List Action) (units : List BoundUnit) (k : BoundCommand) → CommandRuns units k → CommandRuns units (marked_command ignored k)
marked_runs ignored units (bound.Asked place) h = h
marked_runs ignored units (bound.Written w) h = record { defaults = h.defaults; checks = h.checks; source = h.source }
marked_runs ignored units (bound.Created c) h = tt
marked_runs ignored units (bound.Removed r) h = tt
marked_runs ignored units (bound.Transacted t) h = tt
marked_runs ignored units (bound.Pragma name) h = tt
marked_runs ignored units (bound.Nothing kind name owner) h = tt

permitted_runs : (b : BoundStatement) (p : Permit) (allowed : BoundStatement) → StatementIsWithin b → permitted b p ≡ Ok allowed → CommandRuns allowed.units allowed.command
permitted_runs b (Denies action) allowed h e = absurd (let bad : Err (cause.Denied action) ≡ Ok allowed = e in cc)
permitted_runs b (Ignores []) allowed h e =
    subst (λ (x : BoundStatement). CommandRuns x.units x.command) (same-ok b allowed e)
    (subst (λ units. CommandRuns units b.command) (all_as_bound b.units) (within_runs as_bound bound_keeps b.units h.units (length b.triggers) b.command h.command))
permitted_runs b (Ignores (a ∷ ignored)) allowed h e =
    subst (λ (x : BoundStatement). CommandRuns x.units x.command) (same-ok (ignoring (a ∷ ignored) b) allowed e)
    (marked_runs (a ∷ ignored) (map (marked_unit (a ∷ ignored)) b.units) b.command
    (within_runs (marked_unit (a ∷ ignored)) (marked_keeps (a ∷ ignored)) b.units h.units (length b.triggers) b.command h.command))

plain_runs : (asked : Asking) (entries : Entries) (number : ℕ) (text : List ℕ) (s : Statement) (r : Runnable) → plain_bound asked entries number text s ≡ Ok r → RunsWell r
plain_runs asked entries number text s r e =
    let run : BoundStatement → Result Runnable Cause = runnable_of (tables_of entries) number text s in
    let built = if_built-ok (is_built text s) (bound_of (around entries) text s >>= λ b. permitted b (asked b) >>= run) r e in
    let made = then-ok (bound_of (around entries) text s) (λ b. permitted b (asked b) >>= run) r built.1 in
    let may = then-ok (permitted made.0 (asked made.0)) run r made.2 in
    command_runs (tables_of entries) number text s may.0.units may.0.command r
    (permitted_runs made.0 (asked made.0) may.0 (statement_is (around entries) text s made.0 made.1) may.1) may.2

-- what is shown of a statement names what it names
explained_runs : (how : Option Explain) (answer : Result Runnable Cause) (r : Runnable) → ((b : Runnable) → answer ≡ Ok b → RunsWell b) → explained how answer ≡ Ok r → RunsWell r
explained_runs None answer r runs e = runs r e
explained_runs (Some how) answer r runs e =
    let show : Runnable → Result Runnable Cause = λ b. Ok (Explains how b) in
    let made = then-ok answer show r e in
    subst RunsWell (same-ok (Explains how made.0) r made.2) (record { within = (runs made.0 made.1).within; columns = tt })

pub statement_runs : (asked : Asking) (entries : Entries) (number : ℕ) (text : List ℕ) (s : Statement) (r : Runnable) → statement_bound asked entries number text s ≡ Ok r → RunsWell r
statement_runs asked entries number text s r e =
    explained_runs s.explain (plain_bound asked entries number text s) r (λ b is. plain_runs asked entries number text s b is) e
