-- What neither reads nor puts rows.
use Rattle.std.proofs.Common.{◌≡◌, ℕ, Bool, true, false, ◌&&◌, is_some, if◌then◌else◌, List, Option, Some, None, Result, Ok, Err, subst}
use Rattle.std.specs.Bool.{⊤}
use Rattle.eng_entry.specs.declared.entry.Entry.{Entry}
use Rattle.eng_value.specs.declared.cause.Cause.{Cause}
use Rattle.eng_value.specs.declared.cause.Cause.TheVariants as cause
use Rattle.sql_tree.specs.declared.statement.Create.{Create}
use Rattle.sql_tree.specs.declared.statement.Definition.{Definition}
use Rattle.sql_tree.specs.declared.statement.Definition.TheVariants as definition
use Rattle.sql_tree.specs.declared.statement.ObjectKind.{ObjectKind}
use Rattle.sql_tree.specs.declared.statement.ObjectKind.TheVariants as object
use Rattle.sql_tree.specs.declared.statement.Statement.{Statement}
use Rattle.bound_tree.specs.declared.statements.BoundCommand.{BoundCommand}
use Rattle.bound_tree.specs.declared.statements.BoundCommand.TheVariants as made
use Rattle.bound_tree.specs.declared.statements.ThingKind.{ThingKind}
use Rattle.bound_tree.specs.declared.units.BoundUnit.{BoundUnit}
use Rattle.sql_words.specs.Refusals.{◌>>=◌}
use Rattle.sql_bound.specs.Creates.{create_there, created_by, is_free, name_of_entry, nothing_created}
use Rattle.sql_bound.specs.Scopes.{Outer}
use Rattle.sql_bound.specs.Statements.{removed}
use Rattle.sql_meaning.specs.Declarations.{columns_created, table_called}
use Rattle.sql_bound.specs.Declarations.{definition_in}
use Rattle.sql_meaning.specs.Running.{are_own, command_of, creation_by, entry_with, found_table, if_built, index_on, kind_removed, removal_of}
use Rattle.bound_tree.specs.declared.statements.BoundCreation.{BoundCreation}
use Rattle.sql_meaning.specs.Runnables.{Creates, DoesNothing, Drops, Indexes, Runnable, Unindexes}
use Rattle.sql_meaning.specs.declared.column.TableEntry.{TableEntry}
use Rattle.sql_meaning.proofs.ValidLaws.{if_built-ok, same-ok, then-ok}

abbrev pub IsAside : Runnable → Type 0
IsAside (Creates e) = ⊤
IsAside (Drops t) = ⊤
IsAside (Indexes i) = ⊤
IsAside (Unindexes name) = ⊤
IsAside DoesNothing = ⊤
IsAside other = ⊥

abbrev pub IsAsideCommand : BoundCommand → Type 0
IsAsideCommand (made.Asked place) = ⊥
IsAsideCommand (made.Written w) = ⊥
IsAsideCommand other = ⊤

table-aside : (number : ℕ) (text : List ℕ) (s : Statement) (c : BoundCreation) (x : Runnable) → if_built (is_some (columns_created text s.command)) (Ok (Creates (entry_with number text c.name s))) ≡ Ok x → IsAside x
table-aside number text s c x e =
    let entry = entry_with number text c.name s in
    subst IsAside (same-ok (Creates entry) x (if_built-ok (is_some (columns_created text s.command)) (Ok (Creates entry)) x e).1) tt

removal-aside : (tables : List TableEntry) (k : Option ObjectKind) (name : List ℕ) (x : Runnable) → removal_of tables k name ≡ Ok x → IsAside x
removal-aside tables (Some object.Table) name x e =
    let drops : TableEntry → Result Runnable Cause = λ t. Ok (Drops t) in
    let t = then-ok (found_table (table_called tables name)) drops x e in
    subst IsAside (same-ok (Drops t.0) x t.2) tt
removal-aside tables (Some object.Index) name x e = subst IsAside (same-ok (Unindexes name) x e) tt
removal-aside tables (Some object.View) name x e = absurd (let bad : Err cause.NotYet ≡ Ok x = e in cc)
removal-aside tables (Some object.Trigger) name x e = absurd (let bad : Err cause.NotYet ≡ Ok x = e in cc)
removal-aside tables None name x e = absurd (let bad : Err cause.NotYet ≡ Ok x = e in cc)

creation-aside : (tables : List TableEntry) (number : ℕ) (text : List ℕ) (s : Statement) (c : BoundCreation) (d : Option Definition) (x : Runnable) → creation_by tables number text s c d ≡ Ok x → IsAside x
creation-aside tables number text s c (Some (definition.Index i)) x e =
    let one = then-ok (found_table (table_called tables c.owner)) (index_on text s c) x (if_built-ok (are_own c.parts) (found_table (table_called tables c.owner) >>= index_on text s c) x e).1 in
    subst IsAside (same-ok _ x one.2) tt
creation-aside tables number text s c (Some (definition.Table t)) x e = table-aside number text s c x e
creation-aside tables number text s c (Some (definition.View v)) x e = table-aside number text s c x e
creation-aside tables number text s c (Some (definition.Trigger t)) x e = table-aside number text s c x e
creation-aside tables number text s c (Some (definition.VirtualTable v)) x e = table-aside number text s c x e
creation-aside tables number text s c None x e = table-aside number text s c x e

pub command-aside : (tables : List TableEntry) (number : ℕ) (text : List ℕ) (s : Statement) (units : List BoundUnit) (k : BoundCommand) (x : Runnable) → IsAsideCommand k → command_of tables number text s units k ≡ Ok x → IsAside x
command-aside tables number text s units (made.Asked place) x a e = absurd a
command-aside tables number text s units (made.Written w) x a e = absurd a
command-aside tables number text s units (made.Created c) x a e = creation-aside tables number text s c (definition_in s.command) x e
command-aside tables number text s units (made.Removed r) x a e = removal-aside tables (kind_removed s.command) r.name x e
command-aside tables number text s units (made.Transacted t) x a e = absurd (let bad : Err cause.NotYet ≡ Ok x = e in cc)
command-aside tables number text s units (made.Pragma name) x a e = subst IsAside (same-ok DoesNothing x e) tt
command-aside tables number text s units (made.Nothing kind name owner) x a e = subst IsAside (same-ok DoesNothing x e) tt

nothing-aside : (o : Outer) (name : List ℕ) (d : Definition) → IsAsideCommand (nothing_created o name d)
nothing-aside o name (definition.Table t) = tt
nothing-aside o name (definition.Index i) = tt
nothing-aside o name (definition.View v) = tt
nothing-aside o name (definition.Trigger t) = tt
nothing-aside o name (definition.VirtualTable v) = tt

pub create-aside : (o : Outer) (c : Create) (name : List ℕ) (there : Option Entry) (k : BoundCommand) → create_there o c name there ≡ Ok k → IsAsideCommand k
create-aside o c name there k e = by (c.if_not_exists && is_some there) e
  where
    by : (skips : Bool) → (if skips then Ok (nothing_created o (name_of_entry name there) c.definition) else (is_free name there >>= λ u. created_by o name c.definition >>= λ x. Ok (made.Created x))) ≡ Ok k → IsAsideCommand k
    by true f = subst IsAsideCommand (same-ok (nothing_created o (name_of_entry name there) c.definition) k f) (nothing-aside o (name_of_entry name there) c.definition)
    by false f =
        let free = then-ok (is_free name there) (λ u. created_by o name c.definition >>= λ x. Ok (made.Created x)) k f in
        let one = then-ok (created_by o name c.definition) (λ x. Ok (made.Created x)) k free.2 in
        subst IsAsideCommand (same-ok (made.Created one.0) k one.2) tt

pub removed-aside : (if_exists : Bool) (kind : ObjectKind) (name : List ℕ) (there : Option Entry) (t : Option (ThingKind × Entry)) (k : BoundCommand) → removed if_exists kind name there t ≡ Ok k → IsAsideCommand k
removed-aside if_exists kind name there (Some t) k e = subst IsAsideCommand (same-ok _ k e) tt
removed-aside true kind name there None k e = subst IsAsideCommand (same-ok _ k e) tt
removed-aside false kind name there None k e = absurd (cc)

pub pragma-aside : (known : Bool) (name : List ℕ) (why : Cause) (k : BoundCommand) → (if known then Ok (made.Pragma name) else Err why) ≡ Ok k → IsAsideCommand k
pragma-aside true name why k e = subst IsAsideCommand (same-ok (made.Pragma name) k e) tt
pragma-aside false name why k e = absurd (let bad : Err why ≡ Ok k = e in cc)
