-- What an authorizer is asked about other statements.
use Rattle.std.specs.Prelude.{◌≡◌, false, [], ◌∷◌, None, codes, refl}
use Rattle.eng_value.specs.declared.authorizing.ActionKind.TheVariants as kind
use Rattle.bound_tree.specs.declared.statements.BoundCommand.TheVariants as command
use Rattle.bound_tree.specs.declared.statements.BoundTransaction.TheVariants as transaction
use Rattle.bound_tree.specs.declared.statements.ThingKind.TheVariants as thing
use Rattle.bound_actions.specs.Pieces.{action}
use Rattle.bound_actions.specs.Samples.{plain}
use Rattle.bound_actions.specs.Statements.{actions_of}

-- `CREATE INDEX i ON t(a)` and `CREATE VIRTUAL TABLE k USING kv`
an_index : actions_of (plain (command.Created (record { kind = thing.AnIndex; name = codes "i"; owner = codes "t"; unique = false; parts = []; arguments = [] }))) ≡ action None kind.CreateIndex (codes "i") (codes "t") ∷ []
an_index = refl

a_module_table : actions_of (plain (command.Created (record { kind = thing.AModuleTable; name = codes "k"; owner = codes "kv"; unique = false; parts = []; arguments = [] }))) ≡ action None kind.CreateModule (codes "k") (codes "kv") ∷ []
a_module_table = refl

-- `DROP TABLE k` of a module, and `DROP TRIGGER p`
a_table_dropped : actions_of (plain (command.Removed (record { kind = thing.AModuleTable; name = codes "k"; owner = codes "kv" }))) ≡ action None kind.DropTable (codes "k") (codes "kv") ∷ []
a_table_dropped = refl

a_trigger_dropped : actions_of (plain (command.Removed (record { kind = thing.ATrigger; name = codes "p"; owner = codes "t" }))) ≡ action None kind.DropTrigger (codes "p") (codes "t") ∷ []
a_trigger_dropped = refl

-- `BEGIN`, `SAVEPOINT s` and `ROLLBACK TO s`
a_transaction : actions_of (plain (command.Transacted transaction.Begins)) ≡ action None kind.Transaction (codes "BEGIN") [] ∷ []
a_transaction = refl

a_savepoint : actions_of (plain (command.Transacted (transaction.Saves (codes "s")))) ≡ action None kind.Savepoint (codes "BEGIN") (codes "s") ∷ []
a_savepoint = refl

a_way_back : actions_of (plain (command.Transacted (transaction.RollsBackTo (codes "s")))) ≡ action None kind.Savepoint (codes "ROLLBACK") (codes "s") ∷ []
a_way_back = refl

-- `PRAGMA foreign_keys = OFF`, and `DROP TABLE IF EXISTS t` where there is none
a_pragma : actions_of (plain (command.Pragma (codes "foreign_keys"))) ≡ action None kind.Pragma (codes "foreign_keys") [] ∷ []
a_pragma = refl

nothing_done : actions_of (plain (command.Nothing thing.ATable (codes "t") [])) ≡ []
nothing_done = refl
