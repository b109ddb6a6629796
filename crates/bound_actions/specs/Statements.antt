-- What an authorizer is asked about a statement.
use Rattle.std.specs.Prelude.{List, [], ◌∷◌, None, codes}
use Rattle.eng_value.specs.declared.authorizing.Action.{Action}
use Rattle.eng_value.specs.declared.authorizing.ActionKind.TheVariants as kind
use Rattle.eng_value.specs.declared.authorizing.ActionKind.{ActionKind}
use Rattle.bound_tree.specs.declared.statements.BoundCommand.TheVariants as command
use Rattle.bound_tree.specs.declared.statements.BoundCommand.{BoundCommand}
use Rattle.bound_tree.specs.declared.statements.BoundStatement.{BoundStatement}
use Rattle.bound_tree.specs.declared.statements.BoundTransaction.TheVariants as transaction
use Rattle.bound_tree.specs.declared.statements.BoundTransaction.{BoundTransaction}
use Rattle.bound_tree.specs.declared.statements.ThingKind.TheVariants as thing
use Rattle.bound_tree.specs.declared.statements.ThingKind.{ThingKind}
use Rattle.bound_tree.specs.declared.writes.BoundTrigger.{BoundTrigger}
use Rattle.bound_actions.specs.Pieces.{action, actions_in, unit_named}
use Rattle.bound_actions.specs.Queries.{units_pieces}
use Rattle.bound_actions.specs.Writes.{nothing_listed, opened, write_listed}
use Rattle.bound_actions.specs.declared.pieces.Piece.{Piece}

-- ---- CREATE and DROP

abbrev pub creation_kind : ThingKind → ActionKind
creation_kind thing.ATable = kind.CreateTable
creation_kind thing.AModuleTable = kind.CreateModule
creation_kind thing.AnIndex = kind.CreateIndex
creation_kind thing.AView = kind.CreateView
creation_kind thing.ATrigger = kind.CreateTrigger

-- a table of a module is a table
abbrev pub removal_kind : ThingKind → ActionKind
removal_kind thing.ATable = kind.DropTable
removal_kind thing.AModuleTable = kind.DropTable
removal_kind thing.AnIndex = kind.DropIndex
removal_kind thing.AView = kind.DropView
removal_kind thing.ATrigger = kind.DropTrigger

-- ---- transactions and savepoints

abbrev pub transaction_action : BoundTransaction → Action
transaction_action transaction.Begins = action None kind.Transaction (codes "BEGIN") []
transaction_action transaction.Commits = action None kind.Transaction (codes "COMMIT") []
transaction_action transaction.RollsBack = action None kind.Transaction (codes "ROLLBACK") []
transaction_action (transaction.Saves name) = action None kind.Savepoint (codes "BEGIN") name
transaction_action (transaction.Releases name) = action None kind.Savepoint (codes "RELEASE") name
transaction_action (transaction.RollsBackTo name) = action None kind.Savepoint (codes "ROLLBACK") name

-- ---- the whole: what IF [NOT] EXISTS lets do nothing is not asked about

abbrev pub command_actions : List (List Piece) → List BoundTrigger → BoundCommand → List Action
command_actions u triggers (command.Asked unit) = actions_in (unit_named u unit)
command_actions u triggers (command.Written w) = (write_listed (opened u triggers triggers) u None [] w nothing_listed).actions
command_actions u triggers (command.Created c) = action None (creation_kind c.kind) c.name c.owner ∷ []
command_actions u triggers (command.Removed r) = action None (removal_kind r.kind) r.name r.owner ∷ []
command_actions u triggers (command.Transacted t) = transaction_action t ∷ []
command_actions u triggers (command.Pragma name) = action None kind.Pragma name [] ∷ []
command_actions u triggers (command.Nothing k name owner) = []

abbrev pub actions_of : BoundStatement → List Action
actions_of b = command_actions (units_pieces b.units) b.triggers b.command
