-- What an authorizer is asked about writes, and the triggers that they can fire.
use Rattle.std.specs.Prelude.{◌≡◌, ℕ, List, [], ◌∷◌, Some, None, codes, refl}
use Rattle.eng_value.specs.declared.authorizing.ActionKind.TheVariants as kind
use Rattle.bound_tree.specs.Exprs as e
use Rattle.bound_tree.specs.declared.units.BoundPart.TheVariants as part
use Rattle.bound_tree.specs.declared.writes.BoundChange.TheVariants.{Defaulted, Deleted, Inserted, Updated}
use Rattle.bound_tree.specs.declared.writes.BoundStep.TheVariants.{Asks, Writes}
use Rattle.bound_tree.specs.declared.writes.BoundTrigger.{BoundTrigger}
use Rattle.bound_tree.specs.declared.writes.BoundWrite.{BoundWrite}
use Rattle.bound_tree.specs.declared.writes.ConflictTest.TheVariants.{OfAny}
use Rattle.bound_actions.specs.Pieces.{action}
use Rattle.bound_actions.specs.Samples.{both, core, null, query, query_in, read, select, t_item, trigger, u_item, write, writing}
use Rattle.bound_actions.specs.Statements.{actions_of}

-- `INSERT INTO u VALUES (NULL)`, `INSERT INTO u SELECT a FROM t` and `INSERT INTO u DEFAULT VALUES`
an_insert : actions_of (writing (query_in None [] (part.Values ((null ∷ []) ∷ [])) ∷ []) [] (write u_item (Inserted (Some 0 ∷ []) None 0 []) [])) ≡ action None kind.Insert (codes "u") [] ∷ []
an_insert = refl

an_insert_of_a_query : actions_of (writing (query (core (e.Column 0 0 ∷ []) (t_item ∷ []) []) ∷ []) [] (write u_item (Inserted (Some 0 ∷ []) None 0 []) [])) ≡ action None kind.Insert (codes "u") [] ∷ select None ∷ read None (codes "t") (codes "a") ∷ []
an_insert_of_a_query = refl

an_insert_of_defaults : actions_of (writing [] [] (write u_item Defaulted [])) ≡ action None kind.Insert (codes "u") [] ∷ []
an_insert_of_defaults = refl

-- `UPDATE t SET a = b, rowid = NULL WHERE a`
an_update : actions_of (writing [] [] (write t_item (Updated (record { column = Some 0; value = e.Column 0 1 } ∷ record { column = None; value = null } ∷ []) (e.Column 0 0 ∷ [])) [])) ≡ action None kind.Update (codes "t") (codes "a") ∷ read None (codes "t") (codes "b") ∷ action None kind.Update (codes "t") (codes "rowid") ∷ read None (codes "t") (codes "a") ∷ []
an_update = refl

-- `DELETE FROM t` and `DELETE FROM t WHERE b`
a_delete : actions_of (writing [] [] (write t_item (Deleted []) [])) ≡ action None kind.Delete (codes "t") [] ∷ []
a_delete = refl

a_delete_where : actions_of (writing [] [] (write t_item (Deleted (e.Column 0 1 ∷ [])) [])) ≡ action None kind.Delete (codes "t") [] ∷ read None (codes "t") (codes "b") ∷ []
a_delete_where = refl

-- CHECK is not asked about
abbrev checked : BoundWrite
checked = let w = write u_item Defaulted [] in record w { target = record w.target { checks = e.Column 0 0 ∷ [] } }

a_check : actions_of (writing [] [] checked) ≡ action None kind.Insert (codes "u") [] ∷ []
a_check = refl

-- ---- `UPDATE t SET a = NULL` with `CREATE TRIGGER p UPDATE ON t WHEN old.a BEGIN DELETE FROM u WHERE c || new.b; SELECT new.a; END`
abbrev deletes : BoundTrigger
deletes =
    trigger (codes "p") (Some (e.Column 0 0)) (Writes (record (write u_item (Deleted (both (e.Column 0 0) (e.Argument 0) ∷ [])) []) { captures = e.Column 1 1 ∷ [] }) ∷ Asks 0 (e.Column 1 0 ∷ []) ∷ [])

abbrev updates : List ℕ → BoundWrite
updates fires = write t_item (Updated (record { column = Some 0; value = null } ∷ []) []) fires

a_trigger : actions_of (writing (query_in (Some (codes "p")) [] (part.Select (core (e.Argument 0 ∷ []) [] [])) ∷ []) (deletes ∷ []) (updates (0 ∷ []))) ≡ action None kind.Update (codes "t") (codes "a") ∷ read (Some (codes "p")) (codes "t") (codes "a") ∷ action (Some (codes "p")) kind.Delete (codes "u") [] ∷ read (Some (codes "p")) (codes "u") (codes "c") ∷ read (Some (codes "p")) (codes "t") (codes "b") ∷ select (Some (codes "p")) ∷ read (Some (codes "p")) (codes "t") (codes "a") ∷ []
a_trigger = refl

-- ---- two triggers that fire themselves and each other: each stands once, behind the first write that can fire it
abbrev repeats : BoundTrigger
repeats = trigger (codes "p") None (Writes (updates (0 ∷ 1 ∷ [])) ∷ Writes (write u_item Defaulted []) ∷ [])

abbrev follows : BoundTrigger
follows = trigger (codes "q") None (Writes (updates (0 ∷ 1 ∷ [])) ∷ [])

each_once : actions_of (writing [] (repeats ∷ follows ∷ []) (updates (0 ∷ 1 ∷ []))) ≡ action None kind.Update (codes "t") (codes "a") ∷ action (Some (codes "p")) kind.Update (codes "t") (codes "a") ∷ action (Some (codes "q")) kind.Update (codes "t") (codes "a") ∷ action (Some (codes "p")) kind.Insert (codes "u") [] ∷ []
each_once = refl

-- ---- `REPLACE INTO t DEFAULT VALUES`: its own triggers and those of its deletes, in order of creation
replacing : actions_of (writing [] (trigger (codes "p") None [] ∷ trigger (codes "q") (Some (e.Column 0 0)) [] ∷ trigger (codes "r") (Some (e.Column 1 1)) [] ∷ []) (write t_item Defaulted (2 ∷ 1 ∷ 0 ∷ []))) ≡ action None kind.Insert (codes "t") [] ∷ read (Some (codes "r")) (codes "t") (codes "b") ∷ read (Some (codes "q")) (codes "t") (codes "a") ∷ []
replacing = refl

-- ---- `INSERT INTO t DEFAULT VALUES ON CONFLICT DO UPDATE SET a = excluded.b WHERE t.a RETURNING rowid`
upserting : actions_of (writing [] [] (record (write t_item Defaulted []) { upsert = Some (record { test = OfAny; sets = Some (record { column = Some 0; value = e.Column 1 1 } ∷ []); conjuncts = e.Column 0 0 ∷ [] }); returning = Some (record { results = e.Rowid 0 ∷ []; columns = [] }) })) ≡ action None kind.Insert (codes "t") [] ∷ action None kind.Update (codes "t") (codes "a") ∷ read None (codes "t") (codes "b") ∷ read None (codes "t") (codes "a") ∷ read None (codes "t") (codes "rowid") ∷ []
upserting = refl
