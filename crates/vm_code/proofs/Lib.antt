-- The library that generators of code are proved with, in the order in which it is read.
--
-- What tables and runs do by themselves:
pub mod Rows
pub mod Runs
pub mod Kept
pub mod Given
-- How a draft grows with each call of the Builder, what is open along it (`Steady`: `st_then` puts one stretch behind another, `st_op`, `st_fork`,
-- `st_reads`, `st_use`, `st_goto`, `st_leave` are the single instructions, `st_opened` is a cursor that is opened and closed, `st_loop` a loop, and `st_wider` where
-- more is so of cursors), what instructions need of cursors (`met_both`, `met_rows`), and what registers and rows under cursors read:
pub mod Drafts
pub mod Meeting
pub mod Tracks
pub mod Registers
-- What a run looks at of the tables:
pub mod Reading
-- Stretches of code by claims. `t_seq` puts one behind another, `t_use` turns claims, `t_more` allows more instructions; `t_op`,
-- `t_test`, `t_goto`, `t_halt`, `t_halt_bad` are the single instructions, and a jump goes by what holds at its label:
pub mod Triples
-- Expressions, bodies of loops and calls (`Leaves`, `Does`) as stretches, and stretches as those:
pub mod Effects
-- Values by an instruction (`leaves_op`, `leaves_one`), operands and what is made of them (`offers_then`, `leaves_by`), and values in
-- registers one after another (`Fills`):
pub mod Values
pub mod Operands
pub mod Fills
-- Tests one after another, each of which may go to a label (`Sifts`: `sifts_then`):
pub mod Sifting
-- A loop over the rows of a table, whose body does its work once for each row in their order (`t_loop`). It is a case of `t_rows`, and that of
-- `t_turns`, a loop over whatever a cursor comes onto one after another:
pub mod Loops
-- A loop over rows that a cursor stands on, whose turns cost what they cost in the state that each of them finds, as those do whose bodies
-- change the tables that later ones look at (`t_along`):
pub mod Along
-- What stands in front of a row that is put (`t_must_be_int`, `t_not_exists`), and a cursor on the row that registers hold (`t_row_of`; between it
-- and `Close` goes `st_opened`; `env_row_of`, `reads_row_of`, `reads_others`: what is read there; `sees_moved`: what code goes by behind any move of a cursor):
pub mod NewRows
-- A loop over the rows that a search finds (`t_search`), and over those that it found, whatever becomes of the tables (`t_chosen`; `sees_chosen`: what
-- code goes by on such a row); the building of indexes (`t_build_index`, `t_build_unique`):
pub mod Searches
-- A cursor on the row of a rowid that a register holds (`t_seek_rowid`; `sees_sought`: what code goes by there):
pub mod Seeks
-- Sorters (`t_sorter_open`, `t_sorter_insert`, `t_sorter_data`), and a loop over the rows of one in their order (`t_sorted`, and `t_sorted_along`, whose
-- turns cost what they cost in the state that each of them finds; both are cases of `t_rounds`, as `t_turns` is):
pub mod Sorters
-- Bodies that are left in their middle, and what stands behind them goes on (`caught_does`):
pub mod Caught
-- Calls of units that change what is shared (`t_work`):
pub mod Calls
-- Numbers of sets of open cursors, and room for registers, for the code of this crate alone:
mod SetNumbers
mod Rooms
-- From the code of a main unit to what its program performs (`performs_of`), and to a program that keeps the rules (`accepted_of`):
pub mod Whole
pub mod Accepting
