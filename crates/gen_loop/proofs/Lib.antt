-- What loops do, one row after the other:
pub mod Ordered
pub mod Conjuncts
pub mod Keys
pub mod Paths
pub mod Turns
pub mod Places
pub mod Pairs
pub mod Alone
-- The loops of a plan behind its checks:
pub mod Gathered
-- Cursors in the places of loops, and what stands between their opening and closing:
pub mod Rules
pub mod Spread
pub mod Cursors
pub mod Tables
pub mod Around
-- Rows that are put into a sorter, and walked in the order of the FROM with each cursor back on its row:
pub mod Giving
pub mod Found
pub mod Positions
pub mod Collecting
pub mod Seeking
pub mod Walking
pub mod Sorted
