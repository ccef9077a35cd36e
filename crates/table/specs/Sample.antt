-- Document 01's sample S, and tables of one task, written out.
use Rattle.std.specs.Prelude.{List, [], ◌∷◌, ℕ}
use Rattle.table.specs.Table.{Task, Transaction, Table}

abbrev pub task : (O J B D P : ℕ) → List ℕ → Task
task O J B D P times =
    record { offset = O; jitter = J; blocking = B; deadline = D; priority = P; times = times }

-- a task of one mode, with no jitter and no blocking
abbrev pub plain : (O C P D : ℕ) → Task
plain O C P D = task O 0 0 D P (C ∷ [])

abbrev pub transaction : (T modes : ℕ) → List Task → Transaction
transaction T modes tasks = record { period = T; modes = modes; tasks = tasks }

abbrev pub table : (frame : ℕ) → List Transaction → Table
table frame transactions = record { edition = 1; frame = frame; transactions = transactions }

-- S: frame 20; a transaction of two tasks, and one of a single less urgent task
abbrev pub S : Table
S = table 20 (transaction 20 1 (plain 0 2 9 10 ∷ plain 4 3 8 10 ∷ []) ∷ transaction 20 1 (plain 0 2 1 4 ∷ []) ∷ [])

-- a table of one task, whose period is the major frame
abbrev pub lone : (T : ℕ) → Task → Table
lone T t = table T (transaction T 1 (t ∷ []) ∷ [])
