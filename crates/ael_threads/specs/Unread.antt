-- Histories in which nobody reads the board or makes a cell, and the words that stand on it.
use Rattle.std.specs.Prelude.{◌≡◌, ◌≢◌, ◌⊎◌, ⊤, ℕ, List, [], ◌∷◌, ◌++◌, Some, map, slice_get}
use Rattle.plain_state.specs.State.{Mutator, Plain}
use Rattle.mutator_asm.specs.declared.instr.Instr.{Instr}
use Rattle.mutator_asm.specs.declared.instr.Instr.TheVariants as instrs
use Rattle.mutator_asm.specs.declared.operand.Operand.{Operand}
use Rattle.mutator_asm.specs.declared.operand.Operand.TheVariants as operands
use Rattle.plain_heap.specs.Action.{register}
use Rattle.plain_heap.specs.Call.{board_word}
use Rattle.heap_laws.specs.Opening.{opening_plain}
use Rattle.gc_worker.specs.declared.task.Task.{Task}
use Rattle.gc_worker.specs.declared.task.Task.TheVariants.{Calls, Stops}
use Rattle.gc_worker.specs.declared.calls.call.Call.{Call}
use Rattle.gc_worker.specs.declared.calls.did.Did.TheVariants.{Done}
use Rattle.gc_worker.specs.declared.calls.entry.Entry.{Entry}
use Rattle.gc_worker.specs.declared.calls.entry.Entry.TheVariants.{Exchanged, Made, Emptied}
use Rattle.gc_worker.specs.History.Legal.{IsLegal, after_all, calls_of}
use Rattle.ael_threads.specs.Alone.{ComesToTheSame, LeavesBoard}

-- ---- calls that put

-- a fact of each call of a history
abbrev pub EachCall : (Call → Type 0) → List Entry → Type 0
EachCall P [] = ⊤
EachCall P (Made c ∷ es) = P c × EachCall P es
EachCall P (Exchanged by asked ∷ es) = EachCall P es
EachCall P (Emptied cells ∷ es) = EachCall P es

-- the call put register a in the word of the board that the operand names
pub record IsPut (c : Call) (place : Operand) (a : ℕ) : Type 0 where
  pub task : c.task ≡ Calls (instrs.Put place a)
  pub did : c.did ≡ Done

-- the call doesn't read the board and makes no cell: it names no word of the board, or put a register there
abbrev pub LeavesUnread : Call → Type 0
LeavesUnread c = LeavesBoard c ⊎ ((place : Operand) × (a : ℕ) × IsPut c place a)

-- the call leaves word x of the board, and makes no cell: it names no word, or put a register in another one, which it named by a number
abbrev pub LeavesWord : (x : ℕ) → Call → Type 0
LeavesWord x c = LeavesBoard c ⊎ ((y : ℕ) × (a : ℕ) × (y ≢ x) × IsPut c (operands.Number y) a)

-- ---- puts as moves

-- a put leaves its mutator and all records as a move of the register to itself does
abbrev pub instr_as_move : Instr → Instr
instr_as_move (instrs.Put place a) = instrs.Mov a a
instr_as_move instr = instr

abbrev pub task_as_move : Task → Task
task_as_move (Calls instr) = Calls (instr_as_move instr)
task_as_move (Stops end) = Stops end

-- a put as such a move, and any other call as it is
abbrev pub as_move : Call → Call
as_move c = record c { task = task_as_move c.task }

-- ---- the laws

-- In a history in which nobody reads the board or makes a cell, the calls of each mutator come to what they come to alone, with moves in
-- place of its puts.
abbrev pub UnreadBoardsShareNothing : Type 0
UnreadBoardsShareNothing = (mutators : ℕ) (log : List Entry) (m : ℕ) → IsLegal (opening_plain mutators) log → EachCall LeavesUnread log
    → ComesToTheSame (opening_plain mutators) (after_all (opening_plain mutators) log) m (map as_move (calls_of m log))

-- a word of the board that each call leaves is what it was
abbrev pub BoardWordsStay : Type 0
BoardWordsStay = (p : Plain) (log : List Entry) (x : ℕ) → EachCall (LeavesWord x) log → board_word (after_all p log).heap x ≡ board_word p.heap x

-- In a legal history a register was put in a word of the board, and no later call has put another there. Then the word is what the
-- register held before that put.
abbrev pub LastPutStands : Type 0
LastPutStands = (mutators : ℕ) (front rest : List Entry) (c : Call) (x a : ℕ) (q : Mutator) → IsLegal (opening_plain mutators) (front ++ Made c ∷ rest)
    → IsPut c (operands.Number x) a → EachCall (LeavesWord x) rest → slice_get (after_all (opening_plain mutators) front).mutators c.by ≡ Some q
    → board_word (after_all (opening_plain mutators) (front ++ Made c ∷ rest)).heap x ≡ register q a
