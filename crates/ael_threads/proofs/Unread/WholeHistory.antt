-- A history in which nobody reads the board: with moves in place of puts it leaves the board alone, and else comes to the same.
use Rattle.std.proofs.Common.{◌≡◌, ℕ, inl, inr, Bool, true, false, cond, ◌==◌, List, [], ◌∷◌, map, slice_get, refl, ap, sym, ◌∙◌, subst}
use Rattle.std.specs.Prelude.{IsTrue}
use Rattle.plain_state.specs.State.{Heap, Plain, made_by}
use Rattle.heap_laws.specs.Opening.{opening_plain}
use Rattle.gc_worker.specs.declared.task.Task.{Task}
use Rattle.gc_worker.specs.declared.calls.call.Call.{Call}
use Rattle.gc_worker.specs.declared.calls.entry.Entry.{Entry}
use Rattle.gc_worker.specs.declared.calls.entry.Entry.TheVariants.{Made, Exchanged, Emptied}
use Rattle.gc_worker.specs.Plain.Answer.{with_emptied}
use Rattle.gc_worker.specs.History.Legal.{IsLegal, after_all, after_call, calls_of}
use Rattle.ael_threads.specs.Alone.{ComesToTheSame, LeavesBoard, task_leaves_board}
use Rattle.ael_threads.specs.Histories.{Each}
use Rattle.ael_threads.specs.Unread.{EachCall, LeavesUnread, UnreadBoardsShareNothing, as_move, task_as_move}
use Rattle.ael_threads.proofs.Alone.LoneCalls.{lone_calls_come_to_the_same}
use Rattle.ael_threads.proofs.Unread.OneCall.{IsMovedTo, emptied-beside, moved_to, same_as_move, unread-same}

-- ---- the history

abbrev all_as_moves : List Entry → List Entry
all_as_moves [] = []
all_as_moves (Made c ∷ es) = Made (as_move c) ∷ all_as_moves es
all_as_moves (Exchanged by asked ∷ es) = Exchanged by asked ∷ all_as_moves es
all_as_moves (Emptied cells ∷ es) = Emptied cells ∷ all_as_moves es

-- with moves it is legal from the state with another heap on, and comes to the same with another heap
record GoesBeside (p : Plain) (other : Heap) (log : List Entry) : Type 0 where
  legal : IsLegal (moved_to p other) (all_as_moves log)
  after : IsMovedTo (after_all p log) (after_all (moved_to p other) (all_as_moves log))

goes_beside : (p : Plain) (other : Heap) (log : List Entry) → IsLegal p log → EachCall LeavesUnread log → GoesBeside p other log
goes_beside p other [] legal unread = record { legal = tt; after = record { heap = other; is = refl } }
goes_beside p other (Made c ∷ es) legal unread =
    let one = unread-same p other c unread.0 legal.0 in
    let rest = goes_beside (after_call p c) one.after.heap es legal.1 unread.1 in record {
      legal = (one.comes, subst (λ (z : Plain). IsLegal z (all_as_moves es)) (sym one.after.is) rest.legal);
      after = record { heap = rest.after.heap; is = ap (λ (z : Plain). after_all z (all_as_moves es)) one.after.is ∙ rest.after.is };
    }
goes_beside p other (Emptied cells ∷ es) legal unread =
    let rest = goes_beside (with_emptied p cells) other es legal unread in
    let same = emptied-beside p other cells in record {
      legal = subst (λ (z : Plain). IsLegal z (all_as_moves es)) (sym same) rest.legal;
      after = record { heap = rest.after.heap; is = ap (λ (z : Plain). after_all z (all_as_moves es)) same ∙ rest.after.is };
    }
goes_beside p other (Exchanged by asked ∷ es) legal unread = let rest = goes_beside p other es legal unread in record { legal = rest.legal; after = rest.after }

-- ---- whose calls they are

cond_map : (b : Bool) (c : Call) (cs : List Call) → cond b (as_move c ∷ map as_move cs) (map as_move cs) ≡ map as_move (cond b (c ∷ cs) cs)
cond_map true c cs = refl
cond_map false c cs = refl

calls_as_moves : (m : ℕ) (log : List Entry) → calls_of m (all_as_moves log) ≡ map as_move (calls_of m log)
calls_as_moves m [] = refl
calls_as_moves m (Made c ∷ es) = ap (λ (cs : List Call). cond (c.by == m) (as_move c ∷ cs) cs) (calls_as_moves m es) ∙ cond_map (c.by == m) c (calls_of m es)
calls_as_moves m (Exchanged by asked ∷ es) = calls_as_moves m es
calls_as_moves m (Emptied cells ∷ es) = calls_as_moves m es

move_leaves : (c : Call) → LeavesUnread c → LeavesBoard (as_move c)
move_leaves c (inl leaves) = subst LeavesBoard (sym (same_as_move c leaves)) leaves
move_leaves c (inr puts) = let put = puts.2 in subst (λ (task : Task). IsTrue (task_leaves_board (task_as_move task))) (sym put.task) refl

cond_each : (b : Bool) (c : Call) (cs : List Call) → LeavesBoard (as_move c) → Each LeavesBoard (map as_move cs) → Each LeavesBoard (map as_move (cond b (c ∷ cs) cs))
cond_each true c cs one all = (one, all)
cond_each false c cs one all = all

moves_leave : (m : ℕ) (log : List Entry) → EachCall LeavesUnread log → Each LeavesBoard (map as_move (calls_of m log))
moves_leave m [] unread = tt
moves_leave m (Made c ∷ es) unread = cond_each (c.by == m) c (calls_of m es) (move_leaves c unread.0) (moves_leave m es unread.1)
moves_leave m (Exchanged by asked ∷ es) unread = moves_leave m es unread
moves_leave m (Emptied cells ∷ es) unread = moves_leave m es unread

-- ---- the law

pub unread_boards_share_nothing : UnreadBoardsShareNothing
unread_boards_share_nothing mutators log m legal unread =
    let from = opening_plain mutators in
    let goes = goes_beside from from.heap log legal unread in
    let leaves = subst (Each LeavesBoard) (sym (calls_as_moves m log)) (moves_leave m log unread) in
    let same : ComesToTheSame from (after_all from (all_as_moves log)) m (map as_move (calls_of m log)) =
    subst (ComesToTheSame from (after_all from (all_as_moves log)) m) (calls_as_moves m log) (lone_calls_come_to_the_same mutators (all_as_moves log) m goes.legal leaves) in
    record {
      legal = same.legal;
      replies = same.replies;
      last = same.last;
      mutator = same.mutator ∙ ap (λ (z : Plain). slice_get z.mutators m) goes.after.is;
      records = same.records ∙ ap (λ (z : Plain). made_by z.heap m) goes.after.is;
    }
