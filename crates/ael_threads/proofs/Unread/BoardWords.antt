-- A word of the board along a history: what each call leaves is what it was, and what was put last stands there.
use Rattle.std.proofs.Common.{◌≡◌, ◌≢◌, ℕ, inl, inr, Bool, true, false, List, [], ◌∷◌, ◌++◌, length, Option, Some, None, Result, Ok, Err, slice_get, get_or, nat_lt, refl, ap, sym, ◌∙◌, subst, arith}
use Rattle.std.specs.Prelude.{IsOk, IsTrue, if◌then◌else◌}
use Rattle.std.specs.Result.{IfOk}
use Rattle.std.proofs.lemmas.Bool.{ltb-true}
use Rattle.std.proofs.lemmas.List.{get_or-set_other, get_or-set_same, length-replicate}
use Rattle.std.proofs.lemmas.Option.{same_Some}
use Rattle.std.proofs.Math.ListN.{length-set}
use Rattle.plain_state.specs.declared.end.End.{End}
use Rattle.plain_state.specs.declared.end.End.TheVariants.{OutOfRange}
use Rattle.plain_state.specs.declared.sizes.TheConstants.{BOARD_WORDS}
use Rattle.plain_state.specs.declared.value.Identity.{Identity}
use Rattle.plain_state.specs.declared.value.Value.{Value}
use Rattle.plain_state.specs.declared.value.Value.TheVariants.{Number}
use Rattle.plain_state.specs.State.{Heap, Mutator, Plain, Record, record_of}
use Rattle.mutator_asm.specs.declared.instr.Instr.{Instr}
use Rattle.mutator_asm.specs.declared.instr.Instr.TheVariants as instrs
use Rattle.mutator_asm.specs.declared.operand.Operand.TheVariants as operands
use Rattle.plain_heap.specs.declared.action.Action.{Action}
use Rattle.plain_heap.specs.declared.action.Action.TheVariants.{Loads, Stores, Compares, Puts}
use Rattle.plain_heap.specs.Action.{◌>>=◌, action, register}
use Rattle.plain_heap.specs.Call.{After, board_word, call, may_hold, performed, store_in, value_in}
use Rattle.plain_heap.specs.Step.{settled}
use Rattle.plain_heap.proofs.Alone.Alike.{Same}
use Rattle.plain_heap.proofs.Calls.CallOutcomes.{if_ok-bind, if_ok-then, performed_exchange}
use Rattle.heap_laws.specs.Opening.{opening_plain}
use Rattle.gc_worker.specs.declared.task.Task.{Task}
use Rattle.gc_worker.specs.declared.task.Task.TheVariants.{Calls, Stops}
use Rattle.gc_worker.specs.declared.calls.call.Call.{Call}
use Rattle.gc_worker.specs.declared.calls.did.Did.{Did}
use Rattle.gc_worker.specs.declared.calls.did.Did.TheVariants.{Done, Trap}
use Rattle.gc_worker.specs.declared.calls.entry.Entry.{Entry}
use Rattle.gc_worker.specs.declared.calls.entry.Entry.TheVariants.{Made, Exchanged, Emptied}
use Rattle.gc_worker.specs.History.Legal.{IsLegal, after_all, after_call}
use Rattle.gc_worker.specs.Plain.Answer.{ComesTo, MayCome, after_answer, after_outcome, with_emptied}
use Rattle.gc_worker.proofs.Plain.CellTargets.Emptied.{same_board}
use Rattle.gc_worker.proofs.History.Extensions.{after_append}
use Rattle.ael_threads.specs.Alone.{task_leaves_board}
use Rattle.ael_threads.specs.Unread.{BoardWordsStay, IsPut, LastPutStands, LeavesWord}
use Rattle.ael_threads.proofs.Alone.LoneHistories.{after_is}
use Rattle.ael_threads.proofs.Unread.OtherBoards.{KeepsBoard, call-same}

-- ---- a call that leaves the word

-- the number as that of a word, where there are so many
abbrev in_range : Bool → ℕ → Result ℕ End
in_range b x = if b then Ok x else Err OutOfRange

in_range_is : (b : Bool) (x y : ℕ) → in_range b x ≡ Ok y → x ≡ y
in_range_is true x y is = cc
in_range_is false x y is = cc

module _ (p : Plain) (m : ℕ) (k : Mutator) (x : ℕ) where
  abbrev Stays : Plain → Type 0
  Stays q = board_word q.heap x ≡ board_word p.heap x

  settled_stays : (o v : Result After End) → Same (KeepsBoard p.heap) o v → Stays (settled p m k o)
  settled_stays (Ok a) (Ok b) same = ap (λ (board : List Value). get_or board x (Number 0)) same.board
  settled_stays (Ok a) (Err why) same = absurd same
  settled_stays (Err why) v same = refl

  leaving_stays : (task : Task) (did : Did) → IsTrue (task_leaves_board task) → Stays (after_outcome p m k task did)
  leaving_stays (Calls instr) Done leaves = settled_stays (call m p.heap k instr) _ (call-same m p.heap p.heap k instr leaves)
  leaving_stays (Calls instr) (Trap end) leaves = refl
  leaving_stays (Stops end) Done leaves = refl
  leaving_stays (Stops end) (Trap why) leaves = refl

  put_stays : (a : ℕ) (o : Result ℕ End) → ((y : ℕ) → o ≡ Ok y → y ≢ x) → Stays (settled p m k ((o >>= (λ y. Ok (Puts y (register k a)))) >>= performed m p.heap k))
  put_stays a (Ok y) other = get_or-set_other p.heap.board y x (register k a) (Number 0) (λ e. other y refl (sym e))
  put_stays a (Err why) other = refl

  puts_stay : (y a : ℕ) → y ≢ x → Stays (after_outcome p m k (Calls (instrs.Put (operands.Number y) a)) Done)
  unfolding call action
  puts_stay y a other = put_stays a (in_range (nat_lt y BOARD_WORDS) y) (λ z is e. other (in_range_is (nat_lt y BOARD_WORDS) y z is ∙ e))

  outcome_stays : (c : Call) → LeavesWord x c → Stays (after_outcome p m k c.task c.did)
  outcome_stays c (inl leaves) = leaving_stays c.task c.did leaves
  outcome_stays c (inr puts) =
      let put = puts.3 in
      subst (λ (z : Task × Did). Stays (after_outcome p m k z.0 z.1)) (λ i. (sym put.task i, sym put.did i)) (puts_stay puts.0 puts.1 puts.2)

call_stays : (p : Plain) (c : Call) (x : ℕ) → LeavesWord x c → board_word (after_call p c).heap x ≡ board_word p.heap x
call_stays p c x leaves = by_mutator (slice_get p.mutators c.by)
  where
    by_mutator : (o : Option Mutator) → board_word (after_answer p c.by c.task c.did o).heap x ≡ board_word p.heap x
    by_mutator (Some k) = outcome_stays p c.by k x c leaves
    by_mutator None = refl

pub board_words_stay : BoardWordsStay
board_words_stay p [] x leave = refl
board_words_stay p (Made c ∷ es) x leave = board_words_stay (after_call p c) es x leave.1 ∙ call_stays p c x leave.0
board_words_stay p (Exchanged by asked ∷ es) x leave = board_words_stay p es x leave
board_words_stay p (Emptied cells ∷ es) x leave =
    board_words_stay (with_emptied p cells) es x leave ∙ ap (λ (board : List Value). get_or board x (Number 0)) (same_board p cells)

-- ---- the length of the board

module _ (m : ℕ) (heap : Heap) (k : Mutator) where
  abbrev AsLong : Heap → Type 0
  AsLong h = length h.board ≡ length heap.board

  stored-long : (i : Identity) (x : ℕ) (v : Value) (o : Option Record) → IfOk (store_in heap i o x v) AsLong
  stored-long i x v None = tt
  stored-long i x v (Some r) = if_ok-bind AsLong (may_hold r.kind x v) _ (λ w. refl)

  performed-long : (act : Action) → IfOk (performed m heap k act) (λ a. AsLong a.heap)
  performed-long (Loads d i x) = if_ok-bind (λ (a : After). AsLong a.heap) (value_in heap i x) _ (λ v. refl)
  performed-long (Stores i x v) = if_ok-bind (λ (a : After). AsLong a.heap) (value_in heap i x) _
      (λ old. if_ok-then AsLong (λ (a : After). AsLong a.heap) (store_in heap i (record_of heap i) x v) _ (stored-long i x v (record_of heap i)) (λ h same. same))
  performed-long (Compares d i x expected v) =
      performed_exchange m heap k d i x expected v (λ (a : After). AsLong a.heap) refl
      (if_ok-then AsLong (λ (a : After). AsLong a.heap) (store_in heap i (record_of heap i) x v) _ (stored-long i x v (record_of heap i)) (λ h same. same))
  performed-long _ = first_of (simp length-set, cc)

  call-long : (instr : Instr) → IfOk (call m heap k instr) (λ a. AsLong a.heap)
  unfolding call
  call-long instr = if_ok-bind (λ (a : After). AsLong a.heap) (action k instr) (performed m heap k) performed-long

outcome_long : (p : Plain) (m : ℕ) (k : Mutator) (task : Task) (did : Did) → length (after_outcome p m k task did).heap.board ≡ length p.heap.board
outcome_long p m k (Calls instr) Done = by_call (call m p.heap k instr) (call-long m p.heap k instr)
  where
    by_call : (o : Result After End) → IfOk o (λ a. length a.heap.board ≡ length p.heap.board) → length (settled p m k o).heap.board ≡ length p.heap.board
    by_call (Ok a) same = same
    by_call (Err why) same = refl
outcome_long p m k (Calls instr) (Trap end) = refl
outcome_long p m k (Stops end) Done = refl
outcome_long p m k (Stops end) (Trap why) = refl

answer_long : (p : Plain) (m : ℕ) (task : Task) (did : Did) (o : Option Mutator) → length (after_answer p m task did o).heap.board ≡ length p.heap.board
answer_long p m task did (Some k) = outcome_long p m k task did
answer_long p m task did None = refl

board_as_long : (p : Plain) (log : List Entry) → length (after_all p log).heap.board ≡ length p.heap.board
board_as_long p [] = refl
board_as_long p (Made c ∷ es) = board_as_long (after_call p c) es ∙ answer_long p c.by c.task c.did (slice_get p.mutators c.by)
board_as_long p (Exchanged by asked ∷ es) = board_as_long p es
board_as_long p (Emptied cells ∷ es) = board_as_long (with_emptied p cells) es ∙ ap length (same_board p cells)

-- ---- a put

module _ (p : Plain) (m : ℕ) (k : Mutator) (x a : ℕ) (long : length p.heap.board ≡ BOARD_WORDS) where
  put_in : (b : Bool) → nat_lt x BOARD_WORDS ≡ b → IsOk ((in_range b x >>= (λ y. Ok (Puts y (register k a)))) >>= performed m p.heap k)
      → board_word (settled p m k ((in_range b x >>= (λ y. Ok (Puts y (register k a)))) >>= performed m p.heap k)).heap x ≡ register k a
  put_in true is executed = let below = ltb-true x BOARD_WORDS is in get_or-set_same p.heap.board x (register k a) (Number 0) (omega (arith, below, long))
  put_in false is executed = cc

  put_stands : IsOk (call m p.heap k (instrs.Put (operands.Number x) a)) → board_word (settled p m k (call m p.heap k (instrs.Put (operands.Number x) a))).heap x ≡ register k a
  unfolding call action
  put_stands executed = put_in (nat_lt x BOARD_WORDS) refl executed

-- the call of a legal history that stands here comes to what it has come to
comes_at : (p : Plain) (front rest : List Entry) (c : Call) → IsLegal p (front ++ Made c ∷ rest) → ComesTo (after_all p front) c.by c.task c.did
comes_at p [] rest c h = h.0
comes_at p (Made d ∷ es) rest c h = comes_at (after_call p d) es rest c h.1
comes_at p (Exchanged by asked ∷ es) rest c h = comes_at p es rest c h
comes_at p (Emptied cells ∷ es) rest c h = comes_at (with_emptied p cells) es rest c h

put_call : (p : Plain) (c : Call) (x a : ℕ) (q : Mutator) → length p.heap.board ≡ BOARD_WORDS → IsPut c (operands.Number x) a → ComesTo p c.by c.task c.did → slice_get p.mutators c.by ≡ Some q
    → board_word (after_call p c).heap x ≡ register q a
put_call p c x a q long put comes is =
    let same : comes.mutator ≡ q = same_Some comes.mutator q (sym comes.is ∙ is) in
    let may : MayCome c.by p.heap q c.task c.did = subst (λ (k : Mutator). MayCome c.by p.heap k c.task c.did) same comes.may in
    ap (λ (z : Plain). board_word z.heap x) (after_is p c c.by q refl is)
    ∙ subst (λ (z : Task × Did). MayCome c.by p.heap q z.0 z.1 → board_word (after_outcome p c.by q z.0 z.1).heap x ≡ register q a)
    (λ i. (sym put.task i, sym put.did i)) (put_stands p c.by q x a long) may

pub last_put_stands : LastPutStands
last_put_stands mutators front rest c x a q legal put leave is =
    let from = opening_plain mutators in
    let here = after_all from front in
    let long : length here.heap.board ≡ BOARD_WORDS = board_as_long from front ∙ length-replicate BOARD_WORDS (Number 0) in
    ap (λ (z : Plain). board_word z.heap x) (after_append from front (Made c ∷ rest))
    ∙ (board_words_stay (after_call here c) rest x leave ∙ put_call here c x a q long put (comes_at from front rest c legal) is)
