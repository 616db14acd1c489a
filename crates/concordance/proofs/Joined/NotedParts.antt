-- What all clerks have noted, in a history that has just the calls that each of them made.
use Rattle.std.proofs.Common.{◌≡◌, ◌≢◌, ℕ, ◌<◌, ◌≤◌, ◌⊎◌, inl, inr, true, List, [], ◌∷◌, ◌++◌, map, length, Option, Some, None, slice_get, slice_index_or, refl, ap, sym, ◌∙◌, subst, arith}
use Rattle.std.proofs.lemmas.Bool.{cases_eq}
use Rattle.std.proofs.lemmas.List.{length-replicate, map-append}
use Rattle.std.proofs.lemmas.Option.{get_or_from_slice_get, slice_get_cases}
use Rattle.plain_state.specs.declared.value.Value.{Value}
use Rattle.plain_state.specs.State.{Mutator, Plain, Record, made_by}
use Rattle.mutator_asm.specs.declared.instr.Instr.TheVariants as instrs
use Rattle.mutator_asm.specs.declared.operand.Operand.TheVariants as operands
use Rattle.plain_heap.specs.Action.{action, register}
use Rattle.plain_heap.specs.Call.{board_word, call}
use Rattle.plain_heap.specs.Order.{fresh}
use Rattle.heap_laws.specs.Opening.{opening_mutator}
use Rattle.gc_worker.specs.declared.calls.call.Call.{Call}
use Rattle.gc_worker.specs.declared.calls.did.Did.{Did}
use Rattle.gc_worker.specs.declared.calls.did.Did.TheVariants.{Done, Trap}
use Rattle.gc_worker.specs.declared.calls.entry.Entry.{Entry}
use Rattle.gc_worker.specs.declared.calls.entry.Entry.TheVariants.{Made}
use Rattle.gc_worker.specs.declared.task.Task.{Task}
use Rattle.gc_worker.specs.declared.task.Task.TheVariants.{Calls}
use Rattle.gc_worker.specs.History.Legal.{IsLegal, after_all, after_call, calls_of}
use Rattle.gc_worker.specs.Plain.Answer.{ComesTo, after_answer, after_outcome}
use Rattle.gc_worker.proofs.History.Extensions.{after_append, none_past}
use Rattle.ael_threads.specs.declared.view.Plan.{Plan}
use Rattle.ael_threads.specs.Alone.{ComesToTheSame, LeavesBoard, alone_history, task_leaves_board}
use Rattle.ael_threads.specs.Calls.{call_by}
use Rattle.ael_threads.specs.Histories.{Each, first_plain}
use Rattle.ael_threads.specs.Seats.{Seated, first_number, first_own}
use Rattle.ael_threads.specs.Unread.{EachCall, IsPut, LeavesUnread, LeavesWord, as_move}
use Rattle.ael_threads.proofs.Lists.Elements.{each_append, each_map}
use Rattle.ael_threads.proofs.Unread.BoardWords.{last_put_stands}
use Rattle.ael_threads.proofs.Unread.WholeHistory.{unread_boards_share_nothing}
use Rattle.concordance_text.specs.declared.part.Part.{Part}
use Rattle.concordance_text.specs.Parts.{mentions_of_part}
use Rattle.concordance.specs.declared.registers.TheConstants.{LATEST}
use Rattle.concordance.specs.Desk.{desk_register}
use Rattle.concordance.specs.Gathering.{AllAreNoted, BoardLeadsToNotes}
use Rattle.concordance.specs.Lone.{alone_by, desk_of}
use Rattle.concordance.specs.NoCells.{HasNoCells, MakesNoCell}
use Rattle.concordance.specs.Notes.Records.{AreEntries}
use Rattle.concordance.specs.Working.{HasWorked, IsHalt, SharedHeap}
use Rattle.concordance.proofs.NoCells.{all_none, leaves_none, opening_none}
use Rattle.concordance.proofs.Lone.{same_alone}
use Rattle.concordance.proofs.LoneHeaps.FullHeaps.{legal_front}
use Rattle.concordance.proofs.Joined.OwnCalls.{StandsAt, comes_there, each_behind, each_of_all, same_as_moves, stands_at}

-- ---- calls that change no record

-- a move of a register to itself, or `halt`
abbrev IsStill : Call → Type 0
IsStill c = ((a : ℕ) × (c.task ≡ Calls (instrs.Mov a a))) ⊎ IsHalt c

module _ (p : Plain) (m : ℕ) (q : Mutator) where
  move_keeps : (a : ℕ) (did : Did) → (after_outcome p m q (Calls (instrs.Mov a a)) did).heap ≡ p.heap
  unfolding call action
  move_keeps a Done = refl
  move_keeps a (Trap end) = refl

  halt_keeps : (did : Did) → (after_outcome p m q (Calls instrs.Halt) did).heap ≡ p.heap
  unfolding call action
  halt_keeps Done = refl
  halt_keeps (Trap end) = refl

  still_outcome : (c : Call) → IsStill c → (after_outcome p m q c.task c.did).heap ≡ p.heap
  still_outcome c (inl moves) = subst (λ (task : Task). (after_outcome p m q task c.did).heap ≡ p.heap) (sym moves.1) (move_keeps moves.0 c.did)
  still_outcome c (inr halts) = subst (λ (task : Task). (after_outcome p m q task c.did).heap ≡ p.heap) (sym halts) (halt_keeps c.did)

still_keeps : (p : Plain) (c : Call) → IsStill c → (after_call p c).heap ≡ p.heap
still_keeps p c still = by_mutator (slice_get p.mutators c.by)
  where
    by_mutator : (o : Option Mutator) → (after_answer p c.by c.task c.did o).heap ≡ p.heap
    by_mutator (Some q) = still_outcome p c.by q c still
    by_mutator None = refl

all_still : (p : Plain) (cs : List Call) → Each IsStill cs → (after_all p (alone_history cs)).heap ≡ p.heap
all_still p [] still = refl
all_still p (c ∷ cs) still = all_still (after_call p c) cs still.1 ∙ still_keeps p c still.0

-- ---- a clerk that has worked on its part

halt_leaves : (c : Call) → IsHalt c → LeavesBoard c
halt_leaves c halts = subst (λ (task : Task). task_leaves_board task ≡ true) (sym halts) refl

alone_append : (cs ds : List Call) → alone_history (cs ++ ds) ≡ alone_history cs ++ alone_history ds
alone_append cs ds = map-append _ cs ds

module _ (w : SharedHeap) (k : ℕ) (part : Part) (s : Seated) (h : HasWorked w k part s) where
  abbrev reads : List Call
  reads = first_own h.read.knows.hands

  abbrev put : Call
  put = call_by h.read (Calls (instrs.Put (operands.Number k) LATEST)) Done

  is_put : IsPut put (operands.Number k) LATEST
  is_put = record { task = refl; did = refl }

  halts_leave : Each LeavesBoard h.rest
  halts_leave = each_map IsHalt LeavesBoard halt_leaves h.rest h.halts

  -- what holds of its calls that leave the board alone and of its put holds of all its calls
  own_each : (P : Call → Type 0) → ((c : Call) → LeavesBoard c → P c) → P put → Each P (first_own s.knows.hands)
  own_each P leaving puts =
      subst (Each P) (sym h.own)
      (each_append P reads (put ∷ h.rest) (each_map LeavesBoard P leaving reads h.lone.leaves) (puts, each_map LeavesBoard P leaving h.rest halts_leave))

  own_unread : Each LeavesUnread (first_own s.knows.hands)
  own_unread = own_each LeavesUnread (λ c leaves. inl leaves) (inr (operands.Number k, LATEST, is_put))

  -- it leaves the words of others
  own_leaves : (x : ℕ) → k ≢ x → Each (LeavesWord x) (first_own s.knows.hands)
  own_leaves x other = own_each (LeavesWord x) (λ c leaves. inl leaves) (inr (k, LATEST, other, is_put))

-- clerk k has worked on the part, and the history has just the calls that it made
pub record HasItsCalls (w : SharedHeap) (log : List Entry) (k : ℕ) (part : Part) : Type 0 where
  pub clerk : Seated
  pub worked : HasWorked w k part clerk
  pub own : calls_of k log ≡ first_own clerk.knows.hands

-- ---- all clerks

module _ (w : SharedHeap) (log : List Entry) (parts : List Part) (many : length parts ≡ w.plan.mutators) (legal : IsLegal (first_plain w.plan) log)
    (all : (k : ℕ) (part : Part) → slice_get parts k ≡ Some part → HasItsCalls w log k part) where
  abbrev p : Plain
  p = first_plain w.plan

  -- a fact of the calls of clerk j, if there is one, is one of those of mutator j
  clerk_each : (P : Call → Type 0) (j : ℕ) → ((part : Part) → HasItsCalls w log j part → Each P (calls_of j log)) → Each P (calls_of j log)
  clerk_each P j has = by_place (slice_get_cases parts j).1
    where
      by_place : ((x : Part) × (j < length parts) × (slice_get parts j ≡ Some x) × (slice_index_or parts j x ≡ x)) ⊎ ((length parts ≤ j) × (slice_get parts j ≡ None)) → Each P (calls_of j log)
      by_place (inl there) = has there.0 (all j there.0 there.2)
      by_place (inr past) =
          let as_many = length-replicate w.plan.mutators opening_mutator in
          let beyond = past.0 in
          subst (Each P) (sym (none_past p log j legal (omega (arith, as_many, beyond, many)))) tt

  unread : EachCall LeavesUnread log
  unread = each_of_all LeavesUnread log (λ j. clerk_each LeavesUnread j (λ part has. subst (Each LeavesUnread) (sym has.own) (own_unread w j part has.clerk has.worked)))

  -- nobody makes a cell
  pub no_cells : HasNoCells (after_all p log)
  no_cells = all_none p log (opening_none w.plan.mutators)
      (each_of_all MakesNoCell log (λ j. clerk_each MakesNoCell j (λ part has. subst (Each MakesNoCell) (sym has.own) (own_each w j part has.clerk has.worked MakesNoCell leaves_none refl))))

  -- others leave the word of a clerk
  others_leave : (j x : ℕ) → j ≢ x → Each (LeavesWord x) (calls_of j log)
  others_leave j x other = clerk_each (LeavesWord x) j (λ part has. subst (Each (LeavesWord x)) (sym has.own) (own_leaves w j part has.clerk has.worked x other))

  -- ---- one of them

  module _ (k : ℕ) (part : Part) (has : HasItsCalls w log k part) where
    abbrev h : HasWorked w k part has.clerk
    h = has.worked

    abbrev puts : Call
    puts = put w k part has.clerk h

    abbrev q : Plain
    q = after_all p log

    -- the records that it has made

    moves_are : map as_move (calls_of k log) ≡ reads w k part has.clerk h ++ as_move puts ∷ map as_move h.rest
    moves_are =
        ap (map as_move) (has.own ∙ h.own)
        ∙ (map-append as_move (reads w k part has.clerk h) (puts ∷ h.rest)
        ∙ ap (λ (cs : List Call). cs ++ as_move puts ∷ map as_move h.rest) (same_as_moves (reads w k part has.clerk h) h.lone.leaves))

    rest_still : Each IsStill (as_move puts ∷ map as_move h.rest)
    rest_still = (
      inl (LATEST, refl),
      subst (Each IsStill) (sym (same_as_moves h.rest (halts_leave w k part has.clerk h))) (each_map IsHalt IsStill (λ c halts. inr halts) h.rest h.halts),
    )

    alone_is : after_all p (alone_history (reads w k part has.clerk h)) ≡ alone_by h.read
    alone_is = ap (λ (plan : Plan). after_all (first_plain plan) (alone_history (reads w k part has.clerk h))) (sym h.plan_read)

    records_are : made_by q.heap k ≡ (desk_of h.read).records
    unfolding desk_of
    records_are =
        let cs = reads w k part has.clerk h in
        let ds : List Call = as_move puts ∷ map as_move h.rest in
        let same : ComesToTheSame p q k (cs ++ ds) = subst (ComesToTheSame p q k) moves_are (unread_boards_share_nothing w.plan.mutators log k legal unread) in
        let whole : (after_all p (alone_history (cs ++ ds))).heap ≡ (alone_by h.read).heap =
        ap (λ (es : List Entry). (after_all p es).heap) (alone_append cs ds)
        ∙ (ap (λ (z : Plain). z.heap) (after_append p (alone_history cs) (alone_history ds))
        ∙ (all_still (after_all p (alone_history cs)) ds rest_still ∙ ap (λ (z : Plain). z.heap) alone_is)) in
        sym same.records ∙ (λ i. made_by (whole i) (sym h.number_read i))

    -- what it has put on the board

    abbrev at : StandsAt k log (reads w k part has.clerk h) puts h.rest
    at = stands_at k log (reads w k part has.clerk h) puts h.rest (has.own ∙ h.own)

    legal_there : IsLegal p (at.front ++ Made puts ∷ at.rest)
    legal_there = subst (IsLegal p) at.is legal

    leave_by : (j : ℕ) → (j ≡ k) ⊎ (j ≡ k → ⊥) → Each (LeavesWord k) (calls_of j at.rest)
    leave_by j (inl same) =
        subst (Each (LeavesWord k)) (sym (ap (λ (n : ℕ). calls_of n at.rest) same ∙ at.after)) (each_map LeavesBoard (LeavesWord k) (λ c leaves. inl leaves) h.rest (halts_leave w k part has.clerk h))
    leave_by j (inr other) = each_behind (LeavesWord k) j at.front at.rest puts (subst (λ (es : List Entry). Each (LeavesWord k) (calls_of j es)) at.is (others_leave j k other))

    leave_word : EachCall (LeavesWord k) at.rest
    leave_word = each_of_all (LeavesWord k) at.rest (λ j. leave_by j (cases_eq j k))

    -- the mutator that puts it
    abbrev putting : ComesTo (after_all p at.front) puts.by puts.task puts.did
    putting = comes_there p at.front at.rest puts legal_there

    putter_is : slice_get (alone_by h.read).mutators (first_number h.read.knows.hands) ≡ Some putting.mutator
    putter_is =
        let cs = reads w k part has.clerk h in
        let same : ComesToTheSame p (after_all p at.front) k cs = same_alone w.plan k at.front cs at.before (legal_front p at.front (Made puts ∷ at.rest) legal_there) h.lone.leaves in
        (λ i. slice_get (sym alone_is i).mutators (h.number_read i)) ∙ (same.mutator ∙ (ap (slice_get (after_all p at.front).mutators) (sym h.number_read) ∙ putting.is))

    word_is : board_word q.heap k ≡ desk_register (desk_of h.read) LATEST
    unfolding desk_of
    word_is =
        let n = first_number h.read.knows.hands in
        let stands = last_put_stands w.plan.mutators at.front at.rest puts k LATEST putting.mutator legal_there (is_put w k part has.clerk h) leave_word putting.is in
        ap (λ (es : List Entry). board_word (after_all p es).heap k) at.is
        ∙ (stands ∙ ap (λ (z : Mutator). register z LATEST) (sym (get_or_from_slice_get (alone_by h.read).mutators n putting.mutator fresh putter_is)))

    number_is : (desk_of h.read).number ≡ k
    unfolding desk_of
    number_is = h.number_read

    leads_to_notes : BoardLeadsToNotes q.heap k (mentions_of_part part)
    leads_to_notes =
        let notes = h.noted.notes in
        let kept = h.noted.holds.kept in record {
          notes = notes;
          entries = subst (λ (z : ℕ × (List Record × Value)). AreEntries z.0 z.1.0 z.1.1 notes) (λ i. (number_is i, (sym records_are i, sym word_is i))) kept.entries;
          apart = kept.apart;
          lines = kept.lines;
          told = h.noted.holds.told;
        }

  pub all_are_noted : AllAreNoted (after_all p log).heap parts
  all_are_noted k part is = leads_to_notes k part (all k part is)
