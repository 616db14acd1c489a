-- On a heap with one mutator each flip comes for a record that it makes next, so there are no more than its records, and one more.
use Rattle.std.proofs.Common.{◌≡◌, ℕ, ◌+◌, ◌*◌, ◌<◌, ◌≤◌, min, ⊎_elim, Bool, true, false, cond, ◌==◌, List, [], ◌∷◌, length, Option, Some, None, Result, Ok, Err, slice_get, refl, ap, sym, ◌∙◌, subst, arith, eq-eqb}
use Rattle.std.specs.Prelude.{IsOk}
use Rattle.std.specs.Option.{option_and_then, option_map}
use Rattle.std.proofs.lemmas.List.{length-replicate}
use Rattle.std.proofs.lemmas.Option.{slice_get_within}
use Rattle.plain_state.specs.declared.end.End.{End}
use Rattle.plain_state.specs.State.{Mutator, Plain, Record, serial_of}
use Rattle.plain_state.specs.Writing.{filled}
use Rattle.plain_state.proofs.Gained.{gained_serial}
use Rattle.mutator_asm.specs.declared.instr.Instr.{Instr}
use Rattle.plain_heap.specs.Call.{After, call}
use Rattle.plain_heap.specs.Step.{new_record, pages_of, settled}
use Rattle.plain_heap.proofs.Calls.Rest.{call-makes, call-none, new_record-made}
use Rattle.heap_laws.specs.Opening.{opening_mutator}
use Rattle.gc_worker.specs.declared.calls.call.Call.{Call}
use Rattle.gc_worker.specs.declared.calls.did.Did.{Did}
use Rattle.gc_worker.specs.declared.calls.did.Did.TheVariants.{Done}
use Rattle.gc_worker.specs.declared.calls.entry.Entry.{Entry}
use Rattle.gc_worker.specs.declared.calls.entry.Entry.TheVariants.{Made, Exchanged, Emptied}
use Rattle.gc_worker.specs.declared.task.Task.{Task}
use Rattle.gc_worker.specs.declared.task.Task.TheVariants.{Calls, Stops}
use Rattle.gc_worker.specs.History.Legal.{IsLegal, after_call, worker_call}
use Rattle.gc_worker.specs.History.Tally.{EachEntry, EntryIs, IsAskedFor, Sizes, Tally, Tasks, after_entry, asked_by_task, asked_for, asked_unless_ended, next_task, size_now, tally}
use Rattle.gc_worker.specs.Laws.Growth.{Grows}
use Rattle.gc_worker.specs.Plain.Answer.{ComesTo, MayCome, after_answer, after_outcome}
use Rattle.ael_threads.specs.Histories.{opening_tally}
use Rattle.ael_threads.specs.Unread.{EachCall}
use Rattle.gc_worker.proofs.Plain.CellTargets.Emptied.{same_makers, same_serial}
use Rattle.ael_threads.proofs.WholeCalls.OneMore.{makers}
use Rattle.concordance.specs.OneMutator.{LoneFlipsAreFew, WasDone}
use Rattle.concordance.proofs.LoneHeaps.OneMutator.{apart, by_first, one_still}

-- ---- one call

abbrev count : Option Record → ℕ
count None = 0
count (Some r) = 1

-- how many records a task makes
abbrev count_made : Mutator → Task → ℕ
count_made q (Calls instr) = count (new_record q instr)
count_made q (Stops end) = 0

module _ (p : Plain) (m : ℕ) (q : Mutator) (there : m < length p.heap.records) where
  settled_grows : (instr : Instr) (o : Option Record) → new_record q instr ≡ o → IsOk (call m p.heap q instr) → serial_of p.heap m + count o ≤ serial_of (settled p m q (call m p.heap q instr)).heap m
  settled_grows instr None none executed = by_call (call m p.heap q instr) refl executed
    where
      by_call : (r : Result After End) → call m p.heap q instr ≡ r → IsOk r → serial_of p.heap m + 0 ≤ serial_of (settled p m q r).heap m
      by_call (Ok a) is ok = let same = call-none m m p.heap q instr a none is in omega (arith, same)
      by_call (Err why) is ok = cc
  settled_grows instr (Some r) some executed =
      let made = new_record-made q instr r some in
      let makes = call-makes m p.heap q instr made.kind made.register made.len made.value made.makes in
      let more = gained_serial p.heap m (filled made.kind made.len made.value) there in
      subst (λ (o : Result After End). serial_of p.heap m + 1 ≤ serial_of (settled p m q o).heap m) (sym makes.0) (omega (arith, more))

  grows : (task : Task) → MayCome m p.heap q task Done → serial_of p.heap m + count_made q task ≤ serial_of (after_outcome p m q task Done).heap m
  grows (Calls instr) may = settled_grows instr (new_record q instr) refl may
  grows (Stops end) may = absurd may

-- a task that asks for pages makes a record
asks_one : (q : Mutator) (task : Task) (pages : ℕ) → asked_for q (Some task) ≡ Some pages → count_made q task ≡ 1
asks_one q (Calls instr) pages e = by_record (new_record q instr) e
  where
    by_record : (o : Option Record) → option_map pages_of o ≡ Some pages → count o ≡ 1
    by_record (Some r) is = refl
    by_record None is = cc
asks_one q (Stops end) pages e = cc

abbrev bit : Bool → ℕ
bit true = 1
bit false = 0

-- mutator 0 makes this call, which is executed
module _ (p : Plain) (task : Task) (there : 0 < length p.heap.records) (t : ComesTo p 0 task Done) where
  abbrev after : Plain
  after = after_answer p 0 task Done (slice_get p.mutators 0)

  grown : serial_of p.heap 0 + count_made t.mutator task ≤ serial_of after.heap 0
  grown = subst (λ (o : Option Mutator). serial_of p.heap 0 + count_made t.mutator task ≤ serial_of (after_answer p 0 task Done o).heap 0) (sym t.is) (grows p 0 t.mutator there task t.may)

  makes_one : (pages : ℕ) → asked_by_task p 0 (Some task) ≡ Some pages → count_made t.mutator task ≡ 1
  makes_one pages e =
      let asks : asked_by_task p 0 (Some task) ≡ asked_for t.mutator (Some task) =
      ap (λ (o : Option Mutator). option_and_then (λ (q : Mutator). asked_unless_ended q.end q (Some task)) o) t.is ∙ ap (λ (end : Option End). asked_unless_ended end t.mutator (Some task)) t.no_end in
      asks_one t.mutator task pages (sym asks ∙ e)

  -- a flip that was asked for came for its record
  enough : (b : Bool) (flips : ℕ) → flips ≤ serial_of p.heap 0 + bit b → (b ≡ true → (pages : ℕ) × (asked_by_task p 0 (Some task) ≡ Some pages)) → flips ≤ serial_of after.heap 0
  enough true flips few maker = let one = makes_one (maker refl).0 (maker refl).1 in let g = grown in omega (arith, few, one, g)
  enough false flips few maker = let g = grown in omega (arith, few, g)

-- ---- a history

abbrev serial_now : Tally → ℕ
serial_now t = serial_of t.now.heap 0

-- mutator 0 makes a record next
abbrev IsMaker : Tasks → Tally → List Entry → Type 0
IsMaker tasks t log = (pages : ℕ) × (asked_by_task t.now 0 (next_task 0 log (tasks 0)) ≡ Some pages)

-- Each flip so far came for a record, but for one that was asked for since the last call: it came for the record that comes next.
record IsFew (tasks : Tasks) (t : Tally) (log : List Entry) : Type 0 where
  flips : t.flips ≤ serial_now t + bit (t.asked 0)
  maker : t.asked 0 ≡ true → IsMaker tasks t log

module _ (z : Sizes) (tasks : Tasks) (t : Tally) (one : length t.now.mutators ≡ 1) where
  -- after a call
  module _ (there : 0 < length t.now.heap.records) (c : Call) (es : List Entry) (comes : ComesTo t.now c.by c.task c.did) (done : WasDone c) (few : IsFew tasks t (Made c ∷ es)) where
    by_zero : 0 ≡ c.by
    by_zero = by_first t.now c one comes

    off : cond (0 == c.by) false (t.asked 0) ≡ false
    off = ap (λ (b : Bool). cond b false (t.asked 0)) (eq-eqb 0 c.by by_zero)

    grew : t.flips ≤ serial_of (after_call t.now c).heap 0
    grew =
        subst (λ (z : ℕ × Did). ComesTo t.now z.0 c.task z.1 → (t.asked 0 ≡ true → IsMaker tasks t (Made (worker_call z.0 c.task z.1) ∷ es)) → t.flips ≤ serial_of (after_call t.now (worker_call z.0 c.task z.1)).heap 0)
        (λ i. (by_zero i, sym done i)) (λ its maker. enough t.now c.task there its (t.asked 0) t.flips few.flips maker) comes few.maker

    few_after_call : IsFew tasks (after_entry t (Made c)) es
    few_after_call = record {
      flips = subst (λ (b : Bool). t.flips ≤ serial_of (after_call t.now c).heap 0 + bit b) (sym off) (let g = grew in omega (arith, g));
      maker = λ e. absurd (apart (sym off ∙ e));
    }

  -- after a flip
  module _ (by asked : ℕ) (es : List Entry) (whole : size_now z t ≡ z.limit) (asks : IsAskedFor z tasks t by asked es) (few : IsFew tasks t (Exchanged by asked ∷ es)) where
    asker_there : (o : Option Mutator) → slice_get t.now.mutators by ≡ o
        → option_and_then (λ (q : Mutator). asked_unless_ended q.end q (next_task by es (tasks by))) o ≡ Some asked → by < length t.now.mutators
    asker_there (Some q) is e = slice_get_within t.now.mutators by q is
    asker_there None is e = cc

    zero_is : 0 ≡ by
    zero_is = let below = asker_there (slice_get t.now.mutators by) refl asks.makes in omega (arith, below, one)

    -- in a space with all its pages in use it has asked for no other
    none_asked : t.asked by ≡ false
    none_asked = ⊎_elim (λ (none : t.asked by ≡ false). none) (λ (small : size_now z t < z.limit). absurd (omega (arith, small, whole))) asks.first

    few_after_flip : IsFew tasks (after_entry t (Exchanged by asked)) es
    few_after_flip = record {
      flips =
          let before : t.flips ≤ serial_now t + bit false = subst (λ (b : Bool). t.flips ≤ serial_now t + bit b) (ap t.asked zero_is ∙ none_asked) few.flips in
          subst (λ (b : Bool). t.flips + 1 ≤ serial_now t + bit (cond b true (t.asked 0))) (sym (eq-eqb 0 by zero_is)) (omega (arith, before));
      maker = λ e. (asked, subst (λ (j : ℕ). asked_by_task t.now j (next_task j es (tasks j)) ≡ Some asked) (sym zero_is) asks.makes);
    }

-- all pages stay in use
still_whole : (limit size next : ℕ) → size ≡ limit → Grows limit size next → next ≡ limit
still_whole limit size next whole grows = ⊎_elim (λ (same : next ≡ size). same ∙ whole) (λ (twice : next ≡ min limit (2 * size)). omega (arith, twice, whole)) grows

few_flips : (z : Sizes) (tasks : Tasks) (t : Tally) (log : List Entry) → size_now z t ≡ z.limit → length t.now.mutators ≡ 1 → 0 < length t.now.heap.records → IsLegal t.now log → EachCall WasDone log
    → EachEntry (EntryIs z tasks) t log → IsFew tasks t log → (tally t log).flips ≤ serial_now (tally t log) + 1
few_flips z tasks t [] whole one there legal done each few = by_bit (t.asked 0) few.flips
  where
    by_bit : (b : Bool) → t.flips ≤ serial_now t + bit b → t.flips ≤ serial_now t + 1
    by_bit true less = less
    by_bit false less = omega (arith, less)
few_flips z tasks t (Made c ∷ es) whole one there legal done each few =
    few_flips z tasks (after_entry t (Made c)) es whole (one_still t.now c one) (subst (λ (n : ℕ). 0 < n) (sym (makers t.now (Made c ∷ []))) there) legal.1 done.1 each.1
    (few_after_call z tasks t one there c es legal.0 done.0 few)
few_flips z tasks t (Exchanged by asked ∷ es) whole one there legal done each few =
    few_flips z tasks (after_entry t (Exchanged by asked)) es (still_whole z.limit (size_now z t) (z.in_use (t.flips + 1)) whole each.0.grows) one there legal done each.1
    (few_after_flip z tasks t one by asked es whole each.0 few)
few_flips z tasks t (Emptied cells ∷ es) whole one there legal done each few =
    few_flips z tasks (after_entry t (Emptied cells)) es whole one (subst (λ (n : ℕ). 0 < n) (sym (same_makers t.now cells)) there) legal done each.1
    (record { flips = subst (λ (n : ℕ). t.flips ≤ n + bit (t.asked 0)) (sym (same_serial t.now cells 0)) few.flips; maker = few.maker })

pub lone_flips_are_few : LoneFlipsAreFew
lone_flips_are_few plan z tasks log one whole sized legal done each =
    few_flips z tasks (opening_tally plan) log (sized.first ∙ (whole ∙ sym sized.limit)) (length-replicate plan.mutators opening_mutator ∙ one)
    (let many = length-replicate {A = List Record} plan.mutators [] in omega (arith, many, one)) legal done each
    (record { flips = omega arith; maker = λ e. absurd (apart e) })
