-- The copy that a register asked for is found: the register gets its address, and the next one that holds a pointer asks.
use Rattle.std.proofs.Common.{◌≡◌, ℕ, ◌+◌, ◌-◌, ◌*◌, ◌<◌, ◌≤◌, ◌^◌, true, length, slice_index, Option, Some, None, is_some, refl, sym, ap, subst, ◌∙◌, arith, get_or-set_other, length-set, nat_lt}
use Rattle.std.specs.Prelude.{slice_set}
use Rattle.plain_state.specs.State.{Plain}
use Rattle.atom_store.specs.declared.reply.Reply.{Reply}
use Rattle.atom_store.specs.declared.reply.Reply.TheVariants.{Value, Done}
use Rattle.atom_store.specs.declared.step.Step.TheVariants.{Store}
use Rattle.heap_words.specs.Decoded.{PointerWord, ForwardWord, decode, pointer_in}
use Rattle.heap_words.specs.Word.{pointer_word}
use Rattle.heap_words.proofs.Decoding.{decode-pointer_word}
use Rattle.heap_words.proofs.Ranges.{forward_bounds}
use Rattle.space_map.specs.Table.{HeapWord, Announce, place_of}
use Rattle.forwarding.specs.declared.evac_stage.EvacStage.{EvacStage}
use Rattle.forwarding.specs.declared.evac_stage.EvacStage.TheVariants.{LoadsHeader, Clears, Ended}
use Rattle.forwarding.specs.Evacuation.{Evacuation}
use Rattle.forwarding.specs.Evacuation as evac
use Rattle.forwarding.specs.Soundness.{IsSound}
use Rattle.forwarding.specs.Taken.{by_first_word, stage_after}
use Rattle.forwarding.specs.Taken as evac_taken
use Rattle.gate_core.specs.declared.passage.Passage.TheVariants.{Forwarded}
use Rattle.heap_state.specs.Configuration.{Configuration, Stands, era, memory, team}
use Rattle.heap_state.specs.Memory.Entries.{Entry, AnnounceIs}
use Rattle.heap_state.specs.Memory.Table.{word_in}
use Rattle.heap_state.specs.Known.{Known, Quest, Register, is_late}
use Rattle.heap_laws.specs.Composites.{AsksAt, AllDone, AsksNext, LeadNowhere, forwarded_to}
use Rattle.heap_laws.proofs.Copying.Laws.{announces_are_cleared}
use Rattle.heap_laws.proofs.Steps.Composites.{registers_find_forwards, registers_are_settled}
use Rattle.gc_worker.proofs.Workers.Answered.{registers_put, values_set}
use Rattle.gc_worker.proofs.Plain.Tasks.{task_stays}
use Rattle.record_access.specs.Seen.{IsValueAs}
use Rattle.gc_worker.specs.declared.stage.after.After.{After}
use Rattle.gc_worker.specs.declared.stage.Stage.{Stage}
use Rattle.gc_worker.specs.declared.stage.Stage.TheVariants.{Forwards}
use Rattle.gc_worker.specs.Workers.Fits.{AreValues, Fits, FitsEnd, FitsStage, FitsTask, FitsTaskAfter, IsOnSide}
use Rattle.gc_worker.specs.Steps.Goes.{Is, Goes, StepsSo}
use Rattle.gc_worker.specs.Workers.Held.{Held, at_stage}
use Rattle.gc_worker.specs.Workers.Knows.{knows, found_in, linking_at}
use Rattle.gc_worker.specs.Steps.Turned.{Pointed, first_pointer, passes, forwards_it, turned_register}
use Rattle.gc_worker.proofs.Stages.Copies.Finding.{loads_header}
use Rattle.gc_worker.proofs.Stages.Copies.Hosts.{Host, ForRegister, at, machine_at, wants_its, is_sound, has_pages, is_worker, takes, with_sound, tells_nothing, wins_nothing, quest_with, quest_is}
use Rattle.gc_worker.proofs.Stages.Scan.ScannedHeaders.{heap_word}
use Rattle.gc_worker.proofs.Words.Eras.{board_is}
use Rattle.gc_worker.proofs.Workers.KeptParts.{with_parts, page_count}
use Rattle.gc_worker.proofs.Stages.Gate.Resuming.{end_none}
use Rattle.gc_worker.proofs.Stages.Gate.GateWords.{wants}
use Rattle.gc_worker.proofs.Words.Pointers.{FirstPointer, Nowhere, There, word_at, found, is_pointer, leads_nowhere}
use Rattle.gc_worker.proofs.Words.RowSteps.{Law, becomes, stores, row_fits, prepared}

module _ (c : Configuration) (p : Plain) (s : Stands c p) (k : ℕ) (y : Held) (v : Evacuation) (r : ℕ) (after : After) where
  abbrev host : Host
  host = ForRegister r after

  abbrev here : EvacStage → Held
  here z = at y host v z

  -- the worker with this address in the register
  abbrev with_it : (to : ℕ) → Held
  with_it to = record y { registers = slice_set y.registers r (pointer_word to) }

  -- and the next register that holds a pointer asks
  abbrev next_at : (to : ℕ) → Option Pointed → Held
  next_at to o = at_stage (with_it to) (forwards_it (with_it to) after o)

  module _ (to : ℕ) (z : EvacStage) (is : Is c k (here z)) (short : to < 2 ^ 32) where
    abbrev w : Known
    w = (team c).worker k

    abbrev own : Quest
    own = quest_with y v host (found_in z)

    quest : w.quest ≡ Some own
    quest = ap (λ (u : Known). u.quest) is.as_known ∙ quest_is y v host z

    -- whose copy it is
    origin : (is_late (era c).epoch w ≡ true) × (w.done ≡ r) × (r < 8) × (decode (w.registers r) ≡ PointerWord v.addr)
    origin = (s.invariant.workers k is.below).origin own quest

    left : w.done < 8
    left = let d = origin.1 in let n = origin.2 in omega (arith, d, n)

    -- the registers behind it are as they were
    kept : (i : ℕ) → r + 1 ≤ i → w.registers i ≡ slice_index (with_it to).registers i
    kept i l = ap (λ (u : Known). u.registers i) is.as_known ∙ sym (get_or-set_other y.registers r i (pointer_word to) 0 (λ same. omega (arith, l, same)))

    -- what the laws of the heap say of the step, whichever register is the next
    abbrev Settles : Option Entry → Type 0
    Settles e = (j : ℕ) (next : Option Quest) → r < j → j ≤ 8 → LeadNowhere (era c) w.registers (r + 1) j → AsksAt w.registers j next
        → Law c p s k (here z) e (forwarded_to w (pointer_word to) j next) s.ghost

    module _ (e : Option Entry) (law : Settles e) (no_copy : (knows (here z)).copy ≡ None) (no_link : linking_at z ≡ None) where
      inside : r < length y.registers
      inside = let n = is.fits.eight in let m = origin.2 in omega (arith, n, m)

      abbrev known : (j : ℕ) → Option Quest → Known
      known j q = record (knows (here z)) { copy = None; registers = (λ i. slice_index (with_it to).registers i); done = j; quest = q; linking = None }

      settled : (j : ℕ) (q : Option Quest) → r < j → j ≤ 8 → ((i : ℕ) → r + 1 ≤ i → i < j → word_at (with_it to).registers i ≡ None) → AsksAt w.registers j q
          → Law c p s k (here z) e (known j q) s.ghost
      settled j q from small none asks =
          let set = registers_put y.registers r (pointer_word to) inside in
          subst (λ (u : Known). Law c p s k (here z) e u s.ghost)
          (ap (λ (u : Known). forwarded_to u (pointer_word to) j q) is.as_known
          ∙ (λ i. record (knows (here z)) { copy = no_copy i; registers = sym set i; done = j; quest = q; linking = no_link i }))
          (law j q from small (λ i l u. leads_nowhere (era c) (w.registers i) (ap (λ n. pointer_in (decode n)) (kept i l) ∙ none i l u)) asks)

      known_next : (o : Option Pointed) → FirstPointer (with_it to).registers (8 - (r + 1)) (r + 1) o → Law c p s k (here z) e (knows (next_at to o)) s.ghost
      known_next None (Nowhere none) =
          let n = origin.2 in settled 8 None n (omega arith) (λ i l u. none i l (omega (arith, u, n))) (AllDone refl)
      known_next (Some q) (There j a l u at before) =
          let n = origin.2 in
          settled j (Some (record { old = a; origin = Register j; found = None })) (omega (arith, l)) (omega (arith, u, n)) before
          (AsksNext a (omega (arith, u, n)) (ap decode (kept j l) ∙ is_pointer (decode (slice_index (with_it to).registers j)) a at))

      -- a register that holds a pointer leads into the table
      in_space : (j a : ℕ) → r + 1 ≤ j → j < 8 → word_at (with_it to).registers j ≡ Some a → a < 128 * y.layout.pages
      in_space j a l u at =
          let know = s.invariant.workers k is.below in
          let clean = know.registers (rw is.as_known refl) (rw is.as_known (end_none y.account.end is.fits.end)) in
          let n = origin.1 in
          let old = clean.old origin.0 j a (omega (arith, n, l)) u (ap decode (kept j l) ∙ is_pointer (decode (slice_index (with_it to).registers j)) a at) in
          let below = (prepared c p s k (here z) is).laid_out.old_below in
          let board = board_is c in
          let pages = is.fits.pages in
          omega (arith, old, below, pages, board)

      -- the task is what it was, and each register still holds a value's word
      task_after : FitsTaskAfter (with_it to) after
      task_after = task_stays y.account y.registers r v.addr to (pointer_word to) inside (ap decode (sym (ap (λ (u : Known). u.registers r) is.as_known)) ∙ origin.3) (decode-pointer_word to short) after y.task is.fits.task

      value_words : AreValues (with_it to).registers
      value_words = values_set y.registers r (pointer_word to) is.fits.eight (subst IsValueAs (sym (decode-pointer_word to short)) tt) is.fits.registers

      refits_it : (stage : Stage) → FitsEnd stage (is_some y.account.end) → IsOnSide stage (nat_lt y.number y.mutators) (is_some y.account.end)
          → FitsTask (at_stage (with_it to) stage) stage → FitsStage (at_stage (with_it to) stage) stage → Fits c.pages c.mutators k (at_stage (with_it to) stage)
      refits_it stage end side task fits = record {
        worker = with_parts is.fits.worker is.fits.epoch (length-set y.registers r (pointer_word to) ∙ is.fits.eight) value_words is.fits.few_printed is.fits.run;
        end = end;
        side = side;
        task = task;
        stage = fits;
      }

      fits_next : (o : Option Pointed) → FirstPointer (with_it to).registers (8 - (r + 1)) (r + 1) o → Fits c.pages c.mutators k (next_at to o)
      fits_next None (Nowhere none) =
          refits_it (passes (with_it to) Forwarded after) is.fits.end is.fits.side task_after
          (record { layout = refl; passage = tt; going = tt; sound = record { pages = page_count c.pages c.mutators k (here z) is.fits; stage = tt } })
      fits_next (Some q) (There j a l u at before) =
          let n = origin.2 in
          refits_it (Forwards (record { register = j; evac = evac.begun y.layout a (y.epoch + 1) y.number; after = after })) is.fits.end is.fits.side task_after (record {
            register = omega (arith, u, n);
            copy = record {
              layout = refl;
              of_epoch = refl;
              worker = refl;
              going = tt;
              sound = record {
                pages = page_count c.pages c.mutators k (here z) is.fits;
                worker = rw is.fits.number is.fits.few;
                addr = in_space j a l (omega (arith, u, n)) at;
                fits = tt;
              };
            };
          })

      pub answers_register : (reply : Reply) → stage_after v.layout v.epoch z reply ≡ Ended to → Goes c p s k e (here z) reply
      answers_register reply next =
          let o = first_pointer (with_it to).registers (8 - (r + 1)) (r + 1) in
          let f = found (with_it to).registers (8 - (r + 1)) (r + 1) in
          becomes c p s k (here z) e reply (next_at to o) s.ghost
          (ap (λ n. turned_register (here z) (record { register = r; evac = machine_at y host v n; after = after }) (evac_taken.told n)) next) is.below
          (known_next o f)
          (tells_nothing y v host z reply) (wins_nothing y v host z reply)
          (takes y v host z reply (subst (λ n. IsSound (record v { stage = n })) (sym next)
          (with_sound y v c.pages c.mutators k z (Ended to) (is_sound y v c.pages c.mutators k host z is.fits) short)))
          (fits_next o f)

  module _ (is : Is c k (here LoadsHeader)) where
    abbrev first_word : ℕ
    first_word = word_in c.pages c.words (HeapWord v.addr)

    finds : (len to : ℕ) → decode first_word ≡ ForwardWord len to → Goes c p s k None (here LoadsHeader) (Value first_word)
    finds len to e =
        let short = (forward_bounds first_word len to e).1 in
        let from = origin to LoadsHeader is short in
        let d = from.1 in
        answers_register to LoadsHeader is short None
        (λ j next l u clean asks. registers_find_forwards (era c) (memory c) (team c) s.ghost k (quest_with y v host None) len to (pointer_word to) j next (prepared c p s k (here LoadsHeader) is)
        from.0 (ap (λ (u : Known). u.copy) is.as_known) (ap (λ (u : Known). u.linking) is.as_known) (quest to LoadsHeader is short) (ap Register (sym d)) (left to LoadsHeader is short)
        (ap decode (heap_word c v.addr) ∙ e) (decode-pointer_word to short) (omega (arith, d, l)) u (rw d clean) asks)
        refl refl (Value first_word) (ap (by_first_word first_word) e)

    pub register_loads_header : StepsSo c p s k (here LoadsHeader)
    register_loads_header = loads_header c p s k y host v is finds

  module _ (to : ℕ) (is : Is c k (here (Clears to))) where
    short : to < 2 ^ 32
    short = (is_sound y v c.pages c.mutators k host (Clears to) is.fits).fits

    settles : Settles to (Clears to) is short (Some (AnnounceIs k 0))
    settles j next l u clean asks =
        let from = origin to (Clears to) is short in
        let d = from.1 in
        registers_are_settled (era c) (memory c) (team c) s.ghost k (quest_with y v host (Some to)) to (pointer_word to) j next (prepared c p s k (here (Clears to)) is)
        (ap (λ (u : Known). u.copy) is.as_known)
        (ap (λ (u : Known). u.linking) is.as_known)
        (record {
          register = record { late = from.0; left = left to (Clears to) is short };
          quest = quest to (Clears to) is short;
          origin = ap Register (sym d);
          found = refl;
        })
        (decode-pointer_word to short) (omega (arith, d, l)) u (rw d clean) asks

    pub register_clears : StepsSo c p s k (here (Clears to))
    register_clears =
        let pages = has_pages y v c.pages c.mutators k host (Clears to) is.fits in
        let worker = is_worker y v c.pages c.mutators k host (Clears to) is.fits in
        let law = announces_are_cleared (era c) (memory c) (team c) s.ghost k (prepared c p s k (here (Clears to)) is) (ap (λ (u : Known). u.copy) is.as_known) in
        let row = row_fits c p s k (here (Clears to)) (AnnounceIs k 0) ((team c).worker k) s.ghost is.below law in
        wants c p s k (here (Clears to)) (Store (place_of c.pages (Announce k)) 0)
        (wants_its y v host (Clears to) ∙ ap (λ n. Some (Store (place_of n (Announce v.worker)) 0)) pages ∙ ap (λ n. Some (Store (place_of c.pages (Announce n)) 0)) worker)
        (stores c p s k (here (Clears to)) (AnnounceIs k 0) row
        (answers_register to (Clears to) is short (Some (AnnounceIs k 0)) settles refl refl Done refl))
