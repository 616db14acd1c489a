-- What is told of a program that was run is so.
use Rattle.std.proofs.Common.{◌≡◌, ℕ, zero, suc, ◌+◌, ◌<◌, List, [], ◌∷◌, ◌++◌, map, take, length, Option, Some, get_or, slice_get, refl, sym, ◌∙◌, ap, subst, arith, false}
use Rattle.std.specs.Prelude.{IsSome}
use Rattle.std.proofs.lemmas.List.{length-append, length-map, take_all}
use Rattle.std.proofs.lemmas.Simd.{map-map}
use Rattle.std.proofs.lemmas.Option.{same_Some, slice_get_within, slice_get-map}
use Rattle.std.specs.Option.{option_map}
use mathlib.Core.Option.{some}
use mathlib.Core.List.{IsPrefix}
use lib.ListN.{get_elem?}
use Rattle.atomic_table.specs.Seated.{TableId}
use Rattle.plain_state.specs.declared.end.End.{End}
use Rattle.plain_state.specs.State.{Mutator, Plain}
use Rattle.mutator_asm.specs.declared.instr.Instr.{Instr}
use Rattle.plain_heap.specs.Order.{first_story, opening}
use Rattle.plain_heap.proofs.Orders.CheckpointsOfOrders.{orders_keep_the_last_checkpoint}
use Rattle.heap_state.specs.Cycles.Copies.{CopiedIsLive}
use Rattle.heap_state.specs.Kept as kept
use Rattle.heap_state.specs.Memory.Table.{word_in}
use Rattle.heap_state.specs.Known.{Known}
use Rattle.heap_state.proofs.Table.StoredRows.{word_in-row}
use Rattle.std.proofs.lemmas.List.{length-replicate}
use Rattle.heap_laws.specs.Opening.{opening_mutator, opening_plain}
use Rattle.space_map.specs.Spaces.{to_space}
use Rattle.space_map.specs.Table.{Area, IsRow, Row, Traced, place_of, whole_length}
use Rattle.gc_worker.specs.declared.config.Config.{Config}
use Rattle.gc_worker.specs.Config.{layout_by}
use Rattle.gc_worker.specs.declared.stage.Stage.{Stage}
use Rattle.gc_worker.specs.declared.stage.Stage.TheVariants.{Gone}
use Rattle.gc_worker.specs.Laws.Between.{IsSo}
use Rattle.gc_worker.specs.Laws.Checkpoints.{TellsKept}
use Rattle.gc_worker.specs.Laws.Copied.{IsTraced}
use Rattle.gc_worker.specs.Laws.Lost.{AreEmptyIfLost}
use Rattle.gc_worker.specs.Workers.Held.{Held}
use Rattle.gc_worker.specs.Workers.Knows.{copy_in, knows}
use Rattle.gc_worker.specs.Laws.Step.{Heap, WorkersStand, held_at, nobody, read}
use Rattle.gc_worker.specs.Readers.{kept_in, live_said, mutators_in, registers_in, seen_in}
use Rattle.gc_worker.specs.Steps.Stepped.{header_kept, place_kept, uncounted}
use Rattle.gc_worker.proofs.Between.StandingHeaps.{what_stands_is_so}
use Rattle.gc_worker.proofs.Plain.TaskOutcomes.{opens_so}
use Rattle.ael_threads.specs.declared.programs.outputs.Outputs.{Outputs}
use Rattle.gc_worker.specs.declared.calls.entry.Entry.{Entry}
use Rattle.ael_threads.specs.declared.view.Hand.{Hand}
use Rattle.ael_threads.specs.declared.view.Plan.{Plan}
use Rattle.gc_worker.specs.History.Legal.{IsLegal, after_all, calls_of, last_flip}
use Rattle.ael_threads.specs.Histories.{Each, first_plain, hand}
use Rattle.ael_threads.specs.Opened.{plan_of}
use Rattle.ael_threads.specs.Runs.Outputs.{IsToldOnClose, Runs, Tells, TellsRegisters, as_kept, seat_kept, seat_registers, seat_seen}
use Rattle.ael_threads.specs.Runs.Programs.{Executes}
use Rattle.ael_threads.specs.Readers.{SeatedScanner, seated}
use Rattle.ael_threads.specs.Rule.{StandsAs, heap_of}
use Rattle.ael_threads.specs.Runs.Running.{EachFrom, EndFoundFull, FullIn, HasRun, HaveRun, HaveScanned, Work}
use Rattle.ael_threads.specs.Seats.{Closes, Seated, Stays, all_hands, first_number, first_own}
use Rattle.ael_threads.proofs.Lists.Elements.{each_apart, each_both}
use Rattle.gc_worker.specs.History.Needs.{EachFullIs, EachMayCome}
use Rattle.gc_worker.specs.History.Order.{order_of}
use Rattle.gc_worker.specs.History.Tally.{size_now, tally, tasks_held}
use Rattle.gc_worker.specs.Laws.Cycles.{size_of}
use Rattle.ael_threads.specs.Histories.{opening_tally}
use Rattle.gc_worker.proofs.History.Lone.{lone_is_never_full}
use Rattle.gc_worker.proofs.History.Needs.{large_is_never_full, orders_fill}
use Rattle.gc_worker.proofs.History.Orders.{IsProgramOrder, fetched_each, orders_program}
use Rattle.gc_worker.proofs.History.Counted.Tallies.{empties_lost}
use Rattle.ael_threads.proofs.Lists.Reads.{get_of}
use Rattle.ael_threads.proofs.ProgramRuns.Programs.{executed_all, shown_all}

-- ---- facts of numbered elements

module _ {A : Type 0} (P Q : ℕ → A → Type 0) where
  from_map : ((n : ℕ) (x : A) → P n x → Q n x) → (n : ℕ) (xs : List A) → EachFrom P n xs → EachFrom Q n xs
  from_map f n [] h = tt
  from_map f n (x ∷ xs) h = (f n x h.0, from_map f (n + 1) xs h.1)

module _ {A : Type 0} (P : ℕ → A → Type 0) where
  pub from_append : (n : ℕ) (xs ys : List A) → EachFrom P n xs → EachFrom P (n + length xs) ys → EachFrom P n (xs ++ ys)
  from_append n [] ys h k = subst (λ (m : ℕ). EachFrom P m ys) (omega arith) k
  from_append n (x ∷ xs) ys h k = (h.0, from_append (n + 1) xs ys h.1 (subst (λ (m : ℕ). EachFrom P m ys) (omega arith) k))

  from_below : (n i : ℕ) (xs : List A) → EachFrom P n xs → i < length xs → (x : A) × (slice_get xs i ≡ Some x) × P (n + i) x
  from_below n i [] h below = absurd (omega (arith, below))
  from_below n zero (y ∷ ys) h below = (y, refl, subst (λ (m : ℕ). P m y) (omega arith) h.0)
  from_below n (suc i) (y ∷ ys) h below = let k = from_below (n + 1) i ys h.1 (omega (arith, below)) in (k.0, k.1, subst (λ (m : ℕ). P m k.0) (omega arith) k.2)

module _ {A : Type 0} (P Q : ℕ → A → Type 0) where
  from_both : (n : ℕ) (xs : List A) → EachFrom P n xs → EachFrom Q n xs → EachFrom (λ k x. P k x × Q k x) n xs
  from_both n [] h k = tt
  from_both n (x ∷ xs) h k = ((h.0, k.0), from_both (n + 1) xs h.1 k.1)

-- ---- each caller's worker stands among all

module _ (workers : List Held) (log : List Entry) where
  stays : (all : List Seated) → Each (Stays workers log) (all_hands all) → Each (λ (s : Seated). Each (Stays workers log) s.knows.hands) all
  stays [] h = tt
  stays (s ∷ ss) h = let both = each_apart (Stays workers log) (all_hands ss) s.knows.hands h in (both.1, stays ss both.0)

-- what is known of a caller and its workers, and that all that it saw is of this history
abbrev KnowsHere : List Held → List Entry → Seated → Type 0
KnowsHere workers log s = Each (Stays workers log) s.knows.hands × IsPrefix s.knows.seen log

-- a caller that has its worker alone
alone : (workers : List Held) (log : List Entry) (s : Seated) (h : Hand) → s.knows.hands ≡ h ∷ [] → KnowsHere workers log s → Stays workers log h
alone workers log s h is k = (subst (Each (Stays workers log)) is k.0).0

-- ---- the workers, numbered

abbrev StandsHere : List Held → (k : ℕ) → Seated → Type 0
StandsHere workers k s = StandsAs workers k s.worker

module _ (w : Work) (workers : List Held) (log : List Entry) where
  -- of a mutator that has run
  abbrev RanHere : (k : ℕ) → Seated → Type 0
  RanHere k s = HasRun w k s × KnowsHere workers log s

  ran_here : (n : ℕ) (ms : List Seated) → HaveRun w n ms → Each (KnowsHere workers log) ms → EachFrom RanHere n ms
  ran_here n [] h k = tt
  ran_here n (s ∷ ss) h k = ((h.0, k.0), ran_here (n + 1) ss h.1 k.1)

  mutator_stands : (k : ℕ) (s : Seated) → RanHere k s → StandsHere workers k s
  mutator_stands k s h = (alone workers log s (hand k s.worker h.0.executed.own) h.0.executed.hands h.1).state

  scanners_stand : (n : ℕ) (ss : List SeatedScanner) → HaveScanned w n ss → Each (KnowsHere workers log) (map seated ss) → EachFrom (StandsHere workers) n (map seated ss)
  scanners_stand n [] h k = tt
  scanners_stand n (s ∷ ss) h k = ((alone workers log s.seated (hand n s.seated.worker []) h.0.scanning.hands k.0).state, scanners_stand (n + 1) ss h.1 k.1)

  scanners_gone : (n : ℕ) (ss : List SeatedScanner) → HaveScanned w n ss → EachFrom (λ k (s : Seated). s.worker.stage ≡ Gone) n (map seated ss)
  scanners_gone n [] h = tt
  scanners_gone n (s ∷ ss) h = (h.0.gone, scanners_gone (n + 1) ss h.1)

-- ---- what they tell

module _ {B : Type 0} (f : Held → B) (g : Seated → B) where
  -- the worker at this number tells what the caller does
  abbrev TellsIn : List Held → (k : ℕ) → Seated → Type 0
  TellsIn workers k s = (held : Held) × (get_elem? workers k ≡ some held) × (f held ≡ g s)

  shifted : (x : Held) (xs : List Held) (n : ℕ) (ss : List Seated) → EachFrom (TellsIn (x ∷ xs)) (n + 1) ss → EachFrom (TellsIn xs) n ss
  shifted x xs n [] h = tt
  shifted x xs n (s ∷ ss) h =
      let e : n + 1 ≡ suc n = omega arith in
      let at : get_elem? (x ∷ xs) (suc n) ≡ some h.0.0 = subst (λ (k : ℕ). get_elem? (x ∷ xs) k ≡ some h.0.0) e h.0.1 in
      ((h.0.0, at, h.0.2), shifted x xs (n + 1) ss h.1)

  first_told : (workers : List Held) (ss : List Seated) → EachFrom (TellsIn workers) 0 ss → map f (take (length ss) workers) ≡ map g ss
  first_told workers [] h = refl
  first_told [] (s ∷ ss) h = absurd (let e = h.0.1 in cc)
  first_told (x ∷ xs) (s ∷ ss) h =
      let e = h.0.1 in
      let same : x ≡ h.0.0 = cc in
      let now : f x ≡ g s = ap f same ∙ h.0.2 in
      let rest = first_told xs ss (shifted x xs 0 ss h.1) in
      (λ i. now i ∷ rest i)

-- where as many callers have left, all workers have
all_gone : (workers : List Held) (ss : List Seated) → length ss ≡ length workers → EachFrom (TellsIn (λ x. x.stage) (λ s. Gone) workers) 0 ss → Each (λ (x : Held). x.stage ≡ Gone) workers
all_gone [] ss many h = tt
all_gone (x ∷ xs) [] many h = absurd (omega (arith, many))
all_gone (x ∷ xs) (s ∷ ss) many h =
    let e = h.0.1 in
    let same : x ≡ h.0.0 = cc in
    (ap (λ (z : Held). z.stage) same ∙ h.0.2, all_gone xs ss (omega (arith, many)) (shifted (λ x. x.stage) (λ s. Gone) x xs 0 ss h.1))

-- ---- a program that was run

module _ (code : List (List Instr)) (turns : ℕ) (config : Config) (t : TableId) (ms : List Seated) (ss : List SeatedScanner) (words : List ℕ) where
  abbrev plan_here : Plan
  plan_here = plan_of (length code) config

  abbrev work : Work
  work = record { code = code; turns = turns; table = t; plan = plan_here }

  module _ (many : length ms ≡ length code) (few : length ss ≡ config.scanners) (run : HaveRun work 0 ms) (scanned : HaveScanned work (length code) ss) (c : Closes plan_here (map seated ss ++ ms) words) where
    abbrev h : Heap
    h = heap_of plan_here words c.workers

    abbrev p : Plain
    p = opening_plain (length code)

    -- ---- what is known of all callers

    known : Each (KnowsHere c.workers c.log) (map seated ss) × Each (KnowsHere c.workers c.log) ms
    known = each_apart (KnowsHere c.workers c.log) (map seated ss) ms
        (each_both (λ (s : Seated). Each (Stays c.workers c.log) s.knows.hands) (λ (s : Seated). IsPrefix s.knows.seen c.log) (map seated ss ++ ms) (stays c.workers c.log (map seated ss ++ ms) c.hands) c.seen)

    ran : EachFrom (RanHere work c.workers c.log) 0 ms
    ran = ran_here work c.workers c.log 0 ms run known.1

    abbrev seats : List Seated
    seats = ms ++ map seated ss

    -- each stands among all workers, and has left
    abbrev Left : (k : ℕ) → Seated → Type 0
    Left k s = StandsHere c.workers k s × (s.worker.stage ≡ Gone)

    mutators_left : EachFrom Left 0 ms
    mutators_left = from_map (RanHere work c.workers c.log) Left (λ k s r. (mutator_stands work c.workers c.log k s r, r.0.gone)) 0 ms ran

    scanners_left : EachFrom Left (0 + length ms) (map seated ss)
    scanners_left = subst (λ (n : ℕ). EachFrom Left n (map seated ss)) (sym many ∙ omega arith)
        (from_both (StandsHere c.workers) (λ k (s : Seated). s.worker.stage ≡ Gone) (length code) (map seated ss) (scanners_stand work c.workers c.log (length code) ss scanned known.0)
        (scanners_gone work c.workers c.log (length code) ss scanned))

    -- ---- what they tell

    mutators_tell : {B : Type 0} (f : Held → B) (g : Seated → B) → ((x : Held) (s : Seated) → uncounted x ≡ s.worker → f x ≡ g s) → map f (mutators_in h) ≡ map g ms
    mutators_tell f g same = (λ i. map f (take (sym many i) c.workers))
        ∙ first_told f g c.workers ms (from_map Left (TellsIn f g c.workers) (λ k s l. (l.0.held, l.0.is, same l.0.held s l.0.shown)) 0 ms mutators_left)

    seen_told : map seat_seen ms ≡ seen_in h
    seen_told = sym (mutators_tell (λ x. record { printed = x.account.printed; end = x.account.end }) seat_seen
        (λ x s e. ap (λ (z : Held). record { printed = z.account.printed; end = z.account.end }) e))

    registers_told : map seat_registers ms ≡ registers_in h
    registers_told = sym (mutators_tell (λ x. x.registers) seat_registers (λ x s e. ap (λ (z : Held). z.registers) e))

    -- who has left keeps nothing
    kept_gone : (x : Held) (s : Seated) → uncounted x ≡ s.worker → s.worker.stage ≡ Gone → kept.kept_by (knows x).copy ≡ as_kept (seat_kept s)
    kept_gone x s e gone =
        let own : x.stage ≡ Gone = ap (λ (z : Held). z.stage) e ∙ gone in
        ap (λ (stage : Stage). kept.kept_by (copy_in stage)) own ∙ sym (ap (λ (stage : Stage). as_kept (header_kept stage, place_kept stage)) gone)

    all_left : EachFrom Left 0 seats
    all_left = from_append Left 0 ms (map seated ss) mutators_left scanners_left

    many_workers : length seats ≡ length c.workers
    many_workers = length-append ms (map seated ss) ∙ ((λ i. many i + (length-map ss seated ∙ few) i) ∙ sym c.count)

    workers_left : Each (λ (x : Held). x.stage ≡ Gone) c.workers
    workers_left = all_gone c.workers seats many_workers
        (from_map Left (TellsIn (λ x. x.stage) (λ s. Gone) c.workers) (λ k s l. (l.0.held, l.0.is, ap (λ (z : Held). z.stage) l.0.shown ∙ l.1)) 0 seats all_left)

    kept_told : map as_kept (map seat_kept seats) ≡ kept_in h
    kept_told =
        let all : take (length seats) c.workers ≡ c.workers = take_all (length seats) c.workers (omega (arith, many_workers)) in
        let told = first_told (λ x. kept.kept_by (knows x).copy) (λ s. as_kept (seat_kept s)) c.workers seats
        (from_map Left (TellsIn (λ x. kept.kept_by (knows x).copy) (λ s. as_kept (seat_kept s)) c.workers) (λ k s l. (l.0.held, l.0.is, kept_gone l.0.held s l.0.shown l.1)) 0 seats
        all_left) in
        map-map as_kept seat_kept seats ∙ (sym told ∙ (ap (map (λ x. kept.kept_by (knows x).copy)) all ∙ sym (map-map (λ (x : Known). kept.kept_by x.copy) knows c.workers)))

    -- ---- its order

    ran_at : (m : ℕ) → m < length code → (s : Seated) × (slice_get ms m ≡ Some s) × RanHere work c.workers c.log m s
    ran_at m below =
        let found = from_below (RanHere work c.workers c.log) 0 m ms ran (omega (arith, below, many)) in
        let e : 0 + m ≡ m = omega arith in
        (found.0, found.1, subst (λ (k : ℕ). RanHere work c.workers c.log k found.0) e found.2)

    executes : (m : ℕ) → m < length code → (count : ℕ) × Executes code turns p m count c.log
    executes m below =
        let s : Seated = (ran_at m below).0 in
        let r = (ran_at m below).2.0.executed in
        let k = (ran_at m below).2.1 in
        let number : first_number s.knows.hands ≡ m = ap first_number r.hands in
        let own : calls_of (first_number s.knows.hands) c.log ≡ first_own s.knows.hands =
        (λ i. calls_of (number i) c.log) ∙ ((alone c.workers c.log s (hand m s.worker r.own) r.hands k).calls ∙ sym (ap first_own r.hands)) in (
          r.count,
          subst (λ (z : Plan × ℕ). Executes code turns (first_plain z.0) z.1 r.count c.log) (λ i. (r.plan i, number i))
              (executed_all code turns r.count s c.log r.mine k.1 own r.executed),
        )

    order : IsProgramOrder code turns (length code) c.log
    order = orders_program code turns (length code) c.log refl c.legal (empties_lost c.sizes (tasks_held c.workers) (opening_tally plan_here) c.log c.entries) (λ m below. (executes m below).1.fetched) (λ m below. (executes m below).1.short)

    -- ---- ends

    is_so : IsSo h (after_all p c.log)
    is_so = what_stands_is_so h (after_all p c.log) (last_flip p c.log) c.stands

    -- a plain mutator has the end of the one that has run
    ended_at : (m : ℕ) (q : Mutator) → slice_get (after_all p c.log).mutators m ≡ Some q → (s : Seated) × (slice_get ms m ≡ Some s) × (r : RanHere work c.workers c.log m s) × (q.end ≡ Some r.0.executed.end)
    ended_at m q is =
        let within = slice_get_within (after_all p c.log).mutators m q is in
        let as_many = is_so.as_many in
        let found = ran_at m (omega (arith, within, as_many)) in
        let st = mutator_stands work c.workers c.log m found.0 found.2 in
        let here : held_at h m ≡ st.held = get_of c.workers m st.held nobody st.is in
        let own : st.held.account.end ≡ found.0.worker.account.end = ap (λ (z : Held). z.account.end) st.shown in
        (found.0, found.1, found.2, sym (is_so.mutators m q is).account.end ∙ (ap (λ (z : Held). z.account.end) here ∙ (own ∙ found.2.0.executed.ended)))

    full_at : (m : ℕ) (q : Mutator) (end : End) → slice_get (after_all p c.log).mutators m ≡ Some q → q.end ≡ Some end → FullIn plan_here m c.log end
    full_at m q end is e =
        let found = ended_at m q is in
        let s = found.0 in
        let r = found.2 in
        let same : r.0.executed.end ≡ end = same_Some r.0.executed.end end (sym found.3 ∙ e) in
        record { upto = s.knows.seen; begins = r.1.1; full = subst (EndFoundFull plan_here m s.knows.seen) same r.0.executed.full }

    -- what its registers show
    shown_at : (m : ℕ) (q : Mutator) (told : Outputs) → told.regs.items ≡ map seat_registers ms → slice_get (after_all p c.log).mutators m ≡ Some q → TellsRegisters told m q
    shown_at m q told regs is =
        let found = ended_at m q is in
        let s = found.0 in
        let r = found.2.0.executed in
        let k = found.2.1 in
        let number : first_number s.knows.hands ≡ m = ap first_number r.hands in
        let own : calls_of (first_number s.knows.hands) c.log ≡ first_own s.knows.hands =
        (λ i. calls_of (number i) c.log) ∙ ((alone c.workers c.log s (hand m s.worker r.own) r.hands k).calls ∙ sym (ap first_own r.hands)) in
        let its : slice_get (after_all (first_plain s.knows.plan) c.log).mutators (first_number s.knows.hands) ≡ Some q = (λ i. slice_get (after_all (first_plain (r.plan i)) c.log).mutators (number i)) ∙ is in
        record {
          words = s.worker.registers;
          is = ap (λ (items : List (List ℕ)). slice_get items m) regs ∙ (slice_get-map seat_registers ms m ∙ ap (λ (o : Option Seated). option_map seat_registers o) found.1);
          shows = (shown_all s c.log r.mine r.shows k.1 own q its).registers;
        }

    -- each full heap of its order
    fulls : EachFullIs config.limit config.pages code turns (first_story code) 0 0 (order_of c.log) × EachMayCome (λ j. false) 0 (order_of c.log)
    fulls =
        let sections : length p.mutators ≡ length code = length-replicate (length code) opening_mutator in
        subst (λ (z : Plain × ℕ × ℕ). EachFullIs z.1 z.2 code turns (record { flip = z.0; now = z.0 }) 0 0 (order_of c.log) × EachMayCome (λ j. false) 0 (order_of c.log))
        (λ i. (opens_so code i, c.sized.limit i, c.sized.least i))
        (orders_fill code turns (tasks_held c.workers) c.sizes (opening_tally plan_here) 0 (λ j. false) c.log c.legal sections
        (fetched_each code turns p c.log c.legal (λ m below. (executes m (omega (arith, below, sections))).1.fetched))
        (λ j task q e its none. absurd (let ended = (ended_at j q its).3 in let never = sym none ∙ ended in cc))
        c.entries (omega arith) (λ m e. e))

    -- THE CLAUSE OF RUN
    pub runs_so : (told : Outputs) → told.words ≡ words → told.spaces ≡ layout_by config → length told.words ≡ whole_length (layout_by config) → told.regs.items ≡ map seat_registers ms → Tells h told → Runs code turns config told
    runs_so told same laid all regs tells =
        let from : p ≡ opening code = opens_so code in
        record {
          words_tell = record {
            history = record {
              log = c.log;
              workers = c.workers;
              legal = subst (λ (z : Plain). IsLegal z c.log) from c.legal;
              count = c.count;
              stands = subst (λ (z : Plain × List ℕ). WorkersStand (heap_of plan_here z.1 c.workers) (after_all z.0 c.log) (last_flip z.0 c.log)) (λ i. (from i, sym same i)) c.stands;
              lost = subst (λ (z : Plain × List ℕ). AreEmptyIfLost (heap_of plan_here z.1 c.workers) (after_all z.0 c.log) (last_flip z.0 c.log)) (λ i. (from i, sym same i)) c.lost;
            };
            copied = subst (λ (z : Plain × List ℕ). IsTraced (heap_of plan_here z.1 c.workers) → CopiedIsLive (read (heap_of plan_here z.1 c.workers)) (last_flip z.0 c.log)) (λ i. (from i, sym same i)) c.copied;
            kept = λ room. subst (λ (z : Plain × List ℕ). TellsKept (heap_of plan_here z.1 c.workers) (after_all z.0 c.log)) (λ i. (from i, sym same i)) (c.kept room);
            sizes = c.sizes;
            sized = c.sized;
            size = subst (λ (z : List ℕ). size_of config.limit z ≡ size_now c.sizes (tally (opening_tally plan_here) c.log)) (sym same) c.size;
            entries = c.entries;
            all_flipped = c.all_flipped;
          };
          plain_is = order.plain ∙ ap (λ (z : Plain). after_all z c.log) from;
          acts = order.acts;
          flip_is = sym (order.flip ∙ ap (λ (z : Plain). last_flip z c.log) from);
          ended = λ m q is. subst IsSome (sym (ended_at m q (ap (λ (z : Plain). slice_get (after_all z c.log).mutators m) from ∙ is)).3) refl;
          last = orders_keep_the_last_checkpoint code turns (order_of c.log);
          layout = laid;
          all_words = all;
          epoch = tells.cycles ∙ c.epoch;
          left = workers_left;
          shows = λ m q is. shown_at m q told regs (ap (λ (z : Plain). slice_get (after_all z c.log).mutators m) from ∙ is);
          tells = subst (λ (z : List ℕ). Tells (heap_of plan_here z c.workers) told) (sym same) tells;
          filled = fulls.0;
          follows = fulls.1;
          large = large_is_never_full config.limit config.pages code turns (order_of c.log) fulls.0 fulls.1;
          lone = λ one few enough. lone_is_never_full config.limit config.pages code turns one (order_of c.log) order.acts fulls.1 fulls.0 few enough;
          full = λ m q end is e. full_at m q end (ap (λ (z : Plain). slice_get (after_all z c.log).mutators m) from ∙ is) e;
        }

  -- by what `tell` tells
  told_here : length ms ≡ length code → length ss ≡ config.scanners → HaveRun work 0 ms → HaveScanned work (length code) ss → (told : Outputs) → told.words ≡ words → IsToldOnClose plan_here ms ss told → Runs code turns config told
  told_here many few run scanned told same is =
      let c : Closes plan_here (map seated ss ++ ms) words = subst (Closes plan_here (map seated ss ++ ms)) same is.closes in
      let tells : Tells (heap_of plan_here told.words c.workers) told = record {
        mutators = is.printed ∙ (seen_told many few run scanned c ∙ ap (λ (z : List ℕ). seen_in (heap_of plan_here z c.workers)) (sym same));
        cycles = is.cycles;
        live = is.live ∙ ap (λ (e : ℕ). live_said e (word_in config.limit told.words Traced) (word_in config.limit told.words (Area (to_space e)))) is.cycles;
        registers = is.registers ∙ registers_told many few run scanned c;
        kept = ap (map as_kept) is.kept ∙ kept_told many few run scanned c;
      } in
      runs_so many few run scanned c told same is.layout is.all_words is.registers (subst (λ (z : List ℕ). Tells (heap_of plan_here z c.workers) told) same tells)

pub runs_told : (code : List (List Instr)) (turns : ℕ) (config : Config) (t : TableId) (plan : Plan) (ms : List Seated) (ss : List SeatedScanner) → plan ≡ plan_of (length code) config → length ms ≡ length code → length ss ≡ config.scanners
    → HaveRun (record { code = code; turns = turns; table = t; plan = plan }) 0 ms → HaveScanned (record { code = code; turns = turns; table = t; plan = plan }) plan.mutators ss
    → (told : Outputs) → IsToldOnClose plan ms ss told → Runs code turns config told
runs_told code turns config t plan ms ss is many few =
    subst (λ (z : Plan). HaveRun (record { code = code; turns = turns; table = t; plan = z }) 0 ms → HaveScanned (record { code = code; turns = turns; table = t; plan = z }) z.mutators ss
    → (told : Outputs) → IsToldOnClose z ms ss told → Runs code turns config told) (sym is) (λ run scanned told it. told_here code turns config t ms ss told.words many few run scanned told refl it)

-- ---- words of the table

-- the word at a row's place
pub word_read : (n : ℕ) (words : List ℕ) (row : Row) → IsRow n row → (place x : ℕ) → place ≡ place_of n row → get_elem? words place ≡ some x → x ≡ word_in n words row
word_read n words row is place x at found = sym (get_of words place x 0 found) ∙ (ap (λ (k : ℕ). get_or words k 0) at ∙ sym (word_in-row n words row is))
