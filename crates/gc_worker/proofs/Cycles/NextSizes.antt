-- A flipper that has read all has found the size that follows from the words: nobody changes these until it has flipped.
use Rattle.std.proofs.Common.{◌≡◌, ◌≢◌, ℕ, ◌+◌, ◌<◌, ◌==◌, Bool, true, false, cond, nat_lt, List, length, slice_index, Option, Some, None, refl, ap, sym, subst, ◌∙◌, arith, ⊎_elim, get_or-set_same, get_or-set_other, length-set}
use Rattle.std.proofs.lemmas.Bool.{cases_eq}
use Rattle.std.proofs.lemmas.Option.{same_Some}
use Rattle.plain_state.specs.State.{Plain}
use Rattle.atom_store.specs.declared.reply.Reply.{Reply}
use Rattle.atom_store.specs.declared.reply.Reply.TheVariants.{Value, Won, Lost}
use Rattle.atom_store.specs.declared.step.Step.{Step}
use Rattle.atom_store.specs.declared.step.Step.TheVariants.{Load}
use Rattle.atom_store.specs.declared.turn.Turn.TheVariants.{More}
use Rattle.atom_store.specs.Step.{words_after, reply_of}
use Rattle.space_map.specs.declared.area_word.AreaWord.{AreaWord}
use Rattle.space_map.specs.declared.gate_word.GateWord.{GateWord}
use Rattle.space_map.specs.GateWord.{decode_gate, encode_gate}
use Rattle.space_map.specs.Spaces.{to_space}
use Rattle.space_map.specs.Table.{Area, Gate, place_of}
use Rattle.gate_core.specs.declared.flip_stage.FlipStage.{FlipStage}
use Rattle.gate_core.specs.declared.flip_stage.FlipStage.TheVariants as flip_stage
use Rattle.gate_core.specs.declared.flipped.Flipped.TheVariants as flipped
use Rattle.gate_core.specs.declared.reset.Reset as resets
use Rattle.gate_core.specs.Flip.{Flipping, next_size}
use Rattle.gate_core.specs.Flip as flip
use Rattle.heap_state.specs.Configuration.{era, memory, table, team}
use Rattle.heap_state.specs.Memory.Table.{word_in}
use Rattle.heap_state.specs.Known.{Reset, Known, is_running}
use Rattle.heap_state.proofs.Table.StoredRows.{word_in-row}
use Rattle.heap_laws.proofs.Allocation.StockPages.Claimed.{runs_counted}
use Rattle.gc_worker.specs.declared.stage.Stage.{Stage}
use Rattle.gc_worker.specs.declared.stage.Stage.TheVariants.{Flips, Places}
use Rattle.gc_worker.specs.Laws.Between.{fresh_mutator, fresh_scanner, opening_words, with_worker}
use Rattle.gc_worker.specs.Laws.Cycles.{FlipsSetSizes, HasFound, HasFoundAt, HasNextSize, HaveNextSizes, LowGoes, NextSizesBegin, NextSizesStay, SizeGoes, front_of, front_said, low_of, reset_of, size_next, size_of, words_claimed}
use Rattle.gc_worker.specs.Laws.Step.{FlipsWhereTold, Heap, StepKeeps, WorkersStand, at_flip, epoch_of, held_at, moved, nobody, read}
use Rattle.gc_worker.specs.Plain.Answer.{after_told}
use Rattle.gc_worker.specs.Plain.Empty.{empty_cells}
use Rattle.gc_worker.specs.Steps.Goes.{Is}
use Rattle.gc_worker.specs.Steps.Stepped.{IsFlipping}
use Rattle.gc_worker.specs.Steps.Turned.{Told, Silent, Marks, told, told_at, told_flip, turned, turned_at, turned_flip}
use Rattle.gc_worker.specs.Steps.Wanted.{wanted, wanted_at}
use Rattle.gc_worker.specs.Workers.Held.{Held, at_stage, has_seen_flip}
use Rattle.gc_worker.specs.Workers.Knows.{reset_at, reset_in}
use Rattle.gc_worker.proofs.Between.OpenedHeap.{is_there, many}
use Rattle.gc_worker.proofs.Between.Pages.Claims.{of_now}
use Rattle.gc_worker.proofs.Cycles.FlipReads.{flips_now, nobody_runs, says, size_is, used_now}
use Rattle.gc_worker.proofs.Cycles.Lows.{low_falls_by_claims}
use Rattle.gc_worker.proofs.Cycles.NewFlips.{IsUnread, new_flips_are_unread}
use Rattle.gc_worker.proofs.Cycles.SizesOfSpaces.{flip_sets, sizes_stay}
use Rattle.gc_worker.proofs.StepKeeps.{steps_keep}
use Rattle.gc_worker.proofs.Words.Areas.{is_space}
use Rattle.gc_worker.proofs.Words.Eras.{span_is}
use Rattle.gc_worker.proofs.Workers.Members.{member}

-- ---- a step

module _ (h : Heap) (p o : Plain) (k : ℕ) (x : Held) (q : Step) (st : WorkersStand h p o) (l : k < length h.workers) (holds : held_at h k ≡ x) (asked : wanted x ≡ Some q) where
  abbrev later : List ℕ
  later = words_after q h.words

  abbrev reply : Reply
  reply = reply_of q h.words

  abbrev u : Told
  u = told x reply

  abbrev next : Heap
  next = moved h k x q

  abbrev then : Plain
  then = after_told (empty_cells (read next)) p k u

  law : StepKeeps h p o k x q
  law = steps_keep h p o k x q st l holds asked

  there : Is (read h) k x
  there = member h p o k x st l holds

  -- who allocates runs, so nobody claims words while a flipper has read all
  none_claimed : (memory (read h)).gate.running ≡ 0 → (stage : Stage) → x.stage ≡ stage → words_claimed x reply ≡ 0
  none_claimed still (Places z) e =
      let runs : is_running ((team (read h)).worker k).post ≡ true = ap (λ (w : Known). is_running w.post) there.as_known ∙ rw e refl in
      absurd (let some = runs_counted (memory (read h)).gate (team (read h)).count (team (read h)).worker k st.stands.invariant.counted there.below runs in omega (arith, some, still))
  none_claimed still _ e = rw e refl

  -- within an epoch LOW falls by what is claimed, and the size stays
  same_by : (t : Told) → u ≡ t → ((pages : ℕ) → t ≢ Marks pages) → LowGoes h.pages h.words later (words_claimed x reply) t → SizeGoes h.pages h.words later t
      → (low_of h.pages later + words_claimed x reply ≡ low_of h.pages h.words) × (size_of h.pages later ≡ size_of h.pages h.words)
  same_by (Marks pages) e other low size = absurd (other pages refl)
  same_by _ e other low size = (low, size)

  -- ---- a flipper that has read all before and after it

  module _ (unmarked : (pages : ℕ) → u ≢ Marks pages) (j : ℕ) (y z : Held) (is : Is (read h) j y) (will : Is (read next) j z) (f g : Flipping) (flips : y.stage ≡ Flips f) (stays : z.stage ≡ Flips g)
      (r : resets.Reset) (had : reset_of f.stage ≡ Some r) (has : reset_of g.stage ≡ Some r) (same : has_seen_flip z ≡ has_seen_flip y) where
    goes : (low_of h.pages later + words_claimed x reply ≡ low_of h.pages h.words) × (size_of h.pages later ≡ size_of h.pages h.words)
    goes = same_by u refl unmarked (low_falls_by_claims h p o k x q st l holds asked) (sizes_stay h p o k x q st l holds asked)

    front_stays : front_of h.pages later ≡ front_of h.pages h.words
    front_stays =
        let before = used_now h p o st j y is f flips r had in
        let after = used_now next then (at_flip p o u) law.stands j z will g stays r has in
        let none = none_claimed (nobody_runs h p o st j y is f flips r had) x.stage refl in
        let all = goes in
        omega (arith, before, after, none, all)

    next_stays : size_next h.pages later z ≡ size_next h.pages h.words y
    next_stays =
        ap (λ (b : Bool). next_size h.pages b (size_of h.pages later) (front_of h.pages later)) same
        ∙ (ap (λ (size : ℕ). next_size h.pages (has_seen_flip y) size (front_of h.pages later)) goes.1
        ∙ ap (λ (front : ℕ). next_size h.pages (has_seen_flip y) (size_of h.pages h.words) front) front_stays)

    pub still_next : HasNextSize h.pages h.words y → HasNextSize h.pages later z
    still_next own =
        let found : r.next ≡ size_next h.pages h.words y = subst (HasFound (size_next h.pages h.words y)) had (subst (HasFoundAt (size_next h.pages h.words y)) flips own) in
        subst (HasFoundAt (size_next h.pages later z)) (sym stays) (subst (HasFound (size_next h.pages later z)) (sym has) (found ∙ sym next_stays))

  -- ---- the flipper's own step

  then_there : Is (read next) k (turned x reply)
  then_there =
      member next then (at_flip p o u) k (turned x reply) law.stands (let count = length-set h.workers k (turned x reply) in omega (arith, count, l))
      (get_or-set_same h.workers k (turned x reply) nobody l)

  module _ (f : Flipping) (flips : x.stage ≡ Flips f) (own : HasNextSize h.pages h.words x) where
    as_flip : Is (read h) k (at_stage x (Flips f))
    as_flip = subst (Is (read h) k) (ap (at_stage x) flips) there

    wants_by : (s : FlipStage) → f.stage ≡ s → flip.wanted_at f s ≡ Some q
    wants_by s e = sym (ap (flip.wanted_at f) e) ∙ (sym (ap (wanted_at x) flips) ∙ asked)

    -- the stage that follows
    turns_to : (s t : FlipStage) → f.stage ≡ s → flip.next_stage f s reply ≡ t → turned x reply ≡ turned_flip x (record f { stage = t }) (flip.told_at t)
    turns_to s t e is = ap (λ (z : Stage). turned_at x z reply) flips ∙ ap (λ (z : FlipStage). turned_flip x (record f { stage = z }) (flip.told_at z)) (ap (λ (z : FlipStage). flip.next_stage f z reply) e ∙ is)

    tells : (s t : FlipStage) → f.stage ≡ s → flip.next_stage f s reply ≡ t → u ≡ told_flip (flip.told_at t)
    tells s t e is = ap (λ (z : Stage). told_at x z reply) flips ∙ ap (λ (z : FlipStage). told_flip (flip.told_at z)) (ap (λ (z : FlipStage). flip.next_stage f z reply) e ∙ is)

    -- it goes on with what it has read
    goes_on : (s t : FlipStage) (r : resets.Reset) → f.stage ≡ s → flip.next_stage f s reply ≡ t → flip.told_at t ≡ More → reset_of s ≡ Some r → reset_of t ≡ Some r
        → HasNextSize h.pages later (turned x reply)
    goes_on s t r e is more had has =
        let turns : turned x reply ≡ at_stage x (Flips (record f { stage = t })) = turns_to s t e is ∙ ap (turned_flip x (record f { stage = t })) more in
        let silent : u ≡ Silent = tells s t e is ∙ ap told_flip more in
        still_next (λ pages marks. let a = sym silent ∙ marks in cc) k x (turned x reply) there then_there f (record f { stage = t }) flips (ap (λ (y : Held). y.stage) turns) r (ap reset_of e ∙ had) has
        (ap has_seen_flip turns) own

    -- it has read nothing, or not all
    early : (t : FlipStage) → reset_of t ≡ None → HasNextSize h.pages later (turned_flip x (record f { stage = t }) (flip.told_at t))
    early flip_stage.LoadsGate none = tt
    early (flip_stage.LoadsSize gate) none = tt
    early (flip_stage.LoadsArea gate size) none = tt
    early (flip_stage.Ended (flipped.Went pages)) none = tt
    early (flip_stage.Ended (flipped.NotYet word)) none = tt
    early stage none = absurd (cc)

    begins_anew : (s : FlipStage) → f.stage ≡ s → reset_of (flip.next_stage f s reply) ≡ None → HasNextSize h.pages later (turned x reply)
    begins_anew s e none = subst (HasNextSize h.pages later) (sym (turns_to s (flip.next_stage f s reply) e refl)) (early (flip.next_stage f s reply) none)

    by_gate : (word : ℕ) (o : Option GateWord) → reset_of (flip.looked word o) ≡ None
    by_gate word None = refl
    by_gate word (Some gate) = by_test (flip.is_still gate)
      where
        by_test : (b : Bool) → reset_of (cond b (flip_stage.LoadsSize gate) (flip_stage.Ended (flipped.NotYet word))) ≡ None
        by_test true = refl
        by_test false = refl

    gate_unread : (z : Reply) → reset_of (flip.next_stage f flip_stage.LoadsGate z) ≡ None
    gate_unread (Value word) = by_gate word (decode_gate word)
    gate_unread _ = refl

    size_unread : (gate : GateWord) (z : Reply) → reset_of (flip.next_stage f (flip_stage.LoadsSize gate) z) ≡ None
    size_unread gate (Value _) = refl
    size_unread gate _ = refl

    -- its exchange is won, or it begins anew
    exchanged : (r : resets.Reset) → flip.wanted_at f (flip_stage.Exchanges r) ≡ Some q → reset_of (flip.next_stage f (flip_stage.Exchanges r) reply) ≡ None
    exchanged r wants = subst (λ (z : Step). reset_of (flip.next_stage f (flip_stage.Exchanges r) (reply_of z h.words)) ≡ None) (same_Some _ q wants)
        (by_test (slice_index h.words (place_of f.layout.pages Gate) == encode_gate r.gate))
      where
        by_test : (b : Bool) → reset_of (flip.next_stage f (flip_stage.Exchanges r) (cond b Won (Lost (slice_index h.words (place_of f.layout.pages Gate))))) ≡ None
        by_test true = refl
        by_test false = refl

    -- ---- it reads AREA

    module _ (gate : GateWord) (size : ℕ) (e : f.stage ≡ flip_stage.LoadsArea gate size) where
      abbrev space : ℕ
      space = to_space f.epoch

      abbrev area : AreaWord
      area = (table (read h)).area (to_space (era (read h)).epoch)

      wants : Load (place_of f.layout.pages (Area space)) ≡ q
      wants = same_Some (Load (place_of f.layout.pages (Area space))) q (wants_by (flip_stage.LoadsArea gate size) e)

      pages : f.layout.pages ≡ h.pages
      pages = ap (λ l. l.pages) as_flip.fits.stage.layout ∙ as_flip.fits.pages

      now : f.epoch ≡ epoch_of h.pages h.words
      now = as_flip.fits.stage.epoch ∙ (flips_now h p o st k x there f flips ∙ of_now h p o st)

      reads : reply ≡ Value (word_in h.pages h.words (Area (to_space (epoch_of h.pages h.words))))
      reads =
          ap (λ (z : Step). reply_of z h.words) (sym wants)
          ∙ (ap (λ (m : ℕ). Value (slice_index h.words (place_of m (Area space)))) pages
          ∙ (ap Value (sym (word_in-row h.pages h.words (Area space) (is_space f.epoch))) ∙ ap (λ (epoch : ℕ). Value (word_in h.pages h.words (Area (to_space epoch)))) now))

      abbrev found : resets.Reset
      found = record { gate = gate; size = size; next = next_size f.layout.pages f.seen size area.front; used = flip.used_in size area }

      stage_is : flip.next_stage f (flip_stage.LoadsArea gate size) reply ≡ flip_stage.StoresSize found
      stage_is = ap (flip.next_stage f (flip_stage.LoadsArea gate size)) reads ∙ ap (flip.read_area f.layout.pages f.seen gate size) (says h p o st)

      size_same : size ≡ size_of h.pages h.words
      size_same =
          let so_far : Reset = record { read = gate; size = Some size; grown = None; used = None; sized = false; stored = false; cleared = false } in
          let reset = (st.stands.invariant.workers k there.below).reset so_far (ap (λ (w : Known). w.reset) there.as_known ∙ (ap reset_in flips ∙ ap reset_at e)) in
          let read_it = reset.size size refl in
          let span = span_is (read h) in
          let is = size_is h p o st in
          omega (arith, read_it, span, is)

      found_next : found.next ≡ size_next h.pages h.words x
      found_next =
          ap (λ (m : ℕ). next_size m f.seen size area.front) pages
          ∙ (ap (λ (b : Bool). next_size h.pages b size area.front) as_flip.fits.stage.seen
          ∙ (ap (λ (z : ℕ). next_size h.pages (has_seen_flip x) z area.front) size_same
          ∙ ap (λ (front : ℕ). next_size h.pages (has_seen_flip x) (size_of h.pages h.words) front) (sym (ap front_said (says h p o st)))))

      finds : HasNextSize h.pages later (turned x reply)
      finds =
          let words : h.words ≡ later = ap (λ (z : Step). words_after z h.words) wants in
          let turns : turned x reply ≡ at_stage x (Flips (record f { stage = flip_stage.StoresSize found })) = turns_to (flip_stage.LoadsArea gate size) (flip_stage.StoresSize found) e stage_is in
          subst (λ (w : List ℕ). HasNextSize h.pages w (turned x reply)) words (subst (HasNextSize h.pages h.words) (sym turns) found_next)

    -- ---- each of its stages

    by_flip : (s : FlipStage) → f.stage ≡ s → HasNextSize h.pages later (turned x reply)
    by_flip flip_stage.LoadsGate e = begins_anew flip_stage.LoadsGate e (gate_unread reply)
    by_flip (flip_stage.LoadsSize gate) e = begins_anew (flip_stage.LoadsSize gate) e (size_unread gate reply)
    by_flip (flip_stage.LoadsArea gate size) e = finds gate size e
    by_flip (flip_stage.StoresSize r) e =
        goes_on (flip_stage.StoresSize r) (flip_stage.StoresArea r) r e (ap (λ (z : Step). flip.next_stage f (flip_stage.StoresSize r) (reply_of z h.words)) (sym (same_Some _ q (wants_by (flip_stage.StoresSize r) e)))) refl refl refl
    by_flip (flip_stage.StoresArea r) e =
        goes_on (flip_stage.StoresArea r) (flip_stage.ResetsWeak r) r e (ap (λ (z : Step). flip.next_stage f (flip_stage.StoresArea r) (reply_of z h.words)) (sym (same_Some _ q (wants_by (flip_stage.StoresArea r) e)))) refl refl refl
    by_flip (flip_stage.ResetsWeak r) e =
        goes_on (flip_stage.ResetsWeak r) (flip_stage.Exchanges r) r e (ap (λ (z : Step). flip.next_stage f (flip_stage.ResetsWeak r) (reply_of z h.words)) (sym (same_Some _ q (wants_by (flip_stage.ResetsWeak r) e)))) refl refl refl
    by_flip (flip_stage.Exchanges r) e = begins_anew (flip_stage.Exchanges r) e (exchanged r (wants_by (flip_stage.Exchanges r) e))
    by_flip (flip_stage.Ended result) e = absurd (let none = wants_by (flip_stage.Ended result) e in cc)

  -- nothing is asked of one that has read nothing
  unread_next : (size : ℕ) (stage : Stage) → IsUnread stage → HasFoundAt size stage
  unread_next size (Flips f) is = subst (λ (s : FlipStage). HasFound size (reset_of s)) (sym is) tt
  unread_next size stage is = tt

  own_next : HasNextSize h.pages h.words x → (stage : Stage) → x.stage ≡ stage → HasNextSize h.pages later (turned x reply)
  own_next own (Flips f) e = by_flip f e own f.stage refl
  own_next own stage e = unread_next (size_next h.pages later (turned x reply)) (turned x reply).stage (new_flips_are_unread x reply (λ is. subst IsFlipping e is))

  -- ---- another worker

  module _ (j : ℕ) (inside : j < length h.workers) (other : j ≢ k) (own : HasNextSize h.pages h.words (held_at h j)) where
    abbrev y : Held
    y = held_at h j

    keeps : held_at next j ≡ y
    keeps = get_or-set_other h.workers k j (turned x reply) nobody other

    was_there : Is (read h) j y
    was_there = member h p o j y st inside refl

    will_be_there : Is (read next) j y
    will_be_there = member next then (at_flip p o u) j y law.stands (let count = length-set h.workers k (turned x reply) in omega (arith, count, inside)) keeps

    -- nobody else flips
    at_mark : (pages : ℕ) (f : Flipping) → u ≡ Marks pages → y.stage ≡ Flips f → HasNextSize h.pages later y
    at_mark pages f e staged =
        let once = subst (FlipsWhereTold h.pages h.words later x) e law.flips in
        let was = flips_now h p o st j y was_there f staged in
        let now = flips_now next then (at_flip p o u) law.stands j y will_be_there f staged in
        let before = of_now h p o st in
        let behind = of_now next then (at_flip p o u) law.stands in
        absurd (omega (arith, once.epoch, once.next, was, now, before, behind))

    by_reset : (f : Flipping) → y.stage ≡ Flips f → ((pages : ℕ) → u ≢ Marks pages) → (r : Option resets.Reset) → reset_of f.stage ≡ r → HasNextSize h.pages later y
    by_reset f staged unmarked None none = subst (HasFoundAt (size_next h.pages later y)) (sym staged) (subst (HasFound (size_next h.pages later y)) (sym none) tt)
    by_reset f staged unmarked (Some r) has = still_next unmarked j y y was_there will_be_there f f staged staged r has has refl own

    by_told : (t : Told) → u ≡ t → (f : Flipping) → y.stage ≡ Flips f → HasNextSize h.pages later y
    by_told (Marks pages) e f staged = at_mark pages f e staged
    by_told _ e f staged = by_reset f staged (λ pages marks. let a = sym e ∙ marks in cc) (reset_of f.stage) refl

    other_by : (stage : Stage) → y.stage ≡ stage → HasNextSize h.pages later y
    other_by (Flips f) staged = by_told u refl f staged
    other_by stage staged = subst (HasFoundAt (size_next h.pages later y)) (sym staged) tt

    other_next : HasNextSize h.pages later (held_at next j)
    other_next = subst (HasNextSize h.pages later) (sym keeps) (other_by y.stage refl)

  pub next_sizes : HaveNextSizes h → HaveNextSizes next
  next_sizes all j inside =
      let there_before : j < length h.workers = (let count = length-set h.workers k (turned x reply) in omega (arith, count, inside)) in
      ⊎_elim
      (λ (same : j ≡ k). subst (λ (i : ℕ). HasNextSize h.pages later (held_at next i)) (sym same)
      (subst (HasNextSize h.pages later) (sym (get_or-set_same h.workers k (turned x reply) nobody l)) (own_next (subst (HasNextSize h.pages h.words) holds (all k l)) x.stage refl)))
      (λ (other : j ≢ k). other_next j there_before other (all j there_before))
      (cases_eq j k)

pub next_sizes_stay : NextSizesStay
next_sizes_stay h p o k x q st l holds asked all = next_sizes h p o k x q st l holds asked all

pub flips_set_sizes : FlipsSetSizes
flips_set_sizes h p o k x q pages st l holds asked own tells =
    let sets = flip_sets h p o k x q st l holds asked pages tells in
    let next = size_next h.pages h.words x in
    sets.4 ∙ subst (HasFound next) (ap reset_of sets.3) (subst (HasFoundAt next) sets.2 own)

-- ---- a worker that becomes another without a step

pub next_sizes_with : (h : Heap) (x : Held) (k : ℕ) → k < length h.workers → HasNextSize h.pages h.words x → HaveNextSizes h → HaveNextSizes (with_worker h k x)
next_sizes_with h x k l own all j inside = ⊎_elim
    (λ (same : j ≡ k). subst (λ (i : ℕ). HasNextSize h.pages h.words (held_at (with_worker h k x) i)) (sym same) (subst (HasNextSize h.pages h.words) (sym (get_or-set_same h.workers k x nobody l)) own))
    (λ (other : j ≢ k). subst (HasNextSize h.pages h.words) (sym (get_or-set_other h.workers k j x nobody other)) (all j (let count = length-set h.workers k x in omega (arith, count, inside))))
    (cases_eq j k)

-- ---- the opening

pub next_sizes_begin : NextSizesBegin
next_sizes_begin prints s least mutators scanners k below =
    let inside : k < mutators + scanners = (let e = many prints s mutators 0 (mutators + scanners) in omega (arith, below, e)) in
    let size = size_next s.pages (opening_words s least) in
    subst (λ (z : Held). HasFoundAt (size z) z.stage) (sym (is_there prints s mutators 0 (mutators + scanners) k k inside (omega arith))) (by_side (nat_lt k mutators))
  where
    by_side : (b : Bool) → HasNextSize s.pages (opening_words s least) (cond b (fresh_mutator prints s mutators k) (fresh_scanner prints s mutators k))
    by_side true = tt
    by_side false = tt
