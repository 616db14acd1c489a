-- Within an epoch the pages in use of its space stay; the space that is flipped into has as many, or twice as many, as far as there are so many.
-- The other space gets no size but one that is no smaller.
use Rattle.std.proofs.Common.{◌≡◌, ◌≢◌, ℕ, Bool, false, ◌+◌, ◌*◌, ◌<◌, ◌≤◌, ◌⊎◌, true, inl, inr, min, List, length, Option, Some, None, refl, ap, sym, subst, ◌∙◌, arith}
use Rattle.std.specs.Prelude.{option_map}
use Rattle.std.proofs.lemmas.Option.{same_Some}
use Rattle.plain_state.specs.State.{Plain}
use Rattle.atom_store.specs.declared.reply.Reply.{Reply}
use Rattle.atom_store.specs.declared.step.Step.{Step}
use Rattle.atom_store.specs.declared.step.Step.TheVariants.{Store}
use Rattle.atom_store.specs.Step.{words_after, reply_of}
use Rattle.atom_store.specs.StepOn.{StepOn, WritesOnly, step_at}
use Rattle.space_map.specs.Spaces.{to_space}
use Rattle.space_map.specs.Table.{Row, Size, place_of}
use Rattle.space_map.specs.WholeTable.{WholeRow, whole_place_of}
use Rattle.alloc_end.specs.declared.place_stage.PlaceStage.{PlaceStage}
use Rattle.alloc_end.specs.declared.place_stage.PlaceStage.TheVariants.{ExchangesArea}
use Rattle.alloc_end.specs.Place.{Placing}
use Rattle.alloc_end.specs.Place as place
use Rattle.fault_duty.specs.Duty as duty
use Rattle.fault_duty.proofs.RoundRows as duty_rows
use Rattle.forwarding.specs.declared.evac_stage.EvacStage.{EvacStage}
use Rattle.forwarding.specs.declared.evac_stage.EvacStage.TheVariants.{Reserves}
use Rattle.forwarding.specs.Evacuation.{Evacuation}
use Rattle.forwarding.specs.Evacuation as evac
use Rattle.gate_core.specs.declared.flip_stage.FlipStage.{FlipStage}
use Rattle.gate_core.specs.declared.flip_stage.FlipStage.TheVariants as flip_stage
use Rattle.gate_core.specs.declared.reset.Reset as resets
use Rattle.gate_core.specs.Flip.{Flipping, next_size}
use Rattle.gate_core.specs.Flip as flip
use Rattle.page_slots.specs.Open as open_page
use Rattle.page_slots.proofs.ClaimRows.{opening_writes}
use Rattle.heap_state.specs.Configuration.{Configuration, era, memory}
use Rattle.heap_state.specs.Invariant.Parts.Knowledge.{Resets}
use Rattle.heap_state.specs.Memory.Era.{from_space}
use Rattle.heap_state.specs.Memory.Table.{word_in}
use Rattle.heap_state.specs.Known.{Reset, Known}
use Rattle.heap_state.proofs.Puts.{some_same}
use Rattle.heap_state.proofs.Table.StoredRows.{word_in-other, word_in-same}
use Rattle.gc_worker.specs.Laws.Cycles.{SeenFlipsDouble, SizeGoes, SizesAreWithin, SizesHold, SizesHoldAt, SizesStay, size_of}
use Rattle.gc_worker.specs.Laws.Growth.{Grows}
use Rattle.gc_worker.specs.declared.stage.Stage.{Stage}
use Rattle.gc_worker.specs.declared.stage.Stage.TheVariants.{Flips, Places, Serves, Opens}
use Rattle.gc_worker.specs.Steps.Goes.{Is}
use Rattle.gc_worker.specs.Workers.Held.{Held, at_stage, has_seen_flip}
use Rattle.gc_worker.specs.Laws.Step.{Heap, FlipsOnce, FlipsWhereTold, WorkersStand, read, held_at, epoch_of}
use Rattle.gc_worker.specs.Steps.Turned.{Told, Marks, told, told_at, told_flip}
use Rattle.gc_worker.specs.Steps.Wanted.{wanted, wanted_at}
use Rattle.gc_worker.proofs.Words.Areas.{is_space}
use Rattle.gc_worker.proofs.Words.Eras.{old_span_is, span_is}
use Rattle.gc_worker.proofs.Words.GrownSizes.{next_grows, size_now, size_within}
use Rattle.gc_worker.proofs.Words.WorkerRows.{OfCopy, OnRow, WritesSuch, writes_such}
use Rattle.gc_worker.proofs.Between.Pages.Claims.{flips_at}
use Rattle.gc_worker.proofs.Between.Pages.Written.{Elsewhere, IsNoSize, whole_size_stays}
use Rattle.gc_worker.proofs.Cycles.Lows.{exchanges_at, of_now, size_beside}
use Rattle.gc_worker.proofs.Workers.Members.{member}
use Rattle.gc_worker.proofs.StepKeeps.{steps_keep}

module _ (h : Heap) (p o : Plain) (k : ℕ) (x : Held) (st : WorkersStand h p o) where
  abbrev c : Configuration
  c = read h

  abbrev n : ℕ
  n = h.pages

  abbrev words : List ℕ
  words = h.words

  abbrev here : ℕ
  here = to_space (epoch_of n words)

  abbrev other : ℕ
  other = to_space (epoch_of n words + 1)

  -- ---- the store of the other space's size

  module _ (f : Flipping) (r : resets.Reset) (is : Is c k (at_stage x (Flips (record f { stage = flip_stage.StoresSize r })))) where
    flips_now : f.epoch ≡ epoch_of n words
    flips_now =
        let t = (st.stands.invariant.workers k is.below).timely in
        is.fits.stage.epoch ∙ (sym (ap (λ (w : Known). w.epoch) is.as_known) ∙ (t.asking (rw is.as_known refl) ∙ of_now h p o k x st))

    apart : here ≢ to_space (f.epoch + 1)
    apart same = let e = flips_now in omega (arith, e, same)

    abbrev stores : (m space : ℕ) → Step
    stores m space = Store (place_of m (Size space)) r.next

    pages : f.layout.pages ≡ n
    pages = ap (λ l. l.pages) is.fits.stage.layout ∙ is.fits.pages

    pub stores_beside : word_in n (words_after (stores f.layout.pages (to_space (f.epoch + 1))) words) (Size here) ≡ word_in n words (Size here)
    stores_beside =
        subst (λ (m : ℕ). word_in n (words_after (stores m (to_space (f.epoch + 1))) words) (Size here) ≡ word_in n words (Size here)) (sym pages)
        (word_in-other n words (Size (to_space (f.epoch + 1))) r.next (is_space (f.epoch + 1)) (Size here) (λ (same : Size here ≡ Size (to_space (f.epoch + 1))). apart (let e = same in cc)))

    -- the size that is stored is no smaller than the one in use
    stored_grows : size_of n words ≤ r.next
    stored_grows =
        let found : Reset = record { read = r.gate; size = Some r.size; grown = Some r.next; used = Some r.used; sized = false; stored = false; cleared = false } in
        let grown = ((st.stands.invariant.workers k is.below).reset found (ap (λ (w : Known). w.reset) is.as_known)).grown r.next refl in
        let span = span_is c in
        let now : size_of n words ≡ size_now c (to_space (era c).epoch) = ap (λ (e : ℕ). size_now c (to_space e)) (sym (of_now h p o k x st)) in
        omega (arith, grown, span, now)

    abbrev NoSmaller : Step → Type 0
    NoSmaller q = size_of n words ≤ word_in n (words_after q words) (Size other)

    pub stores_no_smaller : NoSmaller (stores f.layout.pages (to_space (f.epoch + 1)))
    stores_no_smaller =
        let in_table = ap (λ (m : ℕ). stores m other) (sym pages) in
        let after_flip = ap (λ (e : ℕ). stores f.layout.pages (to_space (e + 1))) (sym flips_now) in
        let same : word_in n (words_after (stores n other) words) (Size other) ≡ r.next = word_in-same n words (Size other) r.next (is_space (epoch_of n words + 1)) st.stands.formed.whole in
        let grows = stored_grows in
        subst NoSmaller (in_table ∙ after_flip) (omega (arith, same, grows))

  -- ---- what a step leaves of the size of a space: what it was, unless it stores one

  module _ (space : ℕ) (small : space < 2) (Left : ℕ → Type 0) (same : Left (word_in n words (Size space)))
      (stored : (f : Flipping) (r : resets.Reset) → Is c k (at_stage x (Flips (record f { stage = flip_stage.StoresSize r }))) → Left (word_in n (words_after (Store (place_of f.layout.pages (Size (to_space (f.epoch + 1)))) r.next) words) (Size space))) where
    abbrev Leaves : Step → Type 0
    Leaves q = Left (word_in n (words_after q words) (Size space))

    beside : (m : ℕ) (o : Option (StepOn Row)) (q : Step) → WritesOnly IsNoSize o → option_map (step_at (place_of m)) o ≡ Some q → Leaves q
    beside m o q writes asked = subst Left (sym (size_beside n words space small m o q writes asked)) same

    -- the same of a step on the whole table
    beside_whole : (m : ℕ) (o : Option (StepOn WholeRow)) (q : Step) → WritesOnly (Elsewhere IsNoSize) o → option_map (step_at (whole_place_of m)) o ≡ Some q → Leaves q
    beside_whole m None q writes asked = absurd (cc)
    beside_whole m (Some on) q writes asked = subst Leaves (same_Some (step_at (whole_place_of m) on) q asked) (subst Left (sym (whole_size_stays n m words on space small writes)) same)

    -- ---- the machines

    copies : (v : Evacuation) (stage : EvacStage) (q : Step) → evac.wanted_at v.layout v.addr v.epoch v.worker stage ≡ Some q → Leaves q
    copies v (Reserves kept area) q asked = beside v.layout.pages (evac.wants_at v.layout v.addr v.epoch v.worker (Reserves kept area)) q (is_space v.epoch) asked
    copies v stage q asked = beside v.layout.pages (evac.wants_at v.layout v.addr v.epoch v.worker stage) q tt asked

    places : (z : Placing) (stage : PlaceStage) (q : Step) → Is c k (at_stage x (Places (record z { stage = stage }))) → place.wanted_at z stage ≡ Some q → Leaves q
    places z (ExchangesArea f) q is asked = beside_whole z.layout.pages (place.wants_at z (ExchangesArea f)) q (is_space z.epoch) asked
    places z stage q is asked = beside_whole z.layout.pages (place.wants_at z stage) q tt asked

    flips : (f : Flipping) (stage : FlipStage) (q : Step) → Is c k (at_stage x (Flips (record f { stage = stage }))) → flip.wanted_at f stage ≡ Some q → Leaves q
    flips f (flip_stage.StoresSize r) q is asked = subst Leaves (same_Some _ q asked) (stored f r is)
    flips f (flip_stage.StoresArea r) q is asked = beside f.layout.pages (flip.wants_at f (flip_stage.StoresArea r)) q (is_space (f.epoch + 1)) asked
    flips f stage q is asked = beside f.layout.pages (flip.wants_at f stage) q tt asked

    -- ---- each stage

    other_machines : (stage : Stage) (q : Step) → WritesSuch IsNoSize (at_stage x stage) (wanted_at x stage) → wanted_at x stage ≡ Some q → Leaves q
    other_machines stage q (OnRow on writes same) asked = beside_whole x.layout.pages on q writes (sym same ∙ asked)
    other_machines stage q (OfCopy e v copy same) asked = copies v v.stage q (sym same ∙ asked)

    by_stage : (stage : Stage) (q : Step) → Is c k (at_stage x stage) → wanted_at x stage ≡ Some q → Leaves q
    by_stage (Flips f) q is asked = flips f f.stage q is asked
    by_stage (Places z) q is asked = places z z.stage q is asked
    by_stage (Serves d back) q is asked =
        beside d.layout.pages (duty.wants_at d d.stage) q (duty_rows.writes IsNoSize tt tt (λ page. tt) (λ addr. tt) d d.stage) (sym (duty_rows.by_rows d d.stage is.fits.stage.0.sound.stage) ∙ asked)
    by_stage (Opens s z back) q is asked = beside s.layout.pages (open_page.wants_at s s.stage) q (opening_writes IsNoSize (λ page. tt) s s.stage) asked
    by_stage stage q is asked = other_machines stage q (writes_such IsNoSize tt tt tt (λ addr. tt) (at_stage x stage) stage tt is.fits.stage) asked

  this_stays : (q : Step) → Is c k x → wanted x ≡ Some q → word_in n (words_after q words) (Size here) ≡ word_in n words (Size here)
  this_stays q is asked = by_stage here (is_space (epoch_of n words)) (λ (size : ℕ). size ≡ word_in n words (Size here)) refl stores_beside x.stage q is asked

  abbrev OtherIs : ℕ → Type 0
  OtherIs size = (size ≡ word_in n words (Size other)) ⊎ (size_of n words ≤ size)

  other_holds : (q : Step) → Is c k x → wanted x ≡ Some q → OtherIs (word_in n (words_after q words) (Size other))
  other_holds q is asked = by_stage other (is_space (epoch_of n words + 1)) OtherIs (inl refl) (λ f r there. inr (stores_no_smaller f r there)) x.stage q is asked

  -- ---- a flip

  -- the size that a flip has found follows from this space's by the rule, whatever was copied
  abbrev FollowsFrom : (f : Flipping) (size next : ℕ) → Type 0
  FollowsFrom f size next = (copied : ℕ) × (next ≡ next_size n f.seen size copied)

  module _ (f : Flipping) (r : resets.Reset) (is : Is c k (at_stage x (Flips (record f { stage = flip_stage.Exchanges r })))) where
    abbrev found : Reset
    found = record { read = r.gate; size = Some r.size; grown = Some r.next; used = Some r.used; sized = true; stored = true; cleared = true }

    reset : Resets (era c) (memory c).gate (memory c).front (memory c).low (memory c).old_front (memory c).old_low (memory c).old_owed found
    reset = (st.stands.invariant.workers k is.below).reset found (ap (λ (w : Known). w.reset) is.as_known)

    -- the other space has it
    pub other_is_next : size_now c (from_space (era c).epoch) ≡ r.next
    other_is_next =
        let sized = reset.sized refl in
        let next : r.next ≡ sized.0 = some_same sized.1 in
        let old_span = old_span_is c in
        omega (arith, old_span, sized.2, next)

    pub next_follows : FollowsFrom f (size_now c (to_space (era c).epoch)) r.next
    next_follows =
        let size = reset.size r.size refl in
        let span = span_is c in
        let fits = is.fits.stage.sound.stage in
        let pages : f.layout.pages ≡ n = ap (λ l. l.pages) is.fits.stage.layout ∙ is.fits.pages in
        let here : size_now c (to_space (era c).epoch) ≡ r.size = omega (arith, span, size) in
        (fits.copied, rw (here, ← pages) fits.next)

-- ---- by what is told

module _ (h : Heap) (p o : Plain) (k : ℕ) (x : Held) (q : Step) (st : WorkersStand h p o) (l : k < length h.workers) (holds : held_at h k ≡ x) (asked : wanted x ≡ Some q) where
  abbrev later : List ℕ
  later = words_after q h.words

  abbrev reply : Reply
  reply = reply_of q h.words

  there : Is (read h) k x
  there = member h p o k x st l holds

  same_epoch : epoch_of h.pages later ≡ epoch_of h.pages h.words → size_of h.pages later ≡ size_of h.pages h.words
  same_epoch same = subst (λ (e : ℕ). word_in h.pages later (Size (to_space e)) ≡ size_of h.pages h.words) (sym same) (this_stays h p o k x st q there asked)

  pub both_hold : SizesHoldAt h.pages h.words later (to_space (epoch_of h.pages h.words)) (to_space (epoch_of h.pages h.words + 1))
  both_hold = record { in_use = this_stays h p o k x st q there asked; beside = other_holds h p o k x st q there asked }

  -- the next size follows from this one, by whether the flipper has seen a flip
  abbrev Follows : Type 0
  Follows = (copied : ℕ) × (size_of h.pages later ≡ next_size h.pages (has_seen_flip x) (size_of h.pages h.words) copied)

  -- the gate's word is written, and no size
  at_exchange : (f : Flipping) (r : resets.Reset) → x.stage ≡ Flips f → f.stage ≡ flip_stage.Exchanges r → epoch_of h.pages h.words ≡ x.epoch → epoch_of h.pages later ≡ x.epoch + 1
      → (size_of h.pages later ≡ r.next) × Follows
  at_exchange f r staged flips was next =
      let own : x ≡ at_stage x (Flips (record f { stage = flip_stage.Exchanges r })) = ap (at_stage x) (staged ∙ ap (λ (s : FlipStage). Flips (record f { stage = s })) flips) in
      let is = subst (Is (read h) k) own there in
      let e = (era (read h)).epoch in
      let now : e ≡ epoch_of h.pages h.words = of_now h p o k x st in
      let space : to_space (epoch_of h.pages later) ≡ from_space e = ap to_space (next ∙ ap (λ (e : ℕ). e + 1) (sym was ∙ sym now)) in
      let sized = size_beside h.pages h.words (from_space e) (is_space (e + 1)) f.layout.pages (flip.wants_at f (flip_stage.Exchanges r)) q tt (sym (ap wanted own) ∙ asked) in
      let is_now : size_of h.pages h.words ≡ size_now (read h) (to_space e) = ap (λ (e : ℕ). size_now (read h) (to_space e)) (sym now) in
      let is_next = ap (λ (s : ℕ). word_in h.pages later (Size s)) space ∙ (sized ∙ other_is_next h p o k x st f r is) in
      let follows = next_follows h p o k x st f r is in
      let seen = ap (λ (b : Bool). next_size h.pages b (size_now (read h) (to_space e)) follows.0) is.fits.stage.seen in
      let from = ap (λ (size : ℕ). next_size h.pages (has_seen_flip x) size follows.0) (sym is_now) in
      (is_next, (follows.0, is_next ∙ (follows.1 ∙ (seen ∙ from))))

  -- the exchange of a flip, after which as many pages are in use as it has found
  at_flip : (pages : ℕ) → told x reply ≡ Marks pages → FlipsOnce h.pages h.words later x pages
      → (f : Flipping) × (r : resets.Reset) × (x.stage ≡ Flips f) × (f.stage ≡ flip_stage.Exchanges r) × (size_of h.pages later ≡ r.next) × Follows
  at_flip pages e flips =
      let f = flips_at x reply pages x.stage e in
      let wants : flip.wanted f.0 ≡ Some q = sym (ap (wanted_at x) f.1) ∙ asked in
      let tells : told_flip (flip.told (flip.taken f.0 reply)) ≡ Marks pages = sym (ap (λ (s : Stage). told_at x s reply) f.1) ∙ e in
      let r = exchanges_at f.0 f.0.stage q reply pages wants tells in
      let sets = at_exchange f.0 r.0 f.1 r.1 flips.epoch flips.next in
      (f.0, r.0, f.1, r.1, sets.0, sets.1)

  grows : Follows → Grows h.pages (size_of h.pages h.words) (size_of h.pages later)
  grows follows = subst (Grows h.pages (size_of h.pages h.words)) (sym follows.1) (next_grows h.pages (has_seen_flip x) (size_of h.pages h.words) follows.0)

  by_told : (t : Told) → told x reply ≡ t → FlipsWhereTold h.pages h.words later x t → SizeGoes h.pages h.words later t
  by_told (Marks pages) e flips = grows (at_flip pages e flips).5
  by_told _ e flips = same_epoch flips.epoch

  flips_told : FlipsWhereTold h.pages h.words later x (told x reply)
  flips_told = (steps_keep h p o k x q st l holds asked).flips

  pub size_goes : SizeGoes h.pages h.words later (told x reply)
  size_goes = by_told (told x reply) refl flips_told

  pub flip_sets : (pages : ℕ) → told x reply ≡ Marks pages
      → (f : Flipping) × (r : resets.Reset) × (x.stage ≡ Flips f) × (f.stage ≡ flip_stage.Exchanges r) × (size_of h.pages later ≡ r.next) × Follows
  flip_sets pages e = at_flip pages e (subst (FlipsWhereTold h.pages h.words later x) e flips_told)

  pub doubles : (pages : ℕ) → told x reply ≡ Marks pages → has_seen_flip x ≡ true → size_of h.pages later ≡ min h.pages (2 * size_of h.pages h.words)
  doubles pages e seen = let follows = (flip_sets pages e).5 in follows.1 ∙ ap (λ (b : Bool). next_size h.pages b (size_of h.pages h.words) follows.0) seen

pub sizes_stay : SizesStay
sizes_stay h p o k x q st l holds asked = size_goes h p o k x q st l holds asked

pub seen_flips_double : SeenFlipsDouble
seen_flips_double h p o k x q pages st l holds asked e seen = doubles h p o k x q st l holds asked pages e seen

pub sizes_hold : SizesHold
sizes_hold h p o k x q st l holds asked = both_hold h p o k x q st l holds asked

pub sizes_are_within : SizesAreWithin
sizes_are_within h p o st = size_within (read h) p st.stands (to_space (epoch_of h.pages h.words)) (is_space (epoch_of h.pages h.words))
