-- Within an epoch LOW falls by the words that allocations claim, and by these alone; a flip sets it to the end of the space.
use Rattle.std.proofs.Common.{◌≡◌, ◌≢◌, ℕ, ◌+◌, ◌*◌, ◌<◌, ◌≤◌, ◌==◌, Bool, true, false, cond, List, length, slice_index, set, Option, Some, None, refl, ap, sym, subst, ◌∙◌, arith, ⊎_elim}
use Rattle.std.specs.Prelude.{option_map}
use Rattle.std.proofs.lemmas.Bool.{cases_eq, eqb-true}
use Rattle.std.proofs.lemmas.Option.{same_Some}
use Rattle.plain_state.specs.State.{Plain}
use Rattle.atom_store.specs.declared.reply.Reply.{Reply}
use Rattle.atom_store.specs.declared.reply.Reply.TheVariants as replies
use Rattle.atom_store.specs.declared.step.Step.{Step}
use Rattle.atom_store.specs.declared.step.Step.TheVariants.{Store, Exchange}
use Rattle.atom_store.specs.Step.{words_after, reply_of}
use Rattle.atom_store.specs.StepOn.{StepOn, WritesOnly, step_at}
use Rattle.space_map.specs.declared.area_word.AreaWord.{AreaWord}
use Rattle.space_map.specs.declared.gate_word.GateWord.{GateWord}
use Rattle.space_map.specs.declared.spaces.TheConstants.{PAGE_WORDS}
use Rattle.space_map.specs.AreaWord.{AreaFits, decode_area, encode_area}
use Rattle.space_map.specs.GateWord.{decode_gate}
use Rattle.space_map.specs.Spaces.{to_space}
use Rattle.space_map.specs.Table.{Row, Area, Size, place_of, table_length}
use Rattle.space_map.specs.WholeTable.{WholeRow, whole_place_of}
use Rattle.space_map.proofs.AreaWords.{decode_area-encode_area}
use Rattle.alloc_end.specs.declared.fitting.Fitting.{Fitting}
use Rattle.alloc_end.specs.declared.place_stage.PlaceStage.{PlaceStage}
use Rattle.alloc_end.specs.declared.place_stage.PlaceStage.TheVariants.{ExchangesArea}
use Rattle.alloc_end.specs.Place.{Placing, words_for, kept_room, area_after}
use Rattle.alloc_end.specs.Place as place
use Rattle.alloc_end.specs.Soundness.{AreaHoldsClaim}
use Rattle.fault_duty.specs.Duty as duty
use Rattle.fault_duty.proofs.RoundRows as duty_rows
use Rattle.forwarding.specs.declared.evac_stage.EvacStage.{EvacStage}
use Rattle.forwarding.specs.declared.evac_stage.EvacStage.TheVariants.{Reserves}
use Rattle.forwarding.specs.Evacuation.{Evacuation, area_past, size_of}
use Rattle.forwarding.specs.Evacuation as evac
use Rattle.forwarding.specs.Soundness as evac_sound
use Rattle.gate_core.specs.declared.flip_stage.FlipStage.{FlipStage}
use Rattle.gate_core.specs.declared.flip_stage.FlipStage.TheVariants as flip_stage
use Rattle.gate_core.specs.declared.flipped.Flipped.TheVariants as flipped
use Rattle.gate_core.specs.declared.reset.Reset as resets
use Rattle.gate_core.specs.Flip.{Flipping, area_reset}
use Rattle.gate_core.specs.Flip as flip
use Rattle.page_slots.specs.Open as open_page
use Rattle.page_slots.proofs.ClaimRows.{opening_writes}
use Rattle.heap_state.specs.Configuration.{Configuration, table, era}
use Rattle.heap_state.specs.Memory.Era.{from_space}
use Rattle.heap_state.specs.Memory.Table.{word_in}
use Rattle.heap_state.specs.Known.{Reset, Known}
use Rattle.heap_state.proofs.Table.StoredRows.{word_in-row, word_in-same, word_in-other}
use Rattle.gc_worker.specs.Laws.Cycles.{words_claimed, claimed_at, claimed_by_placing, low_said, low_at, low_of, size_of as size_in_use, LowGoes, LowFallsByClaims}
use Rattle.gc_worker.specs.declared.stage.Stage.{Stage}
use Rattle.gc_worker.specs.declared.stage.Stage.TheVariants.{Flips, Places, Serves, Opens}
use Rattle.gc_worker.specs.Steps.Goes.{Is}
use Rattle.gc_worker.specs.Workers.Held.{Held, at_stage}
use Rattle.gc_worker.specs.Laws.Step.{Heap, FlipsWhereTold, WorkersStand, read, held_at, epoch_of}
use Rattle.gc_worker.specs.Steps.Turned.{Told, Marks, epoch_in_gate, told, told_at, told_flip}
use Rattle.gc_worker.specs.Steps.Wanted.{wanted, wanted_at}
use Rattle.gc_worker.proofs.Words.Areas.{area_says, is_space}
use Rattle.gc_worker.proofs.Between.Pages.Claims.{NoMark, flips_at}
use Rattle.gc_worker.proofs.Between.Pages.Written.{Elsewhere, IsNoArea, IsNoSize, area_stays, size_stays, whole_area_stays}
use Rattle.gc_worker.proofs.Words.Eras.{old_span_is}
use Rattle.gc_worker.proofs.Words.GrownSizes.{size_now}
use Rattle.gc_worker.proofs.Words.WorkerRows.{OfCopy, OnRow, WritesSuch, writes_such}
use Rattle.gc_worker.proofs.Stages.Gate.GateWords.{gate_says}
use Rattle.gc_worker.proofs.Workers.Members.{member}
use Rattle.gc_worker.proofs.StepKeeps.{steps_keep}

-- ---- one area word

-- LOW of an area that the word says
says_low : (word : ℕ) (area : AreaWord) → AreaFits area → word ≡ encode_area area → low_said (decode_area word) ≡ area.low
says_low word area fits same = ap (λ (w : ℕ). low_said (decode_area w)) same ∙ ap low_said (decode_area-encode_area area fits)

module _ (n : ℕ) (words : List ℕ) (whole : table_length n ≤ length words) (space : ℕ) (small : space < 2) where
  abbrev place_here : ℕ
  place_here = place_of n (Area space)

  -- of the word that is stored
  stored_low : (area : AreaWord) → AreaFits area → low_at n (set words place_here (encode_area area)) space ≡ area.low
  stored_low area fits = says_low (word_in n (set words place_here (encode_area area)) (Area space)) area fits (word_in-same n words (Area space) (encode_area area) small whole)

  -- of the word that was exchanged
  old_low : (area : AreaWord) → AreaFits area → (slice_index words place_here == encode_area area) ≡ true → low_at n words space ≡ area.low
  old_low area fits test = says_low (word_in n words (Area space)) area fits (word_in-row n words (Area space) small ∙ eqb-true (slice_index words place_here) (encode_area area) test)

  -- of the other space
  other_low : (other word : ℕ) → other ≢ space → other < 2 → low_at n (set words place_here word) other ≡ low_at n words other
  other_low other word apart there =
      ap (λ (w : ℕ). low_said (decode_area w)) (word_in-other n words (Area space) word small (Area other) (λ (same : Area other ≡ Area space). apart (let e = same in cc)))

  -- an exchange that leaves LOW where it is
  module _ (old new : AreaWord) (old_fits : AreaFits old) (new_fits : AreaFits new) (same : new.low ≡ old.low) (at : ℕ) (there : at < 2) where
    abbrev After : Bool → Type 0
    After b = low_at n (cond b (set words place_here (encode_area new)) words) at ≡ low_at n words at

    won : (slice_index words place_here == encode_area old) ≡ true → After true
    won test = ⊎_elim
        (λ (e : at ≡ space). subst (λ (s : ℕ). low_at n (set words place_here (encode_area new)) s ≡ low_at n words s) (sym e) (stored_low new new_fits ∙ (same ∙ sym (old_low old old_fits test))))
        (λ (d : at ≢ space). other_low at (encode_area new) d there)
        (cases_eq at space)

    by_test : (b : Bool) → (slice_index words place_here == encode_area old) ≡ b → After b
    by_test true test = won test
    by_test false test = refl

    pub low_stays : low_at n (words_after (Exchange place_here (encode_area old) (encode_area new)) words) at ≡ low_at n words at
    low_stays = by_test (slice_index words place_here == encode_area old) refl

-- LOW stays at a step that writes no area
beside : (n : ℕ) (words : List ℕ) (space m : ℕ) (o : Option (StepOn Row)) (q : Step) → WritesOnly IsNoArea o → option_map (step_at (place_of m)) o ≡ Some q → low_at n (words_after q words) space ≡ low_at n words space
beside n words space m None q writes asked = absurd (cc)
beside n words space m (Some on) q writes asked =
    subst (λ (z : Step). low_at n (words_after z words) space ≡ low_at n words space) (same_Some (step_at (place_of m) on) q asked)
    (ap (λ (w : ℕ). low_said (decode_area w)) (area_stays n m words on space writes))

-- the same of a step on the whole table
beside_whole : (n : ℕ) (words : List ℕ) (space m : ℕ) (o : Option (StepOn WholeRow)) (q : Step) → WritesOnly (Elsewhere IsNoArea) o → option_map (step_at (whole_place_of m)) o ≡ Some q
    → low_at n (words_after q words) space ≡ low_at n words space
beside_whole n words space m None q writes asked = absurd (cc)
beside_whole n words space m (Some on) q writes asked =
    subst (λ (z : Step). low_at n (words_after z words) space ≡ low_at n words space) (same_Some (step_at (whole_place_of m) on) q asked)
    (ap (λ (w : ℕ). low_said (decode_area w)) (whole_area_stays n m words on space writes))

-- the size of a space stays at a step that writes no size
pub size_beside : (n : ℕ) (words : List ℕ) (space : ℕ) → space < 2 → (m : ℕ) (o : Option (StepOn Row)) (q : Step) → WritesOnly IsNoSize o → option_map (step_at (place_of m)) o ≡ Some q
    → word_in n (words_after q words) (Size space) ≡ word_in n words (Size space)
size_beside n words space small m None q writes asked = absurd (cc)
size_beside n words space small m (Some on) q writes asked =
    subst (λ (z : Step). word_in n (words_after z words) (Size space) ≡ word_in n words (Size space)) (same_Some (step_at (place_of m) on) q asked)
    (size_stays n m words on space small writes)

-- ---- the step of a worker

module _ (h : Heap) (p o : Plain) (k : ℕ) (x : Held) (st : WorkersStand h p o) where
  abbrev c : Configuration
  c = read h

  abbrev n : ℕ
  n = h.pages

  abbrev words : List ℕ
  words = h.words

  abbrev here : ℕ
  here = to_space (epoch_of n words)

  small_here : here < 2
  small_here = is_space (epoch_of n words)

  whole : table_length n ≤ length words
  whole = st.stands.formed.whole

  pub of_now : (era c).epoch ≡ epoch_of n words
  of_now = sym (ap (epoch_in_gate 0) (gate_says c p st.stands))

  -- within the epoch
  abbrev Lows : Stage → Step → Type 0
  Lows stage q = low_at n (words_after q words) here + claimed_at stage (reply_of q words) ≡ low_at n words here

  stays : (stage : Stage) (q : Step) → claimed_at stage (reply_of q words) ≡ 0 → low_at n (words_after q words) here ≡ low_at n words here → Lows stage q
  stays stage q none same = omega (arith, none, same)

  quiet : (stage : Stage) (q : Step) (m : ℕ) (o : Option (StepOn Row)) → claimed_at stage (reply_of q words) ≡ 0 → WritesOnly IsNoArea o → option_map (step_at (place_of m)) o ≡ Some q → Lows stage q
  quiet stage q m o none writes asked = stays stage q none (beside n words here m o q writes asked)

  -- the same of a step on the whole table
  quiet_on_whole : (stage : Stage) (q : Step) (m : ℕ) (o : Option (StepOn WholeRow)) → claimed_at stage (reply_of q words) ≡ 0 → WritesOnly (Elsewhere IsNoArea) o
      → option_map (step_at (whole_place_of m)) o ≡ Some q → Lows stage q
  quiet_on_whole stage q m o none writes asked = stays stage q none (beside_whole n words here m o q writes asked)

  -- ---- a claim for a record

  module _ (z : Placing) (f : Fitting) (is : Is c k (at_stage x (Places (record z { stage = ExchangesArea f })))) where
    abbrev new : AreaWord
    new = area_after (words_for z.header) f

    pages_are : z.layout.pages ≡ n
    pages_are = ap (λ l. l.pages) is.fits.stage.layout ∙ is.fits.pages

    room : AreaHoldsClaim z.layout.pages (words_for z.header) f
    room = is.fits.stage.sound.stage

    of_epoch : to_space z.epoch ≡ here
    of_epoch =
        let t = (st.stands.invariant.workers k is.below).timely in
        ap to_space (is.fits.stage.epoch ∙ (sym (ap (λ (w : Known). w.epoch) is.as_known) ∙ (t.running (rw is.as_known refl) ∙ of_now)))

    old_fits : AreaFits f.area
    old_fits =
        let a = pages_are in let few = is.fits.counted in
        record { front_fits = omega (arith, room.kept, room.in_space, a, few); low_fits = omega (arith, room.in_space, a, few); owed_fits = room.owed }

    kept_fits : (traced : Bool) → kept_room traced f.area ≤ f.area.owed
    kept_fits true = omega arith
    kept_fits false = omega arith

    new_fits : AreaFits new
    new_fits = let k' = kept_fits f.traced in record { front_fits = old_fits.front_fits; low_fits = let l = old_fits.low_fits in omega (arith, l); owed_fits = let o' = old_fits.owed_fits in omega (arith, k', o') }

    abbrev place_now : ℕ
    place_now = place_of n (Area here)

    abbrev Claimed : Bool → Type 0
    Claimed b = low_at n (cond b (set words place_now (encode_area new)) words) here + claimed_by_placing z (ExchangesArea f) (cond b replies.Won (replies.Lost (slice_index words place_now))) ≡ low_at n words here

    by_claim : (b : Bool) → (slice_index words place_now == encode_area f.area) ≡ b → Claimed b
    by_claim true test =
        let was = old_low n words whole here small_here f.area old_fits test in
        let now = stored_low n words whole here small_here new new_fits in
        omega (arith, was, now, room.kept)
    by_claim false test = omega arith

    abbrev claims : ℕ → ℕ → Step
    claims pages space = Exchange (place_of pages (Area space)) (encode_area f.area) (encode_area new)

    as_here : claims z.layout.pages (to_space z.epoch) ≡ claims n here
    as_here = ap (λ (m : ℕ). claims m (to_space z.epoch)) pages_are ∙ ap (claims n) of_epoch

    pub claims_low : Lows (Places (record z { stage = ExchangesArea f })) (claims z.layout.pages (to_space z.epoch))
    claims_low = subst (Lows (Places (record z { stage = ExchangesArea f }))) (sym as_here) (by_claim (slice_index words place_now == encode_area f.area) refl)

  -- ---- the place of a copy

  past_fits : (pages size : ℕ) (area : AreaWord) → evac_sound.AreaHoldsCopy pages size area → AreaFits (area_past size area)
  past_fits pages size area room =
      record { front_fits = omega (arith, room.below_low, room.fits.low_fits); low_fits = room.fits.low_fits; owed_fits = let o' = room.fits.owed_fits in omega (arith, o') }

  copies : (v : Evacuation) (stage : EvacStage) (q : Step) → v.layout.pages ≡ n → evac_sound.FitsStage v.layout.pages v.addr stage → evac.wanted_at v.layout v.addr v.epoch v.worker stage ≡ Some q
      → low_at n (words_after q words) here ≡ low_at n words here
  copies v (Reserves kept area) q pages fits asked =
      let new : AreaWord = area_past (size_of kept) area in
      let moves : ℕ → Step = λ m. Exchange (place_of m (Area (to_space v.epoch))) (encode_area area) (encode_area new) in
      subst (λ (r : Step). low_at n (words_after r words) here ≡ low_at n words here) (same_Some (moves n) q (ap (λ (m : ℕ). Some (moves m)) (sym pages) ∙ asked))
      (low_stays n words whole (to_space v.epoch) (is_space v.epoch) area new fits.1.fits (past_fits v.layout.pages (size_of kept) area fits.1) refl here small_here)
  copies v stage q pages fits asked = beside n words here v.layout.pages (evac.wants_at v.layout v.addr v.epoch v.worker stage) q tt asked

  -- ---- the other space before a flip

  module _ (f : Flipping) (r : resets.Reset) (is : Is c k (at_stage x (Flips (record f { stage = flip_stage.StoresArea r })))) where
    flips_now : f.epoch ≡ epoch_of n words
    flips_now =
        let t = (st.stands.invariant.workers k is.below).timely in
        is.fits.stage.epoch ∙ (sym (ap (λ (w : Known). w.epoch) is.as_known) ∙ (t.asking (rw is.as_known refl) ∙ of_now))

    apart : here ≢ to_space (f.epoch + 1)
    apart same = let e = flips_now in omega (arith, e, same)

    pub resets_other : low_at n (words_after (Store (place_of f.layout.pages (Area (to_space (f.epoch + 1)))) (encode_area (area_reset r.next r.used))) words) here ≡ low_at n words here
    resets_other =
        let pages : f.layout.pages ≡ n = ap (λ l. l.pages) is.fits.stage.layout ∙ is.fits.pages in
        subst (λ (m : ℕ). low_at n (words_after (Store (place_of m (Area (to_space (f.epoch + 1)))) (encode_area (area_reset r.next r.used))) words) here ≡ low_at n words here) (sym pages)
        (other_low n words whole (to_space (f.epoch + 1)) (is_space (f.epoch + 1)) here (encode_area (area_reset r.next r.used)) apart small_here)

  flips : (f : Flipping) (stage : FlipStage) (q : Step) → Is c k (at_stage x (Flips (record f { stage = stage }))) → flip.wanted_at f stage ≡ Some q
      → low_at n (words_after q words) here ≡ low_at n words here
  flips f (flip_stage.StoresArea r) q is asked = subst (λ (r : Step). low_at n (words_after r words) here ≡ low_at n words here) (same_Some _ q asked) (resets_other f r is)
  flips f stage q is asked = beside n words here f.layout.pages (flip.wants_at f stage) q tt asked

  -- ---- each stage

  places : (z : Placing) (stage : PlaceStage) (q : Step) → Is c k (at_stage x (Places (record z { stage = stage }))) → place.wanted_at z stage ≡ Some q → Lows (Places (record z { stage = stage })) q
  places z (ExchangesArea f) q is asked = subst (Lows (Places (record z { stage = ExchangesArea f }))) (same_Some _ q asked) (claims_low z f is)
  places z stage q is asked = quiet_on_whole (Places (record z { stage = stage })) q z.layout.pages (place.wants_at z stage) refl tt asked

  other_machines : (stage : Stage) (q : Step) → claimed_at stage (reply_of q words) ≡ 0 → x.layout.pages ≡ n → WritesSuch IsNoArea (at_stage x stage) (wanted_at x stage) → wanted_at x stage ≡ Some q
      → Lows stage q
  other_machines stage q none pages (OnRow on writes same) asked = quiet_on_whole stage q x.layout.pages on none writes (sym same ∙ asked)
  other_machines stage q none pages (OfCopy e v copy same) asked = stays stage q none (copies v v.stage q (ap (λ l. l.pages) copy.layout ∙ pages) copy.sound.fits (sym same ∙ asked))

  by_stage : (stage : Stage) (q : Step) → Is c k (at_stage x stage) → wanted_at x stage ≡ Some q → Lows stage q
  by_stage (Flips f) q is asked = stays (Flips f) q refl (flips f f.stage q is asked)
  by_stage (Places z) q is asked = places z z.stage q is asked
  by_stage (Serves d back) q is asked =
      quiet (Serves d back) q d.layout.pages (duty.wants_at d d.stage) refl (duty_rows.writes IsNoArea tt tt (λ page. tt) (λ addr. tt) d d.stage) (sym (duty_rows.by_rows d d.stage is.fits.stage.0.sound.stage) ∙ asked)
  by_stage (Opens s z back) q is asked = quiet (Opens s z back) q s.layout.pages (open_page.wants_at s s.stage) refl (opening_writes IsNoArea (λ page. tt) s s.stage) asked
  by_stage stage q is asked = other_machines stage q refl is.fits.pages (writes_such IsNoArea tt tt tt (λ addr. tt) (at_stage x stage) stage tt is.fits.stage) asked

  -- ---- a flip

  module _ (f : Flipping) (r : resets.Reset) (is : Is c k (at_stage x (Flips (record f { stage = flip_stage.Exchanges r })))) where
    -- the other space's area has all the pages in use
    other_is_whole : low_at n words (from_space (era c).epoch) ≡ PAGE_WORDS * size_now c (from_space (era c).epoch)
    other_is_whole =
        let space = from_space (era c).epoch in
        let small = is_space ((era c).epoch + 1) in
        let found : Reset = record { read = r.gate; size = Some r.size; grown = Some r.next; used = Some r.used; sized = true; stored = true; cleared = true } in
        let reset = (st.stands.invariant.workers k is.below).reset found (ap (λ (w : Known). w.reset) is.as_known) in
        let stored = (reset.stored refl).2 in
        let says : low_at n words space ≡ ((table c).area space).low = ap low_said (area_says c p st.stands space small) in
        let span = old_span_is c in
        omega (arith, stored, says, span)

-- what is told of a flip is told of its exchange
looked_unmarked : (word : ℕ) (o : Option GateWord) → NoMark (told_flip (flip.told_at (flip.looked word o)))
looked_unmarked word None = tt
looked_unmarked word (Some gate) = by_test (flip.is_still gate)
  where
    by_test : (b : Bool) → NoMark (told_flip (flip.told_at (cond b (flip_stage.LoadsSize gate) (flip_stage.Ended (flipped.NotYet word)))))
    by_test true = tt
    by_test false = tt

gate_unmarked : (f : Flipping) (reply : Reply) → NoMark (told_flip (flip.told_at (flip.next_stage f flip_stage.LoadsGate reply)))
gate_unmarked f (replies.Value word) = looked_unmarked word (decode_gate word)
gate_unmarked f _ = tt

size_unmarked : (f : Flipping) (gate : GateWord) (reply : Reply) → NoMark (told_flip (flip.told_at (flip.next_stage f (flip_stage.LoadsSize gate) reply)))
size_unmarked f gate (replies.Value _) = tt
size_unmarked f gate _ = tt

read_unmarked : (pages : ℕ) (seen : Bool) (gate : GateWord) (size : ℕ) (o : Option AreaWord) → NoMark (told_flip (flip.told_at (flip.read_area pages seen gate size o)))
read_unmarked pages seen gate size (Some area) = tt
read_unmarked pages seen gate size None = tt

area_unmarked : (f : Flipping) (gate : GateWord) (size : ℕ) (reply : Reply) → NoMark (told_flip (flip.told_at (flip.next_stage f (flip_stage.LoadsArea gate size) reply)))
area_unmarked f gate size (replies.Value word) = read_unmarked f.layout.pages f.seen gate size (decode_area word)
area_unmarked f gate size _ = tt

sizing_unmarked : (f : Flipping) (r : resets.Reset) (reply : Reply) → NoMark (told_flip (flip.told_at (flip.next_stage f (flip_stage.StoresSize r) reply)))
sizing_unmarked f r (replies.Value _) = tt
sizing_unmarked f r _ = tt

store_unmarked : (f : Flipping) (r : resets.Reset) (reply : Reply) → NoMark (told_flip (flip.told_at (flip.next_stage f (flip_stage.StoresArea r) reply)))
store_unmarked f r (replies.Value _) = tt
store_unmarked f r _ = tt

weak_unmarked : (f : Flipping) (r : resets.Reset) (reply : Reply) → NoMark (told_flip (flip.told_at (flip.next_stage f (flip_stage.ResetsWeak r) reply)))
weak_unmarked f r (replies.Value _) = tt
weak_unmarked f r _ = tt

pub exchanges_at : (f : Flipping) (stage : FlipStage) (q : Step) (reply : Reply) (pages : ℕ) → flip.wanted_at f stage ≡ Some q → told_flip (flip.told_at (flip.next_stage f stage reply)) ≡ Marks pages
    → (r : resets.Reset) × (stage ≡ flip_stage.Exchanges r)
exchanges_at f (flip_stage.Exchanges r) q reply pages wants tells = (r, refl)
exchanges_at f (flip_stage.Ended result) q reply pages wants tells = absurd (let e = wants in cc)
exchanges_at f flip_stage.LoadsGate q reply pages wants tells = absurd (subst NoMark tells (gate_unmarked f reply))
exchanges_at f (flip_stage.LoadsSize gate) q reply pages wants tells = absurd (subst NoMark tells (size_unmarked f gate reply))
exchanges_at f (flip_stage.LoadsArea gate size) q reply pages wants tells = absurd (subst NoMark tells (area_unmarked f gate size reply))
exchanges_at f (flip_stage.StoresSize r) q reply pages wants tells = absurd (subst NoMark tells (sizing_unmarked f r reply))
exchanges_at f (flip_stage.StoresArea r) q reply pages wants tells = absurd (subst NoMark tells (store_unmarked f r reply))
exchanges_at f (flip_stage.ResetsWeak r) q reply pages wants tells = absurd (subst NoMark tells (weak_unmarked f r reply))

-- ---- by what is told

module _ (h : Heap) (p o : Plain) (k : ℕ) (x : Held) (q : Step) (st : WorkersStand h p o) (l : k < length h.workers) (holds : held_at h k ≡ x) (asked : wanted x ≡ Some q) where
  abbrev later : List ℕ
  later = words_after q h.words

  abbrev reply : Reply
  reply = reply_of q h.words

  there : Is (read h) k x
  there = member h p o k x st l holds

  within : low_at h.pages later (to_space (epoch_of h.pages h.words)) + words_claimed x reply ≡ low_of h.pages h.words
  within = by_stage h p o k x st x.stage q there asked

  same_epoch : epoch_of h.pages later ≡ epoch_of h.pages h.words → low_of h.pages later + words_claimed x reply ≡ low_of h.pages h.words
  same_epoch same = subst (λ (e : ℕ). low_at h.pages later (to_space e) + words_claimed x reply ≡ low_of h.pages h.words) (sym same) within

  -- the gate's word is written, and no area word
  at_exchange : (f : Flipping) (r : resets.Reset) → x.stage ≡ Flips f → f.stage ≡ flip_stage.Exchanges r → epoch_of h.pages h.words ≡ x.epoch → epoch_of h.pages later ≡ x.epoch + 1
      → low_of h.pages later ≡ PAGE_WORDS * size_in_use h.pages later
  at_exchange f r staged flips was next =
      let own : x ≡ at_stage x (Flips (record f { stage = flip_stage.Exchanges r })) = ap (at_stage x) (staged ∙ ap (λ (s : FlipStage). Flips (record f { stage = s })) flips) in
      let whole = other_is_whole h p o k x st f r (subst (Is (read h) k) own there) in
      let space : to_space (epoch_of h.pages later) ≡ from_space (era (read h)).epoch = ap to_space (next ∙ ap (λ (e : ℕ). e + 1) (sym was ∙ sym (of_now h p o k x st))) in
      let stay = beside h.pages h.words (from_space (era (read h)).epoch) f.layout.pages (flip.wants_at f (flip_stage.Exchanges r)) q tt (sym (ap wanted own) ∙ asked) in
      let other = from_space (era (read h)).epoch in
      let sized = size_beside h.pages h.words other (is_space ((era (read h)).epoch + 1)) f.layout.pages (flip.wants_at f (flip_stage.Exchanges r)) q tt (sym (ap wanted own) ∙ asked) in
      ap (low_at h.pages later) space ∙ (stay ∙ (whole ∙ ap (λ (size : ℕ). PAGE_WORDS * size) (sym sized ∙ ap (λ (s : ℕ). word_in h.pages later (Size s)) (sym space))))

  by_told : (t : Told) → told x reply ≡ t → FlipsWhereTold h.pages h.words later x t → LowGoes h.pages h.words later (words_claimed x reply) t
  by_told (Marks pages) e flips =
      let f = flips_at x reply pages x.stage e in
      let wants : flip.wanted f.0 ≡ Some q = sym (ap (wanted_at x) f.1) ∙ asked in
      let tells : told_flip (flip.told (flip.taken f.0 reply)) ≡ Marks pages = sym (ap (λ (s : Stage). told_at x s reply) f.1) ∙ e in
      let r = exchanges_at f.0 f.0.stage q reply pages wants tells in
      at_exchange f.0 r.0 f.1 r.1 flips.epoch flips.next
  by_told _ e flips = same_epoch flips.epoch

  pub low_falls : LowGoes h.pages h.words later (words_claimed x reply) (told x reply)
  low_falls = by_told (told x reply) refl (steps_keep h p o k x q st l holds asked).flips

pub low_falls_by_claims : LowFallsByClaims
low_falls_by_claims h p o k x q st l holds asked = low_falls h p o k x q st l holds asked
