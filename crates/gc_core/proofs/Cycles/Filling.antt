-- What is below LOW and what was claimed since the last flip are all words of the pages in use.
use Rattle.std.proofs.Common.{◌≡◌, ℕ, ◌+◌, ◌-◌, ◌*◌, ◌^◌, ◌<◌, ◌≤◌, inl, inr, length, List, Option, Some, None, refl, ap, ◌∙◌, arith, ⊎_elim}
use Rattle.std.proofs.lemmas.Bool.{cases_lt}
use Rattle.std.proofs.lemmas.List.{get_or_past}
use Rattle.plain_state.specs.declared.sizes.TheConstants.{PAGE_WORDS}
use Rattle.plain_state.specs.State.{Plain}
use Rattle.atom_store.specs.declared.step.Step.{Step}
use Rattle.atom_store.specs.Step.{words_after, reply_of}
use Rattle.space_map.specs.Spaces.{to_space}
use Rattle.space_map.specs.Table.{Size}
use Rattle.heap_state.specs.Memory.Table.{word_in}
use Rattle.gc_worker.specs.declared.calls.did.Did.TheVariants.{Done}
use Rattle.gc_worker.specs.declared.calls.entry.Entry.{Entry}
use Rattle.gc_worker.specs.Laws.Cycles.{LowGoes, SizeGoes, words_claimed, low_of, low_at, low_said, size_of}
use Rattle.gc_worker.specs.Plain.Full.{FindsNoRoom}
use Rattle.gc_worker.specs.Workers.Held.{Held}
use Rattle.gc_worker.specs.History.Tally.{tally}
use Rattle.gc_worker.specs.Laws.Step.{WorkersStand, epoch_of, nobody}
use Rattle.gc_worker.specs.Steps.Stepped.{stepped_by}
use Rattle.gc_worker.specs.Steps.Turned.{Told, Answers, Marks, epoch_in_gate, told}
use Rattle.gc_worker.specs.Steps.Wanted.{wanted}
use Rattle.gc_worker.proofs.Between.Pages.Copied.{full_tells_live}
use Rattle.gc_worker.proofs.Cycles.Lows.{low_falls_by_claims}
use Rattle.gc_worker.proofs.Cycles.SizesOfSpaces.{sizes_stay}
use Rattle.gc_core.specs.Core.{CoreState, size_in}
use Rattle.gc_core.specs.Cycles.{FillsTheSpace, HasGrown, claims_after, claims_next}
use Rattle.gc_core.specs.Event.{core_after, event_of, readied, ready}
use Rattle.gc_core.proofs.Runs.History.{HasHistory, first, its_ready}
use Rattle.gc_core.proofs.Events.Readied.{ReadyToStep}

-- so many words were claimed since the last flip, of a space that may have so many pages
pub record HasClaimed (limit : ℕ) (s : CoreState) (claims : ℕ) : Type 0 where
  pub limit_is : s.heap.pages ≡ limit
  pub low : low_of s.heap.pages s.heap.words + claims ≡ PAGE_WORDS * size_in s

-- ---- an event

module _ (limit : ℕ) (s : CoreState) (w claims : ℕ) (fills : HasClaimed limit s claims) where
  idle_fills : wanted (ready s w) ≡ None → HasClaimed limit (core_after s w) (claims_next s w claims)
  unfolding event_of
  idle_fills none = record { limit_is = rw none fills.limit_is; low = rw none (let l = fills.low in omega (arith, l)) }

  -- a flip empties the space, and nothing else but a claim changes LOW
  by_told : (t : Told) (later : List ℕ) (more : ℕ) → LowGoes s.heap.pages s.heap.words later more t → SizeGoes s.heap.pages s.heap.words later t
      → low_of s.heap.pages later + claims_after claims more (stepped_by w t) ≡ PAGE_WORDS * size_of s.heap.pages later
  by_told (Marks asked) later more goes grows = omega (arith, goes)
  by_told (Answers _ Done) later more goes same = let l = fills.low in omega (arith, goes, l, same)
  by_told _ later more goes same = let l = fills.low in omega (arith, goes, l, same)

  step_fills : (p o : Plain) (r : ReadyToStep s w p o) (q : Step) → wanted (ready s w) ≡ Some q → HasClaimed limit (core_after s w) (claims_next s w claims)
  unfolding event_of
  step_fills p o r q asked =
      let goes = low_falls_by_claims r.heap p o w (ready s w) q r.stands r.below r.holds asked in
      let sized = sizes_stay r.heap p o w (ready s w) q r.stands r.below r.holds asked in
      record {
        limit_is = rw asked fills.limit_is;
        low = rw asked (by_told (told (ready s w) (reply_of q s.heap.words)) (words_after q s.heap.words) (words_claimed (ready s w) (reply_of q s.heap.words)) (rw (r.words, r.pages) at goes)
            (rw (r.words, r.pages) at sized));
      }

-- so it is after any event
pub event_fills : (least limit : ℕ) (s : CoreState) (w : ℕ) (log : List Entry) (claims : ℕ) → HasHistory least s log → HasClaimed limit s claims
    → HasClaimed limit (core_after s w) (claims_next s w claims)
event_fills least limit s w log claims h fills = ⊎_elim
    (λ (below : w < length s.heap.workers). by_step below (wanted (ready s w)) refl)
    (λ (past : length s.heap.workers ≤ w). idle_fills limit s w claims fills (ap (λ (x : Held). wanted (readied s.code s.turns w x)) (get_or_past s.heap.workers w nobody past)))
    (cases_lt w (length s.heap.workers))
  where
    by_step : w < length s.heap.workers → (o : Option Step) → wanted (ready s w) ≡ o → HasClaimed limit (core_after s w) (claims_next s w claims)
    by_step below None is = idle_fills limit s w claims fills is
    by_step below (Some q) is = step_fills limit s w claims fills (tally (first s) log).now (tally (first s) log).flip (its_ready least s w log h below q is) q is

-- ---- a full heap

module _ (limit : ℕ) (s : CoreState) (w : ℕ) (p o : Plain) (claims asked room live : ℕ) (st : WorkersStand s.heap p o) (fills : HasClaimed limit s claims)
    (full : FindsNoRoom s.heap.pages s.heap.words (ready s w) asked room live) where
  of_now : epoch_of s.heap.pages s.heap.words ≡ (ready s w).epoch
  of_now = ap (epoch_in_gate 0) full.gate_is ∙ full.epoch

  at_low : low_of s.heap.pages s.heap.words ≡ full.area.low
  at_low = ap (λ (e : ℕ). low_at s.heap.pages s.heap.words (to_space e)) of_now ∙ ap low_said full.area_is

  -- the size that it has read
  at_size : size_in s ≡ full.size
  at_size = ap (λ (e : ℕ). word_in s.heap.pages s.heap.words (Size (to_space e))) of_now ∙ full.size_is

  pub full_has_grown : HasGrown limit s
  full_has_grown = ⊎_elim
      (λ (seen : ((ready s w).begun < (ready s w).epoch) × (full.size ≡ s.heap.pages)). inl (at_size ∙ (seen.1 ∙ fills.limit_is)))
      (λ (last : (ready s w).epoch ≡ 2 ^ 32 - 1). inr (of_now ∙ last))
      full.no_flip

  pub full_is_filled : FillsTheSpace (size_in s) o claims asked room live
  full_is_filled =
      let low = at_low in
      let whole = fills.low in
      let r = full.room_is in
      let l = full.live_is in
      let short = full.short in
      record {
        live_is = full_tells_live s.heap p o (ready s w) asked room live st full;
        filled = omega (arith, low, whole, r, l);
        short = omega (arith, low, whole, r, l, short);
      }
