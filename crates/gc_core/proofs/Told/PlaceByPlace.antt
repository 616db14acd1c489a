-- What the readers of a core tell, place by place.
use Rattle.std.proofs.Common.{◌≡◌, ℕ, ◌<◌, ◌≤◌, length, Option, Some, slice_get, refl, ap, ◌∙◌, arith}
use Rattle.std.specs.Prelude.{map}
use Rattle.std.specs.Option.{option_map}
use Rattle.std.proofs.lemmas.List.{get_or-take, length-take-le, length-map}
use Rattle.std.proofs.lemmas.Option.{slice_get-map, slice_get-get_or}
use Rattle.plain_heap.specs.Print.{Seen}
use Rattle.heap_state.specs.Kept.{Kept, kept_by}
use Rattle.heap_state.specs.Known.{Known}
use Rattle.gc_worker.specs.Workers.Held.{Held}
use Rattle.forwarding.specs.declared.evac_stage.EvacStage.{EvacStage}
use Rattle.forwarding.specs.declared.evac_stage.EvacStage.TheVariants as evac_stage
use Rattle.forwarding.specs.Keeping as keeping
use Rattle.forwarding.specs.Keeping.{kept_word, reserved_word}
use Rattle.space_map.specs.Spaces.{Layout}
use Rattle.gc_worker.specs.declared.stage.Stage.{Stage}
use Rattle.gc_worker.specs.declared.stage.Stage.TheVariants.{Forwards, Evacuates}
use Rattle.gc_worker.specs.Workers.Knows.{knows, copy_at, copy_in}
use Rattle.gc_worker.specs.Steps.Stepped.{header_kept, place_kept}
use Rattle.gc_worker.specs.Laws.Step.{nobody, held_at}
use Rattle.gc_core.specs.Core.{CoreState, workers_of}
use Rattle.gc_core.specs.Readers.{mutators_in, seen_of, registers_in, kept_in}

abbrev seen_in : Held → Seen
seen_in x = record { printed = x.account.printed; end = x.account.end }

module _ (s : CoreState) (enough : s.heap.mutators ≤ workers_of s) where
  many : length (mutators_in s) ≡ s.heap.mutators
  many = length-take-le s.heap.mutators s.heap.workers enough

  pub seen_length : length (seen_of s) ≡ s.heap.mutators
  seen_length = length-map (mutators_in s) seen_in ∙ many

  module _ (m : ℕ) (few : m < s.heap.mutators) where
    there : slice_get (mutators_in s) m ≡ Some (held_at s.heap m)
    there = slice_get-get_or (mutators_in s) m nobody (omega (arith, few, many)) ∙ ap (λ (x : Held). Some x) (get_or-take s.heap.mutators s.heap.workers m nobody few)

    -- what is seen of a mutator
    pub seen_there : slice_get (seen_of s) m ≡ Some (seen_in (held_at s.heap m))
    seen_there = slice_get-map seen_in (mutators_in s) m ∙ ap (λ (o : Option Held). option_map seen_in o) there

    -- and the words of its registers
    pub registers_there : slice_get (registers_in s) m ≡ Some (held_at s.heap m).registers
    registers_there = slice_get-map (λ (x : Held). x.registers) (mutators_in s) m ∙ ap (λ (o : Option Held). option_map (λ (x : Held). x.registers) o) there

-- what a worker keeps
kept_there : (s : CoreState) (w : ℕ) → w < workers_of s → slice_get (kept_in s) w ≡ Some (kept_by (knows (held_at s.heap w)).copy)
kept_there s w below =
    slice_get-map (λ (x : Known). kept_by x.copy) (map knows s.heap.workers) w
    ∙ ap (λ (o : Option Known). option_map (λ (x : Known). kept_by x.copy) o) (slice_get-map knows s.heap.workers w ∙ ap (λ (o : Option Held). option_map knows o) (slice_get-get_or s.heap.workers w nobody below))

-- ---- by the worker's stage

copy_kept : (l : Layout) (a e : ℕ) (stage : EvacStage) → kept_by (copy_at l a e stage) ≡ record { header = kept_word (keeping.header_kept stage); place = reserved_word (keeping.address_reserved stage) }
copy_kept l a e evac_stage.LoadsHeader = refl
copy_kept l a e _ = refl

stage_kept : (stage : Stage) → kept_by (copy_in stage) ≡ record { header = header_kept stage; place = place_kept stage }
stage_kept (Forwards w) = copy_kept w.evac.layout w.evac.addr w.evac.epoch w.evac.stage
stage_kept (Evacuates v s back) = copy_kept v.layout v.addr v.epoch v.stage
stage_kept _ = refl

pub kept_told : (s : CoreState) (w : ℕ) → w < workers_of s
    → slice_get (kept_in s) w ≡ Some (record { header = header_kept (held_at s.heap w).stage; place = place_kept (held_at s.heap w).stage })
kept_told s w below = kept_there s w below ∙ ap (λ (k : Kept). Some k) (stage_kept (held_at s.heap w).stage)
