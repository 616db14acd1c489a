-- What the readers of a core read of one worker.
use Rattle.std.proofs.Common.{◌≡◌, ℕ, ◌<◌, ◌≤◌, length, get_or, slice_get, List, Option, Some, ap, sym, ◌∙◌, arith}
use Rattle.std.specs.Prelude.{take}
use Rattle.std.specs.List.{list_all}
use Rattle.std.specs.Option.{is_some, option_map}
use Rattle.std.proofs.lemmas.List.{get_or_default}
use Rattle.std.proofs.lemmas.List.Folds.{list_all-map}
use Rattle.plain_state.specs.declared.end.End.{End}
use Rattle.plain_heap.specs.Print.{Seen}
use Rattle.gc_worker.specs.Workers.Held.{Held}
use Rattle.gc_worker.specs.Laws.Step.{held_at, nobody}
use Rattle.gc_worker.specs.Steps.Stepped.{header_kept, place_kept}
use Rattle.gc_core.specs.Core.{CoreState, workers_of}
use Rattle.gc_core.specs.Readers.{seen_of, registers_in, kept_in}
use Rattle.gc_core.specs.Run.{all_ended}
use Rattle.gc_core.proofs.Told.PlaceByPlace.{seen_length, seen_there, registers_there, kept_told}

-- who is read is the worker that is held there
pub read_held : (s : CoreState) (m : ℕ) (z : Held) → m < workers_of s → z ≡ get_or s.heap.workers m z → z ≡ held_at s.heap m
read_held s m z below is = is ∙ get_or_default s.heap.workers m z nobody below

module _ (s : CoreState) (m : ℕ) (z : Held) (is : z ≡ get_or s.heap.workers m z) where
  -- a mutator's end
  pub end_there : s.heap.mutators ≤ workers_of s → m < length (seen_of s) → (end : Option End) → end ≡ z.account.end
      → option_map (λ (k : Seen). k.end) (slice_get (seen_of s) m) ≡ Some end
  end_there enough few end end_is =
      let n = seen_length s enough in
      let held = read_held s m z (omega (arith, n, few, enough)) is in
      ap (λ (o : Option Seen). option_map (λ (k : Seen). k.end) o) (seen_there s enough m (omega (arith, n, few)))
      ∙ ap (λ (o : Option End). Some o) (ap (λ (x : Held). x.account.end) (sym held) ∙ sym end_is)

  -- the numbers that it has printed
  pub outputs_there : s.heap.mutators ≤ workers_of s → m < length (seen_of s) → (printed : List ℕ) → printed ≡ z.account.printed
      → option_map (λ (k : Seen). k.printed) (slice_get (seen_of s) m) ≡ Some printed
  outputs_there enough few printed printed_is =
      let n = seen_length s enough in
      let held = read_held s m z (omega (arith, n, few, enough)) is in
      ap (λ (o : Option Seen). option_map (λ (k : Seen). k.printed) o) (seen_there s enough m (omega (arith, n, few)))
      ∙ ap (λ (o : List ℕ). Some o) (ap (λ (x : Held). x.account.printed) (sym held) ∙ sym printed_is)

  -- the words in its registers
  pub registers_here : s.heap.mutators ≤ workers_of s → m < length (seen_of s) → (registers : List ℕ) → registers ≡ z.registers
      → slice_get (registers_in s) m ≡ Some registers
  registers_here enough few registers registers_are =
      let n = seen_length s enough in
      let held = read_held s m z (omega (arith, n, few, enough)) is in
      registers_there s enough m (omega (arith, n, few)) ∙ ap (λ (o : List ℕ). Some o) (ap (λ (x : Held). x.registers) (sym held) ∙ sym registers_are)

  -- what a worker keeps
  pub kept_here : m < workers_of s → (header place : ℕ) → header ≡ header_kept z.stage → place ≡ place_kept z.stage → slice_get (kept_in s) m ≡ Some (record { header = header; place = place })
  kept_here below header place header_is place_is =
      let held = read_held s m z below is in
      let h = header_is ∙ ap (λ (x : Held). header_kept x.stage) held in
      let p = place_is ∙ ap (λ (x : Held). place_kept x.stage) held in
      kept_told s m below ∙ (λ i. Some (record { header = sym h i; place = sym p i }))

-- ---- ends

pub ends_seen : (s : CoreState) → list_all (λ (x : Held). is_some x.account.end) (take s.heap.mutators s.heap.workers) ≡ all_ended s
ends_seen s = sym (list_all-map (λ (k : Seen). is_some k.end) (λ (x : Held). record { printed = x.account.printed; end = x.account.end }) (take s.heap.mutators s.heap.workers))
