-- What is counted at the opening.
use Rattle.std.proofs.Common.{◌≡◌, ℕ, ◌+◌, ◌*◌, ◌<◌, ◌≤◌, Bool, true, false, cond, nat_lt, [], length, zero, suc, refl, sym, ap, subst, ◌∙◌, arith}
use Rattle.plain_state.specs.declared.sizes.TheConstants.{PAGE_WORDS}
use Rattle.plain_state.specs.State.{Plain}
use Rattle.space_map.specs.declared.spaces.TheConstants.{MOST_MUTATORS, MOST_SCANNERS}
use Rattle.space_map.specs.Spaces.{Layout, IsPageCount, to_space}
use Rattle.heap_state.specs.Configuration.{table}
use Rattle.heap_state.specs.Memory.Entries.{table_with}
use Rattle.heap_state.specs.Functions.{put}
use Rattle.space_map.specs.Table.{Size}
use Rattle.heap_state.specs.Memory.Table.{Table, table_of, word_in}
use Rattle.heap_laws.specs.Opening.{opening_entries, opening_plain}
use Rattle.gc_worker.specs.Laws.Between.{fresh_mutator, fresh_scanner, fresh_worker, opening_heap}
use Rattle.gc_worker.specs.Laws.Cycles.{IsFirst, low_at, low_of, low_said, size_at, size_of}
use Rattle.gc_worker.specs.Workers.Held.{Held}
use Rattle.gc_worker.specs.Laws.Step.{Heap, WorkersStand, epoch_of, held_at, read}
use Rattle.gc_worker.specs.Steps.Turned.{epoch_in_gate}
use Rattle.gc_worker.proofs.Words.Areas.{area_says, is_space}
use Rattle.gc_worker.proofs.Between.OpenedHeap.{are_opening, heaps_open, is_there, many}
use Rattle.gc_worker.proofs.Stages.Gate.GateWords.{gate_says}
use Rattle.gc_worker.specs.History.Tally.{IsTallied, first_tally}

whole_at_first : (n least : ℕ) → ((table_with n (opening_entries n least)).area 0).low ≡ PAGE_WORDS * least
unfolding put
whole_at_first n least = refl

size_at_first : (n least space : ℕ) → space < 2 → (table_with n (opening_entries n least)).in_use space ≡ least
unfolding put
size_at_first n least zero small = refl
size_at_first n least (suc zero) small = refl
size_at_first n least (suc (suc space)) small = absurd (omega (arith, small))

in_use_now : (h : Heap) (space : ℕ) → (table (read h)).in_use space ≡ word_in h.pages h.words (Size space)
unfolding table_of
in_use_now h space = refl

module _ (prints : Bool) (s : Layout) (least mutators scanners : ℕ) (size : IsPageCount s.pages) (fewest : 4 ≤ least) (most : least ≤ s.pages) (few : mutators ≤ MOST_MUTATORS) (all : mutators + scanners ≤ MOST_MUTATORS + MOST_SCANNERS) where
  abbrev n : ℕ
  n = s.pages

  abbrev h : Heap
  h = opening_heap prints s least mutators scanners

  stands : WorkersStand h (opening_plain mutators) (opening_plain mutators)
  stands = heaps_open prints s least mutators scanners size fewest most few all

  says : table (read h) ≡ table_with n (opening_entries n least)
  says = (are_opening n least size fewest most s.checkpoints).says

  epoch : epoch_of n h.words ≡ 0
  epoch = ap (epoch_in_gate 0) (gate_says (read h) (opening_plain mutators) stands.stands) ∙ ap (λ (t : Table). t.gate.epoch) says

  -- in each space
  pub in_use_at : (space : ℕ) → space < 2 → size_at n h.words space ≡ least
  in_use_at space small = sym (in_use_now h space) ∙ (ap (λ (t : Table). t.in_use space) says ∙ size_at_first n least space small)

  pub in_use : size_of n h.words ≡ least
  in_use = in_use_at (to_space (epoch_of n h.words)) (is_space (epoch_of n h.words))

  pub low : low_of n h.words ≡ PAGE_WORDS * least
  low =
      ap (λ (e : ℕ). low_at n h.words (to_space e)) epoch
      ∙ (ap low_said (area_says (read h) (opening_plain mutators) stands.stands 0 (is_space 0)) ∙ (ap (λ (t : Table). (t.area 0).low) says ∙ whole_at_first n least))

  first_worker : (m : ℕ) → m < length h.workers → held_at h m ≡ fresh_worker prints s mutators m
  first_worker m below = is_there prints s mutators 0 (mutators + scanners) m m (let count = many prints s mutators 0 (mutators + scanners) in omega (arith, below, count)) (omega arith)

  -- nobody asks for a flip
  first_asks : (m : ℕ) (b : Bool) → IsFirst n h.words (cond b (fresh_mutator prints s mutators m) (fresh_scanner prints s mutators m))
  first_asks m true = tt
  first_asks m false = tt

  first_begun : (m : ℕ) (b : Bool) → (cond b (fresh_mutator prints s mutators m) (fresh_scanner prints s mutators m)).begun ≡ 0
  first_begun m true = refl
  first_begun m false = refl

  begun : (m : ℕ) → m < mutators → (held_at h m).begun ≡ 0
  begun m few = ap (λ (x : Held). x.begun) (first_worker m (let count = many prints s mutators 0 (mutators + scanners) in omega (arith, few, count))) ∙ first_begun m (nat_lt m mutators)

  -- nothing is claimed, and no flip came
  pub opening_tallied : (p : Plain) → IsTallied least h (first_tally p) []
  opening_tallied p = record {
    sizes = record { least = least; limit = n; in_use = λ e. least };
    began = (refl, refl);
    entries = tt;
    counts = record {
      limit = refl;
      size = in_use;
      least = omega arith;
      claims = 0;
      low = (let l = low in omega (arith, l));
      for_records = omega arith;
      none_made = λ all. refl;
      epoch = epoch;
      begun = λ m few none past. (let b = begun m few in omega (arith, b));
      first = λ m below. subst (IsFirst n h.words) (sym (first_worker m below)) (first_asks m (nat_lt m mutators));
      call = λ m has. absurd (cc);
      since = λ m below none past early. absurd (omega (arith, early));
    };
  }
