-- What a heap tells: its words of the collector, and its workers of themselves.
use Rattle.std.specs.Prelude.{ℕ, ◌+◌, ◌==◌, List, map, take, Option, None, if◌then◌else◌}
use Rattle.std.specs.Option.{option_map}
use Rattle.plain_heap.specs.Print.{Seen}
use Rattle.space_map.specs.AreaWord.{decode_area}
use Rattle.space_map.specs.Spaces.{to_space}
use Rattle.space_map.specs.Table.{Traced, Area}
use Rattle.heap_state.specs.Kept.{Kept, kept_of}
use Rattle.heap_state.specs.Memory.Table.{word_in}
use Rattle.gc_worker.specs.Workers.Held.{Held}
use Rattle.gc_worker.specs.Laws.Step.{Heap, read, epoch_of}

-- ---- the words

-- the words that an area's word says to be copied, where TRACED says that the epoch is traced
abbrev pub live_said : (epoch traced area : ℕ) → Option ℕ
live_said epoch traced area = if traced == epoch + 1 then option_map (λ a. a.front) (decode_area area) else None

-- how often the spaces were exchanged, which is the epoch
abbrev pub cycles_in : Heap → ℕ
cycles_in h = epoch_of h.pages h.words

-- the words below FRONT in this epoch's space, which were copied, where the epoch is traced
abbrev pub live_in : Heap → Option ℕ
live_in h = live_said (cycles_in h) (word_in h.pages h.words Traced) (word_in h.pages h.words (Area (to_space (cycles_in h))))

-- ---- the workers

abbrev pub mutators_in : Heap → List Held
mutators_in h = take h.mutators h.workers

-- what is seen of each mutator
abbrev pub seen_in : Heap → List Seen
seen_in h = map (λ x. record { printed = x.account.printed; end = x.account.end }) (mutators_in h)

-- the words in the registers of each mutator
abbrev pub registers_in : Heap → List (List ℕ)
registers_in h = map (λ x. x.registers) (mutators_in h)

-- what each worker keeps for all others to read
abbrev pub kept_in : Heap → List Kept
kept_in h = kept_of (read h).workers
