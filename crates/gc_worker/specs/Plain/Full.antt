-- When a mutator finds the heap full.
use Rattle.std.specs.Prelude.{◌≡◌, ℕ, ◌+◌, ◌-◌, ◌*◌, ◌^◌, ◌<◌, ◌⊎◌, ⊤, List, Some}
use Rattle.plain_state.specs.declared.end.End.{End}
use Rattle.plain_state.specs.declared.end.End.TheVariants.{HeapFull}
use Rattle.space_map.specs.declared.area_word.AreaWord.{AreaWord}
use Rattle.space_map.specs.declared.gate_word.GateWord.{GateWord}
use Rattle.space_map.specs.declared.spaces.TheConstants.{PAGE_WORDS}
use Rattle.space_map.specs.AreaWord.{decode_area}
use Rattle.space_map.specs.GateWord.{decode_gate}
use Rattle.space_map.specs.Spaces.{to_space}
use Rattle.space_map.specs.Table.{Gate, Traced, Area, Size}
use Rattle.heap_state.specs.Memory.Table.{word_in}
use Rattle.gc_worker.specs.Workers.Held.{Held}
use Rattle.gc_worker.specs.declared.calls.did.Did.{Did}
use Rattle.gc_worker.specs.declared.calls.did.Did.TheVariants.{Done, Trap}
use Rattle.gc_worker.specs.Steps.Turned.{Told, Silent, Empties, Answers, Marks}

-- In its epoch, which is the gate's and is traced, the words between FRONT and LOW are too few for the pages that it asks for, and as many
-- as are told to be live are below FRONT; and no flip can help: one came since it began its instruction, and all pages of the space are
-- in use; or the epoch is the last.
pub record FindsNoRoom (n : ℕ) (words : List ℕ) (x : Held) (asked room live : ℕ) : Type 0 where
  pub gate : GateWord
  pub gate_is : decode_gate (word_in n words Gate) ≡ Some gate
  pub epoch : gate.epoch ≡ x.epoch
  pub traced : word_in n words Traced ≡ x.epoch + 1
  pub area : AreaWord
  pub area_is : decode_area (word_in n words (Area (to_space x.epoch))) ≡ Some area
  pub room_is : area.front + room ≡ area.low
  pub live_is : area.front ≡ live
  pub short : room < PAGE_WORDS * asked
  pub size : ℕ
  pub size_is : word_in n words (Size (to_space x.epoch)) ≡ size
  pub no_flip : ((x.begun < x.epoch) × (size ≡ n)) ⊎ (x.epoch ≡ 2 ^ 32 - 1)

abbrev pub FullByEnd : (n : ℕ) → List ℕ → Held → End → Type 0
FullByEnd n words x (HeapFull asked room live) = FindsNoRoom n words x asked room live
FullByEnd n words x end = ⊤

abbrev pub FullByOutcome : (n : ℕ) → List ℕ → Held → Did → Type 0
FullByOutcome n words x Done = ⊤
FullByOutcome n words x (Trap end) = FullByEnd n words x end

-- where a step tells that the heap is full it is
abbrev pub FullWhereTold : (n : ℕ) → List ℕ → Held → Told → Type 0
FullWhereTold n words x Silent = ⊤
FullWhereTold n words x Empties = ⊤
FullWhereTold n words x (Answers task outcome) = FullByOutcome n words x outcome
FullWhereTold n words x (Marks asked) = ⊤
