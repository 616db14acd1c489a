-- Why a worker is gone: a mutator has left, or a scanner has read that all mutators have.
use Rattle.std.specs.Prelude.{◌≡◌, ℕ, ◌<◌, ◌≤◌, ◌⊎◌, List, length, Some, Bool}
use Rattle.plain_state.specs.State.{Plain}
use Rattle.atom_store.specs.declared.reply.Reply.TheVariants.{Won}
use Rattle.atom_store.specs.declared.step.Step.{Step}
use Rattle.atom_store.specs.declared.step.Step.TheVariants.{Load, Exchange}
use Rattle.atom_store.specs.Step.{reply_of}
use Rattle.gate_core.specs.declared.passage.Passage.TheVariants.{Leave}
use Rattle.gate_core.specs.Gate.{gate_after}
use Rattle.space_map.specs.declared.gate_word.GateWord.{GateWord}
use Rattle.space_map.specs.GateWord.{decode_gate, encode_gate}
use Rattle.space_map.specs.Spaces.{Layout}
use Rattle.space_map.specs.Table.{Gate, place_of}
use Rattle.space_map.specs.TableWords.{row_word}
use Rattle.gc_worker.specs.Laws.Between.{opening_heap}
use Rattle.gc_worker.specs.Workers.Fits.{Fits}
use Rattle.gc_worker.specs.Workers.Held.{Held}
use Rattle.gc_worker.specs.Laws.Step.{Heap, WorkersStand, held_at, moved}
use Rattle.gc_worker.specs.Steps.Turned.{turned}
use Rattle.gc_worker.specs.Steps.Wanted.{wanted}
use Rattle.gc_worker.specs.declared.stage.Stage.TheVariants.{Gone}

-- a mutator has won the exchange of the gate that counts it as left
pub record HasLeft (x : Held) (q : Step) (words : List ℕ) : Type 0 where
  pub is_mutator : x.number < x.mutators
  pub gate : GateWord
  pub leaves : q ≡ Exchange (place_of x.layout.pages Gate) (encode_gate gate) (encode_gate (gate_after Leave gate))
  pub won : reply_of q words ≡ Won

-- a scanner has read the gate, which counts all mutators as left
pub record SawAllLeave (x : Held) (q : Step) (words : List ℕ) : Type 0 where
  pub is_scanner : x.mutators ≤ x.number
  pub reads : q ≡ Load (place_of x.layout.pages Gate)
  pub gate : GateWord
  pub says : decode_gate (row_word x.layout.pages Gate words) ≡ Some gate
  pub all : gate.left ≡ x.mutators

-- The step after which a worker is gone is the last exchange of a mutator, or a scanner's look at a gate that all mutators have left.
abbrev pub WhoIsGoneSawWhy : Type 0
WhoIsGoneSawWhy = (n mutators k : ℕ) (x : Held) (q : Step) (words : List ℕ) → Fits n mutators k x → wanted x ≡ Some q
    → (turned x (reply_of q words)).stage ≡ Gone → HasLeft x q words ⊎ SawAllLeave x q words

-- ---- scanners are the last

-- once a scanner is gone, all mutators are
abbrev pub ScannersAreLast : Heap → Type 0
ScannersAreLast h = (k m : ℕ) → k < length h.workers → h.mutators ≤ k → (held_at h k).stage ≡ Gone → m < h.mutators → (held_at h m).stage ≡ Gone

-- it is so at the opening, and each step of a worker keeps it
abbrev pub ScannersBeginLast : Type 0
ScannersBeginLast = (prints : Bool) (layout : Layout) (least mutators scanners : ℕ) → ScannersAreLast (opening_heap prints layout least mutators scanners)

abbrev pub ScannersStayLast : Type 0
ScannersStayLast = (h : Heap) (p o : Plain) (k : ℕ) (x : Held) (q : Step) → WorkersStand h p o → k < length h.workers → held_at h k ≡ x → wanted x ≡ Some q
    → ScannersAreLast h → ScannersAreLast (moved h k x q)
