-- What a mutator finds at the gate between two acts.
use Rattle.std.specs.Prelude.{◌≡◌, ℕ, Bool, false, Option, Some, None, not}
use Rattle.atomic_table.specs.Table as table
use Rattle.space_map.specs.declared.gate_word.GateWord.{GateWord}
use Rattle.space_map.specs.GateWord.{decode_gate}
use Rattle.space_map.specs.Table.{Gate}
use Rattle.heap_state.specs.Memory.Table.{word_in}
use Rattle.gc_worker.specs.Workers.Held.{Held}
use Rattle.ael_threads.specs.declared.view.View.{View}
use Rattle.ael_threads.specs.Seats.{FindsWords, Heads, Me, Seated, first_number}

-- the word is a gate's, by which no flip and no checkpoint is requested
abbrev pub lets_pass : Option GateWord → Bool
lets_pass (Some gate) = not gate.request
lets_pass None = false

-- this word was the gate's among words with which all workers stood, with worker m, which holds x
pub record FindsGate (v : View) (m : ℕ) (x : Held) (word : ℕ) : Type 0 where
  pub finds : FindsWords v m x
  pub open finds use *
  pub gate : word ≡ word_in v.plan.spaces.pages words Gate

-- a load of the gate's word, which changes nothing of what the seat knows
abbrev pub Glances : table.Step ℕ → Me → ℕ → Me → Type 0
Glances st me found later = (later ≡ me) × ((x : Held) → Heads me.0.plan x me.0.hands → FindsGate me.0 (first_number me.0.hands) x found)

-- THE CLAUSE OF PASSES: it was so by a word that was found at the gate
pub record Passes (passes : Bool) (a : Seated) : Type 0 where
  pub word : ℕ
  pub found : FindsGate a.knows (first_number a.knows.hands) a.worker word
  pub told : passes ≡ lets_pass (decode_gate word)
