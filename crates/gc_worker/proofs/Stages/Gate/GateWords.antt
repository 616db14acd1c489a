-- The gate's word, and a worker's next step.
use Rattle.std.proofs.Common.{◌≡◌, ℕ, Some, ap, sym, subst, ◌∙◌}
use Rattle.std.proofs.lemmas.Option.{same_Some}
use Rattle.plain_state.specs.State.{Plain}
use Rattle.atom_store.specs.declared.step.Step.{Step}
use Rattle.space_map.specs.declared.gate_word.GateWord.{GateWord}
use Rattle.space_map.specs.GateWord.{GateFits, gate_in, decode_gate, encode_gate}
use Rattle.space_map.specs.Table.{Gate}
use Rattle.space_map.proofs.GateWords.{decode_gate-short, gate_in-encode_gate}
use Rattle.heap_state.specs.Configuration.{Configuration, Stands, table}
use Rattle.heap_state.specs.Memory.Table.{table_of, word_in}
use Rattle.gc_worker.specs.Steps.Goes.{StepsInTable, StepsSo}
use Rattle.gc_worker.specs.Workers.Held.{Held}
use Rattle.gc_worker.specs.Steps.Wanted.{wanted}

-- the next step goes so
pub wants : (c : Configuration) (p : Plain) (s : Stands c p) (k : ℕ) (x : Held) (q : Step) → wanted x ≡ Some q → StepsInTable c p s k x q → StepsSo c p s k x
wants c p s k x q next steps = λ r asked. subst (StepsInTable c p s k x) (same_Some q r (sym next ∙ asked)) steps

abbrev pub gate_now : Configuration → ℕ
gate_now c = word_in c.pages c.words Gate

pub gate_word : (c : Configuration) → (table c).gate ≡ gate_in (gate_now c)
unfolding table_of
gate_word c = λ i. gate_in (gate_now c)

pub gate_says : (c : Configuration) (p : Plain) → Stands c p → decode_gate (gate_now c) ≡ Some (table c).gate
gate_says c p s = decode_gate-short (gate_now c) (s.formed.rows Gate tt) ∙ ap Some (sym (gate_word c))

-- the word is this gate's, and so the gate is this one
pub gate_is : (c : Configuration) (g : GateWord) → GateFits g → gate_now c ≡ encode_gate g → (table c).gate ≡ g
gate_is c g fits same = gate_word c ∙ (ap gate_in same ∙ gate_in-encode_gate g fits)
