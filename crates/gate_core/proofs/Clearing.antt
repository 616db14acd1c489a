-- What a passage that clears the request changes of the gate.
use Rattle.std.proofs.Common.{◌≡◌, ℕ, List, Some, sym, ap, ◌∙◌}
use Rattle.std.proofs.lemmas.Option.{same_Some}
use Rattle.atom_store.specs.declared.step.Step.TheVariants.{Exchange}
use Rattle.atom_store.specs.declared.turn.Turn.TheVariants.{Finished}
use Rattle.atom_store.specs.Acts.{MakesStep}
use Rattle.atom_store.specs.Step.{reply_of}
use Rattle.atom_store.proofs.Acting.{no_step}
use Rattle.atom_store.proofs.StepWords.{won_exactly}
use Rattle.space_map.specs.declared.gate_word.GateWord.{GateWord}
use Rattle.space_map.specs.GateWord.{decode_gate, encode_gate}
use Rattle.space_map.specs.Table as row
use Rattle.space_map.specs.Table.{place_of}
use Rattle.space_map.specs.TableWords.{row_word, HoldsTable}
use Rattle.space_map.proofs.GateWords.{decode_gate-encode_gate}
use Rattle.gate_core.specs.declared.gate_stage.GateStage.{GateStage}
use Rattle.gate_core.specs.declared.gate_stage.GateStage.TheVariants.{Loads, Exchanges, Ended}
use Rattle.gate_core.specs.declared.passage.Passage.{Passage}
use Rattle.gate_core.specs.declared.passage.Passage.TheVariants.{Clear}
use Rattle.gate_core.specs.declared.passed.Passed.TheVariants.{Went}
use Rattle.gate_core.specs.Checkpoints.{ClearsRequest}
use Rattle.gate_core.specs.Gate.{Passing, gate_machine, gate_after}
use Rattle.gate_core.specs.Soundness.{IsSoundPassing}
use Rattle.gate_core.proofs.Passing.{exchange_goes, passes}

abbrev at : Passing → GateStage → Passing
at p stage = record p { stage = stage }

-- an exchange that is won was from the word of the gate that was read
read_stood : (p : Passing) (g : GateWord) (before after : List ℕ) (word : ℕ) → IsSoundPassing (at p (Exchanges g))
    → MakesStep gate_machine (at p (Exchanges g)) before after (Finished (Went word)) → decode_gate (row_word p.layout.pages row.Gate before) ≡ Some g
read_stood p g before after word sound acts =
    let place : ℕ = place_of p.layout.pages row.Gate in
    let new : ℕ = encode_gate (gate_after p.passage g) in
    let goes = exchange_goes p.passage g (reply_of (Exchange place (encode_gate g) new) before) word acts.tells in
    ap decode_gate ((won_exactly place (encode_gate g) new before).0 goes.0) ∙ decode_gate-encode_gate g sound.stage.fits

pub clears : (p : Passing) (stage : GateStage) (before after : List ℕ) (word : ℕ) → p.passage ≡ Clear → IsSoundPassing (at p stage)
    → HoldsTable p.layout.pages before → MakesStep gate_machine (at p stage) before after (Finished (Went word)) → ClearsRequest (at p stage) before after word
clears p Loads before after word clear sound whole acts =
    let made = passes p Loads before after word sound whole acts in
    record {
      gate = made.gate;
      was = made.was;
      seen = λ read e. absurd (cc);
      is = made.is ∙ ap (λ (q : Passage). Some (gate_after q made.gate)) clear;
      tells = made.tells;
      others = made.others;
    }
clears p (Exchanges g) before after word clear sound whole acts =
    let made = passes p (Exchanges g) before after word sound whole acts in
    let same : made.gate ≡ g = same_Some made.gate g (sym made.was ∙ read_stood p g before after word sound acts) in
    record {
      gate = made.gate;
      was = made.was;
      seen = λ read e. let read_is : g ≡ read = cc in same ∙ read_is;
      is = made.is ∙ ap (λ (q : Passage). Some (gate_after q made.gate)) clear;
      tells = made.tells;
      others = made.others;
    }
clears p (Ended result) before after word clear sound whole acts = absurd (no_step acts.has_step)
