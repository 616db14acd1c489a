-- What is proved of the readings of which checkpoint runs, of how a checkpoint begins, and of how its request is cleared.
use Rattle.std.specs.Prelude.{◌≡◌, ◌≢◌, ℕ, ◌+◌, ◌<◌, false, ⊤, List, Some}
use Rattle.atom_store.specs.declared.turn.Turn.{Turn}
use Rattle.atom_store.specs.declared.turn.Turn.TheVariants.{Finished}
use Rattle.atom_store.specs.Acts.{MakesStep, after_next_step}
use Rattle.atom_store.specs.Runs.{among}
use Rattle.space_map.specs.declared.gate_word.GateWord.{GateWord}
use Rattle.space_map.specs.GateWord.{decode_gate}
use Rattle.space_map.specs.Spaces.{Layout}
use Rattle.space_map.specs.Table as row
use Rattle.space_map.specs.TableWords.{row_word, HoldsTable, ChangesOnly}
use Rattle.gate_core.specs.declared.gate_stage.GateStage.TheVariants.{Exchanges}
use Rattle.gate_core.specs.declared.passage.Passage.TheVariants.{Clear}
use Rattle.gate_core.specs.declared.passed.Passed.TheVariants as passed
use Rattle.gate_core.specs.declared.recall.recalled.Recalled.{Recalled}
use Rattle.gate_core.specs.declared.snap.snapped.Snapped.{Snapped}
use Rattle.gate_core.specs.declared.snap.snapped.Snapped.TheVariants as snapped
use Rattle.gate_core.specs.declared.snap.snap_stage.SnapStage.{SnapStage}
use Rattle.gate_core.specs.declared.snap.snap_stage.SnapStage.TheVariants.{LoadsGate, ExchangesSnap, Ended}
use Rattle.gate_core.specs.Gate.{Passing, gate_machine}
use Rattle.gate_core.specs.Recall.{Recalling, recall_machine}
use Rattle.gate_core.specs.Recall as recall
use Rattle.gate_core.specs.Snap.{Snapping, snap_machine}
use Rattle.gate_core.specs.Soundness.{IsSoundPassing, IsSoundSnapping}

-- ---- what runs

-- The number told is the one that was loaded at some step, as that of the last checkpoint begun. The number of the last one
-- finished was loaded later: if it is the same, none is told to run, and else this one is.
pub record IsWhatWasRead (layout : Layout) (met : ℕ → List ℕ) (steps : ℕ) (result : Recalled) : Type 0 where
  pub snap_at : ℕ
  pub done_at : ℕ
  pub earlier : snap_at < done_at
  pub within : done_at < steps
  pub number : result.number ≡ row_word layout.pages row.SnapNumber (met snap_at)
  pub none_runs : row_word layout.pages row.LastSaved (met done_at) ≡ result.number → result.running ≡ 0
  pub it_runs : row_word layout.pages row.LastSaved (met done_at) ≢ result.number → result.running ≡ result.number

-- whatever words each step meets, whoever wrote them
abbrev pub RecallsTellWhatTheyRead : Type 0
RecallsTellWhatTheyRead = (layout : Layout) (met : ℕ → List ℕ) (steps : ℕ) (result : Recalled)
    → recall.told (among recall_machine (recall.begun layout) met steps) ≡ Finished result → IsWhatWasRead layout met steps result

abbrev pub RecallsChangeNothing : Type 0
RecallsChangeNothing = (r : Recalling) (before after : List ℕ) (turn : Turn Recalled) → MakesStep recall_machine r before after turn → after ≡ before

-- ---- the beginning of a checkpoint

-- the gate that was read stands
abbrev pub GateStandsAt : Snapping → SnapStage → List ℕ → Type 0
GateStandsAt s LoadsGate words = ⊤
GateStandsAt s (ExchangesSnap gate) words = decode_gate (row_word s.layout.pages row.Gate words) ≡ Some gate
GateStandsAt s (Ended (snapped.Begun gate)) words = decode_gate (row_word s.layout.pages row.Gate words) ≡ Some gate
GateStandsAt s (Ended (snapped.NotYet word)) words = ⊤

-- while mutators are stopped for the request, nobody else changes the gate; and the beginning's own steps keep it
abbrev pub SnapsKeepWhatTheyRead : Type 0
SnapsKeepWhatTheyRead = (s : Snapping) (before after : List ℕ) (turn : Turn Snapped) → GateStandsAt s s.stage before
    → MakesStep snap_machine s before after turn → GateStandsAt s (after_next_step snap_machine s before).stage after

-- Nobody ran by the gate that is told, which stands. The number of the last checkpoint was the one that the beginning had, and
-- is the next one; no other word changes.
pub record BeginsCheckpoint (s : Snapping) (before after : List ℕ) (gate : GateWord) : Type 0 where
  pub none_runs : gate.running ≡ 0
  pub stood : decode_gate (row_word s.layout.pages row.Gate before) ≡ Some gate
  pub stands : decode_gate (row_word s.layout.pages row.Gate after) ≡ Some gate
  pub was : row_word s.layout.pages row.SnapNumber before ≡ s.number
  pub is : row_word s.layout.pages row.SnapNumber after ≡ s.number + 1
  pub others : ChangesOnly s.layout.pages row.SnapNumber before after

abbrev pub CheckpointsAreBegun : Type 0
CheckpointsAreBegun = (s : Snapping) (before after : List ℕ) (gate : GateWord) → IsSoundSnapping s → HoldsTable s.layout.pages before
    → GateStandsAt s s.stage before → MakesStep snap_machine s before after (Finished (snapped.Begun gate)) → BeginsCheckpoint s before after gate

-- no other step of it changes a word
abbrev pub NothingElseIsChanged : Type 0
NothingElseIsChanged = (s : Snapping) (before after : List ℕ) (turn : Turn Snapped) → MakesStep snap_machine s before after turn
    → ((gate : GateWord) → turn ≢ Finished (snapped.Begun gate)) → after ≡ before

-- the gate's word, which is told, says that a mutator runs; no word changes
pub record ForbidsCheckpoint (s : Snapping) (before after : List ℕ) (word : ℕ) : Type 0 where
  pub gate : GateWord
  pub says : decode_gate word ≡ Some gate
  pub forbidden : gate.running ≢ 0
  pub tells : word ≡ row_word s.layout.pages row.Gate before
  pub stays : after ≡ before

abbrev pub HinderedSnapsShowIt : Type 0
HinderedSnapsShowIt = (s : Snapping) (before after : List ℕ) (word : ℕ)
    → MakesStep snap_machine s before after (Finished (snapped.NotYet word)) → ForbidsCheckpoint s before after word

-- ---- its request

-- Nothing is requested then, and else the gate says what it said: if the passage hasn't lost its exchange, what the gate that was
-- seen says. No other word changes.
pub record ClearsRequest (p : Passing) (before after : List ℕ) (word : ℕ) : Type 0 where
  pub gate : GateWord
  pub was : decode_gate (row_word p.layout.pages row.Gate before) ≡ Some gate
  pub seen : (read : GateWord) → p.stage ≡ Exchanges read → gate ≡ read
  pub is : decode_gate (row_word p.layout.pages row.Gate after) ≡ Some (record gate { request = false })
  pub tells : word ≡ row_word p.layout.pages row.Gate after
  pub others : ChangesOnly p.layout.pages row.Gate before after

abbrev pub RequestsAreCleared : Type 0
RequestsAreCleared = (p : Passing) (before after : List ℕ) (word : ℕ) → p.passage ≡ Clear → IsSoundPassing p → HoldsTable p.layout.pages before
    → MakesStep gate_machine p before after (Finished (passed.Went word)) → ClearsRequest p before after word

-- no word of the gate forbids it
abbrev pub NothingHindersClearing : Type 0
NothingHindersClearing = (p : Passing) (before after : List ℕ) (word : ℕ) → p.passage ≡ Clear
    → MakesStep gate_machine p before after (Finished (passed.NotYet word)) → ⊥
