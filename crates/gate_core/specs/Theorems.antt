-- What is proved of passages of the gate and of the flip, by the words on which they make their steps.
use Rattle.std.specs.Prelude.{◌≡◌, ◌≢◌, ℕ, ◌+◌, ◌⊎◌, true, false, ⊤, List, Some}
use Rattle.atom_store.specs.declared.turn.Turn.{Turn}
use Rattle.atom_store.specs.declared.turn.Turn.TheVariants.{Finished}
use Rattle.atom_store.specs.Acts.{MakesStep, after_next_step}
use Rattle.space_map.specs.declared.area_word.AreaWord.{AreaWord}
use Rattle.space_map.specs.declared.gate_word.GateWord.{GateWord}
use Rattle.space_map.specs.AreaWord.{decode_area}
use Rattle.space_map.specs.GateWord.{decode_gate}
use Rattle.space_map.specs.Spaces.{to_space}
use Rattle.space_map.specs.Table as row
use Rattle.space_map.specs.TableWords.{row_word, HoldsTable, ChangesOnly}
use Rattle.gate_core.specs.declared.passage.Passage.{Passage}
use Rattle.gate_core.specs.declared.passage.Passage.TheVariants.{Look, Attach, Park, Request, Resume, Forwarded, Leave, Clear}
use Rattle.gate_core.specs.declared.passed.Passed.TheVariants as passed
use Rattle.gate_core.specs.declared.reset.Reset.{Reset}
use Rattle.gate_core.specs.declared.flipped.Flipped.{Flipped}
use Rattle.gate_core.specs.declared.flipped.Flipped.TheVariants as flipped
use Rattle.gate_core.specs.declared.flip_stage.FlipStage.{FlipStage}
use Rattle.gate_core.specs.declared.flip_stage.FlipStage.TheVariants.{LoadsGate, LoadsSize, LoadsArea, StoresSize, StoresArea, ResetsWeak, Exchanges, Ended}
use Rattle.gate_core.specs.Gate.{Passing, gate_after, gate_machine}
use Rattle.gate_core.specs.Flip.{Flipping, gate_flipped, next_size, used_in, area_reset, flip_machine}
use Rattle.gate_core.specs.Soundness.{IsSoundPassing, IsSoundFlipping}

-- ---- the gate

-- where the passage may be made
abbrev pub IsAllowed : Passage → GateWord → Type 0
IsAllowed Look gate = gate.request ≡ false
IsAllowed Attach gate = (gate.request ≡ false) × (gate.behind ≡ 0)
IsAllowed Park gate = gate.request ≡ true
IsAllowed Request gate = gate.request ≡ false
IsAllowed (Resume epoch) gate = (gate.request ≡ false) × (gate.behind ≡ 0) × (gate.epoch ≡ epoch)
IsAllowed Forwarded gate = ⊤
IsAllowed Leave gate = ⊤
IsAllowed Clear gate = ⊤

-- where it may not
abbrev pub IsForbidden : Passage → GateWord → Type 0
IsForbidden Look gate = gate.request ≡ true
IsForbidden Attach gate = (gate.request ≡ true) ⊎ (gate.behind ≢ 0)
IsForbidden Park gate = gate.request ≡ false
IsForbidden Request gate = gate.request ≡ true
IsForbidden (Resume epoch) gate = (gate.request ≡ true) ⊎ ((gate.behind ≢ 0) ⊎ (gate.epoch ≢ epoch))
IsForbidden Forwarded gate = ⊥
IsForbidden Leave gate = ⊥
IsForbidden Clear gate = ⊥

-- The gate's word allowed the passage, and says then what comes of it, as is told; no other word changes.
pub record PassesGate (p : Passing) (before after : List ℕ) (word : ℕ) : Type 0 where
  pub gate : GateWord
  pub was : decode_gate (row_word p.layout.pages row.Gate before) ≡ Some gate
  pub allowed : IsAllowed p.passage gate
  pub is : decode_gate (row_word p.layout.pages row.Gate after) ≡ Some (gate_after p.passage gate)
  pub tells : word ≡ row_word p.layout.pages row.Gate after
  pub others : ChangesOnly p.layout.pages row.Gate before after

abbrev pub PassagesAreMade : Type 0
PassagesAreMade = (p : Passing) (before after : List ℕ) (word : ℕ) → IsSoundPassing p → HoldsTable p.layout.pages before
    → MakesStep gate_machine p before after (Finished (passed.Went word)) → PassesGate p before after word

-- the gate's word, which is told, forbids the passage; no word changes
pub record ForbidsPassage (p : Passing) (before after : List ℕ) (word : ℕ) : Type 0 where
  pub gate : GateWord
  pub says : decode_gate word ≡ Some gate
  pub forbidden : IsForbidden p.passage gate
  pub tells : word ≡ row_word p.layout.pages row.Gate before
  pub stays : after ≡ before

abbrev pub HinderedPassagesShowIt : Type 0
HinderedPassagesShowIt = (p : Passing) (before after : List ℕ) (word : ℕ)
    → MakesStep gate_machine p before after (Finished (passed.NotYet word)) → ForbidsPassage p before after word

-- ---- the flip

-- the pages in use of an epoch's space
abbrev pub size_in : Flipping → (epoch : ℕ) → List ℕ → ℕ
size_in f epoch words = row_word f.layout.pages (row.Size (to_space epoch)) words

-- The gate and the size that the flip has read stand, the words in use that it counted are those in use, and the next size is
-- the one that follows.
pub record CountsUsed (f : Flipping) (reset : Reset) (words : List ℕ) : Type 0 where
  pub gate : decode_gate (row_word f.layout.pages row.Gate words) ≡ Some reset.gate
  pub size : size_in f f.epoch words ≡ reset.size
  pub area : AreaWord
  pub read : decode_area (row_word f.layout.pages (row.Area (to_space f.epoch)) words) ≡ Some area
  pub used : reset.used ≡ used_in reset.size area
  pub next : reset.next ≡ next_size f.layout.pages f.seen reset.size area.front

-- the size of the other space is the next one
abbrev pub IsSized : Flipping → Reset → List ℕ → Type 0
IsSized f reset words = size_in f (f.epoch + 1) words ≡ reset.next

-- its area is that of an empty one
abbrev pub IsReset : Flipping → Reset → List ℕ → Type 0
IsReset f reset words = decode_area (row_word f.layout.pages (row.Area (to_space (f.epoch + 1))) words) ≡ Some (area_reset reset.next reset.used)

-- no cell is linked
abbrev pub IsUnlinked : Flipping → List ℕ → Type 0
IsUnlinked f words = row_word f.layout.pages row.WeakHead words ≡ 0

-- what the flip has read stands, and so does what it has stored
abbrev pub StandsAt : Flipping → FlipStage → List ℕ → Type 0
StandsAt f LoadsGate words = ⊤
StandsAt f (LoadsSize gate) words = decode_gate (row_word f.layout.pages row.Gate words) ≡ Some gate
StandsAt f (LoadsArea gate size) words = (decode_gate (row_word f.layout.pages row.Gate words) ≡ Some gate) × (size_in f f.epoch words ≡ size)
StandsAt f (StoresSize reset) words = CountsUsed f reset words
StandsAt f (StoresArea reset) words = CountsUsed f reset words × IsSized f reset words
StandsAt f (ResetsWeak reset) words = CountsUsed f reset words × IsSized f reset words × IsReset f reset words
StandsAt f (Exchanges reset) words = CountsUsed f reset words × IsSized f reset words × IsReset f reset words × IsUnlinked f words
StandsAt f (Ended result) words = ⊤

-- while mutators are stopped and none is behind, nobody else changes these words; and the flip's own steps keep it
abbrev pub FlipsKeepWhatTheyRead : Type 0
FlipsKeepWhatTheyRead = (f : Flipping) (before after : List ℕ) (turn : Turn Flipped) → IsSoundFlipping f → HoldsTable f.layout.pages before
    → StandsAt f f.stage before → MakesStep flip_machine f before after turn
    → StandsAt f (after_next_step flip_machine f before).stage after

-- Nobody ran and nobody was behind; then the epoch is the next one, all that are live are behind, and no flip is requested any
-- more. The other space has the size that follows from that of the one that was copied into until now, is empty, and owes as
-- many words as are in use in that one. No cell is linked.
pub record FlipsHeap (f : Flipping) (before after : List ℕ) : Type 0 where
  pub gate : GateWord
  pub was : decode_gate (row_word f.layout.pages row.Gate before) ≡ Some gate
  pub still : (gate.running ≡ 0) × (gate.behind ≡ 0)
  pub is : decode_gate (row_word f.layout.pages row.Gate after) ≡ Some (gate_flipped gate)
  pub area : AreaWord
  pub in_use : decode_area (row_word f.layout.pages (row.Area (to_space f.epoch)) after) ≡ Some area
  pub size : size_in f (f.epoch + 1) after ≡ next_size f.layout.pages f.seen (size_in f f.epoch after) area.front
  pub empty : decode_area (row_word f.layout.pages (row.Area (to_space (f.epoch + 1))) after)
      ≡ Some (area_reset (size_in f (f.epoch + 1) after) (used_in (size_in f f.epoch after) area))
  pub unlinked : IsUnlinked f after
  pub others : ChangesOnly f.layout.pages row.Gate before after

abbrev pub FlipsAreMade : Type 0
FlipsAreMade = (f : Flipping) (before after : List ℕ) (asked : ℕ) → IsSoundFlipping f → HoldsTable f.layout.pages before
    → StandsAt f f.stage before → MakesStep flip_machine f before after (Finished (flipped.Went asked))
    → FlipsHeap f before after × (asked ≡ f.asked)

-- the gate's word, which is told, says that a mutator runs or is behind; no word changes
pub record ForbidsFlip (f : Flipping) (before after : List ℕ) (word : ℕ) : Type 0 where
  pub gate : GateWord
  pub says : decode_gate word ≡ Some gate
  pub forbidden : (gate.running ≢ 0) ⊎ (gate.behind ≢ 0)
  pub tells : word ≡ row_word f.layout.pages row.Gate before
  pub stays : after ≡ before

abbrev pub HinderedFlipsShowIt : Type 0
HinderedFlipsShowIt = (f : Flipping) (before after : List ℕ) (word : ℕ)
    → MakesStep flip_machine f before after (Finished (flipped.NotYet word)) → ForbidsFlip f before after word
