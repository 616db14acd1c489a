-- A reply that takes a machine on leaves it less to do: of passages, flips and openings. Copies have a file of their own; allocations, accesses,
-- scans, claims and rounds are told of in their crates.
use Rattle.std.proofs.Common.{◌≡◌, ℕ, ◌<◌, Bool, true, false, cond, Option, Some, None, is_some, arith}
use Rattle.atom_store.specs.declared.reply.Reply.{Reply}
use Rattle.atom_store.specs.declared.reply.Reply.TheVariants.{Value, Done, Won}
use Rattle.space_map.specs.declared.area_word.AreaWord.{AreaWord}
use Rattle.space_map.specs.declared.gate_word.GateWord.{GateWord}
use Rattle.space_map.specs.AreaWord.{decode_area}
use Rattle.space_map.specs.GateWord.{decode_gate}
use Rattle.gate_core.specs.declared.flip_stage.FlipStage.{FlipStage}
use Rattle.gate_core.specs.declared.flip_stage.FlipStage.TheVariants as flip_stage
use Rattle.gate_core.specs.declared.flipped.Flipped.TheVariants as flipped
use Rattle.gate_core.specs.declared.gate_stage.GateStage.{GateStage}
use Rattle.gate_core.specs.declared.gate_stage.GateStage.TheVariants as gate_stage
use Rattle.gate_core.specs.declared.passage.Passage.{Passage}
use Rattle.gate_core.specs.declared.passage.Passage.TheVariants.{Look}
use Rattle.gate_core.specs.declared.passed.Passed.TheVariants as passed
use Rattle.gate_core.specs.Flip as flip
use Rattle.gate_core.specs.Gate as gate
use Rattle.page_slots.specs.declared.open_stage.OpenStage.{OpenStage}
use Rattle.page_slots.specs.declared.open_stage.OpenStage.TheVariants as open_stage
use Rattle.page_slots.specs.Open as open_page

-- ---- passages

by_allowed : (passage : Passage) (word : ℕ) (read : GateWord) (b : Bool) → gate.left_at passage (cond b (gate.allowed passage word read) (gate_stage.Ended (passed.NotYet word))) < gate.left_before passage
by_allowed Look word read true = omega arith
by_allowed _ word read true = omega arith
by_allowed _ word read _ = omega arith

by_gate : (passage : Passage) (word : ℕ) (o : Option GateWord) → is_some o ≡ true → gate.left_at passage (gate.looked passage word o) < gate.left_before passage
by_gate passage word (Some read) t = by_allowed passage word read (gate.allows passage read)
by_gate passage word None t = absurd (cc)

pub passages_lower : (passage : Passage) (stage : GateStage) (r : Reply) → gate.advances_at stage r ≡ true → gate.left_at passage (gate.next_stage passage stage r) < gate.left_at passage stage
passages_lower passage gate_stage.Loads (Value word) t = by_gate passage word (decode_gate word) t
passages_lower passage (gate_stage.Exchanges read) Won t = omega arith
passages_lower passage stage r t = cc

-- ---- flips

by_still : (word : ℕ) (read : GateWord) (b : Bool) → flip.left_at (cond b (flip_stage.LoadsSize read) (flip_stage.Ended (flipped.NotYet word))) < 7
by_still word read true = omega arith
by_still word read false = omega arith

by_flip_gate : (word : ℕ) (o : Option GateWord) → is_some o ≡ true → flip.left_at (flip.looked word o) < 7
by_flip_gate word (Some read) t = by_still word read (flip.is_still read)
by_flip_gate word None t = absurd (cc)

by_flip_area : (n : ℕ) (seen : Bool) (read : GateWord) (size : ℕ) (o : Option AreaWord) → is_some o ≡ true → flip.left_at (flip.read_area n seen read size o) < 5
by_flip_area n seen read size (Some area) t = omega arith
by_flip_area n seen read size None t = absurd (cc)

pub flips_lower : (f : flip.Flipping) (stage : FlipStage) (r : Reply) → flip.advances_at stage r ≡ true → flip.left_at (flip.next_stage f stage r) < flip.left_at stage
flips_lower f flip_stage.LoadsGate (Value word) t = by_flip_gate word (decode_gate word) t
flips_lower f (flip_stage.LoadsSize read) (Value word) t = omega arith
flips_lower f (flip_stage.LoadsArea read size) (Value word) t = by_flip_area f.layout.pages f.seen read size (decode_area word) t
flips_lower f (flip_stage.StoresSize reset) Done t = omega arith
flips_lower f (flip_stage.StoresArea reset) Done t = omega arith
flips_lower f (flip_stage.ResetsWeak reset) Done t = omega arith
flips_lower f (flip_stage.Exchanges reset) Won t = omega arith
flips_lower f stage r t = cc

-- ---- openings

pub openings_lower : (stage : OpenStage) (r : Reply) → open_page.advances_at stage r ≡ true → open_page.left_at (open_page.next_stage stage r) < open_page.left_at stage
openings_lower open_stage.StoresOpen Done t = omega arith
openings_lower stage r t = cc
