-- The claim of a page, step by step: what it wants, what a reply makes of it, what it comes to, and what it has left.
use Rattle.std.specs.Prelude.{ℕ, ◌+◌, ◌-◌, ◌==◌, ◌&&◌, Bool, true, false, Option, Some, None, is_some, option_map, nat_lt, nat_le, if◌then◌else◌}
use Rattle.atom_store.specs.declared.step.Step.{Step}
use Rattle.atom_store.specs.declared.reply.Reply.{Reply}
use Rattle.atom_store.specs.declared.reply.Reply.TheVariants as reply
use Rattle.atom_store.specs.declared.turn.Turn.{Turn}
use Rattle.atom_store.specs.declared.turn.Turn.TheVariants.{More, Finished}
use Rattle.atom_store.specs.Machine.{Machine}
use Rattle.atom_store.specs.StepOn.{StepOn, Load, Exchange, step_at}
use Rattle.space_map.specs.declared.gate_word.GateWord.{GateWord}
use Rattle.space_map.specs.declared.page_word.PageWord.{PageWord}
use Rattle.space_map.specs.declared.page_word.PageWord.TheVariants.{Scanning}
use Rattle.space_map.specs.declared.spaces.TheConstants.{LAST_WORKER}
use Rattle.space_map.specs.GateWord.{decode_gate}
use Rattle.space_map.specs.PageWord.{encode_page}
use Rattle.space_map.specs.Spaces.{Layout, board_page, first_word}
use Rattle.space_map.specs.Table.{Row, Gate, Page, Announce, place_of}
use Rattle.page_slots.specs.declared.claimed.Claimed.{Claimed}
use Rattle.page_slots.specs.declared.claimed.Claimed.TheVariants as claimed
use Rattle.page_slots.specs.declared.claim_stage.ClaimStage.{ClaimStage}
use Rattle.page_slots.specs.declared.claim_stage.ClaimStage.TheVariants.{LooksAtPlace, LooksAtGate, Exchanges, Ended}

-- the claim of a page by a worker in an epoch, by what its word said when it was read, and whether the page is the filling one
pub record Claiming : Type 0 where
  pub layout : Layout
  pub page : ℕ
  pub epoch : ℕ
  pub worker : ℕ
  pub found : PageWord
  pub in_place : Bool
  pub stage : ClaimStage

-- ---- how it begins

-- a copy may still be in progress on a full page: not on the board, and not where the filling page is claimed, since that waits
-- until the board and all full pages are open and nobody is behind, when nobody copies
abbrev pub first_stage : (pages page : ℕ) (in_place : Bool) → ClaimStage
first_stage n page true = Exchanges
first_stage n page false = if page == board_page n then LooksAtGate else LooksAtPlace 0

abbrev pub begun : Layout → (page epoch worker : ℕ) → PageWord → Bool → Claiming
begun layout page epoch worker found in_place = record {
  layout = layout;
  page = page;
  epoch = epoch;
  worker = worker;
  found = found;
  in_place = in_place;
  stage = first_stage layout.pages page in_place;
}

-- ---- the next step

-- by the row that it is on
abbrev pub wants_at : Claiming → ClaimStage → Option (StepOn Row)
wants_at c (LooksAtPlace k) = Some (Load (Announce k))
wants_at c LooksAtGate = Some (Load Gate)
wants_at c Exchanges = Some (Exchange (Page c.page) (encode_page c.found) (encode_page (Scanning c.epoch c.worker)))
wants_at c (Ended result) = None

abbrev pub wanted_at : Claiming → ClaimStage → Option Step
wanted_at c stage = option_map (step_at (place_of c.layout.pages)) (wants_at c stage)

abbrev pub wanted : Claiming → Option Step
wanted c = wanted_at c c.stage

-- ---- what a reply makes of it

-- an announced word, a place and one more, names a place below the end of the page
abbrev pub names_below_end : (page announced : ℕ) → Bool
names_below_end page announced = nat_lt 0 announced && nat_le announced (first_word (page + 1))

-- after a worker's announced place, the next worker's; after the last, the gate
abbrev pub looked_at_place : (page k announced : ℕ) → ClaimStage
looked_at_place page k announced =
    if names_below_end page announced then Ended (claimed.Taken announced) else (if k == LAST_WORKER then LooksAtGate else LooksAtPlace (k + 1))

-- by what the gate's word says
abbrev pub looked_at_gate : (epoch word : ℕ) → Option GateWord → ClaimStage
looked_at_gate epoch word (Some gate) = if gate.epoch == epoch then Exchanges else Ended (claimed.Taken word)
looked_at_gate epoch word None = LooksAtGate

abbrev pub next_stage : Claiming → ClaimStage → Reply → ClaimStage
next_stage c (LooksAtPlace k) (reply.Value word) = looked_at_place c.page k word
next_stage c LooksAtGate (reply.Value word) = looked_at_gate c.epoch word (decode_gate word)
next_stage c Exchanges reply.Won = Ended claimed.Won
next_stage c Exchanges (reply.Lost word) = Ended (claimed.Taken word)
next_stage c stage answer = stage

abbrev pub taken : Claiming → Reply → Claiming
taken c answer = record c { stage = next_stage c c.stage answer }

-- ---- what it tells

abbrev pub told_at : ClaimStage → Turn Claimed
told_at (Ended result) = Finished result
told_at stage = More

abbrev pub told : Claiming → Turn Claimed
told c = told_at c.stage

-- the claim as a machine
abbrev pub claim_machine : Machine Claiming Claimed
claim_machine = record { wanted = wanted; taken = taken; told = told }

-- ---- the steps that are left

-- the most steps of a claim: a look at each announced place, one at the gate, and the exchange
abbrev pub longest : ℕ
longest = LAST_WORKER + 3

abbrev pub left_at : ClaimStage → ℕ
left_at (LooksAtPlace k) = longest - k
left_at LooksAtGate = 2
left_at Exchanges = 1
left_at (Ended result) = 0

abbrev pub left : Claiming → ℕ
left c = left_at c.stage

-- the reply is one to the step that it wants, and takes it on
abbrev pub advances_at : ClaimStage → Reply → Bool
advances_at (LooksAtPlace k) (reply.Value word) = true
advances_at LooksAtGate (reply.Value word) = is_some (decode_gate word)
advances_at Exchanges reply.Won = true
advances_at Exchanges (reply.Lost word) = true
advances_at stage answer = false

abbrev pub advances : Claiming → Reply → Bool
advances c answer = advances_at c.stage answer
