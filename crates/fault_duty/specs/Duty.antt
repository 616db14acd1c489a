-- A round of the duty, step by step: what it wants, what a reply makes of it, what it comes to, and what it has left.
use Rattle.std.specs.Prelude.{ℕ, ◌+◌, ◌-◌, ◌*◌, ◌%◌, ◌==◌, ◌&&◌, Bool, true, false, Option, Some, None, is_some, option_map, nat_lt, nat_le, if◌then◌else◌}
use Rattle.atom_store.specs.declared.step.Step.{Step}
use Rattle.atom_store.specs.declared.reply.Reply.{Reply}
use Rattle.atom_store.specs.declared.reply.Reply.TheVariants.{Value, Won, Lost}
use Rattle.atom_store.specs.declared.turn.Turn.{Turn}
use Rattle.atom_store.specs.declared.turn.Turn.TheVariants.{More, Finished}
use Rattle.atom_store.specs.Machine.{Machine}
use Rattle.atom_store.specs.StepOn.{StepOn, Load, Exchange, step_at}
use Rattle.space_map.specs.declared.area_word.AreaWord.{AreaWord}
use Rattle.space_map.specs.declared.gate_word.GateWord.{GateWord}
use Rattle.space_map.specs.declared.page_word.PageWord.{PageWord}
use Rattle.space_map.specs.declared.page_word.PageWord.TheVariants as page_word
use Rattle.space_map.specs.AreaWord.{decode_area}
use Rattle.space_map.specs.GateWord.{decode_gate}
use Rattle.space_map.specs.PageWord.{encode_page, decode_page}
use Rattle.space_map.specs.Spaces.{Layout, to_space, space_start, page_of, board_page, first_word}
use Rattle.space_map.specs.Table.{Row, Gate, Traced, Area, Page, place_of}
use Rattle.page_slots.specs.declared.claimed.Claimed.{Claimed}
use Rattle.page_slots.specs.declared.claimed.Claimed.TheVariants as claimed
use Rattle.page_slots.specs.Claim.{Claiming}
use Rattle.page_slots.specs.Claim as claim
use Rattle.cell_walk.specs.declared.walk_end.WalkEnd.{WalkEnd}
use Rattle.cell_walk.specs.declared.walk_end.WalkEnd.TheVariants.{Passed, Another}
use Rattle.cell_walk.specs.Left as walk_steps
use Rattle.cell_walk.specs.Taken as walk_replies
use Rattle.cell_walk.specs.Walking.{Walking}
use Rattle.cell_walk.specs.Walking as walk
use Rattle.fault_duty.specs.declared.caller.Caller.{Caller}
use Rattle.fault_duty.specs.declared.caller.Caller.TheVariants.{Faulted, Allocates, Scans}
use Rattle.fault_duty.specs.declared.findings.Findings.{Findings}
use Rattle.fault_duty.specs.declared.wanted_page.WantedPage.{WantedPage}
use Rattle.fault_duty.specs.declared.choice.Choice.{Choice}
use Rattle.fault_duty.specs.declared.end_look.EndLook.{EndLook}
use Rattle.fault_duty.specs.declared.page_state.PageState.{PageState}
use Rattle.fault_duty.specs.declared.page_state.PageState.TheVariants.{Opened, Scanned, Waits, Past}
use Rattle.fault_duty.specs.declared.round_end.RoundEnd.{RoundEnd}
use Rattle.fault_duty.specs.declared.round_end.RoundEnd.TheVariants as round_end
use Rattle.fault_duty.specs.declared.round_end.RoundEnd.TheVariants.{ScanPage, ScanInPlace, Marked, AllLeft, NothingNow}
use Rattle.fault_duty.specs.declared.duty_stage.DutyStage.{DutyStage}
use Rattle.fault_duty.specs.declared.duty_stage.DutyStage.TheVariants.{LoadsGate, LoadsTraced, LoadsWanted, LoadsFrontFor, LoadsFront, LoadsPage, Claims, EndGate, EndArea, EndPage, EndFilling, EndAreaAgain, Walks, Traces, Ended}

-- a round by a worker in an epoch, for this caller; a scanner's epoch is the gate's, once that is read
pub record Round : Type 0 where
  pub layout : Layout
  pub caller : Caller
  pub epoch : ℕ
  pub worker : ℕ
  pub stage : DutyStage

abbrev pub begun : Layout → Caller → (epoch worker : ℕ) → Round
begun layout caller epoch worker = record { layout = layout; caller = caller; epoch = epoch; worker = worker; stage = LoadsGate }

-- a round that is about to make its first step
abbrev pub is_first : DutyStage → Bool
is_first LoadsGate = true
is_first stage = false

-- for whom a mutator's round is made
abbrev pub caller_for : Option ℕ → Caller
caller_for (Some page) = Faulted page
caller_for None = Allocates

-- ---- pages

-- which of these an epoch of a page's word is to a round of an epoch: its own, an earlier or a later one
abbrev pub state_by : (own found : ℕ) → PageState → PageState
state_by own found same = if found == own then same else (if nat_lt own found then Past else Waits)

-- what a page's word says to a round of an epoch
abbrev pub state_of : PageWord → (epoch : ℕ) → PageState
state_of page_word.Unset epoch = Waits
state_of (page_word.Open found) epoch = state_by epoch found Opened
state_of (page_word.Scanning found worker) epoch = state_by epoch found Scanned

-- the first word and the first page of the space that is copied into
abbrev pub to_start : Round → ℕ
to_start d = space_start d.layout.pages (to_space d.epoch)

abbrev pub to_page : Round → ℕ
to_page d = page_of (to_start d)

-- the page lies wholly below FRONT
abbrev pub is_full : (front page : ℕ) → Bool
is_full front page = nat_le (first_word (page + 1)) front

-- the order in which pages are chosen: the board first, then the space's pages upward
abbrev pub page_after : Round → (page : ℕ) → ℕ
page_after d page = if page == board_page d.layout.pages then to_page d else page + 1

-- the address of FRONT
abbrev pub front_of : Round → AreaWord → ℕ
front_of d area = to_start d + area.front

-- ---- the next step

-- by the row that it is on
abbrev pub wants_at : Round → DutyStage → Option (StepOn Row)
wants_at d LoadsGate = Some (Load Gate)
wants_at d (LoadsTraced hindrance) = Some (Load Traced)
wants_at d (LoadsWanted seen page) = Some (Load (Page page))
wants_at d (LoadsFrontFor seen wanted) = Some (Load (Area (to_space d.epoch)))
wants_at d (LoadsFront seen) = Some (Load (Area (to_space d.epoch)))
wants_at d (LoadsPage choice page) = Some (Load (Page page))
wants_at d (Claims c) = claim.wants_at c c.stage
wants_at d (EndGate traced) = Some (Load Gate)
wants_at d (EndArea traced) = Some (Load (Area (to_space d.epoch)))
wants_at d (EndPage look page) = Some (Load (Page page))
wants_at d (EndFilling look) = Some (Load (Page (page_of look.front)))
wants_at d (EndAreaAgain look filling) = Some (Load (Area (to_space d.epoch)))
wants_at d (Walks traced v) = walk.wants_at v.epoch v.stage
wants_at d (Traces traced) = Some (Exchange Traced traced (d.epoch + 1))
wants_at d (Ended result) = None

-- a claim and a walk have a layout of their own
abbrev pub wanted_at : Round → DutyStage → Option Step
wanted_at d (Claims c) = claim.wanted c
wanted_at d (Walks traced v) = walk.wanted v
wanted_at d stage = option_map (step_at (place_of d.layout.pages)) (wants_at d stage)

abbrev pub wanted : Round → Option Step
wanted d = wanted_at d d.stage

-- ---- what a reply makes of it

abbrev pub at_stage : Round → DutyStage → Round
at_stage d stage = record d { stage = stage }

-- the gate's word, where a mutator is behind
abbrev pub hindrance_in : (word : ℕ) → GateWord → Option ℕ
hindrance_in word gate = if gate.behind == 0 then None else Some word

-- a mutator's round, by the gate: another epoch ends it
abbrev pub mutator_at_gate : Round → (word : ℕ) → GateWord → Round
mutator_at_gate d word gate =
    at_stage d (if gate.epoch == d.epoch then LoadsTraced (hindrance_in word gate) else Ended (NothingNow word))

-- a scanner's: it takes the epoch, and ends with the last mutator
abbrev pub scanner_at_gate : Round → (mutators word : ℕ) → GateWord → Round
scanner_at_gate d mutators word gate =
    if gate.left == mutators then at_stage d (Ended (AllLeft word))
    else record d { epoch = gate.epoch; stage = LoadsTraced (hindrance_in word gate) }

abbrev pub looked_by_gate : Round → Caller → (word : ℕ) → GateWord → Round
looked_by_gate d (Faulted page) word gate = mutator_at_gate d word gate
looked_by_gate d Allocates word gate = mutator_at_gate d word gate
looked_by_gate d (Scans mutators) word gate = scanner_at_gate d mutators word gate

abbrev pub looked_at_gate : Round → (word : ℕ) → Option GateWord → Round
looked_at_gate d word (Some gate) = looked_by_gate d d.caller word gate
looked_at_gate d word None = at_stage d LoadsGate

-- where to look first
abbrev pub first_look : Caller → Findings → DutyStage
first_look (Faulted page) seen = LoadsWanted seen page
first_look Allocates seen = LoadsFront seen
first_look (Scans mutators) seen = LoadsFront seen

abbrev pub looked_at_traced : Round → Option ℕ → (word : ℕ) → DutyStage
looked_at_traced d hindrance word =
    if word == d.epoch + 1 then Ended round_end.Traced else first_look d.caller (record { traced = word; hindrance = hindrance })

-- the claim of a page by what its word says
abbrev pub claim_of : Round → (page : ℕ) → PageWord → (in_place : Bool) → DutyStage
claim_of d page says in_place = Claims (claim.begun d.layout page d.epoch d.worker says in_place)

-- a page whose word says this is claimed, if that is of an earlier epoch
abbrev pub claim_by_state : Round → (page : ℕ) → PageWord → (in_place : Bool) → PageState → DutyStage
claim_by_state d page says in_place Waits = claim_of d page says in_place
claim_by_state d page says in_place Past = Ended (NothingNow (encode_page says))
claim_by_state d page says in_place Opened = Ended (NothingNow (encode_page says))
claim_by_state d page says in_place Scanned = Ended (NothingNow (encode_page says))

-- the page that is wanted, which nobody has opened or scanned: the board is always full
abbrev pub wanted_one : Round → Findings → WantedPage → DutyStage
wanted_one d seen w =
    if w.page == board_page d.layout.pages then claim_by_state d w.page w.says false (state_of w.says d.epoch) else LoadsFrontFor seen w

abbrev pub wanted_by : Round → Findings → (page word : ℕ) → PageWord → PageState → DutyStage
wanted_by d seen page word says Opened = Ended (NothingNow word)
wanted_by d seen page word says Scanned = Ended (NothingNow word)
wanted_by d seen page word says Waits = wanted_one d seen (record { page = page; says = says })
wanted_by d seen page word says Past = wanted_one d seen (record { page = page; says = says })

abbrev pub looked_at_wanted : Round → Findings → (page word : ℕ) → Option PageWord → DutyStage
looked_at_wanted d seen page word (Some says) = wanted_by d seen page word says (state_of says d.epoch)
looked_at_wanted d seen page word None = LoadsWanted seen page

-- a wanted page that isn't full is left to the choice
abbrev pub found_front_for : Round → Findings → WantedPage → Option AreaWord → DutyStage
found_front_for d seen w (Some area) =
    if is_full (front_of d area) w.page then claim_by_state d w.page w.says false (state_of w.says d.epoch) else LoadsFront seen
found_front_for d seen w None = LoadsFrontFor seen w

abbrev pub found_front : Round → Findings → Option AreaWord → DutyStage
found_front d seen (Some area) = LoadsPage (record { seen = seen; front = front_of d area }) (board_page d.layout.pages)
found_front d seen None = LoadsFront seen

-- after the last full page the end of the area is looked at, if nothing forbids it
abbrev pub after_choice : Findings → Option ℕ → DutyStage
after_choice seen (Some word) = Ended (NothingNow word)
after_choice seen None = EndGate seen.traced

-- after a page that is not to be claimed, the next full one
abbrev pub passed_page : Round → Choice → (page : ℕ) → DutyStage
passed_page d choice page =
    if is_full choice.front (page_after d page) then LoadsPage choice (page_after d page) else after_choice choice.seen choice.seen.hindrance

-- a page that another scans, whose word forbids to end the tracing
abbrev pub hindered : Choice → (word : ℕ) → Choice
hindered choice word = record { seen = record { traced = choice.seen.traced; hindrance = Some word }; front = choice.front }

abbrev pub chosen_by : Round → Choice → (page word : ℕ) → PageWord → PageState → DutyStage
chosen_by d choice page word says Opened = passed_page d choice page
chosen_by d choice page word says Scanned = passed_page d (hindered choice word) page
chosen_by d choice page word says Waits = claim_of d page says false
chosen_by d choice page word says Past = Ended (NothingNow word)

abbrev pub looked_at_page : Round → Choice → (page word : ℕ) → Option PageWord → DutyStage
looked_at_page d choice page word (Some says) = chosen_by d choice page word says (state_of says d.epoch)
looked_at_page d choice page word None = LoadsPage choice page

-- what a claim comes to
abbrev pub claim_comes_to : Claiming → Claimed → RoundEnd
claim_comes_to c claimed.Won = if c.in_place then ScanInPlace c.page else ScanPage c.page
claim_comes_to c (claimed.Taken word) = NothingNow word

abbrev pub claim_went : Claiming → Turn Claimed → DutyStage
claim_went c More = Claims c
claim_went c (Finished result) = Ended (claim_comes_to c result)

abbrev pub ended_gate : Round → (traced word : ℕ) → Option GateWord → DutyStage
ended_gate d traced word (Some gate) = if (gate.epoch == d.epoch) && (gate.behind == 0) then EndArea traced else Ended (NothingNow word)
ended_gate d traced word None = EndGate traced

abbrev pub ended_area : Round → (traced : ℕ) → Option AreaWord → DutyStage
ended_area d traced (Some area) = EndPage (record { traced = traced; front = front_of d area }) (board_page d.layout.pages)
ended_area d traced None = EndArea traced

-- after the last full page the filling page, if there is one
abbrev pub after_pages : Round → EndLook → DutyStage
after_pages d look = if look.front % 64 == 0 then EndAreaAgain look (page_word.Open d.epoch) else EndFilling look

abbrev pub ended_page : Round → EndLook → (page word : ℕ) → DutyStage
ended_page d look page word =
    if word == encode_page (page_word.Open d.epoch)
    then (if is_full look.front (page_after d page) then EndPage look (page_after d page) else after_pages d look)
    else Ended (NothingNow word)

abbrev pub filling_by : EndLook → (word : ℕ) → PageWord → PageState → DutyStage
filling_by look word says Scanned = Ended (NothingNow word)
filling_by look word says Opened = EndAreaAgain look says
filling_by look word says Waits = EndAreaAgain look says
filling_by look word says Past = EndAreaAgain look says

abbrev pub looked_at_filling : Round → EndLook → (word : ℕ) → Option PageWord → DutyStage
looked_at_filling d look word (Some says) = filling_by look word says (state_of says d.epoch)
looked_at_filling d look word None = EndFilling look

-- FRONT still stands: all is open, and the walk over the chain of cells begins, or the filling page is to be claimed
abbrev pub ends_by : Round → EndLook → PageWord → PageState → DutyStage
ends_by d look filling Opened = Walks look.traced (walk.begun d.layout d.epoch)
ends_by d look filling Waits = claim_by_state d (page_of look.front) filling true Waits
ends_by d look filling Past = claim_by_state d (page_of look.front) filling true Past
ends_by d look filling Scanned = claim_by_state d (page_of look.front) filling true Scanned

abbrev pub ended_area_again : Round → EndLook → PageWord → (word : ℕ) → Option AreaWord → DutyStage
ended_area_again d look filling word (Some area) =
    if front_of d area == look.front then ends_by d look filling (state_of filling d.epoch) else Ended (NothingNow word)
ended_area_again d look filling word None = EndAreaAgain look filling

-- what the walk comes to: once it has passed all cells, TRACED is to be exchanged; another worker's turn ends the round
abbrev pub walk_went : (traced : ℕ) → Walking → Turn WalkEnd → DutyStage
walk_went traced v More = Walks traced v
walk_went traced v (Finished Passed) = Traces traced
walk_went traced v (Finished (Another word)) = Ended (NothingNow word)

abbrev pub taken_at : Round → DutyStage → Reply → Round
taken_at d LoadsGate (Value word) = looked_at_gate d word (decode_gate word)
taken_at d (LoadsTraced hindrance) (Value word) = at_stage d (looked_at_traced d hindrance word)
taken_at d (LoadsWanted seen page) (Value word) = at_stage d (looked_at_wanted d seen page word (decode_page word))
taken_at d (LoadsFrontFor seen w) (Value word) = at_stage d (found_front_for d seen w (decode_area word))
taken_at d (LoadsFront seen) (Value word) = at_stage d (found_front d seen (decode_area word))
taken_at d (LoadsPage choice page) (Value word) = at_stage d (looked_at_page d choice page word (decode_page word))
taken_at d (Claims c) answer = at_stage d (claim_went (claim.taken c answer) (claim.told (claim.taken c answer)))
taken_at d (EndGate traced) (Value word) = at_stage d (ended_gate d traced word (decode_gate word))
taken_at d (EndArea traced) (Value word) = at_stage d (ended_area d traced (decode_area word))
taken_at d (EndPage look page) (Value word) = at_stage d (ended_page d look page word)
taken_at d (EndFilling look) (Value word) = at_stage d (looked_at_filling d look word (decode_page word))
taken_at d (EndAreaAgain look filling) (Value word) = at_stage d (ended_area_again d look filling word (decode_area word))
taken_at d (Walks traced v) answer = at_stage d (walk_went traced (walk_replies.taken v answer) (walk_replies.told (walk_replies.taken v answer).stage))
taken_at d (Traces traced) Won = at_stage d (Ended Marked)
taken_at d (Traces traced) (Lost word) = at_stage d (Ended (NothingNow word))
taken_at d stage answer = d

abbrev pub taken : Round → Reply → Round
taken d answer = taken_at d d.stage answer

-- ---- what it tells

abbrev pub told_at : DutyStage → Turn RoundEnd
told_at (Ended result) = Finished result
told_at stage = More

abbrev pub told : Round → Turn RoundEnd
told d = told_at d.stage

-- the round as a machine
abbrev pub duty_machine : Machine Round RoundEnd
duty_machine = record { wanted = wanted; taken = taken; told = told }

-- ---- the steps that are left

-- the pages from this one on, in their order: the board, and the space's
abbrev pub pages_left : Round → (page : ℕ) → ℕ
pages_left d page = if page == board_page d.layout.pages then d.layout.pages + 1 else to_page d + d.layout.pages - page

-- a walk that has done nothing yet has so many
abbrev pub walk_left : Round → ℕ
walk_left d = walk_steps.left (walk.begun d.layout d.epoch)

abbrev pub left_at : Round → DutyStage → ℕ
left_at d LoadsGate = 2 * d.layout.pages + (claim.longest + 6) + walk_left d
left_at d (LoadsTraced hindrance) = 2 * d.layout.pages + (claim.longest + 5) + walk_left d
left_at d (LoadsWanted seen page) = 2 * d.layout.pages + (claim.longest + 4) + walk_left d
left_at d (LoadsFrontFor seen wanted) = 2 * d.layout.pages + (claim.longest + 3) + walk_left d
left_at d (LoadsFront seen) = 2 * d.layout.pages + (claim.longest + 2) + walk_left d
left_at d (LoadsPage choice page) = pages_left d page + d.layout.pages + claim.longest + walk_left d
left_at d (Claims c) = claim.left c
left_at d (EndGate traced) = d.layout.pages + 6 + walk_left d
left_at d (EndArea traced) = d.layout.pages + 5 + walk_left d
left_at d (EndPage look page) = pages_left d page + 3 + walk_left d
left_at d (EndFilling look) = 3 + walk_left d
left_at d (EndAreaAgain look filling) = 2 + walk_left d
left_at d (Walks traced v) = walk_steps.left v + 1
left_at d (Traces traced) = 1
left_at d (Ended result) = 0

abbrev pub left : Round → ℕ
left d = left_at d d.stage

-- the reply is one to the step that it wants, and takes it on
abbrev pub advances_at : DutyStage → Reply → Bool
advances_at LoadsGate (Value word) = is_some (decode_gate word)
advances_at (LoadsTraced hindrance) (Value word) = true
advances_at (LoadsWanted seen page) (Value word) = is_some (decode_page word)
advances_at (LoadsFrontFor seen w) (Value word) = is_some (decode_area word)
advances_at (LoadsFront seen) (Value word) = is_some (decode_area word)
advances_at (LoadsPage choice page) (Value word) = is_some (decode_page word)
advances_at (Claims c) answer = claim.advances c answer
advances_at (EndGate traced) (Value word) = is_some (decode_gate word)
advances_at (EndArea traced) (Value word) = is_some (decode_area word)
advances_at (EndPage look page) (Value word) = true
advances_at (EndFilling look) (Value word) = is_some (decode_page word)
advances_at (EndAreaAgain look filling) (Value word) = is_some (decode_area word)
advances_at (Walks traced v) answer = walk_steps.advances v.stage answer
advances_at (Traces traced) Won = true
advances_at (Traces traced) (Lost word) = true
advances_at stage answer = false

abbrev pub advances : Round → Reply → Bool
advances d answer = advances_at d.stage answer
