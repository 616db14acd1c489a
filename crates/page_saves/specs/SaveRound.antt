-- A save round, step by step: what it wants, what a reply makes of it, what it comes to, and what it has left.
use Rattle.std.specs.Prelude.{ℕ, ◌+◌, ◌-◌, ◌*◌, ◌^◌, ◌==◌, Bool, true, false, Option, Some, None, is_some, option_map, nat_lt, if◌then◌else◌}
use Rattle.atom_store.specs.declared.step.Step.{Step}
use Rattle.atom_store.specs.declared.reply.Reply.{Reply}
use Rattle.atom_store.specs.declared.reply.Reply.TheVariants.{Value, Won, Lost}
use Rattle.atom_store.specs.declared.turn.Turn.{Turn}
use Rattle.atom_store.specs.declared.turn.Turn.TheVariants.{More, Finished}
use Rattle.atom_store.specs.Machine.{Machine}
use Rattle.atom_store.specs.StepOn.{StepOn, Load, Exchange, step_at}
use Rattle.space_map.specs.declared.gate_word.GateWord.{GateWord}
use Rattle.space_map.specs.declared.page_word.PageWord.TheVariants.{Open}
use Rattle.space_map.specs.declared.save_word.SaveWord.{SaveWord}
use Rattle.space_map.specs.GateWord.{decode_gate}
use Rattle.space_map.specs.PageWord.{encode_page}
use Rattle.space_map.specs.SaveWord.{decode_save}
use Rattle.space_map.specs.Spaces.{Layout, to_space, space_start, page_of, board_page}
use Rattle.space_map.specs.Table.{Gate, SnapNumber, LastSaved, Page, SaveOf}
use Rattle.page_saves.specs.declared.save_caller.SaveCaller.{SaveCaller}
use Rattle.page_saves.specs.declared.save_caller.SaveCaller.TheVariants.{Mutates, Scans}
use Rattle.page_saves.specs.declared.save_end.SaveEnd.{SaveEnd}
use Rattle.page_saves.specs.declared.save_end.SaveEnd.TheVariants as save_end
use Rattle.page_saves.specs.declared.save_round_end.SaveRoundEnd.{SaveRoundEnd}
use Rattle.page_saves.specs.declared.save_round_end.SaveRoundEnd.TheVariants.{NoneRuns, Saved, Marked, NothingNow}
use Rattle.page_saves.specs.declared.save_round_stage.SaveRoundStage.{SaveRoundStage}
use Rattle.page_saves.specs.declared.save_round_stage.SaveRoundStage.TheVariants.{LoadsGate, LoadsSnap, LoadsDone, LoadsGateAgain, LoadsPage, LoadsSave, Saves, ExchangesDone, Ended}
use Rattle.page_saves.specs.declared.save_state.SaveState.{SaveState}
use Rattle.page_saves.specs.declared.save_state.SaveState.TheVariants.{Waits, Copying, Kept, Past}
use Rattle.page_saves.specs.Save.{PageSaving}
use Rattle.page_saves.specs.Save as save
use Rattle.page_saves.specs.SaveState.{state_of}
use Rattle.space_map.specs.WholeTable.{WholeRow, Within, Behind, whole_place_of}

-- a save round by a worker: a scanner's epoch is the gate's, once that is read, and the number is that of the checkpoint begun last,
-- once that is read
pub record SavingRound : Type 0 where
  pub layout : Layout
  pub caller : SaveCaller
  pub epoch : ℕ
  pub number : ℕ
  pub worker : ℕ
  pub stage : SaveRoundStage

-- a mutator's, in its epoch
abbrev pub begun_by_mutator : Layout → (epoch worker : ℕ) → SavingRound
begun_by_mutator layout epoch worker =
    record { layout = layout; caller = Mutates; epoch = epoch; number = 0; worker = worker; stage = LoadsSnap }

-- a scanner's, beside so many mutators
abbrev pub begun_by_scanner : Layout → (mutators worker : ℕ) → SavingRound
begun_by_scanner layout mutators worker =
    record { layout = layout; caller = Scans mutators; epoch = 0; number = 0; worker = worker; stage = LoadsGate }

-- ---- pages

-- the first page of the space that is copied into in an epoch
abbrev pub to_page_in : (pages epoch : ℕ) → ℕ
to_page_in n epoch = page_of (space_start n (to_space epoch))

abbrev pub to_page : SavingRound → ℕ
to_page r = to_page_in r.layout.pages r.epoch

-- the order of pages: the board first, then the space's pages upward
abbrev pub page_after : SavingRound → (page : ℕ) → ℕ
page_after r page = if page == board_page r.layout.pages then to_page r else page + 1

-- ---- the next step

-- by the row that it is on
abbrev pub wants_at : SavingRound → SaveRoundStage → Option (StepOn WholeRow)
wants_at r LoadsGate = Some (Load (Within Gate))
wants_at r LoadsSnap = Some (Load (Within SnapNumber))
wants_at r LoadsDone = Some (Load (Within LastSaved))
wants_at r LoadsGateAgain = Some (Load (Within Gate))
wants_at r (LoadsPage page busy) = Some (Load (Within (Page page)))
wants_at r (LoadsSave page busy) = Some (Load (Behind (SaveOf page)))
wants_at r (Saves s) = save.wants_at s s.stage
wants_at r ExchangesDone = Some (Exchange (Within LastSaved) (r.number - 1) r.number)
wants_at r (Ended result) = None

-- a save has a layout of its own
abbrev pub wanted_at : SavingRound → SaveRoundStage → Option Step
wanted_at r (Saves s) = save.wanted s
wanted_at r stage = option_map (step_at (whole_place_of r.layout.pages)) (wants_at r stage)

abbrev pub wanted : SavingRound → Option Step
wanted r = wanted_at r r.stage

-- ---- what a reply makes of it

abbrev pub at_stage : SavingRound → SaveRoundStage → SavingRound
at_stage r stage = record r { stage = stage }

-- all mutators have left, as a scanner sees it
abbrev pub all_left : SaveCaller → GateWord → Bool
all_left Mutates gate = false
all_left (Scans mutators) gate = gate.left == mutators

abbrev pub looked_at_gate : SavingRound → (word : ℕ) → Option GateWord → SavingRound
looked_at_gate r word (Some gate) =
    if all_left r.caller gate then at_stage r (Ended (NothingNow word)) else record r { epoch = gate.epoch; stage = LoadsSnap }
looked_at_gate r word None = at_stage r LoadsGate

-- the checkpoint's number that a word says, if it is one
abbrev pub number_in : (word : ℕ) → Option ℕ
number_in word = if nat_lt word (2 ^ 32) then Some word else None

abbrev pub found_snap : SavingRound → Option ℕ → SavingRound
found_snap r (Some number) = record r { number = number; stage = LoadsDone }
found_snap r None = at_stage r LoadsSnap

-- the board comes first
abbrev pub first_page : SavingRound → SaveRoundStage
first_page r = LoadsPage (board_page r.layout.pages) None

-- a checkpoint runs: a scanner looks again whether it runs in the epoch
abbrev pub when_one_runs : SavingRound → SaveCaller → SaveRoundStage
when_one_runs r Mutates = first_page r
when_one_runs r (Scans mutators) = LoadsGateAgain

abbrev pub found_done : SavingRound → Option ℕ → SaveRoundStage
found_done r (Some done) = if done == r.number then Ended (NoneRuns done) else when_one_runs r r.caller
found_done r None = LoadsDone

abbrev pub looked_at_gate_again : SavingRound → (word : ℕ) → Option GateWord → SaveRoundStage
looked_at_gate_again r word (Some gate) = if gate.epoch == r.epoch then first_page r else Ended (NothingNow word)
looked_at_gate_again r word None = LoadsGateAgain

-- after the last page, if another worker was found saving one, there is nothing to do now, as the word shows by which it was found
abbrev pub after_pages : (busy : Option ℕ) → SaveRoundStage
after_pages (Some word) = Ended (NothingNow word)
after_pages None = ExchangesDone

-- after a page that isn't to be saved, the next one
abbrev pub passed_page : SavingRound → (page : ℕ) (busy : Option ℕ) → SaveRoundStage
passed_page r page busy =
    if nat_lt (page_after r page) (to_page r + r.layout.pages) then LoadsPage (page_after r page) busy else after_pages busy

-- a page that isn't open in this epoch was not when the checkpoint began
abbrev pub looked_at_page : SavingRound → (page : ℕ) (busy : Option ℕ) (word : ℕ) → SaveRoundStage
looked_at_page r page busy word =
    if word == encode_page (Open r.epoch) then LoadsSave page busy else passed_page r page busy

abbrev pub looked_by : SavingRound → (page : ℕ) (busy : Option ℕ) (word : ℕ) → SaveWord → SaveState → SaveRoundStage
looked_by r page busy word says Waits = Saves (save.begun r.layout page says r.number r.worker)
looked_by r page busy word says Copying = passed_page r page (Some word)
looked_by r page busy word says Kept = passed_page r page busy
looked_by r page busy word says Past = Ended (NothingNow word)

abbrev pub looked_at_save : SavingRound → (page : ℕ) (busy : Option ℕ) (word : ℕ) → Option SaveWord → SaveRoundStage
looked_at_save r page busy word (Some says) = looked_by r page busy word says (state_of says r.number)
looked_at_save r page busy word None = LoadsSave page busy

-- what a save comes to
abbrev pub save_comes_to : SaveEnd → SaveRoundEnd
save_comes_to save_end.Saved = Saved
save_comes_to (save_end.Taken word) = NothingNow word

abbrev pub save_went : PageSaving → Turn SaveEnd → SaveRoundStage
save_went s More = Saves s
save_went s (Finished result) = Ended (save_comes_to result)

abbrev pub taken_at : SavingRound → SaveRoundStage → Reply → SavingRound
taken_at r LoadsGate (Value word) = looked_at_gate r word (decode_gate word)
taken_at r LoadsSnap (Value word) = found_snap r (number_in word)
taken_at r LoadsDone (Value word) = at_stage r (found_done r (number_in word))
taken_at r LoadsGateAgain (Value word) = at_stage r (looked_at_gate_again r word (decode_gate word))
taken_at r (LoadsPage page busy) (Value word) = at_stage r (looked_at_page r page busy word)
taken_at r (LoadsSave page busy) (Value word) = at_stage r (looked_at_save r page busy word (decode_save word))
taken_at r (Saves s) answer = at_stage r (save_went (save.taken s answer) (save.told (save.taken s answer)))
taken_at r ExchangesDone Won = at_stage r (Ended Marked)
taken_at r ExchangesDone (Lost word) = at_stage r (Ended (NothingNow word))
taken_at r stage answer = r

abbrev pub taken : SavingRound → Reply → SavingRound
taken r answer = taken_at r r.stage answer

-- ---- what it tells

abbrev pub told_at : SaveRoundStage → Turn SaveRoundEnd
told_at (Ended result) = Finished result
told_at stage = More

abbrev pub told : SavingRound → Turn SaveRoundEnd
told r = told_at r.stage

-- the round as a machine
abbrev pub save_round_machine : Machine SavingRound SaveRoundEnd
save_round_machine = record { wanted = wanted; taken = taken; told = told }

-- ---- the steps that are left

-- the pages from this one on, in their order: the board, and the space's
abbrev pub pages_left : SavingRound → (page : ℕ) → ℕ
pages_left r page = if page == board_page r.layout.pages then r.layout.pages + 1 else to_page r + r.layout.pages - page

abbrev pub left_at : SavingRound → SaveRoundStage → ℕ
left_at r LoadsGate = 2 * r.layout.pages + 136
left_at r LoadsSnap = 2 * r.layout.pages + 135
left_at r LoadsDone = 2 * r.layout.pages + 134
left_at r LoadsGateAgain = 2 * r.layout.pages + 133
left_at r (LoadsPage page busy) = 2 * pages_left r page + 130
left_at r (LoadsSave page busy) = 2 * pages_left r page + 129
left_at r (Saves s) = save.left s
left_at r ExchangesDone = 1
left_at r (Ended result) = 0

abbrev pub left : SavingRound → ℕ
left r = left_at r r.stage

-- the reply is one to the step that it wants, and takes it on
abbrev pub advances_at : SaveRoundStage → Reply → Bool
advances_at LoadsGate (Value word) = is_some (decode_gate word)
advances_at LoadsSnap (Value word) = nat_lt word (2 ^ 32)
advances_at LoadsDone (Value word) = nat_lt word (2 ^ 32)
advances_at LoadsGateAgain (Value word) = is_some (decode_gate word)
advances_at (LoadsPage page busy) (Value word) = true
advances_at (LoadsSave page busy) (Value word) = is_some (decode_save word)
advances_at (Saves s) answer = save.advances s answer
advances_at ExchangesDone Won = true
advances_at ExchangesDone (Lost word) = true
advances_at stage answer = false

abbrev pub advances : SavingRound → Reply → Bool
advances r answer = advances_at r.stage answer
