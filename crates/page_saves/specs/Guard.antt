-- The look at what is said of a page before a word of it is written, step by step: what it wants, what a reply makes of it, what it
-- comes to, and what it has left.
use Rattle.std.specs.Prelude.{ℕ, ◌+◌, ◌*◌, Bool, true, false, Option, Some, None, option_map}
use Rattle.atom_store.specs.declared.step.Step.{Step}
use Rattle.atom_store.specs.declared.reply.Reply.{Reply}
use Rattle.atom_store.specs.declared.reply.Reply.TheVariants.{Value, Won}
use Rattle.atom_store.specs.declared.turn.Turn.{Turn}
use Rattle.atom_store.specs.declared.turn.Turn.TheVariants.{More, Finished}
use Rattle.atom_store.specs.Machine.{Machine}
use Rattle.atom_store.specs.StepOn.{StepOn, Load, step_at}
use Rattle.space_map.specs.declared.save_word.SaveWord.{SaveWord}
use Rattle.space_map.specs.declared.spaces.TheConstants.{PAGE_WORDS}
use Rattle.space_map.specs.SaveWord.{decode_save}
use Rattle.space_map.specs.Spaces.{Layout}
use Rattle.space_map.specs.Table.{SaveOf}
use Rattle.page_saves.specs.declared.guard_stage.GuardStage.{GuardStage}
use Rattle.page_saves.specs.declared.guard_stage.GuardStage.TheVariants.{Looks, Saves, Ended}
use Rattle.page_saves.specs.declared.may_write.MayWrite.{MayWrite}
use Rattle.page_saves.specs.declared.save_end.SaveEnd.{SaveEnd}
use Rattle.page_saves.specs.declared.save_end.SaveEnd.TheVariants.{Saved, Taken}
use Rattle.page_saves.specs.declared.save_stage.SaveStage.{SaveStage}
use Rattle.page_saves.specs.declared.save_stage.SaveStage.TheVariants.{Exchanges}
use Rattle.page_saves.specs.declared.save_state.SaveState.{SaveState}
use Rattle.page_saves.specs.declared.save_state.SaveState.TheVariants.{Waits, Copying, Kept, Past}
use Rattle.page_saves.specs.Save.{PageSaving}
use Rattle.page_saves.specs.Save as save
use Rattle.page_saves.specs.SaveState.{state_of}
use Rattle.space_map.specs.WholeTable.{WholeRow, Behind, whole_place_of}

-- the look before a word of an open page is written, by a worker while this checkpoint runs
pub record Guarding : Type 0 where
  pub layout : Layout
  pub page : ℕ
  pub number : ℕ
  pub worker : ℕ
  pub stage : GuardStage

abbrev pub begun : Layout → (page number worker : ℕ) → Guarding
begun layout page number worker = record { layout = layout; page = page; number = number; worker = worker; stage = Looks }

-- ---- the next step

-- by the row that it is on
abbrev pub wants_at : Guarding → GuardStage → Option (StepOn WholeRow)
wants_at g Looks = Some (Load (Behind (SaveOf g.page)))
wants_at g (Saves s) = save.wants_at s s.stage
wants_at g (Ended result) = None

-- a save has a layout of its own
abbrev pub wanted_at : Guarding → GuardStage → Option Step
wanted_at g (Saves s) = save.wanted s
wanted_at g stage = option_map (step_at (whole_place_of g.layout.pages)) (wants_at g stage)

abbrev pub wanted : Guarding → Option Step
wanted g = wanted_at g g.stage

-- ---- what a reply makes of it

-- a page that waits is saved, and one that another worker saves is looked at again; none is of a later checkpoint
abbrev pub looked_by : Guarding → SaveWord → SaveState → GuardStage
looked_by g says Waits = Saves (save.begun g.layout g.page says g.number g.worker)
looked_by g says Copying = Looks
looked_by g says Kept = Ended (record {})
looked_by g says Past = Looks

abbrev pub looked : Guarding → Option SaveWord → GuardStage
looked g (Some says) = looked_by g says (state_of says g.number)
looked g None = Looks

-- what a save comes to: if another worker was first, the page is looked at again
abbrev pub save_comes_to : SaveEnd → GuardStage
save_comes_to Saved = Ended (record {})
save_comes_to (Taken word) = Looks

abbrev pub save_went : PageSaving → Turn SaveEnd → GuardStage
save_went s More = Saves s
save_went s (Finished result) = save_comes_to result

abbrev pub next_stage : Guarding → GuardStage → Reply → GuardStage
next_stage g Looks (Value word) = looked g (decode_save word)
next_stage g (Saves s) answer = save_went (save.taken s answer) (save.told (save.taken s answer))
next_stage g stage answer = stage

abbrev pub taken : Guarding → Reply → Guarding
taken g answer = record g { stage = next_stage g g.stage answer }

-- ---- what it tells

abbrev pub told_at : GuardStage → Turn MayWrite
told_at (Ended result) = Finished result
told_at stage = More

abbrev pub told : Guarding → Turn MayWrite
told g = told_at g.stage

-- the look as a machine
abbrev pub guard_machine : Machine Guarding MayWrite
guard_machine = record { wanted = wanted; taken = taken; told = told }

-- ---- the steps that are left

abbrev pub left_at : GuardStage → ℕ
left_at Looks = 2 * PAGE_WORDS + 3
left_at (Saves s) = save.left s
left_at (Ended result) = 0

abbrev pub left : Guarding → ℕ
left g = left_at g.stage

-- what was read takes it on unless another worker is saving the page, or it can't be there
abbrev pub goes_by : SaveState → Bool
goes_by Waits = true
goes_by Copying = false
goes_by Kept = true
goes_by Past = false

abbrev pub goes_on : (number : ℕ) → Option SaveWord → Bool
goes_on number (Some says) = goes_by (state_of says number)
goes_on number None = false

-- a save takes it on, but where its exchange is lost
abbrev pub save_goes_on : SaveStage → Reply → Bool
save_goes_on Exchanges Won = true
save_goes_on Exchanges answer = false
save_goes_on stage answer = save.advances_at stage answer

-- the reply is one to the step that it wants, and takes it on
abbrev pub advances_at : Guarding → GuardStage → Reply → Bool
advances_at g Looks (Value word) = goes_on g.number (decode_save word)
advances_at g (Saves s) answer = save_goes_on s.stage answer
advances_at g stage answer = false

abbrev pub advances : Guarding → Reply → Bool
advances g answer = advances_at g g.stage answer
