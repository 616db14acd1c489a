-- What a reply makes of the walk, and what the walk then tells.
use Rattle.std.specs.Prelude.{ℕ, ◌+◌, ◌-◌, ◌*◌, ◌==◌, ◌&&◌, ◌||◌, Bool, nat_lt, nat_le, if◌then◌else◌}
use Rattle.atom_store.specs.declared.reply.Reply.{Reply}
use Rattle.atom_store.specs.declared.reply.Reply.TheVariants.{Value, Done, Won, Lost}
use Rattle.atom_store.specs.declared.turn.Turn.{Turn}
use Rattle.atom_store.specs.declared.turn.Turn.TheVariants.{More, Finished}
use Rattle.atom_store.specs.Machine.{Machine}
use Rattle.heap_words.specs.Decoded.{Decoded, NumberWord, PointerWord, HeaderWord, ForwardWord, BusyWord, Malformed, decode}
use Rattle.heap_words.specs.Word.{number_word, pointer_word}
use Rattle.space_map.specs.declared.spaces.TheConstants.{PAGE_WORDS}
use Rattle.space_map.specs.Spaces.{Layout, space_start, to_space}
use Rattle.cell_walk.specs.declared.linked_cell.LinkedCell.{LinkedCell}
use Rattle.cell_walk.specs.declared.walk_end.WalkEnd.{WalkEnd}
use Rattle.cell_walk.specs.declared.walk_end.WalkEnd.TheVariants.{Passed, Another}
use Rattle.cell_walk.specs.declared.walk_stage.WalkStage.{WalkStage}
use Rattle.cell_walk.specs.declared.walk_stage.WalkStage.TheVariants.{LoadsTurn, TakesTurn, LoadsWeak, LoadsTarget, LoadsTargetHeader, StoresTarget, LoadsLink, Ended}
use Rattle.cell_walk.specs.Walking.{Walking, most_cells, wanted}

-- the address is one of the space from which records are copied in this epoch
abbrev pub is_old : Layout → (epoch address : ℕ) → Bool
is_old l epoch address =
    nat_le (space_start l.pages (to_space (epoch + 1))) address
    && nat_lt address (space_start l.pages (to_space (epoch + 1)) + PAGE_WORDS * l.pages)

-- by the turn's word: the epoch's and one more, or a greater one, is another's
abbrev pub by_turn : (epoch word : ℕ) → WalkStage
by_turn epoch word = if nat_lt epoch word then Ended (Another word) else TakesTurn word

-- along a link to the next cell, where so many may still come
abbrev pub along : (most link : ℕ) → WalkStage
along most link = if link == 0 || most == 0 then Ended Passed else LoadsTarget (record { at = link - 1; most = most })

-- by a cell's target: at a pointer into the old space, what stands there is looked at
abbrev pub by_target : Layout → (epoch : ℕ) → LinkedCell → Decoded → WalkStage
by_target l epoch cell (PointerWord address) = if is_old l epoch address then LoadsTargetHeader cell address else LoadsLink cell
by_target l epoch cell (NumberWord n) = LoadsLink cell
by_target l epoch cell (HeaderWord kind len serial mutator) = LoadsLink cell
by_target l epoch cell (ForwardWord len address) = LoadsLink cell
by_target l epoch cell (BusyWord len worker) = LoadsLink cell
by_target l epoch cell Malformed = LoadsLink cell

-- What a target becomes that leads to an old record whose first word says this: at a forward, the pointer to the copy; else the
-- number 0.
abbrev pub replacement : Decoded → ℕ
replacement (ForwardWord len address) = pointer_word address
replacement _ = number_word 0

-- the stage after a reply; one that can't be there changes nothing
abbrev pub stage_after : Layout → (epoch : ℕ) → WalkStage → Reply → WalkStage
stage_after l e LoadsTurn (Value w) = by_turn e w
stage_after l e (TakesTurn found) Won = LoadsWeak
stage_after l e (TakesTurn found) (Lost w) = Ended (Another w)
stage_after l e LoadsWeak (Value w) = along (most_cells l.pages) w
stage_after l e (LoadsTarget cell) (Value w) = by_target l e cell (decode w)
stage_after l e (LoadsTargetHeader cell old) (Value w) = StoresTarget cell (replacement (decode w))
stage_after l e (StoresTarget cell word) Done = LoadsLink cell
stage_after l e (LoadsLink cell) (Value w) = along (cell.most - 1) w
stage_after l e stage reply = stage

-- the walk after a reply
abbrev pub taken : Walking → Reply → Walking
taken v reply = record v { stage = stage_after v.layout v.epoch v.stage reply }

-- what a walk tells that has come to this stage
abbrev pub told : WalkStage → Turn WalkEnd
told (Ended end) = Finished end
told _ = More

-- the walk as a machine
abbrev pub walk_machine : Machine Walking WalkEnd
walk_machine = record { wanted = wanted; taken = taken; told = λ v. told v.stage }
