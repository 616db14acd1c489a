-- What a round of the duty by a lone mutator has found: it is so still, since nobody else makes a step.
use Rattle.std.specs.Prelude.{◌≡◌, ◌≢◌, ℕ, ◌+◌, ◌%◌, ◌<◌, ◌≤◌, ◌⊎◌, ⊤, None}
use Rattle.space_map.specs.declared.page_word.PageWord.{PageWord}
use Rattle.space_map.specs.declared.page_word.PageWord.TheVariants.{Open}
use Rattle.space_map.specs.declared.spaces.TheConstants.{PAGE_WORDS}
use Rattle.space_map.specs.PageWord.{age_of}
use Rattle.space_map.specs.Spaces.{board_page, first_word, page_of}
use Rattle.cell_walk.specs.declared.walk_stage.WalkStage.{WalkStage}
use Rattle.cell_walk.specs.declared.walk_stage.WalkStage.TheVariants.{TakesTurn}
use Rattle.fault_duty.specs.declared.caller.Caller.{Caller}
use Rattle.fault_duty.specs.declared.caller.Caller.TheVariants.{Faulted}
use Rattle.fault_duty.specs.declared.findings.Findings.{Findings}
use Rattle.fault_duty.specs.declared.wanted_page.WantedPage.{WantedPage}
use Rattle.fault_duty.specs.declared.choice.Choice.{Choice}
use Rattle.fault_duty.specs.declared.end_look.EndLook.{EndLook}
use Rattle.fault_duty.specs.declared.duty_stage.DutyStage.{DutyStage}
use Rattle.fault_duty.specs.declared.duty_stage.DutyStage.TheVariants.{LoadsGate, LoadsTraced, LoadsWanted, LoadsFrontFor, LoadsFront, LoadsPage, Claims, EndGate, EndArea, EndPage, EndFilling, EndAreaAgain, Walks, Traces, Ended}
use Rattle.fault_duty.specs.Duty.{Round}
use Rattle.gc_worker.specs.declared.stage.back.Back.{Back}
use Rattle.gc_worker.specs.declared.stage.back.Back.TheVariants.{ToTarget, ToSnap}
use Rattle.heap_state.specs.Memory.Era.{Era, Memory}
use Rattle.heap_state.specs.Invariant.Parts.Pages.{Quiet}

-- the page that was faulted on, if it is for one, has no word of the epoch
abbrev pub IsForClosed : (E : Era) (page : ℕ → PageWord) → Caller → Type 0
IsForClosed E page caller = (wanted : ℕ) → caller ≡ Faulted wanted → age_of (page wanted) ≢ E.epoch + 1

-- TRACED is as it was read, and nothing was found that forbids to end the tracing
pub record Found (traced : ℕ) (found : Findings) : Type 0 where
  pub traced_is : found.traced ≡ traced
  pub unhindered : found.hindrance ≡ None

-- the wanted page's word is as it was read, and not of the epoch
pub record Wanted (E : Era) (page : ℕ → PageWord) (w : WantedPage) : Type 0 where
  pub says : w.says ≡ page w.page
  pub closed : age_of w.says ≢ E.epoch + 1

-- the board and the pages of the space below this one are open
pub record OpenBelow (E : Era) (page : ℕ → PageWord) (upto : ℕ) : Type 0 where
  pub board : page (page_of E.board) ≡ Open E.epoch
  pub below : (p : ℕ) → E.start ≤ first_word p → p < upto → page p ≡ Open E.epoch

-- FRONT is as it was read, and the pages that were passed are open
pub record Chosen (E : Era) (m : Memory) (pages : ℕ) (choice : Choice) (at : ℕ) : Type 0 where
  pub found : Found m.traced choice.seen
  pub front : choice.front ≡ m.front
  pub passed : at ≢ board_page pages → OpenBelow E m.page at

-- TRACED and FRONT are as they were read
pub record LookedAt (m : Memory) (look : EndLook) : Type 0 where
  pub traced : look.traced ≡ m.traced
  pub front : look.front ≡ m.front

-- WEAKTURN is as it was read
abbrev pub TurnStands : (turn : ℕ) → WalkStage → Type 0
TurnStands turn (TakesTurn found) = found ≡ turn
TurnStands turn stage = ⊤

-- nobody is behind, and the board and all full pages are open
abbrev pub IsQuiet : Era → Memory → Type 0
IsQuiet E m = Quiet E m.gate.behind m.front m.page

abbrev pub FoundAt : Era → Memory → Round → DutyStage → Type 0
FoundAt E m d LoadsGate = IsForClosed E m.page d.caller
FoundAt E m d (LoadsTraced hindrance) = IsForClosed E m.page d.caller × (hindrance ≡ None)
FoundAt E m d (LoadsWanted found page) = (age_of (m.page page) ≢ E.epoch + 1) × Found m.traced found
FoundAt E m d (LoadsFrontFor found w) = Wanted E m.page w × Found m.traced found
FoundAt E m d (LoadsFront found) = Found m.traced found
FoundAt E m d (LoadsPage choice page) = Chosen E m d.layout.pages choice page
FoundAt E m d (Claims claim) = claim.found ≡ m.page claim.page
FoundAt E m d (EndGate traced) = IsQuiet E m × (traced ≡ m.traced)
FoundAt E m d (EndArea traced) = IsQuiet E m × (traced ≡ m.traced)
FoundAt E m d (EndPage look page) = IsQuiet E m × LookedAt m look
FoundAt E m d (EndFilling look) = LookedAt m look
FoundAt E m d (EndAreaAgain look filling) = LookedAt m look × (look.front % PAGE_WORDS ≢ 0 → filling ≡ m.page (page_of look.front))
FoundAt E m d (Walks traced v) = (traced ≡ m.traced) × TurnStands m.weak_turn v.stage
FoundAt E m d (Traces traced) = traced ≡ m.traced
FoundAt E m d (Ended result) = ⊤

-- who begins a checkpoint, or loads the target of a cell, makes rounds until one finds the epoch traced
abbrev pub EndsTraced : Back → Type 0
EndsTraced (ToTarget a) = ⊤
EndsTraced ToSnap = ⊤
EndsTraced back = ⊥

-- the epoch isn't traced, but for such a round that hasn't read TRACED
abbrev pub IsUntraced : (traced epoch : ℕ) → Back → DutyStage → Type 0
IsUntraced traced epoch back LoadsGate = EndsTraced back ⊎ (traced ≢ epoch + 1)
IsUntraced traced epoch back (LoadsTraced hindrance) = EndsTraced back ⊎ (traced ≢ epoch + 1)
IsUntraced traced epoch back stage = traced ≢ epoch + 1

-- the epoch isn't traced, and what was found is so still
pub record RoundStands (E : Era) (m : Memory) (d : Round) (back : Back) : Type 0 where
  pub untraced : IsUntraced m.traced E.epoch back d.stage
  pub found : FoundAt E m d d.stage
