-- Machines that go on want a step on a row of the table, and write only what is said of pages, saved words and the number of the last
-- checkpoint that is done. A round goes on if the rows that it loads say something of their kind.
use Rattle.std.proofs.Common.{◌≡◌, ℕ, ◌^◌, ◌<◌, ◌≤◌, Bool, true, false, cond, List, Some, is_some, arith, refl, ap, subst}
use Rattle.std.specs.Prelude.{option_map}
use Rattle.std.proofs.lemmas.Bool.{lt-ltb}
use Rattle.std.proofs.lemmas.Option.{same_Some}
use Rattle.atom_store.specs.declared.reply.Reply.TheVariants.{Won, Lost}
use Rattle.atom_store.specs.declared.step.Step.{Step}
use Rattle.atom_store.specs.Step.{reply_of}
use Rattle.atom_store.specs.StepOn.{IsOn, WritesOnly, step_at}
use Rattle.space_map.specs.GateWord.{decode_gate}
use Rattle.space_map.specs.SaveWord.{decode_save}
use Rattle.space_map.specs.Spaces.{Layout, board_page}
use Rattle.space_map.specs.Table.{Gate, SnapNumber, LastSaved, SaveOf, ImageOf}
use Rattle.page_saves.specs.declared.guard_stage.GuardStage.{GuardStage}
use Rattle.page_saves.specs.declared.guard_stage.GuardStage.TheVariants as guard_stage
use Rattle.page_saves.specs.declared.save_round_stage.SaveRoundStage.{SaveRoundStage}
use Rattle.page_saves.specs.declared.save_round_stage.SaveRoundStage.TheVariants as round_stage
use Rattle.page_saves.specs.declared.save_stage.SaveStage.{SaveStage}
use Rattle.page_saves.specs.declared.save_stage.SaveStage.TheVariants as save_stage
use Rattle.page_saves.specs.Guard.{Guarding}
use Rattle.page_saves.specs.Guard as guard
use Rattle.page_saves.specs.Save.{PageSaving}
use Rattle.page_saves.specs.Save as save
use Rattle.page_saves.specs.SaveRound.{SavingRound}
use Rattle.page_saves.specs.SaveRound as round
use Rattle.page_saves.specs.SoundGuard.{FitsGuardStage, IsGuardGoing}
use Rattle.page_saves.specs.SoundRound.{FitsSaveRoundStage, IsSaveRoundGoing}
use Rattle.page_saves.specs.SoundSave.{FitsSaveStage, IsSaveGoing}
use Rattle.space_map.specs.WholeTable.{WholeRow, Within, Behind, IsWholeRow, whole_place_of, whole_word}
use Rattle.page_saves.proofs.SaveGoesOn.{saves_go_on}

-- ---- the save

pub save_rows_fit : (s : PageSaving) (stage : SaveStage) → FitsSaveStage stage → s.page ≤ board_page s.layout.pages → IsSaveGoing stage
    → IsOn (IsWholeRow s.layout.pages) (save.wants_at s stage)
save_rows_fit s save_stage.Exchanges fits low going = low
save_rows_fit s (save_stage.LoadsWord i) fits low going = omega (arith, fits, low)
save_rows_fit s (save_stage.StoresImage i word) fits low going = omega (arith, fits, low)
save_rows_fit s save_stage.StoresSaved fits low going = low
save_rows_fit s (save_stage.Ended result) fits low going = going

-- ---- the look before a write

-- the save's layout is the look's
pub guard_by_rows : (g : Guarding) (stage : GuardStage) → FitsGuardStage g stage → guard.wanted_at g stage ≡ option_map (step_at (whole_place_of g.layout.pages)) (guard.wants_at g stage)
guard_by_rows g (guard_stage.Saves s) fits =
    ap (λ (l : Layout). option_map (step_at (whole_place_of l.pages)) (save.wants_at s s.stage)) fits.in_layout
guard_by_rows g stage fits = refl

pub guard_rows_fit : (g : Guarding) (stage : GuardStage) → FitsGuardStage g stage → g.page ≤ board_page g.layout.pages → IsGuardGoing stage
    → IsOn (IsWholeRow g.layout.pages) (guard.wants_at g stage)
guard_rows_fit g guard_stage.Looks fits low going = low
guard_rows_fit g (guard_stage.Saves s) fits low going =
    subst (λ (l : Layout). IsOn (IsWholeRow l.pages) (save.wants_at s s.stage)) fits.in_layout
    (save_rows_fit s s.stage fits.sound.stage fits.sound.page fits.going)
guard_rows_fit g (guard_stage.Ended result) fits low going = going

-- ---- the round

pub round_by_rows : (r : SavingRound) (stage : SaveRoundStage) → FitsSaveRoundStage r stage
    → round.wanted_at r stage ≡ option_map (step_at (whole_place_of r.layout.pages)) (round.wants_at r stage)
round_by_rows r (round_stage.Saves s) fits =
    ap (λ (l : Layout). option_map (step_at (whole_place_of l.pages)) (save.wants_at s s.stage)) fits.1.in_layout
round_by_rows r stage fits = refl

pub round_rows_fit : (r : SavingRound) (stage : SaveRoundStage) → FitsSaveRoundStage r stage → IsSaveRoundGoing stage
    → IsOn (IsWholeRow r.layout.pages) (round.wants_at r stage)
round_rows_fit r (round_stage.LoadsPage page busy) fits going = fits.in_table
round_rows_fit r (round_stage.LoadsSave page busy) fits going = fits.in_table
round_rows_fit r (round_stage.Saves s) fits going =
    subst (λ (l : Layout). IsOn (IsWholeRow l.pages) (save.wants_at s s.stage)) fits.1.in_layout
    (save_rows_fit s s.stage fits.1.sound.stage fits.1.sound.page fits.1.going)
round_rows_fit r (round_stage.Ended result) fits going = going
round_rows_fit r _ fits going = tt

-- ---- what is written

module _ (Q : WholeRow → Type 0) (done : Q (Within LastSaved)) (saves : (page : ℕ) → Q (Behind (SaveOf page))) (images : (addr : ℕ) → Q (Behind (ImageOf addr))) where
  pub save_writes : (s : PageSaving) (stage : SaveStage) → WritesOnly Q (save.wants_at s stage)
  save_writes s save_stage.Exchanges = saves s.page
  save_writes s (save_stage.StoresImage i word) = images _
  save_writes s save_stage.StoresSaved = saves s.page
  save_writes s stage = tt

  pub guard_writes : (g : Guarding) (stage : GuardStage) → WritesOnly Q (guard.wants_at g stage)
  guard_writes g (guard_stage.Saves s) = save_writes s s.stage
  guard_writes g stage = tt

  pub round_writes : (r : SavingRound) (stage : SaveRoundStage) → WritesOnly Q (round.wants_at r stage)
  round_writes r (round_stage.Saves s) = save_writes s s.stage
  round_writes r round_stage.ExchangesDone = done
  round_writes r stage = tt

-- ---- what is read

-- the rows that a round loads say something of their kind
pub record RowsSay (n : ℕ) (words : List ℕ) : Type 0 where
  pub gate : is_some (decode_gate (whole_word n (Within Gate) words)) ≡ true
  pub snap : whole_word n (Within SnapNumber) words < 2 ^ 32
  pub done : whole_word n (Within LastSaved) words < 2 ^ 32
  pub saves : (page : ℕ) → page ≤ board_page n → is_some (decode_save (whole_word n (Behind (SaveOf page)) words)) ≡ true

exchanged : (won : Bool) (word : ℕ) → round.advances_at round_stage.ExchangesDone (cond won Won (Lost word)) ≡ true
exchanged true word = refl
exchanged false word = refl

module _ (r : SavingRound) (step : Step) (words : List ℕ) (say : RowsSay r.layout.pages words) where
  abbrev GoesOn : SaveRoundStage → Step → Type 0
  GoesOn stage z = round.advances_at stage (reply_of z words) ≡ true

  -- so each reply takes it on
  pub round_goes_on : (stage : SaveRoundStage) → FitsSaveRoundStage r stage → round.wanted_at r stage ≡ Some step → GoesOn stage step
  round_goes_on round_stage.LoadsGate fits wants = subst (GoesOn round_stage.LoadsGate) (same_Some _ _ wants) say.gate
  round_goes_on round_stage.LoadsSnap fits wants = subst (GoesOn round_stage.LoadsSnap) (same_Some _ _ wants) (lt-ltb _ (2 ^ 32) say.snap)
  round_goes_on round_stage.LoadsDone fits wants = subst (GoesOn round_stage.LoadsDone) (same_Some _ _ wants) (lt-ltb _ (2 ^ 32) say.done)
  round_goes_on round_stage.LoadsGateAgain fits wants = subst (GoesOn round_stage.LoadsGateAgain) (same_Some _ _ wants) say.gate
  round_goes_on (round_stage.LoadsPage page busy) fits wants = subst (GoesOn (round_stage.LoadsPage page busy)) (same_Some _ _ wants) refl
  round_goes_on (round_stage.LoadsSave page busy) fits wants =
      subst (GoesOn (round_stage.LoadsSave page busy)) (same_Some _ _ wants) (say.saves page fits.in_table)
  round_goes_on (round_stage.Saves s) fits wants = saves_go_on s step words wants
  round_goes_on round_stage.ExchangesDone fits wants = subst (GoesOn round_stage.ExchangesDone) (same_Some _ _ wants) (exchanged _ _)
  round_goes_on (round_stage.Ended result) fits wants = absurd (cc)
