-- Whose the turn is.
use Rattle.std.proofs.Common.{◌≡◌, ℕ, ◌+◌, ◌-◌, ◌≤◌, ◌⊎◌, inl, inr, Bool, true, false, List, arith, refl, sym, ap, ◌∙◌, subst, ⊎_elim}
use Rattle.std.specs.Prelude.{⊤}
use Rattle.atom_store.specs.declared.reply.Reply.{Reply}
use Rattle.atom_store.specs.declared.reply.Reply.TheVariants as reply
use Rattle.atom_store.specs.declared.step.Step.TheVariants.{Exchange}
use Rattle.atom_store.specs.declared.turn.Turn.TheVariants.{Finished}
use Rattle.atom_store.specs.Acts.{MakesStep}
use Rattle.atom_store.specs.Step.{reply_of}
use Rattle.atom_store.proofs.Acting.{no_step}
use Rattle.atom_store.proofs.StepWords.{lost_tells_another, words_after-lost}
use Rattle.heap_words.specs.Decoded.{decode}
use Rattle.space_map.specs.Spaces.{Layout}
use Rattle.space_map.specs.Table.{WeakHead, WeakTurn, HeapWord, place_of}
use Rattle.space_map.specs.TableWords.{row_word}
use Rattle.cell_walk.specs.declared.walk_end.WalkEnd.TheVariants.{Another}
use Rattle.cell_walk.specs.declared.walk_stage.WalkStage.{WalkStage}
use Rattle.cell_walk.specs.declared.walk_stage.WalkStage.TheVariants.{LoadsTurn, TakesTurn, LoadsWeak, LoadsTarget, LoadsTargetHeader, StoresTarget, LoadsLink, Ended}
use Rattle.cell_walk.specs.Taken.{along, by_turn, stage_after, told, walk_machine}
use Rattle.cell_walk.specs.Soundness.{FitsStage}
use Rattle.cell_walk.specs.Theorems.{HasTurn, OthersShowIt, ShowsAnother, OfNoEarlierEpoch, OtherWord, TurnsAreWon, WinsTurn}
use Rattle.cell_walk.specs.Walking.{Walking, most_cells}
use Rattle.cell_walk.proofs.Along.{of_along, of_target, of_turn}

-- ---- the turn is won

wins : (v : Walking) (x : WalkStage) (r : Reply) → FitsStage v.layout v.epoch x → HasTurn (stage_after v.layout v.epoch x r)
    → HasTurn x ⊎ WinsTurn (record v { stage = x }) r
wins v LoadsTurn (reply.Value w) fits =
    of_turn (λ z. HasTurn z → HasTurn LoadsTurn ⊎ WinsTurn (record v { stage = LoadsTurn }) (reply.Value w)) v.epoch w (λ past has. inl has) (λ before has. inl has)
wins v (TakesTurn found) reply.Won fits = λ has. inr (record { found = found; takes = refl; earlier = omega arith; exchanges = refl; won = refl })
wins v (TakesTurn found) (reply.Lost w) fits = λ has. inl has
wins v LoadsWeak r fits = λ has. inl tt
wins v (LoadsTarget cell) r fits = λ has. inl tt
wins v (LoadsTargetHeader cell old) r fits = λ has. inl tt
wins v (StoresTarget cell word) r fits = λ has. inl tt
wins v (LoadsLink cell) r fits = λ has. inl tt
wins v x r fits = λ has. inl has

pub turns_are_won : TurnsAreWon
turns_are_won v r sound has = wins v v.stage r sound.fits has

-- ---- before the turn is taken

-- the walk is at no cell
abbrev pub IsOffCells : WalkStage → Type 0
IsOffCells (LoadsTarget cell) = ⊥
IsOffCells (LoadsTargetHeader cell old) = ⊥
IsOffCells (StoresTarget cell word) = ⊥
IsOffCells (LoadsLink cell) = ⊥
IsOffCells _ = ⊤

-- the reply takes a walk that has the turn on
abbrev pub walks_on : WalkStage → Reply → Bool
walks_on LoadsWeak (reply.Value w) = true
walks_on (LoadsTarget cell) (reply.Value w) = true
walks_on (LoadsTargetHeader cell old) (reply.Value w) = true
walks_on (StoresTarget cell word) reply.Done = true
walks_on (LoadsLink cell) (reply.Value w) = true
walks_on _ _ = false

-- any other changes nothing, or comes to no cell
else_off_cells : (l : Layout) (epoch : ℕ) (x : WalkStage) (r : Reply) → walks_on x r ≡ false
    → (stage_after l epoch x r ≡ x) ⊎ IsOffCells (stage_after l epoch x r)
else_off_cells l epoch LoadsTurn (reply.Value w) other = inr (of_turn IsOffCells epoch w (λ past. tt) (λ before. tt))
else_off_cells l epoch (TakesTurn found) reply.Won other = inr tt
else_off_cells l epoch (TakesTurn found) (reply.Lost w) other = inr tt
else_off_cells l epoch LoadsWeak (reply.Value w) other = absurd (cc)
else_off_cells l epoch (LoadsTarget cell) (reply.Value w) other = absurd (cc)
else_off_cells l epoch (LoadsTargetHeader cell old) (reply.Value w) other = absurd (cc)
else_off_cells l epoch (StoresTarget cell word) reply.Done other = absurd (cc)
else_off_cells l epoch (LoadsLink cell) (reply.Value w) other = absurd (cc)
else_off_cells l epoch x r other = inl refl

-- so a stage at a cell that it comes to is the one from which it comes
pub else_stays : (l : Layout) (epoch : ℕ) (x : WalkStage) (r : Reply) → walks_on x r ≡ false
    → (z : WalkStage) → (IsOffCells z → ⊥) → stage_after l epoch x r ≡ z → x ≡ z
else_stays l epoch x r other z at_cell after =
    ⊎_elim (λ same. sym same ∙ after) (λ off. absurd (at_cell (subst IsOffCells after off))) (else_off_cells l epoch x r other)

-- ---- another has it

late : (epoch found word : ℕ) → told (by_turn epoch found) ≡ Finished (Another word) → (word ≡ found) × (epoch + 1 ≤ found)
late epoch found word =
    of_turn (λ z. told z ≡ Finished (Another word) → (word ≡ found) × (epoch + 1 ≤ found)) epoch found
    (λ past tells. (cc, omega arith)) (λ before tells. absurd (cc))

loses : (l : Layout) (epoch found word : ℕ) (r : Reply) → told (stage_after l epoch (TakesTurn found) r) ≡ Finished (Another word) → r ≡ reply.Lost word
loses l epoch found word (reply.Lost lost) tells = let same : lost ≡ word = cc in ap reply.Lost same
loses l epoch found word _ tells = absurd (cc)

along_tells : (most link word : ℕ) → told (along most link) ≡ Finished (Another word) → ⊥
along_tells most link word = of_along (λ z. told z ≡ Finished (Another word) → ⊥) most link (λ at is some tells. cc) (λ tells. cc)

shows : (v : Walking) (x : WalkStage) (before after : List ℕ) (word : ℕ)
    → MakesStep walk_machine (record v { stage = x }) before after (Finished (Another word)) → ShowsAnother (record v { stage = x }) before word × (after ≡ before)
shows v LoadsTurn before after word acts =
    let found : ℕ = row_word v.layout.pages WeakTurn before in
    let z = late v.epoch found word acts.tells in
    (OfNoEarlierEpoch z.0 (let past = z.1 in let same = z.0 in omega arith), acts.makes)
shows v (TakesTurn found) before after word acts =
    let place : ℕ = place_of v.layout.pages WeakTurn in
    let lost = loses v.layout v.epoch found word (reply_of (Exchange place found (v.epoch + 1)) before) acts.tells in
    let another = lost_tells_another place found (v.epoch + 1) word before lost in
    (OtherWord found refl another.0 another.1, acts.makes ∙ words_after-lost place found (v.epoch + 1) word before lost)
shows v LoadsWeak before after word acts =
    absurd (along_tells (most_cells v.layout.pages) (row_word v.layout.pages WeakHead before) word acts.tells)
shows v (LoadsTarget cell) before after word acts =
    absurd (of_target (λ z. told z ≡ Finished (Another word) → ⊥) v.layout v.epoch cell (decode (row_word v.layout.pages (HeapWord (cell.at + 1)) before))
    (λ old leads back tells. cc) (λ tells. cc) acts.tells)
shows v (LoadsTargetHeader cell old) before after word acts = absurd (let tells = acts.tells in cc)
shows v (StoresTarget cell new) before after word acts = absurd (let tells = acts.tells in cc)
shows v (LoadsLink cell) before after word acts =
    absurd (along_tells (cell.most - 1) (row_word v.layout.pages (HeapWord (cell.at + 2)) before) word acts.tells)
shows v (Ended end) before after word acts = absurd (no_step acts.has_step)

pub others_show_it : OthersShowIt
others_show_it v before after word acts = shows v v.stage before after word acts
