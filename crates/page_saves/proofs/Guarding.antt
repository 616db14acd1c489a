-- What a look before a write has found by the time that it ends.
use Rattle.std.proofs.Common.{◌≡◌, ℕ, ◌<◌, Bool, true, false, cond, nat_eq, nat_lt, List, Option, Some, None, inl, inr, arith, refl, sym, ap, subst}
use Rattle.std.proofs.lemmas.Bool.Decides.{nat_tests}
use Rattle.atom_store.specs.declared.turn.Turn.{Turn}
use Rattle.atom_store.specs.declared.turn.Turn.TheVariants.{More, Finished}
use Rattle.atom_store.specs.declared.step.Step.{Step}
use Rattle.atom_store.specs.Acts.{MakesStep, after_next_step}
use Rattle.atom_store.specs.Runs.{after_step}
use Rattle.atom_store.proofs.Acting.{no_step}
use Rattle.space_map.specs.declared.save_word.SaveWord.{SaveWord}
use Rattle.space_map.specs.declared.save_word.SaveWord.TheVariants as save_word
use Rattle.space_map.specs.SaveWord.{decode_save, number_of}
use Rattle.space_map.specs.Spaces.{Layout}
use Rattle.space_map.specs.Table.{SaveOf}
use Rattle.page_saves.specs.declared.guard_stage.GuardStage.{GuardStage}
use Rattle.page_saves.specs.declared.guard_stage.GuardStage.TheVariants.{Looks, Saves, Ended}
use Rattle.page_saves.specs.declared.may_write.MayWrite.{MayWrite}
use Rattle.page_saves.specs.declared.save_end.SaveEnd.{SaveEnd}
use Rattle.page_saves.specs.declared.save_end.SaveEnd.TheVariants.{Saved, Taken}
use Rattle.page_saves.specs.declared.save_state.SaveState.{SaveState}
use Rattle.page_saves.specs.declared.save_state.SaveState.TheVariants.{Waits, Kept, Past}
use Rattle.page_saves.specs.Guard.{Guarding, guard_machine, told, told_at, looked, looked_by, save_went}
use Rattle.page_saves.specs.Save.{PageSaving, save_machine}
use Rattle.page_saves.specs.Save as save
use Rattle.page_saves.specs.SaveState.{IsKept, state_of, state_within}
use Rattle.page_saves.specs.SoundGuard.{IsSoundGuard}
use Rattle.page_saves.specs.Theorems.{FindsKept, WasKept, SavedIt}
use Rattle.space_map.specs.WholeTable.{Behind, HoldsWhole, whole_word}
use Rattle.page_saves.proofs.SaveEffects as saving

-- ---- what is said of a page

within_kept : (says : SaveWord) (number : ℕ) → 0 < number → number_of says ≡ number → state_within says ≡ Kept → IsKept says number
within_kept save_word.Unsaved number some same is = absurd (omega (arith, some, same))
within_kept (save_word.Saving found worker) number some same is = absurd (cc)
within_kept (save_word.Saved found) number some same is = inl (ap save_word.Saved same)
within_kept (save_word.New found) number some same is = inr (ap save_word.New same)

-- what is kept for a checkpoint is saved for it, or new
pub kept_is : (says : SaveWord) (number : ℕ) → 0 < number → state_of says number ≡ Kept → IsKept says number
kept_is says number some is = by_tests (nat_lt (number_of says) number) (nat_eq (number_of says) number) refl is
  where
    by_tests : (less same : Bool) → nat_eq (number_of says) number ≡ same → cond less Waits (cond same (state_within says) Past) ≡ Kept → IsKept says number
    by_tests true same test e = absurd (cc)
    by_tests false true test e = within_kept says number some (grind (arith, nat_tests)) e
    by_tests false false test e = absurd (cc)

-- ---- what is told

state_ends : (g : Guarding) (says : SaveWord) (state : SaveState) (outcome : MayWrite) → told_at (looked_by g says state) ≡ Finished outcome → state ≡ Kept
state_ends g says Kept outcome tells = refl
state_ends g says _ outcome tells = cc

-- a look that ends has found the page kept
record LookEnds (g : Guarding) (o : Option SaveWord) : Type 0 where
  says : SaveWord
  is : o ≡ Some says
  kept : state_of says g.number ≡ Kept

look_ends : (g : Guarding) (o : Option SaveWord) (outcome : MayWrite) → told_at (looked g o) ≡ Finished outcome → LookEnds g o
look_ends g (Some says) outcome tells = record { says = says; is = refl; kept = state_ends g says (state_of says g.number) outcome tells }
look_ends g None outcome tells = cc

-- and one that ends by a save has ended that
save_ends : (s : PageSaving) (turn : Turn SaveEnd) (outcome : MayWrite) → told_at (save_went s turn) ≡ Finished outcome → turn ≡ Finished Saved
save_ends s More outcome tells = cc
save_ends s (Finished Saved) outcome tells = refl
save_ends s (Finished (Taken word)) outcome tells = cc

-- the save's step is the look's
save_tells : (g : Guarding) (s : PageSaving) (o : Option Step) (before : List ℕ) (outcome : MayWrite)
    → told (after_step guard_machine (record g { stage = Saves s }) o before) ≡ Finished outcome
    → told_at (save_went (after_step save_machine s o before) (save.told (after_step save_machine s o before))) ≡ Finished outcome
save_tells g s None before outcome e = cc
save_tells g s (Some step) before outcome e = e

-- ---- all

pub guard_ends : (g : Guarding) (stage : GuardStage) (before after : List ℕ) (outcome : MayWrite) → IsSoundGuard (record g { stage = stage })
    → HoldsWhole g.layout before → 0 < g.number → MakesStep guard_machine (record g { stage = stage }) before after (Finished outcome)
    → FindsKept (record g { stage = stage }) before after
guard_ends g Looks before after outcome sound whole some acts =
    let ends = look_ends g (decode_save (whole_word g.layout.pages (Behind (SaveOf g.page)) before)) outcome acts.tells in
    WasKept ends.says refl ends.is (kept_is ends.says g.number some ends.kept) acts.makes
guard_ends g (Saves s) before after outcome sound whole some acts =
    let own = sound.stage in
    let tells = save_ends (after_next_step save_machine s before) (save.told (after_next_step save_machine s before)) outcome
    (save_tells g s (save.wanted s) before outcome acts.tells) in
    let holds : HoldsWhole s.layout before = subst (λ (l : Layout). HoldsWhole l before) (sym own.in_layout) whole in
    SavedIt s refl own (saving.ends s s.stage before after own.sound holds (record { has_step = acts.has_step; makes = acts.makes; tells = tells }))
guard_ends g (Ended result) before after outcome sound whole some acts = absurd (no_step acts.has_step)
