-- A save goes on, and a look before a write but for what holds it up.
use Rattle.std.proofs.Common.{◌≡◌, ℕ, Bool, true, false, cond, List, Option, Some, None, refl, sym, ap, ◌∙◌, subst, if◌then◌else◌, nat_eq, nat_lt, arith}
use Rattle.std.proofs.lemmas.Bool.Decides.{nat_tests}
use Rattle.std.proofs.lemmas.Option.{same_Some}
use Rattle.atom_store.specs.Step.{reply_of}
use Rattle.atom_store.specs.declared.reply.Reply.TheVariants.{Won, Lost}
use Rattle.atom_store.specs.declared.step.Step.{Step}
use Rattle.space_map.specs.declared.save_word.SaveWord.{SaveWord}
use Rattle.space_map.specs.declared.save_word.SaveWord.TheVariants as save_word
use Rattle.space_map.specs.SaveWord.{decode_save, number_of}
use Rattle.page_saves.specs.declared.guard_stage.GuardStage.{GuardStage}
use Rattle.page_saves.specs.declared.guard_stage.GuardStage.TheVariants as guard_stage
use Rattle.page_saves.specs.declared.save_stage.SaveStage.{SaveStage}
use Rattle.page_saves.specs.declared.save_stage.SaveStage.TheVariants as save_stage
use Rattle.page_saves.specs.declared.save_state.SaveState.{SaveState}
use Rattle.page_saves.specs.declared.save_state.SaveState.TheVariants.{Waits, Copying, Kept, Past}
use Rattle.page_saves.specs.Guard.{Guarding}
use Rattle.page_saves.specs.Guard as guard
use Rattle.page_saves.specs.Save.{PageSaving}
use Rattle.page_saves.specs.Save as save
use Rattle.page_saves.specs.SaveState.{state_of, state_within}
use Rattle.page_saves.specs.HeldUp.{MakesLookAgain, AnotherSaves, SaysNothing, IsOfLater, IsOwn, IsGuardHeldUp, SavesGoOn, GuardsGoOn}
use Rattle.page_saves.proofs.RoundEnds.{within_copying, within_never_past}

-- ---- the save

-- the exchange takes it on, whether it is won or lost
exchanged : (won : Bool) (word : ℕ) → save.advances_at save_stage.Exchanges (if won then Won else Lost word) ≡ true
exchanged true word = refl
exchanged false word = refl

module _ (step : Step) (met : List ℕ) where
  saves : (s : PageSaving) (x : SaveStage) → save.wanted_at s x ≡ Some step → save.advances_at x (reply_of step met) ≡ true
  saves s save_stage.Exchanges wants =
      subst (λ (z : Step). save.advances_at save_stage.Exchanges (reply_of z met) ≡ true) (same_Some _ _ wants) (exchanged _ _)
  saves s (save_stage.LoadsWord i) wants =
      subst (λ (z : Step). save.advances_at (save_stage.LoadsWord i) (reply_of z met) ≡ true) (same_Some _ _ wants) refl
  saves s (save_stage.StoresImage i word) wants =
      subst (λ (z : Step). save.advances_at (save_stage.StoresImage i word) (reply_of z met) ≡ true) (same_Some _ _ wants) refl
  saves s save_stage.StoresSaved wants =
      subst (λ (z : Step). save.advances_at save_stage.StoresSaved (reply_of z met) ≡ true) (same_Some _ _ wants) refl
  saves s (save_stage.Ended result) wants = absurd (cc)

pub saves_go_on : SavesGoOn
saves_go_on s step met wants = saves step met s s.stage wants

-- ---- the look before a write

-- a worker saves the page: another one, or this
held_by_save : (number worker word other : ℕ) → decode_save word ≡ Some (save_word.Saving number other) → MakesLookAgain number worker word
held_by_save number worker word other reads = by_test (nat_eq other worker) refl
  where
    by_test : (b : Bool) → nat_eq other worker ≡ b → MakesLookAgain number worker word
    by_test true test = let same : other ≡ worker = grind (arith, nat_tests) in IsOwn (reads ∙ ap (λ (k : ℕ). Some (save_word.Saving number k)) same)
    by_test false test = AnotherSaves other (grind (arith, nat_tests)) reads

-- which word makes the look look again, by what it says
held_by_word : (number worker word : ℕ) (says : SaveWord) → decode_save word ≡ Some says → guard.goes_by (state_of says number) ≡ false
    → MakesLookAgain number worker word
held_by_word number worker word says reads stays = by_tests (nat_lt (number_of says) number) (nat_eq (number_of says) number) (state_within says) refl refl refl stays
  where
    by_tests : (less same : Bool) (within : SaveState) → nat_lt (number_of says) number ≡ less → nat_eq (number_of says) number ≡ same → state_within says ≡ within
        → guard.goes_by (cond less Waits (cond same within Past)) ≡ false → MakesLookAgain number worker word
    by_tests true same within a b c stays = absurd (cc)
    by_tests false false within a b c stays = IsOfLater says reads (grind (arith, nat_tests))
    by_tests false true Copying a b c stays =
        let is = within_copying says number (grind (arith, nat_tests)) c in held_by_save number worker word is.0 (reads ∙ ap Some is.1)
    by_tests false true Waits a b c stays = absurd (cc)
    by_tests false true Kept a b c stays = absurd (cc)
    by_tests false true Past a b c stays = absurd (within_never_past says c)

held_by_look : (number worker word : ℕ) (o : Option SaveWord) → decode_save word ≡ o → guard.goes_on number o ≡ false → MakesLookAgain number worker word
held_by_look number worker word (Some says) reads stays = held_by_word number worker word says reads stays
held_by_look number worker word None reads stays = SaysNothing reads

-- only a lost exchange stops the look at its save
lost_alone : (won : Bool) (word : ℕ) (g : Guarding) (s : PageSaving) → s.stage ≡ save_stage.Exchanges
    → guard.save_goes_on save_stage.Exchanges (if won then Won else Lost word) ≡ false → IsGuardHeldUp g (guard_stage.Saves s) (if won then Won else Lost word)
lost_alone true word g s at stays = absurd (cc)
lost_alone false word g s at stays = at

module _ (step : Step) (met : List ℕ) (g : Guarding) where
  held_save : (s : PageSaving) (x : SaveStage) → s.stage ≡ x → save.wanted_at s x ≡ Some step → guard.save_goes_on x (reply_of step met) ≡ false
      → IsGuardHeldUp g (guard_stage.Saves s) (reply_of step met)
  held_save s save_stage.Exchanges at wants =
      subst (λ (z : Step). guard.save_goes_on save_stage.Exchanges (reply_of z met) ≡ false → IsGuardHeldUp g (guard_stage.Saves s) (reply_of z met)) (same_Some _ _ wants)
      (lost_alone _ _ g s at)
  held_save s (save_stage.LoadsWord i) at wants =
      λ stays. absurd (let e : true ≡ false = sym (saves step met s (save_stage.LoadsWord i) wants) ∙ stays in cc)
  held_save s (save_stage.StoresImage i word) at wants =
      λ stays. absurd (let e : true ≡ false = sym (saves step met s (save_stage.StoresImage i word) wants) ∙ stays in cc)
  held_save s save_stage.StoresSaved at wants =
      λ stays. absurd (let e : true ≡ false = sym (saves step met s save_stage.StoresSaved wants) ∙ stays in cc)
  held_save s (save_stage.Ended result) at wants = absurd (cc)

  held_guard : (x : GuardStage) → guard.wanted_at g x ≡ Some step → guard.advances_at g x (reply_of step met) ≡ false → IsGuardHeldUp g x (reply_of step met)
  held_guard guard_stage.Looks wants =
      subst (λ (z : Step). guard.advances_at g guard_stage.Looks (reply_of z met) ≡ false → IsGuardHeldUp g guard_stage.Looks (reply_of z met)) (same_Some _ _ wants)
      (λ stays. held_by_look g.number g.worker _ _ refl stays)
  held_guard (guard_stage.Saves s) wants = held_save s s.stage refl wants
  held_guard (guard_stage.Ended result) wants = absurd (cc)

pub guards_go_on : GuardsGoOn
guards_go_on g step met wants = held_guard step met g g.stage wants
