-- Nothing holds a walk up, and it ends in time.
use Rattle.std.proofs.Common.{◌≡◌, ℕ, zero, suc, ◌+◌, ◌-◌, ◌<◌, ◌≤◌, Bool, true, false, IsTrue, List, Some, refl, subst, arith, if◌then◌else◌, ◌==◌}
use Rattle.std.proofs.lemmas.Option.{same_Some}
use Rattle.atom_store.specs.Runs.{after_step, among}
use Rattle.atom_store.specs.Step.{reply_of}
use Rattle.atom_store.specs.declared.reply.Reply.{Reply}
use Rattle.atom_store.specs.declared.reply.Reply.TheVariants.{Value, Done, Won, Lost}
use Rattle.atom_store.specs.declared.step.Step.{Step}
use Rattle.atom_store.specs.declared.turn.Turn.TheVariants.{Finished}
use Rattle.heap_words.specs.Decoded.{decode}
use Rattle.space_map.specs.Spaces.{Layout}
use Rattle.space_map.specs.Table.{WeakHead, WeakTurn, HeapWord}
use Rattle.space_map.specs.TableWords.{row_word}
use Rattle.cell_walk.specs.declared.walk_end.WalkEnd.{WalkEnd}
use Rattle.cell_walk.specs.declared.walk_stage.WalkStage.{WalkStage}
use Rattle.cell_walk.specs.declared.walk_stage.WalkStage.TheVariants.{LoadsTurn, TakesTurn, LoadsWeak, LoadsTarget, LoadsTargetHeader, StoresTarget, LoadsLink, Ended}
use Rattle.cell_walk.specs.Left.{advances, left, left_at}
use Rattle.cell_walk.specs.Soundness.{FitsStage}
use Rattle.cell_walk.specs.Taken.{stage_after, told, walk_machine}
use Rattle.cell_walk.specs.Theorems.{EndsInTime, GoesOn}
use Rattle.cell_walk.specs.Walking.{Walking, most_cells, wanted, wanted_at}
use Rattle.cell_walk.proofs.Along.{of_along, of_target, of_turn}

-- some cell may still come where the walk stands at one
abbrev pub IsCounted : WalkStage → Type 0
IsCounted (LoadsTarget cell) = 0 < cell.most
IsCounted (LoadsTargetHeader cell old) = 0 < cell.most
IsCounted (StoresTarget cell word) = 0 < cell.most
IsCounted (LoadsLink cell) = 0 < cell.most
IsCounted _ = Unit {0}

pub counted : (l : Layout) (epoch : ℕ) (x : WalkStage) → FitsStage l epoch x → IsCounted x
counted l epoch (LoadsTarget cell) fits = fits.some
counted l epoch (LoadsTargetHeader cell old) fits = fits.0.some
counted l epoch (StoresTarget cell word) fits = fits.0.some
counted l epoch (LoadsLink cell) fits = fits.some
counted l epoch _ fits = tt

module _ (l : Layout) (epoch : ℕ) where
  -- the next stage has fewer steps left, and is counted too
  abbrev Falls : WalkStage → WalkStage → Type 0
  Falls x z = (left_at l.pages z < left_at l.pages x) × IsCounted z

  -- a reply that takes the walk on
  pub falls : (x : WalkStage) (r : Reply) → IsCounted x → IsTrue (advances x r) → Falls x (stage_after l epoch x r)
  falls LoadsTurn (Value w) some on = of_turn (λ z. Falls LoadsTurn z) epoch w (λ past. (omega arith, tt)) (λ before. (omega arith, tt))
  falls (TakesTurn found) Won some on = (omega arith, tt)
  falls (TakesTurn found) (Lost w) some on = (omega arith, tt)
  falls LoadsWeak (Value w) some on =
      of_along (λ z. Falls LoadsWeak z) (most_cells l.pages) w (λ at is more. (omega arith, more)) (omega arith, tt)
  falls (LoadsTarget cell) (Value w) some on =
      of_target (λ z. Falls (LoadsTarget cell) z) l epoch cell (decode w) (λ old leads back. (omega arith, some)) (omega arith, some)
  falls (LoadsTargetHeader cell old) (Value w) some on = (omega arith, some)
  falls (StoresTarget cell word) Done some on = (omega arith, some)
  falls (LoadsLink cell) (Value w) some on =
      of_along (λ z. Falls (LoadsLink cell) z) (cell.most - 1) w (λ at is more. (omega arith, more)) (omega arith, tt)
  falls x r some on = absurd (cc)

  -- an exchange takes it on, won or lost
  either : (found : ℕ) (b : Bool) (word : ℕ) → IsTrue (advances (TakesTurn found) (if b then Won else Lost word))
  either found true word = refl
  either found false word = refl

  -- each reply to what the walk wants takes it on
  pub goes : (x : WalkStage) (step : Step) (met : List ℕ) → wanted_at l epoch x ≡ Some step → IsTrue (advances x (reply_of step met))
  goes LoadsTurn step met wants = subst (λ s. IsTrue (advances LoadsTurn (reply_of s met))) (same_Some _ _ wants) refl
  goes (TakesTurn found) step met wants = subst (λ s. IsTrue (advances (TakesTurn found) (reply_of s met))) (same_Some _ _ wants) (either found _ _)
  goes LoadsWeak step met wants = subst (λ s. IsTrue (advances LoadsWeak (reply_of s met))) (same_Some _ _ wants) refl
  goes (LoadsTarget cell) step met wants = subst (λ s. IsTrue (advances (LoadsTarget cell) (reply_of s met))) (same_Some _ _ wants) refl
  goes (LoadsTargetHeader cell old) step met wants = subst (λ s. IsTrue (advances (LoadsTargetHeader cell old) (reply_of s met))) (same_Some _ _ wants) refl
  goes (StoresTarget cell word) step met wants = subst (λ s. IsTrue (advances (StoresTarget cell word) (reply_of s met))) (same_Some _ _ wants) refl
  goes (LoadsLink cell) step met wants = subst (λ s. IsTrue (advances (LoadsLink cell) (reply_of s met))) (same_Some _ _ wants) refl
  goes (Ended end) step met wants = absurd (cc)

pub goes_on : GoesOn
goes_on v step met sound wants =
    let on = goes v.layout v.epoch v.stage step met wants in
    (on, (falls v.layout v.epoch v.stage (reply_of step met) (counted v.layout v.epoch v.stage sound.fits) on).0)

-- ---- the end

-- the walk after its next step, whatever words that meets
abbrev then_on : Walking → List ℕ → Walking
then_on v words = after_step walk_machine v (wanted v) words

abbrev HasFewer : Walking → Walking → Type 0
HasFewer v w = (left w ≤ left v - 1) × IsCounted w.stage

module _ (l : Layout) (epoch : ℕ) where
  by_reply : (x : WalkStage) (r : Reply) → IsCounted x → IsTrue (advances x r)
      → (left_at l.pages (stage_after l epoch x r) ≤ left_at l.pages x - 1) × IsCounted (stage_after l epoch x r)
  by_reply x r some on = let f = falls l epoch x r some on in (omega (arith, f.0), f.1)

  fewer : (x : WalkStage) (words : List ℕ) → IsCounted x
      → HasFewer (record { layout = l; epoch = epoch; stage = x }) (then_on (record { layout = l; epoch = epoch; stage = x }) words)
  fewer LoadsTurn words some = by_reply LoadsTurn (Value (row_word l.pages WeakTurn words)) some refl
  fewer (TakesTurn found) words some =
      let won : Bool = row_word l.pages WeakTurn words == found in
      let reply : Reply = if won then Won else Lost (row_word l.pages WeakTurn words) in
      by_reply (TakesTurn found) reply some (either l epoch found won (row_word l.pages WeakTurn words))
  fewer LoadsWeak words some = by_reply LoadsWeak (Value (row_word l.pages WeakHead words)) some refl
  fewer (LoadsTarget cell) words some = by_reply (LoadsTarget cell) (Value (row_word l.pages (HeapWord (cell.at + 1)) words)) some refl
  fewer (LoadsTargetHeader cell old) words some = by_reply (LoadsTargetHeader cell old) (Value (row_word l.pages (HeapWord old) words)) some refl
  fewer (StoresTarget cell word) words some = by_reply (StoresTarget cell word) Done some refl
  fewer (LoadsLink cell) words some = by_reply (LoadsLink cell) (Value (row_word l.pages (HeapWord (cell.at + 2)) words)) some refl
  fewer (Ended end) words some = (omega arith, tt)

-- so many steps fewer are left
runs_down : (v : Walking) (met : ℕ → List ℕ) (n : ℕ) → IsCounted v.stage
    → (left (among walk_machine v met n) ≤ left v - n) × IsCounted (among walk_machine v met n).stage
unfolding among
runs_down v met zero some = (omega arith, some)
runs_down v met (suc n) some =
    let m : Walking = among walk_machine v met n in
    let before = runs_down v met n some in
    let next = fewer m.layout m.epoch m.stage (met n) before.1 in
    let least = before.0 in let falls_by = next.0 in
    (omega arith, next.1)

is_over : (pages : ℕ) (x : WalkStage) → IsCounted x → left_at pages x ≤ 0 → (end : WalkEnd) × (told x ≡ Finished end)
is_over n (Ended end) some none = (end, refl)
is_over n _ some none = absurd (omega arith)

pub ends_in_time : EndsInTime
ends_in_time v met sound =
    let m : Walking = among walk_machine v met (left v) in
    let down = runs_down v met (left v) (counted v.layout v.epoch v.stage sound.fits) in
    let least = down.0 in
    is_over m.layout.pages m.stage down.1 (omega arith)
