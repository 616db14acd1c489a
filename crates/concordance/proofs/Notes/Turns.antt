-- Where turns lead: what stays so if records change, and where a path has ended.
use Rattle.std.proofs.Common.{◌≡◌, ◌≢◌, ◌⊎◌, ℕ, zero, suc, ◌≤◌, ⊎_elim, inl, inr, Bool, List, refl, sym, ap, ◌∙◌, subst, arith}
use Rattle.std.proofs.lemmas.Bool.{cases_eq}
use Rattle.plain_state.specs.declared.value.Value.{Value}
use Rattle.plain_state.specs.declared.value.Value.TheVariants.{Number, Reference}
use Rattle.plain_state.specs.State.{Record}
use Rattle.concordance.specs.Notes.Invariant.{AreKept, LeadsToNote}
use Rattle.concordance.specs.Notes.Paths.{Turns, reached, turn_from}
use Rattle.concordance.specs.Desk.{own}
use Rattle.concordance.specs.Notes.Records.{Note}
use Rattle.concordance.proofs.Lists.Elements.{all_at}

-- a turn that leads somewhere leads there still
pub record KeepsTurns (records later : List Record) : Type 0 where
  pub kept : (v : Value) (right : Bool) → turn_from records v right ≢ Number 0 → turn_from later v right ≡ turn_from records v right

-- whoever came somewhere by so many turns comes there still
pub later_turns : (records later : List Record) (first : Value) (turns : Turns) (depth : ℕ) → KeepsTurns records later → reached records first turns depth ≢ Number 0
    → reached later first turns depth ≡ reached records first turns depth
later_turns records later first turns zero keeps some = refl
later_turns records later first turns (suc d) keeps some =
    let before : reached records first turns d ≢ Number 0 = λ e. some (ap (λ (v : Value). turn_from records v (turns d)) e) in
    ap (λ (v : Value). turn_from later v (turns d)) (later_turns records later first turns d keeps before) ∙ keeps.kept (reached records first turns d) (turns d) some

serial_in : Value → ℕ
serial_in (Number n) = 0
serial_in (Reference i) = i.serial

-- references to one record
pub same_reference : (m s t : ℕ) → own m s ≡ own m t → s ≡ t
unfolding serial_in
same_reference m s t e = ap serial_in e

pub somewhere : (m serial : ℕ) → own m serial ≢ Number 0
somewhere m serial e = cc

pub still_there : (records later : List Record) (first : Value) (turns : Turns) (depth m serial : ℕ) → KeepsTurns records later → reached records first turns depth ≡ own m serial
    → reached later first turns depth ≡ own m serial
still_there records later first turns depth m serial keeps is =
    later_turns records later first turns depth keeps (λ e. somewhere m serial (sym is ∙ e)) ∙ is

-- If each turn leads where it led, so do more of them.
pub same_path : (records later : List Record) (first : Value) (turns : Turns) → ((d : ℕ) (right : Bool) → turn_from later (reached records first turns d) right ≡ turn_from records (reached records first turns d) right) → (depth : ℕ)
    → reached later first turns depth ≡ reached records first turns depth
same_path records later first turns same zero = refl
same_path records later first turns same (suc d) = ap (λ (v : Value). turn_from later v (turns d)) (same_path records later first turns same d) ∙ same d (turns d)

-- Each turn leads where it led, or to a new entry, from which none leads on.
module _ (records later : List Record) (to : Value) (either : (v : Value) (right : Bool) → (turn_from later v right ≡ turn_from records v right) ⊎ (turn_from later v right ≡ to)) (none : (right : Bool) → turn_from later to right ≡ Number 0) (first : Value) (turns : Turns) where
  passes_new : (depth : ℕ) → (reached later first turns depth ≡ reached records first turns depth) ⊎ (turn_from later (reached later first turns depth) (turns depth) ≡ Number 0)
  passes_new zero = inl refl
  passes_new (suc d) = ⊎_elim
      (λ same. let here : reached later first turns (suc d) ≡ turn_from later (reached records first turns d) (turns d) = ap (λ (v : Value). turn_from later v (turns d)) same in ⊎_elim
      (λ old. inl (here ∙ old))
      (λ new. inr (ap (λ (v : Value). turn_from later v (turns (suc d))) (here ∙ new) ∙ none (turns (suc d))))
      (either (reached records first turns d) (turns d)))
      (λ gone. inr (ap (λ (v : Value). turn_from later v (turns (suc d))) gone))
      (passes_new d)

  -- so one turn more leads nowhere, if those before led nowhere
  pub ends_with_new : (depth : ℕ) → reached records first turns depth ≡ Number 0 → reached later first turns (suc depth) ≡ Number 0
  ends_with_new depth ends = ⊎_elim (λ same. ap (λ (v : Value). turn_from later v (turns depth)) (same ∙ ends)) (λ gone. gone) (passes_new depth)

-- a path that has ended leads nowhere any more
pub ended : (records : List Record) (first : Value) (turns : Turns) (depth d : ℕ) → reached records first turns depth ≡ Number 0 → depth ≤ d → reached records first turns d ≡ Number 0
ended records first turns depth zero ends less = let e : depth ≡ 0 = omega arith in subst (λ n. reached records first turns n ≡ Number 0) e ends
ended records first turns depth (suc d) ends less = ⊎_elim
    (λ (e : depth ≡ suc d). subst (λ n. reached records first turns n ≡ Number 0) e ends)
    (λ (other : depth ≢ suc d). ap (λ (v : Value). turn_from records v (turns d)) (ended records first turns depth d ends (omega arith)))
    (cases_eq depth (suc d))

-- turns lead nowhere or to an entry
module _ (m : ℕ) (records : List Record) (first latest : Value) (notes : List Note) (kept : AreKept m records first latest notes) (turns : Turns) where
  next : (v : Value) (right : Bool) → LeadsToNote m notes v → LeadsToNote m notes (turn_from records v right)
  next v right (inl e) = inl (ap (λ (w : Value). turn_from records w right) e)
  next v right (inr to) =
      subst (λ (w : Value). LeadsToNote m notes (turn_from records w right)) (sym to.2)
      (all_at (λ (e : Note). (side : Bool) → LeadsToNote m notes (turn_from records (own m e.serial) side)) notes to.0 kept.turns to.1 right)

  pub reaches_notes : (depth : ℕ) → LeadsToNote m notes (reached records first turns depth)
  reaches_notes zero = kept.begins
  reaches_notes (suc d) = next (reached records first turns d) (turns d) (reaches_notes d)
