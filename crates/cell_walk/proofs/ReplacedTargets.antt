-- What a target is replaced by, and where the walk goes on.
use Rattle.std.proofs.Common.{◌≡◌, ℕ, ◌+◌, ◌-◌, ◌⊎◌, inl, inr, refl, sym, ap, ◌∙◌, subst, arith}
use Rattle.atom_store.specs.declared.reply.Reply.{Reply}
use Rattle.atom_store.specs.declared.reply.Reply.TheVariants.{Value, Done}
use Rattle.heap_words.specs.Decoded.{Decoded, ForwardWord, decode}
use Rattle.heap_words.specs.FirstWords.{is_forward}
use Rattle.cell_walk.specs.declared.linked_cell.LinkedCell.{LinkedCell}
use Rattle.cell_walk.specs.declared.walk_stage.WalkStage.{WalkStage}
use Rattle.cell_walk.specs.declared.walk_stage.WalkStage.TheVariants.{LoadsWeak, LoadsTarget, LoadsTargetHeader, StoresTarget, LoadsLink}
use Rattle.cell_walk.specs.Taken.{along, replacement, stage_after}
use Rattle.cell_walk.specs.Theorems.{ComesTo, FromLink, FromWeak, GoesAlongLinks, IsReplacedBy, ByCopy, ByNothing, ReplacesByFirstWords}
use Rattle.cell_walk.specs.Walking.{Walking, most_cells}
use Rattle.cell_walk.proofs.Along.{of_along, of_target}
use Rattle.cell_walk.proofs.Turns.{else_stays}

-- ---- replacements

replaced : (first : ℕ) (d : Decoded) → decode first ≡ d → IsReplacedBy first (replacement d)
replaced first (ForwardWord len a) is = ByCopy len a is refl
replaced first _ is = ByNothing (ap is_forward is) refl

module _ (v : Walking) (cell : LinkedCell) (new : ℕ) where
  abbrev Replaces : WalkStage → Reply → WalkStage → Type 0
  Replaces x r z = z ≡ StoresTarget cell new
      → (x ≡ StoresTarget cell new)
      ⊎ ((old : ℕ) × (first : ℕ) × (x ≡ LoadsTargetHeader cell old) × (r ≡ Value first) × IsReplacedBy first new)

  along_stores : (x : WalkStage) (r : Reply) (most link : ℕ) → Replaces x r (along most link)
  along_stores x r most link = of_along (λ z. Replaces x r z) most link (λ at is some e. absurd (cc)) (λ e. absurd (cc))

  replaces : (x : WalkStage) (r : Reply) → Replaces x r (stage_after v.layout v.epoch x r)
  replaces LoadsWeak (Value w) = along_stores _ _ (most_cells v.layout.pages) w
  replaces (LoadsTarget at) (Value w) =
      of_target (λ z. Replaces (LoadsTarget at) (Value w) z) v.layout v.epoch at (decode w) (λ old leads back e. absurd (cc)) (λ e. absurd (cc))
  replaces (LoadsTargetHeader at old) (Value w) = λ e.
      let same : at ≡ cell = cc in
      let is : replacement (decode w) ≡ new = cc in
      inr (old, w, ap (λ c. LoadsTargetHeader c old) same, refl, subst (λ n. IsReplacedBy w n) is (replaced w (decode w) refl))
  replaces (StoresTarget at word) Done = λ e. absurd (cc)
  replaces (LoadsLink at) (Value w) = along_stores _ _ (at.most - 1) w
  replaces x r = λ e. inl (else_stays v.layout v.epoch x r refl (StoresTarget cell new) (λ off. off) e)

pub replaces_by_first_words : ReplacesByFirstWords
replaces_by_first_words v r cell new is = replaces v cell new v.stage r is

-- ---- links

module _ (v : Walking) (r : Reply) (cell : LinkedCell) where
  abbrev Comes : WalkStage → WalkStage → Type 0
  Comes x z = z ≡ LoadsTarget cell → (x ≡ LoadsTarget cell) ⊎ ComesTo v r cell

  comes : (x : WalkStage) (s : Reply) → v.stage ≡ x → r ≡ s → Comes x (stage_after v.layout v.epoch x s)
  comes LoadsWeak (Value w) at said = of_along (λ z. Comes LoadsWeak z) (most_cells v.layout.pages) w
      (λ next is some e.
      let same : record { at = next; most = most_cells v.layout.pages } ≡ cell = cc in
      let link = ap (λ (c : LinkedCell). c.at + 1) same in
      inr (FromWeak at (said ∙ ap Value (is ∙ link)) (sym (ap (λ (c : LinkedCell). c.most) same))))
      (λ e. absurd (cc))
  comes (LoadsTarget from) (Value w) at said =
      of_target (λ z. Comes (LoadsTarget from) z) v.layout v.epoch from (decode w) (λ old leads back e. absurd (cc)) (λ e. absurd (cc))
  comes (LoadsTargetHeader from old) (Value w) at said = λ e. absurd (cc)
  comes (StoresTarget from word) Done at said = λ e. absurd (cc)
  comes (LoadsLink from) (Value w) at said = of_along (λ z. Comes (LoadsLink from) z) (from.most - 1) w
      (λ next is some e.
      let same : record { at = next; most = from.most - 1 } ≡ cell = cc in
      let link = ap (λ (c : LinkedCell). c.at + 1) same in
      let fewer : from.most - 1 ≡ cell.most = ap (λ (c : LinkedCell). c.most) same in
      inr (FromLink from at (said ∙ ap Value (is ∙ link)) (omega arith)))
      (λ e. absurd (cc))
  comes x s at said = λ e. inl (else_stays v.layout v.epoch x s refl (LoadsTarget cell) (λ off. off) e)

pub goes_along_links : GoesAlongLinks
goes_along_links v r cell is = comes v r cell v.stage r refl refl is
