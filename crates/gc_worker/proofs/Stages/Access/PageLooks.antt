-- The looks at a page: it is open, or a round of the duty begins for it.
use Rattle.std.proofs.Common.{◌≡◌, ℕ, ◌*◌, ◌≤◌, ◌⊎◌, inl, inr, ◌==◌, Bool, true, false, Some, None, refl, sym, ap, ◌∙◌, arith}
use Rattle.std.proofs.lemmas.Bool.{eqb-true}
use Rattle.plain_state.specs.State.{Plain}
use Rattle.atom_store.specs.declared.step.Step.TheVariants.{Load}
use Rattle.atom_store.specs.declared.reply.Reply.TheVariants.{Value}
use Rattle.space_map.specs.declared.page_word.PageWord.{PageWord}
use Rattle.space_map.specs.declared.page_word.PageWord.TheVariants.{Unset, Open, Scanning}
use Rattle.space_map.specs.Spaces.{board_page, first_word, page_of, space_start, to_space}
use Rattle.space_map.specs.Table.{Page, place_of}
use Rattle.mmu_model.specs.Protection.{protection_of}
use Rattle.heap_state.specs.Configuration.{Configuration, Stands, table, era}
use Rattle.heap_state.specs.Invariant.Parts.Knowledge as parts
use Rattle.heap_state.specs.Known as workers
use Rattle.record_access.specs.declared.access_stage.AccessStage.{AccessStage}
use Rattle.record_access.specs.declared.access_stage.AccessStage.TheVariants.{LooksAtRecord, LoadsHeader, LooksAtCount, LoadsCount, LooksAtField, LoadsField, LooksAtBoard, StoresBoard}
use Rattle.record_access.specs.declared.accessed.Accessed.TheVariants.{Faults}
use Rattle.record_access.specs.declared.board_access.BoardUse.{BoardUse}
use Rattle.record_access.specs.declared.board_access.BoardUse.TheVariants as board_uses
use Rattle.record_access.specs.declared.field_access.FieldAccess.{FieldAccess}
use Rattle.record_access.specs.declared.field_access.FieldUse.{FieldUse}
use Rattle.record_access.specs.declared.field_access.FieldUse.TheVariants as field_uses
use Rattle.record_access.specs.declared.mixed_access.MixedAccess.{MixedAccess}
use Rattle.record_access.specs.declared.record_access.RecordAccess.{RecordAccess}
use Rattle.record_access.specs.Access.{GoesTo, Comes, IsHeapAddress, FitsStage, answered, let_through, looked, is_at_target, page_step, count_at, field_at, uses_board, uses_field}
use Rattle.record_access.specs.Access as access
use Rattle.gc_worker.specs.Workers.Fits.{IsAccessing, IsFaulting}
use Rattle.gc_worker.specs.Steps.Goes.{Is, Goes, StepsSo}
use Rattle.gc_worker.specs.Workers.Held.{Held}
use Rattle.gc_worker.specs.Workers.Knows.{access_at, opened_at, known_access, uncounted_access}
use Rattle.gc_worker.proofs.Words.Eras.{start_is}
use Rattle.gc_worker.proofs.Stages.Gate.GateWords.{wants}
use Rattle.gc_worker.proofs.Stages.Rounds.RoundWords.{page_now, page_says}
use Rattle.gc_worker.proofs.Words.RowSteps.{loads}
use Rattle.gc_worker.proofs.Stages.Access.NextAccessStage.{own, at, present, knew_access, it_only, learns, goes_to, goes_faulting}

-- ---- the protection

module _ (page e : ℕ) (next : AccessStage) where
  abbrev Through : PageWord → Type 0
  Through says =
      ((says ≡ Open e) × (let_through (protection_of page (Some says) e) next ≡ GoesTo next)) ⊎ (let_through (protection_of page (Some says) e) next ≡ Comes (Faults page))

  through_by : (found : ℕ) (b : Bool) → (found == e) ≡ b → Through (Open found)
  through_by found true same = inl (ap Open (eqb-true found e same), rw same refl)
  through_by found false same = inr (rw same refl)

  -- only a page that is open in the epoch lets through
  through : (says : PageWord) → Through says
  through Unset = inr refl
  through (Open found) = through_by found (found == e) refl
  through (Scanning found worker) = inr refl

-- ---- pages

page_within : (n a : ℕ) → IsHeapAddress n a → page_of a ≤ board_page n
page_within n a inside = omega (arith, inside)

page_from : (m a : ℕ) → first_word m ≤ a → first_word m ≤ first_word (page_of a)
page_from m a low = omega (arith, low)

module _ (c : Configuration) (p : Plain) (s : Stands c p) (k : ℕ) (y : Held) where
  module _ (stage : AccessStage) (is : Is c k (at c p s k y stage)) where
    -- an address in the epoch's space lies on a page for which a round may be made
    in_space : (a : ℕ) → (era c).start ≤ a → IsFaulting (at c p s k y stage) (page_of a)
    in_space a low =
        let start : (era c).start ≡ space_start y.layout.pages (to_space y.epoch) = start_is c ∙ rw (is.fits.pages, present c p s k y stage is) refl in
        inr (page_from (y.layout.pages * to_space y.epoch) a (omega (arith, start, low)))

    module _ (next : AccessStage) (page : ℕ) (asks : access.wanted_at y.layout stage ≡ page_step y.layout page)
        (comes : (word : ℕ) → answered (own c p s k y stage) (Value word) ≡ looked page y.epoch word next) (takes : (word : ℕ) → access.AccessTakes stage (Value word))
        (saw : is_at_target next ≡ true → is_at_target stage ≡ true)
        (within : page ≤ board_page y.layout.pages) (faulting : IsFaulting (at c p s k y stage) page) (opens : opened_at y.layout next ≡ Some page)
        (accesses : (f : workers.Access) → access_at next ≡ Some f → parts.Accesses (era c) s.ghost.size s.ghost.writer s.ghost.kind f)
        (task : IsAccessing y.account y.registers y.task next) (fits : FitsStage y.layout.pages next) where
      abbrev says : PageWord
      says = (table c).page page

      in_table : page ≤ 2 * c.pages
      in_table = let n = is.fits.pages in omega (arith, n, within)

      reads : answered (own c p s k y stage) (Value (page_now c page)) ≡ let_through (protection_of page (Some says) y.epoch) next
      reads = comes (page_now c page) ∙ ap (λ o. let_through (protection_of page o y.epoch) next) (page_says c p s page in_table)

      same_page : (q : ℕ) → opened_at y.layout next ≡ Some q → page ≡ q
      same_page q e = let d : Some page ≡ Some q = sym opens ∙ e in cc

      goes : Through page y.epoch next says → Goes c p s k None (at c p s k y stage) (Value (page_now c page))
      goes (inl t) =
          goes_to c p s k y stage is next (Value (page_now c page)) (reads ∙ t.1)
          (learns c p s k y stage is next saw accesses (λ q e. ap (λ z. (table c).page z) (sym (same_page q e)) ∙ t.0 ∙ ap Open (present c p s k y stage is)))
          task fits (takes (page_now c page))
      goes (inr e) = goes_faulting c p s k y stage is page (Value (page_now c page)) (reads ∙ e) within faulting (takes (page_now c page))

      pub looks : StepsSo c p s k (at c p s k y stage)
      looks =
          wants c p s k (at c p s k y stage) (Load (place_of c.pages (Page page))) (ap Some asks ∙ ap (λ n. Some (Load (place_of n (Page page)))) is.fits.pages)
          (loads c p s k (at c p s k y stage) (Page page) in_table (goes (through page y.epoch next says)))

  -- ---- a record

  pub looks_at_record : (r : RecordAccess) → Is c k (at c p s k y (LooksAtRecord r)) → (era c).start ≤ r.at → StepsSo c p s k (at c p s k y (LooksAtRecord r))
  looks_at_record r is low =
      let fits = is.fits.stage.sound.stage in
      looks (LooksAtRecord r) is (LoadsHeader r) (page_of r.at) refl (λ word. refl) (λ word. tt) (λ e. absurd (cc)) (page_within y.layout.pages r.at fits.0) (in_space (LooksAtRecord r) is r.at low) refl
      (λ f e. absurd (cc)) (record { act = is.fits.task.act; executes = is.fits.task.executes; is = is.fits.task.is }) fits

  -- ---- a count

  module _ (m : MixedAccess) (is : Is c k (at c p s k y (LooksAtCount m))) where
    of_mixed : parts.Accesses (era c) s.ghost.size s.ghost.writer s.ghost.kind (uncounted_access m)
    of_mixed = knew_access c p s k y (LooksAtCount m) is (uncounted_access m) refl

    pub looks_at_count : StepsSo c p s k (at c p s k y (LooksAtCount m))
    looks_at_count =
        let fits = is.fits.stage.sound.stage in
        let inside = fits.0 in
        let start = of_mixed.inside.0 in
        looks (LooksAtCount m) is (LoadsCount m) (page_of (count_at m)) refl (λ word. refl) (λ word. tt) (λ e. absurd (cc)) (page_within y.layout.pages (count_at m) (omega (arith, inside)))
        (in_space (LooksAtCount m) is (count_at m) (omega (arith, start))) refl (λ g e. it_only c p s k y (LooksAtCount m) is (uncounted_access m) g of_mixed e)
        (record { act = is.fits.task.act; executes = is.fits.task.executes; is = is.fits.task.is }) fits

  -- ---- a field

  module _ (f : FieldAccess) where
    in_field : (usage : FieldUse) (is : Is c k (at c p s k y (LooksAtField f usage))) → parts.Accesses (era c) s.ghost.size s.ghost.writer s.ghost.kind (known_access f)
    in_field usage is = knew_access c p s k y (LooksAtField f usage) is (known_access f) refl

    low : (usage : FieldUse) (is : Is c k (at c p s k y (LooksAtField f usage))) → (era c).start ≤ field_at f
    low usage is = let i = (in_field usage is).inside.0 in omega (arith, i)

    used_fits : (usage : FieldUse) → FitsStage y.layout.pages (LooksAtField f usage) → FitsStage y.layout.pages (uses_field f usage)
    used_fits (field_uses.Stores new) fits = fits.0
    used_fits _ fits = fits

    pub looks_at_field : (usage : FieldUse) → Is c k (at c p s k y (LooksAtField f usage)) → StepsSo c p s k (at c p s k y (LooksAtField f usage))
    looks_at_field (field_uses.Loads into) is =
        let fits = is.fits.stage.sound.stage in
        looks (LooksAtField f (field_uses.Loads into)) is (LoadsField f into) (page_of (field_at f)) refl (λ word. refl) (λ word. tt) (λ e. e) (page_within y.layout.pages (field_at f) fits.0)
        (in_space (LooksAtField f (field_uses.Loads into)) is (field_at f) (low (field_uses.Loads into) is)) refl (λ g e. it_only c p s k y (LooksAtField f (field_uses.Loads into)) is (known_access f) g (in_field (field_uses.Loads into) is) e)
        (record { act = is.fits.task.act; executes = is.fits.task.executes; is = is.fits.task.is }) fits
    looks_at_field usage is =
        let fits = is.fits.stage.sound.stage in
        looks (LooksAtField f usage) is (uses_field f usage) (page_of (field_at f)) refl (λ word. refl) (λ word. tt) (λ e. absurd (cc)) (page_within y.layout.pages (field_at f) fits.0)
        (in_space (LooksAtField f usage) is (field_at f) (low usage is)) refl (λ g e. it_only c p s k y (LooksAtField f usage) is (known_access f) g (in_field usage is) e)
        (record { act = is.fits.task.act; executes = is.fits.task.executes; is = is.fits.task.is }) (used_fits usage fits)

  -- ---- the board

  module _ (word : ℕ) where
    abbrev on_board : BoardUse → AccessStage
    on_board usage = LooksAtBoard (record { word = word; usage = usage })

    board_within : board_page y.layout.pages ≤ board_page y.layout.pages
    board_within = omega arith

    pub looks_at_board : (usage : BoardUse) → Is c k (at c p s k y (on_board usage)) → StepsSo c p s k (at c p s k y (on_board usage))
    looks_at_board (board_uses.Stores new) is =
        looks (on_board (board_uses.Stores new)) is (StoresBoard word new) (board_page y.layout.pages) refl (λ w. refl) (λ w. tt) (λ e. absurd (cc)) board_within (inl refl) refl (λ f e. absurd (cc))
        (record { act = is.fits.task.act; executes = is.fits.task.executes; is = is.fits.task.is }) is.fits.stage.sound.stage.0
    looks_at_board usage is =
        looks (on_board usage) is (uses_board word usage) (board_page y.layout.pages) refl (λ w. refl) (λ w. tt) (λ e. absurd (cc)) board_within (inl refl) refl (λ f e. absurd (cc))
        (record { act = is.fits.task.act; executes = is.fits.task.executes; is = is.fits.task.is }) is.fits.stage.sound.stage
