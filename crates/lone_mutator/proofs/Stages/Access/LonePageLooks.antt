-- The looks at a page by a lone mutator: it is open, or the epoch isn't traced and a round is made for it.
use Rattle.std.proofs.Common.{◌≡◌, ◌≢◌, ℕ, ◌+◌, ◌*◌, ◌<◌, ◌≤◌, ◌⊎◌, inl, inr, ◌==◌, Bool, true, false, cond, Some, refl, sym, ap, subst, ◌∙◌, arith}
use Rattle.std.proofs.lemmas.Bool.{eqb-true, eq-eqb}
use Rattle.plain_state.specs.State.{Plain}
use Rattle.plain_state.specs.declared.value.Value.TheVariants.{Reference}
use Rattle.plain_heap.specs.declared.action.Action.{Action}
use Rattle.plain_heap.specs.declared.action.Action.TheVariants.{Measures, Loads, Stores, Compares}
use Rattle.atom_store.specs.declared.step.Step.TheVariants.{Load}
use Rattle.atom_store.specs.declared.reply.Reply.TheVariants.{Value}
use Rattle.space_map.specs.declared.page_word.PageWord.{PageWord}
use Rattle.space_map.specs.declared.page_word.PageWord.TheVariants.{Unset, Open, Scanning}
use Rattle.space_map.specs.PageWord.{age_of}
use Rattle.space_map.specs.Spaces.{board_page, page_of, to_space}
use Rattle.space_map.specs.Table.{Page, place_of}
use Rattle.mmu_model.specs.Protection.{protection_of}
use Rattle.fault_duty.specs.declared.caller.Caller.TheVariants.{Faulted}
use Rattle.fault_duty.specs.Duty as duty
use Rattle.heap_state.specs.Configuration.{Configuration, Stands, table, era, memory, team}
use Rattle.heap_state.specs.Known.{Known}
use Rattle.heap_state.specs.Invariant.Parts.Knowledge as parts
use Rattle.heap_state.proofs.Table.LaidOut.{laid_out}
use Rattle.heap_laws.specs.Fields.Words.{IsLedTo}
use Rattle.record_access.specs.declared.access_stage.AccessStage.{AccessStage}
use Rattle.record_access.specs.declared.access_stage.AccessStage.TheVariants.{LooksAtRecord, LoadsHeader, LooksAtCount, LoadsCount, LooksAtField, LoadsField, LooksAtBoard, LoadsBoard}
use Rattle.record_access.specs.declared.accessed.Accessed.TheVariants.{Faults}
use Rattle.record_access.specs.declared.board_access.BoardUse.{BoardUse}
use Rattle.record_access.specs.declared.board_access.BoardUse.TheVariants as board_uses
use Rattle.record_access.specs.declared.field_access.FieldAccess.{FieldAccess}
use Rattle.record_access.specs.declared.field_access.FieldUse.{FieldUse}
use Rattle.record_access.specs.declared.field_access.FieldUse.TheVariants as field_uses
use Rattle.record_access.specs.declared.mixed_access.MixedAccess.{MixedAccess}
use Rattle.record_access.specs.declared.record_access.RecordAccess.{RecordAccess}
use Rattle.gc_worker.specs.declared.stage.back.Back.{Back}
use Rattle.gc_worker.specs.declared.stage.back.Back.TheVariants.{ToAccess, ToTarget}
use Rattle.gc_worker.specs.declared.stage.Stage.TheVariants.{Serves}
use Rattle.record_access.specs.Access.{GoesTo, Comes, IsHeapAddress, answered, count_at, field_at, is_at_target, left_at, let_through, looked, page_step, uses_board, uses_field}
use Rattle.gc_worker.specs.Steps.Access.{begun}
use Rattle.record_access.specs.Access as access
use Rattle.gc_worker.specs.Workers.Fits.{ExecutesAction}
use Rattle.gc_worker.specs.Workers.Held.{Held, at_stage}
use Rattle.gc_worker.specs.Workers.Knows.{known_access, uncounted_access}
use Rattle.gc_worker.proofs.Words.Eras.{board_is}
use Rattle.gc_worker.proofs.Stages.Rounds.RoundWords.{page_now, page_says}
use Rattle.gc_worker.proofs.Stages.Access.Acting.{Held_value, led, names}
use Rattle.gc_worker.proofs.Stages.Access.NextAccessStage.{own, at, present, knew_access}
use Rattle.lone_mutator.specs.Bound.{guard_cost}
use Rattle.lone_mutator.specs.Law.{IsAlone, Lowers, StepsLower, saves}
use Rattle.lone_mutator.specs.Lone.{AccessStands, IsLook}
use Rattle.lone_mutator.specs.Potential.{access_left, wait_left}
use Rattle.lone_mutator.proofs.Epochs.EpochPages.{opened}
use Rattle.lone_mutator.proofs.Steps.Owed.{loads, wants}
use Rattle.lone_mutator.proofs.Epochs.TracedEpochs.{records_are_open}
use Rattle.lone_mutator.proofs.Epochs.Cost.{due_untraced}
use Rattle.lone_mutator.proofs.Stages.Access.PaidOutcomes.{Owed, goes}

-- ---- the protection

module _ (page e : ℕ) (next : AccessStage) where
  abbrev Through : PageWord → Type 0
  Through says = ((says ≡ Open e) × (let_through (protection_of page (Some says) e) next ≡ GoesTo next)) ⊎ ((says ≢ Open e) × (let_through (protection_of page (Some says) e) next ≡ Comes (Faults page)))

  through_by : (found : ℕ) (b : Bool) → (found == e) ≡ b → Through (Open found)
  through_by found true same = inl (ap Open (eqb-true found e same), rw same refl)
  through_by found false same = inr ((λ is. let own : found ≡ e = cc in let test = eq-eqb found e own in let z = sym test ∙ same in absurd (cc)), rw same refl)

  -- a page that isn't open faults
  through : (says : PageWord) → Through says
  through Unset = inr ((λ is. absurd (cc)), refl)
  through (Open found) = through_by found (found == e) refl
  through (Scanning found worker) = inr ((λ is. absurd (cc)), refl)

module _ (c : Configuration) (p : Plain) (s : Stands c p) (y : Held) where
  abbrev IsTracedNow : Type 0
  IsTracedNow = (table c).traced ≡ (table c).gate.epoch + 1

  -- ---- a look

  module _ (stage : AccessStage) (a : IsAlone c (at c p s 0 y stage)) (look : IsLook stage) (next : AccessStage) (page : ℕ) (asks : access.wanted_at y.layout stage ≡ page_step y.layout page)
      (comes : (word : ℕ) → answered (own c p s 0 y stage) (Value word) ≡ looked page y.epoch word next) (within : page ≤ 2 * c.pages)
      (traced_open : IsTracedNow → (table c).page page ≡ Open (table c).gate.epoch) (stands : AccessStands (table c) y.layout next)
      (fewer : left_at next + wait_left c.pages next + guard_cost < access_left c.pages (own c p s 0 y stage)) where
    abbrev says : PageWord
    says = (table c).page page

    now : y.epoch ≡ (table c).gate.epoch
    now = present c p s 0 y stage a.is

    -- a page with a word of the epoch is open, since it scans none
    open_of_epoch : (q : ℕ) → age_of ((table c).page q) ≡ (table c).gate.epoch + 1 → (table c).page q ≡ Open (table c).gate.epoch
    open_of_epoch q age = opened (era c) (memory c) (team c) s.ghost s.invariant a.one (ap (λ (w : Known). w.scan) a.is.as_known) q age

    -- who is to load a target has found the epoch traced
    target_traced : is_at_target stage ≡ true → IsTracedNow
    target_traced target = ((s.invariant.workers 0 a.is.below).seen_traced (ap (λ (w : Known). w.traced_seen) a.is.as_known ∙ target)).1

    module _ (shut : says ≢ Open y.epoch) where
      closed : says ≢ Open (table c).gate.epoch
      closed = λ is. shut (is ∙ ap Open (sym now))

      untraced : (table c).traced ≢ (table c).gate.epoch + 1
      untraced = λ traced. closed (traced_open traced)

      abbrev Serves_it : Back → Type 0
      Serves_it back = Lowers c.pages (saves c) (table c) (table c) (at c p s 0 y stage) (at_stage y (Serves (duty.begun y.layout (Faulted page) y.epoch y.number) back))

      faults_by : (target : Bool) → is_at_target stage ≡ target → Serves_it (cond target (ToTarget (own c p s 0 y stage)) (ToAccess (own c p s 0 y stage)))
      faults_by true target = absurd (untraced (target_traced target))
      faults_by false other =
          let due = due_untraced c.pages (table c).gate.epoch (table c).traced (table c).weak_turn ((table c).area (to_space (table c).gate.epoch)).owed (table c).page untraced in
          let n = a.is.fits.pages in
          record {
            remembers = record {
              began = λ past. a.remembers.began tt;
              quiet = a.remembers.quiet;
              stands = (
                record { untraced = inr untraced; found = λ wanted is age. (let same : page ≡ wanted = cc in closed (subst (λ (q : ℕ). (table c).page q ≡ Open (table c).gate.epoch) (sym same) (open_of_epoch wanted age))) },
                look,
              );
            };
            falls = omega (arith, due, n);
          }

      faults : Owed c p s y stage a (table c) (Comes (Faults page))
      faults = faults_by (is_at_target stage) refl

    by_word : Through page y.epoch next says → Owed c p s y stage a (table c) (let_through (protection_of page (Some says) y.epoch) next)
    by_word (inl t) = subst (Owed c p s y stage a (table c)) (sym t.1) (goes c p s y stage a next stands fewer)
    by_word (inr t) = subst (Owed c p s y stage a (table c)) (sym t.1) (faults t.0)

    pub looks : StepsLower c (at c p s 0 y stage)
    looks =
        let reads : answered (own c p s 0 y stage) (Value (page_now c page)) ≡ let_through (protection_of page (Some says) y.epoch) next =
        comes (page_now c page) ∙ ap (λ o. let_through (protection_of page o y.epoch) next) (page_says c p s page within) in
        wants c p s (at c p s 0 y stage) (Load (place_of c.pages (Page page))) (ap Some asks ∙ ap (λ n. Some (Load (place_of n (Page page)))) a.is.fits.pages)
        (loads c p s (at c p s 0 y stage) (Page page) within (subst (Owed c p s y stage a (table c)) (sym reads) (by_word (through page y.epoch next says))))

  -- ---- the record that the action names

  module _ (r : RecordAccess) (stage : AccessStage) (a : IsAlone c (at c p s 0 y stage)) where
    abbrev Holds_it : ℕ → Type 0
    Holds_it at = Held_value c p s 0 y stage a.is (Reference (record { mutator = 0; serial = at }))

    at_address : (u : RecordAccess) → Some (LooksAtRecord u) ≡ Some (LooksAtRecord r) → Holds_it u.at → Holds_it r.at
    at_address u e holds = let same : u.at ≡ r.at = cc in subst Holds_it same holds

    named_by : (act : Action) → ExecutesAction y.account y.registers y.task act → begun act ≡ Some (LooksAtRecord r) → Holds_it r.at
    named_by (Measures d j) executes e = at_address _ e (names c p s 0 y stage a.is (Measures d j) executes)
    named_by (Loads d j v) executes e = at_address _ e (names c p s 0 y stage a.is (Loads d j v) executes)
    named_by (Stores j v w) executes e = at_address _ e (names c p s 0 y stage a.is (Stores j v w) executes).0
    named_by (Compares d j v u w) executes e = at_address _ e (names c p s 0 y stage a.is (Compares d j v u w) executes).0
    named_by _ executes e = absurd (cc)

    pub leads : IsHeapAddress y.layout.pages r.at → (act : Action) → ExecutesAction y.account y.registers y.task act → begun act ≡ Some (LooksAtRecord r) → IsLedTo (era c) (memory c) s.ghost p r.at
    leads inside act executes e = led c p s 0 y stage a.is r.at inside (named_by act executes e)

  -- the pages of a record are open in a traced epoch
  open_at : (at x : ℕ) → 0 < s.ghost.size at → (era c).start ≤ at → at < (era c).start + (era c).span → at ≤ x → x < at + s.ghost.size at → IsTracedNow → (table c).page (page_of x) ≡ Open (table c).gate.epoch
  open_at at x stands from below low high traced =
      records_are_open (era c) (memory c).traced (memory c).gate.behind (memory c).front (memory c).low s.ghost.size (memory c).heap (memory c).page (laid_out c.pages c.words s.formed)
      s.invariant.tracing s.invariant.laid s.invariant.new traced at x stands from below low high

  -- ---- the looks

  within_heap : (n at : ℕ) → IsHeapAddress n at → n ≡ c.pages → page_of at ≤ 2 * c.pages
  within_heap n at inside same = omega (arith, inside, same)

  pub looks_at_record : (r : RecordAccess) → IsAlone c (at c p s 0 y (LooksAtRecord r)) → StepsLower c (at c p s 0 y (LooksAtRecord r))
  looks_at_record r a =
      let inside = a.is.fits.stage.sound.stage.0 in
      let there = leads r (LooksAtRecord r) a inside a.is.fits.task.act a.is.fits.task.executes a.is.fits.task.is in
      looks (LooksAtRecord r) a tt (LoadsHeader r) (page_of r.at) refl (λ word. refl) (within_heap y.layout.pages r.at inside a.is.fits.pages)
      (open_at r.at r.at there.stands.0 there.inside.0 there.inside.1 (omega arith) (let some = there.stands.0 in omega (arith, some))) tt (omega arith)

  pub looks_at_count : (m : MixedAccess) → IsAlone c (at c p s 0 y (LooksAtCount m)) → StepsLower c (at c p s 0 y (LooksAtCount m))
  looks_at_count m a =
      let inside = a.is.fits.stage.sound.stage.0 in
      let n = a.is.fits.pages in
      let i = knew_access c p s 0 y (LooksAtCount m) a.is (uncounted_access m) refl in
      let word = i.word in
      looks (LooksAtCount m) a tt (LoadsCount m) (page_of (count_at m)) refl (λ word. refl) (omega (arith, inside, n))
      (open_at m.at (count_at m) i.stands i.inside.0 i.inside.1 (omega arith) (omega (arith, word))) tt (omega arith)

  module _ (f : FieldAccess) where
    module _ (usage : FieldUse) (a : IsAlone c (at c p s 0 y (LooksAtField f usage))) where
      in_field : parts.Accesses (era c) s.ghost.size s.ghost.writer s.ghost.kind (known_access f)
      in_field = knew_access c p s 0 y (LooksAtField f usage) a.is (known_access f) refl

      field_open : IsTracedNow → (table c).page (page_of (field_at f)) ≡ Open (table c).gate.epoch
      field_open = let i = in_field in let word = i.word in open_at f.at (field_at f) i.stands i.inside.0 i.inside.1 (omega arith) (omega (arith, word))

    pub looks_at_field : (usage : FieldUse) → IsAlone c (at c p s 0 y (LooksAtField f usage)) → StepsLower c (at c p s 0 y (LooksAtField f usage))
    looks_at_field (field_uses.Loads into) a =
        looks (LooksAtField f (field_uses.Loads into)) a tt (LoadsField f into) (page_of (field_at f)) refl (λ word. refl) (within_heap y.layout.pages (field_at f) a.is.fits.stage.sound.stage.0 a.is.fits.pages)
        (field_open (field_uses.Loads into) a) tt (omega arith)
    looks_at_field usage a =
        looks (LooksAtField f usage) a tt (uses_field f usage) (page_of (field_at f)) refl (λ word. refl) (within_heap y.layout.pages (field_at f) a.is.fits.stage.sound.stage.0 a.is.fits.pages)
        (field_open usage a) tt (omega arith)

  module _ (word : ℕ) where
    abbrev on_board : BoardUse → AccessStage
    on_board usage = LooksAtBoard (record { word = word; usage = usage })

    board_open : (n : ℕ) → n ≡ c.pages → IsTracedNow → (table c).page (board_page n) ≡ Open (table c).gate.epoch
    board_open n same traced =
        let b = board_is c in
        let at : page_of (era c).board ≡ board_page n = omega (arith, b, same) in
        subst (λ (q : ℕ). (table c).page q ≡ Open (table c).gate.epoch) at (s.invariant.tracing.quiet traced).board

    pub looks_at_board : (usage : BoardUse) → IsAlone c (at c p s 0 y (on_board usage)) → StepsLower c (at c p s 0 y (on_board usage))
    looks_at_board (board_uses.Loads into) a =
        looks (on_board (board_uses.Loads into)) a tt (LoadsBoard word into) (board_page y.layout.pages) refl (λ w. refl) (let n = a.is.fits.pages in omega (arith, n)) (board_open y.layout.pages a.is.fits.pages) tt (omega arith)
    looks_at_board usage a =
        looks (on_board usage) a tt (uses_board word usage) (board_page y.layout.pages) refl (λ w. refl) (let n = a.is.fits.pages in omega (arith, n)) (board_open y.layout.pages a.is.fits.pages) tt (omega arith)
