-- A round of the duty keeps what is kept of checkpoints: a page is claimed, targets are replaced, and TRACED is exchanged, before the epoch is
-- traced.
use Rattle.std.proofs.Common.{◌≡◌, ℕ, ◌+◌, Some, true, refl, ap, subst, ◌∙◌, arith}
use Rattle.plain_state.specs.State.{Plain}
use Rattle.atom_store.specs.declared.step.Step.TheVariants.{Load, Store, Exchange}
use Rattle.space_map.specs.declared.page_word.PageWord.TheVariants.{Scanning}
use Rattle.space_map.specs.PageWord.{encode_page}
use Rattle.space_map.specs.Spaces.{Layout, page_of, to_space}
use Rattle.space_map.specs.Table.{Area, Gate, HeapWord, Page, Traced, WeakTurn, place_of}
use Rattle.page_slots.specs.declared.claim_stage.ClaimStage.{ClaimStage}
use Rattle.page_slots.specs.declared.claim_stage.ClaimStage.TheVariants as claim_stage
use Rattle.page_slots.specs.Claim.{Claiming}
use Rattle.cell_walk.specs.declared.linked_cell.LinkedCell.{LinkedCell}
use Rattle.cell_walk.specs.declared.walk_stage.WalkStage.{WalkStage}
use Rattle.cell_walk.specs.declared.walk_stage.WalkStage.TheVariants.{TakesTurn, StoresTarget}
use Rattle.cell_walk.specs.declared.walk_stage.WalkStage.TheVariants as walk_stage
use Rattle.cell_walk.specs.Walking.{Walking}
use Rattle.fault_duty.specs.declared.duty_stage.DutyStage.{DutyStage}
use Rattle.fault_duty.specs.declared.duty_stage.DutyStage.TheVariants.{LoadsGate, LoadsTraced, LoadsWanted, LoadsFrontFor, LoadsFront, LoadsPage, Claims, EndGate, EndArea, EndPage, EndFilling, EndAreaAgain, Walks, Traces, Ended}
use Rattle.fault_duty.specs.Duty.{Round}
use Rattle.fault_duty.specs.Duty as duty
use Rattle.heap_state.specs.Configuration.{Configuration, table, team}
use Rattle.heap_state.specs.Memory.Entries.{EntryFits, PageIs, TracedIs, WeakTurnIs, WordIs}
use Rattle.heap_state.specs.Saving.Frozen.{Frozen}
use Rattle.heap_state.specs.Saving.Savers.{Saver}
use Rattle.heap_state.specs.Known.{At, LastLook, Known}
use Rattle.heap_laws.specs.Saving.Rows.{Spares, SparesWeakTurn}
use Rattle.heap_laws.specs.Cells.Walks.{replacing}
use Rattle.heap_laws.specs.Saving.Sparing.{WalksChain}
use Rattle.heap_laws.proofs.Saving.Sparing.{claims_are_spared, traced_is_spared, traced_words_are_spared}
use Rattle.gc_worker.specs.declared.stage.back.Back.{Back}
use Rattle.gc_worker.specs.declared.stage.Stage.TheVariants.{Serves}
use Rattle.gc_worker.specs.Steps.Wanted.{wanted}
use Rattle.gc_worker.specs.Workers.Held.{Held, at_stage}
use Rattle.gc_worker.specs.Workers.Knows.{claim_with, looked_all, visited}
use Rattle.gc_worker.proofs.Saving.Frame.Forgetting.{IsForgetful, SavesSo}
use Rattle.gc_worker.proofs.Saving.Frame.Forgetting as by_row
use Rattle.gc_worker.proofs.Saving.Frame.Rounding.{round_less}
use Rattle.gc_worker.proofs.Saving.Frame.Step.{Before, prepared, saves}
use Rattle.gc_worker.proofs.Stages.Rounds.Winning as winning
use Rattle.gc_worker.proofs.Stages.Rounds.SecondLook.{looked_in}
use Rattle.gc_worker.proofs.Stages.Rounds.RoundWords.{page_now, traced_now, traced_word}
use Rattle.gc_worker.proofs.Plain.Quiet.{rounds_are_quiet}

module _ (c : Configuration) (p : Plain) (z : Frozen) (saver : ℕ → Saver) (k : ℕ) (y : Held) (d : Round) (back : Back) where
  abbrev here : DutyStage → Held
  here stage = at_stage y (Serves (record d { stage = stage }) back)

  module _ (stage : DutyStage) (b : Before c p z saver k (here stage)) where
    abbrev x : Held
    x = here stage

    abbrev Owes : Type 0
    Owes = SavesSo c p saver k x

    forgets : IsForgetful x
    forgets = record {
      less = λ reply. let r : Round = duty.taken (record d { stage = stage }) reply in round_less x b.room back b.is.fits.stage.1 r (duty.told r);
      quiet = λ reply. rounds_are_quiet (duty.told (duty.taken (record d { stage = stage }) reply));
    }

    pages : d.layout.pages ≡ c.pages
    pages = ap (λ (l : Layout). l.pages) b.is.fits.stage.0.layout ∙ b.is.fits.pages

    loads : (at : ℕ) → wanted x ≡ Some (Load at) → Owes
    loads at next = by_row.loads c p z saver k x b forgets at next

  -- ---- a page is claimed

  module _ (q : Claiming) (b : Before c p z saver k (here (Claims (record q { stage = claim_stage.Exchanges })))) where
    page_fits : EntryFits c.pages (PageIs q.page (Scanning q.epoch q.worker))
    page_fits =
        let own = winning.own c p b.stands k y d back q b.is in
        let worker = own.sound.worker in
        (winning.inside c p b.stands k y d back q b.is, (own.sound.epoch, omega arith))

    page_spared : page_now c q.page ≡ encode_page q.found → Spares (table c) (saves c) z (team c).count saver (Some (PageIs q.page (Scanning q.epoch q.worker)))
    page_spared same =
        let law = claims_are_spared (table c) (saves c) z (team c) b.stands.ghost saver k (claim_with q (looked_all q) true) b.saving
        (prepared c p z saver k (here (Claims (record q { stage = claim_stage.Exchanges }))) b) (winning.wins_page c p b.stands k y d back q b.is same) in
        rw (winning.worker_is c p b.stands k y d back q b.is) (rw (winning.epoch_is c p b.stands k y d back q b.is) at law)

    exchanges_page : SavesSo c p saver k (here (Claims (record q { stage = claim_stage.Exchanges })))
    exchanges_page =
        by_row.exchanges c p z saver k (here (Claims (record q { stage = claim_stage.Exchanges }))) b (forgets (Claims (record q { stage = claim_stage.Exchanges })) b)
        (PageIs q.page (Scanning q.epoch q.worker)) page_fits (encode_page q.found) page_spared
        (ap (λ (n : ℕ). Some (Exchange (place_of n (Page q.page)) (encode_page q.found) (encode_page (Scanning q.epoch q.worker)))) (winning.pages c p b.stands k y d back q b.is))

  claims : (q : Claiming) (stage : ClaimStage) → Before c p z saver k (here (Claims (record q { stage = stage }))) → SavesSo c p saver k (here (Claims (record q { stage = stage })))
  claims q (claim_stage.LooksAtPlace n) b = loads (Claims (record q { stage = claim_stage.LooksAtPlace n })) b _ refl
  claims q claim_stage.LooksAtGate b = loads (Claims (record q { stage = claim_stage.LooksAtGate })) b _ refl
  claims q claim_stage.Exchanges b = exchanges_page q b
  claims q (claim_stage.Ended result) b =
      by_row.nothing c p z saver k (here (Claims (record q { stage = claim_stage.Ended result }))) b (forgets (Claims (record q { stage = claim_stage.Ended result })) b) refl

  -- ---- the walk over the chain of copied cells

  module _ (traced : ℕ) (w : Walking) where
    abbrev walks_at : WalkStage → DutyStage
    walks_at stage = Walks traced (record w { stage = stage })

    module _ (stage : WalkStage) (b : Before c p z saver k (here (walks_at stage))) where
      walk_pages : w.layout.pages ≡ c.pages
      walk_pages = ap (λ (l : Layout). l.pages) b.is.fits.stage.0.sound.stage.1.layout ∙ pages (walks_at stage) b

      loads_it : (at : ℕ) → wanted (here (walks_at stage)) ≡ Some (Load at) → SavesSo c p saver k (here (walks_at stage))
      loads_it at next = loads (walks_at stage) b at next

    exchanges_turn : (turn : ℕ) → Before c p z saver k (here (walks_at (TakesTurn turn))) → SavesSo c p saver k (here (walks_at (TakesTurn turn)))
    exchanges_turn turn b =
        by_row.exchanges c p z saver k (here (walks_at (TakesTurn turn))) b (forgets (walks_at (TakesTurn turn)) b) (WeakTurnIs (w.epoch + 1)) tt turn (λ same. SparesWeakTurn (w.epoch + 1))
        (ap (λ (n : ℕ). Some (Exchange (place_of n WeakTurn) turn (w.epoch + 1))) (walk_pages (TakesTurn turn) b))

    stores_target : (cell : LinkedCell) (word : ℕ) → Before c p z saver k (here (walks_at (StoresTarget cell word))) → SavesSo c p saver k (here (walks_at (StoresTarget cell word)))
    stores_target cell word b =
        let inside = b.is.fits.stage.0.sound.stage.1.sound.fits.0.inside in
        let n = walk_pages (StoresTarget cell word) b in
        by_row.stores c p z saver k (here (walks_at (StoresTarget cell word))) b (forgets (walks_at (StoresTarget cell word)) b) (WordIs (cell.at + 1) word) (omega (arith, inside, n))
        (traced_words_are_spared (table c) (saves c) z (team c) b.stands.ghost saver k (cell.at + 1) word b.saving (prepared c p z saver k (here (walks_at (StoresTarget cell word))) b)
        (WalksChain (At (replacing (visited cell) word)) (ap (λ (u : Known). u.pass) b.is.as_known)))
        (ap (λ (n : ℕ). Some (Store (place_of n (HeapWord (cell.at + 1))) word)) n)

    by_walk : (stage : WalkStage) → Before c p z saver k (here (walks_at stage)) → SavesSo c p saver k (here (walks_at stage))
    by_walk (TakesTurn turn) b = exchanges_turn turn b
    by_walk (StoresTarget cell word) b = stores_target cell word b
    by_walk (walk_stage.Ended end) b = by_row.nothing c p z saver k (here (walks_at (walk_stage.Ended end))) b (forgets (walks_at (walk_stage.Ended end)) b) refl
    by_walk stage b = loads_it stage b _ refl

  -- ---- TRACED is exchanged

  module _ (traced : ℕ) (b : Before c p z saver k (here (Traces traced))) where
    traced_spared : traced_now c ≡ traced → Spares (table c) (saves c) z (team c).count saver (Some (TracedIs (d.epoch + 1)))
    traced_spared same =
        let look : LastLook = record { traced = traced } in
        let law = traced_is_spared (table c) (saves c) z (team c) b.stands.ghost saver k look b.saving (prepared c p z saver k (here (Traces traced)) b)
        (record { looks = looked_in b.is refl; unchanged = traced_word c ∙ same; walked = ap (λ (w : Known). w.pass) b.is.as_known }) in
        subst (λ (w : Known). Spares (table c) (saves c) z (team c).count saver (Some (TracedIs (w.epoch + 1)))) b.is.as_known law

    exchanges_traced : SavesSo c p saver k (here (Traces traced))
    exchanges_traced =
        by_row.exchanges c p z saver k (here (Traces traced)) b (forgets (Traces traced) b) (TracedIs (d.epoch + 1)) tt traced traced_spared
        (ap (λ (n : ℕ). Some (Exchange (place_of n Traced) traced (d.epoch + 1))) (pages (Traces traced) b))

  -- ---- by its stage

  by_stage : (stage : DutyStage) → Before c p z saver k (here stage) → SavesSo c p saver k (here stage)
  by_stage LoadsGate b = loads LoadsGate b (place_of d.layout.pages Gate) refl
  by_stage (LoadsTraced hindrance) b = loads (LoadsTraced hindrance) b (place_of d.layout.pages Traced) refl
  by_stage (LoadsWanted found page) b = loads (LoadsWanted found page) b (place_of d.layout.pages (Page page)) refl
  by_stage (LoadsFrontFor found w) b = loads (LoadsFrontFor found w) b (place_of d.layout.pages (Area (to_space d.epoch))) refl
  by_stage (LoadsFront found) b = loads (LoadsFront found) b (place_of d.layout.pages (Area (to_space d.epoch))) refl
  by_stage (LoadsPage choice page) b = loads (LoadsPage choice page) b (place_of d.layout.pages (Page page)) refl
  by_stage (Claims claim) b = claims claim claim.stage b
  by_stage (EndGate traced) b = loads (EndGate traced) b (place_of d.layout.pages Gate) refl
  by_stage (EndArea traced) b = loads (EndArea traced) b (place_of d.layout.pages (Area (to_space d.epoch))) refl
  by_stage (EndPage look page) b = loads (EndPage look page) b (place_of d.layout.pages (Page page)) refl
  by_stage (EndFilling look) b = loads (EndFilling look) b (place_of d.layout.pages (Page (page_of look.front))) refl
  by_stage (EndAreaAgain look filling) b = loads (EndAreaAgain look filling) b (place_of d.layout.pages (Area (to_space d.epoch))) refl
  by_stage (Walks traced walk) b = by_walk traced walk walk.stage b
  by_stage (Traces traced) b = exchanges_traced traced b
  by_stage (Ended result) b = by_row.nothing c p z saver k (here (Ended result)) b (forgets (Ended result) b) refl

pub serves : (c : Configuration) (p : Plain) (z : Frozen) (saver : ℕ → Saver) (k : ℕ) (x : Held) (d : Round) (back : Back)
    → Before c p z saver k (at_stage x (Serves d back)) → SavesSo c p saver k (at_stage x (Serves d back))
serves c p z saver k x d back b = by_stage c p z saver k x d back d.stage b
