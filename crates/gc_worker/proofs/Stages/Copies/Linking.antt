-- A cell that was copied is linked: WEAK is loaded, the link stored, and WEAK exchanged for the cell.
use Rattle.std.proofs.Common.{◌≡◌, ℕ, ◌+◌, ◌*◌, ◌^◌, ◌<◌, Bool, true, false, Option, Some, None, refl, sym, ap, subst, ◌∙◌, arith}
use Rattle.plain_state.specs.State.{Plain}
use Rattle.atom_store.specs.declared.reply.Reply.TheVariants.{Value, Done, Won, Lost}
use Rattle.atom_store.specs.declared.step.Step.TheVariants.{Load, Store, Exchange}
use Rattle.space_map.specs.Table.{HeapWord, WeakHead, place_of}
use Rattle.forwarding.specs.declared.evac_stage.EvacStage.{EvacStage}
use Rattle.forwarding.specs.declared.evac_stage.EvacStage.TheVariants.{LoadsWeak, StoresLink, TakesWeak, Clears}
use Rattle.forwarding.specs.Evacuation.{Evacuation, link_of}
use Rattle.forwarding.specs.Soundness.{IsSound}
use Rattle.heap_state.specs.Configuration.{Configuration, Stands, era, memory, team}
use Rattle.heap_state.specs.Memory.Entries.{Entry, WeakIs, WordIs}
use Rattle.heap_state.specs.Memory.Table.{table_of, word_in}
use Rattle.heap_state.specs.Known.{Known, Linking}
use Rattle.heap_laws.specs.Copying.{with_linking}
use Rattle.heap_laws.proofs.Copying.CopiedCells.{cells_are_linked, links_are_stored, weak_is_loaded, weak_is_forgotten}
use Rattle.gc_worker.specs.Steps.Goes.{Is, StepsSo}
use Rattle.gc_worker.specs.Workers.Held.{Held}
use Rattle.gc_worker.specs.Workers.Knows.{copy_at, found_in, linking_at}
use Rattle.gc_worker.proofs.Stages.Copies.Hosts.{Host, at, machine_at, wants_its, is_sound, has_pages, copy_is, quest_with, quest_is, linking_is}
use Rattle.gc_worker.proofs.Stages.Copies.Publishing.{goes}
use Rattle.gc_worker.proofs.Stages.Gate.GateWords.{wants}
use Rattle.gc_worker.proofs.Words.RowSteps.{Law, exchanges, loads, stores, row_fits, prepared}

-- the decoded table has WEAK's word
head_word : (c : Configuration) → (memory c).weak ≡ word_in c.pages c.words WeakHead
unfolding table_of
head_word c = refl

module _ (c : Configuration) (p : Plain) (s : Stands c p) (k : ℕ) (y : Held) (o : Host) (v : Evacuation) (to : ℕ) where
  abbrev here : EvacStage → Held
  here z = at y o v z

  abbrev w : Known
  w = (team c).worker k

  abbrev sound : (z : EvacStage) → Is c k (here z) → IsSound (machine_at y o v z)
  sound z is = is_sound y v c.pages c.mutators k o z is.fits

  -- a law of what the worker has to link is one of the worker with its quest, which copies nothing
  still : (z q : EvacStage) (e : Option Entry) (is : Is c k (here z)) → copy_at v.layout v.addr v.epoch z ≡ None → found_in z ≡ Some to → Law c p s k (here z) e (with_linking w (linking_at q)) s.ghost
      → Law c p s k (here z) e (record w { copy = None; quest = Some (quest_with y v o (Some to)); linking = linking_at q }) s.ghost
  still z q e is none found law =
      subst (λ (u : Known). Law c p s k (here z) e u s.ghost)
      (λ i. record w {
        copy = (ap (λ (u : Known). u.copy) is.as_known ∙ copy_is y v o z ∙ none) i;
        quest = (ap (λ (u : Known). u.quest) is.as_known ∙ quest_is y v o z ∙ ap (λ f. Some (quest_with y v o f)) found) i;
        linking = linking_at q;
      }) law

  -- what the worker has to link
  to_link : (z : EvacStage) → Is c k (here z) → w.linking ≡ linking_at z
  to_link z is = ap (λ (u : Known). u.linking) is.as_known ∙ linking_is y v o z

  -- ---- WEAK is loaded

  abbrev unread : Linking
  unread = record { cell = to; read = None; stored = false }

  pub loads_weak : Is c k (here (LoadsWeak to)) → StepsSo c p s k (here (LoadsWeak to))
  loads_weak is =
      let pages = has_pages y v c.pages c.mutators k o (LoadsWeak to) is.fits in
      let head = word_in c.pages c.words WeakHead in
      wants c p s k (here (LoadsWeak to)) (Load (place_of c.pages WeakHead))
      (wants_its y v o (LoadsWeak to) ∙ ap (λ n. Some (Load (place_of n WeakHead))) pages)
      (loads c p s k (here (LoadsWeak to)) WeakHead tt
      (goes c p s k y o v None (LoadsWeak to) (StoresLink to head) (Value head) None (Some to) s.ghost is refl refl
      (still (LoadsWeak to) (StoresLink to head) None is refl refl (subst (λ x. Law c p s k (here (LoadsWeak to)) None (with_linking w (Some (record { cell = to; read = Some x; stored = false }))) s.ghost) (head_word c)
      (weak_is_loaded (era c) (memory c) (team c) s.ghost k unread (prepared c p s k (here (LoadsWeak to)) is) (to_link (LoadsWeak to) is)))) refl refl
      ((sound (LoadsWeak to) is).fits, s.formed.rows WeakHead tt)))

  module _ (head : ℕ) where
    abbrev read : Bool → Linking
    read stored = record { cell = to; read = Some head; stored = stored }

    -- ---- the link is stored

    module _ (is : Is c k (here (StoresLink to head))) where
      fits : (link_of to < 128 * v.layout.pages) × (head < 2 ^ 62)
      fits = (sound (StoresLink to head) is).fits

      link_law : Law c p s k (here (StoresLink to head)) (Some (WordIs (link_of to) head)) (with_linking w (Some (read true))) s.ghost
      link_law = links_are_stored (era c) (memory c) (team c) s.ghost k (read false) head (prepared c p s k (here (StoresLink to head)) is) (to_link (StoresLink to head) is) fits.1

      pub stores_link : StepsSo c p s k (here (StoresLink to head))
      stores_link =
          let pages = has_pages y v c.pages c.mutators k o (StoresLink to head) is.fits in
          let row = row_fits c p s k (here (StoresLink to head)) (WordIs (link_of to) head) (with_linking w (Some (read true))) s.ghost is.below link_law in
          wants c p s k (here (StoresLink to head)) (Store (place_of c.pages (HeapWord (link_of to))) head)
          (wants_its y v o (StoresLink to head) ∙ ap (λ n. Some (Store (place_of n (HeapWord (link_of to))) head)) pages)
          (stores c p s k (here (StoresLink to head)) (WordIs (link_of to) head) row
          (goes c p s k y o v (Some (WordIs (link_of to) head)) (StoresLink to head) (TakesWeak to head) Done None (Some to) s.ghost is refl refl
          (still (StoresLink to head) (TakesWeak to head) (Some (WordIs (link_of to) head)) is refl refl link_law) refl refl fits))

    -- ---- WEAK is exchanged

    module _ (is : Is c k (here (TakesWeak to head))) where
      inside : to + 1 < 2 ^ 32
      inside = let z = sound (TakesWeak to head) is in let n = z.pages in let f = z.fits.0 in omega (arith, n, f)

      linked_law : word_in c.pages c.words WeakHead ≡ head → Law c p s k (here (TakesWeak to head)) (Some (WeakIs (to + 1))) (with_linking w None) s.ghost
      linked_law met =
          cells_are_linked (era c) (memory c) (team c) s.ghost k (read true) (prepared c p s k (here (TakesWeak to head)) is) (to_link (TakesWeak to head) is)
          (ap Some (sym (head_word c ∙ met))) refl (omega (arith, inside))

      pub takes_weak : StepsSo c p s k (here (TakesWeak to head))
      takes_weak =
          let pages = has_pages y v c.pages c.mutators k o (TakesWeak to head) is.fits in
          let ready = prepared c p s k (here (TakesWeak to head)) is in
          wants c p s k (here (TakesWeak to head)) (Exchange (place_of c.pages WeakHead) head (to + 1))
          (wants_its y v o (TakesWeak to head) ∙ ap (λ n. Some (Exchange (place_of n WeakHead) head (to + 1))) pages)
          (exchanges c p s k (here (TakesWeak to head)) (WeakIs (to + 1)) head (omega (arith, inside))
          (λ met. goes c p s k y o v (Some (WeakIs (to + 1))) (TakesWeak to head) (Clears to) Won None (Some to) s.ghost is refl refl
          (still (TakesWeak to head) (Clears to) (Some (WeakIs (to + 1))) is refl refl (linked_law met)) refl refl (omega (arith, inside)))
          (λ other. goes c p s k y o v None (TakesWeak to head) (LoadsWeak to) (Lost _) None (Some to) s.ghost is refl refl
          (still (TakesWeak to head) (LoadsWeak to) None is refl refl (weak_is_forgotten (era c) (memory c) (team c) s.ghost k (read true) ready (to_link (TakesWeak to head) is))) refl refl
          (sound (TakesWeak to head) is).fits.0))
