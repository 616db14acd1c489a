-- The words of a copy, its crossings and its forward.
use Rattle.std.proofs.Common.{◌≡◌, ℕ, ◌+◌, ◌*◌, ◌/◌, ◌<◌, ◌≤◌, inl, inr, Option, Some, None, refl, sym, ap, subst, ◌∙◌, arith, ⊎_elim}
use Rattle.std.proofs.lemmas.Bool.{cases_lt, lt-ltb, le-ltb}
use Rattle.plain_state.specs.State.{Plain}
use Rattle.atom_store.specs.declared.reply.Reply.{Reply}
use Rattle.atom_store.specs.declared.reply.Reply.TheVariants.{Value, Done}
use Rattle.atom_store.specs.declared.step.Step.TheVariants.{Load, Store}
use Rattle.atom_store.specs.declared.turn.Turn.TheVariants.{More}
use Rattle.space_map.specs.Spaces.{Layout}
use Rattle.space_map.specs.Table.{HeapWord, Cross, place_of}
use Rattle.forwarding.specs.declared.evac_stage.EvacStage.{EvacStage}
use Rattle.forwarding.specs.declared.evac_stage.EvacStage.TheVariants.{StoresHeader, LoadsWord, StoresWord, StoresCross, StoresForward}
use Rattle.forwarding.specs.declared.loaded_word.LoadedWord.{LoadedWord}
use Rattle.forwarding.specs.declared.reserved.Reserved.{Reserved}
use Rattle.forwarding.specs.Evacuation.{Evacuation, size_of}
use Rattle.forwarding.specs.Soundness.{FitsStage, HasReserved}
use Rattle.forwarding.specs.Taken.{copied, crossed, first_page, told}
use Rattle.heap_state.specs.Configuration.{Configuration, Stands, era, memory, team}
use Rattle.heap_state.specs.Memory.Entries.{Entry, WordIs, CrossIs}
use Rattle.heap_state.specs.Known.{Known, Copy}
use Rattle.heap_state.specs.Memory.Table.{word_in}
use Rattle.heap_laws.specs.Copying.{IsNextWord, copying}
use Rattle.heap_laws.proofs.Copying.Laws.{words_are_copied, old_words_are_loaded, crossings_are_stored}
use Rattle.gc_worker.specs.Steps.Goes.{Is, Goes, StepsSo}
use Rattle.gc_worker.specs.Workers.Held.{Held}
use Rattle.gc_worker.specs.Workers.Knows.{knows, copy_at, found_in, moving}
use Rattle.gc_worker.specs.Steps.Wanted.{wanted}
use Rattle.gc_worker.proofs.Stages.Copies.Hosts.{Host, at, machine_at, wants_its, tells_nothing, wins_nothing, turns, takes, is_sound, has_pages, with_sound, refits, copy_is, quest_with, quest_is, linking_is, nothing_to_link, becomes_known}
use Rattle.gc_worker.proofs.Stages.Gate.GateWords.{wants}
use Rattle.gc_worker.proofs.Words.RowSteps.{Law, becomes, loads, stores, row_fits, prepared}
use Rattle.gc_worker.proofs.Stages.Scan.ScannedHeaders.{heap_word}

-- ---- where a copy goes on

-- what holds of each stage that may follow
of_crossed : (P : EvacStage → Type 0) (r : Reserved) (page : ℕ) → (64 * page < r.to + size_of r.kept → P (StoresCross r page))
    → (r.to + size_of r.kept ≤ 64 * page → P (StoresForward r)) → P (crossed r page)
of_crossed P r page crosses forwards = ⊎_elim
    (λ (l : 64 * page < r.to + size_of r.kept). rw (lt-ltb (64 * page) (r.to + size_of r.kept) l) (crosses l))
    (λ (l : r.to + size_of r.kept ≤ 64 * page). rw (le-ltb (64 * page) (r.to + size_of r.kept) l) (forwards l))
    (cases_lt (64 * page) (r.to + size_of r.kept))

of_copied : (P : EvacStage → Type 0) (r : Reserved) (n : ℕ) → (n < size_of r.kept → P (LoadsWord r n))
    → (size_of r.kept ≤ n → P (crossed r (first_page r))) → P (copied r n)
of_copied P r n loads crosses = ⊎_elim
    (λ (l : n < size_of r.kept). rw (lt-ltb n (size_of r.kept) l) (loads l))
    (λ (l : size_of r.kept ≤ n). rw (le-ltb n (size_of r.kept) l) (crosses l))
    (cases_lt n (size_of r.kept))

-- what it knows of the copy, after so many crossings, and after so many words
crossed-copy : (l : Layout) (a e : ℕ) (r : Reserved) (page : ℕ) → 64 * page < r.to + size_of r.kept + 64
    → copy_at l a e (crossed r page) ≡ Some (moving a r (size_of r.kept) None page)
crossed-copy l a e r page near =
    of_crossed (λ z. copy_at l a e z ≡ Some (moving a r (size_of r.kept) None page)) r page (λ b. refl)
    (λ b. let same : (r.to + size_of r.kept + 63) / 64 ≡ page = omega arith in ap (λ p. Some (moving a r (size_of r.kept) None p)) same)

copied-copy : (l : Layout) (a e : ℕ) (r : Reserved) (n : ℕ) → n ≤ size_of r.kept → copy_at l a e (copied r n) ≡ Some (moving a r n None (first_page r))
copied-copy l a e r n within =
    of_copied (λ z. copy_at l a e z ≡ Some (moving a r n None (first_page r))) r n (λ b. refl)
    (λ b. let same : size_of r.kept ≡ n = omega arith in
    crossed-copy l a e r (first_page r) (omega arith) ∙ ap (λ m. Some (moving a r m None (first_page r))) same)

crossed-found : (r : Reserved) (page : ℕ) → found_in (crossed r page) ≡ None
crossed-found r page = of_crossed (λ z. found_in z ≡ None) r page (λ b. refl) (λ b. refl)

copied-found : (r : Reserved) (n : ℕ) → found_in (copied r n) ≡ None
copied-found r n = of_copied (λ z. found_in z ≡ None) r n (λ b. refl) (λ b. crossed-found r (first_page r))

crossed-more : (r : Reserved) (page : ℕ) → told (crossed r page) ≡ More
crossed-more r page = of_crossed (λ z. told z ≡ More) r page (λ b. refl) (λ b. refl)

copied-more : (r : Reserved) (n : ℕ) → told (copied r n) ≡ More
copied-more r n = of_copied (λ z. told z ≡ More) r n (λ b. refl) (λ b. crossed-more r (first_page r))

crossed-fits : (n a : ℕ) (r : Reserved) (page : ℕ) → HasReserved n a r → r.to ≤ 64 * page → FitsStage n a (crossed r page)
crossed-fits n a r page has from = of_crossed (λ z. FitsStage n a z) r page (λ b. (has, from, b)) (λ b. has)

copied-fits : (n a : ℕ) (r : Reserved) (m : ℕ) → HasReserved n a r → 0 < m → FitsStage n a (copied r m)
copied-fits n a r m has some =
    of_copied (λ z. FitsStage n a z) r m (λ b. (has, some, b)) (λ b. crossed-fits n a r (first_page r) has (omega arith))

module _ (c : Configuration) (p : Plain) (s : Stands c p) (k : ℕ) (y : Held) (o : Host) (v : Evacuation) where
  abbrev pub here : EvacStage → Held
  here z = at y o v z

  -- the copy goes on, and what the worker then knows is said by this law
  pub goes : (e : Option Entry) (z q : EvacStage) (reply : Reply) (copy : Copy) → Is c k (here z)
      → Rattle.forwarding.specs.Taken.stage_after v.layout v.epoch z reply ≡ q → told q ≡ More
      → Law c p s k (here z) e (copying ((team c).worker k) copy) s.ghost → found_in z ≡ None
      → copy_at v.layout v.addr v.epoch q ≡ Some copy → found_in q ≡ None → FitsStage v.layout.pages v.addr q → Goes c p s k e (here z) reply
  goes e z q reply copy is next more law not_yet copy_after found fits =
      let sound = is_sound y v c.pages c.mutators k o z is.fits in
      becomes c p s k (here z) e reply (here q) s.ghost (turns y v o z q reply next more) is.below
      (subst (λ (u : Known). Law c p s k (here z) e u s.ghost)
      (ap (λ (u : Known). record u { copy = Some copy }) is.as_known
      ∙ (λ i. record (knows (here z)) {
        copy = Some copy;
        quest = (quest_is y v o z ∙ ap (λ f. Some (quest_with y v o f)) not_yet) i;
        linking = (linking_is y v o z ∙ nothing_to_link z not_yet ∙ sym (nothing_to_link q found)) i;
      })
      ∙ becomes_known y v o z q (Some copy) None copy_after found)
      law)
      (tells_nothing y v o z reply) (wins_nothing y v o z reply)
      (takes y v o z reply (subst (λ n. Rattle.forwarding.specs.Soundness.IsSound (record v { stage = n })) (sym next) (with_sound y v c.pages c.mutators k z q sound fits)))
      (refits y v c.pages c.mutators k o z q is.fits more fits)

  -- what the proofs know of the copy
  abbrev knows_copy : (z : EvacStage) → Is c k (here z) → ((team c).worker k).copy ≡ copy_at v.layout v.addr v.epoch z
  knows_copy z is = ap (λ (u : Known). u.copy) is.as_known ∙ copy_is y v o z

  -- ---- the old record's words

  module _ (r : Reserved) (i : ℕ) (is : Is c k (here (LoadsWord r i))) where
    abbrev sound_load : Rattle.forwarding.specs.Soundness.IsSound (machine_at y o v (LoadsWord r i))
    sound_load = is_sound y v c.pages c.mutators k o (LoadsWord r i) is.fits

    abbrev word_now : ℕ
    word_now = word_in c.pages c.words (HeapWord (v.addr + i))

    loading : Goes c p s k None (here (LoadsWord r i)) (Value word_now)
    loading =
        subst (λ n. Goes c p s k None (here (LoadsWord r i)) (Value n)) (heap_word c (v.addr + i))
        (goes None (LoadsWord r i) (StoresWord r (record { number = i; word = (memory c).heap (v.addr + i) })) (Value ((memory c).heap (v.addr + i)))
        (moving v.addr r i (Some ((memory c).heap (v.addr + i))) (first_page r)) is refl refl
        (old_words_are_loaded (era c) (memory c) (team c) s.ghost k (moving v.addr r i None (first_page r)) (prepared c p s k (here (LoadsWord r i)) is)
        (knows_copy (LoadsWord r i) is) refl sound_load.fits.1 sound_load.fits.2) refl refl refl sound_load.fits)

    pub loads_word : StepsSo c p s k (here (LoadsWord r i))
    loads_word =
        let pages = has_pages y v c.pages c.mutators k o (LoadsWord r i) is.fits in
        let inside = sound_load.fits.0.keeps.inside in
        let below = sound_load.fits.2 in
        wants c p s k (here (LoadsWord r i)) (Load (place_of c.pages (HeapWord (v.addr + i))))
        (wants_its y v o (LoadsWord r i) ∙ ap (λ n. Some (Load (place_of n (HeapWord (v.addr + i))))) pages)
        (loads c p s k (here (LoadsWord r i)) (HeapWord (v.addr + i)) (omega arith) loading)

  -- ---- the copy's words

  -- a word is stored, which is the next one
  module _ (r : Reserved) (z : EvacStage) (done : ℕ) (word : Option ℕ) (value : ℕ) (is : Is c k (here z)) (has : HasReserved v.layout.pages v.addr r)
      (at_z : copy_at v.layout v.addr v.epoch z ≡ Some (moving v.addr r done word (first_page r))) (not_yet : found_in z ≡ None) (below : done < size_of r.kept)
      (next : IsNextWord (moving v.addr r done word (first_page r)) value)
      (turns_to : Rattle.forwarding.specs.Taken.stage_after v.layout v.epoch z Done ≡ copied r (done + 1)) where
    copied_law : Law c p s k (here z) (Some (WordIs (r.to + done) value)) (copying ((team c).worker k) (moving v.addr r (done + 1) None (first_page r))) s.ghost
    copied_law =
        words_are_copied (era c) (memory c) (team c) s.ghost k (moving v.addr r done word (first_page r)) value (prepared c p s k (here z) is)
        (knows_copy z is ∙ at_z) refl next

    storing : Goes c p s k (Some (WordIs (r.to + done) value)) (here z) Done
    storing =
        goes (Some (WordIs (r.to + done) value)) z (copied r (done + 1)) Done (moving v.addr r (done + 1) None (first_page r)) is turns_to (copied-more r (done + 1)) copied_law not_yet
        (copied-copy v.layout v.addr v.epoch r (done + 1) (omega arith)) (copied-found r (done + 1))
        (copied-fits v.layout.pages v.addr r (done + 1) has (omega arith))

    stores_next : (to : ℕ) → r.to + done ≡ to → wanted (here z) ≡ Some (Store (place_of v.layout.pages (HeapWord to)) value) → StepsSo c p s k (here z)
    stores_next to same asks =
        let pages = has_pages y v c.pages c.mutators k o z is.fits in
        let row = row_fits c p s k (here z) (WordIs (r.to + done) value) (copying ((team c).worker k) (moving v.addr r (done + 1) None (first_page r))) s.ghost is.below copied_law in
        wants c p s k (here z) (Store (place_of c.pages (HeapWord (r.to + done))) value)
        (asks ∙ ap (λ n. Some (Store (place_of n (HeapWord to)) value)) pages ∙ ap (λ a. Some (Store (place_of c.pages (HeapWord a)) value)) (sym same))
        (stores c p s k (here z) (WordIs (r.to + done) value) row storing)

  module _ (r : Reserved) (is : Is c k (here (StoresHeader r))) where
    pub stores_header : StepsSo c p s k (here (StoresHeader r))
    stores_header =
        let sound = is_sound y v c.pages c.mutators k o (StoresHeader r) is.fits in
        stores_next r (StoresHeader r) 0 None r.kept.word is sound.fits refl refl (omega arith) (inl (refl, refl)) refl r.to (omega arith) (wants_its y v o (StoresHeader r))

  module _ (r : Reserved) (w : LoadedWord) (is : Is c k (here (StoresWord r w))) where
    pub stores_word : StepsSo c p s k (here (StoresWord r w))
    stores_word =
        let sound = is_sound y v c.pages c.mutators k o (StoresWord r w) is.fits in
        stores_next r (StoresWord r w) w.number (Some w.word) w.word is sound.fits.0 refl refl sound.fits.2 (inr refl) refl (r.to + w.number) refl (wants_its y v o (StoresWord r w))

  -- ---- the crossings

  module _ (r : Reserved) (page : ℕ) (is : Is c k (here (StoresCross r page))) where
    abbrev sound_cross : Rattle.forwarding.specs.Soundness.IsSound (machine_at y o v (StoresCross r page))
    sound_cross = is_sound y v c.pages c.mutators k o (StoresCross r page) is.fits

    crossed_law : Law c p s k (here (StoresCross r page)) (Some (CrossIs page r.to)) (copying ((team c).worker k) (moving v.addr r (size_of r.kept) None (page + 1))) s.ghost
    crossed_law =
        crossings_are_stored (era c) (memory c) (team c) s.ghost k (moving v.addr r (size_of r.kept) None page) (prepared c p s k (here (StoresCross r page)) is)
        (knows_copy (StoresCross r page) is) refl sound_cross.fits.1 sound_cross.fits.2

    pub stores_cross : StepsSo c p s k (here (StoresCross r page))
    stores_cross =
        let pages = has_pages y v c.pages c.mutators k o (StoresCross r page) is.fits in
        let from = sound_cross.fits.1 in
        let below = sound_cross.fits.2 in
        let row = row_fits c p s k (here (StoresCross r page)) (CrossIs page r.to) (copying ((team c).worker k) (moving v.addr r (size_of r.kept) None (page + 1))) s.ghost is.below crossed_law in
        wants c p s k (here (StoresCross r page)) (Store (place_of c.pages (Cross page)) r.to)
        (wants_its y v o (StoresCross r page) ∙ ap (λ n. Some (Store (place_of n (Cross page)) r.to)) pages)
        (stores c p s k (here (StoresCross r page)) (CrossIs page r.to) row
        (goes (Some (CrossIs page r.to)) (StoresCross r page) (crossed r (page + 1)) Done (moving v.addr r (size_of r.kept) None (page + 1)) is refl (crossed-more r (page + 1)) crossed_law refl
        (crossed-copy v.layout v.addr v.epoch r (page + 1) (omega arith)) (crossed-found r (page + 1))
        (crossed-fits v.layout.pages v.addr r (page + 1) sound_cross.fits.0 (omega arith))))
