-- The old header is taken, and the forward stored in its place.
use Rattle.std.proofs.Common.{◌≡◌, ℕ, ◌+◌, ◌-◌, ◌*◌, ◌≤◌, Bool, true, false, cond, Option, Some, None, refl, sym, ap, subst, ◌∙◌, arith, inl, inr}
use Rattle.std.proofs.lemmas.Bool.{eqb-true}
use Rattle.plain_state.specs.State.{Plain}
use Rattle.atom_store.specs.declared.reply.Reply.{Reply}
use Rattle.atom_store.specs.declared.reply.Reply.TheVariants.{Done, Won, Lost}
use Rattle.atom_store.specs.declared.step.Step.TheVariants.{Store, Exchange}
use Rattle.atom_store.specs.declared.turn.Turn.TheVariants.{More}
use Rattle.heap_words.specs.declared.kind.Kind.{Kind}
use Rattle.heap_words.specs.declared.kind.Kind.TheVariants.{Weak}
use Rattle.heap_words.specs.Decoded.{HeaderWord, ForwardWord, decode}
use Rattle.heap_words.specs.Word.{busy_word, forward_word}
use Rattle.heap_words.proofs.Decoding.{decode-busy_word, decode-forward_word}
use Rattle.space_map.specs.Table.{HeapWord, place_of}
use Rattle.forwarding.specs.declared.evac_stage.EvacStage.{EvacStage}
use Rattle.forwarding.specs.declared.evac_stage.EvacStage.TheVariants.{LoadsHeader, TakesHeader, LoadsArea, StoresForward, LoadsWeak, Clears}
use Rattle.forwarding.specs.declared.kept_header.KeptHeader.{KeptHeader}
use Rattle.forwarding.specs.declared.reserved.Reserved.{Reserved}
use Rattle.forwarding.specs.Evacuation.{Evacuation, is_cell, is_cell_of, size_of}
use Rattle.forwarding.specs.Soundness.{FitsStage, IsKeptHeader, IsSound}
use Rattle.forwarding.specs.Taken.{stage_after, told}
use Rattle.heap_state.specs.Configuration.{Configuration, Stands, era, memory, team}
use Rattle.heap_state.specs.Memory.Entries.{Entry, WordIs}
use Rattle.heap_state.specs.Invariant.Ghost.{Ghost}
use Rattle.heap_state.specs.Memory.Table.{word_in}
use Rattle.heap_state.specs.Known.{Known, Linking, Copy}
use Rattle.heap_laws.specs.Copying.{LinksCopy, begun, published, taken}
use Rattle.heap_laws.proofs.Copying.Laws.{headers_are_taken, copies_are_published}
use Rattle.gc_worker.specs.Steps.Goes.{Is, Goes, StepsSo}
use Rattle.gc_worker.specs.Workers.Held.{Held}
use Rattle.gc_worker.specs.Workers.Knows.{knows, copy_at, found_in, linking_at, moving, page_past}
use Rattle.gc_worker.proofs.Stages.Copies.Hosts.{Host, at, machine_at, wants_its, tells_nothing, wins_nothing, turns, takes, is_sound, has_pages, is_worker, with_sound, refits, copy_is, quest_with, quest_is, linking_is, becomes_known}
use Rattle.gc_worker.proofs.Stages.Scan.ScannedHeaders.{heap_word}
use Rattle.gc_worker.proofs.Stages.Gate.GateWords.{wants}
use Rattle.gc_worker.proofs.Words.RowSteps.{Law, becomes, exchanges, nothing, stores, prepared}

-- a cell's header is of the kind weak, and of two words
pub cell_of : (kind : Kind) (len : ℕ) → is_cell_of kind len ≡ true → (kind ≡ Weak) × (len ≡ 2)
cell_of Weak len e = (refl, eqb-true len 2 e)
cell_of _ len e = absurd (cc)

keeps_cell : {pages addr : ℕ} (kept : KeptHeader) → is_cell kept ≡ true → IsKeptHeader pages addr kept
    → (serial : ℕ) × (mutator : ℕ) × (decode kept.word ≡ HeaderWord Weak 2 serial mutator)
keeps_cell kept cell keeps =
    let is = cell_of kept.kind kept.len cell in
    (keeps.serial, keeps.mutator, keeps.says ∙ ap (λ kind. HeaderWord kind kept.len keeps.serial keeps.mutator) is.0 ∙ ap (λ len. HeaderWord Weak len keeps.serial keeps.mutator) is.1)

-- the header that is kept of a cell says so
keeps_other : {pages addr : ℕ} (kept : KeptHeader) → is_cell kept ≡ false → IsKeptHeader pages addr kept
    → (serial : ℕ) × (mutator : ℕ) × (decode kept.word ≡ HeaderWord Weak 2 serial mutator) → ⊥
keeps_other kept other keeps has =
    let same : HeaderWord kept.kind kept.len keeps.serial keeps.mutator ≡ HeaderWord Weak 2 has.0 has.1 = sym keeps.says ∙ has.2 in
    let kind : kept.kind ≡ Weak = cc in
    let len : kept.len ≡ 2 = cc in
    let is : is_cell_of kept.kind kept.len ≡ true = rw (kind, len) refl in
    let z = sym other ∙ is in cc

module _ (c : Configuration) (p : Plain) (s : Stands c p) (k : ℕ) (y : Held) (o : Host) (v : Evacuation) where
  abbrev pub here : EvacStage → Held
  here z = at y o v z

  -- the copy goes on, with this ghost
  pub goes : (e : Option Entry) (z q : EvacStage) (reply : Reply) (copy : Option Copy) (found : Option ℕ) (h : Ghost) → Is c k (here z) → stage_after v.layout v.epoch z reply ≡ q → told q ≡ More
      → Law c p s k (here z) e (record ((team c).worker k) { copy = copy; quest = Some (quest_with y v o found); linking = linking_at q }) h
      → copy_at v.layout v.addr v.epoch q ≡ copy → found_in q ≡ found → FitsStage v.layout.pages v.addr q → Goes c p s k e (here z) reply
  goes e z q reply copy found h is next more law copy_after found_after fits =
      let sound = is_sound y v c.pages c.mutators k o z is.fits in
      becomes c p s k (here z) e reply (here q) h (turns y v o z q reply next more) is.below
      (subst (λ (u : Known). Law c p s k (here z) e u h)
      (ap (λ (u : Known). record u { copy = copy; quest = Some (quest_with y v o found); linking = linking_at q }) is.as_known ∙ becomes_known y v o z q copy found copy_after found_after)
      law)
      (tells_nothing y v o z reply) (wins_nothing y v o z reply)
      (takes y v o z reply (subst (λ n. IsSound (record v { stage = n })) (sym next) (with_sound y v c.pages c.mutators k z q sound fits)))
      (refits y v c.pages c.mutators k o z q is.fits more fits)

  -- nothing is written, and what the worker knows stays
  pub stays : (z q : EvacStage) (reply : Reply) → Is c k (here z) → stage_after v.layout v.epoch z reply ≡ q → told q ≡ More
      → copy_at v.layout v.addr v.epoch q ≡ copy_at v.layout v.addr v.epoch z → found_in q ≡ found_in z → linking_at q ≡ linking_at z → FitsStage v.layout.pages v.addr q → Goes c p s k None (here z) reply
  stays z q reply is next more copy found links fits =
      let sound = is_sound y v c.pages c.mutators k o z is.fits in
      becomes c p s k (here z) None reply (here q) s.ghost (turns y v o z q reply next more) is.below
      (nothing c p s k (here z) is (knows (here q)) (sym (becomes_known y v o z z (copy_at v.layout v.addr v.epoch z) (found_in z) refl refl)
      ∙ (λ i. record (knows (here z)) { copy = copy_at v.layout v.addr v.epoch z; quest = Some (quest_with y v o (found_in z)); linking = sym links i })
      ∙ becomes_known y v o z q (copy_at v.layout v.addr v.epoch z) (found_in z) copy found))
      (tells_nothing y v o z reply) (wins_nothing y v o z reply)
      (takes y v o z reply (subst (λ n. IsSound (record v { stage = n })) (sym next) (with_sound y v c.pages c.mutators k z q sound fits)))
      (refits y v c.pages c.mutators k o z q is.fits more fits)

  -- ---- the forward

  module _ (r : Reserved) (is : Is c k (here (StoresForward r))) where
    abbrev forward : ℕ
    forward = forward_word r.kept.len r.to

    -- the worker with the copy that it has found, and has to link if it is a cell
    abbrev with_copy : Option Linking → Known
    with_copy l = record ((team c).worker k) { copy = None; quest = Some (quest_with y v o (Some r.to)); linking = l }

    abbrev copied : Copy
    copied = moving v.addr r (size_of r.kept) None (page_past r)

    forward_law : (l : Option Linking) → LinksCopy copied l → Law c p s k (here (StoresForward r)) (Some (WordIs v.addr forward)) (with_copy l) (published s.ghost k v.addr r.to)
    forward_law l links =
        let sound = is_sound y v c.pages c.mutators k o (StoresForward r) is.fits in
        let short = sound.fits.keeps.short in
        let inside = sound.fits.inside in
        let few = sound.pages in
        let len : r.kept.len + 1 - 1 ≡ r.kept.len = omega arith in
        copies_are_published (era c) (memory c) (team c) s.ghost k copied (quest_with y v o None) forward l
        (prepared c p s k (here (StoresForward r)) is)
        (ap (λ (u : Known). u.copy) is.as_known ∙ copy_is y v o (StoresForward r)) (ap (λ (u : Known). u.quest) is.as_known ∙ quest_is y v o (StoresForward r)) refl refl (omega arith)
        (decode-forward_word r.kept.len r.to short (omega arith) ∙ ap (λ n. ForwardWord n r.to) (sym len))
        links

    forwards_so : (b : Bool) → is_cell r.kept ≡ b → Goes c p s k (Some (WordIs v.addr forward)) (here (StoresForward r)) Done
    forwards_so true cell =
        let sound = is_sound y v c.pages c.mutators k o (StoresForward r) is.fits in
        let inside = sound.fits.inside in
        let long = (cell_of r.kept.kind r.kept.len cell).1 in
        goes (Some (WordIs v.addr forward)) (StoresForward r) (LoadsWeak r.to) Done None (Some r.to) (published s.ghost k v.addr r.to) is
        (ap (λ b. cond b (LoadsWeak r.to) (Clears r.to)) cell) refl (forward_law (linking_at (LoadsWeak r.to)) (inl (keeps_cell r.kept cell sound.fits.keeps, refl))) refl refl (omega (arith, inside, long))
    forwards_so false other =
        let sound = is_sound y v c.pages c.mutators k o (StoresForward r) is.fits in
        let inside = sound.fits.inside in
        let few = sound.pages in
        goes (Some (WordIs v.addr forward)) (StoresForward r) (Clears r.to) Done None (Some r.to) (published s.ghost k v.addr r.to) is
        (ap (λ b. cond b (LoadsWeak r.to) (Clears r.to)) other) refl (forward_law None (inr (λ has. keeps_other r.kept other sound.fits.keeps has, refl))) refl refl (omega (arith, inside, few))

    pub stores_forward : StepsSo c p s k (here (StoresForward r))
    stores_forward =
        let inside = (is_sound y v c.pages c.mutators k o (StoresForward r) is.fits).addr in
        let pages = has_pages y v c.pages c.mutators k o (StoresForward r) is.fits in
        let row : v.addr ≤ 128 * c.pages + 63 = omega (arith, inside, pages) in
        wants c p s k (here (StoresForward r)) (Store (place_of c.pages (HeapWord v.addr)) forward)
        (wants_its y v o (StoresForward r) ∙ ap (λ n. Some (Store (place_of n (HeapWord v.addr)) forward)) pages)
        (stores c p s k (here (StoresForward r)) (WordIs v.addr forward) row (forwards_so (is_cell r.kept) refl))

  -- ---- the header

  module _ (kept : KeptHeader) (is : Is c k (here (TakesHeader kept))) where
    abbrev sound_take : IsSound (machine_at y o v (TakesHeader kept))
    sound_take = is_sound y v c.pages c.mutators k o (TakesHeader kept) is.fits

    abbrev taking : Entry
    taking = WordIs v.addr (busy_word kept.len k)

    won : word_in c.pages c.words (HeapWord v.addr) ≡ kept.word → Goes c p s k (Some taking) (here (TakesHeader kept)) Won
    won same =
        let keeps = sound_take.fits in
        let short = keeps.short in
        let few = is.fits.few in
        let heap : (memory c).heap v.addr ≡ kept.word = heap_word c v.addr ∙ same in
        goes (Some taking) (TakesHeader kept) (LoadsArea kept) Won (Some (begun kept.word v.addr (size_of kept))) None (taken s.ghost k v.addr) is refl refl
        (subst (λ (u : Known). Law c p s k (here (TakesHeader kept)) (Some taking) u (taken s.ghost k v.addr))
        (λ i. record ((team c).worker k) {
          copy = Some (begun (heap i) v.addr (size_of kept));
          quest = (ap (λ (u : Known). u.quest) is.as_known ∙ quest_is y v o (TakesHeader kept)) i;
          linking = (ap (λ (u : Known). u.linking) is.as_known ∙ linking_is y v o (TakesHeader kept)) i;
        })
        (headers_are_taken (era c) (memory c) (team c) s.ghost k (quest_with y v o None) kept.kind kept.len keeps.serial keeps.mutator (busy_word kept.len k)
        (prepared c p s k (here (TakesHeader kept)) is) (ap (λ (u : Known). u.copy) is.as_known ∙ copy_is y v o (TakesHeader kept))
        (ap (λ (u : Known). u.quest) is.as_known ∙ quest_is y v o (TakesHeader kept)) refl (ap decode heap ∙ keeps.says)
        (decode-busy_word kept.len k short (omega arith)))) refl refl keeps

    pub takes_header : StepsSo c p s k (here (TakesHeader kept))
    takes_header =
        let pages = has_pages y v c.pages c.mutators k o (TakesHeader kept) is.fits in
        let worker = is_worker y v c.pages c.mutators k o (TakesHeader kept) is.fits in
        let inside = sound_take.addr in
        wants c p s k (here (TakesHeader kept)) (Exchange (place_of c.pages (HeapWord v.addr)) kept.word (busy_word kept.len k))
        (wants_its y v o (TakesHeader kept) ∙ ap (λ n. Some (Exchange (place_of n (HeapWord v.addr)) kept.word (busy_word kept.len v.worker))) pages
        ∙ ap (λ n. Some (Exchange (place_of c.pages (HeapWord v.addr)) kept.word (busy_word kept.len n))) worker)
        (exchanges c p s k (here (TakesHeader kept)) taking kept.word (omega arith) won (λ other. stays (TakesHeader kept) LoadsHeader (Lost _) is refl refl refl refl refl tt))
