-- What an allocation's step makes of the words, by its stage: what it has made ready, the record that it places, and that each page that it opens
-- was marked as new before, if a checkpoint was begun.
use Rattle.std.proofs.Common.{◌≡◌, ◌≢◌, ℕ, ◌+◌, ◌*◌, ◌<◌, ◌≤◌, Bool, true, false, cond, nat_le, List, slice_index, Option, Some, None, arith, refl, ap, subst, ◌∙◌}
use Rattle.std.proofs.lemmas.Option.{same_Some}
use Rattle.atom_store.specs.declared.reply.Reply.TheVariants as reply
use Rattle.atom_store.specs.declared.step.Step.TheVariants as step
use Rattle.atom_store.specs.declared.turn.Turn.{Turn}
use Rattle.atom_store.specs.declared.turn.Turn.TheVariants.{Finished}
use Rattle.atom_store.specs.Acts.{MakesStep, after_next_step}
use Rattle.atom_store.specs.Step.{words_after}
use Rattle.atom_store.specs.StepOn.{Store}
use Rattle.atom_store.proofs.Acting.{no_step}
use Rattle.atom_store.proofs.StepWords.{slice_index-words_after}
use Rattle.heap_words.specs.declared.kind.Kind.{Kind}
use Rattle.heap_words.specs.declared.kind.Kind.TheVariants.{Fields, Raw, Mixed, Weak}
use Rattle.heap_words.specs.Decoded.{encode}
use Rattle.heap_words.specs.Word.{number_word}
use Rattle.record_layout.specs.declared.header.Header.{Header}
use Rattle.record_layout.specs.Layout.{header_says}
use Rattle.space_map.specs.declared.area_word.AreaWord.{AreaWord}
use Rattle.space_map.specs.declared.page_word.PageWord.TheVariants.{Open}
use Rattle.space_map.specs.declared.save_word.SaveWord.TheVariants.{New}
use Rattle.space_map.specs.AreaWord.{decode_area}
use Rattle.space_map.specs.PageWord.{decode_page, encode_page}
use Rattle.space_map.specs.SaveWord.{decode_save, encode_save}
use Rattle.space_map.specs.Spaces.{page_of}
use Rattle.space_map.specs.Table.{Page, HeapWord, SaveOf, place_of}
use Rattle.space_map.specs.TableWords.{HoldsTable}
use Rattle.space_map.specs.WholeTable.{Within, Behind, HoldsWhole, whole_word}
use Rattle.alloc_end.specs.declared.fitting.Fitting.{Fitting}
use Rattle.alloc_end.specs.declared.new_pages.NewPages.{NewPages}
use Rattle.alloc_end.specs.declared.allocated.Allocated.{Allocated}
use Rattle.alloc_end.specs.declared.allocated.Allocated.TheVariants.{Placed, Full}
use Rattle.alloc_end.specs.declared.place_stage.PlaceStage.{PlaceStage}
use Rattle.alloc_end.specs.declared.place_stage.PlaceStage.TheVariants.{LoadsTraced, LoadsArea, ExchangesArea, StoresZero, StoresNew, OpensPage, StoresCount, StoresTarget, StoresLink, StoresHeader, Ended}
use Rattle.alloc_end.specs.Place.{Placing, begun, at_stage, wants_at, size_of, words_for, fits, shortage, place_machine, stores_first, told, taken_at, looked_at_area, readies, cleared, after_opening}
use Rattle.alloc_end.specs.Soundness.{IsSoundPlacing}
use Rattle.alloc_end.specs.Theorems.{area_word, AreZero, AreOpen, AreCleared, IsRunReady, AwaitsHeader, IsReady, PlacesRecord, zeros_from, AreNew, AreMarked, NoneIsMarkedYet, OpenedPagesAreNew}
use Rattle.alloc_end.proofs.NextStages.{cleared_on, last_step, opened_on, readied}
use Rattle.alloc_end.proofs.StoredRows.{new_more, new_stays, open_more, open_stays, other_word, row_before, this_word, zero_behind, zero_kept, zero_more, zero_stays}

-- ---- what is made ready

-- at the stage that it has come to
abbrev IsReadyAt : Placing → PlaceStage → List ℕ → Type 0
IsReadyAt p stage words = IsReady (at_stage p stage) stage words

ready_by_area : (p : Placing) (traced : Bool) (size : ℕ) (o : Option AreaWord) (words : List ℕ) → IsReadyAt p (looked_at_area p traced size o) words
ready_by_area p traced size (Some area) words = by_test (fits traced (words_for p.header) area)
  where
    by_test : (b : Bool) → IsReadyAt p (cond b (ExchangesArea (record { traced = traced; area = area })) (Ended (Full (shortage traced size p.header area)))) words
    by_test true = tt
    by_test false = tt
ready_by_area p traced size None words = tt

ready_by_exchange : (p : Placing) (f : Fitting) (b : Bool) (found : ℕ) (words : List ℕ)
    → let next = taken_at (at_stage p (ExchangesArea f)) (ExchangesArea f) (cond b reply.Won (reply.Lost found)) in IsReady next next.stage words
ready_by_exchange p f true found words = λ a low high. absurd (omega arith)
ready_by_exchange p f false found words = tt

-- the pages are as they are to be, whether the next one is marked first or not
ready_next : (p : Placing) (new : NewPages) (words : List ℕ) → AreCleared p new words → IsReadyAt p (readies p.snap new) words
ready_next p new words are = readied (λ stage. IsReadyAt p stage words) p.snap new (λ none. are) (λ some. are)

ready_by_zero : (p : Placing) (new : NewPages) (words : List ℕ) → new.next < new.first + words_for p.header → AreZero p.layout.pages new.first (new.next + 1) words
    → IsReadyAt p (cleared (words_for p.header) p.snap new) words
ready_by_zero p new words below zero =
    cleared_on (λ stage. IsReadyAt p stage words) (words_for p.header) p.snap new (λ more. zero)
    (λ last. ready_next p (record { first = new.first; next = page_of new.first }) words (λ a low high. zero a low (omega (arith, high, last)), λ page low high. absurd (omega (arith, low, high))))

zeros_from-pos : (kind : Kind) → 0 < zeros_from kind
zeros_from-pos Fields = omega arith
zeros_from-pos _ = omega arith

-- a run that is ready awaits the header of a record that isn't mixed and no cell
header_next : (p : Placing) (words : List ℕ) → p.header.kind ≢ Mixed → p.header.kind ≢ Weak → p.run.at < p.run.end → IsRunReady p words → AwaitsHeader p words
header_next p words other strong room ready = record {
  place = ready.0 p.run.at (omega arith) room;
  counted = λ mixed. absurd (other mixed);
  targeted = λ weak. absurd (strong weak);
  zero = λ a low high. ready.0 a (omega arith) high;
  opened = ready.1;
}

-- where a run with room is ready, it is so for the record's first store
ready_first : (p : Placing) (kind : Kind) (words : List ℕ) → p.header.kind ≡ kind → p.run.at < p.run.end → IsRunReady p words → IsReady p (stores_first kind) words
ready_first p Mixed words is room ready = ready
ready_first p Fields words is room ready = header_next p words (λ mixed. cc) (λ weak. cc) room ready
ready_first p Raw words is room ready = header_next p words (λ mixed. cc) (λ weak. cc) room ready
ready_first p Weak words is room ready = ready

ready_by_page : (p : Placing) (new : NewPages) (words : List ℕ) → AreZero p.layout.pages new.first (new.first + words_for p.header) words
    → AreOpen p.layout.pages p.epoch (page_of new.first) (new.next + 1) words → IsReady (after_opening p new) (after_opening p new).stage words
ready_by_page p new words zero open_pages =
    opened_on (λ next. IsReady next next.stage words) p new (λ more. ready_next p (record { first = new.first; next = new.next + 1 }) words (zero, open_pages))
    (λ last.
    ready_first (record p { run = record { at = new.first; end = new.first + words_for p.header }; stage = stores_first p.header.kind }) p.header.kind words refl
    (omega arith) (zero, λ page low high. open_pages page low (omega (arith, high, last))))

-- the count of a mixed record's fields is stored
count_stored : (p : Placing) (before after : List ℕ) → HoldsTable p.layout.pages before → p.header.kind ≡ Mixed → p.run.at + 1 < p.run.end → p.run.end ≤ 128 * p.layout.pages
    → IsRunReady p before → after ≡ words_after (step.Store (place_of p.layout.pages (HeapWord (p.run.at + 1))) (number_word p.fields)) before → AwaitsHeader p after
count_stored p before after whole is room inside ready makes =
    let n : ℕ = p.layout.pages in
    let at : ℕ = p.run.at in
    let two : zeros_from p.header.kind ≡ 2 = ap zeros_from is in
    record {
      place = other_word n at (at + 1) (number_word p.fields) before after makes (omega arith) ∙ ready.0 at (omega arith) (omega (arith, room));
      counted = λ mixed. this_word n (at + 1) (number_word p.fields) before after whole (omega (arith, room, inside)) makes;
      targeted = λ weak. absurd (cc);
      zero = zero_behind n at (at + zeros_from p.header.kind) (at + 1) p.run.end (number_word p.fields) before after ready.0 (omega arith) (omega (arith, two)) makes;
      opened = open_stays n p.epoch (page_of at) (page_of p.run.end) (at + 1) (number_word p.fields) before after (omega (arith, inside)) (omega (arith, room, inside)) ready.1 makes;
    }

-- a cell's target is stored
target_stored : (p : Placing) (before after : List ℕ) → HoldsTable p.layout.pages before → p.header.kind ≡ Weak → p.run.at + 1 < p.run.end → p.run.end ≤ 128 * p.layout.pages
    → IsRunReady p before → after ≡ words_after (step.Store (place_of p.layout.pages (HeapWord (p.run.at + 1))) p.target) before → AwaitsHeader p after
target_stored p before after whole is room inside ready makes =
    let n : ℕ = p.layout.pages in
    let at : ℕ = p.run.at in
    let two : zeros_from p.header.kind ≡ 2 = ap zeros_from is in
    record {
      place = other_word n at (at + 1) p.target before after makes (omega arith) ∙ ready.0 at (omega arith) (omega (arith, room));
      counted = λ mixed. absurd (cc);
      targeted = λ weak. this_word n (at + 1) p.target before after whole (omega (arith, room, inside)) makes;
      zero = zero_behind n at (at + zeros_from p.header.kind) (at + 1) p.run.end p.target before after ready.0 (omega arith) (omega (arith, two)) makes;
      opened = open_stays n p.epoch (page_of at) (page_of p.run.end) (at + 1) p.target before after (omega (arith, inside)) (omega (arith, room, inside)) ready.1 makes;
    }

-- a cell's link is stored, which was 0 before
link_stored : (p : Placing) (before after : List ℕ) → HoldsTable p.layout.pages before → p.header.kind ≡ Weak → p.run.at + 2 < p.run.end → p.run.end ≤ 128 * p.layout.pages
    → AwaitsHeader p before → after ≡ words_after (step.Store (place_of p.layout.pages (HeapWord (p.run.at + 2))) 0) before → AwaitsHeader (at_stage p StoresHeader) after
link_stored p before after whole is room inside awaits makes =
    let n : ℕ = p.layout.pages in
    let at : ℕ = p.run.at in
    record {
      place = other_word n at (at + 2) 0 before after makes (omega arith) ∙ awaits.place;
      counted = λ mixed. absurd (cc);
      targeted = λ weak. other_word n (at + 1) (at + 2) 0 before after makes (omega arith) ∙ awaits.targeted weak;
      zero = zero_kept n (at + zeros_from p.header.kind) p.run.end (at + 2) before after whole (omega (arith, room, inside)) awaits.zero makes;
      opened = open_stays n p.epoch (page_of at) (page_of p.run.end) (at + 2) 0 before after (omega (arith, inside)) (omega (arith, room, inside)) awaits.opened makes;
    }

pub ready : (p : Placing) (stage : PlaceStage) (before after : List ℕ) (turn : Turn Allocated) → IsSoundPlacing (at_stage p stage) → HoldsTable p.layout.pages before
    → IsReady (at_stage p stage) stage before → MakesStep place_machine (at_stage p stage) before after turn
    → let next = after_next_step place_machine (at_stage p stage) before in IsReady next next.stage after
ready p (LoadsArea traced size) before after turn sound whole is acts = ready_by_area p traced size (decode_area (area_word p before)) after
ready p (ExchangesArea f) before after turn sound whole is acts = ready_by_exchange p f _ (area_word p before) after
ready p (StoresZero new) before after turn sound whole is acts =
    let stage = sound.stage in
    ready_by_zero p new after stage.2 (zero_more p.layout.pages new.first new.next before after whole (omega arith) is acts.makes)
ready p (StoresNew new) before after turn sound whole is acts =
    let pages = sound.stage.0 in
    let value : ℕ = encode_save (New p.snap) in (
      λ a low high. row_before p.layout.pages new.next value (HeapWord a) before after (omega (arith, pages, high)) acts.makes ∙ is.0 a low high,
      λ page low high. ap decode_page (row_before p.layout.pages new.next value (Page page) before after (omega (arith, pages, high)) acts.makes) ∙ is.1 page low high,
    )
ready p (OpensPage new) before after turn sound whole is acts =
    let stage = sound.stage in
    let value : ℕ = encode_page (Open p.epoch) in
    ready_by_page p new after
    (zero_stays p.layout.pages new.first (new.first + words_for p.header) new.next value before after (omega arith) stage.0 is.0 acts.makes)
    (open_more p.layout.pages p.epoch (page_of new.first) new.next before after whole (omega arith) sound.epoch is.1 acts.makes)
ready p StoresCount before after turn sound whole is acts =
    let stage = sound.stage in
    let long = stage.1 in
    let room = stage.2 in
    let run = sound.run in
    let inside = run.1 in
    count_stored (at_stage p StoresHeader) before after whole stage.0 (omega (arith, long, room)) inside is acts.makes
ready p StoresTarget before after turn sound whole is acts =
    let stage = sound.stage in
    let long = stage.1 in
    let room = stage.2 in
    let run = sound.run in
    let inside = run.1 in
    target_stored (at_stage p StoresLink) before after whole stage.0 (omega (arith, long, room)) inside is acts.makes
ready p StoresLink before after turn sound whole is acts =
    let stage = sound.stage in
    let long = stage.1 in
    let room = stage.2 in
    let run = sound.run in
    let inside = run.1 in
    link_stored (at_stage p StoresLink) before after whole stage.0 (omega (arith, long, room)) inside is acts.makes
ready p _ before after turn sound whole is acts = tt

-- ---- the record

never_placed_at_area : (p : Placing) (traced : Bool) (size at : ℕ) (o : Option AreaWord) → told (at_stage p (looked_at_area p traced size o)) ≡ Finished (Placed at) → ⊥
never_placed_at_area p traced size at (Some area) tells = by_test (fits traced (words_for p.header) area) tells
  where
    by_test : (b : Bool) → told (at_stage p (cond b (ExchangesArea (record { traced = traced; area = area })) (Ended (Full (shortage traced size p.header area))))) ≡ Finished (Placed at) → ⊥
    by_test true e = cc
    by_test false e = cc
never_placed_at_area p traced size at None tells = cc

pub places : (p : Placing) (stage : PlaceStage) (before after : List ℕ) (at : ℕ) → IsSoundPlacing (at_stage p stage) → HoldsTable p.layout.pages before
    → IsReady (at_stage p stage) stage before → MakesStep place_machine (at_stage p stage) before after (Finished (Placed at))
    → PlacesRecord (at_stage p stage) before after at
places p (LoadsArea traced size) before after at sound whole is acts = absurd (never_placed_at_area p traced size at (decode_area (area_word p before)) acts.tells)
places p StoresHeader before after at sound whole is acts = subst (PlacesRecord (at_stage p StoresHeader) before after) same record_placed
  where
    same : p.run.at ≡ at
    same = let e = acts.tells in cc

    record_placed : PlacesRecord (at_stage p StoresHeader) before after p.run.at
    record_placed =
        let run = sound.run in
        let room = sound.stage in
        record {
          at_run = refl;
          in_run = room;
          header = this_word p.layout.pages p.run.at (encode (header_says p.header)) before after whole (omega arith) acts.makes;
          counted = λ mixed. other_word p.layout.pages (p.run.at + 1) p.run.at (encode (header_says p.header)) before after acts.makes (omega arith) ∙ is.counted mixed;
          targeted = λ weak. other_word p.layout.pages (p.run.at + 1) p.run.at (encode (header_says p.header)) before after acts.makes (omega arith) ∙ is.targeted weak;
          zero = zero_behind p.layout.pages (p.run.at + zeros_from p.header.kind) (p.run.at + zeros_from p.header.kind) p.run.at p.run.end (encode (header_says p.header))
              before after is.zero (omega arith) (omega (arith, zeros_from-pos p.header.kind)) acts.makes;
          opened = open_stays p.layout.pages p.epoch (page_of p.run.at) (page_of p.run.end) p.run.at (encode (header_says p.header)) before after (omega arith) (omega arith) is.opened acts.makes;
          run_goes_on = refl;
          others = λ place apart. ap (λ ws. slice_index ws place) acts.makes
              ∙ slice_index-words_after (step.Store (place_of p.layout.pages (HeapWord p.run.at)) (encode (header_says p.header))) before place apart;
        }
places p stage before after at sound whole is acts = absurd (last_step p stage before after (Placed at) acts)

-- ---- pages marked as new

marked_first : (p : Placing) (kind : Kind) (words : List ℕ) → AreMarked p (stores_first kind) words
marked_first p Fields words = tt
marked_first p _ words = tt

pub none_yet : NoneIsMarkedYet
none_yet layout run header epoch fields snap target words = by_test (nat_le (run.at + size_of header) run.end)
  where
    by_test : (b : Bool) → AreMarked (begun layout run header epoch fields snap target) (cond b (stores_first header.kind) LoadsTraced) words
    by_test true = marked_first (begun layout run header epoch fields snap target) header.kind words
    by_test false = tt

-- at the stage that it has come to
abbrev IsMarkedAt : Placing → PlaceStage → List ℕ → Type 0
IsMarkedAt p stage words = AreMarked (at_stage p stage) stage words

marked_by_area : (p : Placing) (traced : Bool) (size : ℕ) (o : Option AreaWord) (words : List ℕ) → IsMarkedAt p (looked_at_area p traced size o) words
marked_by_area p traced size (Some area) words = by_test (fits traced (words_for p.header) area)
  where
    by_test : (b : Bool) → IsMarkedAt p (cond b (ExchangesArea (record { traced = traced; area = area })) (Ended (Full (shortage traced size p.header area)))) words
    by_test true = tt
    by_test false = tt
marked_by_area p traced size None words = tt

marked_by_exchange : (p : Placing) (f : Fitting) (b : Bool) (found : ℕ) (words : List ℕ)
    → let next = taken_at (at_stage p (ExchangesArea f)) (ExchangesArea f) (cond b reply.Won (reply.Lost found)) in AreMarked next next.stage words
marked_by_exchange p f true found words = tt
marked_by_exchange p f false found words = tt

-- before the next page, those up to it are marked, if a checkpoint was begun
marked_next : (p : Placing) (new : NewPages) (words : List ℕ) → (0 < p.snap → AreNew p.layout.pages p.snap (page_of new.first) new.next words) → IsMarkedAt p (readies p.snap new) words
marked_next p new words are = readied (λ stage. IsMarkedAt p stage words) p.snap new (λ none some. absurd (omega (arith, none, some))) are

marked_by_zero : (p : Placing) (new : NewPages) (words : List ℕ) → IsMarkedAt p (cleared (words_for p.header) p.snap new) words
marked_by_zero p new words =
    cleared_on (λ stage. IsMarkedAt p stage words) (words_for p.header) p.snap new (λ more. tt)
    (λ last. marked_next p (record { first = new.first; next = page_of new.first }) words (λ some page low high. absurd (omega (arith, low, high))))

marked_by_page : (p : Placing) (new : NewPages) (words : List ℕ) → (0 < p.snap → AreNew p.layout.pages p.snap (page_of new.first) (new.next + 1) words)
    → AreMarked (after_opening p new) (after_opening p new).stage words
marked_by_page p new words are =
    opened_on (λ next. AreMarked next next.stage words) p new (λ more. marked_next p (record { first = new.first; next = new.next + 1 }) words are)
    (λ last. marked_first (record p { run = record { at = new.first; end = new.first + words_for p.header }; stage = stores_first p.header.kind }) p.header.kind words)

pub marked : (p : Placing) (stage : PlaceStage) (before after : List ℕ) (turn : Turn Allocated) → IsSoundPlacing (at_stage p stage) → HoldsWhole p.layout before
    → AreMarked (at_stage p stage) stage before → MakesStep place_machine (at_stage p stage) before after turn
    → let next = after_next_step place_machine (at_stage p stage) before in AreMarked next next.stage after
marked p (LoadsArea traced size) before after turn sound whole is acts = marked_by_area p traced size (decode_area (area_word p before)) after
marked p (ExchangesArea f) before after turn sound whole is acts = marked_by_exchange p f _ (area_word p before) after
marked p (StoresZero new) before after turn sound whole is acts = marked_by_zero p new after
marked p (StoresNew new) before after turn sound whole is acts =
    let pages = sound.stage.0 in
    λ some. new_more p.layout p.snap (page_of new.first) new.next before after whole sound.room some sound.snap (omega (arith, pages)) is acts.makes
marked p (OpensPage new) before after turn sound whole is acts =
    let stage = sound.stage in
    marked_by_page p new after
    (λ some. new_stays p.layout.pages p.snap (page_of new.first) (new.next + 1) new.next (encode_page (Open p.epoch)) before after (omega (arith, stage)) (is some) acts.makes)
marked p (Ended result) before after turn sound whole is acts = absurd (no_step acts.has_step)
marked p _ before after turn sound whole is acts = tt

-- ---- the page that is opened

opened_at : (p : Placing) (stage : PlaceStage) (words : List ℕ) (page value : ℕ) → IsSoundPlacing (at_stage p stage) → AreMarked p stage words → 0 < p.snap
    → wants_at p stage ≡ Some (Store (Within (Page page)) value) → decode_save (whole_word p.layout.pages (Behind (SaveOf page)) words) ≡ Some (New p.snap)
opened_at p (OpensPage new) words page value sound is some wants =
    let here : new.next ≡ page = (let e = same_Some _ _ wants in cc) in
    let stage = sound.stage in
    is some page (omega (arith, stage, here)) (omega (arith, here))
opened_at p _ words page value sound is some wants = absurd (cc)

pub opened_are_new : OpenedPagesAreNew
opened_are_new p words page value sound is some wants = opened_at p p.stage words page value sound is some wants
