-- Each step of an allocation by a lone mutator leaves it less to pay. Pages claimed are cleared and opened, and the record's header is stored; ahead
-- of it the count of a mixed record's fields, or a cell's target and its link.
use Rattle.std.proofs.Common.{◌≡◌, ℕ, ◌+◌, ◌*◌, ◌<◌, ◌≤◌, ◌==◌, Bool, true, false, cond, Option, Some, nat_lt, refl, sym, ap, subst, arith}
use Rattle.plain_state.specs.State.{Plain}
use Rattle.record_layout.specs.declared.header.Header.{Header}
use Rattle.record_layout.specs.Layout.{header_says}
use Rattle.heap_words.specs.declared.kind.Kind.{Kind}
use Rattle.heap_words.specs.declared.kind.Kind.TheVariants.{Fields, Raw, Mixed, Weak}
use Rattle.heap_words.specs.Decoded.{encode}
use Rattle.heap_words.specs.Word.{number_word}
use Rattle.atom_store.specs.declared.step.Step.TheVariants.{Store}
use Rattle.atom_store.specs.declared.turn.Turn.TheVariants.{More}
use Rattle.space_map.specs.declared.page_word.PageWord.TheVariants.{Open}
use Rattle.space_map.specs.declared.save_word.SaveWord.TheVariants.{New}
use Rattle.space_map.specs.PageWord.{encode_page}
use Rattle.space_map.specs.SaveWord.{encode_save}
use Rattle.space_map.specs.Spaces.{page_of, to_space}
use Rattle.space_map.specs.Table.{Page, HeapWord, SaveOf, place_of}
use Rattle.space_map.specs.WholeTable.{Behind, whole_place_of}
use Rattle.alloc_end.specs.declared.new_pages.NewPages.{NewPages}
use Rattle.alloc_end.specs.declared.place_stage.PlaceStage.{PlaceStage}
use Rattle.alloc_end.specs.declared.place_stage.PlaceStage.TheVariants.{LoadsTraced, LoadsSize, LoadsArea, ExchangesArea, StoresZero, StoresNew, OpensPage, StoresCount, StoresTarget, StoresLink, StoresHeader, Ended}
use Rattle.alloc_end.specs.declared.run.Run.{Run}
use Rattle.alloc_end.specs.Place.{Placing, pages_for, readies, size_of, stores_first, told_at, words_for, writes_on}
use Rattle.heap_state.specs.Configuration.{Configuration, Stands, table}
use Rattle.heap_state.specs.Memory.Entries.{PageIs, SaveIs, WordIs}
use Rattle.heap_state.specs.Functions.{put}
use Rattle.heap_state.specs.Memory.Table.{Table}
use Rattle.heap_state.specs.Saving.Words.{Saves}
use Rattle.page_saves.specs.Guard as guard
use Rattle.gc_worker.specs.declared.task.Task.{Task}
use Rattle.gc_worker.specs.declared.stage.write.Write.TheVariants.{OfPlace}
use Rattle.gc_worker.specs.declared.stage.Stage.{Stage}
use Rattle.gc_worker.specs.declared.stage.Stage.TheVariants.{Guards, Places}
use Rattle.gc_worker.specs.Workers.Held.{Held, at_stage, fields_for, making_for, target_for}
use Rattle.gc_worker.specs.Workers.Saves.{saver_of}
use Rattle.gc_worker.specs.Steps.Turned.{told_effect, told_place, turned_place, with_record}
use Rattle.gc_worker.proofs.Words.TableRows.{marks_with_room}
use Rattle.lone_mutator.specs.Bound.{guard_cost}
use Rattle.lone_mutator.specs.Law.{IsAlone, Lowers, LowersWhereTold, Pays, StepsLower, said, saves}
use Rattle.lone_mutator.specs.Lone.{NobodyElseAnnounces, PlaceStands}
use Rattle.lone_mutator.specs.Potential.{due_in, place_left, potential_in, size_in}
use Rattle.lone_mutator.proofs.Stages.Gate.LoneGateCounts.{present}
use Rattle.lone_mutator.proofs.Stages.Place.Claiming.{at, placing, loads_traced, loads_size, loads_area, exchanges_area}
use Rattle.lone_mutator.proofs.Steps.ResumedCosts.{goes_writing}
use Rattle.lone_mutator.proofs.Steps.Owed.{stores, stores_any, wants}
use Rattle.lone_mutator.proofs.Epochs.Cost.{due_opened}
use Rattle.lone_mutator.proofs.Epochs.CheckpointDebt.{saving_in-kept}

module _ (c : Configuration) (p : Plain) (s : Stands c p) (y : Held) (run : Run) (header : Header) where
  abbrev on : PlaceStage → Held
  on stage = at c p s y run header stage

  abbrev asked : ℕ
  asked = pages_for (size_of header)

  -- it goes on to a store of its record's, and may look at the page first
  module _ (stage : PlaceStage) (a : IsAlone c (on stage)) (next : Placing) (after : Table) (cost : ℕ) (costs : (x : Held) → place_left c.pages (size_in after) x next next.stage ≡ cost) where
    writes_next : NobodyElseAnnounces after.announced false → PlaceStands after next next.stage → guard_cost + cost + due_in c.pages after < potential_in c.pages (table c) (on stage)
        → Lowers c.pages (saves c) (table c) after (on stage) (turned_place (on stage) next More)
    writes_next quiet stands fewer =
        goes_writing (λ (z : Stage). Lowers c.pages (saves c) (table c) after (on stage) (at_stage y z)) (on stage) (OfPlace next) (writes_on next next.stage) (Places next)
        (let least = costs (at_stage y (Places next)) in record { remembers = record { began = λ past. a.remembers.began tt; quiet = quiet; stands = stands }; falls = omega (arith, fewer, least) })
        (λ page is.
        let least = costs (at_stage y (Guards (guard.begun y.layout page y.running y.number) (OfPlace next))) in
        record { remembers = record { began = λ past. a.remembers.began tt; quiet = quiet; stands = (tt, stands) }; falls = omega (arith, fewer, least) })

  -- ---- a word is cleared

  module _ (new : NewPages) (a : IsAlone c (on (StoresZero new))) where
    abbrev cleared_at : Table
    cleared_at = record (table c) { heap = put (table c).heap new.next 0 }

    abbrev pages : NewPages
    pages = record { first = new.first; next = page_of new.first }

    abbrev Clears : PlaceStage → Type 0
    Clears stage = LowersWhereTold c.pages (saves c) (table c) cleared_at (on (StoresZero new)) (turned_place (on (StoresZero new)) (placing c p s y run header stage) (told_at stage))
        (told_place (on (StoresZero new)) (told_at stage))

    -- after the last one the first page is marked, or opened
    readied_by : (none : Bool) → Clears (cond none (OpensPage pages) (StoresNew pages))
    readied_by true =
        let fits = a.is.fits.stage.sound.stage in
        let from = fits.1 in let below = fits.2 in
        record { remembers = record { began = a.remembers.began; quiet = a.remembers.quiet; stands = tt }; falls = omega (arith, from, below) }
    readied_by false =
        let fits = a.is.fits.stage.sound.stage in
        let from = fits.1 in let below = fits.2 in
        record { remembers = record { began = a.remembers.began; quiet = a.remembers.quiet; stands = tt }; falls = omega (arith, from, below) }

    cleared_by : (b : Bool) → Clears (cond b (StoresZero (record { first = new.first; next = new.next + 1 })) (readies y.snap pages))
    cleared_by true =
        let fits = a.is.fits.stage.sound.stage in
        let from = fits.1 in let below = fits.2 in
        record { remembers = record { began = a.remembers.began; quiet = a.remembers.quiet; stands = tt }; falls = omega (arith, from, below) }
    cleared_by false = readied_by (y.snap == 0)

    pub stores_zero : StepsLower c (on (StoresZero new))
    stores_zero =
        let fits = a.is.fits.stage.sound.stage in
        let inside = fits.0 in let below = fits.2 in let n = a.is.fits.pages in
        wants c p s (on (StoresZero new)) (Store (place_of c.pages (HeapWord new.next)) 0) (ap (λ n. Some (Store (place_of n (HeapWord new.next)) 0)) a.is.fits.pages)
        (stores c p s (on (StoresZero new)) (WordIs new.next 0) (omega (arith, inside, below, n)) tt (cleared_by (nat_lt (new.next + 1) (new.first + words_for header))))

  -- ---- a page is marked as new

  module _ (new : NewPages) (a : IsAlone c (on (StoresNew new))) where
    room : y.layout.checkpoints ≡ true
    room = marks_with_room y.layout y.snap a.is.fits.stage.sound.room a.is.fits.stage.sound.stage.1

    -- for the last checkpoint begun
    last : (saves c).snap ≤ y.snap
    last =
        let recalled : (saver_of (on (StoresNew new))).recalled ≡ true = rw room refl in
        let same = ((a.stands room).knows.recalls recalled).snap in
        omega (arith, same)

    abbrev marked : Saves
    marked = record (saves c) { save = put (saves c).save new.next (New y.snap) }

    marks : Pays c.pages y.layout.checkpoints (said c.pages c.words) (record { table = table c; saves = marked }) (on (StoresNew new)) (on (OpensPage new))
    marks =
        let fits = a.is.fits.stage.sound.stage.0 in
        let from = fits.1 in let below = fits.2 in
        let kept = saving_in-kept c.pages (saves c) new.next (New y.snap) last y.layout.checkpoints in
        record { remembers = record { began = a.remembers.began; quiet = a.remembers.quiet; stands = tt }; falls = omega (arith, from, below, kept) }

    pub stores_new : StepsLower c (on (StoresNew new))
    stores_new =
        let fits = a.is.fits.stage.sound.stage.0 in
        let inside = fits.0 in let below = fits.2 in let n = a.is.fits.pages in
        wants c p s (on (StoresNew new)) (Store (whole_place_of c.pages (Behind (SaveOf new.next))) (encode_save (New y.snap)))
        (ap (λ n. Some (Store (whole_place_of n (Behind (SaveOf new.next))) (encode_save (New y.snap)))) a.is.fits.pages)
        (stores_any c p s (on (StoresNew new)) (a.stands room).formed (SaveIs new.next (New y.snap)) (omega (arith, inside, below, n), a.is.fits.stage.sound.snap) marks)

  -- ---- a page is opened

  module _ (new : NewPages) (a : IsAlone c (on (OpensPage new))) where
    abbrev opened_at : Table
    opened_at = record (table c) { page = put (table c).page new.next (Open y.epoch) }

    due_after : due_in c.pages opened_at ≤ due_in c.pages (table c)
    due_after =
        let now = present c p s (on (OpensPage new)) a refl in
        due_opened c.pages (table c).gate.epoch (table c).traced (table c).weak_turn ((table c).area (to_space (table c).gate.epoch)).owed (table c).page new.next (Open y.epoch) (ap (λ (e : ℕ). e + 1) now)

    abbrev further : NewPages
    further = record { first = new.first; next = new.next + 1 }

    abbrev first_for : Kind → Placing
    first_for kind = placing c p s y (record { at = new.first; end = new.first + words_for header }) header (stores_first kind)

    abbrev Opens : Placing → Type 0
    Opens next = LowersWhereTold c.pages (saves c) (table c) opened_at (on (OpensPage new)) (turned_place (on (OpensPage new)) next (told_at next.stage)) (told_place (on (OpensPage new)) (told_at next.stage))

    -- the next one is marked, or opened
    next_by : (none : Bool) → Opens (placing c p s y run header (cond none (OpensPage further) (StoresNew further)))
    next_by true =
        let fits = a.is.fits.stage.sound.stage in
        let from = fits.1 in let below = fits.2 in let due = due_after in
        record { remembers = record { began = a.remembers.began; quiet = a.remembers.quiet; stands = tt }; falls = omega (arith, from, below, due) }
    next_by false =
        let fits = a.is.fits.stage.sound.stage in
        let from = fits.1 in let below = fits.2 in let due = due_after in
        record { remembers = record { began = a.remembers.began; quiet = a.remembers.quiet; stands = tt }; falls = omega (arith, from, below, due) }

    -- after the last of them its record is stored
    opened_last : (kind : Kind) → Opens (first_for kind)
    opened_last Fields =
        let fits = a.is.fits.stage.sound.stage in
        let from = fits.1 in let below = fits.2 in let due = due_after in
        writes_next (OpensPage new) a (first_for Fields) opened_at 1 (λ x. refl) a.remembers.quiet tt (omega (arith, from, below, due))
    opened_last Raw =
        let fits = a.is.fits.stage.sound.stage in
        let from = fits.1 in let below = fits.2 in let due = due_after in
        writes_next (OpensPage new) a (first_for Raw) opened_at 1 (λ x. refl) a.remembers.quiet tt (omega (arith, from, below, due))
    opened_last Mixed =
        let fits = a.is.fits.stage.sound.stage in
        let from = fits.1 in let below = fits.2 in let due = due_after in
        writes_next (OpensPage new) a (first_for Mixed) opened_at (2 + guard_cost) (λ x. refl) a.remembers.quiet tt (omega (arith, from, below, due))
    opened_last Weak =
        let fits = a.is.fits.stage.sound.stage in
        let from = fits.1 in let below = fits.2 in let due = due_after in
        writes_next (OpensPage new) a (first_for Weak) opened_at (3 + 2 * guard_cost) (λ x. refl) a.remembers.quiet tt (omega (arith, from, below, due))

    opened_by : (b : Bool) → Opens (cond b (placing c p s y run header (readies y.snap further)) (first_for header.kind))
    opened_by true = next_by (y.snap == 0)
    opened_by false = opened_last header.kind

    pub opens_page : StepsLower c (on (OpensPage new))
    opens_page =
        let fits = a.is.fits.stage.sound.stage in
        let inside = fits.0 in let below = fits.2 in let n = a.is.fits.pages in
        wants c p s (on (OpensPage new)) (Store (place_of c.pages (Page new.next)) (encode_page (Open y.epoch))) (ap (λ n. Some (Store (place_of n (Page new.next)) (encode_page (Open y.epoch)))) a.is.fits.pages)
        (stores c p s (on (OpensPage new)) (PageIs new.next (Open y.epoch)) (omega (arith, inside, below, n), a.is.fits.epoch) tt (opened_by (nat_lt (new.next + 1) (page_of new.first + asked))))

  -- ---- the count of a mixed record's fields

  module _ (a : IsAlone c (on StoresCount)) where
    abbrev counted : Table
    counted = record (table c) { heap = put (table c).heap (run.at + 1) (number_word (fields_for y)) }

    lowers : Lowers c.pages (saves c) (table c) counted (on StoresCount) (turned_place (on StoresCount) (placing c p s y run header StoresHeader) More)
    lowers = writes_next StoresCount a (placing c p s y run header StoresHeader) counted 1 (λ x. refl) a.remembers.quiet tt (omega arith)

    pub stores_count : StepsLower c (on StoresCount)
    stores_count =
        let fits = a.is.fits.stage.sound.stage in
        let long = fits.1 in let room = fits.2 in
        let inside = a.is.fits.stage.sound.run.1 in let n = a.is.fits.pages in
        wants c p s (on StoresCount) (Store (place_of c.pages (HeapWord (run.at + 1))) (number_word (fields_for y)))
        (ap (λ n. Some (Store (place_of n (HeapWord (run.at + 1))) (number_word (fields_for y)))) a.is.fits.pages)
        (stores c p s (on StoresCount) (WordIs (run.at + 1) (number_word (fields_for y))) (omega (arith, inside, long, room, n)) tt lowers)

  -- ---- a cell's target, and its link

  module _ (a : IsAlone c (on StoresTarget)) where
    abbrev targeted : Table
    targeted = record (table c) { heap = put (table c).heap (run.at + 1) (target_for y) }

    aims : Lowers c.pages (saves c) (table c) targeted (on StoresTarget) (turned_place (on StoresTarget) (placing c p s y run header StoresLink) More)
    aims = writes_next StoresTarget a (placing c p s y run header StoresLink) targeted (2 + guard_cost) (λ x. refl) a.remembers.quiet tt (omega arith)

    pub stores_target : StepsLower c (on StoresTarget)
    stores_target =
        let fits = a.is.fits.stage.sound.stage in
        let long = fits.1 in let room = fits.2 in
        let inside = a.is.fits.stage.sound.run.1 in let n = a.is.fits.pages in
        wants c p s (on StoresTarget) (Store (place_of c.pages (HeapWord (run.at + 1))) (target_for y))
        (ap (λ n. Some (Store (place_of n (HeapWord (run.at + 1))) (target_for y))) a.is.fits.pages)
        (stores c p s (on StoresTarget) (WordIs (run.at + 1) (target_for y)) (omega (arith, inside, long, room, n)) tt aims)

  module _ (a : IsAlone c (on StoresLink)) where
    abbrev linked : Table
    linked = record (table c) { heap = put (table c).heap (run.at + 2) 0 }

    links : Lowers c.pages (saves c) (table c) linked (on StoresLink) (turned_place (on StoresLink) (placing c p s y run header StoresHeader) More)
    links = writes_next StoresLink a (placing c p s y run header StoresHeader) linked 1 (λ x. refl) a.remembers.quiet tt (omega arith)

    pub stores_link : StepsLower c (on StoresLink)
    stores_link =
        let fits = a.is.fits.stage.sound.stage in
        let long = fits.1 in let room = fits.2 in
        let inside = a.is.fits.stage.sound.run.1 in let n = a.is.fits.pages in
        wants c p s (on StoresLink) (Store (place_of c.pages (HeapWord (run.at + 2))) 0) (ap (λ n. Some (Store (place_of n (HeapWord (run.at + 2))) 0)) a.is.fits.pages)
        (stores c p s (on StoresLink) (WordIs (run.at + 2) 0) (omega (arith, inside, long, room, n)) tt links)

  -- ---- the header

  module _ (a : IsAlone c (on StoresHeader)) where
    abbrev headed : Table
    headed = record (table c) { heap = put (table c).heap run.at (encode (header_says header)) }

    stands_then : LowersWhereTold c.pages (saves c) (table c) headed (on StoresHeader)
        (with_record (on StoresHeader) (record { at = run.at + size_of header; end = run.end }) run.at (making_for (on StoresHeader) y.task)) (told_effect y.task)
    stands_then =
        subst (λ (task : Option Task). LowersWhereTold c.pages (saves c) (table c) headed (on StoresHeader)
        (with_record (on StoresHeader) (record { at = run.at + size_of header; end = run.end }) run.at (making_for (on StoresHeader) y.task)) (told_effect task))
        (sym a.is.fits.task.0.executes.task_is) a.remembers.quiet

    pub stores_header : StepsLower c (on StoresHeader)
    stores_header =
        let fits = a.is.fits.stage.sound.stage in
        let inside = a.is.fits.stage.sound.run.1 in let n = a.is.fits.pages in
        wants c p s (on StoresHeader) (Store (place_of c.pages (HeapWord run.at)) (encode (header_says header))) (ap (λ n. Some (Store (place_of n (HeapWord run.at)) (encode (header_says header)))) a.is.fits.pages)
        (stores c p s (on StoresHeader) (WordIs run.at (encode (header_says header))) (omega (arith, inside, fits, n)) tt stands_then)

-- ---- all stages

module _ (c : Configuration) (p : Plain) (s : Stands c p) (x : Held) where
  own : (run : Run) (header : Header) (stage : PlaceStage) → IsAlone c (at c p s x run header stage) → StepsLower c (at c p s x run header stage)
  own run header LoadsTraced a = loads_traced c p s x run header a
  own run header (LoadsSize traced) a = loads_size c p s x run header traced a
  own run header (LoadsArea traced size) a = loads_area c p s x run header traced size a
  own run header (ExchangesArea f) a = exchanges_area c p s x run header f a
  own run header (StoresZero new) a = stores_zero c p s x run header new a
  own run header (StoresNew new) a = stores_new c p s x run header new a
  own run header (OpensPage new) a = opens_page c p s x run header new a
  own run header StoresCount a = stores_count c p s x run header a
  own run header StoresTarget a = stores_target c p s x run header a
  own run header StoresLink a = stores_link c p s x run header a
  own run header StoresHeader a = stores_header c p s x run header a
  own run header (Ended result) a = absurd a.is.fits.stage.going

  pub places : (z : Placing) → IsAlone c (at_stage x (Places z)) → StepsLower c (at_stage x (Places z))
  places z a =
      let same : z ≡ record { layout = x.layout; run = z.run; header = z.header; fields = fields_for x; epoch = x.epoch; snap = x.snap; target = target_for x; stage = z.stage } =
      (λ i. record { layout = a.is.fits.stage.layout i; run = z.run; header = z.header; fields = a.is.fits.stage.fields i; epoch = a.is.fits.stage.epoch i; snap = a.is.fits.stage.snap i; target = a.is.fits.stage.target i; stage = z.stage }) in
      subst (λ (y : Placing). StepsLower c (at_stage x (Places y))) (sym same)
      (own z.run z.header z.stage (subst (λ (y : Placing). IsAlone c (at_stage x (Places y))) same a))
