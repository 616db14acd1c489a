-- The pages that were claimed and cleared are opened.
use Rattle.std.proofs.Common.{◌≡◌, ℕ, ◌+◌, ◌%◌, Bool, true, false, cond, Some, List, [], refl, ap, sym, subst, ◌∙◌, arith}
use Rattle.std.specs.Prelude.{nat_lt}
use Rattle.heap_words.specs.declared.kind.Kind.{Kind}
use Rattle.heap_words.specs.declared.kind.Kind.TheVariants.{Fields, Raw, Mixed, Weak}
use Rattle.std.proofs.lemmas.Bool.{ltb-true, ltb-false}
use Rattle.plain_state.specs.State.{Plain}
use Rattle.atom_store.specs.declared.step.Step.TheVariants.{Store}
use Rattle.atom_store.specs.declared.reply.Reply.TheVariants.{Done}
use Rattle.record_layout.specs.declared.header.Header.{Header}
use Rattle.space_map.specs.declared.page_word.PageWord.TheVariants.{Open}
use Rattle.space_map.specs.PageWord.{encode_page}
use Rattle.space_map.specs.Spaces.{page_of, first_word}
use Rattle.space_map.specs.Table.{Page, place_of}
use Rattle.alloc_end.specs.declared.new_pages.NewPages.{NewPages}
use Rattle.alloc_end.specs.declared.place_stage.PlaceStage.{PlaceStage}
use Rattle.alloc_end.specs.declared.place_stage.PlaceStage.TheVariants.{StoresNew, OpensPage}
use Rattle.alloc_end.specs.declared.run.Run.{Run}
use Rattle.alloc_end.specs.Place.{Placing, size_of, pages_for, readies, words_for, stores_first, told}
use Rattle.alloc_end.specs.Soundness.{IsSoundPlacing}
use Rattle.heap_state.specs.Configuration.{Configuration, Stands, era, memory, team}
use Rattle.heap_state.specs.Memory.Entries.{Entry, PageIs}
use Rattle.heap_state.specs.Known.{Known, Stock}
use Rattle.heap_laws.specs.Allocation.Records.{stored_ahead}
use Rattle.heap_laws.specs.Allocation.Stocks.{stocked, opened_further}
use Rattle.heap_laws.proofs.Allocation.Laws.{opens_pages}
use Rattle.gc_worker.specs.declared.stage.Stage.TheVariants.{Places}
use Rattle.gc_worker.specs.Workers.Fits.{Fits}
use Rattle.gc_worker.specs.Steps.Goes.{Is, Goes, StepsSo}
use Rattle.gc_worker.specs.Workers.Held.{Held, at_stage, fields_for, target_for}
use Rattle.gc_worker.specs.Workers.Knows.{knows, kind_with, opened_to}
use Rattle.gc_worker.specs.Steps.Turned.{Silent, guards_place, turned_place, told_place}
use Rattle.gc_worker.proofs.Workers.ResumedMutators.{first_fits, first_going, first_rest}
use Rattle.gc_worker.proofs.Workers.KeptParts.{refit}
use Rattle.gc_worker.proofs.Stages.Gate.GateWords.{wants}
use Rattle.gc_worker.proofs.Stages.Place.Claiming.{placing, at, now}
use Rattle.gc_worker.proofs.Stages.Place.Marking.{readied_comes, readied_silent, readied_going, readied_rest, readied_known, readied_fits}
use Rattle.gc_worker.proofs.Workers.Guarded.{guards_place_fits, guards_place_known}
use Rattle.gc_worker.proofs.Words.RowSteps.{Law, becomes, stores, row_fits, prepared}

module _ (c : Configuration) (p : Plain) (s : Stands c p) (k : ℕ) (y : Held) (run : Run) (header : Header) (new : NewPages) where
  abbrev asked : ℕ
  asked = pages_for (size_of header)

  abbrev words : ℕ
  words = words_for header

  abbrev here : PlaceStage → Held
  here stage = at c p s k y run header stage

  -- ---- the pages

  module _ (is : Is c k (here (OpensPage new))) where
    abbrev x : Held
    x = here (OpensPage new)

    abbrev stock : Stock
    stock = opened_to (placing c p s k y run header (OpensPage new)) new

    abbrev entry : Entry
    entry = PageIs new.next (Open y.epoch)

    -- the pages begin at a page's first word
    aligned : new.first % 64 ≡ 0
    aligned =
        let e = now c p s k y run header (OpensPage new) is in
        let q = s.invariant.stocks.stocked k is.below stock (rw is.as_known refl) e in
        omega (arith, q.aligned)

    law : Law c p s k x (Some entry) (stocked (knows x) (opened_further stock)) s.ghost
    law =
        let f = is.fits.stage.sound.stage in
        subst (λ (v : Known). Law c p s k x (Some (PageIs new.next (Open v.epoch))) (stocked v (opened_further stock)) s.ghost) is.as_known
        (opens_pages (era c) (memory c) (team c) s.ghost k new.next stock (prepared c p s k x is)
        (record { own = record { runs = rw is.as_known refl; has = rw is.as_known refl }; blank = refl; at = refl; more = omega (arith, f) }))

    abbrev all : Run
    all = record { at = new.first; end = new.first + words }

    abbrev further : NewPages
    further = record { first = new.first; next = new.next + 1 }

    -- the record's first store
    abbrev first_for : Kind → Placing
    first_for kind = placing c p s k y all header (stores_first kind)

    abbrev pick_for : Kind → Bool → Placing
    pick_for kind b = cond b (placing c p s k y run header (readies y.snap further)) (first_for kind)

    abbrev pick : Bool → Placing
    pick b = pick_for header.kind b

    abbrev then_for : Kind → Bool → Held
    then_for kind b = cond b (here (readies y.snap further)) (at_stage y (guards_place y (first_for kind)))

    abbrev then : Bool → Held
    then b = then_for header.kind b

    abbrev by : Placing → Held
    by z = turned_place x z (told z)

    comes : (kind : Kind) (b : Bool) → by (pick_for kind b) ≡ then_for kind b
    comes kind true = readied_comes c p s k y run header further (OpensPage new)
    comes Fields false = refl
    comes _ false = refl

    silent : (kind : Kind) (b : Bool) → told_place x (told (pick_for kind b)) ≡ Silent
    silent kind true = readied_silent c p s k y run header further (OpensPage new)
    silent Fields false = refl
    silent _ false = refl

    abbrev test_of : Bool
    test_of = nat_lt (new.next + 1) (page_of new.first + asked)

    sound : (b : Bool) → test_of ≡ b → IsSoundPlacing (pick b)
    sound true test =
        let l = ltb-true (new.next + 1) (page_of new.first + asked) test in let f = is.fits.stage.sound.stage in
        record { pages = is.fits.stage.sound.pages; run = is.fits.stage.sound.run; fields = is.fits.stage.sound.fields; cell = is.fits.stage.sound.cell; epoch = is.fits.stage.sound.epoch; snap = is.fits.stage.sound.snap; room = is.fits.stage.sound.room; stage = readied_fits c p s k y run header further (f.0, omega (arith, f), l) }
    sound false test =
        let f = is.fits.stage.sound.stage in
        record {
          pages = is.fits.stage.sound.pages;
          run = (omega arith, f.0);
          fields = is.fits.stage.sound.fields;
          cell = is.fits.stage.sound.cell;
          epoch = is.fits.stage.sound.epoch;
          snap = is.fits.stage.sound.snap;
          room = is.fits.stage.sound.room;
          stage = first_fits y.layout.pages asked y.snap (fields_for y) all header header.kind refl is.fits.stage.sound.fields is.fits.stage.sound.cell (omega arith);
        }

    fits : (b : Bool) → test_of ≡ b → Fits c.pages c.mutators k (then b)
    fits true test =
        refit c.pages c.mutators k x is.fits (Places (pick true)) is.fits.end is.fits.side is.fits.task
        (record { layout = refl; epoch = refl; fields = refl; snap = refl; target = refl; going = readied_going c p s k y run header further; rest = readied_rest c p s k y run header further; sound = sound true test })
    fits false test =
        guards_place_fits c.pages c.mutators k y (first_for header.kind)
        (refit c.pages c.mutators k x is.fits (Places (pick false)) is.fits.end is.fits.side is.fits.task
        (record { layout = refl; epoch = refl; fields = refl; snap = refl; target = refl; going = first_going header.kind; rest = first_rest all header header.kind (omega arith); sound = sound false test }))

    -- at the record's first store all pages are open
    abbrev stock_with : (opened : ℕ) (ahead : List ℕ) → Stock
    stock_with opened ahead = record { epoch = y.epoch; at = new.first; end = new.first + words; zeroed = new.first + words; opened = opened; ahead = ahead }

    abbrev ahead_for : Kind → List ℕ
    ahead_for kind = stored_ahead (kind_with kind (fields_for y)) (target_for y)

    stock_first : (kind : Kind) → header.kind ≡ kind → first_word new.next + 64 ≡ new.first + words → stocked (knows x) (opened_further stock) ≡ knows (at_stage y (Places (first_for kind)))
    stock_first Fields is e = λ i. record (knows (at_stage y (Places (first_for Fields)))) { stock = Some (stock_with (e i) (ahead_for (sym is i))) }
    stock_first Raw is e = λ i. record (knows (at_stage y (Places (first_for Raw)))) { stock = Some (stock_with (e i) (ahead_for (sym is i))) }
    stock_first Mixed is e = λ i. record (knows (at_stage y (Places (first_for Mixed)))) { stock = Some (stock_with (e i) []) }
    stock_first Weak is e = λ i. record (knows (at_stage y (Places (first_for Weak)))) { stock = Some (stock_with (e i) []) }

    stock_then : (b : Bool) → test_of ≡ b → stocked (knows x) (opened_further stock) ≡ knows (then b)
    stock_then true test =
        let e : first_word new.next + 64 ≡ first_word (new.next + 1) = omega arith in
        (λ i. record (knows (here (StoresNew further))) { stock = Some (record { epoch = y.epoch; at = new.first; end = new.first + words; zeroed = new.first + words; opened = e i; ahead = [] }) })
        ∙ sym (readied_known c p s k y run header further)
    stock_then false test =
        let l = ltb-false (new.next + 1) (page_of new.first + asked) test in let f = is.fits.stage.sound.stage in
        stock_first header.kind refl (omega (arith, l, f, aligned)) ∙ sym (guards_place_known y (first_for header.kind))

    goes : (b : Bool) → test_of ≡ b → Goes c p s k (Some entry) x Done
    goes b test =
        becomes c p s k x (Some entry) Done (then b) s.ghost (ap (λ (t : Bool). by (pick t)) test ∙ comes header.kind b) is.below
        (subst (λ (v : Known). Law c p s k x (Some entry) v s.ghost) (stock_then b test) law) (ap (λ (t : Bool). told_place x (told (pick t))) test ∙ silent header.kind b) refl
        (subst (λ (t : Bool). IsSoundPlacing (pick t)) (sym test) (sound b test)) (fits b test)

    pub opens_page : StepsSo c p s k x
    opens_page =
        wants c p s k x (Store (place_of c.pages (Page new.next)) (encode_page (Open y.epoch))) (ap (λ n. Some (Store (place_of n (Page new.next)) (encode_page (Open y.epoch)))) is.fits.pages)
        (stores c p s k x entry (row_fits c p s k x entry (stocked (knows x) (opened_further stock)) s.ghost is.below law) (goes test_of refl))
