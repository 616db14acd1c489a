-- The words of the pages that were claimed are cleared.
use Rattle.std.proofs.Common.{◌≡◌, ℕ, ◌+◌, ◌%◌, Bool, true, false, cond, Some, [], refl, ap, sym, subst, ◌∙◌, arith}
use Rattle.std.specs.Prelude.{nat_lt}
use Rattle.std.proofs.lemmas.Bool.{ltb-true, ltb-false}
use Rattle.plain_state.specs.State.{Plain}
use Rattle.atom_store.specs.declared.step.Step.TheVariants.{Store}
use Rattle.atom_store.specs.declared.reply.Reply.TheVariants.{Done}
use Rattle.record_layout.specs.declared.header.Header.{Header}
use Rattle.space_map.specs.Spaces.{page_of, first_word}
use Rattle.space_map.specs.Table.{HeapWord, place_of}
use Rattle.alloc_end.specs.declared.new_pages.NewPages.{NewPages}
use Rattle.alloc_end.specs.declared.place_stage.PlaceStage.{PlaceStage}
use Rattle.alloc_end.specs.declared.place_stage.PlaceStage.TheVariants.{StoresZero, StoresNew}
use Rattle.alloc_end.specs.declared.run.Run.{Run}
use Rattle.alloc_end.specs.Place.{size_of, pages_for, readies, words_for, told}
use Rattle.alloc_end.specs.Soundness.{FitsPlaceStage, IsPlacingGoing}
use Rattle.heap_state.specs.Configuration.{Configuration, Stands, era, memory, team}
use Rattle.heap_state.specs.Memory.Entries.{WordIs}
use Rattle.heap_state.specs.Known.{Known, Stock}
use Rattle.heap_laws.specs.Allocation.Stocks.{stocked, zeroed_further}
use Rattle.heap_laws.proofs.Allocation.Laws.{zeroes_words}
use Rattle.gc_worker.specs.Steps.Goes.{Is, Goes, StepsSo}
use Rattle.gc_worker.specs.Workers.Fits.{LeavesShortRun}
use Rattle.gc_worker.specs.Workers.Held.{Held}
use Rattle.gc_worker.specs.Workers.Knows.{knows, zeroed_to}
use Rattle.gc_worker.specs.Steps.Turned.{Told, Silent, turned_place, told_place}
use Rattle.gc_worker.proofs.Stages.Gate.GateWords.{wants}
use Rattle.gc_worker.proofs.Stages.Place.Claiming.{placing, at, replace, now}
use Rattle.gc_worker.proofs.Stages.Place.Marking.{readied_comes, readied_silent, readied_going, readied_rest, readied_known, readied_fits}
use Rattle.gc_worker.proofs.Words.RowSteps.{Law, becomes, stores, row_fits, prepared}

module _ (c : Configuration) (p : Plain) (s : Stands c p) (k : ℕ) (y : Held) (run : Run) (header : Header) (new : NewPages) where
  abbrev asked : ℕ
  asked = pages_for (size_of header)

  abbrev words : ℕ
  words = words_for header

  abbrev here : PlaceStage → Held
  here stage = at c p s k y run header stage

  -- ---- the words

  module _ (is : Is c k (here (StoresZero new))) where
    abbrev x : Held
    x = here (StoresZero new)

    abbrev stock : Stock
    stock = zeroed_to (placing c p s k y run header (StoresZero new)) new

    law : Law c p s k x (Some (WordIs new.next 0)) (stocked (knows x) (zeroed_further stock)) s.ghost
    law =
        subst (λ (v : Known). Law c p s k x (Some (WordIs new.next 0)) (stocked v (zeroed_further stock)) s.ghost) is.as_known
        (zeroes_words (era c) (memory c) (team c) s.ghost k stock (prepared c p s k x is) (record { runs = rw is.as_known refl; has = rw is.as_known refl }) is.fits.stage.sound.stage.2)

    -- the pages begin at a page's first word
    aligned : new.first % 64 ≡ 0
    aligned =
        let e = now c p s k y run header (StoresZero new) is in
        (s.invariant.stocks.stocked k is.below stock (rw is.as_known refl) e).aligned.1

    abbrev pages : NewPages
    pages = record { first = new.first; next = page_of new.first }

    abbrev next : Bool → PlaceStage
    next b = cond b (StoresZero (record { first = new.first; next = new.next + 1 })) (readies y.snap pages)

    fits : (b : Bool) → nat_lt (new.next + 1) (new.first + words) ≡ b → FitsPlaceStage y.layout.pages asked y.snap run header (next b)
    fits true test = let l = ltb-true (new.next + 1) (new.first + words) test in let f = is.fits.stage.sound.stage in (f.0, omega (arith, f), l)
    fits false test = let f = is.fits.stage.sound.stage in readied_fits c p s k y run header pages (f.0, omega arith, omega arith)

    stock_then : (b : Bool) → nat_lt (new.next + 1) (new.first + words) ≡ b → stocked (knows x) (zeroed_further stock) ≡ knows (here (next b))
    stock_then true test = refl
    stock_then false test =
        let l = ltb-false (new.next + 1) (new.first + words) test in let f = is.fits.stage.sound.stage in
        let all : new.next + 1 ≡ new.first + words = omega (arith, l, f) in
        let whole : new.first ≡ first_word (page_of new.first) = omega (arith, aligned) in
        (λ i. record (knows (here (StoresNew pages))) { stock = Some (record { epoch = y.epoch; at = new.first; end = new.first + words; zeroed = all i; opened = whole i; ahead = [] }) })
        ∙ sym (readied_known c p s k y run header pages)

    abbrev by : PlaceStage → Held
    by stage = turned_place x (placing c p s k y run header stage) (told (placing c p s k y run header stage))

    abbrev tells : PlaceStage → Told
    tells stage = told_place x (told (placing c p s k y run header stage))

    comes : (b : Bool) → by (next b) ≡ here (next b)
    comes true = refl
    comes false = readied_comes c p s k y run header pages (StoresZero new)

    going : (b : Bool) → IsPlacingGoing (next b)
    going true = tt
    going false = readied_going c p s k y run header pages

    rest : (b : Bool) → LeavesShortRun run header (next b)
    rest true = tt
    rest false = readied_rest c p s k y run header pages

    silent : (b : Bool) → tells (next b) ≡ Silent
    silent true = refl
    silent false = readied_silent c p s k y run header pages (StoresZero new)

    goes : (b : Bool) → nat_lt (new.next + 1) (new.first + words) ≡ b → Goes c p s k (Some (WordIs new.next 0)) x Done
    goes b test =
        becomes c p s k x (Some (WordIs new.next 0)) Done (here (next b)) s.ghost (ap (λ (t : Bool). by (next t)) test ∙ comes b) is.below
        (subst (λ (v : Known). Law c p s k x (Some (WordIs new.next 0)) v s.ghost) (stock_then b test) law) (ap (λ (t : Bool). tells (next t)) test ∙ silent b) refl
        (record { pages = is.fits.stage.sound.pages; run = is.fits.stage.sound.run; fields = is.fits.stage.sound.fields; cell = is.fits.stage.sound.cell; epoch = is.fits.stage.sound.epoch; snap = is.fits.stage.sound.snap; room = is.fits.stage.sound.room; stage = subst (FitsPlaceStage y.layout.pages asked y.snap run header) (ap next (sym test)) (fits b test) })
        (replace c p s k y run header (StoresZero new) (next b) is (going b) (rest b) (fits b test))

    pub stores_zero : StepsSo c p s k x
    stores_zero =
        wants c p s k x (Store (place_of c.pages (HeapWord new.next)) 0) (ap (λ n. Some (Store (place_of n (HeapWord new.next)) 0)) is.fits.pages)
        (stores c p s k x (WordIs new.next 0) (row_fits c p s k x (WordIs new.next 0) (stocked (knows x) (zeroed_further stock)) s.ghost is.below law)
        (goes (nat_lt (new.next + 1) (new.first + words)) refl))
