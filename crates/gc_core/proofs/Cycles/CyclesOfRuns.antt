-- What cycles keep in every run, from its history.
use Rattle.std.proofs.Common.{◌≡◌, ℕ, ◌+◌, ◌*◌, ◌≤◌, true, false, List, [], ◌++◌, length, Some, refl, sym, subst, arith}
use Rattle.std.specs.Prelude.{IsTrue}
use Rattle.plain_state.specs.declared.end.End.TheVariants as ends
use Rattle.plain_state.specs.declared.sizes.TheConstants.{PAGE_WORDS}
use Rattle.space_map.specs.declared.spaces.TheConstants.{MOST_MUTATORS, MOST_SCANNERS}
use Rattle.mutator_asm.specs.declared.instr.Instr.{Instr}
use Rattle.mutator_asm.specs.declared.item.Item.{Item}
use Rattle.mutator_asm.specs.Program.{IsWellFormed}
use Rattle.plain_heap.specs.declared.mark.Mark.{Mark}
use Rattle.plain_heap.specs.declared.mark.Mark.TheVariants.{Full}
use Rattle.plain_heap.specs.Order.{Story, first_story, opening, story}
use Rattle.gc_worker.specs.declared.config.Config.{Config}
use Rattle.gc_worker.specs.declared.calls.entry.Entry.{Entry}
use Rattle.gc_worker.specs.declared.steps.stepped.Stepped.{Stepped}
use Rattle.gc_worker.specs.declared.steps.stepped.Stepped.TheVariants.{Ended}
use Rattle.gc_worker.specs.History.Needs.{EachFullIs, EachMayCome, being_made, made_since}
use Rattle.gc_worker.specs.History.Order.{order_of}
use Rattle.gc_worker.specs.History.Tally.{aside_in, tally}
use Rattle.gc_worker.specs.Laws.Stories.{StoryStands}
use Rattle.gc_worker.specs.Plain.Marks.{EachActs, mark_of}
use Rattle.gc_worker.proofs.Between.Pages.Copied.{copied_was_live}
use Rattle.gc_worker.proofs.Between.OpenedHeap.{heaps_open}
use Rattle.gc_worker.proofs.History.Lone.{flip_before, lone_is_never_full}
use Rattle.gc_worker.proofs.History.Needs.{large_is_never_full}
use Rattle.gc_worker.proofs.History.Counted.OpeningTallies.{in_use, in_use_at, low, opening_tallied}
use Rattle.gc_worker.proofs.Plain.CellTargets.LostCells.{lost_cells_are_empty}
use Rattle.gc_worker.proofs.Words.Areas.{is_space}
use Rattle.gc_worker.proofs.Words.GrownSizes.{size_within}
use Rattle.gc_worker.specs.Laws.Claims.{epoch_of_heap}
use Rattle.gc_worker.specs.Laws.Step.{read}
use Rattle.space_map.specs.Spaces.{to_space}
use Rattle.gc_core.specs.Core.{CoreState, has_sizes, layout_by, opening_core, size_in}
use Rattle.gc_core.specs.Cycles.{CyclesEmptyLostCells, CyclesKeepWhatIsLive, FullHeapsAreFilled, InstructionsFlipOnce, SizesAreBetween, FillsTheSpace, HasGrown, HasSizesWithin, claims_next, claims_of, flips_next, story_of}
use Rattle.gc_core.specs.Event.{core_after, event_of}
use Rattle.gc_core.specs.Law.{IsLawful, IsSteady, IsTold}
use Rattle.gc_core.specs.Needs.{ClaimsAreForRecords, ClaimsAreMadeOrSetAside, LargeHeapsAreNeverFull, LoneFullsFollowTheirFlips, LoneHeapsAreNeverFull, OrdersAreFilledByClaims, OrdersFillTheSpace}
use Rattle.gc_core.specs.Run.{run_of, Ran}
use Rattle.gc_core.specs.Whole.{FullsFollowFlips}
use Rattle.gc_core.proofs.Events.OpenedCore.{limit_fits, opening_steady, opening_story, sizes_fit}
use Rattle.gc_core.proofs.Cycles.Filling.{HasClaimed, event_fills, full_has_grown, full_is_filled}
use Rattle.gc_core.proofs.Cycles.Flips.{FlippedOnce, event_once}
use Rattle.gc_core.proofs.Cycles.Aside.{claims_for_records}
use Rattle.gc_core.proofs.Cycles.Kept.{keeps_what_is_live}
use Rattle.gc_core.proofs.Cycles.SizesByEvents.{HasAtLeast, event_at_least}
use Rattle.gc_core.proofs.Runs.History.{HasHistory, adds, event_history, first, history_fills, history_made, holds_after, log_from, log_order}
use Rattle.gc_core.proofs.Runs.Stories.{IsRunOf, run_acts, run_law}
use Rattle.gc_core.proofs.Runs.EventByEvent.{mark_is_reached}
use Rattle.gc_core.proofs.EventLaws.{events_keep}

module _ (code : List (List Instr)) (items : List Item) (turns : ℕ) (config : Config) (schedule : ℕ → ℕ) (n : ℕ)
    (program : IsWellFormed code items) (size : IsTrue (has_sizes config)) (turns_fit : turns ≤ 10000000) (few : config.scanners ≤ 8) where
  abbrev s : CoreState
  s = opening_core code turns config

  abbrev r : Ran
  r = run_of code turns config schedule n

  abbrev now : Story
  now = story_of code turns config schedule n

  abbrev log : List Entry
  log = log_from schedule 0 n s []

  steady : IsSteady s
  steady = opening_steady heaps_open code items turns config program size turns_fit few

  stands : StoryStands s.heap (first_story code).now (first_story code).flip
  stands = opening_story heaps_open code items turns config program size turns_fit few

  law : IsRunOf events_keep s (first_story code) r
  law = run_law events_keep schedule 0 n s (first_story code) steady stands

  acts : EachActs code turns (first_story code) r.order
  acts = run_acts events_keep schedule 0 n s (first_story code) steady stands

  -- ---- its history

  fits : length code + config.scanners ≤ MOST_MUTATORS + MOST_SCANNERS
  fits = let most = program.few_sections in omega (arith, most, few)

  begins : HasHistory config.pages s []
  begins = record {
    steady = steady;
    stands = stands;
    tallied = (let at = sizes_fit config size in opening_tallied true (layout_by config) config.pages (length code) config.scanners (limit_fits config size) at.0 at.1 program.few_sections fits (opening code));
    legal = tt;
    fetched = λ m. tt;
  }

  fills : HasClaimed config.limit s 0
  fills =
      let at = sizes_fit config size in
      let l = low true (layout_by config) config.pages (length code) config.scanners (limit_fits config size) at.0 at.1 program.few_sections fits in
      let u = in_use true (layout_by config) config.pages (length code) config.scanners (limit_fits config size) at.0 at.1 program.few_sections fits in
      record { limit_is = refl; low = omega (arith, l, u) }

  sized : HasAtLeast config.pages s
  sized space small =
      let at = sizes_fit config size in
      let same = in_use_at true (layout_by config) config.pages (length code) config.scanners (limit_fits config size) at.0 at.1 program.few_sections fits space small in
      omega (arith, same)

  -- a core of this program, its history, the words that were claimed since the last flip, and its sizes
  abbrev Has : CoreState → List Entry → (claims : ℕ) → Type 0
  Has t log claims = (t.code ≡ code) × (t.turns ≡ turns) × HasHistory config.pages t log × HasClaimed config.limit t claims × HasAtLeast config.pages t

  lawful : (t : CoreState) (log : List Entry) → HasHistory config.pages t log → IsLawful t
  lawful t log h = record { steady = h.steady; plain = (tally (first t) log).now; flip = (tally (first t) log).flip; stands = h.stands.stands }

  has_then : (t : CoreState) (w : ℕ) (log : List Entry) (claims : ℕ) → Has t log claims → Has (core_after t w) (log ++ adds t log w) (claims_next t w claims)
  has_then t w log claims has = (has.0, has.1, event_history config.pages t w log has.2, event_fills config.pages config.limit t w log claims has.2 has.3, event_at_least t w (lawful t log has.2) config.pages has.4)

  has_last : Has r.last log (claims_of code turns config schedule n)
  has_last = holds_after claims_next Has has_then schedule 0 n s [] 0 (refl, refl, begins, fills, sized)

  -- each full heap of it is so
  abbrev Fulls : List Mark → Type 0
  Fulls order = EachFullIs config.limit config.pages code turns (first_story code) 0 0 order × EachMayCome (λ j. false) 0 order

  fulls : (t : CoreState) (log : List Entry) (claims : ℕ) → Has t log claims → Fulls (order_of log)
  fulls t log claims has =
      let all = history_fills config.pages t log has.2 in
      (subst (λ (z : ℕ × (List (List Instr) × ℕ)). EachFullIs z.0 config.pages z.1.0 z.1.1 (first_story z.1.0) 0 0 (order_of log)) (λ i. (has.3.limit_is i, (has.0 i, has.1 i))) all.0, all.1)

  fulls_last : Fulls r.order
  fulls_last = subst Fulls (log_order schedule 0 n s []) (fulls r.last log (claims_of code turns config schedule n) has_last)

  -- ---- what was claimed for records

  made : (tally (first r.last) log).made ≤ made_since code turns r.order
  made = subst (λ (z : List (List Instr) × (ℕ × List Mark)). (tally (first r.last) log).made ≤ made_since z.0 z.1.0 z.1.1) (λ i. (has_last.0 i, (has_last.1 i, log_order schedule 0 n s [] i)))
      (history_made config.pages r.last log has_last.2)

  made_or_aside : claims_of code turns config schedule n ≤ PAGE_WORDS * made_since code turns r.order + aside_in r.last.heap
  made_or_aside =
      let counts = has_last.2.tallied.counts in
      let low = counts.low in
      let few = counts.for_records in
      let same = has_last.3.low in
      let size = counts.size in
      let made = made in
      omega (arith, low, few, same, size, made)

  -- ---- the pages in use

  between : (config.pages ≤ size_in r.last) × (size_in r.last ≤ config.limit) × HasSizesWithin config.pages config.limit r.last
  between =
      let limit = has_last.3.limit_is in
      let within : HasSizesWithin config.pages config.limit r.last = λ space small.
      (has_last.4 space small, (let most = (size_within (read r.last.heap) _ law.stands.stands.stands space small).1 in omega (arith, most, limit))) in
      let here = within (to_space (epoch_of_heap r.last.heap)) (is_space (epoch_of_heap r.last.heap)) in
      (here.0, here.1, within)

  -- ---- a full heap at its end

  module _ (w m asked room live : ℕ) (told : (event_of r.last w).told ≡ Ended m (ends.HeapFull asked room live)) where
    told_so : IsTold r.last w now (event_of r.last w).after (Ended m (ends.HeapFull asked room live))
    told_so = subst (IsTold r.last w now (event_of r.last w).after) told (events_keep r.last w now law.steady law.stands).told

    grown : HasGrown config.limit r.last
    grown = full_has_grown config.limit r.last m now.now now.flip (claims_of code turns config schedule n) asked room live law.stands.stands has_last.3 told_so.3.1

    filled : FillsTheSpace (size_in r.last) now.flip (claims_of code turns config schedule n) asked room live
    filled = full_is_filled config.limit r.last m now.now now.flip (claims_of code turns config schedule n) asked room live law.stands.stands has_last.3 told_so.3.1

    for_records : claims_of code turns config schedule n ≤ PAGE_WORDS * (made_since code turns r.order + being_made code turns now.now m)
    for_records =
        let few = claims_for_records config.pages config.limit r.last w log has_last.2 (claims_of code turns config schedule n) has_last.3 m (ends.HeapFull asked room live) told in
        subst (λ (z : (List (List Instr) × ℕ) × (List Mark × ℕ)).
        claims_of code turns config schedule n ≤ PAGE_WORDS * (made_since z.0.0 z.0.1 z.1.0 + being_made z.0.0 z.0.1 (story z.0.0 z.0.1 z.1.0).now z.1.1))
        (λ i. ((has_last.0 i, has_last.1 i), (log_order schedule 0 n s [] i, sym told_so.0 i))) few

-- a mark of a full heap is of an event that tells it
told_full : (told : Stepped) (m asked room live : ℕ) → mark_of told ≡ Some (Full m asked room live) → told ≡ Ended m (ends.HeapFull asked room live)
told_full (Ended _ ends.Halt) m asked room live e = cc
told_full _ m asked room live e = cc

pub cycles_keep_what_is_live : CyclesKeepWhatIsLive
cycles_keep_what_is_live code items turns config schedule n program size turns_fit few =
    let law = law code items turns config schedule n program size turns_fit few in
    let now : Story = story_of code turns config schedule n in
    keeps_what_is_live copied_was_live (run_of code turns config schedule n).last now.now now.flip law.stands.stands

pub cycles_empty_lost_cells : CyclesEmptyLostCells
cycles_empty_lost_cells code items turns config schedule n program size turns_fit few =
    let law = law code items turns config schedule n program size turns_fit few in
    let now : Story = story_of code turns config schedule n in
    lost_cells_are_empty (run_of code turns config schedule n).last.heap now.now now.flip law.stands

pub sizes_are_between : SizesAreBetween
sizes_are_between code items turns config schedule n program size turns_fit few = between code items turns config schedule n program size turns_fit few

pub full_heaps_are_filled : FullHeapsAreFilled
full_heaps_are_filled code items turns config schedule n program size turns_fit few w m asked room live told =
    (grown code items turns config schedule n program size turns_fit few w m asked room live told, filled code items turns config schedule n program size turns_fit few w m asked room live told)

pub claims_are_for_records : ClaimsAreForRecords
claims_are_for_records code items turns config schedule n program size turns_fit few w m asked room live told = for_records code items turns config schedule n program size turns_fit few w m asked room live told

pub claims_are_made_or_set_aside : ClaimsAreMadeOrSetAside
claims_are_made_or_set_aside code items turns config schedule n program size turns_fit few = made_or_aside code items turns config schedule n program size turns_fit few

pub orders_are_filled_by_claims : OrdersAreFilledByClaims
orders_are_filled_by_claims code items turns config schedule n program size turns_fit few front rest m asked room live is =
    let at = mark_is_reached schedule 0 n (opening_core code turns config) front rest (Full m asked room live) is in
    let place : 0 + at.steps ≡ at.steps = omega arith in
    let told = told_full (event_of (run_of code turns config schedule at.steps).last (schedule at.steps)).told m asked room live
    (subst (λ (k : ℕ). mark_of (event_of (run_of code turns config schedule at.steps).last (schedule k)).told ≡ Some (Full m asked room live)) place at.mark_is) in
    record {
      steps = at.steps;
      within = at.within;
      reached = at.front_is;
      told = told;
      grown = grown code items turns config schedule at.steps program size turns_fit few (schedule at.steps) m asked room live told;
      fills = subst (λ (marks : List Mark). FillsTheSpace (size_in (run_of code turns config schedule at.steps).last) (story code turns marks).flip (claims_of code turns config schedule at.steps) asked room live) at.front_is
          (filled code items turns config schedule at.steps program size turns_fit few (schedule at.steps) m asked room live told);
      for_records = subst (λ (marks : List Mark). claims_of code turns config schedule at.steps ≤ PAGE_WORDS * made_since code turns marks + aside_in (run_of code turns config schedule at.steps).last.heap) at.front_is
          (made_or_aside code items turns config schedule at.steps program size turns_fit few);
    }

pub instructions_flip_once : InstructionsFlipOnce
instructions_flip_once code items turns config schedule n program size turns_fit few m =
    let flips = holds_after (flips_next m) (λ t log flips. HasHistory config.pages t log × FlippedOnce m (tally (first t) log) flips)
    (λ t w log flips has. (event_history config.pages t w log has.0, event_once m config.pages t w log flips has.0 has.1))
    schedule 0 n (opening_core code turns config) [] 0 (begins code items turns config schedule n program size turns_fit few, (omega arith, λ some. absurd (omega (arith, some)))) in
    flips.1.0

pub fulls_follow_flips : FullsFollowFlips
fulls_follow_flips code items turns config schedule n program size turns_fit few = (fulls_last code items turns config schedule n program size turns_fit few).1

pub orders_fill_the_space : OrdersFillTheSpace
orders_fill_the_space code items turns config schedule n program size turns_fit few = (fulls_last code items turns config schedule n program size turns_fit few).0

pub large_heaps_are_never_full : LargeHeapsAreNeverFull
large_heaps_are_never_full code items turns config schedule n program size turns_fit few =
    let all = fulls_last code items turns config schedule n program size turns_fit few in
    large_is_never_full config.limit config.pages code turns (run_of code turns config schedule n).order all.0 all.1

pub lone_fulls_follow_their_flips : LoneFullsFollowTheirFlips
lone_fulls_follow_their_flips code items turns config schedule n program size turns_fit few one =
    flip_before config.limit config.pages code turns one (run_of code turns config schedule n).order (acts code items turns config schedule n program size turns_fit few) (fulls_last code items turns config schedule n program size turns_fit few).1

pub lone_heaps_are_never_full : LoneHeapsAreNeverFull
lone_heaps_are_never_full code items turns config schedule n program size turns_fit few one flips enough =
    let all = fulls_last code items turns config schedule n program size turns_fit few in
    lone_is_never_full config.limit config.pages code turns one (run_of code turns config schedule n).order (acts code items turns config schedule n program size turns_fit few) all.1 all.0 flips enough
