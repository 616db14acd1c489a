-- A round chooses a page: the board, or a full one.
use Rattle.std.proofs.Common.{◌≡◌, ◌≢◌, ℕ, ◌+◌, ◌*◌, ◌/◌, ◌≤◌, ◌⊎◌, inl, inr, Bool, true, false, cond, nat_eq, Option, Some, None, refl, sym, ap, subst, ◌∙◌, arith}
use Rattle.std.proofs.lemmas.Bool.{cases_eq}
use Rattle.std.proofs.lemmas.Bool.Decides.{nat_tests}
use Rattle.plain_state.specs.State.{Plain}
use Rattle.atom_store.specs.declared.reply.Reply.TheVariants.{Value}
use Rattle.space_map.specs.declared.area_word.AreaWord.{AreaWord}
use Rattle.space_map.specs.declared.page_word.PageWord.{PageWord}
use Rattle.space_map.specs.PageWord.{decode_page}
use Rattle.space_map.specs.Spaces.{IsPageCount, board_page, to_space, space_start}
use Rattle.space_map.specs.Table.{Area, Page}
use Rattle.space_map.proofs.PageWords.{PageFits-decode_page}
use Rattle.fault_duty.specs.declared.findings.Findings.{Findings}
use Rattle.fault_duty.specs.declared.choice.Choice.{Choice}
use Rattle.fault_duty.specs.declared.page_state.PageState.{PageState}
use Rattle.fault_duty.specs.declared.page_state.PageState.TheVariants.{Opened, Scanned, Waits, Past}
use Rattle.fault_duty.specs.declared.duty_stage.DutyStage.{DutyStage}
use Rattle.fault_duty.specs.declared.duty_stage.DutyStage.TheVariants.{LoadsFront, LoadsPage, EndGate}
use Rattle.fault_duty.specs.Duty as duty
use Rattle.fault_duty.specs.Duty.{Round}
use Rattle.fault_duty.specs.Soundness as duty_sound
use Rattle.fault_duty.specs.Soundness.{FitsFront, IsChoice, PageInScan}
use Rattle.fault_duty.proofs.RoundMeasure.{to_start-le, to_start-to_page}
use Rattle.fault_duty.proofs.RoundEnds.{says_state}
use Rattle.heap_state.specs.Configuration.{Configuration, Stands, table, era, memory, team}
use Rattle.heap_state.specs.Known.{Known}
use Rattle.heap_state.specs.Known as workers
use Rattle.heap_laws.specs.Composing.{IsAtMost}
use Rattle.heap_laws.specs.Scanning.Claims.{MayClaim}
use Rattle.heap_laws.specs.Tracing.{IsFrontFor, in_round}
use Rattle.heap_laws.proofs.Steps.Answers.{areas_are_read}
use Rattle.heap_laws.proofs.Steps.Forgotten.{round_fronts_are_forgotten}
use Rattle.heap_laws.proofs.Tracing.TracingLoads.{reads_front}
use Rattle.gc_worker.specs.declared.stage.back.Back.{Back}
use Rattle.gc_worker.specs.Steps.Goes.{Is, Goes, StepsSo}
use Rattle.gc_worker.specs.Workers.Held.{Held}
use Rattle.gc_worker.specs.Workers.Knows.{knows}
use Rattle.gc_worker.proofs.Words.Areas.{area_now, area_says, is_space}
use Rattle.gc_worker.proofs.Stages.Rounds.Claiming.{begins, earlier_now, start_now, board_now}
use Rattle.gc_worker.proofs.Stages.Rounds.NextRoundStage.{round, at, goes_on, ends, loads_it, same_pages}
use Rattle.gc_worker.proofs.Stages.Rounds.RoundWords.{page_now, page_says}
use Rattle.gc_worker.proofs.Words.RowSteps.{Law, nothing, less, prepared}

full_le : (front page : ℕ) → duty.is_full front page ≡ true → 64 * (page + 1) ≤ front
full_le front page full = grind (arith, nat_tests)

-- ---- the next page

-- after a page of the choice comes one, if it is full
after_by : (d : Round) (front page : ℕ) (b : Bool) → nat_eq page (board_page d.layout.pages) ≡ b → IsChoice d front page → duty.to_page d ≤ duty.page_after d page
after_by d front page true test choice = let e : duty.page_after d page ≡ duty.to_page d = rw test refl in omega (arith, e)
after_by d front page false test choice =
    let other : page ≢ board_page d.layout.pages = grind (arith, nat_tests) in
    let e : duty.page_after d page ≡ page + 1 = rw test refl in
    let l = choice.in_space other in
    omega (arith, e, l)

pub next_choice : (d : Round) (front page : ℕ) → IsPageCount d.layout.pages → IsChoice d front page → duty.is_full front (duty.page_after d page) ≡ true
    → IsChoice d front (duty.page_after d page)
next_choice d front page few choice full =
    let below = full_le front (duty.page_after d page) full in
    let start = to_start-le d in
    let high = choice.at.high in
    record {
      at = choice.at;
      in_table = omega arith;
      in_space = λ _. after_by d front page (nat_eq page (board_page d.layout.pages)) refl choice;
      full = λ _. below;
    }

-- the same choice, at another stage
pub at_another : (d : Round) (stage : DutyStage) (front page : ℕ) → IsChoice d front page → IsChoice (record d { stage = stage }) front page
at_another d stage front page choice = record {
  at = record { low = choice.at.low; high = choice.at.high };
  in_table = choice.in_table;
  in_space = choice.in_space;
  full = choice.full;
}

module _ (c : Configuration) (p : Plain) (s : Stands c p) (k : ℕ) (y : Held) (d : Round) (back : Back) where
  -- ---- FRONT

  module _ (stage : DutyStage) (is : Is c k (at c p s k y d back stage)) (own : (knows (at c p s k y d back stage)).epoch ≡ d.epoch) where
    abbrev space : ℕ
    space = to_space d.epoch

    abbrev pub area : AreaWord
    area = (table c).area space

    of_worker : ((team c).worker k).epoch ≡ d.epoch
    of_worker = ap (λ (v : Known). v.epoch) is.as_known ∙ own

    -- FRONT as the round reads it is the one that its worker may read
    pub front_for : IsFrontFor (era c) (memory c) ((team c).worker k) (duty.front_of d area)
    front_for =
        let n = same_pages c p s k y d back stage is in
        subst (λ m. IsFrontFor (era c) (memory c) ((team c).worker k) (space_start m space + area.front)) (sym n)
        (subst (λ v. IsFrontFor (era c) (memory c) ((team c).worker k) (space_start c.pages (to_space v) + ((table c).area (to_space v)).front)) of_worker
        ((areas_are_read c p s).front k is.below))

    -- and it is in the space or at its end
    pub fits_front : (next : DutyStage) → FitsFront (record d { stage = next }) (duty.front_of d area)
    fits_front next =
        let order = ((areas_are_read c p s).each space (is_space d.epoch)).order in
        let n = same_pages c p s k y d back stage is in
        record { low = omega arith; high = omega (arith, order, n) }

    -- a choice begins with the board
    pub first_choice : (next : DutyStage) → IsChoice (record d { stage = next }) (duty.front_of d area) (board_page d.layout.pages)
    first_choice next = record { at = fits_front next; in_table = omega arith; in_space = λ other. absurd (other refl); full = λ other. absurd (other refl) }

  module _ (found : Findings) (is : Is c k (at c p s k y d back (LoadsFront found))) where
    abbrev x : Held
    x = at c p s k y d back (LoadsFront found)

    abbrev front : ℕ
    front = duty.front_of d ((table c).area (to_space d.epoch))

    abbrev chosen : DutyStage
    chosen = LoadsPage (record { seen = found; front = front }) (board_page d.layout.pages)

    learnt : Law c p s k x None (knows (at c p s k y d back chosen)) s.ghost
    learnt =
        let r : workers.Round = record { traced = found.traced; front = None } in
        subst (λ (w : Known). Law c p s k x None (in_round w (record r { front = Some front })) s.ghost) is.as_known
        (reads_front (era c) (memory c) (team c) s.ghost k r front (prepared c p s k x is) (ap (λ (w : Known). w.round) is.as_known) (front_for (LoadsFront found) is refl))

    pub loads_front : StepsSo c p s k x
    loads_front = loads_it c p s k y d back (LoadsFront found) is (Area (to_space d.epoch)) (is_space d.epoch) refl
        (goes_on c p s k y d back (LoadsFront found) is None (Value (area_now c (to_space d.epoch))) chosen s.ghost
        (ap (λ o. round c p s k y d back (duty.found_front (round c p s k y d back (LoadsFront found)) found o)) (area_says c p s (to_space d.epoch) (is_space d.epoch)))
        refl refl (is.fits.stage.0.sound.stage, first_choice (LoadsFront found) is refl chosen) learnt)

  -- ---- a page

  module _ (choice : Choice) (page : ℕ) (is : Is c k (at c p s k y d back (LoadsPage choice page))) where
    abbrev z : Held
    z = at c p s k y d back (LoadsPage choice page)

    abbrev loaded : ℕ
    loaded = page_now c page

    abbrev says : PageWord
    says = (table c).page page

    abbrev rd : Round
    rd = round c p s k y d back (LoadsPage choice page)

    is_choice : IsChoice rd choice.front page
    is_choice = is.fits.stage.0.sound.stage.1

    found_fits : duty_sound.FitsFindings d.epoch choice.seen
    found_fits = is.fits.stage.0.sound.stage.0

    in_table : page ≤ 2 * c.pages
    in_table = let n = same_pages c p s k y d back (LoadsPage choice page) is in let i = is_choice.in_table in omega (arith, n, i)

    reads : decode_page loaded ≡ Some says
    reads = page_says c p s page in_table

    -- the page may be claimed: it is the board, or full by FRONT as it was read in this round
    may : duty.state_of says d.epoch ≡ Waits → MayClaim (era c) (memory c) (team c) k page says
    may waits = record {
      earlier = earlier_now c p s k y d back (LoadsPage choice page) is page says refl refl waits;
      full = λ now. by_board (sym (ap (λ (v : Known). v.epoch) is.as_known) ∙ now) (cases_eq page (board_page d.layout.pages));
    }
      where
        by_board : d.epoch ≡ (era c).epoch → (page ≡ board_page d.layout.pages) ⊎ (page ≢ board_page d.layout.pages)
            → (page ≡ (era c).board / 64) ⊎ (((era c).start ≤ 64 * page) × ((64 * page + 64 ≤ (memory c).front)
            ⊎ ((r : workers.Round) × (f : ℕ) × (((team c).worker k).round ≡ Some r) × (r.front ≡ Some f) × (64 * page + 64 ≤ f))))
        by_board now (inl at_board) = inl (at_board ∙ board_now c p s k y d back (LoadsPage choice page) is)
        by_board now (inr other) =
            let start = start_now c p s k y d back (LoadsPage choice page) is now in
            let to = to_start-to_page rd in
            let low = is_choice.in_space other in
            let full = is_choice.full other in
            inr (
              omega (arith, start, to, low),
              inr (record { traced = choice.seen.traced; front = Some choice.front }, choice.front, ap (λ (v : Known). v.round) is.as_known, refl, omega (arith, full)),
            )

    -- what it has found after this page: whether this one forbids to end the tracing
    module _ (now : Findings) (same : now.traced ≡ choice.seen.traced) (fits : duty_sound.FitsFindings d.epoch now) where
      abbrev then : Choice
      then = record { seen = now; front = choice.front }

      same_round : knows z ≡ knows (at c p s k y d back (LoadsPage then (duty.page_after rd page)))
      same_round = λ i. record (knows z) { round = Some (record { traced = sym same i; front = Some choice.front }) }

      forgets : Law c p s k z None (knows (at c p s k y d back (EndGate now.traced))) s.ghost
      forgets =
          less c p s k z is (knows (at c p s k y d back (EndGate now.traced)))
          (subst (λ t. IsAtMost (record (knows z) { round = Some (record { traced = t; front = None }) }) (knows z)) (sym same)
          (round_fronts_are_forgotten (knows z) (record { traced = choice.seen.traced; front = Some choice.front }) refl))

      after_by_hindrance : (o : Option ℕ) → duty.taken_at rd (LoadsPage choice page) (Value loaded) ≡ round c p s k y d back (duty.after_choice now o)
          → Goes c p s k None z (Value loaded)
      after_by_hindrance (Some word) taken = ends c p s k y d back (LoadsPage choice page) is (Value loaded) word taken refl refl refl
      after_by_hindrance None taken =
          goes_on c p s k y d back (LoadsPage choice page) is None (Value loaded) (EndGate now.traced) s.ghost taken refl refl fits.untraced forgets

      passed_by : (b : Bool) → duty.is_full choice.front (duty.page_after rd page) ≡ b
          → duty.taken_at rd (LoadsPage choice page) (Value loaded)
          ≡ round c p s k y d back (cond b (LoadsPage then (duty.page_after rd page)) (duty.after_choice now now.hindrance)) → Goes c p s k None z (Value loaded)
      passed_by true full taken =
          goes_on c p s k y d back (LoadsPage choice page) is None (Value loaded) (LoadsPage then (duty.page_after rd page)) s.ghost taken refl refl (
            fits,
            at_another rd (LoadsPage then (duty.page_after rd page)) choice.front (duty.page_after rd page)
                (next_choice rd choice.front page is.fits.stage.0.sound.pages is_choice full),
          )
          (nothing c p s k z is (knows (at c p s k y d back (LoadsPage then (duty.page_after rd page)))) same_round)
      passed_by false full taken = after_by_hindrance now.hindrance taken

      pub passes : duty.taken_at rd (LoadsPage choice page) (Value loaded) ≡ round c p s k y d back (duty.passed_page rd then page) → Goes c p s k None z (Value loaded)
      passes taken = passed_by (duty.is_full choice.front (duty.page_after rd page)) refl taken

    -- a page that another scans forbids to end the tracing
    scans : duty.state_of says d.epoch ≡ Scanned → duty_sound.FitsFindings d.epoch (record { traced = choice.seen.traced; hindrance = Some loaded })
    scans is_scanned =
        let it = (says_state says d.epoch).scanned is_scanned in
        record { untraced = found_fits.untraced; hindrance = PageInScan it.0 (reads ∙ ap Some it.1) }

    state_by : (state : PageState) → duty.state_of says d.epoch ≡ state
        → duty.taken_at rd (LoadsPage choice page) (Value loaded) ≡ round c p s k y d back (duty.chosen_by rd choice page loaded says state) → Goes c p s k None z (Value loaded)
    state_by Opened is_state taken = passes choice.seen refl found_fits taken
    state_by Scanned is_state taken = passes (record { traced = choice.seen.traced; hindrance = Some loaded }) refl (scans is_state) taken
    state_by Waits is_state taken =
        begins c p s k y d back (LoadsPage choice page) is page says refl refl (Value loaded) (may is_state) is_state (PageFits-decode_page loaded says reads) is_choice.in_table taken refl
    state_by Past is_state taken = ends c p s k y d back (LoadsPage choice page) is (Value loaded) loaded taken refl refl refl

    pub loads_page : StepsSo c p s k z
    loads_page = loads_it c p s k y d back (LoadsPage choice page) is (Page page) in_table refl
        (state_by (duty.state_of says d.epoch) refl (ap (λ o. round c p s k y d back (duty.looked_at_page rd choice page loaded o)) reads))
