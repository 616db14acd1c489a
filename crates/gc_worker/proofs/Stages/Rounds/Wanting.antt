-- A round looks at the page that a mutator wants.
use Rattle.std.proofs.Common.{◌≡◌, ℕ, ◌+◌, ◌*◌, ◌≤◌, ◌⊎◌, inl, inr, Bool, true, false, cond, nat_eq, Some, None, refl, sym, ap, subst, ◌∙◌, arith}
use Rattle.std.proofs.lemmas.Bool.Decides.{nat_tests}
use Rattle.std.proofs.lemmas.Bool.{eqb-true}
use Rattle.plain_state.specs.State.{Plain}
use Rattle.atom_store.specs.declared.reply.Reply.TheVariants.{Value}
use Rattle.space_map.specs.declared.area_word.AreaWord.{AreaWord}
use Rattle.space_map.specs.declared.page_word.PageWord.{PageWord}
use Rattle.space_map.specs.PageWord.{PageFits, encode_page, decode_page}
use Rattle.space_map.specs.Spaces.{Layout, board_page, first_word, to_space, space_start}
use Rattle.space_map.specs.Table.{Area, Page}
use Rattle.space_map.proofs.PageWords.{PageFits-decode_page}
use Rattle.fault_duty.specs.declared.caller.Caller.TheVariants.{Faulted}
use Rattle.fault_duty.specs.declared.findings.Findings.{Findings}
use Rattle.fault_duty.specs.declared.wanted_page.WantedPage.{WantedPage}
use Rattle.fault_duty.specs.declared.page_state.PageState.{PageState}
use Rattle.fault_duty.specs.declared.page_state.PageState.TheVariants.{Opened, Scanned, Waits, Past}
use Rattle.fault_duty.specs.declared.duty_stage.DutyStage.TheVariants.{LoadsWanted, LoadsFrontFor, LoadsFront}
use Rattle.fault_duty.specs.Duty as duty
use Rattle.fault_duty.specs.Duty.{Round}
use Rattle.fault_duty.specs.Soundness.{FitsCaller}
use Rattle.heap_state.specs.Configuration.{Configuration, Stands, table, era, memory, team}
use Rattle.heap_state.specs.Known.{Known}
use Rattle.heap_state.specs.Known as workers
use Rattle.heap_laws.specs.Scanning.Claims.{MayClaim}
use Rattle.heap_laws.proofs.Steps.Answers.{areas_are_read}
use Rattle.gc_worker.specs.declared.stage.back.Back.{Back}
use Rattle.gc_worker.specs.declared.stage.back.Back.TheVariants.{ToAccess, ToTarget}
use Rattle.gc_worker.specs.Workers.Fits.{IsCallerOf, IsEpochOf, IsFaulting}
use Rattle.gc_worker.specs.Steps.Goes.{Is, Goes, StepsSo}
use Rattle.gc_worker.specs.Workers.Held.{Held}
use Rattle.gc_worker.specs.Workers.Knows.{knows}
use Rattle.gc_worker.proofs.Words.Areas.{area_now, area_says, is_space}
use Rattle.gc_worker.proofs.Stages.Rounds.Claiming.{begins, earlier_now, start_now, board_now}
use Rattle.gc_worker.proofs.Stages.Rounds.NextRoundStage.{round, at, goes_on, ends, loads_it, same_pages}
use Rattle.gc_worker.proofs.Stages.Rounds.RoundWords.{page_now, page_says}
use Rattle.gc_worker.proofs.Words.RowSteps.{nothing}

module _ (c : Configuration) (p : Plain) (s : Stands c p) (k : ℕ) (y : Held) (d : Round) (back : Back) where
  -- ---- its word

  module _ (found : Findings) (page : ℕ) (is : Is c k (at c p s k y d back (LoadsWanted found page))) where
    abbrev x : Held
    x = at c p s k y d back (LoadsWanted found page)

    abbrev loaded : ℕ
    loaded = page_now c page

    abbrev says : PageWord
    says = (table c).page page

    inside : page ≤ board_page d.layout.pages
    inside = let own = is.fits.stage.0.sound in subst (FitsCaller d.layout.pages) own.stage.1 own.caller

    in_table : page ≤ 2 * c.pages
    in_table = let n = same_pages c p s k y d back (LoadsWanted found page) is in let i = inside in omega (arith, n, i)

    reads : decode_page loaded ≡ Some says
    reads = page_says c p s page in_table

    fits_says : PageFits says
    fits_says = PageFits-decode_page loaded says reads

    -- the board needs no look at the area
    board : page ≡ board_page d.layout.pages → duty.state_of says d.epoch ≡ Waits → MayClaim (era c) (memory c) (team c) k page says
    board at_board waits = record {
      earlier = earlier_now c p s k y d back (LoadsWanted found page) is page says refl refl waits;
      full = λ now. inl (at_board ∙ board_now c p s k y d back (LoadsWanted found page) is);
    }

    -- by whether it is the board
    one_by : (b : Bool) → nat_eq page (board_page d.layout.pages) ≡ b → (state : PageState) → duty.state_of says d.epoch ≡ state
        → duty.taken_at (round c p s k y d back (LoadsWanted found page)) (LoadsWanted found page) (Value loaded)
        ≡ round c p s k y d back (cond b (duty.claim_by_state (round c p s k y d back (LoadsWanted found page)) page says false state) (LoadsFrontFor found (record { page = page; says = says })))
        → Goes c p s k None x (Value loaded)
    one_by true test Waits waits taken =
        begins c p s k y d back (LoadsWanted found page) is page says refl refl (Value loaded) (board (eqb-true page (board_page d.layout.pages) test) waits) waits fits_says inside taken refl
    one_by false test state is_state taken =
        let own = is.fits.stage.0.sound in
        goes_on c p s k y d back (LoadsWanted found page) is None (Value loaded) (LoadsFrontFor found (record { page = page; says = says })) s.ghost taken refl refl
        (own.stage.0, own.stage.1, fits_says) (nothing c p s k x is (knows (at c p s k y d back (LoadsFrontFor found (record { page = page; says = says })))) refl)
    one_by true test _ past taken = ends c p s k y d back (LoadsWanted found page) is (Value loaded) (encode_page says) taken refl refl refl

    -- by what its word says
    state_by : (state : PageState) → duty.state_of says d.epoch ≡ state
        → duty.taken_at (round c p s k y d back (LoadsWanted found page)) (LoadsWanted found page) (Value loaded)
        ≡ round c p s k y d back (duty.wanted_by (round c p s k y d back (LoadsWanted found page)) found page loaded says state)
        → Goes c p s k None x (Value loaded)
    state_by Opened is_state taken = ends c p s k y d back (LoadsWanted found page) is (Value loaded) loaded taken refl refl refl
    state_by Scanned is_state taken = ends c p s k y d back (LoadsWanted found page) is (Value loaded) loaded taken refl refl refl
    state_by Waits is_state taken =
        one_by (nat_eq page (board_page d.layout.pages)) refl (duty.state_of says d.epoch) refl taken
    state_by Past is_state taken =
        one_by (nat_eq page (board_page d.layout.pages)) refl (duty.state_of says d.epoch) refl taken

    pub loads_wanted : StepsSo c p s k x
    loads_wanted = loads_it c p s k y d back (LoadsWanted found page) is (Page page) in_table refl
        (state_by (duty.state_of says d.epoch) refl
        (ap (λ o. round c p s k y d back (duty.looked_at_wanted (round c p s k y d back (LoadsWanted found page)) found page loaded o)) reads))

  -- ---- whether it is full

  module _ (found : Findings) (w : WantedPage) (is : Is c k (at c p s k y d back (LoadsFrontFor found w))) where
    abbrev z : Held
    z = at c p s k y d back (LoadsFrontFor found w)

    abbrev space : ℕ
    space = to_space d.epoch

    abbrev area : AreaWord
    area = (table c).area space

    within : w.page ≤ board_page d.layout.pages
    within = let own = is.fits.stage.0.sound in subst (FitsCaller d.layout.pages) own.stage.1 own.caller

    -- a page that a mutator faults on is the board, or in the space that is copied into
    in_own_epoch : IsFaulting z w.page → d.epoch ≡ y.epoch → (w.page ≡ board_page d.layout.pages) ⊎ (duty.to_start d ≤ first_word w.page)
    in_own_epoch own of_epoch =
        let n : y.layout.pages ≡ d.layout.pages = sym (ap (λ (l : Layout). l.pages) is.fits.stage.0.layout) in
        subst (λ m. (w.page ≡ board_page m) ⊎ (space_start m space ≤ first_word w.page)) n
        (subst (λ e. (w.page ≡ board_page y.layout.pages) ⊎ (space_start y.layout.pages (to_space e) ≤ first_word w.page)) (sym of_epoch) own)

    faulting : (b : Back) → IsCallerOf z b (Faulted w.page) → IsEpochOf z b d.epoch → (w.page ≡ board_page d.layout.pages) ⊎ (duty.to_start d ≤ first_word w.page)
    faulting (ToAccess a) own of_epoch = in_own_epoch own of_epoch
    faulting (ToTarget a) own of_epoch = in_own_epoch own of_epoch
    faulting _ own of_epoch = absurd own

    served : (w.page ≡ board_page d.layout.pages) ⊎ (duty.to_start d ≤ first_word w.page)
    served = let round_fits = is.fits.stage.0 in
        faulting back (subst (IsCallerOf z back) round_fits.sound.stage.1 round_fits.caller) round_fits.epoch

    -- FRONT as the round reads it is the heap's
    front_now : d.epoch ≡ (era c).epoch → duty.front_of d area ≡ (memory c).front
    front_now now =
        let read = (areas_are_read c p s).front k is.below in
        let e : ((team c).worker k).epoch ≡ d.epoch = ap (λ (v : Known). v.epoch) is.as_known in
        let n = same_pages c p s k y d back (LoadsFrontFor found w) is in
        let here : space_start c.pages (to_space ((team c).worker k).epoch) + ((table c).area (to_space ((team c).worker k).epoch)).front ≡ (memory c).front = read.now (e ∙ now) in
        subst (λ m. space_start m space + area.front ≡ (memory c).front) (sym n)
        (subst (λ v. space_start c.pages (to_space v) + ((table c).area (to_space v)).front ≡ (memory c).front) e here)

    may : duty.is_full (duty.front_of d area) w.page ≡ true → duty.state_of w.says d.epoch ≡ Waits → MayClaim (era c) (memory c) (team c) k w.page w.says
    may full waits = record {
      earlier = earlier_now c p s k y d back (LoadsFrontFor found w) is w.page w.says refl refl waits;
      full = λ now. elim served [
        | inl at_board ↦ inl (at_board ∙ board_now c p s k y d back (LoadsFrontFor found w) is)
        | inr in_space ↦ inr (full_now (sym (ap (λ (v : Known). v.epoch) is.as_known) ∙ now) in_space)
      ];
    }
      where
        full_now : d.epoch ≡ (era c).epoch → duty.to_start d ≤ first_word w.page
            → ((era c).start ≤ 64 * w.page) × ((64 * w.page + 64 ≤ (memory c).front) ⊎ ((r : workers.Round) × (f : ℕ) × (((team c).worker k).round ≡ Some r) × (r.front ≡ Some f) × (64 * w.page + 64 ≤ f)))
        full_now now in_space =
            let start = start_now c p s k y d back (LoadsFrontFor found w) is now in
            let front = front_now now in
            let below : first_word (w.page + 1) ≤ duty.front_of d area = grind (arith, nat_tests) in
            (omega (arith, start, in_space), inl (omega (arith, front, below)))

    claimed_by : (state : PageState) → duty.state_of w.says d.epoch ≡ state → duty.is_full (duty.front_of d area) w.page ≡ true
        → duty.taken_at (round c p s k y d back (LoadsFrontFor found w)) (LoadsFrontFor found w) (Value (area_now c space))
        ≡ round c p s k y d back (duty.claim_by_state (round c p s k y d back (LoadsFrontFor found w)) w.page w.says false state) → Goes c p s k None z (Value (area_now c space))
    claimed_by Waits waits full taken =
        begins c p s k y d back (LoadsFrontFor found w) is w.page w.says refl refl (Value (area_now c space)) (may full waits) waits is.fits.stage.0.sound.stage.2 within taken refl
    claimed_by _ past full taken = ends c p s k y d back (LoadsFrontFor found w) is (Value (area_now c space)) (encode_page w.says) taken refl refl refl

    full_by : (b : Bool) → duty.is_full (duty.front_of d area) w.page ≡ b
        → duty.taken_at (round c p s k y d back (LoadsFrontFor found w)) (LoadsFrontFor found w) (Value (area_now c space))
        ≡ round c p s k y d back (cond b (duty.claim_by_state (round c p s k y d back (LoadsFrontFor found w)) w.page w.says false (duty.state_of w.says d.epoch)) (LoadsFront found))
        → Goes c p s k None z (Value (area_now c space))
    full_by true full taken = claimed_by (duty.state_of w.says d.epoch) refl full taken
    full_by false full taken =
        goes_on c p s k y d back (LoadsFrontFor found w) is None (Value (area_now c space)) (LoadsFront found) s.ghost taken refl refl is.fits.stage.0.sound.stage.0
        (nothing c p s k z is (knows (at c p s k y d back (LoadsFront found))) refl)

    pub loads_front_for : StepsSo c p s k z
    loads_front_for = loads_it c p s k y d back (LoadsFrontFor found w) is (Area space) (is_space d.epoch) refl
        (full_by (duty.is_full (duty.front_of d area) w.page) refl
        (ap (λ o. round c p s k y d back (duty.found_front_for (round c p s k y d back (LoadsFrontFor found w)) found w o)) (area_says c p s space (is_space d.epoch))))
