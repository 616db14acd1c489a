-- The looks of a round before and in the choice of a page: none finds that there is nothing to do.
use Rattle.std.proofs.Common.{◌≡◌, ◌≢◌, ℕ, ◌+◌, ◌*◌, ◌<◌, ◌≤◌, ◌⊎◌, inl, inr, Bool, true, false, cond, nat_eq, Some, None, refl, ap, ◌∙◌, arith}
use Rattle.std.specs.Prelude.{is_some}
use Rattle.std.proofs.lemmas.Bool.{eq-eqb, ne_eqb, cases_eq}
use Rattle.std.proofs.lemmas.Bool.Decides.{nat_tests}
use Rattle.atom_store.specs.declared.reply.Reply.TheVariants.{Value}
use Rattle.space_map.specs.declared.area_word.AreaWord.{AreaWord}
use Rattle.space_map.specs.declared.page_word.PageWord.{PageWord}
use Rattle.space_map.specs.declared.page_word.PageWord.TheVariants as page_word
use Rattle.space_map.specs.AreaWord.{decode_area}
use Rattle.space_map.specs.GateWord.{decode_gate}
use Rattle.space_map.specs.PageWord.{decode_page, age_of}
use Rattle.space_map.specs.Spaces.{board_page, first_word, page_of}
use Rattle.fault_duty.specs.declared.caller.Caller.{Caller}
use Rattle.fault_duty.specs.declared.caller.Caller.TheVariants.{Faulted, Allocates, Scans}
use Rattle.fault_duty.specs.declared.findings.Findings.{Findings}
use Rattle.fault_duty.specs.declared.wanted_page.WantedPage.{WantedPage}
use Rattle.fault_duty.specs.declared.choice.Choice.{Choice}
use Rattle.fault_duty.specs.declared.page_state.PageState.TheVariants.{Opened, Scanned, Waits}
use Rattle.fault_duty.specs.declared.duty_stage.DutyStage.{DutyStage}
use Rattle.fault_duty.specs.declared.duty_stage.DutyStage.TheVariants.{LoadsGate, LoadsTraced, LoadsWanted, LoadsFrontFor, LoadsFront, LoadsPage, EndGate}
use Rattle.fault_duty.specs.Duty
use Rattle.fault_duty.specs.Duty.{Round, at_stage, front_of, page_after, is_full}
use Rattle.fault_duty.specs.Soundness.{IsChoice}
use Rattle.fault_duty.proofs.RoundMeasure.{first_stage-le}
use Rattle.heap_state.specs.Memory.Era.{Era, Memory}
use Rattle.lone_mutator.specs.Rounds.{IsForClosed, Found, Wanted, Chosen, OpenBelow, IsQuiet}
use Rattle.lone_mutator.proofs.Stages.Rounds.LoneRounds.{RoundIsAlone, RoundGoes}

-- ---- what a page's word says

pub waits_early : (says : PageWord) (epoch : ℕ) → age_of says ≤ epoch → Duty.state_of says epoch ≡ Waits
waits_early page_word.Unset epoch early = refl
waits_early (page_word.Open found) epoch early = by_tests
  where
    by_tests : Duty.state_by epoch found Opened ≡ Waits
    by_tests = let other = ne_eqb found epoch (λ (e : found ≡ epoch). absurd (omega (arith, early, e))) in rw other (grind (arith, nat_tests))
waits_early (page_word.Scanning found worker) epoch early = by_tests
  where
    by_tests : Duty.state_by epoch found Scanned ≡ Waits
    by_tests = let other = ne_eqb found epoch (λ (e : found ≡ epoch). absurd (omega (arith, early, e))) in rw other (grind (arith, nat_tests))

pub opened_now : (epoch : ℕ) → Duty.state_of (page_word.Open epoch) epoch ≡ Opened
opened_now epoch = rw (eq-eqb epoch epoch refl) refl

module _ (E : Era) (m : Memory) (d : Round) (a : RoundIsAlone E m d) where
  -- a page has no word of the epoch, or is open
  pub by_page : (p : ℕ) → (age_of (m.page p) ≤ d.epoch) ⊎ (m.page p ≡ page_word.Open E.epoch)
  by_page p = by_age (cases_eq (age_of (m.page p)) (E.epoch + 1))
    where
      by_age : (age_of (m.page p) ≡ E.epoch + 1) ⊎ (age_of (m.page p) ≢ E.epoch + 1) → (age_of (m.page p) ≤ d.epoch) ⊎ (m.page p ≡ page_word.Open E.epoch)
      by_age (inl now) = inr (a.opened p now)
      by_age (inr other) = inl (let young = a.young p in let e = a.epoch in omega (arith, young, e, other))

  closed_early : (p : ℕ) → age_of (m.page p) ≢ E.epoch + 1 → age_of (m.page p) ≤ d.epoch
  closed_early p other = let young = a.young p in let e = a.epoch in omega (arith, young, e, other)

  -- ---- the gate

  unhindered : (w : ℕ) → Duty.hindrance_in w m.gate ≡ None
  unhindered w = rw (eq-eqb m.gate.behind 0 a.behind) refl

  mutator_goes : (w : ℕ) → Duty.mutator_at_gate d w m.gate ≡ at_stage d (LoadsTraced None)
  mutator_goes w = rw (eq-eqb m.gate.epoch d.epoch a.gate, unhindered w) refl

  caller_goes : (w : ℕ) (caller : Caller) → d.caller ≡ caller → Duty.looked_by_gate d caller w m.gate ≡ at_stage d (LoadsTraced None)
  caller_goes w (Faulted page) is = mutator_goes w
  caller_goes w Allocates is = mutator_goes w
  caller_goes w (Scans mutators) is = absurd (a.mutator mutators is)

  pub at_gate : (w : ℕ) → decode_gate w ≡ Some m.gate → IsForClosed E m.page d.caller → RoundGoes E m d LoadsGate (Value w)
  at_gate w says closed = record {
    next = LoadsTraced None;
    same = ap (Duty.looked_at_gate d w) says ∙ caller_goes w d.caller refl;
    more = refl;
    found = (closed, refl);
    untraced = λ back is. is;
    advances = ap is_some says;
    steps = λ less. omega (arith, less);
  }

  -- ---- TRACED

  abbrev seen : Findings
  seen = record { traced = m.traced; hindrance = None }

  seen_found : Found m.traced seen
  seen_found = record { traced_is = refl; unhindered = refl }

  module _ (untraced : m.traced ≢ E.epoch + 1) where
    test : nat_eq m.traced (d.epoch + 1) ≡ false
    test = ne_eqb m.traced (d.epoch + 1) (λ (e : m.traced ≡ d.epoch + 1). untraced (let s = a.epoch in omega (arith, e, s)))

    by_caller : (caller : Caller) → d.caller ≡ caller → IsForClosed E m.page d.caller → RoundGoes E m d (LoadsTraced None) (Value m.traced)
    by_caller (Faulted page) is closed = record {
      next = LoadsWanted seen page;
      same = rw (test, is) refl;
      more = refl;
      found = (closed page is, seen_found);
      untraced = λ back known. untraced;
      advances = refl;
      steps = λ less. omega (arith, less);
    }
    by_caller Allocates is closed = record {
      next = LoadsFront seen;
      same = rw (test, is) refl;
      more = refl;
      found = seen_found;
      untraced = λ back known. untraced;
      advances = refl;
      steps = λ less. omega (arith, less);
    }
    by_caller (Scans mutators) is closed = absurd (a.mutator mutators is)

    pub at_traced : IsForClosed E m.page d.caller → RoundGoes E m d (LoadsTraced None) (Value m.traced)
    at_traced closed = by_caller d.caller refl closed

  -- ---- the page that is wanted

  module _ (found : Findings) (page : ℕ) (is : Found m.traced found) (closed : age_of (m.page page) ≢ E.epoch + 1) where
    abbrev says : PageWord
    says = m.page page

    state : Duty.state_of says d.epoch ≡ Waits
    state = waits_early says d.epoch (closed_early page closed)

    abbrev w : WantedPage
    w = record { page = page; says = says }

    waits_one : (word : ℕ) → decode_page word ≡ Some says → at_stage d (Duty.looked_at_wanted d found page word (decode_page word)) ≡ at_stage d (Duty.wanted_one d found w)
    waits_one word read =
        ap (λ o. at_stage d (Duty.looked_at_wanted d found page word o)) read ∙ ap (λ st. at_stage d (Duty.wanted_by d found page word says st)) state

    -- by whether it is the board
    abbrev one : Bool → DutyStage
    one b = cond b (Duty.claim_by_state d page says false (Duty.state_of says d.epoch)) (LoadsFrontFor found w)

    wanted_goes : (word : ℕ) (b : Bool) → nat_eq page (board_page d.layout.pages) ≡ b → decode_page word ≡ Some says → RoundGoes E m d (LoadsWanted found page) (Value word)
    wanted_goes word true test read = record {
      next = Duty.claim_of d page says false;
      same = waits_one word read ∙ (ap (λ (t : Bool). at_stage d (one t)) test ∙ ap (λ st. at_stage d (Duty.claim_by_state d page says false st)) state);
      more = refl;
      found = refl;
      untraced = λ back is. is;
      advances = ap is_some read;
      steps = λ less. let few = first_stage-le d.layout.pages page false in omega (arith, few);
    }
    wanted_goes word false test read = record {
      next = LoadsFrontFor found w;
      same = waits_one word read ∙ ap (λ (t : Bool). at_stage d (one t)) test;
      more = refl;
      found = (record { says = refl; closed = closed }, is);
      untraced = λ back is. is;
      advances = ap is_some read;
      steps = λ less. omega (arith, less);
    }

    pub at_wanted : (word : ℕ) → decode_page word ≡ Some says → RoundGoes E m d (LoadsWanted found page) (Value word)
    at_wanted word read = wanted_goes word (nat_eq page (board_page d.layout.pages)) refl read

  module _ (found : Findings) (w : WantedPage) (is : Found m.traced found) (wanted : Wanted E m.page w) where
    state_w : Duty.state_of w.says d.epoch ≡ Waits
    state_w = waits_early w.says d.epoch (let young = a.young w.page in let s = ap age_of wanted.says in let c = wanted.closed in let e = a.epoch in omega (arith, young, s, c, e))

    front_for : (word : ℕ) (area : AreaWord) (b : Bool) → is_full (front_of d area) w.page ≡ b → decode_area word ≡ Some area
        → RoundGoes E m d (LoadsFrontFor found w) (Value word)
    front_for word area true test read = record {
      next = Duty.claim_of d w.page w.says false;
      same = ap (λ o. at_stage d (Duty.found_front_for d found w o)) read ∙ rw (test, state_w) refl;
      more = refl;
      found = wanted.says;
      untraced = λ back is. is;
      advances = ap is_some read;
      steps = λ less. let few = first_stage-le d.layout.pages w.page false in omega (arith, few);
    }
    front_for word area false test read = record {
      next = LoadsFront found;
      same = ap (λ o. at_stage d (Duty.found_front_for d found w o)) read ∙ rw test refl;
      more = refl;
      found = is;
      untraced = λ back is. is;
      advances = ap is_some read;
      steps = λ less. omega (arith, less);
    }

    pub at_front_for : (word : ℕ) (area : AreaWord) → decode_area word ≡ Some area → RoundGoes E m d (LoadsFrontFor found w) (Value word)
    at_front_for word area read = front_for word area (is_full (front_of d area) w.page) refl read

  -- ---- the choice

  pub at_front : (found : Findings) (word : ℕ) (area : AreaWord) → Found m.traced found → decode_area word ≡ Some area → front_of d area ≡ m.front
      → RoundGoes E m d (LoadsFront found) (Value word)
  at_front found word area is read front = record {
    next = LoadsPage (record { seen = found; front = front_of d area }) (board_page d.layout.pages);
    same = ap (λ o. at_stage d (Duty.found_front d found o)) read;
    more = refl;
    found = record { found = is; front = front; passed = λ other. absurd (other refl) };
    untraced = λ back is. is;
    advances = ap is_some read;
    steps = λ less. omega (arith, less);
  }

  -- ---- a page of the choice

  module _ (choice : Choice) (page : ℕ) (is : Chosen E m d.layout.pages choice page) (fits : IsChoice d choice.front page) where
    abbrev next_page : ℕ
    next_page = page_after d page

    -- it is one of the pages that are left, or pages are
    some_left : (b : Bool) → nat_eq page (board_page d.layout.pages) ≡ b → 0 < Duty.pages_left d page + d.layout.pages
    some_left true test = rw test (omega arith)
    some_left false test =
        let other : page ≢ board_page d.layout.pages = grind (arith, nat_tests) in
        let from = fits.in_space other in
        let full = fits.full other in
        let high = fits.at.high in
        rw test (omega (arith, from, full, high))

    -- a page that is claimed was not open
    claims_page : (word : ℕ) → decode_page word ≡ Some (m.page page) → age_of (m.page page) ≤ d.epoch → RoundGoes E m d (LoadsPage choice page) (Value word)
    claims_page word read early = record {
      next = Duty.claim_of d page (m.page page) false;
      same = ap (λ o. at_stage d (Duty.looked_at_page d choice page word o)) read
          ∙ ap (λ st. at_stage d (Duty.chosen_by d choice page word (m.page page) st)) (waits_early (m.page page) d.epoch early);
      more = refl;
      found = refl;
      untraced = λ back is. is;
      advances = ap is_some read;
      steps = λ less. let few = first_stage-le d.layout.pages page false in let some = some_left (nat_eq page (board_page d.layout.pages)) refl in omega (arith, few, some);
    }

    module _ (now : m.page page ≡ page_word.Open E.epoch) where
      -- the pages up to the next one are open
      open_by : (b : Bool) → nat_eq page (board_page d.layout.pages) ≡ b → OpenBelow E m.page next_page
      open_by true test =
          let here : page ≡ board_page d.layout.pages = grind (arith, nat_tests) in
          let next : next_page ≡ Duty.to_page d = rw test refl in
          let at : page_of E.board ≡ page = let b = a.board in omega (arith, b, here) in
          record {
            board = ap m.page at ∙ now;
            below = λ p from below. absurd (let s = a.start in omega (arith, from, below, next, s));
          }
      open_by false test =
          let other : page ≢ board_page d.layout.pages = grind (arith, nat_tests) in
          let next : next_page ≡ page + 1 = rw test refl in
          let passed = is.passed other in
          record {
            board = passed.board;
            below = λ p from below. by_place p from below next passed (cases_eq p page);
          }
        where
          by_place : (p : ℕ) → E.start ≤ first_word p → p < next_page → next_page ≡ page + 1 → OpenBelow E m.page page → (p ≡ page) ⊎ (p ≢ page)
              → m.page p ≡ page_word.Open E.epoch
          by_place p from below next passed (inl same) = ap m.page same ∙ now
          by_place p from below next passed (inr apart) = passed.below p from (omega (arith, below, next, apart))

      open_next : OpenBelow E m.page next_page
      open_next = open_by (nat_eq page (board_page d.layout.pages)) refl

      -- where the next one isn't full all full ones are open
      quiet : is_full choice.front next_page ≡ false → IsQuiet E m
      quiet last = record {
        none = a.behind;
        board = open_next.board;
        full = λ p from below. open_next.below p from (let beyond : choice.front < 64 * (next_page + 1) = grind (arith, nat_tests) in let f = is.front in omega (arith, below, beyond, f));
      }

      passes : (word : ℕ) → decode_page word ≡ Some (m.page page) → at_stage d (Duty.looked_at_page d choice page word (decode_page word)) ≡ at_stage d (Duty.passed_page d choice page)
      passes word read =
          ap (λ o. at_stage d (Duty.looked_at_page d choice page word o)) read
          ∙ ap (λ st. at_stage d (Duty.chosen_by d choice page word (m.page page) st)) (ap (λ (w : PageWord). Duty.state_of w d.epoch) now ∙ (ap (λ e. Duty.state_of (page_word.Open e) d.epoch) a.epoch ∙ opened_now d.epoch))

      passed_by : (word : ℕ) (b : Bool) → is_full choice.front next_page ≡ b → decode_page word ≡ Some (m.page page) → RoundGoes E m d (LoadsPage choice page) (Value word)
      passed_by word true test read = record {
        next = LoadsPage choice next_page;
        same = passes word read ∙ ap (λ (t : Bool). at_stage d (cond t (LoadsPage choice next_page) (Duty.after_choice choice.seen choice.seen.hindrance))) test;
        more = refl;
        found = record { found = is.found; front = is.front; passed = λ other. open_next };
        untraced = λ back is. is;
        advances = ap is_some read;
        steps = λ less. omega (arith, less);
      }
      passed_by word false test read = record {
        next = EndGate choice.seen.traced;
        same = passes word read ∙ (ap (λ (t : Bool). at_stage d (cond t (LoadsPage choice next_page) (Duty.after_choice choice.seen choice.seen.hindrance))) test
            ∙ ap (λ o. at_stage d (Duty.after_choice choice.seen o)) is.found.unhindered);
        more = refl;
        found = (quiet test, is.found.traced_is);
        untraced = λ back is. is;
        advances = ap is_some read;
        steps = λ less. omega (arith, less);
      }

    by_state : (word : ℕ) → decode_page word ≡ Some (m.page page) → (age_of (m.page page) ≤ d.epoch) ⊎ (m.page page ≡ page_word.Open E.epoch)
        → RoundGoes E m d (LoadsPage choice page) (Value word)
    by_state word read (inl early) = claims_page word read early
    by_state word read (inr now) = passed_by now word (is_full choice.front next_page) refl read

    pub at_page : (word : ℕ) → decode_page word ≡ Some (m.page page) → RoundGoes E m d (LoadsPage choice page) (Value word)
    at_page word read = by_state word read (by_page page)
