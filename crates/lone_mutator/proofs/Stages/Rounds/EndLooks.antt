-- The looks of a round at the end of the area: none finds that there is nothing to do.
use Rattle.std.proofs.Common.{◌≡◌, ◌≢◌, ℕ, ◌%◌, ◌≤◌, ◌⊎◌, inl, inr, Bool, true, false, cond, ◌&&◌, nat_eq, Some, refl, sym, ap, ◌∙◌, arith}
use Rattle.std.specs.Prelude.{is_some}
use Rattle.std.proofs.lemmas.Bool.{eq-eqb, cases_eq}
use Rattle.std.proofs.lemmas.Bool.Decides.{nat_tests}
use Rattle.atom_store.specs.declared.reply.Reply.TheVariants.{Value}
use Rattle.space_map.specs.declared.area_word.AreaWord.{AreaWord}
use Rattle.space_map.specs.declared.page_word.PageWord.{PageWord}
use Rattle.space_map.specs.declared.page_word.PageWord.TheVariants as page_word
use Rattle.space_map.specs.AreaWord.{decode_area}
use Rattle.space_map.specs.GateWord.{decode_gate}
use Rattle.space_map.specs.PageWord.{decode_page, encode_page, age_of}
use Rattle.space_map.specs.Spaces.{board_page, page_of}
use Rattle.cell_walk.specs.Walking as walk
use Rattle.fault_duty.specs.declared.end_look.EndLook.{EndLook}
use Rattle.fault_duty.specs.declared.page_state.PageState.TheVariants.{Opened, Waits}
use Rattle.fault_duty.specs.declared.duty_stage.DutyStage.{DutyStage}
use Rattle.fault_duty.specs.declared.duty_stage.DutyStage.TheVariants.{EndGate, EndArea, EndPage, EndFilling, EndAreaAgain, Walks}
use Rattle.fault_duty.specs.Duty
use Rattle.fault_duty.specs.Duty.{Round, at_stage, front_of, page_after, is_full}
use Rattle.fault_duty.specs.Soundness.{IsChoice}
use Rattle.heap_state.specs.Memory.Era.{Era, Memory}
use Rattle.lone_mutator.specs.Rounds.{IsQuiet, LookedAt}
use Rattle.lone_mutator.proofs.Stages.Rounds.LoneRounds.{RoundIsAlone, RoundGoes}
use Rattle.lone_mutator.proofs.Stages.Rounds.RoundLooks.{by_page, waits_early, opened_now}

module _ (E : Era) (m : Memory) (d : Round) (a : RoundIsAlone E m d) where
  still : (nat_eq m.gate.epoch d.epoch && nat_eq m.gate.behind 0) ≡ true
  still = rw (eq-eqb m.gate.epoch d.epoch a.gate, eq-eqb m.gate.behind 0 a.behind) refl

  pub at_gate_again : (traced word : ℕ) → IsQuiet E m → traced ≡ m.traced → decode_gate word ≡ Some m.gate → RoundGoes E m d (EndGate traced) (Value word)
  at_gate_again traced word quiet is read = record {
    next = EndArea traced;
    same = ap (λ o. at_stage d (Duty.ended_gate d traced word o)) read ∙ rw still refl;
    more = refl;
    found = (quiet, is);
    untraced = λ back is. is;
    advances = ap is_some read;
    steps = λ less. omega (arith, less);
  }

  pub at_area : (traced word : ℕ) (area : AreaWord) → IsQuiet E m → traced ≡ m.traced → decode_area word ≡ Some area → front_of d area ≡ m.front
      → RoundGoes E m d (EndArea traced) (Value word)
  at_area traced word area quiet is read front = record {
    next = EndPage (record { traced = traced; front = front_of d area }) (board_page d.layout.pages);
    same = ap (λ o. at_stage d (Duty.ended_area d traced o)) read;
    more = refl;
    found = (quiet, record { traced = is; front = front });
    untraced = λ back is. is;
    advances = ap is_some read;
    steps = λ less. omega (arith, less);
  }

  -- ---- the pages again

  module _ (look : EndLook) (page : ℕ) (quiet : IsQuiet E m) (is : LookedAt m look) (fits : IsChoice d look.front page) where
    opened_by : (b : Bool) → nat_eq page (board_page d.layout.pages) ≡ b → m.page page ≡ page_word.Open E.epoch
    opened_by true test =
        let here : page ≡ board_page d.layout.pages = grind (arith, nat_tests) in
        let at : page ≡ page_of E.board = let b = a.board in omega (arith, b, here) in
        ap m.page at ∙ quiet.board
    opened_by false test =
        let other : page ≢ board_page d.layout.pages = grind (arith, nat_tests) in
        let from = fits.in_space other in
        let full = fits.full other in
        let s = a.start in
        let f = is.front in
        quiet.full page (omega (arith, from, s)) (omega (arith, full, f))

    -- the page is the board or full, and so it is open
    opened : m.page page ≡ page_word.Open d.epoch
    opened = opened_by (nat_eq page (board_page d.layout.pages)) refl ∙ ap page_word.Open a.epoch

    abbrev after : Bool → DutyStage
    after b = cond b (EndPage look (page_after d page)) (Duty.after_pages d look)

    passes : (word : ℕ) → word ≡ encode_page (m.page page) → at_stage d (Duty.ended_page d look page word) ≡ at_stage d (after (is_full look.front (page_after d page)))
    passes word read =
        let test : nat_eq word (encode_page (page_word.Open d.epoch)) ≡ true = eq-eqb word (encode_page (page_word.Open d.epoch)) (read ∙ ap encode_page opened) in
        rw test refl

    by_full : (word : ℕ) (b : Bool) → is_full look.front (page_after d page) ≡ b → word ≡ encode_page (m.page page) → RoundGoes E m d (EndPage look page) (Value word)
    by_full word true test read = record {
      next = EndPage look (page_after d page);
      same = passes word read ∙ ap (λ (t : Bool). at_stage d (after t)) test;
      more = refl;
      found = (quiet, is);
      untraced = λ back is. is;
      advances = refl;
      steps = λ less. omega (arith, less);
    }
    by_full word false test read = by_rest (nat_eq (look.front % 64) 0) refl
      where
        by_rest : (b : Bool) → nat_eq (look.front % 64) 0 ≡ b → RoundGoes E m d (EndPage look page) (Value word)
        by_rest true none = record {
          next = EndAreaAgain look (page_word.Open d.epoch);
          same = passes word read ∙ (ap (λ (t : Bool). at_stage d (after t)) test ∙ rw none refl);
          more = refl;
          found = (is, λ rest. absurd (let e : look.front % 64 ≡ 0 = grind (arith, nat_tests) in rest e));
          untraced = λ back is. is;
          advances = refl;
          steps = λ less. omega (arith, less);
        }
        by_rest false rest = record {
          next = EndFilling look;
          same = passes word read ∙ (ap (λ (t : Bool). at_stage d (after t)) test ∙ rw rest refl);
          more = refl;
          found = is;
          untraced = λ back is. is;
          advances = refl;
          steps = λ less. omega (arith, less);
        }

    pub at_page_again : (word : ℕ) → word ≡ encode_page (m.page page) → RoundGoes E m d (EndPage look page) (Value word)
    at_page_again word read = by_full word (is_full look.front (page_after d page)) refl read

  -- ---- the filling page

  module _ (look : EndLook) (is : LookedAt m look) where
    abbrev filling : PageWord
    filling = m.page (page_of look.front)

    goes_again : (word : ℕ) → decode_page word ≡ Some filling → at_stage d (Duty.looked_at_filling d look word (decode_page word)) ≡ at_stage d (EndAreaAgain look filling)
    goes_again word read = ap (λ o. at_stage d (Duty.looked_at_filling d look word o)) read ∙ by_state (by_page E m d a (page_of look.front))
      where
        by_state : (age_of filling ≤ d.epoch) ⊎ (filling ≡ page_word.Open E.epoch)
            → at_stage d (Duty.filling_by look word filling (Duty.state_of filling d.epoch)) ≡ at_stage d (EndAreaAgain look filling)
        by_state (inl early) = ap (λ st. at_stage d (Duty.filling_by look word filling st)) (waits_early filling d.epoch early)
        by_state (inr now) = ap (λ st. at_stage d (Duty.filling_by look word filling st))
            (ap (λ (w : PageWord). Duty.state_of w d.epoch) now ∙ (ap (λ e. Duty.state_of (page_word.Open e) d.epoch) a.epoch ∙ opened_now d.epoch))

    pub at_filling : (word : ℕ) → decode_page word ≡ Some filling → RoundGoes E m d (EndFilling look) (Value word)
    at_filling word read = record { next = EndAreaAgain look filling; same = goes_again word read; more = refl; found = (is, λ rest. refl); untraced = λ back is. is; advances = ap is_some read; steps = λ less. omega (arith, less) }

  -- ---- FRONT again

  module _ (look : EndLook) (filling : PageWord) (is : LookedAt m look) (says : look.front % 64 ≢ 0 → filling ≡ m.page (page_of look.front))
      (none : look.front % 64 ≡ 0 → Duty.state_of filling d.epoch ≡ Opened) where
    stands : (word : ℕ) (area : AreaWord) → decode_area word ≡ Some area → front_of d area ≡ m.front
        → at_stage d (Duty.ended_area_again d look filling word (decode_area word)) ≡ at_stage d (Duty.ends_by d look filling (Duty.state_of filling d.epoch))
    stands word area read front =
        let test : nat_eq (front_of d area) look.front ≡ true = eq-eqb (front_of d area) look.front (front ∙ sym is.front) in
        ap (λ o. at_stage d (Duty.ended_area_again d look filling word o)) read ∙ rw test refl

    -- all is open
    walks : (word : ℕ) (area : AreaWord) → decode_area word ≡ Some area → front_of d area ≡ m.front → Duty.state_of filling d.epoch ≡ Opened
        → RoundGoes E m d (EndAreaAgain look filling) (Value word)
    walks word area read front state = record {
      next = Walks look.traced (walk.begun d.layout d.epoch);
      same = stands word area read front ∙ ap (λ st. at_stage d (Duty.ends_by d look filling st)) state;
      more = refl;
      found = (is.traced, tt);
      untraced = λ back is. is;
      advances = ap is_some read;
      steps = λ less. omega (arith, less);
    }

    -- or the filling page is claimed
    claims : (word : ℕ) (area : AreaWord) → decode_area word ≡ Some area → front_of d area ≡ m.front → filling ≡ m.page (page_of look.front)
        → Duty.state_of filling d.epoch ≡ Waits → RoundGoes E m d (EndAreaAgain look filling) (Value word)
    claims word area read front same state = record {
      next = Duty.claim_of d (page_of look.front) filling true;
      same = stands word area read front ∙ ap (λ st. at_stage d (Duty.ends_by d look filling st)) state;
      more = refl;
      found = same;
      untraced = λ back is. is;
      advances = ap is_some read;
      steps = λ less. omega arith;
    }

    by_filling : (word : ℕ) (area : AreaWord) → decode_area word ≡ Some area → front_of d area ≡ m.front → filling ≡ m.page (page_of look.front)
        → (age_of (m.page (page_of look.front)) ≤ d.epoch) ⊎ (m.page (page_of look.front) ≡ page_word.Open E.epoch) → RoundGoes E m d (EndAreaAgain look filling) (Value word)
    by_filling word area read front same (inl early) =
        claims word area read front same (ap (λ (w : PageWord). Duty.state_of w d.epoch) same ∙ waits_early (m.page (page_of look.front)) d.epoch early)
    by_filling word area read front same (inr now) = walks word area read front
        (ap (λ (w : PageWord). Duty.state_of w d.epoch) (same ∙ now) ∙ (ap (λ e. Duty.state_of (page_word.Open e) d.epoch) a.epoch ∙ opened_now d.epoch))

    by_rest : (word : ℕ) (area : AreaWord) → decode_area word ≡ Some area → front_of d area ≡ m.front → (look.front % 64 ≡ 0) ⊎ (look.front % 64 ≢ 0)
        → RoundGoes E m d (EndAreaAgain look filling) (Value word)
    by_rest word area read front (inl whole) = walks word area read front (none whole)
    by_rest word area read front (inr rest) = by_filling word area read front (says rest) (by_page E m d a (page_of look.front))

    pub at_area_again : (word : ℕ) (area : AreaWord) → decode_area word ≡ Some area → front_of d area ≡ m.front → RoundGoes E m d (EndAreaAgain look filling) (Value word)
    at_area_again word area read front = by_rest word area read front (cases_eq (look.front % 64) 0)
