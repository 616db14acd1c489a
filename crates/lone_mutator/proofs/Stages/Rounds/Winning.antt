-- A claim of a lone mutator is won: the page's scan and the next round are paid by the page, which is then claimed.
use Rattle.std.proofs.Common.{◌≡◌, ℕ, ◌+◌, ◌*◌, ◌/◌, ◌<◌, ◌≤◌, inl, inr, ⊎_elim, Bool, true, false, cond, nat_eq, Some, refl, sym, ap, ◌∙◌, arith}
use Rattle.plain_state.specs.State.{Plain}
use Rattle.atom_store.specs.declared.step.Step.TheVariants.{Exchange}
use Rattle.atom_store.specs.declared.reply.Reply.TheVariants.{Won}
use Rattle.atom_store.specs.declared.turn.Turn.TheVariants.{Finished}
use Rattle.space_map.specs.declared.page_word.PageWord.TheVariants.{Scanning}
use Rattle.space_map.specs.PageWord.{encode_page, age_of}
use Rattle.space_map.specs.Spaces.{Layout, board_page, first_word, to_space}
use Rattle.space_map.specs.Table.{Page, place_of}
use Rattle.space_map.proofs.PageWords.{encode_page-decode_page}
use Rattle.page_slots.specs.declared.claim_stage.ClaimStage.TheVariants.{Exchanges}
use Rattle.page_slots.specs.Claim.{Claiming}
use Rattle.page_scan.specs.Left as scan_left
use Rattle.page_scan.specs.Scanning as scan
use Rattle.fault_duty.specs.declared.duty_stage.DutyStage.{DutyStage}
use Rattle.fault_duty.specs.declared.duty_stage.DutyStage.TheVariants as duty_stage
use Rattle.fault_duty.specs.declared.round_end.RoundEnd.TheVariants.{ScanPage, ScanInPlace}
use Rattle.fault_duty.specs.Duty.{Round}
use Rattle.fault_duty.specs.Soundness.{IsOwnClaim}
use Rattle.heap_state.specs.Configuration.{Configuration, Stands, table, era, memory, team}
use Rattle.heap_state.specs.Memory.Entries.{Entry, PageIs, with_entry}
use Rattle.heap_state.specs.Memory.Table.{Table}
use Rattle.heap_state.specs.Invariant.Parts.Scanning.{Claims}
use Rattle.heap_state.specs.Known.{Claim, Known}
use Rattle.gc_worker.specs.declared.stage.back.Back.{Back}
use Rattle.gc_worker.specs.declared.stage.Stage.TheVariants.{Scans}
use Rattle.gc_worker.specs.Workers.Held.{Held}
use Rattle.gc_worker.specs.Workers.Knows.{claim_with, looked_all}
use Rattle.gc_worker.specs.Steps.Turned.{served_by, turned}
use Rattle.gc_worker.proofs.Plain.Quiet.{rounds_are_quiet}
use Rattle.gc_worker.proofs.Words.Eras.{board_is, start_is, span_within}
use Rattle.gc_worker.proofs.Stages.Rounds.NextRoundStage.{round, at, same_pages}
use Rattle.gc_worker.proofs.Stages.Rounds.RoundWords.{page_now, page_says}
use Rattle.lone_mutator.specs.Law.{Lowers, IsAlone, StepsLower, saves}
use Rattle.lone_mutator.specs.Potential.{again_left, due_in, left_in, round_left, size_in}
use Rattle.lone_mutator.specs.Bound.{page_cost}
use Rattle.lone_mutator.proofs.Steps.GoingBack.{same_back}
use Rattle.lone_mutator.proofs.Stages.Rounds.LoneRounds.{left_again}
use Rattle.lone_mutator.proofs.Stages.Rounds.NextRoundCost.{of_epoch, era_epoch, worker_now}
use Rattle.lone_mutator.proofs.Steps.Owed.{wants, exchanges, owes_quietly}
use Rattle.lone_mutator.proofs.Epochs.Cost.{IsToBeTraced, due_untraced, left_claimed}

-- a scan that begins has at most so many steps left
begun-le : (b : Bool) (l : Layout) (page epoch : ℕ) (in_place : Bool) → nat_eq page (board_page l.pages) ≡ b → scan_left.left (scan.begun l page epoch in_place) ≤ 451
begun-le true l page epoch in_place test = rw test (omega arith)
begun-le false l page epoch in_place test = rw test (omega arith)

module _ (c : Configuration) (p : Plain) (s : Stands c p) (y : Held) (d : Round) (back : Back) (q : Claiming) where
  abbrev stage : DutyStage
  stage = duty_stage.Claims (record q { stage = Exchanges })

  abbrev x : Held
  x = at c p s 0 y d back stage

  -- the scan that it then begins
  abbrev scanner : Held
  scanner = record y { epoch = d.epoch; stage = Scans (scan.begun y.layout q.page d.epoch q.in_place) back }

  turns_by : (b : Bool) → served_by x (round c p s 0 y d back (duty_stage.Claims q)) back (cond b (ScanInPlace q.page) (ScanPage q.page))
      ≡ record y { epoch = d.epoch; stage = Scans (scan.begun y.layout q.page d.epoch b) back }
  turns_by true = refl
  turns_by false = refl

  turns : turned x Won ≡ scanner
  turns = turns_by q.in_place

  abbrev t : Table
  t = table c

  abbrev entry : Entry
  entry = PageIs q.page (Scanning q.epoch q.worker)

  module _ (a : IsAlone c x) where
    own : IsOwnClaim (round c p s 0 y d back stage) (record q { stage = Exchanges })
    own = a.is.fits.stage.0.sound.stage

    pages : q.layout.pages ≡ c.pages
    pages = ap (λ (l : Layout). l.pages) own.layout ∙ same_pages c p s 0 y d back stage a.is

    now : d.epoch ≡ (era c).epoch
    now = sym (era_epoch c p s y d back stage a)

    inside : q.page ≤ 2 * c.pages
    inside = let i = own.sound.page in let n = pages in omega (arith, i, n)

    found : q.found ≡ (memory c).page q.page
    found = a.remembers.stands.0.found

    stands : page_now c q.page ≡ encode_page q.found
    stands = sym (encode_page-decode_page (page_now c q.page) ((memory c).page q.page) (page_says c p s q.page inside)) ∙ ap encode_page (sym found)

    abbrev claim : Claim
    claim = claim_with q (looked_all q) true

    knows_claim : Claims (era c) (memory c).front (memory c).gate.behind s.ghost.size s.ghost.writer (memory c).page ((team c).worker 0).epoch claim
    knows_claim = (s.invariant.workers 0 a.is.below).pages.claim claim (ap (λ (w : Known). w.claim) a.is.as_known)

    -- a page of the space up to FRONT is one of those to be traced
    in_space : (era c).start ≤ first_word q.page → first_word q.page < (memory c).front → IsToBeTraced c.pages (era c).epoch q.page
    in_space from below =
        let start = start_is c in
        let span = span_within c p s in
        let order = s.invariant.laid.order in
        inr (omega (arith, from, start), omega (arith, below, order, start, span))

    by_place : (b : Bool) → q.in_place ≡ b → IsToBeTraced c.pages (era c).epoch q.page
    by_place true is = let last = knows_claim.last (worker_now c p s y d back stage a) is in in_space last.0 last.1
    by_place false is = ⊎_elim
        (λ (full : ((era c).start ≤ first_word q.page) × (first_word q.page + 64 ≤ (memory c).front)). in_space full.0 (let f = full.1 in omega (arith, f)))
        (λ (board : q.page ≡ (era c).board / 64). inl (let b = board_is c in omega (arith, board, b)))
        (knows_claim.full (worker_now c p s y d back stage a) is)

    to_be_traced : IsToBeTraced c.pages (era c).epoch q.page
    to_be_traced = by_place q.in_place refl

    paid : left_in c.pages (with_entry entry t) + page_cost c.pages ≤ left_in c.pages t
    paid = left_claimed c.pages t.gate.epoch t.traced t.weak_turn (t.area (to_space t.gate.epoch)).owed t.page q.page (Scanning q.epoch q.worker)
        (let e = own.epoch in omega (arith, e, now)) a.remembers.stands.0.untraced to_be_traced
        (λ (new : age_of (t.page q.page) ≡ t.gate.epoch + 1). let e = own.epoch in let l = own.sound.earlier in let f = ap age_of found in absurd (omega (arith, new, e, l, f, now)))

    -- the round that follows the scan is paid too
    paid_again : round_left (left_in c.pages t) (due_in c.pages t) back ≡ left_in c.pages t + again_left c.pages back
    paid_again = left_again c.pages (left_in c.pages t) (due_in c.pages t)
        (due_untraced c.pages t.gate.epoch t.traced t.weak_turn (t.area (to_space t.gate.epoch)).owed t.page a.remembers.stands.0.untraced) back

    lower : Lowers c.pages (saves c) t (with_entry entry t) x scanner
    lower = record {
      remembers = record { began = λ past. (let b = a.remembers.began past in let e = of_epoch c p s y d back stage a in omega (arith, b, e)); quiet = a.remembers.quiet; stands = a.remembers.stands.1 };
      falls =
          (let same = same_back c.pages (size_in t) scanner x back refl (of_epoch c p s y d back stage a) in
          let few = begun-le (nat_eq q.page (board_page y.layout.pages)) y.layout q.page d.epoch q.in_place refl in
          let less = paid in
          let again = paid_again in
          omega (arith, same, few, less, again));
    }

    pub exchanges_page : StepsLower c x
    exchanges_page =
        wants c p s x (Exchange (place_of c.pages (Page q.page)) (encode_page q.found) (encode_page (Scanning q.epoch q.worker)))
        (ap (λ n. Some (Exchange (place_of n (Page q.page)) (encode_page q.found) (encode_page (Scanning q.epoch q.worker)))) pages)
        (exchanges c p s x entry (encode_page q.found) (inside, (own.sound.epoch, let w = own.sound.worker in omega (arith, w))) tt stands
        (owes_quietly c p s x (with_entry entry t) Won scanner turns (rounds_are_quiet (Finished (cond q.in_place (ScanInPlace q.page) (ScanPage q.page)))) lower))
