-- An exchange by a round of a past epoch is lost.
use Rattle.std.proofs.Common.{◌≡◌, ◌≢◌, ℕ, ◌+◌, ◌<◌, ◌≤◌, ◌==◌, true, false, List, length, Some, ⊎_elim, refl, sym, ap, subst, ◌∙◌, arith, slice_index, unwrap_or}
use Rattle.std.proofs.lemmas.Bool.{cases_lt, ne_eqb}
use Rattle.std.proofs.lemmas.Option.{same_Some}
use Rattle.plain_state.specs.State.{Plain}
use Rattle.atom_store.specs.declared.reply.Reply.{Reply}
use Rattle.atom_store.specs.declared.reply.Reply.TheVariants.{Won, Lost}
use Rattle.atom_store.specs.declared.step.Step.{Step}
use Rattle.atom_store.specs.declared.step.Step.TheVariants.{Exchange}
use Rattle.atom_store.specs.Step.{words_after, reply_of}
use Rattle.space_map.specs.declared.page_word.PageWord.{PageWord}
use Rattle.space_map.specs.declared.page_word.PageWord.TheVariants.{Unset, Scanning}
use Rattle.space_map.specs.PageWord.{PageFits, age_of, encode_page}
use Rattle.space_map.specs.Spaces.{Layout}
use Rattle.space_map.specs.Table.{WeakTurn, Row, IsRow, Page, Traced, place_of}
use Rattle.space_map.proofs.PageWords.{decode_page-encode_page}
use Rattle.page_slots.specs.declared.claim_stage.ClaimStage.{ClaimStage}
use Rattle.page_slots.specs.declared.claim_stage.ClaimStage.TheVariants.{Exchanges}
use Rattle.page_slots.specs.Claim.{Claiming}
use Rattle.fault_duty.specs.declared.duty_stage.DutyStage.{DutyStage}
use Rattle.fault_duty.specs.declared.duty_stage.DutyStage.TheVariants.{Claims}
use Rattle.fault_duty.specs.Duty.{Round}
use Rattle.fault_duty.specs.Soundness.{IsOwnClaim}
use Rattle.heap_state.specs.Configuration.{Configuration, team}
use Rattle.heap_state.specs.Memory.Table.{page_word_in, word_in}
use Rattle.heap_state.specs.Known.{Known}
use Rattle.heap_state.proofs.Puts.{none≢some}
use Rattle.heap_state.proofs.Table.StoredRows.{word_in-row}
use Rattle.heap_laws.proofs.Lifting.Configurations.{ready}
use Rattle.heap_laws.proofs.Tracing.SecondLooks.{looked_twice}
use Rattle.gc_worker.specs.declared.stage.back.Back.{Back}
use Rattle.gc_worker.specs.declared.stage.Stage.{Stage}
use Rattle.gc_worker.specs.declared.stage.Stage.TheVariants.{Serves}
use Rattle.gc_worker.specs.Laws.Claims.{epoch_of_heap}
use Rattle.gc_worker.specs.Steps.Goes.{Is}
use Rattle.gc_worker.specs.Workers.Held.{Held, at_stage}
use Rattle.gc_worker.specs.Workers.Knows.{claim_with, looked_all}
use Rattle.gc_worker.specs.Laws.Step.{Heap, IsOut, read, WorkersStand, age, held_at}
use Rattle.worker_progress.specs.PastEpochs.{LosesPage, LosesTurn, LosesTraced, PastClaimsAreLost, PastTurnsAreLost, PastMarksAreLost, takes_turn_next, PagesAreWonNow, exchanges_next, traces_next}
use Rattle.gc_worker.specs.Steps.Turned.{PageWon, won, won_at, won_by, won_in}
use Rattle.gc_worker.specs.Steps.Wanted.{wanted}
use Rattle.gc_worker.proofs.Between.Pages.Claims.{of_now}
use Rattle.gc_worker.proofs.Workers.Members.{member}
use Rattle.gc_worker.proofs.Stages.Rounds.Walking.{turn_word}
use Rattle.gc_worker.proofs.Stages.Rounds.RoundWords.{page_age, traced_word}
use Rattle.gc_worker.proofs.Stages.Rounds.SecondLook.{looked_in}

-- ---- the words

-- the exchange of a row's word is lost, and no word changes
record Loses (n : ℕ) (words : List ℕ) (row : Row) (q : Step) : Type 0 where
  reply : reply_of q words ≡ Lost (word_in n words row)
  unchanged : words_after q words ≡ words

-- where the row has another word than the old one that it names
other_word : (n m : ℕ) (words : List ℕ) (row : Row) (old new : ℕ) → m ≡ n → IsRow n row → word_in n words row ≢ old → Loses n words row (Exchange (place_of m row) old new)
other_word n m words row old new pages is other =
    let at : slice_index words (place_of n row) ≡ word_in n words row = sym (word_in-row n words row is) in
    let test : (slice_index words (place_of n row) == old) ≡ false = ne_eqb (slice_index words (place_of n row)) old (λ same. other (sym at ∙ same)) in
    subst (λ (i : ℕ). Loses n words row (Exchange (place_of i row) old new)) (sym pages) (record { reply = rw (test, at) refl; unchanged = rw test refl })

-- the word of a page that says this has its age
age_as : (n : ℕ) (words : List ℕ) (page : ℕ) (says : PageWord) → PageFits says → word_in n words (Page page) ≡ encode_page says → age n words page ≡ age_of says
age_as n words page says fits same =
    ap (λ (w : ℕ). age_of (page_word_in w)) same ∙ ap (λ o. age_of (unwrap_or o Unset)) (decode_page-encode_page says fits)

-- the three exchanges
abbrev claims_page : Claiming → Step
claims_page q = Exchange (place_of q.layout.pages (Page q.page)) (encode_page q.found) (encode_page (Scanning q.epoch q.worker))

abbrev takes_turn : Round → ℕ → Step
takes_turn d turn = Exchange (place_of d.layout.pages WeakTurn) turn (d.epoch + 1)

abbrev marks_traced : Round → ℕ → Step
marks_traced d found = Exchange (place_of d.layout.pages Traced) found (d.epoch + 1)

-- ---- the rounds

module _ (h : Heap) (p o : Plain) (k : ℕ) (st : WorkersStand h p o) (y : Held) (d : Round) (back : Back) (past : d.epoch < epoch_of_heap h) where
  abbrev c : Configuration
  c = read h

  -- a claim
  module _ (q : Claiming) (is : Is c k (at_stage y (Serves (exchanges_next d q) back))) where
    own : IsOwnClaim (exchanges_next d q) (record q { stage = Exchanges })
    own = is.fits.stage.0.sound.stage

    pages : q.layout.pages ≡ h.pages
    pages = ap (λ (l : Layout). l.pages) own.layout ∙ (ap (λ (l : Layout). l.pages) is.fits.stage.0.layout ∙ is.fits.pages)

    out : IsOut h.pages h.words (record { page = q.page; epoch = d.epoch })
    out =
        let e : ((team c).worker k).epoch ≡ d.epoch = ap (λ (w : Known). w.epoch) is.as_known in
        let now = of_now h p o st in
        let late = ((st.stands.invariant.workers k is.below).pages.claim (claim_with q (looked_all q) true) (ap (λ (w : Known). w.claim) is.as_known)).late refl (omega (arith, now, e, past)) in
        let a = page_age c q.page in
        let i = own.sound.page in
        let n = pages in
        record { page = omega (arith, i, n); epoch = omega (arith, late, a, e) }

    other : word_in h.pages h.words (Page q.page) ≢ encode_page q.found
    other same =
        let a = age_as h.pages h.words q.page q.found own.sound.found same in
        let earlier = own.sound.earlier in
        let e = own.epoch in
        let l = out.epoch in
        omega (arith, a, earlier, e, l)

    loses_page : LosesPage h (at_stage y (Serves (exchanges_next d q) back)) d back q (claims_page q)
    loses_page =
        let l = other_word h.pages q.layout.pages h.words (Page q.page) (encode_page q.found) (encode_page (Scanning q.epoch q.worker)) pages out.page other in
        record { out = out; lost = record { reply = l.reply; unchanged = l.unchanged; none = refl; silent = refl; ends = refl; goes_back = refl } }

  -- the exchange of WEAKTURN
  module _ (found turn : ℕ) (is : Is c k (at_stage y (Serves (takes_turn_next d found turn) back))) where
    pages_turned : d.layout.pages ≡ h.pages
    pages_turned = ap (λ (l : Layout). l.pages) is.fits.stage.0.layout ∙ is.fits.pages

    loses_turn : LosesTurn h (at_stage y (Serves (takes_turn_next d found turn) back)) d back found turn (takes_turn d turn)
    loses_turn =
        let now = of_now h p o st in
        let top = st.stands.invariant.cells.chain.top in
        let free = is.fits.stage.0.sound.stage.1.sound.fits in
        let w = turn_word c in
        let l = other_word h.pages d.layout.pages h.words WeakTurn turn (d.epoch + 1) pages_turned tt (λ same. omega (arith, top, free, now, w, same, past)) in
        record {
          taken = omega (arith, top, now, w, past);
          lost = record { reply = l.reply; unchanged = l.unchanged; none = refl; silent = refl; ends = refl; goes_back = refl };
        }

  -- the exchange of TRACED
  module _ (found : ℕ) (is : Is c k (at_stage y (Serves (traces_next d found) back))) where
    pages_traced : d.layout.pages ≡ h.pages
    pages_traced = ap (λ (l : Layout). l.pages) is.fits.stage.0.layout ∙ is.fits.pages

    loses_traced : LosesTraced h (at_stage y (Serves (traces_next d found) back)) d back found (marks_traced d found)
    loses_traced =
        let e : ((team c).worker k).epoch ≡ d.epoch = ap (λ (w : Known). w.epoch) is.as_known in
        let now = of_now h p o st in
        let look = looked_twice {l = record { traced = found }} (ready c p st.stands k is.below) (looked_in is refl) in
        let late = look.late (omega (arith, now, e, past)) in
        let earlier = look.earlier in
        let w = traced_word c in
        let l = other_word h.pages d.layout.pages h.words Traced found (d.epoch + 1) pages_traced tt (λ same. omega (arith, late, earlier, w, same)) in
        record {
          traced = omega (arith, late, e, w);
          lost = record { reply = l.reply; unchanged = l.unchanged; none = refl; silent = refl; ends = refl; goes_back = refl };
        }

-- ---- the laws

pub past_claims_are_lost : PastClaimsAreLost
past_claims_are_lost h p o k x d back c q st below holds staged past asked =
    let own : x ≡ at_stage x (Serves (exchanges_next d c) back) = ap (at_stage x) staged in
    let lost = loses_page h p o k st x d back past c (subst (Is (read h) k) own (member h p o k x st below holds)) in
    subst (LosesPage h x d back c) (same_Some (claims_page c) q (ap wanted (sym own) ∙ asked)) (subst (λ (z : Held). LosesPage h z d back c (claims_page c)) (sym own) lost)

pub past_turns_are_lost : PastTurnsAreLost
past_turns_are_lost h p o k x d back found turn q st below holds staged past asked =
    let own : x ≡ at_stage x (Serves (takes_turn_next d found turn) back) = ap (at_stage x) staged in
    let lost = loses_turn h p o k st x d back past found turn (subst (Is (read h) k) own (member h p o k x st below holds)) in
    subst (LosesTurn h x d back found turn) (same_Some (takes_turn d turn) q (ap wanted (sym own) ∙ asked)) (subst (λ (z : Held). LosesTurn h z d back found turn (takes_turn d turn)) (sym own) lost)

pub past_marks_are_lost : PastMarksAreLost
past_marks_are_lost h p o k x d back found q st below holds staged past asked =
    let own : x ≡ at_stage x (Serves (traces_next d found) back) = ap (at_stage x) staged in
    let lost = loses_traced h p o k st x d back past found (subst (Is (read h) k) own (member h p o k x st below holds)) in
    subst (LosesTraced h x d back found) (same_Some (marks_traced d found) q (ap wanted (sym own) ∙ asked)) (subst (λ (z : Held). LosesTraced h z d back found (marks_traced d found)) (sym own) lost)

-- ---- a page that is won

-- the worker claims the page by a round of that epoch
record Claimant (x : Held) (w : PageWon) : Type 0 where
  d : Round
  back : Back
  claim : Claiming
  staged : x.stage ≡ Serves (exchanges_next d claim) back
  epoch : claim.epoch ≡ w.epoch

-- who wins a page is at the exchange of a claim
wins_by : (q : Claiming) (stage : ClaimStage) (reply : Reply) (w : PageWon) → won_by q stage reply ≡ Some w → (stage ≡ Exchanges) × (q.epoch ≡ w.epoch)
wins_by q Exchanges Won w e = (refl, ap (λ (v : PageWon). v.epoch) (same_Some (record { page = q.page; epoch = q.epoch }) w e))
wins_by q stage reply w e = absurd (cc)

wins_in : (stage : DutyStage) (reply : Reply) (w : PageWon) → won_in stage reply ≡ Some w → (q : Claiming) × (stage ≡ Claims (record q { stage = Exchanges })) × (q.epoch ≡ w.epoch)
wins_in (Claims q) reply w e = let b = wins_by q q.stage reply w e in (q, ap (λ (s : ClaimStage). Claims (record q { stage = s })) b.0, b.1)
wins_in stage reply w e = absurd (cc)

wins_at : (x : Held) (stage : Stage) (reply : Reply) (w : PageWon) → x.stage ≡ stage → won_at stage reply ≡ Some w → Claimant x w
wins_at x (Serves d back) reply w staged e =
    let b = wins_in d.stage reply w e in
    record { d = d; back = back; claim = b.0; staged = staged ∙ ap (λ (s : DutyStage). Serves (record d { stage = s }) back) b.1; epoch = b.2 }
wins_at x stage reply w staged e = absurd (cc)

module _ (h : Heap) (p o : Plain) (k : ℕ) (x : Held) (q : Step) (w : PageWon) (st : WorkersStand h p o) (below : k < length h.workers) (holds : held_at h k ≡ x)
    (asked : wanted x ≡ Some q) (wins : won x (reply_of q h.words) ≡ Some w) where
  by : Claimant x w
  by = wins_at x x.stage (reply_of q h.words) w refl wins

  is : Is (read h) k (at_stage x (Serves (exchanges_next by.d by.claim) by.back))
  is = subst (Is (read h) k) (ap (at_stage x) by.staged) (member h p o k x st below holds)

  not_past : by.d.epoch < epoch_of_heap h → ⊥
  not_past past =
      let l = (past_claims_are_lost h p o k x by.d by.back by.claim q st below holds by.staged past asked).lost in
      none≢some (sym l.none ∙ (ap (won x) (sym l.reply) ∙ wins))

  won_now : w.epoch ≡ epoch_of_heap h
  won_now =
      let e : ((team (read h)).worker k).epoch ≡ by.d.epoch = ap (λ (v : Known). v.epoch) is.as_known in
      let timely = (st.stands.invariant.workers k is.below).timely.past in
      let own = is.fits.stage.0.sound.stage.epoch in
      let same = by.epoch in
      let now = of_now h p o st in
      ⊎_elim (λ (past : by.d.epoch < epoch_of_heap h). absurd (not_past past)) (λ (later : epoch_of_heap h ≤ by.d.epoch). omega (arith, e, timely, own, same, now, later)) (cases_lt by.d.epoch (epoch_of_heap h))

pub pages_are_won_now : PagesAreWonNow
pages_are_won_now h p o k x q w st below holds asked wins = won_now h p o k x q w st below holds asked wins
