-- A round's claim exchanges the page's word, and the worker scans the page that it won.
use Rattle.std.proofs.Common.{◌≡◌, ◌≢◌, ℕ, ◌+◌, ◌*◌, ◌/◌, ◌≤◌, ◌⊎◌, inl, inr, Bool, true, false, cond, nat_eq, Option, Some, None, refl, sym, ap, subst, ◌∙◌, arith}
use Rattle.std.proofs.lemmas.Bool.Decides.{nat_tests}
use Rattle.std.proofs.lemmas.Option.{same_Some}
use Rattle.plain_state.specs.State.{Plain}
use Rattle.atom_store.specs.declared.step.Step.TheVariants.{Exchange}
use Rattle.atom_store.specs.declared.reply.Reply.TheVariants.{Won, Lost}
use Rattle.space_map.specs.declared.spaces.TheConstants.{LAST_WORKER}
use Rattle.space_map.specs.declared.page_word.PageWord.TheVariants.{Scanning}
use Rattle.space_map.specs.PageWord.{encode_page, decode_page, age_of}
use Rattle.space_map.specs.Spaces.{Layout, IsPageCount, board_page}
use Rattle.space_map.specs.Table.{Page, place_of}
use Rattle.space_map.proofs.PageWords.{decode_page-encode_page}
use Rattle.page_slots.specs.declared.claim_stage.ClaimStage.TheVariants.{Exchanges}
use Rattle.page_slots.specs.Claim.{Claiming}
use Rattle.page_scan.specs.declared.scan_stage.ScanStage.{ScanStage}
use Rattle.page_scan.specs.Scanning as scan
use Rattle.page_scan.specs.Soundness as scan_sound
use Rattle.fault_duty.specs.declared.duty_stage.DutyStage.TheVariants.{Claims}
use Rattle.fault_duty.specs.declared.round_end.RoundEnd.TheVariants.{ScanPage, ScanInPlace}
use Rattle.fault_duty.specs.Duty.{Round}
use Rattle.fault_duty.specs.Soundness.{IsOwnClaim}
use Rattle.heap_state.specs.Configuration.{Configuration, Stands, table, era, memory, team}
use Rattle.heap_state.specs.Memory.Entries.{Entry, PageIs}
use Rattle.heap_state.specs.Known.{Known, Quest}
use Rattle.heap_state.proofs.Puts.{put_at}
use Rattle.heap_laws.specs.Lifting.{configuration_after}
use Rattle.heap_laws.specs.Scanning.Claims.{ClaimsPage, WinsPage, begins_scan, scan_from}
use Rattle.heap_laws.proofs.Scanning.Claimed as claimed_laws
use Rattle.heap_laws.proofs.Lifting.Configurations.{seen}
use Rattle.gc_worker.specs.declared.stage.back.Back.{Back}
use Rattle.gc_worker.specs.declared.stage.Stage.TheVariants.{Scans}
use Rattle.gc_worker.specs.Workers.Fits.{Fits}
use Rattle.gc_worker.specs.Steps.Goes.{Is, Goes, StepsSo}
use Rattle.gc_worker.specs.Workers.Held.{Held}
use Rattle.gc_worker.specs.Workers.Knows.{knows, claim_with, looked_all, scan_of, quest_at}
use Rattle.gc_worker.specs.Steps.Turned.{turned, served_by, told_round, Silent}
use Rattle.gc_worker.proofs.Words.Eras.{board_is}
use Rattle.gc_worker.proofs.Workers.KeptParts.{refit}
use Rattle.gc_worker.proofs.Stages.Gate.GateWords.{wants}
use Rattle.gc_worker.proofs.Stages.Rounds.NextRoundStage.{round, at, done, ends, fits_done, own_stock_same, same_pages}
use Rattle.gc_worker.proofs.Stages.Rounds.RoundWords.{page_now, page_says}
use Rattle.gc_worker.proofs.Stages.Scan.ScanKnowledge.{still_back}
use Rattle.gc_worker.proofs.Words.RowSteps.{Law, quiet, exchanges, prepared}
use Rattle.atom_store.specs.declared.turn.Turn.TheVariants.{Finished}

module _ (c : Configuration) (p : Plain) (s : Stands c p) (k : ℕ) (y : Held) (d : Round) (back : Back) (q : Claiming)
    (is : Is c k (at c p s k y d back (Claims (record q { stage = Exchanges })))) where
  abbrev x : Held
  x = at c p s k y d back (Claims (record q { stage = Exchanges }))

  pub own : IsOwnClaim (round c p s k y d back (Claims (record q { stage = Exchanges }))) (record q { stage = Exchanges })
  own = is.fits.stage.0.sound.stage

  -- the scan that it then begins
  abbrev begun : scan.Scanning
  begun = scan.begun y.layout q.page d.epoch q.in_place

  abbrev scanner : Held
  scanner = record y { epoch = d.epoch; stage = Scans begun back }

  turns_by : (b : Bool) → served_by x (round c p s k y d back (Claims q)) back (cond b (ScanInPlace q.page) (ScanPage q.page))
      ≡ record y { epoch = d.epoch; stage = Scans (scan.begun y.layout q.page d.epoch b) back }
  turns_by true = refl
  turns_by false = refl

  silent_by : (b : Bool) → told_round (Finished (cond b (ScanInPlace q.page) (ScanPage q.page))) ≡ Silent
  silent_by true = refl
  silent_by false = refl

  turns : turned x Won ≡ scanner
  turns = turns_by q.in_place

  -- the number of pages
  pub pages : q.layout.pages ≡ c.pages
  pages = ap (λ (l : Layout). l.pages) own.layout ∙ same_pages c p s k y d back (Claims (record q { stage = Exchanges })) is

  pub inside : q.page ≤ 2 * c.pages
  inside = let i = own.sound.page in let n = pages in omega (arith, i, n)

  word_is : page_now c q.page ≡ encode_page q.found → (table c).page q.page ≡ q.found
  word_is same = same_Some ((table c).page q.page) q.found (sym (page_says c p s q.page inside) ∙ (ap decode_page same ∙ decode_page-encode_page q.found own.sound.found))

  pub worker_is : q.worker ≡ k
  worker_is = own.worker ∙ (is.fits.stage.0.worker ∙ is.fits.number)

  pub epoch_is : ((team c).worker k).epoch ≡ q.epoch
  epoch_is = ap (λ (w : Known). w.epoch) is.as_known ∙ sym own.epoch

  abbrev entry : Entry
  entry = PageIs q.page (Scanning q.epoch q.worker)

  -- ---- it is won

  looked_by : (in_place board : Bool) → q.in_place ≡ in_place → nat_eq q.page (board_page q.layout.pages) ≡ board
      → ((team c).count ≤ looked_all q) ⊎ ((q.in_place ≡ true) ⊎ (q.page ≡ (era c).board / 64))
  looked_by true board here test = inr (inl here)
  looked_by false true here test = inr (inr (let e : q.page ≡ board_page q.layout.pages = grind (arith, nat_tests) in let n = pages in let b = board_is c in omega (arith, e, n, b)))
  looked_by false false here test = inl (let all : looked_all q ≡ LAST_WORKER + 1 = rw (here, test) refl in let f = s.invariant.staffed.few in omega (arith, all, f))

  pub wins_page : page_now c q.page ≡ encode_page q.found → WinsPage (era c) (memory c) (team c) k (claim_with q (looked_all q) true)
  wins_page same = record {
    claims = ap (λ (w : Known). w.claim) is.as_known;
    looked = looked_by q.in_place (nat_eq q.page (board_page q.layout.pages)) refl refl;
    sure = refl;
    idle = ap (λ (w : Known). w.scan) is.as_known;
    unchanged = word_is same;
  }

  wins_it : page_now c q.page ≡ encode_page q.found → ClaimsPage (era c) (memory c) (team c) s.ghost k (claim_with q (looked_all q) true)
  wins_it same = claimed_laws.claims (era c) (memory c) (team c) s.ghost k (claim_with q (looked_all q) true) (prepared c p s k x is) (wins_page same)

  abbrev first : Bool → ScanStage
  first b = scan.first_stage b q.page

  abbrev no_quest : Option Quest
  no_quest = None

  scan_same : (b : Bool) → nat_eq q.page (board_page y.layout.pages) ≡ b → scan_from (claim_with q (looked_all q) true) ≡ scan_of begun (first b)
  scan_same true test = refl
  scan_same false test = refl

  quest_same : (b : Bool) → nat_eq q.page (board_page y.layout.pages) ≡ b → no_quest ≡ quest_at (first b)
  quest_same true test = refl
  quest_same false test = refl

  knows_scan : begins_scan (knows x) (claim_with q (looked_all q) true) ≡ knows scanner
  knows_scan =
      let stock = own_stock_same c p s k y d back (Claims (record q { stage = Exchanges })) is in
      let scans_so = scan_same (nat_eq q.page (board_page y.layout.pages)) refl in
      let quest = quest_same (nat_eq q.page (board_page y.layout.pages)) refl in
      λ i. record (knows scanner) { stock = sym stock i; scan = Some (scans_so i); quest = quest i }

  law : page_now c q.page ≡ encode_page q.found → Law c p s k x (Some entry) (knows scanner) s.ghost
  law same =
      let t : Law c p s k x (Some (PageIs q.page (Scanning ((team c).worker k).epoch k))) (begins_scan ((team c).worker k) (claim_with q (looked_all q) true)) s.ghost = (wins_it same).steps in
      let u : Law c p s k x (Some (PageIs q.page (Scanning q.epoch k))) (begins_scan ((team c).worker k) (claim_with q (looked_all q) true)) s.ghost =
      subst (λ (e : ℕ). Law c p s k x (Some (PageIs q.page (Scanning e k))) (begins_scan ((team c).worker k) (claim_with q (looked_all q) true)) s.ghost) epoch_is t in
      let v : Law c p s k x (Some entry) (begins_scan ((team c).worker k) (claim_with q (looked_all q) true)) s.ghost =
      subst (λ (j : ℕ). Law c p s k x (Some (PageIs q.page (Scanning q.epoch j))) (begins_scan ((team c).worker k) (claim_with q (looked_all q) true)) s.ghost) (sym worker_is) u in
      subst (λ (w : Known). Law c p s k x (Some entry) w s.ghost) (ap (λ (w : Known). begins_scan w (claim_with q (looked_all q) true)) is.as_known ∙ knows_scan) v

  same_layout : q.layout ≡ y.layout
  same_layout = own.layout ∙ is.fits.stage.0.layout

  first_fits : (b : Bool) → nat_eq q.page (board_page y.layout.pages) ≡ b → q.page ≤ board_page y.layout.pages
      → scan_sound.FitsStage y.layout.pages q.page (first b) × scan.HasStep (first b)
  first_fits true test low = ((grind (arith, nat_tests), omega arith, omega arith), tt)
  first_fits false test low = (let o : q.page ≢ board_page y.layout.pages = grind (arith, nat_tests) in omega (arith, o, low), tt)

  scanner_fits : Fits c.pages c.mutators k scanner
  scanner_fits =
      let f = fits_done c p s k y d back (Claims (record q { stage = Exchanges })) is in
      let low : q.page ≤ board_page y.layout.pages = subst (λ (l : Layout). q.page ≤ board_page l.pages) same_layout own.sound.page in
      let first = first_fits (nat_eq q.page (board_page y.layout.pages)) refl low in
      refit c.pages c.mutators k (done c p s k y d back) f (Scans begun back) f.end f.side f.task (
        record { layout = refl; epoch = refl; sound = record { pages = subst (λ (l : Layout). IsPageCount l.pages) is.fits.stage.0.layout is.fits.stage.0.sound.pages; page = low; fits = first.0 } },
        first.1,
        still_back (done c p s k y d back) (Scans begun back) back f.stage.1,
      )

  goes_won : page_now c q.page ≡ encode_page q.found → Goes c p s k (Some entry) x Won
  goes_won same =
      let now : (table c).page q.page ≡ q.found = word_is same in
      quiet c p s k x (Some entry) Won s.ghost is.below (subst (λ (z : Held). Law c p s k x (Some entry) (knows z) s.ghost) (sym turns) (law same)) (silent_by q.in_place)
      (record { pages = is.fits.stage.0.sound.pages; caller = is.fits.stage.0.sound.caller; epoch = is.fits.stage.0.sound.epoch; worker = is.fits.stage.0.sound.worker; stage = tt })
      (subst (Fits c.pages c.mutators k) (sym turns) scanner_fits)
      (record {
        page = inside;
        before = (let a : age_of ((table c).page q.page) ≡ age_of q.found = ap age_of now in let l = own.sound.earlier in omega (arith, a, l));
        after = (let t = (seen c (Some entry) k (knows (turned x Won)) s.formed is.below (inside, (let e = own.sound.epoch in e, let w = own.sound.worker in omega (arith, w)))).table_said in
            let a : age_of ((table (configuration_after c (Some entry) k (knows (turned x Won)))).page q.page) ≡ q.epoch + 1 =
            ap (λ z. age_of (z.page q.page)) t ∙ ap age_of (put_at (table c).page q.page (Scanning q.epoch q.worker) q.page refl) in omega (arith, a));
      })

  pub exchanges_page : StepsSo c p s k x
  exchanges_page =
      wants c p s k x (Exchange (place_of c.pages (Page q.page)) (encode_page q.found) (encode_page (Scanning q.epoch q.worker)))
      (ap (λ n. Some (Exchange (place_of n (Page q.page)) (encode_page q.found) (encode_page (Scanning q.epoch q.worker)))) pages)
      (exchanges c p s k x entry (encode_page q.found) inside (λ same. goes_won same)
      (λ other. ends c p s k y d back (Claims (record q { stage = Exchanges })) is (Lost (page_now c q.page)) (page_now c q.page) refl refl refl refl))
