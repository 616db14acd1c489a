-- Steps that spare the checkpoints: what is done before the epoch is traced, and a mutator's stores on its pages.
use Rattle.std.proofs.Common.{◌≡◌, ◌≢◌, ℕ, ◌+◌, ◌*◌, ◌/◌, ◌<◌, ◌≤◌, ◌⊎◌, inl, inr, ⊎_elim, true, false, Some, ap, ◌∙◌, arith}
use Rattle.std.proofs.lemmas.Bool.{cases_lt, cases_Bool}
use Rattle.space_map.specs.declared.page_word.PageWord.TheVariants.{Open, Scanning}
use Rattle.space_map.specs.declared.save_word.SaveWord.TheVariants.{Saving, Saved, New}
use Rattle.space_map.specs.PageWord.{age_of}
use Rattle.space_map.specs.SaveWord.{number_of}
use Rattle.space_map.specs.Spaces.{page_of}
use Rattle.heap_state.specs.Invariant.Ghost.{Ghost}
use Rattle.heap_state.specs.Invariant.Inductive.{Invariant, Knows}
use Rattle.heap_state.specs.Invariant.Parts.Copying.{IsOrigin}
use Rattle.heap_state.specs.Memory.Era.{Era, Memory, era_of, memory_of}
use Rattle.heap_state.specs.Memory.Table.{Table}
use Rattle.heap_state.specs.Saving.Frozen.{Frozen}
use Rattle.heap_state.specs.Saving.Parts.{SavingWords, SavingStands, KnowsSaving}
use Rattle.heap_state.specs.Saving.Savers.{Saver}
use Rattle.heap_state.specs.Saving.Words.{Saves}
use Rattle.heap_state.specs.Known.{Team, Origin, Register, Scanned, Stock, Quest, Copy, Scan, Claim, LastLook, is_late}
use Rattle.heap_state.proofs.Puts.{true_false}
use Rattle.heap_laws.specs.Allocation.Stocks.{HasStock, OpensNext}
use Rattle.heap_laws.specs.Saving.Rows.{SparesWord, SparesPage, SparesTraced}
use Rattle.heap_laws.specs.Saving.Sparing.{IsTracing, AsksForCopy, CopiesRecord, ScansPage, WalksChain, WinsItsPage, WinsItsTraced, TracingIsBefore, TracedWordsAreSpared, ClaimsAreSpared, ScannedPagesAreSpared, TracedIsSpared, MayStoreOn, StoresAtRest, StoresGuarded, StoresAreSpared, ZerosAreSpared, MayOpenNew, OpensBeforeAll, OpensMarked, NewPagesAreSpared, NewPagesAreLoose}
use Rattle.heap_laws.specs.Scanning.Claims.{WinsPage}
use Rattle.heap_laws.specs.Steps.{Ready}
use Rattle.heap_laws.specs.Tracing.{WinsTraced}
use Rattle.heap_laws.proofs.Scanning.Claimed as claimed
use Rattle.heap_laws.proofs.Scanning.Scanners.{open_age}
use Rattle.heap_laws.proofs.Tracing.SecondLooks.{looked_twice}
use Rattle.heap_laws.proofs.Tracing.TracedExchange.{leads_nowhere, traces}

-- ---- what traces an epoch

module _ (E : Era) (m : Memory) (team : Team) (g : Ghost) (k : ℕ) (ready : Ready E m team g k) where
  abbrev inv : Invariant E m team g
  inv = ready.invariant

  me : Knows E m.gate m.traced m.front m.low m.old_front m.old_low m.old_owed g m.page m.cross m.announced m.heap k (team.worker k)
  me = inv.workers k ready.member

  module _ (traced : m.traced ≡ E.epoch + 1) where
    nobody_scans : (s : Scan) → (team.worker k).scan ≡ Some s → ⊥
    nobody_scans s is = (leads_nowhere E m team g ready.laid_out inv traced).none_scans k s ready.member is

    nobody_copies : (c : Copy) → (team.worker k).copy ≡ Some c → ⊥
    nobody_copies c is = (leads_nowhere E m team g ready.laid_out inv traced).none_copies k c ready.member is

    nobody_is_late : is_late E.epoch (team.worker k) ≡ true → ⊥
    nobody_is_late late = let some = me.licensed.counted late in let none = (inv.tracing.quiet traced).none in omega (arith, some, none)

    -- who asks for a copy scans, or is late
    nobody_asks : (q : Quest) → (team.worker k).quest ≡ Some q → ⊥
    nobody_asks q is = by_origin q.origin (me.origin q is)
      where
        by_origin : (o : Origin) → IsOrigin E g.size g.writer g.kind m.heap (is_late E.epoch (team.worker k)) (team.worker k).done (team.worker k).registers (team.worker k).scan q.old o → ⊥
        by_origin (Register r) from = nobody_is_late from.0
        by_origin (Scanned x) from = nobody_scans from.0.0 from.0.1

    -- each page that can be claimed is open
    claimed_is_open : (q : Claim) → (q.page ≡ E.board / 64) ⊎ ((E.start ≤ 64 * q.page) × (64 * q.page < m.front)) → m.page q.page ≡ Open E.epoch
    claimed_is_open q place = ⊎_elim
        (λ (board : q.page ≡ E.board / 64). rw board (inv.tracing.quiet traced).board)
        (λ (inside : (E.start ≤ 64 * q.page) × (64 * q.page < m.front)). ⊎_elim
        (λ (last : m.front < 64 * q.page + 64). inv.tracing.last traced q.page inside.1 last)
        (λ (full : 64 * q.page + 64 ≤ m.front). (inv.tracing.quiet traced).full q.page inside.0 full)
        (cases_lt m.front (64 * q.page + 64)))
        place

  claim_is_early : (q : Claim) → WinsPage E m team k q → age_of (m.page q.page) ≤ E.epoch
  claim_is_early q wins =
      let a : age_of (m.page q.page) ≡ age_of q.old = ap age_of wins.unchanged in
      let b = (me.pages.claim q wins.claims).earlier in
      let c = me.timely.past in
      omega (arith, a, b, c)

  nobody_claims : (q : Claim) → WinsPage E m team k q → m.traced ≡ E.epoch + 1 → ⊥
  nobody_claims q wins traced =
      let a = open_age (m.page q.page) E.epoch (claimed_is_open traced q (claimed.place E m team g k q ready wins)) in
      let b = claim_is_early q wins in
      omega (arith, a, b)

  nobody_traces : (l : LastLook) → WinsTraced m team k l → m.traced ≡ E.epoch + 1 → ⊥
  nobody_traces l wins traced =
      let a = (looked_twice ready wins.looks).earlier in
      let b = wins.unchanged in
      let c = me.timely.past in
      omega (arith, traced, a, b, c)

  by_cases : IsTracing E m team k → m.traced ≡ E.epoch + 1 → ⊥
  by_cases (AsksForCopy q is) traced = nobody_asks traced q is
  by_cases (CopiesRecord c is) traced = nobody_copies traced c is
  by_cases (ScansPage s is) traced = nobody_scans traced s is
  by_cases (WalksChain q is) traced = let now = (inv.cells.chain.pass k q ready.member is).now.1 in omega (arith, now, traced)
  by_cases (WinsItsPage q wins) traced = nobody_claims q wins traced
  by_cases (WinsItsTraced l wins) traced = nobody_traces l wins traced

  -- a page of a stock that isn't opened yet isn't open
  shut : (q : Stock) → HasStock team k q → (p : ℕ) → q.opened ≤ 64 * p → 64 * p + 64 ≤ q.end → m.page p ≢ Open E.epoch
  shut q has p low high opened =
      let own = me.stock q has.has in
      let now = me.timely.running has.runs in
      let age = (inv.stocks.stocked k ready.member q has.has (own ∙ now)).shut p low high in
      let is = open_age (m.page p) E.epoch opened in
      omega (arith, age, is)

pub tracing_is_before : TracingIsBefore
tracing_is_before E m team g k ready tracing = λ traced. by_cases E m team g k ready tracing traced

-- ---- no checkpoint is in progress then

module _ (t : Table) (s : Saves) (z : Frozen) (words : SavingWords t s z) where
  none_runs : t.traced ≢ t.gate.epoch + 1 → {A : Type 0} → s.done < s.snap → A
  none_runs untraced runs = absurd (untraced (words.traced runs))

  -- a page that isn't open in the epoch is no page of a checkpoint in progress
  not_held : (p : ℕ) → t.page p ≢ Open t.gate.epoch → s.done < s.snap → z.held p ≡ false
  not_held p closed runs = ⊎_elim
      (λ (held : z.held p ≡ true). absurd (closed (words.opened runs p held).1))
      (λ (loose : z.held p ≡ false). loose)
      (cases_Bool (z.held p))

same_epoch : {d v : ℕ} → Open d ≡ Open v → v ≡ d
same_epoch is = cc

-- a word or a page's word that is stored by who traces the epoch
pub traced_words_are_spared : TracedWordsAreSpared
traced_words_are_spared t s z team g saver k addr word stands ready tracing =
    let untraced = tracing_is_before (era_of t) (memory_of t) team g k ready tracing in
    SparesWord addr word (λ runs held. none_runs t s z stands.words untraced runs)

pub claims_are_spared : ClaimsAreSpared
claims_are_spared t s z team g saver k q stands ready wins =
    let untraced = tracing_is_before (era_of t) (memory_of t) team g k ready (WinsItsPage q wins) in
    SparesPage q.page (Scanning (team.worker k).epoch k) (λ runs. none_runs t s z stands.words untraced runs) (λ v is. absurd (cc))

pub scanned_pages_are_spared : ScannedPagesAreSpared
scanned_pages_are_spared t s z team g saver k r stands ready scanned =
    let untraced = tracing_is_before (era_of t) (memory_of t) team g k ready (ScansPage r scanned.scans) in
    let now = (ready.invariant.workers k ready.member).present r scanned.scans in
    SparesPage r.page (Open (team.worker k).epoch) (λ runs. none_runs t s z stands.words untraced runs)
    (λ v is. (same_epoch is ∙ now, inr untraced))

pub traced_is_spared : TracedIsSpared
traced_is_spared t s z team g saver k l stands ready wins =
    SparesTraced ((team.worker k).epoch + 1) (tracing_is_before (era_of t) (memory_of t) team g k ready (WinsItsTraced l wins))
    (ap (λ n. n + 1) (traces (era_of t) (memory_of t) team g k l ready wins).now)

-- ---- a mutator's stores on open pages

-- a mutator that recalled a checkpoint in progress finds it to be the one that is, if one is
guarded_saved : (t : Table) (s : Saves) (z : Frozen) (k : ℕ) (w : Saver) (page : ℕ) → SavingWords t s z → KnowsSaving t s z k w → MayStoreOn w page
    → s.done < s.snap → z.held page ≡ true → s.save page ≡ Saved s.snap
guarded_saved t s z k w page words knows (StoresAtRest recalled read none) runs held =
    absurd (let rests = (knows.recalls recalled).none read none in omega (arith, rests, runs))
guarded_saved t s z k w page words knows (StoresGuarded is) runs held =
    let guarded = knows.guarded page is in
    let same = ((knows.recalls guarded.recalled.0).one guarded.recalled.1).0 in
    ⊎_elim
    (λ (saved : s.save page ≡ Saved w.running). rw same at saved)
    (λ (new : s.save page ≡ New w.running). absurd (words.old runs page held (rw same at new)))
    guarded.says

pub stores_are_spared : StoresAreSpared
stores_are_spared t s z count saver k addr word stands in_team may =
    SparesWord addr word (guarded_saved t s z k (saver k) (page_of addr) stands.words (stands.workers.each k in_team) may)

-- ---- a mutator's new pages

pub zeros_are_spared : ZerosAreSpared
zeros_are_spared t s z team g saver k q stands ready has more =
    let own = (ready.invariant.workers k ready.member).stock q has.has in
    let now = (ready.invariant.workers k ready.member).timely.running has.runs in
    let stocked = ready.invariant.stocks.stocked k ready.member q has.has (own ∙ now) in
    let opened : q.opened ≤ q.zeroed = ⊎_elim
    (λ (before : q.opened ≤ q.at). let far = stocked.so_far in omega (arith, before, far))
    (λ (done : q.zeroed ≡ q.end). absurd (omega (arith, done, more)))
    stocked.order in
    let aligned = stocked.aligned in
    let low : q.opened ≤ 64 * (q.zeroed / 64) = omega (arith, opened, aligned) in
    let high : 64 * (q.zeroed / 64) + 64 ≤ q.end = omega (arith, more, aligned) in
    let closed = shut (era_of t) (memory_of t) team g k ready q has (q.zeroed / 64) low high in
    SparesWord q.zeroed 0 (λ runs held. absurd (true_false (not_held t s z stands.words (q.zeroed / 64) closed runs) held))

-- the SAVE of a page that is opened is of the last checkpoint
marked_last : (t : Table) (s : Saves) (z : Frozen) (k : ℕ) (w : Saver) (page : ℕ) → KnowsSaving t s z k w → MayOpenNew w page → s.snap ≤ number_of (s.save page)
marked_last t s z k w page knows (OpensBeforeAll recalled none) = let same = (knows.recalls recalled).snap in omega (arith, same, none)
marked_last t s z k w page knows (OpensMarked is) = rw (knows.marked page is).1 (omega arith)

-- the next page of a stock to open isn't open
closed : (E : Era) (m : Memory) (team : Team) (g : Ghost) (k page : ℕ) (q : Stock) → Ready E m team g k → OpensNext team k q page → m.page page ≢ Open E.epoch
closed E m team g k page q ready opens =
    let now = (ready.invariant.workers k ready.member).timely.running opens.own.runs in
    let own = (ready.invariant.workers k ready.member).stock q opens.own.has in
    let aligned = (ready.invariant.stocks.stocked k ready.member q opens.own.has (own ∙ now)).aligned in
    let at = opens.at in
    let more = opens.more in
    shut E m team g k ready q opens.own page (omega (arith, at)) (omega (arith, at, more, aligned))

-- who saves a page saves one of the checkpoint in progress
saved_is_held : (t : Table) (s : Saves) (z : Frozen) (count : ℕ) (saver : ℕ → Saver) (page c k : ℕ) → SavingStands t s z count saver → s.save page ≡ Saving c k
    → (s.done < s.snap) × (z.held page ≡ true)
saved_is_held t s z count saver page c k stands is =
    let named = stands.workers.savers page c k is in
    let won = named.1 in
    let saves = (stands.workers.each k named.0).saves won.step won.is won.won in
    let runs = saves.runs in
    (omega (arith, runs), rw won.page at saves.held)

pub new_pages_are_loose : NewPagesAreLoose
new_pages_are_loose t s z team g saver k page q stands ready opens =
    let loose = not_held t s z stands.words page (closed (era_of t) (memory_of t) team g k page q ready opens) in
    record {
      held = loose;
      unnamed = λ c worker is.
          let saved = saved_is_held t s z team.count saver page c worker stands is in
          true_false (loose saved.0) saved.1;
    }

pub new_pages_are_spared : NewPagesAreSpared
new_pages_are_spared t s z team g saver k page q stands ready opens may =
    let now = (ready.invariant.workers k ready.member).timely.running opens.own.runs in
    SparesPage page (Open (team.worker k).epoch) (new_pages_are_loose t s z team g saver k page q stands ready opens).held
    (λ v is. (same_epoch is ∙ now, inl (marked_last t s z k (saver k) page (stands.workers.each k ready.member) may)))
