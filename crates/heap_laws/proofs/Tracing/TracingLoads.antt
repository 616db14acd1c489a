-- The loads of a round and of the look at the end of the area.
use Rattle.std.proofs.Common.{◌≡◌, ◌≢◌, ℕ, ◌+◌, ◌*◌, ◌/◌, ◌<◌, ◌≤◌, true, Some, None, is_some, refl, sym, ap, ◌∙◌, arith, ⊎_elim, inl, inr}
use Rattle.std.proofs.lemmas.Bool.{cases_eq}
use Rattle.space_map.specs.declared.page_word.PageWord.{PageWord}
use Rattle.space_map.specs.PageWord.{age_of}
use Rattle.heap_state.specs.Cells.{SameGround}
use Rattle.heap_state.specs.Memory.Era.{Era, Memory}
use Rattle.heap_state.specs.Invariant.Ghost.{Ghost}
use Rattle.heap_state.specs.Invariant.Inductive.{Invariant, Knows}
use Rattle.heap_state.specs.Invariant.Parts.Pages.{Quiet}
use Rattle.heap_state.specs.Invariant.Parts.Scanning.{Rounds, Claims, Looks, LastLooks}
use Rattle.heap_state.specs.Known.{Team, Round, Claim, Look, LastLook}
use Rattle.heap_state.proofs.Puts.{some_same, none≢some}
use Rattle.heap_laws.specs.Steps.{with_worker, Preserves}
use Rattle.heap_laws.specs.Tracing.{in_round, ReadingTracedKeeps, ReadingRoundFrontKeeps, looking, look_begun, BeginningLookKeeps, LookingAtFrontKeeps, LookingAtBoardKeeps, LookingAtPageKeeps, LookingAtFillingPageKeeps, LooksAgain, about_to_trace, LookingAgainKeeps, filling_claim, about_to_fill, ClaimingFillingPageKeeps}
use Rattle.heap_laws.proofs.Cells.Kept.{none_is_some}
use Rattle.heap_laws.proofs.Steps.Learning.{learns, learnt}
use Rattle.heap_laws.proofs.Scanning.Scanners.{open_age}

module _ (E : Era) (m : Memory) (team : Team) (g : Ghost) (k : ℕ) (inv : Invariant E m team g) (below : k < team.count) where
  me : Knows E m.gate m.traced m.front m.low m.old_front m.old_low m.old_owed g m.page m.cross m.announced m.heap k (team.worker k)
  me = inv.workers k below

  -- a worker that knows what its new round says
  pub rounds_more : (r : Round) → Rounds E m.traced m.front (team.worker k).epoch r → Preserves E m m team (with_worker team k (in_round (team.worker k) r)) g g
  rounds_more r new = learns E m team g k (in_round (team.worker k) r) inv
      (assumption) (λ s e. (s, e, refl))
      (let c : (q : Round) → Some r ≡ Some q → Rounds E m.traced m.front (team.worker k).epoch q = λ q e. rw (← some_same e) new in
      let u = me in
      assumption)

  -- its new look
  pub looks_more : (l : Look) → Looks E m.gate.behind m.front m.page (team.worker k).epoch l → Preserves E m m team (with_worker team k (looking (team.worker k) l)) g g
  looks_more l new = learns E m team g k (looking (team.worker k) l) inv
      (assumption) (λ s e. (s, e, refl))
      (let c : (q : Look) → Some l ≡ Some q → Looks E m.gate.behind m.front m.page (team.worker k).epoch q = λ q e. rw (← some_same e) new in
      let u = me in
      assumption)

pub reads_traced : ReadingTracedKeeps
reads_traced E m team g k ready n = learnt (rounds_more E m team g k ready.invariant ready.member (record { traced = m.traced; front = None }) (record { traced_then = (omega arith, n); front_then = λ f e. none≢some e }))

pub reads_front : ReadingRoundFrontKeeps
reads_front E m team g k r f ready e front =
    let o = (ready.invariant.workers k ready.member).pages.round r e in
    learnt (rounds_more E m team g k ready.invariant ready.member (record r { front = Some f }) (record { traced_then = o.traced_then; front_then = λ y e d. let z : f ≡ y = some_same e in let q = front.now d in omega (arith, z, q) }))

pub begins_look : BeginningLookKeeps
begins_look E m team g k r ready begins =
    let inv = ready.invariant in
    let me = inv.workers k ready.member in
    let o = me.pages.round r begins.round in
    let d : (team.worker k).epoch ≡ E.epoch = sym begins.same ∙ ready.at_gate in
    learnt (looks_more E m team g k inv ready.member (look_begun E r) (record {
      earlier = let a = o.traced_then in let t = inv.tracing.top in omega (arith, a, t, d);
      none = λ e. (begins.none, inv.laid.order.0);
      board = λ e b. absurd (cc);
      full = λ e p s l. absurd (omega (arith, l));
      last = λ e b. absurd (cc);
      start = (λ e. refl, λ e. absurd (omega (arith, d, e)));
      late = λ l. absurd (omega (arith, l, d));
    }))

pub looks_at_front : LookingAtFrontKeeps
looks_at_front E m team g k l f ready is board filled front =
    let inv = ready.invariant in
    let o = (inv.workers k ready.member).pages.look l is.looks in
    learnt (looks_more E m team g k inv ready.member (record l { front = f }) (record {
      earlier = o.earlier;
      none = λ e. ((o.none e).0, let z = front.now e in omega (arith, z));
      board = o.board;
      full = o.full;
      start = o.start;
      last = λ e b. absurd (let q = sym b ∙ filled in cc);
      late = λ d y p s r. ⊎_elim
          (λ (b : l.board ≡ true). absurd (let q = sym b ∙ board in cc))
          (λ (b : (team.worker k).epoch + 1 ≡ E.epoch). let z = front.before b in let w = o.start.1 b in let q = inv.old_pages.old p (omega (arith, w, s)) (omega (arith, z, r)) in omega (arith, q, b))
          y;
    }))

pub looks_at_board : LookingAtBoardKeeps
looks_at_board E m team g k l ready is opened =
    let inv = ready.invariant in
    let me = inv.workers k ready.member in
    let o = me.pages.look l is.looks in
    learnt (looks_more E m team g k inv ready.member (record l { board = true }) (record {
      earlier = o.earlier;
      none = o.none;
      full = o.full;
      last = o.last;
      start = o.start;
      board = λ e b. rw e at opened;
      late = λ d y p s r. let a = open_age (m.page (E.board / 64)) (team.worker k).epoch opened in let b = inv.aged.board in o.late d (inr (omega (arith, a, b, d))) p s r;
    }))

pub looks_at_page : LookingAtPageKeeps
looks_at_page E m team g k l p ready is next opened =
    let inv = ready.invariant in
    let o = (inv.workers k ready.member).pages.look l is.looks in
    learnt (looks_more E m team g k inv ready.member (record l { upto = p + 1 }) (record {
      earlier = o.earlier;
      none = o.none;
      last = o.last;
      start = o.start;
      board = o.board;
      late = o.late;
      full = λ e q s r. ⊎_elim
          (λ (y : q ≡ p). rw (y, ← e) opened)
          (λ (y : q ≢ p). ⊎_elim
          (λ (z : p ≡ l.upto). o.full e q s (omega (arith, z, y, r)))
          (λ (z : 64 * p ≡ l.start). absurd (let w = o.start.0 e in omega (arith, z, w, y, r, s)))
          next)
          (cases_eq q p);
    }))

pub looks_at_filling : LookingAtFillingPageKeeps
looks_at_filling E m team g k l ready is opened =
    let inv = ready.invariant in
    let o = (inv.workers k ready.member).pages.look l is.looks in
    learnt (looks_more E m team g k inv ready.member (record l { filled = true }) (record {
      earlier = o.earlier;
      none = o.none;
      full = o.full;
      start = o.start;
      board = o.board;
      late = o.late;
      last = λ e b p s r. rw (← e) (opened p s r);
    }))

-- ---- the second look

module _ (E : Era) (m : Memory) (team : Team) (g : Ghost) (k : ℕ) (l : Look) (inv : Invariant E m team g) (below : k < team.count) (again : LooksAgain E m team k l) where
  o : Looks E m.gate.behind m.front m.page (team.worker k).epoch l
  o = (inv.workers k below).pages.look l again.looks

  quiet : (team.worker k).epoch ≡ E.epoch → Quiet E m.gate.behind m.front m.page
  quiet e = record {
    none = (o.none e).0;
    board = o.board e again.board;
    full = λ p s r. let f = again.front.now e in let w = o.start.0 e in let c = again.full in o.full e p s (omega (arith, f, w, c, s, r));
  }

  pub looks_last : l.filled ≡ true → LastLooks E m.traced m.gate.behind m.front m.page (team.worker k).epoch (record { traced = l.traced })
  looks_last filled = record {
    earlier = o.earlier;
    now = λ e t. (quiet e, λ p s r. let f = again.front.now e in o.last e filled p (omega (arith, f, s)) (omega (arith, f, r)));
    late = λ d. let b = inv.tracing.bottom in omega (arith, b, d);
  }

  pub fills : (p : ℕ) (old : PageWord) → l.start ≤ 64 * p → 64 * p < l.front → l.front < 64 * p + 64 → age_of old ≤ (team.worker k).epoch
      → Claims E m.front m.gate.behind g.size g.writer m.page (team.worker k).epoch (filling_claim p old)
  fills p old s f n a = record {
    earlier = a;
    full = λ e i. absurd (cc);
    clear = λ e i. absurd (cc);
    last = λ e i. let z = again.front.now e in let t = o.start.0 e in (omega (arith, s, t), omega (arith, z, f), inr (omega (arith, z, n), quiet e));
    late = λ y d. o.late d (inl again.board) p s f;
    in_place = λ i. refl;
  }

pub looks_again : LookingAgainKeeps
looks_again E m team g k l ready still again filled =
    let inv = ready.invariant in
    let me = inv.workers k ready.member in
    learnt (learns E m team g k (about_to_trace (team.worker k) l) inv
    (let ground : is_some (team.worker k).pass ≡ true → SameGround (about_to_trace (team.worker k) l) (team.worker k) = λ walks. none_is_some still walks in assumption)
    (λ s e. (s, e, refl))
    (let c : (q : LastLook) → Some (record { traced = l.traced }) ≡ Some q → LastLooks E m.traced m.gate.behind m.front m.page (team.worker k).epoch q = λ q e. rw (← some_same e) (looks_last E m team g k l inv ready.member again filled) in
    let none : (q : Look) → None ≡ Some q → Looks E m.gate.behind m.front m.page (team.worker k).epoch q = λ q e. none≢some e in
    assumption))

pub claims_filling : ClaimingFillingPageKeeps
claims_filling E m team g k l p old ready again s f n a =
    let inv = ready.invariant in
    let me = inv.workers k ready.member in
    learnt (learns E m team g k (about_to_fill (team.worker k) p old) inv
    (assumption) (λ s e. (s, e, refl))
    (let c : (q : Claim) → Some (filling_claim p old) ≡ Some q → Claims E m.front m.gate.behind g.size g.writer m.page (team.worker k).epoch q = λ q e. rw (← some_same e) (fills E m team g k l inv ready.member again p old s f n a) in
    let none : (q : Look) → None ≡ Some q → Looks E m.gate.behind m.front m.page (team.worker k).epoch q = λ q e. none≢some e in
    assumption))
