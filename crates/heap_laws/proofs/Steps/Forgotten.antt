-- What a worker may forget: a group of its parts, and all others stay.
use Rattle.std.proofs.Common.{◌≡◌, Bool, false, Option, Some, None, is_some, refl, sym, ap, ◌∙◌, ⊎_elim, ℕ}
use Rattle.heap_state.specs.Known.{Known, Scan, Round, Claim, Look, LastLook, GateStep, Reset, is_sized}
use Rattle.heap_state.proofs.Puts.{some_same, none≢some}
use Rattle.heap_laws.specs.Composing.{SameToOthers, LessAtHand, LessAtPages, LessAtGate, SameAtChain, IsAtMost, IsLess, IsLessScan, SameScan, LessScan, IsLessRound, of_no_record, RoundsAreForgotten, TracedIsForgotten, ScannedRecordsAreForgotten, RoundFrontsAreForgotten, SizesAreForgotten}

module _ (w : Known) where
  pub same_to_others : SameToOthers w w
  same_to_others = assumption

  pub same_at_hand : LessAtHand w w
  same_at_hand = assumption

  pub same_round : (r : Round) → w.round ≡ Some r → IsLessRound r w.round
  same_round r e = record { more = r; is = e; traced = refl; front = λ _ y. y }

  pub same_at_pages : LessAtPages w w
  same_at_pages = assumption

  pub same_at_gate : LessAtGate w w
  same_at_gate = assumption

  pub same_at_chain : SameAtChain w w
  same_at_chain = assumption

-- a worker that knows less of its scan
pub of_scan : (w : Known) (a b : Scan) → w.scan ≡ Some b → IsLessScan a b → IsAtMost (record w { scan = Some a }) w
of_scan w a b has less = record { others = same_to_others w; scan = LessScan a b refl has less; hand = same_at_hand w; round = same_round w; pages = same_at_pages w; gate = same_at_gate w; chain = same_at_chain w }

-- of the gate
of_gate : (w : Known) (gate_step : Option GateStep) (reset : Option Reset) (seen : Bool) (size : Option ℕ) → LessAtGate (record w { gate_step = gate_step; reset = reset; traced_seen = seen; size_seen = size }) w
    → IsAtMost (record w { gate_step = gate_step; reset = reset; traced_seen = seen; size_seen = size }) w
of_gate w gate_step reset seen size less = record { others = same_to_others w; scan = SameScan refl; hand = same_at_hand w; round = same_round w; pages = same_at_pages w; gate = less; chain = same_at_chain w }

-- ---- the cases

pub scanned_records_are_forgotten : ScannedRecordsAreForgotten
scanned_records_are_forgotten w s has =
    of_scan w (of_no_record s) s has (record { page = refl; cursor = refl; in_place = refl; over = λ _ e. absurd (cc); headed = λ _ e. absurd (cc); current = λ _ e. absurd (cc); inner = λ e. e; ended = refl })

-- a round and its last look, and what is to be forgotten of its claim and its look, where the worker doesn't walk over the chain
pub of_round : (w : Known) (claim : Option Claim) (look : Option Look) → w.pass ≡ None → IsLess claim w.claim → IsLess look w.look → IsAtMost (record w { round = None; claim = claim; look = look; last_look = None }) w
of_round w claim look still less_claim less_look = record {
  others = same_to_others w;
  scan = SameScan refl;
  hand = same_at_hand w;
  round = λ _ e. absurd (cc);
  pages = let no_look : (l : LastLook) → None ≡ Some l → w.last_look ≡ Some l = λ _ e. absurd (cc) in assumption (same_at_pages w);
  gate = same_at_gate w;
  chain = record { linking = refl; pass = refl; ground = λ walks. absurd (let q = sym (ap is_some still) ∙ walks in cc) };
}

pub rounds_are_forgotten : RoundsAreForgotten
rounds_are_forgotten w still = of_round w None None still (λ _ e. absurd (cc)) (λ _ e. absurd (cc))

-- that a round read FRONT
pub round_fronts_are_forgotten : RoundFrontsAreForgotten
round_fronts_are_forgotten w r has = record {
  others = same_to_others w;
  scan = SameScan refl;
  hand = same_at_hand w;
  round = λ z e. record { more = r; is = has; traced = ap (λ (y : Round). y.traced) (sym (some_same e)); front = λ f y. absurd (let q = ap (λ (y : Round). y.front) (some_same e) in none≢some (q ∙ y)) };
  pages = same_at_pages w;
  gate = same_at_gate w;
  chain = same_at_chain w;
}

-- that the epoch is traced
pub traced_is_forgotten : TracedIsForgotten
traced_is_forgotten w asking none = of_gate w w.gate_step w.reset false w.size_seen (record {
  gate_step = λ _ e. e;
  reset = λ _ e. e;
  sized = refl;
  size_seen = λ _ e. e;
  traced_seen = λ e. absurd (cc);
  asks = λ o. absurd (⊎_elim (λ f. let q = sym asking ∙ f in cc) (λ f. let q = sym (ap is_some none) ∙ f in cc) o);
})

-- the size of the epoch's space
pub sizes_are_forgotten : SizesAreForgotten
sizes_are_forgotten w = of_gate w w.gate_step w.reset w.traced_seen None
    (record { gate_step = λ _ e. e; reset = λ _ e. e; sized = refl; size_seen = λ _ e. absurd (cc); traced_seen = λ e. e; asks = λ _. refl })

-- the gate, or the flip that was read and has not stored a size
pub reads_are_forgotten : (w : Known) → is_sized w.reset ≡ false → IsAtMost (record w { gate_step = None; reset = None }) w
reads_are_forgotten w loose = of_gate w None None w.traced_seen w.size_seen (record { gate_step = λ _ e. absurd (cc); reset = λ _ e. absurd (cc); sized = sym loose; size_seen = λ _ e. e; traced_seen = λ e. e; asks = λ _. refl })
