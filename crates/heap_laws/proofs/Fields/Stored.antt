-- A mutator's store in a word of a record or on the board keeps the invariant and the cycle.
use Rattle.std.proofs.Common.{◌≡◌, ◌≢◌, ℕ, ◌+◌, ◌/◌, ◌<◌, true, false, Option, Some, refl, sym, ap, ◌∙◌, arith, subst, ⊎_elim, ◌⊎◌, inl, inr}
use Rattle.plain_state.specs.Layout.{is_field, word_of_value}
use Rattle.plain_state.specs.declared.kind.Kind.TheVariants.{Weak}
use Rattle.space_map.specs.declared.page_word.PageWord.TheVariants.{Open, Scanning}
use Rattle.heap_state.specs.Invariant.Parts.Cells.{Cells}
use Rattle.heap_state.specs.Memory.Era.{Era, IsLaidOut, Memory}
use Rattle.heap_state.specs.Functions.{put}
use Rattle.heap_state.specs.Invariant.Ghost.{Ghost, InRecord, OnBoard, Here}
use Rattle.heap_state.specs.Invariant.Inductive.{Invariant, Knows}
use Rattle.heap_state.specs.Known.{Known, Team, Quest, Copy, Scan, Linking, Pass, is_late}
use Rattle.heap_state.proofs.Workers.Frames.{counted_put, staffed_put, scanned_put, stocks_put, numbered_put}
use Rattle.heap_state.proofs.Puts.{put_is, team_put}
use Rattle.heap_state.proofs.Records.Layouts.{values_behind_header}
use Rattle.heap_laws.specs.Cells.Frames.{IsNoCellWord}
use Rattle.heap_laws.specs.Fields.Words.{IsWordOf, MayStore, WordsAreLoaded, BoardIsLoaded, AccessesAreAllowed}
use Rattle.heap_laws.specs.Fields.Held.{MayHold}
use Rattle.heap_laws.specs.Steps.{Ready, InWord, with_word, with_worker}
use Rattle.heap_laws.specs.Targets.Frames.{IsNoTarget}
use Rattle.heap_laws.proofs.Cells.Kept.{in_chain, word_keeps, words_no_targets, words_unread}
use Rattle.heap_laws.proofs.Fields.Slots.{Slot, here_slot, headed_slot, raw_slot, counts_slot, opened_slot, landing_slot, older_slot, new_slot, old_space_slot, stocks_slot, scans_slot, copies_slot, keeps_slot, origin_slot}
use Rattle.heap_laws.proofs.Frames.Values.{one_place, board_here, field_here}
use Rattle.heap_laws.proofs.Steps.RowPlaces.{below_board}

-- a store on an open page, or in a word that mutators don't read
pub record Stores (E : Era) (m : Memory) (g : Ghost) (x v : ℕ) : Type 0 where
  pub slot : Slot E m.front m.low g.size g.writer g.kind x v
  pub opens : (m.page (x / 64) ≡ Open E.epoch) ⊎ ¬ (Here E g.size g.writer g.kind x)

-- ---- the invariant

-- a worker knows what it knew
pub worker_slot : (E : Era) (m : Memory) (g : Ghost) (x v k : ℕ) (w : Known) → Stores E m g x v
    → Knows E m.gate m.traced m.front m.low m.old_front m.old_low m.old_owed g m.page m.cross m.announced m.heap k w
    → Knows E m.gate m.traced m.front m.low m.old_front m.old_low m.old_owed g m.page m.cross m.announced (put m.heap x v) k w
worker_slot E m g x v k w st p =
    let a = λ (q : Quest) (e : w.quest ≡ Some q). origin_slot st.slot m.heap (is_late E.epoch w) w.done w.registers w.scan apart q.old q.origin (p.origin q e) in
    let b = λ (c : Copy) (e : w.copy ≡ Some c). copies_slot st.slot m.heap k c (p.copy c e) in
    let c = λ (c : Copy) (e : w.copy ≡ Some c). keeps_slot st.slot m.heap k c (p.copy c e) (p.keeps c e) in
    let d = λ (s : Scan) (e : w.scan ≡ Some s). scans_slot st.slot m.heap k s (p.scan s e) in
    assumption
  where
    -- a page that is scanned is not open
    apart : (s : Scan) → w.scan ≡ Some s → s.cursor / 64 ≡ s.page → Here E g.size g.writer g.kind s.cursor → s.cursor ≢ x
    apart s e f here y = ⊎_elim
        (λ (opens : m.page (x / 64) ≡ Open E.epoch).
        let c : m.page s.page ≡ Scanning E.epoch k = (p.scan s e).claimed in
        let q : m.page (x / 64) ≡ Scanning E.epoch k = ap m.page (ap (λ z. z / 64) (sym y) ∙ f) ∙ c in
        let o = sym opens ∙ q in
        absurd (cc))
        (λ (unread : ¬ (Here E g.size g.writer g.kind x)). absurd (unread (rw y at here)))
        st.opens

-- the worker with this cell to link, and this walk over the chain
abbrev pub with_chain_part : Known → Option Linking → Option Pass → Known
with_chain_part w l p = record w { linking = l; pass = p }

-- The invariant is kept if what is known of the cells is. Worker k may have another cell to link then, or walk elsewhere.
module _ (E : Era) (m : Memory) (team : Team) (g : Ghost) (k x v : ℕ) (l : Option Linking) (p : Option Pass) (st : Stores E m g x v) (ready : Ready E m team g k)
    (cells : Cells E (with_word m x v) (with_worker team k (with_chain_part (team.worker k) l p)) g) where
  abbrev w : Known
  w = with_chain_part (team.worker k) l p

  abbrev KnowsThen : ℕ → Known → Type 0
  KnowsThen = Knows E m.gate m.traced m.front m.low m.old_front m.old_low m.old_owed g m.page m.cross m.announced (put m.heap x v)

  knows : (j : ℕ) → j < team.count → KnowsThen j (team.worker j)
  knows j below = worker_slot E m g x v j (team.worker j) st (ready.invariant.workers j below)

  own : KnowsThen k w
  own = let u = knows k ready.member in assumption

  pub slot_keeps : Invariant E (with_word m x v) (with_worker team k w) g
  slot_keeps =
      let inv = ready.invariant in
      let a = headed_slot st.slot m.heap inv.headed in
      let b = raw_slot st.slot m.heap inv.raw_words in
      let n = counts_slot st.slot m.heap inv.counts in
      let c = opened_slot st.slot m.heap inv.opened in
      let d = landing_slot st.slot m.heap inv.landing in
      let e = older_slot st.slot m.heap inv.older in
      let f = new_slot st.slot m.heap st.slot.lay.below inv.new in
      let h = old_space_slot st.slot m.heap inv.old_space in
      let i = stocks_put team.worker k w (λ _ e. e) (stocks_slot st.slot m.heap inv.stocks) in
      let p1 = counted_put team.worker k w refl refl inv.counted in
      let p2 = staffed_put team.worker k w refl inv.staffed in
      let p3 = scanned_put team.worker k w refl inv.scanned in
      let p4 = numbered_put team.worker k w refl inv.numbered in
      let p5 = team_put team.count KnowsThen team.worker k w (λ j below _. knows j below) own in
      assumption

-- a word is stored that is no cell's, and no worker changes
pub slot_stays : (E : Era) (m : Memory) (team : Team) (g : Ghost) (k x v : ℕ) → Stores E m g x v → Ready E m team g k → IsNoCellWord E m g x → IsNoTarget g x → x < E.board + 64 → Invariant E (with_word m x v) team g
slot_stays E m team g k x v st ready none no_target below =
    let w : Known = team.worker k in
    subst (λ (f : ℕ → Known). Invariant E (with_word m x v) (record team { worker = f }) g) (sym (put_is team.worker team.worker k w refl (λ _ _. refl)))
    (slot_keeps E m team g k x v w.linking w.pass st ready
    (word_keeps E m (with_word m x v) team g g k x v w (InWord x v below) none no_target (assumption) (in_chain E w w refl refl refl (assumption)) ready.invariant.cells))

-- ---- the two places

-- a word of a record
pub in_word : (E : Era) (m : Memory) (team : Team) (g : Ghost) (a x v : ℕ) → IsLaidOut E → Invariant E m team g → IsWordOf E g.size g.writer g.kind a x
    → m.page ((a + word_of_value (g.kind a) x) / 64) ≡ Open E.epoch → MayStore E g.size g.writer (g.kind a) x v → Stores E m g (a + word_of_value (g.kind a) x) v
unfolding Here
in_word E m team g a x v lay inv f open_page may = record { slot = slot; opens = inl open_page }
  where
    i : ℕ
    i = word_of_value (g.kind a) x

    by_place : InRecord E g.size g.writer g.kind (a + i) ⊎ OnBoard E (a + i) → MayHold E g.size g.writer v
    by_place (inl u) =
        let q : u.a ≡ a = one_place g.size u.a a u.i i inv.laid.apart u.field.last f.last (sym u.at) in
        let s : u.i ≡ i = (let t = u.at in omega (arith, q, t)) in
        may.held (let t : is_field (g.kind a) i ≡ true = rw (q, s) at u.field.field in t)
    by_place (inr b) = absurd (let q = inv.laid.lies a f.stands in omega (arith, q, b, f.last, inv.laid.order, lay.below, lay.old_below))

    slot : Slot E m.front m.low g.size g.writer g.kind (a + i) v
    slot = record {
      lay = lay;
      laid = inv.laid;
      place = inl (record { a = a; i = i; word = record { stands = f.stands; written = f.written; inside = f.inside; first = omega (arith, values_behind_header (g.kind a)); last = f.last }; at = refl });
      held = by_place;
      number = λ b j l e n. let q = one_place g.size b a j i inv.laid.apart l f.last e in let s : j ≡ i = omega (arith, q, e) in may.number (let t : is_field (g.kind a) i ≡ false = rw (q, s) at n in t);
      value = λ b count l k e. let q = one_place g.size b a 1 i inv.laid.apart l f.last e in let s : 1 ≡ i = omega (arith, q, e) in absurd (let t : i ≡ x + 2 = ap (λ y. word_of_value y x) (ap g.kind (sym q) ∙ k) in omega (arith, s, t));
    }

-- a word of the board
pub on_board : (E : Era) (m : Memory) (team : Team) (g : Ghost) (x v : ℕ) → IsLaidOut E → Invariant E m team g → x < 16
    → m.page (E.board / 64) ≡ Open E.epoch → MayHold E g.size g.writer v → Stores E m g (E.board + x) v
on_board E m team g x v lay inv l open_page may = record {
  slot = here_slot lay inv.laid (board_here E g.size g.writer g.kind x l) may;
  opens = inl (let e : (E.board + x) / 64 ≡ E.board / 64 = omega (arith, lay.board, l) in rw e open_page);
}

module _ (E : Era) (m : Memory) (team : Team) (g : Ghost) (k : ℕ) (ready : Ready E m team g k) where
  -- a store in a word of a record that is no cell, whose page is open
  pub words_are_stored : (a x v : ℕ) → g.kind a ≢ Weak → IsWordOf E g.size g.writer g.kind a x → m.page ((a + word_of_value (g.kind a) x) / 64) ≡ Open E.epoch → MayStore E g.size g.writer (g.kind a) x v
      → Invariant E (with_word m (a + word_of_value (g.kind a) x) v) team g
  words_are_stored a x v other f o may = slot_stays E m team g k (a + word_of_value (g.kind a) x) v (in_word E m team g a x v ready.laid_out ready.invariant f o may) ready
      ((words_unread ready).of_others a (word_of_value (g.kind a) x) f.last (λ c. other c.weak)) ((words_no_targets ready).of_others a (word_of_value (g.kind a) x) f.last (λ c. other c.weak))
      (let below = below_board ready a f.stands in let z = f.last in omega (arith, below, z))

  -- a store on the board, which is open
  pub board_is_stored : (x v : ℕ) → x < 16 → m.page (E.board / 64) ≡ Open E.epoch → MayHold E g.size g.writer v → Invariant E (with_word m (E.board + x) v) team g
  board_is_stored x v l o may = slot_stays E m team g k (E.board + x) v (on_board E m team g x v ready.laid_out ready.invariant l o may) ready
      ((words_unread ready).behind (E.board + x) (let o = ready.invariant.laid.order in let lay = ready.laid_out.below in omega (arith, o, lay))) ((words_no_targets ready).board (E.board + x) (omega arith)) (omega (arith, l))

-- ---- loads

pub words_are_loaded : WordsAreLoaded
words_are_loaded E m team g k a x ready f o = let inv = ready.invariant in let behind : 0 < word_of_value (g.kind a) x = omega (arith, values_behind_header (g.kind a)) in record {
  held = λ t. let h = field_here E g.size g.writer g.kind a (word_of_value (g.kind a) x) (record { stands = f.stands; written = f.written; field = t; first = behind; last = f.last }) f.inside in
      record { clean = inv.opened.opened (a + word_of_value (g.kind a) x) h o; lands = inv.landing.lands (a + word_of_value (g.kind a) x) h };
  number = λ t. inv.raw_words.raw a (word_of_value (g.kind a) x) f.stands f.written behind f.last t;
}

pub board_is_loaded : BoardIsLoaded
board_is_loaded E m team g k x ready l o = let inv = ready.invariant in let lay = ready.laid_out in record {
  clean = inv.opened.opened (E.board + x) (board_here E g.size g.writer g.kind x l) (let e : (E.board + x) / 64 ≡ E.board / 64 = omega (arith, lay.board, l) in rw e o);
  lands = inv.landing.lands (E.board + x) (board_here E g.size g.writer g.kind x l);
}

pub accesses_are_allowed : AccessesAreAllowed
accesses_are_allowed E m team g k f ready has opened =
    let me = ready.invariant.workers k ready.member in
    let a = me.access f has in
    record {
      word = λ x e. record { stands = a.stands; written = a.written; inside = a.inside; last = let z = a.word.1 in omega (arith, e) };
      opens = (me.opened ((f.at + f.word) / 64) opened).1;
      role = a.role;
    }
