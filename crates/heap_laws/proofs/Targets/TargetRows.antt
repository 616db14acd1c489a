-- Rows and words by which targets aren't known.
use Rattle.std.proofs.Common.{◌≡◌, ◌≢◌, ℕ, ◌+◌, ◌<◌, Option, refl, sym, ◌∙◌, arith, ⊎_elim}
use Rattle.std.proofs.lemmas.Bool.{cases_eq}
use Rattle.heap_state.specs.Cells.{Ranks, Chain}
use Rattle.heap_state.specs.Memory.Entries.{Entry}
use Rattle.heap_state.specs.Memory.Era.{Era, Memory}
use Rattle.heap_state.specs.Invariant.Ghost.{Ghost}
use Rattle.heap_state.specs.Targets.{IsCell, Targets}
use Rattle.heap_state.specs.Known.{Team}
use Rattle.heap_state.proofs.Puts.{put_other}
use Rattle.heap_laws.specs.Cells.Frames.{SameCells}
use Rattle.heap_laws.specs.Steps.{Ready, WritesRow, InWeak, InWeakTurn, Beside}
use Rattle.heap_laws.specs.Targets.Frames.{IsNoTargetRow, WordsAreNoTargets, UnreadRowsCarryTargets, UnreadWordsCarryTargets, NoTargetWords}
use Rattle.heap_laws.proofs.Cells.ChainRows.{SameMemory, SameWords, same, unread, StoresWord, stores_word}
use Rattle.heap_laws.proofs.Frames.Values.{one_place}
use Rattle.heap_laws.specs.Targets.Copies.{StoringLinkCarriesTargets}
use Rattle.heap_laws.proofs.Targets.Carried.{carried, cell_of}

-- ---- rows

unread_by_targets : {E : Era} {m : Memory} {e : Option Entry} {later : Memory} → WritesRow E m e later → IsNoTargetRow E e → SameWords m later
unread_by_targets (InWeak word small) none = record { memory = record { traced = refl; front = refl }; low = refl; heap = refl }
unread_by_targets (InWeakTurn word) none = record { memory = record { traced = refl; front = refl }; low = refl; heap = refl }
unread_by_targets {m = m} (Beside e beside) none = same m
unread_by_targets writes none = unread writes none

-- with the same cells, and the same targets
module _ (E : Era) (m later : Memory) (g h : Ghost) (cells : SameCells g h) (memory : SameMemory m later) (low : later.low ≡ m.low) (t : Targets E m g) where
  gone : (a : ℕ) → IsCell h a → IsCell g a
  gone a c = record { stands = rw (← cells.size) c.stands; written = rw (← cells.writer) c.written; weak = rw (← cells.kind) c.weak }

  pub by_targets : ((a : ℕ) → IsCell g a → later.heap (a + 1) ≡ m.heap (a + 1)) → Targets E later h
  by_targets words = carried E m later g h (record {
    traced = memory.traced;
    front = let f = memory.front in omega (arith, f);
    fewer = gone;
    below = λ a c. rw (← memory.front) c.inside.1;
    above = λ a c from to. rw (← low) from;
    targets = λ a c. words a (gone a c);
    stands = λ b l. rw cells.size l;
    written = λ b l e. rw cells.writer e;
  }) t

pub unread_rows_carry_targets : UnreadRowsCarryTargets
unread_rows_carry_targets E m later g h e writes none cells t =
    let s : SameWords m later = unread_by_targets writes none in
    by_targets E m later g h cells s.memory s.low t (λ a c. rw s.heap refl)

-- ---- words

pub unread_words_carry_targets : UnreadWordsCarryTargets
unread_words_carry_targets E m later g h x v writes none cells t =
    let s : StoresWord m later x v = stores_word writes refl in
    by_targets E m later g h cells s.memory s.low t (λ a c. rw (s.heap, put_other m.heap x v (a + 1) (λ e. none a c (sym e))) refl)

module _ (E : Era) (m : Memory) (weak turn : ℕ) (team : Team) (g : Ghost) (r : Ranks) (k : ℕ) (ready : Ready E m team g k) (chain : Chain E m weak turn team g r) where
  three : (a : ℕ) → IsCell g a → g.size a ≡ 3
  three a c = chain.three a c.stands c.weak

  -- another record's word is no target
  another : (b i : ℕ) → i < g.size b → (a : ℕ) → IsCell g a → a ≢ b → b + i ≢ a + 1
  another b i l a c d e = let z = three a c in d (sym (one_place g.size b a i 1 ready.invariant.laid.apart l (omega (arith, z)) e))

  pub no_target_words : WordsAreNoTargets E team g k
  no_target_words = record {
    of_others = λ b i l none a c. another b i l a c (λ e. none (rw e at c));
    first = λ b l a c e. ⊎_elim
        (λ (x : a ≡ b). omega (arith, x, e))
        (λ (d : a ≢ b). another b 0 l a c d (omega (arith, e)))
        (cases_eq a b);
    link = λ b y a c e. ⊎_elim
        (λ (x : a ≡ b). omega (arith, x, e))
        (λ (d : a ≢ b). let z = three b y in another b 2 (omega (arith, z)) a c d e)
        (cases_eq a b);
    board = λ x l a c e.
        let z = three a c in
        let y = ready.invariant.laid.lies a c.stands in
        let o = ready.invariant.laid.order in
        let p = ready.laid_out in
        omega (arith, z, y, o, p.below, p.old_below, l, e);
    stock = λ q own x from to a c e.
        let me = ready.invariant.workers k ready.member in
        let now = me.timely.running own.runs in
        let y = (ready.invariant.stocks.stocked k ready.member q own.has (me.stock q own.has ∙ now)).empty a c.stands in
        let z = three a c in
        omega (arith, y, z, from, to, e);
  }

pub no_target_words_are_read : NoTargetWords
no_target_words_are_read E m weak turn team g r k ready chain = no_target_words E m weak turn team g r k ready chain

-- ---- a link is stored

pub storing_link_carries_targets : StoringLinkCarriesTargets
storing_link_carries_targets E m later weak turn team g r k l v ready has writes chain t =
    let cell = (chain.linking k l ready.member has).cell in
    let none = (no_target_words E m weak turn team g r k ready chain).link l.cell (cell_of E m.front g l.cell cell) in
    unread_words_carry_targets E m later g g (l.cell + 2) v writes none (record { size = refl; writer = refl; kind = refl; copy = refl }) t
