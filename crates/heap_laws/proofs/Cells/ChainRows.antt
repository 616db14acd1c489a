-- Rows and words that the chain of copied cells doesn't read.
use Rattle.std.proofs.Common.{◌≡◌, ◌≢◌, ℕ, ◌+◌, ◌<◌, Option, Some, refl, sym, ◌∙◌, arith, ⊎_elim}
use Rattle.std.proofs.lemmas.Bool.{cases_eq}
use Rattle.space_map.specs.declared.area_word.AreaWord.{AreaWord}
use Rattle.space_map.specs.Spaces.{to_space}
use Rattle.heap_state.specs.Cells.{Ranks, IsCopiedCell, Chain}
use Rattle.heap_state.specs.Memory.Entries.{Entry, AreaIs, WordIs}
use Rattle.heap_state.specs.Memory.Era.{Era, Memory, from_space}
use Rattle.heap_state.specs.Functions.{put}
use Rattle.heap_state.specs.Invariant.Ghost.{Ghost}
use Rattle.heap_state.specs.Known.{Team}
use Rattle.heap_state.proofs.Puts.{put_other}
use Rattle.heap_laws.specs.Cells.Frames.{SameCells, IsUnreadRow, WordsAreUnread, UnreadRowsCarryChain, UnreadWordsCarryChain, NoCellWords, SameFrontCarriesChain, CarriesChain}
use Rattle.heap_laws.specs.Steps.{Ready, WritesRow, NoRow, InGate, InTraced, InArea, InOldArea, InWeak, InWeakTurn, InPage, InCross, InWord, InAnnounce, Beside}
use Rattle.heap_laws.proofs.Cells.Carried.{carried}
use Rattle.heap_laws.proofs.Frames.Values.{one_place}

-- ---- rows

-- what the chain reads of the memory is as it was
pub record SameMemory (m later : Memory) : Type 0 where
  pub traced : later.traced ≡ m.traced
  pub front : later.front ≡ m.front

pub record SameWords (m later : Memory) : Type 0 where
  pub memory : SameMemory m later
  pub low : later.low ≡ m.low
  pub heap : later.heap ≡ m.heap

pub same : (m : Memory) → SameWords m m
same m = record { memory = record { traced = refl; front = refl }; low = refl; heap = refl }

pub unread : {E : Era} {m : Memory} {e : Option Entry} {later : Memory} → WritesRow E m e later → IsUnreadRow E e → SameWords m later
unread {m = m} NoRow u = same m
unread (InGate gate fits at) u = record { memory = record { traced = refl; front = refl }; low = refl; heap = refl }
unread (InTraced word) u = absurd u
unread {E} (InArea area fits) u = absurd (omega (arith, u))
unread (InOldArea area fits) u = record { memory = record { traced = refl; front = refl }; low = refl; heap = refl }
unread (InWeak word small) u = absurd u
unread (InWeakTurn word) u = absurd u
unread (InPage page word below fits) u = record { memory = record { traced = refl; front = refl }; low = refl; heap = refl }
unread (InCross page place below) u = record { memory = record { traced = refl; front = refl }; low = refl; heap = refl }
unread (InWord addr word below) u = absurd u
unread (InAnnounce worker place below) u = record { memory = record { traced = refl; front = refl }; low = refl; heap = refl }
unread {m = m} (Beside e beside) u = same m

-- with the same records and words, or all but one that is no cell's
module _ (E : Era) (m later : Memory) (weak turn : ℕ) (team : Team) (g h : Ghost) (r : Ranks) (cells : SameCells g h) (memory : SameMemory m later) (chain : Chain E m weak turn team g r) where
  gone : (a : ℕ) → IsCopiedCell E later.front h a → IsCopiedCell E m.front g a
  gone a c = record {
    stands = rw (← cells.size) c.stands;
    written = rw (← cells.writer) c.written;
    weak = rw (← cells.kind) c.weak;
    inside = rw (← memory.front) c.inside;
  }

  come : (a : ℕ) → IsCopiedCell E m.front g a → IsCopiedCell E later.front h a
  come a c = record {
    stands = rw cells.size c.stands;
    written = rw cells.writer c.written;
    weak = rw cells.kind c.weak;
    inside = rw memory.front c.inside;
  }

  pub by_words : ((a : ℕ) → IsCopiedCell E m.front g a → (later.heap (a + 1) ≡ m.heap (a + 1)) × (later.heap (a + 2) ≡ m.heap (a + 2))) → CarriesChain E m later team g h
  by_words words = record {
    traced = memory.traced;
    fewer = gone;
    cells = come;
    targets = λ a c. (words a c).0;
    links = λ a c. (words a c).1;
    copies = λ _. cells.copy;
    stands = λ b l. rw cells.size l;
    three = λ a l e. let z = chain.three a (rw cells.size at l) (rw cells.kind at e) in rw cells.size z;
  }

pub unread_rows_carry_chain : UnreadRowsCarryChain
unread_rows_carry_chain E m later weak turn team g h r k e w writes read cells on chain =
    let s : SameWords m later = unread writes read in
    carried E m later weak turn team g h r k w (by_words E m later weak turn team g h r cells s.memory chain (λ a c. (rw s.heap refl, rw s.heap refl))) on chain

-- ---- words

pub record StoresWord (m later : Memory) (x v : ℕ) : Type 0 where
  pub memory : SameMemory m later
  pub low : later.low ≡ m.low
  pub heap : later.heap ≡ put m.heap x v

pub stores_word : {E : Era} {m : Memory} {e : Option Entry} {later : Memory} {x v : ℕ} → WritesRow E m e later → e ≡ Some (WordIs x v) → StoresWord m later x v
stores_word {m = m} {x = x} {v = v} (InWord addr word below) is =
    let a : addr ≡ x = cc in
    let b : word ≡ v = cc in
    record { memory = record { traced = refl; front = refl }; low = refl; heap = rw (a, b) refl }
stores_word {x = x} {v = v} (Beside e beside) is = absurd (let f : e ≡ WordIs x v = cc in rw f at beside)
stores_word _ is = absurd (cc)

pub unread_words_carry_chain : UnreadWordsCarryChain
unread_words_carry_chain E m later weak turn team g h r k x v w writes none cells on chain =
    let s : StoresWord m later x v = stores_word writes refl in
    carried E m later weak turn team g h r k w (by_words E m later weak turn team g h r cells s.memory chain (λ a c.
    let n = none a c in
    (rw (s.heap, put_other m.heap x v (a + 1) (λ e. n.0 (sym e))) refl, rw (s.heap, put_other m.heap x v (a + 2) (λ e. n.1 (sym e))) refl))) on chain

module _ (E : Era) (m : Memory) (team : Team) (g : Ghost) (k weak turn : ℕ) (r : Ranks) (ready : Ready E m team g k) (chain : Chain E m weak turn team g r) where
  -- another record's word is none of a cell's
  another : (b i : ℕ) → i < g.size b → (a : ℕ) → IsCopiedCell E m.front g a → a ≢ b → (b + i ≢ a + 1) × (b + i ≢ a + 2)
  another b i l a c d =
      let z = chain.three a c.stands c.weak in
      (λ e. d (sym (one_place g.size b a i 1 ready.invariant.laid.apart l (omega (arith, z)) e)), λ e. d (sym (one_place g.size b a i 2 ready.invariant.laid.apart l (omega (arith, z)) e)))

  pub no_cell_words : WordsAreUnread E m team g weak turn r
  no_cell_words = record {
    of_others = λ b i l none a c. another b i l a c (λ e. none (rw e at c));
    first = λ b l a c. ⊎_elim
        (λ (e : a ≡ b). (λ f. omega (arith, e, f), λ f. omega (arith, e, f)))
        (λ (d : a ≢ b). rw (let z : b ≡ b + 0 = omega arith in z) (another b 0 l a c d))
        (cases_eq a b);
    behind = λ x l a c.
        let z = chain.three a c.stands c.weak in
        let y = ready.invariant.laid.lies a c.stands in
        let o = ready.invariant.laid.order in
        let p = ready.laid_out.apart in
        let i = c.inside in
        (λ e. omega (arith, y, z, o, p, i, l, e), λ e. omega (arith, y, z, o, p, i, l, e));
  }

pub no_cell_words_are_read : NoCellWords
no_cell_words_are_read E m team g k weak turn r ready chain = no_cell_words E m team g k weak turn r ready chain

-- ---- the area

pub record StoresArea (E : Era) (m later : Memory) (area : AreaWord) : Type 0 where
  pub traced : later.traced ≡ m.traced
  pub front : later.front ≡ E.start + area.front
  pub low : later.low ≡ E.start + area.low
  pub heap : later.heap ≡ m.heap

pub stores_area : {E : Era} {m : Memory} {e : Option Entry} {later : Memory} {area : AreaWord} → WritesRow E m e later → e ≡ Some (AreaIs (to_space E.epoch) area) → StoresArea E m later area
stores_area {E} {m} {area = area} (InArea other fits) is =
    let a : other ≡ area = cc in
    record { traced = refl; front = rw a refl; low = rw a refl; heap = refl }
stores_area {E} (InOldArea other fits) is = absurd (let f : from_space E.epoch ≡ to_space E.epoch = cc in omega (arith, f))
stores_area {E} {area = area} (Beside e beside) is = absurd (let f : e ≡ AreaIs (to_space E.epoch) area = cc in rw f at beside)
stores_area _ is = absurd (cc)

pub same_front_carries_chain : SameFrontCarriesChain
same_front_carries_chain E m later weak turn team g h r k area w writes same cells on chain =
    let s : StoresArea E m later area = stores_area writes refl in
    carried E m later weak turn team g h r k w (by_words E m later weak turn team g h r cells (record { traced = s.traced; front = s.front ∙ same }) chain (λ a c. (rw s.heap refl, rw s.heap refl))) on chain
