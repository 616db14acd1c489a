-- What is known of the cells after a step, by the laws of the chain and of targets: as the invariant has it.
use Rattle.std.proofs.Common.{◌≡◌, ℕ, ◌<◌, true, Option, Some, None, is_some, refl, sym, ap, ◌∙◌, subst, ⊎_elim, inl, inr, arith}
use Rattle.plain_state.specs.Layout.{is_field}
use Rattle.plain_state.specs.declared.kind.Kind.TheVariants.{Weak}
use Rattle.heap_state.specs.Cells.{Ranks, IsCopiedCell, KnowsCopy, SameGround, Chain}
use Rattle.heap_state.specs.Memory.Entries.{Entry, WordIs, WeakIs, WeakTurnIs}
use Rattle.heap_state.specs.Memory.Era.{Era, Memory}
use Rattle.heap_state.specs.Invariant.Ghost.{Ghost, IsField, Here}
use Rattle.heap_state.specs.Invariant.Parts.Cells.{Cells}
use Rattle.heap_state.specs.Targets.{IsCell, Targets}
use Rattle.heap_state.specs.Known.{Known, Team, Quest, Scan, Linking, Reset, is_cleared}
use Rattle.heap_state.proofs.Puts.{some_same, none≢some, true_false}
use Rattle.heap_laws.specs.Cells.Frames.{SameCells, GoesOnInChain, IsUnreadRow, IsNoCellWord, WordsAreUnread}
use Rattle.heap_laws.specs.Composing.{IsLess, SameAtChain}
use Rattle.heap_laws.specs.Steps.{Ready, SameInChain, WritesRow, InWeak, InWeakTurn, with_worker}
use Rattle.heap_laws.specs.Targets.Frames.{IsNoTarget, IsNoTargetRow, WordsAreNoTargets}
use Rattle.heap_laws.proofs.Cells.Carried.{carried}
use Rattle.heap_laws.proofs.Cells.ChainRows.{SameMemory, SameWords, unread, by_words, unread_words_carry_chain, no_cell_words}
use Rattle.heap_laws.proofs.Targets.TargetRows.{by_targets, unread_rows_carry_targets, unread_words_carry_targets, no_target_words}

-- ---- WEAK and WEAKTURN

-- the rows that aren't one of these leave them
pub record SameWeak (m later : Memory) : Type 0 where
  pub weak : later.weak ≡ m.weak
  pub weak_turn : later.weak_turn ≡ m.weak_turn

abbrev pub IsNotWeak : Option Entry → Type 0
IsNotWeak (Some (WeakIs word)) = ⊥
IsNotWeak (Some (WeakTurnIs word)) = ⊥
IsNotWeak e = Unit {0}

pub same_weak : {E : Era} {m : Memory} {e : Option Entry} {later : Memory} → WritesRow E m e later → IsNotWeak e → SameWeak m later
same_weak (InWeak word small) n = absurd n
same_weak (InWeakTurn word) n = absurd n
same_weak _ n = record { weak = refl; weak_turn = refl }

-- the chain of these words, and the targets, are what is known of the cells
pub of_chain : {E : Era} {m later : Memory} {team : Team} {g : Ghost} {r : Ranks} → SameWeak m later → Chain E later m.weak m.weak_turn team g r → Targets E later g → Cells E later team g
of_chain {E} {m} {later} {team} {g} {r} s chain targets = record {
  ranks = r;
  chain = subst (λ (x : ℕ). Chain E later x later.weak_turn team g r) (sym s.weak) (subst (λ (y : ℕ). Chain E later m.weak y team g r) (sym s.weak_turn) chain);
  targets = targets;
}

-- ---- a worker's part

-- a worker that stands as before and scans if it did, and has the same part in the chain, goes on in it
pub still_in_chain : (E : Era) (w u : Known) → w.post ≡ u.post → w.epoch ≡ u.epoch → ((s : Scan) → u.scan ≡ Some s → (t : Scan) × (w.scan ≡ Some t)) → SameInChain w u → GoesOnInChain E w u
still_in_chain E w u post epoch scan s = record {
  linking = s.linking;
  pass = s.pass;
  cleared = s.cleared;
  licence = λ l knows may. (⊎_elim (λ e. inl (scan e.0 e.1)) (λ late. inr (rw (post, epoch) late)) may, s.asked l knows);
  ground = s.ground;
}

-- one that scans as before
pub in_chain : (E : Era) (w u : Known) → w.post ≡ u.post → w.epoch ≡ u.epoch → w.scan ≡ u.scan → SameInChain w u → GoesOnInChain E w u
in_chain E w u post epoch scan s = still_in_chain E w u post epoch (λ t e. (t, scan ∙ e)) s

-- what isn't known of a flip hasn't been stored for it
less_cleared : (o p : Option Reset) → IsLess o p → is_cleared o ≡ true → is_cleared p ≡ true
less_cleared None p less e = absurd (cc)
less_cleared (Some r) p less e = ap is_cleared (less r refl) ∙ e

-- a worker that asks for the same copy, knows the same of the chain and knows at most as much of a flip has the same part in the chain
pub less_in_chain : (w u : Known) → w.quest ≡ u.quest → IsLess w.reset u.reset → SameAtChain w u → SameInChain w u
less_in_chain w u quest reset same = record {
  linking = same.linking;
  pass = same.pass;
  asked = λ _ knows. (knows.0, quest ∙ knows.1, knows.2);
  ground = same.ground;
  cleared = less_cleared w.reset u.reset reset;
}

-- who asks for no copy has none to link
pub idle_in_chain : (w u : Known) → u.quest ≡ None → w.linking ≡ u.linking → w.pass ≡ u.pass → SameGround w u → w.reset ≡ u.reset → SameInChain w u
idle_in_chain w u idle linking pass ground reset = record {
  linking = linking;
  pass = pass;
  asked = λ _ knows. none≢some (sym idle ∙ knows.1);
  ground = λ _. ground;
  cleared = λ e. rw reset at e;
}

-- an option that is none has no value
pub none_is_some : {X : Type 0} {A : Type 0} {o : Option X} → o ≡ None → is_some o ≡ true → A
none_is_some e l = absurd (let z = rw e at l in cc)

-- the cells of the same records
pub same_cells : (g : Ghost) → SameCells g g
same_cells g = record { size = refl; writer = refl; kind = refl; copy = refl }

-- ---- the frames

-- TRACED, FRONT, WEAK, WEAKTURN and the heap words are as they were, and the targets stand, whatever else is another
pub same_words_keep : (E : Era) (m later : Memory) (team : Team) (g h : Ghost) (k : ℕ) (w : Known) → SameWeak m later → SameMemory m later → later.heap ≡ m.heap → SameCells g h → GoesOnInChain E w (team.worker k)
    → Targets E later h → Cells E m team g → Cells E later (with_worker team k w) h
same_words_keep E m later team g h k w weak memory heap same goes targets c =
    of_chain weak (carried E m later m.weak m.weak_turn team g h c.ranks k w (by_words E m later m.weak m.weak_turn team g h c.ranks same memory c.chain (λ a y. (rw heap refl, rw heap refl))) goes c.chain) targets

-- what is read of the memory is as it was, whichever rows are written
pub same_keeps : (E : Era) (m later : Memory) (team : Team) (g h : Ghost) (k : ℕ) (w : Known) → SameWords m later → SameWeak m later → SameCells g h → GoesOnInChain E w (team.worker k)
    → Cells E m team g → Cells E later (with_worker team k w) h
same_keeps E m later team g h k w words weak same goes c =
    same_words_keep E m later team g h k w weak words.memory words.heap same goes (by_targets E m later g h same words.memory words.low c.targets (λ a y. rw words.heap refl)) c

-- a row is written that isn't read, or none
pub unread_keeps : (E : Era) (m later : Memory) (team : Team) (g h : Ghost) (k : ℕ) (e : Option Entry) (w : Known) → WritesRow E m e later → IsUnreadRow E e → IsNotWeak e → SameCells g h → GoesOnInChain E w (team.worker k)
    → Cells E m team g → Cells E later (with_worker team k w) h
unread_keeps E m later team g h k e w writes none other same goes c = same_keeps E m later team g h k w (unread writes none) (same_weak writes other) same goes c

-- a heap word is written that is no target, and no link of a copied cell
pub word_keeps : (E : Era) (m later : Memory) (team : Team) (g h : Ghost) (k x v : ℕ) (w : Known) → WritesRow E m (Some (WordIs x v)) later → IsNoCellWord E m g x → IsNoTarget g x → SameCells g h
    → GoesOnInChain E w (team.worker k) → Cells E m team g → Cells E later (with_worker team k w) h
word_keeps E m later team g h k x v w writes none no_target same goes c =
    of_chain (same_weak writes tt) (unread_words_carry_chain E m later m.weak m.weak_turn team g h c.ranks k x v w writes none same goes c.chain) (unread_words_carry_targets E m later g h x v writes no_target same c.targets)

-- what is known of targets, where the row is none of theirs and no record changes
pub targets_stay : {E : Era} {m later : Memory} {g : Ghost} {e : Option Entry} → WritesRow E m e later → IsNoTargetRow E e → Targets E m g → Targets E later g
targets_stay {E} {m} {later} {g} {e} writes none t = unread_rows_carry_targets E m later g g e writes none (same_cells g) t

-- ---- which words are no cell's

-- the words that the chain doesn't read, of a heap that is ready for a step
pub words_unread : {E : Era} {m : Memory} {team : Team} {g : Ghost} {k : ℕ} (ready : Ready E m team g k) → WordsAreUnread E m team g m.weak m.weak_turn ready.invariant.cells.ranks
words_unread {E} {m} {team} {g} {k} ready = let c = ready.invariant.cells in no_cell_words E m team g k m.weak m.weak_turn c.ranks ready c.chain

-- and those that are no target
pub words_no_targets : {E : Era} {m : Memory} {team : Team} {g : Ghost} {k : ℕ} (ready : Ready E m team g k) → WordsAreNoTargets E team g k
words_no_targets {E} {m} {team} {g} {k} ready = let c = ready.invariant.cells in no_target_words E m m.weak m.weak_turn team g c.ranks k ready c.chain

-- a field, or a word of the board, is no target and no link of a copied cell
pub field_is_unread : (E : Era) (m : Memory) (team : Team) (g : Ghost) (k x : ℕ) → Ready E m team g k → Here E g.size g.writer g.kind x → IsNoCellWord E m g x × IsNoTarget g x
unfolding Here
field_is_unread E m team g k x ready (inr b) =
    ((words_unread ready).behind x (let o = ready.invariant.laid.order in let l = ready.laid_out.below in omega (arith, o, l, b)), (words_no_targets ready).board x b.0)
field_is_unread E m team g k x ready (inl u) =
    let f : IsField g.size g.writer g.kind u.a u.i = u.field in
    let none : ¬ (IsCopiedCell E m.front g u.a) = (λ c. let y : is_field Weak u.i ≡ true = rw c.weak at f.field in cc) in
    let no_cell : ¬ (IsCell g u.a) = (λ c. let y : is_field Weak u.i ≡ true = rw c.weak at f.field in cc) in
    (rw u.at ((words_unread ready).of_others u.a u.i f.last none), rw u.at ((words_no_targets ready).of_others u.a u.i f.last no_cell))

-- ---- who has nothing to link

pub finds_nothing : (w : Known) (q : Quest) → w.quest ≡ Some q → q.found ≡ None → ¬ (KnowsCopy w)
finds_nothing w q asks none knows =
    let same : knows.0 ≡ q = some_same (sym knows.1 ∙ asks) in
    true_false {b = is_some q.found} (ap is_some none) (ap (λ (x : Quest). is_some x.found) (sym same) ∙ knows.2)

-- who knows no copy has no cell to link
pub nothing_to_link : {E : Era} {m : Memory} {team : Team} {g : Ghost} {k : ℕ} → Cells E m team g → k < team.count → ¬ (KnowsCopy (team.worker k)) → (team.worker k).linking ≡ None
nothing_to_link {team = team} {k = k} c below none = by_cell (team.worker k).linking (λ l e. none (c.chain.linking k l below e).asked)
  where
    by_cell : (o : Option Linking) → ((l : Linking) → ¬ (o ≡ Some l)) → o ≡ None
    by_cell None f = refl
    by_cell (Some l) f = absurd (f l refl)
