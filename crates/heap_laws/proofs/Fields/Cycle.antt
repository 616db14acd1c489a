-- What a cycle keeps stays where a word is stored, if what the word before led to of the old space is copied.
use Rattle.space_map.specs.declared.page_word.PageWord.TheVariants.{Open}
use Rattle.heap_state.specs.Memory.Era.{IsLaidOut}
use Rattle.std.proofs.Common.{◌≡◌, ◌≢◌, ℕ, ◌+◌, ◌<◌, ◌≤◌, refl, arith, ⊎_elim, ◌⊎◌, inl, inr, ◌/◌}
use Rattle.std.proofs.lemmas.Bool.{cases_eq}
use Rattle.plain_state.specs.Reachable.{Reachable}
use Rattle.plain_state.specs.State as plain
use Rattle.plain_state.specs.declared.value.Value.TheVariants.{Reference}
use Rattle.plain_state.specs.declared.value.Identity.{Identity}
use Rattle.plain_state.specs.Layout.{word_of_value}
use Rattle.heap_state.specs.Cycles.Cycle.{Cycle, Copying, Rooted, RootLeads, ByBoard, ByRegister, StillLeads}
use Rattle.heap_state.specs.Memory.Era.{Era, Memory}
use Rattle.heap_state.specs.Functions.{put}
use Rattle.heap_state.specs.Invariant.Ghost.{Ghost, Here}
use Rattle.heap_state.specs.Invariant.Inductive.{Invariant}
use Rattle.heap_state.specs.Meaning.Values.{value_of, Shows}
use Rattle.heap_state.specs.Known.{Team}
use Rattle.heap_state.proofs.Puts.{put_other, each_put}
use Rattle.heap_state.proofs.Records.Layouts.{values_behind_header}
use Rattle.heap_state.specs.Targets.{IsCopied}
use Rattle.heap_laws.specs.Fields.Words.{IsWordOf, MayStore}
use Rattle.heap_laws.specs.Fields.Held.{MayHold}
use Rattle.heap_laws.specs.Steps.{with_word}
use Rattle.heap_laws.proofs.Fields.Slots.{Slot, within, old_same}
use Rattle.heap_laws.proofs.Fields.Stored.{Stores, in_word, on_board}
use Rattle.heap_laws.proofs.Frames.OtherWords.{shows_same}
use Rattle.heap_laws.proofs.Frames.Values.{board_here, field_here, still_leads, copied_within}

module _ (E : Era) (m : Memory) (team : Team) (g : Ghost) (p : plain.Plain) (x v : ℕ) (sl : Slot E m.front m.low g.size g.writer g.kind x v)
    (seen : Here E g.size g.writer g.kind x → (i : Identity) → StillLeads E g.identity (m.heap x) i → IsCopied E m.front g.size g.writer g.identity i) (cy : Cycle E m team g p) where
  -- a word that led to a record of an identity still does, or that is copied
  leads : (y : ℕ) (i : Identity) → Here E g.size g.writer g.kind y → StillLeads E g.identity (m.heap y) i → IsCopied E m.front g.size g.writer g.identity i ⊎ StillLeads E g.identity (put m.heap x v y) i
  leads y i h t = ⊎_elim (λ (e : y ≡ x). inl (seen (rw e at h) i (rw e at t))) (λ (d : y ≢ x). inr (rw (put_other m.heap x v y d) t)) (cases_eq y x)

  old_shows : (a : ℕ) (r : plain.Record) → 0 < g.size a → E.old_start ≤ a → a < E.old_start + E.old_span → Shows (value_of g.identity) m.heap a (g.kind a) (g.size a) r
      → Shows (value_of g.identity) (put m.heap x v) a (g.kind a) (g.size a) r
  old_shows a r st l u s = shows_same r (λ i f z. same i z) s
    where
      same : (i : ℕ) → i < g.size a → put m.heap x v (a + i) ≡ m.heap (a + i)
      same i z = let q = within sl.lay sl.laid a st in old_same sl m.heap (a + i) (omega (arith, l)) (omega (arith, q, l, u, z, sl.lay.apart))

  copying : Copying E m.front g.size g.writer g.copy g.keeper g.kind g.identity (put m.heap x v) p
  copying = record {
    old = λ a st l u o. let q = cy.copying.old a st l u o in (q.0, q.1, old_shows a q.0 st l u q.2);
    sound = λ y i h s. each_put (λ z w. z ≡ y → StillLeads E g.identity w i → Reachable p i) m.heap x v y
        (λ _ _ t. cy.copying.sound y i h t)
        (λ e _ t. absurd ((sl.held (rw e at h)).clean (still_leads E g.identity v i t)))
        refl s;
    reached = cy.copying.reached;
    sizes = cy.copying.sizes;
    complete = λ b y r i st w l u e f o. ⊎_elim (λ c. inl c)
        (λ t. leads (b + word_of_value (g.kind b) y) i (field_here E g.size g.writer g.kind b (word_of_value (g.kind b) y) (record { stands = st; written = w; field = f; first = omega (arith, values_behind_header (g.kind b)); last = copied_within cy.copying b y r (Reference i) st l u e o }) (l, omega (arith, u, sl.laid.order))) t)
        (cy.copying.complete b y r i st w l u e f o);
    only = cy.copying.only;
  }

  rooted : Rooted E m.front team.count g.size g.writer g.identity (put m.heap x v) team.worker p
  rooted = record { roots = λ i r. ⊎_elim (λ c. inl c) (λ t. by_root i t) (cy.rooted.roots i r); sound = cy.rooted.sound }
    where
      by_root : (i : Identity) → RootLeads E team.count g.identity m.heap team.worker i → IsCopied E m.front g.size g.writer g.identity i ⊎ RootLeads E team.count g.identity (put m.heap x v) team.worker i
      by_root i (ByBoard y l s) = ⊎_elim (λ c. inl c) (λ t. inr (ByBoard y l t)) (leads (E.board + y) i (board_here E g.size g.writer g.kind y l) s)
      by_root i (ByRegister k r a b t d s) = inr (ByRegister k r a b t d s)

  pub slot_keeps_cycle : Cycle E (with_word m x v) team g p
  slot_keeps_cycle = record { copying = copying; rooted = rooted; made = cy.made }

-- on an open page nothing leads into the old space
pub store_keeps_cycle : (E : Era) (m : Memory) (team : Team) (g : Ghost) (p : plain.Plain) (x v : ℕ) → Stores E m g x v → Invariant E m team g → Cycle E m team g p → Cycle E (with_word m x v) team g p
store_keeps_cycle E m team g p x v st inv cy = slot_keeps_cycle E m team g p x v st.slot (λ h i s. absurd (⊎_elim
    (λ (opens : m.page (x / 64) ≡ Open E.epoch). inv.opened.opened x h opens (still_leads E g.identity (m.heap x) i s))
    (λ (unread : ¬ (Here E g.size g.writer g.kind x)). unread h)
    st.opens)) cy

abbrev pub StoresKeepCycle : Type 0
StoresKeepCycle = (E : Era) (m : Memory) (team : Team) (g : Ghost) (p : plain.Plain) (a x v : ℕ) → IsLaidOut E → Invariant E m team g → IsWordOf E g.size g.writer g.kind a x
    → m.page ((a + word_of_value (g.kind a) x) / 64) ≡ Open E.epoch → MayStore E g.size g.writer (g.kind a) x v → Cycle E m team g p → Cycle E (with_word m (a + word_of_value (g.kind a) x) v) team g p

pub stores_keep_cycle : StoresKeepCycle
stores_keep_cycle E m team g p a x v lay inv f o may cy = store_keeps_cycle E m team g p (a + word_of_value (g.kind a) x) v (in_word E m team g a x v lay inv f o may) inv cy

abbrev pub BoardStoresKeepCycle : Type 0
BoardStoresKeepCycle = (E : Era) (m : Memory) (team : Team) (g : Ghost) (p : plain.Plain) (x v : ℕ) → IsLaidOut E → Invariant E m team g → x < 16
    → m.page (E.board / 64) ≡ Open E.epoch → MayHold E g.size g.writer v → Cycle E m team g p → Cycle E (with_word m (E.board + x) v) team g p

pub board_stores_keep_cycle : BoardStoresKeepCycle
board_stores_keep_cycle E m team g p x v lay inv l o may cy = store_keeps_cycle E m team g p (E.board + x) v (on_board E m team g x v lay inv l o may) inv cy
