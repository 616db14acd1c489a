-- WEAK is read, the link of a cell is stored, and WEAK is exchanged.
use Rattle.std.proofs.Common.{◌≡◌, ◌≢◌, ℕ, ◌+◌, ◌<◌, true, Option, Some, None, is_some, refl, sym, ap, ◌∙◌, arith, ⊎_elim, inl, inr}
use Rattle.std.proofs.lemmas.Bool.{cases_eq}
use Rattle.heap_state.specs.Cells.{Ranks, IsCopiedCell, LeadsToRank, MayCopy, KnowsCopy, Links, Linked, HasCopier, Chain}
use Rattle.heap_state.specs.Memory.Entries.{Entry, WeakIs}
use Rattle.heap_state.specs.Memory.Era.{Era, Memory}
use Rattle.heap_state.specs.Invariant.Ghost.{Ghost}
use Rattle.heap_state.specs.Known.{Known, Team, Linking, Pass, cell_to_link}
use Rattle.heap_state.proofs.Puts.{put_at, put_other, put_same, some_same, none≢some, true_false}
use Rattle.heap_laws.specs.Cells.Links.{SameBesideLinking, ReadingWeakCarriesChain, StoringLinkCarriesChain, LinkingCarriesChain, one_more}
use Rattle.heap_laws.specs.Steps.{Ready, WritesRow, NoRow, InWeak, Beside, with_weak, with_worker}
use Rattle.heap_laws.proofs.Cells.Carried.{goes_on, links_stay}
use Rattle.heap_laws.proofs.Cells.ChainParts.{chain_of, value_in, none_walks, no_walker, none_cleared}
use Rattle.heap_laws.proofs.Cells.ChainRows.{StoresWord, stores_word}
use Rattle.heap_laws.proofs.Frames.Values.{one_place}

-- who scans or is late still does
pub may_copy_now : (E : Era) (w u : Known) → w.post ≡ u.post → w.epoch ≡ u.epoch → w.scan ≡ u.scan → MayCopy E u → MayCopy E w
may_copy_now E w u post epoch scan may = ⊎_elim (λ s. inl (s.0, scan ∙ s.1)) (λ l. inr (rw (post, epoch) l)) may

pub may_copy_still : (E : Era) (w u : Known) → w.post ≡ u.post → w.epoch ≡ u.epoch → w.scan ≡ u.scan → (KnowsCopy u → KnowsCopy w) → KnowsCopy u → MayCopy E u → MayCopy E w × KnowsCopy w
may_copy_still E w u post epoch scan asked knows may = (may_copy_now E w u post epoch scan may, asked knows)

pub may_copy : (E : Era) (w u : Known) → SameBesideLinking w u → KnowsCopy u → MayCopy E u → MayCopy E w × KnowsCopy w
may_copy E w u same knows may = may_copy_still E w u same.post same.ground.0 same.scan same.asked knows may

-- ---- rows

-- no row is written, or one of which the epoch sees nothing
pub same_memory : {E : Era} {m : Memory} {e : Option Entry} {later : Memory} → WritesRow E m e later → e ≡ None → later ≡ m
same_memory NoRow is = refl
same_memory _ is = absurd (cc)

pub weak_memory : {E : Era} {m : Memory} {e : Option Entry} {later : Memory} {word : ℕ} → WritesRow E m e later → e ≡ Some (WeakIs word) → later ≡ with_weak m word
weak_memory {m = m} {word = word} (InWeak other small) is = let a : other ≡ word = cc in ap (with_weak m) a
weak_memory {word = word} (Beside e beside) is = absurd (let f : e ≡ WeakIs word = cc in rw f at beside)
weak_memory _ is = absurd (cc)

-- ---- what the copier knows of its cell changes

-- Worker k knows something else of the cell that it has to link, whose link alone may change.
module _ (E : Era) (m later : Memory) (weak turn : ℕ) (team : Team) (g : Ghost) (r : Ranks) (k : ℕ) (l n : Linking) (w : Known) (ready : Ready E m team g k) (has : (team.worker k).linking ≡ Some l) (gets : w.linking ≡ Some n)
    (cell : n.cell ≡ l.cell) (like : SameBesideLinking w (team.worker k)) (chain : Chain E m weak turn team g r) (traced : later.traced ≡ m.traced) (front : later.front ≡ m.front)
    (links : (a : ℕ) → IsCopiedCell E m.front g a → a ≢ l.cell → later.heap (a + 2) ≡ m.heap (a + 2))
    (targets : (a : ℕ) → IsCopiedCell E m.front g a → later.heap (a + 1) ≡ m.heap (a + 1))
    (stored : (v : ℕ) → n.read ≡ Some v → n.stored ≡ true → later.heap (l.cell + 2) ≡ v) where
  mine : Links E m g r (team.worker k) l
  mine = chain.linking k l ready.member has

  none : (j : ℕ) (q : Pass) → j < team.count → ¬ ((team.worker j).pass ≡ Some q)
  none = none_walks E m weak turn team g r ready.invariant chain k ready.member mine.licensed

  come : (a : ℕ) → IsCopiedCell E m.front g a → IsCopiedCell E later.front g a
  come a c = rw front c

  pub learns_of_cell : Chain E later weak turn (with_worker team k w) g r
  learns_of_cell = goes_on E m later weak turn team g g r k w (record {
    traced = traced;
    fewer = λ a c. rw front at c;
    cells = come;
    links = λ le a p. links a ((chain.linked le).ranked a p).0 (λ e. let z : r.rank a ≡ r.rank l.cell = ap r.rank e in let u = mine.unlinked in omega (arith, z, u, p));
    others_link = λ j x y d e.
        let o = chain.linking j x y e in
        links_stay E m later g g r (team.worker j) (team.worker j) x traced come
        (links x.cell o.cell (λ f. d (chain.apart j k l.cell y ready.member (ap cell_to_link e ∙ ap Some f) (ap cell_to_link has)))) (λ q z. (z, q)) o;
    own_link = λ x _ e.
        let s : n ≡ x = some_same (sym gets ∙ e) in
        rw (← s) (record {
          copying = rw traced mine.copying;
          cell = rw (cell, front) mine.cell;
          unlinked = rw cell mine.unlinked;
          licensed = (may_copy E w (team.worker k) like mine.asked mine.licensed).0;
          asked = (may_copy E w (team.worker k) like mine.asked mine.licensed).1;
          stored = λ v f i. rw cell (stored v f i);
        });
    same_cell = rw (gets, has) (ap Some cell);
    others_pass = λ j q y d e. absurd (none j q y e);
    own_pass = λ q y e. absurd (none k q y (sym like.pass ∙ e));
    same_pass = ap is_some like.pass;
    cleared = λ e. rw like.reset at e;
    three = chain.three;
  }) chain

pub reading_weak_carries_chain : ReadingWeakCarriesChain
reading_weak_carries_chain E m later weak turn team g r k l n w ready has gets cell loose writes like chain =
    let s : later ≡ m = same_memory writes refl in
    learns_of_cell E m later weak turn team g r k l n w ready has gets cell like chain (ap (λ (x : Memory). x.traced) s) (ap (λ (x : Memory). x.front) s)
    (λ a c d. rw s refl) (λ a c. rw s refl) (λ v e f. true_false loose f)

pub storing_link_carries_chain : StoringLinkCarriesChain
storing_link_carries_chain E m later weak turn team g r k l v w ready has gets writes like chain =
    let s : StoresWord m later (l.cell + 2) v = stores_word writes refl in
    let cell = (chain.linking k l ready.member has).cell in
    let three = chain.three l.cell cell.stands cell.weak in
    learns_of_cell E m later weak turn team g r k l (record { cell = l.cell; read = Some v; stored = true }) w ready has gets refl like chain s.memory.traced s.memory.front
    (λ a c d. rw (s.heap, put_other m.heap (l.cell + 2) v (a + 2) (λ e. d (let z : a ≡ l.cell = omega (arith, e) in z))) refl)
    (λ a c. rw (
      s.heap,
      put_other m.heap (l.cell + 2) v (a + 1) (λ e.
          let z = chain.three a c.stands c.weak in
          let y : a ≡ l.cell = one_place g.size a l.cell 1 2 ready.invariant.laid.apart (omega (arith, z)) (omega (arith, three)) e in
          omega (arith, e, y)),
    ) refl)
    (λ x e f. rw (s.heap, put_same m.heap (l.cell + 2) v) (some_same e))

-- ---- the exchange of WEAK

module _ (E : Era) (m : Memory) (weak turn : ℕ) (team : Team) (g : Ghost) (r : Ranks) (k : ℕ) (l : Linking) (w : Known) (ready : Ready E m team g k) (has : (team.worker k).linking ≡ Some l)
    (read : l.read ≡ Some weak) (stored : l.stored ≡ true) (gets : w.linking ≡ None) (like : SameBesideLinking w (team.worker k)) (chain : Chain E m weak turn team g r) where
  abbrev c : ℕ
  c = l.cell

  abbrev after : Ranks
  after = one_more r c

  own : Links E m g r (team.worker k) l
  own = chain.linking k l ready.member has

  before : Linked E m weak g r
  before = chain.linked own.copying

  nobody : (j : ℕ) (q : Pass) → j < team.count → ¬ ((team.worker j).pass ≡ Some q)
  nobody = none_walks E m weak turn team g r ready.invariant chain k ready.member own.licensed

  at_cell : (a : ℕ) → a ≡ c → after.rank a ≡ r.length + 1
  at_cell a e = put_at r.rank c (r.length + 1) a e

  elsewhere : (a : ℕ) → a ≢ c → after.rank a ≡ r.rank a
  elsewhere a d = put_other r.rank c (r.length + 1) a d

  -- a linked cell is another one
  is_other : (a : ℕ) → 0 < r.rank a → a ≢ c
  is_other a p e = let z : r.rank a ≡ r.rank c = ap r.rank e in let u = own.unlinked in omega (arith, z, u, p)

  leads : (word n : ℕ) → LeadsToRank r word n → LeadsToRank after word n
  leads word n o = ⊎_elim (λ z. inl z) (λ z. let e = elsewhere z.0 (is_other z.0 z.2) in inr (z.0, z.1, rw e z.2, e ∙ z.3)) o

  -- two linked cells of one rank are one
  alone : (a b : ℕ) → 0 < after.rank a → after.rank a ≡ after.rank b → a ≡ b
  alone a b p e = ⊎_elim
      (λ (x : a ≡ c). ⊎_elim
      (λ (y : b ≡ c). x ∙ sym y)
      (λ (y : b ≢ c).
      let f = at_cell a x in
      let h = elsewhere b y in
      let s : 0 < r.rank b = omega (arith, e, f, h) in
      let t = (before.ranked b s).1 in
      absurd (omega (arith, e, f, h, t)))
      (cases_eq b c))
      (λ (x : a ≢ c).
      let f = elsewhere a x in
      let s : 0 < r.rank a = omega (arith, p, f) in
      ⊎_elim
      (λ (y : b ≡ c). let h = at_cell b y in let t = (before.ranked a s).1 in absurd (omega (arith, e, f, h, t)))
      (λ (y : b ≢ c). let h = elsewhere b y in before.alone a b s (omega (arith, e, f, h)))
      (cases_eq b c))
      (cases_eq a c)

  linked : Linked E (with_weak m (c + 1)) (c + 1) g after
  linked = record {
    ranked = λ a p. ⊎_elim
        (λ (x : a ≡ c). (rw x own.cell, let f = at_cell a x in omega (arith, f)))
        (λ (x : a ≢ c). let f = elsewhere a x in let t = before.ranked a (omega (arith, f, p)) in (t.0, let y = t.1 in omega (arith, f, y)))
        (cases_eq a c);
    alone = alone;
    head = inr (c, refl, let f = at_cell c refl in omega (arith, f), at_cell c refl);
    link = λ a n e. ⊎_elim
        (λ (x : a ≡ c).
        let f = at_cell a x in
        let s : r.length ≡ n = omega (arith, e, f) in
        let t : m.heap (a + 2) ≡ weak = rw x (own.stored weak read stored) in
        rw t (leads weak n (rw (← s) before.head)))
        (λ (x : a ≢ c). leads (m.heap (a + 2)) n (before.link a n (sym (elsewhere a x) ∙ e)))
        (cases_eq a c);
  }

  all : (a : ℕ) → IsCopiedCell E m.front g a → after.rank a ≡ 0 → HasCopier (with_worker team k w) a
  all a i z =
      let x : a ≢ c = λ e. (let f = at_cell a e in omega (arith, f, z)) in
      let o = chain.all own.copying a i (sym (elsewhere a x) ∙ z) in
      let d : o.worker ≢ k = λ e. (let y : cell_to_link (team.worker k).linking ≡ Some a = rw e at o.links in x (some_same (sym y ∙ ap cell_to_link has))) in
      record { worker = o.worker; member = o.member; links = rw (put_other team.worker k w o.worker d) o.links }

  others : (j : ℕ) (x : Linking) → j < team.count → j ≢ k → (team.worker j).linking ≡ Some x → Links E (with_weak m (c + 1)) g after (team.worker j) x
  others j x y d e =
      let o = chain.linking j x y e in
      let s : x.cell ≢ c = λ f. d (chain.apart j k c y ready.member (ap cell_to_link e ∙ ap Some f) (ap cell_to_link has)) in
      record { copying = o.copying; cell = o.cell; unlinked = elsewhere x.cell s ∙ o.unlinked; licensed = o.licensed; asked = o.asked; stored = o.stored }

  pub links_cell : Chain E (with_weak m (c + 1)) (c + 1) turn (with_worker team k w) g after
  links_cell = chain_of E (with_weak m (c + 1)) (c + 1) turn team g after k w (record {
    top = chain.top;
    turned = chain.turned;
    linked = λ _. linked;
    all = λ _. all;
    others_link = others;
    own_link = λ x _ e. none≢some (sym gets ∙ e);
    own_apart = λ j a _ _ _ e. none≢some (sym (ap cell_to_link gets) ∙ e);
    others_pass = λ j q y _ e. absurd (nobody j q y e);
    own_pass = λ q y e. absurd (nobody k q y (sym like.pass ∙ e));
    own_one = λ j _ y _ e. absurd (let q = value_in w.pass e in nobody k q.0 y (sym like.pass ∙ q.1));
    walker = λ le t. absurd (no_walker E m weak turn team g r ready.invariant chain k ready.member own.licensed (chain.walker le t));
    others_reset = λ j y _ e. absurd (none_cleared E m weak turn team g r ready.invariant chain own.copying j y e);
    own_reset = λ y e. absurd (none_cleared E m weak turn team g r ready.invariant chain own.copying k y (rw like.reset at e));
    three = chain.three;
  }) chain.apart chain.one

pub linking_carries_chain : LinkingCarriesChain
linking_carries_chain E m later weak turn team g r k l w ready has read stored gets writes like chain =
    let s : later ≡ with_weak m (l.cell + 1) = weak_memory writes refl in
    rw s (links_cell E m weak turn team g r k l w ready has read stored gets like chain)
