-- The copy of a record is published, which is a cell or not.
use Rattle.std.proofs.Common.{◌≡◌, ◌≢◌, ℕ, ◌+◌, ◌-◌, ◌<◌, ◌≤◌, true, false, Some, None, refl, sym, ap, ◌∙◌, arith, ⊎_elim}
use Rattle.std.proofs.lemmas.Bool.{cases_eq, cases_lt}
use Rattle.plain_state.specs.declared.kind.Kind.TheVariants.{Weak}
use Rattle.heap_words.specs.declared.kind.Kind.TheVariants as header
use Rattle.heap_words.specs.Decoded.{HeaderWord, decode}
use Rattle.heap_state.specs.Cells.{Ranks, IsCopiedCell, MayCopy, KnowsCopy, Linked, HasCopier, Chain}
use Rattle.heap_state.specs.Memory.Era.{Era, Memory}
use Rattle.heap_state.specs.Invariant.Ghost.{Ghost, header_kind}
use Rattle.heap_state.specs.Invariant.Inductive.{Invariant, Knows}
use Rattle.heap_state.specs.Invariant.Parts.Copying.{Copies}
use Rattle.heap_state.specs.Known.{Known, Team, Pass, Copy, cell_to_link}
use Rattle.heap_state.proofs.Puts.{put_at, put_other, each_put, some_same, none≢some}
use Rattle.heap_state.proofs.Records.KindsOfHeaders.{weak_header}
use Rattle.heap_laws.specs.Cells.Links.{SameBesideLinking, PublishingCarriesChain}
use Rattle.heap_laws.specs.Copying.{KeepsCell, published}
use Rattle.heap_laws.specs.Steps.{Ready, with_worker}
use Rattle.heap_laws.proofs.Cells.Carried.{carried, links_stay}
use Rattle.heap_laws.proofs.Cells.Linked.{may_copy_now}
use Rattle.heap_laws.proofs.Cells.ChainParts.{chain_of, none_walks, no_walker, value_in, cell_in}
use Rattle.heap_laws.proofs.Cells.ChainRows.{StoresWord, stores_word, no_cell_words}
use Rattle.heap_laws.proofs.Copying.Room.{untraced}

module _ (E : Era) (m later : Memory) (weak turn : ℕ) (team : Team) (g : Ghost) (r : Ranks) (k : ℕ) (c : Copy) (v : ℕ) (w : Known) (ready : Ready E m team g k) (has : (team.worker k).copy ≡ Some c) (res : c.reserved ≡ true)
    (free : (team.worker k).linking ≡ None) (s : StoresWord m later c.from v) (knows : KnowsCopy w) (like : SameBesideLinking w (team.worker k)) (chain : Chain E m weak turn team g r) where
  abbrev inv : Invariant E m team g
  inv = ready.invariant

  me : Knows E m.gate m.traced m.front m.low m.old_front m.old_low m.old_owed g m.page m.cross m.announced m.heap k (team.worker k)
  me = inv.workers k ready.member

  mine : Copies E m.front g.size g.writer g.copy g.keeper g.kept m.announced m.cross m.heap k c
  mine = me.copy c has

  placed : (c.announced ≡ true) × (g.copy c.from ≡ c.to + 1) × (g.writer c.to ≡ k + 1) × (g.size c.to ≡ c.size) × (E.start ≤ c.to) × (c.to + c.size ≤ m.front)
  placed = mine.place res

  stands : 0 < g.size c.from
  stands = let o = mine.old in omega (arith, o)

  kind : g.kind c.to ≡ g.kind c.from
  kind = (inv.copied.target c.from c.to stands placed.1).6

  may_copies : MayCopy E (team.worker k) → MayCopy E w × KnowsCopy w
  may_copies y = (may_copy_now E w (team.worker k) like.post like.ground.0 like.scan y, knows)

  may : MayCopy E (team.worker k)
  may = me.licensed.licensed c has

  still_copies : m.traced ≤ E.epoch
  still_copies = untraced E m team g k c ready has

  nobody : (j : ℕ) (q : Pass) → j < team.count → ¬ ((team.worker j).pass ≡ Some q)
  nobody = none_walks E m weak turn team g r inv chain k ready.member may

  abbrev h : Ghost
  h = published g k c.from c.to

  words : (a : ℕ) → IsCopiedCell E m.front g a → (later.heap (a + 1) ≡ m.heap (a + 1)) × (later.heap (a + 2) ≡ m.heap (a + 2))
  words a z =
      let n = (no_cell_words E m team g k weak turn r ready chain).first c.from stands a z in
      (rw (s.heap, put_other m.heap c.from v (a + 1) (λ e. n.0 (sym e))) refl, rw (s.heap, put_other m.heap c.from v (a + 2) (λ e. n.1 (sym e))) refl)

  come : (a : ℕ) → IsCopiedCell E m.front g a → IsCopiedCell E later.front h a
  come a z = record {
    stands = z.stands;
    written = each_put (λ (_ x : ℕ). x ≡ 0) g.writer c.to 0 a (λ _. z.written) (λ _. refl);
    weak = z.weak;
    inside = rw s.memory.front z.inside;
  }

  gone : (a : ℕ) → a ≢ c.to → IsCopiedCell E later.front h a → IsCopiedCell E m.front g a
  gone a d z = record {
    stands = z.stands;
    written = rw (put_other g.writer c.to 0 a d) at z.written;
    weak = z.weak;
    inside = rw s.memory.front at z.inside;
  }

  -- ---- of a record that is no cell

  keeps_cell : g.kind c.to ≡ Weak → KeepsCell c
  keeps_cell e =
      let f : g.kind c.from ≡ Weak = sym kind ∙ e in
      let o = mine.old in
      let z = chain.three c.from stands f in
      let n : c.size - 1 ≡ 2 = omega (arith, z, o) in
      let y : decode c.header ≡ HeaderWord (header_kind (g.kind c.from)) (c.size - 1) (g.identity c.from).serial (g.identity c.from).mutator = (me.keeps c has).keeps in
      ((g.identity c.from).serial, (g.identity c.from).mutator, rw (f, n) at y)

  pub publishes_other : ¬ (KeepsCell c) → w.linking ≡ None → Chain E later weak turn (with_worker team k w) h r
  publishes_other none gets = carried E m later weak turn team g h r k w (record {
    traced = s.memory.traced;
    fewer = λ a z. gone a (λ e. none (keeps_cell (rw e at z.weak))) z;
    cells = come;
    targets = λ a z. (words a z).0;
    links = λ a z. (words a z).1;
    copies = λ _. refl;
    stands = λ b l. l;
    three = chain.three;
  }) (record {
    linking = gets ∙ sym free;
    pass = like.pass;
    cleared = λ e. rw like.reset at e;
    licence = λ _ _ y. may_copies y;
    ground = λ _. like.ground;
  }) chain

  -- ---- of a cell

  module _ (cell : KeepsCell c) (gets : w.linking ≡ Some (record { cell = c.to; read = None; stored = false })) where
    is_weak : g.kind c.to ≡ Weak
    is_weak =
        let y : decode c.header ≡ HeaderWord (header_kind (g.kind c.from)) (c.size - 1) (g.identity c.from).serial (g.identity c.from).mutator = (me.keeps c has).keeps in
        let z : HeaderWord (header_kind (g.kind c.from)) (c.size - 1) (g.identity c.from).serial (g.identity c.from).mutator ≡ HeaderWord header.Weak 2 cell.0 cell.1 = sym y ∙ cell.2 in
        let e : header_kind (g.kind c.from) ≡ header.Weak = cc in
        kind ∙ weak_header (g.kind c.from) e

    now_cell : IsCopiedCell E later.front h c.to
    now_cell = record {
      stands = let o = mine.old in omega (arith, o, placed);
      written = put_at g.writer c.to 0 c.to refl;
      weak = is_weak;
      inside = rw s.memory.front (placed.4, let o = mine.old in omega (arith, o, placed));
    }

    -- it was written until now, so it isn't linked, and nobody else has it to link
    was_written : ¬ (IsCopiedCell E m.front g c.to)
    was_written z = let y = z.written in omega (arith, y, placed)

    unlinked : r.rank c.to ≡ 0
    unlinked = ⊎_elim
        (λ (p : 0 < r.rank c.to). absurd (was_written ((chain.linked still_copies).ranked c.to p).0))
        (λ (z : r.rank c.to ≤ 0). omega (arith, z))
        (cases_lt 0 (r.rank c.to))

    linked : Linked E later weak h r
    linked =
        let o = chain.linked still_copies in
        record {
          ranked = λ a p. let y = o.ranked a p in (come a y.0, y.1);
          alone = o.alone;
          head = o.head;
          link = λ a n e. let p : 0 < r.rank a = omega (arith, e) in rw (words a (o.ranked a p).0).1 (o.link a n e);
        }

    all : (a : ℕ) → IsCopiedCell E later.front h a → r.rank a ≡ 0 → HasCopier (with_worker team k w) a
    all a z e = ⊎_elim
        (λ (x : a ≡ c.to). record { worker = k; member = ready.member; links = ap (λ (u : Known). cell_to_link u.linking) (put_at team.worker k w k refl) ∙ (ap cell_to_link gets ∙ ap Some (sym x)) })
        (λ (d : a ≢ c.to).
        let o = chain.all still_copies a (gone a d z) e in
        let n : o.worker ≢ k = λ i. none≢some (sym (ap cell_to_link free) ∙ (rw i at o.links)) in
        record { worker = o.worker; member = o.member; links = rw (put_other team.worker k w o.worker n) o.links })
        (cases_eq a c.to)

    pub publishes_cell : Chain E later weak turn (with_worker team k w) h r
    publishes_cell = chain_of E later weak turn team h r k w (record {
      top = chain.top;
      turned = λ e. chain.turned (sym s.memory.traced ∙ e);
      linked = λ _. linked;
      all = λ _. all;
      others_link = λ j l y d e. let o = chain.linking j l y e in links_stay E m later g h r (team.worker j) (team.worker j) l s.memory.traced come (words l.cell o.cell).1 (λ q z. (z, q)) o;
      own_link = λ l _ e. rw (← some_same (sym gets ∙ e)) (record {
        copying = rw s.memory.traced still_copies;
        cell = now_cell;
        unlinked = unlinked;
        licensed = (may_copies may).0;
        asked = knows;
        stored = λ x f _. none≢some f;
      });
      own_apart = λ j a y _ _ e f.
          let x : c.to ≡ a = some_same (sym (ap cell_to_link gets) ∙ e) in
          let z = cell_in (team.worker j).linking a f in
          was_written (rw (x, ← z.2) (chain.linking j z.0 y z.1).cell);
      others_pass = λ j q y _ e. absurd (nobody j q y e);
      own_pass = λ q y e. absurd (nobody k q y (sym like.pass ∙ e));
      own_one = λ j _ y _ e. absurd (let q = value_in w.pass e in nobody k q.0 y (sym like.pass ∙ q.1));
      walker = λ le t. absurd (no_walker E m weak turn team g r inv chain k ready.member may (chain.walker still_copies t));
      others_reset = λ j y _ e. chain.reset j y e;
      own_reset = λ y e. chain.reset k y (rw like.reset at e);
      three = chain.three;
    }) chain.apart chain.one

pub publishing_carries_chain : PublishingCarriesChain
publishing_carries_chain E m later weak turn team g r k c v w ready has res free writes to_link knows like chain =
    let s : StoresWord m later c.from v = stores_word writes refl in
    ⊎_elim
    (λ z. publishes_cell E m later weak turn team g r k c v w ready has res free s knows like chain z.0 z.1)
    (λ z. publishes_other E m later weak turn team g r k c v w ready has res free s knows like chain z.0 z.1)
    to_link
