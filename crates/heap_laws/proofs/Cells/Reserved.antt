-- A place is reserved for a copy: FRONT rises by a place that is written.
use Rattle.std.proofs.Common.{◌≡◌, ◌≢◌, ℕ, ◌+◌, ◌<◌, ◌≤◌, false, Some, refl, sym, ◌∙◌, arith, ⊎_elim}
use Rattle.std.proofs.lemmas.Bool.{cases_eq}
use Rattle.plain_state.specs.declared.kind.Kind.TheVariants.{Weak}
use Rattle.space_map.specs.declared.area_word.AreaWord.{AreaWord}
use Rattle.heap_state.specs.Cells.{Ranks, IsCopiedCell, Chain}
use Rattle.heap_state.specs.Memory.Era.{Era, Memory}
use Rattle.heap_state.specs.Invariant.Ghost.{Ghost}
use Rattle.heap_state.specs.Invariant.Inductive.{Invariant, Knows}
use Rattle.heap_state.specs.Invariant.Parts.Copying.{Copies}
use Rattle.heap_state.specs.Known.{Known, Team, Copy}
use Rattle.heap_state.proofs.Puts.{put_at, put_other, each_put}
use Rattle.heap_laws.specs.Cells.Frames.{GoesOnInChain}
use Rattle.heap_laws.specs.Cells.Links.{ReservationsCarryChain}
use Rattle.heap_laws.specs.Copying.{reserved, moved_by}
use Rattle.heap_laws.specs.Steps.{Ready, IsAreaNow, with_worker}
use Rattle.heap_laws.proofs.Cells.Carried.{carried}
use Rattle.heap_laws.proofs.Cells.ChainParts.{no_walker}
use Rattle.heap_laws.proofs.Cells.ChainRows.{StoresArea, stores_area}
use Rattle.heap_laws.proofs.Copying.Room.{copies_have_room}

module _ (E : Era) (m later : Memory) (weak turn : ℕ) (team : Team) (g : Ghost) (r : Ranks) (k : ℕ) (c : Copy) (area : AreaWord) (w : Known) (ready : Ready E m team g k) (has : (team.worker k).copy ≡ Some c)
    (loose : c.reserved ≡ false) (at_front : c.to ≡ m.front) (now : IsAreaNow E m area) (s : StoresArea E m later (moved_by c.size area)) (on : GoesOnInChain E w (team.worker k)) (chain : Chain E m weak turn team g r) where
  abbrev inv : Invariant E m team g
  inv = ready.invariant

  me : Knows E m.gate m.traced m.front m.low m.old_front m.old_low m.old_owed g m.page m.cross m.announced m.heap k (team.worker k)
  me = inv.workers k ready.member

  mine : Copies E m.front g.size g.writer g.copy g.keeper g.kept m.announced m.cross m.heap k c
  mine = me.copy c has

  front : later.front ≡ m.front + c.size
  front = let a = s.front in let b = now.front in omega (arith, a, b)

  room : m.front + c.size ≤ m.low
  room = (copies_have_room E m team g k c ready has loose).below_low

  -- a record of the epoch's space that begins below the new FRONT begins below the old one
  below : (a : ℕ) → 0 < g.size a → E.start ≤ a → a < later.front → a < m.front
  below a st i l = let y = inv.laid.lies a st in let o = inv.laid.order in let p = ready.laid_out.apart in omega (arith, y, o, p, i, l, front, room, st)

  abbrev h : Ghost
  h = reserved g k c.from c.to c.size

  fewer : (a : ℕ) → IsCopiedCell E later.front h a → IsCopiedCell E m.front g a
  fewer a z =
      let d : a ≢ c.to = λ e. (let y : k + 1 ≡ 0 = sym (put_at g.writer c.to (k + 1) a e) ∙ z.written in omega (arith, y)) in
      let st : 0 < g.size a = rw (put_other g.size c.to c.size a d) at z.stands in
      record {
        stands = st;
        written = rw (put_other g.writer c.to (k + 1) a d) at z.written;
        weak = rw (put_other g.kind c.to (g.kind c.from) a d) at z.weak;
        inside = (z.inside.0, below a st z.inside.0 z.inside.1);
      }

  cells : (a : ℕ) → IsCopiedCell E m.front g a → IsCopiedCell E later.front h a
  cells a z =
      let i = z.inside in
      let d : a ≢ c.to = λ e. omega (arith, e, at_front, i) in
      record {
        stands = rw (put_other g.size c.to c.size a d) z.stands;
        written = rw (put_other g.writer c.to (k + 1) a d) z.written;
        weak = rw (put_other g.kind c.to (g.kind c.from) a d) z.weak;
        inside = (i.0, omega (arith, i, front));
      }

  three : (a : ℕ) → 0 < h.size a → h.kind a ≡ Weak → h.size a ≡ 3
  three a st e = ⊎_elim
      (λ (x : a ≡ c.to).
      let y : g.kind c.from ≡ Weak = sym (put_at g.kind c.to (g.kind c.from) a x) ∙ e in
      let o = mine.old in
      let z = chain.three c.from (omega (arith, o)) y in
      put_at g.size c.to c.size a x ∙ (let t : c.size ≡ 3 = omega (arith, z, o) in t))
      (λ (d : a ≢ c.to). put_other g.size c.to c.size a d ∙ chain.three a (rw (put_other g.size c.to c.size a d) at st) (rw (put_other g.kind c.to (g.kind c.from) a d) at e))
      (cases_eq a c.to)

  pub reserves : Chain E later weak turn (with_worker team k w) h r
  reserves = carried E m later weak turn team g h r k w (record {
    traced = s.traced;
    fewer = fewer;
    cells = cells;
    targets = λ a z. rw s.heap refl;
    links = λ a z. rw s.heap refl;
    copies = λ o. absurd (no_walker E m weak turn team g r inv chain k ready.member (me.licensed.licensed c has) o);
    stands = λ b l. each_put (λ (_ z : ℕ). 0 < z) g.size c.to c.size b (λ _. l) (λ _. mine.old.0);
    three = three;
  }) on chain

pub reservations_carry_chain : ReservationsCarryChain
reservations_carry_chain E m later weak turn team g r k c area w ready has announced loose at_front now writes on chain =
    reserves E m later weak turn team g r k c area w ready has loose at_front now (stores_area writes refl) on chain
