-- A place is reserved for a copy: no place becomes a cell, and nothing that landed is written.
use Rattle.std.proofs.Common.{◌≡◌, ◌≢◌, ℕ, ◌+◌, ◌<◌, ◌≤◌, false, Some, refl, sym, ◌∙◌, arith}
use Rattle.space_map.specs.declared.area_word.AreaWord.{AreaWord}
use Rattle.heap_state.specs.Memory.Era.{Era, Memory}
use Rattle.heap_state.specs.Invariant.Ghost.{Ghost}
use Rattle.heap_state.specs.Invariant.Inductive.{Invariant}
use Rattle.heap_state.specs.Targets.{IsCell, Targets}
use Rattle.heap_state.specs.Known.{Team, Copy}
use Rattle.heap_state.proofs.Puts.{put_at, put_other, each_put}
use Rattle.heap_laws.specs.Copying.{reserved, moved_by}
use Rattle.heap_laws.specs.Steps.{Ready, IsAreaNow}
use Rattle.heap_laws.specs.Targets.Copies.{ReservationsCarryTargets}
use Rattle.heap_laws.proofs.Cells.ChainRows.{StoresArea, stores_area}
use Rattle.heap_laws.proofs.Copying.Room.{copies_have_room}
use Rattle.heap_laws.proofs.Targets.Carried.{carried, cell_of}

module _ (E : Era) (m later : Memory) (team : Team) (g : Ghost) (k : ℕ) (c : Copy) (area : AreaWord) (ready : Ready E m team g k) (has : (team.worker k).copy ≡ Some c) (loose : c.reserved ≡ false)
    (at_front : c.to ≡ m.front) (now : IsAreaNow E m area) (s : StoresArea E m later (moved_by c.size area)) (t : Targets E m g) where
  abbrev inv : Invariant E m team g
  inv = ready.invariant

  old : (0 < c.size) × (g.size c.from ≡ c.size) × (g.keeper c.from ≡ k + 1) × (g.kept k ≡ c.from + 1) × (E.old_start ≤ c.from) × (c.from + c.size ≤ E.old_start + E.old_span)
  old = ((inv.workers k ready.member).copy c has).old

  front : later.front ≡ m.front + c.size
  front = let a = s.front in let b = now.front in omega (arith, a, b)

  room : m.front + c.size ≤ m.low
  room = (copies_have_room E m team g k c ready has loose).below_low

  -- a record of the epoch's space that begins below the new FRONT begins below the old one
  below : (a : ℕ) → 0 < g.size a → E.start ≤ a → a < later.front → a < m.front
  below a st i l = let y = inv.laid.lies a st in let o = inv.laid.order in let p = ready.laid_out.apart in omega (arith, y, o, p, i, l, front, room, st)

  -- nothing stands at the place
  free : (a : ℕ) → 0 < g.size a → a ≢ c.to
  free a st e = let y = inv.laid.lies a st in let o = inv.laid.order in let p = ready.laid_out.apart in omega (arith, y, o, p, e, at_front, room, old, st)

  abbrev h : Ghost
  h = reserved g k c.from c.to c.size

  fewer : (a : ℕ) → IsCell h a → IsCell g a
  fewer a z =
      let d : a ≢ c.to = λ e. (let y : k + 1 ≡ 0 = sym (put_at g.writer c.to (k + 1) a e) ∙ z.written in omega (arith, y)) in
      record {
        stands = rw (put_other g.size c.to c.size a d) at z.stands;
        written = rw (put_other g.writer c.to (k + 1) a d) at z.written;
        weak = rw (put_other g.kind c.to (g.kind c.from) a d) at z.weak;
      }

  pub reserves : Targets E later h
  reserves = carried E m later g h (record {
    traced = s.traced;
    front = omega (arith, front);
    fewer = fewer;
    below = λ a z. below a (fewer a (cell_of E later.front h a z)).stands z.inside.0 z.inside.1;
    above = λ a _ from _. let x = s.low in let y = now.low in omega (arith, x, y, from);
    targets = λ a z. rw s.heap refl;
    stands = λ b l. each_put (λ (_ z : ℕ). 0 < z) g.size c.to c.size b (λ _. l) (λ _. old.0);
    written = λ b l e. rw (put_other g.writer c.to (k + 1) b (free b l)) e;
  }) t

pub reservations_carry_targets : ReservationsCarryTargets
reservations_carry_targets E m later team g k c area ready has loose at_front now writes t = reserves E m later team g k c area ready has loose at_front now (stores_area writes refl) t
