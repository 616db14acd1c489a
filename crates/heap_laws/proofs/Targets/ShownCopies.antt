-- What targets show while a record is copied: its header is taken, and a place is reserved for the copy.
use Rattle.std.proofs.Common.{◌≡◌, ◌≢◌, ℕ, ◌+◌, ◌<◌, ◌⊎◌, Some, refl, arith, ⊎_elim, inl, inr}
use Rattle.std.proofs.lemmas.Bool.{cases_eq}
use Rattle.plain_state.specs.State as plain
use Rattle.plain_state.specs.declared.value.Value.{Value}
use Rattle.heap_state.specs.Cells.{HasWalker}
use Rattle.heap_state.specs.Memory.Era.{Era, Memory}
use Rattle.heap_state.specs.Invariant.Ghost.{Ghost, Lands}
use Rattle.heap_state.specs.Invariant.Parts.Leading.{Older}
use Rattle.heap_state.specs.Meaning.Values.{IsShownCell, MayBeEmptied, TargetsShow}
use Rattle.heap_state.specs.Targets.{IsCell, Targets}
use Rattle.heap_state.specs.Known.{Team, Copy}
use Rattle.heap_state.proofs.Puts.{put_at, put_other}
use Rattle.heap_laws.specs.Copying.{reserved, taken}
use Rattle.heap_laws.specs.Steps.{Ready, with_area}
use Rattle.heap_laws.proofs.Cells.ChainParts.{no_walker}
use Rattle.heap_laws.proofs.Copying.Reservation.{Reservation, was, was_written, written_new, value_reserved}
use Rattle.heap_laws.proofs.Targets.Carried.{lands_at}
use Rattle.heap_laws.proofs.Targets.Frames.{carried_shown}

-- while somebody copies nothing may be emptied: nobody walks
pub copying_empties_nothing : {E : Era} {m : Memory} {team : Team} {g : Ghost} {k : ℕ}
    → Ready E m team g k → (c : Copy) → (team.worker k).copy ≡ Some c → (a : ℕ) (v : Value) → ¬ (MayBeEmptied E m g a v)
copying_empties_nothing {E} {m} {team} {g} {k} ready c has a v emptied =
    let inv = ready.invariant in
    let cells = inv.cells in
    let walks : HasWalker team = cells.chain.walker emptied.walked.0 emptied.walked.1 in
    no_walker E m m.weak m.weak_turn team g cells.ranks inv cells.chain k ready.member ((inv.workers k ready.member).licensed.licensed c has) walks

-- ---- a header is taken

module _ (E : Era) (m : Memory) (g : Ghost) (k a : ℕ) (uncopied : g.copy a ≡ 0) (records : plain.Heap) (t : TargetsShow E m g records) where
  abbrev h : Ghost
  h = taken g k a

  kept_before : (b : ℕ) → (g.copy b ≡ 0) ⊎ (0 < h.keeper b) → (g.copy b ≡ 0) ⊎ (0 < g.keeper b)
  kept_before b y = ⊎_elim
      (λ (e : b ≡ a). inl (rw e uncopied))
      (λ (d : b ≢ a). rw (put_other g.keeper a (k + 1) b d) at y)
      (cases_eq b a)

  shown_then : (b : ℕ) → IsShownCell E m h b → IsShownCell E m g b
  shown_then b c = record {
    cell = record { stands = c.cell.stands; written = c.cell.written; weak = c.cell.weak };
    place = ⊎_elim (λ i. inl i) (λ o. inr (o.0, o.1, kept_before b o.2)) c.place;
  }

  emptied_still : (b : ℕ) (u : Value) → MayBeEmptied E m g b u → MayBeEmptied E m h b u
  emptied_still b u e = record {
    copied = record { stands = e.copied.stands; written = e.copied.written; weak = e.copied.weak; inside = e.copied.inside };
    walked = e.walked;
    empty = e.empty;
    lost = e.lost;
  }

  pub shown_taken : TargetsShow E m h records
  shown_taken = carried_shown E m m g h records records
      (record { cells = shown_then; named = λ b c. refl; denoted = λ b c. refl; emptied = λ b u c e. emptied_still b u e })
      (λ i u e. e) t

-- ---- a place is reserved

module _ {E : Era} {m : Memory} {g : Ghost} {k a f z : ℕ} (reservation : Reservation E m.front m.low g k a f z) (low owed : ℕ)
    (none : (b : ℕ) (u : Value) → ¬ (MayBeEmptied E m g b u))
    (older : Older E g.size g.writer g.kind m.heap) (targets : Targets E m g) where
  abbrev next : Ghost
  next = reserved g k a f z

  cell_before : (b : ℕ) → IsCell next b → (b ≢ f) × IsCell g b
  cell_before b c =
      let d = written_new reservation b c.written in
      let weak = rw (put_other g.kind f (g.kind a) b d) at c.weak in
      (d, record { stands = was reservation b d c.stands; written = was_written reservation b c.written; weak = weak })

  uncopied_before : (b : ℕ) → (next.copy b ≡ 0) ⊎ (0 < g.keeper b) → (g.copy b ≡ 0) ⊎ (0 < g.keeper b)
  uncopied_before b y = ⊎_elim
      (λ (e : next.copy b ≡ 0).
      let d : b ≢ a = λ i. let q = put_at g.copy a (f + 1) b i in omega (arith, q, e) in
      inl (rw (put_other g.copy a (f + 1) b d) at e))
      (λ kept. inr kept)
      y

  abbrev later : Memory
  later = with_area m (f + z) low owed

  shown_before : (b : ℕ) → IsShownCell E later next b → IsShownCell E m g b
  shown_before b c = record { cell = (cell_before b c.cell).1; place = ⊎_elim (λ i. inl i) (λ o. inr (o.0, o.1, uncopied_before b o.2)) c.place }

  -- the target of a shown cell lands
  target_lands : (b : ℕ) → IsShownCell E m g b → Lands g.size g.writer (m.heap (b + 1))
  target_lands b c = ⊎_elim
      (λ i. targets.lands b c.cell i.0 i.1)
      (λ o. lands_at g.size g.writer (m.heap (b + 1)) (λ d e. let y = targets.older o.0 b d c.cell o.1 e in (y.0, older.written d y.0 y.1.0 y.1.1)))
      c.place

  pub shown_reserved : (records : plain.Heap) → TargetsShow E m g records → TargetsShow E later next records
  shown_reserved records t = carried_shown E m later g next records records
      (record {
        cells = shown_before;
        named = λ b c. put_other g.identity f (g.identity a) b (cell_before b c.cell).0;
        denoted = λ b c. value_reserved reservation (m.heap (b + 1)) (target_lands b (shown_before b c));
        emptied = λ b u c e. absurd (none b u e);
      })
      (λ i u e. e) t
