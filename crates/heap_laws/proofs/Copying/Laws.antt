-- The steps of a copy, each with the row that it writes.
use Rattle.std.proofs.Common.{◌≡◌, ℕ, ◌+◌, ◌-◌, ◌*◌, ◌/◌, ◌<◌, true, Some, ap, arith, ⊎_elim, refl}
use Rattle.space_map.specs.declared.area_word.AreaWord.{AreaWord}
use Rattle.space_map.specs.AreaWord.{AreaFits}
use Rattle.heap_state.specs.Memory.Era.{Era, Memory}
use Rattle.heap_state.specs.Invariant.Ghost.{Ghost}
use Rattle.heap_state.specs.Invariant.Parts.Copying.{Copies}
use Rattle.heap_state.specs.Known.{Copy, Team}
use Rattle.heap_laws.specs.Copying.{IsNextWord, moved_by, HasRoomForCopy, HeadersAreTaken, ForwardsAreFound, PlacesAreAimed, PlacesAreAnnounced, PlacesAreReserved, AnnouncesAreCleared, OldWordsAreLoaded, WordsAreCopied, CrossingsAreStored, CopiesArePublished}
use Rattle.heap_laws.specs.Steps.{Ready, IsAreaNow, NoRow, InArea, InCross, InWord, InAnnounce, with_area, with_word, with_crossing, with_announced, KnowledgeChangesAlone, NothingChanges}
use Rattle.heap_laws.proofs.Copying.Header.{header_taken}
use Rattle.heap_laws.proofs.Copying.Knowledge.{learns_alone, nothing_changes, forward_found, place_aimed, place_announced, word_loaded, crossing_stored, announce_cleared}
use Rattle.heap_laws.proofs.Copying.Published.{copy_published_by}
use Rattle.heap_laws.proofs.Copying.Reserved.{place_reserved}
use Rattle.heap_laws.proofs.Copying.Room.{copies_have_room}
use Rattle.heap_laws.proofs.Copying.WordsOfCopies.{word_copied}
use Rattle.heap_laws.proofs.Steps.RowPlaces.{below_board, few}

pub knowledge_changes_alone : KnowledgeChangesAlone
knowledge_changes_alone E m team g k w ready alike own = record { later = m; writes = NoRow; keeps = learns_alone E m team g k ready w alike own }

pub nothing_else_changes : NothingChanges
nothing_else_changes E m team g k ready = record { later = m; writes = NoRow; keeps = nothing_changes E m team g k ready }

-- ---- the header

pub headers_are_taken : HeadersAreTaken
headers_are_taken E m team g k q kind len serial mutator v ready idle asks seeks header word = record {
  later = with_word m q.old v;
  writes = InWord q.old v (let b = below_board ready q.old ((ready.invariant.workers k ready.member).quest q asks).old.0 in omega (arith, b));
  keeps = header_taken E m team g k q kind len serial mutator v ready idle asks seeks header word;
}

pub forwards_are_found : ForwardsAreFound
forwards_are_found E m team g k q len b ready idle asks word = record { later = m; writes = NoRow; keeps = forward_found E m team g k ready idle q asks len b word }

-- ---- the place

pub places_are_aimed : PlacesAreAimed
places_are_aimed E m team g k c place ready has loose at_front = record { later = m; writes = NoRow; keeps = rw at_front (place_aimed E m team g k ready c has loose) }

pub places_are_announced : PlacesAreAnnounced
places_are_announced E m team g k c ready has aimed loose = record {
  later = with_announced m k (c.to + 1);
  writes = InAnnounce k (c.to + 1) (few ready);
  keeps = place_announced E m team g k ready c has aimed loose;
}

pub announces_are_cleared : AnnouncesAreCleared
announces_are_cleared E m team g k ready idle = record { later = with_announced m k 0; writes = InAnnounce k 0 (few ready); keeps = announce_cleared E m team g k ready idle }

-- the area after the copy's place was reserved fits its word
moved_fits : (E : Era) (m : Memory) (c : Copy) (area : AreaWord) → HasRoomForCopy m c → IsAreaNow E m area → AreaFits (moved_by c.size area)
moved_fits E m c area room now =
    let f = now.fits in
    record {
      front_fits = let l = f.low_fits in let r = room.below_low in omega (arith, l, r, now.front, now.low);
      low_fits = f.low_fits;
      owed_fits = let o = f.owed_fits in omega (arith, o);
    }

-- a memory with the same area
same_area : (m : Memory) (a b c x y z : ℕ) → a ≡ x → b ≡ y → c ≡ z → with_area m a b c ≡ with_area m x y z
same_area m a b c x y z e f h = rw (e, f, h) refl

pub places_are_reserved : PlacesAreReserved
places_are_reserved E m team g k c area ready has announced loose at_front now =
    let front : c.to + c.size ≡ E.start + (area.front + c.size) = let f = now.front in omega (arith, f, at_front) in
    record {
      later = with_area m (E.start + (area.front + c.size)) (E.start + area.low) (area.owed - c.size);
      writes = InArea (moved_by c.size area) (moved_fits E m c area (copies_have_room E m team g k c ready has loose) now);
      keeps = rw (same_area m (c.to + c.size) m.low (m.owed - c.size) (E.start + (area.front + c.size)) (E.start + area.low) (area.owed - c.size) front now.low (ap (λ x. x - c.size) now.owed)) at
          (place_reserved E m team g k c area ready has announced loose at_front now);
    }

-- ---- words and crossings

module _ {E : Era} {m : Memory} {team : Team} {g : Ghost} {k : ℕ} (ready : Ready E m team g k) (c : Copy) (has : (team.worker k).copy ≡ Some c) where
  copies : Copies E m.front g.size g.writer g.copy g.keeper g.kept m.announced m.cross m.heap k c
  copies = (ready.invariant.workers k ready.member).copy c has

  next_below : (v : ℕ) → c.reserved ≡ true → IsNextWord c v → c.to + c.done < E.board + 64
  next_below v res next =
      let p = copies.place res in
      let o = copies.old in
      let b = below_board ready c.to (omega (arith, p.3, o.0)) in
      let d : c.done < c.size = ⊎_elim (λ (q : (c.done ≡ 0) × (v ≡ c.header)). omega (arith, q.0, o)) (λ (q : c.word ≡ Some v). (copies.loaded v q).1) next in
      omega (arith, b, p.3, d)

  crossed_below : c.reserved ≡ true → 64 * c.crossed < c.to + c.size → c.crossed < E.board / 64
  crossed_below res lt =
      let p = copies.place res in
      let o = copies.old in
      let b = below_board ready c.to (omega (arith, p.3, o.0)) in
      omega (arith, b, p.3, lt, ready.laid_out.board)

  from_below : c.from < E.board + 64
  from_below = let o = copies.old in let b = below_board ready c.from (omega (arith, o)) in omega (arith, b)

pub old_words_are_loaded : OldWordsAreLoaded
old_words_are_loaded E m team g k c ready has res some more = record { later = m; writes = NoRow; keeps = word_loaded E m team g k ready c has res some more }

pub words_are_copied : WordsAreCopied
words_are_copied E m team g k c v ready has res next = record {
  later = with_word m (c.to + c.done) v;
  writes = InWord (c.to + c.done) v (next_below ready c has v res next);
  keeps = word_copied E m team g k c v ready has res next;
}

pub crossings_are_stored : CrossingsAreStored
crossings_are_stored E m team g k c ready has res begins inside = record {
  later = with_crossing m c.crossed c.to;
  writes = InCross c.crossed c.to (crossed_below ready c has res inside);
  keeps = crossing_stored E m team g k ready c has res begins inside;
}

-- ---- the forward

pub copies_are_published : CopiesArePublished
copies_are_published E m team g k c q v links ready has asks res full crossed word cell = record {
  later = with_word m c.from v;
  writes = InWord c.from v (from_below ready c has);
  keeps = copy_published_by E m team g k c q v links ready has asks res (omega (arith, full)) crossed word cell;
}
