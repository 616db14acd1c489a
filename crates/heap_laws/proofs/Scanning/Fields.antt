-- The fields of a page that is scanned: passed where they are clean, and replaced by the copy's address where they are not.
use Rattle.std.proofs.Common.{◌≤◌, ◌≡◌, ◌≢◌, ℕ, ◌+◌, ◌-◌, ◌/◌, ◌<◌, Some, None, refl, sym, ◌∙◌, arith, ⊎_elim, inl, inr, subst, ap, Option}
use Rattle.std.proofs.lemmas.Bool.{cases_eq}
use Rattle.heap_words.specs.Decoded.{PointerWord, decode}
use Rattle.heap_state.specs.Memory.Era.{Era, Memory, IsLaidOut}
use Rattle.heap_state.specs.Functions.{put}
use Rattle.heap_state.specs.Invariant.Ghost.{Ghost, InRecord, Here, Leads, OnBoard}
use Rattle.heap_state.specs.Invariant.Inductive.{Invariant, Knows}
use Rattle.heap_state.specs.Invariant.Parts.Copying.{IsOrigin, Seeks, Licensed}
use Rattle.heap_state.specs.Invariant.Parts.Pages.{ScannedBy}
use Rattle.heap_state.specs.Invariant.Parts.Scanning.{Stepping}
use Rattle.heap_state.specs.Known.{Known, Team, Origin, Scanned, Quest, Copy, Scan, SeenRecord, is_late}
use Rattle.heap_state.proofs.Workers.Frames.{counted_put, staffed_put, stocks_put, numbered_put, rooted_put}
use Rattle.heap_state.proofs.Puts.{put_same, team_put, some_same, none≢some}
use Rattle.heap_state.specs.Memory.FieldSpan.{next_scanned, next_from}
use Rattle.heap_state.proofs.Records.FieldSpans.{passes_no_field, next_within, span-within, field-span}
use Rattle.heap_state.specs.Memory.Entries.{WordIs}
use Rattle.heap_laws.specs.Cells.Frames.{GoesOnInChain}
use Rattle.heap_laws.specs.Scanning.Words.{scanning, on_to, AtField, PassingFieldKeeps, asking, AskingKeeps, HasFound, past_word}
use Rattle.heap_laws.specs.Steps.{with_worker, with_word, Ready, Steps, InWord, Preserves}
use Rattle.heap_laws.proofs.Cells.Kept.{idle_in_chain, none_is_some, word_keeps, field_is_unread}
use Rattle.heap_laws.proofs.Fields.Cycle.{slot_keeps_cycle}
use Rattle.heap_laws.proofs.Fields.Slots.{Slot, here_slot, headed_slot, raw_slot, counts_slot, opened_slot, landing_slot, older_slot, new_slot, old_space_slot, stocks_slot, scans_slot, copies_slot, keeps_slot, origin_slot, objects_slot, board_slot, here_field}
use Rattle.heap_laws.proofs.Copying.Found.{FoundCopy, found_copy}
use Rattle.heap_laws.proofs.Steps.Learning.{shown_put, scanned_on, learns, learnt}
use Rattle.heap_laws.proofs.Scanning.ScanInProgress.{ScanGoesOn, stepping_on, knows_on, goes_on, same_page, no_copy}
use Rattle.heap_laws.proofs.Scanning.Scanners.{scan_scan}
use Rattle.heap_laws.proofs.Frames.Values.{pointer_lands}
use Rattle.heap_laws.proofs.Steps.RowPlaces.{here_below}
use Rattle.heap_laws.proofs.Targets.Frames.{made_put, shown_beside}

module _ (E : Era) (m : Memory) (team : Team) (g : Ghost) (k : ℕ) (s : Scan) (out : IsLaidOut E) (inv : Invariant E m team g) (below : k < team.count) (scans : (team.worker k).scan ≡ Some s) (at : AtField E s) where
  me : Knows E m.gate m.traced m.front m.low m.old_front m.old_low m.old_owed g m.page m.cross m.announced m.heap k (team.worker k)
  me = inv.workers k below

  steps : Stepping E m.front g.size g.writer g.kind s
  steps = me.stepping s scans

  pub here : Here E g.size g.writer g.kind s.cursor
  unfolding Here
  here = ⊎_elim (λ b. inr b.0) (λ y. inl (in_field y.0 y.1 y.2)) at.place
    where
      in_field : (r : SeenRecord) → s.current ≡ Some r → s.cursor < r.fields_end → InRecord E g.size g.writer g.kind s.cursor
      in_field r e l =
          let c = steps.current r e in
          let o = inv.laid.order in
          let w = span-within (g.kind r.at) (g.size r.at) c.stands (λ n e. (inv.counts.counts r.at n c.stands c.written e).1) in
          let first : 0 < s.cursor - r.at = (let q = c.entered in omega (arith, q, w)) in
          let last : s.cursor - r.at < g.size r.at = (let q = c.fields in omega (arith, q, w, l, first)) in
          record {
            a = r.at;
            i = s.cursor - r.at;
            field = record { stands = c.stands; written = c.written; field = (field-span (g.kind r.at) (s.cursor - r.at) (g.size r.at) first last).1 (let q = c.entered in omega (arith, q), let q = c.fields in omega (arith, q, l, first)); first = first; last = last };
            inside = (c.inside.0, let q = c.inside.1 in let z = c.whole in omega (arith, q, z, o, last));
            at = let q = c.entered in omega (arith, q);
          }

  -- past the word at the cursor, once it is clean
  next : (heap : ℕ → ℕ) → ¬ (Leads E (heap s.cursor)) → ScanGoesOn E m.front g.size g.writer g.kind heap s (past_word E s)
  next heap fine = ⊎_elim
      (λ b. gone_on None b.1 (on_board b.0 b.1))
      (λ y. gone_on (Some y.0) y.1 (in_record y.0 y.1 y.2))
      at.place
    where
      gone_on : (o : Option SeenRecord) → s.current ≡ o → ScanGoesOn E m.front g.size g.writer g.kind heap s (on_to E s (next_from o (s.cursor + 1))) → ScanGoesOn E m.front g.size g.writer g.kind heap s (past_word E s)
      gone_on o e goes = subst (λ (y : ℕ). ScanGoesOn E m.front g.size g.writer g.kind heap s (on_to E s y)) (ap (λ (c : Option SeenRecord). next_from c (s.cursor + 1)) (sym e)) goes

      on_board : OnBoard E s.cursor → s.current ≡ None → ScanGoesOn E m.front g.size g.writer g.kind heap s (on_to E s (s.cursor + 1))
      on_board b none = record {
        page = refl;
        clean = λ x u e l n. let y : x ≡ s.cursor = omega arith in rw y fine;
        top = inl (let p = at.on_page in let a = out.board in omega (arith, p, b, a));
        stepping = stepping_on E m.front g.size g.writer g.kind s (s.cursor + 1) (omega arith) (λ r e. none≢some (sym none ∙ e)) steps;
      }

      in_record : (r : SeenRecord) → s.current ≡ Some r → s.cursor < r.fields_end → ScanGoesOn E m.front g.size g.writer g.kind heap s (on_to E s (next_scanned r (s.cursor + 1)))
      in_record r is l =
          let c = steps.current r is in
          let z = span-within (g.kind r.at) (g.size r.at) c.stands (λ n e. (inv.counts.counts r.at n c.stands c.written e).1) in
          let below : s.cursor + 1 ≤ r.next = (let q = c.fields in let y = c.whole in omega (arith, q, y, z, l)) in
          let w = next_within r (g.kind r.at) (g.size r.at) c.fields c.whole (s.cursor + 1) below in
          let entered = c.entered in
          record {
            page = refl;
            clean = λ x u e f n. ⊎_elim
                (λ (y : x ≡ s.cursor). rw y fine)
                (λ (d : x ≢ s.cursor). absurd (
                let whole = c.whole in
                let q = here_field out inv.laid g.writer g.kind x u r.at (x - r.at) (omega (arith, whole, w, n, f, entered)) (omega (arith, entered, f)) in
                passes_no_field r (g.kind r.at) (g.size r.at) c.fields c.whole (s.cursor + 1) x (omega arith) (omega (arith, entered, z, f)) (omega (arith, w, n)) n q.1))
                (cases_eq x s.cursor);
            top = inr (let q = c.inside.1 in omega (arith, q, w));
            stepping = stepping_on E m.front g.size g.writer g.kind s (next_scanned r (s.cursor + 1)) (omega (arith, w)) (λ q e.
                let z : r ≡ q = some_same (sym is ∙ e) in
                rw (← z) w.1) steps;
          }

-- the worker asks for the copy
pub asks : AskingKeeps
asks E m team g k s a ready is at going leads low high =
    let inv = ready.invariant in
    let me = inv.workers k ready.member in
    let h = here E m team g k s ready.laid_out inv ready.member is.scans at in
    let q : Quest = record { old = a; origin = Scanned s.cursor; found = None } in
    let st : 0 < g.size a = pointer_lands g.size g.writer (m.heap s.cursor) a (inv.landing.lands s.cursor h) leads in
    learnt (learns E m team g k (asking (team.worker k) q) inv
    (let c = idle_in_chain (asking (team.worker k) q) (team.worker k) is.asks_nothing refl refl (refl, refl) refl in
    assumption) (λ t e. (t, e, refl))
    (let origin : (r : Quest) → Some q ≡ Some r → IsOrigin E g.size g.writer g.kind m.heap (is_late E.epoch (team.worker k)) (team.worker k).done (team.worker k).registers (team.worker k).scan r.old r.origin = λ r e. rw (← some_same e) ((s, is.scans, refl, at.on_page, going), h, leads) in
    let seeks : (r : Quest) → Some q ≡ Some r → Seeks E g.size g.writer g.copy r = λ r e. rw (← some_same e) (record { old = (st, low, high); found = λ b f. none≢some f }) in
    let licence : Licensed m.gate.behind g.kept k (is_late E.epoch (team.worker k)) (team.worker k).copy (Some q) (team.worker k).scan = record { licensed = me.licensed.licensed; asked = λ c e. absurd (no_copy E m team g k inv ready.member is.asks_nothing c e); counted = me.licensed.counted; idle = me.licensed.idle } in
    assumption))

-- a clean field is passed
pub passes : PassingFieldKeeps
passes E m team g k s ready is at fine =
    let inv = ready.invariant in
    learnt (goes_on E m team g k s inv ready.member is.scans (no_copy E m team g k inv ready.member is.asks_nothing) is.asks_nothing (past_word E s)
    (next E m team g k s ready.laid_out inv ready.member is.scans at m.heap fine))

-- the copy's address is stored
module _ (E : Era) (m : Memory) (team : Team) (g : Ghost) (k : ℕ) (s : Scan) (q : Quest) (b v : ℕ) (ready : Ready E m team g k) (has : HasFound E team k s q b) (linked : (team.worker k).linking ≡ None) (word : decode v ≡ PointerWord b) where
  abbrev out : IsLaidOut E
  out = ready.laid_out

  abbrev inv : Invariant E m team g
  inv = ready.invariant

  abbrev x : ℕ
  x = s.cursor

  abbrev heap' : ℕ → ℕ
  heap' = put m.heap s.cursor v

  abbrev t : Scan
  t = past_word E s

  abbrev w' : Known
  w' = scanning (team.worker k) (past_word E s)

  known : Knows E m.gate m.traced m.front m.low m.old_front m.old_low m.old_owed g m.page m.cross m.announced m.heap k (team.worker k)
  known = inv.workers k ready.member

  h : Here E g.size g.writer g.kind s.cursor
  h = here E m team g k s out inv ready.member has.scans has.at

  -- the word leads to the old record of which b is the copy
  led : decode (m.heap s.cursor) ≡ PointerWord q.old
  led = by_origin q.origin has.origin (known.origin q has.quest)
    where
      by_origin : (o : Origin) → o ≡ Scanned s.cursor → IsOrigin E g.size g.writer g.kind m.heap (is_late E.epoch (team.worker k)) (team.worker k).done (team.worker k).registers (team.worker k).scan q.old o → decode (m.heap s.cursor) ≡ PointerWord q.old
      by_origin o e y = let z : IsOrigin E g.size g.writer g.kind m.heap (is_late E.epoch (team.worker k)) (team.worker k).done (team.worker k).registers (team.worker k).scan q.old (Scanned s.cursor) = rw e at y in z.2

  copy : FoundCopy E m team g k (m.heap s.cursor) v
  copy = found_copy E m team g k (m.heap s.cursor) v b q out inv ready.member has.quest has.found led word

  slot : Slot E m.front m.low g.size g.writer g.kind s.cursor v
  slot = here_slot out inv.laid h (record { clean = copy.clean; lands = copy.lands })

  on : ScanGoesOn E m.front g.size g.writer g.kind heap' s t
  on = next E m team g k s out inv ready.member has.scans has.at heap' (rw (put_same m.heap s.cursor v) copy.clean)

  abbrev KnowsNow : ℕ → Known → Type 0
  KnowsNow = Knows E m.gate m.traced m.front m.low m.old_front m.old_low m.old_owed g m.page m.cross m.announced (put m.heap s.cursor v)

  others : (j : ℕ) → j < team.count → j ≢ k → KnowsNow j (team.worker j)
  others j l d =
      let u = inv.workers j l in
      let o = λ (r : Quest) (e : (team.worker j).quest ≡ Some r). origin_slot slot m.heap (is_late E.epoch (team.worker j)) (team.worker j).done (team.worker j).registers (team.worker j).scan (λ s e f _. apart s e f) r.old r.origin (u.origin r e) in
      let c = λ (r : Copy) (e : (team.worker j).copy ≡ Some r). copies_slot slot m.heap j r (u.copy r e) in
      let p = λ (r : Copy) (e : (team.worker j).copy ≡ Some r). keeps_slot slot m.heap j r (u.copy r e) (u.keeps r e) in
      let y = λ (r : Scan) (e : (team.worker j).scan ≡ Some r). scans_slot slot m.heap j r (u.scan r e) in
      assumption
    where
      apart : (r : Scan) → (team.worker j).scan ≡ Some r → r.cursor / 64 ≡ r.page → r.cursor ≢ s.cursor
      apart r e f z = let p : r.page ≡ s.page = (let a = has.at.on_page in omega (arith, z, f, a)) in
          let c = ((inv.workers j l).scan r e).claimed in d (scan_scan (rw p at c) (known.scan s has.scans).claimed)

  own : KnowsNow k w'
  own = knows_on E m team g k s inv ready.member has.scans copy.copies_nothing heap' t on (scans_slot slot m.heap k s (known.scan s has.scans))

  goes : GoesOnInChain E w' (team.worker k)
  goes = record { linking = refl; pass = refl; cleared = λ e. e; licence = λ l _ _. none_is_some linked l; ground = λ _. (refl, refl) }

  invariant : Invariant E (with_word m s.cursor v) (with_worker team k w') g
  invariant =
      let p1 = counted_put team.worker k w' refl refl inv.counted in
      let p2 = staffed_put team.worker k w' refl inv.staffed in
      let p3 : ScannedBy E team.count m.page (put team.worker k w') = scanned_on team.worker k w' (same_page E m team g k s inv ready.member has.scans copy.copies_nothing t refl) inv.scanned in
      let p4 = headed_slot slot m.heap inv.headed in
      let p5 = raw_slot slot m.heap inv.raw_words in
      let p14 = counts_slot slot m.heap inv.counts in
      let p6 = opened_slot slot m.heap inv.opened in
      let p7 = landing_slot slot m.heap inv.landing in
      let p8 = older_slot slot m.heap inv.older in
      let p9 = new_slot slot m.heap out.below inv.new in
      let p10 = old_space_slot slot m.heap inv.old_space in
      let p11 = stocks_put team.worker k w' (λ _ e. e) (stocks_slot slot m.heap inv.stocks) in
      let p12 = numbered_put team.worker k w' refl inv.numbered in
      let unread = field_is_unread E m team g k s.cursor ready h in
      let p15 = word_keeps E m (with_word m s.cursor v) team g g k s.cursor v w' (InWord s.cursor v (here_below ready s.cursor h)) unread.0 unread.1
      (assumption) goes inv.cells in
      let p13 = team_put team.count KnowsNow team.worker k w' others own in
      assumption

  keeps : Preserves E m (with_word m s.cursor v) team (with_worker team k w') g g
  keeps = record {
    invariant = invariant;
    shown = λ p y. shown_put E (with_word m s.cursor v) (with_word m s.cursor v) team g k w' p refl refl refl refl refl (λ e. e) (record {
      objects = objects_slot slot m.heap g.identity h copy.value y.objects;
      targets = shown_beside E m g s.cursor v (field_is_unread E m team g k s.cursor ready h).1 p.heap y.targets;
      board = board_slot slot m.heap g.identity copy.value y.board;
      as_many = y.as_many;
      makers = y.makers;
      accounts = y.accounts;
      registers = y.registers;
    });
    cycle = λ p y.
        let c = slot_keeps_cycle E m team g p s.cursor v slot (λ _. copy.seen) y in
        record {
          copying = c.copying;
          rooted = rooted_put team.worker k w' refl refl refl (λ _ _ a b. (a, b)) c.rooted;
          made = made_put team.worker k w' refl c.made;
        };
    ages = λ p. omega arith;
  }

  pub stores : Steps E m team g k (Some (WordIs s.cursor v)) w' g
  stores = record { later = with_word m s.cursor v; writes = InWord s.cursor v (here_below ready s.cursor h); keeps = keeps }
