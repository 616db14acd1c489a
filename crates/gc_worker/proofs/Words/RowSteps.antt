-- From rows of the table to the words of a step, once for each sort of step; and the laws of the heap for steps that are none of the
-- plain machine. No kind speaks of places.
use Rattle.std.proofs.Common.{◌≡◌, ◌≢◌, ℕ, ◌+◌, ◌*◌, ◌<◌, ◌≤◌, ◌==◌, true, false, refl, length, Option, None, Some, subst, slice_index, arith, sym, ◌∙◌, ⊎_elim}
use Rattle.std.proofs.lemmas.Bool.{eq-eqb, ne_eqb, cases_eq}
use Rattle.plain_state.specs.State.{Plain}
use Rattle.atom_store.specs.declared.step.Step.TheVariants.{Load, Store, Exchange}
use Rattle.atom_store.specs.declared.reply.Reply.{Reply}
use Rattle.atom_store.specs.declared.reply.Reply.TheVariants.{Value, Done, Won, Lost}
use Rattle.space_map.specs.Spaces.{page_of}
use Rattle.space_map.specs.Table.{Row, IsRow, place_of, whole_length}
use Rattle.space_map.proofs.Rows.{place_of-lt}
use Rattle.space_map.proofs.WholeRows.{whole_place_of-lt}
use Rattle.heap_state.specs.Configuration.{Configuration, Stands, era, memory, team}
use Rattle.heap_state.specs.Memory.Entries.{WholeRow, Within, Behind, whole_place_of, IsWholeRow, word_in_whole, Entry, row_of, word_of}
use Rattle.heap_state.specs.Invariant.Ghost.{Ghost}
use Rattle.heap_state.specs.Memory.Table.{word_in}
use Rattle.heap_state.specs.Known.{Known}
use Rattle.heap_laws.specs.Composing.{IsAtMost}
use Rattle.heap_laws.specs.Steps.{Ready, IsBeside}
use Rattle.heap_laws.specs.Steps as law
use Rattle.heap_laws.proofs.Copying.Laws.{nothing_else_changes}
use Rattle.heap_laws.proofs.Lifting.Configurations.{ready}
use Rattle.heap_laws.proofs.Lifting.Laws.{steps_are_lifted}
use Rattle.heap_laws.proofs.Steps.Composing.{steps_forget, steps_write_beside}
use Rattle.heap_state.proofs.Table.StoredRows.{word_in-row}
use Rattle.heap_state.proofs.Table.Stores.{entry_has_row}
use Rattle.gc_worker.specs.Workers.Fits.{Fits, Takes}
use Rattle.gc_worker.specs.Steps.Goes.{Is, Goes, StepsInTable, TracesEpoch, Wins}
use Rattle.gc_worker.specs.Workers.Held.{Held}
use Rattle.gc_worker.specs.Workers.Knows.{knows}
use Rattle.gc_worker.specs.Steps.Turned.{Silent, Empties, PageWon, turned, told, won}
use Rattle.gc_worker.proofs.Words.Eras.{board_is}

-- the row is one of the table, not one of those behind it
abbrev pub IsInTable : ℕ → WholeRow → Type 0
IsInTable n (Within row) = IsRow n row
IsInTable n (Behind row) = ⊥

in_any : (n : ℕ) (row : WholeRow) → IsInTable n row → IsWholeRow n row
in_any n (Within row) is = is
in_any n (Behind row) is = absurd is

module _ (c : Configuration) (p : Plain) (s : Stands c p) (k : ℕ) (x : Held) where
  -- what a law of the heap says of a step of worker k
  abbrev pub Law : (e : Option Entry) (w : Known) (h : Ghost) → Type 0
  Law e w h = law.Steps (era c) (memory c) (team c) s.ghost k e w h

  -- a step that is none of the plain machine, by the law that says of it what the worker then knows
  pub quiet : (e : Option Entry) (reply : Reply) (h : Ghost) → k < length c.workers → Law e (knows (turned x reply)) h → told x reply ≡ Silent
      → Takes x reply → Fits c.pages c.mutators k (turned x reply) → Wins c e k (turned x reply) (won x reply) → Goes c p s k e x reply
  quiet e reply h below l silent takes fits wins = record {
    takes = takes;
    fits = fits;
    ghost_after = h;
    leads = rw silent (steps_are_lifted c p s e k (knows (turned x reply)) h below l);
    wins = wins;
    answered = rw silent tt;
    full = rw silent tt;
    flip = rw silent tt;
  }

  -- the same where the worker becomes this, and wins no page
  pub becomes : (e : Option Entry) (reply : Reply) (y : Held) (h : Ghost) → turned x reply ≡ y → k < length c.workers → Law e (knows y) h → told x reply ≡ Silent
      → won x reply ≡ None → Takes x reply → Fits c.pages c.mutators k y → Goes c p s k e x reply
  becomes e reply y h same below l silent none takes fits =
      quiet e reply h below (subst (λ (z : Held). Law e (knows z) h) (sym same) l) silent takes (subst (Fits c.pages c.mutators k) (sym same) fits)
      (subst (λ (w : Option PageWon). Wins c e k (turned x reply) w) (sym none) tt)

  -- a step after which the epoch is traced
  pub traces_so : (e : Option Entry) (reply : Reply) (y : Held) (h : Ghost) → turned x reply ≡ y → TracesEpoch c p s.ghost k e y h → told x reply ≡ Empties
      → won x reply ≡ None → Takes x reply → Fits c.pages c.mutators k y → Goes c p s k e x reply
  traces_so e reply y h same traces tells none takes fits = record {
    takes = takes;
    fits = subst (Fits c.pages c.mutators k) (sym same) fits;
    ghost_after = h;
    leads = rw tells (subst (λ (z : Held). TracesEpoch c p s.ghost k e z h) (sym same) traces);
    wins = subst (λ (w : Option PageWon). Wins c e k (turned x reply) w) (sym none) tt;
    answered = rw tells tt;
    full = rw tells tt;
    flip = rw tells tt;
  }

  -- the row that a law says is written is one of the table, or one of those behind it
  pub row_fits : (e : Entry) (w : Known) (h : Ghost) → k < length c.workers → Law (Some e) w h → IsWholeRow c.pages (row_of e)
  row_fits e w h below l = entry_has_row c.pages e (steps_are_lifted c p s (Some e) k w h below l).fits

  in_table : (row : Row) → IsRow c.pages row → place_of c.pages row < length c.words
  in_table row is = let w = s.formed.whole in let l = place_of-lt c.pages row is in omega (arith, w, l)

  reads : (row : Row) → IsRow c.pages row → slice_index c.words (place_of c.pages row) ≡ word_in c.pages c.words row
  reads row is = sym (word_in-row c.pages c.words row is)

  pub loads : (row : Row) → IsRow c.pages row → Goes c p s k None x (Value (word_in c.pages c.words row)) → StepsInTable c p s k x (Load (place_of c.pages row))
  loads row is g = record { place = in_table row is; entry = None; writes = refl; goes = rw (reads row is) g }

  -- where a row of the table stands there is a word
  there : (row : WholeRow) → IsInTable c.pages row → whole_place_of c.pages row < length c.words
  there (Within row) is = in_table row is
  there (Behind row) is = absurd is

  reads_any : (row : WholeRow) → IsWholeRow c.pages row → slice_index c.words (whole_place_of c.pages row) ≡ word_in_whole c.pages c.words row
  reads_any (Within row) is = reads row is
  reads_any (Behind row) is = refl

  -- a store of any row whose word there is
  pub stores_there : (e : Entry) → whole_place_of c.pages (row_of e) < length c.words → Goes c p s k (Some e) x Done
      → StepsInTable c p s k x (Store (whole_place_of c.pages (row_of e)) (word_of e))
  stores_there e within g = record { place = within; entry = Some e; writes = refl; goes = g }

  pub stores : (e : Entry) → IsInTable c.pages (row_of e) → Goes c p s k (Some e) x Done → StepsInTable c p s k x (Store (whole_place_of c.pages (row_of e)) (word_of e))
  stores e is g = stores_there e (there (row_of e) is) g

  module _ (e : Entry) (old : ℕ) (is : IsWholeRow c.pages (row_of e)) (within : whole_place_of c.pages (row_of e) < length c.words) where
    abbrev word : ℕ
    word = word_in_whole c.pages c.words (row_of e)

    at : slice_index c.words (whole_place_of c.pages (row_of e)) ≡ word
    at = reads_any (row_of e) is

    abbrev Exchanges : Type 0
    Exchanges = StepsInTable c p s k x (Exchange (whole_place_of c.pages (row_of e)) old (word_of e))

    by_won : (slice_index c.words (whole_place_of c.pages (row_of e)) == old) ≡ true → Goes c p s k (Some e) x Won → Exchanges
    by_won test g = record { place = within; entry = Some e; writes = rw test refl; goes = rw test g }

    by_lost : (slice_index c.words (whole_place_of c.pages (row_of e)) == old) ≡ false → Goes c p s k None x (Lost word) → Exchanges
    by_lost test g = record { place = within; entry = None; writes = rw test refl; goes = rw (test, at) g }

    -- an exchange of any row whose word there is
    pub exchanges_there : (word ≡ old → Goes c p s k (Some e) x Won) → (word ≢ old → Goes c p s k None x (Lost word)) → Exchanges
    exchanges_there won lost = ⊎_elim
        (λ (same : word ≡ old). by_won (eq-eqb (slice_index c.words (whole_place_of c.pages (row_of e))) old (at ∙ same)) (won same))
        (λ (other : word ≢ old). by_lost (ne_eqb (slice_index c.words (whole_place_of c.pages (row_of e))) old (λ same. other (sym at ∙ same))) (lost other))
        (cases_eq word old)

  pub exchanges : (e : Entry) (old : ℕ) → IsInTable c.pages (row_of e)
      → (word_in_whole c.pages c.words (row_of e) ≡ old → Goes c p s k (Some e) x Won) → (word_in_whole c.pages c.words (row_of e) ≢ old → Goes c p s k None x (Lost (word_in_whole c.pages c.words (row_of e))))
      → StepsInTable c p s k x (Exchange (whole_place_of c.pages (row_of e)) old (word_of e))
  exchanges e old is = exchanges_there e old (in_any c.pages (row_of e) is) (there (row_of e) is)

  module _ (is : Is c k x) where
    pub prepared : Ready (era c) (memory c) (team c) s.ghost k
    prepared = ready c p s k is.below

    -- a step that teaches nothing: what the worker then knows it knew
    pub nothing : (w : Known) → knows x ≡ w → Law None w s.ghost
    nothing w same = subst (λ (v : Known). Law None v s.ghost) (is.as_known ∙ same) (nothing_else_changes (era c) (memory c) (team c) s.ghost k prepared)

    -- the same if a row beside the table is written
    pub nothing_beside : (e : Entry) (w : Known) → IsBeside (era c) e → knows x ≡ w → Law (Some e) w s.ghost
    nothing_beside e w beside same = steps_write_beside (era c) (memory c) (team c) s.ghost k e w s.ghost beside (nothing w same)

    -- or it knows less
    pub less : (w : Known) → IsAtMost w (knows x) → Law None w s.ghost
    less w most = steps_forget (era c) (memory c) (team c) s.ghost k None (knows x) w s.ghost (nothing (knows x) refl) most

  -- ---- rows of the whole table, if there is room for checkpoints

  -- the reply takes the worker on, and teaches it nothing
  pub record TeachesNothing (reply : Reply) : Type 0 where
    pub same : knows x ≡ knows (turned x reply)
    pub silent : told x reply ≡ Silent
    pub none : won x reply ≡ None
    pub takes : Takes x reply
    pub fits : Fits c.pages c.mutators k (turned x reply)

  module _ (is : Is c k x) where
    pub untaught : (reply : Reply) → TeachesNothing reply → Goes c p s k None x reply
    untaught reply t = becomes None reply (turned x reply) s.ghost refl is.below (nothing is (knows (turned x reply)) t.same) t.silent t.none t.takes t.fits

    pub untaught_beside : (e : Entry) (reply : Reply) → IsBeside (era c) e → TeachesNothing reply → Goes c p s k (Some e) x reply
    untaught_beside e reply beside t =
        becomes (Some e) reply (turned x reply) s.ghost refl is.below (nothing_beside is e (knows (turned x reply)) beside t.same) t.silent t.none t.takes t.fits

    module _ (room : x.layout.checkpoints ≡ true) where
      stands : (row : WholeRow) → IsWholeRow c.pages row → whole_place_of c.pages row < length c.words
      stands row fits =
          let own = subst (λ (n : ℕ). IsWholeRow n row → whole_place_of n row < whole_length x.layout) is.fits.pages (whole_place_of-lt x.layout row room) fits in
          let whole = is.whole in
          omega (arith, own, whole)

      pub loads_whole : (row : WholeRow) → IsWholeRow c.pages row → Goes c p s k None x (Value (word_in_whole c.pages c.words row))
          → StepsInTable c p s k x (Load (whole_place_of c.pages row))
      loads_whole row fits g = record { place = stands row fits; entry = None; writes = refl; goes = rw (reads_any row fits) g }

      pub stores_whole : (e : Entry) → IsWholeRow c.pages (row_of e) → Goes c p s k (Some e) x Done → StepsInTable c p s k x (Store (whole_place_of c.pages (row_of e)) (word_of e))
      stores_whole e fits g = stores_there e (stands (row_of e) fits) g

      pub exchanges_whole : (e : Entry) (old : ℕ) → IsWholeRow c.pages (row_of e)
          → (word_in_whole c.pages c.words (row_of e) ≡ old → Goes c p s k (Some e) x Won) → (word_in_whole c.pages c.words (row_of e) ≢ old → Goes c p s k None x (Lost (word_in_whole c.pages c.words (row_of e))))
          → StepsInTable c p s k x (Exchange (whole_place_of c.pages (row_of e)) old (word_of e))
      exchanges_whole e old fits = exchanges_there e old fits (stands (row_of e) fits)

-- pages and words of the table are those of the epoch, up to the board
pub page_in_era : (c : Configuration) (page : ℕ) → page ≤ 2 * c.pages → page ≤ page_of (era c).board
page_in_era c page low = let b = board_is c in omega (arith, low, b)

pub word_in_era : (c : Configuration) (addr : ℕ) → addr ≤ 128 * c.pages + 63 → addr < (era c).board + 64
word_in_era c addr low = let b = board_is c in omega (arith, low, b)
