-- A write of a heap word that is no field and no board word: what reads only fields, board words and the places of others
-- stays as it is.
use Rattle.std.proofs.Common.{◌≡◌, ◌≢◌, ℕ, refl, ◌+◌, ◌<◌, ◌≤◌, Bool, true, sym, ap, ◌∙◌, arith, Option, ◌⊎◌, inl, inr}
use Rattle.plain_state.specs.declared.kind.Kind.{Kind}
use Rattle.heap_words.specs.Decoded.{decode}
use Rattle.plain_state.specs.State as plain
use Rattle.plain_state.specs.declared.value.Identity.{Identity}
use Rattle.space_map.specs.declared.page_word.PageWord.{PageWord}
use Rattle.heap_state.specs.Memory.Era.{Era, IsLaidOut}
use Rattle.heap_state.specs.Functions.{put}
use Rattle.heap_state.specs.Invariant.Ghost.{IsField, Here}
use Rattle.heap_state.specs.Invariant.Parts.Copying.{IsOrigin, Copies, Keeps}
use Rattle.heap_state.specs.Invariant.Parts.Leading.{Opened, Landing, Older}
use Rattle.heap_state.specs.Invariant.Parts.Records.{Laid, NewArea, SpaceOf, RawWords, Counts}
use Rattle.heap_state.specs.Invariant.Parts.Scanning.{Scans}
use Rattle.heap_state.specs.Invariant.Parts.Stocks.{Stocked, Stocks}
use Rattle.heap_state.specs.Meaning.Values.{Shows, ShowsAll, BoardShows, value_of}
use Rattle.heap_state.specs.Known.{Known, Copy, Scan, Stock, Register, Scanned, Origin}
use Rattle.heap_state.proofs.Puts.{put_other}
use Rattle.heap_laws.proofs.Frames.OtherWords.{has_place, area_same, stocked_same, scans_same, copies_same, shows_same}
use Rattle.heap_laws.proofs.Frames.Values.{one_place}

-- Word i of the record at a is its first, or one of a place that is still written; and nobody but worker k writes there.
pub record UnreadWord (E : Era) (front low : ℕ) (size writer : ℕ → ℕ) (k a i : ℕ) : Type 0 where
  pub laid_out : IsLaidOut E
  pub laid : Laid E front low size
  pub inside : i < size a
  pub hidden : (i ≡ 0) ⊎ (0 < writer a)
  pub own : (writer a ≡ 0) ⊎ (writer a ≡ k + 1)

module _ {E : Era} {front low : ℕ} {size writer : ℕ → ℕ} {k a0 i0 : ℕ} (sp : UnreadWord E front low size writer k a0 i0) (heap : ℕ → ℕ) (v : ℕ) where
  open sp use {laid_out, laid, inside, hidden, own}

  abbrev stored : ℕ → ℕ
  stored = put heap (a0 + i0) v

  pub same_place : (a i : ℕ) → i < size a → a + i ≡ a0 + i0 → (a ≡ a0) × (i ≡ i0)
  same_place a i l e = let q = one_place size a a0 i i0 laid.apart l inside e in (q, omega arith)

  pub off_inner : (a i : ℕ) → writer a ≡ 0 → 0 < i → i < size a → a + i ≢ a0 + i0
  off_inner a i w p l e = let q = same_place a i l e in let y : writer a ≡ writer a0 = ap writer q.0 in omega (arith, hidden, q.1, y)

  pub off_board : (x : ℕ) → E.board ≤ x → x ≢ a0 + i0
  off_board x l e = let q = laid.lies a0 (omega (arith, inside)) in omega (arith, q, laid_out.below, laid_out.old_below, laid.order, inside)

  pub off_here : (kind : ℕ → Kind) (x : ℕ) → Here E size writer kind x → x ≢ a0 + i0
  unfolding Here
  off_here kind x (inl f) e = let u : IsField size writer kind f.a f.i = f.field in off_inner f.a f.i u.written u.first u.last (sym (f.at) ∙ e)
  off_here kind x (inr b) e = off_board x b.0 e

  pub off_written : (j b i : ℕ) → j ≢ k → writer b ≡ j + 1 → i < size b → b + i ≢ a0 + i0
  off_written j b i n y l e = let q = same_place b i l e in let w : writer b ≡ writer a0 = ap writer q.0 in n (omega (arith, own))

  pub here_same : (kind : ℕ → Kind) (x : ℕ) → Here E size writer kind x → stored x ≡ heap x
  here_same kind x p = put_other heap (a0 + i0) v x (off_here kind x p)

  pub inner_same : (a i : ℕ) → writer a ≡ 0 → 0 < i → i < size a → stored (a + i) ≡ heap (a + i)
  inner_same a i w p l = put_other heap (a0 + i0) v (a + i) (off_inner a i w p l)

  pub board_same : (x : ℕ) → stored (E.board + x) ≡ heap (E.board + x)
  board_same x = put_other heap (a0 + i0) v (E.board + x) (off_board (E.board + x) (omega arith))

  -- a word of no record
  pub outside_same : (x : ℕ) → ((a : ℕ) → 0 < size a → (x < a) ⊎ (a + size a ≤ x)) → stored x ≡ heap x
  outside_same x n = put_other heap (a0 + i0) v x (λ e. let q = n a0 (omega (arith, inside)) in omega (arith, q, inside, e))

  -- ---- the parts

  pub opened_unread : (kind : ℕ → Kind) (page : ℕ → PageWord) → Opened E size writer kind heap page → Opened E size writer kind stored page
  opened_unread kind page p = record { opened = λ x u o. rw (here_same kind x u) (p.opened x u o) }

  pub landing_unread : (kind : ℕ → Kind) → Landing E size writer kind heap → Landing E size writer kind stored
  landing_unread kind p = record { lands = λ x u. rw (here_same kind x u) (p.lands x u) }

  pub older_unread : (kind : ℕ → Kind) → Older E size writer kind heap → Older E size writer kind stored
  older_unread kind p = record { older = λ a i b f l m d. p.older a i b f l m (rw (inner_same a i f.written f.first f.last) at d); written = p.written }

  pub new_unread : (start end epoch : ℕ) (page : ℕ → PageWord) → NewArea start end epoch size heap page → NewArea start end epoch size stored page
  new_unread start end epoch page p = area_same (λ x l m n. outside_same x n) p

  pub space_unread : (start begun free end epoch : ℕ) (page : ℕ → PageWord) → SpaceOf start begun free end epoch size heap page → SpaceOf start begun free end epoch size stored page
  space_unread start begun free end epoch page p = record { lies = p.lies; order = p.order; aligned = p.aligned; first = p.first; next = p.next; new = new_unread free end epoch page p.new }

  pub raw_unread : (kind : ℕ → Kind) → RawWords size writer kind heap → RawWords size writer kind stored
  raw_unread kind p = record { raw = λ a i st w f l n. rw (inner_same a i w f l) (p.raw a i st w f l n) }

  pub counts_unread : (kind : ℕ → Kind) → Counts size writer kind heap → Counts size writer kind stored
  counts_unread kind p = record { counts = λ a count st w e. let n = p.counts a count st w e in (inner_same a 1 w (omega arith) (omega (arith, n.1)) ∙ n.0, n.1) }

  pub stocked_unread : (page : ℕ → PageWord) (q : Stock) → Stocked E low size heap page q → Stocked E low size stored page q
  stocked_unread page q p = stocked_same q (λ x l m. put_other heap (a0 + i0) v x (λ e. let y = p.empty a0 (omega (arith, inside)) in omega (arith, y, inside, e, p.so_far, l, m))) p

  pub stocks_unread : (count : ℕ) (page : ℕ → PageWord) (worker : ℕ → Known) → Stocks E low count size heap page worker → Stocks E low count size stored page worker
  stocks_unread count page worker p = record { stocked = λ j l q e n. stocked_unread page q (p.stocked j l q e n); apart = p.apart }

  -- ---- what other workers know

  pub origin_unread : (kind : ℕ → Kind) (late : Bool) (done : ℕ) (registers : ℕ → ℕ) (scan : Option Scan) (old : ℕ) (o : Origin)
      → IsOrigin E size writer kind heap late done registers scan old o → IsOrigin E size writer kind stored late done registers scan old o
  origin_unread kind late done registers scan old (Register r) p = p
  origin_unread kind late done registers scan old (Scanned x) p = (p.0, p.1, ap decode (here_same kind x p.1) ∙ p.2)

  pub scans_unread : (kind : ℕ → Kind) (page : ℕ → PageWord) (j : ℕ) (r : Scan) → Scans E front size writer kind heap page j r → Scans E front size writer kind stored page j r
  scans_unread kind page j r p = scans_same j r (here_same kind) p

  module _ (copy keeper kept announced cross : ℕ → ℕ) (kind : ℕ → Kind) (j : ℕ) (c : Copy) (other : j ≢ k) (older : Older E size writer kind heap)
      (p : Copies E front size writer copy keeper kept announced cross heap j c) where
    source_same : (i : ℕ) → 0 < i → i < c.size → stored (c.from + i) ≡ heap (c.from + i)
    source_same i g l = inner_same c.from i (older.written c.from (omega (arith, p.old)) (omega (arith, p.old)) (omega (arith, p.old))) g (omega (arith, p.old))

    copy_same : c.reserved ≡ true → (i : ℕ) → i < c.size → stored (c.to + i) ≡ heap (c.to + i)
    copy_same reserved i l = let r = p.place reserved in put_other heap (a0 + i0) v (c.to + i) (off_written j c.to i other r.2 (omega (arith, r.3)))

    pub copies_unread : Copies E front size writer copy keeper kept announced cross stored j c
    copies_unread = copies_same j c source_same (λ r i f l. copy_same r i l) p

    pub keeps_unread : (identity : ℕ → Identity) → Keeps kind identity heap c → Keeps kind identity stored c
    keeps_unread identity q = record { keeps = q.keeps; head = λ d. rw (first_same d) (q.head d) }
      where
        first_same : 0 < c.done → stored c.to ≡ heap c.to
        first_same d =
            let r = p.place (has_place j c p d) in
            let z : c.to + 0 ≢ a0 + i0 = off_written j c.to 0 other r.2 (omega (arith, r.3, p.old)) in
            put_other heap (a0 + i0) v c.to (λ e. z (omega arith))

  -- ---- what is shown

  pub shows_unread : (identity : ℕ → Identity) (a : ℕ) (l : Kind) (z : ℕ) (r : plain.Record) → writer a ≡ 0 → z ≡ size a → Shows (value_of identity) heap a l z r → Shows (value_of identity) stored a l z r
  shows_unread identity a l z r w e p = shows_same r (λ i f m. inner_same a i w f (omega arith)) p

  pub objects_unread : (copy keeper : ℕ → ℕ) (kind : ℕ → Kind) (identity : ℕ → Identity) (records : plain.Heap)
      → ShowsAll size writer copy keeper kind identity heap records → ShowsAll size writer copy keeper kind identity stored records
  objects_unread copy keeper kind identity records p = record { shows = λ a st w y. let o = p.shows a st w y in (o.0, o.1, shows_unread identity a (kind a) (size a) o.0 w refl o.2) }

  pub board_unread : (identity : ℕ → Identity) (records : plain.Heap) → BoardShows E (value_of identity) heap records → BoardShows E (value_of identity) stored records
  board_unread identity records p = record { sixteen = p.sixteen; board = λ x l. ap (value_of identity) (board_same x) ∙ p.board x l }
