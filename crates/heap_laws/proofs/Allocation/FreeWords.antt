-- The parts that read heap words, where a word below the board is stored that belongs to no record.
use Rattle.std.proofs.Common.{◌≡◌, ℕ, ◌+◌, ◌<◌, ◌≤◌, Bool, Option, arith, ◌∙◌, ⊎_elim, ◌⊎◌, inl, inr, Some}
use Rattle.plain_state.specs.declared.kind.Kind.{Kind}
use Rattle.plain_state.specs.State as plain
use Rattle.plain_state.specs.declared.value.Identity.{Identity}
use Rattle.plain_state.specs.declared.value.Value.{Value}
use Rattle.plain_state.specs.declared.value.Value.TheVariants.{Reference}
use Rattle.space_map.specs.declared.page_word.PageWord.{PageWord}
use Rattle.heap_state.specs.Cycles.Cycle.{Copying, Rooted, RootLeads, ByBoard, ByRegister}
use Rattle.heap_state.specs.Memory.Era.{Era, IsLaidOut, Memory}
use Rattle.heap_state.specs.Functions.{put}
use Rattle.heap_state.specs.Invariant.Ghost.{Ghost, IsField, Here}
use Rattle.heap_state.specs.Invariant.Inductive.{Knows}
use Rattle.heap_state.specs.Invariant.Parts.Copying.{Copies, Keeps, IsOrigin}
use Rattle.heap_state.specs.Invariant.Parts.Leading.{Opened, Landing, Older}
use Rattle.heap_state.specs.Invariant.Parts.OldSpace.{OldSpace}
use Rattle.heap_state.specs.Invariant.Parts.Records.{Headed, RawWords, Counts}
use Rattle.heap_state.specs.Invariant.Parts.Scanning.{Scans}
use Rattle.heap_state.specs.Meaning.Values.{value_of, Shows, ShowsAll, BoardShows}
use Rattle.heap_state.specs.Known.{Known, Copy, Scan, Origin, Register, Scanned, is_late, Quest}
use Rattle.heap_state.proofs.Puts.{put_other}
use Rattle.plain_state.specs.Layout.{word_of_value}
use Rattle.heap_laws.proofs.Frames.OtherWords.{has_place, headed_same, old_space_same, scans_same, copies_same, shows_same}
use Rattle.heap_laws.proofs.Frames.Values.{copied_within}

-- the address is a word of no record and not on the board
pub record IsFree (E : Era) (size : ℕ → ℕ) (x : ℕ) : Type 0 where
  pub free : (a : ℕ) → 0 < size a → (x < a) ⊎ (a + size a ≤ x)
  pub below : x < E.board

module _ {E : Era} {size : ℕ → ℕ} {x : ℕ} (fr : IsFree E size x) (writer : ℕ → ℕ) (kind : ℕ → Kind) (h : ℕ → ℕ) (v : ℕ) where
  -- ---- words that stay

  pub word_same : (a i : ℕ) → i < size a → put h x v (a + i) ≡ h (a + i)
  word_same a i l = put_other h x v (a + i) (λ e. let q = fr.free a (omega (arith, l)) in omega (arith, q, e, l))

  pub head_same : (a : ℕ) → 0 < size a → put h x v a ≡ h a
  head_same a st = put_other h x v a (λ e. let q = fr.free a st in omega (arith, q, e, st))

  pub board_same : (y : ℕ) → E.board ≤ y → put h x v y ≡ h y
  board_same y l = put_other h x v y (λ e. let b = fr.below in omega (arith, e, l, b))

  pub here_same : (y : ℕ) → Here E size writer kind y → put h x v y ≡ h y
  unfolding Here
  here_same y (inl u) = let f : IsField size writer kind u.a u.i = u.field in rw u.at (word_same u.a u.i f.last)
  here_same y (inr b) = board_same y b.0

  -- ---- parts

  pub headed_free : (copy keeper : ℕ → ℕ) (identity : ℕ → Identity) → Headed size writer copy keeper kind identity h → Headed size writer copy keeper kind identity (put h x v)
  headed_free copy keeper identity p = headed_same head_same p

  pub raw_free : RawWords size writer kind h → RawWords size writer kind (put h x v)
  raw_free p = record { raw = λ a i st w f l n. rw (word_same a i l) (p.raw a i st w f l n) }

  pub counts_free : Counts size writer kind h → Counts size writer kind (put h x v)
  counts_free p = record { counts = λ a count st w e. let n = p.counts a count st w e in (word_same a 1 (omega (arith, n.1)) ∙ n.0, n.1) }

  pub opened_free : (page : ℕ → PageWord) → Opened E size writer kind h page → Opened E size writer kind (put h x v) page
  opened_free page p = record { opened = λ y u o. rw (here_same y u) (p.opened y u o) }

  pub landing_free : Landing E size writer kind h → Landing E size writer kind (put h x v)
  landing_free p = record { lands = λ y u. rw (here_same y u) (p.lands y u) }

  pub older_free : Older E size writer kind h → Older E size writer kind (put h x v)
  older_free p = record { older = λ a i b f l u d. p.older a i b f l u (rw (word_same a i f.last) at d); written = p.written }

  -- the word is in the epoch's space
  pub old_space_free : (traced old_front old_low : ℕ) (page : ℕ → PageWord) → IsLaidOut E → E.start ≤ x → x < E.start + E.span → OldSpace E traced old_front old_low size h page → OldSpace E traced old_front old_low size (put h x v) page
  old_space_free traced old_front old_low page lay l u p = old_space_same (λ y a b free. put_other h x v y (λ e. omega (arith, e, a, b, l, u, lay.apart))) p

  -- ---- what a worker knows

  pub scans_free : (front : ℕ) (page : ℕ → PageWord) (j : ℕ) (r : Scan) → Scans E front size writer kind h page j r → Scans E front size writer kind (put h x v) page j r
  scans_free front page j r p = scans_same j r here_same p

  pub copies_free : (front : ℕ) (copy keeper kept announced cross : ℕ → ℕ) (j : ℕ) (c : Copy) → Copies E front size writer copy keeper kept announced cross h j c → Copies E front size writer copy keeper kept announced cross (put h x v) j c
  copies_free front copy keeper kept announced cross j c p = copies_same j c
      (λ i f l. word_same c.from i (omega (arith, p.old, l)))
      (λ r i f l. let t = p.place r in word_same c.to i (omega (arith, t.3, l))) p

  pub keeps_free : (front : ℕ) (copy keeper kept announced cross : ℕ → ℕ) (identity : ℕ → Identity) (j : ℕ) (c : Copy) → Copies E front size writer copy keeper kept announced cross h j c → Keeps kind identity h c → Keeps kind identity (put h x v) c
  keeps_free front copy keeper kept announced cross identity j c q p = record {
    keeps = p.keeps;
    head = λ l. let t = q.place (has_place j c q l) in rw (head_same c.to (omega (arith, t.3, q.old))) (p.head l);
  }

  pub origin_free : (late : Bool) (done : ℕ) (registers : ℕ → ℕ) (scan : Option Scan) (old : ℕ) (o : Origin) → IsOrigin E size writer kind h late done registers scan old o → IsOrigin E size writer kind (put h x v) late done registers scan old o
  origin_free late done registers scan old (Register r) p = p
  origin_free late done registers scan old (Scanned y) p = (p.0, p.1, rw (here_same y p.1) p.2)

  -- ---- the plain state, and the cycle

  shows_free : (denotes : ℕ → Option Value) (a : ℕ) (k : Kind) (r : plain.Record) → Shows denotes h a k (size a) r → Shows denotes (put h x v) a k (size a) r
  shows_free denotes a k r s = shows_same r (λ i f l. word_same a i l) s

  pub objects_free : (copy keeper : ℕ → ℕ) (identity : ℕ → Identity) (records : plain.Heap) → ShowsAll size writer copy keeper kind identity h records → ShowsAll size writer copy keeper kind identity (put h x v) records
  objects_free copy keeper identity records p = record { shows = λ a st w o. let q = p.shows a st w o in (q.0, q.1, shows_free (value_of identity) a (kind a) q.0 q.2) }

  pub board_free : (denotes : ℕ → Option Value) (records : plain.Heap) → BoardShows E denotes h records → BoardShows E denotes (put h x v) records
  board_free denotes records p = record { sixteen = p.sixteen; board = λ y l. rw (board_same (E.board + y) (omega arith)) (p.board y l) }

  pub copying_free : (front : ℕ) (copy keeper : ℕ → ℕ) (identity : ℕ → Identity) (p : plain.Plain) → Copying E front size writer copy keeper kind identity h p → Copying E front size writer copy keeper kind identity (put h x v) p
  copying_free front copy keeper identity p c = record {
    old = λ a st l u o. let q = c.old a st l u o in (q.0, q.1, shows_free (value_of identity) a (kind a) q.0 q.2);
    sound = λ y i u s. c.sound y i u (rw (here_same y u) at s);
    reached = c.reached;
    sizes = c.sizes;
    complete = λ b y r i st w l u e f o. ⊎_elim (λ t. inl t) (λ t. inr (rw (word_same b (word_of_value (kind b) y) (copied_within c b y r (Reference i) st l u e o)) t)) (c.complete b y r i st w l u e f o);
    only = c.only;
  }

  pub rooted_free : (front count : ℕ) (identity : ℕ → Identity) (worker : ℕ → Known) (p : plain.Plain) → Rooted E front count size writer identity h worker p → Rooted E front count size writer identity (put h x v) worker p
  rooted_free front count identity worker p r = record {
    roots = λ i root. ⊎_elim (λ c. inl c) (λ t. inr (leads i t)) (r.roots i root);
    sound = r.sound;
  }
    where
      leads : (i : Identity) → RootLeads E count identity h worker i → RootLeads E count identity (put h x v) worker i
      leads i (ByBoard y l s) = ByBoard y l (rw (board_same (E.board + y) (omega arith)) s)
      leads i (ByRegister k j a b t d s) = ByRegister k j a b t d s

-- a worker knows what it knew
pub worker_free : (E : Era) (m : Memory) (g : Ghost) (x v k : ℕ) (w : Known) → IsFree E g.size x
    → Knows E m.gate m.traced m.front m.low m.old_front m.old_low m.old_owed g m.page m.cross m.announced m.heap k w
    → Knows E m.gate m.traced m.front m.low m.old_front m.old_low m.old_owed g m.page m.cross m.announced (put m.heap x v) k w
worker_free E m g x v k w fr p =
    let a = λ (q : Quest) (e : w.quest ≡ Some q). origin_free fr g.writer g.kind m.heap v (is_late E.epoch w) w.done w.registers w.scan q.old q.origin (p.origin q e) in
    let b = λ (c : Copy) (e : w.copy ≡ Some c). copies_free fr g.writer g.kind m.heap v m.front g.copy g.keeper g.kept m.announced m.cross k c (p.copy c e) in
    let c = λ (c : Copy) (e : w.copy ≡ Some c). keeps_free fr g.writer g.kind m.heap v m.front g.copy g.keeper g.kept m.announced m.cross g.identity k c (p.copy c e) (p.keeps c e) in
    let d = λ (s : Scan) (e : w.scan ≡ Some s). scans_free fr g.writer g.kind m.heap v m.front m.page k s (p.scan s e) in
    assumption
