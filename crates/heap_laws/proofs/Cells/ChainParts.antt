-- The chain of copied cells after a step of one worker, put together from the parts of that worker and of the others. And who walks
-- leaves nobody who may copy.
use Rattle.std.proofs.Common.{◌≡◌, ◌≢◌, ℕ, ◌+◌, ◌<◌, ◌≤◌, ◌⊎◌, true, Option, Some, None, is_some, refl, sym, ◌∙◌, arith, ⊎_elim}
use Rattle.std.proofs.lemmas.Bool.{cases_eq}
use Rattle.plain_state.specs.declared.kind.Kind.TheVariants.{Weak}
use Rattle.heap_state.specs.Cells.{Ranks, IsCopiedCell, MayCopy, Links, Linked, HasCopier, Passing, HasWalker, Chain}
use Rattle.heap_state.specs.Memory.Era.{Era, Memory}
use Rattle.heap_state.specs.Functions.{put}
use Rattle.heap_state.specs.Invariant.Ghost.{Ghost}
use Rattle.heap_state.specs.Invariant.Inductive.{Invariant}
use Rattle.heap_state.specs.Known.{Known, Team, Linking, Pass, Reset, cell_to_link, is_cleared}
use Rattle.heap_state.proofs.Puts.{each_put, put_at, put_other}
use Rattle.heap_state.proofs.Workers.Posts.{flips_ask}
use Rattle.heap_state.proofs.Workers.Walkers.{quiet_in_walk}
use Rattle.heap_laws.specs.Steps.{with_worker}
use Rattle.heap_laws.proofs.Scanning.Scanners.{open_scan, scans_last}

-- an option that isn't none has a value
pub value_in : {X : Type 0} (o : Option X) → is_some o ≡ true → (x : X) × (o ≡ Some x)
value_in None e = absurd (cc)
value_in (Some x) e = (x, refl)

pub reset_in : (o : Option Reset) → is_cleared o ≡ true → (z : Reset) × (o ≡ Some z)
reset_in None e = absurd (cc)
reset_in (Some z) e = (z, refl)

pub cell_in : (o : Option Linking) (a : ℕ) → cell_to_link o ≡ Some a → (l : Linking) × (o ≡ Some l) × (l.cell ≡ a)
cell_in None a e = absurd (cc)
cell_in (Some l) a e = (l, refl, cc)

-- ---- the whole

-- after the step: what is said of all, of the others as they are, and of worker k
pub record ChainParts (E : Era) (later : Memory) (weak turn : ℕ) (team : Team) (h : Ghost) (r : Ranks) (k : ℕ) (w : Known) : Type 0 where
  pub top : (turn ≡ E.epoch) ⊎ (turn ≡ E.epoch + 1)
  pub turned : later.traced ≡ E.epoch + 1 → turn ≡ E.epoch + 1
  pub linked : later.traced ≤ E.epoch → Linked E later weak h r
  pub all : later.traced ≤ E.epoch → (a : ℕ) → IsCopiedCell E later.front h a → r.rank a ≡ 0 → HasCopier (with_worker team k w) a
  pub others_link : (j : ℕ) (l : Linking) → j < team.count → j ≢ k → (team.worker j).linking ≡ Some l → Links E later h r (team.worker j) l
  pub own_link : (l : Linking) → k < team.count → w.linking ≡ Some l → Links E later h r w l
  pub own_apart : (j a : ℕ) → j < team.count → k < team.count → j ≢ k → cell_to_link w.linking ≡ Some a → ¬ (cell_to_link (team.worker j).linking ≡ Some a)
  pub others_pass : (j : ℕ) (q : Pass) → j < team.count → j ≢ k → (team.worker j).pass ≡ Some q → Passing E later turn h r (team.worker j) q
  pub own_pass : (q : Pass) → k < team.count → w.pass ≡ Some q → Passing E later turn h r w q
  pub own_one : (j : ℕ) → j < team.count → k < team.count → j ≢ k → is_some w.pass ≡ true → ¬ (is_some (team.worker j).pass ≡ true)
  pub walker : later.traced ≤ E.epoch → turn ≡ E.epoch + 1 → HasWalker (with_worker team k w)
  pub others_reset : (j : ℕ) → j < team.count → j ≢ k → is_cleared (team.worker j).reset ≡ true → weak ≡ 0
  pub own_reset : k < team.count → is_cleared w.reset ≡ true → weak ≡ 0
  pub three : (a : ℕ) → 0 < h.size a → h.kind a ≡ Weak → h.size a ≡ 3

module _ (E : Era) (later : Memory) (weak turn : ℕ) (team : Team) (h : Ghost) (r : Ranks) (k : ℕ) (w : Known) (parts : ChainParts E later weak turn team h r k w)
    (apart : (i j a : ℕ) → i < team.count → j < team.count → cell_to_link (team.worker i).linking ≡ Some a → cell_to_link (team.worker j).linking ≡ Some a → i ≡ j)
    (one : (i j : ℕ) → i < team.count → j < team.count → is_some (team.worker i).pass ≡ true → is_some (team.worker j).pass ≡ true → i ≡ j) where
  abbrev then : ℕ → Known
  then = put team.worker k w

  -- two workers that have something each are one, if worker k alone has it besides others
  alone : (P : Known → Type 0) → ((i j : ℕ) → i < team.count → j < team.count → P (team.worker i) → P (team.worker j) → i ≡ j)
      → ((j : ℕ) → j < team.count → k < team.count → j ≢ k → P w → ¬ (P (team.worker j))) → (i j : ℕ) → i < team.count → j < team.count → P (then i) → P (then j) → i ≡ j
  alone P others own i j x y e f = ⊎_elim
      (λ (a : i ≡ k). ⊎_elim
      (λ (b : j ≡ k). a ∙ sym b)
      (λ (d : j ≢ k). absurd (own j y (rw a at x) d (rw (put_at team.worker k w i a) at e) (rw (put_other team.worker k w j d) at f)))
      (cases_eq j k))
      (λ (c : i ≢ k). ⊎_elim
      (λ (b : j ≡ k). absurd (own i x (rw b at y) c (rw (put_at team.worker k w j b) at f) (rw (put_other team.worker k w i c) at e)))
      (λ (d : j ≢ k). others i j x y (rw (put_other team.worker k w i c) at e) (rw (put_other team.worker k w j d) at f))
      (cases_eq j k))
      (cases_eq i k)

  pub chain_of : Chain E later weak turn (with_worker team k w) h r
  chain_of = record {
    top = parts.top;
    turned = parts.turned;
    linked = parts.linked;
    all = parts.all;
    linking = λ j l y e. each_put (λ (j : ℕ) (x : Known). x.linking ≡ Some l → Links E later h r x l) team.worker k w j (λ d. parts.others_link j l y d) (λ i. parts.own_link l (rw i at y)) e;
    apart = λ i j a x y e f. alone (λ (u : Known). cell_to_link u.linking ≡ Some a) (λ i j. apart i j a) (λ j. parts.own_apart j a) i j x y e f;
    pass = λ j q y e. each_put (λ (j : ℕ) (x : Known). x.pass ≡ Some q → Passing E later turn h r x q) team.worker k w j (λ d. parts.others_pass j q y d) (λ i. parts.own_pass q (rw i at y)) e;
    one = λ i j x y e f. alone (λ (u : Known). is_some u.pass ≡ true) one parts.own_one i j x y e f;
    walker = parts.walker;
    reset = λ j y e. each_put (λ (j : ℕ) (x : Known). is_cleared x.reset ≡ true → weak ≡ 0) team.worker k w j (λ d. parts.others_reset j y d) (λ i. parts.own_reset (rw i at y)) e;
    three = parts.three;
  }

-- ---- who walks

module _ (E : Era) (m : Memory) (weak turn : ℕ) (team : Team) (g : Ghost) (r : Ranks) (inv : Invariant E m team g) (chain : Chain E m weak turn team g r) where
  -- while one walks nobody scans or is late
  pub none_copies : (j k : ℕ) (q : Pass) → j < team.count → k < team.count → (team.worker j).pass ≡ Some q → ¬ (MayCopy E (team.worker k))
  none_copies j k q y z e may =
      let now = quiet_in_walk j inv y (chain.pass j q y e) in
      ⊎_elim
      (λ s. let c = scans_last E m team g inv k s.0 z s.1 now.0 in open_scan (now.1 s.0.page c.0 c.1) c.2)
      (λ late. absurd (let c = (inv.workers k z).licensed.counted late in let n = now.0.none in omega (arith, c, n)))
      may

  -- nobody walks while one may copy
  pub none_walks : (k : ℕ) → k < team.count → MayCopy E (team.worker k) → (j : ℕ) (q : Pass) → j < team.count → ¬ ((team.worker j).pass ≡ Some q)
  none_walks k z may j q y e = none_copies j k q y z e may

  pub no_walker : (k : ℕ) → k < team.count → MayCopy E (team.worker k) → ¬ (HasWalker team)
  no_walker k z may o = let q = value_in (team.worker o.worker).pass o.walks in none_copies o.worker k q.0 o.member z q.1 may

  -- ---- who flips

  -- who has a flip in progress knows that the epoch is traced
  pub flipper_traced : (j : ℕ) (z : Reset) → j < team.count → (team.worker j).reset ≡ Some z → m.traced ≡ E.epoch + 1
  flipper_traced j z y e = let u = inv.workers j y in (u.seen_traced (u.asks (flips_ask (team.worker j).post (u.resets z e)))).1

  pub none_cleared : m.traced ≤ E.epoch → (j : ℕ) → j < team.count → ¬ (is_cleared (team.worker j).reset ≡ true)
  none_cleared le j y e = let z = reset_in (team.worker j).reset e in let t = flipper_traced j z.0 y z.1 in absurd (omega (arith, t, le))

  -- in a traced epoch nobody has a cell to link, and nobody walks
  pub none_links : m.traced ≡ E.epoch + 1 → (j : ℕ) (l : Linking) → j < team.count → ¬ ((team.worker j).linking ≡ Some l)
  none_links t j l y e = let o = (chain.linking j l y e).copying in absurd (omega (arith, t, o))

  pub none_passes : m.traced ≡ E.epoch + 1 → (j : ℕ) (q : Pass) → j < team.count → ¬ ((team.worker j).pass ≡ Some q)
  none_passes t j q y e = let o = (chain.pass j q y e).now.1 in absurd (omega (arith, t, o))
