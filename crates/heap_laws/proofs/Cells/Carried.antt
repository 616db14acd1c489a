-- A step that leaves what the chain of copied cells is made of: what is known of it is known after the step.
use Rattle.std.proofs.Common.{◌≡◌, ◌≢◌, ℕ, ◌+◌, ◌<◌, ◌≤◌, true, Some, is_some, refl, sym, ap, ◌∙◌, arith}
use Rattle.plain_state.specs.declared.kind.Kind.TheVariants.{Weak}
use Rattle.heap_state.specs.Cells.{Ranks, IsCopiedCell, MayCopy, KnowsCopy, Links, Linked, TargetsOld, Passing, SameGround, Chain}
use Rattle.heap_state.specs.Memory.Era.{Era, Memory}
use Rattle.heap_state.specs.Functions.{put}
use Rattle.heap_state.specs.Invariant.Ghost.{Ghost}
use Rattle.heap_state.specs.Known.{Known, Team, Linking, Pass, cell_to_link, is_cleared}
use Rattle.heap_state.proofs.Puts.{each_put, proj_put}
use Rattle.heap_laws.specs.Cells.Frames.{GoesOnInChain, CarriesChain, ChainIsCarried}
use Rattle.heap_laws.specs.Steps.{with_worker}

-- ---- one worker's part

-- what a copier knows of its cell
pub links_stay : (E : Era) (m later : Memory) (g h : Ghost) (r : Ranks) (w u : Known) (l : Linking) → later.traced ≡ m.traced → ((a : ℕ) → IsCopiedCell E m.front g a → IsCopiedCell E later.front h a)
    → later.heap (l.cell + 2) ≡ m.heap (l.cell + 2) → (KnowsCopy u → MayCopy E u → MayCopy E w × KnowsCopy w) → Links E m g r u l → Links E later h r w l
links_stay E m later g h r w u l traced cells same licence o = record {
  copying = rw traced o.copying;
  cell = cells l.cell o.cell;
  unlinked = o.unlinked;
  licensed = (licence o.asked o.licensed).0;
  asked = (licence o.asked o.licensed).1;
  stored = λ v e f. same ∙ o.stored v e f;
}

-- what the walker knows
pub passing_stays : (E : Era) (m later : Memory) (turn : ℕ) (g h : Ghost) (r : Ranks) (w u : Known) (q : Pass) → later.traced ≡ m.traced → ((a : ℕ) → 0 < r.rank a → later.heap (a + 1) ≡ m.heap (a + 1))
    → h.copy ≡ g.copy → ((b : ℕ) → 0 < g.size b → 0 < h.size b) → SameGround w u → Passing E m turn g r u q → Passing E later turn h r w q
passing_stays E m later turn g h r w u q traced targets copy stands ground o = record {
  now = (ground.0 ∙ o.now.0, rw traced o.now.1, o.now.2);
  look = (o.look.0, ground.1 ∙ o.look.1, o.look.2 ∙ sym traced);
  at = λ v e. let z = o.at v e in record {
    linked = z.linked;
    few = z.few;
    old = λ b p f. leads_still v.cell z.linked b (z.old b p f);
    word = λ x p f. let y = z.word x p f in (y.0, leads_still v.cell z.linked y.0 y.1, rw copy y.2);
  };
  passed = λ a p l. rw (targets a p) (o.passed a p l);
}
  where
    leads_still : (cell : ℕ) → 0 < r.rank cell → (b : ℕ) → TargetsOld E m g cell b → TargetsOld E later h cell b
    leads_still cell p b y = (rw (targets cell p) y.0, stands b y.1, y.2, y.3)

-- ---- the whole

-- The same cells are copied ones, the links of linked ones stay, and each worker's part is right. Worker k has the cell to link that it
-- had, and walks if it did.
pub record Goes (E : Era) (m later : Memory) (turn : ℕ) (team : Team) (g h : Ghost) (r : Ranks) (k : ℕ) (w : Known) : Type 0 where
  pub traced : later.traced ≡ m.traced
  pub fewer : (a : ℕ) → IsCopiedCell E later.front h a → IsCopiedCell E m.front g a
  pub cells : (a : ℕ) → IsCopiedCell E m.front g a → IsCopiedCell E later.front h a
  pub links : m.traced ≤ E.epoch → (a : ℕ) → 0 < r.rank a → later.heap (a + 2) ≡ m.heap (a + 2)
  pub others_link : (j : ℕ) (l : Linking) → j < team.count → j ≢ k → (team.worker j).linking ≡ Some l → Links E later h r (team.worker j) l
  pub own_link : (l : Linking) → k < team.count → w.linking ≡ Some l → Links E later h r w l
  pub same_cell : cell_to_link w.linking ≡ cell_to_link (team.worker k).linking
  pub others_pass : (j : ℕ) (q : Pass) → j < team.count → j ≢ k → (team.worker j).pass ≡ Some q → Passing E later turn h r (team.worker j) q
  pub own_pass : (q : Pass) → k < team.count → w.pass ≡ Some q → Passing E later turn h r w q
  pub same_pass : is_some w.pass ≡ is_some (team.worker k).pass
  pub cleared : is_cleared w.reset ≡ true → is_cleared (team.worker k).reset ≡ true
  pub three : (a : ℕ) → 0 < h.size a → h.kind a ≡ Weak → h.size a ≡ 3

module _ (E : Era) (m later : Memory) (weak turn : ℕ) (team : Team) (g h : Ghost) (r : Ranks) (k : ℕ) (w : Known) (goes : Goes E m later turn team g h r k w) (chain : Chain E m weak turn team g r) where
  abbrev then : ℕ → Known
  then = put team.worker k w

  cell_then : (j : ℕ) → cell_to_link (then j).linking ≡ cell_to_link (team.worker j).linking
  cell_then j = proj_put (λ (x : Known). cell_to_link x.linking) team.worker k w j goes.same_cell

  pass_then : (j : ℕ) → is_some (then j).pass ≡ is_some (team.worker j).pass
  pass_then j = proj_put (λ (x : Known). is_some x.pass) team.worker k w j goes.same_pass

  before : later.traced ≤ E.epoch → m.traced ≤ E.epoch
  before l = rw goes.traced at l

  linked_then : later.traced ≤ E.epoch → Linked E later weak h r
  linked_then l =
      let o = chain.linked (before l) in
      record {
        ranked = λ a p. let y = o.ranked a p in (goes.cells a y.0, y.1);
        alone = o.alone;
        head = o.head;
        link = λ a n e. let p : 0 < r.rank a = omega (arith, e) in rw (goes.links (before l) a p) (o.link a n e);
      }

  pub goes_on : Chain E later weak turn (with_worker team k w) h r
  goes_on = record {
    top = chain.top;
    turned = λ e. chain.turned (sym goes.traced ∙ e);
    linked = linked_then;
    all = λ l a c z. let o = chain.all (before l) a (goes.fewer a c) z in record { worker = o.worker; member = o.member; links = cell_then o.worker ∙ o.links };
    linking = λ j l y e. each_put (λ (j : ℕ) (x : Known). x.linking ≡ Some l → Links E later h r x l) team.worker k w j (λ d. goes.others_link j l y d) (λ i. goes.own_link l (rw i at y)) e;
    apart = λ i j a y z e f. chain.apart i j a y z (sym (cell_then i) ∙ e) (sym (cell_then j) ∙ f);
    pass = λ j q y e. each_put (λ (j : ℕ) (x : Known). x.pass ≡ Some q → Passing E later turn h r x q) team.worker k w j (λ d. goes.others_pass j q y d) (λ i. goes.own_pass q (rw i at y)) e;
    one = λ i j y z e f. chain.one i j y z (sym (pass_then i) ∙ e) (sym (pass_then j) ∙ f);
    walker = λ l t. let o = chain.walker (before l) t in record { worker = o.worker; member = o.member; walks = pass_then o.worker ∙ o.walks };
    reset = λ j y e. each_put (λ (j : ℕ) (x : Known). is_cleared x.reset ≡ true → weak ≡ 0) team.worker k w j (λ d. chain.reset j y) (λ i f. chain.reset k (rw i at y) (goes.cleared f)) e;
    three = goes.three;
  }

-- ---- a step that leaves all that the chain reads

module _ (E : Era) (m later : Memory) (weak turn : ℕ) (team : Team) (g h : Ghost) (r : Ranks) (k : ℕ) (w : Known) (carries : CarriesChain E m later team g h) (on : GoesOnInChain E w (team.worker k))
    (chain : Chain E m weak turn team g r) where
  -- while one walks the epoch isn't traced, and ranks are those of copied cells
  passes : (j : ℕ) (q : Pass) (x : Known) → j < team.count → (team.worker j).pass ≡ Some q → SameGround x (team.worker j) → Passing E later turn h r x q
  passes j q x y e ground =
      let o = chain.pass j q y e in
      passing_stays E m later turn g h r x (team.worker j) q carries.traced (λ a p. carries.targets a ((chain.linked o.now.1).ranked a p).0)
      (carries.copies (record { worker = j; member = y; walks = ap is_some e })) carries.stands ground o

  links : (j : ℕ) (l : Linking) (x : Known) → j < team.count → (team.worker j).linking ≡ Some l → (KnowsCopy (team.worker j) → MayCopy E (team.worker j) → MayCopy E x × KnowsCopy x) → Links E later h r x l
  links j l x y e licence =
      let o = chain.linking j l y e in
      links_stay E m later g h r x (team.worker j) l carries.traced carries.cells (carries.links l.cell o.cell) licence o

  pub carried : Chain E later weak turn (with_worker team k w) h r
  carried = goes_on E m later weak turn team g h r k w (record {
    traced = carries.traced;
    fewer = carries.fewer;
    cells = carries.cells;
    links = λ le a p. carries.links a ((chain.linked le).ranked a p).0;
    others_link = λ j l y d e. links j l (team.worker j) y e (λ q z. (z, q));
    own_link = λ l y e. let f : (team.worker k).linking ≡ Some l = sym on.linking ∙ e in links k l w y f (on.licence (ap is_some f));
    same_cell = ap cell_to_link on.linking;
    others_pass = λ j q y d e. passes j q (team.worker j) y e (refl, refl);
    own_pass = λ q y e. let f : (team.worker k).pass ≡ Some q = sym on.pass ∙ e in passes k q w y f (on.ground (ap is_some f));
    same_pass = ap is_some on.pass;
    cleared = on.cleared;
    three = carries.three;
  }) chain

pub chain_is_carried : ChainIsCarried
chain_is_carried E m later weak turn team g h r k w carries on chain = carried E m later weak turn team g h r k w carries on chain
