-- A worker learns or forgets something, where others read the same of it: a step that writes no heap word.
use Rattle.std.proofs.Common.{◌≡◌, ◌≢◌, ℕ, ◌+◌, ◌<◌, Some, refl, sym, ap, ◌∙◌, arith, ⊎_elim, None}
use Rattle.std.proofs.lemmas.Bool.{cases_eq}
use Rattle.plain_state.specs.State as plain
use Rattle.space_map.specs.declared.page_word.PageWord.{PageWord}
use Rattle.heap_state.specs.Invariant.Parts.Cells.{Cells}
use Rattle.heap_state.specs.Memory.Era.{Era, Memory}
use Rattle.heap_state.specs.Functions.{put}
use Rattle.heap_state.specs.Invariant.Ghost.{Ghost}
use Rattle.heap_state.specs.Invariant.Inductive.{Invariant, Knows}
use Rattle.heap_state.specs.Invariant.Parts.Copying.{Copies}
use Rattle.heap_state.specs.Invariant.Parts.Crossing.{Crossing}
use Rattle.heap_state.specs.Invariant.Parts.Pages.{ScannedBy}
use Rattle.heap_state.specs.Meaning.Values.{Shown, TargetsShow}
use Rattle.heap_state.specs.Known.{Known, Team, Copy, Scan, is_mutator}
use Rattle.heap_state.proofs.Workers.Frames.{counted_put, staffed_put, stocks_put, numbered_put, accounts_put, registers_put, rooted_put}
use Rattle.heap_state.proofs.Puts.{put_at, put_other, team_put}
use Rattle.heap_laws.specs.Steps.{with_worker, NoRow, SameInChain, Steps, Preserves}
use Rattle.heap_laws.proofs.Cells.Kept.{same_keeps, still_in_chain}
use Rattle.heap_laws.proofs.Targets.Frames.{made_put, shown_by_heap}

-- what is shown by the same words is shown by the team after the change, if targets still show it
pub shown_put_with : (E : Era) (m n : Memory) (team : Team) (g : Ghost) (k : ℕ) (w : Known) (p : plain.Plain)
    → w.account ≡ (team.worker k).account → w.registers ≡ (team.worker k).registers → n.heap ≡ m.heap → TargetsShow E n g p.heap
    → Shown E m team g p → Shown E n (with_worker team k w) g p
shown_put_with E m n team g k w p account registers heap targets s = record {
  objects = rw heap s.objects;
  targets = targets;
  board = rw heap s.board;
  as_many = s.as_many;
  makers = s.makers;
  accounts = λ j q e. accounts_put team.worker k w account j q (s.accounts j q e);
  registers = λ j q e. registers_put team.worker k w registers j q (s.registers j q e);
}

-- they do if TRACED and FRONT are the same, and a turn that is taken stays taken
pub shown_put : (E : Era) (m n : Memory) (team : Team) (g : Ghost) (k : ℕ) (w : Known) (p : plain.Plain)
    → w.account ≡ (team.worker k).account → w.registers ≡ (team.worker k).registers → n.heap ≡ m.heap → n.traced ≡ m.traced → n.front ≡ m.front
    → (m.weak_turn ≡ E.epoch + 1 → n.weak_turn ≡ E.epoch + 1) → Shown E m team g p → Shown E n (with_worker team k w) g p
shown_put E m n team g k w p account registers heap traced front turn s =
    shown_put_with E m n team g k w p account registers heap (shown_by_heap E m n g traced front turn p.heap heap s.targets) s

-- a page's scanner goes on with the same page, or no worker's scan changes
pub scanned_on : {E : Era} {count : ℕ} {page : ℕ → PageWord} (worker : ℕ → Known) (k : ℕ) (w : Known)
    → ((s : Scan) → (worker k).scan ≡ Some s → (t : Scan) × (w.scan ≡ Some t) × (t.page ≡ s.page)) → ScannedBy E count page worker → ScannedBy E count page (put worker k w)
scanned_on {E} {count} {page} worker k w on s = record {
  scanned = λ p j e. let q = s.scanned p j e in (
    q.0,
    ⊎_elim
        (λ (y : j ≡ k). here j y p q.1.0 q.1.1 q.1.2)
        (λ (d : j ≢ k). (q.1.0, rw (put_other worker k w j d) q.1.1, q.1.2))
        (cases_eq j k),
  );
}
  where
    here : (j : ℕ) → j ≡ k → (p : ℕ) (r : Scan) → (worker j).scan ≡ Some r → r.page ≡ p → (r : Scan) × ((put worker k w j).scan ≡ Some r) × (r.page ≡ p)
    here j y p r e f = let z : (worker k).scan ≡ Some r = rw y at e in let t = on r z in (t.0, ap (λ u. u.scan) (put_at worker k w j y) ∙ t.1, t.2 ∙ f)

-- w stands at the post of worker k in the same epoch, with the same account, registers and stock, and has forwarded as many registers
pub record StandsThere (worker : ℕ → Known) (k : ℕ) (w : Known) : Type 0 where
  pub post : w.post ≡ (worker k).post
  pub epoch : w.epoch ≡ (worker k).epoch
  pub account : w.account ≡ (worker k).account
  pub registers : w.registers ≡ (worker k).registers
  pub done : w.done ≡ (worker k).done
  pub stock : w.stock ≡ (worker k).stock

-- w stands so, and has the same part in the chain of copied cells
pub record StandsAlike (worker : ℕ → Known) (k : ℕ) (w : Known) : Type 0 where
  pub post : w.post ≡ (worker k).post
  pub epoch : w.epoch ≡ (worker k).epoch
  pub account : w.account ≡ (worker k).account
  pub registers : w.registers ≡ (worker k).registers
  pub done : w.done ≡ (worker k).done
  pub stock : w.stock ≡ (worker k).stock
  pub chain : SameInChain w (worker k)

-- w scans the page that worker k scans, if it does
abbrev pub ScansOn : (worker : ℕ → Known) (k : ℕ) (w : Known) → Type 0
ScansOn worker k w = (s : Scan) → (worker k).scan ≡ Some s → (t : Scan) × (w.scan ≡ Some t) × (t.page ≡ s.page)

-- the memory with other crossings and announced places, and with other words in WEAK and WEAKTURN
abbrev pub marked : Memory → (crossed claimed : ℕ → ℕ) (weak turn : ℕ) → Memory
marked m crossed claimed weak turn = record m { cross = crossed; announced = claimed; weak = weak; weak_turn = turn }

module _ (E : Era) (m : Memory) (team : Team) (g : Ghost) (k : ℕ) (w : Known) (inv : Invariant E m team g) (like : StandsThere team.worker k w) (on : ScansOn team.worker k w)
    (crossed claimed : ℕ → ℕ) (weak turn : ℕ) (taken : m.weak_turn ≡ E.epoch + 1 → turn ≡ E.epoch + 1)
    (cells : Cells E (marked m crossed claimed weak turn) (with_worker team k w) g) (crossing : Crossing E m.front g.size g.writer crossed)
    (others : (j : ℕ) (c : Copy) → j < team.count → j ≢ k → (team.worker j).copy ≡ Some c
    → Copies E m.front g.size g.writer g.copy g.keeper g.kept claimed crossed m.heap j c)
    (own : Knows E m.gate m.traced m.front m.low m.old_front m.old_low m.old_owed g m.page crossed claimed m.heap k w) where
  knows : (j : ℕ) → j < team.count → j ≢ k → Knows E m.gate m.traced m.front m.low m.old_front m.old_low m.old_owed g m.page crossed claimed m.heap j (team.worker j)
  knows j l d = let u = inv.workers j l in let c = λ (c : Copy) (e : (team.worker j).copy ≡ Some c). others j c l d e in assumption

  kept : Invariant E (marked m crossed claimed weak turn) (with_worker team k w) g
  kept =
      let p1 = counted_put team.worker k w like.post like.epoch inv.counted in
      let p2 = staffed_put team.worker k w (ap is_mutator like.post) inv.staffed in
      let p3 = scanned_on team.worker k w on inv.scanned in
      let p4 = stocks_put team.worker k w (λ q e. sym like.stock ∙ e) inv.stocks in
      let p5 = numbered_put team.worker k w (ap (λ a. a.serial) like.account) inv.numbered in
      let p6 = team_put team.count (Knows E m.gate m.traced m.front m.low m.old_front m.old_low m.old_owed g m.page crossed claimed m.heap) team.worker k w knows own in
      assumption

  pub marks_all : Preserves E m (marked m crossed claimed weak turn) team (with_worker team k w) g g
  marks_all = record {
    invariant = kept;
    shown = λ p s. shown_put E m (marked m crossed claimed weak turn) team g k w p like.account like.registers refl refl refl taken s;
    cycle = λ p c. record {
      copying = c.copying;
      rooted = rooted_put team.worker k w (ap is_mutator like.post) like.account like.registers (λ _ _ a b. (rw (like.post, like.epoch) a, rw like.done b)) c.rooted;
      made = made_put team.worker k w (ap (λ a. a.serial) like.account) c.made;
    };
    ages = λ p. omega arith;
  }

-- WEAK and WEAKTURN are others, where a turn that is taken stays taken and the cells are right
pub links : (E : Era) (m : Memory) (team : Team) (g : Ghost) (k : ℕ) (w : Known) → Invariant E m team g → StandsThere team.worker k w → ScansOn team.worker k w → (weak turn : ℕ)
    → (m.weak_turn ≡ E.epoch + 1 → turn ≡ E.epoch + 1) → Cells E (record m { weak = weak; weak_turn = turn }) (with_worker team k w) g
    → Knows E m.gate m.traced m.front m.low m.old_front m.old_low m.old_owed g m.page m.cross m.announced m.heap k w
    → Preserves E m (record m { weak = weak; weak_turn = turn }) team (with_worker team k w) g g
links E m team g k w inv like on weak turn taken cells own =
    marks_all E m team g k w inv like on m.cross m.announced weak turn taken cells inv.crossing (λ j c l d e. (inv.workers j l).copy c e) own

module _ (E : Era) (m : Memory) (team : Team) (g : Ghost) (k : ℕ) (w : Known) (inv : Invariant E m team g) (like : StandsAlike team.worker k w) (on : ScansOn team.worker k w) where
  -- with other crossings and announced places
  module _ (crossed claimed : ℕ → ℕ) (crossing : Crossing E m.front g.size g.writer crossed)
      (others : (j : ℕ) (c : Copy) → j < team.count → j ≢ k → (team.worker j).copy ≡ Some c
      → Copies E m.front g.size g.writer g.copy g.keeper g.kept claimed crossed m.heap j c)
      (own : Knows E m.gate m.traced m.front m.low m.old_front m.old_low m.old_owed g m.page crossed claimed m.heap k w) where
    cells_kept : Cells E (record m { cross = crossed; announced = claimed }) (with_worker team k w) g
    cells_kept = same_keeps E m (record m { cross = crossed; announced = claimed }) team g g k w (assumption) (assumption) (assumption)
        (still_in_chain E w (team.worker k) like.post like.epoch (λ s e. let t = on s e in (t.0, t.1)) like.chain) inv.cells

    pub marks : Preserves E m (record m { cross = crossed; announced = claimed }) team (with_worker team k w) g g
    marks = marks_all E m team g k w inv (assumption (like)) on crossed claimed m.weak m.weak_turn (λ e. e) cells_kept crossing others own

  pub learns : Knows E m.gate m.traced m.front m.low m.old_front m.old_low m.old_owed g m.page m.cross m.announced m.heap k w → Preserves E m m team (with_worker team k w) g g
  learns own = marks m.cross m.announced inv.crossing (λ j c l d e. (inv.workers j l).copy c e) own

-- a step that writes no row
pub learnt : {E : Era} {m : Memory} {team : Team} {g : Ghost} {k : ℕ} {w : Known} → Preserves E m m team (with_worker team k w) g g → Steps E m team g k None w g
learnt {m = m} keeps = record { later = m; writes = NoRow; keeps = keeps }
