-- The walk over the chain of copied cells, from cell to cell.
use Rattle.std.proofs.Common.{◌≡◌, ◌≢◌, ℕ, ◌+◌, ◌-◌, ◌<◌, ◌≤◌, ◌⊎◌, true, false, Some, None, is_some, refl, sym, ap, ◌∙◌, arith, ⊎_elim, inl, inr}
use Rattle.std.proofs.lemmas.Bool.{cases_eq}
use Rattle.heap_words.specs.Decoded.{HeaderWord, BusyWord, ForwardWord}
use Rattle.heap_state.specs.Cells.{Ranks, KnowsCopy, IsCopiedCell, LeadsToRank, Linked, Links, TargetsOld, ReplacesTarget, Visits, Passing, passed_from, Chain}
use Rattle.heap_state.specs.Memory.Era.{Era, Memory}
use Rattle.heap_state.specs.Invariant.Ghost.{Ghost, Leads, header_kind}
use Rattle.heap_state.specs.Known.{Known, Team, Linking, Visit, Pass, Begins, At, Done, cell_to_link}
use Rattle.heap_state.proofs.Puts.{put_at, put_other, some_same, none≢some}
use Rattle.heap_state.proofs.Records.Holding.{First, OwnHeader, KeptBy, GoneTo, first}
use Rattle.heap_laws.specs.Cells.Walks.{SameBesidePass, ComesTo, visit, passed as has_passed, replacing, HeaderReplaces, BeginningWalkCarriesChain, GoingOnCarriesChain, FindingTargetCarriesChain, HeadersReplaceTargets, FindingWordCarriesChain, ReplacingTargetCarriesChain}
use Rattle.heap_laws.specs.Steps.{Ready, with_worker}
use Rattle.heap_laws.proofs.Cells.Carried.{goes_on, links_stay}
use Rattle.heap_laws.proofs.Cells.Linked.{same_memory, may_copy_still}
use Rattle.heap_laws.proofs.Cells.ChainRows.{StoresWord, stores_word}
use Rattle.heap_laws.proofs.Frames.Values.{one_place, pointer_same}

-- ---- a step of the walker

-- The walker goes on with another part of its walk, and no link and no cell changes.
module _ (E : Era) (m later : Memory) (weak turn : ℕ) (team : Team) (g : Ghost) (r : Ranks) (k : ℕ) (p q : Pass) (w : Known) (below : k < team.count) (has : (team.worker k).pass ≡ Some p) (gets : w.pass ≡ Some q)
    (like : SameBesidePass w (team.worker k)) (chain : Chain E m weak turn team g r) (traced : later.traced ≡ m.traced) (front : later.front ≡ m.front)
    (links : (a : ℕ) → IsCopiedCell E m.front g a → later.heap (a + 2) ≡ m.heap (a + 2))
    (at : (v : Visit) → q ≡ At v → Visits E later g r v)
    (passed : (a : ℕ) → 0 < r.rank a → passed_from r q ≤ r.rank a → ¬ (Leads E (later.heap (a + 1)))) where
  before : Passing E m turn g r (team.worker k) p
  before = chain.pass k p below has

  others : (j : ℕ) (x : Pass) → j < team.count → j ≢ k → ¬ ((team.worker j).pass ≡ Some x)
  others j x y d e = d (chain.one j k y below (ap is_some e) (ap is_some has))

  keeps_links : (j : ℕ) (l : Linking) (x : Known) → j < team.count → (team.worker j).linking ≡ Some l → x.post ≡ (team.worker j).post → x.epoch ≡ (team.worker j).epoch → x.scan ≡ (team.worker j).scan → (KnowsCopy (team.worker j) → KnowsCopy x) → Links E later g r x l
  keeps_links j l x y e post epoch scan asked =
      let o = chain.linking j l y e in
      links_stay E m later g g r x (team.worker j) l traced (λ a c. rw front c) (links l.cell o.cell) (may_copy_still E x (team.worker j) post epoch scan asked) o

  pub walks_on : Chain E later weak turn (with_worker team k w) g r
  walks_on = goes_on E m later weak turn team g g r k w (record {
    traced = traced;
    fewer = λ a c. rw front at c;
    cells = λ a c. rw front c;
    links = λ le a y. links a ((chain.linked le).ranked a y).0;
    others_link = λ j l y _ e. keeps_links j l (team.worker j) y e refl refl refl (λ z. z);
    own_link = λ l y e. keeps_links k l w y (sym like.linking ∙ e) like.post like.ground.0 like.scan like.asked;
    same_cell = ap cell_to_link like.linking;
    others_pass = λ j x y d e. absurd (others j x y d e);
    own_pass = λ x _ e. rw (← some_same (sym gets ∙ e)) (record {
      now = (like.ground.0 ∙ before.now.0, rw traced before.now.1, before.now.2);
      look = (before.look.0, like.ground.1 ∙ before.look.1, before.look.2 ∙ sym traced);
      at = at;
      passed = passed;
    });
    same_pass = rw (gets, has) refl;
    cleared = λ e. rw like.reset at e;
    three = chain.three;
  }) chain

-- ---- what is passed

passed_before : (r : Ranks) (v : Visit) → v.past ≡ false → passed_from r (At v) ≡ r.rank v.cell + 1
passed_before r v e = rw e refl

passed_at : (r : Ranks) (v : Visit) → v.past ≡ true → passed_from r (At v) ≡ r.rank v.cell
passed_at r v e = rw e refl

-- a cell of a rank is the one, or it is not less than the next
module _ (E : Era) (m : Memory) (weak : ℕ) (g : Ghost) (r : Ranks) (linked : Linked E m weak g r) where
  same_or_more : (c a : ℕ) → 0 < r.rank c → r.rank c ≤ r.rank a → (a ≡ c) ⊎ (r.rank c + 1 ≤ r.rank a)
  same_or_more c a p l = ⊎_elim (λ (e : r.rank c ≡ r.rank a). inl (sym (linked.alone c a p e))) (λ (d : r.rank c ≢ r.rank a). inr (omega (arith, l, d))) (cases_eq (r.rank c) (r.rank a))

-- a walk that comes to a cell knows nothing of it
module _ (E : Era) (m : Memory) (g : Ghost) (r : Ranks) where
  visits : (a more : ℕ) → 0 < r.rank a → r.rank a ≤ more → (v : Visit) → At (visit a more) ≡ At v → Visits E m g r v
  visits a more p l v e = rw (← same) (record { linked = p; few = l; old = λ b _ f. none≢some f; word = λ x _ f. none≢some f })
    where
      same : visit a more ≡ v
      same = cc

-- ---- from cell to cell

-- the word leads to the rank below which all is passed
module _ (E : Era) (m : Memory) (weak turn : ℕ) (team : Team) (g : Ghost) (r : Ranks) (k word more n : ℕ) (p q : Pass) (w : Known) (below : k < team.count) (has : (team.worker k).pass ≡ Some p) (from : passed_from r p ≡ n + 1)
    (leads : LeadsToRank r word n) (few : n ≤ more) (comes : ComesTo word more q) (gets : w.pass ≡ Some q) (like : SameBesidePass w (team.worker k)) (chain : Chain E m weak turn team g r) where
  old : Passing E m turn g r (team.worker k) p
  old = chain.pass k p below has

  on : (at : (v : Visit) → q ≡ At v → Visits E m g r v) → passed_from r q ≡ n + 1 → Chain E m weak turn (with_worker team k w) g r
  on at same = walks_on E m m weak turn team g r k p q w below has gets like chain refl refl (λ _ _. refl) at (λ a y l. old.passed a y (rw from (rw same at l)))

  to_end : word ≡ 0 → q ≡ Done → Chain E m weak turn (with_worker team k w) g r
  to_end zero is = on (λ v e. absurd (let f : Done ≡ At v = sym is ∙ e in cc)) (rw is (⊎_elim
      (λ z. omega (arith, z))
      (λ z. absurd (omega (arith, z, zero)))
      leads))

  to_cell : (a : ℕ) → word ≡ a + 1 → q ≡ At (visit a more) → Chain E m weak turn (with_worker team k w) g r
  to_cell a to is = ⊎_elim
      (λ (z : (word ≡ 0) × (n ≡ 0)). absurd (omega (arith, z, to)))
      (λ (z : (b : ℕ) × (word ≡ b + 1) × (0 < r.rank b) × (r.rank b ≡ n)).
      let s : z.0 ≡ a = omega (arith, z, to) in
      let rank : r.rank a ≡ n = rw s at z.3 in
      let some : 0 < r.rank a = rw s at z.2 in
      on (λ v e. visits E m g r a more some (omega (arith, rank, few)) v (sym is ∙ e)) (rw is (omega (arith, rank))))
      leads

  pub comes_on : Chain E m weak turn (with_worker team k w) g r
  comes_on = ⊎_elim (λ z. to_end z.0 z.1) (λ z. to_cell z.0 z.1 z.2) comes

pub beginning_walk_carries_chain : BeginningWalkCarriesChain
beginning_walk_carries_chain E m later weak turn team g r k more q w below has few comes gets writes like chain =
    let s : later ≡ m = same_memory writes refl in
    let o = chain.pass k Begins below has in
    rw s (comes_on E m weak turn team g r k weak more r.length Begins q w below has refl (chain.linked o.now.1).head few comes gets like chain)

pub going_on_carries_chain : GoingOnCarriesChain
going_on_carries_chain E m later weak turn team g r k v q w below has past comes gets writes like chain =
    let s : later ≡ m = same_memory writes refl in
    let o = chain.pass k (At v) below has in
    let y = o.at v refl in
    let c = y.linked in
    let f = y.few in
    let n : r.rank v.cell ≡ (r.rank v.cell - 1) + 1 = omega (arith, c) in
    rw s (comes_on E m weak turn team g r k (m.heap (v.cell + 2)) (v.more - 1) (r.rank v.cell - 1) (At v) q w below has (passed_at r v past ∙ n) ((chain.linked o.now.1).link v.cell (r.rank v.cell - 1) n) (omega (arith, f, c)) comes gets like chain)

-- ---- a cell's target

module _ (E : Era) (m : Memory) (weak turn : ℕ) (team : Team) (g : Ghost) (r : Ranks) (k : ℕ) (v u : Visit) (w : Known) (below : k < team.count) (has : (team.worker k).pass ≡ Some (At v))
    (gets : w.pass ≡ Some (At u)) (like : SameBesidePass w (team.worker k)) (chain : Chain E m weak turn team g r) where
  abbrev knew : Passing E m turn g r (team.worker k) (At v)
  knew = chain.pass k (At v) below has

  visited : Visits E m g r v
  visited = knew.at v refl

  learns : Visits E m g r u → ((a : ℕ) → 0 < r.rank a → passed_from r (At u) ≤ r.rank a → ¬ (Leads E (m.heap (a + 1)))) → Chain E m weak turn (with_worker team k w) g r
  learns at passed = walks_on E m m weak turn team g r k (At v) (At u) w below has gets like chain refl refl (λ _ _. refl)
      (λ x e. let s : u ≡ x = cc in rw (← s) at) passed

  -- it doesn't lead into the old space
  pub finds_nothing : v.past ≡ false → ¬ (Leads E (m.heap (v.cell + 1))) → u ≡ has_passed v → Chain E m weak turn (with_worker team k w) g r
  finds_nothing before clean is = learns
      (rw is (record { linked = visited.linked; few = visited.few; old = λ b f _. absurd (cc); word = λ x f _. absurd (cc) }))
      (λ a y l.
      let from : passed_from r (At u) ≡ r.rank v.cell = rw is refl in
      ⊎_elim
      (λ (e : a ≡ v.cell). rw e clean)
      (λ (more : r.rank v.cell + 1 ≤ r.rank a). knew.passed a y (rw (passed_before r v before) more))
      (same_or_more E m weak g r (chain.linked knew.now.1) v.cell a visited.linked (rw from at l)))

  -- it leads there, or what is to replace it is known
  pub finds : v.past ≡ false → u.past ≡ v.past → u.cell ≡ v.cell → Visits E m g r u → Chain E m weak turn (with_worker team k w) g r
  finds before past cell at = learns at (λ a y l. knew.passed a y (rw (passed_before r v before) (let from : passed_from r (At u) ≡ r.rank v.cell + 1 = passed_before r u (past ∙ before) ∙ ap (λ z. r.rank z + 1) cell in rw from at l)))

pub finding_target_carries_chain : FindingTargetCarriesChain
finding_target_carries_chain E m later weak turn team g r k v u w below has before finds_it gets writes like chain =
    let s : later ≡ m = same_memory writes refl in
    let y = (chain.pass k (At v) below has).at v refl in
    rw s (⊎_elim
    (λ z. finds_nothing E m weak turn team g r k v u w below has gets like chain before z.0 z.1)
    (λ z.
    let at : Visits E m g r (record v { old = Some z.0; word = None }) = record {
      linked = y.linked;
      few = y.few;
      old = λ b _ e. rw (← some_same e) z.1;
      word = λ x _ e. none≢some e;
    } in
    finds E m weak turn team g r k v u w below has gets like chain before (ap (λ (x : Visit). x.past) z.2) (ap (λ (x : Visit). x.cell) z.2) (rw z.2 at))
    finds_it)

pub finding_word_carries_chain : FindingWordCarriesChain
finding_word_carries_chain E m later weak turn team g r k v b x w below has before old replaces gets writes like chain =
    let s : later ≡ m = same_memory writes refl in
    let y = (chain.pass k (At v) below has).at v refl in
    let at : Visits E m g r (replacing v x) = record {
      linked = y.linked;
      few = y.few;
      old = λ c _ e. none≢some e;
      word = λ z _ e. (b, y.old b before old, rw (← some_same e) replaces);
    } in
    rw s (finds E m weak turn team g r k v (replacing v x) w below has gets like chain before refl refl at)

-- ---- headers

pub headers_replace_targets : HeadersReplaceTargets
headers_replace_targets E m team g k b ready st from to = by_first (first E m team g ready.invariant b st (ready.invariant.older.written b st from to))
  where
    by_first : First E m team g ready.invariant b → HeaderReplaces m g b
    by_first (OwnHeader n y h) = record {
      forward = λ len d word e _. absurd (let z : ForwardWord len d ≡ HeaderWord (header_kind (g.kind b)) (g.size b - 1) (g.identity b).serial (g.identity b).mutator = sym e ∙ h in cc);
      header = λ kind len serial mutator word _ f. inr (n, f);
    }
    by_first (KeptBy j y h) = record {
      forward = λ len d word e _. absurd (let z : ForwardWord len d ≡ BusyWord (g.size b - 1) j = sym e ∙ h in cc);
      header = λ kind len serial mutator word e _. absurd (let z : HeaderWord kind len serial mutator ≡ BusyWord (g.size b - 1) j = sym e ∙ h in cc);
    }
    by_first (GoneTo x y n h) = record {
      forward = λ len d word e f. let z : ForwardWord len d ≡ ForwardWord (g.size b - 1) x = sym e ∙ h in let s : d ≡ x = cc in inl (x, n, rw (← s) f);
      header = λ kind len serial mutator word e _. absurd (let z : HeaderWord kind len serial mutator ≡ ForwardWord (g.size b - 1) x = sym e ∙ h in cc);
    }

-- ---- the target is replaced

module _ (E : Era) (m later : Memory) (weak turn : ℕ) (team : Team) (g : Ghost) (r : Ranks) (k : ℕ) (v : Visit) (x : ℕ) (w : Known) (ready : Ready E m team g k) (has : (team.worker k).pass ≡ Some (At v)) (before : v.past ≡ false)
    (word : v.word ≡ Some x) (gets : w.pass ≡ Some (At (has_passed v))) (s : StoresWord m later (v.cell + 1) x) (like : SameBesidePass w (team.worker k)) (chain : Chain E m weak turn team g r) where
  was : Passing E m turn g r (team.worker k) (At v)
  was = chain.pass k (At v) ready.member has

  here : Visits E m g r v
  here = was.at v refl

  chained : Linked E m weak g r
  chained = chain.linked was.now.1

  -- the target leads to an old record, for which the word stands
  was_old : (b : ℕ) × TargetsOld E m g v.cell b × ReplacesTarget g b x
  was_old = here.word x before word

  -- the word doesn't lead into the old space
  clean : ¬ (Leads E x)
  unfolding Leads
  clean to =
      let o = was_old.1 in
      ⊎_elim
      (λ z.
      let t = ready.invariant.copied.target was_old.0 z.0 o.1 z.1 in
      let e : to.0 ≡ z.0 = pointer_same x to.0 z.0 to.1 z.2 in
      let p = ready.laid_out.apart in
      let i = ready.invariant.laid.order in
      omega (arith, e, to.2, to.3, t.2, t.3, p, i))
      (λ z. absurd (let e = sym to.1 ∙ z.1 in cc))
      was_old.2

  links_same : (a : ℕ) → IsCopiedCell E m.front g a → later.heap (a + 2) ≡ m.heap (a + 2)
  links_same a c =
      let h = (chained.ranked v.cell here.linked).0 in
      rw (
        s.heap,
        put_other m.heap (v.cell + 1) x (a + 2) (λ e.
            let y = chain.three a c.stands c.weak in
            let z = chain.three v.cell h.stands h.weak in
            let f : a ≡ v.cell = one_place g.size a v.cell 2 1 ready.invariant.laid.apart (omega (arith, y)) (omega (arith, z)) e in
            omega (arith, e, f)),
      ) refl

  pub replaces : Chain E later weak turn (with_worker team k w) g r
  replaces = walks_on E m later weak turn team g r k (At v) (At (has_passed v)) w ready.member has gets like chain s.memory.traced s.memory.front links_same
      (λ u e. let f : has_passed v ≡ u = cc in rw (← f) (record { linked = here.linked; few = here.few; old = λ b f _. absurd (cc); word = λ x f _. absurd (cc) }))
      (λ a y l. ⊎_elim
      (λ (e : a ≡ v.cell). rw (s.heap, put_at m.heap (v.cell + 1) x (a + 1) (ap (λ z. z + 1) e)) clean)
      (λ (more : r.rank v.cell + 1 ≤ r.rank a).
      rw (s.heap, put_other m.heap (v.cell + 1) x (a + 1) (λ e. let f : a ≡ v.cell = omega (arith, e) in let z : r.rank a ≡ r.rank v.cell = ap r.rank f in omega (arith, z, more)))
      (was.passed a y (rw (passed_before r v before) more)))
      (same_or_more E m weak g r chained v.cell a here.linked l))

pub replacing_target_carries_chain : ReplacingTargetCarriesChain
replacing_target_carries_chain E m later weak turn team g r k v x w ready has before word gets writes like chain =
    replaces E m later weak turn team g r k v x w ready has before word gets (stores_word writes refl) like chain
