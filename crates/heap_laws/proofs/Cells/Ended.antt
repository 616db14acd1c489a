-- In a traced epoch nothing is known of the chain of copied cells but that nobody links or walks. So it is when WEAK is stored, and
-- when the gate or TRACED is exchanged.
use Rattle.std.proofs.Common.{◌≡◌, ◌≢◌, ℕ, ◌+◌, ◌<◌, true, Some, is_some, refl, sym, ◌∙◌, arith, inl, inr}
use Rattle.plain_state.specs.declared.kind.Kind.TheVariants.{Weak}
use Rattle.heap_state.specs.Cells.{Ranks, no_ranks, Chain}
use Rattle.heap_state.specs.Memory.Era.{Era, Memory}
use Rattle.heap_state.specs.Invariant.Ghost.{Ghost}
use Rattle.heap_state.specs.Known.{Known, Team, Linking, Pass, Reset, cell_to_link, is_cleared}
use Rattle.heap_laws.specs.Cells.Flips.{SizesCarryChain, ClearingWeakCarriesChain, FlippingCarriesChain}
use Rattle.heap_laws.specs.Flipping.Flip.{Flips, next_era, next_memory, next_ghost, after_flip}
use Rattle.heap_laws.specs.Flipping.Sizes.{sized_era, after_size}
use Rattle.heap_laws.specs.Steps.{Ready, with_weak, with_worker}
use Rattle.heap_laws.proofs.Cells.Linked.{weak_memory}
use Rattle.heap_laws.proofs.Cells.ChainParts.{chain_of, cell_in, value_in, flipper_traced, none_links, none_passes}
use Rattle.heap_laws.proofs.Flipping.Sums.{stood}

-- the others and worker k have nothing to link and don't walk
module _ (E : Era) (later : Memory) (weak turn : ℕ) (team : Team) (h : Ghost) (r : Ranks) (k : ℕ) (w : Known) (traced : later.traced ≡ E.epoch + 1) (turned : turn ≡ E.epoch + 1)
    (apart : (i j a : ℕ) → i < team.count → j < team.count → cell_to_link (team.worker i).linking ≡ Some a → cell_to_link (team.worker j).linking ≡ Some a → i ≡ j)
    (one : (i j : ℕ) → i < team.count → j < team.count → is_some (team.worker i).pass ≡ true → is_some (team.worker j).pass ≡ true → i ≡ j)
    (none_link : (j : ℕ) (l : Linking) → j < team.count → j ≢ k → ¬ ((team.worker j).linking ≡ Some l)) (own_none : (l : Linking) → k < team.count → ¬ (w.linking ≡ Some l))
    (none_pass : (j : ℕ) (q : Pass) → j < team.count → j ≢ k → ¬ ((team.worker j).pass ≡ Some q)) (own_still : (q : Pass) → k < team.count → ¬ (w.pass ≡ Some q))
    (others_reset : (j : ℕ) → j < team.count → j ≢ k → is_cleared (team.worker j).reset ≡ true → weak ≡ 0) (own_reset : k < team.count → is_cleared w.reset ≡ true → weak ≡ 0)
    (three : (a : ℕ) → 0 < h.size a → h.kind a ≡ Weak → h.size a ≡ 3) where
  pub ended : Chain E later weak turn (with_worker team k w) h r
  ended = chain_of E later weak turn team h r k w (record {
    top = inr turned;
    turned = λ _. turned;
    linked = λ le. absurd (omega (arith, le, traced));
    all = λ le. absurd (omega (arith, le, traced));
    others_link = λ j l y d e. absurd (none_link j l y d e);
    own_link = λ l y e. absurd (own_none l y e);
    own_apart = λ j a _ y _ e _. let z = cell_in w.linking a e in own_none z.0 y z.1;
    others_pass = λ j q y d e. absurd (none_pass j q y d e);
    own_pass = λ q y e. absurd (own_still q y e);
    own_one = λ j _ y _ e _. let q = value_in w.pass e in own_still q.0 y q.1;
    walker = λ le. absurd (omega (arith, le, traced));
    others_reset = others_reset;
    own_reset = own_reset;
    three = three;
  }) apart one

-- ---- a flip in progress

module _ (E : Era) (m : Memory) (weak turn : ℕ) (team : Team) (g : Ghost) (r : Ranks) (k : ℕ) (z : Reset) (ready : Ready E m team g k) (has : (team.worker k).reset ≡ Some z) (chain : Chain E m weak turn team g r) where
  traced : m.traced ≡ E.epoch + 1
  traced = flipper_traced E m weak turn team g r ready.invariant chain k z ready.member has

  links_none : (j : ℕ) (l : Linking) → j < team.count → ¬ ((team.worker j).linking ≡ Some l)
  links_none = none_links E m weak turn team g r ready.invariant chain traced

  passes_none : (j : ℕ) (q : Pass) → j < team.count → ¬ ((team.worker j).pass ≡ Some q)
  passes_none = none_passes E m weak turn team g r ready.invariant chain traced

  pub sizes : (q : ℕ) → Chain (sized_era E q) m weak turn (with_worker team k (after_size (team.worker k) z)) g r
  sizes q = ended (sized_era E q) m weak turn team g r k (after_size (team.worker k) z) traced (chain.turned traced) chain.apart chain.one
      (λ j l y _. links_none j l y) (λ l y e. links_none k l y e) (λ j q y _. passes_none j q y) (λ q y e. passes_none k q y e)
      (λ j y _. chain.reset j y) (λ y e. chain.reset k y (rw has e)) chain.three

  pub clears : (w : Known) → w.linking ≡ (team.worker k).linking → w.pass ≡ (team.worker k).pass → Chain E (with_weak m 0) 0 turn (with_worker team k w) g r
  clears w linking pass = ended E (with_weak m 0) 0 turn team g r k w traced (chain.turned traced) chain.apart chain.one
      (λ j l y _. links_none j l y) (λ l y e. links_none k l y (sym linking ∙ e)) (λ j q y _. passes_none j q y) (λ q y e. passes_none k q y (sym pass ∙ e))
      (λ _ _ _ _. refl) (λ _ _. refl) chain.three

  -- ---- the exchange of the gate

  module _ (flips : Flips E team k z) (cleared : z.cleared ≡ true) where
    abbrev u : Known
    u = after_flip (team.worker k)

    empty : m.old_front ≡ E.old_start
    empty = (((ready.invariant.workers k ready.member).reset z has).stored flips.stored).1

    zero : weak ≡ 0
    zero = chain.reset k ready.member (rw has cleared)

    pub flips_chain : Chain (next_era E) (next_memory m) weak turn (with_worker team k u) (next_ghost E g) no_ranks
    flips_chain = chain_of (next_era E) (next_memory m) weak turn team (next_ghost E g) no_ranks k u (record {
      top = inl (chain.turned traced);
      turned = λ e. absurd (omega (arith, e, traced));
      linked = λ _. record {
        ranked = λ a p. absurd (omega (arith, p));
        alone = λ a b p _. absurd (omega (arith, p));
        head = inl (zero, refl);
        link = λ a n e. absurd (omega (arith, e));
      };
      all = λ _ a c _. absurd (let i = c.inside in omega (arith, i, empty));
      others_link = λ j l y _ e. absurd (links_none j l y e);
      own_link = λ l y e. absurd (links_none k l y e);
      own_apart = λ j a _ y _ e _. let o = cell_in (team.worker k).linking a e in links_none k o.0 y o.1;
      others_pass = λ j q y _ e. absurd (passes_none j q y e);
      own_pass = λ q y e. absurd (passes_none k q y e);
      own_one = λ j _ y _ e _. let q = value_in (team.worker k).pass e in passes_none k q.0 y q.1;
      walker = λ _ e. absurd (let t = chain.turned traced in omega (arith, e, t));
      others_reset = λ j y _ e. chain.reset j y e;
      own_reset = λ _ e. absurd (cc);
      three = λ a st e. let o = stood E.start E.span g.size a st in o.3 ∙ chain.three a o.0 e;
    }) chain.apart chain.one

pub sizes_carry_chain : SizesCarryChain
sizes_carry_chain E m weak turn team g r k z q ready has chain = sizes E m weak turn team g r k z ready has chain q

pub clearing_weak_carries_chain : ClearingWeakCarriesChain
clearing_weak_carries_chain E m later weak turn team g r k z w ready has linking pass writes chain =
    let s : later ≡ with_weak m 0 = weak_memory writes refl in
    rw s (clears E m weak turn team g r k z ready has chain w linking pass)

pub flipping_carries_chain : FlippingCarriesChain
flipping_carries_chain E m weak turn team g r k z ready flips cleared chain = flips_chain E m weak turn team g r k z ready flips.reset chain flips cleared
