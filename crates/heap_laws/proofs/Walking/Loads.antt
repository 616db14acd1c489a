-- The loads of the walk over the chain of copied cells: they change only what the walker knows.
use Rattle.std.proofs.Common.{◌≡◌, ℕ, Some, None, refl, arith, inl}
use Rattle.heap_state.specs.Cells.{TargetsOld, ReplacesTarget, Chain}
use Rattle.heap_state.specs.Invariant.Parts.Cells.{Cells}
use Rattle.heap_state.specs.Memory.Era.{Era, Memory}
use Rattle.heap_state.specs.Invariant.Ghost.{Ghost}
use Rattle.heap_state.specs.Known.{Known, Team, Visit, Pass, Begins, At}
use Rattle.heap_laws.specs.Cells.Walks.{SameBesidePass, FindsTarget, HeaderReplaces, passed, replacing}
use Rattle.heap_laws.specs.Steps.{Ready, NoRow, Steps, with_worker}
use Rattle.heap_laws.specs.Walking.{walking, IsAtTarget, WalksBegin, WalksGoOn, TargetsStay, TargetsLeadOut, CopiesReplaceTargets, NothingReplacesTargets}
use Rattle.heap_laws.proofs.Cells.Short.{chain_is_short}
use Rattle.heap_laws.proofs.Cells.Walked.{beginning_walk_carries_chain, going_on_carries_chain, finding_target_carries_chain, headers_replace_targets, finding_word_carries_chain}
use Rattle.heap_laws.proofs.Steps.Learning.{links, learnt}
use Rattle.heap_laws.proofs.Targets.Walked.{targets_are_found}

-- but for its walk, the worker is as it was
pub same_beside : (w : Known) (q : Pass) → SameBesidePass (walking w q) w
same_beside w q = record { post = refl; ground = (refl, refl); scan = refl; asked = λ y. y; reset = refl; linking = refl }

-- what the walker knows changes, where the chain stands after it
module _ (E : Era) (m : Memory) (team : Team) (g : Ghost) (k : ℕ) (ready : Ready E m team g k) where
  abbrev cells : Cells E m team g
  cells = ready.invariant.cells

  abbrev then : Pass → Known
  then q = walking (team.worker k) q

  learns_of_chain : (q : Pass) → Chain E m m.weak m.weak_turn (with_worker team k (then q)) g cells.ranks → Steps E m team g k None (then q) g
  learns_of_chain q chain = learnt (links E m team g k (then q) ready.invariant (assumption) (λ s e. (s, e, refl)) m.weak m.weak_turn (λ e. e)
      (record { ranks = cells.ranks; chain = chain; targets = cells.targets }) (let me = ready.invariant.workers k ready.member in assumption))

  -- ---- a cell's target

  module _ (v : Visit) (is : IsAtTarget team k v) where
    pub finds_target : (u : Visit) → FindsTarget E m g v u → Steps E m team g k None (then (At u)) g
    finds_target u finds = learns_of_chain (At u)
        (finding_target_carries_chain E m m m.weak m.weak_turn team g cells.ranks k v u (then (At u)) ready.member is.at is.before finds refl NoRow (same_beside (team.worker k) (At u)) cells.chain)

    module _ (b : ℕ) (old : v.old ≡ Some b) where
      leads_to : TargetsOld E m g v.cell b
      leads_to = ((cells.chain.pass k (At v) ready.member is.at).at v refl).old b is.before old

      pub header_there : HeaderReplaces m g b
      header_there = headers_replace_targets E m team g k b ready leads_to.1 leads_to.2 leads_to.3

      pub finds_word : (word : ℕ) → ReplacesTarget g b word → Steps E m team g k None (then (At (replacing v word))) g
      finds_word word replaces = learns_of_chain (At (replacing v word))
          (finding_word_carries_chain E m m m.weak m.weak_turn team g cells.ranks k v b word (then (At (replacing v word))) ready.member is.at is.before old replaces refl NoRow
          (same_beside (team.worker k) (At (replacing v word))) cells.chain)

-- ---- from cell to cell

pub walks_begin : WalksBegin
walks_begin E m team g k more q ready has room comes =
    let c = ready.invariant.cells in
    let short = chain_is_short E m m.weak m.weak_turn team g c.ranks k ready (c.chain.pass k Begins ready.member has).now.1 c.chain in
    let o = ready.invariant.laid.order in
    learns_of_chain E m team g k ready q
    (beginning_walk_carries_chain E m m m.weak m.weak_turn team g c.ranks k more q (walking (team.worker k) q) ready.member has (omega (arith, short, room, o)) comes refl NoRow (same_beside (team.worker k) q) c.chain)

pub walks_go_on : WalksGoOn
walks_go_on E m team g k v q ready has past comes =
    let c = ready.invariant.cells in
    learns_of_chain E m team g k ready q
    (going_on_carries_chain E m m m.weak m.weak_turn team g c.ranks k v q (walking (team.worker k) q) ready.member has past comes refl NoRow (same_beside (team.worker k) q) c.chain)

-- ---- a cell's target

pub targets_stay : TargetsStay
targets_stay E m team g k v ready is clean = finds_target E m team g k ready v is (passed v) (inl (clean, refl))

pub targets_lead_out : TargetsLeadOut
targets_lead_out E m team g k v b ready is leads out =
    let c = ready.invariant.cells in
    finds_target E m team g k ready v is (record v { old = Some b; word = None }) ((targets_are_found E m m.weak m.weak_turn team g c.ranks k v ready is.at c.chain c.targets).old b leads out)

pub copies_replace_targets : CopiesReplaceTargets
copies_replace_targets E m team g k v b len d word ready is old forward points =
    finds_word E m team g k ready v is b old word ((header_there E m team g k ready v is b old).forward len d word forward points)

pub nothing_replaces_targets : NothingReplacesTargets
nothing_replaces_targets E m team g k v b kind len serial mutator word ready is old header zero =
    finds_word E m team g k ready v is b old word ((header_there E m team g k ready v is b old).header kind len serial mutator word header zero)
