-- How a copied cell comes to be linked.
use Rattle.std.proofs.Common.{◌≡◌, ℕ, true, false, Some, refl, sym, subst, ◌⊎◌, inl, inr}
use Rattle.std.specs.Prelude.{⊤}
use Rattle.atom_store.specs.declared.reply.Reply.{Reply}
use Rattle.atom_store.specs.declared.reply.Reply.TheVariants.{Value, Done, Won, Lost}
use Rattle.atom_store.specs.declared.step.Step.TheVariants.{Load, Store}
use Rattle.space_map.specs.Table.{HeapWord, WeakHead}
use Rattle.forwarding.specs.declared.evac_stage.EvacStage.{EvacStage}
use Rattle.forwarding.specs.declared.evac_stage.EvacStage.TheVariants.{StoresHeader, LoadsWord, StoresWord, StoresCross, StoresForward, LoadsWeak, StoresLink, TakesWeak, Clears}
use Rattle.forwarding.specs.declared.reserved.Reserved.{Reserved}
use Rattle.forwarding.specs.Evacuation.{Evacuation, is_cell, link_of, wanted_at}
use Rattle.forwarding.specs.Taken.{taken}
use Rattle.forwarding.specs.Theorems.{StoresLinksFirst, LinksToHead, LinksPublished, ClearsBehindLinks, linking, place, publishing}
use Rattle.forwarding.proofs.CopyStages.{IsBeingCopied, of_each_way}

-- a stage behind the store of the forward, at which the machine has not ended
abbrev IsBehindForward : EvacStage → Type 0
IsBehindForward (LoadsWeak to) = ⊤
IsBehindForward (StoresLink to head) = ⊤
IsBehindForward (TakesWeak to head) = ⊤
IsBehindForward (Clears to) = ⊤
IsBehindForward _ = ⊥

before : (r : Reserved) (x : EvacStage) → IsBeingCopied r x → IsBehindForward x → ⊥
before r (StoresHeader of) copies behind = behind
before r (LoadsWord of i) copies behind = behind
before r (StoresWord of w) copies behind = behind
before r (StoresCross of page) copies behind = behind
before r (StoresForward of) copies behind = behind
before r _ copies behind = copies

-- what holds of each way from the store of the forward on
record OfWaysBehind (P : EvacStage → Reply → EvacStage → Type 0) : Type 0 where
  forwards : (r : Reserved) → is_cell r.kept ≡ false → P (StoresForward r) Done (Clears r.to)
  forwards_cell : (r : Reserved) → is_cell r.kept ≡ true → P (StoresForward r) Done (LoadsWeak r.to)
  reads_weak : (to head : ℕ) → P (LoadsWeak to) (Value head) (StoresLink to head)
  stores_link : (to head : ℕ) → P (StoresLink to head) Done (TakesWeak to head)
  links : (to head : ℕ) → P (TakesWeak to head) Won (Clears to)
  links_again : (to head other : ℕ) → P (TakesWeak to head) (Lost other) (LoadsWeak to)

-- so the machine comes to a stage behind the store of the forward
module _ (v : Evacuation) (goal : EvacStage) (behind : IsBehindForward goal) (Q : EvacStage → Reply → Type 0) where
  abbrev Comes : EvacStage → Reply → EvacStage → Type 0
  Comes x reply z = z ≡ goal → (x ≡ goal) ⊎ Q x reply

  other : (z : EvacStage) → z ≡ goal → (IsBehindForward z → ⊥) → ⊥
  other z is not_behind = not_behind (subst IsBehindForward (sym is) behind)

  comes : OfWaysBehind Comes → (reply : Reply) → (taken v reply).stage ≡ goal → (v.stage ≡ goal) ⊎ Q v.stage reply
  comes ways reply =
      of_each_way v.layout v.epoch Comes (record {
        stays = λ x reply is. inl is;
        follows = λ w len to f is. absurd (other _ is (λ b. b));
        finds = λ w kind len serial mutator f is. absurd (other _ is (λ b. b));
        takes = λ kept is. absurd (other _ is (λ b. b));
        is_late = λ kept w is. absurd (other _ is (λ b. b));
        aims = λ kept w area is. absurd (other _ is (λ b. b));
        announces = λ kept area is. absurd (other _ is (λ b. b));
        reserves = λ kept area is. absurd (other _ is (λ b. b));
        tries_again = λ kept area w seen same is. absurd (other _ is (λ b. b));
        aims_again = λ kept area w seen is. absurd (other _ is (λ b. b));
        copies = λ r x reply z copies_x copies_z is. absurd (other z is (before r z copies_z));
        forwards = ways.forwards;
        forwards_cell = ways.forwards_cell;
        reads_weak = ways.reads_weak;
        stores_link = ways.stores_link;
        links = ways.links;
        links_again = ways.links_again;
        clears = λ to is. absurd (other _ is (λ b. b));
      }) v.stage reply

pub stores_links_first : StoresLinksFirst
stores_links_first v reply to head =
    let Q : EvacStage → Reply → Type 0 = λ x reply. (reply ≡ Done) × (x ≡ StoresLink to head)
    × (wanted_at v.layout v.addr v.epoch v.worker x ≡ Some (Store (place v (HeapWord (link_of to))) head)) in
    comes v (TakesWeak to head) tt Q (record {
      forwards = λ r plain is. absurd (cc);
      forwards_cell = λ r cell is. absurd (cc);
      reads_weak = λ a w is. absurd (cc);
      stores_link = λ a w is.
          let same : StoresLink to head ≡ StoresLink a w = cc in
          inr (subst (λ x. Q x Done) same (refl, refl, refl));
      links = λ a w is. absurd (cc);
      links_again = λ a w seen is. absurd (cc);
    }) reply

pub links_to_head : LinksToHead
links_to_head v reply to head =
    let Q : EvacStage → Reply → Type 0 = λ x reply. (reply ≡ Value head) × (x ≡ LoadsWeak to)
    × (wanted_at v.layout v.addr v.epoch v.worker x ≡ Some (Load (place v WeakHead))) in
    comes v (StoresLink to head) tt Q (record {
      forwards = λ r plain is. absurd (cc);
      forwards_cell = λ r cell is. absurd (cc);
      reads_weak = λ a w is. inr ((let same : w ≡ head = cc in cc), (let same : a ≡ to = cc in cc), refl);
      stores_link = λ a w is. absurd (cc);
      links = λ a w is. absurd (cc);
      links_again = λ a w seen is. absurd (cc);
    }) reply

pub links_published : LinksPublished
links_published v reply to =
    let Q : EvacStage → Reply → Type 0 = λ x reply.
    ((r : Reserved) × (reply ≡ Done) × (x ≡ StoresForward r) × (r.to ≡ to) × (is_cell r.kept ≡ true)
    × (wanted_at v.layout v.addr v.epoch v.worker x ≡ Some (publishing v r)))
    ⊎ ((head : ℕ) × (other : ℕ) × (reply ≡ Lost other) × (x ≡ TakesWeak to head) × (wanted_at v.layout v.addr v.epoch v.worker x ≡ Some (linking v to head))) in
    comes v (LoadsWeak to) tt Q (record {
      forwards = λ r plain is. absurd (cc);
      forwards_cell = λ r cell is. let same : r.to ≡ to = cc in inr (inl (r, refl, refl, same, cell, refl));
      reads_weak = λ a w is. absurd (cc);
      stores_link = λ a w is. absurd (cc);
      links = λ a w is. absurd (cc);
      links_again = λ a w seen is.
          let same : to ≡ a = cc in
          inr (subst (λ b. Q (TakesWeak b w) (Lost seen)) same (inr (w, seen, refl, refl, refl)));
    }) reply

pub clears_behind_links : ClearsBehindLinks
clears_behind_links v reply to =
    let Q : EvacStage → Reply → Type 0 = λ x reply.
    ((r : Reserved) × (reply ≡ Done) × (x ≡ StoresForward r) × (r.to ≡ to) × (is_cell r.kept ≡ false)
    × (wanted_at v.layout v.addr v.epoch v.worker x ≡ Some (publishing v r)))
    ⊎ ((head : ℕ) × (reply ≡ Won) × (x ≡ TakesWeak to head) × (wanted_at v.layout v.addr v.epoch v.worker x ≡ Some (linking v to head))) in
    comes v (Clears to) tt Q (record {
      forwards = λ r plain is. let same : r.to ≡ to = cc in inr (inl (r, refl, refl, same, plain, refl));
      forwards_cell = λ r cell is. absurd (cc);
      reads_weak = λ a w is. absurd (cc);
      stores_link = λ a w is. absurd (cc);
      links = λ a w is.
          let same : to ≡ a = cc in
          inr (subst (λ b. Q (TakesWeak b w) Won) same (inr (w, refl, refl, refl)));
      links_again = λ a w seen is. absurd (cc);
    }) reply
