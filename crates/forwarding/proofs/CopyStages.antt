-- What holds of each stage that a reply can lead to holds of the one that it leads to.
use Rattle.std.proofs.Common.{◌≡◌, ℕ, ◌+◌, Bool, true, false, Option, Some, None, refl, if◌then◌else◌, ◌==◌}
use Rattle.std.specs.Prelude.{nat_lt}
use Rattle.std.proofs.lemmas.Bool.{eqb-true}
use Rattle.atom_store.specs.declared.reply.Reply.{Reply}
use Rattle.atom_store.specs.declared.reply.Reply.TheVariants.{Value, Done, Won, Lost}
use Rattle.heap_words.specs.declared.kind.Kind.{Kind}
use Rattle.heap_words.specs.Decoded.{Decoded, HeaderWord, ForwardWord, decode}
use Rattle.space_map.specs.declared.area_word.AreaWord.{AreaWord}
use Rattle.space_map.specs.AreaWord.{decode_area}
use Rattle.space_map.specs.Spaces.{Layout, first_word}
use Rattle.forwarding.specs.declared.evac_stage.EvacStage.{EvacStage}
use Rattle.forwarding.specs.declared.evac_stage.EvacStage.TheVariants.{LoadsHeader, TakesHeader, LoadsArea, Announces, Reserves, StoresHeader, LoadsWord, StoresWord, StoresCross, StoresForward, LoadsWeak, StoresLink, TakesWeak, Clears, Ended}
use Rattle.forwarding.specs.declared.kept_header.KeptHeader.{KeptHeader}
use Rattle.forwarding.specs.declared.reserved.Reserved.{Reserved}
use Rattle.forwarding.specs.Evacuation.{is_cell, size_of}
use Rattle.forwarding.specs.Taken.{by_first_word, by_area, by_other_area, crossed, copied, first_page, published, reserved_at, stage_after}

module _ (P : EvacStage → Type 0) where
  either : (b : Bool) (x y : EvacStage) → P x → P y → P (if b then x else y)
  either true x y here there = here
  either false x y here there = there

  pub of_word : (w : ℕ) (d : Decoded)
      → ((len to : ℕ) → d ≡ ForwardWord len to → P (Ended to))
      → ((kind : Kind) (len serial mutator : ℕ) → d ≡ HeaderWord kind len serial mutator → P (TakesHeader (record { word = w; kind = kind; len = len })))
      → P LoadsHeader → P (by_first_word w d)
  of_word w (ForwardWord len to) forward header other = forward len to refl
  of_word w (HeaderWord kind len serial mutator) forward header other = header kind len serial mutator refl
  of_word w _ forward header other = other

  pub of_area : (kept : KeptHeader) (o : Option AreaWord) → ((area : AreaWord) → P (Announces kept area)) → P (LoadsArea kept) → P (by_area kept o)
  of_area kept (Some area) announces loads = announces area
  of_area kept None announces loads = loads

  same_front : (kept : KeptHeader) (other : AreaWord) (front : ℕ) (b : Bool) → (other.front == front) ≡ b
      → (other.front ≡ front → P (Reserves kept other)) → P (Announces kept other)
      → P (if b then Reserves kept other else Announces kept other)
  same_front kept other front true is reserves announces = reserves (eqb-true other.front front is)
  same_front kept other front false is reserves announces = announces

  pub of_other_area : (kept : KeptHeader) (area : AreaWord) (o : Option AreaWord)
      → ((other : AreaWord) → other.front ≡ area.front → P (Reserves kept other))
      → ((other : AreaWord) → P (Announces kept other)) → P (Reserves kept area) → P (by_other_area kept area o)
  of_other_area kept area (Some other) reserves announces stays =
      same_front kept other area.front (other.front == area.front) refl (reserves other) (announces other)
  of_other_area kept area None reserves announces stays = stays

  pub of_crossed : (r : Reserved) (page : ℕ) → P (StoresCross r page) → P (StoresForward r) → P (crossed r page)
  of_crossed r page crosses forwards = either (nat_lt (first_word page) (r.to + size_of r.kept)) (StoresCross r page) (StoresForward r) crosses forwards

  pub of_copied : (r : Reserved) (count : ℕ) → P (LoadsWord r count) → P (StoresCross r (first_page r)) → P (StoresForward r) → P (copied r count)
  of_copied r count loads crosses forwards =
      either (nat_lt count (size_of r.kept)) (LoadsWord r count) (crossed r (first_page r)) loads (of_crossed r (first_page r) crosses forwards)

  either_as : (b : Bool) (x y : EvacStage) → (b ≡ true → P x) → (b ≡ false → P y) → P (if b then x else y)
  either_as true x y here there = here refl
  either_as false x y here there = there refl

  pub of_published : (r : Reserved) → (is_cell r.kept ≡ true → P (LoadsWeak r.to)) → (is_cell r.kept ≡ false → P (Clears r.to)) → P (published r)
  of_published r links clears = either_as (is_cell r.kept) (LoadsWeak r.to) (Clears r.to) links clears

-- a stage from the won exchange of the area up to the store of the forward
abbrev pub IsBeingCopied : Reserved → EvacStage → Type 0
IsBeingCopied r (StoresHeader of) = of ≡ r
IsBeingCopied r (LoadsWord of i) = of ≡ r
IsBeingCopied r (StoresWord of w) = of ≡ r
IsBeingCopied r (StoresCross of page) = of ≡ r
IsBeingCopied r (StoresForward of) = of ≡ r
IsBeingCopied r _ = ⊥

-- what holds of each way from a stage by a reply to the next stage
pub record OfEachWay (l : Layout) (e : ℕ) (P : EvacStage → Reply → EvacStage → Type 0) : Type 0 where
  pub stays : (x : EvacStage) (reply : Reply) → P x reply x
  pub follows : (w len to : ℕ) → decode w ≡ ForwardWord len to → P LoadsHeader (Value w) (Ended to)
  pub finds : (w : ℕ) (kind : Kind) (len serial mutator : ℕ) → decode w ≡ HeaderWord kind len serial mutator
      → P LoadsHeader (Value w) (TakesHeader (record { word = w; kind = kind; len = len }))
  pub takes : (kept : KeptHeader) → P (TakesHeader kept) Won (LoadsArea kept)
  pub is_late : (kept : KeptHeader) (w : ℕ) → P (TakesHeader kept) (Lost w) LoadsHeader
  pub aims : (kept : KeptHeader) (w : ℕ) (area : AreaWord) → P (LoadsArea kept) (Value w) (Announces kept area)
  pub announces : (kept : KeptHeader) (area : AreaWord) → P (Announces kept area) Done (Reserves kept area)
  pub reserves : (kept : KeptHeader) (area : AreaWord) → P (Reserves kept area) Won (StoresHeader (reserved_at l e kept area))
  pub tries_again : (kept : KeptHeader) (area : AreaWord) (w : ℕ) (other : AreaWord) → other.front ≡ area.front
      → P (Reserves kept area) (Lost w) (Reserves kept other)
  pub aims_again : (kept : KeptHeader) (area : AreaWord) (w : ℕ) (other : AreaWord) → P (Reserves kept area) (Lost w) (Announces kept other)
  pub copies : (r : Reserved) (x : EvacStage) (reply : Reply) (z : EvacStage) → IsBeingCopied r x → IsBeingCopied r z → P x reply z
  pub forwards : (r : Reserved) → is_cell r.kept ≡ false → P (StoresForward r) Done (Clears r.to)
  pub forwards_cell : (r : Reserved) → is_cell r.kept ≡ true → P (StoresForward r) Done (LoadsWeak r.to)
  pub reads_weak : (to head : ℕ) → P (LoadsWeak to) (Value head) (StoresLink to head)
  pub stores_link : (to head : ℕ) → P (StoresLink to head) Done (TakesWeak to head)
  pub links : (to head : ℕ) → P (TakesWeak to head) Won (Clears to)
  pub links_again : (to head other : ℕ) → P (TakesWeak to head) (Lost other) (LoadsWeak to)
  pub clears : (to : ℕ) → P (Clears to) Done (Ended to)

pub of_each_way : (l : Layout) (e : ℕ) (P : EvacStage → Reply → EvacStage → Type 0) → OfEachWay l e P
    → (x : EvacStage) (reply : Reply) → P x reply (stage_after l e x reply)
of_each_way l e P each LoadsHeader (Value w) =
    of_word (P LoadsHeader (Value w)) w (decode w) (each.follows w) (each.finds w) (each.stays LoadsHeader (Value w))
of_each_way l e P each (TakesHeader kept) Won = each.takes kept
of_each_way l e P each (TakesHeader kept) (Lost w) = each.is_late kept w
of_each_way l e P each (LoadsArea kept) (Value w) =
    of_area (P (LoadsArea kept) (Value w)) kept (decode_area w) (each.aims kept w) (each.stays (LoadsArea kept) (Value w))
of_each_way l e P each (Announces kept area) Done = each.announces kept area
of_each_way l e P each (Reserves kept area) Won = each.reserves kept area
of_each_way l e P each (Reserves kept area) (Lost w) =
    of_other_area (P (Reserves kept area) (Lost w)) kept area (decode_area w)
    (each.tries_again kept area w) (each.aims_again kept area w) (each.stays (Reserves kept area) (Lost w))
of_each_way l e P each (StoresHeader r) Done =
    of_copied (P (StoresHeader r) Done) r 1 (each.copies r _ _ _ refl refl) (each.copies r _ _ _ refl refl) (each.copies r _ _ _ refl refl)
of_each_way l e P each (LoadsWord r i) (Value w) = each.copies r _ _ _ refl refl
of_each_way l e P each (StoresWord r w) Done =
    of_copied (P (StoresWord r w) Done) r (w.number + 1) (each.copies r _ _ _ refl refl) (each.copies r _ _ _ refl refl) (each.copies r _ _ _ refl refl)
of_each_way l e P each (StoresCross r page) Done =
    of_crossed (P (StoresCross r page) Done) r (page + 1) (each.copies r _ _ _ refl refl) (each.copies r _ _ _ refl refl)
of_each_way l e P each (StoresForward r) Done = of_published (P (StoresForward r) Done) r (each.forwards_cell r) (each.forwards r)
of_each_way l e P each (LoadsWeak to) (Value head) = each.reads_weak to head
of_each_way l e P each (StoresLink to head) Done = each.stores_link to head
of_each_way l e P each (TakesWeak to head) Won = each.links to head
of_each_way l e P each (TakesWeak to head) (Lost other) = each.links_again to head other
of_each_way l e P each (Clears to) Done = each.clears to
of_each_way l e P each x reply = each.stays x reply
