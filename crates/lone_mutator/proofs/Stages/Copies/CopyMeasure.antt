-- What a copy has left goes down with each step from its first store on.
use Rattle.std.proofs.Common.{◌≡◌, ℕ, ◌+◌, ◌-◌, ◌*◌, ◌≤◌, true, nat_lt, refl, arith}
use Rattle.std.proofs.lemmas.Bool.{cond_both}
use Rattle.space_map.specs.Spaces.{first_word}
use Rattle.forwarding.specs.declared.reserved.Reserved.{Reserved}
use Rattle.forwarding.specs.declared.evac_stage.EvacStage.{EvacStage}
use Rattle.forwarding.specs.declared.evac_stage.EvacStage.TheVariants.{LoadsWord, StoresCross, StoresForward}
use Rattle.forwarding.specs.Evacuation.{size_of}
use Rattle.forwarding.specs.Left.{steps_to_link}
use Rattle.forwarding.specs.Taken.{copied, crossed, first_page}
use Rattle.forwarding.specs.Evacuation.{Evacuation}
use Rattle.heap_state.specs.Memory.Table.{Table}
use Rattle.lone_mutator.specs.Copies.{CopyStands, copy_left}
use Rattle.lone_mutator.specs.Lone.{is_announced}

pub crossed-le : (r : Reserved) (page : ℕ) → copy_left (crossed r page) ≤ r.to + size_of r.kept - first_word page + steps_to_link r.kept + 2
crossed-le r page =
    cond_both (nat_lt (first_word page) (r.to + size_of r.kept)) (StoresCross r page) (StoresForward r) (λ (z : EvacStage). copy_left z ≤ r.to + size_of r.kept - first_word page + steps_to_link r.kept + 2)
    (λ _. omega arith) (λ _. omega arith)

pub copied-le : (r : Reserved) (count : ℕ) → copy_left (copied r count) ≤ 2 * (size_of r.kept - count) + size_of r.kept + steps_to_link r.kept + 2
copied-le r count =
    cond_both (nat_lt count (size_of r.kept)) (LoadsWord r count) (crossed r (first_page r)) (λ (z : EvacStage). copy_left z ≤ 2 * (size_of r.kept - count) + size_of r.kept + steps_to_link r.kept + 2)
    (λ _. omega arith) (λ _. let rest = crossed-le r (first_page r) in omega (arith, rest))

-- ---- what is so of the copy then

pub crossed-announced : (r : Reserved) (page : ℕ) → is_announced (crossed r page) ≡ true
crossed-announced r page =
    cond_both (nat_lt (first_word page) (r.to + size_of r.kept)) (StoresCross r page) (StoresForward r) (λ (z : EvacStage). is_announced z ≡ true) (λ _. refl) (λ _. refl)

pub copied-announced : (r : Reserved) (count : ℕ) → is_announced (copied r count) ≡ true
copied-announced r count =
    cond_both (nat_lt count (size_of r.kept)) (LoadsWord r count) (crossed r (first_page r)) (λ (z : EvacStage). is_announced z ≡ true) (λ _. refl)
    (λ _. crossed-announced r (first_page r))

pub crossed-stands : (t : Table) (v : Evacuation) (r : Reserved) (page : ℕ) → CopyStands t v (crossed r page)
crossed-stands t v r page =
    cond_both (nat_lt (first_word page) (r.to + size_of r.kept)) (StoresCross r page) (StoresForward r) (λ (z : EvacStage). CopyStands t v z) (λ _. tt) (λ _. tt)

pub copied-stands : (t : Table) (v : Evacuation) (r : Reserved) (count : ℕ) → CopyStands t v (copied r count)
copied-stands t v r count =
    cond_both (nat_lt count (size_of r.kept)) (LoadsWord r count) (crossed r (first_page r)) (λ (z : EvacStage). CopyStands t v z) (λ _. tt)
    (λ _. crossed-stands t v r (first_page r))
