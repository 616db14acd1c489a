-- A reply that takes the copy of a record on leaves it less to do.
use Rattle.std.proofs.Common.{◌≡◌, ℕ, ◌+◌, ◌-◌, ◌*◌, ◌<◌, ◌≤◌, ◌||◌, Bool, true, false, cond, Option, Some, None, is_some, nat_lt, refl, arith, ltb-true}
use Rattle.atom_store.specs.declared.reply.Reply.{Reply}
use Rattle.atom_store.specs.declared.reply.Reply.TheVariants.{Value, Done, Won}
use Rattle.heap_words.specs.Decoded.{Decoded, HeaderWord, ForwardWord, decode}
use Rattle.heap_words.specs.FirstWords.{is_header, is_forward}
use Rattle.space_map.specs.declared.area_word.AreaWord.{AreaWord}
use Rattle.space_map.specs.AreaWord.{decode_area}
use Rattle.space_map.specs.Spaces.{first_word}
use Rattle.forwarding.specs.declared.evac_stage.EvacStage.{EvacStage}
use Rattle.forwarding.specs.declared.evac_stage.EvacStage.TheVariants.{LoadsHeader, TakesHeader, LoadsArea, Announces, Reserves, StoresHeader, LoadsWord, StoresWord, StoresCross, StoresForward, LoadsWeak, StoresLink, TakesWeak, Clears}
use Rattle.forwarding.specs.declared.kept_header.KeptHeader.{KeptHeader}
use Rattle.forwarding.specs.declared.reserved.Reserved.{Reserved}
use Rattle.forwarding.specs.Evacuation.{Evacuation, is_cell, size_of}
use Rattle.forwarding.specs.Left.{advances, left_at, steps_of_longest, steps_to_link}
use Rattle.forwarding.specs.Soundness.{FitsStage}
use Rattle.forwarding.specs.Taken.{by_area, by_first_word, copied, crossed, first_page, published, stage_after}
use Rattle.gc_worker.proofs.Stages.Copies.Publishing.{cell_of}

by_word : (word : ℕ) (d : Decoded) → is_header d || is_forward d ≡ true → left_at (by_first_word word d) < steps_of_longest + 5
by_word word (HeaderWord kind len serial mutator) t = omega arith
by_word word (ForwardWord len to) t = omega arith
by_word word _ t = absurd (cc)

by_front : (kept : KeptHeader) (o : Option AreaWord) → is_some o ≡ true → left_at (by_area kept o) < steps_of_longest + 3
by_front kept (Some area) t = omega arith
by_front kept None t = absurd (cc)

-- where so much of the record is still to be crossed, or more, so much is left
crossed-lt : (r : Reserved) (page most : ℕ) → r.to + size_of r.kept - first_word page < most → left_at (crossed r page) < most + steps_to_link r.kept + 2
crossed-lt r page most fewer = by_test (nat_lt (first_word page) (r.to + size_of r.kept)) refl
  where
    by_test : (b : Bool) → nat_lt (first_word page) (r.to + size_of r.kept) ≡ b → left_at (cond b (StoresCross r page) (StoresForward r)) < most + steps_to_link r.kept + 2
    by_test true e = omega (arith, fewer)
    by_test false e = omega (arith, fewer)

copied-lt : (r : Reserved) (count : ℕ) → 0 < count → count ≤ size_of r.kept → left_at (copied r count) < 2 * (size_of r.kept - (count - 1)) + size_of r.kept + steps_to_link r.kept + 1
copied-lt r count some few = by_test (nat_lt count (size_of r.kept)) refl
  where
    by_test : (b : Bool) → nat_lt count (size_of r.kept) ≡ b → left_at (cond b (LoadsWord r count) (crossed r (first_page r))) < 2 * (size_of r.kept - (count - 1)) + size_of r.kept + steps_to_link r.kept + 1
    by_test true e = let l = ltb-true count (size_of r.kept) e in omega (arith, l, some)
    by_test false e =
        let c = crossed-lt r (first_page r) (size_of r.kept + 1) (omega arith) in omega (arith, c, some, few)

-- a cell, which is linked in three steps, is no longest record
within : (kept : KeptHeader) → kept.len ≤ 4095 → 3 * size_of kept + steps_to_link kept + 1 < steps_of_longest + 1
within kept short = by_kind (is_cell kept) refl
  where
    by_kind : (b : Bool) → is_cell kept ≡ b → 3 * size_of kept + cond b 3 0 + 1 < steps_of_longest + 1
    by_kind true cell = let long = (cell_of kept.kind kept.len cell).1 in omega (arith, long)
    by_kind false other = omega (arith, short)

linked-lt : (r : Reserved) → left_at (published r) < steps_to_link r.kept + 2
linked-lt r = by_kind (is_cell r.kept)
  where
    by_kind : (b : Bool) → left_at (cond b (LoadsWeak r.to) (Clears r.to)) < cond b 3 0 + 2
    by_kind true = omega arith
    by_kind false = omega arith

pub copies_lower : (v : Evacuation) (stage : EvacStage) (r : Reply) → FitsStage v.layout.pages v.addr stage → advances stage r ≡ true
    → left_at (stage_after v.layout v.epoch stage r) < left_at stage
copies_lower v LoadsHeader (Value word) fits t = by_word word (decode word) t
copies_lower v (LoadsArea kept) (Value word) fits t = by_front kept (decode_area word) t
copies_lower v (Reserves kept area) Won fits t = within kept fits.0.short
copies_lower v (StoresHeader r) Done fits t = let c = copied-lt r 1 (omega arith) (omega arith) in omega (arith, c)
copies_lower v (StoresWord r w) Done fits t = let few = fits.2 in let c = copied-lt r (w.number + 1) (omega arith) (omega (arith, few)) in omega (arith, c)
copies_lower v (StoresCross r page) Done fits t = let reaches = fits.2 in crossed-lt r (page + 1) (r.to + size_of r.kept - first_word page) (omega (arith, reaches))
copies_lower v (StoresForward r) Done fits t = linked-lt r
copies_lower v stage (Value word) fits t = first_of (omega arith, cc)
copies_lower v stage Done fits t = first_of (omega arith, cc)
copies_lower v stage Won fits t = first_of (omega arith, cc)
copies_lower v stage r fits t = cc
