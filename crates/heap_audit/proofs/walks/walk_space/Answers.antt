use Rattle.std.proofs.Common.{◌∙◌, ◌++◌, ℕ, List, Option, Some, append_assoc, map, sym, ap, subst}
use Rattle.heap_state.specs.Memory.Walk.{Walked}
use Rattle.heap_audit.specs.Firsts.{TellsFirst}
use Rattle.heap_audit.specs.Told.{dump_told, extent_of}
use Rattle.heap_audit.specs.Walks.{BreaksOver, break_on, space_walked, walk_on, walked}
use Rattle.heap_audit.specs.declared.walks.stretch.Stretch.TheVariants.{Copies, New}
use Rattle.heap_audit.specs.declared.told_heap.Extent.{Extent}
use Rattle.heap_audit.proofs.WalkedSpaces.SpaceWalks.{breaks_none, breaks_some, walked_none}
use Rattle.heap_audit.proofs.walks.walk_space.Goals as goal

pub returns-in_default-clause-met : goal.returns-in_default-clause-met
returns-in_default-clause-met c =
    let d = dump_told c.args.heap.now in
    let old : List Walked = map walked c.args.found.now.items in
    c.in_ok-below.ensures.met
    ∙ (ap (λ (e : Extent). old ++ walk_on d Copies e.start e.front) c.extent-extent.ensures.extent
    ∙ (ap (λ (ws : List Walked). old ++ ws) (sym (walked_none d c.args.space)) ∙ ap (λ (o : Option ℕ). old ++ space_walked d o c.args.space) (sym c.in_default.is)))

pub returns-in_default-clause-breaks : goal.returns-in_default-clause-breaks
returns-in_default-clause-breaks c =
    let d = dump_told c.args.heap.now in
    subst (λ (o : Option ℕ). TellsFirst (λ a. BreaksOver d o c.args.space a → ⊥) c.in_ok-below.below) (sym c.in_default.is)
    (breaks_none d c.args.space c.in_ok-below.below (c.in_ok-below.ensures.breaks ∙ ap (λ (e : Extent). break_on d Copies e.start e.front) c.extent-extent.ensures.extent))

pub returns-clause-met : goal.returns-clause-met
returns-clause-met c =
    let d = dump_told c.args.heap.now in
    let old : List Walked = map walked c.args.found.now.items in
    let k = c.in-Some.epoch in
    let low = c.in_ok-below.ensures.met ∙ ap (λ (e : Extent). old ++ walk_on d Copies e.start e.front) c.extent-extent.ensures.extent in
    let high = c.in_ok-above.ensures.met ∙ ap (λ (e : Extent). map walked c.walk_stretch.new.found.items ++ walk_on d (New k) e.low e.end) c.extent-extent.ensures.extent in
    high
    ∙ (ap (λ (ws : List Walked). ws ++ walk_on d (New k) (extent_of d.table c.args.space).low (extent_of d.table c.args.space).end) low
    ∙ (append_assoc old (walk_on d Copies (extent_of d.table c.args.space).start (extent_of d.table c.args.space).front) (walk_on d (New k) (extent_of d.table c.args.space).low (extent_of d.table c.args.space).end)
    ∙ ap (λ (o : Option ℕ). old ++ space_walked d o c.args.space) (sym c.in-Some.is)))

pub returns-clause-breaks : goal.returns-clause-breaks
returns-clause-breaks c =
    let d = dump_told c.args.heap.now in
    let k = c.in-Some.epoch in
    subst (λ (o : Option ℕ). TellsFirst (λ a. BreaksOver d o c.args.space a → ⊥) c.least.result) (sym c.in-Some.is)
    (subst (λ (z : Option ℕ). TellsFirst (λ a. BreaksOver d (Some k) c.args.space a → ⊥) z) (sym c.least.ensures)
    (breaks_some d c.args.space k c.in_ok-below.below c.in_ok-above.above
    (c.in_ok-below.ensures.breaks ∙ ap (λ (e : Extent). break_on d Copies e.start e.front) c.extent-extent.ensures.extent)
    (c.in_ok-above.ensures.breaks ∙ ap (λ (e : Extent). break_on d (New k) e.low e.end) c.extent-extent.ensures.extent)))
