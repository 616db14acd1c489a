use Rattle.std.proofs.Common.{◌≡◌, ◌%◌, ◌++◌, ℕ, Some, map, subst}
use Rattle.std.specs.Prelude.{IfOk, OnOk}
use Rattle.heap_audit.specs.Firsts.{TellsFirst}
use Rattle.heap_audit.specs.Told.{dump_told}
use Rattle.heap_audit.specs.Walks.{BreaksOver, space_walked, walked}
use Rattle.heap_audit.proofs.walks.walk_now.Goals as goal

pub returns-clause-met : goal.returns-clause-met
returns-clause-met c =
    let d = dump_told c.args.heap.now in
    subst (λ (e : ℕ). OnOk c.walk_space.result (map walked c.walk_space.new.found.items ≡ map walked c.args.found.now.items ++ space_walked d (Some e) (e % 2))) c.epoch-epoch.ensures
    (subst (λ (s : ℕ). OnOk c.walk_space.result (map walked c.walk_space.new.found.items ≡ map walked c.args.found.now.items ++ space_walked d (Some c.epoch-epoch.result) s)) c.to_space-space.ensures.space c.walk_space.ensures.met)

pub returns-clause-breaks : goal.returns-clause-breaks
returns-clause-breaks c =
    let d = dump_told c.args.heap.now in
    subst (λ (e : ℕ). IfOk c.walk_space.result (TellsFirst (λ a. BreaksOver d (Some e) (e % 2) a → ⊥))) c.epoch-epoch.ensures
    (subst (λ (s : ℕ). IfOk c.walk_space.result (TellsFirst (λ a. BreaksOver d (Some c.epoch-epoch.result) s a → ⊥))) c.to_space-space.ensures.space c.walk_space.ensures.breaks)
