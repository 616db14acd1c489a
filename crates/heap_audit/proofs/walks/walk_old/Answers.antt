use Rattle.std.proofs.Common.{◌≡◌, ◌∙◌, ◌++◌, ◌-◌, ℕ, List, Option, ap, arith, map, subst}
use Rattle.std.specs.Prelude.{IfOk, OnOk}
use Rattle.heap_state.specs.Memory.Era.{from_space}
use Rattle.heap_state.specs.Memory.Walk.{Walked}
use Rattle.heap_audit.specs.Firsts.{TellsFirst}
use Rattle.heap_audit.specs.Told.{dump_told}
use Rattle.heap_audit.specs.Breaks.{BreaksOld}
use Rattle.heap_audit.specs.Walks.{BreaksOver, epoch_before, space_walked, walked}
use Rattle.heap_audit.proofs.WalkedSpaces.SpaceWalks.{first_old, ok_with, walked_old}
use Rattle.heap_audit.proofs.walks.walk_old.Goals as goal

pub returns-clause-met : goal.returns-clause-met
returns-clause-met c =
    let d = dump_told c.args.heap.now in
    let space : 1 - c.to_space-space.result ≡ from_space d.table.gate.epoch = omega (arith, c.to_space-space.ensures.space, c.epoch-epoch.ensures) in
    let before : c.epoch_before.result ≡ epoch_before d.table.gate.epoch = c.epoch_before.ensures ∙ ap epoch_before c.epoch-epoch.ensures in
    subst (λ (ws : List Walked). OnOk c.walk_space.result (map walked c.walk_space.new.found.items ≡ map walked c.args.found.now.items ++ ws)) (walked_old d)
    (subst (λ (s : ℕ). OnOk c.walk_space.result (map walked c.walk_space.new.found.items ≡ map walked c.args.found.now.items ++ space_walked d (epoch_before d.table.gate.epoch) s)) space
    (subst (λ (o : Option ℕ). OnOk c.walk_space.result (map walked c.walk_space.new.found.items ≡ map walked c.args.found.now.items ++ space_walked d o (1 - c.to_space-space.result))) before c.walk_space.ensures.met))

pub returns-clause-breaks : goal.returns-clause-breaks
returns-clause-breaks c =
    let d = dump_told c.args.heap.now in
    let space : 1 - c.to_space-space.result ≡ from_space d.table.gate.epoch = omega (arith, c.to_space-space.ensures.space, c.epoch-epoch.ensures) in
    let before : c.epoch_before.result ≡ epoch_before d.table.gate.epoch = c.epoch_before.ensures ∙ ap epoch_before c.epoch-epoch.ensures in
    ok_with c.walk_space.result (TellsFirst (λ a. BreaksOver d (epoch_before d.table.gate.epoch) (from_space d.table.gate.epoch) a → ⊥)) (TellsFirst (λ a. BreaksOld d a → ⊥)) (first_old d)
    (subst (λ (s : ℕ). IfOk c.walk_space.result (TellsFirst (λ a. BreaksOver d (epoch_before d.table.gate.epoch) s a → ⊥))) space
    (subst (λ (o : Option ℕ). IfOk c.walk_space.result (TellsFirst (λ a. BreaksOver d o (1 - c.to_space-space.result) a → ⊥))) before c.walk_space.ensures.breaks))
