use Rattle.std.proofs.Common.{◌≡◌, List, [], ◌∷◌, sym, ◌∙◌, subst}
use Rattle.gc_worker.specs.declared.stage.Stage.TheVariants.{Gone}
use Rattle.ael_threads.specs.Histories.{Each}
use Rattle.ael_threads.specs.Seats.{Seated}
use Rattle.ael_threads.proofs.Lists.Elements.{each_append, each_map}
use Rattle.thread_tests.proofs.scanning.a_scanner_ends_though_a_seat_is_not_taken.Goals as goal

pub close-words-requires-clause-mutators : goal.close-words-requires-clause-mutators
close-words-requires-clause-mutators g c =
    let t = c.open_untaken-h.result.0.table.shared.table_id in
    let left = each_map (λ (m : Seated). (m.table ≡ t) × (m.worker.stage ≡ Gone)) (λ (m : Seated). m.table ≡ t) (λ m h. h.0) c.retire.new.self.mutators.items c.retire.ensures.gone in
    let own = c.leave.ensures.table ∙ (c.make_list.ensures.table ∙ c.open_untaken-h.ensures.mutator.0) in
    subst (Each (λ (m : Seated). m.table ≡ t)) (sym {A = List Seated} c.push_reserved.ensures.items)
    (each_append (λ (m : Seated). m.table ≡ t) c.retire.new.self.mutators.items (c.leave.new.mutator ∷ []) left (own, tt))
