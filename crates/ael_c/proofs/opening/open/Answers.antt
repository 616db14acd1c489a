use Rattle.std.proofs.Common.{◌≡◌, List, length, arith, refl, sym, subst, ap, ◌∙◌}
use Rattle.std.proofs.lemmas.List.{length-map}
use Rattle.space_map.specs.Table.{whole_length}
use Rattle.gc_worker.specs.Config.{has_sizes, layout_by}
use Rattle.ael_threads.specs.Opened.{plan_without_printing}
use Rattle.ael_c.specs.declared.handle.Handle.{Handle}
use Rattle.ael_c.specs.Handles.{DealsBy, Handles, behind, config_of, handles}
use Rattle.ael_c.proofs.Openings.{counts_hold, opened, sizes_hold}
use Rattle.ael_c.proofs.opening.open.Goals as goal

pub returns-in-Ok : goal.returns-in-Ok
returns-in-Ok c =
    let ms = c.args.mutators.now in
    let ss = c.args.scanners.now in
    let later = c.all_null-else-not-all_null.new.handles in
    let also = c.all_null-else-not-all_null.ensures in
    let after : Handles = handles c.deal.new.mutators c.deal.new.scanners in
    let same : handles c.all_null.new.handles later ≡ handles ms ss = (λ i. record { mutators = c.all_null.ensures.same i; scanners = also.same i }) in
    let mutators : length ms ≡ length (behind ms) = sym (length-map ms (λ (h : Handle). h.value)) in
    let scanners : length later ≡ length (behind ss) = sym (length-map later (λ (h : Handle). h.value)) ∙ ap length also.same in
    opened c.args.pages c.args.limit c.deal.result (handles ms ss) after c.in-Ok.heap
    (counts_hold (length (behind ms)) (length (behind ss)) (let a = c.if-count-lt1.false in omega (arith, a, mutators)) (let a = c.if-count.false in omega (arith, a, mutators)) (let a = c.if-scanners.false in omega (arith, a, length-map ss (λ (h : Handle). h.value))))
    (sym c.if-not-all_null.ensures.null) (sym c.if-not-all_null-2.ensures.null)
    (sizes_hold (has_sizes (config_of c.args.pages c.args.limit (length (behind ss)))) (λ bad. let never = c.in-Ok.ensures.bad_pages.1 bad in cc))
    (c.in-Ok.ensures.key ∙ (λ i. plan_without_printing (mutators i) (config_of c.args.pages c.args.limit (scanners i))))
    (c.in-Ok.ensures.words ∙ (λ i. whole_length (layout_by (config_of c.args.pages c.args.limit (scanners i)))))
    (subst (λ (before : Handles). DealsBy c.deal.result c.in-Ok.heap before after) same c.deal.ensures)
