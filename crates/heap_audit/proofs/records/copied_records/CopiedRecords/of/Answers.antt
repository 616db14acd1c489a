use Rattle.std.proofs.Common.{◌≡◌, ◌<◌, ◌≤◌, ◌∙◌, ◌↔◌, List, map, true, false, sym, ap, subst}
use Rattle.std.specs.Prelude.{IsTrue, nat_eq}
use Rattle.std.specs.HashSet.{contains}
use Rattle.std.specs.List.{Contains}
use Rattle.space_map.specs.Spaces.{to_space}
use Rattle.heap_state.specs.Cycles.Copies.{copied_in}
use Rattle.heap_audit.specs.Copied.{IsCopyAmong}
use Rattle.heap_audit.specs.Records.{key_of}
use Rattle.heap_audit.specs.Told.{dump_told, extent_of}
use Rattle.heap_audit.specs.Walks.{walked}
use Rattle.heap_audit.specs.declared.told_heap.Extent.{Extent}
use Rattle.heap_audit.specs.declared.walks.RecordAt.{RecordAt}
use Rattle.heap_audit.proofs.ShownRecords.CopiedNames.{among_copied, copies_lie}
use Rattle.heap_audit.proofs.ShownRecords.FoundWords.{met_in_heap}
use Rattle.heap_audit.proofs.records.copied_records.CopiedRecords.of.Goals as goal
use Rattle.heap_audit.proofs.records.copied_records.CopiedRecords.of.Goals.{then-may_have_emptied+in_ok-named, else-may_have_emptied}

pub returns : goal.returns
returns c =
    let d = dump_told c.args.heap.now in
    let rs = c.args.walks.now.records.items in
    let copies : c.extent-copies.result ≡ extent_of d.table (to_space d.table.gate.epoch) =
    c.extent-copies.ensures.extent ∙ ap (extent_of d.table) (c.to_space.ensures.space ∙ ap to_space c.epoch.ensures) in
    record {
      lie = λ w there. subst (λ (e : Extent). ((e.start ≤ w.at) × (w.at < e.front)) ↔ Contains (copied_in d.table d.kept) w) (sym copies) (copies_lie d c.requires.ordered w there);
      named = λ asked i short. elim c.if-may_have_emptied.branch [
        | then-may_have_emptied+in_ok-named w ↦
            (let told : IsTrue (contains nat_eq w.in_ok-named.named (key_of i)) ↔ IsCopyAmong d (extent_of d.table (to_space d.table.gate.epoch)) (map walked rs) i =
            subst (λ (e : Extent). IsTrue (contains nat_eq w.in_ok-named.named (key_of i)) ↔ IsCopyAmong d e (map walked rs) i) copies
            (subst (λ (xs : List RecordAt). IsTrue (contains nat_eq w.in_ok-named.named (key_of i)) ↔ IsCopyAmong d c.extent-copies.result (map walked xs) i) w.as_slice.ensures.value (w.in_ok-named.ensures i short)) in
            let all = among_copied d c.requires.ordered (map walked rs) (met_in_heap d c.requires.ordered c.args.walks.now c.requires.walks) i in
            let same = ap (λ m. contains nat_eq m (key_of i)) w.named-is in
            (λ t. all.0 (told.0 (sym same ∙ t)), λ y. same ∙ told.1 (all.1 y)))
        | else-may_have_emptied w ↦ absurd (let q : true ≡ false = sym (c.may_have_emptied.ensures.1 asked) ∙ w.if-may_have_emptied.false in cc)
      ];
    }
