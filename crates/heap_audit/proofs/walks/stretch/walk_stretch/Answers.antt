use Rattle.std.proofs.Common.{◌≡◌, ◌∙◌, ◌+◌, ◌-◌, ◌++◌, [], List, Some, None, map, sym, ap, arith}
use Rattle.std.proofs.lemmas.List.{append-nil}
use Rattle.heap_words.specs.Decoded.{decode}
use Rattle.heap_state.specs.Memory.Walk.{Walked, met_word}
use Rattle.crossing_map.specs.FirstWord.{size_met}
use Rattle.crossing_map.specs.declared.walked.Walked.TheVariants as next
use Rattle.crossing_map.proofs.WalkedParts.{is_broken, is_first, walk-end}
use Rattle.heap_audit.specs.Told.{dump_told}
use Rattle.heap_audit.specs.Walks.{passes_on, reserved_on, walk_on, walked}
use Rattle.heap_audit.specs.declared.walks.RecordAt.{RecordAt}
use Rattle.heap_audit.proofs.WalkedSpaces.Breaks.{breaks_next, unbroken_end}
use Rattle.heap_audit.proofs.WalkedSpaces.StretchWalks.{found_more, record_has_words, records_at, walk_broken, walk_ended}
use Rattle.heap_audit.proofs.walks.stretch.walk_stretch.Goals as goal

pub overflow_add-at : goal.overflow_add-at
overflow_add-at c =
    let d = dump_told c.args.heap.now in
    let passes = passes_on d.table c.args.stretch in
    let reserved = reserved_on d.kept c.args.stretch in
    let heap = d.table.heap in
    let end = c.args.end in
    let at = c.loop-at.at in
    let is = sym c.next.ensures ∙ c.in-Record.is in
    let first = is_first passes reserved heap end at c.in-Record.place c.in-Record.size is in
    omega (arith, first.3, c.ranges.end.fits)

pub loop-at-smaller : goal.loop-at-smaller
loop-at-smaller c =
    let d = dump_told c.args.heap.now in
    let passes = passes_on d.table c.args.stretch in
    let reserved = reserved_on d.kept c.args.stretch in
    let heap = d.table.heap in
    let end = c.args.end in
    let at = c.loop-at.at in
    let is = sym c.next.ensures ∙ c.in-Record.is in
    let first = is_first passes reserved heap end at c.in-Record.place c.in-Record.size is in
    let some = record_has_words passes reserved heap end at c.in-Record.place c.in-Record.size is in
    omega (arith, first.1, first.3, some, c.loop-at-test.true)

pub loop-at-preserved : goal.loop-at-preserved
loop-at-preserved c =
    let d = dump_told c.args.heap.now in
    let passes = passes_on d.table c.args.stretch in
    let reserved = reserved_on d.kept c.args.stretch in
    let heap = d.table.heap in
    let end = c.args.end in
    let at = c.loop-at.at in
    let is = sym c.next.ensures ∙ c.in-Record.is in
    let first = is_first passes reserved heap end at c.in-Record.place c.in-Record.size is in
    let r : RecordAt = record { at = c.in-Record.place; size = c.in-Record.size } in
    let behind = walk_on d c.args.stretch (c.in-Record.place + c.in-Record.size) end in (
      ap (λ (rs : List RecordAt). map walked rs ++ behind) c.in_ok-push-in-Record.ensures.items
          ∙ (found_more c.loop-at.found.items r behind ∙ (ap (λ (ws : List Walked). map walked c.loop-at.found.items ++ ws) (sym first.0) ∙ c.loop-at.invariant.0)),
      sym (breaks_next passes reserved heap end at (next.Record c.in-Record.place c.in-Record.size) is) ∙ c.loop-at.invariant.1,
      first.3,
    )

pub returns-in-Ended-clause-met : goal.returns-in-Ended-clause-met
returns-in-Ended-clause-met c =
    let d = dump_told c.args.heap.now in
    let passes = passes_on d.table c.args.stretch in
    let reserved = reserved_on d.kept c.args.stretch in
    let heap = d.table.heap in
    let end = c.args.end in
    let at = c.loop-at.at in
    let is = sym c.next.ensures ∙ c.in-Ended.is in
    sym (append-nil (map walked c.loop-at.found.items)) ∙ (ap (λ (ws : List Walked). map walked c.loop-at.found.items ++ ws) (sym (walk_ended passes reserved heap end at is)) ∙ c.loop-at.invariant.0)

pub returns-in-Ended-clause-breaks : goal.returns-in-Ended-clause-breaks
returns-in-Ended-clause-breaks c =
    let d = dump_told c.args.heap.now in
    let passes = passes_on d.table c.args.stretch in
    let reserved = reserved_on d.kept c.args.stretch in
    let heap = d.table.heap in
    let end = c.args.end in
    let at = c.loop-at.at in
    let is = sym c.next.ensures ∙ c.in-Ended.is in
    sym (breaks_next passes reserved heap end at next.Ended is) ∙ c.loop-at.invariant.1

pub returns-in_ok-push-in-Broken-clause-met : goal.returns-in_ok-push-in-Broken-clause-met
returns-in_ok-push-in-Broken-clause-met c =
    let d = dump_told c.args.heap.now in
    let passes = passes_on d.table c.args.stretch in
    let reserved = reserved_on d.kept c.args.stretch in
    let heap = d.table.heap in
    let end = c.args.end in
    let at = c.loop-at.at in
    let is = sym c.next.ensures ∙ c.in-Broken.is in
    let r : RecordAt = record { at = c.in-Broken.place; size = c.in-Some.size } in
    let size : size_met (met_word (decode (heap c.in-Broken.place))) ≡ Some c.in-Some.size =
    ap (λ w. size_met (met_word (decode w))) (sym c.word.ensures) ∙ (sym c.record_size.ensures.met ∙ c.in-Some.is) in
    let rest = walk_broken passes reserved heap end at c.in-Broken.place is ∙ ap (records_at c.in-Broken.place) size in
    ap (map walked) c.in_ok-push-in-Broken.ensures.items
    ∙ (sym (append-nil _) ∙ (found_more c.loop-at.found.items r [] ∙ (ap (λ (ws : List Walked). map walked c.loop-at.found.items ++ ws) (sym rest) ∙ c.loop-at.invariant.0)))

pub returns-in_ok-push-in-Broken-clause-within : goal.returns-in_ok-push-in-Broken-clause-within
returns-in_ok-push-in-Broken-clause-within c =
    let d = dump_told c.args.heap.now in
    let passes = passes_on d.table c.args.stretch in
    let reserved = reserved_on d.kept c.args.stretch in
    let heap = d.table.heap in
    let end = c.args.end in
    let at = c.loop-at.at in
    let is = sym c.next.ensures ∙ c.in-Broken.is in
    (is_broken passes reserved heap end at c.in-Broken.place is).1

pub returns-in_ok-push-in-Broken-clause-breaks : goal.returns-in_ok-push-in-Broken-clause-breaks
returns-in_ok-push-in-Broken-clause-breaks c =
    let d = dump_told c.args.heap.now in
    let passes = passes_on d.table c.args.stretch in
    let reserved = reserved_on d.kept c.args.stretch in
    let heap = d.table.heap in
    let end = c.args.end in
    let at = c.loop-at.at in
    let is = sym c.next.ensures ∙ c.in-Broken.is in
    sym (breaks_next passes reserved heap end at (next.Broken c.in-Broken.place) is) ∙ c.loop-at.invariant.1

pub returns-in_default-clause-met : goal.returns-in_default-clause-met
returns-in_default-clause-met c =
    let d = dump_told c.args.heap.now in
    let passes = passes_on d.table c.args.stretch in
    let reserved = reserved_on d.kept c.args.stretch in
    let heap = d.table.heap in
    let end = c.args.end in
    let at = c.loop-at.at in
    let is = sym c.next.ensures ∙ c.in-Broken.is in
    let size : size_met (met_word (decode (heap c.in-Broken.place))) ≡ None =
    ap (λ w. size_met (met_word (decode w))) (sym c.word.ensures) ∙ (sym c.record_size.ensures.met ∙ c.in_default.is) in
    let rest = walk_broken passes reserved heap end at c.in-Broken.place is ∙ ap (records_at c.in-Broken.place) size in
    sym (append-nil (map walked c.loop-at.found.items)) ∙ (ap (λ (ws : List Walked). map walked c.loop-at.found.items ++ ws) (sym rest) ∙ c.loop-at.invariant.0)

pub returns-in_default-clause-within : goal.returns-in_default-clause-within
returns-in_default-clause-within c =
    let d = dump_told c.args.heap.now in
    let passes = passes_on d.table c.args.stretch in
    let reserved = reserved_on d.kept c.args.stretch in
    let heap = d.table.heap in
    let end = c.args.end in
    let at = c.loop-at.at in
    let is = sym c.next.ensures ∙ c.in-Broken.is in
    (is_broken passes reserved heap end at c.in-Broken.place is).1

pub returns-in_default-clause-breaks : goal.returns-in_default-clause-breaks
returns-in_default-clause-breaks c =
    let d = dump_told c.args.heap.now in
    let passes = passes_on d.table c.args.stretch in
    let reserved = reserved_on d.kept c.args.stretch in
    let heap = d.table.heap in
    let end = c.args.end in
    let at = c.loop-at.at in
    let is = sym c.next.ensures ∙ c.in-Broken.is in
    sym (breaks_next passes reserved heap end at (next.Broken c.in-Broken.place) is) ∙ c.loop-at.invariant.1

pub returns-clause-met : goal.returns-clause-met
returns-clause-met c =
    let d = dump_told c.args.heap.now in
    let passes = passes_on d.table c.args.stretch in
    let reserved = reserved_on d.kept c.args.stretch in
    let heap = d.table.heap in
    let end = c.args.end in
    let at = c.loop-at.at in
    sym (append-nil (map walked c.loop-at.found.items)) ∙ (ap (λ (ws : List Walked). map walked c.loop-at.found.items ++ ws) (sym (walk-end passes reserved heap end at c.loop-at-test.false)) ∙ c.loop-at.invariant.0)

pub returns-clause-breaks : goal.returns-clause-breaks
returns-clause-breaks c =
    let d = dump_told c.args.heap.now in
    let passes = passes_on d.table c.args.stretch in
    let reserved = reserved_on d.kept c.args.stretch in
    let heap = d.table.heap in
    let end = c.args.end in
    let at = c.loop-at.at in
    sym (unbroken_end passes reserved heap end (end - at) at c.loop-at-test.false) ∙ c.loop-at.invariant.1
