use Rattle.std.proofs.Common.{◌≡◌, ℕ, ◌+◌, ◌<◌, ◌≤◌, List, ◌++◌, length, drop, get_or, append_assoc, refl, ap, sym, string_bytes, ◌∙◌}
use Rattle.std.proofs.lemmas.List.{append-nil, at_drop_more, at_drop_all}
use Rattle.plain_state.specs.State.{Mutator}
use Rattle.plain_heap.specs.Print.{printed_lines, lines_seen, seen_in}
use Rattle.plain_machine.proofs.printing.print.Goals as goal

-- the lines of one mutator more
lines_more : (out now all : List ℕ) (ks : List Mutator) (m : ℕ) (k : Mutator) → m < length ks → k ≡ get_or ks m k → now ≡ out ++ printed_lines m k.printed k.end
    → out ++ lines_seen m (seen_in (drop m ks)) ≡ all → now ++ lines_seen (m + 1) (seen_in (drop (m + 1) ks)) ≡ all
lines_more out now all ks m k lt is added so_far =
    let rest = lines_seen (m + 1) (seen_in (drop (m + 1) ks)) in
    rw added (append_assoc out (printed_lines m k.printed k.end) rest
    ∙ ap (λ (k : Mutator). out ++ (printed_lines m k.printed k.end ++ rest)) is
    ∙ sym (at_drop_more (λ ks. out ++ lines_seen m (seen_in ks)) ks m k lt) ∙ so_far)

-- no mutator is left
lines_done : (out all : List ℕ) (ks : List Mutator) (m : ℕ) → length ks ≤ m → out ++ lines_seen m (seen_in (drop m ks)) ≡ all → out ≡ all
lines_done out all ks m le so_far = sym (append-nil out) ∙ sym (at_drop_all (λ ks. out ++ lines_seen m (seen_in ks)) ks m le) ∙ so_far

pub loop-m-preserved : goal.loop-m-preserved
loop-m-preserved c =
    lines_more (string_bytes c.loop-m.out) (string_bytes c.push_lines.new.out) _ c.all-mutator-items.result.now c.loop-m.m c.mutator-item.result c.loop-m-test.true c.mutator-item.is
    (rw (← c.printed.ensures, ← c.end.ensures) c.in_ok-push_lines.ensures) c.loop-m.invariant

pub loop-m-init : goal.loop-m-init
loop-m-init c = rw c.new-out.ensures.bytes refl

pub returns : goal.returns
returns c = rw (← c.all-mutator-items.ensures) (ap (λ bytes. bytes.items) c.into_bytes.ensures.value
    ∙ lines_done (string_bytes c.loop-m.out) _ c.all-mutator-items.result.now c.loop-m.m c.loop-m-test.false c.loop-m.invariant)
