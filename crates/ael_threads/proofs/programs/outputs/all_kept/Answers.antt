use Rattle.std.proofs.Common.{◌≡◌, ◌+◌, ◌<◌, ◌≤◌, ◌++◌, ℕ, [], arith, sym, ◌∙◌, ap, subst, map, vec_len}
use Rattle.std.proofs.lemmas.List.{append-nil, map-append}
use Rattle.std.proofs.lemmas.Simd.{map-map}
use Rattle.ael_threads.specs.Runs.Outputs.{seat_kept}
use Rattle.ael_threads.specs.Readers.{SeatedScanner, seated}
use Rattle.ael_threads.proofs.Lists.Elements.{made_all, made_more}
use Rattle.ael_threads.proofs.programs.outputs.all_kept.Goals as goal

abbrev kept_of : SeatedScanner → ℕ × ℕ
kept_of s = seat_kept s.seated

-- there is room for a mutator's, and for a scanner's
room : (made i n m cap : ℕ) → made ≡ i → i < n → n + m ≤ cap → made < cap
room made i n m cap is more fits = omega (arith, is, more, fits)

room_after : (made i n m cap : ℕ) → made ≡ n + i → i < m → n + m ≤ cap → made < cap
room_after made i n m cap is more fits = omega (arith, is, more, fits)

-- how many there are after the last mutator, and after one scanner more
all_made : (made i many n : ℕ) → made ≡ i → many ≤ i → i ≤ many → many ≡ n → made ≡ n + 0
all_made made i many n is past upto same = omega (arith, is, past, upto, same)

one_made : (made n i : ℕ) → made ≡ n + i → made + 1 ≡ n + (i + 1)
one_made made n i is = omega (arith, is)

pub push_reserved-requires : goal.push_reserved-requires
push_reserved-requires c =
    let i = c.loop-mutator.mutator-index in
    room _ i _ (vec_len c.args.seats.now.scanners) _ c.loop-mutator.invariant.count (subst (λ (n : ℕ). i < n) c.deref-mutator-items.ensures.len c.loop-mutator-test.true) c.loop-mutator.invariant.room

pub loop-mutator-preserved : goal.loop-mutator-preserved
loop-mutator-preserved c = let cap = vec_len c.args.seats.now.mutators + vec_len c.args.seats.now.scanners in record {
  made = made_more seat_kept [] c.args.seats.now.mutators.items c.deref-mutator-items.result.now c.deref-mutator-items.ensures.value c.loop-mutator.mutator-index c.mutator-item.result c.kept.result _ _ c.loop-mutator-test.true c.mutator-item.is
      (λ i. (c.kept.ensures.header i, c.kept.ensures.place i)) c.loop-mutator.invariant.made c.push_reserved.ensures.items;
  count = c.push_reserved.ensures.len ∙ ap (λ (n : ℕ). n + 1) c.loop-mutator.invariant.count;
  room = subst (λ (n : ℕ). cap ≤ n) (sym c.push_reserved.ensures.capacity) c.loop-mutator.invariant.room;
}

pub loop-scanner-init : goal.loop-scanner-init
loop-scanner-init c = let ms = c.args.seats.now.mutators in record {
  made = made_all seat_kept [] ms.items c.deref-mutator-items.result.now c.deref-mutator-items.ensures.value c.loop-mutator.mutator-index _ c.loop-mutator-test.false c.loop-mutator.invariant.made ∙ sym (append-nil (map seat_kept ms.items));
  count = all_made _ c.loop-mutator.mutator-index _ _ c.loop-mutator.invariant.count c.loop-mutator-test.false c.loop-mutator.auto.mutator-index-end c.deref-mutator-items.ensures.len;
  room = c.loop-mutator.invariant.room;
}

pub push_reserved-requires-in-loop-scanner : goal.push_reserved-requires-in-loop-scanner
push_reserved-requires-in-loop-scanner c =
    let i = c.loop-scanner.scanner-index in
    room_after _ i (vec_len c.args.seats.now.mutators) _ _ c.loop-scanner.invariant.count (subst (λ (n : ℕ). i < n) c.deref-scanner-items.ensures.len c.loop-scanner-test.true) c.loop-scanner.invariant.room

pub loop-scanner-preserved : goal.loop-scanner-preserved
loop-scanner-preserved c = let cap = vec_len c.args.seats.now.mutators + vec_len c.args.seats.now.scanners in record {
  made = made_more kept_of (map seat_kept c.args.seats.now.mutators.items) c.args.seats.now.scanners.items c.deref-scanner-items.result.now c.deref-scanner-items.ensures.value c.loop-scanner.scanner-index c.scanner-item.result c.kept-in-loop-scanner.result _ _
      c.loop-scanner-test.true c.scanner-item.is (λ i. (c.kept-in-loop-scanner.ensures.header i, c.kept-in-loop-scanner.ensures.place i)) c.loop-scanner.invariant.made c.push_reserved-in-loop-scanner.ensures.items;
  count = c.push_reserved-in-loop-scanner.ensures.len ∙ one_made _ (vec_len c.args.seats.now.mutators) c.loop-scanner.scanner-index c.loop-scanner.invariant.count;
  room = subst (λ (n : ℕ). cap ≤ n) (sym c.push_reserved-in-loop-scanner.ensures.capacity) c.loop-scanner.invariant.room;
}

pub returns : goal.returns
returns c =
    let ms = c.args.seats.now.mutators.items in
    let ss = c.args.seats.now.scanners.items in
    made_all kept_of (map seat_kept ms) ss c.deref-scanner-items.result.now c.deref-scanner-items.ensures.value c.loop-scanner.scanner-index _ c.loop-scanner-test.false c.loop-scanner.invariant.made
    ∙ sym (map-append seat_kept ms (map seated ss) ∙ ap (λ (z : _). map seat_kept ms ++ z) (map-map _ _ _))
