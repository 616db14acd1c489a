use Rattle.std.proofs.Common.{◌≤◌, ◌<◌, ◌+◌, ℕ, ◌∷◌, ◌++◌, [], length, arith, sym, ◌∙◌, ap, subst}
use Rattle.std.proofs.lemmas.List.{take_all, take_more}
use Rattle.ael_threads.proofs.Lists.Reads.{get_of}
use Rattle.ael_threads.proofs.words.Words.to_vec.Goals as goal

pub push_reserved-requires : goal.push_reserved-requires
push_reserved-requires c =
    let count = c.loop-place.invariant.count in
    let more = c.loop-place-test.true in
    let room = c.loop-place.invariant.room in
    let all = c.len-place-end.ensures in
    omega (arith, count, more, room, all)

pub loop-place-preserved : goal.loop-place-preserved
loop-place-preserved c =
    let all = c.args.self.now in
    let place = c.loop-place.place in
    let below : place < length all = subst (λ (n : ℕ). place < n) c.len-place-end.ensures c.loop-place-test.true in
    let read = get_of all place c.word.result 0 c.word.ensures in record {
      made = c.push_reserved.ensures.items ∙ ((λ i. c.loop-place.invariant.made i ++ sym read i ∷ []) ∙ sym (take_more all place 0 below));
      count = c.push_reserved.ensures.len ∙ ap (λ (n : ℕ). n + 1) c.loop-place.invariant.count;
      room = subst (λ (n : ℕ). length all ≤ n) (sym c.push_reserved.ensures.capacity) c.loop-place.invariant.room;
    }

pub returns : goal.returns
returns c =
    let all = c.args.self.now in
    c.loop-place.invariant.made ∙ take_all c.loop-place.place all (subst (λ (n : ℕ). n ≤ c.loop-place.place) c.len-place-end.ensures c.loop-place-test.false)
