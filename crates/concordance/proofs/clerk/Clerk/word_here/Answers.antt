use Rattle.std.proofs.Common.{◌≢◌, ℕ, ◌+◌, ◌<◌, ◌≤◌, ◌∙◌, length, slice_index_or, ap, arith, subst}
use Rattle.concordance.proofs.Gathered.NotedPlaces.{read_on}
use Rattle.concordance.proofs.Gathered.Walks.{all_letters_taken, letter_fits, letter_read, letter_taken, letters_kept, letters_more}
use Rattle.concordance.proofs.clerk.Clerk.word_here.Goals as goal

other_than_here : ◌≢◌ {A = ℕ} 2 7
other_than_here e = omega (arith, e)

other_than_letters : ◌≢◌ {A = ℕ} 4 7
other_than_letters e = omega (arith, e)

pub number_in-requires-clause-number : goal.number_in-requires-clause-number
number_in-requires-clause-number g c =
    let led = c.requires.leads in
    let place = c.loop-place.place in
    let within : place < length led.note.word = subst (λ (n : ℕ). place < n) (c.loop-place.invariant.count led) c.loop-place-test.true in (
      slice_index_or led.note.word place 0,
      letter_taken c.loop-place.self c.gets-in-loop-place.new.self 4 7 led.clerk place led.note.word (c.loop-place.invariant.letters led) within c.gets-in-loop-place.ensures,
    )

pub overflow_cast-number_in : goal.overflow_cast-number_in
overflow_cast-number_in g c =
    let led = c.requires.leads in
    let place = c.loop-place.place in
    let within : place < length led.note.word = subst (λ (n : ℕ). place < n) (c.loop-place.invariant.count led) c.loop-place-test.true in
    let fits = letter_fits led.note.word place c.number_in.result led.small.letters
    (letter_read c.loop-place.self c.gets-in-loop-place.new.self 4 7 led.clerk place c.number_in.result led.note.word (c.loop-place.invariant.letters led) within c.gets-in-loop-place.ensures c.number_in.ensures) in
    omega (arith, fits)

pub loop-place-preserved : goal.loop-place-preserved
loop-place-preserved g c =
    let s = c.loop-place.self in
    let next = c.gets-in-loop-place.new.self in
    let got = c.gets-in-loop-place.ensures in
    let place = c.loop-place.place in
    let before = c.loop-place.invariant in
    record {
      read = read_on c.args.self.now s next before.read got.read;
      here = got.others 2 other_than_here ∙ before.here;
      letters = λ led. letters_kept s next 4 7 led.clerk led.note.word _ got other_than_letters (before.letters led);
      count = before.count;
      so_far = λ led.
          let within : place < length led.note.word = subst (λ (n : ℕ). place < n) (before.count led) c.loop-place-test.true in
          let read = letter_read s next 4 7 led.clerk place c.number_in.result led.note.word (before.letters led) within got c.number_in.ensures in
          letters_more led.note.word c.loop-place.word.items c.push_reserved.new.self.items place c.number_in.result within (before.so_far led) read c.push_reserved.ensures.items;
      taken = c.push_reserved.ensures.len ∙ ap (λ (n : ℕ). n + 1) before.taken;
      room = omega (arith, c.push_reserved.ensures.capacity, before.room);
    }

pub returns-clause-word : goal.returns-clause-word
returns-clause-word g c led =
    let past : length led.note.word ≤ c.loop-place.place = subst (λ (n : ℕ). n ≤ c.loop-place.place) (c.loop-place.invariant.count led) c.loop-place-test.false in
    all_letters_taken led.note.word c.loop-place.word.items c.loop-place.place past (c.loop-place.invariant.so_far led)
