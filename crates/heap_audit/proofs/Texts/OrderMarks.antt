-- The marks of an order: each is read by its text, and what is read has that text.
use Rattle.std.proofs.Common.{◌≡◌, ℕ, ◌^◌, ◌<◌, decimal, List, [], ◌∷◌, ◌++◌, length, get_or, Option, Some, None, refl, sym, ap, subst, ◌∙◌, arith}
use Rattle.std.proofs.lemmas.List.{append_assoc}
use Rattle.dump_text.specs.Pieces.{◌>>=◌, byte_at}
use Rattle.dump_text.proofs.Options.{some_bind, some_is}
use Rattle.dump_text.proofs.Pieces.{byte_takes}
use Rattle.plain_heap.specs.declared.mark.Mark.{Mark}
use Rattle.plain_heap.specs.declared.mark.Mark.TheVariants.{Step, Flip, Full, Traced}
use Rattle.plain_heap.specs.Print.{mark_text}
use Rattle.heap_audit.specs.Texts.Order.{MarkFits}
use Rattle.heap_audit.specs.Texts.Pieces.{amount_at, mutator_at, next_amount_at, step_mark_at, flip_mark_at, full_mark_at, traced_mark_at, chosen, mark_at}
use Rattle.dump_text.proofs.Numerals.{Stops}
use Rattle.heap_audit.proofs.Decimals.{decimal_takes, decimal_again, first_digit, first_low}

-- ---- its numbers

pub amount_takes : (bytes : List ℕ) (n : ℕ) (rest : List ℕ) → amount_at bytes ≡ Some (n, rest) → (bytes ≡ decimal n ++ rest) × (n < 2 ^ 32)
unfolding amount_at
amount_takes bytes n rest e = decimal_takes (2 ^ 32) bytes n rest e

pub amount_again : (n : ℕ) (rest : List ℕ) → n < 2 ^ 32 → Stops rest → amount_at (decimal n ++ rest) ≡ Some (n, rest)
unfolding amount_at
amount_again n rest lt stop = decimal_again (2 ^ 32) n rest (omega arith) lt stop

pub mutator_takes : (bytes : List ℕ) (n : ℕ) (rest : List ℕ) → mutator_at bytes ≡ Some (n, rest) → (bytes ≡ decimal n ++ rest) × (n < 256)
unfolding mutator_at
mutator_takes bytes n rest e = decimal_takes 256 bytes n rest e

pub mutator_again : (n : ℕ) (rest : List ℕ) → n < 256 → Stops rest → mutator_at (decimal n ++ rest) ≡ Some (n, rest)
unfolding mutator_at
mutator_again n rest lt stop = decimal_again 256 n rest (omega arith) lt stop

next_takes : (bytes : List ℕ) (n : ℕ) (rest : List ℕ) → next_amount_at bytes ≡ Some (n, rest) → (bytes ≡ 44 ∷ (decimal n ++ rest)) × (n < 2 ^ 32)
unfolding next_amount_at
next_takes bytes n rest e =
    let a = some_bind (byte_at 44 bytes) (λ rest. amount_at rest) (n, rest) e in
    let t = amount_takes a.0 n rest a.2 in
    (byte_takes 44 bytes a.0 a.1 ∙ ap (λ (xs : List ℕ). 44 ∷ xs) t.0, t.1)

next_again : (n : ℕ) (rest : List ℕ) → n < 2 ^ 32 → Stops rest → next_amount_at (44 ∷ (decimal n ++ rest)) ≡ Some (n, rest)
unfolding next_amount_at
next_again n rest lt stop = amount_again n rest lt stop

-- ---- a mark of each kind

pub record Takes (bytes : List ℕ) (front : List ℕ) (mark : Mark) (rest : List ℕ) : Type 0 where
  pub text : front ++ bytes ≡ mark_text mark ++ rest
  pub fits : MarkFits mark

step_takes : (bytes : List ℕ) (mark : Mark) (rest : List ℕ) → step_mark_at bytes ≡ Some (mark, rest) → Takes bytes [] mark rest
unfolding step_mark_at
step_takes bytes mark rest e =
    let a = some_bind (mutator_at bytes) (λ m. Some (Step m.0, m.1)) (mark, rest) e in
    let t = mutator_takes bytes a.0.0 a.0.1 a.1 in
    let P : Mark × List ℕ → Type 0 = λ q. Takes bytes [] q.0 q.1 in
    subst P (some_is {A = Mark × List ℕ} (Step a.0.0, a.0.1) (mark, rest) a.2) (record { text = t.0; fits = t.1 })

flip_takes : (bytes : List ℕ) (mark : Mark) (rest : List ℕ) → flip_mark_at bytes ≡ Some (mark, rest) → Takes bytes (70 ∷ []) mark rest
unfolding flip_mark_at
flip_takes bytes mark rest e =
    let a = some_bind (amount_at bytes) (λ asked. Some (Flip asked.0, asked.1)) (mark, rest) e in
    let t = amount_takes bytes a.0.0 a.0.1 a.1 in
    let P : Mark × List ℕ → Type 0 = λ q. Takes bytes (70 ∷ []) q.0 q.1 in
    subst P (some_is {A = Mark × List ℕ} (Flip a.0.0, a.0.1) (mark, rest) a.2) (record { text = ap (λ (xs : List ℕ). 70 ∷ xs) t.0; fits = t.1 })

-- the numbers of a full heap, with what stands behind them
abbrev full_numbers : (m asked room live : ℕ) → List ℕ → List ℕ
full_numbers m asked room live rest = decimal m ++ 44 ∷ (decimal asked ++ 44 ∷ (decimal room ++ 44 ∷ (decimal live ++ rest)))

regroup : (m asked room live : ℕ) (rest : List ℕ) → mark_text (Full m asked room live) ++ rest ≡ 88 ∷ full_numbers m asked room live rest
regroup m asked room live rest = simp append_assoc refl

full_takes : (bytes : List ℕ) (mark : Mark) (rest : List ℕ) → full_mark_at bytes ≡ Some (mark, rest) → Takes bytes (88 ∷ []) mark rest
unfolding full_mark_at
full_takes bytes mark rest e =
    let a = some_bind (mutator_at bytes) (λ m. next_amount_at m.1 >>= λ asked. next_amount_at asked.1 >>= λ room. next_amount_at room.1 >>= λ live. Some (Full m.0 asked.0 room.0 live.0, live.1)) (mark, rest) e in
    let b = some_bind (next_amount_at a.0.1) (λ asked. next_amount_at asked.1 >>= λ room. next_amount_at room.1 >>= λ live. Some (Full a.0.0 asked.0 room.0 live.0, live.1)) (mark, rest) a.2 in
    let c = some_bind (next_amount_at b.0.1) (λ room. next_amount_at room.1 >>= λ live. Some (Full a.0.0 b.0.0 room.0 live.0, live.1)) (mark, rest) b.2 in
    let d = some_bind (next_amount_at c.0.1) (λ live. Some (Full a.0.0 b.0.0 c.0.0 live.0, live.1)) (mark, rest) c.2 in
    let m = mutator_takes bytes a.0.0 a.0.1 a.1 in
    let asked = next_takes a.0.1 b.0.0 b.0.1 b.1 in
    let room = next_takes b.0.1 c.0.0 c.0.1 c.1 in
    let live = next_takes c.0.1 d.0.0 d.0.1 d.1 in
    let whole : bytes ≡ full_numbers a.0.0 b.0.0 c.0.0 d.0.0 d.0.1 =
    m.0 ∙ ap (λ (t : List ℕ). decimal a.0.0 ++ t) (asked.0 ∙ ap (λ (t : List ℕ). 44 ∷ (decimal b.0.0 ++ t)) (room.0 ∙ ap (λ (t : List ℕ). 44 ∷ (decimal c.0.0 ++ t)) live.0)) in
    let P : Mark × List ℕ → Type 0 = λ q. Takes bytes (88 ∷ []) q.0 q.1 in
    subst P (some_is {A = Mark × List ℕ} (Full a.0.0 b.0.0 c.0.0 d.0.0, d.0.1) (mark, rest) d.2) (record {
      text = ap (λ (t : List ℕ). 88 ∷ t) whole ∙ sym (regroup a.0.0 b.0.0 c.0.0 d.0.0 d.0.1);
      fits = (m.1, asked.1, room.1, live.1);
    })

traced_takes : (bytes : List ℕ) (mark : Mark) (rest : List ℕ) → traced_mark_at bytes ≡ Some (mark, rest) → Takes bytes (84 ∷ []) mark rest
unfolding traced_mark_at
traced_takes bytes mark rest e =
    let P : Mark × List ℕ → Type 0 = λ q. Takes bytes (84 ∷ []) q.0 q.1 in
    subst P (some_is {A = Mark × List ℕ} (Traced, bytes) (mark, rest) e) (record { text = refl; fits = tt })

-- ---- a mark

taken : (front bytes : List ℕ) (mark : Mark) (rest whole : List ℕ) → front ++ bytes ≡ whole → Takes bytes front mark rest → (whole ≡ mark_text mark ++ rest) × MarkFits mark
taken front bytes mark rest whole e t = (sym e ∙ t.text, t.fits)

pub mark_takes : (bytes : List ℕ) (mark : Mark) (rest : List ℕ) → mark_at bytes ≡ Some (mark, rest) → (bytes ≡ mark_text mark ++ rest) × MarkFits mark
unfolding mark_at
mark_takes bytes mark rest e =
    let Goal : Type 0 = (bytes ≡ mark_text mark ++ rest) × MarkFits mark in
    let P : Option (List ℕ) → Type 0 = λ o. byte_at 70 bytes ≡ o → chosen o flip_mark_at (chosen (byte_at 88 bytes) full_mark_at (chosen (byte_at 84 bytes) traced_mark_at (step_mark_at bytes))) ≡ Some (mark, rest) → Goal in
    let Q : Option (List ℕ) → Type 0 = λ o. byte_at 88 bytes ≡ o → chosen o full_mark_at (chosen (byte_at 84 bytes) traced_mark_at (step_mark_at bytes)) ≡ Some (mark, rest) → Goal in
    let R : Option (List ℕ) → Type 0 = λ o. byte_at 84 bytes ≡ o → chosen o traced_mark_at (step_mark_at bytes) ≡ Some (mark, rest) → Goal in
    let last : chosen (byte_at 84 bytes) traced_mark_at (step_mark_at bytes) ≡ Some (mark, rest) → Goal =
    elim (byte_at 84 bytes) as R [
      | Some r ↦ λ is h. taken (84 ∷ []) r mark rest bytes (sym (byte_takes 84 bytes r is)) (traced_takes r mark rest h)
      | None ↦ λ _ h. taken [] bytes mark rest bytes refl (step_takes bytes mark rest h)
    ] refl in
    let other : chosen (byte_at 88 bytes) full_mark_at (chosen (byte_at 84 bytes) traced_mark_at (step_mark_at bytes)) ≡ Some (mark, rest) → Goal =
    elim (byte_at 88 bytes) as Q [
      | Some r ↦ λ is h. taken (88 ∷ []) r mark rest bytes (sym (byte_takes 88 bytes r is)) (full_takes r mark rest h)
      | None ↦ λ _ h. last h
    ] refl in
    elim (byte_at 70 bytes) as P [
      | Some r ↦ λ is h. taken (70 ∷ []) r mark rest bytes (sym (byte_takes 70 bytes r is)) (flip_takes r mark rest h)
      | None ↦ λ _ h. other h
    ] refl e

-- ---- again

step_again : (m : ℕ) (rest : List ℕ) → m < 256 → Stops rest → step_mark_at (decimal m ++ rest) ≡ Some (Step m, rest)
unfolding step_mark_at
step_again m rest lt stop = rw (mutator_again m rest lt stop) refl

-- bytes that begin with a digit are a step's
at_digit : (bytes : List ℕ) → 0 < length bytes → get_or bytes 0 0 < 58 → mark_at bytes ≡ step_mark_at bytes
unfolding mark_at
at_digit [] some low = absurd (omega (arith, some))
at_digit (b ∷ bytes) some low = let f = first_digit b low in rw (f.0, f.1, f.2) refl

step_whole : (m : ℕ) (rest : List ℕ) → m < 256 → Stops rest → mark_at (decimal m ++ rest) ≡ Some (Step m, rest)
step_whole m rest lt stop = let f = first_low m rest (omega (arith, lt)) in at_digit (decimal m ++ rest) f.0 f.1 ∙ step_again m rest lt stop

-- a mark is read by its text, where no digit stands behind it
pub mark_again : (mark : Mark) (rest : List ℕ) → MarkFits mark → Stops rest → mark_at (mark_text mark ++ rest) ≡ Some (mark, rest)
unfolding mark_at flip_mark_at full_mark_at traced_mark_at
mark_again (Step m) rest fits stop = step_whole m rest fits stop
mark_again (Flip asked) rest fits stop = rw (amount_again asked rest fits stop) refl
mark_again (Full m asked room live) rest fits stop =
    ap mark_at (regroup m asked room live rest)
    ∙ rw (
      mutator_again m (44 ∷ (decimal asked ++ 44 ∷ (decimal room ++ 44 ∷ (decimal live ++ rest)))) fits.0 refl,
      next_again asked (44 ∷ (decimal room ++ 44 ∷ (decimal live ++ rest))) fits.1 refl,
      next_again room (44 ∷ (decimal live ++ rest)) fits.2 refl,
      next_again live rest fits.3 stop,
    ) refl
mark_again Traced rest fits stop = refl
