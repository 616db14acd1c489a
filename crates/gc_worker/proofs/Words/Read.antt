-- What the code reads in a word is what the definitions make of it.
use Rattle.std.proofs.Common.{◌≡◌, ℕ, true, false, ◌+◌, ◌-◌, ◌^◌, ◌<◌, ◌≤◌, arith, Option, zero, suc, List, [], ◌∷◌, map, Some, None, refl, sym, ap, ◌∙◌, subst, slice_get, slice_index, slice_index_or}
use Rattle.std.proofs.lemmas.Option.{get_or_from_slice_get}
use Rattle.heap_words.specs.Decoded.{Decoded, NumberWord, PointerWord, HeaderWord, decode, number_in, pointer_in}
use Rattle.record_layout.specs.declared.header.Header.{Header}
use Rattle.record_layout.specs.Layout.{header_in, header_says, header_with}
use Rattle.heap_words.specs.declared.kind.Kind.{Kind}
use Rattle.std.proofs.Math.Decide.{dec_le, dec_lt}
use Rattle.record_layout.proofs.Rereading.{header_in-header_says}
use Rattle.record_access.specs.Seen.{by_address, seen_as, value_seen}
use Rattle.gc_worker.specs.Plain.Seen.{making_in, seen}
use Rattle.heap_state.specs.Known.{Account}
use Rattle.plain_heap.specs.Action.{action, register}
use Rattle.mutator_asm.specs.declared.instr.Instr.{Instr}
use Rattle.gc_worker.specs.Workers.Fits.{FitsStage, IsMaking}
use Rattle.gc_worker.specs.Workers.Held.{Held, at_stage}
use Rattle.gc_worker.specs.declared.stage.Stage.{Stage}
use Rattle.gc_worker.specs.declared.stage.Stage.TheVariants.{Forwards, Recalls, Serves}
use Rattle.gc_worker.specs.Steps.Turned.{Pointed, back_from, begins, first_pointer, forwarded_to, forwards_from, forwards_it, goes_on, recalled, scans, served_by, told, told_acted, told_at, told_round, told_start, traced_by, turned, turned_at, turned_recall, turned_register, turned_round, with_evac}
use Rattle.gc_worker.specs.Steps.Stepped.{instr_due, seen_by, served_in, uncounted}
use Rattle.gc_worker.specs.declared.stage.after.After.{After}
use Rattle.gc_worker.specs.declared.stage.after.After.TheVariants as afters
use Rattle.gc_worker.specs.declared.stage.forwarding_register.ForwardingRegister.{ForwardingRegister}
use Rattle.gc_worker.specs.declared.stage.back.Back.{Back}
use Rattle.gc_worker.specs.declared.stage.back.Back.TheVariants.{ToAccess}
use Rattle.gate_core.specs.declared.recall.recalled.Recalled.{Recalled}
use Rattle.gate_core.specs.Recall.{Recalling}
use Rattle.gate_core.specs.Recall as recall
use Rattle.fault_duty.specs.Duty.{Round}
use Rattle.fault_duty.specs.Duty as duty
use Rattle.forwarding.specs.declared.to.To.{To}
use Rattle.forwarding.specs.Taken as evac_taken
use Rattle.atom_store.specs.declared.reply.Reply.{Reply}
use Rattle.atom_store.specs.declared.turn.Turn.TheVariants.{Finished}
use Rattle.fault_duty.specs.declared.round_end.RoundEnd.{RoundEnd}
use Rattle.fault_duty.specs.declared.round_end.RoundEnd.TheVariants.{ScanPage, ScanInPlace, Marked, Traced, AllLeft, NothingNow}
use Rattle.gc_worker.specs.declared.task.Task.{Task}
use Rattle.gc_worker.specs.declared.task.Task.TheVariants.{Calls}
use Rattle.plain_state.specs.declared.value.Value.TheVariants.{Number, Reference}

-- ---- registers

seen_as_number : (d : Decoded) (n : ℕ) → Some n ≡ number_in d → seen_as d ≡ Number n
seen_as_number (NumberWord _) n is = cc
seen_as_number _ n is = cc

seen_as_pointer : (d : Decoded) (a : ℕ) → Some a ≡ pointer_in d → seen_as d ≡ Reference (by_address a)
seen_as_pointer (NumberWord _) a is = cc
seen_as_pointer _ a is = cc

seen_as_neither : (d : Decoded) → None ≡ number_in d → None ≡ pointer_in d → seen_as d ≡ Number 0
seen_as_neither (NumberWord m) number pointer = cc
seen_as_neither (PointerWord address) number pointer = cc
seen_as_neither _ number pointer = refl

pub seen_number : (w n : ℕ) → Some n ≡ number_in (decode w) → value_seen w ≡ Number n
seen_number w n is = seen_as_number (decode w) n is

pub seen_pointer : (w address : ℕ) → Some address ≡ pointer_in (decode w) → value_seen w ≡ Reference (record { mutator = 0; serial = address })
seen_pointer w address is = seen_as_pointer (decode w) address is

pub seen_neither : (w : ℕ) → None ≡ number_in (decode w) → None ≡ pointer_in (decode w) → value_seen w ≡ Number 0
seen_neither w number pointer = seen_as_neither (decode w) number pointer

map_found : (xs : List ℕ) (r w : ℕ) → slice_get xs r ≡ Some w → slice_index_or (map value_seen xs) r (Number 0) ≡ value_seen w
map_found [] zero w is = absurd (let z = is in cc)
map_found [] (suc r) w is = absurd (let z = is in cc)
map_found (x ∷ xs) zero w is = let e : x ≡ w = cc in ap value_seen e
map_found (x ∷ xs) (suc r) w is = map_found xs r w is

map_lost : (xs : List ℕ) (r : ℕ) → slice_get xs r ≡ None → slice_index_or (map value_seen xs) r (Number 0) ≡ Number 0
map_lost [] zero is = refl
map_lost [] (suc r) is = refl
map_lost (x ∷ xs) zero is = absurd (let z = is in cc)
map_lost (x ∷ xs) (suc r) is = map_lost xs r is

pub register_seen : (account : Account) (registers : List ℕ) (r w : ℕ) → Some w ≡ slice_get registers r → register (seen account registers) r ≡ value_seen w
register_seen account registers r w is = map_found registers r w (sym is)

pub no_register_seen : (account : Account) (registers : List ℕ) (r : ℕ) → None ≡ slice_get registers r → register (seen account registers) r ≡ Number 0
no_register_seen account registers r is = map_lost registers r (sym is)

-- and the word there
word_lost : (words : List ℕ) (r : ℕ) → slice_get words r ≡ None → slice_index words r ≡ 0
word_lost [] r is = refl
word_lost (x ∷ xs) zero is = absurd (let z = is in cc)
word_lost (x ∷ xs) (suc r) is = word_lost xs r is

pub register_word : (registers : List ℕ) (r w : ℕ) → Some w ≡ slice_get registers r → slice_index registers r ≡ w
register_word registers r w is = get_or_from_slice_get registers r w 0 (sym is)

pub no_register_word : (registers : List ℕ) (r : ℕ) → None ≡ slice_get registers r → slice_index registers r ≡ 0
no_register_word registers r is = word_lost registers r (sym is)

-- ---- headers of new records

pub header_made : (h : Header) → Some h ≡ header_in (header_says h)
header_made h = sym (header_in-header_says h)

too_long : (kind : Kind) (len serial mutator : ℕ) → 4095 < len → (s : Dec (len ≤ 4095)) (c : Dec (serial < 2 ^ 40)) → header_with kind len serial mutator s c ≡ None
too_long kind len serial mutator long (yes short) c = absurd (omega arith)
too_long kind len serial mutator long (no still) c = refl

too_late : (kind : Kind) (len serial mutator : ℕ) → 2 ^ 40 ≤ serial → (s : Dec (len ≤ 4095)) (c : Dec (serial < 2 ^ 40)) → header_with kind len serial mutator s c ≡ None
too_late kind len serial mutator late (yes short) (yes counted) = absurd (omega arith)
too_late kind len serial mutator late (yes short) (no uncounted) = refl
too_late kind len serial mutator late (no long) c = refl

pub no_header_long : (kind : Kind) (len serial mutator : ℕ) → 4095 < len → None ≡ header_in (HeaderWord kind len serial mutator)
unfolding header_in
no_header_long kind len serial mutator long = sym (too_long kind len serial mutator long (dec_le len 4095) (dec_lt serial (2 ^ 40)))

pub no_header_late : (kind : Kind) (len serial mutator : ℕ) → 2 ^ 40 ≤ serial → None ≡ header_in (HeaderWord kind len serial mutator)
unfolding header_in
no_header_late kind len serial mutator late = sym (too_late kind len serial mutator late (dec_le len 4095) (dec_lt serial (2 ^ 40)))

-- ---- the first pointer among registers

pub pointer_found : (rs : List ℕ) (i w a : ℕ) → i < 8 → w ≡ slice_index rs i → Some a ≡ pointer_in (decode w)
    → Some (record { register = i; addr = a }) ≡ first_pointer rs (8 - i) i
unfolding first_pointer
pointer_found rs i w a below word is =
    let n : 8 - i ≡ suc (8 - (i + 1)) = omega arith in
    let d : pointer_in (decode (slice_index rs i)) ≡ Some a = ap (λ (v : ℕ). pointer_in (decode v)) (sym word) ∙ sym is in
    rw (n, d)

pub pointer_not_there : (rs : List ℕ) (i w : ℕ) → i < 8 → w ≡ slice_index rs i → None ≡ pointer_in (decode w)
    → first_pointer rs (8 - i) i ≡ first_pointer rs (8 - (i + 1)) (i + 1)
unfolding first_pointer
pointer_not_there rs i w below word is =
    let n : 8 - i ≡ suc (8 - (i + 1)) = omega arith in
    let d : pointer_in (decode (slice_index rs i)) ≡ None = ap (λ (v : ℕ). pointer_in (decode v)) (sym word) ∙ sym is in
    rw (n, d)

pub no_pointer_left : (rs : List ℕ) (i : ℕ) → 8 ≤ i → first_pointer rs (8 - i) i ≡ None
unfolding first_pointer
no_pointer_left rs i past = let n : 8 - i ≡ 0 = omega arith in rw n

forwards_anywhere : (x : Held) (was : Stage) (after : After) (o : Option Pointed) → forwards_it (at_stage x was) after o ≡ forwards_it x after o
forwards_anywhere x was after (Some p) = refl
forwards_anywhere x was after None = refl

-- the next registers are forwarded whatever the stage was before
pub forwards_on : (x : Held) (was : Stage) (after : After) (j : ℕ)
    → at_stage x (forwards_from (at_stage x was) after j) ≡ at_stage x (forwards_from x after j)
forwards_on x was after j = ap (at_stage x) (forwards_anywhere x was after (first_pointer x.registers (8 - j) j))

-- the worker after the last step of a register's copy
pub register_turned : (x : Held) (w : ForwardingRegister) (reply : Reply) (to : To)
    → x.stage ≡ Forwards w → evac_taken.told (evac_taken.taken w.evac reply).stage ≡ Finished to → turned x reply ≡ forwarded_to x w to
register_turned x w reply to at ends =
    ap (λ (s : Stage). turned_at x s reply) at
    ∙ ap (turned_register x (with_evac w (evac_taken.taken w.evac reply))) ends

-- ---- what is read of checkpoints

-- it goes on there whatever its stage was before
pub goes_on_anywhere : (x : Held) (was : Stage) (after : After) → at_stage x (goes_on (at_stage x was) after) ≡ at_stage x (goes_on x after)
goes_on_anywhere x was afters.Looks = refl
goes_on_anywhere x was _ = refl

-- the worker after the last step of the reading
pub recall_turned : (x : Held) (r done : Recalling) (after : After) (reply : Reply) (result : Recalled) → x.stage ≡ Recalls r after → done ≡ recall.taken r reply
    → recall.told done ≡ Finished result → turned x reply ≡ at_stage (recalled x result) (goes_on (recalled x result) after)
recall_turned x r done after reply result at steps ends =
    ap (λ (s : Stage). turned_at x s reply) at
    ∙ ap (λ (n : Recalling). turned_recall x n after (recall.told n)) (sym steps)
    ∙ ap (turned_recall x done after) ends

-- ---- the beginning of an instruction

-- it tells the same in whatever epoch the instruction began
pub call_told : (x : Held) (instr : Instr) → x.task ≡ Some (Calls instr)
    → told_acted (begins x) (Calls instr) (action (seen_by (begins x)) (instr_due x.task)) ≡ told_start x x.task
call_told x instr is =
    let P : Option Task → Type 0 = λ task. told_acted (begins x) (Calls instr) (action (seen_by x) (instr_due task)) ≡ told_start x task in
    subst P (sym is) refl

-- ---- who makes a record

-- the serial of the record fits a header
pub serial_fits : (account : Account) (registers : List ℕ) (task : Option Task) → IsMaking account registers task → account.serial + 1 < 2 ^ 40
serial_fits account registers task m = m.executes.call.serial m.making (ap making_in m.executes.acts)

-- ---- rounds

-- of a round that is done only its epoch counts
served_alike : (x : Held) (d : Round) (epoch : ℕ) (back : Back) (end : RoundEnd) → epoch ≡ d.epoch → served_in x epoch back end ≡ served_by x d back end
served_alike x d epoch back (ScanPage page) is = ap (λ (e : ℕ). scans (record x { epoch = e }) page false back) is
served_alike x d epoch back (ScanInPlace page) is = ap (λ (e : ℕ). scans (record x { epoch = e }) page true back) is
served_alike x d epoch back Marked is = ap (λ (e : ℕ). back_from (record x { epoch = e }) back) is
served_alike x d epoch back Traced is = ap (λ (e : ℕ). traced_by (record x { epoch = e }) back) is
served_alike x d epoch back (NothingNow word) is = ap (λ (e : ℕ). back_from (record x { epoch = e }) back) is
served_alike x d epoch back (AllLeft word) is = refl

-- nor does the stage at which it was done
served_anywhere : (x : Held) (was : Stage) (epoch : ℕ) (back : Back) (end : RoundEnd) → served_in (at_stage x was) epoch back end ≡ served_in x epoch back end
served_anywhere x was epoch _ (ScanPage _) = refl
served_anywhere x was epoch (ToAccess _) _ = refl
served_anywhere x was epoch _ _ = refl

pub served_after : (x : Held) (was : Stage) (d : Round) (epoch : ℕ) (back : Back) (end : RoundEnd) → epoch ≡ d.epoch
    → served_in (at_stage x was) epoch back end ≡ served_by x d back end
served_after x was d epoch back end is = served_anywhere x was epoch back end ∙ served_alike x d epoch back end is

pub served_fits : (x : Held) (was : Stage) (d : Round) (epoch : ℕ) (back : Back) (end : RoundEnd) → epoch ≡ d.epoch
    → FitsStage (served_by x d back end) (served_by x d back end).stage
    → FitsStage (served_in (at_stage x was) epoch back end) (served_in (at_stage x was) epoch back end).stage
served_fits x was d epoch back end is fits =
    let Fitting : Held → Type 0 = λ y. FitsStage y y.stage in subst Fitting (sym (served_after x was d epoch back end is)) fits

pub served_uncounted : (x : Held) (d : Round) (back : Back) (end : RoundEnd)
    → uncounted (served_by (uncounted x) d back end) ≡ served_by (uncounted x) d back end
served_uncounted x d _ (ScanPage _) = refl
served_uncounted x d (ToAccess _) _ = refl
served_uncounted x d _ _ = refl

-- the worker after the last step of a round
pub round_turned : (x : Held) (d done : Round) (back : Back) (reply : Reply) (end : RoundEnd)
    → x.stage ≡ Serves d back → done ≡ duty.taken d reply → duty.told done ≡ Finished end → turned x reply ≡ served_by x done back end
round_turned x d done back reply end at steps ends =
    ap (λ (s : Stage). turned_at x s reply) at
    ∙ ap (λ (r : Round). turned_round x r back (duty.told r)) (sym steps)
    ∙ ap (turned_round x done back) ends

-- and what that tells
pub round_told : (x : Held) (d done : Round) (back : Back) (reply : Reply) (end : RoundEnd)
    → x.stage ≡ Serves d back → done ≡ duty.taken d reply → duty.told done ≡ Finished end → told x reply ≡ told_round (Finished end)
round_told x d done back reply end at steps ends =
    ap (λ (s : Stage). told_at x s reply) at
    ∙ ap (λ (r : Round). told_round (duty.told r)) (sym steps)
    ∙ ap told_round ends
