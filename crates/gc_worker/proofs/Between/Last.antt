-- Once a scanner is gone, all mutators are: it has read a gate that counts them all as left, and nobody comes back.
use Rattle.std.proofs.Common.{◌≡◌, ◌≢◌, ℕ, zero, suc, ◌+◌, ◌<◌, ◌≤◌, Bool, true, false, cond, length, Some, refl, sym, ap, subst, ◌∙◌, arith, ⊎_elim, get_or-set_same, get_or-set_other, length-set, le-ltb}
use Rattle.std.proofs.lemmas.Bool.{cases_eq, cases_lt}
use Rattle.std.proofs.lemmas.List.{length-map}
use Rattle.std.proofs.lemmas.Option.{same_Some}
use Rattle.plain_state.specs.State.{Plain}
use Rattle.atom_store.specs.declared.step.Step.{Step}
use Rattle.atom_store.specs.Step.{reply_of}
use Rattle.space_map.specs.declared.gate_word.GateWord.{GateWord}
use Rattle.space_map.specs.GateWord.{decode_gate}
use Rattle.space_map.specs.Table.{Gate}
use Rattle.space_map.specs.TableWords.{row_word}
use Rattle.gate_core.specs.declared.passage.Passage.{Passage}
use Rattle.gate_core.specs.declared.passage.Passage.TheVariants.{Look}
use Rattle.heap_state.specs.Configuration.{Configuration, table, team}
use Rattle.heap_state.specs.Functions.{sum_below, count_one}
use Rattle.heap_state.specs.Memory.Table.{word_in}
use Rattle.heap_state.specs.Known.{Known, Post, is_gone, is_mutator}
use Rattle.heap_state.specs.Known as workers
use Rattle.heap_state.proofs.Table.StoredRows.{word_in-row}
use Rattle.heap_laws.proofs.Gate.GateCounts.{ones}
use Rattle.gc_worker.specs.declared.stage.back.Back.{Back}
use Rattle.gc_worker.specs.declared.stage.back.Back.TheVariants.{ToAccess}
use Rattle.gc_worker.specs.declared.stage.goal.Goal.{Goal}
use Rattle.gc_worker.specs.declared.stage.goal.Goal.TheVariants.{ForFlip}
use Rattle.gc_worker.specs.declared.stage.Stage.{Stage}
use Rattle.gc_worker.specs.declared.stage.Stage.TheVariants.{Passes, Serves, Scans, Evacuates, Opens, Checkpoints, Gone}
use Rattle.gc_worker.specs.Laws.Between.{fresh_mutator, fresh_scanner, opening_heap, with_worker}
use Rattle.gc_worker.specs.Workers.Fits.{Fits}
use Rattle.gc_worker.specs.Laws.Gone.{HasLeft, SawAllLeave, ScannersAreLast, ScannersBeginLast, ScannersStayLast}
use Rattle.gc_worker.specs.Steps.Goes.{Is}
use Rattle.gc_worker.specs.Workers.Held.{Held}
use Rattle.gc_worker.specs.Workers.Knows.{knows, post_before, post_back, post_for, post_in}
use Rattle.gc_worker.specs.Laws.Step.{Heap, WorkersStand, held_at, moved, nobody, read}
use Rattle.gc_worker.specs.Steps.Turned.{turned}
use Rattle.gc_worker.specs.Steps.Wanted.{wanted, wanted_at}
use Rattle.gc_worker.proofs.Between.Gone.{who_is_gone_saw_why}
use Rattle.gc_worker.proofs.Between.OpenedHeap.{is_there, many}
use Rattle.gc_worker.proofs.Stages.Gate.GateWords.{gate_says}
use Rattle.gc_worker.proofs.Workers.Members.{member}

-- ---- counts

-- where as many are counted as there may be, each of them is
all_ones : (count most : ℕ) (is : ℕ → Bool) → ((k : ℕ) → most ≤ k → k < count → is k ≡ false) → most ≤ sum_below count (λ k. count_one (is k)) → (m : ℕ) → m < most → is m ≡ true
unfolding sum_below
all_ones zero most is past many m l = absurd (omega (arith, many, l))
all_ones (suc n) most is past many m l = by_last (λ few past_few many_few below. all_ones n few is past_few many_few m below) (is n) refl
  where
    by_last : ((few : ℕ) → ((k : ℕ) → few ≤ k → k < n → is k ≡ false) → few ≤ sum_below n (λ k. count_one (is k)) → m < few → is m ≡ true) → (b : Bool) → is n ≡ b → is m ≡ true
    by_last rest true e =
        let one : count_one (is n) ≡ 1 = ap count_one e in
        let inside : n < most = ⊎_elim (λ (y : n < most). y) (λ (no : most ≤ n). absurd (let f = past n no (omega arith) in let g = sym e ∙ f in cc)) (cases_lt n most) in
        ⊎_elim
        (λ (below : m < n). rest n (λ k a b. absurd (omega (arith, a, b))) (omega (arith, many, one, inside)) below)
        (λ (past_it : n ≤ m). let o = ones n is in let same : m ≡ n = omega (arith, o, one, many, past_it, l) in ap is same ∙ e)
        (cases_lt m n)
    by_last rest false e =
        let none : count_one (is n) ≡ 0 = ap count_one e in
        rest most (λ k a b. past k a (omega (arith, b))) (omega (arith, many, none)) l

-- ---- posts

before_gone : (passage : Passage) → is_gone (post_before passage) ≡ true → ⊥
before_gone Look e = cc
before_gone _ e = cc

back_gone : (back : Back) → is_gone (post_back back) ≡ true → ⊥
back_gone (ToAccess _) e = cc
back_gone _ e = cc

goal_gone : (goal : Goal) → is_gone (post_for goal) ≡ true → ⊥
goal_gone ForFlip e = cc
goal_gone _ e = cc

-- who counts as gone is
gone_stage : (x : Held) (stage : Stage) → is_gone (post_in x stage) ≡ true → stage ≡ Gone
gone_stage x Gone e = refl
gone_stage x (Passes g after) e = absurd (before_gone g.passage e)
gone_stage x (Serves d back) e = absurd (back_gone back e)
gone_stage x (Scans s back) e = absurd (back_gone back e)
gone_stage x (Evacuates v s back) e = absurd (back_gone back e)
gone_stage x (Opens o s back) e = absurd (back_gone back e)
gone_stage x (Checkpoints r goal) e = absurd (goal_gone goal e)
gone_stage x _ e = absurd (cc)

no_mutator : (post : Post) → is_mutator post ≡ false → is_gone post ≡ false
no_mutator workers.Scanner e = refl
no_mutator _ e = absurd (cc)

-- ---- where the gate counts all mutators as left, they have

module _ (h : Heap) (p o : Plain) (st : WorkersStand h p o) where
  abbrev c : Configuration
  c = read h

  abbrev has_gone : ℕ → Bool
  has_gone k = is_gone ((team c).worker k).post

  all_left : h.mutators ≤ (table c).gate.left → (m : ℕ) → m < h.mutators → (held_at h m).stage ≡ Gone
  all_left many m l =
      let staffed = st.stands.invariant.staffed in
      let counted = st.stands.invariant.counted.left in
      let gone = all_ones (length c.workers) h.mutators has_gone
      (λ k past below. no_mutator ((team c).worker k).post (staffed.posts k below ∙ le-ltb k h.mutators past)) (omega (arith, many, counted)) m l in
      let below : m < length c.workers = (let f = staffed.few in omega (arith, l, f)) in
      let there : m < length h.workers = (let n = length-map h.workers knows in omega (arith, n, below)) in
      let is : Is c m (held_at h m) = member h p o m (held_at h m) st there refl in
      gone_stage (held_at h m) (held_at h m).stage (ap (λ (w : Known). is_gone w.post) (sym is.as_known) ∙ gone)

-- ---- a step

module _ (h : Heap) (p o : Plain) (k : ℕ) (x : Held) (q : Step) (st : WorkersStand h p o) (l : k < length h.workers) (holds : held_at h k ≡ x) (asked : wanted x ≡ Some q)
    (last : ScannersAreLast h) where
  abbrev y : Held
  y = turned x (reply_of q h.words)

  abbrev later : Heap
  later = moved h k x q

  fits : Fits h.pages h.mutators k x
  fits = subst (Fits h.pages h.mutators k) holds (st.fit k l)

  here : held_at later k ≡ y
  here = get_or-set_same h.workers k y nobody l

  other : (j : ℕ) → j ≢ k → held_at later j ≡ held_at h j
  other j d = get_or-set_other h.workers k j y nobody d

  -- who wants a step isn't gone
  not_yet : x.stage ≢ Gone
  not_yet gone = let e = sym (ap (wanted_at x) gone) ∙ asked in cc

  stays_gone : (m : ℕ) → (held_at h m).stage ≡ Gone → (held_at later m).stage ≡ Gone
  stays_gone m gone = ⊎_elim
      (λ (same : m ≡ k). absurd (not_yet (ap (λ (z : Held). z.stage) (sym holds ∙ ap (held_at h) (sym same)) ∙ gone)))
      (λ (d : m ≢ k). ap (λ (z : Held). z.stage) (other m d) ∙ gone)
      (cases_eq m k)

  -- the scanner that has just gone
  saw_all : SawAllLeave x q h.words → (m : ℕ) → m < h.mutators → (held_at h m).stage ≡ Gone
  saw_all saw m l_m =
      let word : row_word x.layout.pages Gate h.words ≡ word_in h.pages h.words Gate = ap (λ (n : ℕ). row_word n Gate h.words) fits.pages ∙ sym (word_in-row h.pages h.words Gate tt) in
      let same : (table (read h)).gate ≡ saw.gate = same_Some (table (read h)).gate saw.gate (sym (gate_says (read h) p st.stands) ∙ (ap decode_gate (sym word) ∙ saw.says)) in
      let left : (table (read h)).gate.left ≡ saw.gate.left = ap (λ (g : GateWord). g.left) same in
      all_left h p o st (let a = saw.all in let b = fits.beside in omega (arith, left, a, b)) m l_m

  by_scanner : (j m : ℕ) → h.mutators ≤ j → j ≡ k → y.stage ≡ Gone → m < h.mutators → (held_at h m).stage ≡ Gone
  by_scanner j m scanner same gone l_m = ⊎_elim
      (λ (left : HasLeft x q h.words). absurd (let a = left.is_mutator in let b = fits.number in let d = fits.beside in omega (arith, a, b, d, scanner, same)))
      (λ (saw : SawAllLeave x q h.words). saw_all saw m l_m)
      (who_is_gone_saw_why h.pages h.mutators k x q h.words fits asked gone)

  stays : ScannersAreLast later
  stays j m below scanner gone l_m = stays_gone m (⊎_elim
      (λ (same : j ≡ k). by_scanner j m scanner same (ap (λ (z : Held). z.stage) (sym here ∙ ap (held_at later) (sym same)) ∙ gone) l_m)
      (λ (d : j ≢ k). last j m (let n = length-set h.workers k y in omega (arith, n, below)) scanner (ap (λ (z : Held). z.stage) (sym (other j d)) ∙ gone) l_m)
      (cases_eq j k))

pub scanners_stay_last : ScannersStayLast
scanners_stay_last h p o k x q st l holds asked last = stays h p o k x q st l holds asked last

-- ---- a worker that stays at its stage

pub scanners_last_with : (h : Heap) (k : ℕ) (now : Held) → k < length h.workers → now.stage ≡ (held_at h k).stage → ScannersAreLast h → ScannersAreLast (with_worker h k now)
scanners_last_with h k now l same last j m below scanner gone l_m =
    stage m ∙ last j m (let n = length-set h.workers k now in omega (arith, n, below)) scanner (sym (stage j) ∙ gone) l_m
  where
    stage : (i : ℕ) → (held_at (with_worker h k now) i).stage ≡ (held_at h i).stage
    stage i = ⊎_elim
        (λ (e : i ≡ k). ap (λ (z : ℕ). (held_at (with_worker h k now) z).stage) e ∙ (ap (λ (z : Held). z.stage) (get_or-set_same h.workers k now nobody l) ∙ (same ∙ ap (λ (z : ℕ). (held_at h z).stage) (sym e))))
        (λ (d : i ≢ k). ap (λ (z : Held). z.stage) (get_or-set_other h.workers k i now nobody d))
        (cases_eq i k)

-- ---- the opening

pub scanners_begin_last : ScannersBeginLast
scanners_begin_last prints s least mutators scanners k m below scanner gone l_m =
    let there : k < mutators + scanners = (let e = many prints s mutators 0 (mutators + scanners) in omega (arith, below, e)) in
    let is : held_at (opening_heap prints s least mutators scanners) k ≡ fresh_scanner prints s mutators k =
    is_there prints s mutators 0 (mutators + scanners) k k there (omega arith) ∙ ap (λ (b : Bool). cond b (fresh_mutator prints s mutators k) (fresh_scanner prints s mutators k)) (le-ltb k mutators scanner) in
    absurd (let e = sym (ap (λ (z : Held). z.stage) is) ∙ gone in cc)
