-- What the gate counts where there is one mutator and no other worker.
use Rattle.std.proofs.Common.{◌≡◌, ◌≢◌, ℕ, ◌+◌, ◌==◌, ◌&&◌, Bool, true, false, refl, ap, subst, ◌∙◌, arith}
use Rattle.std.proofs.lemmas.Bool.{ne_eqb, eq-eqb}
use Rattle.plain_state.specs.State.{Plain}
use Rattle.space_map.specs.declared.gate_word.GateWord.{GateWord}
use Rattle.gate_core.specs.Gate.{is_clear}
use Rattle.heap_state.specs.Configuration.{Configuration, Stands, table, era, memory, team}
use Rattle.heap_state.specs.Functions.{sum_below, count_one}
use Rattle.heap_state.specs.Invariant.Inductive as inductive
use Rattle.heap_state.specs.Known.{Known, is_live, is_running, is_asking, is_late}
use Rattle.gc_worker.specs.Workers.Held.{Held}
use Rattle.gc_worker.specs.Workers.Knows.{knows}
use Rattle.lone_mutator.specs.Law.{IsAlone}

-- ---- plain

-- a sum of one term
single : (n : ℕ) (f : ℕ → ℕ) → n ≡ 1 → sum_below n f ≡ f 0
unfolding sum_below
single n f one = rw one (omega arith)

uncounted : (b : Bool) → count_one b ≡ 0 → b ≡ false
uncounted true is = absurd (omega (arith, is))
uncounted false is = refl

pub and_false : (b c : Bool) → c ≡ false → b && c ≡ false
and_false true c is = is
and_false false c is = refl

pub is_clear_so : (g : GateWord) → g.request ≡ false → g.behind ≡ 0 → is_clear g ≡ true
is_clear_so g request behind = rw (request, eq-eqb g.behind 0 behind) refl

-- ---- what the gate counts

module _ (c : Configuration) (p : Plain) (s : Stands c p) (x : Held) (a : IsAlone c x) where
  abbrev pub g : GateWord
  g = (table c).gate

  counts : (f : Known → Bool) → sum_below (team c).count (λ k. count_one (f ((team c).worker k))) ≡ count_one (f (knows x))
  counts f = single (team c).count (λ k. count_one (f ((team c).worker k))) a.one ∙ ap (λ (w : Known). count_one (f w)) a.is.as_known

  pub running_is : g.running ≡ count_one (is_running (knows x).post)
  running_is = s.invariant.counted.running ∙ counts (λ w. is_running w.post)

  pub behind_is : g.behind ≡ count_one (is_late g.epoch (knows x))
  behind_is = s.invariant.counted.behind ∙ counts (λ w. is_late g.epoch w)

  request_is : count_one g.request ≡ count_one (is_asking (knows x).post)
  request_is = s.invariant.counted.request ∙ counts (λ w. is_asking w.post)

  -- who asks for nothing has requested nothing
  pub no_request : is_asking (knows x).post ≡ false → g.request ≡ false
  no_request none = uncounted g.request (request_is ∙ ap count_one none)

  -- who is of the gate's epoch isn't behind
  pub none_behind : (knows x).epoch ≡ g.epoch → g.behind ≡ 0
  none_behind present =
      let apart : (knows x).epoch + 1 ≢ g.epoch = (λ same. omega (arith, same, present)) in
      behind_is ∙ ap count_one (and_false (is_live (knows x).post) ((knows x).epoch + 1 == g.epoch) (ne_eqb ((knows x).epoch + 1) g.epoch apart))

  -- nor is who isn't live
  pub none_live : is_live (knows x).post ≡ false → g.behind ≡ 0
  none_live none = behind_is ∙ rw none refl

  -- ---- what it knows

  abbrev pub Knowing : Known → Type 0
  Knowing w = inductive.Knows (era c) (memory c).gate (memory c).traced (memory c).front (memory c).low (memory c).old_front (memory c).old_low (memory c).old_owed s.ghost (memory c).page (memory c).cross
      (memory c).announced (memory c).heap 0 w

  pub knowing : Knowing (knows x)
  knowing = subst Knowing a.is.as_known (s.invariant.workers 0 a.is.below)

  pub present : is_running (knows x).post ≡ true → (knows x).epoch ≡ g.epoch
  present runs = knowing.timely.running runs
