-- A worker becomes another without a step: to the proofs of the heap all is as it was.
use Rattle.std.proofs.Common.{◌≡◌, ◌≢◌, ℕ, ◌<◌, Bool, true, false, List, length, map, set, get_or, sym, ap, subst, ◌∙◌, arith, ⊎_elim, get_or-set_same, get_or-set_other, length-set}
use Rattle.std.proofs.lemmas.Bool.{cases_eq}
use Rattle.std.proofs.lemmas.List.{map-set, get_or-map, set-get_or}
use Rattle.plain_state.specs.State.{Plain}
use Rattle.space_map.specs.Spaces.{Layout}
use Rattle.heap_state.specs.Configuration.{Configuration, Stands, table, era, memory, team}
use Rattle.heap_state.specs.Cycles.Cycle.{Cycle}
use Rattle.heap_state.specs.Saving.Parts.{SavingStands}
use Rattle.heap_state.specs.Saving.Savers.{Saver}
use Rattle.heap_state.specs.Known.{Known, Scanner, fresh}
use Rattle.gc_worker.specs.Laws.Between.{Readies, ReadyingStands, with_worker}
use Rattle.gc_worker.specs.Workers.Fits.{Fits}
use Rattle.gc_worker.specs.Workers.Held.{Held}
use Rattle.gc_worker.specs.Workers.Knows.{knows}
use Rattle.gc_worker.specs.Workers.Saves.{saver_of}
use Rattle.gc_worker.specs.Laws.Step.{Heap, nobody, held_at, read, saves_in, StandIf, WorkersStand}

-- what is so of each worker is so after one becomes another of which it is so
pub all_after : (P : ℕ → Held → Type 0) (workers : List Held) (k : ℕ) (y : Held) → k < length workers → ((j : ℕ) → j < length workers → P j (get_or workers j nobody)) → P k y
    → (j : ℕ) → j < length (set workers k y) → P j (get_or (set workers k y) j nobody)
all_after P workers k y l each own j below = ⊎_elim
    (λ (e : j ≡ k). subst (P j) (sym (ap (λ (i : ℕ). get_or (set workers k y) i nobody) e ∙ get_or-set_same workers k y nobody l)) (subst (λ (i : ℕ). P i y) (sym e) own))
    (λ (d : j ≢ k). subst (P j) (sym (get_or-set_other workers k j y nobody d)) (each j (let n = length-set workers k y in omega (arith, n, below))))
    (cases_eq j k)

-- where one worker becomes another that is sound, all are
pub all_fit : (n mutators : ℕ) (workers : List Held) (k : ℕ) (y : Held) → k < length workers → ((j : ℕ) → j < length workers → Fits n mutators j (get_or workers j nobody)) → Fits n mutators k y
    → (j : ℕ) → j < length (set workers k y) → Fits n mutators j (get_or (set workers k y) j nobody)
all_fit n mutators workers k y l fit own = all_after (Fits n mutators) workers k y l fit own

module _ (h : Heap) (p o : Plain) (k : ℕ) (now : Held) (s : WorkersStand h p o) (l : k < length h.workers) (r : Readies h.pages h.mutators k (held_at h k) now) where
  same : map knows h.workers ≡ map knows (set h.workers k now)
  same = sym (map-set knows h.workers k now
      ∙ (ap (λ (w : Known). set (map knows h.workers) k w) (r.same ∙ sym (get_or-map knows h.workers k nobody (fresh Scanner) l)) ∙ set-get_or (map knows h.workers) k (fresh Scanner)))

  abbrev with_workers : List Known → Configuration
  with_workers ws = record { pages = h.pages; words = h.words; mutators = h.mutators; workers = ws }

  abbrev InCycle : List Known → Type 0
  InCycle ws = (t : Stands (with_workers ws) p) × Cycle (era (with_workers ws)) (memory (with_workers ws)) (team (with_workers ws)) t.ghost o

  stands : InCycle (map knows (set h.workers k now))
  stands = subst InCycle same (s.stands, s.cycle)

  abbrev later : Heap
  later = with_worker h k now

  -- of checkpoints each worker holds what it held
  saver : (j : ℕ) → saver_of (held_at h j) ≡ saver_of (held_at later j)
  saver j = ⊎_elim
      (λ (e : j ≡ k). ap (λ (i : ℕ). saver_of (held_at h i)) e
      ∙ (sym r.saver ∙ (ap saver_of (sym (get_or-set_same h.workers k now nobody l)) ∙ ap (λ (i : ℕ). saver_of (held_at later i)) (sym e))))
      (λ (d : j ≢ k). ap saver_of (sym (get_or-set_other h.workers k j now nobody d)))
      (cases_eq j k)

  as_many : length h.workers ≡ length later.workers
  as_many = sym (length-set h.workers k now)

  saving : (b : Bool) → StandIf b h p → StandIf b later p
  saving false kept = tt
  saving true kept = record {
    formed = kept.formed;
    frozen = kept.frozen;
    stands = subst (λ (f : ℕ → Saver). SavingStands (table (read later)) (saves_in later) kept.frozen (length later.workers) f) (λ i j. saver j i)
        (subst (λ (m : ℕ). SavingStands (table (read h)) (saves_in h) kept.frozen m (λ j. saver_of (held_at h j))) as_many kept.stands);
    shows = kept.shows;
  }

  readied : WorkersStand later p o
  readied = record {
    stands = stands.0;
    cycle = stands.1;
    fit = all_fit h.pages h.mutators h.workers k now l s.fit (r.fits (s.fit k l));
    laid_out = all_after (λ (j : ℕ) (x : Held). x.layout.checkpoints ≡ h.checkpoints) h.workers k now l s.laid_out (ap (λ (layout : Layout). layout.checkpoints) r.layout ∙ s.laid_out k l);
    whole = s.whole;
    saving = saving h.checkpoints s.saving;
  }

pub readying_stands : ReadyingStands
readying_stands h p o k now s l r = readied h p o k now s l r
