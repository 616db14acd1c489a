-- A core begins lawful, for the plain state in which its program begins.
use Rattle.std.proofs.Common.{◌≡◌, ℕ, zero, suc, ◌+◌, ◌++◌, ◌<◌, ◌≤◌, ◌&&◌, Bool, true, false, nat_le, List, [], ◌∷◌, length, refl, ap, sym, subst, ◌∙◌, arith, lt-ltb}
use Rattle.std.specs.Prelude.{IsTrue, if◌then◌else◌}
use Rattle.std.proofs.lemmas.Bool.{leb-true}
use Rattle.plain_state.specs.Cells.{CellsFollow}
use Rattle.plain_state.specs.State.{Plain}
use Rattle.space_map.specs.declared.spaces.TheConstants.{MOST_PAGES}
use Rattle.mutator_asm.specs.declared.instr.Instr.{Instr}
use Rattle.mutator_asm.specs.declared.item.Item.{Item}
use Rattle.mutator_asm.specs.Program.{IsWellFormed}
use Rattle.plain_heap.specs.Order as order
use Rattle.heap_state.proofs.Puts.{none≢some}
use Rattle.space_map.specs.Spaces.{Layout, IsPageCount}
use Rattle.heap_state.specs.Configuration.{table}
use Rattle.heap_state.specs.Memory.Table.{Table}
use Rattle.gc_worker.specs.Laws.Between.{HeapsOpen, fresh_worker, fresh_workers, fresh_mutator, fresh_scanner}
use Rattle.gc_worker.specs.Workers.Held.{Held}
use Rattle.gc_worker.specs.Laws.Step.{WorkersStand, held_at, read}
use Rattle.gc_worker.specs.Laws.Copied.{IsTraced}
use Rattle.gc_worker.specs.Laws.Stories.{StoryStands}
use Rattle.gc_worker.specs.Steps.Turned.{epoch_in_gate}
use Rattle.gc_worker.proofs.Stages.Gate.GateWords.{gate_says}
use Rattle.gc_worker.proofs.Between.Last.{scanners_begin_last}
use Rattle.gc_worker.proofs.Cycles.NextSizes.{next_sizes_begin}
use Rattle.gc_worker.proofs.Between.OpenedHeap.{are_opening, is_there, opening_words-length}
use Rattle.gc_worker.specs.declared.config.Config.{Config}
use Rattle.gc_worker.proofs.Plain.CellTargets.KeptCells.{opening_cells}
use Rattle.gc_worker.proofs.Plain.TaskOutcomes.{opens_so}
use Rattle.gc_core.specs.Core.{has_sizes, layout_by, opening_core}
use Rattle.gc_worker.specs.Laws.Claims.{epoch_of_heap}
use Rattle.gc_core.specs.Law.{IsLawful, IsSteady}

-- the pages that may be in use of a space whose heap can be opened
pub sizes_fit : (config : Config) → IsTrue (has_sizes config) → (4 ≤ config.pages) × (config.pages ≤ config.limit) × (config.limit ≤ MOST_PAGES)
sizes_fit config e = by_tests (nat_le 4 config.pages) (nat_le config.pages MOST_PAGES) (nat_le config.pages config.limit) (nat_le config.limit MOST_PAGES) refl refl refl refl e
  where
    by_tests : (a b c d : Bool) → nat_le 4 config.pages ≡ a → nat_le config.pages MOST_PAGES ≡ b → nat_le config.pages config.limit ≡ c → nat_le config.limit MOST_PAGES ≡ d
        → ((a && b) && (c && d)) ≡ true → (4 ≤ config.pages) × (config.pages ≤ config.limit) × (config.limit ≤ MOST_PAGES)
    by_tests true true true true x y z w e = (leb-true 4 config.pages x, leb-true config.pages config.limit z, leb-true config.limit MOST_PAGES w)
    by_tests true true true false x y z w e = absurd (cc)
    by_tests true true false d x y z w e = absurd (cc)
    by_tests true false c d x y z w e = absurd (cc)
    by_tests false b c d x y z w e = absurd (cc)

pub limit_fits : (config : Config) → IsTrue (has_sizes config) → IsPageCount config.limit
limit_fits config e = let fit = sizes_fit config e in let a = fit.0 in let b = fit.1 in (omega (arith, a, b), fit.2)

-- ---- the workers

-- one worker more is the next one
pub fresh_push : (prints : Bool) (s : Layout) (mutators from count : ℕ) → fresh_workers prints s mutators from (count + 1) ≡ fresh_workers prints s mutators from count ++ fresh_worker prints s mutators (from + count) ∷ []
unfolding fresh_workers
fresh_push prints s mutators from zero = let e : from + 0 ≡ from = omega arith in rw e refl
fresh_push prints s mutators from (suc count) =
    let e : from + 1 + count ≡ from + suc count = omega arith in
    let f : suc count + 1 ≡ suc (count + 1) = omega arith in
    rw f (ap (λ (ks : List Held). fresh_worker prints s mutators from ∷ ks) (fresh_push prints s mutators (from + 1) count ∙ ap (λ (k : ℕ). fresh_workers prints s mutators (from + 1) count ++ fresh_worker prints s mutators k ∷ []) e))

module _ (opens : HeapsOpen) (code : List (List Instr)) (items : List Item) (turns : ℕ) (config : Config) (program : IsWellFormed code items) (size : IsTrue (has_sizes config)) (turns_fit : turns ≤ 10000000) (few : config.scanners ≤ 8) where
  pub opening_stands : WorkersStand (opening_core code turns config).heap (order.opening code) (order.opening code)
  opening_stands =
      subst (λ (p : Plain). WorkersStand (opening_core code turns config).heap p p) (opens_so code)
      (let fit = sizes_fit config size in opens true (layout_by config) config.pages (length code) config.scanners (limit_fits config size) fit.0 fit.1 program.few_sections (let l = program.few_sections in omega (arith, l, few)))

  -- and so for a story that begins there
  pub opening_story : StoryStands (opening_core code turns config).heap (order.opening code) (order.opening code)
  opening_story = record {
    stands = opening_stands;
    cells = let traced = IsTraced (opening_core code turns config).heap in subst (λ (p : Plain). CellsFollow traced p p) (opens_so code) (opening_cells traced (length code));
  }

  mutator_there : (m : ℕ) → m < length code → held_at (opening_core code turns config).heap m ≡ fresh_mutator true (layout_by config) (length code) m
  mutator_there m l =
      is_there true (layout_by config) (length code) 0 (length code + config.scanners) m m (omega (arith, l)) (omega arith)
      ∙ ap (λ (b : Bool). if b then fresh_mutator true (layout_by config) (length code) m else fresh_scanner true (layout_by config) (length code) m) (lt-ltb m (length code) l)

  pub opening_steady : IsSteady (opening_core code turns config)
  opening_steady = record {
    valid = program.instrs;
    sections = refl;
    turns_fit = turns_fit;
    on_task = λ m l. let e = mutator_there m l in record { counted = rw e (omega arith); within = rw e (omega arith); task = λ task t. none≢some (sym (ap (λ (h : Held). h.task) e) ∙ t) };
    last = scanners_begin_last true (layout_by config) config.pages (length code) config.scanners;
    found = next_sizes_begin true (layout_by config) config.pages (length code) config.scanners;
    whole = opening_words-length (layout_by config) config.pages;
  }

  pub opening_lawful : IsLawful (opening_core code turns config)
  opening_lawful = record { steady = opening_steady; plain = order.opening code; flip = order.opening code; stands = opening_stands }

  -- it begins in the first epoch
  pub opening_epoch : epoch_of_heap (opening_core code turns config).heap ≡ 0
  opening_epoch =
      let fit = sizes_fit config size in
      let c = read (opening_core code turns config).heap in
      let says = (are_opening config.limit config.pages (limit_fits config size) fit.0 fit.1 config.snap).says in
      let e : (table c).gate.epoch ≡ 0 = ap (λ (t : Table). t.gate.epoch) says in
      ap (epoch_in_gate 0) (gate_says c (order.opening code) opening_stands.stands) ∙ e
