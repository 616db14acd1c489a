-- What a cycle of a run has copied was live at the last flip.
use Rattle.std.proofs.Common.{◌≡◌, ℕ, ◌+◌, Bool, cond, Option, Some, None, ap, sym, subst, ◌∙◌, arith}
use Rattle.std.specs.Option.{option_map}
use Rattle.std.proofs.lemmas.Bool.{eq-eqb, ne_eqb}
use Rattle.plain_state.specs.Reachable.{IsLive}
use Rattle.plain_state.specs.State.{Plain}
use Rattle.space_map.specs.declared.area_word.AreaWord.{AreaWord}
use Rattle.space_map.specs.AreaWord.{decode_area}
use Rattle.space_map.specs.Spaces.{to_space}
use Rattle.space_map.specs.Table.{Traced}
use Rattle.heap_state.specs.Configuration.{Configuration, table, era}
use Rattle.heap_state.specs.Cycles.Copies.{CopiedIsLive, words_copied}
use Rattle.heap_state.specs.Memory.Table.{word_in}
use Rattle.heap_laws.proofs.Steps.Answers.{areas_are_read}
use Rattle.gc_worker.specs.Laws.Copied.{CopiedWasLive, IsTraced}
use Rattle.gc_worker.specs.Laws.Step.{read, WorkersStand}
use Rattle.gc_worker.specs.Steps.Turned.{epoch_in_gate}
use Rattle.gc_worker.proofs.Words.Areas.{area_now, area_says, is_space}
use Rattle.gc_worker.proofs.Stages.Gate.GateWords.{gate_says}
use Rattle.gc_core.specs.Core.{CoreState}
use Rattle.gc_core.specs.Cycles.{KeepsWhatIsLive}
use Rattle.gc_core.specs.Readers.{cycles_of, live_of}

module _ (was_live : CopiedWasLive) (s : CoreState) (p o : Plain) (st : WorkersStand s.heap p o) where
  abbrev c : Configuration
  c = read s.heap

  abbrev area : AreaWord
  area = (table c).area (to_space (cycles_of s))

  of_now : (era c).epoch ≡ cycles_of s
  of_now = sym (ap (epoch_in_gate 0) (gate_says c p st.stands))

  abbrev traced_word : ℕ
  traced_word = word_in s.heap.pages s.heap.words Traced

  abbrev front_in : Option AreaWord → Option ℕ
  front_in o = option_map (λ (a : AreaWord). a.front) o

  abbrev live_if : Bool → Option ℕ
  live_if b = cond b (front_in (decode_area (area_now c (to_space (cycles_of s))))) None

  module _ (traced : IsTraced s.heap) where
    copied : CopiedIsLive c o
    copied = was_live s.heap p o st traced

    told : live_of s ≡ Some area.front
    told = ap live_if (eq-eqb traced_word (cycles_of s + 1) traced) ∙ ap front_in (area_says c p st.stands (to_space (cycles_of s)) (is_space (cycles_of s)))

    words_are : words_copied c ≡ area.front
    words_are =
        let front = (areas_are_read c p st.stands).now.front in
        let same : ((table c).area (to_space (era c).epoch)).front ≡ area.front = ap (λ (e : ℕ). ((table c).area (to_space e)).front) of_now in
        let total = copied.front in
        omega (arith, front, same, total)

  pub keeps_what_is_live : KeepsWhatIsLive s o
  keeps_what_is_live = record {
    copied = copied;
    live = λ traced. (area.front, told traced, subst (IsLive o) (words_are traced) (copied traced).live);
    untraced = λ not. ap live_if (ne_eqb traced_word (cycles_of s + 1) not);
  }
