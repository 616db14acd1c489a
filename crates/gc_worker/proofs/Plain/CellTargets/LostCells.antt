-- The cells in a traced epoch's space that are empty are those that lost their targets, and those that were empty at its flip.
use Rattle.std.proofs.Common.{◌≡◌, ◌⊎◌, inl, inr, ℕ, ◌+◌, Option, Some, None, refl, ap, sym, subst, ◌∙◌, ⊎_elim, arith}
use Rattle.heap_words.specs.declared.kind.Kind.TheVariants as headers
use Rattle.heap_words.specs.Decoded.{Decoded, NumberWord, PointerWord, decode}
use Rattle.plain_state.specs.declared.kind.Kind.TheVariants.{Weak}
use Rattle.plain_state.specs.declared.value.Identity.{Identity}
use Rattle.plain_state.specs.declared.value.Value.{Value}
use Rattle.plain_state.specs.declared.value.Value.TheVariants.{Number, Reference}
use Rattle.plain_state.specs.Cells.{LosesTarget, cell_of}
use Rattle.plain_state.specs.State.{Plain, record_of}
use Rattle.plain_heap.proofs.Reaching.Emptying.{loses_or_not}
use Rattle.space_map.specs.declared.gate_word.GateWord.{GateWord}
use Rattle.heap_state.specs.Configuration.{Configuration, Stands, table, era, memory}
use Rattle.heap_state.specs.Invariant.Ghost.{Ghost}
use Rattle.heap_state.specs.Kept.{kept_of}
use Rattle.heap_state.specs.Meaning.Denotes.{denoted, denoted_by, denoted_in, named_in, own_header_in, reference_to}
use Rattle.heap_state.specs.Meaning.Dump.{dump_of}
use Rattle.heap_state.specs.Meaning.Represents.{IsOwn}
use Rattle.heap_state.specs.Meaning.Values.{IsShownCell, MayBeEmptied, value_of}
use Rattle.heap_state.specs.Memory.Walk.{Walked}
use Rattle.heap_state.proofs.Represents.Denoting.{denotes, target_lands}
use Rattle.heap_state.proofs.Represents.Owning.{Owns, cell_shown, owns}
use Rattle.heap_laws.proofs.Tracing.Lost.{cell_has_value}
use Rattle.gc_worker.specs.Laws.Copied.{IsTraced}
use Rattle.gc_worker.specs.Laws.Lost.{IsEmptyIfLost, IsWalkedCell, LostCellsAreEmpty, target_word}
use Rattle.gc_worker.specs.Laws.Step.{Heap, read}
use Rattle.gc_worker.specs.Laws.Stories.{StoryStands}
use Rattle.gc_worker.specs.Steps.Turned.{epoch_in_gate}
use Rattle.gc_worker.proofs.Stages.Gate.GateWords.{gate_says}
use Rattle.gc_worker.proofs.Stages.Rounds.RoundWords.{traced_word}

-- ---- words

-- the number 0 denotes itself
zero_denotes : (c : Configuration) (word : ℕ) → decode word ≡ NumberWord 0 → denoted c word ≡ Some (Number 0)
unfolding denoted_in
zero_denotes c word zero = ap (denoted_by (table c).heap (kept_of c.workers)) zero

-- and nothing else denotes it
zero_denoted : (c : Configuration) (word : ℕ) → denoted c word ≡ Some (Number 0) → decode word ≡ NumberWord 0
unfolding denoted_in
zero_denoted c word is = by_word (decode word) is
  where
    no_reference : (o : Option Identity) → ¬ (reference_to o ≡ Some (Number 0))
    no_reference (Some i) is = cc
    no_reference None is = cc

    by_word : (d : Decoded) → denoted_by (table c).heap (kept_of c.workers) d ≡ Some (Number 0) → d ≡ NumberWord 0
    by_word (NumberWord n) is = let zero : n ≡ 0 = cc in ap NumberWord zero
    by_word (PointerWord a) is = absurd (no_reference (named_in (table c).heap (kept_of c.workers) (decode ((table c).heap a))) is)
    by_word _ is = absurd (cc)

-- ---- a cell of a traced epoch

module _ (c : Configuration) (p : Plain) (s : Stands c p) (traced : (memory c).traced ≡ (era c).epoch + 1) (w : Walked) (i : Identity) (cell : IsWalkedCell c w i) where
  abbrev g : Ghost
  g = s.ghost

  own : IsOwn (dump_of c) w Weak cell.len i.serial i.mutator
  own = record { walked = inl cell.walked; head = headers.Weak; header = ap (own_header_in (kept_of c.workers)) cell.header; said = refl }

  known : Owns c g s.formed s.invariant w Weak cell.len i.serial i.mutator
  known = owns c g s.formed s.invariant w Weak cell.len i.serial i.mutator own

  named : g.identity w.at ≡ i
  named = sym known.named

  shown : IsShownCell (era c) (memory c) g w.at
  shown = cell_shown c g s.formed s.invariant w cell.len i.serial i.mutator known

  -- its target denotes what the plain cell has
  pub target_denotes : (v : Value) → cell_of p.heap i ≡ Some v → denoted c (target_word c w) ≡ Some v
  target_denotes v held =
      denotes c g s.formed s.invariant (target_word c w) (target_lands c g s.formed s.invariant w.at shown.cell known.known.inside).0
      ∙ ⊎_elim
      (λ (e : value_of g.identity ((memory c).heap (w.at + 1)) ≡ Some v). e)
      (λ (e : MayBeEmptied (era c) (memory c) g w.at v). absurd (let still = e.walked.0 in omega (arith, traced, still)))
      (s.shown.targets.shows w.at v shown (subst (λ (j : Identity). cell_of p.heap j ≡ Some v) (sym named) held))

  -- which has a value
  pub plain_value : (v : Value) × (cell_of p.heap i ≡ Some v)
  plain_value =
      let r = s.shown.objects.shows w.at shown.cell.stands shown.cell.written known.own in
      cell_has_value p.heap i r.0 (ap (record_of p.heap) (sym named) ∙ r.1) (r.2.kind ∙ shown.cell.weak) (r.2.size ∙ s.invariant.cells.chain.three w.at shown.cell.stands shown.cell.weak)

-- ---- by the plain state at the flip

module _ (h : Heap) (p o : Plain) (w : Walked) (i : Identity) (story : StoryStands h p o) (traced : IsTraced h) (cell : IsWalkedCell (read h) w i) where
  abbrev c : Configuration
  c = read h

  traced_now : (memory c).traced ≡ (era c).epoch + 1
  traced_now = traced_word c ∙ (traced ∙ ap (λ (gate : Option GateWord). epoch_in_gate 0 gate + 1) (gate_says c p story.stands.stands))

  has : (v : Value) → cell_of p.heap i ≡ Some v → denoted c (target_word c w) ≡ Some v
  has = target_denotes c p story.stands.stands traced_now w i cell

  value : (v : Value) × (cell_of p.heap i ≡ Some v)
  value = plain_value c p story.stands.stands traced_now w i cell

  kept : (v : Value) → cell_of o.heap i ≡ Some v → ¬ (LosesTarget o i) → denoted c (target_word c w) ≡ Some v
  kept v held stays = has v ((story.cells.lost traced).kept i v held stays)

  made : cell_of o.heap i ≡ None → (j : Identity) × (denoted c (target_word c w) ≡ Some (Reference j))
  made none =
      let refers = story.cells.made i value.0 none value.1 in
      (refers.0, has value.0 value.1 ∙ ap Some refers.1)

  lost_is : decode (target_word c w) ≡ NumberWord 0 → LosesTarget o i ⊎ (cell_of o.heap i ≡ Some (Number 0))
  lost_is zero = by_flip (cell_of o.heap i) refl
    where
      denotes_zero : denoted c (target_word c w) ≡ Some (Number 0)
      denotes_zero = zero_denotes c (target_word c w) zero

      by_flip : (v : Option Value) → cell_of o.heap i ≡ v → LosesTarget o i ⊎ (cell_of o.heap i ≡ Some (Number 0))
      by_flip None none = absurd (let refers = made none in let both : Some (Reference refers.0) ≡ Some (Number 0) = sym refers.1 ∙ denotes_zero in cc)
      by_flip (Some v) held = ⊎_elim
          (λ (lost : LosesTarget o i). inl lost)
          (λ (stays : ¬ (LosesTarget o i)). inr (held ∙ (sym (kept v held stays) ∙ denotes_zero)))
          (loses_or_not o i)

  is_empty : LosesTarget o i ⊎ (cell_of o.heap i ≡ Some (Number 0)) → decode (target_word c w) ≡ NumberWord 0
  is_empty (inl lost) = zero_denoted c (target_word c w) (has (Number 0) ((story.cells.lost traced).lost i lost))
  is_empty (inr was) = zero_denoted c (target_word c w) (kept (Number 0) was (λ lost. let both = sym was ∙ lost.is in cc))

  empty_if_lost : IsEmptyIfLost c p o w i
  empty_if_lost = record { empty = (lost_is, is_empty); kept = kept; made = made; now = has value.0 value.1 ∙ sym value.1 }

pub lost_cells_are_empty : LostCellsAreEmpty
lost_cells_are_empty h p o story traced w i cell = empty_if_lost h p o w i story traced cell
