-- The identities that the walk below FRONT shows are those of which copies stand.
use Rattle.std.proofs.Common.{◌≡◌, ◌<◌, Some, sym, ap, ◌∙◌, arith}
use Rattle.std.specs.List.{Contains}
use Rattle.plain_state.specs.declared.value.Identity.{Identity}
use Rattle.heap_state.specs.Configuration.{Configuration, era, memory, team}
use Rattle.heap_state.specs.Cycles.Copies.{copied_of, name_of}
use Rattle.heap_state.specs.Invariant.Ghost.{Ghost}
use Rattle.heap_state.specs.Invariant.Inductive.{Invariant}
use Rattle.heap_state.specs.Meaning.Denotes.{named_by}
use Rattle.heap_state.specs.Meaning.Dump.{dump_of}
use Rattle.heap_state.specs.Meaning.Represents.{HasNoCopy}
use Rattle.heap_state.specs.Memory.Table.{IsFormed}
use Rattle.heap_state.specs.Memory.Walk.{Walked}
use Rattle.heap_state.specs.Targets.{IsCopied}
use Rattle.heap_state.proofs.Puts.{some_same}
use Rattle.heap_state.proofs.Records.Holding.{uncopied_here}
use Rattle.heap_state.proofs.Walks.WalksBelowFront.{copied_sound, copied_complete}
use Rattle.heap_state.proofs.Walks.InHeap.{lay}
use Rattle.heap_state.proofs.Walks.Walking.{IsItem, item}

module _ (c : Configuration) (g : Ghost) (formed : IsFormed c.pages c.words) (inv : Invariant (era c) (memory c) (team c) g) where
  abbrev pub IsCopyFor : Identity → Type 0
  IsCopyFor = IsCopied (era c) (memory c).front g.size g.writer g.identity

  -- the header of a copy names the identity that the proofs know
  pub copy_named : (w : Walked) → IsItem (era c).start (memory c).front g.size g.writer w → name_of c w ≡ Some (g.identity w.at)
  copy_named w is =
      let st : 0 < g.size w.at = (let z = is.sized in omega (arith, z)) in
      let order = inv.laid.order in
      let b = is.inside in
      let u = uncopied_here (era c) (memory c) (team c) g inv (lay c g formed inv) w.at st b.0 (omega (arith, b, order)) in
      ap named_by (inv.headed.own w.at st is.written u.0 u.1)

  -- an identity that the walk shows has a copy
  pub shown_copied : (w : Walked) (i : Identity) → Contains (copied_of c) w → name_of c w ≡ Some i → IsCopyFor i
  shown_copied w i has e =
      let is = copied_sound c g formed inv w has in
      let z = is.sized in
      record { at = w.at; stands = (omega (arith, z), is.written); below = is.inside; named = some_same (sym (copy_named w is) ∙ e) }

  -- an identity that has a copy is shown
  pub copied_shown : (i : Identity) → IsCopyFor i → (w : Walked) × Contains (copied_of c) w × (name_of c w ≡ Some i)
  copied_shown i y =
      let w = item y.at (g.size y.at) in
      let has = copied_complete c g formed inv y.at y.below.0 y.below.1 y.stands.0 y.stands.1 in
      (w, has, copy_named w (copied_sound c g formed inv w has) ∙ ap Some y.named)

  pub no_copy : (i : Identity) → ¬ (IsCopyFor i) → HasNoCopy (dump_of c) i
  no_copy i none w has e = none (shown_copied w i has e)

  pub not_copied : (i : Identity) → HasNoCopy (dump_of c) i → ¬ (IsCopyFor i)
  not_copied i none y = let s = copied_shown i y in none s.0 s.1 s.2
