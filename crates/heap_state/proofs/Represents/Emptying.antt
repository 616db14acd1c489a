-- The cells that the walk over the chain may have emptied, by the words and by what the proofs know.
use Rattle.std.proofs.Common.{◌≡◌, ℕ, arith, subst}
use Rattle.std.specs.List.{Contains}
use Rattle.plain_state.specs.declared.kind.Kind.TheVariants.{Weak}
use Rattle.plain_state.specs.declared.value.Value.{Value}
use Rattle.heap_state.specs.Configuration.{Configuration, era, memory, team}
use Rattle.heap_state.specs.Cycles.Copies.{copied_of}
use Rattle.heap_state.specs.Invariant.Ghost.{Ghost}
use Rattle.heap_state.specs.Invariant.Inductive.{Invariant}
use Rattle.heap_state.specs.Meaning.Dump.{dump_of}
use Rattle.heap_state.specs.Meaning.Represents.{IsEmptied}
use Rattle.heap_state.specs.Meaning.Values.{MayBeEmptied}
use Rattle.heap_state.specs.Memory.Table.{IsFormed}
use Rattle.heap_state.specs.Memory.Walk.{Walked}
use Rattle.heap_state.proofs.Walks.WalksBelowFront.{copied_sound, copied_complete}
use Rattle.heap_state.proofs.Walks.CopiedIdentities.{no_copy, not_copied}
use Rattle.heap_state.proofs.Walks.InHeap.{still_copying}
use Rattle.heap_state.proofs.Walks.Walking.{item}

module _ (c : Configuration) (g : Ghost) (formed : IsFormed c.pages c.words) (inv : Invariant (era c) (memory c) (team c) g) where
  pub is_emptied : (w : Walked) (v : Value) → g.size w.at ≡ w.size → MayBeEmptied (era c) (memory c) g w.at v → IsEmptied (dump_of c) w v
  is_emptied w v z y =
      let b = y.copied in
      let has : Contains (copied_of c) (item w.at (g.size w.at)) = copied_complete c g formed inv w.at b.inside.0 b.inside.1 b.stands b.written in
      record {
        copied = subst (λ (n : ℕ). Contains (copied_of c) (item w.at n)) z has;
        walked = (λ e. omega (arith, e, y.walked), y.walked.1);
        empty = y.empty;
        lost = (y.lost.0, y.lost.1, no_copy c g formed inv y.lost.0 y.lost.2);
      }

  pub may_be_emptied : (w : Walked) (v : Value) → g.kind w.at ≡ Weak → IsEmptied (dump_of c) w v → MayBeEmptied (era c) (memory c) g w.at v
  may_be_emptied w v weak y =
      let is = copied_sound c g formed inv w y.copied in
      let z = is.sized in
      record {
        copied = record { stands = omega (arith, z); written = is.written; weak = weak; inside = is.inside };
        walked = ((still_copying c g formed inv y.walked.0).0, y.walked.1);
        empty = y.empty;
        lost = (y.lost.0, y.lost.1, not_copied c g formed inv y.lost.0 y.lost.2);
      }
