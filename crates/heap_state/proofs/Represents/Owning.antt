-- What a record that has its own header is known to be.
use Rattle.std.proofs.Common.{◌≡◌, ℕ, ◌+◌, ◌-◌, ◌<◌, true, sym, ap, ◌∙◌, arith, ⊎_elim, ◌⊎◌, inl, inr}
use Rattle.plain_state.specs.declared.kind.Kind.{Kind}
use Rattle.plain_state.specs.declared.kind.Kind.TheVariants.{Weak}
use Rattle.heap_words.specs.Decoded.{HeaderWord, Malformed}
use Rattle.plain_state.specs.declared.value.Identity.{Identity}
use Rattle.plain_state.specs.Layout.{is_field}
use Rattle.heap_state.specs.Memory.Table.{IsFormed}
use Rattle.heap_state.specs.Configuration.{Configuration, era, memory, team}
use Rattle.heap_state.specs.Meaning.Dump.{dump_of}
use Rattle.heap_state.specs.Memory.Era.{Era, Memory}
use Rattle.heap_state.specs.Invariant.Ghost.{Ghost, IsField, Here, header_kind, said_kind}
use Rattle.heap_state.specs.Invariant.Holds.{IsWalkedField}
use Rattle.heap_state.specs.Invariant.Inductive.{Invariant}
use Rattle.heap_state.specs.Meaning.Represents.{IsOwn}
use Rattle.heap_state.specs.Meaning.Values.{IsShownCell}
use Rattle.heap_state.specs.Memory.Walk.{Walked}
use Rattle.heap_state.proofs.Represents.Denoting.{header_of, Headers, Own, Forwarded, headers}
use Rattle.heap_state.proofs.Walks.InHeap.{StandsWritten, in_heap_sound, now_sound}
use Rattle.heap_state.proofs.Records.KindsOfHeaders.{said_there}

abbrev pub identity_at : ℕ → ℕ → Identity
identity_at mutator serial = record { mutator = mutator; serial = serial }

same_identity : (mutator serial : ℕ) (i : Identity) → mutator ≡ i.mutator → serial ≡ i.serial → identity_at mutator serial ≡ i
same_identity mutator serial i o s = λ x. record { mutator = o x; serial = s x }

module _ (c : Configuration) (g : Ghost) (formed : IsFormed c.pages c.words) (inv : Invariant (era c) (memory c) (team c) g) where
  abbrev E : Era
  E = era c

  abbrev m : Memory
  m = memory c

  -- what the proofs know of a record that has its own header
  pub record Owns (w : Walked) (kind : Kind) (len serial mutator : ℕ) : Type 0 where
    pub known : StandsWritten E m.traced g w
    pub of_kind : kind ≡ g.kind w.at
    pub long : len + 1 ≡ w.size
    pub named : identity_at mutator serial ≡ g.identity w.at
    pub own : (g.copy w.at ≡ 0) ⊎ (0 < g.keeper w.at)

  pub owns : (w : Walked) (kind : Kind) (len serial mutator : ℕ) → IsOwn (dump_of c) w kind len serial mutator → Owns w kind len serial mutator
  owns w kind len serial mutator is =
      let known = in_heap_sound c g formed inv w is.walked in
      by_headers known (headers c g formed inv w.at (omega (arith, known.sized)) known.written)
    where
      by_headers : StandsWritten E m.traced g w → Headers c g formed inv w.at → Owns w kind len serial mutator
      by_headers known (Forwarded b e y n f) = absurd (let q : Malformed ≡ HeaderWord is.head len serial mutator = sym e ∙ is.header in cc)
      by_headers known (Own e h) =
          let q : header_of c g formed inv w.at ≡ HeaderWord is.head len serial mutator = sym e ∙ is.header in
          let d : is.head ≡ header_kind (g.kind w.at) = cc in
          let k : kind ≡ g.kind w.at = is.said ∙ ap (λ y. said_kind y (m.heap (w.at + 1))) d ∙ said_there g.size g.writer g.kind m.heap inv.raw_words inv.counts w.at (omega (arith, known.sized)) known.written in
          let l : g.size w.at - 1 ≡ len = cc in
          let s : serial ≡ (g.identity w.at).serial = cc in
          let o : mutator ≡ (g.identity w.at).mutator = cc in
          record { known = known; of_kind = k; long = omega (arith, known.sized); named = same_identity mutator serial (g.identity w.at) o s; own = h }

  pub field_of : (w : Walked) (kind : Kind) (len serial mutator i : ℕ) → Owns w kind len serial mutator → 0 < i → i < w.size → is_field kind i ≡ true → IsField g.size g.writer g.kind w.at i
  field_of w kind len serial mutator i o first last f = record {
    stands = omega (arith, o.known.sized);
    written = o.known.written;
    field = ap (λ k. is_field k i) (sym o.of_kind) ∙ f;
    first = first;
    last = omega (arith, o.known.sized);
  }

  -- a cell that has its own header shows the plain one's value
  pub cell_shown : (w : Walked) (len serial mutator : ℕ) → Owns w Weak len serial mutator → IsShownCell E m g w.at
  cell_shown w len serial mutator o = record {
    cell = record { stands = omega (arith, o.known.sized); written = o.known.written; weak = sym o.of_kind };
    place = ⊎_elim (λ r. inl r) (λ r. inr (r.0, (r.1, r.2), o.own)) o.known.inside;
  }

  -- a field of a walked record is one that mutators read
  pub walked_here : (x : ℕ) → IsWalkedField c x → Here E g.size g.writer g.kind x
  unfolding Here
  walked_here x f =
      let o = owns f.of f.kind f.len f.serial f.mutator f.own in
      inl (record { a = f.of.at; i = f.i; field = field_of f.of f.kind f.len f.serial f.mutator f.i o f.field.inside.0 f.field.inside.1 f.field.field; inside = (now_sound c g formed inv f.of f.walked).inside; at = f.at })
