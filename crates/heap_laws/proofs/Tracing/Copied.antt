-- At the end of a cycle what was copied is what was reachable at the flip.
use Rattle.std.proofs.Common.{◌≡◌, ℕ, ◌+◌, ◌<◌, true, Some, sym, ap, ◌∙◌, arith, ⊎_elim}
use Rattle.std.specs.Prelude.{slice_get}
use Rattle.std.proofs.lemmas.Option.{slice_get_within}
use Rattle.plain_state.specs.declared.value.Identity.{Identity}
use Rattle.plain_state.specs.declared.value.Value.TheVariants.{Reference}
use Rattle.plain_state.specs.Reachable.{Reachable, FromRegister, FromBoard, FromRecord}
use Rattle.plain_state.specs.State as plain
use Rattle.plain_state.specs.Layout.{is_field, values_at, word_of_value, size_of}
use Rattle.heap_state.specs.Cycles.Cycle.{Cycle, RootLeads, ByBoard, ByRegister, IsRoot, InRegister, OnTheBoard}
use Rattle.heap_state.specs.Memory.Era.{Era, Memory, IsLaidOut}
use Rattle.heap_state.specs.Invariant.Ghost.{Ghost}
use Rattle.heap_state.specs.Invariant.Inductive.{Invariant}
use Rattle.heap_state.specs.Known.{Team}
use Rattle.heap_state.proofs.Puts.{some_same}
use Rattle.heap_state.proofs.Records.Layouts.{values_behind_header}
use Rattle.heap_state.specs.Targets.{IsCopied}
use Rattle.heap_laws.specs.Tracing.{NothingLeads, CopiesReachable}
use Rattle.heap_laws.proofs.Tracing.TracedExchange.{leads_nowhere}
use Rattle.heap_laws.proofs.Frames.Values.{board_here, field_here, still_leads}

module _ (E : Era) (m : Memory) (team : Team) (g : Ghost) (p : plain.Plain) (out : IsLaidOut E) (inv : Invariant E m team g) (cy : Cycle E m team g p) (traced : m.traced ≡ E.epoch + 1) where
  abbrev Copied : Identity → Type 0
  Copied = IsCopied E m.front g.size g.writer g.identity

  nothing : NothingLeads E m team g
  nothing = leads_nowhere E m team g out inv traced

  rooted : (i : Identity) → IsRoot p i → Copied i
  rooted i r = ⊎_elim (λ c. c) (λ l. by_root l) (cy.rooted.roots i r)
    where
      by_root : RootLeads E team.count g.identity m.heap team.worker i → Copied i
      by_root (ByBoard x l t) = absurd (nothing.clean (E.board + x) (board_here E g.size g.writer g.kind x l) (still_leads E g.identity (m.heap (E.board + x)) i t))
      by_root (ByRegister k r l s late d t) = absurd (let q = (inv.workers k l).licensed.counted late in let z = (inv.tracing.quiet traced).none in omega (arith, q, z))

  -- what a copied record referred to is copied
  closed : (i j : Identity) (r : plain.Record) (n : ℕ) → Copied i → plain.record_of p.heap i ≡ Some r → is_field r.kind (word_of_value r.kind n) ≡ true → slice_get r.values n ≡ Some (Reference j) → Copied j
  closed i j r n c of f refers =
      let s = cy.copying.sizes c.at c.stands.0 c.below.0 c.below.1 in
      let of' : plain.record_of p.heap (g.identity c.at) ≡ Some r = rw c.named of in
      let same : s.0 ≡ r = some_same (sym s.1 ∙ of') in
      let len : size_of r ≡ g.size c.at = rw same at s.2 in
      let kinds : r.kind ≡ g.kind c.at = rw same at s.3 in
      let field : is_field (g.kind c.at) (word_of_value (g.kind c.at) n) ≡ true = rw kinds at f in
      let within = slice_get_within r.values n (Reference j) refers in
      let at : values_at r.kind ≡ values_at (g.kind c.at) = ap values_at kinds in
      let small : word_of_value (g.kind c.at) n < g.size c.at = omega (arith, within, len, at) in
      ⊎_elim (λ y. y)
      (λ t. absurd (nothing.clean (c.at + word_of_value (g.kind c.at) n)
      (field_here E g.size g.writer g.kind c.at (word_of_value (g.kind c.at) n) (record { stands = c.stands.0; written = c.stands.1; field = field; first = omega (arith, values_behind_header (g.kind c.at)); last = small }) (c.below.0, let o = inv.laid.order in omega (arith, c.below.1, o)))
      (still_leads E g.identity (m.heap (c.at + word_of_value (g.kind c.at) n)) j t)))
      (cy.copying.complete c.at n r j c.stands.0 c.stands.1 c.below.0 c.below.1 of' field refers)

  all_copied : (i : Identity) → Reachable p i → Copied i
  all_copied i (FromRegister k q j _ e n f) = rooted i (InRegister k j q e n f)
  all_copied i (FromBoard x _ e) = rooted i (OnTheBoard x e)
  all_copied j (FromRecord i r n _ before of f refers) = closed i j r n (all_copied i before) of f refers

  copied_reached : (i : Identity) → Copied i → Reachable p i
  copied_reached i c =
      let q : Reachable p (g.identity c.at) = cy.copying.only c.at c.stands.0 c.below.0 c.below.1 in
      rw c.named at q

  copied_once : (i : Identity) (a b : Copied i) → a.at ≡ b.at
  copied_once i a b =
      let o = out.apart in
      ⊎_elim (λ y. y) (λ y. absurd (⊎_elim
      (λ y. let t = inv.copied.target a.at b.at a.stands.0 y in omega (arith, t, a.below, b.below, inv.laid.order, o))
      (λ y. let t = inv.copied.target b.at a.at b.stands.0 y in omega (arith, t, a.below, b.below, inv.laid.order, o)) y))
      (inv.once.once a.at b.at a.stands.0 b.stands.0 (a.named ∙ sym b.named))

  pub copies_reachable : CopiesReachable E m g p
  copies_reachable = record { all = all_copied; only = copied_reached; once = copied_once }
