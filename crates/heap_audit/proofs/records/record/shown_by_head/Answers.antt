use Rattle.std.proofs.Common.{◌≡◌, ◌≤◌, ◌+◌, ◌∙◌, ℕ, true, false, Option, Some, None, sym, ap, arith}
use Rattle.std.specs.Prelude.{IfNone, nat_eq, option_copied}
use Rattle.std.specs.HashMap.{get}
use denote.Enum.Bare.{sameb, same_true, true_same}
use Rattle.heap_words.specs.contracts.kind.Kind.{the_type}
use Rattle.std.proofs.lemmas.Bool.{eq-eqb, eqb-true, le-leb, leb-true}
use Rattle.heap_words.specs.Decoded.{HeaderWord}
use Rattle.plain_state.specs.Layout.{size_of}
use Rattle.plain_state.specs.State as plain
use Rattle.heap_words.specs.declared.kind.Kind.{Kind as HeaderKind}
use Rattle.heap_state.specs.Invariant.Ghost.{header_kind}
use Rattle.heap_state.specs.Meaning.Represents.{HeadShows}
use Rattle.heap_state.proofs.Puts.{some_same}
use Rattle.heap_audit.specs.Records.{key_of}
use Rattle.heap_audit.specs.Told.{dump_told}
use Rattle.heap_audit.specs.Walks.{walked}
use Rattle.heap_audit.proofs.ShownRecords.RecordWords.{first_is, head_is, head_shows, no_record}
use Rattle.heap_audit.proofs.records.record.shown_by_head.Goals as goal
use Rattle.heap_audit.proofs.records.record.shown_by_head.Goals.{then-eq, else-eq, then-has_size, else-has_size, in-Some, in-None, else-is_alike-via-then-is_alike+else-is_first, else-is_alike-via-else-is_alike}

none_if : {A : Type 0} (o : Option A) (P : Type 0) → P → IfNone o P
none_if None P x = x
none_if (Some a) P x = tt

-- kinds that test as the same are, and the other way round
same_kinds : (a b : HeaderKind) → sameb the_type a b ≡ true → a ≡ b
same_kinds a b e = same_true the_type _ a b e

kinds_same : (a b : HeaderKind) → a ≡ b → sameb the_type a b ≡ true
kinds_same a b e = true_same the_type a b e

pub returns-in_err-wanted-clause-else_not : goal.returns-in_err-wanted-clause-else_not
returns-in_err-wanted-clause-else_not c =
    let d = dump_told c.args.heap.now in
    let p = c.args.plain.now in
    let none : None ≡ plain.record_of p.heap (record { mutator = c.args.header.now.mutator; serial = c.args.header.now.serial }) =
    ap option_copied (sym c.in_err-wanted.was) ∙ (c.record.ensures ∙ ap (plain.record_of p.heap) c.identity_of.ensures) in
    none_if c.from_residual.result (HeadShows d p (walked c.args.found) → ⊥)
    (no_record d p (walked c.args.found) c.args.header.now c.requires.walked c.requires.owned c.args.owners.now c.requires.owners none)

pub returns-then-is_first-clause-shows : goal.returns-then-is_first-clause-shows
returns-then-is_first-clause-shows c =
    let d = dump_told c.args.heap.now in
    let p = c.args.plain.now in
    let w = walked c.args.found in
    let h = c.args.header.now in
    let r = c.in_ok-wanted.wanted.now in
    let is : plain.record_of p.heap (record { mutator = h.mutator; serial = h.serial }) ≡ Some r =
    sym (sym (ap option_copied c.in_ok-wanted.was) ∙ (c.record.ensures ∙ ap (plain.record_of p.heap) c.identity_of.ensures)) in
    let tested : (c.if-eq.value ≡ true) × (c.args.found.size ≡ h.len + 1) =
    elim c.if-has_size.branch [
      | then-has_size v ↦ (v.if-has_size.true, eqb-true c.args.found.size (v.from.result + 1) (sym v.is_alike-is ∙ c.if-is_alike.true) ∙ ap (λ z. z + 1) v.from.ensures)
      | else-has_size v ↦ absurd (let q : true ≡ false = sym c.if-is_alike.true ∙ (v.is_alike-is ∙ v.if-has_size.false) in cc)
    ] in
    let alike : (header_kind r.kind ≡ h.kind) × (size_of r ≡ c.args.found.size) =
    elim c.if-eq.branch [
      | then-eq v ↦ (
        ap header_kind (sym c.kind.ensures) ∙ (sym c.header_kind.ensures ∙ same_kinds c.header_kind.result h.kind (sym c.eq.ensures ∙ v.if-eq.true)),
        v.has_size.ensures.0 (sym v.value-is ∙ tested.0),
      )
      | else-eq v ↦ absurd (let q : true ≡ false = sym tested.0 ∙ (v.value-is ∙ v.if-eq.false) in cc)
    ] in
    let first : (f : ℕ) → get nat_eq c.args.owners.now.first (key_of (record { mutator = h.mutator; serial = h.serial })) ≡ Some f → c.args.found.at ≤ f =
    λ f e. elim c.match-first.branch [
      | in-Some v ↦
          (let q : v.in-Some.first ≡ f = some_same (sym v.in-Some.is ∙ (c.first.ensures ∙ e)) in
          let l = leb-true c.args.found.at v.in-Some.first (sym v.is_first-is ∙ c.if-is_first.true) in
          omega arith)
      | in-None v ↦ absurd (let z : None ≡ Some f = sym v.in-None.is ∙ (c.first.ensures ∙ e) in cc)
    ] in (
      record {
        len = h.len;
        serial = h.serial;
        mutator = h.mutator;
        header = c.requires.owned ∙ ap (λ (k : HeaderKind). HeaderWord k h.len h.serial h.mutator) (sym alike.0);
        names = is;
        size = alike.1;
        short = omega (arith, tested.1, h.short);
      },
      head_shows d p w h c.requires.walked c.requires.owned c.args.owners.now c.requires.owners r is alike.0 alike.1 tested.1 first,
    )

pub returns-else-is_alike-clause-else_not : goal.returns-else-is_alike-clause-else_not
returns-else-is_alike-clause-else_not c =
    let d = dump_told c.args.heap.now in
    let p = c.args.plain.now in
    let w = walked c.args.found in
    let h = c.args.header.now in
    let r = c.in_ok-wanted.wanted.now in
    let is : plain.record_of p.heap (record { mutator = h.mutator; serial = h.serial }) ≡ Some r =
    sym (sym (ap option_copied c.in_ok-wanted.was) ∙ (c.record.ensures ∙ ap (plain.record_of p.heap) c.identity_of.ensures)) in
    λ shows.
    let head = head_is d p w h c.requires.walked c.requires.owned c.args.owners.now c.requires.owners r is shows in
    let value : c.if-eq.value ≡ true =
    elim c.if-eq.branch [
      | then-eq v ↦ v.value-is ∙ v.has_size.ensures.1 head.1
      | else-eq v ↦
          absurd (let q : true ≡ false =
          sym (kinds_same c.header_kind.result h.kind (c.header_kind.ensures ∙ (ap header_kind c.kind.ensures ∙ head.0))) ∙ (sym c.eq.ensures ∙ v.if-eq.false) in cc)
    ] in
    let alike : c.if-has_size.is_alike ≡ true =
    elim c.if-has_size.branch [
      | then-has_size v ↦ v.is_alike-is ∙ eq-eqb c.args.found.size (v.from.result + 1) (omega (arith, head.2, v.from.ensures))
      | else-has_size v ↦ v.is_alike-is ∙ value
    ] in
    elim c.else-is_alike.branch [
      | else-is_alike-via-then-is_alike+else-is_first v ↦
          (let first : c.match-first.is_first ≡ true =
          elim c.match-first.branch [
            | in-Some x ↦
                x.is_first-is
                ∙ le-leb c.args.found.at x.in-Some.first
                (first_is d p w h c.requires.walked c.requires.owned c.args.owners.now c.requires.owners x.in-Some.first (sym c.first.ensures ∙ x.in-Some.is) shows)
            | in-None x ↦ x.is_first-is
          ] in
          let q : true ≡ false = sym first ∙ v.if-is_first.false in
          cc)
      | else-is_alike-via-else-is_alike v ↦ (let q : true ≡ false = sym alike ∙ v.if-is_alike.false in cc)
    ]
