use Rattle.std.proofs.Common.{◌≡◌, ◌≢◌, ◌∙◌, ◌+◌, ℕ, Option, Some, None, get_or, map, refl, sym, ap, subst, ⊎_elim, take}
use Rattle.std.specs.Prelude.{nat_eq, option_map}
use Rattle.std.specs.HashMap.{get}
use Rattle.std.proofs.lemmas.Bool.{cases_eq, ne_eqb}
use Rattle.heap_words.specs.Decoded.{decode}
use Rattle.plain_state.specs.declared.value.Identity.{Identity}
use Rattle.record_layout.specs.Layout.{header_in}
use Rattle.heap_state.specs.Meaning.Denotes.{named_by, own_header_in}
use Rattle.heap_state.specs.Meaning.Represents.{own_header}
use Rattle.heap_state.proofs.Puts.{some_same}
use Rattle.heap_audit.specs.Firsts.{TellsFirst, least}
use Rattle.heap_audit.specs.Records.{NoneOwned, key_of}
use Rattle.heap_audit.specs.Told.{dump_told}
use Rattle.heap_audit.specs.Walks.{walked}
use Rattle.heap_audit.specs.declared.walks.RecordAt.{RecordAt}
use Rattle.heap_audit.proofs.ShownRecords.OwnHeaders.{identity_by, named_own}
use Rattle.heap_audit.proofs.ShownRecords.OwnedFirst.{one_owned, other_owned, owned_all, same_identity}
use Rattle.heap_audit.proofs.records.owners.Owners.of.Goals as goal
use Rattle.heap_audit.proofs.records.owners.Owners.of.Goals.{in-Some+in_ok-insert, in_default}

pub loop-found-preserved : goal.loop-found-preserved
loop-found-preserved c =
    let d = dump_told c.args.heap.now in
    let rs = c.args.records.now in
    let x = c.loop-found.found-index in
    let z : RecordAt = record { at = 0; size = 0 } in
    let r : RecordAt = get_or rs x z in
    let named : named_by (own_header d r.at) ≡ option_map identity_by c.own_header.result =
    named_own d.kept (d.table.heap r.at) ∙ ap (option_map identity_by) (ap (λ w. header_in (own_header_in d.kept (decode w))) (sym c.word.ensures) ∙ sym c.own_header.ensures) in
    λ i short. elim c.match-own_header.branch [
      | in-Some+in_ok-insert w ↦
          (let h = w.in-Some.header in
          let is : named_by (own_header d r.at) ≡ Some (identity_by h) = named ∙ ap (option_map identity_by) w.in-Some.is in
          let new = w.insert.new.self in
          let old = c.loop-found.first in
          let k : w.key-key.result ≡ key_of (identity_by h) = w.key-key.ensures in
          let there : TellsFirst (NoneOwned d (map walked (take (x + 1) rs)) i) (get nat_eq new (key_of i)) =
          ⊎_elim
          (λ (e : key_of i ≡ key_of (identity_by h)).
          let same : i ≡ identity_by h = same_identity i (identity_by h) short h.counted e in
          let at : w.key-key.result ≡ key_of i = k ∙ sym e in
          let put : get nat_eq new w.key-key.result ≡ Some w.nearer.result = w.in_ok-insert.ensures.updates.1 in
          let was : w.copied-before.result ≡ get nat_eq old w.key-key.result = w.copied-before.ensures ∙ w.get.ensures.value in
          let got : get nat_eq new (key_of i) ≡ least (get nat_eq old (key_of i)) (Some r.at) =
          ap (get nat_eq new) (sym at) ∙ (put ∙ (w.nearer.ensures ∙ (ap (λ (o : Option ℕ). least o (Some r.at)) was ∙ ap (λ (q : ℕ). least (get nat_eq old q) (Some r.at)) at))) in
          subst (TellsFirst (NoneOwned d (map walked (take (x + 1) rs)) i)) (sym got)
          (one_owned d rs x z r c.loop-found-test.true refl i (get nat_eq old (key_of i)) (is ∙ ap (λ (q : Identity). Some q) (sym same)) (c.loop-found.invariant i short)))
          (λ (n : key_of i ≢ key_of (identity_by h)).
          let kept : get nat_eq new (key_of i) ≡ get nat_eq old (key_of i) = w.in_ok-insert.ensures.updates.2 (key_of i) (ne_eqb w.key-key.result (key_of i) (λ e. n (sym e ∙ k))) in
          subst (TellsFirst (NoneOwned d (map walked (take (x + 1) rs)) i)) (sym kept)
          (other_owned d rs x z r c.loop-found-test.true refl i (get nat_eq old (key_of i)) (λ it. n (ap key_of (some_same (sym it ∙ is)))) (c.loop-found.invariant i short)))
          (cases_eq (key_of i) (key_of (identity_by h))) in
          subst (λ m. TellsFirst (NoneOwned d (map walked (take (x + 1) rs)) i) (get nat_eq m (key_of i))) (sym w.first-is) there)
      | in_default w ↦
          (let is : named_by (own_header d r.at) ≡ None = named ∙ ap (option_map identity_by) w.in_default.is in
          let there : TellsFirst (NoneOwned d (map walked (take (x + 1) rs)) i) (get nat_eq c.loop-found.first (key_of i)) =
          other_owned d rs x z r c.loop-found-test.true refl i (get nat_eq c.loop-found.first (key_of i)) (λ it. let q : None ≡ Some i = sym is ∙ it in cc) (c.loop-found.invariant i short) in
          subst (λ m. TellsFirst (NoneOwned d (map walked (take (x + 1) rs)) i) (get nat_eq m (key_of i))) (sym w.first-is) there)
    ]

pub returns : goal.returns
returns c = λ i short. owned_all (dump_told c.args.heap.now) c.args.records.now c.loop-found.found-index i _ c.loop-found-test.false (c.loop-found.invariant i short)
