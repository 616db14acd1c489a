use Rattle.std.proofs.Common.{◌≡◌, ◌∙◌, Bool, List, false, get_or, length, sym, ap, subst, arith}
use Rattle.std.specs.Prelude.{IsTrue, ◌↔◌, nat_lt}
use Rattle.std.proofs.lemmas.Bool.{le-ltb}
use Rattle.heap_state.specs.Meaning.Represents.{LeadsToRecord}
use Rattle.heap_audit.specs.Told.{dump_told}
use Rattle.heap_audit.proofs.WalkedSpaces.Begins.{leads_by, past_is}
use Rattle.heap_audit.proofs.walks.Walks.leads.Goals as goal

pub returns-then-address-begins : goal.returns-then-address-begins
returns-then-address-begins c =
    let same = ap (λ (xs : List Bool). get_or xs c.in-Some.address false) c.as_slice-begins.ensures.value in
    subst (λ (b : Bool). IsTrue b ↔ LeadsToRecord (dump_told c.args.heap.now) c.args.word) (sym same)
    (leads_by (dump_told c.args.heap.now) c.args.word c.in-Some.address (get_or c.args.self.now.begins.items c.in-Some.address false) (sym c.as_pointer.ensures.decoded ∙ c.in-Some.is) (c.requires.begins c.in-Some.address))

pub returns-else-address-begins : goal.returns-else-address-begins
returns-else-address-begins c =
    let begins = c.args.self.now.begins.items in
    let none : get_or begins c.in-Some.address false ≡ false = past_is begins c.in-Some.address (omega (arith, c.if-address-begins.false, ap length c.as_slice-begins.ensures.value)) in
    let test : nat_lt c.in-Some.address (length c.as_slice-begins.result.now) ≡ false = le-ltb c.in-Some.address (length c.as_slice-begins.result.now) (omega (arith, c.if-address-begins.false)) in
    subst (λ (b : Bool). IsTrue b ↔ LeadsToRecord (dump_told c.args.heap.now) c.args.word) (none ∙ sym test)
    (leads_by (dump_told c.args.heap.now) c.args.word c.in-Some.address (get_or begins c.in-Some.address false) (sym c.as_pointer.ensures.decoded ∙ c.in-Some.is) (c.requires.begins c.in-Some.address))
