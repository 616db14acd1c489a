use Rattle.std.proofs.Common.{◌≡◌, ℕ, ◌==◌, ap, sym, ◌∙◌, eq-eqb}
use Rattle.std.specs.Prelude.{IsTrue}
use Rattle.std.proofs.lemmas.Bool.{eqb-true}
use Rattle.plain_state.specs.declared.value.Value.{Value}
use Rattle.plain_state.specs.declared.value.Value.TheVariants.{Number, Reference}
use Rattle.concordance.proofs.Shown.{number_read, pointer_read}
use Rattle.concordance.proofs.clerk.Clerk.holds.Goals as goal

-- two numbers are one value exactly if they are equal
told_by : (v : Value) (n m : ℕ) → v ≡ Number n → (IsTrue (n == m) → v ≡ Number m) × (v ≡ Number m → IsTrue (n == m))
told_by v n m is = ((λ same. is ∙ ap Number (eqb-true n m same)), (λ holds. let both : Number n ≡ Number m = sym is ∙ holds in let same : n ≡ m = cc in eq-eqb n m same))

pub returns-in-Number : goal.returns-in-Number
returns-in-Number c =
    let read = c.in-Number.ensures in
    told_by _ c.in-Number.n c.args.number
    (number_read c.self.inside.mutator c.args.self.now c.self.view_is c.requires.lone read.shows read.there c.args.register c.in-Number.n c.requires.register read.reg)

pub returns-in-Pointer : goal.returns-in-Pointer
returns-in-Pointer c =
    let read = c.in-Pointer.ensures in
    let leads = pointer_read c.self.inside.mutator c.args.self.now c.self.view_is c.requires.lone read.shows read.there c.args.register c.in-Pointer.field-0 c.requires.register read.reg in
    ((λ no. absurd (cc)), (λ holds. let both : Reference leads.0 ≡ Number c.args.number = sym leads.1 ∙ holds in absurd (cc)))
