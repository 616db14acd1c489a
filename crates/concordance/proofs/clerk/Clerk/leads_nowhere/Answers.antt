use Rattle.std.proofs.Common.{◌≡◌, ℕ, ◌∙◌, ap, eq-eqb, sym}
use Rattle.std.proofs.lemmas.Bool.{false≢true}
use borrow.Author.Tests.{eqb-true}
use Rattle.plain_state.specs.declared.value.Value.TheVariants.{Number}
use Rattle.concordance.proofs.Gathered.Reads.{no_pointer, number_seen}
use Rattle.concordance.proofs.clerk.Clerk.leads_nowhere.Goals as goal

same_number : (n k : ℕ) → Number n ≡ Number k → n ≡ k
same_number n k e = cc

pub returns-in-Number : goal.returns-in-Number
returns-in-Number c =
    let n = c.in-Number.n in
    let seen = number_seen c.self.inside.mutator c.reg.ensures.shows c.reg.ensures.there c.args.register n c.requires c.in-Number.ensures.reg in
    rw (← c.self.view_is) (λ h. seen ∙ ap Number (eqb-true n 0 h), λ h. eq-eqb n 0 (same_number n 0 (sym seen ∙ h)))

pub returns-in-Pointer : goal.returns-in-Pointer
returns-in-Pointer c =
    let s = c.self.inside.mutator in
    rw (← c.self.view_is) (λ h. absurd (false≢true h), λ h. absurd (no_pointer s c.reg.ensures.shows c.reg.ensures.there c.args.register c.in-Pointer.field-0 0 c.requires c.in-Pointer.ensures.reg h))
