use Rattle.std.proofs.Common.{◌≡◌, ℕ, suc, ◌+◌, ◌∙◌, ap, arith}
use Rattle.ael_threads.specs.Seats.{new_callers, new_seated}
use Rattle.ael_threads.proofs.Taken.{last_taken}
use Rattle.ael_threads.proofs.opening.Seats.take_mutator.Goals as goal

pub returns-clause-new : goal.returns-clause-new
returns-clause-new c t plan from n is =
    let one : n + 1 ≡ suc n = omega arith in
    last_taken (new_callers t plan from n) (new_seated t plan (from + n)) c.args.self.now.mutators.items c.pop.new.self.items c.pop.result
    (is ∙ ap (λ (k : ℕ). new_callers t plan from k) one) c.pop.ensures.items (λ l. c.pop.ensures.variant.1 (omega (arith, l, c.args.self.now.mutators.ok.0)))
