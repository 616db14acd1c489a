use Rattle.std.proofs.Common.{◌≡◌, ℕ, suc, ◌+◌, ◌∙◌, ap, arith}
use Rattle.ael_threads.specs.Opened.{new_scanner, new_scanners}
use Rattle.ael_threads.proofs.Taken.{last_taken}
use Rattle.ael_threads.proofs.opening.Seats.take_scanner.Goals as goal

pub returns-clause-new : goal.returns-clause-new
returns-clause-new c t plan from n is =
    let one : n + 1 ≡ suc n = omega arith in
    last_taken (new_scanners t plan from n) (new_scanner t plan (from + n)) c.args.self.now.scanners.items c.pop.new.self.items c.pop.result
    (is ∙ ap (λ (k : ℕ). new_scanners t plan from k) one) c.pop.ensures.items (λ l. c.pop.ensures.variant.1 (omega (arith, l, c.args.self.now.scanners.ok.0)))
