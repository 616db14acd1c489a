use Rattle.std.proofs.Common.{◌%◌, ℕ, ap, add-one}
use Rattle.std.specs.Fn.{iterate}
use Rattle.rand_xoshiro.specs.SplitMix64.{mix_u64, next_state}
use Rattle.ael_jobs.proofs.runs.scheduler.draws.Draws.next.Goals as goal

pub returns-clause-names : goal.returns-clause-names
returns-clause-names c = rw (← c.self.view_is, c.from.ensures) (ap (λ (p : ℕ × ℕ). p.0 % c.self.inside.workers) c.next_word.ensures)

pub returns-clause-later : goal.returns-clause-later
returns-clause-later c = λ at.
    let stepped = ap (λ (p : ℕ × ℕ). p.1) c.next_word.ensures in
    rw (← c.self.view_is, add-one) (ap (λ (s : ℕ). (mix_u64 (iterate next_state at s)).0 % c.self.inside.workers) stepped)
